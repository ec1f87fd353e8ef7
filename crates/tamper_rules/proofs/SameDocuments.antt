-- Sound images with the same commit cells hold the same documents.
use Rattle.std.proofs.Common.{◌≡◌, ◌<◌, ◌≤◌, ◌+◌, ◌*◌, ◌⊎◌, ⊎_elim, inl, inr, ℕ, suc, zero, List, Some, None, refl, sym, ◌∙◌, subst, ap, arith, length, slice_index, take, drop}
use Rattle.std.proofs.lemmas.Option.{none-some}
use Rattle.cell_types.specs.Image.{Image, Extends}
use Rattle.cell_types.specs.Layout.{Layout, reserve_at, outcome_at, done_at, spare_at, lists_at}
use Rattle.cell_types.specs.Records.{IsRecordCell, record_bytes}
use Rattle.cell_types.specs.declared.record_cell.RecordCell.{RecordCell}
use Rattle.cell_types.specs.declared.record_cell.RecordCell.TheVariants.{Volume, Reserve, Commit, Abandon, Done, Posting, Jump, Bucket, Child, Stamp}
use Rattle.volume_meaning.specs.Documents.{Document, IsDocument, AreDocuments, Stands, stored_bytes, content_at}
use Rattle.tamper_rules.specs.Settling.{IsSettled, AbandonRow, JournalRow, DoneRow, After, nothing, abandoned, completed, Sound, Held, none, of_after}
use Rattle.volume_meaning.specs.Slots.{IsDone, IsDoneSlot, IsHorizon}
use Rattle.volume_meaning.specs.Volumes.{Holds, IsWritten, IsVolume}
use Rattle.tamper_rules.proofs.Between.{after_keeps, commit_stood, commit_done, one_commit}
use Rattle.tamper_rules.proofs.DocumentLists.{done_stands}
use Rattle.volume_meaning.proofs.Extending.{holds_on, volume_on, blank_before}
use Rattle.volume_meaning.proofs.Holding.{some_is}
use Rattle.tamper_rules.proofs.GivenUp.{one_layout, stands_inside}
use Rattle.tamper_rules.proofs.Images.{look, same_image}
use Rattle.tamper_rules.proofs.OneAfter.{one_after}
use Rattle.volume_meaning.proofs.OneDocument.{one_document}
use Rattle.tamper_rules.proofs.Settled.{written, taken_below, some_horizon}
use Rattle.tamper_rules.proofs.SettlingGoesOn.{target_behind_log}

kind_low : (r : RecordCell) (at : ℕ) → slice_index (record_bytes r at) 0 ≤ 10
kind_low (Volume version slots lists cells) at = omega arith
kind_low (Reserve start size) at = omega arith
kind_low (Commit bytes journal) at = omega arith
kind_low Abandon at = omega arith
kind_low (Done slot) at = omega arith
kind_low (Posting key last tag) at = omega arith
kind_low (Jump target) at = omega arith
kind_low (Bucket slot fingerprint) at = omega arith
kind_low (Child target) at = omega arith
kind_low (Stamp seconds) at = omega arith

-- a record is no content cell
no_content : {r : RecordCell} {at : ℕ} {value : List ℕ} (stored : List ℕ) (k : ℕ) → IsRecordCell r at value
    → value ≡ content_at stored k → ⊥
no_content {r} {at} {value} stored k is same =
    let low : slice_index (record_bytes r at) 0 ≤ 10 = kind_low r at in
    let kind : slice_index (record_bytes r at) 0 ≡ 16 + length (take 15 (drop (15 * k) stored)) =
    ap (λ (v : List ℕ). slice_index v 0) (sym is.same ∙ same) in
    omega (arith, low, kind)

-- a content cell stood before settling
content_stood : {cells : ℕ} {image after : Image} → After cells image after
    → (cell : ℕ) (stored : List ℕ) (k : ℕ) → after cell ≡ Some (content_at stored k)
    → image cell ≡ Some (content_at stored k)
content_stood (nothing s same) cell stored k is = sym (same cell) ∙ is
content_stood (abandoned g n start reserved v h r w) cell stored k is = ⊎_elim (λ was. was)
    (λ (row : AbandonRow n cell (content_at stored k)). absurd (no_content stored k row.is refl))
    (w.only cell (content_at stored k) is)
content_stood {cells} {image} (completed g n start reserved bytes journal v h c ready w) cell stored k is =
    ⊎_elim (λ was. was)
    (λ rows. absurd (⊎_elim
    (λ (row : JournalRow image start reserved journal cell (content_at stored k)).
    let e = row.copies in no_content stored k e.is (some_is e.entry (content_at stored k) (sym e.stands ∙ row.stands)))
    (λ (row : DoneRow n cell (content_at stored k)). no_content stored k row.is refl) rows))
    (w.only cell (content_at stored k) is)

-- so did a cell of the log that is no outcome cell and no done cell
log_stood : {cells : ℕ} {image after : Image} → After cells image after → (cell : ℕ) (value : List ℕ) (g : Layout)
    → cell < lists_at g → ((n : ℕ) → cell ≡ outcome_at n → ⊥) → ((n : ℕ) → cell ≡ done_at n → ⊥)
    → IsVolume cells image g
    → after cell ≡ Some value → image cell ≡ Some value
log_stood (nothing s same) cell value g low no_outcome no_done v is = sym (same cell) ∙ is
log_stood (abandoned k n start reserved v h r w) cell value g low no_outcome no_done vol is = ⊎_elim (λ was. was)
    (λ (row : AbandonRow n cell value). absurd (no_outcome n row.at))
    (w.only cell value is)
log_stood {cells} {image} (completed k n start reserved bytes journal v h c ready w) cell value g low no_outcome
    no_done vol is =
    ⊎_elim (λ was. was)
    (λ rows. absurd (⊎_elim
    (λ (row : JournalRow image start reserved journal cell value).
    let same : k ≡ g = one_layout k g v vol in
    let far : lists_at k ≤ cell = target_behind_log ready.in_order row.copies in
    let near : cell < lists_at k = subst (λ (j : Layout). cell < lists_at j) (sym same) low in
    omega (arith, far, near))
    (λ (row : DoneRow n cell value). no_done n row.at) rows))
    (w.only cell value is)

-- as a reserve cell
pub reserve_stood : {cells : ℕ} {image after : Image} → After cells image after
    → (m : ℕ) (value : List ℕ) (g : Layout) → m < g.slots → IsVolume cells image g
    → after (reserve_at m) ≡ Some value → image (reserve_at m) ≡ Some value
reserve_stood x m value g inside v =
    log_stood x (reserve_at m) value g (omega (arith, inside)) (λ n at. omega (arith, at)) (λ n at. omega (arith, at)) v

-- and a spare cell, with a stamp
pub spare_stood : {cells : ℕ} {image after : Image} → After cells image after
    → (m : ℕ) (value : List ℕ) (g : Layout) → m < g.slots → IsVolume cells image g
    → after (spare_at m) ≡ Some value → image (spare_at m) ≡ Some value
spare_stood x m value g inside v =
    log_stood x (spare_at m) value g (omega (arith, inside)) (λ n at. omega (arith, at)) (λ n at. omega (arith, at)) v

module _ {g : Layout} {lower upper a b : Image} (v : IsVolume g.cells lower g) (e : Extends lower upper)
    (x : After g.cells lower a) (y : After g.cells upper b) (sb : IsSettled g b) where
  vu : IsVolume g.cells upper g
  vu = volume_on e v

  va : IsVolume g.cells a g
  va = volume_on (after_keeps x) v

  vb : IsVolume g.cells b g
  vb = volume_on (after_keeps y) vu

  up : {cell : ℕ} {r : RecordCell} → Holds lower cell r → Holds b cell r
  up h = holds_on (after_keeps y) (holds_on e h)

  stands_up : {m : ℕ} {id body : List ℕ} → Stands g.cells a m id body → Stands g.cells b m id body
  stands_up {m} {id} {body} t =
      let layout : t.layout ≡ g = one_layout t.layout g t.volume va in
      let d : IsDone g a m t.start t.reserved (length (stored_bytes id body)) t.journal =
      subst (λ (h : Layout). IsDone h a m t.start t.reserved (length (stored_bytes id body)) t.journal) layout t.done in
      let r = d.commits.reserves in
      let outcome : Holds b (outcome_at m) (Commit (length (stored_bytes id body)) t.journal) =
      up (commit_stood x m (length (stored_bytes id body)) t.journal g r.slot v d.commits.outcome) in
      let reserve = up (record {
        cell = r.reserve.cell;
        stands = reserve_stood x m r.reserve.cell g r.slot v r.reserve.stands;
        is = r.reserve.is;
      }) in
      let done : IsDoneSlot g b m = commit_done g b sb m (length (stored_bytes id body)) t.journal r.slot outcome in
      record {
        layout = g;
        start = t.start;
        reserved = t.reserved;
        journal = t.journal;
        volume = vb;
        slot = r.slot;
        done = record {
          commits = record {
            reserves = record { slot = r.slot; reserve = reserve; from = r.from; to = r.to };
            outcome = outcome;
            fits = d.commits.fits;
            stamped = done.done.commits.stamped;
          };
          done = done.done.done;
        };
        spells = λ k below. (after_keeps y).keeps _ _ (e.keeps _ _
            (content_stood x _ (stored_bytes id body) k (t.spells k below)));
        is_identifier = t.is_identifier;
        is_body = t.is_body;
      }

  -- what settling makes of an image has each document of what it makes of an earlier one
  pub document_up : (d : Document) → IsDocument g.cells a d.slot d.id d.body → IsDocument g.cells b d.slot d.id d.body
  document_up d t = let z = stands_up t.stands in
      record { stands = z; taken = taken_below g b sb d.slot (stands_inside vb z) (written z.done.commits.reserves) }

module _ {g : Layout} {lower upper a b : Image} (v : IsVolume g.cells lower g) (e : Extends lower upper)
    (x : After g.cells lower a) (y : After g.cells upper b) (sa : IsSettled g a) (sb : IsSettled g b) where
  early : IsVolume g.cells a g
  early = volume_on (after_keeps x) v

  late : IsVolume g.cells upper g
  late = volume_on e v

  -- what settling makes of an earlier image has the document too, where its outcome cell stood there
  pub document_down_at : (d : Document) → IsWritten lower (outcome_at d.slot) → IsDocument g.cells b d.slot d.id d.body
      → IsDocument g.cells a d.slot d.id d.body
  document_down_at d w t =
      let inside : d.slot < g.slots = stands_inside (volume_on (after_keeps y) late) t.stands in
      let c : Holds upper (outcome_at d.slot) (Commit (length (stored_bytes d.id d.body)) t.stands.journal) =
      commit_stood y d.slot (length (stored_bytes d.id d.body)) t.stands.journal g inside late
      t.stands.done.commits.outcome in
      let low : Holds a (outcome_at d.slot) (Commit (length (stored_bytes d.id d.body)) t.stands.journal) = record {
        cell = w.found;
        stands = (after_keeps x).keeps _ _ w.stands;
        is = subst (λ (k : List ℕ). IsRecordCell (Commit (length (stored_bytes d.id d.body)) t.stands.journal)
            (outcome_at d.slot) k) (some_is c.cell w.found (sym c.stands ∙ e.keeps _ _ w.stands)) c.is;
      } in
      let done : IsDoneSlot g a d.slot =
      commit_done g a sa d.slot (length (stored_bytes d.id d.body)) t.stands.journal inside low in
      let u = some_horizon g a sa in
      let z = done_stands early sa u.0 u.1 done in
      let one = one_document g.cells b d.slot z.0 z.1 d.id d.body (stands_up v e x y sb z.2) t.stands in
      let mine : Stands g.cells a d.slot d.id d.body = subst (λ (i : List ℕ). Stands g.cells a d.slot i d.body) one.0
      (subst (λ (k : List ℕ). Stands g.cells a d.slot z.0 k) one.1 z.2) in
      record { stands = mine; taken = taken_below g a sa d.slot inside (written mine.done.commits.reserves) }

module _ {g : Layout} {lower upper a b : Image} (v : IsVolume g.cells lower g) (e : Extends lower upper)
    (x : After g.cells lower a) (y : After g.cells upper b) (sa : IsSettled g a) (sb : IsSettled g b)
    (same : (m bytes journal : ℕ) → m < g.slots → Holds upper (outcome_at m) (Commit bytes journal)
    → IsWritten lower (outcome_at m)) where
  rises : (d : Document) → IsDocument g.cells a d.slot d.id d.body → IsDocument g.cells b d.slot d.id d.body
  rises = document_up v e x y sb

  document_down : (d : Document) → IsDocument g.cells b d.slot d.id d.body → IsDocument g.cells a d.slot d.id d.body
  document_down d t =
      let upper_volume : IsVolume g.cells upper g = volume_on e v in
      let inside : d.slot < g.slots = stands_inside (volume_on (after_keeps y) upper_volume) t.stands in
      let bytes = length (stored_bytes d.id d.body) in
      document_down_at v e x y sa sb d
      (same d.slot bytes t.stands.journal inside
      (commit_stood y d.slot bytes t.stands.journal g inside upper_volume t.stands.done.commits.outcome))
      t

  pub documents_up : (ds : List Document) → AreDocuments g.cells a ds → AreDocuments g.cells b ds
  documents_up ds are = record {
    rise = are.rise;
    each = λ d. (λ t. (are.each d).0 (document_down d t), λ c. rises d ((are.each d).1 c));
  }

  pub documents_down : (ds : List Document) → AreDocuments g.cells b ds → AreDocuments g.cells a ds
  documents_down ds are = record {
    rise = are.rise;
    each = λ d. (λ t. (are.each d).0 (rises d t), λ c. document_down d ((are.each d).1 c));
  }

-- the after of a sound image, settled for this layout
pub settled_for : {g : Layout} {image : Image} → IsVolume g.cells image g → (t : Sound g.cells image)
    → IsSettled g (t.after)
settled_for {g} {image} v t = subst (λ (k : Layout). IsSettled k t.after)
    (one_layout t.settled.layout g t.settled.volume (volume_on (after_keeps t.is) v)) t.settled.settled

-- a sound image has a horizon
horizon_of : {g : Layout} {image : Image} → IsVolume g.cells image g → (after : Image)
    → After g.cells image after → IsSettled g after → (u : ℕ) × IsHorizon g image image u
horizon_of {g} {image} v after (nothing s same) settled =
    some_horizon g image (subst (λ (i : Image). IsSettled g i) (same_image same) settled)
horizon_of {g} {image} v after (abandoned k n start reserved w h r x) settled =
    (n + 1, subst (λ (j : Layout). IsHorizon j image image (n + 1)) (one_layout k g w v) h.is)
horizon_of {g} {image} v after (completed k n start reserved bytes journal w h c ready x) settled =
    (n + 1, subst (λ (j : Layout). IsHorizon j image image (n + 1)) (one_layout k g w v) h.is)

-- what a sound image holds
pub held_of : {g : Layout} {image : Image} → IsVolume g.cells image g → (t : Sound g.cells image)
    → (ds : List Document) → Held g.cells image ds → AreDocuments g.cells (t.after) ds
held_of {g} {image} v t ds (none blank is) = absurd (none-some _ (sym (blank 0) ∙ v.volume.stands))
held_of {g} {image} v t ds (of_after after a are) =
    subst (λ (i : Image). AreDocuments g.cells i ds) (one_after g.cells image after t.after a t.is) are

module _ {g : Layout} {low high image : Image} (v : IsVolume g.cells low g)
    (steady : (other : Image) → Extends low other → Extends other high → Sound g.cells other) (e : Extends low image)
    (f : Extends image high) where
  all_up : Extends low high
  all_up = record { keeps = λ cell value is. f.keeps cell value (e.keeps cell value is) }

  at_low : Sound g.cells low
  at_low = steady low (record { keeps = λ cell value is. is }) all_up

  at_high : Sound g.cells high
  at_high = steady high all_up (record { keeps = λ cell value is. is })

  here : Sound g.cells image
  here = steady image e f

  vi : IsVolume g.cells image g
  vi = volume_on e v

  vh : IsVolume g.cells high g
  vh = volume_on all_up v

  low_horizon : (u : ℕ) × IsHorizon g low low u
  low_horizon = horizon_of v at_low.after at_low.is (settled_for v at_low)

  -- a commit cell that low lacks is of the slot below the horizon
  new_commit : (m bytes journal : ℕ) → m < g.slots → low (outcome_at m) ≡ None
      → Holds high (outcome_at m) (Commit bytes journal) → low_horizon.0 ≡ m + 1
  new_commit m bytes journal inside blank h =
      let one = one_commit all_up steady g v m bytes journal inside blank h in one.one low_horizon.0 low_horizon.1

  as_low : ((m bytes journal : ℕ) → m < g.slots → Holds image (outcome_at m) (Commit bytes journal)
      → IsWritten low (outcome_at m))
      → (ds : List Document) → Held g.cells low ds → Held g.cells image ds
  as_low same ds h = of_after here.after here.is (documents_up v e at_low.is here.is (settled_for v at_low)
      (settled_for vi here) same ds (held_of v at_low ds h))

  as_high : ((m bytes journal : ℕ) → m < g.slots → Holds high (outcome_at m) (Commit bytes journal)
      → IsWritten image (outcome_at m))
      → (ds : List Document) → Held g.cells high ds → Held g.cells image ds
  as_high same ds h = of_after here.after here.is (documents_down vi f here.is at_high.is (settled_for vi here)
      (settled_for vh at_high) same ds (held_of vh at_high ds h))

  by_commit : (n : ℕ) → low_horizon.0 ≡ n + 1
      → ((ds : List Document) → Held g.cells low ds → Held g.cells image ds)
      ⊎ ((ds : List Document) → Held g.cells high ds → Held g.cells image ds)
  by_commit n is = ⊎_elim
      (λ blank. inl (as_low (λ m bytes journal inside h. ⊎_elim
      (λ lacks. absurd (
      let at = new_commit m bytes journal inside lacks (holds_on f h) in
      let same : m ≡ n = omega (arith, at, is) in
      none-some _ (sym blank ∙ ap (λ (k : ℕ). image (outcome_at k)) (sym same) ∙ h.stands)))
      (λ x. record { found = x.0; stands = x.1 })
      (look low (outcome_at m)))))
      (λ z. inr (as_high (λ m bytes journal inside h. ⊎_elim
      (λ lacks.
      let at = new_commit m bytes journal inside (blank_before e lacks) h in
      let same : m ≡ n = omega (arith, at, is) in
      record { found = z.0; stands = ap (λ (k : ℕ). image (outcome_at k)) same ∙ z.1 })
      (λ x. record { found = x.0; stands = x.1 })
      (look image (outcome_at m)))))
      (look image (outcome_at n))

  no_commit : low_horizon.0 ≡ 0 → ((ds : List Document) → Held g.cells low ds → Held g.cells image ds)
      ⊎ ((ds : List Document) → Held g.cells high ds → Held g.cells image ds)
  no_commit is = inl (as_low (λ m bytes journal inside h. ⊎_elim
      (λ lacks. absurd (let at = new_commit m bytes journal inside lacks (holds_on f h) in omega (arith, at, is)))
      (λ x. record { found = x.0; stands = x.1 })
      (look low (outcome_at m))))

  pub holds_two : ((ds : List Document) → Held g.cells low ds → Held g.cells image ds)
      ⊎ ((ds : List Document) → Held g.cells high ds → Held g.cells image ds)
  holds_two = by low_horizon.0 refl
    where
      by : (u : ℕ) → low_horizon.0 ≡ u → ((ds : List Document) → Held g.cells low ds → Held g.cells image ds)
          ⊎ ((ds : List Document) → Held g.cells high ds → Held g.cells image ds)
      by zero is = no_commit is
      by (suc n) is = by_commit n (omega (arith, is))
