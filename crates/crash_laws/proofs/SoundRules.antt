-- The rules that no sound image breaks.
use Rattle.std.proofs.Common.{◌≡◌, ◌<◌, ◌≤◌, ◌+◌, ◌*◌, ◌^◌, ◌⊎◌, ℕ, List, Some, None, refl, sym, ap, ◌∙◌, inl, inr, ⊎_elim, subst, arith, length, slice_index, take, drop}
use Rattle.std.proofs.lemmas.Option.{none-some}
use Rattle.cell_types.specs.Image.{Image, Extends}
use Rattle.cell_types.specs.Layout.{Layout, TakesStamps, spare_at, reserve_at, outcome_at, done_at, lists_at}
use Rattle.cell_types.specs.Records.{IsRecordCell, record_bytes}
use Rattle.cell_types.specs.declared.record_cell.RecordCell.{RecordCell}
use Rattle.cell_types.specs.declared.record_cell.RecordCell.TheVariants.{Volume, Reserve, Commit, Abandon, Done, Posting, Jump, Bucket, Child, Stamp}
use Rattle.cell_types.proofs.OneRecord.{address_in, body_in, body_is_one, one_record}
use Rattle.volume_meaning.specs.Documents.{content_at}
use Rattle.volume_meaning.specs.Slots.{HasStamp, IsStamped, cells_for, Commits, EndsBelow, HasEnded, IsAbandonedSlot, IsDoneSlot, IsHorizon, Reserves, Stores}
use Rattle.volume_meaning.specs.Volumes.{Holds, IsVolume, IsWritten}
use Rattle.volume_meaning.proofs.Extending.{blank_before, commits_on, holds_on, volume_on, written_on}
use Rattle.volume_meaning.proofs.Holding.{some_is}
use Rattle.tamper_rules.specs.Journals.{CopiesIndexCell, IsInOrder, IsIndexCell, IsIndexRecord, journal_at, of_list, of_root, of_slot}
use Rattle.tamper_rules.specs.Rules
use Rattle.tamper_rules.specs.Rules.{DocumentRule, DoneRule, IsBroken, IsMet, JournalRule, OutcomeRule, RedoneRule, ReserveRule, Rule, number_of}
use Rattle.tamper_rules.specs.Settling.{AbandonRow, After, DoneRow, IsSettled, JournalRow, Settled, Sound, abandoned, completed, nothing}
use Rattle.tamper_rules.specs.declared.numbers.TheConstants.{BROKEN_DOCUMENT, BROKEN_JOURNAL, DONE_CELL, OTHER_TARGET, OUTCOME_CELL, RESERVE_CELL}
use Rattle.tamper_rules.proofs.Between.{after_keeps}
use Rattle.tamper_rules.proofs.GivenUp.{no_abandon, one_layout}
use Rattle.tamper_rules.proofs.GoingOn.{copies_on}
use Rattle.tamper_rules.proofs.Images.{look}
use Rattle.tamper_rules.proofs.SettledLaws.{unbroken}
use Rattle.tamper_rules.proofs.SettlingGoesOn.{target_behind_log}
use Rattle.recovery_engine.specs.Entries.{target_of}
use Rattle.recovery_engine.specs.LastSlot.{IsSlotRule}
use Rattle.recovery_engine.specs.Settling.{HasOtherTarget}
use Rattle.crash_laws.specs.SettlingSteadiness.{IsSoundRule}

-- a cell that settling adds where slot n is the last: its abandon cell, its done cell, or a copy behind the log
pub data IsAdded (g : Layout) (n cell : ℕ) (value : List ℕ) : Type 0 where
  as_abandon : cell ≡ outcome_at n → IsRecordCell Abandon (outcome_at n) value → IsAdded g n cell value
  as_done : cell ≡ done_at n → IsRecordCell (Done n) (done_at n) value → IsAdded g n cell value
  as_copy : (r : RecordCell) → IsIndexRecord r → cell < 2 ^ 32 → lists_at g ≤ cell → IsRecordCell r cell value
      → IsAdded g n cell value

kind_is_low : (r : RecordCell) (at : ℕ) → slice_index (record_bytes r at) 0 ≤ 10
kind_is_low (Volume version slots lists cells) at = omega arith
kind_is_low (Reserve start size) at = omega arith
kind_is_low (Commit bytes journal) at = omega arith
kind_is_low Abandon at = omega arith
kind_is_low (Done slot) at = omega arith
kind_is_low (Posting key last tag) at = omega arith
kind_is_low (Jump target) at = omega arith
kind_is_low (Bucket slot fingerprint) at = omega arith
kind_is_low (Child target) at = omega arith
kind_is_low (Stamp seconds) at = omega arith

-- no record's cell is a content cell
no_content : {r : RecordCell} {at : ℕ} {value : List ℕ} (stored : List ℕ) (k : ℕ) → IsRecordCell r at value
    → value ≡ content_at stored k → ⊥
no_content {r} {at} {value} stored k is same =
    let low : slice_index (record_bytes r at) 0 ≤ 10 = kind_is_low r at in
    let kind : slice_index (record_bytes r at) 0 ≡ 16 + length (take 15 (drop (15 * k) stored)) =
    ap (λ (v : List ℕ). slice_index v 0) (sym is.same ∙ same) in
    omega (arith, low, kind)

-- a cell is of one kind, whatever its address is
one_kind : {r s : RecordCell} {a b : ℕ} {value : List ℕ} → IsRecordCell r a value → IsRecordCell s b value → r ≡ s
one_kind {r} {s} {a} {b} {value} x y =
    body_is_one r s x.fits y.fits (body_in r a value x ∙ sym (body_in s b value y))

module _ {g : Layout} {image after : Image} (e : Extends image after) (s : IsSettled g after) where
  -- where a cell is written, it holds what it holds behind settling
  back : {cell : ℕ} {r : RecordCell} → IsWritten image cell → Holds after cell r → Holds image cell r
  back {cell} w h =
      let same : w.found ≡ h.cell = some_is w.found h.cell (sym (e.keeps cell w.found w.stands) ∙ h.stands) in
      record { cell = h.cell; stands = w.stands ∙ ap Some same; is = h.is }

  -- a slot that is committed or done is so behind settling
  stores_up : {m start reserved bytes journal : ℕ} → Stores g image m start reserved bytes journal
      → Stores g after m start reserved bytes journal
  stores_up {m} t = record {
    commits = commits_on e t.commits;
    done = ⊎_elim inl
        (λ (w : (v : List ℕ) × (after (done_at m) ≡ Some v)).
        let rule : DoneRule after m = s.met Rules.DoneCells (done_at m) (record { found = w.0; stands = w.1 }) m
        t.commits.reserves.slot refl in
        inr rule.done)
        (look after (done_at m));
  }

  -- a target that is written holds what its journal cell holds
  module _ (cell : ℕ) (other : HasOtherTarget image cell) where
    here : IsWritten after cell
    here = record { found = other.value; stands = e.keeps cell other.value other.stands }

    rule : RedoneRule g after cell
    rule = s.met Rules.Targets cell here

    module _ (start reserved journal place target : ℕ) (copied : RecordCell)
        (c : CopiesIndexCell image start reserved journal place target copied)
        (at : cell ≡ journal_at start reserved journal + place) where
      entry_is : c.entry ≡ other.value
      entry_is = some_is c.entry other.value (sym c.stands ∙ ap image (sym at) ∙ other.stands)

      target_is : target_of other.value ≡ target
      target_is = ap target_of (sym entry_is) ∙ address_in copied target c.entry c.address c.is

      there : after target ≡ Some other.found
      there = e.keeps target other.found (ap image (sym target_is) ∙ other.there)

      not_same : after target ≡ after cell → ⊥
      not_same same = other.differs (some_is other.found other.value
          (sym there ∙ same ∙ e.keeps cell other.value other.stands))

      not_stored : (m bytes : ℕ) → Stores g after m start reserved bytes journal → ⊥
      not_stored m bytes t = ⊎_elim
          (λ (none : after (done_at m) ≡ None). ⊎_elim
          (λ (blank : after target ≡ None). none-some other.found (sym blank ∙ there))
          not_same
          (rule.committed m start reserved bytes journal place target copied
          (record { commits = t.commits; done = none }) (copies_on e c) at))
          (λ (done : Holds after (done_at m) (Done m)). not_same
          (rule.done m start reserved bytes journal place target copied (record { commits = t.commits; done = done })
          (copies_on e c) at))
          t.done

    pub targets_met : RedoneRule g image cell
    targets_met = record {
      done = λ m start reserved bytes journal place target copied d c at. absurd
          (not_stored start reserved journal place target copied c at m bytes
          (stores_up (record { commits = d.commits; done = inr d.done })));
      committed = λ m start reserved bytes journal place target copied d c at. absurd
          (not_stored start reserved journal place target copied c at m bytes
          (stores_up (record { commits = d.commits; done = inl d.done })));
    }

  module _ (n : ℕ) (h : IsHorizon g image image (n + 1))
      (adds : (cell : ℕ) (value : List ℕ) → after cell ≡ Some value → (image cell ≡ Some value)
      ⊎ IsAdded g n cell value) where
    -- reserve cells stood
    reserve_stood : (m : ℕ) (value : List ℕ) → m < g.slots → after (reserve_at m) ≡ Some value
        → image (reserve_at m) ≡ Some value
    reserve_stood m value inside is = ⊎_elim (λ was. was) not (adds (reserve_at m) value is)
      where
        not : IsAdded g n (reserve_at m) value → image (reserve_at m) ≡ Some value
        not (as_abandon at r) = absurd (omega (arith, at))
        not (as_done at r) = absurd (omega (arith, at))
        not (as_copy r index small far cell) = absurd (omega (arith, far, inside))

    -- and so did stamps
    stamp_stood : (m seconds : ℕ) → m < g.slots → HasStamp after m seconds → HasStamp image m seconds
    stamp_stood m seconds inside x =
        record { cell = x.cell; stands = ⊎_elim (λ was. was) not (adds (spare_at m) x.cell x.stands); is = x.is }
      where
        not : IsAdded g n (spare_at m) x.cell → image (spare_at m) ≡ Some x.cell
        not (as_abandon at r) = absurd (omega (arith, at))
        not (as_done at r) = absurd (omega (arith, at))
        not (as_copy r index small far cell) = absurd (omega (arith, far, inside))

    reserves_back : {m start reserved : ℕ} → Reserves g after m start reserved → Reserves g image m start reserved
    reserves_back {m} r = record {
      slot = r.slot;
      reserve = record {
        cell = r.reserve.cell;
        stands = reserve_stood m r.reserve.cell r.slot r.reserve.stands;
        is = r.reserve.is;
      };
      from = r.from;
      to = r.to;
    }

    ends_back : {m at : ℕ} → EndsBelow g after m at → EndsBelow g image m at
    ends_back {m} {at} b = ⊎_elim inl
        (λ (w : (k : ℕ) × (start : ℕ) × (reserved : ℕ) × (m ≡ k + 1) × Reserves g after k start reserved
        × (at ≡ start + reserved)). inr (w.0, w.1, w.2, w.3, reserves_back w.4, w.5))
        b

    -- so did outcome cells, but the abandon cell of the last slot
    outcome_stood : {r : RecordCell} (m : ℕ) → m < g.slots → (m ≡ n → r ≡ Abandon → ⊥) → Holds after (outcome_at m) r
        → Holds image (outcome_at m) r
    outcome_stood {r} m inside apart x =
        record { cell = x.cell; stands = ⊎_elim (λ was. was) not (adds (outcome_at m) x.cell x.stands); is = x.is }
      where
        not : IsAdded g n (outcome_at m) x.cell → image (outcome_at m) ≡ Some x.cell
        not (as_abandon at is) = absurd (apart (omega (arith, at)) (one_kind x.is is))
        not (as_done at is) = absurd (omega (arith, at))
        not (as_copy copied index small far is) = absurd (omega (arith, far, inside))

    commits_back : {m start reserved bytes journal : ℕ} → Commits g after m start reserved bytes journal
        → Commits g image m start reserved bytes journal
    commits_back {m} {start} {reserved} {bytes} {journal} c = record {
      reserves = reserves_back c.reserves;
      outcome = outcome_stood m c.reserves.slot (λ same is. no_abandon bytes journal is) c.outcome;
      fits = c.fits;
      stamped = λ version. let t = c.stamped version in
          record { seconds = t.seconds; stamp = stamp_stood m t.seconds c.reserves.slot t.stamp };
    }

    stores_back : {m start reserved bytes journal : ℕ} → Stores g after m start reserved bytes journal
        → Stores g image m start reserved bytes journal
    stores_back {m} t = record {
      commits = commits_back t.commits;
      done = ⊎_elim
          (λ (none : after (done_at m) ≡ None). inl (blank_before e none))
          (λ (x : Holds after (done_at m) (Done m)). ⊎_elim inl
          (λ (w : (v : List ℕ) × (image (done_at m) ≡ Some v)). inr (back (record { found = w.0; stands = w.1 }) x))
          (look image (done_at m)))
          t.done;
    }

    -- and done cells, but that of the last slot
    done_stood : (m : ℕ) → m < g.slots → (m ≡ n → ⊥) → Holds after (done_at m) (Done m) → Holds image (done_at m)
        (Done m)
    done_stood m inside apart x =
        record { cell = x.cell; stands = ⊎_elim (λ was. was) not (adds (done_at m) x.cell x.stands); is = x.is }
      where
        not : IsAdded g n (done_at m) x.cell → image (done_at m) ≡ Some x.cell
        not (as_abandon at is) = absurd (omega (arith, at))
        not (as_done at is) = absurd (apart (omega (arith, at)))
        not (as_copy copied index small far is) = absurd (omega (arith, far, inside))

    -- a slot other than the last had ended
    ended_back : (m : ℕ) → (m ≡ n → ⊥) → HasEnded g after after m → HasEnded g image image m
    ended_back m apart x = ⊎_elim
        (λ (a : IsAbandonedSlot g after after m). inl (record {
          start = a.start;
          length = a.length;
          abandoned = record {
            abandons = record {
              reserves = reserves_back a.abandoned.abandons.reserves;
              outcome = outcome_stood m a.abandoned.abandons.reserves.slot (λ same is. apart same)
                  a.abandoned.abandons.outcome;
            };
            done = blank_before e a.abandoned.done;
          };
        }))
        (λ (d : IsDoneSlot g after m). inr (record {
          start = d.start;
          length = d.length;
          bytes = d.bytes;
          journal = d.journal;
          done = record {
            commits = commits_back d.done.commits;
            done = done_stood m d.done.commits.reserves.slot apart d.done.done;
          };
        }))
        x

    -- content cells stood
    content_stood : (cell : ℕ) (stored : List ℕ) (k : ℕ) → after cell ≡ Some (content_at stored k)
        → image cell ≡ Some (content_at stored k)
    content_stood cell stored k is = ⊎_elim (λ was. was) not (adds cell (content_at stored k) is)
      where
        not : IsAdded g n cell (content_at stored k) → image cell ≡ Some (content_at stored k)
        not (as_abandon at r) = absurd (no_content stored k r refl)
        not (as_done at r) = absurd (no_content stored k r refl)
        not (as_copy copied index small far r) = absurd (no_content stored k r refl)

    -- a journal cell whose target lies before it stood: settling adds no copy of another cell
    copy_stood : {start reserved journal place target : ℕ} {copied : RecordCell}
        → target < journal_at start reserved journal → CopiesIndexCell after start reserved journal place target copied
        → CopiesIndexCell image start reserved journal place target copied
    copy_stood {start} {reserved} {journal} {place} {target} {copied} low c = record {
      below = c.below;
      entry = c.entry;
      stands = ⊎_elim (λ was. was) not (adds (journal_at start reserved journal + place) c.entry c.stands);
      index = c.index;
      address = c.address;
      is = c.is;
    }
      where
        not : IsAdded g n (journal_at start reserved journal + place) c.entry
            → image (journal_at start reserved journal + place) ≡ Some c.entry
        not (as_abandon at r) = absurd (subst IsIndexRecord (one_kind c.is r) c.index)
        not (as_done at r) = absurd (subst IsIndexRecord (one_kind c.is r) c.index)
        not (as_copy other index small far r) =
            let one = one_record copied other target (journal_at start reserved journal + place) c.entry c.address small
            c.is r in
            absurd (omega (arith, low, one.1))

    index_back : {m cell : ℕ} → IsIndexCell g after m cell → IsIndexCell g image m cell
    index_back (of_list l lies) = of_list l lies
    index_back (of_root lies) = of_root lies
    index_back (of_slot k le b) = of_slot k le (record {
      start = b.start;
      length = b.length;
      bytes = b.bytes;
      journal = b.journal;
      stores = stores_back b.stores;
      from = b.from;
      below = b.below;
    })

    in_order_back : {m start reserved bytes journal place : ℕ} → IsInOrder g after m start reserved bytes journal place
        → IsInOrder g image m start reserved bytes journal place
    in_order_back {m} {start} {reserved} {bytes} {journal} {place} o = record {
      target = o.target;
      copied = o.copied;
      copies = copy_stood (omega (arith, o.before_document)) o.copies;
      rises = ⊎_elim inl
          (λ (r : (before : ℕ) × (lower : ℕ) × (other : RecordCell) × (place ≡ before + 1)
          × CopiesIndexCell after start reserved journal before lower other × (lower < o.target)).
          inr (r.0, r.1, r.2, r.3, copy_stood (omega (arith, r.5, o.before_document)) r.4, r.5))
          o.rises;
      before_document = o.before_document;
      index = index_back o.index;
    }

    -- the rules, one by one
    reserve_rule : (m : ℕ) → m < g.slots → IsWritten image (reserve_at m) → ReserveRule g image m
    reserve_rule m inside w =
        let r : ReserveRule g after m = s.met Rules.ReserveCells (reserve_at m) (written_on e w) m inside refl in
        record {
          start = r.start;
          length = r.length;
          reserves = reserves_back r.reserves;
          begins = ends_back r.begins;
          before = λ k is. ended_back k
              (λ same.
              let next : n + 1 ≡ m = omega (arith, same, is) in
              let less : n + 1 < g.slots = omega (arith, next, inside) in
              none-some w.found
              (sym (h.free less) ∙ ap (λ (i : ℕ). image (reserve_at i)) next ∙ w.stands))
              (r.before k is);
        }

    outcome_rule : (m : ℕ) → m < g.slots → IsWritten image (outcome_at m) → OutcomeRule g image m
    outcome_rule m inside w =
        let r : OutcomeRule g after m = s.met Rules.OutcomeCells (outcome_at m) (written_on e w) m inside refl in
        record {
          reserve = record {
            found = r.reserve.found;
            stands =
                reserve_stood m r.reserve.found inside r.reserve.stands;
          };
          outcome = ⊎_elim
              (λ (a : Holds after (outcome_at m) Abandon). inl (back w a))
              (λ (c : (bytes : ℕ) × (journal : ℕ) × Holds after (outcome_at m) (Commit bytes journal)
              × ((start reserved : ℕ) → Holds after (reserve_at m) (Reserve start reserved)
              → cells_for bytes + journal ≤ reserved) × (TakesStamps g → IsStamped after m)). inr (
                c.0,
                c.1,
                back w c.2,
                λ start reserved x. c.3 start reserved (holds_on e x),
                λ version. let t = c.4 version in record {
                  seconds = t.seconds;
                  stamp = stamp_stood m t.seconds inside t.stamp;
                },
              ))
              r.outcome;
        }

    done_rule : (m : ℕ) → m < g.slots → IsWritten image (done_at m) → DoneRule image m
    done_rule m inside w =
        let r : DoneRule after m = s.met Rules.DoneCells (done_at m) (written_on e w) m inside refl in
        record {
          done = back w r.done;
          bytes = r.bytes;
          journal = r.journal;
          commit = outcome_stood m inside (λ same is. no_abandon r.bytes r.journal is) r.commit;
        }

    document_rule : (m : ℕ) → m < g.slots → IsWritten image (outcome_at m) → DocumentRule g image m
    document_rule m inside w = λ start reserved bytes journal t.
        let d = s.met Rules.Documents (outcome_at m) (written_on e w) m inside refl start reserved bytes journal
        (stores_up t) in
        record {
          id = d.id;
          body = d.body;
          count = d.count;
          spells = λ k below. content_stood _ _ k (d.spells k below);
          is_identifier = d.is_identifier;
          is_body = d.is_body;
        }

    journal_rule : (cell : ℕ) → IsWritten image cell → JournalRule g image cell
    journal_rule cell w =
        let r : JournalRule g after cell = s.met Rules.Journals cell (written_on e w) in
        record {
          copy = λ m start reserved bytes journal place t below at.
              in_order_back (r.copy m start reserved bytes journal place (stores_up t) below at);
          commit = λ m start reserved bytes journal place t below at.
              let there = r.commit m start reserved bytes journal place (stores_up t) below at in
              let q : JournalRule g after (journal_at start reserved journal + place) =
              s.met Rules.Journals (journal_at start reserved journal + place) there in
              let o = in_order_back (q.copy m start reserved bytes journal place (stores_up t) below refl) in
              record { found = o.copies.entry; stands = o.copies.stands };
        }

    at_slot : (place : ℕ → ℕ) (cell m : ℕ) → cell ≡ place m → IsWritten image cell → IsWritten image (place m)
    at_slot place cell m at w = subst (IsWritten image) at w

    other_rule : (number : ℕ) → 6 ≤ number → IsSoundRule number → ⊥
    other_rule number high rule = ⊎_elim
        (λ (a : IsSlotRule number). ⊎_elim
        (λ (b : number ≡ RESERVE_CELL). omega (arith, b, high))
        (λ (b : (number ≡ OUTCOME_CELL) ⊎ (number ≡ DONE_CELL)). ⊎_elim
        (λ (c : number ≡ OUTCOME_CELL). omega (arith, c, high))
        (λ (c : number ≡ DONE_CELL). omega (arith, c, high)) b) a)
        (λ (a : (number ≡ BROKEN_DOCUMENT) ⊎ (number ≡ BROKEN_JOURNAL)). ⊎_elim
        (λ (b : number ≡ BROKEN_DOCUMENT). omega (arith, b, high))
        (λ (b : number ≡ BROKEN_JOURNAL). omega (arith, b, high)) a)
        rule

    pub rules_met : (rule : Rule) (cell : ℕ) → IsSoundRule (number_of rule) → IsWritten image cell
        → IsMet g image rule cell
    rules_met Rules.ReserveCells cell sound w = λ m inside at. reserve_rule m inside (at_slot reserve_at cell m at w)
    rules_met Rules.OutcomeCells cell sound w = λ m inside at. outcome_rule m inside (at_slot outcome_at cell m at w)
    rules_met Rules.DoneCells cell sound w = λ m inside at. done_rule m inside (at_slot done_at cell m at w)
    rules_met Rules.Documents cell sound w = λ m inside at. document_rule m inside (at_slot outcome_at cell m at w)
    rules_met Rules.Journals cell sound w = journal_rule cell w
    rules_met Rules.Targets cell sound w = absurd (other_rule (number_of Rules.Targets) (omega arith) sound)
    rules_met Rules.StrayCells cell sound w = absurd (other_rule (number_of Rules.StrayCells) (omega arith) sound)
    rules_met Rules.Entries cell sound w = absurd (other_rule (number_of Rules.Entries) (omega arith) sound)
    rules_met Rules.Postings cell sound w = absurd (other_rule (number_of Rules.Postings) (omega arith) sound)
    rules_met Rules.Pointers cell sound w = absurd (other_rule (number_of Rules.Pointers) (omega arith) sound)
    rules_met Rules.Buckets cell sound w = absurd (other_rule (number_of Rules.Buckets) (omega arith) sound)
    rules_met Rules.Children cell sound w = absurd (other_rule (number_of Rules.Children) (omega arith) sound)
    rules_met Rules.Trails cell sound w = absurd (other_rule (number_of Rules.Trails) (omega arith) sound)
    rules_met Rules.Paths cell sound w = absurd (other_rule (number_of Rules.Paths) (omega arith) sound)
    rules_met Rules.Tilings cell sound w = absurd (other_rule (number_of Rules.Tilings) (omega arith) sound)

-- what settling makes of a sound image is settled by the image's own layout
settled_by : {cells : ℕ} {image : Image} (t : Sound cells image) (g : Layout) → IsVolume cells image g
    → IsSettled g t.after
settled_by t g v = subst (λ (k : Layout). IsSettled k t.after)
    (one_layout t.settled.layout g t.settled.volume (volume_on (after_keeps t.is) v)) t.settled.settled

-- no sound image breaks one of these rules
pub sound_unbroken : (cells : ℕ) (image : Image) (number cell : ℕ) → Sound cells image → IsSoundRule number
    → IsBroken cells image number cell → ⊥
sound_unbroken cells image number cell t rule b = by t.after t.is t.settled
  where
    mine : IsSoundRule (number_of b.rule)
    mine = subst IsSoundRule b.named rule

    by : (after : Image) → After cells image after → Settled cells after → ⊥
    by after (nothing s same) settled = unbroken cells image number cell s b
    by after (abandoned k n start reserved v one r w) settled =
        let g = b.layout in
        let here : IsHorizon g image image (n + 1) =
        subst (λ (l : Layout). IsHorizon l image image (n + 1)) (one_layout k g v b.volume) one.is in
        let s = settled_by (record { after = after; is = abandoned k n start reserved v one r w; settled = settled }) g
        b.volume in
        b.not_met (rules_met w.keeps s n here
        (λ at value is. ⊎_elim inl
        (λ (row : AbandonRow n at value). inr (as_abandon row.at row.is)) (w.only at value is))
        b.rule cell mine b.written)
    by after (completed k n start reserved bytes journal v one c ready w) settled =
        let g = b.layout in
        let same : k ≡ g = one_layout k g v b.volume in
        let here : IsHorizon g image image (n + 1) =
        subst (λ (l : Layout). IsHorizon l image image (n + 1)) same one.is in
        let s = settled_by
        (record { after = after; is = completed k n start reserved bytes journal v one c ready w; settled = settled }) g
        b.volume in
        b.not_met (rules_met w.keeps s n here
        (λ at value is. ⊎_elim inl
        (λ (rows : JournalRow image start reserved journal at value ⊎ DoneRow n at value). inr (⊎_elim
        (λ (row : JournalRow image start reserved journal at value).
        let far : lists_at k ≤ at = target_behind_log ready.in_order row.copies in
        let entry : row.copies.entry ≡ value = some_is row.copies.entry value (sym row.copies.stands ∙ row.stands) in
        as_copy row.copied row.copies.index row.copies.address
        (subst (λ (l : Layout). lists_at l ≤ at) same far)
        (subst (IsRecordCell row.copied at) entry row.copies.is))
        (λ (row : DoneRow n at value). as_done row.at row.is)
        rows))
        (w.only at value is))
        b.rule cell mine b.written)

-- nor does a target hold another value than its journal cell
pub sound_targets : (cells : ℕ) (image : Image) (cell : ℕ) → Sound cells image → IsBroken cells image OTHER_TARGET cell
    → HasOtherTarget image cell → ⊥
sound_targets cells image cell t b other = by b.rule b.named b.not_met
  where
    by : (rule : Rule) → OTHER_TARGET ≡ number_of rule → (IsMet b.layout image rule cell → ⊥) → ⊥
    by Rules.Targets named not_met =
        not_met (targets_met (after_keeps t.is) (settled_by t b.layout b.volume) cell other)
    by Rules.ReserveCells named not_met = omega (arith, named)
    by Rules.OutcomeCells named not_met = omega (arith, named)
    by Rules.DoneCells named not_met = omega (arith, named)
    by Rules.Documents named not_met = omega (arith, named)
    by Rules.Journals named not_met = omega (arith, named)
    by Rules.StrayCells named not_met = omega (arith, named)
    by Rules.Entries named not_met = omega (arith, named)
    by Rules.Postings named not_met = omega (arith, named)
    by Rules.Pointers named not_met = omega (arith, named)
    by Rules.Buckets named not_met = omega (arith, named)
    by Rules.Children named not_met = omega (arith, named)
    by Rules.Trails named not_met = omega (arith, named)
    by Rules.Paths named not_met = omega (arith, named)
    by Rules.Tilings named not_met = omega (arith, named)
