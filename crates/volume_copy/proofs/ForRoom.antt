-- An ingest of the next document of a whole source, into a settled target with the documents before it, is refused for want
-- of memory or of room alone.
use Rattle.std.proofs.Common.{◌≡◌, ◌≤◌, ◌<◌, ◌+◌, ◌∙◌, ℕ, zero, suc, List, [], ◌∷◌, Option, Some, None, Err, refl, sym, ap, subst, arith, length}
use Rattle.std.specs.Prelude.{Contains, IsTrue, slice_get}
use Rattle.cell_types.specs.Image.{Image}
use Rattle.cell_types.specs.Layout.{Layout, TakesNoStamps, done_at, spare_at}
use Rattle.cell_types.specs.declared.refusal.Refusal.{Refusal}
use Rattle.cell_types.specs.declared.refusal.Refusal.TheVariants as refusals
use Rattle.volume_meaning.specs.Documents.{AreDocuments, Document, IsDocument, Rise, Stands}
use Rattle.volume_meaning.specs.Slots.{IsDoneSlot, IsStampOf}
use Rattle.volume_meaning.specs.Volumes.{IsVolume}
use Rattle.volume_meaning.proofs.Extending.{volume_on}
use Rattle.volume_meaning.proofs.Stamps as stamps
use Rattle.tamper_rules.specs.Rules as rules
use Rattle.tamper_rules.specs.Rules.{BlankRule, IsTrueStamp, PathRule}
use Rattle.tamper_rules.specs.Settling.{IsSettled, Settled, Sound, nothing}
use Rattle.tamper_rules.proofs.DocumentLists.{done_stands}
use Rattle.tamper_rules.proofs.GivenUp.{one_layout}
use Rattle.tamper_rules.proofs.Settled.{some_horizon}
use Rattle.worm_device.specs.Calls.{Called}
use Rattle.worm_device.specs.Counts.{IsStill}
use Rattle.worm_device.specs.State.{DeviceState, IsDevice}
use Rattle.worm_device.proofs.Counting.{rose_or_still}
use Rattle.document_store.proofs.Holding.{held_stands}
use Rattle.recovery_engine.specs.Settling.{HasSettled}
use Rattle.recovery_engine.specs.declared.settling.Ready.{Ready}
use Rattle.plan_writer.proofs.PutFrom.{volume_2}
use Rattle.ingest_engine.specs.Ingesting.{HasLaterStamp, IngestEnds, IsIdentifierTaken, CheckStampEnds, TakesNoSuchStamp}
use Rattle.ingest_engine.specs.Stamps.{IsStampBelow}
use Rattle.ingest_engine.proofs.CrashedIngests.{ready_layout}
use Rattle.crash_laws.specs.SettlingSteadiness.{IsSteady}
use Rattle.crash_laws.proofs.LookedAt.{looked_ends}
use Rattle.crash_laws.proofs.Alarms.{none_named}
use Rattle.command_laws.proofs.WholeLogs.{no_blank_cell, no_other_cell, no_other_size}
use Rattle.volume_copy.specs.Completing.{IsForRoom}
use Rattle.volume_copy.specs.Pairs.{ArePairs, SaysSame}
use Rattle.volume_copy.specs.Refusing.{refusal_to}
use Rattle.volume_copy.specs.declared.moved.Moved.{Moved}
use Rattle.volume_copy.proofs.PairLists.{place_in}
use Rattle.volume_copy.proofs.WholeVolumes.{stands_among}

-- the document of a place lies at or past the number from which the list rises
rises_at : (from : ℕ) (ds : List Document) → Rise from ds → (k : ℕ) (d : Document) → slice_get ds k ≡ Some d → from ≤ d.slot
rises_at from [] rise k d is = absurd (no is)
  where
    no : None ≡ Some d → ⊥
    no e = cc
rises_at from (x ∷ ds) rise zero d is =
    let same : x.slot ≡ d.slot = ap (λ (y : Document). y.slot) (one is) in omega (arith, same, rise.0)
  where
    one : Some x ≡ Some d → x ≡ d
    one e = cc
rises_at from (x ∷ ds) rise (suc k) d is = omega (arith, rises_at (x.slot + 1) ds rise.1 k d is, rise.0)

-- of two places the lower has the document of the lower slot
rises_between : (from : ℕ) (ds : List Document) → Rise from ds → (j k : ℕ) → j < k → (d e : Document)
    → slice_get ds j ≡ Some d → slice_get ds k ≡ Some e → d.slot < e.slot
rises_between from ds rise j zero less d e at_j at_k = absurd (omega (arith, less))
rises_between from [] rise j (suc k) less d e at_j at_k = absurd (no at_k)
  where
    no : None ≡ Some e → ⊥
    no x = cc
rises_between from (x ∷ ds) rise zero (suc k) less d e at_j at_k =
    let same : x.slot ≡ d.slot = ap (λ (y : Document). y.slot) (one at_j) in
    omega (arith, same, rises_at (x.slot + 1) ds rise.1 k e at_k)
  where
    one : Some x ≡ Some d → x ≡ d
    one y = cc
rises_between from (x ∷ ds) rise (suc j) (suc k) less d e at_j at_k =
    rises_between (x.slot + 1) ds rise.1 j k (omega (arith, less)) d e at_j at_k

module _ (g h : Layout) (from to : Image) where
  -- the document of the source with which one of the target is a pair
  record IsPairOf (moved : List Moved) (source : List Document) (e : Document) : Type 0 where
    place : ℕ
    below : place < length moved
    d : Document
    at : slice_get source place ≡ Some d
    same : SaysSame g h from to d e

  pair_of : (target : List Document) (moved : List Moved) (source : List Document) (e : Document)
      → ArePairs g h from to target moved source → Contains target e → IsPairOf moved source e
  pair_of [] moved source e are (k, low, is) = absurd (omega (arith, low))
  pair_of (f ∷ target) [] source e are among = absurd are
  pair_of (f ∷ target) (m ∷ moved) [] e are among = absurd are
  pair_of (f ∷ target) (m ∷ moved) (d ∷ source) e are (zero, low, is) = record {
    place = 0;
    below = omega arith;
    d = d;
    at = refl;
    same = subst (λ (x : Document). SaysSame g h from to d x) is are.0;
  }
  pair_of (f ∷ target) (m ∷ moved) (d ∷ source) e are (suc k, low, is) =
      let rest = pair_of target moved source e are.3 (k, omega (arith, low), is) in
      record { place = suc rest.place; below = omega (arith, rest.below); d = rest.d; at = rest.at; same = rest.same }

-- the settled volume of this layout
settled_as : {cells : ℕ} {image : Image} {g : Layout} → IsVolume cells image g → Settled cells image → IsSettled g image
settled_as {cells} {image} {g} volume whole = subst (λ (k : Layout). IsSettled k image)
    (one_layout {cells = cells} {more = cells} whole.layout g whole.volume volume) whole.settled

on_its_cells : {cells : ℕ} {image : Image} {g : Layout} → IsVolume cells image g → IsVolume g.cells image g
on_its_cells {cells} {image} {g} volume = subst (λ (k : ℕ). IsVolume k image g) (sym volume.size) volume

-- a document of the volume has a done slot
done_of : {cells : ℕ} {image : Image} {g : Layout} → IsVolume cells image g → (d : Document)
    → Stands cells image d.slot d.id d.body → (d.slot < g.slots) × IsDoneSlot g image d.slot
done_of {cells} {image} {g} volume d stands =
    let one : stands.layout ≡ g = one_layout {cells = cells} {more = cells} stands.layout g stands.volume volume in (
      subst (λ (k : Layout). d.slot < k.slots) one stands.slot,
      subst (λ (k : Layout). IsDoneSlot k image d.slot) one (record {
        start = stands.start;
        length = stands.reserved;
        bytes = _;
        journal = stands.journal;
        done = stands.done;
      }),
    )

module _ {more : ℕ} {from : Image} {u v : DeviceState} (g h : Layout) (from_volume : IsVolume more from g)
    (to_volume : IsVolume u.cells u.image h) (one_version : h.version ≡ g.version) (whole : Settled more from)
    (source : List Document) (those : AreDocuments more from source) (settled : Settled u.cells u.image)
    (target : List Document) (these : AreDocuments u.cells u.image target) (moved : List Moved)
    (pairs : ArePairs g h from u.image target moved source) (d : Document)
    (at : slice_get source (length moved) ≡ Some d) (steady : IsSteady u) (tells : IsTrue u.tells) (device : IsDevice u)
    (device_new : IsDevice v) (called : Called u v) (alone : IsStill u.foreign_writes v.foreign_writes)
    (unfailed : IsStill u.faults v.faults) where
  abbrev sound : Sound u.cells u.image
  sound = record { after = u.image; is = nothing settled (λ cell. refl); settled = settled }

  -- once it is settled and looked at the target is as it was
  same_behind : (r : Ready) → HasSettled u v r → v.image ≡ u.image
  same_behind r has = (looked_ends u v r tells has alone device_new.sure sound).image

  layout_is : (r : Ready) → HasSettled u v r → r.volume.geometry ≡ h
  layout_is r has = (ready_layout u v r h has tells to_volume).0

  document : IsDocument more from d.slot d.id d.body
  document = (those.each d).1 (place_in source (length moved) d at)

  -- a document of the target says the same as one of a lower slot
  lower : {e : Document} (p : IsPairOf g h from u.image moved source e)
      → IsDocument more from p.d.slot p.d.id p.d.body × (p.d.slot < d.slot)
  lower p = (
    (those.each p.d).1 (place_in source p.place p.d p.at),
    rises_between 0 source those.rise p.place (length moved) p.below p.d d p.at at,
  )

  -- so none has the identifier
  not_taken : {id : List ℕ} {stamp : Option ℕ} → id ≡ d.id → (n : ℕ) → IsIdentifierTaken id stamp n u v → ⊥
  not_taken {id} id_is n taken =
      let has = taken.settled.settled in
      let held = taken.holds tells in
      let stands : Stands v.cells v.image n id held.body =
      held_stands taken.ready.volume.geometry v.cells v.image n id held.body (volume_2 taken.ready has tells) held.holds in
      let here : Stands u.cells u.image n id held.body =
      subst (λ (k : ℕ). Stands k u.image n id held.body) called.cells
      (subst (λ (i : Image). Stands v.cells i n id held.body) (same_behind taken.ready has) stands) in
      let p = pair_of g h from u.image target moved source (record { slot = n; id = id; body = held.body }) pairs
      (stands_among u.cells u.image settled target these n id held.body here) in
      let below = lower p in
      let mine : Stands g.cells from d.slot d.id d.body =
      subst (λ (k : ℕ). Stands k from d.slot d.id d.body) (sym from_volume.size) document.stands in
      let rule : PathRule g from d.slot d.id = (settled_as from_volume whole).met rules.Paths (done_at d.slot)
      (record { found = mine.done.done.cell; stands = mine.done.done.stands }) d.slot d.id d.body refl mine in
      rule.alone p.d.slot p.d.body below.1
      (subst (λ (x : List ℕ). Stands g.cells from p.d.slot x p.d.body) (sym p.same.id ∙ id_is)
      (subst (λ (k : ℕ). Stands k from p.d.slot p.d.id p.d.body) (sym from_volume.size) (below.0).stands))

  -- nor a stamp that is as great
  not_early : {stamp : Option ℕ} (given last : ℕ) → IsStampOf g from d.slot stamp → HasLaterStamp stamp given last u v → ⊥
  not_early given last stamped early =
      let has = early.settled.settled in
      let mine = stamps.stands_given g from d.slot _ given stamped early.early.given_is in
      let found : IsStampBelow h u.image early.ready.horizon last =
      subst (λ (l : Layout). IsStampBelow l u.image early.ready.horizon last) (layout_is early.ready has)
      (subst (λ (i : Image). IsStampBelow early.ready.volume.geometry i early.ready.horizon last)
      (same_behind early.ready has) (early.early.stands (subst IsTrue (sym has.settles.called.tells) tells))) in
      let whole_h = settled_as to_volume settled in
      let u0 = some_horizon h u.image whole_h in
      let stands = done_stands (on_its_cells to_volume) whole_h u0.0 u0.1 found.done in
      let e : Document = record { slot = found.slot; id = stands.0; body = stands.1 } in
      let p = pair_of g h from u.image target moved source e pairs
      (stands_among u.cells u.image settled target these found.slot stands.0 stands.1
      (subst (λ (k : ℕ). Stands k u.image found.slot stands.0 stands.1) to_volume.size stands.2)) in
      let below = lower p in
      let same : p.same.stamp ≡ Some last = stamps.one h u.image found.slot p.same.stamp (Some last) p.same.here
      (one_version ∙ mine.0, found.stamp) in
      let there = stamps.stands_given g from p.d.slot p.same.stamp last p.same.there same in
      let rule : BlankRule g from (spare_at d.slot) = (settled_as from_volume whole).met rules.StrayCells (spare_at d.slot)
      (record { found = mine.1.cell; stands = mine.1.stands }) in
      let true_stamp : IsTrueStamp g from d.slot = rule.spare d.slot (done_of from_volume d document.stands).0 refl in
      let one : true_stamp.seconds ≡ given = stamps.one_stamp from d.slot true_stamp.seconds given true_stamp.stamp mine.1 in
      omega (
        arith,
        one,
        early.early.early,
        true_stamp.rises p.d.slot last below.1 (done_of from_volume p.d (below.0).stands).1 there.1,
      )

  -- the target takes such a stamp
  not_unfit : {stamp : Option ℕ} (refusal : Refusal) → IsStampOf g from d.slot stamp → TakesNoSuchStamp stamp u v refusal → ⊥
  not_unfit {stamp} refusal stamped unfit = by_end refusal unfit.ends
    where
      version : unfit.ready.volume.geometry.version ≡ g.version
      version = ap (λ (l : Layout). l.version) (layout_is unfit.ready unfit.settled) ∙ one_version

      by_end : (refusal : Refusal) → CheckStampEnds unfit.ready stamp (Err refusal) → ⊥
      by_end refusals.StampNeeded ends =
          let none : TakesNoStamps g = subst (λ (s : Option ℕ). IsStampOf g from d.slot s) ends.1 stamped in
          omega (arith, version, ends.0, none)
      by_end refusals.StampUnused ends =
          omega (arith, version, ends.0, (stamps.stands_given g from d.slot stamp ends.1.0 stamped ends.1.1).0)
      by_end refusal ends = ends

  volume_behind : IsVolume v.cells v.image h
  volume_behind = subst (λ (k : ℕ). IsVolume k v.image h) (sym called.cells) (volume_on called.image to_volume)

  pub for_room : {id : List ℕ} (stamp : Option ℕ) (body : List ℕ) → id ≡ d.id → IsStampOf g from d.slot stamp
      → (refusal : Refusal) → IngestEnds id stamp body u v (Err refusal) → IsForRoom (refusal_to refusal)
  for_room stamp body id_is stamped refusals.NoMemory ends = tt
  for_room stamp body id_is stamped refusals.SlotsFull ends = tt
  for_room stamp body id_is stamped refusals.PathFull ends = tt
  for_room stamp body id_is stamped (refusals.TooManyTerms list count) ends = tt
  for_room stamp body id_is stamped (refusals.Full need free) ends = tt
  for_room stamp body id_is stamped refusals.DeviceFault ends = absurd (rose_or_still _ _ ends unfailed)
  for_room stamp body id_is stamped (refusals.Tampered e) ends =
      absurd (none_named u v e device device_new tells alone steady (ends tells))
  for_room stamp body id_is stamped refusals.StampNeeded ends = absurd (not_unfit refusals.StampNeeded stamped ends)
  for_room stamp body id_is stamped refusals.StampUnused ends = absurd (not_unfit refusals.StampUnused stamped ends)
  for_room stamp body id_is stamped (refusals.StampTooEarly given last) ends = absurd (not_early given last stamped ends)
  for_room stamp body id_is stamped (refusals.Duplicate n) ends = absurd (not_taken id_is n ends)
  for_room stamp body id_is stamped refusals.NotFormatted ends = absurd (no_blank_cell to_volume (ends tells))
  for_room stamp body id_is stamped (refusals.NotAVolume found) ends =
      let is = ends tells in absurd (no_other_cell volume_behind found is.0 is.1)
  for_room stamp body id_is stamped (refusals.WrongSize stated real) ends =
      let is = ends.2 tells in
      absurd (ends.1 (no_other_size volume_behind is.0 stated is.1 is.2 ∙ sym ends.0))
  for_room stamp body id_is stamped refusal ends = absurd ends
