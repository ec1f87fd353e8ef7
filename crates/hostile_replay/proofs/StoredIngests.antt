-- What an ingest that is acknowledged put, where nobody else wrote, and that it found these cells blank.
use Rattle.std.proofs.Common.{◌≡◌, ◌≤◌, ◌<◌, ◌+◌, ◌*◌, ◌⊎◌, ⊎_elim, inl, inr, ℕ, zero, suc, true, List, length, Option, Some, None, Ok, Err, refl, sym, ap, ◌∙◌, subst, arith}
use Rattle.std.proofs.lemmas.Option.{none-some}
use Rattle.std.specs.Prelude.{Result}
use Rattle.cell_types.specs.Image.{Image, Extends}
use Rattle.cell_types.specs.Layout.{IsLayout, Layout, done_at, lists_at, outcome_at, pool_at, reserve_at}
use Rattle.cell_types.specs.Records.{IsRecordCell}
use Rattle.cell_types.specs.declared.record_cell.RecordCell.TheVariants.{Commit, Reserve}
use Rattle.cell_types.specs.declared.refusal.Refusal.{Refusal}
use Rattle.commit_record.specs.declared.slot.SlotState.{SlotState}
use Rattle.commit_record.specs.declared.slot.SlotState.TheVariants.{Unused, Reserved, Committed, Abandoned, Done}
use Rattle.volume_meaning.specs.Documents.{document_at, stored_bytes}
use Rattle.volume_meaning.specs.Postings.{ArePostings, ListedPosting}
use Rattle.volume_meaning.specs.Slots.{IsUnused, Reserves}
use Rattle.volume_meaning.specs.Volumes.{Holds, IsVolume, IsWritten}
use Rattle.volume_meaning.proofs.Extending.{holds_on, volume_on}
use Rattle.volume_meaning.proofs.Holding.{one_record_holds}
use Rattle.tamper_rules.specs.Journals.{journal_at}
use Rattle.tamper_rules.proofs.GivenUp.{one_layout}
use Rattle.worm_device.specs.Calls.{Called}
use Rattle.worm_device.specs.Counts.{IsStill, Rose}
use Rattle.worm_device.specs.State.{DeviceState, IsDevice}
use Rattle.worm_device.proofs.Elapsing.{called_then, remembers_of}
use Rattle.worm_device.proofs.Images.{extends_self, extends_then}
use Rattle.recovery_engine.specs.Ending.{abandon_put, done_put, end_phases}
use Rattle.recovery_engine.specs.Journal.{IsEntryOf, IsEntryPut}
use Rattle.recovery_engine.specs.Putting.{IsInFirst, IsPut}
use Rattle.recovery_engine.specs.Settling.{EndsByPhases, HasSettled, IsEnding, IsReady, Settles, settle_plan}
use Rattle.recovery_engine.specs.declared.put.Put.{Put}
use Rattle.recovery_engine.specs.declared.settling.Ready.{Ready}
use Rattle.recovery_engine.proofs.Rising.{entries_below, entries_from}
use Rattle.plan_writer.specs.Blank.{AreBlank}
use Rattle.plan_writer.specs.Planned.{IsPooledPut, IsStampPut, PlansDocument, Suits, document_from, ingest_phases, reserve_put, reserved_by}
use Rattle.plan_writer.specs.PuttingPlans.{PutsPlan}
use Rattle.plan_writer.specs.declared.plan.Plan.{Plan}
use Rattle.plan_writer.proofs.LogCells.{pooled_from, stamp_at}
use Rattle.plan_writer.proofs.Stated.{reserves_by}
use Rattle.plan_writer.proofs.Targets.{asked_from}
use Rattle.ingest_engine.specs.Ingesting.{IngestComesTo, IsIngested, IsPlanFor, nothing, settling, settled, put}
use Rattle.hostile_replay.proofs.Committing.{with_outcome}

-- What this ingest put, into cells that were blank when it began, and when it had looked at the volume.
pub record PutsBlank (id : List ℕ) (stamp : Option ℕ) (body : List ℕ) (n : ℕ) (old new : DeviceState) : Type 0 where
  pub layout : Layout
  pub volume : IsVolume new.cells new.image layout
  pub less : n < layout.slots
  pub plan : Plan
  pub suits : Suits layout plan
  pub document : PlansDocument plan id body
  pub rows : List ListedPosting
  pub are : ArePostings layout stamp body n rows
  pub journal : length rows + 1 ≤ length plan.journal.now
  pub looked : DeviceState
  pub called : Called old looked
  pub unused : IsUnused layout old.image n
  pub blank : AreBlank old.image (reserved_by plan)
  pub stepped : Rose old.steps looked.steps
  pub reserve : looked.image (reserve_at n) ≡ None
  pub outcome : looked.image (outcome_at n) ≡ None
  pub pooled : AreBlank looked.image (reserved_by plan)
  pub still : IsStill looked.foreign_writes new.foreign_writes
  pub puts : PutsPlan n plan looked new

-- where settling puts a cell it ends a slot
none_ended : (between : Image) (slot : ℕ) (state : SlotState) (j : ℕ) (q : Put) → settle_plan between slot state j q
    → 1 ≤ end_phases state
none_ended between slot (Reserved start length) j q h = omega arith
none_ended between slot (Committed start length bytes journal) j q h = omega arith
none_ended between slot Unused j q h = absurd (⊎_elim (λ (a : (j ≡ 1) × ⊥). a.1) (λ (b : (j ≡ 2) × ⊥). b.1) h)
none_ended between slot (Abandoned start length) j q h =
    absurd (⊎_elim (λ (a : (j ≡ 1) × ⊥). a.1) (λ (b : (j ≡ 2) × ⊥). b.1) h)
none_ended between slot (Done start length bytes journal) j q h =
    absurd (⊎_elim (λ (a : (j ≡ 1) × ⊥). a.1) (λ (b : (j ≡ 2) × ⊥). b.1) h)

left_blank : (found : Option (List ℕ)) → ((value : List ℕ) → found ≡ Some value → ⊥) → found ≡ None
left_blank None not = refl
left_blank (Some value) not = absurd (not value refl)

-- a slot of which nothing has come is not the one that settling ends
not_ended : (image : Image) (slot n : ℕ) → IsWritten image (reserve_at slot) → image (reserve_at n) ≡ None → slot ≡ n → ⊥
not_ended image slot n taken blank same =
    none-some taken.found (sym blank ∙ ap (λ m. image (reserve_at m)) (sym same) ∙ taken.stands)

-- what a cell of a journal asks for, which settling carries out
record IsAsked (old : DeviceState) (between : Image) (slot : ℕ) (q : Put) : Type 0 where
  pub start : ℕ
  pub reserved : ℕ
  pub bytes : ℕ
  pub journal : ℕ
  pub ending : IsEnding old.cells old.image between slot (Committed start reserved bytes journal)
  pub k : ℕ
  pub below : k < journal
  pub entry : IsEntryOf between (journal_at start reserved journal) k q

asked_low : (old : DeviceState) (between : Image) (slot : ℕ) (q : Put) (a : IsAsked old between slot q)
    → lists_at a.ending.layout ≤ q.at
asked_low old between slot q a = omega (
  arith,
  a.entry.at,
  entries_from (lists_at a.ending.layout) between
      (journal_at a.start a.reserved a.journal) (document_at a.start a.reserved a.bytes a.journal) a.journal
      a.ending.journal a.k q.value a.below a.entry.stands,
)

asked_high : (old : DeviceState) (between : Image) (slot : ℕ) (q : Put) (a : IsAsked old between slot q)
    → q.at < a.start + a.reserved
asked_high old between slot q a = omega (
  arith,
  a.entry.at,
  entries_below (lists_at a.ending.layout) between
      (journal_at a.start a.reserved a.journal) (document_at a.start a.reserved a.bytes a.journal) a.journal
      a.ending.journal a.k q.value a.below a.entry.stands,
)

-- Settling, where nobody else writes.
module _ (old new : DeviceState) (result : Result Ready Refusal) (tells : old.tells ≡ true)
    (still : IsStill old.foreign_writes new.foreign_writes) (settles : Settles old new result) where
  abbrev writes : EndsByPhases old new result
  writes = settles.writes tells

  abbrev between : Image
  between = writes.between

  abbrev slot : ℕ
  slot = writes.slot

  -- which cells it puts
  put_there : (state : SlotState) (j : ℕ) (q : Put) → settle_plan between slot state j q → writes.state ≡ state
      → ((q.at ≡ outcome_at slot) ⊎ (q.at ≡ done_at slot)) ⊎ IsAsked old between slot q
  put_there (Reserved start length) j q h is = inl (⊎_elim
      (λ (a : (j ≡ 1) × (q ≡ abandon_put slot)). inl (ap (λ (x : Put). x.at) a.1))
      (λ (b : (j ≡ 2) × ⊥). absurd b.1) h)
  put_there (Committed start reserved bytes journal) j q h is = ⊎_elim
      (λ (a : (j ≡ 1) × IsEntryPut between (journal_at start reserved journal) journal q).
      inr (record {
        start = start;
        reserved = reserved;
        bytes = bytes;
        journal = journal;
        ending = subst (IsEnding old.cells old.image between slot) is
            (writes.ending (subst (λ s. 1 ≤ end_phases s) (sym is) (omega arith)));
        k = a.1.0;
        below = a.1.1;
        entry = a.1.2;
      }))
      (λ (b : (j ≡ 2) × (q ≡ done_put slot)). inl (inr (ap (λ (x : Put). x.at) b.1)))
      h
  put_there Unused j q h is = absurd (⊎_elim (λ (a : (j ≡ 1) × ⊥). a.1) (λ (b : (j ≡ 2) × ⊥). b.1) h)
  put_there (Abandoned start length) j q h is =
      absurd (⊎_elim (λ (a : (j ≡ 1) × ⊥). a.1) (λ (b : (j ≡ 2) × ⊥). b.1) h)
  put_there (Done start length bytes journal) j q h is =
      absurd (⊎_elim (λ (a : (j ≡ 1) × ⊥). a.1) (λ (b : (j ≡ 2) × ⊥). b.1) h)

  -- a blank cell stays so where neither the slot's ending nor an entry of its journal is put there
  blank_stays : (cell : ℕ) → old.image cell ≡ None
      → ((q : Put) → q.at ≡ cell → 1 ≤ end_phases writes.state
      → (q.at ≡ outcome_at slot) ⊎ (q.at ≡ done_at slot) → ⊥)
      → ((q : Put) → q.at ≡ cell → 1 ≤ end_phases writes.state → IsAsked old between slot q → ⊥)
      → new.image cell ≡ None
  blank_stays cell blank ends asks = left_blank (new.image cell) (λ value stands. ⊎_elim
      (λ (stood : old.image cell ≡ Some value). none-some value (sym blank ∙ stood))
      (λ (is : IsPut (IsInFirst (settle_plan between slot writes.state) 3) old.image cell value).
      let some = none_ended between slot writes.state is.planned.0 is.put is.planned.2 in
      ⊎_elim (ends is.put is.here some) (asks is.put is.here some)
      (put_there writes.state is.planned.0 is.put is.planned.2 refl))
      (writes.only still cell value stands))

  -- the slot that it ends was taken
  slot_taken : 1 ≤ end_phases writes.state → IsWritten old.image (reserve_at slot)
  slot_taken some =
      let taken = (writes.ending some).horizon.below slot refl in
      record { found = taken.found; stands = sym (writes.quiet still (reserve_at slot)) ∙ taken.stands }

  module _ (layout : Layout) (n : ℕ) (volume : IsVolume new.cells new.image layout)
      (unused : IsUnused layout old.image n) where
    -- no journal asks for a cell of the log
    in_log : (cell : ℕ) → cell < lists_at layout → (q : Put) → q.at ≡ cell → 1 ≤ end_phases writes.state
        → IsAsked old between slot q → ⊥
    in_log cell low q here some asked =
        let same : asked.ending.layout ≡ layout =
        one_layout asked.ending.layout layout (volume_on writes.stands asked.ending.volume) volume in
        omega (arith, asked_low old between slot q asked, here, low, ap lists_at same)

    -- so the outcome cell of a slot of which nothing has come stays blank
    pub outcome_stays : new.image (outcome_at n) ≡ None
    outcome_stays = blank_stays (outcome_at n) unused.outcome
        (λ q here some log.
        let other : slot ≡ n → ⊥ = not_ended old.image slot n (slot_taken some) unused.reserve in
        grind (arith, log, here, other))
        (in_log (outcome_at n) (omega (arith, unused.slot)))

    -- and so does its reserve cell
    pub reserve_stays : new.image (reserve_at n) ≡ None
    reserve_stays = blank_stays (reserve_at n) unused.reserve (λ q here some log. grind (arith, log, here))
        (in_log (reserve_at n) (omega (arith, unused.slot)))

-- Where it ends well, so does each cell behind the edge.
module _ (old new : DeviceState) (r : Ready) (tells : old.tells ≡ true)
    (still : IsStill old.foreign_writes new.foreign_writes) (settles : Settles old new (Ok r)) where
  abbrev end : EndsByPhases old new (Ok r)
  end = settles.writes tells

  abbrev ready : IsReady old new r
  ready = settles.ends.1 tells

  -- what a journal asks for lies before the edge
  asked_before : (q : Put) → IsAsked old end.between end.slot q → r.horizon ≡ end.slot + 1 → q.at < r.edge
  asked_before q a last = ⊎_elim
      (λ (first : (r.horizon ≡ 0) × (r.edge ≡ pool_at r.volume.geometry)). absurd (omega (arith, first.0, last)))
      (λ (there : (m : ℕ) × (from : ℕ) × (many : ℕ) × (r.horizon ≡ m + 1)
      × Reserves r.volume.geometry new.image m from many × (r.edge ≡ from + many)).
      let slot_is : there.0 ≡ end.slot = omega (arith, there.3, last) in
      let one = one_record_holds new.image (reserve_at end.slot) _ _
      (holds_on end.stands a.ending.is.commits.reserves.reserve)
      (subst (λ m. Holds new.image (reserve_at m) (Reserve there.1 there.2)) slot_is there.4.reserve) in
      let start_is : a.start ≡ there.1 = cc in
      let many_is : a.reserved ≡ there.2 = cc in
      omega (arith, asked_high old end.between end.slot q a, there.5, start_is, many_is))
      ready.edge

  pub behind_stays : (cell : ℕ) → r.edge ≤ cell → old.image cell ≡ None → new.image cell ≡ None
  behind_stays cell behind blank =
      let bounds = settles.ends.0 in
      blank_stays old new (Ok r) tells still settles cell blank
      (λ q here some log. grind (arith, log, behind, here, bounds.from, bounds.horizon, end.below some))
      (λ q here some asked. omega (arith, asked_before q asked (end.below some), behind, here))

-- the outcome cell of a slot is q for that slot alone
same_slot : (g : Layout) (h n : ℕ) (p : Plan) → Suits g p → n < g.slots → (j : ℕ) (q : Put)
    → ingest_phases h p j q → q.at ≡ outcome_at n → h ≡ n
same_slot g h n p suits less zero q is here = absurd (omega (arith, ap (λ (x : Put). x.at) is, here))
same_slot g h n p suits less (suc zero) q is here = absurd (⊎_elim
    (λ (a : IsStampPut h p.stamp q). other_cell (stamp_at h p.stamp q a))
    (λ (b : IsPooledPut p q). pooled (pooled_from p q b))
    is)
  where
    other_cell : q.at ≡ 7 + 4 * h → ⊥
    other_cell at = omega (arith, at, here)

    pooled : document_from p ≤ q.at → ⊥
    pooled from = omega (arith, from, here, suits.from, less)
same_slot g h n p suits less (suc (suc zero)) q is here = omega (arith, ap (λ (x : Put). x.at) is, here)
same_slot g h n p suits less (suc (suc (suc zero))) q is here =
    absurd (omega (arith, asked_from g p suits q is, here, less))
same_slot g h n p suits less (suc (suc (suc (suc zero)))) q is here =
    absurd (omega (arith, ap (λ (x : Put). x.at) is, here))
same_slot g h n p suits less (suc (suc (suc (suc (suc j))))) q is here = absurd is

still_between : (a b c : ℕ) → a ≤ b → b ≤ c → IsStill a c → IsStill a b × IsStill b c
still_between a b c low high still = (
  record { same = omega (arith, low, high, still.same); below = still.below },
  record { same = omega (arith, low, high, still.same); below = omega (arith, low, high, still.same, still.below) },
)

-- the commit cell stands in the end
pub record HasCommit (n : ℕ) (image : Image) : Type 0 where
  pub value : List ℕ
  pub stands : image (outcome_at n) ≡ Some value
  pub bytes : ℕ
  pub journal : ℕ
  pub is : IsRecordCell (Commit bytes journal) (outcome_at n) value

pub committed : (id : List ℕ) (stamp : Option ℕ) (body : List ℕ) (n : ℕ) (old new : DeviceState) → IsDevice new
    → IsIngested id stamp body n old new → HasCommit n new.image
committed id stamp body n old new device done =
    let holds = done.document.done.commits.outcome in
    record {
      value = holds.cell;
      stands = device.sure.keeps (outcome_at n) holds.cell holds.stands;
      bytes = length (stored_bytes id body);
      journal = done.document.journal;
      is = holds.is;
    }

module _ (id : List ℕ) (stamp : Option ℕ) (body : List ℕ) (n : ℕ) (old new : DeviceState) (tells : old.tells ≡ true)
    (still : IsStill old.foreign_writes new.foreign_writes) (device : IsDevice new)
    (done : IsIngested id stamp body n old new) where
  abbrev outcome : HasCommit n new.image
  outcome = committed id stamp body n old new device done

  -- where the outcome cell is blank in the end it was not ingested
  not_blank : new.image (outcome_at n) ≡ None → ⊥
  not_blank none = none-some outcome.value (sym none ∙ outcome.stands)

  -- settling and looks leave it blank
  module _ (looked : DeviceState) (r : Ready) (h : HasSettled old looked r)
      (quiet : IsStill old.foreign_writes looked.foreign_writes) where
    parts : IsStill old.foreign_writes h.settled.foreign_writes
        × IsStill h.settled.foreign_writes looked.foreign_writes
    parts = still_between old.foreign_writes h.settled.foreign_writes looked.foreign_writes
        h.settles.called.foreign_writes h.looked.foreign_writes quiet

    layout_is : Extends looked.image new.image → done.layout ≡ r.volume.geometry
    layout_is grows = one_layout done.layout r.volume.geometry done.volume
        (volume_on (extends_then h.looked.image grows) (h.settles.ends.1 tells).volume)

    inside : Extends looked.image new.image → n < r.volume.geometry.slots
    inside grows = subst (λ (l : Layout). n < l.slots) (layout_is grows) done.unused.slot

    settled_volume : Extends looked.image new.image → IsVolume h.settled.cells h.settled.image done.layout
    settled_volume grows = subst (IsVolume h.settled.cells h.settled.image) (sym (layout_is grows))
        (h.settles.ends.1 tells).volume

    blank_outcome : Extends looked.image new.image → looked.image (outcome_at n) ≡ None
    blank_outcome grows = h.quiet parts.1 (outcome_at n)
        ∙ outcome_stays old h.settled (Ok r) tells parts.0 h.settles done.layout n (settled_volume grows) done.unused

    blank_reserve : Extends looked.image new.image → looked.image (reserve_at n) ≡ None
    blank_reserve grows = h.quiet parts.1 (reserve_at n)
        ∙ reserve_stays old h.settled (Ok r) tells parts.0 h.settles done.layout n (settled_volume grows) done.unused

    -- settling has made a step
    stepped : Rose old.steps looked.steps
    stepped = omega (arith, h.settles.stepped refl tells, (remembers_of h.looked).steps)

    blank_behind : (cell : ℕ) → r.edge ≤ cell → old.image cell ≡ None → looked.image cell ≡ None
    blank_behind cell behind blank =
        h.quiet parts.1 cell ∙ behind_stays old h.settled r tells parts.0 h.settles cell behind blank

  by_put : (looked : DeviceState) (r : Ready) (p : Plan) (h : HasSettled old looked r)
      → IsPlanFor r id stamp body h.settled looked p → PutsPlan r.horizon p looked new
      → PutsBlank id stamp body n old new
  by_put looked r p h is puts =
      let two = still_between old.foreign_writes looked.foreign_writes new.foreign_writes
      (called_then h.settles.called h.looked).foreign_writes puts.called.foreign_writes still in
      let g = r.volume.geometry in
      let grows = puts.called.image in
      let volume : IsVolume new.cells new.image g =
      subst (λ cells. IsVolume cells new.image g) (sym (puts.called.cells ∙ h.looked.cells))
      (volume_on (extends_then h.looked.image grows) (h.settles.ends.1 tells).volume) in
      let less = inside looked r h two.0 grows in
      let unused : IsUnused g old.image n =
      subst (λ l. IsUnused l old.image n) (layout_is looked r h two.0 grows) done.unused in
      let none = blank_outcome looked r h two.0 grows in
      let tells_there : looked.tells ≡ true = (called_then h.settles.called h.looked).tells ∙ tells in
      let same : r.horizon ≡ n = ⊎_elim
      (λ (stood : looked.image (outcome_at n) ≡ Some outcome.value). absurd (none-some outcome.value (sym none ∙ stood)))
      (λ (was : IsPut (IsInFirst (ingest_phases r.horizon p) 5) looked.image (outcome_at n) outcome.value).
      same_slot g r.horizon n p is.suits less was.planned.0 was.put was.planned.2 was.here)
      (puts.only tells_there two.1 (outcome_at n) outcome.value outcome.stands) in
      let here : PutsPlan n p looked new = subst (λ m. PutsPlan m p looked new) same puts in
      let blank : AreBlank old.image (reserved_by p) =
      blank_before g p looked is.suits less here none tells_there two.1 (h.settles.ends.0.layout) in
      record {
        layout = g;
        volume = volume;
        less = less;
        plan = p;
        suits = is.suits;
        document = is.document;
        rows = is.has.planned.rows;
        are = subst (λ m. ArePostings g stamp body m is.has.planned.rows) same is.has.planned.are;
        journal = omega (arith, is.has.planned.least, ap (λ (l : List (List ℕ)). length l) is.journal);
        looked = looked;
        called = called_then h.settles.called h.looked;
        unused = unused;
        blank = blank;
        stepped = stepped looked r h two.0;
        reserve = blank_reserve looked r h two.0 grows;
        outcome = none;
        pooled = λ cell of. blank_behind looked r h two.0 cell (omega (arith, of.from, is.starts)) (blank cell of);
        still = two.1;
        puts = here;
      }
    where
      -- the cells of the reservation are those that were taken blank
      blank_before : (g : Layout) (p : Plan) (looked : DeviceState) → Suits g p → n < g.slots → PutsPlan n p looked new
          → looked.image (outcome_at n) ≡ None → looked.tells ≡ true
          → IsStill looked.foreign_writes new.foreign_writes → IsLayout g → AreBlank old.image (reserved_by p)
      blank_before g p looked suits less puts none tells_there quiet layout =
          let left = with_outcome g n p looked new less suits puts tells_there none quiet new.image outcome.value
          (inl (record { above = device.sure; below = extends_self new.image })) outcome.stands in
          let ours = reserves_by g n p layout less suits new.image
          (left (reserve_put n (reserved_by p)) (0, omega arith, refl)) in
          let one = one_record_holds new.image (reserve_at n) _ _ ours.reserve
          (holds_on device.sure done.blank.reserves.reserve) in
          let start_is : p.start ≡ done.blank.start = cc in
          let many_is : (reserved_by p).length ≡ done.blank.count = cc in
          λ cell of. done.blank.blank cell (omega (arith, of.from, start_is)) (omega (arith, of.below, start_is, many_is))

  pub puts_blank : IngestComesTo id stamp body old new → PutsBlank id stamp body n old new
  puts_blank (nothing same) =
      absurd (not_blank (subst (λ (s : DeviceState). s.image (outcome_at n) ≡ None) (sym same) done.unused.outcome))
  puts_blank (settling refusal settles) =
      absurd (not_blank (outcome_stays old new (Err refusal) tells still settles done.layout n done.volume done.unused))
  puts_blank (settled r h) =
      absurd (not_blank (blank_outcome new r h still (extends_self new.image)))
  puts_blank (put looked r p h is_device free is puts) = by_put looked r p h is puts
