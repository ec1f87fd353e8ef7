-- From what is planned over a view of a device to what that says of the device.
use Rattle.std.proofs.Common.{◌≡◌, ◌<◌, ◌≤◌, ◌+◌, ◌*◌, ⊎_elim, ℕ, Bool, List, [], Option, Some, None, Result, Ok, Err, refl, ap, sym, subst, arith, ◌∙◌}
use Rattle.std.specs.Prelude.{IsTrue, length, slice_get, if◌then◌else◌}
use Rattle.std.proofs.Math.ListN.{get_or}
use Rattle.std.proofs.lemmas.Bool.{cases_lt, le-ltb, lt-ltb}
use Rattle.std.proofs.lemmas.Option.{slice_get-get_or, slice_get_within}
use Rattle.cell_types.specs.Image.{Image}
use Rattle.cell_types.specs.Layout.{Layout, pool_at}
use Rattle.cell_types.specs.declared.refusal.Fault.TheVariants as faults
use Rattle.cell_types.specs.declared.refusal.Refusal.{Refusal}
use Rattle.cell_types.specs.declared.refusal.Refusal.TheVariants as refusals
use Rattle.volume_meaning.specs.Keeping.{sought_in}
use Rattle.volume_meaning.specs.Postings.{ArePostings, ListedPosting}
use Rattle.volume_meaning.proofs.Trails.{trail_wider}
use Rattle.cell_pool.specs.Faults.{refusal_of_growth}
use Rattle.cell_pool.specs.declared.fault.GrowthFault.{GrowthFault}
use Rattle.cell_pool.specs.declared.fault.GrowthFault.TheVariants as growth
use Rattle.worm_device.specs.Calls.{Called}
use Rattle.tamper_rules.proofs.Images.{same_image}
use Rattle.worm_device.specs.Counts.{IsStill}
use Rattle.worm_device.specs.Overlays.{over}
use Rattle.worm_device.specs.State.{DeviceState}
use Rattle.worm_device.specs.Views.{IsView, ViewState}
use Rattle.hash_tree.specs.declared.level.Level.{Level}
use Rattle.hash_tree.specs.declared.path.Open.{Open}
use Rattle.hash_tree.specs.Readiness.{blank_of}
use Rattle.ingest_plan.specs.Counts.{HasWrittenCells}
use Rattle.ingest_plan.specs.Indexes.{IndexEnds, IndexStandsAtCost, Indexes, IsIndexed}
use Rattle.ingest_plan.specs.Journal.{IsJournal}
use Rattle.ingest_plan.specs.Standing.{HasKeysBetween, ListsStand}
use Rattle.ingest_plan.proofs.Counting.{count_is_one, none_planned}
use Rattle.ingest_plan.proofs.Granted.{StaysQuiet}
use Rattle.ingest_plan.specs.Over.{IsPlannedOver, OverEnds, PlansOver}
use Rattle.ingest_plan.specs.Planning.{KeepsDocument, PlanEnds, PlansIndex, StandsAtCost, cut_at, laid_over}
use Rattle.ingest_plan.specs.declared.place.IndexPlace.{IndexPlace}
use Rattle.ingest_plan.specs.declared.plan.PlannedIndex.{PlannedIndex}
use Rattle.ingest_plan.proofs.Licence.{names_cell}
use Rattle.ingest_plan.proofs.Postings.{few, in_order, past}

module _ (g : Layout) (n : ℕ) (stamp : Option ℕ) (body : List ℕ) (rows : List ListedPosting) (level : Level) (place : Open) (from to : ℕ) (old new : ViewState)
    (are : ArePostings g stamp body n rows) (indexed : IsIndexed g n rows level place from to old new) where
  pub keeps : IsTrue old.base.tells → KeepsDocument g n stamp body level place to new.lower new.planned
  keeps tells id image digest below planned room stands stamped passed = record {
    stands = stands;
    postings = are.exist;
    stamp = stamp;
    is_stamp = stamped;
    trails = λ l q less posting.
        let found = are.all l q less posting in
        let trail = indexed.trails tells image below planned found.0 (record { list = l; posting = q }) found.1 in
        (trail.at, trail_wider (pool_at g) g.cells (omega arith) room trail.trail);
    path = indexed.path image (sought_in g.cells g id) digest refl room planned passed;
  }

-- the journal has as many cells as are planned
journal_counts : {planned : Image} {journal : List (List ℕ)} → IsJournal planned journal
    → HasWrittenCells planned (length journal)
journal_counts {planned} {journal} is = record {
  cells = is.numbers;
  long = is.long;
  once = λ i j cell less at too. omega (arith, is.rise i j cell cell less at too);
  written = λ i cell at.
      let none : List ℕ = [] in
      let value : List ℕ = get_or journal i none in
      let there : slice_get journal i ≡ Some value =
      slice_get-get_or journal i none (omega (arith, slice_get_within is.numbers i cell at, is.long)) in
      record { found = value; stands = is.each i cell value at there };
  all = λ cell w. let found = is.all cell w.found w.stands in (found.0, found.1);
}

-- over a view with nothing planned an image is shown up to where nothing below is asked
shows_cut : (edge : ℕ) (image : Image) (view : ViewState) → IsView view → ((cell : ℕ) → view.planned cell ≡ None)
    → view.fresh ≡ edge → view.lower ≡ image → view.image ≡ cut_at edge image
shows_cut edge image view is nothing fresh lower = sym (same_image (λ cell. ⊎_elim
    (λ (before : cell < edge).
    let asked : cut_at edge image cell ≡ image cell =
    ap (λ (b : Bool). if b then image cell else None) (lt-ltb cell edge before) in
    asked ∙ sym (is.below cell (nothing cell) (omega (arith, before, fresh)) ∙ ap (λ (i : Image). i cell) lower))
    (λ (past : edge ≤ cell).
    let unasked : cut_at edge image cell ≡ None =
    ap (λ (b : Bool). if b then image cell else None) (le-ltb cell edge past) in
    unasked ∙ sym (is.beyond cell (nothing cell) (omega (arith, past, fresh))))
    (cases_lt cell edge)))

-- the index stands, and the journal and what the pool gave are as many cells as it costs
stands_at_cost : {g : Layout} {n edge : ℕ} {behind : ℕ → ℕ} {rows : List ListedPosting} {level : Level} {place : Open} {p : PlannedIndex}
    {old new planned : Image} → ((cell : ℕ) → new cell ≡ over (planned cell) (old cell))
    → IsJournal planned p.journal.items
    → IndexStandsAtCost g n behind rows level place edge (edge + p.block_length) old new planned
    → StandsAtCost g n edge behind rows level place p old planned
stands_at_cost {g} {n} {edge} {behind} {rows} {level} {place} {p} {old} {new} {planned} shows journal stands =
    let laid : new ≡ laid_over planned old = same_image shows in
    let there : IndexStandsAtCost g n behind rows level place edge (edge + p.block_length) old (laid_over planned old) planned =
    subst (λ (i : Image). IndexStandsAtCost g n behind rows level place edge (edge + p.block_length) old i planned) laid
    stands in
    let count : length p.journal.items ≡ there.count =
    count_is_one planned (length p.journal.items) there.count (journal_counts journal) there.cells in
    record { stands = there.stands; cost = omega (arith, count, there.cost) }

-- over nothing planned a posting and the bucket have one or two cells of the journal each
journal_each : {g : Layout} {n edge : ℕ} {rows : List ListedPosting} {level : Level} {place : Open} {p : PlannedIndex}
    {old new : ViewState} → ((cell : ℕ) → old.planned cell ≡ None)
    → IsPlannedOver g n edge rows level place p old new
    → (length rows + 1 ≤ length p.journal.items) × (length p.journal.items ≤ 2 * (length rows + 1))
journal_each {rows = rows} {p = p} {new = new} nothing h =
    let taken = h.indexed.taken 0 (none_planned nothing) in
    let count = count_is_one new.planned (length p.journal.items) taken.0 (journal_counts h.journal.is) taken.1 in
    (omega (arith, count, taken.2), omega (arith, count, taken.3))

-- what the rows are, whose words are the body's, gives what is said of the device
pub plans_index : (g : Layout) (index : IndexPlace) (stamp : Option ℕ) (body : List ℕ) (rows : List ListedPosting)
    (start : DeviceState) (old new : ViewState) (result : Result PlannedIndex Refusal) (done : DeviceState)
    → ArePostings g stamp body index.slot rows → index.edge ≤ g.cells
    → PlansOver g index rows old new result
    → old.base ≡ start → done ≡ new.base → new.lower ≡ new.base.image
    → IsView old → ((cell : ℕ) → old.planned cell ≡ None) → old.fresh ≡ index.edge → old.lower ≡ start.image
    → PlansIndex g index stamp body start done result
plans_index g index stamp body rows start old new result done are inside over begins ends below view nothing
    fresh lower = record {
      called = subst (λ (d : DeviceState). Called start d) (sym ends)
          (subst (λ (d : DeviceState). Called d new.base) begins over.called);
      quiet = quiet;
      ends = why result over.ends;
    } where
      quiet : StaysQuiet start done
      quiet = subst (λ (d : DeviceState). StaysQuiet start d) (sym ends)
          (subst (λ (d : DeviceState). StaysQuiet d new.base) begins over.quiet)

      told : IsTrue start.tells → IsTrue old.base.tells
      told tells = subst (λ (d : DeviceState). IsTrue d.tells) (sym begins) tells

      there : done.image ≡ new.lower
      there = ap (λ (d : DeviceState). d.image) ends ∙ sym below

      shown : old.image ≡ cut_at index.edge start.image
      shown = shows_cut index.edge start.image old view nothing fresh lower

      still_then : IsStill start.foreign_writes done.foreign_writes
          → IsStill old.base.foreign_writes new.base.foreign_writes
      still_then still =
          subst (λ (d : DeviceState). IsStill d.foreign_writes new.base.foreign_writes) (sym begins)
          (subst (λ (d : DeviceState). IsStill start.foreign_writes d.foreign_writes) ends still)

      why : (result : Result PlannedIndex Refusal) → OverEnds g index.slot index.edge rows index.end.level index.end.place old new result
          → PlanEnds g index.slot index.edge index.end.level index.end.place stamp body start done result
      why (Ok p) h = record {
        rows = rows;
        are = are;
        few = few g stamp body index.slot rows are;
        least = (journal_each nothing h).0;
        most = omega (arith, (journal_each nothing h).1, h.blocks);
        planned = new.planned;
        journal = h.journal;
        grants = h.indexed.grants;
        keeps = λ tells. subst (λ (i : Image). KeepsDocument g index.slot stamp body index.end.level index.end.place (index.edge + p.block_length) i new.planned) (sym there)
            (keeps g index.slot stamp body rows index.end.level index.end.place index.edge (index.edge + p.block_length) old new are h.indexed (told tells));
        blank = λ tells.
            subst (λ (i : Image). i (blank_of index.end.place) ≡ None → (cell : ℕ) (value : List ℕ) → new.planned cell ≡ Some value
            → i cell ≡ None) shown (h.indexed.blank (told tells));
        stands = λ tells still.
            subst (λ (i : Image). (bound behind : ℕ → ℕ) → HasKeysBetween rows bound behind → ListsStand g i index.edge bound
            → StandsAtCost g index.slot index.edge behind rows index.end.level index.end.place p i new.planned)
            shown
            (λ bound behind between lists. stands_at_cost (h.indexed.shows (still_then still)) h.journal.is
            (h.indexed.stands (told tells) (still_then still) bound behind between lists));
      }
      why (Err (refusals.Tampered e)) h = λ tells.
          names_cell body start done are.exist (in_order g stamp body index.slot rows are) (past g stamp body index.slot rows are) inside
          (subst IsTrue (sym over.called.tells) (told tells)) (sym lower) there quiet (h (told tells))
      why (Err refusals.DeviceFault) h =
          omega (arith, h, ap (λ (d : DeviceState). d.faults) begins, ap (λ (d : DeviceState). d.faults) ends)
      why (Err refusals.NoMemory) h = tt
      why (Err refusal) h = absurd h

-- what was planned, and its journal
pub planned_over : (g : Layout) (n edge from next : ℕ) (rows : List ListedPosting) (level : Level) (place : Open) (p : PlannedIndex)
    (old new : ViewState) (held : Image) → from ≡ edge → edge + p.block_length ≡ next
    → next ≤ from + 256 * length rows + 32 → IsIndexed g n rows level place from next old new
    → ((cell : ℕ) → held cell ≡ new.planned cell) → IsJournal held p.journal.items
    → IsPlannedOver g n edge rows level place p old new
planned_over g n edge from next rows level place p old new held begins ends most indexed same journal = record {
  indexed = subst (λ (to : ℕ). IsIndexed g n rows level place edge to old new) (sym ends)
      (subst (λ (e : ℕ). IsIndexed g n rows level place e next old new) begins indexed);
  blocks = omega (arith, begins, ends, most);
  journal = record {
    is = record {
      numbers = journal.numbers;
      long = journal.long;
      each = λ i cell value at is. sym (same cell) ∙ journal.each i cell value at is;
      rise = journal.rise;
      all = λ cell value is. journal.all cell value (same cell ∙ is);
    };
    index = indexed.only;
    before = λ cell past. indexed.before cell (omega (arith, ends, past));
  };
}

-- why nothing was planned
pub plan_refused : (g : Layout) (index : IndexPlace) (from next : ℕ) (rows : List ListedPosting) (old new : ViewState)
    (fault : GrowthFault) → IsView new → old.fresh ≡ index.edge
    → Indexes g index.slot rows index.end from next old new (Err fault)
    → PlansOver g index rows old new (Err (refusal_of_growth fault))
plan_refused g index from next rows old new fault view fresh indexes = record {
  called = indexes.called;
  quiet = indexes.quiet;
  fresh = indexes.fresh;
  loans = indexes.loans;
  ends = why fault indexes.ends;
} where
  why : (fault : GrowthFault) → IndexEnds g index.slot rows index.end.level index.end.place from next old new (Err fault)
      → OverEnds g index.slot index.edge rows index.end.level index.end.place old new (Err (refusal_of_growth fault))
  why (growth.Fault (faults.Tampered e)) h = λ tells.
      let named = h tells in
      record { view = view; fresh = indexes.fresh ∙ fresh; is = named.0; licensable = named.1 }
  why (growth.Fault faults.Failed) h = h
  why (growth.NoMemory lack) h = tt
