-- From the postings of a document to its whole index.
use Rattle.std.proofs.Common.{◌≡◌, ◌≢◌, ◌<◌, ◌≤◌, ◌+◌, ⊎_elim, ℕ, List, Option, Some, None, Result, Ok, Err, refl, ap, sym, subst, arith, ◌∙◌}
use Rattle.std.specs.Prelude.{IsTrue, length}
use Rattle.std.proofs.lemmas.Bool.{cases_eq}
use Rattle.std.proofs.lemmas.Option.{none-some, slice_get_within}
use Rattle.cell_types.specs.Image.{Image, Extends}
use Rattle.cell_types.specs.Layout.{Layout, pool_at, root_at, lists_at}
use Rattle.cell_types.specs.Records.{IsRecordCell}
use Rattle.cell_types.specs.declared.record_cell.RecordCell.{RecordCell}
use Rattle.cell_types.specs.declared.record_cell.RecordCell.TheVariants.{Jump, Child}
use Rattle.cell_types.specs.declared.refusal.Fault.TheVariants as faults
use Rattle.volume_meaning.specs.Blocks.{posting_record}
use Rattle.volume_meaning.specs.HashPaths.{nibble}
use Rattle.volume_meaning.specs.Postings.{ListedPosting}
use Rattle.volume_meaning.proofs.Trails.{trail_on}
use Rattle.volume_meaning.specs.Volumes.{Holds}
use Rattle.tamper_rules.specs.Journals.{IsIndexRecord}
use Rattle.cell_pool.specs.declared.pool.Pool.{Pool}
use Rattle.hash_tree.specs.Levels.{IsLedByChild, IsNodeWithin, bucket_at, child_at, node_of}
use Rattle.hash_tree.specs.Steps.{IsOpenOf}
use Rattle.hash_tree.specs.declared.level.ChildCell.{ChildCell}
use Rattle.hash_tree.specs.declared.level.Level.{Level}
use Rattle.hash_tree.specs.declared.path.Open.{Open}
use Rattle.cell_pool.specs.Records.{HoldsPlanned}
use Rattle.cell_pool.specs.declared.fault.GrowthFault.{GrowthFault}
use Rattle.cell_pool.specs.declared.fault.GrowthFault.TheVariants.{Fault, NoMemory}
use Rattle.worm_device.proofs.Covering.{planned_show}
use Rattle.worm_device.proofs.Images.{extends_self, extends_then}
use Rattle.worm_device.specs.Calls.{Called}
use Rattle.worm_device.specs.Counts.{IsStill}
use Rattle.worm_device.specs.Overlays.{over, PlansNoMore}
use Rattle.worm_device.specs.State.{DeviceState}
use Rattle.worm_device.specs.Views.{IsView, ViewState}
use Rattle.worm_device.specs.declared.owner.Owner.{Owner}
use Rattle.hash_tree.specs.Inserting.{InsertsEntry, IsEntryInserted, IsPlaceTaken, PlansBucket, alone, with_node}
use Rattle.hash_tree.specs.Readiness.{IsReadyPlace, blank_in, blank_of, cost_of, owner_in}
use Rattle.hash_tree.specs.Rooting.{IsRooted, IsRootedBefore}
use Rattle.ingest_plan.specs.Granting.{GivesWhatIsLedTo, to_node}
use Rattle.ingest_plan.specs.declared.place.PathEnd.{PathEnd}
use Rattle.ingest_plan.specs.Indexes.{IndexEnds, IndexStandsAtCost, Indexes, HoldsIndexRecord, IsIndexed, in_list, in_tree}
use Rattle.ingest_plan.specs.Rows.{AreInOrder, AreInserted, InsertsRow, IsRowCell, of_posting, of_pointer, LiesInLists, in_first, in_pool}
use Rattle.ingest_plan.specs.Counts.{PlansAtCost}
use Rattle.ingest_plan.specs.Standing.{HasKeysBetween, IndexStands, ListsStand, RowStands}
use Rattle.ingest_plan.proofs.Counting.{bucket_at_cost, bucket_each, costs_then, none_planned}
use Rattle.ingest_plan.proofs.Granted.{StaysQuiet, gives_more, gives_on}
use Rattle.ingest_plan.proofs.Licensing.{licensable}

-- a place of a level lies in the level's node
place_within : (g : Layout) (level : Level) (bucket : ℕ) (child : Option ℕ) → nibble level.digest level.number < 16
    → Rattle.hash_tree.specs.Steps.IsOpenAt g level bucket child
    → (node_of g level ≤ blank_in bucket child) × (blank_in bucket child < node_of g level + 32)
place_within g level bucket None half at = (omega (arith, at), omega (arith, at, half))
place_within g level bucket (Some child) half at = (omega (arith, at.1), omega (arith, at.1, half))

root_node : (g : Layout) (level : Level) → level.led_by ≡ None → node_of g level ≡ root_at g
root_node g level first = ap (λ (led : Option ChildCell). Rattle.hash_tree.specs.Levels.node_in g led) first

led_on : (old new : Image) (led : Option ChildCell) → Extends old new → IsLedByChild old led → IsLedByChild new led
led_on old new None e is = tt
led_on old new (Some child) e is = (e.keeps child.cell child.found is.0, is.1)

-- no cell of the root is one of the lists
not_in_root : (g : Layout) (cell : ℕ) → root_at g ≤ cell → cell < root_at g + 32 → LiesInLists g cell → ⊥
not_in_root g cell from to (in_first l less low high) = omega (arith, less, high, from)
not_in_root g cell from to (in_pool low) = omega (arith, low, to)

module _ (g : Layout) (n : ℕ) (rows : List ListedPosting) (level : Level) (place : Open) (from next : ℕ) (old mid : ViewState)
    (order : AreInOrder g rows)
    (nothing : (cell : ℕ) → old.planned cell ≡ None) (unowned : (cell : ℕ) → old.owners cell ≡ None)
    (half : nibble level.digest level.number < 16) (number : level.number < 64) (open_at : IsOpenOf g level place)
    (floor : pool_at g ≤ old.fresh) (fresh : old.fresh ≤ next) (within : IsNodeWithin g old.fresh level.led_by)
    (led : IsTrue old.base.tells → IsLedByChild old.lower level.led_by)
    (called : Called old.base mid.base) (same : mid.fresh ≡ old.fresh) (lower : Extends old.lower mid.lower)
    (row : AreInserted g rows (length rows) from next old mid) where
  -- nothing is planned in the root
  root_free : (held : Option (List ℕ)) → mid.planned (blank_of place) ≡ held → level.led_by ≡ None
      → mid.planned (blank_of place) ≡ None
  root_free None is first = is
  root_free (Some value) is first =
      let at = place_within g level place.bucket place.child half open_at in
      let root = root_node g level first in
      ⊎_elim
      (λ was. absurd (none-some value (sym (nothing (blank_of place)) ∙ was)))
      (λ lies. absurd (not_in_root g (blank_of place) (omega (arith, at.0, root)) (omega (arith, at.1, root)) lies))
      (row.lie (blank_of place) value is)

  -- and nothing for the tree
  none_of_tree : mid.owners (blank_of place) ≢ Some (owner_in g (node_of g level))
  none_of_tree is = ⊎_elim
      (λ was. none-some (owner_in g (node_of g level)) (sym (unowned (blank_of place)) ∙ was))
      (λ h. omega (arith, h.4, order.lists_are h.0 h.1 h.3))
      (row.for_lists (blank_of place) (owner_in g (node_of g level)) is)

  pub tree_is_ready : IsReadyPlace g level place next mid
  tree_is_ready = record {
    number = number;
    open_at = open_at;
    from = omega (arith, floor, same);
    fresh = omega (arith, fresh, same);
    within = subst (λ (f : ℕ). IsNodeWithin g f level.led_by) (sym same) within;
    beyond = row.free;
    of_root = λ first. root_free (mid.planned (blank_of place)) refl first;
    of_others = none_of_tree;
    led = λ tells. led_on old.lower mid.lower level.led_by lower (led (subst IsTrue called.tells tells));
  }

  row_cell : (cell : ℕ) (value : List ℕ) → IsRowCell rows (length rows) cell value
      → (held : RecordCell) × IsIndexRecord held × IsRecordCell held cell value
  row_cell cell value (of_posting i p less is holds) = (posting_record p.posting, tt, holds)
  row_cell cell value (of_pointer target holds) = (Jump target, tt, holds)

  from_lists : (cell : ℕ) → LiesInLists g cell → lists_at g ≤ cell
  from_lists cell (in_first l less low high) = omega (arith, low)
  from_lists cell (in_pool low) = omega (arith, low)

  -- what the postings planned
  pub row_is_index : (cell : ℕ) (value : List ℕ) → mid.planned cell ≡ Some value → HoldsIndexRecord g cell value
  row_is_index cell value is = ⊎_elim
      (λ was. absurd (none-some value (sym (nothing cell) ∙ was)))
      (λ is_row.
      let kind = row_cell cell value is_row in
      record {
        held = kind.0;
        index = kind.1;
        is = kind.2;
        from = ⊎_elim (λ was. absurd (none-some value (sym (nothing cell) ∙ was))) (λ lies. from_lists cell lies)
            (row.lie cell value is);
      })
      (row.added cell value is)

  node_from : lists_at g ≤ node_of g level
  node_from = by_led level.led_by refl
    where
      by_led : (led_by : Option ChildCell) → level.led_by ≡ led_by → lists_at g ≤ node_of g level
      by_led None is = omega (arith, root_node g level is)
      by_led (Some child) is =
          let w : IsNodeWithin g old.fresh (Some child) = subst (λ (l : Option ChildCell). IsNodeWithin g old.fresh l) is within in
          let same : node_of g level ≡ child.target = ap (λ (l : Option ChildCell). Rattle.hash_tree.specs.Levels.node_in g l) is in
          omega (arith, w.0, same)

  module _ (pool rest : Pool) (new : ViewState) (at : ℕ) (inserted : IsEntryInserted g level place n at pool rest mid new)
      (from_pool : pool.next ≡ next) where
    planned_there : {at : ℕ} {r : RecordCell} {owner : Owner} → HoldsPlanned at r owner mid new → (cell : ℕ) (value : List ℕ)
        → cell ≡ at → new.planned cell ≡ Some value → IsIndexRecord r → lists_at g ≤ at → HoldsIndexRecord g cell value
    planned_there {at} {r} {owner} holds cell value here is index from =
        let there : new.planned at ≡ Some value = subst (λ (c : ℕ). new.planned c ≡ Some value) here is in
        let e : holds.planned.cell ≡ value = (let k : Some holds.planned.cell ≡ Some value = sym holds.planned.stands ∙ there in cc) in
        record {
          held = r;
          index = index;
          is = subst (λ (c : ℕ). IsRecordCell r c value) (sym here) (subst (λ (v : List ℕ). IsRecordCell r at v) e holds.planned.is);
          from = omega (arith, from, here);
        }

    only_now : PlansBucket g level place n at pool rest mid new → (cell : ℕ) (value : List ℕ) → new.planned cell ≡ Some value
        → HoldsIndexRecord g cell value
    only_now (alone none same_at holds others small same_pool) cell value is = ⊎_elim
        (λ here. planned_there holds cell value here is tt (omega (arith, same_at, node_from)))
        (λ differs. row_is_index cell value (sym (others cell differs).planned ∙ is))
        (cases_eq cell at)
    only_now (with_node child is_child child_is less leads at_is holds others small below takes) cell value is = ⊎_elim
        (λ here. planned_there leads cell value here is tt (omega (arith, child_is, node_from)))
        (λ differs. ⊎_elim
        (λ here. planned_there holds cell value here is tt (omega (arith, at_is, from_pool, fresh, floor)))
        (λ differs_too. row_is_index cell value (sym (others cell differs differs_too).planned ∙ is))
        (cases_eq cell at))
        (cases_eq cell child)

    -- what the postings planned is planned still
    kept_now : PlansBucket g level place n at pool rest mid new → Extends mid.planned new.planned
    kept_now (alone none same_at holds others small same_pool) = record {
      keeps = λ cell value is. ⊎_elim
          (λ (here : cell ≡ at). absurd (none-some value (sym (subst (λ (c : ℕ). mid.planned c ≡ None) (sym here) holds.free) ∙ is)))
          (λ differs. (others cell differs).planned ∙ is)
          (cases_eq cell at);
    }
    kept_now (with_node child is_child child_is less leads at_is holds others small below takes) = record {
      keeps = λ cell value is. ⊎_elim
          (λ (here : cell ≡ child). absurd (none-some value (sym (subst (λ (c : ℕ). mid.planned c ≡ None) (sym here) leads.free) ∙ is)))
          (λ differs. ⊎_elim
          (λ (here : cell ≡ at). absurd (none-some value (sym (subst (λ (c : ℕ). mid.planned c ≡ None) (sym here) holds.free) ∙ is)))
          (λ differs_too. (others cell differs differs_too).planned ∙ is)
          (cases_eq cell at))
          (cases_eq cell child);
    }

    -- a node that the pool gave is one that the child cell leads to
    given_now : PlansBucket g level place n at pool rest mid new → GivesWhatIsLedTo new.planned from rest.next
    given_now (alone none same_at holds others small same_pool) =
        gives_on (kept_now (alone none same_at holds others small same_pool))
        (ap (λ (p : Pool). p.next) same_pool ∙ from_pool) row.grants
    given_now (with_node child is_child child_is less leads at_is holds others small below takes) =
        gives_more next 32
        (kept_now (with_node child is_child child_is less leads at_is holds others small below takes))
        (takes.next ∙ ap (λ (n : ℕ). n + 32) from_pool)
        (to_node child (subst (λ (n : ℕ). Holds new.planned child (Child n)) from_pool leads.planned) refl) row.grants

    -- a node is taken under a child cell
    node_taken : PlansBucket g level place n at pool rest mid new → (child : ℕ) → place.child ≡ Some child
        → rest.next ≡ next + 32
    node_taken (alone none same_at holds others small same_pool) child is = absurd (none-some child (sym none ∙ is))
    node_taken (with_node child is_child child_is less leads at_is holds others small below takes) other is =
        omega (arith, takes.next, from_pool)

    still_row : new.base ≡ mid.base → IsStill old.base.foreign_writes new.base.foreign_writes
        → IsStill old.base.foreign_writes mid.base.foreign_writes
    still_row same_base still =
        subst (λ (b : DeviceState). IsStill old.base.foreign_writes b.foreign_writes) same_base still

    -- what is not planned reads as it did
    unplanned_now : PlansBucket g level place n at pool rest mid new
        → IsStill old.base.foreign_writes mid.base.foreign_writes → (cell : ℕ) → new.planned cell ≡ None
        → new.image cell ≡ old.image cell
    unplanned_now (alone none same_at holds others small same_pool) still cell free =
        let as_before = others cell (λ same. none-some holds.planned.cell
        (sym free ∙ ap new.planned same ∙ holds.planned.stands)) in
        as_before.image ∙ row.unplanned still cell (sym as_before.planned ∙ free)
    unplanned_now (with_node child is_child child_is less leads at_is holds others small below takes) still cell free =
        let as_before = others cell
        (λ same. none-some leads.planned.cell (sym free ∙ ap new.planned same ∙ leads.planned.stands))
        (λ same. none-some holds.planned.cell (sym free ∙ ap new.planned same ∙ holds.planned.stands)) in
        as_before.image ∙ row.unplanned still cell (sym as_before.planned ∙ free)

    shows_by : IsView new → new.base ≡ mid.base → IsStill old.base.foreign_writes new.base.foreign_writes → (cell : ℕ)
        → (held : Option (List ℕ)) → new.planned cell ≡ held → new.image cell ≡ over held (old.image cell)
    shows_by view same_base still cell (Some value) is = view.planned.keeps cell value is
    shows_by view same_base still cell None is = unplanned_now inserted.plans (still_row same_base still) cell is

    -- what is planned read blank, where the place did
    blank_now : IsView old → PlansBucket g level place n at pool rest mid new → IsTrue old.base.tells
        → old.image (blank_of place) ≡ None → (cell : ℕ) (value : List ℕ) → new.planned cell ≡ Some value
        → old.image cell ≡ None
    blank_now view (alone none same_at holds others small same_pool) tells blank cell value is = ⊎_elim
        (λ (here : cell ≡ at). ap old.image (here ∙ same_at ∙ sym (bucket_place none)) ∙ blank)
        (λ differs. row.blank tells cell (nothing cell) value (sym (others cell differs).planned ∙ is))
        (cases_eq cell at)
      where
        bucket_place : place.child ≡ None → blank_of place ≡ bucket_at g level
        bucket_place none =
            ap (λ (c : Option ℕ). blank_in place.bucket c) none
            ∙ subst (λ (c : Option ℕ). Rattle.hash_tree.specs.Steps.IsOpenAt g level place.bucket c) none open_at
    blank_now view (with_node child is_child child_is less leads at_is holds others small below takes) tells blank cell
        value is = ⊎_elim
        (λ (here : cell ≡ child).
        ap old.image (here ∙ sym (ap (λ (c : Option ℕ). blank_in place.bucket c) is_child)) ∙ blank)
        (λ differs. ⊎_elim
        (λ (here : cell ≡ at).
        view.beyond cell (nothing cell) (omega (arith, here, at_is, from_pool, fresh)))
        (λ also. row.blank tells cell (nothing cell) value (sym (others cell differs also).planned ∙ is))
        (cases_eq cell at))
        (cases_eq cell child)

    -- the lists behind the postings, and the tree behind the bucket
    stands_now : new.base ≡ mid.base → next ≤ rest.next → IsTrue old.base.tells → IsStill old.base.foreign_writes new.base.foreign_writes
        → {behind : ℕ → ℕ} → (lists : RowStands g behind rows (length rows) from next old.image mid.image)
        → IndexStands g n behind rows level place from rest.next old.image new.image
    stands_now same_base further tells still lists = record {
      between = mid.image;
      next = next;
      more = further;
      node = node_taken inserted.plans;
      lists = lists;
      tree = λ before.
          subst (λ (m : ℕ). IsRooted g level place n m rest.next mid.image new.image) from_pool
          (inserted.rooted (subst (λ (m : ℕ). IsRootedBefore g level place m mid.image) (sym from_pool) before));
      need = inserted.need;
    }

    -- and as many cells as they cost
    cost_now : new.base ≡ mid.base → next ≤ rest.next → IsTrue old.base.tells → IsStill old.base.foreign_writes new.base.foreign_writes
        → (bound behind : ℕ → ℕ) → HasKeysBetween rows bound behind → ListsStand g old.image from bound
        → IndexStandsAtCost g n behind rows level place from rest.next old.image new.image new.planned
    unfolding stands_now
    cost_now same_base further tells still bound behind between lists =
        let r = row.lists tells (still_row same_base still) bound behind between lists in
        let by_bucket : PlansAtCost mid.planned new.planned next rest.next (cost_of place) =
        subst (λ (m : ℕ). PlansAtCost mid.planned new.planned m rest.next (cost_of place)) from_pool
        (bucket_at_cost g level place n at pool rest mid new inserted.plans) in
        let all = costs_then r.0.cost (cost_of place) r.0.more further r.1 by_bucket 0 (none_planned nothing) in
        record {
          stands = stands_now same_base further tells still r.0;
          count = all.0;
          cells = all.1;
          cost = omega (arith, all.2);
        }

    pub index_is_done : IsView old → IsView mid → IsView new → new.lower ≡ mid.lower → new.base ≡ mid.base → next ≤ rest.next
        → IsIndexed g n rows level place from rest.next old new
    index_is_done first view last below same_base further = record {
      only = only_now inserted.plans;
      before = inserted.beyond;
      taken =
          bucket_each g level place n at pool rest old.planned mid new (length rows) row.taken inserted.plans;
      grants = given_now inserted.plans;
      trails = λ tells image has_lower has_planned i p is.
          let stands = row.stand tells i p (slice_get_within rows i p is) is in
          let lower_there : Extends mid.lower image = subst (λ (l : Image). Extends l image) below has_lower in
          let all = planned_show mid image view lower_there (extends_then (kept_now inserted.plans) has_planned) in
          record {
            at = stands.at;
            trail = Rattle.volume_meaning.proofs.Trails.trail_wider (pool_at g) rest.next (omega arith) further
                (trail_on all stands.trail);
          };
      path = inserted.trail;
      shows = λ still cell. shows_by last same_base still cell (new.planned cell) refl;
      blank = blank_now first inserted.plans;
      stands = cost_now same_base further;
    }

-- what is taken is taken still, where nothing was planned
taken_still : (g : Layout) (level : Level) (place : Open) (mid new : ViewState) (e : Rattle.cell_types.specs.declared.refusal.Evidence.Evidence)
    → PlansNoMore mid new → new.lower ≡ mid.lower → new.base ≡ mid.base → IsPlaceTaken g level place mid e → IsPlaceTaken g level place new e
taken_still g level place mid new e same lower base t = record {
  planned = record { found = t.planned.found; stands = same.planned (blank_of place) ∙ t.planned.stands };
  shown = record { found = t.shown.found; stands = same.image (blank_of place) ∙ t.shown.stands };
  owner = t.owner;
  for_whom = same.owners (blank_of place) ∙ t.for_whom;
  another = t.another;
  from = t.from;
  to = t.to;
  child = t.child;
  led = t.led;
  rule = t.rule;
  cell = t.cell;
  found = t.found;
  stands = λ tells. ap (λ (l : Image). l e.cell) lower ∙ t.stands (subst (λ (b : DeviceState). IsTrue b.tells) base tells);
  leads = λ tells. t.leads (subst (λ (b : DeviceState). IsTrue b.tells) base tells);
}

-- the postings were refused
pub row_ends : (g : Layout) (n : ℕ) (rows : List ListedPosting) (end : PathEnd) (from to : ℕ)
    (old new : ViewState) (fault : GrowthFault) → ((cell : ℕ) → old.planned cell ≡ None)
    → InsertsRow g rows from to old new (Err fault) → Indexes g n rows end from to old new (Err fault)
row_ends g n rows end from to old new fault nothing inserts = record {
  called = inserts.called;
  cells = inserts.cells;
  fresh = inserts.fresh;
  loans = inserts.loans;
  lower = inserts.lower;
  quiet = inserts.quiet;
  ends = why fault inserts;
} where
  why : (fault : GrowthFault) → InsertsRow g rows from to old new (Err fault)
      → IndexEnds g n rows end.level end.place from to old new (Err fault)
  why (Fault faults.Failed) inserts = inserts.ends
  why (Fault (faults.Tampered e)) inserts = λ tells.
      let h = inserts.ends tells in (in_list h.0.0 h.0.1 h.0.2 h.0.3, h.1 nothing)
  why (NoMemory lack) inserts = tt

-- the postings were inserted, and then the bucket was planned or refused
pub entry_ends : (g : Layout) (n : ℕ) (rows : List ListedPosting) (end : PathEnd) (from next : ℕ)
    (pool rest : Pool) (old mid new : ViewState) (result : Result ℕ GrowthFault) (answer : Result Unit GrowthFault)
    → InsertsRow g rows from next old mid (Ok tt) → InsertsEntry g end.level end.place n pool rest mid new result
    → IndexEnds g n rows end.level end.place from rest.next old new answer
    → Indexes g n rows end from rest.next old new answer
entry_ends g n rows end from next pool rest old mid new result answer row entry ends = record {
  called = subst (λ (b : DeviceState). Called old.base b) (sym entry.base) row.called;
  cells = entry.cells ∙ row.cells;
  fresh = entry.fresh ∙ row.fresh;
  loans = entry.loans ∙ row.loans;
  lower = subst (λ (l : Image). Extends old.lower l) (sym entry.lower) row.lower;
  quiet = subst (λ (b : DeviceState). StaysQuiet old.base b) (sym entry.base) row.quiet;
  ends = ends;
}

pub entry_refused : (g : Layout) (n : ℕ) (rows : List ListedPosting) (level : Level) (place : Open) (from next : ℕ)
    (pool rest : Pool) (old mid new : ViewState) (fault : GrowthFault) → IsView old
    → ((cell : ℕ) → old.planned cell ≡ None) → InsertsRow g rows from next old mid (Ok tt)
    → InsertsEntry g level place n pool rest mid new (Err fault)
    → IndexEnds g n rows level place from rest.next old new (Err fault)
entry_refused g n rows level place from next pool rest old mid new (Fault faults.Failed) view nothing row entry =
    absurd entry.ends
entry_refused g n rows level place from next pool rest old mid new (Fault (faults.Tampered e)) view nothing row entry =
    λ tells. (
      in_tree (taken_still g level place mid new e entry.ends.2 entry.lower entry.base entry.ends.0),
      licensable view nothing tells row.ends row.fresh entry.fresh entry.ends.2.planned entry.ends.2.owners
          (subst (λ (l : Image). Extends mid.lower l) (sym entry.lower) (extends_self mid.lower)),
    )
entry_refused g n rows level place from next pool rest old mid new (NoMemory lack) view nothing row entry = tt

-- the pool has given cells, or none
pub taken_on : (g : Layout) (level : Level) (place : Open) (n at : ℕ) (pool rest : Pool) (mid new : ViewState)
    → PlansBucket g level place n at pool rest mid new → pool.next ≤ rest.next
taken_on g level place n at pool rest mid new (alone none same_at holds others small same_pool) =
    omega (arith, ap (λ (p : Pool). p.next) same_pool)
taken_on g level place n at pool rest mid new (with_node child is_child child_is less leads at_is holds others small below takes) =
    omega (arith, takes.next)
