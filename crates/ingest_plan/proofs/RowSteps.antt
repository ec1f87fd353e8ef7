-- One posting of the row after another.
use Rattle.std.proofs.Common.{◌≡◌, ◌≢◌, ◌<◌, ◌≤◌, ◌+◌, ◌⊎◌, ⊎_elim, inl, inr, ℕ, List, Option, Some, None, Ok, Err, refl, ap, sym, subst, arith, ◌∙◌}
use Rattle.std.specs.Prelude.{IsTrue, slice_get}
use Rattle.std.proofs.lemmas.Bool.{cases_eq, cases_lt}
use Rattle.std.proofs.lemmas.Option.{none-some}
use Rattle.cell_types.specs.Image.{Image, Extends}
use Rattle.cell_types.specs.Layout.{Layout, list_at, pool_at, all_lists}
use Rattle.cell_types.specs.declared.refusal.Fault.TheVariants as faults
use Rattle.cell_types.specs.declared.record_cell.RecordCell.TheVariants.{Jump}
use Rattle.volume_meaning.specs.Postings.{ComesBefore, ListedPosting}
use Rattle.volume_meaning.proofs.Trails.{trail_on, trail_wider}
use Rattle.volume_meaning.specs.Volumes.{Holds}
use Rattle.cell_pool.specs.Grants.{TakesFront}
use Rattle.cell_pool.specs.declared.pool.Pool.{Pool}
use Rattle.jump_block.specs.Entries.{cell_of}
use Rattle.jump_block.specs.declared.held_entry.Entry.{Entry}
use Rattle.cell_pool.specs.declared.fault.GrowthFault.{GrowthFault}
use Rattle.cell_pool.specs.declared.fault.GrowthFault.TheVariants.{Fault, NoMemory}
use Rattle.ingest_laws.specs.ListShapes.{IsWellListed}
use Rattle.worm_device.specs.Counts.{IsStill}
use Rattle.worm_device.proofs.Counting.{still_first, still_second}
use Rattle.worm_device.proofs.Elapsing.{called_self, called_then}
use Rattle.worm_device.proofs.Images.{extends_self, extends_then}
use Rattle.worm_device.specs.Views.{IsView, ViewState}
use Rattle.worm_device.specs.declared.owner.Owner.{Owner}
use Rattle.jump_insertion.specs.Growing.{Grows}
use Rattle.jump_insertion.specs.Inserting.{InsertsPosting, PlansEntry, alone, with_pointer}
use Rattle.jump_insertion.specs.Readiness.{IsReadyList, IsUntouched}
use Rattle.ingest_plan.specs.Rows.{AreInOrder, AreInserted, AreUntouched, InsertsRow, IsRowCell, of_posting, of_pointer, LiesInLists, in_first, in_pool, RowSoFar, StandsInList}
use Rattle.ingest_plan.specs.Granting.{GivesWhatIsLedTo, to_block}
use Rattle.ingest_plan.specs.Counts.{PlansAtCost}
use Rattle.ingest_plan.proofs.Counting.{insertion_at_cost, none_each, posting_each}
use Rattle.ingest_plan.proofs.Granted.{gives_more, gives_nothing, gives_on, quiet_then}
use Rattle.jump_insertion.proofs.Untouched.{stays_untouched, untouched_ready}
use Rattle.ingest_plan.proofs.Others.{IsNear, IsHeld, held_before, held_posting, held_pointer, IsOwned, as_before, anew, held_in, owned_in, plans_blank, plans_keep, plans_no_other}
use Rattle.ingest_plan.specs.Standing.{HasKeysBetween, KeysSoFar, ListsStand, RowStands}
use Rattle.ingest_plan.proofs.Licensing.{licensable, places_next}
use Rattle.ingest_plan.proofs.Standing.{keys_first, keys_next, stands_first_at_cost, stands_next_at_cost}

-- no posting is inserted yet
pub row_begins : (g : Layout) (rows : List ListedPosting) (pool : Pool) (s : ViewState)
    → ((cell : ℕ) → pool.next ≤ cell → s.planned cell ≡ None) → (IsTrue s.base.tells → AreUntouched g s)
    → RowSoFar g rows 0 pool pool s s
row_begins g rows pool s free untouched = record {
  called = called_self s.base;
  cells = refl;
  fresh = refl;
  loans = refl;
  lower = extends_self s.lower;
  quiet = λ still cell. refl;
  from = omega arith;
  to = omega arith;
  end = refl;
  inserted = record {
    kept = extends_self s.planned;
    owners = λ cell owner is. is;
    added = λ cell value is. inl is;
    lie = λ cell value is. inl is;
    for_lists = λ cell owner is. inl is;
    free = free;
    taken = none_each s.planned;
    grants = gives_nothing s.planned pool.next;
    shown = λ tells. extends_self s.image;
    blank = λ tells cell none value is. absurd (none-some value (sym none ∙ is));
    places = λ tells inside before. before;
    stand = λ tells i p less is. absurd (omega (arith, less));
    unplanned = λ still cell none. refl;
    lists = λ tells still bound behind keys lists. stands_first_at_cost s.planned keys lists;
  };
  untouched = λ tells l less before. untouched tells l less;
  ready = λ tells a less before. untouched_ready s (list_at g a.list) (pool_at g) pool.next a.posting.key (untouched tells a.list less);
  keys = λ tells still bound behind keys lists. keys_first rows lists;
}

lists_apart : (g : Layout) (l k : ℕ) → l ≢ k
    → (list_at g l + 256 ≤ list_at g k) ⊎ (list_at g k + 256 ≤ list_at g l)
lists_apart g l k differs = ⊎_elim (λ less. inl (omega (arith, less)))
    (λ le. inr (omega (arith, le, differs))) (cases_lt l k)

list_below : (g : Layout) (l : ℕ) → l < all_lists g → list_at g l + 256 ≤ pool_at g
list_below g l less = omega (arith, less)

more : (rows : List ListedPosting) (count cell : ℕ) (value : List ℕ) → IsRowCell rows count cell value
    → IsRowCell rows (count + 1) cell value
more rows count cell value (of_posting i p less is holds) = of_posting i p (omega (arith, less)) is holds
more rows count cell value (of_pointer target holds) = of_pointer target holds

module _ (g : Layout) (rows : List ListedPosting) (i : ℕ) (first pool later : Pool) (old mid new : ViewState) (p : ListedPosting)
    (e : Entry) (order : AreInOrder g rows) (here : slice_get rows i ≡ Some p)
    (roomy : pool_at g ≤ first.next) (so : RowSoFar g rows i first pool old mid)
    (unowned : (cell : ℕ) → mid.planned cell ≡ None → mid.owners cell ≡ None)
    (takes : (later ≡ pool) ⊎ TakesFront pool later 256 pool.next)
    (inserts : InsertsPosting (list_at g p.list) (pool_at g) pool.next later.next p.posting mid new (Ok e)) where
  in_list : p.list < all_lists g
  in_list = order.lists_are i p here

  plans : PlansEntry (list_at g p.list) (pool_at g) pool.next later.next p.posting (cell_of e) mid new
  plans = inserts.ends.3

  told : IsTrue old.base.tells → IsTrue mid.base.tells
  told tells = subst IsTrue (sym so.called.tells) tells

  pool_on : (pool.next ≤ later.next) × (later.next ≤ pool.next + 256) × (later.end ≡ pool.end)
  pool_on = ⊎_elim (λ same. (omega (arith, ap (λ (q : Pool). q.next) same), omega (arith, ap (λ (q : Pool). q.next) same), ap (λ (q : Pool). q.end) same))
      (λ t. (omega (arith, t.next), omega (arith, t.next), t.end)) takes

  the_posting : (q : ListedPosting) (j : ℕ) → j ≡ i → slice_get rows j ≡ Some q → q ≡ p
  the_posting q j same is =
      let k : Some q ≡ Some p = sym is ∙ ap (λ (m : ℕ). slice_get rows m) same ∙ here in cc

  kept_here : Extends mid.planned new.planned
  kept_here = record { keeps = λ cell value is. (plans_keep plans cell value is).0 }

  owner_kept : (cell : ℕ) (owner : Owner) → (held : Option (List ℕ)) → mid.planned cell ≡ held → mid.owners cell ≡ Some owner
      → new.owners cell ≡ Some owner
  owner_kept cell owner (Some value) is has = (plans_keep plans cell value is).1 ∙ has
  owner_kept cell owner None is has = absurd (none-some owner (sym (unowned cell is) ∙ has))

  added_now : (cell : ℕ) (value : List ℕ) → IsHeld (list_at g p.list) (pool_at g) p.posting mid cell value
      → (old.planned cell ≡ Some value) ⊎ IsRowCell rows (i + 1) cell value
  added_now cell value (held_before is) = ⊎_elim (λ was. inl was) (λ row. inr (more rows i cell value row)) (so.inserted.added cell value is)
  added_now cell value (held_posting free near holds) = inr (of_posting i p (omega arith) here holds)
  added_now cell value (held_pointer target free near holds) = inr (of_pointer target holds)

  near_now : (cell : ℕ) → IsNear (list_at g p.list) (pool_at g) cell → LiesInLists g cell
  near_now cell near = ⊎_elim
      (λ same. in_first p.list in_list (omega (arith, near.from, same)) (omega (arith, near.to, same)))
      (λ past. in_pool (omega (arith, near.from, past)))
      near.where_blocks_lie

  lies_now : (cell : ℕ) (value : List ℕ) → IsHeld (list_at g p.list) (pool_at g) p.posting mid cell value
      → (old.planned cell ≡ Some value) ⊎ LiesInLists g cell
  lies_now cell value (held_before is) = so.inserted.lie cell value is
  lies_now cell value (held_posting free near holds) = inr (near_now cell near)
  lies_now cell value (held_pointer target free near holds) = inr (near_now cell near)

  for_now : (cell : ℕ) (owner : Owner) → IsOwned (list_at g p.list) (pool_at g) mid cell owner
      → (old.owners cell ≡ Some owner)
      ⊎ ((j : ℕ) × (q : ListedPosting) × (j < i + 1) × (slice_get rows j ≡ Some q) × (owner.head ≡ list_at g q.list))
  for_now cell owner (as_before is) = ⊎_elim (λ was. inl was)
      (λ h. inr (h.0, h.1, omega (arith, h.2), h.3, h.4)) (so.inserted.for_lists cell owner is)
  for_now cell owner (anew head from to place) = inr (i, p, omega arith, here, head)

  blank_now : IsTrue old.base.tells → (cell : ℕ) → old.planned cell ≡ None → (value : List ℕ) → new.planned cell ≡ Some value
      → (held : Option (List ℕ)) → mid.planned cell ≡ held → old.image cell ≡ None
  blank_now tells cell none value is (Some other) held = so.inserted.blank tells cell none other held
  blank_now tells cell none value is None free = shown_blank (old.image cell) refl
    where
      shown_blank : (found : Option (List ℕ)) → old.image cell ≡ found → old.image cell ≡ None
      shown_blank None same = same
      shown_blank (Some held) same =
          absurd (none-some held (sym (plans_blank plans (told tells) cell value free is) ∙ (so.inserted.shown tells).keeps cell held same))

  stand_now : IsTrue old.base.tells → (j : ℕ) (q : ListedPosting) → j < i + 1 → slice_get rows j ≡ Some q
      → StandsInList g new later.next q
  stand_now tells j q less is =
      let done = inserts.ends.5 (told tells) in
      ⊎_elim
      (λ (same : j ≡ i).
      let P : ListedPosting → Type 0 = λ r. StandsInList g new later.next r in
      subst P (sym (the_posting q j same is))
      (record { at = cell_of e; trail = done.trail; planned = planned_posting plans }))
      (λ differs.
      let before = so.inserted.stand tells j q (omega (arith, less, differs)) is in
      record {
        at = before.at;
        trail = trail_wider (pool_at g) later.next (omega arith) pool_on.0 (trail_on done.shown before.trail);
        planned = record {
          cell = before.planned.cell;
          stands = kept_here.keeps before.at before.planned.cell before.planned.stands;
          is = before.planned.is;
        };
      })
      (cases_eq j i)
    where
      planned_posting : PlansEntry (list_at g p.list) (pool_at g) pool.next later.next p.posting (cell_of e) mid new
          → Holds new.planned (cell_of e) (Rattle.volume_meaning.specs.Blocks.posting_record p.posting)
      planned_posting (alone one rest same) = one.held
      planned_posting (with_pointer pointer target one other apart rest taken) = one.held

  untouched_now : IsTrue old.base.tells → (l : ℕ) → l < all_lists g
      → ((j : ℕ) (q : ListedPosting) → j < i + 1 → slice_get rows j ≡ Some q → q.list < l) → IsUntouched new (list_at g l)
  untouched_now tells l less before =
      let behind : p.list < l = before i p (omega arith) here in
      stays_untouched (list_at g p.list) (pool_at g) mid new (list_at g l) (λ same. omega (arith, same, behind))
      (lists_apart g l p.list (λ same. omega (arith, same, behind))) (list_below g l less) pool.next later.next
      p.posting (cell_of e) plans (so.untouched tells l less (λ j q small is. before j q (omega (arith, small)) is))

  ready_now : IsTrue old.base.tells → (a : ListedPosting) → a.list < all_lists g
      → ((j : ℕ) (q : ListedPosting) → j < i + 1 → slice_get rows j ≡ Some q → ComesBefore q a)
      → IsReadyList new (list_at g a.list) (pool_at g) later.next a.posting.key
  ready_now tells a less before = ⊎_elim
      (λ (behind : p.list < a.list).
      untouched_ready new (list_at g a.list) (pool_at g) later.next a.posting.key
      (untouched_now tells a.list less (λ j q small is. all_behind behind j q small is)))
      (λ (same : (p.list ≡ a.list) × (p.posting.key < a.posting.key)).
      subst (λ (l : ℕ). IsReadyList new (list_at g l) (pool_at g) later.next a.posting.key) same.0
      ((inserts.ends.5 (told tells)).ready a.posting.key same.1))
      (before i p (omega arith) here)
    where
      all_behind : p.list < a.list → (j : ℕ) (q : ListedPosting) → j < i + 1 → slice_get rows j ≡ Some q → q.list < a.list
      all_behind behind j q small is = ⊎_elim
          (λ (same : j ≡ i). omega (arith, behind, ap (λ (r : ListedPosting). r.list) (the_posting q j same is)))
          (λ differs. ⊎_elim (λ (lower : q.list < p.list). omega (arith, lower, behind))
          (λ (equal : (q.list ≡ p.list) × (q.posting.key < p.posting.key)). omega (arith, equal.0, behind))
          (order.order j i q p (omega (arith, small, differs)) is here))
          (cases_eq j i)

  -- a block that the pool gave is one that the pointer leads to
  granted_now : PlansEntry (list_at g p.list) (pool_at g) pool.next later.next p.posting (cell_of e) mid new
      → GivesWhatIsLedTo new.planned first.next later.next
  granted_now (alone one rest same) = gives_on kept_here same so.inserted.grants
  granted_now (with_pointer pointer target one other apart rest taken) = ⊎_elim
      (λ same. gives_on kept_here same so.inserted.grants)
      (λ (took : (target ≡ pool.next) × (later.next ≡ pool.next + 256)).
      gives_more pool.next 256 kept_here took.1
      (to_block pointer (subst (λ (n : ℕ). Holds new.planned pointer (Jump n)) took.0 other.held) refl)
      so.inserted.grants)
      taken

  -- the list grew by the posting where nobody else wrote
  still_before : IsStill old.base.foreign_writes new.base.foreign_writes
      → IsStill old.base.foreign_writes mid.base.foreign_writes
  still_before still = still_first so.called.foreign_writes inserts.called.foreign_writes still

  still_here : IsStill old.base.foreign_writes new.base.foreign_writes
      → IsStill mid.base.foreign_writes new.base.foreign_writes
  still_here still = still_second so.called.foreign_writes inserts.called.foreign_writes still

  unplanned_now : IsStill old.base.foreign_writes new.base.foreign_writes → (cell : ℕ) → new.planned cell ≡ None
      → new.image cell ≡ old.image cell
  unplanned_now still cell none =
      let h = plans_no_other plans (still_here still) cell none in
      h.1 ∙ so.inserted.unplanned (still_before still) cell h.0

  grew : IsTrue old.base.tells → IsStill old.base.foreign_writes new.base.foreign_writes
      → {behind : ℕ → ℕ} → RowStands g behind rows i first.next pool.next old.image mid.image
      → IsWellListed new.image (pool_at g) later.next (list_at g p.list)
      × ((cost : ℕ) × Grows mid.image new.image (pool_at g) pool.next later.next (list_at g p.list)
      p.posting cost)
  grew tells still s = (inserts.ends.5 (told tells)).grows
      (still_here still) (s.lists.well p.list in_list)

  lists_now : IsTrue old.base.tells → IsStill old.base.foreign_writes new.base.foreign_writes
      → (bound behind : ℕ → ℕ) → HasKeysBetween rows bound behind → ListsStand g old.image first.next bound
      → (stands : RowStands g behind rows (i + 1) first.next later.next old.image new.image)
      × PlansAtCost old.planned new.planned first.next later.next stands.cost
  lists_now tells still bound behind between lists =
      let s = so.inserted.lists tells (still_before still) bound behind between lists in
      let h = grew tells still s.0 in
      stands_next_at_cost order between here (omega (arith, roomy, so.from)) s.0
      (so.keys tells (still_before still) bound behind between lists) h.0 h.1.1 s.1
      (insertion_at_cost (told tells) (still_here still) plans h.1.1)

  keys_now : IsTrue old.base.tells → IsStill old.base.foreign_writes new.base.foreign_writes
      → (bound behind : ℕ → ℕ) → HasKeysBetween rows bound behind → ListsStand g old.image first.next bound
      → KeysSoFar g bound rows (i + 1) new.image later.next
  keys_now tells still bound behind between lists =
      let s = (so.inserted.lists tells (still_before still) bound behind between lists).0 in
      let h = grew tells still s in
      keys_next order between here (omega (arith, roomy, so.from)) s
      (so.keys tells (still_before still) bound behind between lists) h.0 h.1.1

  pub row_next : RowSoFar g rows (i + 1) first later old new
  row_next = record {
    called = called_then so.called inserts.called;
    cells = inserts.cells ∙ so.cells;
    fresh = inserts.fresh ∙ so.fresh;
    loans = inserts.loans ∙ so.loans;
    lower = extends_then so.lower inserts.lower;
    quiet = quiet_then so.called inserts.called so.quiet inserts.quiet;
    from = omega (arith, so.from, pool_on.0);
    to = omega (arith, so.to, pool_on.1);
    end = pool_on.2 ∙ so.end;
    inserted = record {
      kept = extends_then so.inserted.kept kept_here;
      owners = λ cell owner is. owner_kept cell owner (mid.planned cell) refl (so.inserted.owners cell owner is);
      added = λ cell value is. added_now cell value (held_in plans cell value is);
      lie = λ cell value is. lies_now cell value (held_in plans cell value is);
      for_lists = λ cell owner is. for_now cell owner (owned_in plans cell owner is);
      free = inserts.ends.4;
      taken = posting_each i so.inserted.taken plans;
      grants = granted_now plans;
      shown = λ tells. extends_then (so.inserted.shown tells) (inserts.ends.5 (told tells)).shown;
      blank = λ tells cell none value is. blank_now tells cell none value is (mid.planned cell) refl;
      places = λ tells inside before.
          places_next in_list plans (inserts.ends.5 (told tells)).ready inserts.lower inserts.fresh inside
          (so.inserted.places tells (omega (arith, inside, inserts.fresh)) before);
      stand = stand_now;
      unplanned = unplanned_now;
      lists = lists_now;
    };
    untouched = untouched_now;
    ready = ready_now;
    keys = keys_now;
  }

-- a posting was refused
pub row_refused : (g : Layout) (rows : List ListedPosting) (i : ℕ) (first pool later : Pool) (old mid new : ViewState)
    (p : ListedPosting) (fault : GrowthFault) → IsView old → slice_get rows i ≡ Some p
    → RowSoFar g rows i first pool old mid
    → InsertsPosting (list_at g p.list) (pool_at g) pool.next later.next p.posting mid new (Err fault)
    → InsertsRow g rows first.next later.next old new (Err fault)
row_refused g rows i first pool later old mid new p fault view here so inserts = record {
  called = called_then so.called inserts.called;
  cells = inserts.cells ∙ so.cells;
  fresh = inserts.fresh ∙ so.fresh;
  loans = inserts.loans ∙ so.loans;
  lower = extends_then so.lower inserts.lower;
  quiet = quiet_then so.called inserts.called so.quiet inserts.quiet;
  ends = why fault inserts;
} where
  why : (fault : GrowthFault) → InsertsPosting (list_at g p.list) (pool_at g) pool.next later.next p.posting mid new (Err fault)
      → Rattle.ingest_plan.specs.Rows.InsertRowEnds g rows first.next later.next old new (Err fault)
  why (Fault faults.Failed) inserts = omega (arith, inserts.ends, so.called.faults)
  why (Fault (faults.Tampered e)) inserts = λ tells.
      let h = inserts.ends (subst IsTrue (sym so.called.tells) tells) in (
        (i, p, here, h.0),
        λ nothing.
            licensable view nothing tells so.inserted so.fresh inserts.fresh
            (λ cell. ap (λ (f : Image). f cell) h.2.planned) (λ cell. ap (λ (f : ℕ → Option Owner). f cell) h.2.owners)
            inserts.lower,
      )
  why (NoMemory lack) inserts = tt
