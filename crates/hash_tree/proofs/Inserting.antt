-- What an insertion does, put together from the cells that it plans.
use Rattle.std.proofs.Common.{◌≡◌, ◌≢◌, ◌<◌, ◌≤◌, ◌+◌, ◌∙◌, ℕ, List, Option, Some, None, Ok, Err, refl, ap, sym, subst, arith}
use Rattle.cell_types.specs.Layout.{Layout, pool_at}
use Rattle.cell_types.specs.Records.{IsRecordCell}
use Rattle.cell_types.specs.declared.record_cell.RecordCell.{RecordCell}
use Rattle.cell_types.specs.declared.record_cell.RecordCell.TheVariants.{Bucket, Child}
use Rattle.cell_types.specs.declared.refusal.Evidence.{Evidence}
use Rattle.volume_meaning.specs.Volumes.{Holds}
use Rattle.volume_meaning.specs.HashPaths.{fingerprint_of, nibble}
use Rattle.tamper_rules.specs.declared.numbers.TheConstants.{LOST_CHILD}
use Rattle.worm_device.specs.Views.{ViewState, IsView}
use Rattle.worm_device.specs.declared.owner.Owner.{Owner}
use Rattle.cell_pool.specs.declared.pool.Pool.{Pool}
use Rattle.cell_pool.specs.Records.{HoldsPlanned, PlansRecord}
use Rattle.cell_pool.specs.declared.fault.GrowthFault.{GrowthFault}
use Rattle.cell_pool.specs.declared.planning.PlanFault.{PlanFault}
use Rattle.cell_pool.specs.declared.planning.PlanFault.TheVariants.{Taken, NoMemory}
use Rattle.hash_tree.specs.Levels.{IsLedByChild, IsNodeWithin, bucket_at, node_in, node_of}
use Rattle.hash_tree.specs.Steps.{IsOpenAt}
use Rattle.hash_tree.specs.declared.level.ChildCell.{ChildCell}
use Rattle.hash_tree.specs.declared.level.Level.{Level}
use Rattle.hash_tree.specs.declared.path.Open.{Open}
use Rattle.hash_tree.specs.Inserting.{InsertsEntry, IsPlaceTaken, alone, with_node, entry_of}
use Rattle.hash_tree.specs.Naming.{BlamesChild}
use Rattle.hash_tree.specs.Readiness.{IsReadyPlace, blank_in, blank_of, owner_in}
use Rattle.hash_tree.proofs.Needs.{need_alone, need_with_node}
use Rattle.hash_tree.proofs.Rooting.{rooted_alone, rooted_with_node}
use Rattle.hash_tree.proofs.Trails.{trail_alone, trail_with_node}

-- a node of a path lies before what is free
pub node_before : (g : Layout) (fresh next : ℕ) (led : Option ChildCell) → IsNodeWithin g fresh led → pool_at g ≤ fresh
    → fresh ≤ next → node_in g led + 32 ≤ next
node_before g fresh next None within from before = omega arith
node_before g fresh next (Some child) within from before = omega (arith, within.1)

-- and so does its blank cell
blank_inside : (g : Layout) (level : Level) (bucket : ℕ) (child : Option ℕ) → nibble level.digest level.number < 16
    → IsOpenAt g level bucket child
    → (node_of g level ≤ blank_in bucket child) × (blank_in bucket child < node_of g level + 32)
blank_inside g level bucket None half is = (omega (arith, is), omega (arith, is, half))
blank_inside g level bucket (Some child) half is = (omega (arith, is.1), omega (arith, is.1, half))

is_bucket : (g : Layout) (level : Level) (bucket : ℕ) (child : Option ℕ) → IsOpenAt g level bucket child
    → bucket ≡ bucket_at g level
is_bucket g level bucket None is = is
is_bucket g level bucket (Some child) is = is.0

-- what is not blank is something
pub something : {A : Type 0} (found : Option A) → (found ≡ None → ⊥) → (x : A) × (found ≡ Some x)
something None not_none = absurd (not_none refl)
something (Some x) not_none = (x, refl)

module _ (g : Layout) (level : Level) (place : Open) (slot : ℕ) (pool : Pool) (old : ViewState) (view : IsView old)
    (ready : IsReadyPlace g level place pool.next old) (half : nibble level.digest level.number < 16) where
  low : node_of g level + 32 ≤ pool.next
  low = node_before g old.fresh pool.next level.led_by ready.within ready.from ready.fresh

  -- the bucket is planned in the level's node
  pub inserts_alone : (new : ViewState) (first : List ℕ) → first ≡ fingerprint_of level.digest → place.child ≡ None
      → PlansRecord place.bucket (Bucket slot first) (owner_in g (node_of g level)) old new (Ok tt)
      → InsertsEntry g level place slot pool pool old new (Ok place.bucket)
  inserts_alone new first is_first no_child plans =
      let at : place.bucket ≡ bucket_at g level = is_bucket g level place.bucket place.child ready.open_at in
      let put : PlansRecord (bucket_at g level) (entry_of level slot) (owner_in g (node_of g level)) old new (Ok tt) =
      subst (λ (c : ℕ). PlansRecord c (entry_of level slot) (owner_in g (node_of g level)) old new (Ok tt)) at
      (subst (λ (f : List ℕ). PlansRecord place.bucket (Bucket slot f) (owner_in g (node_of g level)) old new (Ok tt))
      is_first plans) in
      let held : HoldsPlanned place.bucket (entry_of level slot) (owner_in g (node_of g level)) old new =
      subst (λ (c : ℕ). HoldsPlanned c (entry_of level slot) (owner_in g (node_of g level)) old new) (sym at)
      put.ends in
      record {
        cells = plans.cells;
        lower = plans.lower;
        fresh = plans.fresh;
        base = plans.base;
        loans = plans.loans;
        ends = record {
          plans = alone no_child at held
              (λ cell differ. let same = plans.others cell differ in
              record { image = same.0; planned = same.1; owners = same.2 })
              half refl;
          beyond = λ cell past.
              (put.others cell (λ same. omega (arith, same, low, half, past))).1 ∙ ready.beyond cell past;
          trail = trail_alone g level place slot pool.next new.planned no_child put.ends.planned;
          need = need_alone g level place old.image no_child at;
          rooted = λ before.
              rooted_alone g level place slot pool.next old.image new.image half no_child at put.ends.shown
              (λ cell differ. (put.others cell differ).0) before;
        };
      }

  -- a child cell is planned, and the bucket in the node that it leads to
  pub inserts_with_node : (rest : Pool) (mid new : ViewState) (child node at : ℕ) (first : List ℕ)
      → nibble level.digest (level.number + 1) < 16 → first ≡ fingerprint_of level.digest → place.child ≡ Some child
      → node ≡ pool.next → at ≡ node + nibble level.digest (level.number + 1)
      → rest.next ≡ pool.next + 32 → rest.end ≡ pool.end
      → PlansRecord child (Child node) (owner_in g (node_of g level)) old mid (Ok tt)
      → PlansRecord at (Bucket slot first) (owner_in g node) mid new (Ok tt)
      → InsertsEntry g level place slot pool rest old new (Ok at)
  inserts_with_node rest mid new child node at first next_half is_first has_child is_node is_at moved kept one last =
      let spot : IsOpenAt g level place.bucket (Some child) =
      subst (λ (c : Option ℕ). IsOpenAt g level place.bucket c) has_child ready.open_at in
      let there : at ≡ pool.next + nibble level.digest (level.number + 1) = omega (arith, is_at, is_node) in
      let differ : child ≢ at = λ same. omega (arith, same, spot.1, half, low, there) in
      let led : HoldsPlanned child (Child pool.next) (owner_in g (node_of g level)) old mid =
      subst (λ (n : ℕ). HoldsPlanned child (Child n) (owner_in g (node_of g level)) old mid) is_node one.ends in
      let entry : HoldsPlanned at (entry_of level slot) (owner_in g pool.next) mid new =
      subst (λ (n : ℕ). HoldsPlanned at (entry_of level slot) (owner_in g n) mid new) is_node
      (subst (λ (f : List ℕ). HoldsPlanned at (Bucket slot f) (owner_in g node) mid new) is_first last.ends) in
      let kept_there = last.others child differ in
      let led_now : HoldsPlanned child (Child pool.next) (owner_in g (node_of g level)) old new = record {
        free = led.free;
        shown = record { cell = led.shown.cell; stands = kept_there.0 ∙ led.shown.stands; is = led.shown.is };
        planned = record { cell = led.planned.cell; stands = kept_there.1 ∙ led.planned.stands; is = led.planned.is };
        for_whom = kept_there.2 ∙ led.for_whom;
      } in
      let entry_now : HoldsPlanned at (entry_of level slot) (owner_in g pool.next) old new = record {
        free = ready.beyond at (omega (arith, there));
        shown = entry.shown;
        planned = entry.planned;
        for_whom = entry.for_whom;
      } in
      record {
        cells = last.cells ∙ one.cells;
        lower = last.lower ∙ one.lower;
        fresh = last.fresh ∙ one.fresh;
        base = last.base ∙ one.base;
        loans = last.loans ∙ one.loans;
        ends = record {
          plans = with_node child has_child spot.1 spot.2 led_now there entry_now
              (λ cell away far.
              let before = one.others cell away in
              let after = last.others cell far in
              record { image = after.0 ∙ before.0; planned = after.1 ∙ before.1; owners = after.2 ∙ before.2 })
              half next_half (record { first = refl; next = moved; end = kept });
          beyond = λ cell past.
              (last.others cell (λ same. omega (arith, same, there, next_half, past, moved))).1
              ∙ (one.others cell (λ same. omega (arith, same, spot.1, half, low, past, moved))).1
              ∙ ready.beyond cell (omega (arith, past, moved));
          trail = trail_with_node g level place slot pool.next rest.next child new.planned has_child spot.2
              (omega (arith, ready.from, ready.fresh)) moved
              (subst (λ (c : ℕ). Holds new.planned c (Child pool.next)) spot.1 led_now.planned)
              (subst (λ (c : ℕ). Holds new.planned c (entry_of level slot)) there entry_now.planned);
          need = need_with_node g level place old.image child has_child spot.1 spot.2;
          rooted = λ before.
              rooted_with_node g level place slot pool.next rest.next old.image mid.image new.image half next_half
              spot.2 low (omega (arith, ready.from, ready.fresh)) moved
              (λ cell past. view.beyond cell (ready.beyond cell past) (omega (arith, past, ready.fresh)))
              (subst (λ (c : ℕ). Holds mid.image c (Child pool.next)) spot.1 led.shown)
              (λ cell far. (one.others cell (λ same. far (same ∙ spot.1))).0)
              (subst (λ (c : ℕ). Holds new.image c (entry_of level slot)) there entry_now.shown)
              (λ cell far. (last.others cell (λ same. far (same ∙ there))).0)
              before child has_child spot.0 spot.1;
        };
      }

  -- the blank cell is planned for somebody else, and the node is not the root
  taken : (e : Evidence) (child : ChildCell) → level.led_by ≡ Some child
      → e ≡ record { rule = LOST_CHILD; cell = child.cell; found = child.found }
      → (old.planned (blank_of place) ≡ None → ⊥) → IsPlaceTaken g level place old e
  taken e child led is not_free =
      let held = something (old.planned (blank_of place)) not_free in
      let whose = something (old.owners (blank_of place)) (λ none. not_free (view.unplanned (blank_of place) none)) in
      let inside = blank_inside g level place.bucket place.child half ready.open_at in
      let cell : e.cell ≡ child.cell = ap (λ (x : Evidence). x.cell) is in
      let found : e.found ≡ child.found = ap (λ (x : Evidence). x.found) is in
      record {
        planned = record { found = held.0; stands = held.1 };
        shown = record { found = held.0; stands = view.planned.keeps (blank_of place) held.0 held.1 };
        owner = whose.0;
        for_whom = whose.1;
        another = λ same. ready.of_others (whose.1 ∙ ap (λ (o : Owner). Some o) same);
        from = inside.0;
        to = inside.1;
        child = child;
        led = led;
        rule = ap (λ (x : Evidence). x.rule) is;
        cell = cell;
        found = found;
        stands = λ tells.
            let there : IsLedByChild old.lower (Some child) = subst (λ (l : Option ChildCell). IsLedByChild old.lower l) led
            (ready.led tells) in
            ap old.lower cell ∙ there.0 ∙ ap (λ (f : List ℕ). Some f) (sym found);
        leads = λ tells.
            let there : IsLedByChild old.lower (Some child) = subst (λ (l : Option ChildCell). IsLedByChild old.lower l) led
            (ready.led tells) in
            let target : child.target ≡ node_of g level = ap (λ (l : Option ChildCell). node_in g l) (sym led) in
            subst (λ (n : ℕ). IsRecordCell (Child n) e.cell e.found) target
            (subst (λ (f : List ℕ). IsRecordCell (Child child.target) e.cell f) (sym found)
            (subst (λ (c : ℕ). IsRecordCell (Child child.target) c child.found) (sym cell) there.1));
      }

  -- the first cell is not planned
  refused : (r : RecordCell) (owner : Owner) (new : ViewState) (led : Option ChildCell) (fault : PlanFault)
      (named : GrowthFault) → level.led_by ≡ led → BlamesChild led fault named
      → PlansRecord (blank_of place) r owner old new (Err fault)
      → InsertsEntry g level place slot pool pool old new (Err named)
  refused r owner new child (NoMemory lack) named led is plans =
      subst (λ (n : GrowthFault). InsertsEntry g level place slot pool pool old new (Err n)) (sym is)
      (record {
        cells = plans.cells;
        lower = plans.lower;
        fresh = plans.fresh;
        base = plans.base;
        loans = plans.loans;
        ends = refl;
      })
  refused r owner new None Taken named led is plans = absurd is
  refused r owner new (Some child) Taken named led is plans =
      subst (λ (n : GrowthFault). InsertsEntry g level place slot pool pool old new (Err n)) (sym is)
      (record {
        cells = plans.cells;
        lower = plans.lower;
        fresh = plans.fresh;
        base = plans.base;
        loans = plans.loans;
        ends = (
          taken (record { rule = LOST_CHILD; cell = child.cell; found = child.found }) child led refl plans.ends.0,
          refl,
          plans.ends.1,
        );
      })

  pub inserts_nothing : (at : ℕ) (child : Option ℕ) (r : RecordCell) (owner : Owner) (new : ViewState)
      (fault : PlanFault) (named : GrowthFault) → place.child ≡ child → at ≡ blank_in place.bucket child
      → BlamesChild level.led_by fault named → PlansRecord at r owner old new (Err fault)
      → InsertsEntry g level place slot pool pool old new (Err named)
  inserts_nothing at child r owner new fault named is_child is_at names plans =
      refused r owner new level.led_by fault named refl names
      (subst (λ (c : ℕ). PlansRecord c r owner old new (Err fault))
      (is_at ∙ ap (λ (c : Option ℕ). blank_in place.bucket c) (sym is_child)) plans)
