-- How many cells are planned: one more, two more, and those that an insertion plans.
use Rattle.std.proofs.Common.{◌≡◌, ◌≢◌, ◌<◌, ◌≤◌, ◌+◌, ◌-◌, ◌⊎◌, ⊎_elim, inl, inr, ℕ, zero, suc, List, [], ◌∷◌, Some, None, refl, ap, sym, subst, arith, ◌∙◌}
use Rattle.std.specs.Prelude.{IsTrue, length, slice_get}
use Rattle.std.proofs.lemmas.Bool.{cases_eq}
use Rattle.std.proofs.lemmas.Option.{none-some}
use Rattle.cell_types.specs.Image.{Image}
use Rattle.cell_types.specs.declared.record_cell.RecordCell.{RecordCell}
use Rattle.cell_types.specs.declared.record_cell.RecordCell.TheVariants.{Bucket, Child}
use Rattle.volume_meaning.specs.Volumes.{Holds, IsWritten}
use Rattle.volume_meaning.proofs.Holding.{one_record_holds}
use Rattle.volume_meaning.specs.Blocks.{PostingFields, pointer_at}
use Rattle.cell_pool.specs.declared.pool.Pool.{Pool}
use Rattle.hash_tree.specs.declared.level.Level.{Level}
use Rattle.hash_tree.specs.declared.path.Open.{Open}
use Rattle.cell_types.specs.Layout.{Layout}
use Rattle.worm_device.specs.Counts.{IsStill}
use Rattle.worm_device.specs.Views.{ViewState}
use Rattle.jump_insertion.specs.Growing.{PutsTwo, Grows, in_block, in_tail, in_new_block}
use Rattle.jump_insertion.specs.Inserting as lists
use Rattle.jump_insertion.specs.Inserting.{PlansEntry}
use Rattle.hash_tree.specs.Inserting as trees
use Rattle.hash_tree.specs.Inserting.{PlansBucket}
use Rattle.hash_tree.specs.Readiness.{cost_in, cost_of}
use Rattle.ingest_plan.specs.Counts.{HasWrittenCells, PlansAtCost, PlansOneOrTwoEach}

-- so many numbers have this: these are all of them, and each is named once
record AreAll (P : ℕ → Type 0) (count : ℕ) : Type 0 where
  pub cells : List ℕ
  pub long : length cells ≡ count
  pub once : (i j cell : ℕ) → i < j → slice_get cells i ≡ Some cell → slice_get cells j ≡ Some cell → ⊥
  pub each : (i cell : ℕ) → slice_get cells i ≡ Some cell → P cell
  pub all : (cell : ℕ) → P cell → (i : ℕ) × (slice_get cells i ≡ Some cell)

-- the first of a list
first_is : (one cell : ℕ) (rest : List ℕ) → slice_get (one ∷ rest) zero ≡ Some cell → one ≡ cell
first_is one cell rest is = cc

-- one number more has it
one_more : {P : ℕ → Type 0} {count : ℕ} (at : ℕ) → (P at → ⊥) → AreAll P count
    → AreAll (λ (c : ℕ). P c ⊎ (c ≡ at)) (count + 1)
one_more {P} {count} at new_one a = record {
  cells = at ∷ a.cells;
  long = omega (arith, a.long);
  once = once;
  each = each;
  all = λ cell has. ⊎_elim
      (λ (was : P cell). let found = a.all cell was in (suc found.0, found.1))
      (λ (same : cell ≡ at). (zero, ap (λ (c : ℕ). Some c) (sym same)))
      has;
} where
  once : (i j cell : ℕ) → i < j → slice_get (at ∷ a.cells) i ≡ Some cell → slice_get (at ∷ a.cells) j ≡ Some cell → ⊥
  once i zero cell less is too = omega (arith, less)
  once zero (suc j) cell less is too = new_one (subst P (sym (first_is at cell a.cells is)) (a.each j cell too))
  once (suc i) (suc j) cell less is too = a.once i j cell (omega (arith, less)) is too

  each : (i cell : ℕ) → slice_get (at ∷ a.cells) i ≡ Some cell → P cell ⊎ (cell ≡ at)
  each zero cell is = inr (sym (first_is at cell a.cells is))
  each (suc i) cell is = inl (a.each i cell is)

-- the same numbers by other words
same_numbers : {P Q : ℕ → Type 0} {count : ℕ} → ((c : ℕ) → P c → Q c) → ((c : ℕ) → Q c → P c) → AreAll P count
    → AreAll Q count
same_numbers onward back a = record {
  cells = a.cells;
  long = a.long;
  once = a.once;
  each = λ i cell is. onward cell (a.each i cell is);
  all = λ cell has. a.all cell (back cell has);
}

of_image : {image : Image} {count : ℕ} → HasWrittenCells image count → AreAll (λ (c : ℕ). IsWritten image c) count
of_image h = record { cells = h.cells; long = h.long; once = h.once; each = h.written; all = h.all }

to_image : {image : Image} {count : ℕ} → AreAll (λ (c : ℕ). IsWritten image c) count → HasWrittenCells image count
to_image a = record { cells = a.cells; long = a.long; once = a.once; written = a.each; all = a.all }

-- nothing is planned
pub none_planned : {image : Image} → ((cell : ℕ) → image cell ≡ None) → HasWrittenCells image 0
none_planned nothing = record {
  cells = [];
  long = refl;
  once = λ i j cell less is too. absurd (none-some cell is);
  written = λ i cell is. absurd (none-some cell is);
  all = λ cell w. absurd (none-some w.found (sym (nothing cell) ∙ w.stands));
}

not_blank : {image : Image} {cell : ℕ} → image cell ≡ None → IsWritten image cell → ⊥
not_blank none w = none-some w.found (sym none ∙ w.stands)

written_as : {a b : Image} {cell : ℕ} → b cell ≡ a cell → IsWritten a cell → IsWritten b cell
written_as same w = record { found = w.found; stands = same ∙ w.stands }

written_at : {image : Image} {a b : ℕ} → a ≡ b → IsWritten image b → IsWritten image a
written_at {image} same w = subst (λ (c : ℕ). IsWritten image c) (sym same) w

written_by : {image : Image} {at : ℕ} {r : RecordCell} → Holds image at r → IsWritten image at
written_by h = record { found = h.cell; stands = h.stands }

-- one cell more is planned
pub one_planned : {old new : Image} {count at : ℕ} → HasWrittenCells old count → old at ≡ None → IsWritten new at
    → ((cell : ℕ) → cell ≢ at → new cell ≡ old cell) → HasWrittenCells new (count + 1)
one_planned {old} {new} {count} {at} has free written others = to_image (same_numbers onward back
    (one_more at (not_blank free) (of_image has)))
  where
    onward : (c : ℕ) → IsWritten old c ⊎ (c ≡ at) → IsWritten new c
    onward c = ⊎_elim
        (λ w. written_as (others c (λ (same : c ≡ at). not_blank free (written_at (sym same) w))) w)
        (λ same. written_at same written)

    back : (c : ℕ) → IsWritten new c → IsWritten old c ⊎ (c ≡ at)
    back c w = ⊎_elim inr (λ differs. inl (written_as (sym (others c differs)) w)) (cases_eq c at)

-- two cells more are planned
pub two_planned : {old new : Image} {count a b : ℕ} → HasWrittenCells old count → old a ≡ None → old b ≡ None → b ≢ a
    → IsWritten new a → IsWritten new b → ((cell : ℕ) → cell ≢ a → cell ≢ b → new cell ≡ old cell)
    → HasWrittenCells new (count + 2)
two_planned {old} {new} {count} {a} {b} has free free_too apart written written_too others =
    let two = one_more b (⊎_elim (λ w. not_blank free_too w) (λ same. apart same)) (one_more a (not_blank free)
    (of_image has)) in
    subst (λ (n : ℕ). HasWrittenCells new n) (omega arith) (to_image (same_numbers onward back two))
  where
    onward : (c : ℕ) → (IsWritten old c ⊎ (c ≡ a)) ⊎ (c ≡ b) → IsWritten new c
    onward c = ⊎_elim
        (⊎_elim
        (λ w. written_as (others c (λ (same : c ≡ a). not_blank free (written_at (sym same) w))
        (λ (same : c ≡ b). not_blank free_too (written_at (sym same) w))) w)
        (λ same. written_at same written))
        (λ same. written_at same written_too)

    back : (c : ℕ) → IsWritten new c → (IsWritten old c ⊎ (c ≡ a)) ⊎ (c ≡ b)
    back c w = ⊎_elim (λ same. inl (inr same))
        (λ differs. ⊎_elim inr (λ also. inl (inl (written_as (sym (others c differs also)) w))) (cases_eq c b))
        (cases_eq c a)

-- one cost after another
pub costs_then : {a b c : Image} {from mid to : ℕ} (first second : ℕ) → from ≤ mid → mid ≤ to
    → PlansAtCost a b from mid first → PlansAtCost b c mid to second → PlansAtCost a c from to (first + second)
costs_then {from = from} {mid} {to} first second low high one two before has =
    let x = one before has in
    let y = two x.0 x.1 in
    (y.0, y.1, omega (arith, low, high, x.2, y.2))

-- nothing costs nothing
pub costs_none : {image : Image} (at : ℕ) → PlansAtCost image image at at 0
costs_none at before has = (before, has, omega arith)

-- a cell that was blank and is written is the one that was added
is_added : {old new : Image} {at cell : ℕ} → ((c : ℕ) → c ≢ at → new c ≡ old c) → old cell ≡ None → IsWritten new cell
    → cell ≡ at
is_added {old} {new} {at} {cell} others blank w = ⊎_elim (λ same. same)
    (λ differs. absurd (none-some w.found (sym (others cell differs ∙ blank) ∙ w.stands))) (cases_eq cell at)

-- where two cells are added it is not one
no_single : {old new : Image} {home target place at : ℕ} {p : PostingFields} → PutsTwo old new home target place p
    → ((c : ℕ) → c ≢ at → new c ≡ old c) → ⊥
no_single {old} {new} {home} {target} {place} {at} puts others =
    let pointer : ℕ = pointer_at home puts.level puts.digit in
    let apart : pointer ≢ target + place = λ same.
    not_blank puts.adds_jump.was (written_at same (written_by puts.posting)) in
    let first : target + place ≡ at = is_added others puts.adds.was
    (written_as (puts.adds_jump.others (target + place) (λ same. apart (sym same))) (written_by puts.posting)) in
    let second : pointer ≡ at = is_added others (sym (puts.adds.others pointer apart) ∙ puts.adds_jump.was)
    (written_by puts.jump) in
    apart (second ∙ sym first)

-- one cell is what an insertion adds that takes no block
by_one : {old new : Image} {floor next to block cost at : ℕ} {p : PostingFields}
    → ((c : ℕ) → c ≢ at → new c ≡ old c) → to ≡ next → Grows old new floor next to block p cost
    → 1 + (to - next) ≡ cost
by_one others same (in_block last place walk below adds holds rises same_next cost_is) = omega (arith, same, cost_is)
by_one others same (in_tail home target place walk puts led from inside last same_next cost_is) =
    absurd (no_single puts others)
by_one others same (in_new_block home walk puts blank last further cost_is) = omega (arith, same, further)

-- and two
by_two : {old new : Image} {floor next to block cost at pointer : ℕ} {p : PostingFields} → pointer ≢ at
    → old at ≡ None → old pointer ≡ None → IsWritten new at → IsWritten new pointer
    → Grows old new floor next to block p cost → 2 + (to - next) ≡ cost
by_two apart blank blank_too there there_too
    (in_block last place walk below adds holds rises same_next cost_is) =
    absurd (apart (is_added adds.others blank_too there_too ∙ sym (is_added adds.others blank there)))
by_two apart blank blank_too there there_too
    (in_tail home target place walk puts led from inside last same_next cost_is) = omega (arith, same_next, cost_is)
by_two apart blank blank_too there there_too
    (in_new_block home walk puts none last further cost_is) = omega (arith, further, cost_is)

-- an insertion plans and takes what it costs
pub insertion_at_cost : {head floor next to at block cost : ℕ} {p : PostingFields} {old new : ViewState}
    → IsTrue old.base.tells → IsStill old.base.foreign_writes new.base.foreign_writes
    → PlansEntry head floor next to p at old new → Grows old.image new.image floor next to block p cost
    → PlansAtCost old.planned new.planned next to cost
insertion_at_cost tells still (lists.alone one rest same) grows before has =
    let cost_is = by_one (λ c differs. (rest c differs).shown still) same grows in (
      before + 1,
      one_planned has one.free (written_by one.held) (λ c differs. (rest c differs).planned),
      omega (arith, cost_is),
    )
insertion_at_cost tells still (lists.with_pointer pointer target one other apart rest taken) grows before has =
    let cost_is = by_two apart (one.blank tells) (other.blank tells) (written_by one.shown) (written_by other.shown)
    grows in (
      before + 2,
      two_planned has one.free other.free apart (written_by one.held) (written_by other.held)
          (λ c differs also. (rest c differs also).planned),
      omega (arith, cost_is),
    )

-- nothing more is planned for no entry
pub none_each : (image : Image) → PlansOneOrTwoEach image image 0
none_each image before has = (before, has, omega arith, omega arith)

-- and one or two cells more are for a posting more
pub posting_each : {head floor next to at : ℕ} {p : PostingFields} {first : Image} {old new : ViewState} (entries : ℕ)
    → PlansOneOrTwoEach first old.planned entries → PlansEntry head floor next to p at old new
    → PlansOneOrTwoEach first new.planned (entries + 1)
posting_each entries each (lists.alone one rest same) before has =
    let x = each before has in (
      x.0 + 1,
      one_planned x.1 one.free (written_by one.held) (λ c differs. (rest c differs).planned),
      omega (arith, x.2),
      omega (arith, x.3),
    )
posting_each entries each (lists.with_pointer pointer target one other apart rest taken) before has =
    let x = each before has in (
      x.0 + 2,
      two_planned x.1 one.free other.free apart (written_by one.held) (written_by other.held)
          (λ c differs also. (rest c differs also).planned),
      omega (arith, x.2),
      omega (arith, x.3),
    )

-- a child cell is no bucket
no_bucket_leads : (target slot : ℕ) (fingerprint : List ℕ) → Child target ≡ Bucket slot fingerprint → ⊥
no_bucket_leads target slot fingerprint same = cc

-- a bucket plans one or two cells, as many as it costs without what the pool gave
bucket_planned : (g : Layout) (level : Level) (place : Open) (slot at before : ℕ) (pool rest : Pool)
    (old new : ViewState) → PlansBucket g level place slot at pool rest old new → HasWrittenCells old.planned before
    → (after : ℕ) × HasWrittenCells new.planned after × (after + (rest.next - pool.next) ≡ before + cost_of place)
    × (before + 1 ≤ after) × (after ≤ before + 2)
bucket_planned g level place slot at before pool rest old new
    (trees.alone none same_at holds others small same_pool) has =
    let costs : cost_of place ≡ 1 = ap cost_in none in (
      before + 1,
      one_planned has holds.free (written_by holds.planned) (λ c differs. (others c differs).planned),
      omega (arith, costs, ap (λ (p : Pool). p.next) same_pool),
      omega arith,
      omega arith,
    )
bucket_planned g level place slot at before pool rest old new
    (trees.with_node child is_child child_is less leads at_is holds others small below takes) has =
    let costs : cost_of place ≡ 34 = ap cost_in is_child in
    let apart : at ≢ child = λ same. no_bucket_leads pool.next slot _
    (one_record_holds new.planned child (Child pool.next) (trees.entry_of level slot) leads.planned
    (subst (λ (c : ℕ). Holds new.planned c (trees.entry_of level slot)) same holds.planned)) in (
      before + 2,
      two_planned has leads.free holds.free apart (written_by leads.planned) (written_by holds.planned)
          (λ c differs also. (others c differs also).planned),
      omega (arith, costs, takes.next),
      omega arith,
      omega arith,
    )

-- so a bucket plans and takes what it costs
pub bucket_at_cost : (g : Layout) (level : Level) (place : Open) (slot at : ℕ) (pool rest : Pool) (old new : ViewState)
    → PlansBucket g level place slot at pool rest old new
    → PlansAtCost old.planned new.planned pool.next rest.next (cost_of place)
bucket_at_cost g level place slot at pool rest old new plans before has =
    let x = bucket_planned g level place slot at before pool rest old new plans has in (x.0, x.1, x.2)

-- and one or two cells more are for a bucket
pub bucket_each : (g : Layout) (level : Level) (place : Open) (slot at : ℕ) (pool rest : Pool) (first : Image)
    (old new : ViewState) (entries : ℕ) → PlansOneOrTwoEach first old.planned entries
    → PlansBucket g level place slot at pool rest old new → PlansOneOrTwoEach first new.planned (entries + 1)
bucket_each g level place slot at pool rest first old new entries each plans before has =
    let x = each before has in
    let y = bucket_planned g level place slot at x.0 pool rest old new plans x.1 in
    (y.0, y.1, omega (arith, x.2, y.3), omega (arith, x.3, y.4))

-- a list without the element at a place
without : List ℕ → ℕ → List ℕ
without [] at = []
without (one ∷ rest) zero = rest
without (one ∷ rest) (suc at) = one ∷ without rest at

without_length : (xs : List ℕ) (at x : ℕ) → slice_get xs at ≡ Some x → length xs ≡ length (without xs at) + 1
unfolding without
without_length [] at x is = absurd (none-some x is)
without_length (one ∷ rest) zero x is = omega arith
without_length (one ∷ rest) (suc at) x is = omega (arith, without_length rest at x is)

without_has : (xs : List ℕ) (at i x : ℕ) → i ≢ at → slice_get xs i ≡ Some x
    → (j : ℕ) × (slice_get (without xs at) j ≡ Some x)
unfolding without
without_has [] at i x differs is = absurd (none-some x is)
without_has (one ∷ rest) zero zero x differs is = absurd (differs refl)
without_has (one ∷ rest) zero (suc i) x differs is = (i, is)
without_has (one ∷ rest) (suc at) zero x differs is = (zero, is)
without_has (one ∷ rest) (suc at) (suc i) x differs is =
    let found = without_has rest at i x (λ same. differs (omega (arith, same))) is in (suc found.0, found.1)

-- different elements that are all among those of another list are at most as many
among : (xs ys : List ℕ)
    → ((i j cell : ℕ) → i < j → slice_get xs i ≡ Some cell → slice_get xs j ≡ Some cell → ⊥)
    → ((i cell : ℕ) → slice_get xs i ≡ Some cell → (j : ℕ) × (slice_get ys j ≡ Some cell))
    → length xs ≤ length ys
among [] ys once has = omega arith
among (x ∷ xs) ys once has =
    let here = has zero x refl in
    let rest : length xs ≤ length (without ys here.0) = among xs (without ys here.0)
    (λ i j cell less is too. once (suc i) (suc j) cell (omega (arith, less)) is too)
    (λ i cell is.
    let there = has (suc i) cell is in
    without_has ys here.0 there.0 cell
    (λ same.
    let k : Some cell ≡ Some x = sym there.1 ∙ ap (λ (n : ℕ). slice_get ys n) same ∙ here.1 in
    once zero (suc i) cell (omega arith) (sym k) is)
    there.1) in
    omega (arith, rest, without_length ys here.0 x here.1)

-- an image has one number of written cells
pub count_is_one : (image : Image) (a b : ℕ) → HasWrittenCells image a → HasWrittenCells image b → a ≡ b
count_is_one image a b one other =
    let low = among one.cells other.cells one.once (λ i cell is. other.all cell (one.written i cell is)) in
    let high = among other.cells one.cells other.once (λ i cell is. one.all cell (other.written i cell is)) in
    omega (arith, low, high, one.long, other.long)
