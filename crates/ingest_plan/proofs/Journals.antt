-- The entries of a map of planned cells are a journal.
use Rattle.std.proofs.Common.{◌≡◌, ℕ, true, List, Option, Some, None, ap, sym, subst, ◌∙◌, arith, Result, Ok, Err}
use Rattle.std.specs.Prelude.{IfOk, slice_get}
use Rattle.std.specs.Global.{Vec}
use Rattle.cell_types.specs.declared.refusal.NoMemory.{NoMemory}
use Rattle.std.specs.Cmp.{nat_cmp_total}
use Rattle.std.specs.Option.{option_map}
use Rattle.std.specs.Ordering.{nat_cmp}
use Rattle.std.specs.BTreeMap.{BTreeMap, get, is_at, IsOrdered, values, keys}
use Rattle.std.proofs.lemmas.Grind.{common_steps}
use Rattle.std.proofs.lemmas.Map.Entries.{btree_map_get_place, place_from_lookup}
use Rattle.std.proofs.lemmas.Map.Keys.{below_from_sorted}
use Rattle.std.proofs.lemmas.Option.{none-some, slice_get-map, slice_get_within, get_or_from_slice_get}
use Rattle.ingest_plan.specs.Journal.{IsJournal}

-- the keys and the values of entries, place by place
pub record IsPlace (entries : List (ℕ × List ℕ)) (i cell : ℕ) (value : List ℕ) : Type 0 where
  pub is : slice_get entries i ≡ Some (cell, value)

place_of : (found : Option (ℕ × List ℕ)) (cell : ℕ) (value : List ℕ) → option_map (λ (e : ℕ × List ℕ). e.0) found ≡ Some cell
    → option_map (λ (e : ℕ × List ℕ). e.1) found ≡ Some value → found ≡ Some (cell, value)
place_of None cell value at is = absurd (none-some cell at)
place_of (Some e) cell value at is =
    let a : e.0 ≡ cell = (let k : Some e.0 ≡ Some cell = at in cc) in
    let b : e.1 ≡ value = (let k : Some e.1 ≡ Some value = is in cc) in
    ap (λ (c : ℕ). Some (c, e.1)) a ∙ ap (λ (v : List ℕ). Some (cell, v)) b

the_key : (cell k : ℕ) → is_at (nat_cmp cell) k ≡ true → k ≡ cell
the_key cell k is = grind (arith, common_steps, is)

pub entries_are_journal : (m : BTreeMap ℕ (List ℕ)) → IsOrdered nat_cmp m → IsJournal (λ cell. get nat_cmp m cell) (values m)
entries_are_journal m ordered = record {
  numbers = keys m;
  long = grind (arith, common_steps);
  each = λ i cell value at is.
      btree_map_get_place nat_cmp_total m i cell value ordered
      (place_of (slice_get m.entries i) cell value (sym (slice_get-map (λ (e : ℕ × List ℕ). e.0) m.entries i) ∙ at)
      (sym (slice_get-map (λ (e : ℕ × List ℕ). e.1) m.entries i) ∙ is));
  rise = λ i j a b less at bt.
      let first = get_or_from_slice_get (keys m) i a 0 at in
      let second = get_or_from_slice_get (keys m) j b 0 bt in
      omega (arith, below_from_sorted (keys m) i j 0 ordered less (slice_get_within (keys m) j b bt), first, second);
  all = λ cell value is.
      let found = place_from_lookup (is_at (nat_cmp cell)) m.entries value is in
      let same = the_key cell found.1 found.3 in (
        found.0,
        (slice_get-map (λ (e : ℕ × List ℕ). e.0) m.entries found.0 ∙ ap (λ o. option_map (λ (e : ℕ × List ℕ). e.0) o) found.2
            ∙ ap (λ (k : ℕ). Some k) same),
        (slice_get-map (λ (e : ℕ × List ℕ). e.1) m.entries found.0 ∙ ap (λ o. option_map (λ (e : ℕ × List ℕ). e.1) o) found.2),
      );
}

pub journal_of : (m : BTreeMap ℕ (List ℕ)) (made : Result (Vec (List ℕ)) NoMemory) → IsOrdered nat_cmp m
    → IfOk made (λ cells. cells.items ≡ values m) → IfOk made (λ cells. IsJournal (λ cell. get nat_cmp m cell) cells.items)
journal_of m (Ok cells) ordered same =
    subst (λ (held : List (List ℕ)). IsJournal (λ cell. get nat_cmp m cell) held) (sym same) (entries_are_journal m ordered)
journal_of m (Err none) ordered same = tt
