-- What stands in the places of a block.
use Rattle.std.proofs.Common.{◌≡◌, ◌<◌, ◌≤◌, ◌+◌, ◌-◌, ◌⊎◌, ◌↔◌, ⊎_elim, inl, inr, ℕ, nat_lt, refl, subst, ap, arith}
use Rattle.std.specs.Prelude.{IsTrue}
use Rattle.cell_types.specs.Image.{Image}
use Rattle.cell_types.specs.Layout.{Layout, list_at, pool_at}
use Rattle.volume_meaning.specs.Blocks.{PostingFields, posting_record, Leads, arrived, onwards}
use Rattle.volume_meaning.specs.Nodes.{IsBlockOf}
use Rattle.volume_meaning.proofs.Fronts.{one_posting}
use Rattle.volume_meaning.specs.Volumes.{Holds}
use Rattle.tamper_rules.specs.Rules.{Entries, EntryRule, HoldsInOrder, IsPlace}
use Rattle.log_audit.proofs.Orders.{is_less, less_is}
use Rattle.list_audit.specs.Entries.{BlockAsks}

-- two postings that stand one behind the other are in order just where the key of the first is smaller
pub ordered_behind : (image : Image) (block place : ℕ) (p q : PostingFields) (lower own : ℕ) → 1 ≤ place
    → Holds image (block + place) (posting_record p) → Holds image (block + (place - 1)) (posting_record q)
    → lower ≡ q.key → own ≡ p.key → (IsTrue (nat_lt lower own) ↔ HoldsInOrder image block place)
ordered_behind image block place p q lower own some h k lower_is own_is = (
  λ less. record {
    p = p;
    holds = h;
    rises = inr (place - 1, q, omega (arith, some), k, omega (arith, less_is lower own less, lower_is, own_is));
  },
  λ is. ⊎_elim
      (λ (zero : place ≡ 0). absurd (omega (arith, zero, some)))
      (λ w. let at : w.0 ≡ place - 1 = omega (arith, w.2, some) in
      let same : is.p ≡ p = one_posting image (block + place) is.p p is.holds h in
      let before : w.1 ≡ q =
      one_posting image (block + (place - 1)) w.1 q (subst (λ (n : ℕ). Holds image (block + n) (posting_record w.1)) at w.3) k in
      is_less lower own (omega (arith, w.4, ap (λ (r : PostingFields). r.key) same, ap (λ (r : PostingFields). r.key) before, lower_is, own_is)))
      is.rises,
)

-- no posting stands before it
pub none_before : {image : Image} {block place : ℕ} → 1 ≤ place
    → ((q : PostingFields) → Holds image (block + (place - 1)) (posting_record q) → ⊥) → HoldsInOrder image block place → ⊥
none_before {image} {block} {place} some none is = ⊎_elim
    (λ (zero : place ≡ 0). omega (arith, zero, some))
    (λ w. let at : w.0 ≡ place - 1 = omega (arith, w.2, some) in
    none w.1 (subst (λ (n : ℕ). Holds image (block + n) (posting_record w.1)) at w.3))
    is.rises

-- a cell of a block of a list is a place of rule 8: it lies in the list's first block, or in the pool
pub is_place : (g : Layout) (image : Image) (l block place : ℕ) → IsBlockOf g image l block → place < 256 → IsPlace g Entries (block + place)
is_place g image l block place is inside = from (list_at g l) is.leads (inl refl)
  where
    from : (start : ℕ) → Leads image (pool_at g) g.cells block start → (start ≡ list_at g l) ⊎ ((pool_at g ≤ start) × (start + 256 ≤ g.cells))
        → IsPlace g Entries (block + place)
    from start (arrived b same) where_it = ⊎_elim
        (λ first. inl (l, record { exists = is.list; from = omega (arith, first, same); below = omega (arith, first, same, inside) }))
        (λ pool. inr (omega (arith, pool.0, same), omega (arith, pool.1, same, inside)))
        where_it
    from start (onwards b level digit target x y z jump low high rest) where_it = from target rest (inr (low, high))

-- where each block is content with a cell, rule 8 is kept there
pub rule_asks : (g : Layout) (image : Image) (cell : ℕ) → ((l block : ℕ) → IsBlockOf g image l block → BlockAsks image block cell)
    → EntryRule g image cell
rule_asks g image cell each = record {
  entry = λ l block place is few at. (each l block is place (omega (arith, few)) at).entry few;
  blank = λ l block place is past few at. omega (arith, (each l block is place few at).blank, past);
}

-- and where rule 8 is kept each block is content
pub block_asks : (g : Layout) (image : Image) (cell : ℕ) → EntryRule g image cell → (l block : ℕ) → IsBlockOf g image l block
    → BlockAsks image block cell
block_asks g image cell rule l block is place inside at = record {
  entry = λ few. rule.entry l block place is few at;
  blank = ⊎_elim (λ (less : place < 248). less) (λ (more : 248 ≤ place). absurd (rule.blank l block place is more inside at)) (split place 248);
}
  where
    split : (a b : ℕ) → (a < b) ⊎ (b ≤ a)
    split a b = grind arith
