-- Tilings and walks over them.
use Rattle.std.proofs.Common.{◌≡◌, ◌<◌, ◌≤◌, ◌+◌, ◌⊎◌, ⊎_elim, ℕ, zero, suc, List, [], ◌∷◌, refl, sym, subst, arith}
use Rattle.std.specs.Prelude.{Contains}
use Rattle.std.proofs.lemmas.Bool.{cases_order}
use Rattle.cell_types.specs.Image.{Image}
use Rattle.volume_meaning.specs.Documents.{document_at}
use Rattle.tamper_rules.specs.Rules.{HasJump, IsSize, Tile}
use Rattle.slot_audit.specs.Walks.{IsOwnTarget, WalksTiles, over, next, WalksTell}

module _ (image : Image) (start reserved bytes journal : ℕ) where
  abbrev doc : ℕ
  doc = document_at start reserved bytes journal

  some_size : (target size : ℕ) → IsSize image start reserved journal target size → 1 ≤ size
  some_size target size is = ⊎_elim
      (λ (j : (size ≡ 256) × HasJump image start reserved journal target). omega (arith, j.0))
      (λ c. omega (arith, c.0)) is

  -- the targets of a tiling lie from where it begins on
  rest_from : (targets : List ℕ) (from to t : ℕ) → Tile image start reserved journal from to targets → Contains targets t → from ≤ t
  rest_from [] from to t tile (i, below, is) = absurd (omega (arith, below))
  rest_from (x ∷ xs) from to t tile (zero, below, is) = omega (arith, is, tile.0)
  rest_from (x ∷ xs) from to t tile (suc i, below, is) =
      let k = rest_from xs (from + tile.1) to t tile.3 (i, omega (arith, below), is) in omega (arith, k)

  tiles_walk : (targets : List ℕ) (at : ℕ) → Tile image start reserved journal at doc targets
      → ((t : ℕ) → at ≤ t → IsOwnTarget image start reserved bytes journal t → Contains targets t)
      → ((t : ℕ) → Contains targets t → IsOwnTarget image start reserved bytes journal t)
      → WalksTiles image start reserved bytes journal doc at
  tiles_walk [] at tile all each = over at tile
  tiles_walk (x ∷ xs) at tile all each =
      let own : IsOwnTarget image start reserved bytes journal at = subst (IsOwnTarget image start reserved bytes journal) tile.0 (each x (zero, omega arith, refl)) in
      let some = some_size x tile.1 tile.2 in
      next at tile.1 own.below own (subst (λ (t : ℕ). IsSize image start reserved journal t tile.1) tile.0 tile.2)
      (λ t more less is. behind t (omega (arith, more)) less more (all t (omega (arith, more)) is))
      (tiles_walk xs (at + tile.1) tile.3 (λ t from is. tail t from some (all t (omega (arith, from)) is))
      (λ t c. each t (suc c.0, omega (arith, c.1), c.2)))
    where
      behind : (t : ℕ) → at ≤ t → t < at + tile.1 → at < t → Contains (x ∷ xs) t → ⊥
      behind t from less more (zero, below, is) = omega (arith, is, tile.0, more)
      behind t from less more (suc i, below, is) =
          let k = rest_from xs (at + tile.1) doc t tile.3 (i, omega (arith, below), is) in omega (arith, k, less)

      tail : (t : ℕ) → at + tile.1 ≤ t → 1 ≤ tile.1 → Contains (x ∷ xs) t → Contains xs t
      tail t from some (zero, below, is) = absurd (omega (arith, is, tile.0, from, some))
      tail t from some (suc i, below, is) = (i, omega (arith, below), is)

  walk_tiles : (at : ℕ) → WalksTiles image start reserved bytes journal doc at
      → (targets : List ℕ) × Tile image start reserved journal at doc targets
      × ((t : ℕ) → at ≤ t → IsOwnTarget image start reserved bytes journal t → Contains targets t)
      × ((t : ℕ) → Contains targets t → (at ≤ t) × IsOwnTarget image start reserved bytes journal t)
  walk_tiles at (over a same) = ([], same, λ t from own. absurd (omega (arith, own.below, same, from)), λ t c. absurd (omega (arith, c.1)))
  walk_tiles at (next a size less own is none rest) =
      let ts = walk_tiles (at + size) rest in (
        at ∷ ts.0,
        (refl, size, is, ts.1),
        λ t from it. ⊎_elim
            (λ same. (zero, omega arith, sym same))
            (λ differ. ⊎_elim
            (λ lower. absurd (omega (arith, lower, from)))
            (λ above. ⊎_elim
            (λ (within : t < at + size). absurd (none t above within it))
            (λ (past : at + size ≤ t). let c = ts.2 t past it in (suc c.0, omega (arith, c.1), c.2))
            (split t (at + size))) differ)
            (cases_order t at),
        λ t c. members t ts.0 ts.3 c,
      )
    where
      split : (a b : ℕ) → (a < b) ⊎ (b ≤ a)
      split a b = grind arith

      members : (t : ℕ) (xs : List ℕ) → ((t : ℕ) → Contains xs t → (at + size ≤ t) × IsOwnTarget image start reserved bytes journal t) → Contains (at ∷ xs) t
          → (at ≤ t) × IsOwnTarget image start reserved bytes journal t
      members t xs each (zero, below, is) = (omega (arith, is), subst (IsOwnTarget image start reserved bytes journal) is own)
      members t xs each (suc i, below, is) = let h = each t (i, omega (arith, below), is) in (omega (arith, h.0), h.1)

pub walks_tell : WalksTell
walks_tell image start reserved bytes journal room = (
  λ rule. tiles_walk image start reserved bytes journal rule.targets start rule.tile
      (λ t from own. (rule.each t).0 (own.led, own.from, own.below))
      (λ t c. let h = (rule.each t).1 c in record { led = h.0; from = h.1; below = h.2 }),
  λ walk. let ts = walk_tiles image start reserved bytes journal start walk in record {
    targets = ts.0;
    each = λ t. (λ h. ts.2 t h.1 (record { led = h.0; from = h.1; below = h.2 }), λ c. let h = ts.3 t c in (h.1.led, h.0, h.1.below));
    tile = ts.1;
  },
)
