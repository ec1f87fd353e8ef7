-- Grants tile, and rise.
use Rattle.std.proofs.Common.{◌≡◌, ◌<◌, ◌≤◌, ◌+◌, ℕ, zero, suc, List, [], ◌∷◌, Some, refl, ap, sym, subst, arith, ◌∙◌}
use Rattle.std.specs.Prelude.{slice_get}
use Rattle.std.proofs.lemmas.Option.{none-some}
use Rattle.cell_pool.specs.Grants.{Grant, Grants, GrantsTileCells}
use Rattle.cell_pool.specs.declared.pool.Pool.{Pool}

pub grants_are_tiles : (old new : Pool) (grants : List Grant) → Grants old new grants → GrantsTileCells old.next new.next grants
grants_are_tiles old new [] same = ap (λ (p : Pool). p.next) (sym same)
grants_are_tiles old new (grant ∷ grants) g =
    (g.1.first, subst (λ (n : ℕ). GrantsTileCells n new.next grants) (g.1.next ∙ ap (λ (n : ℕ). old.next + n) refl) (grants_are_tiles g.0 new grants g.2))

-- each piece of tiles lies from their beginning on
tiles_begin : (from to : ℕ) (grants : List Grant) (j : ℕ) (other : Grant) → GrantsTileCells from to grants → slice_get grants j ≡ Some other
    → from ≤ other.at
tiles_begin from to [] j other tiles is = absurd (none-some other is)
tiles_begin from to (grant ∷ grants) zero other tiles is =
    let same : grant ≡ other = cc in omega (arith, ap (λ (g : Grant). g.at) same, tiles.0)
tiles_begin from to (grant ∷ grants) (suc j) other tiles is =
    omega (arith, tiles_begin (from + grant.size) to grants j other tiles.1 is)

pub tiles_rise : (from to : ℕ) (grants : List Grant) (i j : ℕ) (one other : Grant) → GrantsTileCells from to grants
    → slice_get grants i ≡ Some one → slice_get grants j ≡ Some other → i < j → one.at + one.size ≤ other.at
tiles_rise from to [] i j one other tiles is has less = absurd (none-some one is)
tiles_rise from to (grant ∷ grants) i zero one other tiles is has less = absurd (omega (arith, less))
tiles_rise from to (grant ∷ grants) zero (suc j) one other tiles is has less =
    let same : grant ≡ one = cc in
    omega (arith, ap (λ (g : Grant). g.at) same, ap (λ (g : Grant). g.size) same, tiles.0, tiles_begin (from + grant.size) to grants j other tiles.1 has)
tiles_rise from to (grant ∷ grants) (suc i) (suc j) one other tiles is has less =
    tiles_rise (from + grant.size) to grants i j one other tiles.1 is has (omega (arith, less))
