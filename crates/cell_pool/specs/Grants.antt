-- What a pool grants.
use Rattle.std.specs.Prelude.{◌≡◌, ◌<◌, ◌≤◌, ◌+◌, ◌-◌, ℕ, List, [], ◌∷◌, Some, slice_get}
use Rattle.cell_pool.specs.declared.pool.Pool.{Pool}

-- how many cells are free
abbrev pub free_cells : Pool → ℕ
free_cells pool = pool.end - pool.next

-- the grant begins where the pool did, and the pool begins where the grant ends
pub record TakesFront (old new : Pool) (size at : ℕ) : Type 0 where
  pub first : at ≡ old.next
  pub next : new.next ≡ old.next + size
  pub end : new.end ≡ old.end

-- the cells of one grant
pub record Grant : Type 0 where
  pub at : ℕ
  pub size : ℕ

-- one grant after another
abbrev pub Grants : Pool → Pool → List Grant → Type 0
Grants old new [] = new ≡ old
Grants old new (grant ∷ grants) = (mid : Pool) × TakesFront old mid grant.size grant.at × Grants mid new grants

-- these pieces, in this order, are the cells from one up to another
abbrev pub GrantsTileCells : ℕ → ℕ → List Grant → Type 0
GrantsTileCells from to [] = from ≡ to
GrantsTileCells from to (grant ∷ grants) = (grant.at ≡ from) × GrantsTileCells (from + grant.size) to grants

-- an earlier piece lies before a later one
abbrev pub GrantsRise : List Grant → Type 0
GrantsRise grants =
    (i j : ℕ) (one other : Grant) → slice_get grants i ≡ Some one → slice_get grants j ≡ Some other → i < j
    → one.at + one.size ≤ other.at

-- grants tile what the pool has given, and rise
abbrev pub GrantsTile : Type 0
GrantsTile =
    (old new : Pool) (grants : List Grant) → Grants old new grants → GrantsTileCells old.next new.next grants
    × GrantsRise grants
