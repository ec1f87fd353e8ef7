-- What an insertion leaves of the other lists.
use Rattle.std.specs.Prelude.{◌≤◌, ℕ}
use Rattle.cell_types.specs.Image.{Image}
use Rattle.volume_meaning.specs.Blocks.{PostingFields, Leads}
use Rattle.volume_meaning.specs.Nodes.{AreApart}
use Rattle.ingest_laws.specs.ListShapes.{IsWellListed}
use Rattle.jump_insertion.specs.Costs.{ListHasTrails, HaveKeysBelow}
use Rattle.jump_insertion.specs.Growing.{Grows}

-- no block of one list meets one of the other
abbrev pub ListsAreApart : Image → ℕ → ℕ → ℕ → ℕ → Type 0
ListsAreApart image floor next head other =
    (a b : ℕ) → Leads image floor next a head → Leads image floor next b other → AreApart a 256 b 256

-- The other list stays as it should be: it has its shape and no new block, lies apart still from the one that begins at
-- head, each of its postings that had a trail has it still, and no key is greater than before.
pub record StandsAside (old new : Image) (floor next to head other : ℕ) : Type 0 where
  pub well : IsWellListed new floor to other
  pub blocks : (block : ℕ) → Leads new floor to block other → Leads old floor next block other
  pub apart : ListsAreApart new floor to head other
  pub trails : ListHasTrails old floor next other → ListHasTrails new floor to other
  pub keys : (key : ℕ) → HaveKeysBelow old floor next other key → HaveKeysBelow new floor to other key

-- where one list grows, another that lies apart from it stands aside
abbrev pub OthersStand : Type 0
OthersStand =
    (old new : Image) (floor next to head other cost : ℕ) (p : PostingFields) → IsWellListed old floor next head
    → floor ≤ next → Grows old new floor next to head p cost → IsWellListed old floor next other
    → ListsAreApart old floor next head other → StandsAside old new floor next to head other
