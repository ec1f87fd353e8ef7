-- A law of look-ups.
use Rattle.std.specs.Prelude.{◌≡◌, ◌≤◌, ◌+◌, ℕ, List, length, Contains}
use Rattle.sha2.specs.Sha256.{sha256}
use Rattle.cell_types.specs.Image.{Image}
use Rattle.cell_types.specs.Layout.{Layout}
use Rattle.volume_meaning.specs.HashPaths.{nibble}
use Rattle.volume_meaning.specs.Nearness.{IsPathMate}
use Rattle.tamper_rules.specs.Settling.{IsSettled}
use Rattle.identifier_lookup.specs.Costs.{HaveMates, Mate}

-- the mate's document is one that a look-up of the identifier may have to read, and its bucket names the slot
pub record IsMateOf (g : Layout) (image : Image) (id : List ℕ) (mate : Mate) : Type 0 where
  pub is : IsPathMate g image id mate.document
  pub at : mate.bucket ≡ is.node + nibble (sha256 id) is.level

-- On a settled volume the mates of an identifier's path can be listed, just these, and they are 64 at most.
pub record MatesOfPath (g : Layout) (image : Image) (id : List ℕ) : Type 0 where
  pub mates : List Mate
  pub all : HaveMates g image id mates
  pub only : (mate : Mate) → Contains mates mate → IsMateOf g image id mate
  pub few : length mates ≤ 64

abbrev pub PathsHaveMates : Type 0
PathsHaveMates = (g : Layout) (image : Image) (id : List ℕ) → IsSettled g image → MatesOfPath g image id
