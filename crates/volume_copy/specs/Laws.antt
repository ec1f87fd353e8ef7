-- A law of pairs.
use Rattle.std.specs.Prelude.{◌≡◌, List}
use Rattle.cell_types.specs.Image.{Image}
use Rattle.cell_types.specs.Layout.{Layout}
use Rattle.volume_meaning.specs.Documents.{Document}
use Rattle.volume_copy.specs.Pairs.{ArePairs}
use Rattle.volume_copy.specs.declared.moved.Moved.{Moved}

-- the documents of two volumes say which pairs they are
abbrev pub PairsAreOne : Type 0
PairsAreOne =
    (g h : Layout) (from to : Image) (target : List Document) (one other : List Moved) (source : List Document)
    → ArePairs g h from to target one source → ArePairs g h from to target other source → one ≡ other
