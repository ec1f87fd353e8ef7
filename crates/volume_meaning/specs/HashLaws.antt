-- Laws of documents and of the hash tree.
use Rattle.std.specs.Prelude.{◌≡◌, ℕ, List}
use Rattle.cell_types.specs.Image.{Image, Extends}
use Rattle.volume_meaning.specs.Documents.{Stands}
use Rattle.volume_meaning.specs.HashPaths.{Sought, IsPassed, HashTrail, PassedTo}

-- a passed bucket is passed, and a hash trail stays one, whatever is written into blank cells
abbrev pub PathsHoldOn : Type 0
PathsHoldOn =
    (old new : Image) (s : Sought) (n root node level at : ℕ) → Extends old new
    → (IsPassed old s at → IsPassed new s at) × (HashTrail old s n node level → HashTrail new s n node level)
    × (PassedTo old s root node level → PassedTo new s root node level)

-- of the slots that stand with an identifier one has a hash trail
abbrev pub HashTrailsAreOne : Type 0
HashTrailsAreOne =
    (image : Image) (s : Sought) (n m node level : ℕ) (b c : List ℕ) → Stands s.cells image n s.id b
    → Stands s.cells image m s.id c
    → HashTrail image s n node level → HashTrail image s m node level → n ≡ m
