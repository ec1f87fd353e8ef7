-- What the words of the program name: a device, and a command.
use Rattle.std.specs.Prelude.{◌≡◌, ◌<◌, ◌⊎◌, ℕ, List, [], ◌∷◌, codes, Option, Some, None, ⊤}
use Rattle.program_host.specs.declared.file_number.FileNumber.{FileNumber}

-- the word begins with a hyphen, as an option does
abbrev pub IsHyphened : List ℕ → Type 0
IsHyphened [] = ⊥
IsHyphened (byte ∷ bytes) = byte ≡ 45

-- the words of a command are those of a copy: they begin with `copy`
abbrev pub IsOfCopy : List (List ℕ) → Type 0
IsOfCopy [] = ⊥
IsOfCopy (word ∷ words) = word ≡ codes "copy"

-- The words are the image, the word of the command, the target, and those behind it.
abbrev pub NameTwo : List (List ℕ) → List ℕ → List ℕ → List ℕ → List (List ℕ) → Type 0
NameTwo words image command target numbers = words ≡ image ∷ command ∷ target ∷ numbers

-- The target was taken out of the words, and the others are left.
pub record TakesTarget (words : List (List ℕ)) (target : List ℕ) (left : List (List ℕ)) : Type 0 where
  pub image : List ℕ
  pub command : List ℕ
  pub numbers : List (List ℕ)
  pub named : NameTwo words image command target numbers
  pub left_is : left ≡ image ∷ command ∷ numbers

-- two paths lead to one file, as far as the host tells
abbrev pub IsSame : Option FileNumber → Option FileNumber → Type 0
IsSame (Some one) (Some other) = one ≡ other
IsSame (Some one) None = ⊥
IsSame None other = ⊥

-- The first of two files is held before the second, by whoever holds both. Where the host does not tell which files
-- they are, it is, too.
abbrev pub IsFirst : Option FileNumber → Option FileNumber → Type 0
IsFirst (Some one) (Some other) =
    (one.device < other.device) ⊎ ((one.device ≡ other.device) × (one.inode < other.inode))
IsFirst (Some one) None = ⊤
IsFirst None other = ⊤
