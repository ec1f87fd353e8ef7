-- Texts that are a line an element, and how many they are.
use Rattle.std.specs.Prelude.{◌++◌, ℕ, List, [], ◌∷◌, codes, length}
use Rattle.std.specs.Fmt.{decimal}

-- the lines of the elements, one after another
abbrev pub lines_of : {A : Type 0} → (A → List ℕ) → List A → List ℕ
lines_of line [] = []
lines_of line (a ∷ rest) = line a ++ lines_of line rest

-- the line that says how many were found
abbrev pub count_line : ℕ → List ℕ
count_line count = decimal count ++ codes " found\n"

-- the text that tells of what was found: a line an element, and how many they are
abbrev pub found_lines : {A : Type 0} → (A → List ℕ) → List A → List ℕ
found_lines line found = lines_of line found ++ count_line (length found)

-- the line that tells of a slot
abbrev pub slot_line : List ℕ → ℕ → List ℕ → List ℕ
slot_line before slot after = before ++ (decimal slot ++ after)

-- the line that tells of a document: its slot, its identifier, and how many bytes its body has
abbrev pub document_line : ℕ → List ℕ → ℕ → List ℕ
document_line slot identifier bytes =
    decimal slot ++ (codes " " ++ (identifier ++ (codes " " ++ (decimal bytes ++ codes "\n"))))
