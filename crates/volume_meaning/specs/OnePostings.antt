-- Laws of the postings of a document.
use Rattle.std.specs.Prelude.{◌≡◌, ◌<◌, ◌≤◌, ◌%◌, ℕ, List, Option, Some, None, [], ◌∷◌, ◌++◌}
use Rattle.cell_types.specs.Layout.{Layout, TakesStamps}
use Rattle.volume_meaning.specs.Blocks.{PostingFields}
use Rattle.volume_meaning.specs.Postings.{ListedPosting, ArePostings, HasPostings, IsPostingOf, time_posting}

-- a slot's document, with its stamp, has one list of postings
abbrev pub PostingsAreOne : Type 0
PostingsAreOne =
    (g : Layout) (stamp : Option ℕ) (body : List ℕ) (n : ℕ) (one other : List ListedPosting)
    → ArePostings g stamp body n one → ArePostings g stamp body n other → one ≡ other

-- a posting's key modulo 256 is at most the greatest ordinal that it tells: so each has a cell
abbrev pub KeysFit : Type 0
KeysFit =
    (g : Layout) (stamp : Option ℕ) (body : List ℕ) (n l : ℕ) (p : PostingFields) → HasPostings g body
    → IsPostingOf g stamp body n l p → (p.key % 256 ≤ p.last) × (p.last < 256)

-- the posting of a stamp in the time list, which is behind the lists of words
abbrev pub time_entry : Layout → ℕ → ℕ → ListedPosting
time_entry g n seconds = record { list = g.lists; posting = time_posting n seconds }

-- on a volume of stamped documents a stamp adds one posting, behind those of the words
abbrev pub StampsAddOne : Type 0
StampsAddOne =
    (g : Layout) (body : List ℕ) (n seconds : ℕ) (rows : List ListedPosting) → TakesStamps g
    → ArePostings g None body n rows → ArePostings g (Some seconds) body n (rows ++ time_entry g n seconds ∷ [])
