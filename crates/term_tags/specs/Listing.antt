-- The postings that a document's words give, and how asking for them ends.
use Rattle.std.specs.Prelude.{◌≡◌, ◌<◌, ◌≤◌, ◌+◌, ◌*◌, ◌-◌, ℕ, List, [], ◌∷◌, ◌++◌, length, map, slice_index, Option, None, Some, ⊤}
use Rattle.cell_types.specs.declared.refusal.Refusal.{Refusal}
use Rattle.cell_types.specs.declared.refusal.Refusal.TheVariants.{TooManyTerms, NoMemory}
use Rattle.cell_types.specs.Layout.{Layout, TakesStamps}
use Rattle.volume_meaning.specs.Words.{AreWords, rule_of}
use Rattle.volume_meaning.specs.Postings.{AreTags, ListedPosting, ArePostings, HasPostings, time_posting}
use Rattle.term_tags.specs.Keys.{list_in, tag_in, tags_at}
use Rattle.term_tags.specs.declared.rows.Posting.{Posting}

-- the posting as one of slot n's document: its key is 256 times the slot and the ordinal
abbrev pub listed : ℕ → Posting → ListedPosting
listed n p = record { list = p.list; posting = record { key = 256 * n + p.ordinal; last = p.last; tag = p.tag } }

-- List l is the lowest that gets more than 256 distinct tags of the body, and it gets so many.
pub record GetsTooMany (g : Layout) (body : List ℕ) (l count : ℕ) : Type 0 where
  pub below : l < g.lists
  pub tags : List (List ℕ)
  pub are : AreTags g body l tags
  pub number : length tags ≡ count
  pub many : 256 < count
  pub lowest : (m : ℕ) → m < l → (others : List (List ℕ)) × AreTags g body m others × (length others ≤ 256)

-- Of a body's lists one is the lowest that gets too many tags, and they have one number; and where there is such a list
-- the body has no postings.
pub record TooManyIsOne : Type 0 where
  pub one : (g : Layout) (body : List ℕ) (l m count number : ℕ) → GetsTooMany g body l count → GetsTooMany g body m number
      → (l ≡ m) × (count ≡ number)
  pub none : (g : Layout) (body : List ℕ) (l count : ℕ) → GetsTooMany g body l count → HasPostings g body → ⊥

-- of the words of a body these are the postings of its document, but for that of the time list, in whichever slot of a
-- volume with so many lists
abbrev pub GivesPostings : ℕ → List (List ℕ) → List Posting → Type 0
GivesPostings lists terms rows =
    (g : Layout) (body : List ℕ) → g.lists ≡ lists → AreWords (rule_of g.version) body terms → (n : ℕ)
    → ArePostings g None body n (map (listed n) rows)

-- the posting of a stamp, if there is one
abbrev pub time_entries : ℕ → ℕ → Option ℕ → List ListedPosting
time_entries lists n None = []
time_entries lists n (Some seconds) = record { list = lists; posting = time_posting n seconds } ∷ []

-- a stamp is given only on a volume of stamped documents
abbrev pub MayHaveStamp : Layout → Option ℕ → Type 0
MayHaveStamp g None = ⊤
MayHaveStamp g (Some seconds) = TakesStamps g

-- of the words of a body these are the postings of its document in slot n, with this stamp
abbrev pub GivesListed : ℕ → ℕ → Option ℕ → List (List ℕ) → List ListedPosting → Type 0
GivesListed lists n stamp terms rows =
    (g : Layout) (body : List ℕ) → g.lists ≡ lists → MayHaveStamp g stamp → AreWords (rule_of g.version) body terms
    → ArePostings g stamp body n rows

-- of the words of a body this list is the lowest that gets too many tags; want of memory is free
abbrev pub GivesNone : ℕ → List (List ℕ) → Refusal → Type 0
GivesNone lists terms (TooManyTerms l count) =
    (g : Layout) (body : List ℕ) → g.lists ≡ lists → AreWords (rule_of g.version) body terms → GetsTooMany g body l count
GivesNone lists terms NoMemory = ⊤
GivesNone lists terms other = ⊥

-- so many of the keys each list has
pub record AreCounts (lists : ℕ) (keys counts : List ℕ) : Type 0 where
  pub long : length counts ≡ lists
  pub each : (l : ℕ) → l < lists → slice_index counts l ≡ length (tags_at l keys)

-- no list has more than 256
pub record AllFit (counts : List ℕ) (lists : ℕ) : Type 0 where
  pub each : (l : ℕ) → l < lists → slice_index counts l ≤ 256

-- the list is the first with more, and has so many
pub record IsFirstOver (counts : List ℕ) (l count : ℕ) : Type 0 where
  pub below : l < length counts
  pub number : slice_index counts l ≡ count
  pub many : 256 < count
  pub lowest : (m : ℕ) → m < l → slice_index counts m ≤ 256

-- the posting of a key among all, behind those before it
abbrev pub posting_row : List ℕ → List ℕ → ℕ → Posting
posting_row all before key = record {
  list = list_in key;
  ordinal = length (tags_at (list_in key) before);
  last = length (tags_at (list_in key) all) - 1;
  tag = tag_in key;
}

-- the postings of the keys behind those before them
abbrev pub rows_behind : List ℕ → List ℕ → List ℕ → List Posting
rows_behind all before [] = []
rows_behind all before (key ∷ keys) = posting_row all before key ∷ rows_behind all (before ++ key ∷ []) keys

-- the postings of all keys
abbrev pub posting_rows : List ℕ → List Posting
posting_rows keys = rows_behind keys [] keys
