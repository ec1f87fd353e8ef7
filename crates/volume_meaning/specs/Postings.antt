-- The postings of a document: each distinct tag of its words, in the tag's list, and on a volume of stamped documents
-- its time posting, in the time list.
--
--     hello    SHA-256 begins 2c f2 4d ba 5f b0 a3 0e 26 e8: tag 2cf24dba5fb0, and a30e26e8 modulo the number of lists
--              is its list
use Rattle.std.specs.Prelude.{◌≡◌, ◌<◌, ◌≤◌, ◌+◌, ◌*◌, ◌%◌, ◌⊎◌, ℕ, List, length, take, drop, slice_get, Option, Some, [], ◌∷◌, ◌++◌, Contains}
use Rattle.byteorder.specs.Endian.{big_bytes, big_number}
use Rattle.sha2.specs.Sha256.{sha256}
use Rattle.cell_types.specs.Layout.{Layout, all_lists}
use Rattle.volume_meaning.specs.Words.{HasWord, rule_of}
use Rattle.volume_meaning.specs.Blocks.{PostingFields}

-- a word's tag: the first six bytes of its digest
abbrev pub tag_of : List ℕ → List ℕ
tag_of word = take 6 (sha256 word)

-- its list of so many: the number in the next four, modulo theirs
abbrev pub list_of : ℕ → List ℕ → ℕ
list_of lists word = big_number 4 (drop 6 (sha256 word)) % lists

-- some word of the body has this list and this tag
pub record HasTag (g : Layout) (body : List ℕ) (l : ℕ) (tag : List ℕ) : Type 0 where
  pub word : List ℕ
  pub among : HasWord (rule_of g.version) body word
  pub list : list_of g.lists word ≡ l
  pub same : tag_of word ≡ tag

-- The distinct tags of a body in a list, in rising byte order: big-endian numbers of six bytes rise as these do.
pub record AreTags (g : Layout) (body : List ℕ) (l : ℕ) (tags : List (List ℕ)) : Type 0 where
  pub rise : (i j : ℕ) (a b : List ℕ) → i < j → slice_get tags i ≡ Some a → slice_get tags j ≡ Some b
      → big_number 6 a < big_number 6 b
  pub each : (tag : List ℕ) → Contains tags tag → HasTag g body l tag
  pub all : (tag : List ℕ) → HasTag g body l tag → Contains tags tag

-- a body has one list of tags in a list
abbrev pub TagsAreOne : Type 0
TagsAreOne =
    (g : Layout) (body : List ℕ) (l : ℕ) (one other : List (List ℕ)) → AreTags g body l one → AreTags g body l other
    → one ≡ other

-- The posting is one of a word of slot n's document in list l: its tag's place among the tags is its ordinal, the key
-- is
-- 256 times the slot and the ordinal, and `last` is the greatest ordinal.
pub record IsWordPosting (g : Layout) (body : List ℕ) (n l : ℕ) (p : PostingFields) : Type 0 where
  pub list : l < g.lists
  pub tags : List (List ℕ)
  pub are : AreTags g body l tags
  pub ordinal : ℕ
  pub here : slice_get tags ordinal ≡ Some p.tag
  pub key : p.key ≡ 256 * n + ordinal
  pub last : p.last + 1 ≡ length tags

-- the time posting of slot n: its key is the stamp, and its tag names the slot
abbrev pub time_posting : ℕ → ℕ → PostingFields
time_posting n seconds = record { key = seconds; last = 255; tag = big_bytes 4 n ++ 0 ∷ 0 ∷ [] }

-- The posting is one of slot n's document, which has this stamp, in list l: one of a word, or in the time list that of
-- the stamp.
abbrev pub IsPostingOf : Layout → Option ℕ → List ℕ → ℕ → ℕ → PostingFields → Type 0
IsPostingOf g stamp body n l p =
    IsWordPosting g body n l p
    ⊎ ((seconds : ℕ) × (stamp ≡ Some seconds) × (l ≡ g.lists) × (p ≡ time_posting n seconds))

-- the document's postings exist: each list of words gets at most 256 tags of the body
pub record HasPostings (g : Layout) (body : List ℕ) : Type 0 where
  pub each : (l : ℕ) → l < g.lists → (tags : List (List ℕ)) × AreTags g body l tags × (length tags ≤ 256)

-- a posting and its list
pub record ListedPosting : Type 0 where
  pub list : ℕ
  pub posting : PostingFields

-- the first comes before the second: its list is lower, or it is the same and its key is smaller
abbrev pub ComesBefore : ListedPosting → ListedPosting → Type 0
ComesBefore a b = (a.list < b.list) ⊎ ((a.list ≡ b.list) × (a.posting.key < b.posting.key))

-- these are the postings of slot n's document, which has this stamp, by list and ordinal; they exist
pub record ArePostings (g : Layout) (stamp : Option ℕ) (body : List ℕ) (n : ℕ)
    (rows : List ListedPosting) : Type 0 where
  pub exist : HasPostings g body
  pub order : (i j : ℕ) (a b : ListedPosting) → i < j → slice_get rows i ≡ Some a → slice_get rows j ≡ Some b
      → ComesBefore a b
  pub each : (i : ℕ) (a : ListedPosting) → slice_get rows i ≡ Some a
      → (a.list < all_lists g) × IsPostingOf g stamp body n a.list a.posting
  pub all : (l : ℕ) (p : PostingFields) → l < all_lists g → IsPostingOf g stamp body n l p
      → (i : ℕ) × (slice_get rows i ≡ Some (record { list = l; posting = p }))
