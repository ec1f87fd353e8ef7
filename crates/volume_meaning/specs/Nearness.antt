-- How many documents a query can meet besides those that match: what bounds on reads speak of.
use Rattle.std.specs.Prelude.{◌≡◌, ◌≤◌, ◌+◌, ◌⊎◌, ℕ, List, [], ◌∷◌, Contains}
use Rattle.sha2.specs.Sha256.{sha256}
use Rattle.cell_types.specs.Image.{Image}
use Rattle.cell_types.specs.Layout.{Layout}
use Rattle.cell_types.specs.declared.record_cell.RecordCell.TheVariants.{Bucket}
use Rattle.volume_meaning.specs.Documents.{Document, Stands}
use Rattle.volume_meaning.specs.Volumes.{Holds}
use Rattle.volume_meaning.specs.Blocks.{PostingFields}
use Rattle.volume_meaning.specs.HashPaths.{nibble, fingerprint_of}
use Rattle.volume_meaning.specs.Nodes.{IsOnPath}
use Rattle.volume_meaning.specs.Postings.{HasPostings, IsWordPosting, HasTag, list_of, tag_of}

-- so many of the documents are such
abbrev pub Count : (Document → Type 0) → List Document → ℕ → Type 0
Count IsSuch [] count = count ≡ 0
Count IsSuch (d ∷ documents) count =
    (IsSuch d × ((rest : ℕ) × (count ≡ rest + 1) × Count IsSuch documents rest))
    ⊎ ((IsSuch d → ⊥) × Count IsSuch documents count)

-- the document has a posting in this term's list
pub record SharesList (g : Layout) (term : List ℕ) (d : Document) : Type 0 where
  pub exist : HasPostings g d.body
  pub posting : PostingFields
  pub is : IsWordPosting g d.body d.slot (list_of g.lists term) posting

-- Near: the least number, over the terms, of documents that have a posting in that term's list.
pub record IsNear (g : Layout) (documents : List Document) (terms : List (List ℕ)) (near : ℕ) : Type 0 where
  pub term : List ℕ
  pub among : Contains terms term
  pub count : Count (SharesList g term) documents near
  pub least : (other : List ℕ) (more : ℕ) → Contains terms other
      → Count (SharesList g other) documents more → near ≤ more

-- terms have one Near among documents
abbrev pub NearIsOne : Type 0
NearIsOne =
    (g : Layout) (documents : List Document) (terms : List (List ℕ)) (one other : ℕ) → IsNear g documents terms one
    → IsNear g documents terms other → one ≡ other

-- a candidate has the tag of each term, in the term's list
abbrev pub IsCandidate : Layout → List (List ℕ) → Document → Type 0
IsCandidate g terms d =
    (term : List ℕ) → Contains terms term → HasTag g d.body (list_of g.lists term) (tag_of term)

-- A document that a look-up of an identifier may have to read: a bucket on the identifier's path with its fingerprint
-- names the document's slot.
pub record IsPathMate (g : Layout) (image : Image) (id : List ℕ) (d : Document) : Type 0 where
  pub stands : Stands g.cells image d.slot d.id d.body
  pub level : ℕ
  pub node : ℕ
  pub on_path : IsOnPath g image (sha256 id) level node
  pub bucket : Holds image (node + nibble (sha256 id) level) (Bucket d.slot (fingerprint_of (sha256 id)))
