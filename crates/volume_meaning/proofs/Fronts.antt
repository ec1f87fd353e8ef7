-- Fronts.
use Rattle.std.proofs.Common.{◌≡◌, ◌<◌, ◌≤◌, ◌+◌, ⊎_elim, ℕ, [], arith, sym, subst, ap}
use Rattle.cell_types.specs.Image.{Image, Extends}
use Rattle.cell_types.specs.declared.record_cell.RecordCell.{RecordCell}
use Rattle.cell_types.specs.declared.record_cell.RecordCell.TheVariants.{Posting}
use Rattle.std.proofs.lemmas.Bool.{cases_order, cases_lt}
use Rattle.volume_meaning.specs.Volumes.{Holds}
use Rattle.volume_meaning.proofs.Holding.{one_record_holds}
use Rattle.volume_meaning.specs.Blocks.{PostingFields, InFront, at_the_start, behind, posting_record}
use Rattle.volume_meaning.proofs.Extending.{holds_on}

-- a place stays in the front
pub front_on : {old new : Image} {block place : ℕ} {p : PostingFields} → Extends old new
    → InFront old block place p → InFront new block place p
front_on e (at_the_start place p is holds) = at_the_start place p is (holds_on e holds)
front_on e (behind place before p q is rest less holds) =
    behind place before p q is (front_on e rest) less (holds_on e holds)

-- the fields of a posting
abbrev fields_of : RecordCell → PostingFields
fields_of (Posting key last tag) = record { key = key; last = last; tag = tag }
fields_of _ = record { key = 0; last = 0; tag = [] }

posting_fields : (p q : PostingFields) → posting_record p ≡ posting_record q → p ≡ q
posting_fields p q e = ap fields_of e

-- what a place of a front holds
pub front_holds : {image : Image} {block place : ℕ} {p : PostingFields} → InFront image block place p
    → Holds image (block + place) (posting_record p)
front_holds (at_the_start place p is holds) = holds
front_holds (behind place before p q is rest less holds) = holds

-- a cell holds one posting
pub one_posting : (image : Image) (at : ℕ) (p q : PostingFields) → Holds image at (posting_record p)
    → Holds image at (posting_record q) → p ≡ q
one_posting image at p q h k = posting_fields p q (one_record_holds image at (posting_record p) (posting_record q) h k)

-- places behind one place have greater keys
pub rises : {image : Image} {block : ℕ} {j : ℕ} {q : PostingFields} → InFront image block j q
    → (i : ℕ) (p : PostingFields) → InFront image block i p → i < j → p.key < q.key
rises (at_the_start place q is holds) i p front less = absurd (omega arith)
rises {image} {block} (behind place before q r is rest step holds) i p front less =
    ⊎_elim
    (λ same. let e : r ≡ p = one_posting image (block + i) r p
    (subst (λ (n : ℕ). Holds image (block + n) (posting_record r)) (sym same) (front_holds rest))
    (front_holds front) in
    let e' : r.key ≡ p.key = ap (λ (f : PostingFields). f.key) e in omega arith)
    (λ differ. ⊎_elim
    (λ below. let h : p.key < r.key = rises rest i p front below in omega arith)
    (λ above. absurd (omega arith))
    differ)
    (cases_order i before)

-- a place of a front holds one posting
pub one_place : {image : Image} {block i : ℕ} {p q : PostingFields} → InFront image block i p
    → InFront image block i q → p ≡ q
one_place {image} {block} {i} {p} {q} f h = one_posting image (block + i) p q (front_holds f) (front_holds h)

-- the key at an earlier or the same place is not greater
pub rises_or_same : {image : Image} {block i j : ℕ} {p q : PostingFields} → InFront image block i p
    → InFront image block j q → i ≤ j → p.key ≤ q.key
rises_or_same {image} {block} {i} {j} {p} {q} f h le =
    ⊎_elim
    (λ same. let e : p ≡ q = one_place f (subst (λ (n : ℕ). InFront image block n q) (sym same) h) in
    let e' : p.key ≡ q.key = ap (λ (x : PostingFields). x.key) e in omega arith)
    (λ differ. ⊎_elim
    (λ below. let lt : p.key < q.key = rises h i p f below in omega arith)
    (λ above. absurd (omega arith))
    differ)
    (cases_order i j)

-- a greater key stands at a later place
pub place_by_key : {image : Image} {block i j : ℕ} {p q : PostingFields} → InFront image block i p
    → InFront image block j q → p.key < q.key → i < j
place_by_key {image} {block} {i} {j} {p} {q} f h less =
    ⊎_elim
    (λ below. below)
    (λ le. let no : q.key ≤ p.key = rises_or_same h f le in absurd (omega arith))
    (cases_lt i j)
