-- The line of a document is cut behind its slot.
use Rattle.std.proofs.Common.{◌≡◌, ◌∙◌, ◌∷◌, ◌++◌, ap, decimal, drop, sym, subst, arith, true≢false}
use Rattle.receipt_text.proofs.Spelling.{head_cut, slot_is}
use Rattle.volume_meaning.specs.Documents.{IsIdentifier}
use Rattle.receipt_text.proofs.lines.head_of.Goals as goal

pub returns-in_default-number_of-clause-none : goal.returns-in_default-number_of-clause-none
returns-in_default-number_of-clause-none c = λ slot id below is same.
    let words : c.in-Some.words.now ≡ decimal slot ++ (32 ∷ id) = c.in-Some.ensures.cases.1 ∙ ap (drop 8) same in
    c.in_default-number_of.ensures.none slot (omega arith)
    (head_cut c.in-Some.words.now c.in-Some-cut_at.cut.front.now c.in-Some-cut_at.cut.rest.now slot id
    c.in-Some-cut_at.ensures.some c.in-Some-cut_at.ensures.first below words).0

pub returns-then-slot-ge-MAX_SLOTS-clause-none : goal.returns-then-slot-ge-MAX_SLOTS-clause-none
returns-then-slot-ge-MAX_SLOTS-clause-none c = λ slot id below is same.
    let words : c.in-Some.words.now ≡ decimal slot ++ (32 ∷ id) = c.in-Some.ensures.cases.1 ∙ ap (drop 8) same in
    let cut = head_cut c.in-Some.words.now c.in-Some-cut_at.cut.front.now c.in-Some-cut_at.cut.rest.now slot id
    c.in-Some-cut_at.ensures.some c.in-Some-cut_at.ensures.first below words in
    let there : c.in-Some-number_of.slot ≡ slot =
    slot_is c.in-Some-number_of.slot slot c.in-Some-number_of.ensures.fits below
    (sym c.in-Some-number_of.ensures.some ∙ cut.0) in
    omega (arith, there, below, c.if-slot-ge-MAX_SLOTS.true)

pub returns-then-not-is_identifier-clause-none : goal.returns-then-not-is_identifier-clause-none
returns-then-not-is_identifier-clause-none c = λ slot id below is same.
    let words : c.in-Some.words.now ≡ decimal slot ++ (32 ∷ id) = c.in-Some.ensures.cases.1 ∙ ap (drop 8) same in
    let cut = head_cut c.in-Some.words.now c.in-Some-cut_at.cut.front.now c.in-Some-cut_at.cut.rest.now slot id
    c.in-Some-cut_at.ensures.some c.in-Some-cut_at.ensures.first below words in
    let there : IsIdentifier c.in-Some-cut_at.cut.rest.now = subst IsIdentifier (sym cut.1) is in
    true≢false (sym (c.is_identifier.ensures.1 there) ∙ c.if-not-is_identifier.true)
