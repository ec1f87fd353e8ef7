-- The block at which a trail ends.
use Rattle.std.proofs.Common.{◌≡◌, ◌<◌, ◌+◌, ⊎_elim, ℕ, refl, sym, subst, arith, ◌∙◌}
use Rattle.std.proofs.lemmas.Bool.{cases_lt}
use Rattle.cell_types.specs.Image.{Image}
use Rattle.volume_meaning.specs.Blocks.{PostingFields, InFront, Hop, Trail, here, on}
use Rattle.volume_meaning.proofs.Fronts.{rises}
use Rattle.volume_meaning.proofs.Trails.{not_both, one_target}
use Rattle.ingest_laws.specs.Needs.{TrailTo, at_end, through}

-- each trail ends at some block
pub to_end : {image : Image} {from to at : ℕ} {p : PostingFields} {block : ℕ} → Trail image from to at p block
    → (last : ℕ) × (place : ℕ) × (at ≡ last + place) × TrailTo image from to last place p block
to_end (here block place is below front) = (block, place, is, at_end block refl below front)
to_end (on block target hop rest) = let e = to_end rest in (e.0, e.1, e.2, through block target hop e.3)

-- and is the posting's trail
pub of_end : {image : Image} {from to last place : ℕ} {p : PostingFields} {block : ℕ}
    → TrailTo image from to last place p block
    → Trail image from to (last + place) p block
of_end {image} {place = place} {p = p} (at_end block same below front) = here block place (omega (arith, same)) below
    (subst (λ (b : ℕ). InFront image b place p) (sym same) front)
of_end (through block target hop rest) = on block target hop (of_end rest)

-- the posting stands there
pub end_front : {image : Image} {from to last place : ℕ} {p : PostingFields} {block : ℕ}
    → TrailTo image from to last place p block → (place < 128) × InFront image last place p
end_front (at_end block same below front) = (below, front)
end_front (through block target hop rest) = end_front rest

-- in one block's front a key stands in one place
same_place : {image : Image} {block place other : ℕ} {p q : PostingFields} → InFront image block place p
    → InFront image block other q → p.key ≡ q.key → place ≡ other
same_place {place = place} {other = other} {p = p} {q = q} front front' same = ⊎_elim
    (λ (less : place < other). absurd (omega (arith, rises front' place p front less, same)))
    (λ le. ⊎_elim
    (λ (less : other < place). absurd (omega (arith, rises front other q front' less, same)))
    (λ ge. omega (arith, le, ge))
    (cases_lt other place))
    (cases_lt place other)

-- from a block the trails of one key end at one block, in one place
pub one_end : {image : Image} {from to last place : ℕ} {p : PostingFields} {block : ℕ}
    → TrailTo image from to last place p block → (last' place' : ℕ) (q : PostingFields)
    → TrailTo image from to last' place' q block → p.key ≡ q.key → (last ≡ last') × (place ≡ place')
one_end {image} {last = last} {p = p} (at_end block is below front) last' place' q (at_end _ is' below' front') same =
    let blocks : last ≡ last' = sym is ∙ is' in
    (blocks, same_place front (subst (λ (b : ℕ). InFront image b place' q) (sym blocks) front') same)
one_end {image} {place = place} {p = p} (at_end block is below front) last' place' q (through _ target hop rest) same =
    absurd (not_both q.key below (subst (λ (b : ℕ). InFront image b place p) (sym is) front) same hop)
one_end {image} {p = p} (through block target hop rest) last' place' q (at_end _ is below front) same =
    absurd (not_both p.key below (subst (λ (b : ℕ). InFront image b place' q) (sym is) front) (sym same) hop)
one_end {image} {from} {to} {p = p} (through block target hop rest) last' place' q (through _ target' hop' rest') same =
    let one : target ≡ target' =
    one_target hop (subst (λ (k : ℕ). Hop image from to block k target') (sym same) hop') in
    one_end rest last' place' q (subst (λ (t : ℕ). TrailTo image from to last' place' q t) (sym one) rest') same
