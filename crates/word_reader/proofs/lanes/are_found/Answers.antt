-- Where none of the sixty-four bits is set the two bytes stand at none of the places.
use Rattle.std.proofs.Common.{◌≡◌, arith, bit_or}
use Rattle.std.proofs.lemmas.Bool.{eqb-true}
use Rattle.std.proofs.lemmas.Nat.{le_or_l, le_or_r}
use Rattle.word_reader.proofs.Places.{none_past, none_set, shown}
use Rattle.word_reader.proofs.lanes.are_found.Goals as goal

pub returns : goal.returns
returns c = λ none.
    let one = c.places_found-one.result in
    let two = c.places_found-two.result in
    let three = c.places_found-three.result in
    let four = c.places_found-four.result in
    let all : bit_or (bit_or (bit_or one two) three) four ≡ 0 = eqb-true _ _ (shown _ none) in
    let first : one ≡ 0 = omega (arith, all, le_or_l one two, le_or_l (bit_or one two) three, le_or_l (bit_or (bit_or one two) three) four) in
    let second : two ≡ 0 = omega (arith, all, le_or_r one two, le_or_l (bit_or one two) three, le_or_l (bit_or (bit_or one two) three) four) in
    let third : three ≡ 0 = omega (arith, all, le_or_r (bit_or one two) three, le_or_l (bit_or (bit_or one two) three) four) in
    let fourth : four ≡ 0 = omega (arith, all, le_or_r (bit_or (bit_or one two) three) four) in
    let row = c.args.row.now in
    let at = c.args.at in
    let behind = c.args.behind in
    let past = none_past row at behind c.args.first c.args.second in
    past 48
    (past 32
    (past 16
    (λ k less a b. none_set one first k (c.places_found-one.ensures.found k less a b))
    (λ k less a b. none_set two second k (c.places_found-two.ensures.found k less a b)))
    (λ k less a b. none_set three third k (c.places_found-three.ensures.found k less a b)))
    (λ k less a b. none_set four fourth k (c.places_found-four.ensures.found k less a b))
