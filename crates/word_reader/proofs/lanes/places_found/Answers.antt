-- The bit of a lane is set where its byte and the other one are the two.
use Rattle.std.proofs.Common.{◌∙◌, eqb, ap, bit_or, w8, arith}
use Rattle.std.specs.Int.{bit_at}
use Rattle.std.specs.Simd.Lanes.{zip2}
use Rattle.std.proofs.lemmas.Simd.{bitmask_splat}
use Rattle.word_reader.proofs.Places.{both_found, long, none_behind}
use Rattle.word_reader.proofs.lanes.places_found.Goals as goal

pub returns-clause-few : goal.returns-clause-few
returns-clause-few c = λ k behind_all.
    let row = c.args.row.now in
    let ones = c.differences-ones.result in
    let others = c.differences-others.result in
    let wide = long row c.args.at c.args.behind c.args.first c.args.second ones others c.requires
    c.differences-ones.ensures c.differences-others.ensures in
    ap (λ n. bit_at n k) (bitmask_splat w8 eqb (zip2 bit_or ones others) 16 0 wide (omega arith))
    ∙ none_behind row c.args.at c.args.behind c.args.first c.args.second ones others c.requires
    c.differences-ones.ensures c.differences-others.ensures k behind_all

pub returns-clause-found : goal.returns-clause-found
returns-clause-found c = λ k less one other.
    let row = c.args.row.now in
    let ones = c.differences-ones.result in
    let others = c.differences-others.result in
    let wide = long row c.args.at c.args.behind c.args.first c.args.second ones others c.requires
    c.differences-ones.ensures c.differences-others.ensures in
    ap (λ n. bit_at n k) (bitmask_splat w8 eqb (zip2 bit_or ones others) 16 0 wide (omega arith))
    ∙ both_found row c.args.at c.args.behind c.args.first c.args.second ones others c.requires
    c.differences-ones.ensures c.differences-others.ensures k less one other
