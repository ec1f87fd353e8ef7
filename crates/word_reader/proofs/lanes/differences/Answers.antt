-- Each lane is what the operators make of its byte.
use Rattle.std.proofs.Common.{◌∙◌, ap, map, bit_or, bit_xor, List, ℕ}
use Rattle.std.proofs.lemmas.List.{length-map}
use Rattle.std.proofs.lemmas.Simd.{length-chunk, map-map, zip2_splat}
use Rattle.std.specs.Prelude.{replicate}
use Rattle.std.specs.Simd.Lanes.{chunk, zip2}
use Rattle.word_reader.proofs.lanes.differences.Goals as goal

pub returns : goal.returns
returns c =
    let lanes = chunk c.args.at 16 c.args.row.now in
    let other = bit_or c.args.byte 32 in
    let long = length-chunk c.args.at 16 c.args.row.now c.requires in
    ap (λ (l : List ℕ). zip2 bit_xor l (replicate 16 other)) (zip2_splat bit_or lanes 16 32 long)
    ∙ zip2_splat bit_xor (map (λ x. bit_or x 32) lanes) 16 other (length-map lanes (λ x. bit_or x 32) ∙ long)
    ∙ map-map (λ x. bit_xor x other) (λ x. bit_or x 32) lanes
