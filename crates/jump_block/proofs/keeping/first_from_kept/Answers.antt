-- What was kept is known still, and so is what the look adds.
use Rattle.std.proofs.Common.{◌∙◌, ℕ, subst, arith}
use Rattle.jump_block.specs.Keeping.{KeepsPlaces}
use Rattle.jump_block.proofs.Knowing.{kept_on}
use Rattle.jump_block.proofs.keeping.first_from_kept.Goals as goal

pub returns-clause-kept : goal.returns-clause-kept
returns-clause-kept g c = λ tells.
    let look = c.first_from_known-first.ensures in
    c.keep.ensures.kept _ (kept_on look.viewed.image (c.requires.kept tells)) (look.known tells)

pub returns-clause-cheap : goal.returns-clause-cheap
returns-clause-cheap g c = λ tells.
    let look = c.first_from_known-first.ensures in
    record {
      places = c.first_from_known-first.new.front.count;
      keeps =
          let P : ℕ → Type 0 = λ b. KeepsPlaces c.keep.new.self b c.first_from_known-first.new.front.count in
          subst P (look.block ∙ c.of_block-front.ensures.block) (c.keep.ensures.added look.places);
      reads = λ count kept. omega (arith, look.cheap tells, c.of_block-front.ensures.longest count kept);
    }
