-- What was taken so far is kept, and of this block.
use Rattle.std.proofs.Common.{◌≡◌, ◌<◌, ◌≤◌, ℕ, Some}
use Rattle.std.specs.Prelude.{slice_get}
use Rattle.cell_types.specs.Image.{Image}
use Rattle.jump_block.specs.Keeping.{AreFrontsKept}
use Rattle.jump_block.specs.Known.{IsKnown}
use Rattle.jump_block.specs.declared.known_front.KnownFront.{KnownFront}
use Rattle.jump_block.proofs.kept_fronts.KeptFronts.of_block.Given as goal

abbrev pub invariant-loop-front : goal.invariant-loop-front
invariant-loop-front l = record {
  block : l.known.block ≡ l.block;
  places : l.known.count ≤ 128;
  longest : (i : ℕ) (f : KnownFront) → i < l.front-index → slice_get l.self.held i ≡ Some f → f.block ≡ l.block
      → f.count ≤ 128 → f.count ≤ l.known.count;
  known : (image : Image) → AreFrontsKept image l.self → IsKnown image l.known;
}
