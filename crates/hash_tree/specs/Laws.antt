-- A law of steps.
use Rattle.std.specs.Prelude.{◌≡◌, ℕ, Result}
use Rattle.cell_types.specs.Image.{Image}
use Rattle.cell_types.specs.Layout.{Layout}
use Rattle.cell_types.specs.declared.refusal.Evidence.{Evidence}
use Rattle.hash_tree.specs.Steps.{IsStep}
use Rattle.hash_tree.specs.declared.level.Level.{Level}
use Rattle.hash_tree.specs.declared.path.PathStep.{PathStep}

-- in an image a step from a level has one answer, and leaves off at one level
abbrev pub StepsAreOne : Type 0
StepsAreOne =
    (g : Layout) (edge : ℕ) (image : Image) (first last other : Level) (answer second : Result PathStep Evidence)
    → IsStep g edge image first last answer → IsStep g edge image first other second
    → (last ≡ other) × (answer ≡ second)
