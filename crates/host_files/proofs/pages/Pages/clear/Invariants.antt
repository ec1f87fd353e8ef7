use Rattle.std.proofs.Common.{◌≡◌, ◌<◌, ℕ, length}
use Rattle.host_files.specs.Pages.{IsOn}
use Rattle.host_files.proofs.pages.Pages.clear.Given as goal

abbrev pub invariant-loop-frame : goal.invariant-loop-frame
invariant-loop-frame l =
    (length l.self.pages.items ≡ 16) × ((frame number : ℕ) → frame < l.frame → IsOn l.self.pages.items frame number
    → ⊥)
