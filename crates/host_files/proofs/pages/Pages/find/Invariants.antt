use Rattle.std.proofs.Common.{◌<◌, ℕ}
use Rattle.host_files.specs.Pages.{IsOn}
use Rattle.host_files.proofs.pages.Pages.find.Given as goal

abbrev pub invariant-loop-frame : goal.invariant-loop-frame
invariant-loop-frame l = (frame : ℕ) → frame < l.frame → IsOn l.self.pages.items frame l.number → ⊥
