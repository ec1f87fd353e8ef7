-- The cell is place 248 of the first block of list 0.
use Rattle.std.proofs.Common.{inl, refl, arith}
use Rattle.tamper_rules.specs.Rules.{Entries}
use Rattle.small_volume.proofs.Broken.{broken_by, first_block}
use Rattle.small_volume.specs.ForeignCells.{late_posting_cell}
use Rattle.small_volume.proofs.broken_rules.a_posting_behind_the_pointers_breaks_rule_8.Goals as goal

pub returns-clause-broken : goal.returns-clause-broken
returns-clause-broken c = broken_by Entries 284 late_posting_cell refl
    (inl (0, record { exists = omega arith; from = omega arith; below = omega arith }))
    (λ met. met.blank 0 36 248 first_block (omega arith) (omega arith) refl)
