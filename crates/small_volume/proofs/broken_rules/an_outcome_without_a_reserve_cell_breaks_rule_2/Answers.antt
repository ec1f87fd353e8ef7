-- The reserve cell of slot 1 is blank.
use Rattle.std.proofs.Common.{refl, arith}
use Rattle.tamper_rules.specs.Rules.{OutcomeCells}
use Rattle.small_volume.proofs.Broken.{broken_by, no_written}
use Rattle.small_volume.specs.ForeignCells.{abandon_cell}
use Rattle.small_volume.proofs.broken_rules.an_outcome_without_a_reserve_cell_breaks_rule_2.Goals as goal

pub returns-clause-broken : goal.returns-clause-broken
returns-clause-broken c = broken_by OutcomeCells 9 abandon_cell refl (1, omega arith, refl)
    (λ met. let rule = met 1 (omega arith) refl in no_written refl rule.reserve)
