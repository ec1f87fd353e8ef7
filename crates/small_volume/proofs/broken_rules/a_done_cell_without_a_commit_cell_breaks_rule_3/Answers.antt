-- The outcome cell of slot 1 is blank.
use Rattle.std.proofs.Common.{refl, arith}
use Rattle.tamper_rules.specs.Rules.{DoneCells}
use Rattle.std.proofs.lemmas.Option.{none-some}
use Rattle.small_volume.proofs.Broken.{broken_by}
use Rattle.small_volume.specs.ForeignCells.{done_cell_1}
use Rattle.small_volume.proofs.broken_rules.a_done_cell_without_a_commit_cell_breaks_rule_3.Goals as goal

pub returns-clause-broken : goal.returns-clause-broken
returns-clause-broken c = broken_by DoneCells 10 done_cell_1 refl (1, omega arith, refl)
    (λ met. let rule = met 1 (omega arith) refl in none-some rule.commit.cell rule.commit.stands)
