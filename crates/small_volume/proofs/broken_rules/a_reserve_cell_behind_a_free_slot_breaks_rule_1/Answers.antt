-- Slot 1 has no reserve cell, so it has not ended.
use Rattle.std.proofs.Common.{refl, arith}
use Rattle.tamper_rules.specs.Rules.{ReserveCells}
use Rattle.tamper_rules.proofs.Settled.{ended_reserves, written}
use Rattle.small_volume.proofs.Broken.{broken_by, no_written}
use Rattle.small_volume.specs.ForeignCells.{early_reserve_cell}
use Rattle.small_volume.proofs.broken_rules.a_reserve_cell_behind_a_free_slot_breaks_rule_1.Goals as goal

pub returns-clause-broken : goal.returns-clause-broken
returns-clause-broken c = broken_by ReserveCells 12 early_reserve_cell refl (2, omega arith, refl)
    (λ met. let rule = met 2 (omega arith) refl in no_written refl (written (ended_reserves (rule.before 1 refl)).2))
