-- Each of the four cells is read.
use Rattle.std.proofs.Common.{◌≡◌, ℕ, refl, sym, subst, arith}
use Rattle.tamper_rules.specs.Rules.{ReserveRule, OutcomeRule, DoneRule}
use Rattle.small_volume.specs.SmallVolume.{small_image, small_layout, hello_cell}
use Rattle.small_volume.proofs.EachRule.{entry_rule}
use Rattle.small_volume.proofs.Found.{alone}
use Rattle.small_volume.proofs.OneSlotRules.{reserve_rule, outcome_rule, done_rule}
use Rattle.small_volume.proofs.kept_rules.the_small_volume_keeps_rules_1_2_3_and_8.Goals as goal

pub returns-clause-reserve_cell : goal.returns-clause-reserve_cell
returns-clause-reserve_cell c = λ n inside at.
    let first : n ≡ 0 = omega (arith, at) in
    subst (λ (k : ℕ). ReserveRule small_layout small_image k) (sym first) (reserve_rule alone refl)

pub returns-clause-outcome_cell : goal.returns-clause-outcome_cell
returns-clause-outcome_cell c = λ n inside at.
    let first : n ≡ 0 = omega (arith, at) in
    subst (λ (k : ℕ). OutcomeRule small_layout small_image k) (sym first) (outcome_rule alone)

pub returns-clause-done_cell : goal.returns-clause-done_cell
returns-clause-done_cell c = λ n inside at.
    let first : n ≡ 0 = omega (arith, at) in
    subst (λ (k : ℕ). DoneRule small_image k) (sym first) (done_rule alone)

pub returns-clause-first_entry : goal.returns-clause-first_entry
returns-clause-first_entry c = entry_rule 36 (record { found = hello_cell; stands = refl })
