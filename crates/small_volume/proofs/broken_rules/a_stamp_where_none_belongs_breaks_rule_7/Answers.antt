-- The volume is of version 1.
use Rattle.std.proofs.Common.{inl, inr, refl, arith}
use Rattle.tamper_rules.specs.Rules.{StrayCells}
use Rattle.small_volume.specs.StampedVolume.{stamp_cell}
use Rattle.small_volume.proofs.Broken.{broken_by}
use Rattle.small_volume.proofs.Stamped.{stamp_is}
use Rattle.small_volume.proofs.broken_rules.a_stamp_where_none_belongs_breaks_rule_7.Goals as goal

pub returns-clause-holds : goal.returns-clause-holds
returns-clause-holds c = record { cell = stamp_cell; stands = refl; is = stamp_is }

pub returns-clause-broken : goal.returns-clause-broken
returns-clause-broken c = broken_by StrayCells 7 stamp_cell refl (inr (inl (0, omega arith, refl)))
    (λ met. let rule = met.spare 0 (omega arith) refl in omega (arith, rule.version))
