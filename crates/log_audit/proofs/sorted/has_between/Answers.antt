-- Of the numbers that are not lower the first is the least, if there is one.
use Rattle.std.proofs.Common.{arith, length}
use Rattle.std.specs.Prelude.{slice_index}
use Rattle.log_audit.proofs.Bisecting.{first_between, first_is}
use Rattle.log_audit.proofs.Orders.{is_less, less_is}
use Rattle.log_audit.proofs.sorted.has_between.Goals as goal

pub returns-then-place-numbers : goal.returns-then-place-numbers
returns-then-place-numbers c =
    let number = slice_index c.args.numbers.now c.lower_than-place.result in (
      λ yes. first_between c.requires c.lower_than-place.ensures c.if-place-numbers.true (less_is number c.args.high yes),
      λ h. is_less number c.args.high (first_is c.requires c.lower_than-place.ensures h).1,
    )

pub returns-else-place-numbers : goal.returns-else-place-numbers
returns-else-place-numbers c =
    let place = c.lower_than-place.result in let count = length c.args.numbers.now in (
      λ yes. let less = less_is place count yes in absurd (omega (arith, c.if-place-numbers.false, less)),
      λ h. is_less place count (first_is c.requires c.lower_than-place.ensures h).0,
    )
