-- Rule 1 is kept, as each of the first three is.
use Rattle.std.proofs.Common.{arith}
use Rattle.tamper_rules.specs.Rules.{ReserveCells}
use Rattle.audit_tests.proofs.parts.owner_in.Goals as goal

pub owner_of-requires : goal.owner_of-requires
owner_of-requires c = c.in-Ok.ensures.1 ReserveCells (omega arith)
