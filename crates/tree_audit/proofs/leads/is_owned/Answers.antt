-- Nobody's first cell, nobody's last, and both.
use Rattle.std.proofs.Common.{arith}
use Rattle.tamper_rules.specs.Rules.{ReserveCells}
use Rattle.log_audit.proofs.Deciding.{no}
use Rattle.tree_audit.proofs.Owning.{owned_by}
use Rattle.tree_audit.proofs.leads.is_owned.Goals as goal

pub owner_of-requires : goal.owner_of-requires
owner_of-requires c = c.requires.met ReserveCells (omega arith)

pub returns-in_default : goal.returns-in_default
returns-in_default c = no (λ is. c.in_default.ensures.none is.owner is.first)

pub owner_of-requires-2 : goal.owner_of-requires-2
owner_of-requires-2 c = c.requires.met ReserveCells (omega arith)

pub returns-in_default-owner_of : goal.returns-in_default-owner_of
returns-in_default-owner_of c = no (λ is. (c.in_default-owner_of).ensures.none is.owner is.last)

pub returns : goal.returns
returns c = owned_by (c.requires.met ReserveCells (omega arith)) c.args.volume.now.is_log c.in-Some.ensures.some
    (c.in-Some-owner_of).ensures.some
