-- The reserve cell is blank, a stray, or reserves no cells of the pool; or it reserves some.
use Rattle.commit_record.proofs.CellsMake.{reserve_stray, reserve_wrong, reserved, unreserved}
use Rattle.commit_record.proofs.slot_cells.state_of_cells.Goals as goal

-- nothing is reserved
pub returns-in-Blank-clause-ends : goal.returns-in-Blank-clause-ends
returns-in-Blank-clause-ends c =
    unreserved _ c.args.slot c.requires.slot c.args.reserve c.args.outcome c.args.done c.args.stamp c.state_unreserved.result
    c.in-Blank.is
    c.state_unreserved.ensures

-- the reserve cell holds no record
pub returns-in-Stray-clause-ends : goal.returns-in-Stray-clause-ends
returns-in-Stray-clause-ends c =
    reserve_stray _ c.args.slot c.requires.slot c.args.reserve c.args.outcome c.args.done c.args.stamp
    c.reserve_at.result c.in-Stray.found c.reserve_at.ensures.at c.in-Stray.is

-- or one that reserves no cells of the pool
pub returns-in_default-clause-ends : goal.returns-in_default-clause-ends
returns-in_default-clause-ends c =
    reserve_wrong _ c.args.slot c.requires.slot c.args.reserve c.args.outcome c.args.done c.args.stamp
    c.reserve_at-in_default.result c.in-Record.found c.in-Record.held c.reserve_at-in_default.ensures.at
    c.in-Record.is
    c.in_default.ensures.none

-- it reserves these cells
pub returns-clause-ends : goal.returns-clause-ends
returns-clause-ends c =
    let some = c.in-Some.ensures.some in
    reserved _ c.args.slot c.requires.slot c.args.reserve c.args.outcome c.args.done c.args.stamp c.in-Some.start c.in-Some.length
    c.state_reserved.result c.in-Record.found c.in-Record.held c.in-Record.is some.0 some.1 some.2
    c.state_reserved.ensures.ends
