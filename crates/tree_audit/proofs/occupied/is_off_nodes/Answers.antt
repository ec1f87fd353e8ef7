-- A node in reach, or none.
use Rattle.std.proofs.Common.{arith}
use Rattle.log_audit.specs.Kept.{image_of_kept}
use Rattle.tree_audit.proofs.Meeting.{nodes_tell, tells_same}
use Rattle.tree_audit.proofs.occupied.is_off_nodes.Goals as goal

pub returns : goal.returns
returns c = nodes_tell c.args._geometry.now (image_of_kept c.args._kept.now) c.requires.nodes.nodes c.args.target
    c.requires.room (omega (arith, c.from-first.ensures)) (omega (arith, c.from.ensures, c.from-2.ensures)) c.has_between.result
    (tells_same c.deref.ensures.value c.has_between.ensures)
