-- Each turn, by the lemma of its kind.
use Rattle.cell_types.proofs.Passed.{handed}
use Rattle.hash_tree.proofs.Walking.{ends_fault, ends_fit, ends_full, ends_open, walks_none, walks_on}
use Rattle.hash_tree.proofs.path.next_candidate.Goals as goal

pub loop-here-init : goal.loop-here-init
loop-here-init g c = walks_none c.args.volume.now.geometry c.args.edge _ c.args.level.now c.requires.level

-- a fault
pub returns-in_err-here : goal.returns-in_err-here
returns-in_err-here g c =
    rw (handed c.from_residual.result c.in_err-here.field-0.0 c.from_residual.ensures.1)
    (ends_fault c.args.volume.now.geometry c.args.edge _ _ _ c.args.level.now c.loop-here.level c.requires.bounds
    (g.met.V.View.proper c.look_here.new.view) c.loop-here.invariant c.in_err-here.field-0.0 c.in_err-here.ensures)

-- a candidate
pub returns-in-Fits : goal.returns-in-Fits
returns-in-Fits g c =
    ends_fit c.args.volume.now.geometry c.args.edge _ _ _ c.args.level.now c.loop-here.level c.requires.bounds
    (g.met.V.View.proper c.look_here.new.view) c.loop-here.invariant c.in-Fits.slot c.in-Fits.bucket
    (rw c.in-Fits.is at c.in_ok-here.ensures)

-- the path is open here
pub returns-in-Ends : goal.returns-in-Ends
returns-in-Ends g c =
    ends_open c.args.volume.now.geometry c.args.edge _ _ _ c.args.level.now c.loop-here.level c.requires.bounds
    (g.met.V.View.proper c.look_here.new.view) c.loop-here.invariant c.in-Ends.place
    (rw c.in-Ends.is at c.in_ok-here.ensures)

-- it is full
pub returns-in-Last : goal.returns-in-Last
returns-in-Last g c =
    ends_full c.args.volume.now.geometry c.args.edge _ _ _ c.args.level.now c.loop-here.level c.requires.bounds
    (g.met.V.View.proper c.look_here.new.view) c.loop-here.invariant (rw c.in-Last.is at c.in_ok-here.ensures)

-- or it leads on
pub loop-here-preserved : goal.loop-here-preserved
loop-here-preserved g c =
    walks_on c.args.volume.now.geometry c.args.edge _ _ _ c.args.level.now c.loop-here.level c.requires.bounds
    (g.met.V.View.proper c.look_here.new.view) c.loop-here.invariant c.in-Leads.child
    (rw c.in-Leads.is at c.in_ok-here.ensures)
