-- Each turn, by the lemma of its kind.
use Rattle.std.proofs.Common.{◌∙◌, ap}
use Rattle.cell_types.proofs.Passed.{handed}
use Rattle.hash_tree.specs.Levels.{first_level}
use Rattle.identifier_lookup.proofs.Finding.{compare_fails, walk_begins, walk_ends, walk_fails, walk_finds, walk_full, walk_on}
use Rattle.identifier_lookup.proofs.walks.walk.Goals as goal

-- at the root
pub loop-step-init : goal.loop-step-init
loop-step-init g c =
    walk_begins c.args.volume.now.geometry c.args.edge c.args.id.now _ c.start-level.result c.requires.size
    c.requires.bounds (c.start-level.ensures ∙ ap first_level c.digest_of-digest.ensures)

-- the step gives no answer
pub returns-in_err-step : goal.returns-in_err-step
returns-in_err-step g c =
    rw (handed c.from_residual.result c.in_err-step.field-0.0 c.from_residual.ensures.1)
    (walk_fails c.args.volume.now.geometry c.args.horizon c.args.edge c.args.id.now _ _ _ c.loop-step.level _
    c.requires.bounds c.loop-step.invariant c.in_err-step.field-0.0 c.in_err-step.ensures)

-- the path ends
pub returns-in-End : goal.returns-in-End
returns-in-End g c =
    walk_ends c.args.volume.now.geometry c.args.horizon c.args.edge c.args.id.now _ _ _ c.loop-step.level _
    c.requires.bounds c.loop-step.invariant c.in-End.place (rw c.in-End.is at c.in_ok-step.ensures)

-- it is full
pub returns-in-PathFull : goal.returns-in-PathFull
returns-in-PathFull g c =
    walk_full c.args.volume.now.geometry c.args.horizon c.args.edge c.args.id.now _ _ _ c.loop-step.level _
    c.requires.bounds c.loop-step.invariant (rw c.in-PathFull.is at c.in_ok-step.ensures)

-- the candidate's slot, or its document, is evidence
pub returns-in_err-found : goal.returns-in_err-found
returns-in_err-found g c =
    rw (handed c.from_residual-in_err-found.result c.in_err-found.field-0.0 c.from_residual-in_err-found.ensures.1)
    (compare_fails c.args.volume.now.geometry c.args.horizon c.args.edge c.args.id.now _ _ _ c.loop-step.level _
    c.requires.bounds c.loop-step.invariant _ c.in-Candidate.slot c.in-Candidate.bucket
    (rw c.in-Candidate.is at c.in_ok-step.ensures) c.in_err-found.field-0.0
    (rw c.digest_of-digest.ensures at c.in_err-found.ensures))

-- it has the identifier
pub returns-in-Some : goal.returns-in-Some
returns-in-Some g c =
    walk_finds c.args.volume.now.geometry c.args.horizon c.args.edge c.args.id.now _ _ _ c.loop-step.level _
    c.requires.bounds c.loop-step.invariant _ c.in-Candidate.slot c.in-Candidate.bucket
    (rw c.in-Candidate.is at c.in_ok-step.ensures) c.in-Some.part
    (rw c.digest_of-digest.ensures at (rw c.in-Some.is at c.in_ok-found.ensures))

-- or another one
pub loop-step-preserved : goal.loop-step-preserved
loop-step-preserved g c =
    walk_on c.args.volume.now.geometry c.args.horizon c.args.edge c.args.id.now _ _ _ c.loop-step.level
    c.next_candidate.new.level c.requires.bounds c.loop-step.invariant _ c.in-Candidate.slot c.in-Candidate.bucket
    (rw c.in-Candidate.is at c.in_ok-step.ensures)
    (rw c.digest_of-digest.ensures at (rw c.in_default.is at c.in_ok-found.ensures))
