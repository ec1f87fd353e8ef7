-- The body so far is what the source has given, and no call has failed.
use Rattle.std.proofs.Common.{◌≡◌, ◌+◌, ◌-◌, length}
use Rattle.host_ports.specs.Sources.{Gives}
use Rattle.volume_commands.specs.Taking.{AreBytesUpTo}
use Rattle.volume_commands.proofs.body.take_input.Given as goal

abbrev pub invariant-loop-body : goal.invariant-loop-body
invariant-loop-body g l =
    let state = g.S.Source.state in
    AreBytesUpTo l.limit l.body.items × Gives (state l.fn.source).left (state l.source).left l.body.items
    × ((state l.source).faults ≡ (state l.fn.source).faults)

abbrev pub decreases-loop-body : goal.decreases-loop-body
decreases-loop-body g l = l.limit + 1 - length l.body.items
