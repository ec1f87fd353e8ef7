-- What has been put so far and what is left are the whole piece, and the sink holds what has been put.
use Rattle.std.proofs.Common.{◌≡◌, List, ℕ, ◌++◌, length}
use Rattle.host_ports.specs.Sinks.{Gets}
use Rattle.host_ports.proofs.whole.put_all.Given as goal

abbrev pub invariant-loop-rest : goal.invariant-loop-rest
invariant-loop-rest g l =
    let state = g.K.Sink.state in
    (front : List ℕ) × (l.fn.piece ≡ front ++ l.rest)
    × Gets (state l.fn.sink).held (state l.sink).held front
    × ((state l.sink).faults ≡ (state l.fn.sink).faults)

abbrev pub decreases-loop-rest : goal.decreases-loop-rest
decreases-loop-rest g l = length l.rest
