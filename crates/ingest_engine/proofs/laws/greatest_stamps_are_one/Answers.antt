-- Each of two is up to the other.
use Rattle.std.proofs.Common.{arith}
use Rattle.ingest_engine.proofs.laws.greatest_stamps_are_one.Goals as goal

pub returns : goal.returns
returns c g image n one other first second =
    let below = second.most first.one.slot one (omega arith) first.one.below first.one.done first.one.stamp in
    let above = first.most second.one.slot other (omega arith) second.one.below second.one.done second.one.stamp in
    omega (arith, below, above)
