-- The others stand as before.
use Rattle.jump_index.proofs.Ways.{keep_hop}
use Rattle.jump_index.proofs.kept_hops.KeptHops.keep.Goals as goal

pub returns : goal.returns
returns c = keep_hop c.args.self.now c.from.result c.args.hop
