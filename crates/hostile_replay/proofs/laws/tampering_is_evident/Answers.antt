-- The law, for all worlds.
use Rattle.hostile_replay.proofs.Evident.{tampering_evident}
use Rattle.hostile_replay.proofs.laws.tampering_is_evident.Goals as goal

pub returns : goal.returns
returns c = tampering_evident
