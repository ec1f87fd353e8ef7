-- The law, for all images.
use Rattle.volume_meaning.proofs.HashTrails.{one_hash_trail}
use Rattle.volume_meaning.proofs.path_laws.hash_trails_are_one.Goals as goal

pub returns : goal.returns
returns c = λ image s n m node level b c stands_n stands_m t u. one_hash_trail t m b c stands_n stands_m u
