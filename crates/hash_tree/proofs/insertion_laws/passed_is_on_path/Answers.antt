-- The law, for all paths.
use Rattle.hash_tree.proofs.InsertionPaths.{on_path}
use Rattle.hash_tree.proofs.insertion_laws.passed_is_on_path.Goals as goal

pub returns : goal.returns
returns c = λ g image s node level bytes pool cells passed. on_path bytes pool cells passed
