-- The law, for all images.
use Rattle.plan_laws.proofs.SettledLists.{settled_stand}
use Rattle.plan_laws.proofs.SettledTrees.{settled_tree}
use Rattle.plan_laws.proofs.indexes.settled_indexes_stand.Goals as goal

pub returns : goal.returns
returns c = λ g image edge n layout s e horizon free seconds past. record {
  lists = settled_stand layout s e horizon free seconds past;
  tree = settled_tree layout s e;
}
