-- The law is a lemma.
use Rattle.hash_tree.proofs.OneAnswer.{one_answer}
use Rattle.hash_tree.proofs.laws.a_step_has_one_answer.Goals as goal

pub returns : goal.returns
returns c = one_answer
