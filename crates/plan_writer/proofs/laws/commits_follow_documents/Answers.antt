-- The commit cell is of the third phase, and the document of the second.
use Rattle.plan_writer.proofs.Crashed.{follows}
use Rattle.plan_writer.proofs.laws.commits_follow_documents.Goals as goal

pub returns : goal.returns
returns c = λ g n p image left found here. follows g n p image left found here
