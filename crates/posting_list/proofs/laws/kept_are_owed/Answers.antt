-- By the parts of what is kept.
use Rattle.posting_list.proofs.Owed.{kept_owed}
use Rattle.posting_list.proofs.laws.kept_are_owed.Goals as goal

pub returns : goal.returns
returns c = kept_owed
