-- The law, for all views.
use Rattle.hash_tree.proofs.InsertionLicence.{broken}
use Rattle.hash_tree.proofs.insertion_laws.taken_is_broken.Goals as goal

pub returns : goal.returns
returns c = λ g level place view e taken tells volume edge within lies.
    broken g level place view e taken tells volume edge within lies
