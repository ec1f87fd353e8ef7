-- The law, for all images.
use Rattle.volume_meaning.proofs.KeepingLaws.{one_kept}
use Rattle.volume_meaning.proofs.path_laws.kept_are_apart.Goals as goal

pub returns : goal.returns
returns c = λ cells image documents d e k in_d in_e same. one_kept cells image k.layout d e (k.each d in_d)
    (k.each e in_e) same
