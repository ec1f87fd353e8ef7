-- The law, for all fronts.
use Rattle.std.proofs.Common.{ℕ, sym, subst}
use Rattle.volume_meaning.specs.Blocks.{InFront}
use Rattle.volume_meaning.proofs.Fronts.{one_place, rises}
use Rattle.volume_meaning.proofs.path_laws.fronts_rise.Goals as goal

pub returns : goal.returns
returns c = λ image block i j p q f h. (
  λ same. one_place f (subst (λ (n : ℕ). InFront image block n q) (sym same) h),
  λ less. rises h i p f less,
)
