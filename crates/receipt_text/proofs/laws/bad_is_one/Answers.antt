-- The lines before the one are lines before the other.
use Rattle.std.proofs.Common.{refl}
use Rattle.receipt_text.proofs.OneText.{bad_is_one}
use Rattle.receipt_text.proofs.laws.bad_is_one.Goals as goal

pub returns : goal.returns
returns c = record {
  one = bad_is_one;
  none = λ cells r i is bad. bad.none r is refl;
}
