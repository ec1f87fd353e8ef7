-- The posting that was decoded.
use Rattle.std.proofs.Common.{refl}
use Rattle.jump_block.proofs.row_fronts.key_at.Goals as goal

pub returns : goal.returns
returns c = record {
  p = record { key = c.in-Some-Posting.key; last = c.in-Some-Posting.field-0-1; tag = c.in-Some-Posting.field-0-2 };
  is = rw c.in-Some-Posting.field-0-is at c.in-Some-Posting.ensures;
  same = refl;
}
