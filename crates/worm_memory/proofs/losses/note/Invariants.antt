-- So far as many are noted as there have been.
use Rattle.std.proofs.Common.{◌≡◌, ◌≤◌, ◌-◌, ◌++◌, replicate, vec_len, vec_capacity}
use Rattle.worm_memory.proofs.losses.note.Given as goal

abbrev pub invariant-loop-at : goal.invariant-loop-at
invariant-loop-at l = record {
  notes : l.made_in.items ≡ l.fn.made_in.items ++ replicate (l.at - vec_len l.fn.made_in) l.numbers;
  many : vec_len l.made_in ≡ l.at;
  least : vec_len l.fn.made_in ≤ l.at;
  capacity : vec_capacity l.made_in ≡ vec_capacity l.fn.made_in;
}
