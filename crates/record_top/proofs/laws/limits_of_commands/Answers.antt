-- They are so by what the constants are.
use Rattle.std.proofs.Common.{refl}
use Rattle.record_top.proofs.laws.limits_of_commands.Goals as goal

pub returns : goal.returns
returns c = record {
  words = refl;
  documents = refl;
  receipt_cells = refl;
  receipt_bytes = refl;
  find_reads = refl;
  term_reads = refl;
  cell_reads = refl;
}
