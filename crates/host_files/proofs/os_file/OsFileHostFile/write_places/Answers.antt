-- It tells nothing.
use Rattle.std.proofs.Common.{◌/◌, length, rules}
use Rattle.worm_device.specs.Counts.{Rose}
use Rattle.host_files.proofs.Untold.{untold_row}
use Rattle.host_files.proofs.os_file.OsFileHostFile.write_places.Goals as goal

pub returns-clause-writes : goal.returns-clause-writes
returns-clause-writes g c = record {
  size = search rules;
  left = untold_row (length c.args.bytes.now / 16) (c.args.from / 16) c.args.bytes.now (Rose 0 0) c.write_all.result;
  parts = search rules;
  later = search rules;
  cause = search rules;
}
