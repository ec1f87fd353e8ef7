-- The sink in memory held nothing.
use Rattle.host_ports.specs.Memories.{GatheredBytes, gathered_of}
use Rattle.std.proofs.Common.{map, subst}
use Rattle.std.specs.String.{string_bytes}
use Rattle.host_files.specs.Over.{state_over}
use Rattle.record_top.specs.Copying.{RunsCopy}
use Rattle.program.proofs.copying.run_onto.Goals as goal

pub returns : goal.returns
returns g c = record {
  from_left = c.run_two_over_files.new.from.file.file;
  from_cells = c.run_two_over_files.new.from.cells;
  from_reads = c.run_two_over_files.new.from.reads;
  to_left = c.run_two_over_files.new.to.file.file;
  to_cells = c.run_two_over_files.new.to.cells;
  to_reads = c.run_two_over_files.new.to.reads;
  runs = subst (λ (text : GatheredBytes). RunsCopy (map string_bytes c.args.words.now)
      (state_over c.args.from) (state_over c.run_two_over_files.new.from)
      (state_over c.args.to) (state_over c.run_two_over_files.new.to)
      (gathered_of text) (gathered_of c.run_two_over_files.new.sink) c.run_two_over_files.result) c.requires
      c.run_two_over_files.ensures.runs;
}
