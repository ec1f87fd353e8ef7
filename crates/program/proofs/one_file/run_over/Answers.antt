-- The sink in memory held nothing.
use Rattle.host_ports.specs.Memories.{GatheredBytes, gathered_of}
use Rattle.std.proofs.Common.{map, subst}
use Rattle.std.specs.String.{string_bytes}
use Rattle.host_files.specs.Over.{state_over}
use Rattle.record_top.specs.Runs.{Runs}
use Rattle.volume_commands.specs.Ports.{ports_of}
use Rattle.program.proofs.one_file.run_over.Goals as goal

pub returns : goal.returns
returns g c = record {
  left = c.run_over_file.new.device.file.file;
  cells = c.run_over_file.new.device.cells;
  reads = c.run_over_file.new.device.reads;
  runs = subst (λ (text : GatheredBytes). Runs (map string_bytes c.args.words.now)
      (ports_of (state_over c.args.device) (g.S.Source.state c.args.source.now) (gathered_of text))
      (ports_of (state_over c.run_over_file.new.device) (g.S.Source.state c.run_over_file.new.source)
      (gathered_of c.run_over_file.new.sink)) c.run_over_file.result) c.requires c.run_over_file.ensures.runs;
}
