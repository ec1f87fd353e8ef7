-- What a source over a reader and a sink over a writer are for contracts.
use Rattle.std.specs.Prelude.{None}
use Rattle.host_ports.specs.Sinks.{SinkState}
use Rattle.host_ports.specs.Sources.{SourceState}
use Rattle.host_ports.specs.declared.standard.StdSink.{StdSink}
use Rattle.host_ports.specs.declared.standard.StdSource.{StdSource}

-- the reader that a source takes from
abbrev pub reader_of : {R : Type 0} → StdSource R → R
reader_of source = source.reader

-- what it is as a source: what is left isn't told
abbrev pub source_over : {R : Type 0} → StdSource R → SourceState
source_over source = record { left = None; faults = source.faults }

-- the writer that a sink puts to
abbrev pub writer_of : {W : Type 0} → StdSink W → W
writer_of sink = sink.writer

-- what it is as a sink: what it holds isn't told
abbrev pub sink_over : {W : Type 0} → StdSink W → SinkState
sink_over sink = record { held = None; faults = sink.faults }
