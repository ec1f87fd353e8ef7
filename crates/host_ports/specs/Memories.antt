-- What a source and a sink in memory are for contracts.
use Rattle.std.specs.Prelude.{ℕ, List, Option, Some}
use Rattle.host_ports.specs.Sinks.{SinkState}
use Rattle.host_ports.specs.Sources.{SourceState}

-- a source in memory
pub record SourceMemory : Type 0 where
  -- the bytes that are left
  pub left : List ℕ
  -- how many calls of take there were
  pub calls : ℕ
  -- the number of the call that is to fail, from 1
  pub fails : Option ℕ
  -- how many calls have failed
  pub faults : ℕ

-- what it is as a source
abbrev pub source_of : SourceMemory → SourceState
source_of m = record { left = Some m.left; faults = m.faults }

-- a sink in memory
pub record SinkMemory : Type 0 where
  -- the bytes that it holds
  pub held : List ℕ
  -- how many further bytes it has room for
  pub room : ℕ
  -- how many calls of put there were
  pub calls : ℕ
  -- the number of the call that is to fail, from 1
  pub fails : Option ℕ
  -- how many calls have failed
  pub faults : ℕ

-- what it is as a sink
abbrev pub sink_of : SinkMemory → SinkState
sink_of m = record { held = Some m.held; faults = m.faults }

-- a sink that gathers what it gets
pub record GatheredBytes : Type 0 where
  -- the bytes that it holds
  pub held : List ℕ
  -- how many calls have failed
  pub faults : ℕ

-- what it is as a sink
abbrev pub gathered_of : GatheredBytes → SinkState
gathered_of g = record { held = Some g.held; faults = g.faults }
