-- One place after another.
use Rattle.std.proofs.Common.{◌+◌, ◌/◌, arith, subst, sym}
use Rattle.host_files.specs.Memory.{HasPut}
use Rattle.host_files.specs.MemoryFile.{file_memory}
use Rattle.host_files.proofs.PlacesMade.{put_more}
use Rattle.host_files.proofs.memory_file.MemoryFile.put_first.Goals as goal

pub loop-place-preserved : goal.loop-place-preserved
loop-place-preserved c = (
  subst (HasPut (c.loop-place.place + 1) (c.args.from / 16) c.args.bytes.now (file_memory c.args.self.now))
      (sym c.put.ensures.put)
      (put_more c.loop-place.place (c.args.from / 16) _ c.args.bytes.now c.piece_at.result
      (file_memory c.args.self.now) (file_memory c.loop-place.self) (omega arith) c.piece_at.ensures.piece
      c.loop-place.invariant.0),
  omega arith,
)
