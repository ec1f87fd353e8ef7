-- All places are put, or none, or the first half and what the next one leaves.
use Rattle.std.proofs.Common.{◌<◌, ◌^◌, ◌/◌, Err, ap, sym, ◌∙◌, subst, refl, arith, length}
use Rattle.host_files.specs.File.{WritesPlaces}
use Rattle.host_files.specs.Memory.{FileMemory, HasPut, file_of, file_with_fault}
use Rattle.host_files.specs.MemoryFile.{file_memory}
use Rattle.host_files.proofs.PlacesMade.{places_unput, places_torn}
use Rattle.host_files.proofs.memory_calls.MemoryFileHostFile.write_places.Goals as goal

pub returns-then-room-count-clause-writes : goal.returns-then-room-count-clause-writes
returns-then-room-count-clause-writes c =
    let old = file_memory c.args.self.now in
    let begun = c.begin-fails.ensures.counted in
    subst (λ m. WritesPlaces c.args.from c.args.bytes.now (file_of old) (file_of m) (Err c.fail.result))
    (sym (c.fail.ensures.counted ∙ ap file_with_fault begun))
    (places_unput c.args.from c.args.bytes.now c.fail.result old
    (subst (λ (m : FileMemory). m.faults < 2 ^ 64) begun c.fail.ensures.fits))

pub returns-clause-writes : goal.returns-clause-writes
returns-clause-writes c =
    places_torn c.args.from (length c.args.bytes.now / 16) (length c.args.bytes.now / 16 / 2) _ c.args.bytes.now
    c.piece_at.result c.leave.result (file_memory c.args.self.now) (file_memory c.put_first-2.new.self)
    (file_memory c.leave.new.self) refl (omega arith) c.requires.place refl c.piece_at.ensures.piece
    (subst (λ m. HasPut (length c.args.bytes.now / 16 / 2) (c.args.from / 16) c.args.bytes.now m
    (file_memory c.put_first-2.new.self)) c.begin-fails.ensures.counted c.put_first-2.ensures.puts)
    c.leave.ensures
