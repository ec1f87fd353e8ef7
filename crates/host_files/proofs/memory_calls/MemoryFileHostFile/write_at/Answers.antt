-- What a write of a file in memory has left, by its change, if there is one, and its counts.
use Rattle.std.proofs.Common.{◌<◌, ◌^◌, Ok, Err, ap, sym, ◌∙◌, subst}
use Rattle.host_files.specs.File.{WritesAt}
use Rattle.host_files.specs.Memory.{FileMemory, file_of, file_with_call, file_with_change, file_with_fault}
use Rattle.host_files.specs.MemoryFile.{file_memory}
use Rattle.host_files.specs.declared.change.FileChange.TheVariants.{Put}
use Rattle.host_files.proofs.Changes.{after_call, put_answers, nothing_left}
use Rattle.host_files.proofs.memory_calls.MemoryFileHostFile.write_at.Goals as goal

-- there is no room: nothing is left
pub returns-then-room-eq0-clause-writes : goal.returns-then-room-eq0-clause-writes
returns-then-room-eq0-clause-writes c =
    let old = file_memory c.args.self.now in
    let begun = c.begin-fails.ensures.counted in
    subst (λ m. WritesAt c.args.from c.args.piece.now (file_of old) (file_of m) (Err c.fail.result))
    (sym (c.fail.ensures.counted ∙ ap file_with_fault begun))
    (after_call old (file_with_fault (file_with_call old)) c.args.from c.args.piece.now c.fail.result
    (nothing_left (file_with_call old) c.args.from c.args.piece.now c.fail.result
    (subst (λ (m : FileMemory). m.faults < 2 ^ 64) begun c.fail.ensures.fits)))

-- the call is not to fail
pub returns-then-not-fails-clause-writes : goal.returns-then-not-fails-clause-writes
returns-then-not-fails-clause-writes c =
    let old = file_memory c.args.self.now in
    subst (λ m. WritesAt c.args.from c.args.piece.now (file_of old) (file_of m) (Ok tt))
    (sym (c.put.ensures.put
    ∙ ap (λ m. file_with_change m (Put c.args.from c.args.piece.now)) c.begin-fails.ensures.counted))
    (put_answers old c.args.from c.args.piece.now)

-- it is
pub returns-clause-writes : goal.returns-clause-writes
returns-clause-writes c =
    let old = file_memory c.args.self.now in
    after_call old (file_memory c.leave.new.self) c.args.from c.args.piece.now c.leave.result
    (subst (λ m. WritesAt c.args.from c.args.piece.now (file_of m) (file_of (file_memory c.leave.new.self))
    (Err c.leave.result)) c.begin-fails.ensures.counted c.leave.ensures)
