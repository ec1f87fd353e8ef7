-- What a write of a file in memory that fails has left, by its change, if there is one, and its counts.
use Rattle.std.proofs.Common.{◌<◌, ◌^◌, Err, ap, sym, ◌∙◌, subst}
use Rattle.host_files.specs.File.{WritesAt}
use Rattle.host_files.specs.Memory.{FileMemory, file_of, file_with_fault}
use Rattle.host_files.specs.MemoryFile.{file_memory}
use Rattle.host_files.proofs.Changes.{nothing_left, all_left, part_left}
use Rattle.host_files.proofs.memory_file.MemoryFile.leave.Goals as goal

-- it leaves nothing
pub returns-in-Nothing : goal.returns-in-Nothing
returns-in-Nothing c =
    let old = file_memory c.args.self.now in
    let fail = c.fail in
    subst (λ m. WritesAt c.args.from c.args.piece.now (file_of old) (file_of m) (Err fail.result))
    (sym fail.ensures.counted)
    (nothing_left old c.args.from c.args.piece.now fail.result fail.ensures.fits)

-- it leaves all
pub returns-in-All : goal.returns-in-All
returns-in-All c =
    let old = file_memory c.args.self.now in
    let fail = c.fail-in-All in
    subst (λ m. WritesAt c.args.from c.args.piece.now (file_of old) (file_of m) (Err fail.result))
    (sym (fail.ensures.counted ∙ ap file_with_fault c.put.ensures.put))
    (all_left old c.args.from c.args.piece.now fail.result
    (subst (λ (m : FileMemory). m.faults < 2 ^ 64) c.put.ensures.put fail.ensures.fits) c.put.ensures.sixteen)

-- it leaves a part, which is counted
pub returns-in-Part : goal.returns-in-Part
returns-in-Part c =
    let old = file_memory c.args.self.now in
    let fail = c.fail-in-Part in
    let put = c.put_part in
    subst (λ m. WritesAt c.args.from c.args.piece.now (file_of old) (file_of m) (Err fail.result))
    (sym (fail.ensures.counted ∙ ap file_with_fault put.ensures.put))
    (part_left old c.args.from c.args.piece.now c.part_of.result fail.result
    (subst (λ (m : FileMemory). m.faults < 2 ^ 64) put.ensures.put fail.ensures.fits) put.ensures.fits
    put.ensures.sixteen)
