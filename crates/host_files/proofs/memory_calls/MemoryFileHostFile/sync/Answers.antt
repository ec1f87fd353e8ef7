-- The one more change has made all sure.
use Rattle.std.proofs.Common.{Ok, ap, sym, ◌∙◌, subst}
use Rattle.host_files.specs.File.{Flushes}
use Rattle.host_files.specs.Memory.{file_of, file_with_change}
use Rattle.host_files.specs.MemoryFile.{file_memory}
use Rattle.host_files.specs.declared.change.FileChange.TheVariants.{Synced}
use Rattle.host_files.proofs.Changes.{sync_answers}
use Rattle.host_files.proofs.memory_calls.MemoryFileHostFile.sync.Goals as goal

pub returns-clause-flushes : goal.returns-clause-flushes
returns-clause-flushes c =
    let old = file_memory c.args.self.now in
    subst (λ m. Flushes (file_of old) (file_of m) (Ok tt))
    (sym (c.make_sure.ensures ∙ ap (λ m. file_with_change m Synced) c.begin-fails.ensures.counted))
    (sync_answers old)
