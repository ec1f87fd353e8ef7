use Rattle.std.proofs.Common.{ap, sym, ◌∙◌}
use Rattle.host_files.specs.File.{HeldBytes}
use Rattle.host_files.specs.Memory.{held_after_all, all_sure}
use Rattle.host_files.specs.declared.change.FileChange.TheVariants.{Synced}
use Rattle.host_files.proofs.Changes.{after_append}
use Rattle.host_files.proofs.memory_file.MemoryFile.make_sure.Goals as goal

pub invariant_of-self-clause-holds : goal.invariant_of-self-clause-holds
invariant_of-self-clause-holds c =
    let file = c.args.self.now in
    let start = all_sure file.first.items in
    file.holds
    ∙ ap (λ (h : HeldBytes). h.bytes) (sym (after_append start file.changes.items Synced))
    ∙ ap (λ changes. (held_after_all start changes).bytes) (sym c.push_reserved.ensures.items)
