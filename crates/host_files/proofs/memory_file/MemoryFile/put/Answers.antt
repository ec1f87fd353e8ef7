use Rattle.std.proofs.Common.{length, ap, sym, ◌∙◌, subst, arith}
use Rattle.std.proofs.lemmas.List.{with_items_is}
use Rattle.cell_types.specs.Bytes.{AreBytes}
use Rattle.host_files.specs.File.{HeldBytes, patched}
use Rattle.host_files.specs.Memory.{held_after_all, all_sure}
use Rattle.host_files.specs.declared.change.FileChange.TheVariants.{Put}
use Rattle.host_files.proofs.Changes.{after_append}
use Rattle.host_files.proofs.memory_file.MemoryFile.put.Goals as goal

pub invariant_of-self-clause-holds : goal.invariant_of-self-clause-holds
invariant_of-self-clause-holds c =
    let file = c.args.self.now in
    let start = all_sure file.first.items in
    with_items_is file.bytes c.overwrite.new.bytes (omega arith)
    ∙ c.overwrite.ensures.put
    ∙ ap (patched c.args.from c.args.piece) (c.as_mut_slice.ensures.value ∙ file.holds)
    ∙ ap (λ (h : HeldBytes). h.bytes) (sym (after_append start file.changes.items (Put c.args.from c.args.piece)))
    ∙ ap (λ changes. (held_after_all start changes).bytes) (sym c.push_reserved.ensures.items)

pub invariant_of-self-clause-fits : goal.invariant_of-self-clause-fits
invariant_of-self-clause-fits c =
    subst AreBytes (sym (with_items_is c.args.self.now.bytes c.overwrite.new.bytes (omega arith)))
    c.overwrite.ensures.fits

pub invariant_of-self-clause-same_size : goal.invariant_of-self-clause-same_size
invariant_of-self-clause-same_size c =
    ap length (with_items_is c.args.self.now.bytes c.overwrite.new.bytes (omega arith)) ∙ omega arith
