-- A cell that is no record is no posting.
use Rattle.std.proofs.Common.{ap, ◌+◌}
use Rattle.cell_types.proofs.Passed.{handed}
use Rattle.jump_block.proofs.EntryReads.{unread_entry}
use Rattle.jump_block.proofs.entries.entry.Goals as goal

pub returns-in_err-found : goal.returns-in_err-found
returns-in_err-found g c =
    rw (handed c.from_residual.result c.in_err-found.field-0.0 c.from_residual.ensures.1)
    (unread_entry c.args.block c.args.place (c.args.block + c.from.result) _ _ c.in_err-found.field-0.0
    (ap (λ n. c.args.block + n) c.from.ensures) c.in_err-found.ensures)
