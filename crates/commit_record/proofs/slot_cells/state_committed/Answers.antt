-- The done cell is not this slot's: a stray, another record, or the done cell of another slot.
use Rattle.std.proofs.Common.{◌≡◌, ℕ, None, sym, ◌∙◌}
use Rattle.cell_types.specs.declared.record_cell.RecordCell.TheVariants.{Done}
use Rattle.commit_record.proofs.CellsMake.{done_stray, done_wrong}
use Rattle.commit_record.proofs.slot_cells.state_committed.Goals as goal
use Rattle.commit_record.proofs.slot_cells.state_committed.Goals.{in_default-via-in-Done+else-named-slot, in_default-via-in_default}
use Rattle.worm_device.specs.declared.looks.Found.TheVariants.{Blank}

pub returns-in-Stray-clause-ends : goal.returns-in-Stray-clause-ends
returns-in-Stray-clause-ends c =
    done_stray _ c.args.slot c.requires.slot Blank Blank c.args.done None c.args.start c.args.length c.args.bytes
    c.args.journal
    c.done_at.result c.in-Stray.found c.done_at.ensures.at c.in-Stray.is

slots_are : (m n : ℕ) → Done m ≡ Done n → m ≡ n
slots_are m n e = cc

pub returns-in_default-clause-ends : goal.returns-in_default-clause-ends
returns-in_default-clause-ends c =
    done_wrong _ c.args.slot c.requires.slot Blank Blank c.args.done None c.args.start c.args.length c.args.bytes
    c.args.journal
    c.done_at-in_default.result c.in-Record.found c.in-Record.held c.done_at-in_default.ensures.at c.in-Record.is
    (elim c.in_default.branch [
      | in_default-via-in-Done+else-named-slot w ↦ λ e. w.if-named-slot.false (slots_are _ _ (sym w.in-Done.is ∙ e))
      | in_default-via-in_default w ↦ λ e. w.in_default.not-Done _ e
    ])
