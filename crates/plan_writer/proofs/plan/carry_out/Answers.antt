-- Each phase, as one of the plan's.
use Rattle.cell_types.proofs.Passed.{handed}
use Rattle.plan_writer.proofs.Carried.{reserve_ended, store_ended, commit_ended, apply_ended, carried, entries_there}
use Rattle.plan_writer.proofs.plan.carry_out.Goals as goal

pub returns-in_err-reserve : goal.returns-in_err-reserve
returns-in_err-reserve g c =
    let fault = c.in_err-reserve.field-0.0 in
    rw (handed c.from_residual.result fault c.from_residual.ensures.1)
    (reserve_ended c.args.slot c.args.plan.now c.reservation-cells.result c.reservation-cells.ensures fault
    c.in_err-reserve.ensures)

pub returns-in_err-store : goal.returns-in_err-store
returns-in_err-store g c =
    let fault = c.in_err-store.field-0.0 in
    rw (handed c.from_residual-in_err-store.result fault c.from_residual-in_err-store.ensures.1)
    (store_ended c.args.slot c.args.plan.now c.reservation-cells.result c.reservation-cells.ensures
    c.in_ok-reserve.ensures fault c.in_err-store.ensures)

pub returns-in_err-commit : goal.returns-in_err-commit
returns-in_err-commit g c =
    let fault = c.in_err-commit.field-0.0 in
    rw (handed c.from_residual-in_err-commit.result fault c.from_residual-in_err-commit.ensures.1)
    (commit_ended c.args.slot c.args.plan.now c.reservation-cells.result c.reservation-cells.ensures
    c.in_ok-reserve.ensures c.in_ok-store.ensures fault c.in_err-commit.ensures)

pub apply_journal-requires-clause-entries : goal.apply_journal-requires-clause-entries
apply_journal-requires-clause-entries g c =
    entries_there c.args.slot c.args.plan.now c.reservation-cells.result c.reservation-cells.ensures
    c.in_ok-reserve.ensures c.in_ok-store.ensures c.in_ok-commit.ensures c.args.geometry.now c.requires.suits
    c.journal_of-journal.result c.journal_of-journal.ensures

pub returns-in_err-apply_journal : goal.returns-in_err-apply_journal
returns-in_err-apply_journal g c =
    let fault = c.in_err-apply_journal.field-0.0 in
    rw (handed c.from_residual-in_err-apply_journal.result fault c.from_residual-in_err-apply_journal.ensures.1)
    (apply_ended c.args.slot c.args.plan.now c.reservation-cells.result c.reservation-cells.ensures
    c.in_ok-reserve.ensures c.in_ok-store.ensures c.in_ok-commit.ensures c.args.geometry.now c.requires.suits
    c.journal_of-journal.result c.journal_of-journal.ensures fault c.in_err-apply_journal.ensures)

pub returns : goal.returns
returns g c =
    carried c.args.slot c.args.plan.now c.reservation-cells.result c.reservation-cells.ensures c.in_ok-reserve.ensures
    c.in_ok-store.ensures c.in_ok-commit.ensures c.args.geometry.now c.requires.suits c.journal_of-journal.result
    c.journal_of-journal.ensures c.in_ok-apply_journal.ensures c.finish.result c.finish.ensures
