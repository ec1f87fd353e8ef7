-- Each cell is planned or refused, by the lemma of its kind.
use Rattle.std.proofs.Common.{◌+◌, Ok, Err, ℕ, arith, refl, subst}
use Rattle.cell_types.proofs.Passed.{handed}
use Rattle.cell_types.specs.declared.record_cell.RecordCell.TheVariants.{Jump}
use Rattle.volume_meaning.specs.Blocks.{posting_record, pointer_at}
use Rattle.worm_device.specs.Overlays.{of_overlay}
use Rattle.jump_insertion.specs.Planning.{PutsRecord}
use Rattle.jump_insertion.proofs.Putting.{both_put, first_refused, second_refused}
use Rattle.jump_insertion.proofs.puts.put_both.Goals as goal

pub overflow_add-at : goal.overflow_add-at
overflow_add-at g c = omega (arith, c.requires.place, c.requires.block, c.from.ensures)

pub put_posting-requires-clause-inside : goal.put_posting-requires-clause-inside
put_posting-requires-clause-inside g c = omega (arith, c.requires.place, c.requires.block, c.from.ensures)

pub put_posting-requires-clause-well_formed : goal.put_posting-requires-clause-well_formed
put_posting-requires-clause-well_formed g c = c.requires.well_formed

pub pointer_cell-pointer-requires-clause-level : goal.pointer_cell-pointer-requires-clause-level
pointer_cell-pointer-requires-clause-level g c = c.requires.pointer.levels

pub pointer_cell-pointer-requires-clause-some : goal.pointer_cell-pointer-requires-clause-some
pointer_cell-pointer-requires-clause-some g c = c.requires.pointer.some

pub pointer_cell-pointer-requires-clause-digit : goal.pointer_cell-pointer-requires-clause-digit
pointer_cell-pointer-requires-clause-digit g c = c.requires.pointer.digits

pub pointer_cell-pointer-requires-clause-inside : goal.pointer_cell-pointer-requires-clause-inside
pointer_cell-pointer-requires-clause-inside g c = omega (arith, c.requires.inside)

pub put-requires-clause-inside : goal.put-requires-clause-inside
put-requires-clause-inside g c =
    omega (arith, c.pointer_cell-pointer.ensures, c.requires.inside, c.requires.pointer.levels, c.requires.pointer.digits)

-- the posting's cell was planned already
pub returns-in_err-put_posting-clause-some : goal.returns-in_err-put_posting-clause-some
returns-in_err-put_posting-clause-some g c =
    rw (handed c.from_residual.result c.in_err-put_posting.field-0.0 c.from_residual.ensures.1) tt

pub returns-in_err-put_posting-clause-puts : goal.returns-in_err-put_posting-clause-puts
returns-in_err-put_posting-clause-puts g c =
    rw (handed c.from_residual.result c.in_err-put_posting.field-0.0 c.from_residual.ensures.1)
    (first_refused c.args.spot (pointer_at c.args.home.visit.block c.args.home.to.level c.args.home.to.digit)
    c.args.insertion.entry _ _ (of_overlay g.V.View.seen c.args.overlay.now)
    (of_overlay g.V.View.seen c.put_posting.new.overlay) c.in_err-put_posting.field-0.0
    (subst (λ (n : ℕ). PutsRecord (c.args.spot.block + n) (posting_record c.args.insertion.entry)
    (record { head = c.args.insertion.list.head; base = c.args.spot.block })
    (of_overlay g.V.View.seen c.args.overlay.now) (of_overlay g.V.View.seen c.put_posting.new.overlay)
    (Err c.in_err-put_posting.field-0.0)) c.from.ensures c.in_err-put_posting.ensures))

-- the pointer's was
pub returns-in_err-put-clause-some : goal.returns-in_err-put-clause-some
returns-in_err-put-clause-some g c =
    rw (handed c.from_residual-in_err-put.result c.in_err-put.field-0.0 c.from_residual-in_err-put.ensures.1) tt

pub returns-in_err-put-clause-puts : goal.returns-in_err-put-clause-puts
returns-in_err-put-clause-puts g c =
    rw (handed c.from_residual-in_err-put.result c.in_err-put.field-0.0 c.from_residual-in_err-put.ensures.1)
    (second_refused c.args.spot (pointer_at c.args.home.visit.block c.args.home.to.level c.args.home.to.digit)
    c.args.insertion.entry _ _ (of_overlay g.V.View.seen c.args.overlay.now)
    (of_overlay g.V.View.seen c.put_posting.new.overlay) (of_overlay g.V.View.seen c.put.new.overlay)
    c.in_err-put.field-0.0
    (subst (λ (n : ℕ). PutsRecord (c.args.spot.block + n) (posting_record c.args.insertion.entry)
    (record { head = c.args.insertion.list.head; base = c.args.spot.block })
    (of_overlay g.V.View.seen c.args.overlay.now) (of_overlay g.V.View.seen c.put_posting.new.overlay) (Ok tt))
    c.from.ensures c.in_ok-put_posting.ensures)
    (subst (λ (n : ℕ). PutsRecord n (Jump c.args.spot.block)
    (record { head = c.args.insertion.list.head; base = c.args.home.visit.block })
    (of_overlay g.V.View.seen c.put_posting.new.overlay) (of_overlay g.V.View.seen c.put.new.overlay)
    (Err c.in_err-put.field-0.0)) c.pointer_cell-pointer.ensures c.in_err-put.ensures))

pub returns-clause-some : goal.returns-clause-some
returns-clause-some g c = refl

-- both are planned
pub returns-clause-puts : goal.returns-clause-puts
returns-clause-puts g c =
    both_put c.args.spot (pointer_at c.args.home.visit.block c.args.home.to.level c.args.home.to.digit)
    c.args.insertion.entry _ _ (of_overlay g.V.View.seen c.args.overlay.now)
    (of_overlay g.V.View.seen c.put_posting.new.overlay) (of_overlay g.V.View.seen c.put.new.overlay)
    (subst (λ (n : ℕ). PutsRecord (c.args.spot.block + n) (posting_record c.args.insertion.entry)
    (record { head = c.args.insertion.list.head; base = c.args.spot.block })
    (of_overlay g.V.View.seen c.args.overlay.now) (of_overlay g.V.View.seen c.put_posting.new.overlay) (Ok tt))
    c.from.ensures c.in_ok-put_posting.ensures)
    (subst (λ (n : ℕ). PutsRecord n (Jump c.args.spot.block)
    (record { head = c.args.insertion.list.head; base = c.args.home.visit.block })
    (of_overlay g.V.View.seen c.put_posting.new.overlay) (of_overlay g.V.View.seen c.put.new.overlay) (Ok tt))
    c.pointer_cell-pointer.ensures c.in_ok-put.ensures)
