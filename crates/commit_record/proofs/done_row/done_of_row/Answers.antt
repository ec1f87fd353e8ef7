-- The cells say that the slot is done.
use Rattle.std.proofs.Common.{◌∙◌, ℕ, List, Option, Some, ap, arith, subst, sym}
use Rattle.std.proofs.lemmas.Option.{slice_get-get_or}
use Rattle.cell_types.specs.Layout.{done_at}
use Rattle.cell_types.specs.Records.{IsRecordCell}
use Rattle.cell_types.specs.declared.record_cell.RecordCell.TheVariants.{Commit, Done, Reserve}
use Rattle.commit_record.proofs.DoneRow.{done_row}
use Rattle.commit_record.proofs.done_row.done_of_row.Goals as goal

pub returns : goal.returns
returns c =
    let row = c.args.row.now in
    let n = c.args.slot in
    let start = c.in_ok-start.start in
    let length = c.in_ok-start.length in
    let bytes = c.in_ok-bytes.bytes in
    let journal = c.in_ok-bytes.journal in
    let r = c.in_ok-start.ensures in
    let o = c.in_ok-bytes.ensures in
    let d = c.in_ok-named.ensures in
    let pool = c.lies_in_pool.ensures.pool.0 c.if-not-lies_in_pool.false in
    done_row c.args.geometry.now n row start length bytes journal r.cell o.cell d.cell c.requires.slot
    (slice_get-get_or row 0 _ (omega (arith, c.requires.three))
    ∙ ap (λ (v : Option (List ℕ)). Some v) (sym c.index-row-0.is ∙ r.is))
    (slice_get-get_or row 1 _ (omega (arith, c.requires.three))
    ∙ ap (λ (v : Option (List ℕ)). Some v) (sym c.index-row-1.is ∙ o.is))
    (slice_get-get_or row 2 _ (omega (arith, c.requires.three))
    ∙ ap (λ (v : Option (List ℕ)). Some v) (sym c.index-row-2.is ∙ d.is))
    (subst (λ (k : ℕ). IsRecordCell (Reserve start length) k r.cell) c.reserve_at.ensures.at r.of)
    (subst (λ (k : ℕ). IsRecordCell (Commit bytes journal) k o.cell) c.outcome_at.ensures.at o.of)
    (subst (λ (m : ℕ). IsRecordCell (Done m) (done_at n) d.cell) c.if-named-slot.false
    (subst (λ (k : ℕ). IsRecordCell (Done c.in_ok-named.named) k d.cell) c.done_at.ensures.at d.of))
    pool.0 pool.1 (c.lies_in_pool.ensures.device c.if-not-lies_in_pool.false)
    (c.fits_into.ensures.0 c.if-not-fits_into.false) (c.has_stamp_in_row.ensures c.if-not-has_stamp_in_row.false)
