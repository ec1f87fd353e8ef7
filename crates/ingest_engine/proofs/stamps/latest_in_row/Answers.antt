-- The slots of a row, from the last one on.
use Rattle.std.proofs.Common.{◌<◌, ◌+◌, ◌*◌, ◌-◌, ◌≤◌, ◌<ℤ◌, ℕ, ℤ, FitsSigned, List, Option, Some, ap, arith, drop, length, length-drop, Ok, pos, subst, sym, take, w64}
use Rattle.std.specs.Int.{cast_signed, cast_unsigned}
use Rattle.std.proofs.lemmas.Int.{to_z-of_z}
use Rattle.std.proofs.lemmas.List.{take_all}
use Rattle.worm_device.specs.Views.{ViewState}
use Rattle.cell_types.specs.Layout.{Layout}
use Rattle.cell_types.proofs.Passed.{handed}
use Rattle.commit_record.proofs.BytesSeen.{bytes_from, done_cells, done_has_stamp, done_row_of, done_state, row_of_bytes}
use Rattle.commit_record.specs.SlotBytes.{ReadsSlotBytes}
use Rattle.ingest_engine.specs.Stamps.{AddsStamps, stamp_of_number}
use Rattle.ingest_engine.proofs.ReadStamps.{adds_more, names_further, slot_done}
use Rattle.ingest_engine.proofs.stamps.latest_in_row.Goals as goal

-- the bytes from one slot on
behind : (first place : ℕ) (row : List ℕ) {old new : ViewState} → 64 * place ≤ length row
    → ReadsSlotBytes first row old new
    → ReadsSlotBytes (first + place) (take (length row - 64 * place) (drop (64 * place) row)) old new
behind first place row {old} {new} inside reads =
    subst (λ (bytes : List ℕ). ReadsSlotBytes (first + place) bytes old new)
    (sym (take_all (length row - 64 * place) (drop (64 * place) row) (omega (arith, length-drop (64 * place) row))))
    (bytes_from first place row inside reads)

-- as many as those of a slot have
long : (place : ℕ) (row : List ℕ) → 64 * place + 64 ≤ length row
    → 64 ≤ length (take (length row - 64 * place) (drop (64 * place) row))
long place row inside = omega (
  arith,
  inside,
  length-drop (64 * place) row,
  ap length
      (take_all (length row - 64 * place) (drop (64 * place) row) (omega (arith, length-drop (64 * place) row))),
)

-- the slots of a row of which some are left to be read
module _ (g : Layout) (first count left : ℕ) (row : List ℕ) (greatest : Option ℕ) (some : 1 ≤ left)
    (within : left ≤ count) where
  -- those from the last of them on were read, and this is the latest
  abbrev Adds : Option ℕ → ViewState → ViewState → Type 0
  Adds last old new = AddsStamps g (first + (left - 1)) (first + count) greatest old new (Ok last)

  -- one more, before those that were read
  more : (later last : Option ℕ) {old new : ViewState}
      → AddsStamps g (first + left) (first + count) greatest old new (Ok later)
      → AddsStamps g (first + (left - 1)) (first + (left - 1) + 1) later old new (Ok last) → Adds last old new
  more later last {old} {new} before one =
      adds_more g (first + (left - 1)) (first + count) greatest later last (omega (arith, some, within))
      (subst (λ (k : ℕ). AddsStamps g k (first + count) greatest old new (Ok later)) (omega (arith, some)) before) one

  -- the number of the latest is kept, as none of them has more than 64 bits
  told : (last : ℤ) → FitsSigned w64 last → last <ℤ pos 4294967296
      → ((old new : ViewState) → ReadsSlotBytes first row old new → Adds (stamp_of_number last) old new)
      → (left - 1 ≤ count) × (cast_signed w64 (cast_unsigned w64 last) <ℤ pos 4294967296)
      × ((old new : ViewState) → ReadsSlotBytes first row old new
      → Adds (stamp_of_number (cast_signed w64 (cast_unsigned w64 last))) old new)
  told last fits small adds =
      subst (λ (n : ℤ). (left - 1 ≤ count) × (n <ℤ pos 4294967296)
      × ((old new : ViewState) → ReadsSlotBytes first row old new → Adds (stamp_of_number n) old new))
      (sym (to_z-of_z w64 last fits)) (omega (arith, within), small, adds)

-- one more that is done
pub loop-left-preserved-in-Some : goal.loop-left-preserved-in-Some
loop-left-preserved-in-Some c =
    let some : 1 ≤ c.loop-left.left = omega (arith, c.loop-left-test.true) in
    let within : c.loop-left.left ≤ c.args.count = c.loop-left.invariant.0 in
    let place : ℕ = c.loop-left.left - 1 in
    let slot : ℕ = c.args.first + place in
    let g = c.args.geometry.now in
    let row : List ℕ = c.args.row.now in
    let bytes : List ℕ = take (length row - 64 * place) (drop (64 * place) row) in
    let before : Option ℕ = stamp_of_number (cast_signed w64 c.loop-left.last-bits) in
    let last : ℤ = c.later_number-last.result in
    let stamp : ℕ = c.in-Some.stamp in
    let done = c.in-Some.ensures in
    let four : 64 ≤ length bytes = long place row (omega (arith, some, within, c.requires.bytes)) in
    let less : slot < g.slots = omega (arith, some, within, c.requires.slots) in
    told g c.args.first c.args.count c.loop-left.left row c.args.greatest some within last
    (record { sfits = c.later_number-last.type_inv }) c.later_number-last.ensures.small
    (λ old new reads.
    more g c.args.first c.args.count c.loop-left.left row c.args.greatest some within before (stamp_of_number last)
    (c.loop-left.invariant.2 old new reads)
    (slot_done g slot (done_cells g slot bytes stamp done four) before less (omega arith) old new
    (row_of_bytes slot bytes _ (done_row_of g slot bytes stamp done four)
    (behind c.args.first place row (omega (arith, some, within, c.requires.bytes)) reads))
    done.start done.length done.size done.journal (done_state g slot bytes stamp done four less) (Some stamp)
    (stamp_of_number last) (done_has_stamp g slot bytes stamp done four) c.later_number-last.ensures.first
    c.later_number-last.ensures.second c.later_number-last.ensures.either))

-- one more whose cells were asked
pub loop-left-preserved : goal.loop-left-preserved
loop-left-preserved c =
    let some : 1 ≤ c.loop-left.left = omega (arith, c.loop-left-test.true) in
    let within : c.loop-left.left ≤ c.args.count = c.loop-left.invariant.0 in
    let place : ℕ = c.loop-left.left - 1 in
    let slot : ℕ = c.args.first + place in
    let g = c.args.geometry.now in
    let row : List ℕ = c.args.row.now in
    let before : Option ℕ = stamp_of_number (cast_signed w64 c.loop-left.last-bits) in
    let last : ℤ = c.as_number-last-in-loop-left.result in
    told g c.args.first c.args.count c.loop-left.left row c.args.greatest some within last
    (record { sfits = c.as_number-last-in-loop-left.type_inv }) c.as_number-last-in-loop-left.ensures.small
    (λ old new reads.
    more g c.args.first c.args.count c.loop-left.left row c.args.greatest some within before (stamp_of_number last)
    (c.loop-left.invariant.2 old new reads)
    (subst (λ (o : Option ℕ). AddsStamps g slot (slot + 1) o old new (Ok (stamp_of_number last))) c.as_stamp.ensures
    (subst (λ (o : Option ℕ). AddsStamps g slot (slot + 1) c.as_stamp.result old new (Ok o))
    (sym c.as_number-last-in-loop-left.ensures.same)
    (c.in_ok-with_cells.ensures old new
    (row_of_bytes slot (take (length row - 64 * place) (drop (64 * place) row)) c.cells_of_slot.result
    c.cells_of_slot.ensures.cells
    (behind c.args.first place row (omega (arith, some, within, c.requires.bytes)) reads))))))

-- the cells of one are no state
pub returns-in_err-with_cells : goal.returns-in_err-with_cells
returns-in_err-with_cells c = λ old new reads.
    let some : 1 ≤ c.loop-left.left = omega (arith, c.loop-left-test.true) in
    let within : c.loop-left.left ≤ c.args.count = c.loop-left.invariant.0 in
    let place : ℕ = c.loop-left.left - 1 in
    let row : List ℕ = c.args.row.now in
    let one = c.in_err-with_cells.ensures old new
    (row_of_bytes (c.args.first + place) (take (length row - 64 * place) (drop (64 * place) row))
    c.cells_of_slot.result c.cells_of_slot.ensures.cells
    (behind c.args.first place row (omega (arith, some, within, c.requires.bytes)) reads)) in
    rw (handed c.from_residual.result c.in_err-with_cells.field-0.0 c.from_residual.ensures.1)
    (record {
      viewed = one.viewed;
      ends = (names_further old (omega (arith, some, within)) c.in_err-with_cells.field-0.0 one.ends.0, one.ends.1);
    })
