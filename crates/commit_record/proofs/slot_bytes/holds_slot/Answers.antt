-- The word is the slot's number, the highest byte first, and four zeros.
use Rattle.std.proofs.Common.{◌≡◌, ◌+◌, ◌-◌, ◌∙◌, ℕ, List, ap, arith, drop, eqb-true, length, sym, take}
use Rattle.std.proofs.lemmas.List.{get_or-drop, length-drop, take_all}
use Rattle.byteorder.specs.Endian.{little_number}
use Rattle.commit_record.proofs.SlotWord.{word_of_slot}
use Rattle.commit_record.proofs.slot_bytes.holds_slot.Goals as goal

pub returns : goal.returns
returns c = λ same.
    let b : List ℕ = c.args.bytes.now in
    let equal : c.read_u64.result ≡ c.from.result = eqb-true _ _ same in
    let whole : take (length b - 33) (drop 33 b) ≡ drop 33 b =
    take_all (length b - 33) (drop 33 b) (omega (arith, length-drop 33 b)) in
    word_of_slot (drop 33 b) c.args.slot (omega (arith, length-drop 33 b, c.requires))
    (record { each = λ i. omega (arith, get_or-drop 33 b i 0, (c.type_inv.bytes (33 + i)).fits) }) c.ranges.slot.fits
    (ap (little_number 8) (sym whole) ∙ sym c.read_u64.ensures ∙ equal ∙ c.from.ensures ∙ c.swap_bytes.ensures)
