-- Two cells, of which the second asks for a later target.
use Rattle.std.proofs.Common.{◌≡◌, ◌<◌, ◌+◌, ◌^◌, ℕ, zero, suc, List, [], ◌∷◌, refl, sym, inl, inr, subst, arith}
use Rattle.cell_types.specs.Records.{IsRecordCell}
use Rattle.cell_types.specs.declared.record_cell.RecordCell.{RecordCell}
use Rattle.cell_types.proofs.OneRecord.{address_in}
use Rattle.recovery_engine.specs.Entries.{AreEntries, IsCopy, target_of}
use Rattle.tamper_rules.specs.Journals.{IsIndexRecord}
use Rattle.plan_writer.specs.Planned.{laid}
use Rattle.volume_tests.proofs.plans.journal.Goals as goal

-- the cell of an index record at its address
copy : (held : RecordCell) (at : ℕ) (cell : List ℕ) → IsIndexRecord held → at < 2 ^ 32 → IsRecordCell held at cell
    → IsCopy cell
copy held at cell index small is = record {
  held = held;
  index = index;
  is = subst (λ (a : ℕ). IsRecordCell held a cell) (sym (address_in held at cell small is)) is;
}

two : (a b : List ℕ) → IsCopy a → IsCopy b → target_of a ≡ 36 → target_of b ≡ 560
    → AreEntries 36 (laid 581 (a ∷ b ∷ [])) 581 580 2
two a b first second at there zero less = record {
  cell = a;
  floor = 36;
  stands = refl;
  floor_is = inl (refl, refl);
  fit = record { copy = first; from = omega (arith, at); to = omega (arith, at) };
}
two a b first second at there (suc zero) less = record {
  cell = b;
  floor = target_of a + 1;
  stands = refl;
  floor_is = inr (0, a, refl, refl, refl);
  fit = record { copy = second; from = omega (arith, at, there); to = omega (arith, there) };
}
two a b first second at there (suc (suc k)) less = absurd (omega (arith, less))

pub returns : goal.returns
returns c =
    two c.encode.result c.encode-2.result (copy _ 36 c.encode.result tt (omega arith) c.encode.ensures.cell)
    (copy _ 560 c.encode-2.result tt (omega arith) c.encode-2.ensures.cell)
    (address_in _ 36 c.encode.result (omega arith) c.encode.ensures.cell)
    (address_in _ 560 c.encode-2.result (omega arith) c.encode-2.ensures.cell)
