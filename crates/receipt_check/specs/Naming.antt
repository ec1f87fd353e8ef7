-- What is said of a document that was found and is not kept.
use Rattle.std.specs.Prelude.{◌≡◌, ℕ}
use Rattle.cell_types.specs.Layout.{done_at}
use Rattle.cell_types.specs.Records.{record_bytes}
use Rattle.cell_types.specs.declared.record_cell.RecordCell.TheVariants.{Done}
use Rattle.cell_types.specs.declared.refusal.Refusal.{Refusal}
use Rattle.cell_types.specs.declared.refusal.Refusal.TheVariants.{Tampered}
use Rattle.tamper_rules.specs.declared.numbers.TheConstants.{MISSING_TRAIL}

-- the slot's done cell is evidence, with the record that says that it is done
abbrev pub NamesUnkept : ℕ → Refusal → Type 0
NamesUnkept n (Tampered e) =
    (e.rule ≡ MISSING_TRAIL) × (e.cell ≡ done_at n) × (e.found ≡ record_bytes (Done n) (done_at n))
NamesUnkept n refusal = ⊥
