-- Listed cells as a view, and why they are one. It stands here and not among the proofs, since their law cites it.
use Rattle.std.specs.Prelude.{◌≡◌, ℕ, List, [], Option, Some, None, true}
use Rattle.std.proofs.Common.{arith, refl}
use Rattle.std.proofs.lemmas.Option.{none-some}
use Rattle.worm_device.specs.State.{DeviceState}
use Rattle.worm_device.specs.Views.{IsView, ViewState, no_cells}
use Rattle.receipt_text.specs.Listed.{listed_image}
use Rattle.receipt_check.specs.Listing.{AreShown}

-- a device of so many cells that shows these and never changes
abbrev pub listed_device : List (ℕ × List ℕ) → ℕ → DeviceState
listed_device listed cells = record {
  cells = cells;
  tells = true;
  image = listed_image listed;
  sure = listed_image listed;
  faults = 0;
  foreign_writes = 0;
  reads = 0;
  begun = [];
  moment = 0;
  past = λ m. record { image = listed_image listed; sure = listed_image listed };
  steps = 0;
  steps_at = λ m. 0;
}

-- the listed cells as a view of so many cells
abbrev pub listed_view : List (ℕ × List ℕ) → ℕ → ViewState
listed_view listed cells = record {
  cells = cells;
  image = listed_image listed;
  planned = no_cells;
  owners = λ cell. None;
  lower = listed_image listed;
  fresh = cells;
  base = listed_device listed cells;
  loans = [];
}

blank_there : (found : Option (List ℕ)) → ((value : List ℕ) → found ≡ Some value → ⊥) → found ≡ None
blank_there None never = refl
blank_there (Some value) never = absurd (never value refl)

pub listed_is_view : (listed : List (ℕ × List ℕ)) (cells : ℕ) → AreShown cells listed → IsView (listed_view listed cells)
listed_is_view listed cells are = record {
  cells = are.few;
  inside = are.each;
  planned = record { keeps = λ cell value h. absurd (none-some value h) };
  unowned = λ cell free. refl;
  unplanned = λ cell free. refl;
  below = λ cell free before. refl;
  beyond = λ cell free past. blank_there (listed_image listed cell)
      (λ value h. omega (arith, (are.each cell value h).0));
}
