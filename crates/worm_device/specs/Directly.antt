-- Why a device as a view of it shows it is a view. It stands here and not among the proofs, since the law of `Direct`
-- cites it.
use Rattle.std.specs.Prelude.{◌≡◌, ℕ, List, Option, Some, None}
use Rattle.std.proofs.Common.{arith, refl}
use Rattle.std.proofs.lemmas.Option.{none-some}
use Rattle.worm_device.specs.State.{DeviceState, IsDevice}
use Rattle.worm_device.specs.Views.{IsView, seen_directly}

-- what is never written is blank
blank_there : (found : Option (List ℕ)) → ((value : List ℕ) → found ≡ Some value → ⊥) → found ≡ None
blank_there None never = refl
blank_there (Some value) never = absurd (never value refl)

pub device_is_view : (device : DeviceState) (loan : ℕ) → IsDevice device → IsView (seen_directly device loan)
device_is_view device loan is = record {
  cells = omega (arith, is.cells);
  inside = is.inside;
  planned = record { keeps = λ cell value h. absurd (none-some value h) };
  unowned = λ cell free. refl;
  unplanned = λ cell free. refl;
  below = λ cell free before. refl;
  beyond = λ cell free past. blank_there (device.image cell) (λ value h. omega (arith, (is.inside cell value h).0));
}
