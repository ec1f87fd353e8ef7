-- Places of a block behind which all are blank.
use Rattle.std.proofs.Common.{◌≡◌, ◌<◌, ◌≤◌, ◌+◌, ⊎_elim, ℕ, refl, arith}
use Rattle.cell_types.specs.Image.{Image}
use Rattle.log_audit.specs.Cells.{AreBlankBetween}
use Rattle.log_audit.proofs.Families.{AreFine, not_written}
use Rattle.log_audit.proofs.Orders.{below_or_not}

-- where those before one are fine and those from it on are blank, all are fine
pub fine_to : {image : Image} (block : ℕ) {n from to behind : ℕ} {Fine : ℕ → Type 0} → AreFine image (λ (place : ℕ). block + place) Fine n
    → AreBlankBetween image from behind → from ≡ block + n → behind ≡ block + to → AreFine image (λ (place : ℕ). block + place) Fine to
fine_to {image} block {n} {from} {to} {behind} {Fine} fine blank low high k less written = ⊎_elim
    (λ (earlier : k < n). fine k earlier written)
    (λ (rest : n ≤ k). absurd (not_written (blank (block + k) (omega (arith, low, rest)) (omega (arith, high, less))) refl written))
    (below_or_not k n)
