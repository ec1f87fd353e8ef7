-- The least broken cell of a family of places, each of which asks something of a cell: found by going through the family
-- in any order. Rules are such families: a slot's cell, or a place of a block of a list.
use Rattle.std.proofs.Common.{◌≡◌, ◌<◌, ◌+◌, ⊎_elim, ℕ, Some, None, sym, ◌∙◌, subst, ap, arith}
use Rattle.cell_types.specs.Image.{Image}
use Rattle.cell_types.specs.Layout.{Layout}
use Rattle.cell_types.specs.declared.refusal.Evidence.{Evidence}
use Rattle.volume_meaning.specs.Volumes.{IsWritten}
use Rattle.tamper_rules.specs.Rules.{Rule, IsMet, IsPlace, number_of}
use Rattle.log_audit.specs.Findings.{IsMetAll, IsLeastBroken}
use Rattle.log_audit.proofs.Orders.{below_or_at}

-- Of the first n places: member k asks Fine k of the cell at k, where that is written.
abbrev pub AreFine : Image → (ℕ → ℕ) → (ℕ → Type 0) → ℕ → Type 0
AreFine image at Fine n = (k : ℕ) → k < n → IsWritten image (at k) → Fine k

-- one member more
pub fine_more : {image : Image} {at : ℕ → ℕ} {Fine : ℕ → Type 0} {n : ℕ} → AreFine image at Fine n → (IsWritten image (at n) → Fine n)
    → AreFine image at Fine (n + 1)
fine_more {image} {at} {Fine} {n} fine here k less written = ⊎_elim
    (λ (earlier : k < n). fine k earlier written)
    (λ (same : k ≡ n). subst Fine (sym same) (here (subst (λ (m : ℕ). IsWritten image (at m)) same written)))
    (below_or_at k n less)

-- a blank cell is not written
pub not_written : {image : Image} {cell at : ℕ} → image cell ≡ None → cell ≡ at → IsWritten image at → ⊥
not_written {image} {cell} {at} none same written = let clash : None ≡ Some written.found = sym none ∙ ap image same ∙ written.stands in cc

-- All n are fine, and the rule asks no more of a cell than its members do.
pub met_all : (g : Layout) {image : Image} (rule : Rule) {at : ℕ → ℕ} {Fine : ℕ → Type 0} {n : ℕ}
    → ((cell : ℕ) → ((k : ℕ) → k < n → cell ≡ at k → Fine k) → IsMet g image rule cell)
    → AreFine image at Fine n → IsMetAll g image rule
met_all g {image} rule {at} {Fine} {n} met fine = λ cell written. met cell
    (λ k less same. fine k less (subst (IsWritten image) same written))

-- The places rise, those below n are fine, and the one at n is not.
pub first_rising : (g : Layout) {image : Image} (rule : Rule) {at : ℕ → ℕ} {Fine : ℕ → Type 0} {n slots : ℕ} (e : Evidence)
    → ((cell : ℕ) → ((k : ℕ) → k < slots → cell ≡ at k → Fine k) → IsMet g image rule cell)
    → (IsMet g image rule e.cell → Fine n)
    → ((a b : ℕ) → at a < at b → a < b)
    → AreFine image at Fine n → (Fine n → ⊥)
    → e.rule ≡ number_of rule → IsPlace g rule e.cell → image e.cell ≡ Some e.found → e.cell ≡ at n
    → IsLeastBroken g image rule e
first_rising g {image} rule {at} {Fine} {n} {slots} e met unmet rises fine broken number place stands same = record {
  number = number;
  place = place;
  stands = stands;
  not_met = λ is. broken (unmet is);
  below = λ cell less written. met cell (λ k inside here.
      fine k (rises k n (omega (arith, less, same, here))) (subst (IsWritten image) here written));
}
