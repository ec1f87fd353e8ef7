-- What a look at a kept cell decides.
use Rattle.std.proofs.Common.{rules, ◌≡◌, ◌↔◌, ℕ, List, Option, Some, None, Bool, true, false, sym, ◌∙◌, subst, ap}
use Rattle.std.specs.Prelude.{IsTrue, is_some}
use Rattle.cell_types.specs.Image.{Image}
use Rattle.cell_types.specs.declared.record_cell.RecordCell.{RecordCell}
use Rattle.volume_meaning.specs.Volumes.{Holds, IsWritten}

-- a no, where the fact does not hold, and a yes, where it does
pub no : {P : Type 0} → (P → ⊥) → (IsTrue false → P) × (P → IsTrue false)
no not = (λ h. absurd (wrong h), λ h. absurd (not h))
  where
    wrong : IsTrue false → ⊥
    wrong h = search rules

pub yes : {P : Type 0} → P → (IsTrue true → P) × (P → IsTrue true)
yes is = (λ _. is, λ _. right)
  where
    right : IsTrue true
    right = search rules

-- nothing is held where no record was found
pub none_held : {image : Image} {cell at : ℕ} {found : Option RecordCell} {held : RecordCell} → ((r : RecordCell) → Holds image cell r → found ≡ Some r) → found ≡ None
    → cell ≡ at → Holds image at held → ⊥
none_held {image} {cell} {at} {found} {held} one none same h =
    let clash : None ≡ Some held = sym none ∙ one held (subst (λ (c : ℕ). Holds image c held) (sym same) h) in cc

-- what is held is the record that was found
pub same_held : {image : Image} {cell at : ℕ} {found : Option RecordCell} {r held : RecordCell} → ((s : RecordCell) → Holds image cell s → found ≡ Some s) → found ≡ Some r
    → cell ≡ at → Holds image at held → r ≡ held
same_held {image} {cell} {at} {found} {r} {held} one some same h =
    let both : Some r ≡ Some held = sym some ∙ one held (subst (λ (c : ℕ). Holds image c held) (sym same) h) in cc

-- a record that was found is held
pub is_held : {image : Image} {cell at : ℕ} {r : RecordCell} → Holds image cell r → cell ≡ at → Holds image at r
is_held {image} {cell} {at} {r} h same = subst (λ (c : ℕ). Holds image c r) same h

-- a held record is written
pub held_written : {image : Image} {at : ℕ} {r : RecordCell} → Holds image at r → IsWritten image at
held_written h = record { found = h.cell; stands = h.stands }

-- what was decided
pub decided_no : {P : Type 0} (b : Bool) → (IsTrue b ↔ P) → b ≡ false → P → ⊥
decided_no {P} b both is h = let clash : true ≡ false = sym (true_of b (both.1 h)) ∙ is in cc
  where
    true_of : (x : Bool) → IsTrue x → x ≡ true
    true_of x y = search rules

pub decided_yes : {P : Type 0} (b : Bool) → (IsTrue b ↔ P) → b ≡ true → P
decided_yes {P} b both is = both.0 (subst IsTrue (sym is) right)
  where
    right : IsTrue true
    right = search rules

-- a cell in which something was found is written
pub written_by : {image : Image} {cell at : ℕ} {found : Option (List ℕ)} → found ≡ image cell → is_some found ≡ true → cell ≡ at → IsWritten image at
written_by {image} {cell} {at} {found = None} is some same = absurd (let clash : false ≡ true = some in cc)
written_by {image} {cell} {at} {found = Some v} is some same = record { found = v; stands = sym (ap image same) ∙ sym is }
