-- Journal cells in order.
use Rattle.std.proofs.Common.{◌≡◌, ◌<◌, ◌≤◌, ◌+◌, ◌-◌, ◌^◌, ◌↔◌, ⊎_elim, inr, ℕ, nat_lt, sym, ◌∙◌, subst, ap, arith}
use Rattle.std.specs.Prelude.{IsTrue}
use Rattle.cell_types.specs.Image.{Image}
use Rattle.cell_types.specs.Layout.{Layout}
use Rattle.cell_types.specs.Records.{IsRecordCell}
use Rattle.cell_types.specs.declared.record_cell.RecordCell.{RecordCell}
use Rattle.cell_types.proofs.OneRecord.{address_in}
use Rattle.volume_meaning.specs.Documents.{document_at}
use Rattle.volume_meaning.proofs.Holding.{some_is}
use Rattle.tamper_rules.specs.Journals.{journal_at, CopiesIndexCell, IsIndexCell}
use Rattle.recovery_engine.specs.Entries.{target_of}
use Rattle.log_audit.specs.declared.stored.StoredSlot.{StoredSlot}
use Rattle.log_audit.proofs.Orders.{is_less, less_is}
use Rattle.slot_audit.specs.Copying.{HasTarget}
use Rattle.slot_audit.specs.Journals.{IsOrdered, TargetRises, journal_cell}

-- a copy's target
pub has_target : {image : Image} {s l j place target : ℕ} {copied : RecordCell}
    → CopiesIndexCell image s l j place target copied → HasTarget image (journal_at s l j + place) target
has_target {image} {s} {l} {j} {place} {target} {copied} c =
    let same = address_in copied target c.entry c.address c.is in
    record {
      cell = c.entry;
      stands = c.stands;
      copy = record { held = copied; index = c.index; is = subst (λ (t : ℕ). IsRecordCell copied t c.entry) (sym same) c.is };
      is = sym same;
    }

-- a cell has one target
pub one_target : {image : Image} {at a b : ℕ} → HasTarget image at a → HasTarget image at b → a ≡ b
one_target h k = let same = some_is h.cell k.cell (sym h.stands ∙ k.stands) in h.is ∙ ap target_of same ∙ sym k.is

-- and is a copy
pub copies : {image : Image} {s l j place target : ℕ} → place < j → target < 2 ^ 32
    → (h : HasTarget image (journal_at s l j + place) target) → CopiesIndexCell image s l j place target (h.copy.held)
copies below small h = record {
  below = below;
  entry = h.cell;
  stands = h.stands;
  index = h.copy.index;
  address = small;
  is = subst (λ (t : ℕ). IsRecordCell h.copy.held t h.cell) (sym h.is) h.copy.is;
}

-- the same of the place that is written otherwise
pub moved : (image : Image) (from to place target : ℕ) → from ≡ to → HasTarget image (from + place) target
    → HasTarget image (to + place) target
moved image from to place target same h = subst (λ (k : ℕ). HasTarget image (k + place) target) same h

-- behind another place
pub rises_there : (image : Image) (s : StoredSlot) (place target lower : ℕ) → 1 ≤ place → place < s.journal
    → lower < 2 ^ 32 → HasTarget image (journal_cell s (place - 1)) lower
    → (IsTrue (nat_lt lower target) ↔ TargetRises image s place target)
rises_there image s place target lower some below small h = (
  λ less. inr (
    place - 1,
    lower,
    h.copy.held,
    omega (arith, some),
    copies (omega (arith, below, some)) small h,
    less_is lower target less,
  ),
  λ rises. ⊎_elim
      (λ (zero : place ≡ 0). absurd (omega (arith, zero, some)))
      (λ w. let at : w.0 ≡ place - 1 = omega (arith, w.3, some) in
      let same : w.1 ≡ lower = one_target (subst (λ (k : ℕ). HasTarget image (journal_cell s k) w.1) at (has_target w.4)) h in
      is_less lower target (omega (arith, w.5, same)))
      rises,
)

pub rises_not : (image : Image) (s : StoredSlot) (place target : ℕ) → 1 ≤ place
    → ((lower : ℕ) → HasTarget image (journal_cell s (place - 1)) lower → ⊥) → TargetRises image s place target → ⊥
rises_not image s place target some none rises = ⊎_elim
    (λ (zero : place ≡ 0). omega (arith, zero, some))
    (λ w. let at : w.0 ≡ place - 1 = omega (arith, w.3, some) in
    none w.1 (subst (λ (k : ℕ). HasTarget image (journal_cell s k) w.1) at (has_target w.4)))
    rises

-- what is in order copies the cell that was seen there
module _ (g : Layout) (image : Image) (s : StoredSlot) (place target : ℕ)
    (seen : HasTarget image (journal_cell s place) target) where
  pub same_target : (o : IsOrdered g image s place) → o.target ≡ target
  same_target o = one_target (has_target o.copies) seen

  pub rises_so : IsOrdered g image s place → TargetRises image s place target
  rises_so o = subst (TargetRises image s place) (same_target o) o.rises

  pub index_so : IsOrdered g image s place → IsIndexCell g image s.slot target
  index_so o = subst (IsIndexCell g image s.slot) (same_target o) o.index

  pub in_order : place < s.journal → target < 2 ^ 32 → TargetRises image s place target
      → target < document_at s.start s.length s.bytes s.journal → IsIndexCell g image s.slot target
      → IsOrdered g image s place
  in_order below small rises before index = record {
    target = target;
    copied = seen.copy.held;
    copies = copies below small seen;
    rises = rises;
    before_document = before;
    index = index;
  }
