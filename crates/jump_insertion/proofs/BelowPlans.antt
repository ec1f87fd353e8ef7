-- What stands below is shown, where nothing stands below what is planned.
use Rattle.std.proofs.Common.{◌≡◌, ◌<◌, ◌≤◌, ◌+◌, ⊎_elim, inl, inr, ℕ, List, Option, Some, None, refl, ap, sym, subst, arith, ◌∙◌}
use Rattle.std.proofs.lemmas.Bool.{cases_lt}
use Rattle.std.proofs.lemmas.Option.{none-some}
use Rattle.cell_types.specs.Image.{Image}
use Rattle.cell_types.specs.declared.record_cell.RecordCell.{RecordCell}
use Rattle.volume_meaning.specs.Volumes.{Holds, IsWritten}
use Rattle.volume_meaning.specs.Blocks.{PostingFields, posting_record, InFront, at_the_start, behind}
use Rattle.volume_meaning.proofs.Fronts.{front_holds, one_place, rises}
use Rattle.tamper_rules.specs.Rules.{EndsFront, HoldsInOrder}
use Rattle.jump_block.proofs.Knowing.{front_below}
use Rattle.jump_block.specs.Pointing.{HasFull}
use Rattle.worm_device.specs.Views.{ViewState, IsView}
use Rattle.jump_insertion.specs.Evidence.{NothingBelowPlans}

-- what stands in the lower image before this cell stands in the upper one
pub record IsShown (low high : Image) (to : ℕ) : Type 0 where
  pub keeps : (cell : ℕ) (value : List ℕ) → cell < to → low cell ≡ Some value → high cell ≡ Some value

shown_if : (s : ViewState) (cell : ℕ) (value : List ℕ) (planned : Option (List ℕ)) → s.planned cell ≡ planned
    → IsView s → NothingBelowPlans s → cell < s.fresh → s.lower cell ≡ Some value → s.image cell ≡ Some value
shown_if s cell value None is view none before stands = view.below cell is before ∙ stands
shown_if s cell value (Some planned) is view none before stands =
    absurd (none-some value (sym (none cell planned is before) ∙ stands))

pub is_shown : (s : ViewState) → IsView s → NothingBelowPlans s → IsShown s.lower s.image s.fresh
is_shown s view none = record {
  keeps = λ cell value before stands. shown_if s cell value (s.planned cell) refl view none before stands;
}

module _ {low high : Image} {to : ℕ} (shown : IsShown low high to) where
  pub holds_shown : {at : ℕ} {r : RecordCell} → at < to → Holds low at r → Holds high at r
  holds_shown {at} before h = record { cell = h.cell; stands = shown.keeps at h.cell before h.stands; is = h.is }

  -- a cell that is written below holds what is shown
  pub holds_below : {at : ℕ} {r : RecordCell} → at < to → IsWritten low at → Holds high at r → Holds low at r
  holds_below {at} before w h = record {
    cell = h.cell;
    stands = w.stands ∙ sym (shown.keeps at w.found before w.stands) ∙ h.stands;
    is = h.is;
  }

  pub front_shown : {block place : ℕ} {p : PostingFields} → block + place < to → InFront low block place p
      → InFront high block place p
  front_shown before (at_the_start place p is holds) = at_the_start place p is (holds_shown before holds)
  front_shown below (behind place before p q is rest less holds) =
      behind place before p q is (front_shown (omega arith) rest) less (holds_shown below holds)

  pub order_shown : {block place : ℕ} → block + place < to → HoldsInOrder low block place
      → HoldsInOrder high block place
  order_shown {block} {place} below h = record {
    p = h.p;
    holds = holds_shown below h.holds;
    rises = ⊎_elim inl
        (λ (x : (before : ℕ) × (q : PostingFields) × (place ≡ before + 1)
        × Holds low (block + before) (posting_record q) × (q.key < h.p.key)).
        inr (x.0, x.1, x.2, holds_shown (omega (arith, x.2)) x.3, x.4))
        h.rises;
  }

  -- a block whose entry places are all written below ends below with the greatest key that is shown
  pub greatest_shown : {block l : ℕ} {greatest : PostingFields} → block + 128 ≤ to → HasFull high block l
      → ((place : ℕ) → place < 128 → IsWritten low (block + place)) → EndsFront low block greatest → greatest.key ≡ l
  greatest_shown {block} {l} {greatest} below full written ends =
      let front : InFront high block ends.place greatest =
      front_shown (omega (arith, ends.in_places)) ends.in_front in
      ⊎_elim
      (λ (less : ends.place + 1 < 128).
      let next = front_below full.in_front (ends.place + 1) (omega arith) in
      let up : greatest.key < next.0.key = rises next.1 ends.place greatest front (omega arith) in
      let holds : Holds low (block + (ends.place + 1)) (posting_record next.0) =
      holds_below (omega arith) (written (ends.place + 1) less) (front_holds next.1) in
      absurd (ends.ends less next.0
      (behind (ends.place + 1) ends.place next.0 greatest refl ends.in_front up holds)))
      (λ le.
      let last : ends.place ≡ 127 = omega (arith, ends.in_places) in
      let here : InFront high block 127 greatest = subst (λ (n : ℕ). InFront high block n greatest) last front in
      ap (λ (q : PostingFields). q.key) (one_place here full.in_front) ∙ full.same)
      (cases_lt (ends.place + 1) 128)
