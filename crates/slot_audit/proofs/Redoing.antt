-- Whether the target of a journal cell holds the same.
use Rattle.std.proofs.Common.{◌≡◌, ◌↔◌, ℕ, Bool, List, Some, None, sym, ◌∙◌, ap}
use Rattle.std.specs.Prelude.{IsTrue}
use Rattle.std.proofs.lemmas.Option.{none-some}
use Rattle.cell_types.specs.Image.{Image}
use Rattle.volume_meaning.proofs.Holding.{some_is}
use Rattle.slot_audit.specs.Copying.{HasTarget}
use Rattle.slot_audit.specs.Journals.{IsRedoneAt}
use Rattle.slot_audit.proofs.Ordering.{one_target}

-- no cell asks nothing
pub blank_asks_nothing : (image : Image) (at : ℕ) → image at ≡ None → IsRedoneAt image at
blank_asks_nothing image at none target h = absurd (none-some h.cell (sym none ∙ h.stands))

-- the target is blank
pub blank_target : (image : Image) (at target : ℕ) → HasTarget image at target → image target ≡ None → IsRedoneAt image at → ⊥
blank_target image at target h none redone = none-some h.cell (sym none ∙ redone target h ∙ h.stands)

-- the target holds something
pub same_or_not : (image : Image) (at target : ℕ) (own there : List ℕ) (b : Bool) → HasTarget image at target
    → image at ≡ Some own → image target ≡ Some there → (IsTrue b ↔ (there ≡ own)) → (IsTrue b ↔ IsRedoneAt image at)
same_or_not image at target own there b h stands found both = (
  λ yes. λ t k. ap image (one_target k h) ∙ found ∙ ap Some (both.0 yes) ∙ sym stands,
  λ redone. both.1 (some_is there own (sym found ∙ redone target h ∙ stands)),
)
