-- What holds of an overlay as a view, and of what goes on from one state to a later one.
use Rattle.std.proofs.Common.{◌≡◌, ◌≢◌, ◌≤◌, ◌⊎◌, ⊎_elim, inl, inr, ℕ, List, Option, Some, None, refl, ap, sym, subst, ◌∙◌}
use Rattle.std.proofs.lemmas.Bool.{cases_eq}
use Rattle.std.proofs.lemmas.Option.{none-some}
use Rattle.cell_types.specs.Image.{Image, Extends, IsUnchanged}
use Rattle.volume_meaning.specs.Blocks.{Leads, arrived, onwards}
use Rattle.volume_meaning.proofs.Fronts.{front_on}
use Rattle.volume_meaning.proofs.Extending.{holds_on}
use Rattle.tamper_rules.proofs.Images.{same_image}
use Rattle.worm_device.specs.Calls.{Called}
use Rattle.worm_device.specs.Counts.{IsStill}
use Rattle.worm_device.specs.Overlaying.{overlay_shows}
use Rattle.worm_device.specs.Overlays.{of_overlay}
use Rattle.worm_device.specs.State.{DeviceState}
use Rattle.worm_device.specs.Views.{ViewState, Viewed, IsView}
use Rattle.worm_device.proofs.Counting.{still_first, still_second}
use Rattle.worm_device.proofs.Images.{unchanged_then}
use Rattle.worm_device.proofs.Resting.{rests_of}
use Rattle.worm_device.specs.declared.overlay.Overlay.{Overlay}
use Rattle.jump_block.specs.Pointing.{HasKeyIn}

-- an overlay is a view
pub is_view : {V : Type 0} (seen : V → ViewState) → ((view : V) → IsView (seen view)) → (o : Overlay V)
    → IsView (of_overlay seen o)
is_view seen proper o = overlay_shows seen proper o

pub some_or_none : {A : Type 0} (x : Option A) → (x ≡ None) ⊎ ((v : A) × (x ≡ Some v))
some_or_none None = inl refl
some_or_none (Some v) = inr (v, refl)

pub some_same : {A : Type 0} (a b : A) → Some a ≡ Some b → a ≡ b
some_same a b e = cc

-- what is blank is not planned
pub blank_is_free : (s : ViewState) → IsView s → (cell : ℕ) → s.image cell ≡ None → s.planned cell ≡ None
blank_is_free s view cell blank = ⊎_elim
    (λ none. none)
    (λ (some : (v : List ℕ) × (s.planned cell ≡ Some v)).
    absurd (none-some some.0 (sym blank ∙ view.planned.keeps cell some.0 some.1)))
    (some_or_none (s.planned cell))

-- a cell that was blank is planned: all that was shown is shown still
pub adding_extends : {at : ℕ} {old new : Image} → ((cell : ℕ) → cell ≢ at → new cell ≡ old cell) → old at ≡ None
    → Extends old new
adding_extends {at} {old} {new} others blank = record {
  keeps = λ cell value h. ⊎_elim
      (λ same. absurd (none-some value (sym blank ∙ ap old (sym same) ∙ h)))
      (λ differ. others cell differ ∙ h)
      (cases_eq cell at);
}

pub called_on : {a b c : DeviceState} → Called a b → c ≡ b → Called a c
called_on {a} {b} {c} called same = subst (λ (s : DeviceState). Called a s) (sym same) called

pub same_extends : (a b : Image) → b ≡ a → Extends a b
same_extends a b same = record { keeps = λ cell value h. ap (λ (f : Image). f cell) same ∙ h }

pub has_key_on : {old new : Image} {block low bound : ℕ} → Extends old new → HasKeyIn old block low bound
    → HasKeyIn new block low bound
has_key_on e h = record {
  place = h.place;
  p = h.p;
  in_places = h.in_places;
  in_front = front_on e h.in_front;
  from = h.from;
  below = h.below;
}

pub leads_on : {old new : Image} {from to last block : ℕ} → Extends old new → Leads old from to last block
    → Leads new from to last block
leads_on e (arrived block same) = arrived block same
leads_on e (onwards block level digit target levels some digits led inside_from inside_to rest) =
    onwards block level digit target levels some digits (holds_on e led) inside_from inside_to (leads_on e rest)

-- reads in which nobody else wrote leave the image
pub quiet_image : {a b : ViewState} → Viewed a b → (count : ℕ) → b.base.foreign_writes ≤ count
    → IsStill a.base.foreign_writes count → b.image ≡ a.image
quiet_image viewed count later still =
    same_image ((rests_of viewed).shown (still_first viewed.called.foreign_writes later still))

-- where nobody else wrote, the device stands as it did
abbrev pub StaysQuiet : DeviceState → DeviceState → Type 0
StaysQuiet old new = IsStill old.foreign_writes new.foreign_writes → IsUnchanged old.image new.image

-- planning after reads leaves the device
pub quiet_on : {a b : ViewState} {c : DeviceState} → Viewed a b → c ≡ b.base → StaysQuiet a.base c
quiet_on {a} viewed same = subst (λ (s : DeviceState). StaysQuiet a.base s) (sym same) (rests_of viewed).below

-- calls after reads
pub quiet_then : {a b : ViewState} {c : DeviceState} → Viewed a b → Called b.base c → StaysQuiet b.base c
    → StaysQuiet a.base c
quiet_then viewed called quiet = λ still.
    let earlier = viewed.called.foreign_writes in
    let later = called.foreign_writes in
    unchanged_then ((rests_of viewed).below (still_first earlier later still)) (quiet (still_second earlier later still))
