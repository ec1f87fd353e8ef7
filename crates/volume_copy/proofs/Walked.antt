-- The first slots of a volume were asked whether they are done.
use Rattle.std.proofs.Common.{◌≡◌, ◌≤◌, ◌<◌, ◌+◌, ◌⊎◌, ℕ, zero, List, [], ◌∷◌, ◌++◌, Some, None, Result, Ok, Err, ⊎_elim, refl, ap, sym, subst, arith, ◌∙◌}
use Rattle.std.specs.Prelude.{Contains, IsTrue}
use Rattle.std.specs.Global.{Vec}
use Rattle.std.proofs.lemmas.List.Elements.{Contains-append_left, Contains-append_right, Contains-push, Contains-push_cases}
use Rattle.cell_types.specs.Layout.{Layout}
use Rattle.cell_types.specs.declared.refusal.Refusal.{Refusal}
use Rattle.volume_meaning.specs.Slots.{IsDoneSlot}
use Rattle.volume_meaning.proofs.Extending.{done_slot_on}
use Rattle.worm_device.specs.State.{DeviceState}
use Rattle.worm_device.specs.Views.{ViewState, Viewed, seen_directly}
use Rattle.worm_device.proofs.Images.{extends_self}
use Rattle.worm_device.proofs.Resting.{viewed_self, viewed_then}
use Rattle.document_store.specs.Looks.{HasPart, PartEnds}
use Rattle.document_store.specs.declared.part.Part.{Part}
use Rattle.document_store.proofs.Checking.{found_part, has_part_on}
use Rattle.document_store.proofs.Holding.{part_is_done}
use Rattle.document_store.proofs.Naming.{told}
use Rattle.volume_copy.specs.Reading.{RiseFrom, SlotFails, part_slots}
use Rattle.volume_copy.specs.Walking.{AreFound, CopyWalkEnds, WalksSlots}
use Rattle.volume_copy.proofs.PartSlots.{part_of, slots_push}
use Rattle.volume_copy.proofs.Slots.{fails_later, reading_fails}

-- one more number, behind the others
rise_push : (from : ℕ) (ns : List ℕ) (n : ℕ) → RiseFrom from ns → ((m : ℕ) → Contains ns m → m < n) → from ≤ n
    → RiseFrom from (ns ++ n ∷ [])
rise_push from [] n rise below le = (le, tt)
rise_push from (m ∷ ms) n rise below le = (
  rise.0,
  rise_push (m + 1) ms n rise.1 (λ k among. below k (Contains-append_right (m ∷ []) ms k among))
      (let less : m < n = below m (zero, omega arith, refl) in omega (arith, less)),
)

below_or_at : (n k : ℕ) → n < k + 1 → (n < k) ⊎ (n ≡ k)
below_or_at n k less = grind arith

-- so many slots were asked
pub record WalkedSoFar (g : Layout) (old now : ViewState) (k : ℕ) (parts : List Part) : Type 0 where
  pub viewed : Viewed old now
  pub rise : RiseFrom 0 (part_slots parts)
  pub below : (n : ℕ) → Contains (part_slots parts) n → n < k
  pub found : AreFound g now parts
  pub all : IsTrue old.base.tells → (n : ℕ) → n < k → IsDoneSlot g old.image n → Contains (part_slots parts) n

-- none was
pub walk_none : (g : Layout) (old : ViewState) → WalkedSoFar g old old 0 []
walk_none g old = record {
  viewed = viewed_self old;
  rise = tt;
  below = λ n among. absurd (omega (arith, among.1));
  found = λ part among. absurd (omega (arith, among.1));
  all = λ tells n less. absurd (omega (arith, less));
}

module _ {g : Layout} {old now new : ViewState} {k : ℕ} {parts : List Part} (so_far : WalkedSoFar g old now k parts)
    (viewed : Viewed now new) where
  -- the next one is not done
  pub walk_over : PartEnds g k now new (Ok None) → WalkedSoFar g old new (k + 1) parts
  walk_over ends = record {
    viewed = viewed_then so_far.viewed viewed;
    rise = so_far.rise;
    below = λ n among. let less = so_far.below n among in omega (arith, less);
    found = λ part among. has_part_on g now new part viewed (so_far.found part among);
    all = λ tells n less done. ⊎_elim
        (λ (before : n < k). so_far.all tells n before done)
        (λ (here : n ≡ k). absurd ((ends.1 (told so_far.viewed tells)).undone
        (done_slot_on (extends_self old.image) so_far.viewed.image
        (subst (λ (m : ℕ). IsDoneSlot g old.image m) here done))))
        (below_or_at n k less);
  }

  -- it is
  pub walk_one : (part : Part) → k < g.slots → PartEnds g k now new (Ok (Some part))
      → WalkedSoFar g old new (k + 1) (parts ++ part ∷ [])
  walk_one part most ends =
      let at : part_slots (parts ++ part ∷ []) ≡ part_slots parts ++ k ∷ [] =
      slots_push parts part ∙ ap (λ (n : ℕ). part_slots parts ++ n ∷ []) ends.0 in
      record {
        viewed = viewed_then so_far.viewed viewed;
        rise = subst (λ (ns : List ℕ). RiseFrom 0 ns) (sym at)
            (rise_push 0 (part_slots parts) k so_far.rise so_far.below (omega arith));
        below = λ n among. ⊎_elim
            (λ (before : Contains (part_slots parts) n). let less = so_far.below n before in omega (arith, less))
            (λ (here : k ≡ n). omega (arith, here))
            (Contains-push_cases (part_slots parts) k n (subst (λ (ns : List ℕ). Contains ns n) at among));
        found = λ other among. ⊎_elim
            (λ (before : Contains parts other). has_part_on g now new other viewed (so_far.found other before))
            (λ (here : part ≡ other).
            subst (λ (p : Part). HasPart g new p) here (found_part g k now new part viewed ends most))
            (Contains-push_cases parts part other among);
        all = λ tells n less done. subst (λ (ns : List ℕ). Contains ns n) (sym at) (⊎_elim
            (λ (before : n < k).
            Contains-append_left (part_slots parts) (k ∷ []) n (so_far.all tells n before done))
            (λ (here : n ≡ k).
            subst (λ (m : ℕ). Contains (part_slots parts ++ k ∷ []) m) (sym here) (Contains-push (part_slots parts) k))
            (below_or_at n k less));
      }

  -- a look was refused
  pub walk_fails : (horizon : ℕ) (refusal : Refusal) → SlotFails g k now new refusal
      → WalksSlots g horizon old new (Err refusal)
  walk_fails horizon refusal fails = record {
    slot = k;
    refuses = fails_later g k so_far.viewed viewed refusal fails;
  }

-- the slots of parts that were found are done
pub found_done : (g : Layout) (s : ViewState) (parts : List Part) → AreFound g s parts → IsTrue s.base.tells → (n : ℕ)
    → Contains (part_slots parts) n → IsDoneSlot g s.image n
found_done g s parts found tells n among =
    let w = part_of parts n among in
    subst (λ (m : ℕ). IsDoneSlot g s.image m) w.2 (part_is_done ((found w.0 w.1).is tells))

-- all were asked
pub walk_ends : {g : Layout} {old now : ViewState} {horizon k : ℕ} (parts : Vec Part)
    → WalkedSoFar g old now k parts.items → k ≡ horizon → WalksSlots g horizon old now (Ok parts)
walk_ends {g} {old} {now} {horizon} {k} parts so_far at_end = subst
    (λ (n : ℕ). WalksSlots g n old now (Ok parts)) at_end (
      record { rise = so_far.rise; below = so_far.below },
      so_far.found,
      λ tells. record {
        done = found_done g now parts.items so_far.found (told so_far.viewed tells);
        all = so_far.all tells;
      },
    )

-- a part that was found by any loan of a device
pub found_by_any : (g : Layout) (t : DeviceState) (a b : ℕ) (part : Part) → HasPart g (seen_directly t a) part
    → HasPart g (seen_directly t b) part
found_by_any g t a b part has = record { slot = has.slot; inside = has.inside; stated = has.stated; is = has.is }

-- over a device
pub walked : (g : Layout) (horizon : ℕ) (s t : DeviceState) (a b : ℕ)
    → Viewed (seen_directly s a) (seen_directly t b) → (result : Result (Vec Part) Refusal)
    → WalksSlots g horizon (seen_directly s a) (seen_directly t b) result → CopyWalkEnds g horizon s t result
walked g horizon s t a b viewed (Ok parts) ends =
    (ends.0, λ part among. found_by_any g t b 0 part (ends.1 part among), ends.2)
walked g horizon s t a b viewed (Err refusal) ends =
    λ volume. reading_fails g ends.slot s t a b viewed refusal ends.refuses volume
