-- What a crash leaves of a settling: an image that is blank or sound, with the documents of one of two.
use Rattle.std.proofs.Common.{◌≡◌, ◌≤◌, ◌<◌, ◌+◌, ◌⊎◌, ℕ, zero, suc, List, Some, None, refl, sym, ◌∙◌, inl, inr, ⊎_elim, subst, arith}
use Rattle.std.specs.Prelude.{IsTrue, Result}
use Rattle.std.proofs.lemmas.Option.{none-some}
use Rattle.cell_types.specs.Image.{Image, Extends, Between, IsUnchanged}
use Rattle.cell_types.specs.Layout.{Layout}
use Rattle.cell_types.specs.declared.refusal.Refusal.{Refusal}
use Rattle.volume_meaning.specs.Documents.{AreDocuments, Document}
use Rattle.volume_meaning.specs.Volumes.{IsVolume}
use Rattle.tamper_rules.specs.Settling.{Settled, After, nothing, abandoned, completed, IsBlankOrSound, Sound, Held, none, of_after}
use Rattle.tamper_rules.proofs.Images.{same_both, same_image}
use Rattle.tamper_rules.proofs.OneAfter.{one_after}
use Rattle.tamper_rules.proofs.Steady.{steady_two}
use Rattle.worm_device.specs.Counts.{IsStill}
use Rattle.worm_device.specs.State.{DeviceState, IsDevice, LeftSince}
use Rattle.worm_device.proofs.Images.{extends_self}
use Rattle.recovery_engine.specs.declared.put.Put.{Put}
use Rattle.recovery_engine.specs.Putting.{IsPut, IsInFirst, ChangesBy, LeavesPhases}
use Rattle.commit_record.specs.declared.slot.SlotState.{SlotState}
use Rattle.commit_record.specs.declared.slot.SlotState.TheVariants.{Unused, Reserved, Abandoned, Committed, Done}
use Rattle.recovery_engine.specs.Ending.{IsFirstEnd, IsLastEnd, end_phases}
use Rattle.recovery_engine.specs.Settling.{Settles, IsEnding, settle_plan}
use Rattle.recovery_engine.specs.declared.settling.Ready.{Ready}
use Rattle.crash_laws.specs.SettlingSteadiness.{CrashesLeaveWhole, IsLeftWhole, IsSteady, StaysSteady}
use Rattle.crash_laws.proofs.PutCells.{reserved_goes_on, committed_goes_on}

-- what settling makes something of is a volume, and so not blank
pub not_blank : {cells : ℕ} {image after : Image} → After cells image after → image 0 ≡ None → ⊥
not_blank (nothing s same) blank = none-some _ (sym blank ∙ s.volume.volume.stands)
not_blank (abandoned g n start reserved v h r w) blank = none-some _ (sym blank ∙ v.volume.stands)
not_blank (completed g n start reserved bytes journal v h c ready w) blank = none-some _ (sym blank ∙ v.volume.stands)

-- the documents that a sound image holds are those of what settling makes of it
pub documents_after : {cells : ℕ} {image : Image} (s : Sound cells image) (documents : List Document)
    → Held cells image documents → AreDocuments cells s.after documents
documents_after s documents (none blank is) = absurd (not_blank s.is (blank 0))
documents_after {cells} {image} s documents (of_after after a are) =
    subst (λ (i : Image). AreDocuments cells i documents) (one_after cells image after s.after a s.is) are

-- where cell 0 is written, an image that is blank or sound is sound
pub sound_written : {cells : ℕ} {image : Image} (value : List ℕ) → image 0 ≡ Some value → IsBlankOrSound cells image
    → Sound cells image
sound_written {cells} {image} value is whole = ⊎_elim
    (λ (blank : (cell : ℕ) → image cell ≡ None). absurd (none-some value (sym (blank 0) ∙ is)))
    (λ (s : Sound cells image). s)
    whole

-- the image has changed by nothing
pub by_none : {P : Put → Type 0} {old image : Image} → ((put : Put) → P put → ⊥) → ChangesBy P old image
    → Extends image old
by_none {P} {old} {image} never only = record {
  keeps = λ cell value is. ⊎_elim
      (λ (was : old cell ≡ Some value). was)
      (λ (q : IsPut P old cell value). absurd (never q.put q.planned))
      (only cell value is);
}

-- where the slot's state has no phases, nothing is put
pub ends_none : (image : Image) (n : ℕ) (state : SlotState) → end_phases state ≡ 0 → (j : ℕ) (put : Put)
    → settle_plan image n state j put → ⊥
ends_none image n Unused e j put h = ⊎_elim (λ (a : (j ≡ 1) × ⊥). a.1) (λ (b : (j ≡ 2) × ⊥). b.1) h
ends_none image n (Reserved s l) e j put h = omega (arith, e)
ends_none image n (Abandoned s l) e j put h = ⊎_elim (λ (a : (j ≡ 1) × ⊥). a.1) (λ (b : (j ≡ 2) × ⊥). b.1) h
ends_none image n (Committed s l b k) e j put h = omega (arith, e)
ends_none image n (Done s l b k) e j put h = ⊎_elim (λ (a : (j ≡ 1) × ⊥). a.1) (λ (c : (j ≡ 2) × ⊥). c.1) h

-- nor is anything in the first phase, a sync
first_none : (image : Image) (n : ℕ) (state : SlotState) (j : ℕ) (put : Put) → j < 1 → settle_plan image n state j put
    → ⊥
first_none image n state j put less h = ⊎_elim (λ (a : (j ≡ 1) × IsFirstEnd image n state put). omega
    (arith, a.0, less)) (λ (b : (j ≡ 2) × IsLastEnd n state put). omega (arith, b.0, less)) h

-- settling makes the same of this image as of the one at entry
record GoesOn (old : DeviceState) (image : Image) : Type 0 where
  layout : Layout
  volume : IsVolume old.cells old.image layout
  goes : (after : Image) → After old.cells old.image after → Settled old.cells after → After old.cells image after

module _ (old : DeviceState) (device : IsDevice old) (steady : IsSteady old) (image : Image) where
  -- what is left of what stood at entry
  pub left_between : Between old.sure old.image image → IsLeftWhole old image
  left_between b = record {
    sound = steady.each image b;
    holds = steady_two (λ other e f. steady.each other (record { above = e; below = f })) b.above b.below;
  }

  module _ (c : GoesOn old image) where
    entry_sound : Sound old.cells old.image
    entry_sound = sound_written c.volume.volume.cell c.volume.volume.stands
        (steady.each old.image (record { above = device.sure; below = extends_self old.image }))

    all_on : (after : Image) → After old.cells old.image after → After old.cells image after
    all_on after a = c.goes after a
        (subst (Settled old.cells) (one_after old.cells old.image entry_sound.after after entry_sound.is a)
        entry_sound.settled)

    -- so it holds the same documents
    goes_held : (documents : List Document) → Held old.cells old.image documents → Held old.cells image documents
    goes_held documents (none blank is) = absurd (not_blank entry_sound.is (blank 0))
    goes_held documents (of_after after a are) = of_after after (all_on after a) are

    left_goes : IsLeftWhole old image
    left_goes = record {
      sound = inr (record {
        after = entry_sound.after;
        is = all_on entry_sound.after entry_sound.is;
        settled = entry_sound.settled;
      });
      holds = inr goes_held;
    }

  module _ (new : DeviceState) (still : IsStill old.foreign_writes new.foreign_writes) (n : ℕ) where
    -- nothing was put so far
    between_of : (state : SlotState) (l : LeavesPhases (settle_plan old.image n state) 3 old new image) →
        ((put : Put) → IsInFirst (settle_plan old.image n state) (l.phase + 1) put → ⊥)
        → Between old.sure old.image image ⊎ GoesOn old image
    between_of state l never = inl (record { above = l.sure; below = by_none never (l.only still) })

    by_state : (state : SlotState) → (1 ≤ end_phases state → IsEnding old.cells old.image old.image n state)
        → LeavesPhases (settle_plan old.image n state) 3 old new image
        → Between old.sure old.image image ⊎ GoesOn old image
    by_state Unused ending l = between_of Unused l (λ put h. ends_none old.image n Unused refl h.0 put h.2)
    by_state (Abandoned s r) ending l = between_of (Abandoned s r) l
        (λ put h. ends_none old.image n (Abandoned s r) refl h.0 put h.2)
    by_state (Done s r b j) ending l = between_of (Done s r b j) l
        (λ put h. ends_none old.image n (Done s r b j) refl h.0 put h.2)
    by_state (Reserved s r) ending l = at l.phase refl
      where
        at : (phase : ℕ) → l.phase ≡ phase → Between old.sure old.image image ⊎ GoesOn old image
        at zero is = between_of (Reserved s r) l (λ put h. first_none old.image n (Reserved s r) h.0 put
            (omega (arith, h.1, is)) h.2)
        at (suc k) is =
            let e = ending (omega arith) in
            inr (record {
              layout = e.layout;
              volume = e.volume;
              goes = λ after a settled. reserved_goes_on e.layout e.volume n e.horizon after a settled image
                  (l.synced (omega (arith, is))) l.phase s r e.is (l.only still);
            })
    by_state (Committed s r b j) ending l = at l.phase refl
      where
        at : (phase : ℕ) → l.phase ≡ phase → Between old.sure old.image image ⊎ GoesOn old image
        at zero is = between_of (Committed s r b j) l (λ put h. first_none old.image n (Committed s r b j) h.0 put
            (omega (arith, h.1, is)) h.2)
        at (suc k) is =
            let e = ending (omega arith) in
            inr (record {
              layout = e.layout;
              volume = e.volume;
              goes = λ after a settled. committed_goes_on e.layout e.volume n e.horizon after a settled image
                  (l.synced (omega (arith, is))) l.phase s r b j e.is (l.only still) l.all;
            })

-- a crash in settling
settling_image : (old new : DeviceState) (result : Result Ready Refusal) → IsDevice old → IsTrue old.tells
    → Settles old new result
    → IsStill old.foreign_writes new.foreign_writes → IsSteady old
    → (since : ℕ) (image : Image) → since ≤ old.moment → LeftSince new since image
    → LeftSince old since image ⊎ Between old.sure old.image image ⊎ GoesOn old image
settling_image old new result device tells settles still steady since image le left =
    let w = settles.writes tells in
    let same : w.between ≡ old.image = same_image (w.quiet still) in
    ⊎_elim inl
    (λ (l : LeavesPhases (settle_plan w.between w.slot w.state) 3 old new image).
    inr (by_state old device steady image new still w.slot w.state
    (λ some. subst (λ (i : Image). IsEnding old.cells old.image i w.slot w.state) same (w.ending some))
    (subst (λ (i : Image). LeavesPhases (settle_plan i w.slot w.state) 3 old new image) same l)))
    (w.crashes tells since image le left)

pub settling_left : (old new : DeviceState) (result : Result Ready Refusal) → IsDevice old → IsTrue old.tells
    → Settles old new result
    → IsStill old.foreign_writes new.foreign_writes → IsSteady old
    → CrashesLeaveWhole old new
settling_left old new result device tells settles still steady since image le left = ⊎_elim inl
    (λ (l : Between old.sure old.image image ⊎ GoesOn old image).
    inr (⊎_elim (left_between old device steady image) (left_goes old device steady image) l))
    (settling_image old new result device tells settles still steady since image le left)

-- where nothing was done the documents stand
pub held_unmoved : {old new : DeviceState} → new ≡ old → (documents : List Document)
    → Held old.cells old.image documents → Held new.cells new.image documents
held_unmoved same documents held = subst (λ (s : DeviceState). Held s.cells s.image documents) (sym same) held

-- what stands behind settling, whatever it answers, holds the documents that stood at entry
pub settling_keeps : (old new : DeviceState) (result : Result Ready Refusal) → IsDevice old → IsDevice new
    → IsTrue old.tells → Settles old new result
    → IsStill old.foreign_writes new.foreign_writes → IsSteady old
    → (documents : List Document) → Held old.cells old.image documents → Held old.cells new.image documents
settling_keeps old new result device device_new tells settles still steady documents held = ⊎_elim
    (λ (before : LeftSince old old.moment new.image). ⊎_elim unmoved
    (λ (m : (m : ℕ) × (old.moment ≤ m) × (m < old.moment)
    × Between (old.past m).sure (old.past m).image new.image). absurd (omega (arith, m.1, m.2)))
    before)
    (λ (l : Between old.sure old.image new.image ⊎ GoesOn old new.image). ⊎_elim unmoved
    (λ (c : GoesOn old new.image). goes_held old device steady new.image c documents held) l)
    (settling_image old new result device tells settles still steady old.moment new.image (omega arith)
    (inl (record { above = device_new.sure; below = extends_self new.image })))
  where
    unmoved : Between old.sure old.image new.image → Held old.cells new.image documents
    unmoved b = subst (λ (i : Image). Held old.cells i documents) (same_both b.below settles.called.image) held

-- what a crash could leave from a steady state on is whole
pub whole_from : (old new : DeviceState) (image : Image) → IsDevice old → IsSteady old → CrashesLeaveWhole old new
    → LeftSince new old.moment image → IsLeftWhole old image
whole_from old new image device steady crashes left = ⊎_elim
    (λ (before : LeftSince old old.moment image). ⊎_elim
    (λ (b : Between old.sure old.image image). left_between old device steady image b)
    (λ (m : (m : ℕ) × (old.moment ≤ m) × (m < old.moment) × Between (old.past m).sure (old.past m).image image).
    absurd (omega (arith, m.1, m.2)))
    before)
    (λ (l : IsLeftWhole old image). l)
    (crashes old.moment image (omega arith) left)

-- and so the device is steady behind it
pub stays_steady : (old new : DeviceState) → IsDevice old → IsSteady old → new.cells ≡ old.cells
    → CrashesLeaveWhole old new → StaysSteady old new
stays_steady old new device steady cells crashes = record {
  crashes = crashes;
  steady = record {
    each = λ image b. subst (λ (k : ℕ). IsBlankOrSound k image) (sym cells)
        (whole_from old new image device steady crashes (inl b)).sound;
  };
}

-- where all that stands is sure, a crash leaves just that
pub sure_steady : (s : DeviceState) → IsUnchanged s.image s.sure → IsBlankOrSound s.cells s.image → IsSteady s
sure_steady s sure whole = record {
  each = λ image b.
      let low : Extends s.image image = subst (λ (i : Image). Extends i image) (same_image sure) b.above in
      subst (IsBlankOrSound s.cells) (sym (same_both low b.below)) whole;
}
