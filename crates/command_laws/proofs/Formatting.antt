-- What a crash leaves of formatting, from a steady device on, where nobody else writes; and of calls that leave nothing
-- but what is whole.
use Rattle.std.proofs.Common.{◌≡◌, ◌⊎◌, ℕ, List, [], Some, None, Result, Ok, Err, refl, sym, ap, ◌∙◌, inl, inr, ⊎_elim, subst, arith}
use Rattle.std.proofs.lemmas.Option.{none-some}
use Rattle.cell_types.specs.Image.{Image, Between, ChangesOnly, Extends}
use Rattle.cell_types.specs.Layout.{IsLayout, Layout}
use Rattle.cell_types.specs.declared.refusal.Refusal.{Refusal}
use Rattle.cell_types.specs.declared.refusal.Refusal.TheVariants as refusals
use Rattle.volume_meaning.specs.Documents.{AreDocuments, Document}
use Rattle.volume_meaning.specs.Volumes.{IsVolume}
use Rattle.tamper_rules.specs.Settling.{After, Held, Settled, Sound, none, nothing, of_after}
use Rattle.tamper_rules.proofs.Images.{look, same_image}
use Rattle.tamper_rules.proofs.SettledLaws.{formatted}
use Rattle.worm_device.specs.Calls.{Called}
use Rattle.worm_device.specs.Counts.{IsStill}
use Rattle.worm_device.specs.State.{DeviceState, IsDevice}
use Rattle.worm_device.proofs.Elapsing.{elapses_of}
use Rattle.worm_device.proofs.Images.{extends_self, extends_then}
use Rattle.crash_laws.specs.SettlingSteadiness.{IsLeftWhole, IsSteady, StaysSteady}
use Rattle.crash_laws.proofs.LeftWhole.{held_unmoved, left_between, not_blank, stays_steady}
use Rattle.ingest_engine.specs.Formats.{FormatEnds, volume_cell}
use Rattle.command_laws.specs.Begins.{BeginsSteady}
use Rattle.command_laws.specs.Telling.{IsFormatted, LeavesHeld}

-- a device that nothing was done with stays steady
module _ (old new : DeviceState) (device : IsDevice old) (steady : IsSteady old) where
  pub unused_steady : new ≡ old → StaysSteady old new
  unused_steady same = subst (StaysSteady old) (sym same)
      (record { crashes = λ since image le left. inl left; steady = steady })

  -- calls that leave nothing but what is whole
  calls_steady : Called old new → ((image : Image) → Between old.sure new.image image → IsLeftWhole old image)
      → StaysSteady old new
  calls_steady called whole = stays_steady old new device steady called.cells
      (λ since image le left. ⊎_elim inl (λ (b : Between old.sure new.image image). inr (whole image b))
      ((elapses_of called).adds since image le left))

  -- calls that write nothing
  pub quiet_steady : Called old new → new.image ≡ old.image → StaysSteady old new
  quiet_steady called same = calls_steady called (λ image b.
      left_between old device steady image (subst (λ (i : Image). Between old.sure i image) same b))

-- Formatting, with a layout that may be.
module _ (g : Layout) (old new : DeviceState) (is : IsLayout g) (size : g.cells ≡ old.cells) (device : IsDevice old)
    (steady : IsSteady old) (called : Called old new) (only : ChangesOnly 0 (volume_cell g) old.image new.image) where
  -- where a cell is written already, nothing is
  same_where : (value : List ℕ) → old.image 0 ≡ Some value → new.image ≡ old.image
  same_where value stands = same_image (λ cell. ⊎_elim (λ same. same)
      (λ (w : (cell ≡ 0) × (old.image cell ≡ None) × (new.image cell ≡ Some (volume_cell g))).
      absurd (none-some value (sym w.1 ∙ ap old.image w.0 ∙ stands)))
      (only cell))

  module _ (blank : (cell : ℕ) → old.image cell ≡ None) (image : Image) (b : Between old.sure new.image image) where
    -- nothing is sure
    none_sure : (cell : ℕ) (value : List ℕ) → old.sure cell ≡ Some value → ⊥
    none_sure cell value sure = none-some value (sym (blank cell) ∙ device.sure.keeps cell value sure)

    -- and nothing stands but the volume cell
    alone : (cell : ℕ) (value : List ℕ) → image cell ≡ Some value → (cell ≡ 0) × (value ≡ volume_cell g)
    alone cell value stands = ⊎_elim
        (λ (same : new.image cell ≡ old.image cell).
        absurd (none-some value (sym (same ∙ blank cell) ∙ b.below.keeps cell value stands)))
        (λ (w : (cell ≡ 0) × (old.image cell ≡ None) × (new.image cell ≡ Some (volume_cell g))).
        (w.0, value_is value (volume_cell g) (sym (b.below.keeps cell value stands) ∙ w.2)))
        (only cell)
      where
        value_is : (x y : List ℕ) → Some x ≡ Some y → x ≡ y
        value_is x y e = cc

    -- no documents were held
    held_none : (documents : List Document) → Held old.cells old.sure documents → documents ≡ []
    held_none documents (none free is) = is
    held_none documents (of_after after a are) = absurd (not_blank a (⊎_elim (λ free. free)
        (λ (w : (v : List ℕ) × (old.sure 0 ≡ Some v)). absurd (none_sure 0 w.0 w.1)) (look old.sure 0)))

    where_blank : image 0 ≡ None → IsLeftWhole old image
    where_blank first = record {
      sound = inl all;
      holds = inl (λ documents held. none all (held_none documents held));
    }
      where
        all : (cell : ℕ) → image cell ≡ None
        all cell = ⊎_elim (λ free. free)
            (λ (w : (v : List ℕ) × (image cell ≡ Some v)). absurd (
            let here = alone cell w.0 w.1 in
            none-some w.0 (sym first ∙ ap image (sym here.0) ∙ w.1)))
            (look image cell)

    -- with the volume cell it is a settled volume without documents
    made : (value : List ℕ) → image 0 ≡ Some value → Settled old.cells image × AreDocuments old.cells image []
    made value stands = formatted is volume (λ cell some. ⊎_elim (λ free. free)
        (λ (w : (v : List ℕ) × (image cell ≡ Some v)).
        absurd (let here = alone cell w.0 w.1 in omega (arith, some, here.0)))
        (look image cell))
      where
        volume : IsVolume old.cells image g
        volume = record {
          volume = record {
            cell = value;
            stands = stands;
            is = record {
              fits = (
                omega arith,
                omega (arith, is.slots),
                omega (arith, is.lists),
                omega (arith, is.cells),
              );
              well_formed = (is, refl);
              same = (alone 0 value stands).1;
            };
          };
          size = size;
        }

    where_written : (value : List ℕ) → image 0 ≡ Some value → IsLeftWhole old image
    where_written value stands = record {
      sound = inr (record { after = image; is = unchanged; settled = (made value stands).0 });
      holds = inl (λ documents held. of_after image unchanged
          (subst (AreDocuments old.cells image) (sym (held_none documents held)) (made value stands).1));
    }
      where
        unchanged : After old.cells image image
        unchanged = nothing (made value stands).0 (λ cell. refl)

    by_first : IsLeftWhole old image
    by_first = ⊎_elim where_blank (λ (w : (v : List ℕ) × (image 0 ≡ Some v)). where_written w.0 w.1) (look image 0)

  pub formatting_steady : StaysSteady old new
  formatting_steady = ⊎_elim
      (λ (blank : (cell : ℕ) → old.image cell ≡ None). calls_steady old new device steady called (by_first blank))
      (λ (sound : Sound old.cells old.image). ⊎_elim
      (λ (none_there : old.image 0 ≡ None). absurd (not_blank sound.is none_there))
      (λ (w : (v : List ℕ) × (old.image 0 ≡ Some v)).
      quiet_steady old new device steady called (same_where w.0 w.1))
      (look old.image 0))
      (steady.each old.image (record { above = device.sure; below = extends_self old.image }))

  -- what is sure stands behind it
  sure_below : Extends old.sure new.image
  sure_below = extends_then device.sure called.image

  -- where cell 0 is blank, each cell is
  blank_all : old.image 0 ≡ None → (cell : ℕ) → old.image cell ≡ None
  blank_all none_there = ⊎_elim (λ (blank : (cell : ℕ) → old.image cell ≡ None). blank)
      (λ (sound : Sound old.cells old.image). absurd (not_blank sound.is none_there))
      (steady.each old.image (record { above = device.sure; below = extends_self old.image }))

  -- once it is done, what stands behind it is a settled volume without documents
  pub formatting_made : old.image 0 ≡ None → (value : List ℕ) → new.image 0 ≡ Some value → IsFormatted new
  formatting_made none_there value stands =
      let whole = made (blank_all none_there) new.image
      (record { above = sure_below; below = extends_self new.image }) value stands in
      record {
        settled = subst (λ (k : ℕ). Settled k new.image) (sym called.cells) whole.0;
        none = subst (λ (k : ℕ). AreDocuments k new.image []) (sym called.cells) whole.1;
      }

  -- what stands behind it holds the documents that stood: none where no cell was written
  pub formatting_keeps : (documents : List Document) → Held old.cells old.image documents
      → Held old.cells new.image documents
  formatting_keeps documents held = ⊎_elim
      (λ (none_there : old.image 0 ≡ None).
      let blank = blank_all none_there in
      let none_held : documents ≡ [] = holds_none blank documents held in
      ⊎_elim
      (λ (kept : (l : List Document) → Held old.cells old.sure l → Held old.cells new.image l).
      kept documents (none (λ cell. sure_blank blank cell) none_held))
      (λ (kept : (l : List Document) → Held old.cells old.image l → Held old.cells new.image l). kept documents held)
      (by_first blank new.image (record { above = sure_below; below = extends_self new.image })).holds)
      (λ (w : (v : List ℕ) × (old.image 0 ≡ Some v)).
      subst (λ (i : Image). Held old.cells i documents) (sym (same_where w.0 w.1)) held)
      (look old.image 0)
    where
      holds_none : ((cell : ℕ) → old.image cell ≡ None) → (l : List Document) → Held old.cells old.image l → l ≡ []
      holds_none blank l (none free is) = is
      holds_none blank l (of_after after a are) = absurd (not_blank a (blank 0))

      sure_blank : ((cell : ℕ) → old.image cell ≡ None) → (cell : ℕ) → old.sure cell ≡ None
      sure_blank blank cell = ⊎_elim (λ free. free)
          (λ (w : (v : List ℕ) × (old.sure cell ≡ Some v)).
          absurd (none-some w.0 (sym (blank cell) ∙ device.sure.keeps cell w.0 w.1)))
          (look old.sure cell)

-- formatting, with any layout
module _ (g : Layout) (old new : DeviceState) (size : g.cells ≡ old.cells) (device : IsDevice old)
    (begins : BeginsSteady old new) where
  -- the layout may be, or nothing was done
  layout_or_unused : (result : Result Unit Refusal) → FormatEnds g old new result → IsLayout g ⊎ (new ≡ old)
  layout_or_unused (Ok u) ends = inl ends.0
  layout_or_unused (Err refusals.TooSmall) ends = inr ends.1
  layout_or_unused (Err refusals.DeviceFault) ends = inl ends.0
  layout_or_unused (Err (refusals.NotBlank at)) ends = inl ends.0
  layout_or_unused (Err refusal) ends = absurd ends

  module _ (called : Called old new)
      (only : IsStill old.foreign_writes new.foreign_writes → ChangesOnly 0 (volume_cell g) old.image new.image) where
    pub format_leaves : (result : Result Unit Refusal) → FormatEnds g old new result → LeavesHeld old new
    format_leaves result ends = record {
      stays = ⊎_elim
          (λ (is : IsLayout g). formatting_steady g old new is size device begins.steady called (only begins.alone))
          (λ same. unused_steady old new device begins.steady same)
          (layout_or_unused result ends);
      keeps = λ documents held. ⊎_elim
          (λ (is : IsLayout g). subst (λ (k : ℕ). Held k new.image documents) (sym called.cells)
          (formatting_keeps g old new is size device begins.steady called (only begins.alone) documents held))
          (λ same. held_unmoved same documents held)
          (layout_or_unused result ends);
    }

    -- a format that is done has found each cell blank
    pub format_makes : IsDevice new → FormatEnds g old new (Ok tt) → IsFormatted new
    format_makes device_new ends = formatting_made g old new ends.0 size device begins.steady called
        (only begins.alone)
        ((ends.2 begins.tells).blank 0 (omega (arith, ends.0.pool, size)))
        (volume_cell g) (device_new.sure.keeps 0 (volume_cell g) (ends.1 begins.tells))
