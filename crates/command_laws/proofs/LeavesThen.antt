-- One row of calls that add no document after another.
use Rattle.std.proofs.Common.{ℕ, List, sym, inl, inr, ⊎_elim, subst, arith}
use Rattle.cell_types.specs.Image.{Image}
use Rattle.volume_meaning.specs.Documents.{Document}
use Rattle.tamper_rules.specs.Settling.{Held, IsBlankOrSound}
use Rattle.worm_device.specs.Calls.{Called}
use Rattle.worm_device.specs.State.{DeviceState, IsDevice, LeftSince}
use Rattle.worm_device.proofs.Elapsing.{elapses_of}
use Rattle.worm_device.proofs.Images.{extends_self}
use Rattle.crash_laws.specs.SettlingSteadiness.{HoldsOneOf, IsLeftWhole, IsSteady}
use Rattle.crash_laws.proofs.LeftWhole.{whole_from}
use Rattle.command_laws.specs.Telling.{LeavesHeld}

module _ {a b : DeviceState} (device : IsDevice a) (called : Called a b) (steady : IsSteady a) (device_b : IsDevice b)
    (first : LeavesHeld a b) where
  -- what is sure between the two holds the documents of one of two that stood before the first
  sure_between : HoldsOneOf a.cells a.sure a.image b.sure
  sure_between = (whole_from a b b.sure device steady first.stays.crashes
      (inl (record { above = extends_self b.sure; below = device_b.sure }))).holds

  on_first : {image : Image} {documents : List Document} → Held b.cells image documents → Held a.cells image documents
  on_first {image} {documents} held = subst (λ (k : ℕ). Held k image documents) called.cells held

  on_second : {image : Image} {documents : List Document} → Held a.cells image documents → Held b.cells image documents
  on_second {image} {documents} held = subst (λ (k : ℕ). Held k image documents) (sym called.cells) held

  by_sure : (image : Image) → ((l : List Document) → Held b.cells b.sure l → Held b.cells image l)
      → HoldsOneOf a.cells a.sure a.image image
  by_sure image kept = ⊎_elim
      (λ (low : (l : List Document) → Held a.cells a.sure l → Held a.cells b.sure l).
      inl (λ documents held. on_first (kept documents (on_second (low documents held)))))
      (λ (high : (l : List Document) → Held a.cells a.image l → Held a.cells b.sure l).
      inr (λ documents held. on_first (kept documents (on_second (high documents held)))))
      sure_between

  left_second : (image : Image) → IsLeftWhole b image → IsLeftWhole a image
  left_second image left = record {
    sound = subst (λ (k : ℕ). IsBlankOrSound k image) called.cells left.sound;
    holds = ⊎_elim
        (λ (kept : (l : List Document) → Held b.cells b.sure l → Held b.cells image l). by_sure image kept)
        (λ (kept : (l : List Document) → Held b.cells b.image l → Held b.cells image l).
        inr (λ documents held. on_first (kept documents (first.keeps documents held))))
        left.holds;
  }

  pub leaves_then : {c : DeviceState} → LeavesHeld b c → LeavesHeld a c
  leaves_then second = record {
    stays = record {
      crashes = λ since image le left. ⊎_elim
          (λ (before : LeftSince b since image). first.stays.crashes since image le before)
          (λ (whole : IsLeftWhole b image). inr (left_second image whole))
          (second.stays.crashes since image (omega (arith, le, (elapses_of called).later)) left);
      steady = second.stays.steady;
    };
    keeps = λ documents held. second.keeps documents (first.keeps documents held);
  }
