-- The slot of a bucket that is passed, over plain values.
use Rattle.std.proofs.Common.{◌≡◌, ℕ, List, true, Result, Ok, Err, refl}
use Rattle.std.specs.Prelude.{◌↔◌, IsTrue}
use Rattle.cell_types.specs.Layout.{Layout}
use Rattle.volume_meaning.specs.HashPaths.{fingerprint_of}
use Rattle.worm_device.specs.Views.{ViewState}
use Rattle.kept_documents.specs.declared.fault.AskFault.{AskFault}
use Rattle.volume_meaning.specs.declared.held_bucket.HeldBucket.{HeldBucket}
use Rattle.receipt_cells.specs.Needed.{SlotRests}
use Rattle.receipt_cells.specs.Path.{IsOfMate, ListsMate, ListsSlot}
use Rattle.receipt_cells.proofs.Listing.{just_as}

module _ (g : Layout) (digest : List ℕ) (b : HeldBucket) (old : ViewState) (listed : List (ℕ × List ℕ)) where
  module _ (says : IsTrue true ↔ (b.fingerprint ≡ fingerprint_of digest)) where
    same : b.fingerprint ≡ fingerprint_of digest
    same = says.0 refl

    -- the slot is listed
    pub mate_listed : (new : ViewState) (later : List (ℕ × List ℕ)) (result : Result Unit AskFault)
        → ListsSlot g b.slot old new listed later result → ListsMate g digest b old new listed later result
    mate_listed new later (Ok u) lists = record {
      viewed = lists.viewed;
      ends = λ tells volume mate.
          let h = mate same in
          just_as (λ (c : ℕ) (k : SlotRests g new.image b.slot c). (same, k))
          (λ (c : ℕ) (k : IsOfMate g new digest b c). k.1)
          (lists.ends tells volume h.0 h.1 h.2);
    }
    mate_listed new later (Err why) lists = record { viewed = lists.viewed; ends = lists.ends }
