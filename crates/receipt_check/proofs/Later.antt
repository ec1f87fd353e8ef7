-- What a look-up found, and has been looked at since.
use Rattle.std.proofs.Common.{◌≡◌, ◌≤◌, ℕ, List, Result, Ok, Err, ap, sym, subst}
use Rattle.cell_types.specs.Image.{Image}
use Rattle.cell_types.specs.declared.refusal.Refusal.{Refusal}
use Rattle.volume_meaning.specs.Documents.{Document, Stands}
use Rattle.volume_meaning.specs.Volumes.{IsVolume}
use Rattle.volume_meaning.proofs.Extending.{holds_on, stands_on, volume_on}
use Rattle.volume_meaning.specs.Keeping.{Kept}
use Rattle.volume_meaning.proofs.HashTrails.{passed_to_on}
use Rattle.tamper_rules.proofs.Images.{same_image}
use Rattle.worm_device.specs.Counts.{IsStill}
use Rattle.worm_device.specs.State.{DeviceState}
use Rattle.worm_device.specs.Views.{Viewed, seen_directly}
use Rattle.worm_device.proofs.Counting.{still_first, still_second}
use Rattle.worm_device.proofs.Elapsing.{called_then}
use Rattle.worm_device.proofs.Images.{unchanged_then}
use Rattle.worm_device.proofs.Resting.{rests_of}
use Rattle.recovery_engine.specs.Settling.{HasSettled, SettlesFirst, settled, settling}
use Rattle.recovery_engine.specs.declared.settling.Ready.{Ready}
use Rattle.identifier_lookup.specs.Walks.{IsFirstOnPath}
use Rattle.record_query.specs.LookingUp.{IsFirstOfPath, IsLookedUp}

-- a call that ended with this refusal, as one that answers something else
pub comes_to : {X Y : Type 0} {old new : DeviceState} (refusal : Refusal) → SettlesFirst X old new (Err refusal)
    → SettlesFirst Y old new (Err refusal)
comes_to refusal (settling other is settles) =
    let same : refusal ≡ other = cc in settling other (ap (λ (r : Refusal). Err r) same) settles
comes_to refusal (settled r has) = settled r has

module _ {mid new : DeviceState} (viewed : Viewed (seen_directly mid 0) (seen_directly new 0)) where
  -- where nobody else wrote, the image is the same
  pub same_image_since : IsStill mid.foreign_writes new.foreign_writes → new.image ≡ mid.image
  same_image_since still = same_image ((rests_of viewed).shown still)

  has_settled : {old : DeviceState} {r : Ready} → HasSettled old mid r → HasSettled old new r
  has_settled has = record {
    settled = has.settled;
    settles = has.settles;
    looked = called_then has.looked viewed.called;
    quiet = λ still. unchanged_then
        (has.quiet (still_first has.looked.foreign_writes viewed.called.foreign_writes still))
        ((rests_of viewed).shown (still_second has.looked.foreign_writes viewed.called.foreign_writes still));
  }

  -- the volume was settled first, whatever is answered
  pub comes_later : {X Y : Type 0} {old : DeviceState} {found : X} {result : Result Y Refusal}
      → SettlesFirst X old mid (Ok found) → SettlesFirst Y old new result
  comes_later (settling other is settles) = absurd (cc is)
  comes_later (settled r has) = settled r (has_settled has)

  first_later : {id body : List ℕ} {n : ℕ} → IsFirstOfPath id body n mid → IsFirstOfPath id body n new
  first_later {id} {body} {n} f = record {
    layout = f.layout;
    volume = subst (λ (c : ℕ). IsVolume c new.image f.layout) (sym viewed.called.cells)
        (volume_on viewed.called.image f.volume);
    stands = subst (λ (c : ℕ). Stands c new.image n id body) (sym viewed.called.cells)
        (stands_on viewed.called.image f.stands);
    first = subst (λ (c : ℕ). IsFirstOnPath f.layout c new.image id n) (sym viewed.called.cells) (record {
      node = f.first.node;
      level = f.first.level;
      passed = passed_to_on viewed.called.image f.first.passed;
      bucket = holds_on viewed.called.image f.first.bucket;
    });
  }

  -- kept documents, where nobody else wrote, were so before
  pub kept_before : (documents : List Document) → IsStill mid.foreign_writes new.foreign_writes
      → Kept new.cells new.image documents → Kept mid.cells mid.image documents
  kept_before documents still kept =
      subst (λ (i : Image). Kept mid.cells i documents) (same_image_since still)
      (subst (λ (c : ℕ). Kept c new.image documents) viewed.called.cells kept)

  -- the document is still the one that was looked up
  pub looked_up_later : {id body : List ℕ} {n : ℕ} {old : DeviceState} → (old.foreign_writes ≤ mid.foreign_writes)
      → IsLookedUp id body n old mid → IsLookedUp id body n old new
  looked_up_later before looked = record {
    first = first_later looked.first;
    before = looked.before;
    alone = λ still documents kept. looked.alone (still_first before viewed.called.foreign_writes still) documents
        (kept_before documents (still_second before viewed.called.foreign_writes still) kept);
  }
