-- What was read of a slot, and why it was not.
use Rattle.std.proofs.Common.{◌≡◌, ◌∙◌, ℕ, List, None, Result, Ok, Err, inr, sym, ap, subst, arith}
use Rattle.std.specs.Prelude.{IsTrue}
use Rattle.cell_types.specs.Image.{Image}
use Rattle.cell_types.specs.Layout.{Layout, TakesStamps, outcome_at}
use Rattle.cell_types.specs.Refusals.{refusal_of_fault}
use Rattle.cell_types.specs.declared.refusal.Evidence.{Evidence}
use Rattle.cell_types.specs.declared.refusal.Fault.{Fault}
use Rattle.cell_types.specs.declared.refusal.Fault.TheVariants as faults
use Rattle.cell_types.specs.declared.refusal.Refusal.{Refusal}
use Rattle.cell_types.specs.declared.refusal.Refusal.TheVariants.{DeviceFault, NoMemory, Tampered}
use Rattle.volume_meaning.specs.Documents.{stored_bytes, Spells, document_at}
use Rattle.volume_meaning.specs.Slots.{IsDone, IsDoneSlot, IsStampOf, Stores}
use Rattle.volume_meaning.specs.Volumes.{IsVolume}
use Rattle.volume_meaning.proofs.Extending.{holds_on, volume_on}
use Rattle.tamper_rules.specs.Rules.{Documents, HasDocument, IsBroken}
use Rattle.tamper_rules.specs.declared.numbers.TheConstants.{BROKEN_DOCUMENT}
use Rattle.tamper_rules.proofs.Images.{same_image}
use Rattle.worm_device.specs.State.{DeviceState}
use Rattle.worm_device.specs.Views.{ViewState, Viewed, seen_directly}
use Rattle.worm_device.proofs.Resting.{rests_of}
use Rattle.commit_record.specs.Licences.{IsLicensed}
use Rattle.commit_record.specs.Stamps.{IsStampOrNone}
use Rattle.document_store.specs.Looks.{LookFails, NamesDocument, commit_breach, of_document, of_state}
use Rattle.document_store.specs.declared.part.Part.{Part}
use Rattle.document_store.specs.Standing.{HoldsDocument}
use Rattle.document_store.proofs.Holding.{held_on}
use Rattle.document_store.proofs.Naming.{names_from, told}
use Rattle.volume_copy.specs.Reading.{CopyReadEnds, HoldsCopy, IsOnlyRead, ReadingFails, ReadsStored, SlotFails, StoredEnds}
use Rattle.volume_copy.specs.declared.stored.StoredCopy.{StoredCopy}

module _ (g : Layout) (n : ℕ) where
  -- a look that gave no answer
  pub look_fails : (old new : ViewState) (fault : Fault) → LookFails g n old new fault
      → SlotFails g n old new (refusal_of_fault fault)
  look_fails old new faults.Failed fails = fails
  look_fails old new (faults.Tampered e) fails = λ tells. (fails.0, fails.2 tells)

  -- from an earlier state on
  pub fails_later : {old mid new : ViewState} → Viewed old mid → Viewed mid new → (refusal : Refusal)
      → SlotFails g n mid new refusal → SlotFails g n old new refusal
  fails_later before after NoMemory fails = tt
  fails_later before after DeviceFault fails = omega (arith, before.called.faults, fails)
  fails_later before after (Tampered e) fails = λ tells.
      let named = fails (told before tells) in (named.0, names_from g before after n named.1)
  fails_later before after refusal fails = absurd fails

  -- a done slot of a volume of stamped documents has a stamp
  pub has_stamp : {old new : ViewState} → Viewed old new → TakesStamps g
      → (IsTrue old.base.tells → IsDoneSlot g old.image n) → (IsTrue old.base.tells → IsStampOrNone new.image n None)
      → IsTrue old.base.tells → ⊥
  has_stamp v stamped done none tells =
      let is = (done tells).done.commits.stamped stamped in
      none tells is.seconds (holds_on v.image is.stamp)

  -- over a view that tells, the commit cell is not named for want of a stamp
  pub never_named : (old new : ViewState) (part : Part) → (IsTrue old.base.tells → ⊥)
      → SlotFails g n old new (refusal_of_fault (commit_breach part))
  never_named old new part never = λ tells. absurd (never tells)

  -- what was read one after another is one document
  pub reads_copy : {s t u : ViewState} → Viewed s t → Viewed t u → (copy : StoredCopy) (own : List ℕ)
      → copy.identifier ≡ own → (IsTrue t.base.tells → HoldsDocument g t.image n own copy.body.held)
      → (IsTrue t.base.tells → IsStampOf g u.image n copy.stamp) → IsTrue s.base.tells → HoldsCopy g u.image n copy
  reads_copy {s} {t} {u} first second copy own is holds stamp tells = record {
    holds = subst (λ (i : List ℕ). HoldsDocument g u.image n i copy.body.held) (sym is)
        (held_on second.image (holds (told first tells)));
    stamped = stamp (told first tells);
  }

  -- a done slot that holds no document breaks the rule of documents at its commit cell
  broken : {cells : ℕ} {image : Image} {rule cell : ℕ} → IsVolume cells image g → rule ≡ BROKEN_DOCUMENT
      → cell ≡ outcome_at n → (d : IsDoneSlot g image n)
      → ((id body : List ℕ) → HoldsDocument g image n id body → ⊥) → IsBroken cells image rule cell
  broken {cells} {image} {rule} {cell} volume named at d never =
      let stores : Stores g image n d.start d.length d.bytes d.journal =
      record { commits = d.done.commits; done = inr d.done.done } in
      record {
        layout = g;
        volume = volume;
        rule = Documents;
        named = named;
        place = (n, d.done.commits.reserves.slot, at);
        written = record {
          found = d.done.commits.outcome.cell;
          stands = ap image at ∙ d.done.commits.outcome.stands;
        };
        not_met = λ met.
            let h : HasDocument image (document_at d.start d.length d.bytes d.journal) d.bytes =
            met n d.done.commits.reserves.slot at _ _ _ _ stores in
            never h.id h.body (record {
              start = d.start;
              reserved = d.length;
              journal = d.journal;
              done = subst (λ (k : ℕ). IsDone g image n d.start d.length k d.journal) h.count d.done;
              spells = subst
                  (λ (k : ℕ). Spells image (document_at d.start d.length k d.journal) (stored_bytes h.id h.body))
                  h.count h.spells;
              is_identifier = h.is_identifier;
              is_body = h.is_body;
            });
      }

  -- over a device, by whatever loan
  module _ (s t : DeviceState) (a b : ℕ) (viewed : Viewed (seen_directly s a) (seen_directly t b)) where
    pub only_read : IsOnlyRead s t
    only_read = record { called = viewed.called; only = λ still. (rests_of viewed).below still }

    licensed : {e : Evidence} → (IsTrue s.tells → IsVolume s.cells s.image g) → IsTrue s.tells
        → Rattle.tamper_rules.specs.Rules.IsPlaceOf g e.rule e.cell × NamesDocument g n (seen_directly s a) (seen_directly t b) e
        → IsLicensed s t e
    licensed {e} volume tells named = by_name named.1
      where
        here : IsVolume t.cells t.image g
        here = subst (λ (k : ℕ). IsVolume k t.image g) (sym viewed.called.cells)
            (volume_on viewed.called.image (volume tells))

        by_name : NamesDocument g n (seen_directly s a) (seen_directly t b) e → IsLicensed s t e
        by_name (of_state out) = record {
          stands = out.shown.stands;
          layout = g;
          volume = here;
          place = named.0;
          broken = λ still. out.shown.broken still here;
        }
        by_name (of_document d) = record {
          stands = d.found;
          layout = g;
          volume = here;
          place = named.0;
          broken = λ still. broken here d.rule d.cell d.done (λ id body h. d.none id body
              (subst (λ (i : Image). HoldsDocument g i n id body) (same_image ((rests_of viewed).below still)) h));
        }

    pub reading_fails : (refusal : Refusal) → SlotFails g n (seen_directly s a) (seen_directly t b) refusal
        → (IsTrue s.tells → IsVolume s.cells s.image g) → ReadingFails s t refusal
    reading_fails NoMemory fails volume = tt
    reading_fails DeviceFault fails volume = fails
    reading_fails (Tampered e) fails volume = λ tells. licensed volume tells (fails tells)
    reading_fails refusal fails volume = absurd fails

    stored_ends : (result : Result StoredCopy Refusal)
        → CopyReadEnds g n (seen_directly s a) (seen_directly t b) result → StoredEnds g n s t result
    stored_ends (Ok copy) ends = ends
    stored_ends (Err refusal) ends = reading_fails refusal ends

    pub reads_stored : (result : Result StoredCopy Refusal)
        → CopyReadEnds g n (seen_directly s a) (seen_directly t b) result → ReadsStored g n s t result
    reads_stored result ends = record { read = only_read; ends = stored_ends result ends }
