-- Whether a bucket is passed, over plain values.
use Rattle.std.proofs.Common.{◌≡◌, ◌≢◌, ◌≤◌, ⊎_elim, inl, inr, ℕ, List, Bool, true, false, None, Result, Ok, Err, refl, ap, sym, subst, arith, ◌∙◌}
use Rattle.std.proofs.lemmas.Option.{none-some}
use Rattle.std.specs.Prelude.{◌↔◌, IsTrue}
use Rattle.sha2.specs.Sha256.{sha256}
use Rattle.cell_types.specs.Image.{Image, Extends}
use Rattle.cell_types.specs.Layout.{Layout, outcome_at, reserve_at}
use Rattle.cell_types.specs.declared.record_cell.RecordCell.TheVariants as records
use Rattle.cell_types.specs.declared.refusal.Evidence.{Evidence}
use Rattle.cell_types.specs.declared.refusal.Fault.{Fault}
use Rattle.cell_types.specs.declared.refusal.Fault.TheVariants as faults
use Rattle.volume_meaning.specs.Documents.{Stands}
use Rattle.volume_meaning.specs.Slots.{IsDoneSlot}
use Rattle.volume_meaning.specs.Volumes.{IsVolume}
use Rattle.volume_meaning.proofs.Extending.{commits_on, holds_on, reserves_on, stands_on, volume_on}
use Rattle.volume_meaning.proofs.Holding.{one_record_holds}
use Rattle.volume_meaning.proofs.OneDocument.{one_document}
use Rattle.volume_meaning.specs.HashPaths.{fingerprint_of}
use Rattle.worm_device.specs.Views.{ViewState, Viewed}
use Rattle.worm_device.specs.declared.device.Failed.{Failed}
use Rattle.worm_device.proofs.Resting.{viewed_self}
use Rattle.commit_record.specs.States.{IsNoState, done_abandoned, done_unended, done_unreserved, done_wrongly, ends_unreserved, ends_unstamped, ends_wrongly, reserves_none}
use Rattle.commit_record.proofs.Breaking.{no_both}
use Rattle.document_store.specs.Looks.{LookFails, NamesDocument, PartEnds, SameEnds, of_document, of_state}
use Rattle.document_store.specs.Standing.{HoldsDocument}
use Rattle.document_store.proofs.Holding.{held_is_done, held_stands, stands_held}
use Rattle.kept_documents.specs.HashTrails.{AsksPassed, IsOtherBucket}
use Rattle.kept_documents.specs.Trails.{IsRefuted}
use Rattle.volume_meaning.specs.declared.held_bucket.HeldBucket.{HeldBucket}

no_yes : false ≡ true → ⊥
no_yes e = cc

reserves : (a b c d : ℕ) → records.Reserve a b ≡ records.Reserve c d → b ≡ d
reserves a b c d e = cc

-- a slot whose cells were seen to be no state was not done
pub no_state_done : {g : Layout} {old new : Image} {n rule cell : ℕ} → Extends old new
    → IsNoState g old new n rule cell → IsDoneSlot g old n → ⊥
no_state_done e (reserves_none r c never) d = never d.start d.length (reserves_on e d.done.commits.reserves)
no_state_done e (ends_unreserved r c blank) d =
    none-some _ (sym blank ∙ d.done.commits.reserves.reserve.stands)
no_state_done {g} {old} {new} {n} e (ends_wrongly s l r c is never none) d =
    let now = commits_on e d.done.commits in
    let same : l ≡ d.length = reserves s l d.start d.length
    (one_record_holds new (reserve_at n) (records.Reserve s l) (records.Reserve d.start d.length) is.reserve
    now.reserves.reserve) in
    none d.bytes d.journal (record {
      reserves = is;
      outcome = now.outcome;
      fits = omega (arith, now.fits, same);
      stamped = now.stamped;
    })
no_state_done e (ends_unstamped s l b j r c is commit fits stamped lacks) d =
    let has = d.done.commits.stamped stamped in
    ⊎_elim (λ blank. none-some _ (sym blank ∙ has.stamp.stands)) (λ none. none has.seconds (holds_on e has.stamp)) lacks
no_state_done e (done_unreserved r c blank none) d =
    none-some _ (sym blank ∙ d.done.commits.reserves.reserve.stands)
no_state_done e (done_unended s l r c is blank) d = none-some _ (sym blank ∙ d.done.commits.outcome.stands)
no_state_done {g} {old} {new} {n} e (done_abandoned s l r c is) d =
    no_both new (outcome_at n) d.bytes d.journal is.outcome (holds_on e d.done.commits.outcome)
no_state_done e (done_wrongly s l b j r c is never) d = never (holds_on e d.done.done)

-- cell 0 states the volume later too
pub volume_later : {g : Layout} {old new : ViewState} → Viewed old new → IsVolume old.cells old.image g
    → IsVolume new.cells new.image g
volume_later {g} {old} {new} viewed volume =
    subst (λ (n : ℕ). IsVolume n new.image g) (sym viewed.cells) (volume_on viewed.image volume)

-- a document that stands does so later too
pub stands_later : {old new : ViewState} {n : ℕ} {id body : List ℕ} → Viewed old new
    → Stands old.cells old.image n id body → Stands new.cells new.image n id body
stands_later {old} {new} {n} {id} {body} viewed stands =
    subst (λ (c : ℕ). Stands c new.image n id body) (sym viewed.cells) (stands_on viewed.image stands)

-- of a slot that holds a document no look names evidence
pub names_none : {g : Layout} {n : ℕ} {old new : ViewState} {e : Evidence} {id body : List ℕ} → Viewed old new
    → NamesDocument g n old new e → HoldsDocument g old.image n id body → ⊥
names_none viewed (of_state out) h = no_state_done viewed.image out.seen (held_is_done h)
names_none {id = id} {body = body} viewed (of_document b) h = b.none id body h

module _ (g : Layout) (id digest : List ℕ) (b : HeldBucket) (old : ViewState) (is : digest ≡ sha256 id) where
  fingerprint_is : fingerprint_of digest ≡ fingerprint_of (sha256 id)
  fingerprint_is = ap fingerprint_of is

  -- another fingerprint
  pub by_fingerprint : (IsTrue false ↔ (b.fingerprint ≡ fingerprint_of digest)) → AsksPassed g id b old old (Ok true)
  by_fingerprint says = record {
    viewed = viewed_self old;
    ends = λ tells volume. inl (λ same. no_yes (says.1 (same ∙ sym fingerprint_is)));
  }

  module _ (says : IsTrue true ↔ (b.fingerprint ≡ fingerprint_of digest)) where
    same_fingerprint : b.fingerprint ≡ fingerprint_of (sha256 id)
    same_fingerprint = says.0 refl ∙ fingerprint_is

    -- a bucket with this fingerprint is passed by its slot's document alone
    other_document : IsOtherBucket g old id b
        → (own : List ℕ) × (body : List ℕ) × Stands old.cells old.image b.slot own body × (own ≢ id)
    other_document other = ⊎_elim (λ differ. absurd (differ same_fingerprint)) (λ h. h) other

    -- there is no such slot
    pub no_such_slot : g.slots ≤ b.slot → AsksPassed g id b old old (Ok false)
    no_such_slot late = record {
      viewed = viewed_self old;
      ends = λ tells volume other.
          let h = other_document other in
          let held = stands_held g old.cells old.image b.slot h.0 h.1 volume h.2 in
          omega (arith, late, held.done.commits.reserves.slot);
    }

    module _ (new : ViewState) (looked : Viewed old new) where
      -- its cells are no state, or its document is broken
      pub look_refutes : (fault : Fault) (result : Result Bool Failed) → LookFails g b.slot old new fault
          → IsRefuted fault result → AsksPassed g id b old new result
      look_refutes faults.Failed (Ok answer) fails says = absurd says
      look_refutes faults.Failed (Err failed) fails says = record { viewed = looked; ends = fails }
      look_refutes (faults.Tampered e) (Err failed) fails says = absurd says
      look_refutes (faults.Tampered e) (Ok true) fails says = absurd (no_yes (sym says))
      look_refutes (faults.Tampered e) (Ok false) fails says = record {
        viewed = looked;
        ends = λ tells volume other.
            let h = other_document other in
            names_none looked (fails.2 tells) (stands_held g old.cells old.image b.slot h.0 h.1 volume h.2);
      }

      -- it is not done
      pub not_done : PartEnds g b.slot old new (Ok None) → AsksPassed g id b old new (Ok false)
      not_done ends = record {
        viewed = looked;
        ends = λ tells volume other.
            let h = other_document other in
            (ends.1 tells).undone
            (held_is_done (stands_held g old.cells old.image b.slot h.0 h.1 volume h.2));
      }

      -- its document has the identifier
      pub same_yes : SameEnds g b.slot id old new (Ok true) → AsksPassed g id b old new (Ok false)
      same_yes ends = record {
        viewed = looked;
        ends = λ tells volume other.
            let h = other_document other in
            let found = ends.1 tells in
            let own = held_stands g new.cells new.image b.slot found.own found.holds.body (volume_later looked volume)
            found.holds.holds in
            let one = one_document new.cells new.image b.slot h.0 h.1 found.own found.holds.body
            (stands_later looked h.2) own in
            h.3 (one.0 ∙ found.says.0 refl);
      }

      -- it has another one
      pub same_no : SameEnds g b.slot id old new (Ok false) → AsksPassed g id b old new (Ok true)
      same_no ends = record {
        viewed = looked;
        ends = λ tells volume.
            let found = ends.1 tells in
            inr (
              found.own,
              found.holds.body,
              held_stands g new.cells new.image b.slot found.own found.holds.body (volume_later looked volume)
                  found.holds.holds,
              λ same. no_yes (found.says.1 same),
            );
      }
