-- Whether a document is kept, part by part, over plain values.
use Rattle.std.proofs.Common.{◌≡◌, ◌≤◌, ℕ, List, true, false, Option, Some, None, Result, Ok, Err, sym, ap, subst, arith, ◌∙◌}
use Rattle.std.specs.Prelude.{IsTrue, length}
use Rattle.cell_types.specs.Layout.{Layout}
use Rattle.cell_types.specs.declared.geometry.Volume.{Volume}
use Rattle.cell_types.specs.declared.refusal.Fault.{Fault}
use Rattle.cell_types.specs.declared.refusal.Fault.TheVariants as faults
use Rattle.volume_meaning.specs.Volumes.{IsVolume}
use Rattle.volume_meaning.specs.Keeping.{IsKept}
use Rattle.volume_meaning.proofs.KeepingLaws.{is_kept_on}
use Rattle.worm_device.specs.Views.{ViewState, Viewed}
use Rattle.worm_device.proofs.Resting.{viewed_then}
use Rattle.jump_block.proofs.Counting as counts
use Rattle.document_store.specs.Looks.{HasPart, LookFails, PartEnds}
use Rattle.document_store.specs.Standing.{HoldsDocument}
use Rattle.document_store.proofs.Checking.{has_part_on}
use Rattle.document_store.proofs.Holding.{held_is_done, held_is_one, held_on, held_stands, stands_held}
use Rattle.kept_documents.proofs.PassedBuckets.{names_none, volume_later}
use Rattle.kept_documents.specs.Indexed.{AsksIndexed, IsLedTo}
use Rattle.kept_documents.specs.declared.fault.AskFault.{AskFault}
use Rattle.kept_documents.specs.declared.fault.AskFault.TheVariants.{NoMemory, ReadFault}
use Rattle.kept_documents.specs.Kept.{AsksDocumentIn, DocumentInAnswer, IsRefused, document_of}
use Rattle.kept_documents.specs.declared.kept.KeptDocument.{KeptDocument}

-- a document that is kept is so later too
pub kept_later : {g : Layout} {n : ℕ} {id body : List ℕ} {old new : ViewState} → Viewed old new
    → IsKept old.cells old.image g (document_of n id body) → IsKept new.cells new.image g (document_of n id body)
kept_later {g} {n} {id} {body} {old} {new} viewed kept =
    subst (λ (c : ℕ). IsKept c new.image g (document_of n id body)) (sym viewed.cells) (is_kept_on viewed.image kept)

module _ (v : Volume) (n : ℕ) (id : List ℕ) (old mid : ViewState) (looked : Viewed old mid) where
  abbrev g : Layout
  g = v.geometry

  -- what is kept at entry is held then
  held_then : (body : List ℕ) → IsVolume old.cells old.image g → IsKept old.cells old.image g (document_of n id body)
      → HoldsDocument g old.image n id body
  held_then body volume kept = stands_held g old.cells old.image n id body volume kept.stands

  told : IsTrue old.base.tells → IsTrue mid.base.tells
  told tells = subst IsTrue (sym looked.called.tells) tells

  -- there is no such slot
  pub no_such_slot : g.slots ≤ n → AsksDocumentIn v n id old mid (Ok None)
  no_such_slot late = record {
    viewed = looked;
    ends = λ tells volume body kept.
        let h = held_then body volume kept in
        omega (arith, late, h.done.commits.reserves.slot);
  }

  -- a look at the slot gives no answer
  pub look_fails : (fault : Fault) (result : Result (Option KeptDocument) AskFault) → LookFails g n old mid fault
      → IsRefused fault result → AsksDocumentIn v n id old mid result
  look_fails faults.Failed result fails is =
      subst (λ (r : Result (Option KeptDocument) AskFault). AsksDocumentIn v n id old mid r) (sym is)
      (record { viewed = looked; ends = fails })
  look_fails (faults.Tampered e) result fails is =
      subst (λ (r : Result (Option KeptDocument) AskFault). AsksDocumentIn v n id old mid r) (sym is)
      (record {
        viewed = looked;
        ends = λ tells volume body kept. names_none looked (fails.2 tells) (held_then body volume kept);
      })

  -- it is not done
  pub part_none : PartEnds g n old mid (Ok None) → AsksDocumentIn v n id old mid (Ok None)
  part_none ends = record {
    viewed = looked;
    ends = λ tells volume body kept. (ends.1 tells).undone (held_is_done (held_then body volume kept));
  }

  -- more was asked later, of the part that was found
  pub and_then : (m : ℕ) → m ≡ n → (new : ViewState) (result : Result (Option KeptDocument) AskFault)
      → AsksDocumentIn v m id mid new result → AsksDocumentIn v n id old new result
  and_then m same new result asked = record {
    viewed = viewed_then looked asked.viewed;
    ends = go result (subst (λ (k : ℕ). DocumentInAnswer v k id mid new result) same asked.ends);
  }
    where
      go : (result : Result (Option KeptDocument) AskFault) → DocumentInAnswer v n id mid new result
          → DocumentInAnswer v n id old new result
      go (Ok (Some d)) ends = record {
        volume_is = ends.volume_is;
        slot = ends.slot;
        part = ends.part;
        count = ends.count;
        kept = λ tells volume. ends.kept (told tells) (volume_later looked volume);
      }
      go (Ok None) ends = λ tells volume body kept.
          ends (told tells) (volume_later looked volume) body (kept_later looked kept)
      go (Err ReadFault) ends = counts.rose_later _ _ _ looked.called.faults ends
      go (Err (NoMemory lack)) ends = tt

  -- its document was taken, and has another identifier
  pub other_one : (own body : List ℕ) → (IsTrue mid.base.tells → HoldsDocument g mid.image n own body) → (own ≡ id → ⊥)
      → AsksDocumentIn v n id old mid (Ok None)
  other_one own body held other = record {
    viewed = looked;
    ends = λ tells volume one kept.
        let now = held_on looked.image (held_then one volume kept) in
        other (held_is_one g mid.image n own body id one (held (told tells)) now).0;
  }

  -- it has this one, and the index was asked
  module _ (body : List ℕ) (held : IsTrue mid.base.tells → HoldsDocument g mid.image n id body) (new : ViewState) where
    pub indexed_yes : (d : KeptDocument) → d.volume ≡ v → d.part.slot ≡ n → HasPart g mid d.part → d.body.held ≡ body
        → d.bytes ≡ length body → AsksIndexed g n id body mid new (Ok true)
        → AsksDocumentIn v n id old new (Ok (Some d))
    indexed_yes d volume_is slot part body_is count asked = record {
      viewed = viewed_then looked asked.viewed;
      ends = record {
        volume_is = volume_is;
        slot = slot;
        part = has_part_on g mid new d.part asked.viewed part;
        count = count ∙ ap length (sym body_is);
        kept = λ tells volume.
            let later = volume_later looked volume in
            let indexed = asked.ends (told tells) later in
            let stands = held_stands g new.cells new.image n id body (volume_later asked.viewed later)
            (held_on asked.viewed.image (held (told tells))) in
            let kept : IsKept new.cells new.image g (document_of n id body) = record {
              stands = stands;
              postings = indexed.postings;
              stamp = indexed.stamp;
              is_stamp = indexed.is_stamp;
              trails = indexed.trails;
              path = indexed.path;
            } in
            subst (λ (b : List ℕ). IsKept new.cells new.image g (document_of n id b)) (sym body_is) kept;
      };
    }

    pub indexed_no : AsksIndexed g n id body mid new (Ok false) → AsksDocumentIn v n id old new (Ok None)
    indexed_no asked = record {
      viewed = viewed_then looked asked.viewed;
      ends = λ tells volume other kept.
          let now = kept_later looked kept in
          let one = held_is_one g mid.image n id other id body
          (held_on looked.image (held_then other volume kept)) (held (told tells)) in
          let led : IsLedTo g mid n id other = record {
            postings = now.postings;
            stamp = now.stamp;
            is_stamp = now.is_stamp;
            trails = now.trails;
            path = now.path;
          } in
          asked.ends (told tells) (volume_later looked volume)
          (subst (λ (b : List ℕ). IsLedTo g mid n id b) one.1 led);
    }

    -- it could not be asked
    pub index_fails : (why : AskFault) → AsksIndexed g n id body mid new (Err why)
        → AsksDocumentIn v n id old new (Err why)
    index_fails ReadFault asked = record {
      viewed = viewed_then looked asked.viewed;
      ends = counts.rose_later _ _ _ looked.called.faults asked.ends;
    }
    index_fails (NoMemory lack) asked = record { viewed = viewed_then looked asked.viewed; ends = tt }
