-- Whether a document is kept, by the volume that cell 0 states, over plain values.
use Rattle.std.proofs.Common.{◌≡◌, ℕ, suc, zero, List, Option, Some, None, Result, Ok, Err, ap, sym, subst, arith, ◌∙◌}
use Rattle.std.specs.Prelude.{IsTrue, [], ◌∷◌, ◌++◌, Contains}
use Rattle.cell_types.specs.Layout.{Layout}
use Rattle.cell_types.specs.declared.geometry.Volume.{Volume}
use Rattle.volume_meaning.specs.Documents.{Document}
use Rattle.volume_meaning.specs.Volumes.{IsVolume}
use Rattle.tamper_rules.proofs.GivenUp.{one_layout}
use Rattle.volume_meaning.specs.Keeping.{IsKept}
use Rattle.tamper_rules.proofs.DocumentLists.{the_one}
use Rattle.worm_device.specs.Views.{ViewState, Viewed}
use Rattle.worm_device.proofs.Resting.{viewed_then}
use Rattle.jump_block.proofs.Counting as counts
use Rattle.kept_documents.proofs.PassedBuckets.{volume_later}
use Rattle.document_store.specs.Looks.{HasPart}
use Rattle.kept_documents.specs.Kept.{AsksDocument, AsksDocumentIn, AsksKept, DocumentAnswer, DocumentInAnswer, document_of}
use Rattle.kept_documents.specs.declared.kept.KeptDocument.{KeptDocument}
use Rattle.kept_documents.specs.declared.fault.AskFault.{AskFault}
use Rattle.kept_documents.specs.declared.fault.AskFault.TheVariants.{NoMemory, ReadFault}
use Rattle.kept_documents.proofs.Holding.{kept_later}

-- a list of one has that one
pub the_same : (a d : Document) → Contains (a ∷ []) d → a ≡ d
the_same a d (zero, below, is) = is
the_same a d (suc k, below, is) = absurd (omega (arith, below))

-- the bytes that were read are the body's
pub read_back : (old got body held : List ℕ) → held ≡ old ++ got → old ≡ [] → body ≡ held
    → body ≡ got
read_back old got body held is none same =
    same ∙ is ∙ ap (λ (o : List ℕ). o ++ got) none

module _ (v : Volume) (n : ℕ) (id : List ℕ) (old mid new : ViewState) (opened : Viewed old mid)
    (size : v.geometry.cells ≡ mid.cells) (volume : IsTrue old.base.tells → IsVolume mid.cells mid.image v.geometry) where
  told : IsTrue old.base.tells → IsTrue mid.base.tells
  told tells = subst IsTrue (sym opened.called.tells) tells

  pub of_volume : (result : Result (Option KeptDocument) AskFault) → AsksDocumentIn v n id mid new result
      → AsksDocument n id old new result
  of_volume result asked = record { viewed = viewed_then opened asked.viewed; ends = go result asked.ends }
    where
      untold : IsTrue new.base.tells → IsTrue old.base.tells
      untold tells = subst IsTrue opened.called.tells (subst IsTrue asked.viewed.called.tells tells)

      go : (result : Result (Option KeptDocument) AskFault) → DocumentInAnswer v n id mid new result
          → DocumentAnswer n id old new result
      go (Ok (Some d)) ends =
          let is : v ≡ d.volume = sym ends.volume_is in
          record {
            slot = ends.slot;
            size = ap (λ (w : Volume). w.geometry.cells) ends.volume_is ∙ size ∙ sym asked.viewed.cells;
            part = subst (λ (w : Volume). HasPart w.geometry new d.part) is ends.part;
            count = ends.count;
            volume = λ tells. subst (λ (w : Volume). IsVolume new.cells new.image w.geometry) is
                (volume_later asked.viewed (volume (untold tells)));
            kept = λ tells. subst
                (λ (w : Volume). IsKept new.cells new.image w.geometry (document_of n id d.body.held)) is
                (ends.kept (told (untold tells)) (volume (untold tells)));
          }
      go (Ok None) ends = λ tells body kept.
          let one = kept.each (document_of n id body) (the_one (document_of n id body)) in
          let same : kept.layout ≡ v.geometry =
          one_layout kept.layout v.geometry (volume_later opened kept.volume) (volume tells) in
          ends (told tells) (volume tells) body
          (kept_later opened (subst (λ (l : Layout). IsKept old.cells old.image l (document_of n id body)) same one))
      go (Err ReadFault) ends = counts.rose_later _ _ _ opened.called.faults ends
      go (Err (NoMemory lack)) ends = tt

-- the document is kept, and its body has so many bytes
pub keeps_body : (n : ℕ) (id : List ℕ) (old new : ViewState) (d : KeptDocument)
    → AsksDocument n id old new (Ok (Some d)) → AsksKept n id old new (Ok (Some d.bytes))
keeps_body n id old new d asked = record {
  viewed = asked.viewed;
  ends = λ tells.
      let told : IsTrue new.base.tells = subst IsTrue (sym asked.viewed.called.tells) tells in
      record {
        body = d.body.held;
        count = sym asked.ends.count;
        kept = record {
          layout = d.volume.geometry;
          volume = asked.ends.volume told;
          each = λ e among. subst (λ (x : Document). IsKept new.cells new.image d.volume.geometry x)
              (the_same (document_of n id d.body.held) e among) (asked.ends.kept told);
        };
      };
}

-- or whether it is could not be asked
pub ask_fails : (n : ℕ) (id : List ℕ) (old new : ViewState) (why : AskFault)
    → AsksDocument n id old new (Err why) → AsksKept n id old new (Err why)
ask_fails n id old new ReadFault asked = record { viewed = asked.viewed; ends = asked.ends }
ask_fails n id old new (NoMemory lack) asked = record { viewed = asked.viewed; ends = tt }
