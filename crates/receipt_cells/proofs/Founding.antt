-- A document that is kept and was read, over plain values.
use Rattle.std.proofs.Common.{ℕ, List, Some, None, Ok, Err, sym, subst}
use Rattle.std.specs.Prelude.{IsTrue}
use Rattle.volume_meaning.specs.Keeping.{IsKept}
use Rattle.worm_device.specs.Views.{ViewState, Viewed}
use Rattle.worm_device.proofs.Resting.{viewed_then}
use Rattle.document_store.specs.Looks.{HoldsBody}
use Rattle.document_store.proofs.Holding.{held_on, stands_held}
use Rattle.jump_block.proofs.Counting.{rose_later}
use Rattle.kept_documents.specs.Kept.{AsksDocument, KeepsDocument, document_of}
use Rattle.kept_documents.specs.declared.fault.AskFault.{AskFault}
use Rattle.kept_documents.specs.declared.fault.AskFault.TheVariants.{NoMemory, ReadFault}
use Rattle.kept_documents.specs.declared.kept.KeptDocument.{KeptDocument}
use Rattle.kept_documents.proofs.Holding.{kept_later}
use Rattle.kept_documents.proofs.PassedBuckets.{volume_later}
use Rattle.receipt_cells.specs.Needed.{ListsJust, RestsOn}
use Rattle.receipt_cells.specs.Whole.{ListsDocument, ListsKept}

-- its slot holds its body, later too
pub holds_later : (n : ℕ) (id : List ℕ) (s t : ViewState) (d : KeptDocument) → KeepsDocument s n id d → Viewed s t
    → IsTrue t.base.tells → HoldsBody d.volume.geometry t.image n d.body.held
holds_later n id s t d keeps viewed tells =
    let before = subst IsTrue viewed.called.tells tells in
    record {
      id = id;
      holds = held_on viewed.image (stands_held d.volume.geometry s.cells s.image n id d.body.held
          (keeps.volume before) (keeps.kept before).stands);
    }

module _ (n : ℕ) (id : List ℕ) (old mid : ViewState) (listed : List (ℕ × List ℕ)) where
  -- it could not be asked for
  pub ask_fails : (why : AskFault) → AsksDocument n id old mid (Err why) → ListsKept n id old mid listed listed (Err why)
  ask_fails ReadFault asked = record { viewed = asked.viewed; ends = asked.ends }
  ask_fails (NoMemory lack) asked = record { viewed = asked.viewed; ends = tt }

  -- there is none
  pub not_kept : AsksDocument n id old mid (Ok None) → ListsKept n id old mid listed listed (Ok None)
  not_kept asked = record { viewed = asked.viewed; ends = asked.ends }

  module _ (d : KeptDocument) (asked : AsksDocument n id old mid (Ok (Some d))) where
    -- it is that of its part's slot
    pub of_part : KeepsDocument mid d.part.slot id d
    of_part = subst (λ (m : ℕ). KeepsDocument mid m id d) (sym asked.ends.slot) asked.ends

    module _ (new : ViewState) (later : List (ℕ × List ℕ)) where
      -- its cells could not be listed
      pub found_fails : (why : AskFault)
          → ListsDocument d.volume.geometry d.part.slot id mid new listed later (Err why)
          → ListsKept n id old new listed later (Err why)
      found_fails ReadFault lists = record {
        viewed = viewed_then asked.viewed lists.viewed;
        ends = rose_later _ _ _ asked.viewed.called.faults lists.ends;
      }
      found_fails (NoMemory lack) lists = record { viewed = viewed_then asked.viewed lists.viewed; ends = tt }

      -- they were
      pub kept_listed : ListsDocument d.volume.geometry d.part.slot id mid new listed later (Ok tt)
          → ListsKept n id old new listed later (Ok (Some d.bytes))
      kept_listed lists = record {
        viewed = viewed_then asked.viewed lists.viewed;
        ends = λ tells.
            let told : IsTrue mid.base.tells = subst IsTrue (sym asked.viewed.called.tells) tells in
            let g = d.volume.geometry in
            let one : IsKept mid.cells mid.image g (document_of n id d.body.held) = asked.ends.kept told in
            let own : ListsDocument g n id mid new listed later (Ok tt) =
            subst (λ (m : ℕ). ListsDocument g m id mid new listed later (Ok tt)) asked.ends.slot lists in
            record {
              body = d.body.held;
              count = sym asked.ends.count;
              layout = g;
              volume = volume_later lists.viewed (asked.ends.volume told);
              kept = kept_later lists.viewed one;
              just = subst
                  (λ (k : ℕ). ListsJust (RestsOn k new.image g (document_of n id d.body.held)) new.image listed later)
                  (sym lists.viewed.cells)
                  (own.ends told (asked.ends.volume told) d.body.held one);
            };
      }
