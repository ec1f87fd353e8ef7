-- The postings of a document whose body was read, over plain values.
use Rattle.std.proofs.Common.{◌≡◌, ℕ, List, Option, Some, None, Result, Ok, Err, sym, subst}
use Rattle.std.specs.Prelude.{IsTrue}
use Rattle.cell_types.specs.Layout.{Layout}
use Rattle.volume_meaning.proofs.Stamps.{one, stamp_on}
use Rattle.worm_device.specs.Views.{ViewState, Viewed}
use Rattle.worm_device.proofs.Resting.{viewed_then}
use Rattle.document_store.specs.Looks.{HoldsBody}
use Rattle.document_store.proofs.Holding.{held_is_one, held_on}
use Rattle.jump_block.proofs.Counting.{rose_later}
use Rattle.kept_documents.specs.Postings.{AreTrailed}
use Rattle.kept_documents.specs.Stamps.{AsksStamp}
use Rattle.kept_documents.specs.declared.fault.AskFault.{AskFault}
use Rattle.kept_documents.specs.declared.fault.AskFault.TheVariants.{NoMemory, ReadFault}
use Rattle.kept_documents.specs.declared.stamps.SlotStamp.{SlotStamp}
use Rattle.kept_documents.proofs.Indexing.{trailed_later}
use Rattle.receipt_cells.specs.Bodies.{ListsBody, ListsStamped}
use Rattle.receipt_cells.specs.Needed.{ListsJust}
use Rattle.receipt_cells.specs.Postings.{IsOfPostings, ListsPostings}

module _ (g : Layout) (n : ℕ) (body : List ℕ) (old mid : ViewState) (listed : List (ℕ × List ℕ)) where
  -- the slot had no stamp
  pub no_stamp : AsksStamp g n old mid (Ok None) → ListsStamped g n body old mid listed listed (Ok _)
  no_stamp asked = record {
    viewed = asked.viewed;
    ends = λ tells stamp is exist trailed. absurd (asked.ends tells stamp is);
  }

  -- with this stamp the trails of its postings were listed
  pub with_stamp : (stamp : SlotStamp) (new : ViewState) (later : List (ℕ × List ℕ)) (result : Result Unit AskFault)
      → AsksStamp g n old mid (Ok (Some stamp))
      → ListsPostings g n body stamp.seconds mid new listed later result
      → ListsStamped g n body old new listed later result
  with_stamp stamp new later (Err ReadFault) asked lists = record {
    viewed = viewed_then asked.viewed lists.viewed;
    ends = rose_later _ _ _ asked.viewed.called.faults lists.ends;
  }
  with_stamp stamp new later (Err (NoMemory lack)) asked lists = record {
    viewed = viewed_then asked.viewed lists.viewed;
    ends = tt;
  }
  with_stamp stamp new later (Ok u) asked lists = record {
    viewed = viewed_then asked.viewed lists.viewed;
    ends = λ tells own is exist trailed.
        let same : own ≡ stamp.seconds = one g mid.image n own stamp.seconds (stamp_on g n own asked.viewed.image is)
        (asked.ends.1 tells) in
        subst (λ (s : Option ℕ). ListsJust (IsOfPostings g old.cells new.image n body s) new.image listed later) (sym same)
        (subst (λ (k : ℕ). ListsJust (IsOfPostings g k new.image n body stamp.seconds) new.image listed later)
        asked.viewed.cells
        (lists.ends (subst IsTrue (sym asked.viewed.called.tells) tells) exist
        (subst (λ (s : Option ℕ). AreTrailed g n body s mid) same (trailed_later asked.viewed trailed))));
  }

module _ (g : Layout) (n : ℕ) (old mid : ViewState) (listed : List (ℕ × List ℕ)) (viewed : Viewed old mid) where
  -- its body was read
  pub with_body : (body : List ℕ) (new : ViewState) (later : List (ℕ × List ℕ)) (result : Result Unit AskFault)
      → (IsTrue mid.base.tells → HoldsBody g mid.image n body) → ListsStamped g n body mid new listed later result
      → ListsBody g n old new listed later result
  with_body body new later (Err ReadFault) has lists = record {
    viewed = viewed_then viewed lists.viewed;
    ends = rose_later _ _ _ viewed.called.faults lists.ends;
  }
  with_body body new later (Err (NoMemory lack)) has lists = record { viewed = viewed_then viewed lists.viewed; ends = tt }
  with_body body new later (Ok u) has lists = record {
    viewed = viewed_then viewed lists.viewed;
    ends = λ tells id own holds stamp is exist trailed.
        let told = subst IsTrue (sym viewed.called.tells) tells in
        let had = has told in
        let same : body ≡ own = (held_is_one g mid.image n had.id body id own had.holds (held_on viewed.image holds)).1 in
        subst (λ (k : ℕ). ListsJust (IsOfPostings g k new.image n own stamp) new.image listed later) viewed.cells
        ((subst (λ (b : List ℕ). ListsStamped g n b mid new listed later (Ok u)) same lists).ends told stamp
        (stamp_on g n stamp viewed.image is) exist (trailed_later viewed trailed));
  }
