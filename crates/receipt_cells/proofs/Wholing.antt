-- The cells of a whole document, over plain values.
use Rattle.std.proofs.Common.{◌≡◌, ◌<◌, ◌⊎◌, ⊎_elim, inl, inr, ℕ, List, Option, Result, Ok, Err, sym, subst}
use Rattle.std.specs.Prelude.{IsTrue}
use Rattle.cell_types.specs.Image.{Image, Extends}
use Rattle.cell_types.specs.Layout.{Layout, all_lists, list_at, pool_at, root_at}
use Rattle.volume_meaning.specs.Blocks.{PostingFields, Trail}
use Rattle.volume_meaning.specs.Keeping.{IsKept, sought_in}
use Rattle.volume_meaning.specs.Postings.{IsPostingOf}
use Rattle.volume_meaning.specs.Slots.{IsDoneSlot, IsStampOf}
use Rattle.volume_meaning.specs.Volumes.{IsVolume, IsWritten}
use Rattle.volume_meaning.proofs.Stamps.{one, stamp_on}
use Rattle.volume_meaning.proofs.Trails.{trail_on}
use Rattle.worm_device.specs.Views.{ViewState, Viewed}
use Rattle.worm_device.proofs.Images.{extends_then}
use Rattle.worm_device.proofs.Resting.{viewed_then}
use Rattle.document_store.proofs.Holding.{held_is_done, stands_held}
use Rattle.jump_block.proofs.Counting.{rose_later}
use Rattle.kept_documents.specs.Kept.{document_of}
use Rattle.kept_documents.specs.declared.fault.AskFault.{AskFault}
use Rattle.kept_documents.specs.declared.fault.AskFault.TheVariants.{NoMemory, ReadFault}
use Rattle.kept_documents.proofs.Holding.{kept_later}
use Rattle.kept_documents.proofs.PassedBuckets.{volume_later}
use Rattle.receipt_cells.specs.Bodies.{ListsBody}
use Rattle.receipt_cells.specs.Needed.{ListsJust, PathRests, RestsOn, SlotRests, of_path, of_posting, of_slot, volume_cell}
use Rattle.receipt_cells.specs.Path.{ListsPath, ListsSlot}
use Rattle.receipt_cells.specs.Postings.{IsOfPostings}
use Rattle.receipt_cells.specs.Whole.{ListsDocument}
use Rattle.receipt_cells.specs.Written.{ListsCells}
use Rattle.receipt_cells.proofs.Listing.{just_as, just_of, just_then}
use Rattle.receipt_cells.proofs.SlotListing.{slot_rests_back, slot_rests_on}
use Rattle.receipt_cells.proofs.Trailing.{rests_back, rests_on}

-- The cells of a path as the code lists them.
abbrev PathCells : Layout → ℕ → Image → List ℕ → ℕ → Type 0
PathCells g cells image id c = PathRests g image (sought_in cells g id) c (root_at g) 0

module _ (g : Layout) (cells n : ℕ) (id body : List ℕ) (stamp : Option ℕ) {second third last : Image}
    (e : Extends second third) (f : Extends third last) (done : IsDoneSlot g second n) (is : IsStampOf g third n stamp)
    (trails : (l : ℕ) (p : PostingFields) → l < all_lists g → IsPostingOf g stamp body n l p
    → (at : ℕ) × Trail third (pool_at g) cells at p (list_at g l)) where
  -- the cells of the four parts, each of the image in which it was listed
  abbrev OfParts : ℕ → Type 0
  OfParts c = (((c ≡ 0) ⊎ SlotRests g second n c) ⊎ IsOfPostings g cells third n body stamp c)
      ⊎ PathCells g cells last id c

  of_postings : (c : ℕ) → IsOfPostings g cells third n body stamp c → RestsOn cells last g (document_of n id body) c
  of_postings c of = of_posting stamp of.list of.posting (stamp_on g n stamp f is) of.lists of.is (rests_on f of.rests)

  from_parts : (c : ℕ) → OfParts c → RestsOn cells last g (document_of n id body) c
  from_parts c parts = ⊎_elim
      (λ (h : ((c ≡ 0) ⊎ SlotRests g second n c) ⊎ IsOfPostings g cells third n body stamp c). ⊎_elim
      (λ (k : (c ≡ 0) ⊎ SlotRests g second n c). ⊎_elim
      (λ (zero : c ≡ 0). volume_cell zero)
      (λ (slot : SlotRests g second n c). of_slot (slot_rests_on (extends_then e f) slot))
      k)
      (λ (of : IsOfPostings g cells third n body stamp c). of_postings c of)
      h)
      (λ (path : PathCells g cells last id c). of_path path)
      parts

  to_parts : (c : ℕ) → RestsOn cells last g (document_of n id body) c → OfParts c
  to_parts c (volume_cell zero) = inl (inl (inl zero))
  to_parts c (of_slot slot) = inl (inl (inr (slot_rests_back (extends_then e f) done slot)))
  to_parts c (of_posting own l p is_own less is_posting rests) =
      let same : own ≡ stamp = one g last n own stamp is_own (stamp_on g n stamp f is) in
      let posting : IsPostingOf g stamp body n l p =
      subst (λ (s : Option ℕ). IsPostingOf g s body n l p) same is_posting in
      inl (inr (record {
        list = l;
        posting = p;
        lists = less;
        is = posting;
        rests = rests_back f (trails l p less posting).1 rests;
      }))
  to_parts c (of_path path) = inr path

  -- the four parts were listed
  pub whole : {first : Image} {l0 l1 l2 l3 l4 : List (ℕ × List ℕ)} → Extends first second
      → ListsJust (λ c. c ≡ 0) first l0 l1
      → ListsJust (SlotRests g second n) second l1 l2 → ListsJust (IsOfPostings g cells third n body stamp) third l2 l3
      → ListsJust (PathCells g cells last id) last l3 l4
      → ListsJust (RestsOn cells last g (document_of n id body)) last l0 l4
  whole start zero slot postings path =
      just_as from_parts to_parts (just_then f (just_then e (just_then start zero slot) postings) path)

module _ (g : Layout) (n : ℕ) (id : List ℕ) (old first : ViewState) (l0 l1 : List (ℕ × List ℕ)) where
  -- cell 0 could not be listed
  pub cell_fails : (why : AskFault) → ListsCells (λ c. c ≡ 0) old first l0 l1 (Err why)
      → ListsDocument g n id old first l0 l1 (Err why)
  cell_fails ReadFault lists = record { viewed = lists.viewed; ends = lists.ends }
  cell_fails (NoMemory lack) lists = record { viewed = lists.viewed; ends = tt }

  module _ (zero : ListsCells (λ c. c ≡ 0) old first l0 l1 (Ok _)) (second : ViewState) (l2 : List (ℕ × List ℕ)) where
    -- nor those of the slot
    pub slot_fails : (why : AskFault) → ListsSlot g n first second l1 l2 (Err why)
        → ListsDocument g n id old second l0 l2 (Err why)
    slot_fails ReadFault lists = record {
      viewed = viewed_then zero.viewed lists.viewed;
      ends = rose_later _ _ _ zero.viewed.called.faults lists.ends;
    }
    slot_fails (NoMemory lack) lists = record { viewed = viewed_then zero.viewed lists.viewed; ends = tt }

    module _ (slot : ListsSlot g n first second l1 l2 (Ok _)) (third : ViewState) (l3 : List (ℕ × List ℕ)) where
      to_second : Viewed old second
      to_second = viewed_then zero.viewed slot.viewed

      -- nor those of the postings
      pub body_fails : (why : AskFault) → ListsBody g n second third l2 l3 (Err why)
          → ListsDocument g n id old third l0 l3 (Err why)
      body_fails ReadFault lists = record {
        viewed = viewed_then to_second lists.viewed;
        ends = rose_later _ _ _ to_second.called.faults lists.ends;
      }
      body_fails (NoMemory lack) lists = record { viewed = viewed_then to_second lists.viewed; ends = tt }

      module _ (postings : ListsBody g n second third l2 l3 (Ok _)) (last : ViewState) (l4 : List (ℕ × List ℕ)) where
        to_third : Viewed old third
        to_third = viewed_then to_second postings.viewed

        told : {now : ViewState} → Viewed old now → IsTrue old.base.tells → IsTrue now.base.tells
        told viewed tells = subst IsTrue (sym viewed.called.tells) tells

        all_parts : ListsPath g n id third last l3 l4 (Ok _) → IsTrue old.base.tells → IsVolume old.cells old.image g
            → (body : List ℕ) → IsKept old.cells old.image g (document_of n id body)
            → ListsJust (RestsOn old.cells last.image g (document_of n id body)) last.image l0 l4
        all_parts path tells volume body kept =
            let kept1 : IsKept first.cells first.image g (document_of n id body) = kept_later zero.viewed kept in
            let kept2 : IsKept second.cells second.image g (document_of n id body) = kept_later to_second kept in
            let kept3 : IsKept third.cells third.image g (document_of n id body) = kept_later to_third kept in
            let volume1 : IsVolume first.cells first.image g = volume_later zero.viewed volume in
            let volume2 : IsVolume second.cells second.image g = volume_later to_second volume in
            let volume3 : IsVolume third.cells third.image g = volume_later to_third volume in
            let held = stands_held g second.cells second.image n id body volume2 kept2.stands in
            let cells2 : second.cells ≡ old.cells = to_second.cells in
            let cells4 : last.cells ≡ old.cells = (viewed_then to_third path.viewed).cells in
            whole g old.cells n id body kept2.stamp postings.viewed.image path.viewed.image (held_is_done held)
            (stamp_on g n kept2.stamp postings.viewed.image kept2.is_stamp)
            (λ l p less is. let t = kept2.trails l p less is in (
              t.0,
              subst (λ (k : ℕ). Trail third.image (pool_at g) k t.0 p (list_at g l)) cells2
                  (trail_on postings.viewed.image t.1),
            ))
            slot.viewed.image
            (just_of (λ c is. is) (λ c is. (is, zero_written volume c is)) (zero.ends tells))
            (slot.ends (told zero.viewed tells) volume1 id body kept1.stands)
            (subst (λ (k : ℕ). ListsJust (IsOfPostings g k third.image n body kept2.stamp) third.image l2 l3) cells2
            (postings.ends (told to_second tells) id body held kept2.stamp kept2.is_stamp kept2.postings kept2.trails))
            (subst (λ (k : ℕ). ListsJust (PathCells g k last.image id) last.image l3 l4) cells4
            (path.ends (told to_third tells) volume3 body kept3.stands kept3.path))
          where
            zero_written : IsVolume old.cells old.image g → (c : ℕ) → c ≡ 0 → IsWritten old.image c
            zero_written volume c is = subst (λ (k : ℕ). IsWritten old.image k) (sym is)
                (record { found = volume.volume.cell; stands = volume.volume.stands })

        -- and at last those of the path
        pub path_ends : (result : Result Unit AskFault) → ListsPath g n id third last l3 l4 result
            → ListsDocument g n id old last l0 l4 result
        path_ends (Err ReadFault) lists = record {
          viewed = viewed_then to_third lists.viewed;
          ends = rose_later _ _ _ to_third.called.faults lists.ends;
        }
        path_ends (Err (NoMemory lack)) lists = record { viewed = viewed_then to_third lists.viewed; ends = tt }
        path_ends (Ok u) lists = record {
          viewed = viewed_then to_third lists.viewed;
          ends = λ tells volume body kept. all_parts lists tells volume body kept;
        }
