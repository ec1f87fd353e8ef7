-- The trails of postings, listed one after another, over plain values.
use Rattle.std.proofs.Common.{◌≡◌, ◌<◌, ◌≤◌, ◌+◌, ◌⊎◌, ⊎_elim, inl, inr, ℕ, List, Option, Some, Result, Ok, Err, false, ap, arith, sym, subst, ◌∙◌}
use Rattle.std.specs.Prelude.{IsTrue, length, slice_get}
use Rattle.std.proofs.lemmas.Bool.{cases_lt}
use Rattle.std.proofs.lemmas.Option.{same_Some, slice_get_within}
use Rattle.cell_types.specs.Image.{Image, Extends}
use Rattle.cell_types.specs.Layout.{Layout, list_at, pool_at}
use Rattle.volume_meaning.specs.Blocks.{PostingFields, Trail}
use Rattle.volume_meaning.proofs.Trails.{trail_on}
use Rattle.volume_meaning.specs.Postings.{ArePostings, ListedPosting}
use Rattle.worm_device.specs.Views.{ViewState}
use Rattle.worm_device.proofs.Resting.{viewed_self, viewed_then}
use Rattle.jump_block.proofs.Counting.{rose_later}
use Rattle.kept_documents.specs.Postings.{AsksPostings}
use Rattle.kept_documents.specs.declared.fault.AskFault.{AskFault}
use Rattle.kept_documents.specs.declared.fault.AskFault.TheVariants.{NoMemory, ReadFault}
use Rattle.kept_documents.proofs.Leading.{trail_later}
use Rattle.receipt_cells.specs.Needed.{ListsJust}
use Rattle.receipt_cells.specs.Postings.{AreRowsTrailed, IsOfPostings, IsOfRows, ListsPostings, ListsRow, ListsRows, RowCells, RowsSoFar}
use Rattle.receipt_cells.specs.Trails.{ListsTrail}
use Rattle.receipt_cells.proofs.Listing.{just_as, just_then}
use Rattle.receipt_cells.proofs.Trailing.{rests_back, rests_on}

-- no posting comes before the first
pub none_before : (g : Layout) (rows : List ListedPosting) (s : ViewState) (listed : List (ℕ × List ℕ))
    → RowsSoFar g rows 0 s s listed listed
none_before g rows s listed = record {
  viewed = viewed_self s;
  lists = λ tells trailed. record {
    only = λ c w. inl w;
    all = λ c (of : IsOfRows g s.cells s.image rows 0 c). absurd (omega (arith, of.before));
    kept = λ c w. w;
    stand = λ c value is. inl is;
  };
}

module _ (g : Layout) (rows : List ListedPosting) (count cells : ℕ) {now new : Image} (e : Extends now new)
    (row : ListedPosting) (here : slice_get rows count ≡ Some row) where
  one_further : (c : ℕ) → IsOfRows g cells now rows count c ⊎ RowCells g cells new row c
      → IsOfRows g cells new rows (count + 1) c
  one_further c these = ⊎_elim
      (λ (of : IsOfRows g cells now rows count c). record {
        i = of.i;
        row = of.row;
        before = omega (arith, of.before);
        here = of.here;
        rests = rests_on e of.rests;
      })
      (λ (rests : RowCells g cells new row c). record {
        i = count;
        row = row;
        before = omega arith;
        here = here;
        rests = rests;
      })
      these

  last_or_before : ((i : ℕ) (r : ListedPosting) → slice_get rows i ≡ Some r
      → (at : ℕ) × Trail now (pool_at g) cells at r.posting (list_at g r.list)) → (c : ℕ)
      → IsOfRows g cells new rows (count + 1) c → IsOfRows g cells now rows count c ⊎ RowCells g cells new row c
  last_or_before trails c of = ⊎_elim
      (λ (less : of.i < count). inl (record {
        i = of.i;
        row = of.row;
        before = less;
        here = of.here;
        rests = rests_back e (trails of.i of.row of.here).1 of.rests;
      }))
      (λ (le : count ≤ of.i).
      let same : of.i ≡ count = omega (arith, le, of.before) in
      let one : of.row ≡ row = same_Some of.row row (sym of.here ∙ ap (λ (k : ℕ). slice_get rows k) same ∙ here) in
      inr (subst (λ (r : ListedPosting). RowCells g cells new r c) one of.rests))
      (cases_lt of.i count)

  pub row_more : {listed between later : List (ℕ × List ℕ)} → ((i : ℕ) (r : ListedPosting) → slice_get rows i ≡ Some r
      → (at : ℕ) × Trail now (pool_at g) cells at r.posting (list_at g r.list))
      → ListsJust (IsOfRows g cells now rows count) now listed between
      → ListsJust (RowCells g cells new row) new between later
      → ListsJust (IsOfRows g cells new rows (count + 1)) new listed later
  row_more trails before more = just_as one_further (last_or_before trails) (just_then e before more)

module _ (g : Layout) (rows : List ListedPosting) (count : ℕ) (old now new : ViewState)
    (listed between later : List (ℕ × List ℕ)) (so_far : RowsSoFar g rows count old now listed between)
    (row : ListedPosting) (here : slice_get rows count ≡ Some row) where
  told : IsTrue old.base.tells → IsTrue now.base.tells
  told tells = subst IsTrue (sym so_far.viewed.called.tells) tells

  trails_now : AreRowsTrailed g rows old → (i : ℕ) (r : ListedPosting) → slice_get rows i ≡ Some r
      → (at : ℕ) × Trail now.image (pool_at g) old.cells at r.posting (list_at g r.list)
  trails_now trailed i r is = let t = trailed i r is in (t.0, trail_on so_far.viewed.image t.1)

  -- the cells of one more are listed
  pub one_more : ListsRow g row now new between later (Ok _) → RowsSoFar g rows (count + 1) old new listed later
  one_more lists = record {
    viewed = viewed_then so_far.viewed lists.viewed;
    lists = λ tells trailed.
        let more = lists.ends (told tells) (trail_later so_far.viewed (trailed count row here)) in
        row_more g rows count old.cells lists.viewed.image row here (trails_now trailed) (so_far.lists tells trailed)
        (subst (λ (n : ℕ). ListsJust (RowCells g n new.image row) new.image between later) so_far.viewed.cells more);
  }

  -- it was not
  pub row_fails : (why : AskFault) → ListsRow g row now new between later (Err why)
      → ListsRows g rows old new listed later (Err why)
  row_fails ReadFault lists = record {
    viewed = viewed_then so_far.viewed lists.viewed;
    ends = rose_later _ _ _ so_far.viewed.called.faults lists.ends;
  }
  row_fails (NoMemory lack) lists = record { viewed = viewed_then so_far.viewed lists.viewed; ends = tt }

-- those of each are listed
pub all_listed : (g : Layout) (rows : List ListedPosting) (count : ℕ) (old now : ViewState)
    (listed later : List (ℕ × List ℕ)) → RowsSoFar g rows count old now listed later → length rows ≤ count
    → ListsRows g rows old now listed later (Ok _)
all_listed g rows count old now listed later so_far all = record {
  viewed = so_far.viewed;
  ends = λ tells trailed. (
    count,
    λ i row is. omega (arith, slice_get_within rows i row is, all),
    so_far.lists tells trailed,
  );
}

-- the trail was asked by the posting's numbers
pub row_listed : (g : Layout) (row : ListedPosting) (pool head : ℕ) (p : PostingFields) (old new : ViewState)
    (listed later : List (ℕ × List ℕ)) (result : Result Unit AskFault) → pool ≡ pool_at g → head ≡ list_at g row.list
    → p ≡ row.posting → ListsTrail pool head p old new listed later result → ListsRow g row old new listed later result
row_listed g row pool head p old new listed later result at first same lists =
    subst (λ (q : PostingFields). ListsTrail (pool_at g) (list_at g row.list) q old new listed later result) same
    (subst (λ (h : ℕ). ListsTrail (pool_at g) h p old new listed later result) first
    (subst (λ (h : ℕ). ListsTrail h head p old new listed later result) at lists))

module _ (g : Layout) (n : ℕ) (body : List ℕ) (stamp : Option ℕ) (old new : ViewState) (listed later : List (ℕ × List ℕ))
  where
    -- the postings don't exist
    pub none_exist : AsksPostings g n body stamp old new (Ok false) → ListsPostings g n body stamp old new listed later (Ok _)
    none_exist asks = record {
      viewed = asks.viewed;
      ends = λ tells exist trailed. absurd (asks.ends tells exist trailed);
    }

    module _ (rows : List ListedPosting) (are : ArePostings g stamp body n rows) where
      of_rows : {cells : ℕ} {image : Image} {count : ℕ} (c : ℕ) → IsOfRows g cells image rows count c
          → IsOfPostings g cells image n body stamp c
      of_rows c of = let each = are.each of.i of.row of.here in record {
        list = of.row.list;
        posting = of.row.posting;
        lists = each.0;
        is = each.1;
        rests = of.rests;
      }

      in_rows : {cells : ℕ} {image : Image} (count : ℕ)
          → ((i : ℕ) (row : ListedPosting) → slice_get rows i ≡ Some row → i < count) → (c : ℕ)
          → IsOfPostings g cells image n body stamp c → IsOfRows g cells image rows count c
      in_rows count all c of = let at = are.all of.list of.posting of.lists of.is in record {
        i = at.0;
        row = record { list = of.list; posting = of.posting };
        before = all at.0 (record { list = of.list; posting = of.posting }) at.1;
        here = at.1;
        rests = of.rests;
      }

      -- the cells of each trail were listed
      pub each_listed : (result : Result Unit AskFault) → ListsRows g rows old new listed later result
          → ListsPostings g n body stamp old new listed later result
      each_listed (Ok u) lists = record {
        viewed = lists.viewed;
        ends = λ tells exist trailed.
            let h = lists.ends tells
            (λ i row is. let each = are.each i row is in trailed row.list row.posting each.0 each.1) in
            just_as of_rows (in_rows h.0 h.1) h.2;
      }
      each_listed (Err ReadFault) lists = record { viewed = lists.viewed; ends = lists.ends }
      each_listed (Err (NoMemory lack)) lists = record { viewed = lists.viewed; ends = tt }
