-- What every read keeps, of a view and of the same view by way of a loan.
use Rattle.std.proofs.Common.{◌≡◌, ℕ, List, Option, Some, Result, Ok, IsTrue, refl, arith}
use Rattle.worm_device.specs.ReadBytes.{ViewReadsBytes}
use Rattle.worm_device.specs.ReadRows.{ViewReadsRow}
use Rattle.worm_device.specs.Views.{ViewReads, ViewState, Viewed}
use Rattle.worm_device.proofs.Resting.{rested_since, rests_of, viewed_self}
use Rattle.worm_device.specs.declared.device.Failed.{Failed}
use Rattle.read_cache.specs.Keeping.{seen_through}

module _ (a b : ℕ) (s t : ViewState) where
  -- who reads by way of the loan reads below
  pub viewed_through : b ≡ a → Viewed s t → Viewed (seen_through a s) (seen_through b t)
  viewed_through same v =
      let rests = rests_of v in
      let loans = v.loans in
      record {
        called = v.called;
        cells = v.cells;
        image = v.image;
        planned = v.planned;
        owners = v.owners;
        lower = v.lower;
        fresh = v.fresh;
        loans = cc;
        quiet = rested_since (record {
          later = rests.later;
          shown = rests.shown;
          lower = rests.lower;
          below = rests.below;
        });
      }

  -- and what is kept by way of the loan is kept below
  pub viewed_below : Viewed (seen_through a s) (seen_through b t) → Viewed s t
  viewed_below v =
      let rests = rests_of v in
      let loans = v.loans in
      record {
        called = v.called;
        cells = v.cells;
        image = v.image;
        planned = v.planned;
        owners = v.owners;
        lower = v.lower;
        fresh = v.fresh;
        loans = cc;
        quiet = rested_since (record {
          later = rests.later;
          shown = rests.shown;
          lower = rests.lower;
          below = rests.below;
        });
      }

-- what was read below is read by way of the loan
pub reads_through : (loan at : ℕ) (s t : ViewState) (result : Result (Option (List ℕ)) Failed) → ViewReads at s t result
    → ViewReads at (seen_through loan s) (seen_through loan t) result
reads_through loan at s t result read = record {
  viewed = viewed_through loan loan s t refl read.viewed;
  answer = read.answer;
  cause = read.cause;
  count = read.count;
}

-- so is a row
pub row_through : (loan at : ℕ) (room found : List (Option (List ℕ))) (s t : ViewState) (result : Result Unit Failed)
    → ViewReadsRow at room found s t result
    → ViewReadsRow at room found (seen_through loan s) (seen_through loan t) result
row_through loan at room found s t result read = record {
  viewed = viewed_through loan loan s t refl read.viewed;
  size = read.size;
  answer = read.answer;
  cause = read.cause;
  count = read.count;
}

-- and so are its bytes
pub bytes_through : (loan at : ℕ) (room bytes : List ℕ) (s t : ViewState) (result : Result Unit Failed)
    → ViewReadsBytes at room bytes s t result
    → ViewReadsBytes at room bytes (seen_through loan s) (seen_through loan t) result
bytes_through loan at room bytes s t result read = record {
  viewed = viewed_through loan loan s t refl read.viewed;
  size = read.size;
  answer = read.answer;
  cause = read.cause;
  count = read.count;
}

-- a cell that stands is read with nothing asked below
pub reads_kept : (loan at : ℕ) (cell : List ℕ) (s : ViewState) → (IsTrue s.base.tells → Some cell ≡ s.image at)
    → ViewReads at (seen_through loan s) (seen_through loan s) (Ok (Some cell))
reads_kept loan at cell s stands = record {
  viewed = viewed_self (seen_through loan s);
  answer = stands;
  cause = refl;
  count = omega arith;
}

-- a written cell that was read is shown
pub read_shows : (at : ℕ) (s t : ViewState) (cell : List ℕ) → ViewReads at s t (Ok (Some cell))
    → IsTrue s.base.tells → Some cell ≡ t.image at
read_shows at s t cell read = read.answer
