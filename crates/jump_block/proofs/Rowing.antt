-- Rows of cells that make a front known.
use Rattle.std.proofs.Common.{◌≡◌, ◌<◌, ◌≤◌, ◌+◌, ℕ, List, length, slice_get, Option, Some, Result, Ok, Err, refl, sym, subst, arith, ◌∙◌}
use Rattle.std.specs.Prelude.{IsTrue}
use Rattle.std.proofs.lemmas.Option.{slice_get_within}
use Rattle.cell_types.specs.Image.{Image}
use Rattle.volume_meaning.specs.Blocks.{posting_record, InFront}
use Rattle.volume_meaning.specs.Volumes.{Holds}
use Rattle.worm_device.specs.ReadRows.{ViewReadsRow}
use Rattle.worm_device.specs.Views.{ViewState, Viewed}
use Rattle.worm_device.specs.declared.device.Failed.{Failed}
use Rattle.worm_device.proofs.Resting.{viewed_then}
use Rattle.cell_types.specs.declared.refusal.Fault.{Fault}
use Rattle.jump_block.specs.Fronts.{FindsInFront, FirstEnds}
use Rattle.jump_block.specs.Known.{IsBelow, IsKnown, ReadsOn}
use Rattle.jump_block.specs.RowFronts.{IsKeyAt, KnowsRow, ReadsRows, StandsFrom}
use Rattle.jump_block.specs.declared.known_front.Front.{Front}
use Rattle.jump_block.specs.declared.known_front.KnownFront.{KnownFront}
use Rattle.jump_block.proofs.Counting.{rose_later}
use Rattle.jump_block.proofs.Knowing.{known_on, next_in_front}
use Rattle.jump_block.proofs.KnownReads.{ends_later}

-- one place more is known
pub one_known : (image : Image) (f : KnownFront) (cell : List ℕ) (at key : ℕ) → at ≡ f.block + f.count → IsKeyAt cell at key
    → image at ≡ Some cell → (1 ≤ f.count → f.greatest < key) → IsKnown image f
    → IsKnown image (record { block = f.block; count = f.count + 1; greatest = key })
one_known image f cell at key here is stands rises known = record {
  last = λ place e. record {
    p = is.p;
    in_front = subst (λ (n : ℕ). InFront image f.block n is.p) (omega (arith, e)) front;
    same = is.same;
  };
} where
  front : InFront image f.block f.count is.p
  front = next_in_front image f is.p known (λ some. omega (arith, is.same, rises some))
      (subst (λ (n : ℕ). Holds image n (posting_record is.p)) here (record { cell = cell; stands = stands; is = is.is }))

-- the places of a row so far
pub row_more : (x : ℕ) (row : List (Option (List ℕ))) (k : ℕ) (old now : KnownFront) (cell : List ℕ) (at key : ℕ)
    → k < length row → now.count ≡ old.count + k → slice_get row k ≡ Some (Some cell) → at ≡ now.block + now.count
    → IsKeyAt cell at key → key < x → (1 ≤ now.count → now.greatest < key)
    → KnowsRow x row old now → KnowsRow x row old (record { block = now.block; count = now.count + 1; greatest = key })
row_more x row k old now cell at key less count there here is below rises so_far = record {
  block = so_far.block;
  more = omega (arith, so_far.more);
  most = omega (arith, less, count);
  below = λ b. record { below = λ some. below };
  known = λ image stands known.
      one_known image now cell at key here is
      (subst (λ (n : ℕ). image n ≡ Some cell) (omega (arith, here, count, so_far.block)) (stands.each k cell there)) rises
      (so_far.known image stands known);
}

pub row_starts : (x : ℕ) (row : List (Option (List ℕ))) (f : KnownFront) → KnowsRow x row f f
row_starts x row f = record {
  block = refl;
  more = omega arith;
  most = omega arith;
  below = λ b. b;
  known = λ image stands known. known;
}

-- so many places were read in rows, and each of them is known
pub record KnowsSoFar (x count : ℕ) (old now : ViewState) (front later : KnownFront) : Type 0 where
  pub viewed : Viewed old now
  pub block : later.block ≡ front.block
  pub all : later.count ≡ count
  pub reads : now.base.reads ≤ old.base.reads + count
  pub below : IsBelow later x
  pub known : IsTrue old.base.tells → IsKnown now.image later
  pub faults : now.base.faults ≡ old.base.faults

-- one row more
module _ (x count at size : ℕ) (room found : List (Option (List ℕ))) (old mid new : ViewState) (front later : KnownFront)
    (so_far : KnowsSoFar x count old mid front later) (few : count + size ≤ 128) (long : length room ≡ size)
    (here : at ≡ later.block + later.count) where
  told : IsTrue old.base.tells → IsTrue mid.base.tells
  told tells = subst IsTrue (sym so_far.viewed.called.tells) tells

  pub stood : ViewReadsRow at room found mid new (Ok tt) → IsTrue old.base.tells
      → StandsFrom new.image (later.block + later.count) found
  stood read tells = record {
    each = λ k value there.
        subst (λ (n : ℕ). new.image (n + k) ≡ Some value) here
        (read.answer (told tells) k (Some value) (slice_get_within found k (Some value) there) there);
  }

  pub row_read : (read : ViewReadsRow at room found mid new (Ok tt)) → (now : KnownFront) → KnowsRow x found later now
      → ReadsRows x old new front now (Ok tt)
  row_read read now row = record {
    viewed = viewed_then so_far.viewed read.viewed;
    block = row.block ∙ so_far.block;
    places = omega (arith, row.most, read.size, long, so_far.all, few);
    reads = omega (arith, so_far.reads, read.count, read.size, long, few);
    below = row.below so_far.below;
    known = λ tells. row.known new.image (stood read tells) (known_on read.viewed.image (so_far.known tells));
    cause = read.cause ∙ so_far.faults;
  }

  pub row_all : (read : ViewReadsRow at room found mid new (Ok tt)) → (now : KnownFront) → KnowsRow x found later now
      → (next : ℕ) → next ≡ count + size → count + size ≤ now.count → KnowsSoFar x next old new front now
  row_all read now row next is all = record {
    viewed = viewed_then so_far.viewed read.viewed;
    block = row.block ∙ so_far.block;
    all = omega (arith, row.most, read.size, long, so_far.all, all, is);
    reads = omega (arith, so_far.reads, read.count, read.size, long, is);
    below = row.below so_far.below;
    known = λ tells. row.known new.image (stood read tells) (known_on read.viewed.image (so_far.known tells));
    faults = read.cause ∙ so_far.faults;
  }

  pub row_failed : (failed : Failed) → ViewReadsRow at room found mid new (Err failed) → ReadsRows x old new front later (Err failed)
  row_failed failed read = record {
    viewed = viewed_then so_far.viewed read.viewed;
    block = so_far.block;
    places = omega (arith, so_far.all, few);
    reads = omega (arith, so_far.reads, read.count, read.size, long, few);
    below = so_far.below;
    known = λ tells. known_on read.viewed.image (so_far.known tells);
    cause = rose_later _ _ _ (omega (arith, so_far.faults)) read.cause;
  }

-- reading on behind rows
pub on_from_rows : (x block : ℕ) (old mid new : ViewState) (front now later : KnownFront) → front.block ≡ block
    → ReadsRows x old mid front now (Ok tt) → (result : Result Front Fault) → ReadsOn x mid new now later result
    → FindsInFront x block 257 old new result
on_from_rows x block old mid new front now later same rows result on = record {
  viewed = viewed_then rows.viewed on.viewed;
  reads = omega (arith, rows.reads, on.reads, on.places);
  ends = subst (λ (b : ℕ). FirstEnds x b old new result) (rows.block ∙ same)
      (ends_later x now.block old mid new rows.viewed result on.ends);
}
