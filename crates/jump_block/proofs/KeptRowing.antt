-- What a kept row shows of a front, and rows that are read one after another.
use Rattle.std.proofs.Common.{◌≡◌, ◌<◌, ◌≤◌, ◌+◌, ℕ, zero, suc, List, [], ◌∷◌, slice_get, Option, Some, None, Ok, Err, refl, sym, subst, arith, ◌∙◌}
use Rattle.std.specs.Prelude.{IsTrue, ⊤}
use Rattle.std.proofs.lemmas.Option.{none-some, same_Some, slice_get_within}
use Rattle.cell_types.specs.Image.{Image}
use Rattle.volume_meaning.specs.Blocks.{InFront}
use Rattle.worm_device.specs.Counts.{Rose}
use Rattle.worm_device.specs.ReadRows.{ViewReadsRow}
use Rattle.worm_device.specs.Views.{ViewState, Viewed}
use Rattle.worm_device.specs.declared.device.Failed.{Failed}
use Rattle.worm_device.proofs.Resting.{viewed_then}
use Rattle.jump_block.specs.Entries.{posting_of}
use Rattle.jump_block.specs.Fronts.{AreBelow}
use Rattle.jump_block.specs.Known.{IsBelow, IsKnown}
use Rattle.jump_block.specs.KeptRows.{IsNextOf, IsRowKept, PassesRow, ReadsNext, ShowsEntry}
use Rattle.jump_block.specs.RowFronts.{StandsFrom}
use Rattle.jump_block.specs.declared.held_entry.Entry.{Entry}
use Rattle.jump_block.specs.declared.kept_row.KeptRow.{KeptRow}
use Rattle.jump_block.specs.declared.known_front.KnownFront.{KnownFront}
use Rattle.jump_block.proofs.Counting.{rose_later}
use Rattle.jump_block.proofs.Knowing.{below_known, known_on, next_in_front}

-- a row in which no cell is written
abbrev pub AreBlank : List (Option (List ℕ)) → Type 0
AreBlank [] = ⊤
AreBlank (None ∷ row) = AreBlank row
AreBlank (Some value ∷ row) = ⊥

blank_holds : (row : List (Option (List ℕ))) → AreBlank row → (k : ℕ) (value : List ℕ)
    → slice_get row k ≡ Some (Some value) → ⊥
blank_holds [] blank k value there = none-some _ there
blank_holds (None ∷ row) blank zero value there = none-some _ (same_Some _ _ there)
blank_holds (None ∷ row) blank (suc k) value there = blank_holds row blank k value there
blank_holds (Some held ∷ row) blank k value there = blank

-- of a row in which no cell is written nothing stands
pub blank_stands : (row : List (Option (List ℕ))) → AreBlank row → (image : Image) (at : ℕ) → StandsFrom image at row
blank_stands row blank image at = record { each = λ k value there. absurd (blank_holds row blank k value there) }

-- what was read in a row stands
pub row_stands : (at : ℕ) (room found : List (Option (List ℕ))) (old new : ViewState)
    → ViewReadsRow at room found old new (Ok tt) → IsTrue old.base.tells → StandsFrom new.image at found
row_stands at room found old new read tells = record {
  each = λ k value there. read.answer tells k (Some value) (slice_get_within found k (Some value) there) there;
}

-- nothing is passed yet
pub passes_none : (x : ℕ) (row : KeptRow) (f : KnownFront) → f.count ≤ 128 → IsBelow f x → PassesRow x row f f
passes_none x row f places below = record {
  block = refl;
  places = places;
  below = below;
  known = λ image kept known. known;
}

-- one entry more is passed
pub passes_more : (x : ℕ) (row : KeptRow) (old f : KnownFront) (e : Entry) → PassesRow x row old f → f.count < 128
    → ShowsEntry row f.block f.count e → (1 ≤ f.count → f.greatest < e.key) → e.key < x
    → PassesRow x row old (record { block = f.block; count = f.count + 1; greatest = e.key })
passes_more x row old f e so_far less shows rises below = record {
  block = so_far.block;
  places = omega arith;
  below = record { below = λ some. below };
  known = λ image kept known. record {
    last = λ place is. record {
      p = posting_of e;
      in_front = let same : f.count ≡ place = omega arith in
          subst (λ (n : ℕ). InFront image f.block n (posting_of e)) same
          (next_in_front image f (posting_of e) (so_far.known image kept known) rises (shows.holds image kept));
      same = refl;
    };
  };
}

-- rows that were read one after another, with so many reads
pub record RowsSoFar (x count : ℕ) (old now : ViewState) (front later : KnownFront) (row : KeptRow) : Type 0 where
  pub viewed : Viewed old now
  pub block : later.block ≡ front.block
  pub places : later.count ≤ 128
  pub reads : now.base.reads ≤ old.base.reads + count
  pub below : IsBelow later x
  pub known : IsTrue old.base.tells → IsKnown now.image later
  pub kept : IsTrue old.base.tells → IsRowKept now.image row

module _ (x count : ℕ) (old mid : ViewState) (front later now : KnownFront) (row : KeptRow)
    (so_far : RowsSoFar x count old mid front later row) (passes : PassesRow x row later now) where
  known_now : IsTrue old.base.tells → IsKnown mid.image now
  known_now tells = passes.known mid.image (so_far.kept tells) (so_far.known tells)

  -- what the row shows behind the known places is the first entry at or past x
  pub next_ends : (few : count ≤ 128) (next : Option Entry) → IsNextOf x row now next
      → ReadsNext x old mid front now row (Ok next)
  next_ends few None shows = record {
    viewed = so_far.viewed;
    block = passes.block ∙ so_far.block;
    places = passes.places;
    reads = omega (arith, so_far.reads);
    known = known_now;
    kept = so_far.kept;
    ends = tt;
  }
  next_ends few (Some e) shows = record {
    viewed = so_far.viewed;
    block = passes.block ∙ so_far.block;
    places = passes.places;
    reads = omega (arith, so_far.reads);
    known = known_now;
    kept = so_far.kept;
    ends = (
      shows.0.block_is ∙ passes.block ∙ so_far.block,
      omega (arith, shows.2, shows.0.place_is),
      shows.1,
      shows.0.last,
      λ tells.
          let here = next_in_front mid.image now (posting_of e) (known_now tells) shows.3
          (shows.0.holds mid.image (so_far.kept tells)) in
          let below = below_known mid.image now x (known_now tells) passes.below in (
            subst (λ (b : ℕ). InFront mid.image b e.place (posting_of e)) (passes.block ∙ so_far.block)
                (subst (λ (n : ℕ). InFront mid.image now.block n (posting_of e)) (sym shows.0.place_is) here),
            subst (λ (b : ℕ). AreBelow mid.image b e.place x) (passes.block ∙ so_far.block)
                (subst (λ (n : ℕ). AreBelow mid.image now.block n x) (sym shows.0.place_is) below),
          ),
    );
  }

  -- one row more is read
  pub rows_more : (new : ViewState) (next : KeptRow) (more : ℕ) → Viewed mid new
      → new.base.reads ≤ mid.base.reads + 32 → (IsTrue mid.base.tells → IsRowKept new.image next) → more ≡ count + 32
      → RowsSoFar x more old new front now next
  rows_more new next more viewed reads kept is = record {
    viewed = viewed_then so_far.viewed viewed;
    block = passes.block ∙ so_far.block;
    places = passes.places;
    reads = omega (arith, so_far.reads, reads, is);
    below = passes.below;
    known = λ tells. known_on viewed.image (known_now tells);
    kept = λ tells. kept (subst IsTrue (sym so_far.viewed.called.tells) tells);
  }

  -- a read has failed
  pub rows_failed : (new : ViewState) (next : KeptRow) (failed : Failed) → Viewed mid new
      → new.base.reads ≤ mid.base.reads + 32 → (IsTrue mid.base.tells → IsRowKept new.image next) → count + 32 ≤ 128
      → Rose mid.base.faults new.base.faults
      → ReadsNext x old new front now next (Err failed)
  rows_failed new next failed viewed reads kept few cause = record {
    viewed = viewed_then so_far.viewed viewed;
    block = passes.block ∙ so_far.block;
    places = passes.places;
    reads = omega (arith, so_far.reads, reads);
    known = λ tells. known_on viewed.image (known_now tells);
    kept = λ tells. kept (subst IsTrue (sym so_far.viewed.called.tells) tells);
    ends = rose_later _ _ _ so_far.viewed.called.faults cause;
  }
