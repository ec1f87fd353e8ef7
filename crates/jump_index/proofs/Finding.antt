-- What a search from a list's first block finds, by the search's answer.
use Rattle.std.proofs.Common.{◌≤◌, ◌+◌, ◌^◌, ℕ, Option, Some, None, Result, Ok, Err, arith, sym, subst}
use Rattle.std.specs.Prelude.{IsTrue}
use Rattle.cell_types.specs.declared.refusal.Fault.{Fault}
use Rattle.cell_types.specs.declared.refusal.Fault.TheVariants.{Tampered, Failed}
use Rattle.volume_meaning.specs.Blocks.{PostingFields, here, on}
use Rattle.volume_meaning.proofs.Fronts.{front_holds, front_on}
use Rattle.worm_device.specs.Views.{ViewState, Viewed}
use Rattle.worm_device.proofs.Resting.{viewed_then}
use Rattle.jump_block.proofs.Counting.{rose_later}
use Rattle.jump_block.specs.declared.held_entry.Entry.{Entry}
use Rattle.jump_index.specs.Looking.{SearchesBlock}
use Rattle.jump_block.specs.Pointing.{HasKeyIn}
use Rattle.jump_index.specs.Searches.{FindEntryEnds, FindsGeq, HasBoundedTrail}
use Rattle.jump_index.specs.declared.bounds.Bounds.{Bounds}
use Rattle.jump_index.specs.declared.looked.Looked.TheVariants.{Found, Nothing, NoKey}
use Rattle.jump_index.proofs.Descending.{trail_fits}
use Rattle.jump_index.proofs.Licence.{licensed}
use Rattle.jump_index.proofs.LookingLater.{entry_then, trail_then}

-- from a block whose front is empty no posting has a trail
no_trail : (bounds : Bounds) (head : ℕ) (old new : ViewState) → Viewed old new
    → (HasKeyIn new.image head 0 (2 ^ 32) → ⊥)
    → (at : ℕ) (p : PostingFields) → HasBoundedTrail bounds old head at p → ⊥
no_trail bounds head old new viewed none at p (here _ place is below front) =
    let now = front_on viewed.image front in
    none (record {
      place = place;
      p = p;
      in_places = below;
      in_front = now;
      from = omega arith;
      below =
          (front_holds now).is.fits.0;
    })
no_trail bounds head old new viewed none at p (on _ target hop rest) =
    let now = front_on viewed.image hop.full in
    none (record {
      place = 127;
      p = hop.greatest;
      in_places = omega arith;
      in_front = now;
      from = omega arith;
      below = (front_holds now).is.fits.0;
    })

-- a search from a list's first block, by its answer
module _ (bounds : Bounds) (head x : ℕ) (old new : ViewState) where
  pub finds_entry : (e : Entry) → SearchesBlock bounds head x 0 (2 ^ 32) 8 old new (Ok (Found e))
      → FindsGeq bounds head x old new (Ok (Some e))
  finds_entry e search = record {
    viewed = search.viewed;
    reads = omega (arith, search.reads);
    ends = (search.ends.0, search.ends.2, λ tells. let found = search.ends.3 tells in (found.0, found.1, found.2));
  }

  pub finds_nothing : SearchesBlock bounds head x 0 (2 ^ 32) 8 old new (Ok Nothing)
      → FindsGeq bounds head x old new (Ok None)
  finds_nothing search = record {
    viewed = search.viewed;
    reads = omega (arith, search.reads);
    ends = λ tells at p trail asked. search.ends tells at p trail asked (trail_fits trail);
  }

  pub finds_no_key : SearchesBlock bounds head x 0 (2 ^ 32) 8 old new (Ok NoKey)
      → FindsGeq bounds head x old new (Ok None)
  finds_no_key search = record {
    viewed = search.viewed;
    reads = omega (arith, search.reads);
    ends = λ tells at p trail asked. no_trail bounds head old new search.viewed (search.ends tells) at p trail;
  }

  pub finds_fault : (fault : Fault) → bounds.edge ≤ old.cells
      → SearchesBlock bounds head x 0 (2 ^ 32) 8 old new (Err fault) → FindsGeq bounds head x old new (Err fault)
  finds_fault Failed edge search = record {
    viewed = search.viewed;
    reads = omega (arith, search.reads);
    ends =
        search.ends;
  }
  finds_fault (Tampered e) edge search = record {
    viewed = search.viewed;
    reads = omega (arith, search.reads);
    ends = (
      search.ends.0,
      λ tells. licensed new.cells new.image bounds head e
          (omega (arith, edge, search.viewed.cells)) (search.ends.1 tells),
    );
  }

-- a search behind a look that found nothing
module _ (bounds : Bounds) (head x : ℕ) (old mid new : ViewState) (viewed : Viewed old mid)
    (reads : mid.base.reads ≤ old.base.reads + 128) where
  told : IsTrue old.base.tells → IsTrue mid.base.tells
  told tells = subst IsTrue (sym viewed.called.tells) tells

  ends_behind : (result : Result (Option Entry) Fault) → FindEntryEnds bounds head x mid new result
      → FindEntryEnds bounds head x old new result
  ends_behind (Ok (Some e)) ends = (
    ends.0,
    entry_then old mid e viewed ends.1,
    λ tells.
        let found = ends.2 (told tells) in (
          found.0,
          λ at p trail asked. found.1 at p (trail_then bounds head at p old mid viewed trail) asked,
          found.2,
        ),
  )
  ends_behind (Ok None) ends =
      λ tells at p trail asked. ends (told tells) at p (trail_then bounds head at p old mid viewed trail) asked
  ends_behind (Err Failed) ends = rose_later _ _ _ viewed.called.faults ends
  ends_behind (Err (Tampered e)) ends = (ends.0, λ tells. ends.1 (told tells))

  pub finds_behind : (result : Result (Option Entry) Fault) → new.base.reads ≤ mid.base.reads + 3600
      → FindsGeq bounds head x mid new result → FindsGeq bounds head x old new result
  finds_behind result few finds = record {
    viewed = viewed_then viewed finds.viewed;
    reads = omega (arith, reads, few);
    ends = ends_behind result finds.ends;
  }
