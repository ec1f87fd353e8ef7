-- Looks behind later pointers, over plain values.
use Rattle.std.proofs.Common.{◌≡◌, ◌<◌, ◌≤◌, ◌+◌, ◌*◌, ⊎_elim, inr, ℕ, Option, Some, None, Result, Ok, Err, refl, ap, sym, subst, arith, ◌∙◌}
use Rattle.std.specs.Prelude.{IsTrue}
use Rattle.std.proofs.lemmas.Bool.{cases_lt}
use Rattle.std.proofs.lemmas.Option.{none-some}
use Rattle.std.proofs.Math.Nat.{one-le-pow}
use Rattle.cell_types.specs.declared.refusal.Fault.{Fault}
use Rattle.cell_types.specs.declared.refusal.Fault.TheVariants.{Tampered, Failed}
use Rattle.volume_meaning.proofs.Extending.{holds_on}
use Rattle.volume_meaning.specs.Blocks.{PostingFields, Trail, arrived, pointer_at}
use Rattle.volume_meaning.proofs.Trails.{trail_on}
use Rattle.worm_device.specs.Views.{ViewState, Viewed}
use Rattle.worm_device.proofs.Resting.{viewed_then}
use Rattle.jump_block.specs.Pointers.{ReadsPointer}
use Rattle.jump_block.specs.Spans.{IsSpan}
use Rattle.jump_block.specs.declared.held_entry.Entry.{Entry}
use Rattle.jump_block.specs.declared.spans.Span.{Span}
use Rattle.jump_block.proofs.Counting.{rose_later}
use Rattle.jump_index.specs.Evidence.{no_jump, bad_pointer, FaultShows}
use Rattle.jump_block.specs.Pointing.{HasFull}
use Rattle.jump_index.specs.Looking.{LooksBehind, LooksLater, PassesNone}
use Rattle.jump_index.specs.Searches.{HasBoundedTrail, IsListEntry}
use Rattle.jump_index.specs.declared.bounds.Bounds.{Bounds}
use Rattle.jump_index.proofs.Passing.{goes_through}

-- a search's fault is one of a longer row of calls
pub fault_then : (bounds : Bounds) (block : ℕ) (old mid new : ViewState) → Viewed old mid → (fault : Fault)
    → FaultShows bounds block mid new fault → FaultShows bounds block old new fault
fault_then bounds block old mid new viewed Failed ends = rose_later _ _ _ viewed.called.faults ends
fault_then bounds block old mid new viewed (Tampered e) ends =
    (ends.0, λ tells. ends.1 (subst IsTrue (sym viewed.called.tells) tells))

-- a trail stays over a row of calls
pub trail_then : (bounds : Bounds) (block at : ℕ) (p : PostingFields) (old new : ViewState) → Viewed old new
    → HasBoundedTrail bounds old block at p → HasBoundedTrail bounds new block at p
trail_then bounds block at p old new viewed trail =
    let P : ℕ → Type 0 = λ n. Trail new.image bounds.pool n at p block in
    subst P (sym viewed.cells) (trail_on viewed.image trail)

-- a device has the cells that it had
pub entry_then : (old mid : ViewState) (e : Entry) → Viewed old mid → IsListEntry mid.cells e → IsListEntry old.cells e
entry_then old mid e viewed is = record {
  inside = omega (arith, is.inside, viewed.cells);
  place = is.place;
  last
      = is.last;
}

-- up to the end of this span no posting past the key has a trail
pub record LaterSoFar (bounds : Bounds) (block l past : ℕ) (old new : ViewState) (span : Span) : Type 0 where
  pub viewed : Viewed old new
  pub is : IsSpan l span
  pub past_it : past ≤ span.high
  pub reads : new.base.reads ≤ old.base.reads + (15 * span.level + span.digit)
  pub nothing : IsTrue old.base.tells → PassesNone bounds block past span.high old

pub span_is_wide : {l : ℕ} {s : Span} → IsSpan l s → s.low < s.high
span_is_wide {l} {s} is = omega (arith, is.high, one-le-pow s.level 16 (omega arith))

module _ (bounds : Bounds) (block l past : ℕ) (old mid new : ViewState) (span next : Span)
    (full : IsTrue old.base.tells → HasFull old.image block l)
    (so_far : LaterSoFar bounds block l past old mid span) (is : IsSpan l next) (follows : next.low ≡ span.high)
    (place : 15 * next.level + next.digit ≡ 15 * span.level + span.digit + 1) where
  told : IsTrue old.base.tells → IsTrue mid.base.tells
  told tells = subst IsTrue (sym so_far.viewed.called.tells) tells

  pub pointer_fault : (bound : ℕ) (fault : Fault) → ReadsPointer (pointer_at block next.level next.digit) mid new
      (Err fault) → LooksLater bounds block l past bound old new (Err fault)
  pointer_fault bound Failed read = record {
    viewed = viewed_then so_far.viewed read.viewed;
    reads = omega (arith, so_far.reads, read.reads, so_far.is.levels, so_far.is.digits);
    ends = rose_later _ _ _ so_far.viewed.called.faults read.ends;
  }
  pointer_fault bound (Tampered e) read = record {
    viewed = viewed_then so_far.viewed read.viewed;
    reads = omega (arith, so_far.reads, read.reads, so_far.is.levels, so_far.is.digits);
    ends = (
      inr read.ends.0,
      λ tells.
          let bad = read.ends.2 (told tells) in
          bad_pointer block next.level next.digit (arrived block refl) read.ends.0
          (record { levels = is.levels; some = is.some; digits = is.digits }) read.ends.1
          (ap new.image read.ends.1 ∙ bad.stands) (no_jump bad),
    );
  }

  pub blank_pointer : ReadsPointer (pointer_at block next.level next.digit) mid new (Ok None)
      → LaterSoFar bounds block l past old new next
  blank_pointer read = record {
    viewed = viewed_then so_far.viewed read.viewed;
    is = is;
    past_it = omega (arith, so_far.past_it, follows, span_is_wide is);
    reads = omega (arith, so_far.reads, read.reads, place);
    nothing = λ tells at p trail asked below.
        ⊎_elim
        (λ before. so_far.nothing tells at p trail asked before)
        (λ from.
        let through = goes_through old.image bounds.pool old.cells at l block p next (full tells) is
        (omega (arith, follows)) below trail in
        let jump = holds_on read.viewed.image (holds_on so_far.viewed.image through.jump) in
        none-some _ (sym (read.ends (told tells)) ∙ jump.stands))
        (cases_lt p.key span.high);
  }

  pub written_pointer : (target bound : ℕ) (last : ViewState) (result : Result (Option Entry) Fault)
      → ReadsPointer (pointer_at block next.level next.digit) mid new (Ok (Some target))
      → LooksBehind bounds block l next target new last result → LooksLater bounds block l past bound old last result
  written_pointer target bound last (Ok (Some e)) read behind = record {
    viewed = viewed_then so_far.viewed (viewed_then read.viewed behind.viewed);
    reads = omega (arith, so_far.reads, read.reads, behind.reads, so_far.is.levels, so_far.is.digits);
    ends = (
      omega (arith, behind.ends.0, follows, so_far.past_it),
      entry_then old new e (viewed_then so_far.viewed read.viewed) behind.ends.2,
      λ tells.
          let found = behind.ends.3 (subst IsTrue (sym read.viewed.called.tells) (told tells)) in (
            found.0,
            λ at p trail asked. ⊎_elim
                (λ before. absurd (so_far.nothing tells at p trail asked before))
                (λ from. found.1 at p (trail_then bounds block at p mid new read.viewed
                (trail_then bounds block at p old mid so_far.viewed trail)) (omega (arith, follows)))
                (cases_lt p.key span.high),
          ),
    );
  }
  written_pointer target bound last (Ok None) read behind = absurd behind.ends
  written_pointer target bound last (Err fault) read behind = record {
    viewed = viewed_then so_far.viewed (viewed_then read.viewed behind.viewed);
    reads = omega (arith, so_far.reads, read.reads, behind.reads, so_far.is.levels, so_far.is.digits);
    ends = fault_then bounds block old new last (viewed_then so_far.viewed read.viewed) fault behind.ends;
  }
