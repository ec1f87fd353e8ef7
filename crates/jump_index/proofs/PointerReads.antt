-- Reading a pointer that is to lie within the bounds, over plain values.
use Rattle.std.proofs.Common.{◌<◌, ◌≤◌, ◌+◌, ◌⊎◌, inr, ℕ, Some, Ok, Err, refl, ap, ◌∙◌}
use Rattle.cell_types.specs.declared.refusal.Fault.{Fault}
use Rattle.cell_types.specs.declared.refusal.Fault.TheVariants.{Tampered, Failed}
use Rattle.volume_meaning.specs.Blocks.{arrived, pointer_at}
use Rattle.worm_device.specs.Views.{ViewState}
use Rattle.jump_block.specs.Pointers.{ReadsPointer}
use Rattle.jump_block.specs.declared.spans.Span.{Span}
use Rattle.jump_index.specs.Evidence.{bad_pointer, no_jump, outside}
use Rattle.jump_block.specs.Pointing.{IsPointerEvidence}
use Rattle.jump_index.specs.Looking.{FirstPointer}
use Rattle.jump_index.specs.declared.bounds.Bounds.{Bounds}
use Rattle.jump_index.proofs.Behind.{shows_pointer}

module _ (bounds : Bounds) (block : ℕ) (s : Span) (old new : ViewState) (levels : s.level < 8)
    (some : 1 ≤ s.digit) (digits : s.digit ≤ 15) where
  -- no jump cell
  pub first_fault : (fault : Fault) → ReadsPointer (pointer_at block s.level s.digit) old new (Err fault)
      → FirstPointer bounds block s old new (Err fault)
  first_fault Failed read = record { viewed = read.viewed; reads = read.reads; ends = read.ends }
  first_fault (Tampered e) read = record {
    viewed = read.viewed;
    reads = read.reads;
    ends = (
      inr read.ends.0,
      λ tells.
          let bad = read.ends.2 tells in
          bad_pointer block s.level s.digit (arrived block refl) read.ends.0
          (record { levels = levels; some = some; digits = digits }) read.ends.1
          (ap new.image read.ends.1 ∙ bad.stands) (no_jump bad),
    );
  }

  -- a target outside the bounds
  pub first_outside : (target : ℕ) (fault : Fault) → (target < bounds.pool) ⊎ (bounds.edge < target + 256)
      → ReadsPointer (pointer_at block s.level s.digit) old new (Ok (Some target))
      → IsPointerEvidence block s.level s.digit target fault → FirstPointer bounds block s old new (Err fault)
  first_outside target Failed out read names = absurd names
  first_outside target (Tampered e) out read names = record {
    viewed = read.viewed;
    reads = read.reads;
    ends = (
      inr names.0,
      λ tells. shows_pointer bounds new.image block s.level s.digit target e
          (record { levels = levels; some = some; digits = digits }) (read.ends tells) names
          (outside target (read.ends tells) out),
    );
  }
