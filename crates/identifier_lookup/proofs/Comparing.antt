-- Comparing the document of a candidate's slot, over plain values.
use Rattle.std.proofs.Common.{◌<◌, ◌≤◌, ◌+◌, inr, ℕ, List, Bool, true, false, Option, Some, None, Result, Ok, Err, refl, arith}
use Rattle.cell_types.specs.Layout.{Layout}
use Rattle.cell_types.specs.declared.refusal.Fault.{Fault}
use Rattle.cell_types.specs.declared.refusal.Fault.TheVariants.{Tampered, Failed}
use Rattle.volume_meaning.specs.Slots.{cells_for}
use Rattle.volume_meaning.proofs.Extending.{done_on}
use Rattle.worm_device.specs.Views.{ViewState, Viewed}
use Rattle.worm_device.proofs.Resting.{viewed_then}
use Rattle.commit_record.specs.States.{stamp_cells}
use Rattle.document_store.specs.Looks.{PartEnds, SameEnds}
use Rattle.document_store.specs.declared.part.Part.{Part}
use Rattle.document_store.proofs.Checking.{found_part, has_part_on, same_then}
use Rattle.identifier_lookup.specs.Candidates.{CompareEnds, Compares}
use Rattle.identifier_lookup.specs.declared.candidates.Named.{Named}

-- what the answer to whether it is the same makes of the part
abbrev pub answer_of : Part → Result Bool Fault → Result (Option Part) Fault
answer_of part (Ok true) = Ok (Some part)
answer_of part (Ok false) = Ok None
answer_of part (Err fault) = Err fault

-- the slot is done, and its document was compared
pub compared : (g : Layout) (horizon : ℕ) (named : Named) (id : List ℕ) (old mid new : ViewState) (part : Part)
    → Viewed old mid → PartEnds g named.slot old mid (Ok (Some part)) → named.slot < horizon → horizon ≤ g.slots
    → Viewed mid new → (result : Result Bool Fault) → SameEnds g part.slot id mid new result
    → mid.base.reads ≤ old.base.reads + (3 + stamp_cells g) → new.base.reads ≤ mid.base.reads + cells_for part.bytes
    → Compares g horizon named id old new (answer_of part result)
compared g horizon named id old mid new part looked found less most after result ends before cells = record {
  viewed = viewed_then looked after;
  costs = record {
    cells = cells_for part.bytes;
    reads = omega (arith, before, cells);
    are = λ tells. let there = found.3 tells in inr (record {
      start = there.first;
      reserved = there.reserved;
      bytes = part.bytes;
      journal = part.journal;
      done = done_on after.image there.done;
      is = refl;
    });
  };
  ends = compare result (same_then g named.slot old mid new part looked after found id result ends);
} where
  compare : (result : Result Bool Fault) → SameEnds g named.slot id old new result
      → CompareEnds g horizon named id old new (answer_of part result)
  compare (Ok true) ends = (
    less,
    ends.0,
    ends.1,
    found.0,
    has_part_on g mid new part after (found_part g named.slot old mid part looked found (omega (arith, less, most))),
  )
  compare (Ok false) ends = (less, ends.0, ends.1)
  compare (Err Failed) ends = ends
  compare (Err (Tampered e)) ends = inr ends
