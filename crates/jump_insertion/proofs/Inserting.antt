-- What an insertion from the list's first block is for the list.
use Rattle.std.proofs.Common.{◌≤◌, ◌+◌, ℕ, Some, None, Ok, Err, refl, arith}
use Rattle.cell_types.specs.declared.refusal.Fault.TheVariants.{Tampered, Failed}
use Rattle.volume_meaning.specs.Blocks.{PostingFields, arrived}
use Rattle.worm_device.specs.Views.{ViewState, IsView}
use Rattle.jump_block.specs.declared.held_entry.Entry.{Entry}
use Rattle.cell_pool.specs.declared.fault.GrowthFault.{GrowthFault}
use Rattle.cell_pool.specs.declared.fault.GrowthFault.TheVariants.{Fault, NoMemory}
use Rattle.jump_insertion.specs.Hopping.{IsAt}
use Rattle.jump_insertion.specs.Inserting.{InsertsPosting}
use Rattle.jump_insertion.specs.Placing.{PlacesPosting, GrowEnds, HasPlanned}
use Rattle.jump_insertion.specs.Readiness.{stands_below, IsReadyList}
use Rattle.jump_insertion.specs.declared.entries.Spot.{Spot}
use Rattle.jump_insertion.proofs.Growing.{grows_well}
use Rattle.jump_insertion.proofs.Unshown.{not_shown}

-- an insertion begins at the list's first block
pub at_head : (s : ViewState) (head floor next key : ℕ) → head + 256 ≤ floor → floor ≤ s.fresh
    → IsReadyList s head floor next key → IsAt s head floor next key head
at_head s head floor next key before roomy ready = record {
  ready = ready;
  own_block = ready.first;
  reached = stands_below (omega (arith, before, roomy)) (arrived head refl);
}

-- the entry of a place
abbrev pub entry_at : Spot → PostingFields → Entry
entry_at spot p = record { block = spot.block; place = spot.place; key = p.key; last = p.last; tag = p.tag }

pub inserted : (head floor next to low bound : ℕ) (p : PostingFields) (old new : ViewState) (spot : Spot) → floor ≤ next
    → PlacesPosting head floor to head p low bound old new (Ok (Some spot))
    → GrowEnds floor next to head p old new (Ok (Some spot)) → HasPlanned head floor next to p spot old new
    → InsertsPosting head floor next to p old new (Ok (entry_at spot p))
inserted head floor next to low bound p old new spot roomy placed grown planned = record {
  called = placed.called;
  cells = placed.cells;
  fresh = placed.fresh;
  loans = placed.loans;
  lower = placed.lower;
  quiet = placed.quiet;
  ends = (
    refl,
    planned.in_places,
    planned.before,
    planned.planned,
    planned.free,
    λ tells.
        let done = placed.ends tells in
        record {
          shown = done.shown;
          trail = done.trail;
          ready = done.ready;
          grows = λ still well. let g = grown tells still in (grows_well well roomy g.1, g);
        },
  );
}

pub refused : (head floor next to low bound : ℕ) (p : PostingFields) (old new : ViewState) (fault : GrowthFault)
    → IsView new
    → PlacesPosting head floor to head p low bound old new (Err fault)
    → InsertsPosting head floor next to p old new (Err fault)
refused head floor next to low bound p old new (Fault Failed) view placed = record {
  called = placed.called;
  cells = placed.cells;
  fresh = placed.fresh;
  loans = placed.loans;
  lower = placed.lower;
  quiet = placed.quiet;
  ends = placed.ends.0;
}
refused head floor next to low bound p old new (Fault (Tampered e)) view placed = record {
  called = placed.called;
  cells = placed.cells;
  fresh = placed.fresh;
  loans = placed.loans;
  lower = placed.lower;
  quiet = placed.quiet;
  ends = λ tells. (
    placed.ends.0 tells,
    λ still below. not_shown new view head floor p.key below e (placed.ends.0 tells),
    placed.ends.1 tells,
  );
}
refused head floor next to low bound p old new (NoMemory lack) view placed = record {
  called = placed.called;
  cells = placed.cells;
  fresh = placed.fresh;
  loans = placed.loans;
  lower = placed.lower;
  quiet = placed.quiet;
  ends = tt;
}
