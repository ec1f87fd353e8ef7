-- A posting and a pointer to it, planned one after the other.
use Rattle.std.proofs.Common.{◌≡◌, ◌+◌, ℕ, Some, Ok, Err, refl, sym, ◌∙◌}
use Rattle.std.proofs.lemmas.Option.{none-some}
use Rattle.cell_types.specs.declared.record_cell.RecordCell.TheVariants.{Jump}
use Rattle.cell_types.specs.declared.refusal.Fault.TheVariants.{Tampered, Failed}
use Rattle.volume_meaning.specs.Blocks.{PostingFields, posting_record}
use Rattle.cell_pool.specs.declared.fault.GrowthFault.{GrowthFault}
use Rattle.cell_pool.specs.declared.fault.GrowthFault.TheVariants.{Fault, NoMemory}
use Rattle.worm_device.specs.Views.{ViewState}
use Rattle.worm_device.specs.declared.owner.Owner.{Owner}
use Rattle.jump_insertion.specs.Planning.{BothEnds, PutsBoth, PutsRecord}
use Rattle.jump_insertion.specs.declared.entries.Spot.{Spot}

module _ (spot : Spot) (pointer : ℕ) (p : PostingFields) (owner home_owner : Owner) where
  -- the posting's cell was planned already
  pub first_refused : (old new : ViewState) (fault : GrowthFault)
      → PutsRecord (spot.block + spot.place) (posting_record p) owner old new (Err fault)
      → PutsBoth spot pointer p owner home_owner old new (Err fault)
  first_refused old new fault put = record {
    cells = put.cells;
    lower = put.lower;
    fresh = put.fresh;
    base = put.base;
    loans = put.loans;
    ends = why fault put;
  } where
    why : (fault : GrowthFault) → PutsRecord (spot.block + spot.place) (posting_record p) owner old new (Err fault)
        → BothEnds spot pointer p owner home_owner old new (Err fault)
    why (Fault Failed) put = put.ends
    why (Fault (Tampered e)) put = λ free free_pointer differ. none-some e.found (sym free ∙ put.ends.planned)
    why (NoMemory lack) put = tt

  -- the pointer's was, or is the posting's
  pub second_refused : (old mid new : ViewState) (fault : GrowthFault)
      → PutsRecord (spot.block + spot.place) (posting_record p) owner old mid (Ok tt)
      → PutsRecord pointer (Jump spot.block) home_owner mid new (Err fault)
      → PutsBoth spot pointer p owner home_owner old new (Err fault)
  second_refused old mid new fault put led = record {
    cells = led.cells ∙ put.cells;
    lower = led.lower ∙ put.lower;
    fresh = led.fresh ∙ put.fresh;
    base = led.base ∙ put.base;
    loans = led.loans ∙ put.loans;
    ends = why fault led;
  } where
    why : (fault : GrowthFault) → PutsRecord pointer (Jump spot.block) home_owner mid new (Err fault)
        → BothEnds spot pointer p owner home_owner old new (Err fault)
    why (Fault Failed) led = led.ends
    why (Fault (Tampered e)) led = λ free free_pointer differ.
        none-some e.found (sym free_pointer ∙ sym (put.others pointer (λ same. differ (sym same))).1 ∙ led.ends.planned)
    why (NoMemory lack) led = tt

  pub both_put : (old mid new : ViewState)
      → PutsRecord (spot.block + spot.place) (posting_record p) owner old mid (Ok tt)
      → PutsRecord pointer (Jump spot.block) home_owner mid new (Ok tt)
      → PutsBoth spot pointer p owner home_owner old new (Ok (Some spot))
  both_put old mid new put led = record {
    cells = led.cells ∙ put.cells;
    lower = led.lower ∙ put.lower;
    fresh = led.fresh ∙ put.fresh;
    base = led.base ∙ put.base;
    loans = led.loans ∙ put.loans;
    ends = (refl, record { mid = mid; posting = put; jump = led });
  }
