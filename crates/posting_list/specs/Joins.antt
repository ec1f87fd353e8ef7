-- What the join of the lists of terms answers.
use Rattle.std.specs.Prelude.{◌≤◌, ◌+◌, ◌*◌, ℕ, List, length, map, Contains, Option, Result, Ok, Err, ⊤}
use Rattle.std.specs.Global.{Vec}
use Rattle.cell_types.specs.Layout.{Layout}
use Rattle.cell_types.specs.declared.geometry.TheConstants.{MAX_SLOTS}
use Rattle.cell_types.specs.declared.refusal.Fault.{Fault}
use Rattle.cell_types.specs.declared.refusal.Fault.TheVariants as faults
use Rattle.cell_types.specs.declared.refusal.Refusal.{Refusal}
use Rattle.cell_types.specs.declared.refusal.Refusal.TheVariants.{DeviceFault, NoMemory, Tampered}
use Rattle.worm_device.specs.Counts.{IsStill}
use Rattle.worm_device.specs.Views.{ViewState}
use Rattle.zigzag_join.specs.Counts.{GatherCosts, HaveAllSlots, JoinCosts}
use Rattle.zigzag_join.specs.Gathering.{Gathers}
use Rattle.zigzag_join.specs.Joins.{JoinEnds}
use Rattle.zigzag_join.specs.Lists.{ListsFaultEnds, ListsState}
use Rattle.document_store.specs.Looks.{HasPart}
use Rattle.document_store.specs.declared.part.Part.{Part}
use Rattle.posting_list.specs.States.{counted_lists, lists_over}
use Rattle.posting_list.specs.declared.has_slot.TheConstants.{HAS_READS}
use Rattle.posting_list.specs.declared.next_slot.TheConstants.{NEXT_READS}
use Rattle.posting_list.specs.declared.reach.Reach.{Reach}
use Rattle.posting_list.specs.declared.sought_term.SoughtTerm.{SoughtTerm}

-- a join over the lists of these terms may end so; how the loan was called is all one
pub record TermsJoin (r : Reach) (terms : List SoughtTerm) (from : ℕ) (old new : ViewState)
    (result : Result (Option ℕ) Fault) : Type 0 where
  pub ends : JoinEnds from (lists_over r terms 0 old) (lists_over r terms 0 new) result

-- A join over the lists of these terms costs at most so much, where next slots and slots were asked for so often before
-- it and so often after it: the postings of any one term bound it.
pub record TermsCost (r : Reach) (terms : List SoughtTerm) (from : ℕ) (old new : ViewState)
    (next_before has_before next_after has_after : ℕ) (result : Result (Option ℕ) Fault) : Type 0 where
  pub costs : JoinCosts from (counted_lists r terms 0 old next_before has_before)
      (counted_lists r terms 0 new next_after has_after) result

-- the slots of these parts
abbrev pub slots_of : List Part → List ℕ
slots_of parts = map (λ (part : Part). part.slot) parts

-- each of these is where a slot's document lies
abbrev pub HaveParts : Layout → ViewState → List Part → Type 0
HaveParts g s parts = (part : Part) → Contains parts part → HasPart g s part

-- how gathering slots, each by where its document lies, may end, and why
abbrev pub GatherPartsEnds : Layout → ListsState → ListsState → Result (Vec Part) Refusal → Type 0
GatherPartsEnds g old new (Ok parts) = Gathers old new (slots_of parts.items) × HaveParts g new.view parts.items
GatherPartsEnds g old new (Err (Tampered e)) = ListsFaultEnds old new (faults.Tampered e)
GatherPartsEnds g old new (Err DeviceFault) = ListsFaultEnds old new faults.Failed
GatherPartsEnds g old new (Err NoMemory) = ⊤
GatherPartsEnds g old new (Err refusal) = ⊥

-- gathering all that these terms have in common may end so
pub record TermsGather (r : Reach) (terms : List SoughtTerm) (old new : ViewState)
    (result : Result (Vec Part) Refusal) : Type 0 where
  pub ends : GatherPartsEnds r.volume.geometry (lists_over r terms 0 old) (lists_over r terms 0 new) result

-- and costs at most so much
pub record TermsGatherCost (r : Reach) (terms : List SoughtTerm) (old new : ViewState)
    (next_before has_before next_after has_after : ℕ) : Type 0 where
  pub costs : GatherCosts (counted_lists r terms 0 old next_before has_before)
      (counted_lists r terms 0 new next_after has_after)

-- how many reads it may cost to gather what so many terms have in common, where one term's postings are of so many slots
abbrev pub gather_reads : ℕ → ℕ → ℕ
gather_reads terms slots = terms * (NEXT_READS * (2 * slots + 1) + HAS_READS * slots)

-- Where nobody else wrote, gathering by lists that were not asked before costs at most so many reads, by the slots of any
-- one term's postings.
pub record TermsGatherReads (r : Reach) (terms : List SoughtTerm) (old new : ViewState) : Type 0 where
  pub reads : IsStill old.base.foreign_writes new.base.foreign_writes → (which : ℕ) → which + 1 ≤ length terms
      → (slots : List ℕ) → length slots ≤ MAX_SLOTS → HaveAllSlots (lists_over r terms 0 old) which 0 slots
      → new.base.reads ≤ old.base.reads + gather_reads (length terms) (length slots)
