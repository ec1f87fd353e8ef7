-- What each step of an insertion does, in the words of its parts.
use Rattle.std.specs.Prelude.{ℕ, Option, Result}
use Rattle.cell_types.specs.declared.refusal.Fault.{Fault}
use Rattle.volume_meaning.specs.Blocks.{pointer_at}
use Rattle.cell_pool.specs.declared.fault.GrowthFault.{GrowthFault}
use Rattle.worm_device.specs.Views.{ViewState}
use Rattle.jump_insertion.specs.Hopping.{FindsTail, TargetCheckEnds}
use Rattle.jump_insertion.specs.Placing.{GrowEnds, PlacesPosting, PlannedEnds}
use Rattle.jump_insertion.specs.Planning.{PutsBoth}
use Rattle.jump_insertion.specs.declared.entries.Home.{Home}
use Rattle.jump_insertion.specs.declared.entries.Insertion.{Insertion}
use Rattle.jump_insertion.specs.declared.entries.ListWalk.{ListWalk}
use Rattle.jump_insertion.specs.declared.entries.Spot.{Spot}
use Rattle.jump_insertion.specs.declared.entries.TailSearch.{TailSearch}
use Rattle.jump_insertion.specs.declared.entries.Visit.{Visit}
use Rattle.jump_insertion.specs.declared.entries.WrittenPointer.{WrittenPointer}

-- how an insertion from a visit on ends, where the pool's next cell is this one then
abbrev pub PlacesFrom : Insertion → Visit → ℕ → ViewState → ViewState → Result (Option Spot) GrowthFault → Type 0
PlacesFrom insertion visit to old new result =
    PlacesPosting insertion.list.head insertion.list.floor to visit.block insertion.entry visit.within.low
    visit.within.high old new result

-- what it adds to the list, where nobody else wrote
abbrev pub GrowsFrom : Insertion → Visit → ℕ → ℕ → ViewState → ViewState → Result (Option Spot) GrowthFault → Type 0
GrowsFrom insertion visit next to old new result =
    GrowEnds insertion.list.floor next to visit.block insertion.entry old new result

-- which cells it plans
abbrev pub PlansCells : Insertion → ℕ → ℕ → ViewState → ViewState → Result (Option Spot) GrowthFault → Type 0
PlansCells insertion next to old new result =
    PlannedEnds insertion.list.head insertion.list.floor next to insertion.entry old new result

-- planning the posting at this place, and a pointer to its block in the home
abbrev pub PutsWithPointer : Insertion → Home → Spot → ViewState → ViewState → Result (Option Spot) GrowthFault → Type 0
PutsWithPointer insertion home spot old new result =
    PutsBoth spot (pointer_at home.visit.block home.to.level home.to.digit) insertion.entry
    (record { head = insertion.list.head; base = spot.block })
    (record { head = insertion.list.head; base = home.visit.block }) old new result

-- whether a walk may go on by a pointer
abbrev pub ChecksTarget : ListWalk → WrittenPointer → ViewState → Result Unit Fault → Type 0
ChecksTarget walk pointer s result =
    TargetCheckEnds walk.list.head walk.list.floor walk.next walk.key pointer.block pointer.span pointer.target s result

-- what a search for the tail finds
abbrev pub SearchesTail : TailSearch → ViewState → ViewState → Result (Option Spot) Fault → Type 0
SearchesTail search old new result =
    FindsTail search.walk.list.head search.walk.list.floor search.walk.next search.walk.key search.home old new result
