-- What stood when a planned moment came, and what others have written since a command began: read off the record.
use Rattle.std.specs.Prelude.{◌==◌, ◌&&◌, ◌++◌, if◌then◌else◌, is_none, ℕ, Bool, false, true, List, [], ◌∷◌, Option}
use Rattle.std.specs.List.{list_any}
use Rattle.worm_memory.specs.Plans.{is_past, is_reached}
use Rattle.worm_memory.specs.Worlds.{world}
use Rattle.worm_memory.specs.declared.change.Change.{Change}
use Rattle.worm_memory.specs.declared.change.Change.TheVariants.{Wrote, Foreign, Synced, Lost, Crashed}
use Rattle.worm_memory.specs.declared.mark.CallNumbers.{CallNumbers}
use Rattle.worm_memory.specs.declared.moment.Moment.{Moment}
use Rattle.worm_memory.specs.declared.moment.Timed.{Timed}

-- Of these changes, of which each was made in the call of these numbers: those that were made before the moment came.
abbrev pub made_before : Moment → List Change → List CallNumbers → List Change
made_before moment [] made_in = []
made_before moment (change ∷ changes) [] = []
made_before moment (change ∷ changes) (numbers ∷ made_in) =
    if is_past moment numbers.steps numbers.calls then [] else change ∷ made_before moment changes made_in

-- what stood in a cell when the moment came, in a command that began behind these changes
abbrev pub stood_at : Moment → ℕ → List Change → List Change → List CallNumbers → Option (List ℕ)
stood_at moment at begun changes made_in = (world (begun ++ made_before moment changes made_in)).image at

-- somebody else wrote this cell
abbrev pub is_others_write : ℕ → Change → Bool
is_others_write at (Wrote cell value) = false
is_others_write at (Foreign cell value) = at == cell
is_others_write at Synced = false
is_others_write at (Lost cell) = false
is_others_write at Crashed = false

-- If the moment of a planned foreign write was reached, and its cell was blank then, somebody else has written it.
abbrev pub made_if_blank : ℕ → ℕ → List Change → List Change → List CallNumbers → Timed → Bool
made_if_blank steps calls begun changes made_in timed =
    if is_reached steps calls timed.before && is_none (stood_at timed.before timed.at begun changes made_in)
    then list_any (is_others_write timed.at) changes
    else true
