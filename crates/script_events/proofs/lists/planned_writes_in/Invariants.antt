use Rattle.std.proofs.Common.{take}
use Rattle.serde_json.specs.View.{items_view}
use Rattle.script_events.specs.Grammar.{SaysTimed}
use Rattle.script_events.specs.Json.{AreItems}
use Rattle.script_events.proofs.lists.planned_writes_in.Given as goal

-- those found so far are the first items
abbrev pub invariant-loop-value : goal.invariant-loop-value
invariant-loop-value l = AreItems (SaysTimed l.cells) l.found.items (items_view (take l.value-index l.value-items))
