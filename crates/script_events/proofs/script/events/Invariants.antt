use Rattle.std.proofs.Common.{◌≡◌, take}
use Rattle.serde_json.specs.View.{items_view}
use Rattle.script_events.specs.Grammar.{SaysEvent}
use Rattle.script_events.specs.Json.{AreItems}
use Rattle.script_events.proofs.script.events.Given as goal

-- those found so far are the first items, and are counted
abbrev pub invariant-loop-value : goal.invariant-loop-value
invariant-loop-value l =
    record {
      found : AreItems (SaysEvent l.cells l.version) l.found.items (items_view (take l.value-index l.value-items));
      counted : l.passed ≡ l.value-index;
    }
