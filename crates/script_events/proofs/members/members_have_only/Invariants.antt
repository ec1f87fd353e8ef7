use Rattle.std.proofs.Common.{◌≡◌, map}
use Rattle.serde_json.specs.View.{members_view}
use Rattle.script_events.specs.Json.{are_named_so}
use Rattle.script_events.proofs.members.members_have_only.Given as goal

-- the members that are left have these names alone exactly where all have
abbrev pub invariant-loop-name : goal.invariant-loop-name
invariant-loop-name l =
    are_named_so (map (λ name. name.now) l.names) (members_view l.name-iterator) ≡ are_named_so (map (λ name. name.now) l.names) (members_view l.members.entries)
