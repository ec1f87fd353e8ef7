use Rattle.std.proofs.Common.{◌≡◌, map, drop}
use Rattle.script_events.specs.Json.{is_name_of}
use Rattle.script_events.proofs.members.is_one_of.Given as goal

-- the name is one of those that are left exactly where it is one of all
abbrev pub invariant-loop-other : goal.invariant-loop-other
invariant-loop-other l =
    is_name_of (map (λ name. name.now) (drop l.other-index l.names)) l.name
    ≡ is_name_of (map (λ name. name.now) l.names) l.name
