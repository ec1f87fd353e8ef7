-- What is returned stands, and matches.
use Rattle.std.proofs.Common.{◌≡◌, ℕ, List, [], Option, Some, refl, sym, subst}
use Rattle.std.specs.Prelude.{Contains}
use Rattle.volume_meaning.specs.Documents.{Stands}
use Rattle.worm_device.specs.State.{DeviceState}
use Rattle.worm_memory.specs.Memory.{Memory, device_of}
use Rattle.host_ports.specs.Sinks.{Gets}
use Rattle.record_query.specs.Finding.{IsMatch, MatchesRise}
use Rattle.record_query.specs.declared.found.Match.{Match}
use Rattle.hostile_replay.specs.Headline.{ReturnedStand, ReturnsStanding, StandsAndMatches}
use Rattle.hostile_replay.specs.Turns.{BodyAnswered, Turns}
use Rattle.script_events.specs.declared.event.Event.{Event}
use Rattle.script_events.specs.declared.event.Event.TheVariants as event
use Rattle.script_replies.specs.declared.reply.Reply.{Reply}
use Rattle.script_replies.specs.declared.reply.Reply.TheVariants as reply
use Rattle.hostile_replay.proofs.Along.{split}

-- a sink that held nothing holds just what it got
got : {from to : Option (List ℕ)} {held body : List ℕ} → from ≡ Some [] → to ≡ Some held → Gets from to body
    → held ≡ body
got {from} {to} {held} {body} empty holds gets =
    subst (λ (o : Option (List ℕ)). Gets (Some []) o body) holds
    (subst (λ (o : Option (List ℕ)). Gets o to body) empty gets)

pub body_is : {id : List ℕ} {old new : DeviceState} {slot : ℕ} {body : List ℕ} (a : BodyAnswered id old new slot body)
    → body ≡ a.looks.ends.body
body_is a = got a.empty a.held a.looks.ends.gets

-- a match of a search stands, and has the terms
match_stands : {terms : List (List ℕ)} {s : DeviceState} {found : Match} → IsMatch s.cells s.image terms found
    → StandsAndMatches s terms found
match_stands m = record { body = m.body; stands = m.stands; bytes_is = m.bytes_is; has = m.has }

turn_stands : (e : Event) (r : Reply) (old new : Memory) → Turns e r old new → ReturnsStanding e r (device_of new)
turn_stands (event.Find terms plan) (reply.Found matches) old new t =
    let finds = t.answers.searches.ends refl in
    subst (λ (l : List Match). ((found : Match) → Contains l found → StandsAndMatches (device_of new) terms found)
    × MatchesRise 0 l)
    (sym t.answers.matches_are) (λ found among. match_stands (finds.only found among), finds.rise)
turn_stands (event.Lookup id plan) (reply.Body slot body) old new t =
    let a = t.answers in
    let first = (a.looks.ends.first refl).first in
    subst (λ (n : ℕ). Stands new.cells (device_of new).image n id body) (sym a.slot_is)
    (subst (λ (b : List ℕ). Stands new.cells (device_of new).image a.found.slot id b) (sym (body_is a)) first.stands)
turn_stands e r old new t = tt

pub returned_stand : ReturnedStand
returned_stand from to before after t leads =
    turn_stands t.event t.reply t.old t.new (split from to before after t leads).turns
