-- Turns, one after another, as a replay makes them.
use Rattle.std.proofs.Common.{◌≡◌, ◌<◌, ◌+◌, ℕ, suc, List, [], ◌∷◌, ◌++◌, take, length, map, get_or, refl, sym, ap, ◌∙◌, arith}
use Rattle.std.proofs.Math.Seq.{take-suc}
use Rattle.worm_device.specs.State.{IsDevice}
use Rattle.worm_memory.specs.Memory.{Memory, device_of}
use Rattle.script_events.specs.declared.event.Event.{Event}
use Rattle.script_events.specs.declared.event.Event.TheVariants as event
use Rattle.script_replies.specs.declared.reply.Reply.{Reply}
use Rattle.script_replies.specs.declared.reply.Reply.TheVariants as reply
use Rattle.hostile_replay.specs.Turns.{Turns}
use Rattle.hostile_replay.specs.Worlds.{AreInTurn, IsWorld, Turn}

-- a world of the events so far, on a device of as many cells
pub record IsSoFar (events : List Event) (replies : List Reply) (from to : Memory) : Type 0 where
  pub world : IsWorld events replies from to
  pub cells : to.cells ≡ from.cells

pub none_so_far : (from : Memory) (events : List Event) → IsSoFar (take 0 events) [] from from
none_so_far from events =
    record { world = record { turns = []; events_are = refl; replies_are = refl; in_turn = refl }; cells = refl }

-- one turn more
in_turn_on : (from : Memory) (turns : List Turn) (mid : Memory)
    (e : Event) (r : Reply) (new : Memory)
    → AreInTurn from turns mid → IsDevice (device_of new) → Turns e r mid new
    → AreInTurn from (turns ++ record { event = e; reply = r; old = mid; new = new } ∷ []) new
in_turn_on from [] mid e r new leads device turned = (leads, device, turned, refl)
in_turn_on from (t ∷ turns) mid e r new leads device turned =
    (leads.0, leads.1, leads.2, in_turn_on t.new turns mid e r new leads.3 device turned)

map_on : {A : Type 0} (f : Turn → A) (turns : List Turn) (t : Turn) → map f (turns ++ t ∷ []) ≡ map f turns ++ f t ∷ []
map_on f [] t = refl
map_on f (x ∷ turns) t = ap (λ l. f x ∷ l) (map_on f turns t)

turn_cells : (e : Event) (r : Reply) (old new : Memory) → Turns e r old new → new.cells ≡ old.cells
turn_cells (event.Format slots lists version plan) r old new t = t.called.cells
turn_cells (event.Ingest id stamp body plan) r old new t = t.called.cells
turn_cells (event.Find terms plan) r old new t = t.called.cells
turn_cells (event.Lookup id plan) r old new t = t.called.cells
turn_cells (event.Audit plan) r old new t = t.called.cells
turn_cells (event.Recover plan) r old new t = t.called.cells
turn_cells (event.Foreign at cell) reply.ForeignDone old new t = ap (λ (m : Memory). m.cells) t.1
turn_cells (event.Foreign at cell) (reply.ForeignTaken found) old new t = ap (λ (m : Memory). m.cells) t.1
turn_cells (event.Foreign at cell) r old new t = absurd t
turn_cells (event.Crash keep) (reply.Crashed crash) old new t = ap (λ (m : Memory). m.cells) t.recorded
turn_cells (event.Crash keep) r old new t = absurd t

pub one_more_turn : (events : List Event) (i : ℕ) (e : Event) (r : Reply) (replies more : List Reply)
    (from mid new : Memory)
    → i < length events → e ≡ get_or events i e → IsSoFar (take i events) replies from mid
    → Turns e r mid new → IsDevice (device_of new) → more ≡ replies ++ r ∷ []
    → IsSoFar (take (i + 1) events) more from new
one_more_turn events i e r replies more from mid new within is far turned device grown = record {
  world = record {
    turns = far.world.turns ++ t ∷ [];
    events_are = longer ∙ ap (λ l. l ++ e ∷ []) far.world.events_are
        ∙ sym (map_on (λ (x : Turn). x.event) far.world.turns t);
    replies_are = grown ∙ ap (λ l. l ++ r ∷ []) far.world.replies_are
        ∙ sym (map_on (λ (x : Turn). x.reply) far.world.turns t);
    in_turn = in_turn_on from far.world.turns mid e r new far.world.in_turn device turned;
  };
  cells = turn_cells e r mid new turned ∙ far.cells;
}
  where
    t : Turn
    t = record { event = e; reply = r; old = mid; new = new }

    longer : take (i + 1) events ≡ take i events ++ e ∷ []
    longer = let one : i + 1 ≡ suc i = omega arith in
        ap (λ n. take n events) one ∙ take-suc events i e within ∙ ap (λ x. take i events ++ x ∷ []) (sym is)
