-- What stays along the turns of a world: the device has as many cells, what is sure stays sure, and the count of
-- foreign writes does not fall.
use Rattle.std.proofs.Common.{◌≡◌, ◌≤◌, ℕ, Bool, true, false, if◌then◌else◌, List, [], ◌∷◌, ◌++◌, Option, Some, refl, sym, ap, subst, ◌∙◌, arith}
use Rattle.cell_types.specs.Image.{Extends}
use Rattle.worm_device.specs.State.{DeviceState, IsDevice}
use Rattle.worm_device.proofs.Images.{extends_self, extends_then}
use Rattle.worm_memory.specs.Unsure.{is_among}
use Rattle.worm_memory.specs.Memory.{Memory, device_of}
use Rattle.hostile_replay.specs.Turns.{CarriesOut, IsCrash, Turns}
use Rattle.hostile_replay.specs.Worlds.{AreInTurn, Turn}
use Rattle.script_events.specs.declared.event.Event.{Event}
use Rattle.script_events.specs.declared.event.Event.TheVariants as event
use Rattle.script_events.specs.declared.event.Schedule.{Schedule}
use Rattle.script_replies.specs.declared.reply.Reply.{Reply}
use Rattle.script_replies.specs.declared.reply.Reply.TheVariants as reply

-- what stays
pub record Goes (old new : DeviceState) : Type 0 where
  pub cells : new.cells ≡ old.cells
  pub sure : Extends old.sure new.sure
  pub foreign_writes : old.foreign_writes ≤ new.foreign_writes

pub goes_self : (s : DeviceState) → Goes s s
goes_self s = record { cells = refl; sure = extends_self s.sure; foreign_writes = omega arith }

pub goes_then : {a b c : DeviceState} → Goes a b → Goes b c → Goes a c
goes_then p q = record {
  cells = q.cells ∙ p.cells;
  sure = extends_then p.sure q.sure;
  foreign_writes = omega (arith, p.foreign_writes, q.foreign_writes);
}

goes_called : {plan : Schedule} {old new : Memory} {Answers : DeviceState → DeviceState → Type 0}
    → CarriesOut plan old new Answers → Goes (device_of old) (device_of new)
goes_called c = record { cells = c.called.cells; sure = c.called.sure; foreign_writes = c.called.foreign_writes }

kept_above : (b : Bool) (image sure : Option (List ℕ)) (value : List ℕ) → image ≡ Some value → sure ≡ Some value
    → (if b then image else sure) ≡ Some value
kept_above true image sure value stands is = stands
kept_above false image sure value stands is = is

-- a crash leaves what was sure
pub crash_sure : {keep : List ℕ} {old new : Memory} {crash : _} → IsDevice (device_of old) → IsCrash keep old new crash
    → Extends (device_of old).sure (device_of new).image
crash_sure {keep} {old} device c = record {
  keeps = λ cell value is. c.image cell ∙ kept_above (is_among cell keep) ((device_of old).image cell)
      ((device_of old).sure cell) value (device.sure.keeps cell value is) is;
}

pub turn_goes : (e : Event) (r : Reply) (old new : Memory) → IsDevice (device_of old) → Turns e r old new
    → Goes (device_of old) (device_of new)
turn_goes (event.Format slots lists version plan) r old new device t = goes_called t
turn_goes (event.Ingest id stamp body plan) r old new device t = goes_called t
turn_goes (event.Find terms plan) r old new device t = goes_called t
turn_goes (event.Lookup id plan) r old new device t = goes_called t
turn_goes (event.Audit plan) r old new device t = goes_called t
turn_goes (event.Recover plan) r old new device t = goes_called t
turn_goes (event.Foreign at value) reply.ForeignDone old new device t =
    record { cells = t.2.called.cells; sure = t.2.called.sure; foreign_writes = t.2.called.foreign_writes }
turn_goes (event.Foreign at value) (reply.ForeignTaken found) old new device t =
    subst (λ (m : Memory). Goes (device_of old) (device_of m)) (sym t.1)
    (record { cells = refl; sure = extends_self (device_of old).sure; foreign_writes = omega arith })
turn_goes (event.Foreign at value) r old new device t = absurd t
turn_goes (event.Crash keep) (reply.Crashed crash) old new device t = record {
  cells = ap (λ (m : Memory). m.cells) t.recorded;
  sure = record { keeps = λ cell value is. t.sure cell ∙ (crash_sure device t).keeps cell value is };
  foreign_writes = omega (arith, ap (λ (m : Memory). m.foreign_writes) t.recorded);
}
turn_goes (event.Crash keep) r old new device t = absurd t

-- one turn after another
pub along : (from : Memory) (turns : List Turn) (to : Memory) → IsDevice (device_of from) → AreInTurn from turns to
    → Goes (device_of from) (device_of to) × IsDevice (device_of to)
along from [] to device leads =
    subst (λ (m : Memory). Goes (device_of from) (device_of m) × IsDevice (device_of m)) (sym leads)
    (goes_self (device_of from), device)
along from (t ∷ turns) to device leads =
    let turned = subst (λ (m : Memory). Turns t.event t.reply m t.new) leads.0 leads.2 in
    let first = turn_goes t.event t.reply from t.new device turned in
    let rest = along t.new turns to leads.1 leads.3 in
    (goes_then first rest.0, rest.1)

-- the turns before one
pub record Splits (from : Memory) (first : List Turn) (t : Turn) (rest : List Turn) (to : Memory) : Type 0 where
  pub before : AreInTurn from first t.old
  pub device : IsDevice (device_of t.new)
  pub turns : Turns t.event t.reply t.old t.new
  pub after : AreInTurn t.new rest to

pub split : (from to : Memory) (before after : List Turn) (t : Turn) → AreInTurn from (before ++ t ∷ after) to
    → Splits from before t after to
split from to [] after t leads = record { before = leads.0; device = leads.1; turns = leads.2; after = leads.3 }
split from to (s ∷ before) after t leads =
    let rest = split s.new to before after t leads.3 in
    record {
      before = (leads.0, leads.1, leads.2, rest.before);
      device = rest.device;
      turns = rest.turns;
      after = rest.after;
    }
