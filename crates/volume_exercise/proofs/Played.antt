-- What holds at each turn of a world of the exercise in which no event was refused.
use Rattle.std.proofs.Common.{◌≡◌, ℕ, List, [], ◌∷◌, ◌++◌, map, Some, None, refl, sym, ap, ◌∙◌, subst}
use Rattle.std.proofs.lemmas.List.{append_assoc, append-nil, map-append}
use Rattle.std.specs.Prelude.{⊤}
use Rattle.std.specs.List.{All}
use Rattle.cell_types.specs.Layout.{Layout}
use Rattle.cell_types.specs.declared.refusal.Refusal.{Refusal}
use Rattle.volume_meaning.specs.Documents.{Document}
use Rattle.volume_meaning.specs.Volumes.{IsVolume}
use Rattle.volume_meaning.proofs.Extending.{volume_on}
use Rattle.tamper_rules.specs.Settling.{Held}
use Rattle.worm_device.specs.State.{IsDevice}
use Rattle.worm_device.proofs.Images.{extends_then}
use Rattle.worm_memory.specs.Memory.{Memory, device_of}
use Rattle.script_events.specs.declared.event.Event.{Event}
use Rattle.script_replies.specs.declared.reply.Reply.{Reply}
use Rattle.script_replies.specs.declared.reply.Reply.TheVariants as reply
use Rattle.hostile_replay.specs.Headline.{AcknowledgedAreReturned, IsNew, Returns}
use Rattle.hostile_replay.specs.Turns.{Turns}
use Rattle.hostile_replay.specs.Undisturbed.{IsDoneReply, IsLeftPlain, IsPlain, IsPlainTurn, PlainIsDone, events_of}
use Rattle.hostile_replay.specs.Worlds.{AreInTurn, Turn, acknowledged, acknowledged_by}
use Rattle.hostile_replay.proofs.Along.{Goes, along, split}
use Rattle.hostile_replay.proofs.Undisturbed.{all_left}
use Rattle.volume_exercise.specs.Tallies.{first_refusal}

abbrev pub event_of : Turn → Event
event_of t = t.event

abbrev pub reply_of : Turn → Reply
reply_of t = t.reply

-- a row that is mapped to two rows, one behind the other, is cut so itself
pub record Cuts {A B : Type 0} (f : A → B) (xs ys : List B) (zs : List A) : Type 0 where
  pub first : List A
  pub second : List A
  pub is : zs ≡ first ++ second
  pub first_is : map f first ≡ xs
  pub second_is : map f second ≡ ys

head_is : {B : Type 0} (x y : B) (xs ys : List B) → x ∷ xs ≡ y ∷ ys → x ≡ y
head_is x y xs ys is = cc

tail_is : {B : Type 0} (x y : B) (xs ys : List B) → x ∷ xs ≡ y ∷ ys → xs ≡ ys
tail_is x y xs ys is = cc

not_nil : {B R : Type 0} (y : B) (ys : List B) → [] ≡ y ∷ ys → R
not_nil y ys is = absurd cc

pub first_event : (t : Turn) (ts : List Turn) (e : Event) (es : List Event)
    → map event_of (t ∷ ts) ≡ e ∷ es → t.event ≡ e
first_event t ts e es is = head_is t.event e (map event_of ts) es is

pub rest_events : (t : Turn) (ts : List Turn) (e : Event) (es : List Event)
    → map event_of (t ∷ ts) ≡ e ∷ es → map event_of ts ≡ es
rest_events t ts e es is = tail_is t.event e (map event_of ts) es is

pub no_events : {R : Type 0} (e : Event) (es : List Event) → [] ≡ e ∷ es → R
no_events e es is = not_nil e es is

pub cut : {A B : Type 0} (f : A → B) (xs ys : List B) (zs : List A) → map f zs ≡ xs ++ ys → Cuts f xs ys zs
cut f [] ys zs is = record { first = []; second = zs; is = refl; first_is = refl; second_is = is }
cut f (x ∷ xs) ys [] is = not_nil x (xs ++ ys) is
cut {A} {B} f (x ∷ xs) ys (z ∷ zs) is =
    let rest = cut f xs ys zs (tail_is (f z) x (map f zs) (xs ++ ys) is) in
    record {
      first = z ∷ rest.first;
      second = rest.second;
      is = ap (λ (l : List A). z ∷ l) rest.is;
      first_is = ap (λ (l : List B). f z ∷ l) rest.first_is ∙ ap (λ (y : B). y ∷ xs) (head_is (f z) x (map f zs) (xs ++ ys) is);
      second_is = rest.second_is;
    }

-- each was done
abbrev pub AreDone : List Turn → Type 0
AreDone [] = ⊤
AreDone (t ∷ turns) = IsDoneReply t.reply × AreDone turns

none_refused : (r : Reply) (replies : List Reply) → first_refusal (r ∷ replies) ≡ None
    → IsDoneReply r × (first_refusal replies ≡ None)
none_refused (reply.Refused refusal) replies is = absurd (none_some refusal is)
  where
    none_some : (x : Refusal) → Some x ≡ None → ⊥
    none_some x p = cc
none_refused reply.Formatted replies is = (tt, is)
none_refused (reply.Acknowledged n) replies is = (tt, is)
none_refused (reply.Found matches) replies is = (tt, is)
none_refused (reply.Body slot body) replies is = (tt, is)
none_refused (reply.Sound report) replies is = (tt, is)
none_refused (reply.Settled step) replies is = (tt, is)
none_refused reply.ForeignDone replies is = (tt, is)
none_refused (reply.ForeignTaken found) replies is = (tt, is)
none_refused (reply.Crashed crash) replies is = (tt, is)

pub are_done : (turns : List Turn) → first_refusal (map reply_of turns) ≡ None → AreDone turns
are_done [] is = tt
are_done (t ∷ turns) is =
    let both = none_refused t.reply (map reply_of turns) is in (both.0, are_done turns both.1)

pub done_at : (before : List Turn) (t : Turn) (after : List Turn) → AreDone (before ++ t ∷ after) → IsDoneReply t.reply
done_at [] t after are = are.0
done_at (s ∷ before) t after are = done_at before t after are.1

-- each did what its event says
abbrev pub AreTurns : List Turn → Type 0
AreTurns [] = ⊤
AreTurns (t ∷ turns) = Turns t.event t.reply t.old t.new × AreTurns turns

pub are_turns : (from : Memory) (turns : List Turn) (to : Memory) → AreInTurn from turns to → AreTurns turns
are_turns from [] to leads = tt
are_turns from (t ∷ turns) to leads = (leads.2, are_turns t.new turns to leads.3)

pub turns_first : (a b : List Turn) → AreTurns (a ++ b) → AreTurns a
turns_first [] b are = tt
turns_first (t ∷ a) b are = (are.0, turns_first a b are.1)

pub done_first : (a b : List Turn) → AreDone (a ++ b) → AreDone a
done_first [] b are = tt
done_first (t ∷ a) b are = (are.0, done_first a b are.1)

-- what was acknowledged, of one row of turns after another
pub acknowledged_both : (a b : List Turn) → acknowledged (a ++ b) ≡ acknowledged a ++ acknowledged b
acknowledged_both [] b = refl
acknowledged_both (t ∷ a) b =
    ap (λ (l : List Document). acknowledged_by t.event t.reply ++ l) (acknowledged_both a b)
    ∙ sym (append_assoc (acknowledged_by t.event t.reply) (acknowledged a) (acknowledged b))

-- none of these events gives a document
abbrev pub GiveNone : List Turn → Type 0
GiveNone [] = ⊤
GiveNone (t ∷ turns) = (acknowledged_by t.event t.reply ≡ []) × GiveNone turns

pub none_given : (turns : List Turn) → GiveNone turns → acknowledged turns ≡ []
none_given [] none = refl
none_given (t ∷ turns) none =
    ap (λ (l : List Document). l ++ acknowledged turns) none.0 ∙ none_given turns none.1

-- A turn behind the format, where these documents were acknowledged before it and stand on a volume of this layout.
pub record IsPlayed (documents : List Document) (g : Layout) (t : Turn) : Type 0 where
  pub turned : Turns t.event t.reply t.old t.new
  pub done : IsDoneReply t.reply
  pub plain : IsPlainTurn t
  pub held : Held t.old.cells (device_of t.old).image documents
  pub returns : Returns documents t.event t.reply (device_of t.old)
  pub volume : IsVolume t.new.cells (device_of t.new).image g

abbrev pub ArePlayed : List Document → Layout → List Turn → Type 0
ArePlayed documents g [] = ⊤
ArePlayed documents g (t ∷ turns) = IsPlayed documents g t × ArePlayed documents g turns

module _ (plain : PlainIsDone) (returned : AcknowledgedAreReturned) (from to : Memory) (first : Turn) (rest : List Turn)
    (device : IsDevice (device_of from)) (new : IsNew from) (unfailed : from.faults ≡ 0)
    (leads : AreInTurn from (first ∷ rest) to) (all : All IsPlain (events_of (first ∷ rest)))
    (done : AreDone (first ∷ rest)) (g : Layout)
    (volume : IsVolume first.new.cells (device_of first.new).sure g) where
  -- the volume stands from the format on
  volume_then : (s : Memory) → Goes (device_of first.new) (device_of s) → IsDevice (device_of s)
      → IsVolume s.cells (device_of s).image g
  volume_then s goes device_then =
      volume_on (extends_then goes.sure device_then.sure)
      (subst (λ (k : ℕ). IsVolume k (device_of first.new).sure g) (sym goes.cells) volume)

  pub played : (before : List Turn) (t : Turn) (after : List Turn) → rest ≡ before ++ t ∷ after
      → IsPlayed (acknowledged (first ∷ before)) g t
  played before t after is =
      let row : first ∷ rest ≡ (first ∷ before) ++ t ∷ after = ap (λ (l : List Turn). first ∷ l) is in
      let led = subst (λ (l : List Turn). AreInTurn from l to) row leads in
      let alls = subst (λ (l : List Turn). All IsPlain (events_of l)) row all in
      let s = split from to (first ∷ before) after t led in
      let parts = subst (All IsPlain) (map-append event_of (first ∷ before) (t ∷ after)) alls in
      let left = plain.left from (first ∷ before) t.old device new unfailed s.before
      (all_left IsPlain (events_of (first ∷ before)) (events_of (t ∷ after)) parts) in
      let goes = along first.new (before ++ t ∷ []) t.new led.1 (in_turn_to first.new before t after to led.3) in
      record {
        turned = s.turns;
        done = done_at (first ∷ before) t after (subst AreDone row done);
        plain = plain.turn from to (first ∷ before) after t device new unfailed led alls;
        held = left.held;
        returns = returned from to (first ∷ before) after t device led;
        volume = volume_then t.new goes.0 goes.1;
      }
    where
      in_turn_to : (start : Memory) (before : List Turn) (t : Turn) (after : List Turn) (end : Memory)
          → AreInTurn start (before ++ t ∷ after) end → AreInTurn start (before ++ t ∷ []) t.new
      in_turn_to start [] t after end l = (l.0, l.1, l.2, refl)
      in_turn_to start (u ∷ before) t after end l = (l.0, l.1, l.2, in_turn_to u.new before t after end l.3)

  -- a row of turns that gives no document
  pub played_row : (before row after : List Turn) → rest ≡ before ++ (row ++ after) → GiveNone row
      → ArePlayed (acknowledged (first ∷ before)) g row
  played_row before [] after is none = tt
  played_row before (t ∷ row) after is none = (
    played before t (row ++ after) is,
    subst (λ (l : List Document). ArePlayed l g row)
        (acknowledged_both (first ∷ before) (t ∷ [])
        ∙ ap (λ (l : List Document). acknowledged (first ∷ before) ++ (l ++ [])) none.0
        ∙ append-nil (acknowledged (first ∷ before)))
        (played_row (before ++ t ∷ []) row after (is ∙ sym (append_assoc before (t ∷ []) (row ++ after))) none.1),
  )

  -- how it ends
  pub ends_plain : IsLeftPlain (first ∷ rest) to
  ends_plain = plain.left from (first ∷ rest) to device new unfailed leads all

  pub ends_volume : IsVolume to.cells (device_of to).image g
  ends_volume = let goes = along first.new rest to leads.1 leads.3 in volume_then to goes.0 goes.1
