-- The worked script: the ingest is not acknowledged.
use Rattle.std.proofs.Common.{◌≡◌, ◌≤◌, ◌<◌, ◌-◌, ◌^◌, inl, ℕ, zero, suc, List, [], ◌∷◌, codes, length, map, drop, slice_get, slice_index_or, Some, None, Err, refl, sym, ap, ◌∙◌, subst, arith}
use Rattle.std.proofs.lemmas.Option.{none-some, slice_get_within}
use Rattle.cell_types.specs.Layout.{IsLayout, Layout}
use Rattle.cell_types.specs.Records.{IsRecordCell}
use Rattle.cell_types.specs.declared.record_cell.RecordCell.TheVariants.{Commit}
use Rattle.cell_types.specs.declared.refusal.Refusal.{Refusal}
use Rattle.cell_types.specs.declared.refusal.Refusal.TheVariants as refusals
use Rattle.volume_meaning.specs.Blocks.{PostingFields}
use Rattle.volume_meaning.specs.Postings.{ArePostings, IsWordPosting, ListedPosting}
use Rattle.volume_meaning.specs.Volumes.{IsVolume}
use Rattle.volume_meaning.proofs.Extending.{volume_on}
use Rattle.tamper_rules.proofs.GivenUp.{one_layout}
use Rattle.small_volume.specs.SmallVolume.{small_layout, hello_tag, world_tag}
use Rattle.small_volume.proofs.Tags.{tags_of_0}
use Rattle.worm_device.specs.Counts.{IsStill}
use Rattle.worm_device.specs.State.{DeviceState, IsDevice}
use Rattle.worm_memory.specs.Memory.{Memory, device_of}
use Rattle.worm_memory.specs.OwnChanges.{IsBelowMoment, IsNumbered}
use Rattle.worm_memory.specs.Worlds.{world}
use Rattle.worm_memory.specs.declared.moment.Moment.{Moment}
use Rattle.worm_memory.specs.declared.moment.Moment.TheVariants.{Step, Call}
use Rattle.ingest_engine.specs.Formats.{Formats, volume_cell}
use Rattle.script_events.specs.declared.event.Event.{Event}
use Rattle.script_replies.specs.Beginnings.{begun_with}
use Rattle.script_replies.specs.declared.reply.Reply.{Reply}
use Rattle.script_replies.specs.declared.reply.Reply.TheVariants as reply
use Rattle.hostile_replay.specs.ForeignOutcome.{AbandonedIsNotAcknowledged, IsAmongFirst, abandoned_before, foreign_plan, format_event, ingest_event}
use Rattle.hostile_replay.specs.Headline.{IsNew}
use Rattle.hostile_replay.specs.InTime.{steps_to_commit}
use Rattle.hostile_replay.specs.Turns.{FormatAnswers, Turns, event_layout}
use Rattle.hostile_replay.specs.Worlds.{AreInTurn, Turn}
use Rattle.hostile_replay.proofs.CommitsFirst.{commits_first}
use Rattle.hostile_replay.proofs.Undisturbed.{turn_unfailed, turn_unshared}

-- the document has two postings
abbrev hello : PostingFields
hello = record { key = 0; last = 1; tag = hello_tag }

abbrev world_of : PostingFields
world_of = record { key = 1; last = 1; tag = world_tag }

is_hello : IsWordPosting small_layout (codes "hello world") 0 0 hello
is_hello = record {
  list = omega arith;
  tags = hello_tag ∷ world_tag ∷ [];
  are = tags_of_0;
  ordinal = 0;
  here = refl;
  key = refl;
  last = refl;
}

is_world : IsWordPosting small_layout (codes "hello world") 0 0 world_of
is_world = record {
  list = omega arith;
  tags = hello_tag ∷ world_tag ∷ [];
  are = tags_of_0;
  ordinal = 1;
  here = refl;
  key = refl;
  last = refl;
}

-- a posting and its list
abbrev in_first : PostingFields → ListedPosting
in_first p = record { list = 0; posting = p }

some_row : (a b : ListedPosting) → Some a ≡ Some b → a ≡ b
some_row a b e = cc

other_row : in_first hello ≡ in_first world_of → ⊥
other_row e = let key = ap (λ (r : ListedPosting). r.posting.key) e in omega (arith, key)

two_apart : (i j n : ℕ) → i < n → j < n → (i ≡ j → ⊥) → 2 ≤ n
two_apart zero zero n low high differ = absurd (differ refl)
two_apart (suc i) j n low high differ = omega (arith, low)
two_apart zero (suc j) n low high differ = omega (arith, high)

two_rows : (rows : List ListedPosting) → ArePostings small_layout None (codes "hello world") 0 rows → 2 ≤ length rows
two_rows rows are =
    let first = are.all 0 hello (omega arith) (inl is_hello) in
    let second = are.all 0 world_of (omega arith) (inl is_world) in
    two_apart first.0 second.0 (length rows) (slice_get_within rows first.0 (in_first hello) first.1)
    (slice_get_within rows second.0 (in_first world_of) second.1)
    (λ same. other_row (some_row (in_first hello) (in_first world_of)
    (sym first.1 ∙ ap (slice_get rows) same ∙ second.1)))

-- the abandon cell is no commit cell
no_commit : (moment : Moment) (bytes journal : ℕ)
    → IsRecordCell (Commit bytes journal) 5 (abandoned_before moment).cell → ⊥
no_commit moment bytes journal is = let first = ap (λ (l : List ℕ). slice_index_or l 0 0) is.same in omega (arith, first)

numbered : (moment : Moment) → IsAmongFirst 9 moment → IsNumbered moment
numbered (Step number) is = (is.0, omega (arith, is.1))
numbered (Call number) is = (is.0, omega (arith, is.1))

too_early : (n : ℕ) (moment : Moment) → 9 ≤ n → IsAmongFirst 9 moment → IsBelowMoment n moment → ⊥
too_early n (Step number) le is below = omega (arith, le, is.1, below)
too_early n (Call number) le is below = omega (arith, le, is.1, below)

-- A format of a blank device that nothing befalls is done.
module _ (r : Reply) (old new : Memory) (device : IsDevice (device_of new)) (blank : (cell : ℕ) → (device_of old).image cell ≡ None)
    (foreign : old.foreign_writes ≡ 0) (unfailed : old.faults ≡ 0) (cells : old.cells ≡ 1000)
    (turn : Turns format_event r old new) where
  abbrev g : Layout
  g = event_layout 8 2 1 old.cells

  layout : IsLayout g
  layout = record {
    some_slots = omega arith;
    slots = omega arith;
    some_lists = omega arith;
    lists = omega arith;
    cells = omega (arith, cells);
    some_version = omega arith;
    version = omega arith;
    pool = omega (arith, cells);
  }

  pub still_foreign : new.foreign_writes ≡ old.foreign_writes
  still_foreign = turn_unshared format_event r old new refl turn

  faults : new.faults ≡ old.faults
  faults = turn_unfailed format_event r old new (record { stop = refl; fail = refl; foreign = refl }) turn

  still : IsStill old.foreign_writes new.foreign_writes
  still = record { same = still_foreign; below = omega (arith, foreign) }

  abbrev begun : DeviceState
  begun = device_of (begun_with (foreign_plan []) old)

  not_refused : (refusal : Refusal) → Formats g begun (device_of new) (Err refusal) → ⊥
  not_refused refusals.TooSmall f = f.ends.0 layout
  not_refused refusals.DeviceFault f = omega (arith, f.ends.1, faults, unfailed)
  not_refused (refusals.NotBlank at) f =
      let least = f.ends.1 refl in none-some least.found (sym (blank at) ∙ least.stood still)
  not_refused refusal f = f.ends

  pub formatted : (answer : Reply) → FormatAnswers 8 2 1 begun (device_of new) answer
      → (device_of new).image 0 ≡ Some (volume_cell g)
  formatted reply.Formatted f = device.sure.keeps 0 (volume_cell g) (f.ends.1 refl)
  formatted (reply.Refused refusal) f = absurd (not_refused refusal f)
  formatted answer f = absurd f

  pub states : (device_of new).image 0 ≡ Some (volume_cell g)
  states = formatted r turn.answers

  pub volume : IsVolume 1000 (device_of new).image small_layout
  volume = subst (λ n. IsVolume 1000 (device_of new).image (event_layout 8 2 1 n)) cells (record {
    volume = record {
      cell = volume_cell g;
      stands = states;
      is = record {
        fits = (omega arith, omega arith, omega arith, omega (arith, cells));
        well_formed = (layout, refl);
        same = refl;
      };
    };
    size = cells;
  })

-- the two turns
two_turns : (moment : Moment) (first : Reply) (a b : Turn) (from : Memory) → IsDevice (device_of from) → IsNew from
    → from.faults ≡ 0 → from.cells ≡ 1000 → IsAmongFirst 9 moment
    → a.old ≡ from → IsDevice (device_of a.new) → Turns format_event first a.old a.new
    → b.old ≡ a.new → IsDevice (device_of b.new) → Turns (ingest_event moment) (reply.Acknowledged 0) b.old b.new → ⊥
two_turns moment first a b from device new unfailed cells among a_old a_device a_turn b_old b_device b_turn =
    let blank : (cell : ℕ) → (device_of a.old).image cell ≡ None =
    λ cell. ap (λ (m : Memory). (world m.changes).image cell) a_old ∙ ap (λ l. (world l).image cell) new.changes in
    let foreign = ap (λ (m : Memory). m.foreign_writes) a_old ∙ new.undisturbed in
    let faults = ap (λ (m : Memory). m.faults) a_old ∙ unfailed in
    let many = ap (λ (m : Memory). m.cells) a_old ∙ cells in
    let here = subst (λ (m : Memory). IsVolume 1000 (device_of m).image small_layout) (sym b_old)
    (volume first a.old a.new a_device blank foreign faults many a_turn) in
    let count = still_foreign first a.old a.new a_device blank foreign faults many a_turn in
    let below : b.old.foreign_writes < 2 ^ 64 - 1 =
    omega (arith, ap (λ (m : Memory). m.foreign_writes) b_old, count, foreign) in
    let late = commits_first (codes "a") None (codes "hello world") (foreign_plan (abandoned_before moment ∷ []))
    (abandoned_before moment) 0 b.old b.new b_device below
    (record { one = refl; there = refl; when = numbered moment among; other = no_commit moment }) b_turn in
    let there : IsVolume 1000 (device_of b.new).image small_layout = volume_on b_turn.called.image here in
    let same : late.0 ≡ small_layout = one_layout late.0 small_layout late.1 there in
    let are = subst (λ (l : Layout). ArePostings l None (codes "hello world") 0 late.2.rows) same late.2.are in
    too_early (steps_to_commit (codes "a") (codes "hello world") late.2.rows) moment
    (omega (arith, two_rows late.2.rows are)) among late.2.past

no_event : {A : Type 0} (a : A) (rest : List A) → a ∷ rest ≡ [] → ⊥
no_event a rest e = cc

first_is : {A : Type 0} (a b : A) (more rest : List A) → a ∷ more ≡ b ∷ rest → a ≡ b
first_is a b more rest e = ap (λ l. slice_index_or l 0 a) e

rest_is : {A : Type 0} (a b : A) (more rest : List A) → a ∷ more ≡ b ∷ rest → more ≡ rest
rest_is a b more rest e = ap (λ l. drop 1 l) e

in_turns : (moment : Moment) (events : List Event) (first : Reply) (replies : List Reply) (from to : Memory)
    → IsDevice (device_of from) → IsNew from → from.faults ≡ 0 → from.cells ≡ 1000 → IsAmongFirst 9 moment
    → (turns : List Turn) → format_event ∷ ingest_event moment ∷ events ≡ map (λ (t : Turn). t.event) turns
    → first ∷ reply.Acknowledged 0 ∷ replies ≡ map (λ (t : Turn). t.reply) turns → AreInTurn from turns to → ⊥
in_turns moment events first replies from to device new unfailed cells among [] e r leads = no_event _ _ e
in_turns moment events first replies from to device new unfailed cells among (a ∷ []) e r leads =
    no_event _ _ (rest_is _ _ _ _ e)
in_turns moment events first replies from to device new unfailed cells among (a ∷ b ∷ turns) e r leads =
    let events_rest = rest_is _ _ _ _ e in
    let replies_rest = rest_is _ _ _ _ r in
    let b_leads = leads.3 in
    two_turns moment a.reply a b from device new unfailed cells among leads.0 leads.1
    (subst (λ (v : Event). Turns v a.reply a.old a.new) (sym (first_is _ _ _ _ e)) leads.2)
    b_leads.0 b_leads.1
    (subst (λ (v : Event). Turns v (reply.Acknowledged 0) b.old b.new) (sym (first_is _ _ _ _ events_rest))
    (subst (λ (v : Reply). Turns b.event v b.old b.new) (sym (first_is _ _ _ _ replies_rest)) b_leads.2))

pub abandoned : AbandonedIsNotAcknowledged
abandoned moment events first replies from to device new unfailed cells among w =
    in_turns moment events first replies from to device new unfailed cells among w.turns w.events_are w.replies_are w.in_turn
