-- A world of the exercise in which no event was refused: its lines, and what it leaves on the device.
use Rattle.std.proofs.Common.{◌≡◌, ◌≤◌, ◌<◌, ◌+◌, ℕ, List, [], ◌∷◌, ◌++◌, codes, length, map, None, refl, sym, ap, ◌∙◌, subst, arith}
use Rattle.std.proofs.lemmas.List.{append_assoc, append-nil, length-append, map-append}
use Rattle.std.proofs.lemmas.List.FromFn.{length-map-range_with_len}
use Rattle.std.specs.Prelude.{Contains}
use Rattle.std.specs.List.{All, count_by, range_with_len, sum_by}
use Rattle.cell_types.specs.Layout.{Layout}
use Rattle.volume_meaning.specs.Documents.{AreDocuments, Document}
use Rattle.volume_meaning.specs.Volumes.{IsVolume}
use Rattle.tamper_rules.specs.Settling.{Held, Settled}
use Rattle.tamper_rules.proofs.GivenUp.{one_layout}
use Rattle.worm_device.specs.State.{IsDevice}
use Rattle.worm_memory.specs.Memory.{Memory, device_of}
use Rattle.worm_memory.specs.Worlds.{foreign_writes_in}
use Rattle.worm_memory.specs.declared.mark.Mark.{Mark}
use Rattle.script_events.specs.declared.event.Event.{Event}
use Rattle.script_replies.specs.declared.reply.Reply.{Reply}
use Rattle.hostile_replay.specs.Headline.{AcknowledgedAreReturned, IsNew}
use Rattle.hostile_replay.specs.Turns.{Turns, event_layout}
use Rattle.hostile_replay.specs.Undisturbed.{IsLeftPlain, IsPlain, PlainIsDone, TurnsAreMarked, events_of}
use Rattle.hostile_replay.specs.Worlds.{AreInTurn, IsWorld, Turn, acknowledged, acknowledged_by}
use Rattle.hostile_replay.proofs.Reading.{settled_documents}
use Rattle.volume_exercise.specs.Events as events
use Rattle.volume_exercise.specs.Events.{audit_event, exercise_events, ingest_event, look_up_event, pair_event, single_event}
use Rattle.volume_exercise.specs.Exercising.{LeavesExercise, ReadsRise, exercise_device, exercise_document, exercise_documents}
use Rattle.volume_exercise.specs.Tallies.{counted_text, first_refusal, is_acknowledged, matches_in, of_ingests, of_look_ups, of_pairs, of_singles, returned_from, sound_line}
use Rattle.volume_exercise.specs.Telling.{exercise_text, pair_matches, pair_terms, single_matches, single_terms}
use Rattle.volume_exercise.proofs.Counted.{same_lines}
use Rattle.volume_exercise.proofs.EventsOn.{exercise_events_plain}
use Rattle.volume_exercise.proofs.Exercised.{as_many, events_count}
use Rattle.volume_exercise.proofs.Played.{AreDone, ArePlayed, IsPlayed, acknowledged_both, are_done, are_turns, done_at, done_first, ends_plain, ends_volume, event_of, none_given, played, played_row, reply_of, turns_first}
use Rattle.volume_exercise.proofs.Rowed.{AreIngested, finds_sum, ingested, look_ups_sum, one_audit, sound_last}
use Rattle.volume_exercise.proofs.Told.{AreRead, IsCut, all_pairs, all_singles, cut_all, finds_give, look_ups_give, mark_at, new_device, numbered, one_format, part_is, reads_rise}

end_is : (start : Memory) (before : List Turn) (t : Turn) (end : Memory) → AreInTurn start (before ++ t ∷ []) end
    → end ≡ t.new
end_is start [] t end leads = leads.3
end_is start (u ∷ before) t end leads = end_is u.new before t end leads.3

-- as many replies as events
replies_many : (row : List Turn) (es : List Event) (m : ℕ) → map event_of row ≡ es → length es ≡ m
    → length (map reply_of row) ≡ m
replies_many row es m is many =
    as_many reply_of row ∙ sym (as_many event_of row) ∙ ap (λ (l : List Event). length l) is ∙ many

module _ (plain : PlainIsDone) (returned : AcknowledgedAreReturned) (marked : TurnsAreMarked) (n : ℕ) (most : n ≤ 2000)
    (from to : Memory) (is_new : from ≡ exercise_device n) (replies : List Reply) (turns : List Turn)
    (c : IsCut n turns) (events_are : map event_of turns ≡ exercise_events n)
    (replies_are : replies ≡ map reply_of turns) (in_turn : AreInTurn from turns to)
    (none : first_refusal replies ≡ None) where
  abbrev tail_three : List Turn
  tail_three = c.looked ++ c.last ∷ []

  abbrev tail_two : List Turn
  tail_two = c.pairs ++ tail_three

  abbrev tail_one : List Turn
  tail_one = c.singles ++ tail_two

  abbrev rest : List Turn
  rest = c.taken ++ tail_one

  leads : AreInTurn from (c.format ∷ rest) to
  leads = subst (λ (l : List Turn). AreInTurn from l to) c.is in_turn

  replied : replies ≡ map reply_of (c.format ∷ rest)
  replied = replies_are ∙ ap (λ (l : List Turn). map reply_of l) c.is

  done : AreDone (c.format ∷ rest)
  done = are_done (c.format ∷ rest) (sym (ap first_refusal replied) ∙ none)

  all : All IsPlain (events_of (c.format ∷ rest))
  all = subst (All IsPlain) (sym events_are ∙ ap (λ (l : List Turn). map event_of l) c.is) (exercise_events_plain n)

  device : IsDevice (device_of from)
  device = subst (λ (m : Memory). IsDevice (device_of m)) (sym is_new) (new_device n most)

  new : IsNew from
  new = record {
    changes = ap (λ (m : Memory). m.changes) is_new;
    undisturbed = ap (λ (m : Memory). m.foreign_writes) is_new;
  }

  unfailed : from.faults ≡ 0
  unfailed = ap (λ (m : Memory). m.faults) is_new

  abbrev g : Layout
  g = event_layout n 16 1 from.cells

  volume : IsVolume c.format.new.cells (device_of c.format.new).sure g
  volume = subst (λ (m : Memory). IsVolume c.format.new.cells (device_of c.format.new).sure (event_layout n 16 1 m.cells))
      leads.0
      (one_format n c.format.reply c.format.old c.format.new
      (subst (λ (e : Event). Turns e c.format.reply c.format.old c.format.new) c.format_is leads.2) done.0)

  -- what was acknowledged
  abbrev documents : List Document
  documents = acknowledged c.taken

  taken : AreIngested 0 n c.taken
  taken = ingested 0 n c.taken c.taken_are (done_first c.taken tail_one done.1)
      (turns_first c.taken tail_one (are_turns from (c.format ∷ rest) to leads).1)

  so_far : acknowledged (c.format ∷ c.taken) ≡ documents
  so_far = ap (λ (l : List Document). l ++ documents) (ap (λ (e : Event). acknowledged_by e c.format.reply) c.format_is)

  none_more : (before row : List Turn) → acknowledged (c.format ∷ before) ≡ documents → acknowledged row ≡ []
      → acknowledged (c.format ∷ (before ++ row)) ≡ documents
  none_more before row is gives =
      acknowledged_both (c.format ∷ before) row ∙ ap (λ (l : List Document). acknowledged (c.format ∷ before) ++ l) gives
      ∙ append-nil (acknowledged (c.format ∷ before)) ∙ is

  abbrev to_pairs : List Turn
  to_pairs = c.taken ++ c.singles

  abbrev to_looked : List Turn
  to_looked = to_pairs ++ c.pairs

  abbrev to_last : List Turn
  to_last = to_looked ++ c.looked

  rest_pairs : rest ≡ to_pairs ++ tail_two
  rest_pairs = sym (append_assoc c.taken c.singles tail_two)

  rest_looked : rest ≡ to_looked ++ tail_three
  rest_looked = rest_pairs ∙ sym (append_assoc to_pairs c.pairs tail_three)

  rest_last : rest ≡ to_last ++ c.last ∷ []
  rest_last = rest_looked ∙ sym (append_assoc to_looked c.looked (c.last ∷ []))

  at_pairs : acknowledged (c.format ∷ to_pairs) ≡ documents
  at_pairs = none_more c.taken c.singles so_far (none_given c.singles (finds_give single_terms 0 200 c.singles c.singles_are))

  at_looked : acknowledged (c.format ∷ to_looked) ≡ documents
  at_looked = none_more to_pairs c.pairs at_pairs (none_given c.pairs (finds_give pair_terms 0 199 c.pairs c.pairs_are))

  at_last : acknowledged (c.format ∷ to_last) ≡ documents
  at_last = none_more to_looked c.looked at_looked (none_given c.looked (look_ups_give 0 n c.looked c.looked_are))

  at_end : acknowledged (c.format ∷ rest) ≡ documents
  at_end = ap (λ (l : List Turn). acknowledged (c.format ∷ l)) rest_last
      ∙ none_more to_last (c.last ∷ []) at_last
      (ap (λ (l : List Document). l ++ []) (ap (λ (e : Event). acknowledged_by e c.last.reply) c.last_is))

  singles_played : ArePlayed documents g c.singles
  singles_played = subst (λ (l : List Document). ArePlayed l g c.singles) so_far
      (played_row plain returned from to c.format rest device new unfailed leads all done g volume c.taken c.singles
      tail_two refl (finds_give single_terms 0 200 c.singles c.singles_are))

  pairs_played : ArePlayed documents g c.pairs
  pairs_played = subst (λ (l : List Document). ArePlayed l g c.pairs) at_pairs
      (played_row plain returned from to c.format rest device new unfailed leads all done g volume to_pairs c.pairs
      tail_three rest_pairs (finds_give pair_terms 0 199 c.pairs c.pairs_are))

  looked_played : ArePlayed documents g c.looked
  looked_played = subst (λ (l : List Document). ArePlayed l g c.looked) at_looked
      (played_row plain returned from to c.format rest device new unfailed leads all done g volume to_looked c.looked
      (c.last ∷ []) rest_looked (look_ups_give 0 n c.looked c.looked_are))

  last_played : IsPlayed (acknowledged (c.format ∷ to_last)) g c.last
  last_played = played plain returned from to c.format rest device new unfailed leads all done g volume to_last c.last []
      rest_last

  -- the parts of the replies
  abbrev first_reply : Reply
  first_reply = c.format.reply

  taken_many : length (map reply_of c.taken) ≡ n
  taken_many = replies_many c.taken (events.ingests n) n c.taken_are (length-map-range_with_len ingest_event 0 n)

  singles_many : length (map reply_of c.singles) ≡ 200
  singles_many = replies_many c.singles events.singles 200 c.singles_are (length-map-range_with_len single_event 0 200)

  pairs_many : length (map reply_of c.pairs) ≡ 199
  pairs_many = replies_many c.pairs events.pairs 199 c.pairs_are (length-map-range_with_len pair_event 0 199)

  looked_many : length (map reply_of c.looked) ≡ n
  looked_many = replies_many c.looked (events.look_ups n) n c.looked_are (length-map-range_with_len look_up_event 0 n)

  in_parts : (before row after : List Turn) → rest ≡ before ++ (row ++ after)
      → replies ≡ (first_reply ∷ map reply_of before) ++ (map reply_of row ++ map reply_of after)
  in_parts before row after is =
      replied ∙ ap (λ (l : List Turn). first_reply ∷ map reply_of l) is
      ∙ ap (λ (l : List Reply). first_reply ∷ l) (map-append reply_of before (row ++ after)
      ∙ ap (λ (l : List Reply). map reply_of before ++ l) (map-append reply_of row after))

  pairs_behind : length (first_reply ∷ map reply_of to_pairs) ≡ 1 + n + 200
  pairs_behind =
      let all_of : length (map reply_of to_pairs) ≡ length (map reply_of c.taken) + length (map reply_of c.singles) =
      ap (λ (l : List Reply). length l) (map-append reply_of c.taken c.singles)
      ∙ length-append (map reply_of c.taken) (map reply_of c.singles) in
      omega (arith, all_of, taken_many, singles_many)

  looked_behind : length (first_reply ∷ map reply_of to_looked) ≡ 1 + n + 200 + 199
  looked_behind =
      let all_of : length (map reply_of to_looked) ≡ length (map reply_of to_pairs) + length (map reply_of c.pairs) =
      ap (λ (l : List Reply). length l) (map-append reply_of to_pairs c.pairs)
      ∙ length-append (map reply_of to_pairs) (map reply_of c.pairs) in
      omega (arith, all_of, pairs_behind, pairs_many)

  acknowledged_is : count_by is_acknowledged (of_ingests n replies) ≡ n
  acknowledged_is =
      ap (λ (l : List Reply). count_by is_acknowledged l)
      (part_is 1 n replies (first_reply ∷ []) (map reply_of c.taken) (map reply_of tail_one)
      (in_parts [] c.taken tail_one refl) refl taken_many)
      ∙ taken.counted

  singles_is : sum_by matches_in (of_singles n replies) ≡ single_matches n
  singles_is =
      ap (λ (l : List Reply). sum_by matches_in l)
      (part_is (1 + n) 200 replies (first_reply ∷ map reply_of c.taken) (map reply_of c.singles) (map reply_of tail_two)
      (in_parts c.taken c.singles tail_two refl) (omega (arith, taken_many)) singles_many)
      ∙ finds_sum documents g refl single_terms 0 200 c.singles c.singles_are singles_played
      ∙ all_singles n documents taken.are taken.many

  pairs_is : sum_by matches_in (of_pairs n replies) ≡ pair_matches n
  pairs_is =
      ap (λ (l : List Reply). sum_by matches_in l)
      (part_is (1 + n + 200) 199 replies (first_reply ∷ map reply_of to_pairs) (map reply_of c.pairs)
      (map reply_of tail_three) (in_parts to_pairs c.pairs tail_three rest_pairs) pairs_behind pairs_many)
      ∙ finds_sum documents g refl pair_terms 0 199 c.pairs c.pairs_are pairs_played
      ∙ all_pairs n documents taken.are taken.many

  looked_is : returned_from 0 (of_look_ups n replies) ≡ n
  looked_is =
      ap (λ (l : List Reply). returned_from 0 l)
      (part_is (1 + n + 200 + 199) n replies (first_reply ∷ map reply_of to_looked) (map reply_of c.looked)
      (map reply_of (c.last ∷ [])) (in_parts to_looked c.looked (c.last ∷ []) rest_looked) looked_behind looked_many)
      ∙ look_ups_sum documents g refl taken.are 0 n c.looked (omega (arith, taken.many)) c.looked_are looked_played

  sound_is : sound_line replies ≡ codes "sound\n"
  sound_is =
      let sound = one_audit c.last.reply c.last.old c.last.new
      (subst (λ (e : Event). Turns e c.last.reply c.last.old c.last.new) c.last_is last_played.turned) last_played.done in
      ap sound_line (replied ∙ ap (λ (l : List Turn). first_reply ∷ map reply_of l) rest_last
      ∙ ap (λ (l : List Reply). first_reply ∷ l) (map-append reply_of to_last (c.last ∷ [])))
      ∙ sound_last (first_reply ∷ map reply_of to_last) c.last.reply sound.0 sound.1

  pub text_is : counted_text n replies ≡ exercise_text n
  text_is = same_lines n (count_by is_acknowledged (of_ingests n replies)) n (sum_by matches_in (of_singles n replies))
      (single_matches n) (sum_by matches_in (of_pairs n replies)) (pair_matches n)
      (returned_from 0 (of_look_ups n replies)) n (sound_line replies) (codes "sound\n") acknowledged_is singles_is pairs_is
      looked_is sound_is

  -- what is left
  left : IsLeftPlain (c.format ∷ rest) to
  left = ends_plain plain returned from to c.format rest device new unfailed leads all done g volume

  ends_at : to ≡ c.last.new
  ends_at = end_is from (c.format ∷ to_last) c.last to
      (subst (λ (l : List Turn). AreInTurn from (c.format ∷ l) to) rest_last leads)

  settled : Settled to.cells (device_of to).image
  settled = subst (λ (m : Memory). Settled m.cells (device_of m).image) (sym ends_at)
      (last_played.plain.settled last_played.done)

  stand : AreDocuments to.cells (device_of to).image documents
  stand = settled_documents to.cells (device_of to).image documents settled
      (subst (λ (l : List Document). Held to.cells (device_of to).image l) at_end left.held)

  below : (d : Document) → Contains documents d → d.slot < n
  below d among =
      let is = (stand.each d).1 among in
      let one : is.stands.layout ≡ g =
      one_layout {cells = to.cells} {more = to.cells} is.stands.layout g is.stands.volume
      (ends_volume plain returned from to c.format rest device new unfailed leads all done g volume) in
      subst (λ (l : Layout). d.slot < l.slots) one is.stands.slot

  just_these : documents ≡ exercise_documents n
  unfolding exercise_documents
  just_these =
      numbered 0 n documents taken.are stand.rise below (omega (arith, taken.many))
      ∙ ap (λ (k : ℕ). map exercise_document (range_with_len 0 k)) taken.many

  marks_are : to.marks ≡ map mark_at (c.format ∷ rest)
  marks_are = marked from (c.format ∷ rest) to leads
      ∙ ap (λ (m : Memory). m.marks ++ map mark_at (c.format ∷ rest)) is_new

  read_row : (before row : List Turn) → c.format ∷ rest ≡ before ++ row → AreRead row
  read_row before [] is = tt
  read_row before (t ∷ row) is = (
    (plain.turn from to before row t device new unfailed (subst (λ (l : List Turn). AreInTurn from l to) is leads)
        (subst (λ (l : List Turn). All IsPlain (events_of l)) is all)).read (done_at before t row (subst AreDone is done)),
    read_row (before ++ t ∷ []) row (is ∙ sym (append_assoc before (t ∷ []) row)),
  )

  pub leaves : to.foreign_writes ≡ foreign_writes_in to.changes → LeavesExercise n to
  leaves recorded = record {
    settled = settled;
    documents = subst (λ (l : List Document). AreDocuments to.cells (device_of to).image l) just_these stand;
    commands = ap (λ (l : List Mark). length l) marks_are ∙ as_many mark_at (c.format ∷ rest)
        ∙ sym (as_many event_of (c.format ∷ rest)) ∙ ap (λ (l : List Turn). length (map event_of l)) (sym c.is)
        ∙ ap (λ (l : List Event). length l) events_are ∙ events_count n;
    read = subst (λ (l : List Mark). ReadsRise l to.reads) (sym marks_are)
        (reads_rise from (c.format ∷ rest) to leads (read_row [] (c.format ∷ rest) refl)).0;
    untroubled = record { undisturbed = sym recorded ∙ left.undisturbed; unfailed = left.unfailed };
  }

-- all of it, of a world
pub exercise_whole : PlainIsDone → AcknowledgedAreReturned → TurnsAreMarked → (n : ℕ) → n ≤ 2000 → (from to : Memory)
    → from ≡ exercise_device n → (replies : List Reply) → IsWorld (exercise_events n) replies from to
    → first_refusal replies ≡ None → to.foreign_writes ≡ foreign_writes_in to.changes
    → LeavesExercise n to × (counted_text n replies ≡ exercise_text n)
exercise_whole plain returned marked n most from to is_new replies world none recorded =
    let events_are = sym world.events_are in
    let c = cut_all n world.turns events_are in (
      leaves plain returned marked n most from to is_new replies world.turns c events_are world.replies_are world.in_turn
          none recorded,
      text_is plain returned marked n most from to is_new replies world.turns c events_are world.replies_are world.in_turn
          none,
    )
