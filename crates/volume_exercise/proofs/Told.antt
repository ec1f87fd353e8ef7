-- The lines of the exercise are those of its documents and their words, and what is left on its device are the documents.
use Rattle.std.proofs.Common.{◌≡◌, ◌≤◌, ◌<◌, ◌+◌, ℕ, suc, zero, List, [], ◌∷◌, ◌++◌, length, map, take, drop, refl, sym, ap, ◌∙◌, subst, arith}
use Rattle.std.proofs.Math.Seq.{drop-append_seam, take-append_seam}
use Rattle.std.proofs.lemmas.List.Sums.{sum_by-cons}
use Rattle.std.proofs.lemmas.Option.{none-some}
use Rattle.std.specs.Prelude.{Contains, ⊤}
use Rattle.std.specs.List.{count_by, range_with_len, sum_by}
use Rattle.volume_meaning.specs.Documents.{Document, Rise}
use Rattle.volume_meaning.specs.Volumes.{IsVolume}
use Rattle.worm_device.specs.Counts.{Rose}
use Rattle.worm_device.specs.State.{IsDevice}
use Rattle.worm_memory.specs.Memory.{Memory, device_of, mark_of}
use Rattle.worm_memory.specs.declared.mark.Mark.{Mark}
use Rattle.ingest_engine.specs.Formats.{volume_cell}
use Rattle.script_events.specs.declared.event.Event.{Event}
use Rattle.script_events.specs.declared.event.Event.TheVariants as event
use Rattle.script_replies.specs.declared.reply.Reply.{Reply}
use Rattle.script_replies.specs.declared.reply.Reply.TheVariants as reply
use Rattle.hostile_replay.specs.Turns.{Turns, event_layout}
use Rattle.hostile_replay.specs.Undisturbed.{IsDoneReply}
use Rattle.hostile_replay.specs.Worlds.{AreInTurn, Turn, acknowledged_by}
use Rattle.volume_exercise.specs.Documents.{body_of, identifier_of}
use Rattle.volume_exercise.specs.Events as events
use Rattle.volume_exercise.specs.Events.{audit_event, exercise_events, format_event, ingest_event, look_up_event, no_schedule, pair_event, single_event}
use Rattle.volume_exercise.specs.Exercising.{ReadsRise, exercise_device, exercise_document, next_reads}
use Rattle.volume_exercise.specs.Tallies.{part_of}
use Rattle.volume_exercise.specs.Telling.{documents_with, has_all, pair_matches, pair_terms, single_matches, single_terms}
use Rattle.volume_exercise.proofs.Played.{GiveNone, cut, event_of, first_event, no_events, rest_events}
use Rattle.volume_exercise.proofs.Rowed.{AreFrom, bodies_count}

-- the turns of the exercise, by what they are for
pub record IsCut (n : ℕ) (turns : List Turn) : Type 0 where
  pub format : Turn
  pub taken : List Turn
  pub singles : List Turn
  pub pairs : List Turn
  pub looked : List Turn
  pub last : Turn
  pub is : turns ≡ format ∷ (taken ++ (singles ++ (pairs ++ (looked ++ last ∷ []))))
  pub format_is : format.event ≡ format_event n
  pub taken_are : map event_of taken ≡ events.ingests n
  pub singles_are : map event_of singles ≡ events.singles
  pub pairs_are : map event_of pairs ≡ events.pairs
  pub looked_are : map event_of looked ≡ events.look_ups n
  pub last_is : last.event ≡ audit_event

-- one turn is left
record IsOne (e : Event) (row : List Turn) : Type 0 where
  pub turn : Turn
  pub is : row ≡ turn ∷ []
  pub event_is : turn.event ≡ e

one_left : (e : Event) (row : List Turn) → map event_of row ≡ e ∷ [] → IsOne e row
one_left e [] is = no_events e [] is
one_left e (t ∷ []) is = record { turn = t; is = refl; event_is = first_event t [] e [] is }
one_left e (t ∷ u ∷ row) is = no_events u.event (map event_of row) (sym (rest_events t (u ∷ row) e [] is))

-- four rows and one event behind them
record IsFour (a b c d : List Event) (e : Event) (row : List Turn) : Type 0 where
  pub first : List Turn
  pub second : List Turn
  pub third : List Turn
  pub fourth : List Turn
  pub last : Turn
  pub is : row ≡ first ++ (second ++ (third ++ (fourth ++ last ∷ [])))
  pub first_is : map event_of first ≡ a
  pub second_is : map event_of second ≡ b
  pub third_is : map event_of third ≡ c
  pub fourth_is : map event_of fourth ≡ d
  pub last_is : last.event ≡ e

cut_four : (a b c d : List Event) (e : Event) (row : List Turn)
    → map event_of row ≡ a ++ (b ++ (c ++ (d ++ e ∷ []))) → IsFour a b c d e row
cut_four a b c d e row is =
    let one = cut event_of a (b ++ (c ++ (d ++ e ∷ []))) row is in
    let two = cut event_of b (c ++ (d ++ e ∷ [])) one.second one.second_is in
    let three = cut event_of c (d ++ e ∷ []) two.second two.second_is in
    let four = cut event_of d (e ∷ []) three.second three.second_is in
    let last = one_left e four.second four.second_is in
    record {
      first = one.first;
      second = two.first;
      third = three.first;
      fourth = four.first;
      last = last.turn;
      is = one.is ∙ ap (λ (l : List Turn). one.first ++ l)
          (two.is ∙ ap (λ (l : List Turn). two.first ++ l)
          (three.is ∙ ap (λ (l : List Turn). three.first ++ l)
          (four.is ∙ ap (λ (l : List Turn). four.first ++ l) last.is)));
      first_is = one.first_is;
      second_is = two.first_is;
      third_is = three.first_is;
      fourth_is = four.first_is;
      last_is = last.event_is;
    }

pub cut_all : (n : ℕ) (turns : List Turn) → map event_of turns ≡ exercise_events n → IsCut n turns
cut_all n [] is =
    no_events (format_event n)
    (events.ingests n ++ (events.singles ++ (events.pairs ++ (events.look_ups n ++ audit_event ∷ [])))) is
cut_all n (t ∷ turns) is =
    let rest = events.ingests n ++ (events.singles ++ (events.pairs ++ (events.look_ups n ++ audit_event ∷ []))) in
    let four = cut_four (events.ingests n) events.singles events.pairs (events.look_ups n) audit_event turns
    (rest_events t turns (format_event n) rest is) in
    record {
      format = t;
      taken = four.first;
      singles = four.second;
      pairs = four.third;
      looked = four.fourth;
      last = four.last;
      is = ap (λ (l : List Turn). t ∷ l) four.is;
      format_is = first_event t turns (format_event n) rest is;
      taken_are = four.first_is;
      singles_are = four.second_is;
      pairs_are = four.third_is;
      looked_are = four.fourth_is;
      last_is = four.last_is;
    }

-- queries give no document
pub finds_give : (terms : ℕ → List (List ℕ)) (k m : ℕ) (row : List Turn)
    → map event_of row ≡ map (λ j. event.Find (terms j) no_schedule) (range_with_len k m) → GiveNone row
finds_give terms k zero [] is = tt
finds_give terms k zero (t ∷ row) is = no_events t.event (map event_of row) (sym is)
finds_give terms k (suc m) [] is = tt
finds_give terms k (suc m) (t ∷ row) is =
    let es = map (λ j. event.Find (terms j) no_schedule) (range_with_len (k + 1) m) in (
      ap (λ (e : Event). acknowledged_by e t.reply) (first_event t row (event.Find (terms k) no_schedule) es is),
      finds_give terms (k + 1) m row (rest_events t row (event.Find (terms k) no_schedule) es is),
    )

pub look_ups_give : (k m : ℕ) (row : List Turn) → map event_of row ≡ map look_up_event (range_with_len k m) → GiveNone row
look_ups_give k zero [] is = tt
look_ups_give k zero (t ∷ row) is = no_events t.event (map event_of row) (sym is)
look_ups_give k (suc m) [] is = tt
look_ups_give k (suc m) (t ∷ row) is =
    let es = map look_up_event (range_with_len (k + 1) m) in (
      ap (λ (e : Event). acknowledged_by e t.reply) (first_event t row (look_up_event k) es is),
      look_ups_give (k + 1) m row (rest_events t row (look_up_event k) es is),
    )

-- a part of a row
pub part_is : (behind count : ℕ) (replies xs ys zs : List Reply) → replies ≡ xs ++ (ys ++ zs) → length xs ≡ behind
    → length ys ≡ count → part_of behind count replies ≡ ys
part_is behind count replies xs ys zs is low many =
    ap (λ (l : List Reply). part_of behind count l) is
    ∙ ap (λ (k : ℕ). take count (drop k (xs ++ (ys ++ zs)))) (sym low)
    ∙ ap (λ (l : List Reply). take count l) (drop-append_seam xs (ys ++ zs))
    ∙ ap (λ (k : ℕ). take k (ys ++ zs)) (sym many) ∙ take-append_seam ys zs

sum_same : (f g : ℕ → ℕ) → ((j : ℕ) → f j ≡ g j) → (k m : ℕ)
    → sum_by f (range_with_len k m) ≡ sum_by g (range_with_len k m)
sum_same f g same k zero = refl
sum_same f g same k (suc m) =
    sum_by-cons f k (range_with_len (k + 1) m)
    ∙ ap (λ n. n + sum_by f (range_with_len (k + 1) m)) (same k)
    ∙ ap (λ n. g k + n) (sum_same f g same (k + 1) m)
    ∙ sym (sum_by-cons g k (range_with_len (k + 1) m))

-- documents of these bodies are counted by their words
with_terms : (n : ℕ) (documents : List Document) → AreFrom 0 documents → length documents ≡ n → (terms : List (List ℕ))
    → count_by (λ (d : Document). has_all terms d.body) documents ≡ documents_with n terms
unfolding documents_with
with_terms n documents are many terms =
    bodies_count terms 0 documents are
    ∙ ap (λ (k : ℕ). count_by (λ i. has_all terms (body_of i)) (range_with_len 0 k)) many

pub all_singles : (n : ℕ) (documents : List Document) → AreFrom 0 documents → length documents ≡ n
    → sum_by (λ j. count_by (λ (d : Document). has_all (single_terms j) d.body) documents) (range_with_len 0 200)
    ≡ single_matches n
unfolding single_matches
all_singles n documents are many =
    sum_same (λ j. count_by (λ (d : Document). has_all (single_terms j) d.body) documents)
    (λ j. documents_with n (single_terms j)) (λ j. with_terms n documents are many (single_terms j)) 0 200

pub all_pairs : (n : ℕ) (documents : List Document) → AreFrom 0 documents → length documents ≡ n
    → sum_by (λ j. count_by (λ (d : Document). has_all (pair_terms j) d.body) documents) (range_with_len 0 199)
    ≡ pair_matches n
unfolding pair_matches
all_pairs n documents are many =
    sum_same (λ j. count_by (λ (d : Document). has_all (pair_terms j) d.body) documents)
    (λ j. documents_with n (pair_terms j)) (λ j. with_terms n documents are many (pair_terms j)) 0 199

-- Slots that rise below a number, as many as there are, are all of them.
pigeons : (k top : ℕ) (ds : List Document) → Rise k ds → ((d : Document) → Contains ds d → d.slot < top) → k ≤ top
    → k + length ds ≤ top
pigeons k top [] rise below le = omega (arith, le)
pigeons k top (d ∷ ds) rise below le =
    let here : d.slot < top = below d (zero, omega arith, refl) in
    let rest = pigeons (d.slot + 1) top ds rise.1 (λ e c. below e (suc c.0, omega (arith, c.1), c.2)) (omega (arith, here)) in
    omega (arith, rest, rise.0)

document_made : (slot : ℕ) (id body : List ℕ) → Document
document_made slot id body = record { slot = slot; id = id; body = body }

same_document : (d : Document) (k : ℕ) → d.slot ≡ k → d.id ≡ identifier_of k → d.body ≡ body_of k
    → d ≡ exercise_document k
unfolding document_made
same_document d k slot id body =
    ap (λ s. document_made s d.id d.body) slot ∙ ap (λ i. document_made k i d.body) id
    ∙ ap (λ b. document_made k (identifier_of k) b) body

pub numbered : (k top : ℕ) (ds : List Document) → AreFrom k ds → Rise k ds
    → ((d : Document) → Contains ds d → d.slot < top) → k + length ds ≡ top
    → ds ≡ map exercise_document (range_with_len k (length ds))
numbered k top [] are rise below all = refl
numbered k top (d ∷ ds) are rise below all =
    let here : d.slot < top = below d (zero, omega arith, refl) in
    let later : (e : Document) → Contains ds e → e.slot < top = λ e c. below e (suc c.0, omega (arith, c.1), c.2) in
    let room = pigeons (d.slot + 1) top ds rise.1 later (omega (arith, here)) in
    let slot : d.slot ≡ k = omega (arith, room, all, rise.0) in
    ap (λ (e : Document). e ∷ ds) (same_document d k slot are.0 are.1)
    ∙ ap (λ (l : List Document). exercise_document k ∷ l)
    (numbered (k + 1) top ds are.2 (subst (λ (s : ℕ). Rise (s + 1) ds) slot rise.1) later (omega (arith, all)))

-- the mark of each turn
abbrev pub mark_at : Turn → Mark
mark_at t = mark_of t.old

abbrev pub AreRead : List Turn → Type 0
AreRead [] = ⊤
AreRead (t ∷ turns) = Rose t.old.reads t.new.reads × AreRead turns

pub reads_rise : (from : Memory) (turns : List Turn) (to : Memory) → AreInTurn from turns to → AreRead turns
    → ReadsRise (map mark_at turns) to.reads × (next_reads (map mark_at turns) to.reads ≡ from.reads)
reads_rise from [] to leads read = (tt, ap (λ (m : Memory). m.reads) leads)
reads_rise from (t ∷ turns) to leads read =
    let rest = reads_rise t.new turns to leads.3 read.1 in (
      (subst (λ (n : ℕ). Rose t.old.reads n) (sym rest.1) read.0, rest.0),
      ap (λ (m : Memory). m.reads) leads.0,
    )

-- a format that is done has made a volume
pub one_format : (n : ℕ) (r : Reply) (old new : Memory) → Turns (format_event n) r old new → IsDoneReply r
    → IsVolume new.cells (device_of new).sure (event_layout n 16 1 old.cells)
one_format n reply.Formatted old new turned done =
    let g = event_layout n 16 1 old.cells in
    let ends = turned.answers.ends in
    let is = ends.0 in
    record {
      volume = record {
        cell = volume_cell g;
        stands = ends.1 refl;
        is = record {
          fits = (
            omega arith,
            omega (arith, is.slots),
            omega (arith, is.lists),
            omega (arith, is.cells),
          );
          well_formed = (is, refl);
          same = refl;
        };
      };
      size = sym turned.called.cells;
    }
one_format n (reply.Refused refusal) old new turned done = absurd done
one_format n r old new turned done = absurd turned.answers

-- a device that was just made is one
pub new_device : (n : ℕ) → n ≤ 2000 → IsDevice (device_of (exercise_device n))
new_device n most = record {
  sure = record { keeps = λ cell value is. is };
  inside = λ cell value is. absurd (none-some value is);
  some_cells = omega arith;
  cells = omega (arith, most);
}
