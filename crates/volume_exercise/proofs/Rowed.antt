-- What rows of turns of the exercise come to: of ingests, of finds, of look-ups, and of the audit.
use Rattle.std.proofs.Common.{◌≡◌, ◌≤◌, ◌<◌, ◌+◌, ◌==◌, cond, ℕ, suc, zero, List, [], ◌∷◌, ◌++◌, codes, length, map, refl, sym, ap, ◌∙◌, subst, arith}
use Rattle.std.proofs.lemmas.Bool.{cond-true, eq-eqb}
use Rattle.std.proofs.lemmas.List.Sums.{sum_by-cons}
use Rattle.std.specs.Prelude.{Contains, ⊤}
use Rattle.std.specs.List.{count_by, range_with_len, sum_by}
use Rattle.cell_types.specs.Layout.{Layout}
use Rattle.volume_meaning.specs.Documents.{Document, Rise}
use Rattle.volume_meaning.specs.Volumes.{IsVolume}
use Rattle.volume_meaning.specs.Words.{Matches, rule_of}
use Rattle.volume_meaning.specs.declared.word_rules.WordRule.{WordRule}
use Rattle.volume_meaning.specs.declared.word_rules.WordRule.TheVariants.{Ascii}
use Rattle.tamper_rules.specs.Settling.{Held}
use Rattle.tamper_rules.proofs.GivenUp.{one_layout}
use Rattle.worm_device.specs.State.{DeviceState}
use Rattle.worm_memory.specs.Memory.{Memory, device_of}
use Rattle.ingest_engine.specs.Ingesting.{document_in}
use Rattle.record_query.specs.Finding.{HasTerms}
use Rattle.record_query.specs.declared.found.Match.{Match}
use Rattle.volume_audit.specs.declared.report.AuditReport.{AuditReport}
use Rattle.command_laws.specs.Telling.{AreMatchesOf}
use Rattle.script_events.specs.declared.event.Event.{Event}
use Rattle.script_events.specs.declared.event.Event.TheVariants as event
use Rattle.script_replies.specs.declared.reply.Reply.{Reply}
use Rattle.script_replies.specs.declared.reply.Reply.TheVariants as reply
use Rattle.hostile_replay.specs.Headline.{Returns}
use Rattle.hostile_replay.specs.Steadily.{TellsHeld}
use Rattle.hostile_replay.specs.Turns.{Turns}
use Rattle.hostile_replay.specs.Undisturbed.{IsDoneReply}
use Rattle.hostile_replay.specs.Worlds.{Turn, acknowledged, acknowledged_by}
use Rattle.volume_exercise.specs.Documents.{body_of, identifier_of}
use Rattle.volume_exercise.specs.Events.{audit_event, ingest_event, look_up_event, no_schedule}
use Rattle.volume_exercise.specs.Tallies.{is_acknowledged, matches_in, returned, returned_from, sound_line}
use Rattle.volume_exercise.specs.Telling.{has_all}
use Rattle.volume_exercise.proofs.Counting.{as_many_found, terms_are_words}
use Rattle.volume_exercise.proofs.Played.{AreDone, ArePlayed, AreTurns, event_of, first_event, no_events, reply_of, rest_events}

-- these are the documents of the exercise from the one of this number on, in some slots
abbrev pub AreFrom : ℕ → List Document → Type 0
AreFrom k [] = ⊤
AreFrom k (d ∷ ds) = (d.id ≡ identifier_of k) × (d.body ≡ body_of k) × AreFrom (k + 1) ds

-- ingests that are done are acknowledged
pub one_ingest : (k : ℕ) (r : Reply) (old new : Memory) → Turns (ingest_event k) r old new → IsDoneReply r
    → (s : ℕ) × (r ≡ reply.Acknowledged s)
one_ingest k (reply.Acknowledged s) old new turned done = (s, refl)
one_ingest k (reply.Refused refusal) old new turned done = absurd done
one_ingest k r old new turned done = absurd turned.answers

pub record AreIngested (k m : ℕ) (row : List Turn) : Type 0 where
  pub are : AreFrom k (acknowledged row)
  pub many : length (acknowledged row) ≡ m
  pub counted : count_by is_acknowledged (map reply_of row) ≡ m

ingested_more : (k m : ℕ) (t : Turn) (row : List Turn) (s : ℕ) → t.event ≡ ingest_event k
    → t.reply ≡ reply.Acknowledged s → AreIngested (k + 1) m row → AreIngested k (suc m) (t ∷ row)
ingested_more k m t row s event_is reply_is rest =
    let gives : acknowledged_by t.event t.reply ≡ document_in s (identifier_of k) (body_of k) ∷ [] =
    ap (λ (e : Event). acknowledged_by e t.reply) event_is ∙ ap (acknowledged_by (ingest_event k)) reply_is in
    let all : acknowledged (t ∷ row) ≡ document_in s (identifier_of k) (body_of k) ∷ acknowledged row =
    ap (λ (l : List Document). l ++ acknowledged row) gives in
    let one : ◌≡◌ {A = ℕ} (cond (is_acknowledged t.reply) 1 0) 1 =
    ap (λ (r : Reply). cond (is_acknowledged r) 1 0) reply_is in
    let sum : count_by is_acknowledged (t.reply ∷ map reply_of row)
    ≡ cond (is_acknowledged t.reply) 1 0 + count_by is_acknowledged (map reply_of row) =
    sum_by-cons (λ (r : Reply). cond (is_acknowledged r) 1 0) t.reply (map reply_of row) in
    record {
      are = subst (AreFrom k) (sym all) (refl, refl, rest.are);
      many = ap (λ (l : List Document). length l) all ∙ ap suc rest.many;
      counted = omega (arith, one, sum, rest.counted);
    }

pub ingested : (k m : ℕ) (row : List Turn) → map event_of row ≡ map ingest_event (range_with_len k m) → AreDone row
    → AreTurns row → AreIngested k m row
ingested k zero [] is done turned = record { are = tt; many = refl; counted = refl }
ingested k zero (t ∷ row) is done turned = no_events t.event (map event_of row) (sym is)
ingested k (suc m) [] is done turned = no_events (ingest_event k) (map ingest_event (range_with_len (k + 1) m)) is
ingested k (suc m) (t ∷ row) is done turned =
    let here = first_event t row (ingest_event k) (map ingest_event (range_with_len (k + 1) m)) is in
    let one = one_ingest k t.reply t.old t.new (subst (λ (e : Event). Turns e t.reply t.old t.new) here turned.0) done.0 in
    ingested_more k m t row one.0 here one.1
    (ingested (k + 1) m row (rest_events t row (ingest_event k) (map ingest_event (range_with_len (k + 1) m)) is) done.1
    turned.1)

-- the document of a number is among them
pub among_from : (k : ℕ) (ds : List Document) → AreFrom k ds → (j : ℕ) → j < length ds
    → (d : Document) × Contains ds d × (d.id ≡ identifier_of (k + j)) × (d.body ≡ body_of (k + j))
among_from k [] are j below = absurd (omega (arith, below))
among_from k (d ∷ ds) are zero below =
    let same : k ≡ k + 0 = omega arith in
    (d, (zero, omega arith, refl), are.0 ∙ ap identifier_of same, are.1 ∙ ap body_of same)
among_from k (d ∷ ds) are (suc j) below =
    let rest = among_from (k + 1) ds are.2 j (omega (arith, below)) in
    let same : k + 1 + j ≡ k + suc j = omega arith in (
      rest.0,
      (suc rest.1.0, omega (arith, rest.1.1), rest.1.2),
      rest.2 ∙ ap identifier_of same,
      rest.3 ∙ ap body_of same,
    )

-- so as many of them have terms as of their bodies
pub bodies_count : (terms : List (List ℕ)) (k : ℕ) (ds : List Document) → AreFrom k ds
    → count_by (λ (d : Document). has_all terms d.body) ds
    ≡ count_by (λ i. has_all terms (body_of i)) (range_with_len k (length ds))
bodies_count terms k [] are = refl
bodies_count terms k (d ∷ ds) are =
    sum_by-cons (λ (e : Document). cond (has_all terms e.body) 1 0) d ds
    ∙ ap (λ (b : List ℕ). cond (has_all terms b) 1 0 + count_by (λ (e : Document). has_all terms e.body) ds) are.1
    ∙ ap (λ n. cond (has_all terms (body_of k)) 1 0 + n) (bodies_count terms (k + 1) ds are.2)
    ∙ sym (sum_by-cons (λ i. cond (has_all terms (body_of i)) 1 0) k (range_with_len (k + 1) (length ds)))

module _ (documents : List Document) (g : Layout) (rule : rule_of g.version ≡ Ascii) where
  -- a search tells of as many documents as have its terms
  count_found : (terms : List (List ℕ)) (matches : List Match) (s : DeviceState) → Rise 0 documents
      → AreMatchesOf s terms documents matches → IsVolume s.cells s.image g
      → length matches ≡ count_by (λ (d : Document). has_all terms d.body) documents
  count_found terms matches s rise told volume =
      as_many_found (λ (d : Document). has_all terms d.body) documents matches rise told.rise
      (λ d among passes.
      let has : HasTerms s.cells s.image d.body terms = record {
        layout = g;
        volume = volume;
        matches = subst (λ (r : WordRule). Matches r d.body terms) (sym rule) ((terms_are_words terms d.body).0 passes);
      } in
      let m = told.all d among has in
      (m.found, m.among, m.slot_is))
      (λ m among.
      let o = told.only m among in
      let has : HasTerms s.cells s.image o.0 terms = o.3 in
      let one : has.layout ≡ g =
      one_layout {cells = s.cells} {more = s.cells} has.layout g has.volume volume in (
        record { slot = m.slot; id = m.identifier; body = o.0 },
        o.1,
        (terms_are_words terms o.0).1 (subst (λ (r : WordRule). Matches r o.0 terms) rule
            (subst (λ (l : Layout). Matches (rule_of l.version) o.0 terms) one has.matches)),
        refl,
      ))

  found_in : (terms : List (List ℕ)) (r : Reply) (old new : Memory) → Turns (event.Find terms no_schedule) r old new
      → IsDoneReply r → TellsHeld (event.Find terms no_schedule) r (device_of old) (device_of new)
      → Held old.cells (device_of old).image documents → IsVolume new.cells (device_of new).image g
      → matches_in r ≡ count_by (λ (d : Document). has_all terms d.body) documents
  found_in terms (reply.Found matches) old new turned done tells held volume =
      let told = tells tt documents held in
      count_found terms matches (device_of new) told.0.rise told.1 volume
  found_in terms (reply.Refused refusal) old new turned done tells held volume = absurd done
  found_in terms r old new turned done tells held volume = absurd turned.answers

  -- a row of finds
  pub finds_sum : (terms : ℕ → List (List ℕ)) (k m : ℕ) (row : List Turn)
      → map event_of row ≡ map (λ j. event.Find (terms j) no_schedule) (range_with_len k m) → ArePlayed documents g row
      → sum_by matches_in (map reply_of row)
      ≡ sum_by (λ j. count_by (λ (d : Document). has_all (terms j) d.body) documents) (range_with_len k m)
  finds_sum terms k zero [] is are = refl
  finds_sum terms k zero (t ∷ row) is are = no_events t.event (map event_of row) (sym is)
  finds_sum terms k (suc m) [] is are =
      no_events (event.Find (terms k) no_schedule)
      (map (λ j. event.Find (terms j) no_schedule) (range_with_len (k + 1) m)) is
  finds_sum terms k (suc m) (t ∷ row) is are =
      let es = map (λ j. event.Find (terms j) no_schedule) (range_with_len (k + 1) m) in
      let here = first_event t row (event.Find (terms k) no_schedule) es is in
      let one = found_in (terms k) t.reply t.old t.new
      (subst (λ (e : Event). Turns e t.reply t.old t.new) here are.0.turned) are.0.done
      (subst (λ (e : Event). TellsHeld e t.reply (device_of t.old) (device_of t.new)) here are.0.plain.whole.tells)
      are.0.held are.0.volume in
      let rest = finds_sum terms (k + 1) m row (rest_events t row (event.Find (terms k) no_schedule) es is) are.1 in
      sum_by-cons matches_in t.reply (map reply_of row)
      ∙ ap (λ n. n + sum_by matches_in (map reply_of row)) one
      ∙ ap (λ n. count_by (λ (d : Document). has_all (terms k) d.body) documents + n) rest
      ∙ sym (sum_by-cons (λ j. count_by (λ (d : Document). has_all (terms j) d.body) documents) k
      (range_with_len (k + 1) m))

  -- a look-up brings back the body of its document
  module _ (are : AreFrom 0 documents) where
    one_returned : (k : ℕ) (r : Reply) (old new : Memory) → k < length documents
        → Turns (look_up_event k) r old new → IsDoneReply r → Returns documents (look_up_event k) r (device_of old)
        → returned k r ≡ 1
    one_returned k (reply.Body slot body) old new below turned done returns =
        let d = among_from 0 documents are k below in
        let same : 0 + k ≡ k = omega arith in
        let back : body ≡ d.0.body = (returns d.0 d.1 (d.2 ∙ ap identifier_of same)).1 in
        let long : length body ≡ length (body_of k) = ap (λ (l : List ℕ). length l) (back ∙ d.3 ∙ ap body_of same) in
        cond-true (length body == length (body_of k)) 1 0 (eq-eqb (length body) (length (body_of k)) long)
    one_returned k (reply.Refused refusal) old new below turned done returns = absurd done
    one_returned k r old new below turned done returns = absurd turned.answers

    pub look_ups_sum : (k m : ℕ) (row : List Turn) → k + m ≤ length documents
        → map event_of row ≡ map look_up_event (range_with_len k m) → ArePlayed documents g row
        → returned_from k (map reply_of row) ≡ m
    look_ups_sum k zero [] below is played = refl
    look_ups_sum k zero (t ∷ row) below is played = no_events t.event (map event_of row) (sym is)
    look_ups_sum k (suc m) [] below is played =
        no_events (look_up_event k) (map look_up_event (range_with_len (k + 1) m)) is
    look_ups_sum k (suc m) (t ∷ row) below is played =
        let es = map look_up_event (range_with_len (k + 1) m) in
        let here = first_event t row (look_up_event k) es is in
        let one = one_returned k t.reply t.old t.new (omega (arith, below))
        (subst (λ (e : Event). Turns e t.reply t.old t.new) here played.0.turned) played.0.done
        (subst (λ (e : Event). Returns documents e t.reply (device_of t.old)) here played.0.returns) in
        let rest = look_ups_sum (k + 1) m row (omega (arith, below)) (rest_events t row (look_up_event k) es is) played.1 in
        omega (arith, one, rest)

-- an audit that is done says that the volume is sound
pub one_audit : (r : Reply) (old new : Memory) → Turns audit_event r old new → IsDoneReply r
    → (report : AuditReport) × (r ≡ reply.Sound report)
one_audit (reply.Sound report) old new turned done = (report, refl)
one_audit (reply.Refused refusal) old new turned done = absurd done
one_audit r old new turned done = absurd turned.answers

sound_behind : (r : Reply) (replies : List Reply) → sound_line replies ≡ codes "sound\n"
    → sound_line (r ∷ replies) ≡ codes "sound\n"
sound_behind (reply.Sound report) replies is = refl
sound_behind reply.Formatted replies is = is
sound_behind (reply.Acknowledged n) replies is = is
sound_behind (reply.Found matches) replies is = is
sound_behind (reply.Body slot body) replies is = is
sound_behind (reply.Refused refusal) replies is = is
sound_behind (reply.Settled step) replies is = is
sound_behind reply.ForeignDone replies is = is
sound_behind (reply.ForeignTaken found) replies is = is
sound_behind (reply.Crashed crash) replies is = is

pub sound_last : (replies : List Reply) (last : Reply) (report : AuditReport) → last ≡ reply.Sound report
    → sound_line (replies ++ last ∷ []) ≡ codes "sound\n"
sound_last [] last report is = ap (λ (r : Reply). sound_line (r ∷ [])) is
sound_last (r ∷ replies) last report is = sound_behind r (replies ++ last ∷ []) (sound_last replies last report is)
