-- A world of the events of the exercise has one reply to each.
use Rattle.std.proofs.Common.{◌≡◌, ◌+◌, ◌*◌, ℕ, suc, List, [], ◌∷◌, ◌++◌, length, map, refl, sym, ap, ◌∙◌, arith}
use Rattle.std.proofs.lemmas.List.{length-append}
use Rattle.std.proofs.lemmas.List.FromFn.{length-map-range_with_len}
use Rattle.worm_memory.specs.Memory.{Memory}
use Rattle.script_replies.specs.declared.reply.Reply.{Reply}
use Rattle.hostile_replay.specs.Worlds.{IsWorld, Turn}
use Rattle.volume_exercise.specs.Events.{audit_event, exercise_events, ingest_event, ingests, look_up_event, look_ups, pair_event, pairs, single_event, singles}

pub as_many : {A B : Type 0} (f : A → B) (xs : List A) → length (map f xs) ≡ length xs
as_many f [] = refl
as_many f (x ∷ xs) = ap suc (as_many f xs)

pub events_count : (n : ℕ) → length (exercise_events n) ≡ 2 * n + 401
events_count n = omega (
  arith,
  length-append (ingests n) (singles ++ (pairs ++ (look_ups n ++ audit_event ∷ []))),
  length-append singles (pairs ++ (look_ups n ++ audit_event ∷ [])),
  length-append pairs (look_ups n ++ audit_event ∷ []),
  length-append (look_ups n) (audit_event ∷ []),
  length-map-range_with_len ingest_event 0 n,
  length-map-range_with_len single_event 0 200,
  length-map-range_with_len pair_event 0 199,
  length-map-range_with_len look_up_event 0 n,
)

pub replies_count : (n : ℕ) (replies : List Reply) (from to : Memory) → IsWorld (exercise_events n) replies from to
    → length replies ≡ 2 * n + 401
replies_count n replies from to world =
    ap length world.replies_are ∙ as_many (λ (t : Turn). t.reply) world.turns
    ∙ sym (as_many (λ (t : Turn). t.event) world.turns) ∙ sym (ap length world.events_are) ∙ events_count n
