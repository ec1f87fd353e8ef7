-- The lines of the exercise, counted from the replies to its events.
use Rattle.std.specs.Prelude.{◌+◌, ◌-◌, ◌==◌, if◌then◌else◌, ℕ, Bool, true, false, List, [], ◌∷◌, ◌++◌, codes, decimal, drop, length, take, Option, Some, None}
use Rattle.std.specs.List.{count_by, sum_by}
use Rattle.cell_types.specs.declared.refusal.Refusal.{Refusal}
use Rattle.script_replies.specs.declared.reply.Reply.{Reply}
use Rattle.script_replies.specs.declared.reply.Reply.TheVariants as reply
use Rattle.volume_exercise.specs.Documents.{body_of}
use Rattle.volume_exercise.specs.declared.limits.TheConstants.{DISTINCT_WORDS}

-- so many of the replies, behind so many others
abbrev pub part_of : ℕ → ℕ → List Reply → List Reply
part_of behind count replies = take count (drop behind replies)

-- the replies to the ingests, the finds of single words, the finds of pairs and the look-ups: behind the format's
abbrev pub of_ingests : ℕ → List Reply → List Reply
of_ingests n replies = part_of 1 n replies

abbrev pub of_singles : ℕ → List Reply → List Reply
of_singles n replies = part_of (1 + n) DISTINCT_WORDS replies

abbrev pub of_pairs : ℕ → List Reply → List Reply
of_pairs n replies = part_of (1 + n + DISTINCT_WORDS) (DISTINCT_WORDS - 1) replies

abbrev pub of_look_ups : ℕ → List Reply → List Reply
of_look_ups n replies = part_of (1 + n + DISTINCT_WORDS + (DISTINCT_WORDS - 1)) n replies

-- an event was refused so, the first that was refused
abbrev pub first_refusal : List Reply → Option Refusal
first_refusal [] = None
first_refusal (reply.Refused refusal ∷ replies) = Some refusal
first_refusal (r ∷ replies) = first_refusal replies

-- a document was acknowledged
abbrev pub is_acknowledged : Reply → Bool
is_acknowledged (reply.Acknowledged slot) = true
is_acknowledged r = false

-- how many documents were found
abbrev pub matches_in : Reply → ℕ
matches_in (reply.Found matches) = length matches
matches_in r = 0

-- 1 where a body came back, with the length of document i
abbrev pub returned : ℕ → Reply → ℕ
returned i (reply.Body slot body) = if length body == length (body_of i) then 1 else 0
returned i r = 0

-- how many bodies came back so, of document i and those that follow
abbrev pub returned_from : ℕ → List Reply → ℕ
returned_from i [] = 0
returned_from i (r ∷ replies) = returned i r + returned_from (i + 1) replies

-- the line of an audit that said that no rule is broken
abbrev pub sound_line : List Reply → List ℕ
sound_line [] = []
sound_line (reply.Sound report ∷ replies) = codes "sound\n"
sound_line (r ∷ replies) = sound_line replies

-- the lines: the documents, how many were acknowledged, the matches of single words and of pairs, how many bodies came
-- back, and what the audit said
abbrev pub tally_lines : ℕ → ℕ → ℕ → ℕ → ℕ → List ℕ → List ℕ
tally_lines documents acknowledged single pairs looked_up sound =
    codes "documents " ++ (decimal documents ++ (codes "\nacknowledged " ++ (decimal acknowledged
    ++ (codes "\nsingle " ++ (decimal single ++ (codes "\npairs " ++ (decimal pairs
    ++ (codes "\nlooked up " ++ (decimal looked_up ++ (codes "\n" ++ sound))))))))))

-- the lines, counted from the replies to the events of the exercise with n documents
abbrev pub counted_text : ℕ → List Reply → List ℕ
counted_text n replies =
    tally_lines n (count_by is_acknowledged (of_ingests n replies)) (sum_by matches_in (of_singles n replies))
    (sum_by matches_in (of_pairs n replies)) (returned_from 0 (of_look_ups n replies)) (sound_line replies)
