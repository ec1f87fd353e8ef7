-- Words ask for one thing at most.
use Rattle.std.proofs.Common.{◌≡◌, ℕ, List, [], ◌∷◌, Option, Some, None, cond, sym, ap, ◌∙◌, inl, inr}
use Rattle.std.specs.Prelude.{codes}
use Rattle.std.specs.Str.{bytes_eq}
use Rattle.cell_types.specs.declared.geometry.TheConstants.{FIRST_VERSION}
use Rattle.command_line.specs.Requests.{Asks, Request, ToAudit, ToCheck, ToExercise, ToFind, ToFindBetween, ToFormat, ToIngest, ToLookUp, ToMakeReceipt, ToRecover, ToReplay}
use Rattle.command_line.specs.Words.{digits_value}

to_format : List (List ℕ) → Option Request
to_format (slots ∷ lists ∷ []) = Some (ToFormat (digits_value slots) (digits_value lists) FIRST_VERSION)
to_format (slots ∷ lists ∷ version ∷ []) =
    Some (ToFormat (digits_value slots) (digits_value lists) (digits_value version))
to_format _ = None

to_ingest : List (List ℕ) → Option Request
to_ingest (id ∷ []) = Some (ToIngest id None)
to_ingest (id ∷ seconds ∷ []) = Some (ToIngest id (Some (digits_value seconds)))
to_ingest _ = None

to_look_up : List (List ℕ) → Option Request
to_look_up (id ∷ []) = Some (ToLookUp id)
to_look_up _ = None

to_recover : List (List ℕ) → Option Request
to_recover [] = Some ToRecover
to_recover _ = None

to_audit : List (List ℕ) → Option Request
to_audit [] = Some ToAudit
to_audit _ = None

to_replay : List (List ℕ) → Option Request
to_replay [] = Some ToReplay
to_replay _ = None

to_exercise : List (List ℕ) → Option Request
to_exercise (documents ∷ []) = Some (ToExercise (digits_value documents))
to_exercise _ = None

to_check : List (List ℕ) → Option Request
to_check [] = Some ToCheck
to_check _ = None

to_receipt : List (List ℕ) → Option Request
to_receipt (id ∷ []) = Some (ToMakeReceipt id)
to_receipt _ = None

to_between : List (List ℕ) → Option Request
to_between (from ∷ to ∷ []) = Some (ToFindBetween (digits_value from) (digits_value to))
to_between _ = None

-- what the words could ask for, by the first of them
read : List (List ℕ) → Option Request
read [] = None
read (command ∷ words) =
    cond (bytes_eq command (codes "format")) (to_format words)
    (cond (bytes_eq command (codes "ingest")) (to_ingest words)
    (cond (bytes_eq command (codes "find")) (Some (ToFind words))
    (cond (bytes_eq command (codes "lookup")) (to_look_up words)
    (cond (bytes_eq command (codes "recover")) (to_recover words)
    (cond (bytes_eq command (codes "audit")) (to_audit words)
    (cond (bytes_eq command (codes "replay")) (to_replay words)
    (cond (bytes_eq command (codes "exercise")) (to_exercise words)
    (cond (bytes_eq command (codes "check")) (to_check words)
    (cond (bytes_eq command (codes "receipt")) (to_receipt words)
    (cond (bytes_eq command (codes "between")) (to_between words) None))))))))))

asks_reads : (words : List (List ℕ)) (request : Request) → Asks words request → read words ≡ Some request
unfolding read to_format to_ingest to_look_up to_recover to_audit to_replay to_exercise to_check to_receipt to_between
asks_reads words (ToFormat slots lists version) (inl (asks, first)) =
    ap read asks.asked
    ∙ ap (λ (n : ℕ). Some (ToFormat n (digits_value asks.second) FIRST_VERSION)) (sym asks.slots_word.number.value)
    ∙ ap (λ (n : ℕ). Some (ToFormat slots n FIRST_VERSION)) (sym asks.lists_word.number.value)
    ∙ ap (λ (n : ℕ). Some (ToFormat slots lists n)) (sym first)
asks_reads words (ToFormat slots lists version) (inr asks) =
    ap read asks.asked
    ∙ ap (λ (n : ℕ). Some (ToFormat n (digits_value asks.second) (digits_value asks.third)))
    (sym asks.slots_word.number.value)
    ∙ ap (λ (n : ℕ). Some (ToFormat slots n (digits_value asks.third))) (sym asks.lists_word.number.value)
    ∙ ap (λ (n : ℕ). Some (ToFormat slots lists n)) (sym asks.version_word.number.value)
asks_reads words (ToIngest id None) asks = ap read asks.asked
asks_reads words (ToIngest id (Some seconds)) asks =
    ap read asks.asked ∙ ap (λ (n : ℕ). Some (ToIngest id (Some n))) (sym asks.seconds_word.number.value)
asks_reads words (ToFind asked) asks = ap read asks.asked_is
asks_reads words (ToLookUp id) asks = ap read asks.asked
asks_reads words ToRecover asks = ap read asks
asks_reads words ToAudit asks = ap read asks
asks_reads words ToReplay asks = ap read asks
asks_reads words (ToExercise documents) asks =
    ap read asks.asked ∙ ap (λ (n : ℕ). Some (ToExercise n)) (sym asks.documents_word.number.value)
asks_reads words ToCheck asks = ap read asks
asks_reads words (ToMakeReceipt id) asks = ap read asks.asked
asks_reads words (ToFindBetween from to) asks =
    ap read asks.asked
    ∙ ap (λ (n : ℕ). Some (ToFindBetween n (digits_value asks.second))) (sym asks.from_word.number.value)
    ∙ ap (λ (n : ℕ). Some (ToFindBetween from n)) (sym asks.to_word.number.value)

some_is : (a b : Request) → Some a ≡ Some b → a ≡ b
some_is a b e = cc

-- words ask for one thing at most
pub asks_once : (words : List (List ℕ)) (first second : Request) → Asks words first → Asks words second → first ≡ second
asks_once words first second a b = some_is first second (sym (asks_reads words first a) ∙ asks_reads words second b)
