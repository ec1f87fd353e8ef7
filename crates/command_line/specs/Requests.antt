-- What may be asked for, and which words ask for it. A further command is one more case in each of these.
use Rattle.std.specs.Prelude.{ℕ, List, Option, map}
use Rattle.std.specs.String.{string_bytes}
use Rattle.command_line.specs.Asking.{AsksBetween, AsksForReceipt, AsksToAudit, AsksToCheck, AsksToExercise, AsksToFind, AsksToFormat, AsksToIngest, AsksToLookUp, AsksToRecover, AsksToReplay}
use Rattle.command_line.specs.declared.words.Command.{Command}
use Rattle.command_line.specs.declared.words.Command.TheVariants.{Audit, Check, Exercise, Find, FindBetween, Format, Ingest, LookUp, MakeReceipt, Recover, Replay}

-- what may be asked for, with what is given
pub data Request : Type 0 where
  ToFormat : (slots lists version : ℕ) → Request
  ToIngest : (id : List ℕ) (stamp : Option ℕ) → Request
  ToFind : (asked : List (List ℕ)) → Request
  ToLookUp : (id : List ℕ) → Request
  ToRecover : Request
  ToAudit : Request
  ToReplay : Request
  ToExercise : (documents : ℕ) → Request
  ToCheck : Request
  ToMakeReceipt : (id : List ℕ) → Request
  ToFindBetween : (from to : ℕ) → Request

-- the request that a command stands for
abbrev pub request_of : Command → Request
request_of (Format slots lists version) = ToFormat slots lists version
request_of (Ingest id stamp) = ToIngest id.now stamp
request_of (Find asked) = ToFind (map string_bytes asked.now)
request_of (LookUp id) = ToLookUp id.now
request_of Recover = ToRecover
request_of Audit = ToAudit
request_of Replay = ToReplay
request_of (Exercise documents) = ToExercise documents
request_of Check = ToCheck
request_of (MakeReceipt id) = ToMakeReceipt id.now
request_of (FindBetween from to) = ToFindBetween from to

-- the words ask for this
abbrev pub Asks : List (List ℕ) → Request → Type 0
Asks words (ToFormat slots lists version) = AsksToFormat words slots lists version
Asks words (ToIngest id stamp) = AsksToIngest words id stamp
Asks words (ToFind asked) = AsksToFind words asked
Asks words (ToLookUp id) = AsksToLookUp words id
Asks words ToRecover = AsksToRecover words
Asks words ToAudit = AsksToAudit words
Asks words ToReplay = AsksToReplay words
Asks words (ToExercise documents) = AsksToExercise words documents
Asks words ToCheck = AsksToCheck words
Asks words (ToMakeReceipt id) = AsksForReceipt words id
Asks words (ToFindBetween from to) = AsksBetween words from to

-- the words ask for nothing
abbrev pub AsksNothing : List (List ℕ) → Type 0
AsksNothing words = (request : Request) → Asks words request → ⊥

-- some words ask for this
abbrev pub IsAskedFor : Request → Type 0
IsAskedFor request = (words : List (List ℕ)) × Asks words request
