-- The grammar of events: which JSON value is which event, on a device of so many cells, where volumes are of the
-- script's version.
use Rattle.std.specs.Prelude.{◌≡◌, ◌≢◌, ◌^◌, ◌-◌, ℕ, List, [], ◌∷◌, codes, replicate, Option, Some, None, Ok, MatchOption, option_map, true}
use Rattle.hex.specs.Hex.{decode_of, decode_sized}
use Rattle.serde_json.specs.Data.{Data, string}
use Rattle.serde_json.specs.Find.{get, as_str}
use Rattle.cell_types.specs.declared.geometry.TheConstants.{MAX_LISTS, MAX_SLOTS}
use Rattle.volume_meaning.specs.Documents.{IsBody, IsIdentifier}
use Rattle.volume_meaning.specs.Words.{AreWords, rule_of}
use Rattle.volume_meaning.specs.declared.word_rules.WordRule.{WordRule}
use Rattle.worm_memory.specs.declared.moment.Moment.{Moment}
use Rattle.worm_memory.specs.declared.moment.Moment.TheVariants.{Step, Call}
use Rattle.script_events.specs.Json.{HasArray, HasMember, IsArrayOf, IsNumberBelow, IsNumberIn, MayHaveMember, is_object_of}
use Rattle.script_events.specs.declared.event.Event.{Event}
use Rattle.script_events.specs.declared.event.Event.TheVariants as event
use Rattle.script_events.specs.declared.event.Schedule.{Schedule}
use Rattle.script_events.specs.declared.event.Timed.{Timed}
use Rattle.script_events.specs.declared.kind.EventKind.{EventKind}
use Rattle.script_events.specs.declared.kind.EventKind.TheVariants as kind
use Rattle.script_events.specs.declared.limits.TheConstants.{MAX_FOREIGN_WRITES, MAX_FAILING, MAX_KEPT, MAX_MOMENT, MAX_WORDS}

-- an object with exactly one member, `step` or `call`, which is the number
abbrev pub SaysMoment : Moment → Data → Type 0
SaysMoment (Step n) d =
    (is_object_of (codes "step" ∷ codes "call" ∷ []) d ≡ true)
    × (get (codes "call") d ≡ None) × HasMember (codes "step") (IsNumberIn 1 MAX_MOMENT n) d
SaysMoment (Call n) d =
    (is_object_of (codes "step" ∷ codes "call" ∷ []) d ≡ true)
    × (get (codes "step") d ≡ None) × HasMember (codes "call") (IsNumberIn 1 MAX_MOMENT n) d

-- 32 hexadecimal digits, not all of them zero
abbrev pub SaysCell : List ℕ → Data → Type 0
SaysCell cell d =
    (option_map (λ text. decode_sized text 16) (as_str d) ≡ Some (Ok cell)) × (cell ≢ replicate 16 0)

-- a foreign write before a moment
abbrev pub SaysTimed : ℕ → Timed → Data → Type 0
SaysTimed cells timed d =
    (is_object_of (codes "before" ∷ codes "at" ∷ codes "cell" ∷ []) d ≡ true)
    × HasMember (codes "before") (SaysMoment timed.before) d
    × HasMember (codes "at") (IsNumberBelow cells timed.at) d
    × HasMember (codes "cell") (SaysCell timed.cell) d

-- what befalls the calls of a command
abbrev pub SaysPlan : ℕ → Schedule → Data → Type 0
SaysPlan cells plan d =
    MayHaveMember (codes "stop") SaysMoment plan.stop d
    × HasArray (codes "fail") SaysMoment MAX_FAILING plan.fail d
    × HasArray (codes "foreign") (SaysTimed cells) MAX_FOREIGN_WRITES plan.foreign d

-- the members that say it
abbrev pub plan_names : List (List ℕ)
plan_names = codes "stop" ∷ codes "fail" ∷ codes "foreign" ∷ []

-- a text that is an identifier
abbrev pub SaysIdentifier : List ℕ → Data → Type 0
SaysIdentifier id d = (d ≡ string id) × IsIdentifier id

-- a text that holds exactly one term, by this rule of words
abbrev pub SaysTerm : WordRule → List ℕ → Data → Type 0
SaysTerm rule term d = MatchOption (as_str d) ⊥ (λ word. AreWords rule word (term ∷ []))

-- a text of hexadecimal digits, two for each byte
abbrev pub SaysBytes : List ℕ → Data → Type 0
SaysBytes bytes d = option_map decode_of (as_str d) ≡ Some (Ok bytes)

-- the body, as a text or in hexadecimal, and not in both
abbrev pub SaysBody : List ℕ → Data → Type 0
SaysBody body d =
    IsBody body
    × MatchOption (get (codes "body") d)
    (HasMember (codes "hex") (SaysBytes body) d)
    (λ e. (get (codes "hex") d ≡ None) × (e ≡ string body))

-- a number of seconds that has 32 bits
abbrev pub SaysSeconds : ℕ → Data → Type 0
SaysSeconds seconds d = IsNumberIn 0 (2 ^ 32 - 1) seconds d

-- the members of each kind of event
abbrev pub SaysFormat : ℕ → ℕ → ℕ → Schedule → Data → Type 0
SaysFormat cells slots lists plan d =
    (is_object_of (codes "do" ∷ codes "slots" ∷ codes "lists" ∷ plan_names) d ≡ true)
    × HasMember (codes "slots") (IsNumberIn 1 MAX_SLOTS slots) d
    × HasMember (codes "lists") (IsNumberIn 1 MAX_LISTS lists) d
    × SaysPlan cells plan d

abbrev pub SaysIngest : ℕ → List ℕ → Option ℕ → List ℕ → Schedule → Data → Type 0
SaysIngest cells id stamp body plan d =
    (is_object_of (codes "do" ∷ codes "id" ∷ codes "stamp" ∷ codes "body" ∷ codes "hex" ∷ plan_names) d ≡ true)
    × HasMember (codes "id") (SaysIdentifier id) d
    × MayHaveMember (codes "stamp") SaysSeconds stamp d
    × SaysBody body d
    × SaysPlan cells plan d

abbrev pub SaysFind : ℕ → WordRule → List (List ℕ) → Schedule → Data → Type 0
SaysFind cells rule terms plan d =
    (is_object_of (codes "do" ∷ codes "words" ∷ plan_names) d ≡ true)
    × HasMember (codes "words") (IsArrayOf (SaysTerm rule) 1 MAX_WORDS terms) d
    × SaysPlan cells plan d

abbrev pub SaysLookup : ℕ → List ℕ → Schedule → Data → Type 0
SaysLookup cells id plan d =
    (is_object_of (codes "do" ∷ codes "id" ∷ plan_names) d ≡ true)
    × HasMember (codes "id") (SaysIdentifier id) d
    × SaysPlan cells plan d

abbrev pub SaysPlanAlone : ℕ → Schedule → Data → Type 0
SaysPlanAlone cells plan d = (is_object_of (codes "do" ∷ plan_names) d ≡ true) × SaysPlan cells plan d

abbrev pub SaysForeign : ℕ → ℕ → List ℕ → Data → Type 0
SaysForeign cells at cell d =
    (is_object_of (codes "do" ∷ codes "at" ∷ codes "cell" ∷ []) d ≡ true)
    × HasMember (codes "at") (IsNumberBelow cells at) d
    × HasMember (codes "cell") (SaysCell cell) d

abbrev pub SaysCrash : List ℕ → Data → Type 0
SaysCrash keep d =
    (is_object_of (codes "do" ∷ codes "keep" ∷ []) d ≡ true)
    × HasMember (codes "keep") (IsArrayOf (IsNumberIn 0 (2 ^ 32 - 1)) 0 MAX_KEPT keep) d

-- what an event does
abbrev pub kind_of_event : Event → EventKind
kind_of_event (event.Format slots lists version plan) = kind.Format
kind_of_event (event.Ingest id stamp body plan) = kind.Ingest
kind_of_event (event.Find terms plan) = kind.Find
kind_of_event (event.Lookup id plan) = kind.Lookup
kind_of_event (event.Audit plan) = kind.Audit
kind_of_event (event.Recover plan) = kind.Recover
kind_of_event (event.Foreign at cell) = kind.Foreign
kind_of_event (event.Crash keep) = kind.Crash

-- what its member `do` is
abbrev pub kind_name : EventKind → List ℕ
kind_name kind.Format = codes "format"
kind_name kind.Ingest = codes "ingest"
kind_name kind.Find = codes "find"
kind_name kind.Lookup = codes "lookup"
kind_name kind.Audit = codes "audit"
kind_name kind.Recover = codes "recover"
kind_name kind.Foreign = codes "foreign"
kind_name kind.Crash = codes "crash"

abbrev pub SaysKind : EventKind → Data → Type 0
SaysKind kind d = get (codes "do") d ≡ Some (string (kind_name kind))

-- The members of the event. A volume is made in the script's version, and words are those of its rule.
abbrev pub SaysMembers : ℕ → ℕ → Event → Data → Type 0
SaysMembers cells stated (event.Format slots lists version plan) d =
    (version ≡ stated) × SaysFormat cells slots lists plan d
SaysMembers cells stated (event.Ingest id stamp body plan) d = SaysIngest cells id stamp body plan d
SaysMembers cells stated (event.Find terms plan) d = SaysFind cells (rule_of stated) terms plan d
SaysMembers cells stated (event.Lookup id plan) d = SaysLookup cells id plan d
SaysMembers cells stated (event.Audit plan) d = SaysPlanAlone cells plan d
SaysMembers cells stated (event.Recover plan) d = SaysPlanAlone cells plan d
SaysMembers cells stated (event.Foreign at cell) d = SaysForeign cells at cell d
SaysMembers cells stated (event.Crash keep) d = SaysCrash keep d

-- one event of a script of this version, on a device of so many cells
abbrev pub SaysEvent : ℕ → ℕ → Event → Data → Type 0
SaysEvent cells stated event d = SaysKind (kind_of_event event) d × SaysMembers cells stated event d
