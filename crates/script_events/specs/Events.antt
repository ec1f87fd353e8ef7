-- Which events are of the grammar on a device of so many cells.
use Rattle.std.specs.Prelude.{◌<◌, ◌≤◌, ◌^◌, ℕ, List, [], ◌∷◌, length, Option, Some, None, ⊤}
use Rattle.std.specs.List.{All}
use Rattle.cell_types.specs.declared.geometry.TheConstants.{FIRST_VERSION, MAX_LISTS, MAX_SLOTS, NEWEST_VERSION}
use Rattle.volume_meaning.specs.Documents.{IsBody, IsIdentifier}
use Rattle.volume_meaning.specs.Words.{AreWords}
use Rattle.volume_meaning.specs.declared.word_rules.WordRule.{WordRule}
use Rattle.worm_memory.specs.declared.moment.Moment.{Moment}
use Rattle.worm_memory.specs.declared.moment.Moment.TheVariants.{Step, Call}
use Rattle.script_events.specs.declared.event.Event.{Event}
use Rattle.script_events.specs.declared.event.Event.TheVariants as event
use Rattle.script_events.specs.declared.event.Schedule.{Schedule}
use Rattle.script_events.specs.declared.event.Script.{Script}
use Rattle.script_events.specs.declared.event.Timed.{Timed}
use Rattle.script_events.specs.declared.limits.TheConstants.{MAX_FOREIGN_WRITES, MAX_EVENTS, MAX_FAILING, MAX_KEPT, MAX_MOMENT, MAX_SCRIPT_CELLS, MAX_WORDS}

-- the number of a step or of a call
abbrev pub moment_number : Moment → ℕ
moment_number (Step number) = number
moment_number (Call number) = number

-- a moment of a script: the number is from 1 to 1,000,000
abbrev pub IsScriptMoment : Moment → Type 0
IsScriptMoment moment = (1 ≤ moment_number moment) × (moment_number moment ≤ MAX_MOMENT)

-- the moment after which each call fails, if there is one
abbrev pub IsScriptStop : Option Moment → Type 0
IsScriptStop None = ⊤
IsScriptStop (Some moment) = IsScriptMoment moment

-- a foreign write of a script is of a cell of the device
abbrev pub IsTimedOn : ℕ → Timed → Type 0
IsTimedOn cells timed = IsScriptMoment timed.before × (timed.at < cells)

-- a plan of a script, on a device of so many cells
pub record IsPlanOn (cells : ℕ) (plan : Schedule) : Type 0 where
  pub stop : IsScriptStop plan.stop
  pub few_fail : length plan.fail ≤ MAX_FAILING
  pub each_fails : All IsScriptMoment plan.fail
  pub few_foreign : length plan.foreign ≤ MAX_FOREIGN_WRITES
  pub each_foreign : All (IsTimedOn cells) plan.foreign

-- the one term of some word, by some rule of words
abbrev pub IsTermOfWord : List ℕ → Type 0
IsTermOfWord term = (rule : WordRule) × (word : List ℕ) × AreWords rule word (term ∷ [])

-- the seconds of a stamp have 32 bits, where there is one
abbrev pub IsScriptStamp : Option ℕ → Type 0
IsScriptStamp None = ⊤
IsScriptStamp (Some seconds) = seconds < 2 ^ 32

-- an event of a script, on a device of so many cells
abbrev pub IsEventOn : ℕ → Event → Type 0
IsEventOn cells (event.Format slots lists version plan) =
    (1 ≤ slots) × (slots ≤ MAX_SLOTS) × (1 ≤ lists) × (lists ≤ MAX_LISTS)
    × (FIRST_VERSION ≤ version) × (version ≤ NEWEST_VERSION) × IsPlanOn cells plan
IsEventOn cells (event.Ingest id stamp body plan) =
    IsIdentifier id × IsScriptStamp stamp × IsBody body × IsPlanOn cells plan
IsEventOn cells (event.Find terms plan) =
    (1 ≤ length terms) × (length terms ≤ MAX_WORDS) × All IsTermOfWord terms × IsPlanOn cells plan
IsEventOn cells (event.Lookup id plan) = IsIdentifier id × IsPlanOn cells plan
IsEventOn cells (event.Audit plan) = IsPlanOn cells plan
IsEventOn cells (event.Recover plan) = IsPlanOn cells plan
IsEventOn cells (event.Foreign at cell) = at < cells
IsEventOn cells (event.Crash keep) = length keep ≤ MAX_KEPT

-- events of a script, on a device of so many cells
abbrev pub AreEventsOn : ℕ → List Event → Type 0
AreEventsOn cells events = All (IsEventOn cells) events

-- a script within its limits
pub record IsInLimits (script : Script) : Type 0 where
  pub some : 1 ≤ script.cells
  pub most : script.cells ≤ MAX_SCRIPT_CELLS
  pub few : length script.events ≤ MAX_EVENTS
  pub each : AreEventsOn script.cells script.events
