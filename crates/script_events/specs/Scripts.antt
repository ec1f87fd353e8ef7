-- Which text is which script, and where a text is none.
use Rattle.std.specs.Prelude.{◌≡◌, ◌≤◌, ℕ, suc, zero, List, [], ◌∷◌, codes, MatchOption, Some, Result, Ok, Err, option_and_then, ⊤, true}
use Rattle.std.specs.Str.{IsUtf8}
use Rattle.serde_json.specs.Data.{Data, Items}
use Rattle.serde_json.specs.Events.{items_len}
use Rattle.serde_json.specs.Find.{get, as_array}
use Rattle.serde_json.specs.Read.{read}
use Rattle.cell_types.specs.declared.geometry.TheConstants.{FIRST_VERSION, NEWEST_VERSION}
use Rattle.cell_types.specs.declared.refusal.Refusal.{Refusal}
use Rattle.cell_types.specs.declared.refusal.Refusal.TheVariants.{NoMemory, BadScript}
use Rattle.script_events.specs.Events.{IsInLimits}
use Rattle.script_events.specs.Grammar.{SaysEvent}
use Rattle.script_events.specs.Json.{AreItems, HasMember, IsFirstOther, IsNumberIn, is_object_of}
use Rattle.script_events.specs.declared.event.Script.{Script}
use Rattle.script_events.specs.declared.limits.TheConstants.{MAX_EVENTS, MAX_SCRIPT_CELLS}

-- the text is the JSON text of this value
abbrev pub IsTextOf : List ℕ → Data → Type 0
IsTextOf text d = IsUtf8 text × (read text ≡ Some d)

-- the version of the volumes that the script makes, which is the first where none is stated
abbrev pub SaysVersion : ℕ → Data → Type 0
SaysVersion version d =
    MatchOption (get (codes "version") d) (version ≡ FIRST_VERSION) (IsNumberIn FIRST_VERSION NEWEST_VERSION version)

-- an object with the members `cells` and `events`, the second an array of so many items at most, and none besides but
-- `version`, which may be left out
abbrev pub SaysFrame : ℕ → ℕ → Items → Data → Type 0
SaysFrame cells version items d =
    (is_object_of (codes "cells" ∷ codes "version" ∷ codes "events" ∷ []) d ≡ true)
    × HasMember (codes "cells") (IsNumberIn 1 MAX_SCRIPT_CELLS cells) d
    × SaysVersion version d
    × (option_and_then as_array (get (codes "events") d) ≡ Some items)
    × (items_len items ≤ MAX_EVENTS)

-- the text is a script as a whole, on so many cells and of this version, with these items in the places of its events
abbrev pub IsFramed : List ℕ → ℕ → ℕ → Items → Type 0
IsFramed text cells version items = (d : Data) × IsTextOf text d × SaysFrame cells version items d

-- the text is this script
abbrev pub IsScript : List ℕ → Script → Type 0
IsScript text script =
    (version : ℕ) × (items : Items) × IsFramed text script.cells version items
    × AreItems (SaysEvent script.cells version) script.events items

-- The text is none: as a whole, which is the number 0, or since the event of this number, from 1, is the first that is
-- not of the grammar.
abbrev pub IsScriptFault : List ℕ → ℕ → Type 0
IsScriptFault text zero = (cells version : ℕ) (items : Items) → IsFramed text cells version items → ⊥
IsScriptFault text (suc n) =
    (cells : ℕ) × (version : ℕ) × (items : Items) × IsFramed text cells version items
    × IsFirstOther (SaysEvent cells version) (suc n) items

-- How reading a script ends: with the script that the text is, or with the fault for which it is none. Want of memory
-- is free.
abbrev pub ReadScriptEnds : List ℕ → Result Script Refusal → Type 0
ReadScriptEnds text (Ok script) = IsScript text script
ReadScriptEnds text (Err (BadScript i)) = IsScriptFault text i
ReadScriptEnds text (Err NoMemory) = ⊤
ReadScriptEnds text (Err refusal) = ⊥

-- a script is within its limits
abbrev pub ScriptsAreInLimits : Type 0
ScriptsAreInLimits = (text : List ℕ) (script : Script) → IsScript text script → IsInLimits script

-- A text is one script at most, and none where it has a fault; and it has one fault at most. So what reading it answers
-- is settled by the text, but for want of memory.
pub record TextsAreOneScript : Type 0 where
  pub one : (text : List ℕ) (a b : Script) → IsScript text a → IsScript text b → a ≡ b
  pub none : (text : List ℕ) (script : Script) (i : ℕ) → IsScript text script → IsScriptFault text i → ⊥
  pub fault : (text : List ℕ) (i j : ℕ) → IsScriptFault text i → IsScriptFault text j → i ≡ j
