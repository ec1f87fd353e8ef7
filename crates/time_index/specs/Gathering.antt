-- How the documents of a span of time are gathered by the time list, posting after posting.
use Rattle.std.specs.Prelude.{◌≡◌, ◌<◌, ◌≤◌, ◌+◌, ◌*◌, ◌^◌, IfSome, ℕ, List, length, Contains, Option, Some, None, Result, Ok, Err, IsTrue}
use Rattle.std.specs.Global.{Vec}
use Rattle.cell_types.specs.declared.refusal.Refusal.{Refusal}
use Rattle.cell_types.specs.declared.refusal.Refusal.TheVariants.{NoMemory}
use Rattle.volume_meaning.specs.Postings.{time_posting}
use Rattle.volume_meaning.specs.Slots.{HasStamp}
use Rattle.worm_device.specs.State.{DeviceState}
use Rattle.worm_device.specs.Views.{ViewState, Viewed, seen_directly}
use Rattle.posting_list.specs.declared.reach.Reach.{Reach}
use Rattle.recovery_engine.specs.declared.settling.Ready.{Ready}
use Rattle.record_query.specs.Reaching.{reach_of}
use Rattle.time_index.specs.Matching.{IsTimeMatchIn, TimeRefuses, WantsTimeMatch}
use Rattle.time_index.specs.Postings.{IsTimed}
use Rattle.time_index.specs.Spans.{SlotsRise, TellsSlot, all_cells_of}
use Rattle.time_index.specs.declared.found.TimeMatch.{TimeMatch}
use Rattle.time_index.specs.declared.matching.Stamped.{Stamped}

-- each time posting that had a trail at entry, with a stamp from one on and below another, has its match
abbrev pub AreAnswered : Reach → ViewState → ℕ → ℕ → List TimeMatch → Type 0
AreAnswered r old from below matches =
    (at n seconds : ℕ) → n < 2 ^ 32 → IsTimed r old at (time_posting n seconds) → from ≤ seconds → seconds < below
    → TellsSlot matches n seconds

-- each match tells of a document that its slot holds, below the horizon, and of the slot's stamp, which lies in the span
abbrev pub AreTimeMatches : Reach → ViewState → ℕ → ℕ → List TimeMatch → Type 0
AreTimeMatches r now from to matches =
    (m : TimeMatch) → Contains matches m
    → IsTimeMatchIn r.volume.geometry now.image m × (from ≤ m.seconds) × (m.seconds ≤ to) × (m.slot < r.horizon)

-- the documents of a span were gathered
pub record SpanGathered (r : Reach) (from to : ℕ) (old new : ViewState) (matches : List TimeMatch) : Type 0 where
  pub all : IsTrue old.base.tells → AreAnswered r old from (to + 1) matches
  pub only : IsTrue old.base.tells → AreTimeMatches r new from to matches
  pub rise : IsTrue old.base.tells → SlotsRise 0 matches
  pub reads : new.base.reads ≤ old.base.reads + 8197 * (length matches + 1) + all_cells_of matches

-- how gathering them may end, and why
abbrev pub GatherTimesEnds : Reach → ℕ → ℕ → ViewState → ViewState → Result (Vec TimeMatch) Refusal → Type 0
GatherTimesEnds r from to old new (Ok matches) = SpanGathered r from to old new matches.items
GatherTimesEnds r from to old new (Err NoMemory) = IsTrue old.base.tells → WantsTimeMatch r new.image from to
GatherTimesEnds r from to old new (Err refusal) = TimeRefuses r old new refusal

pub record GathersTimes (r : Reach) (from to : ℕ) (old new : ViewState)
    (result : Result (Vec TimeMatch) Refusal) : Type 0 where
  pub viewed : Viewed old new
  pub ends : GatherTimesEnds r from to old new result

-- gathering them on the device looks alone
pub record GathersOnDevice (ready : Ready) (from to : ℕ) (old new : DeviceState) (result : Result (Vec TimeMatch) Refusal)
    : Type 0 where
  pub viewed : Viewed (seen_directly old 0) (seen_directly new 0)
  pub ends : GatherTimesEnds (reach_of ready) from to (seen_directly old 0) (seen_directly new 0) result

-- the stamp from which to go on behind one of the span, `None` where this is its last
abbrev pub IsBehind : ℕ → ℕ → Option ℕ → Type 0
IsBehind seconds to None = to ≤ seconds
IsBehind seconds to (Some next) = (next ≡ seconds + 1) × (seconds < to)

-- the least stamp of the span that is not answered for, or the one behind the span
abbrev pub unanswered : Option ℕ → ℕ → ℕ
unanswered None to = to + 1
unanswered (Some next) to = next

-- no match has a greater slot than this one, which has none where there is no match
abbrev pub IsSlotUpTo : Option Stamped → TimeMatch → Type 0
IsSlotUpTo None m = ⊥
IsSlotUpTo (Some last) m = m.slot ≤ last.slot

-- the last match has this slot of the volume and this stamp, which is below the least that is not answered for
pub record IsLastMatch (r : Reach) (now : ViewState) (below : ℕ) (last : Stamped) : Type 0 where
  pub slot : last.slot < r.volume.geometry.slots
  pub less : last.seconds < below
  pub stamp : IsTrue now.base.tells → HasStamp now.image last.slot last.seconds

-- the stamps of the span up to the next one were answered for
pub record SpanSoFar (r : Reach) (from to : ℕ) (next : Option ℕ) (old now : ViewState) (matches : List TimeMatch)
    (last : Option Stamped) : Type 0 where
  pub viewed : Viewed old now
  pub reads : now.base.reads ≤ old.base.reads + 8197 * length matches + all_cells_of matches
  pub next_is : IfSome next (λ key. (from ≤ key) × (key ≤ to))
  pub all : IsTrue old.base.tells → AreAnswered r old from (unanswered next to) matches
  pub only : IsTrue old.base.tells → AreTimeMatches r now from to matches
  pub rise : IsTrue old.base.tells → SlotsRise 0 matches
  pub up_to : IsTrue old.base.tells → (m : TimeMatch) → Contains matches m → IsSlotUpTo last m
  pub last_is : IfSome last (IsLastMatch r now (unanswered next to))
