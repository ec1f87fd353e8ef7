-- Lists of slots: what they are for contracts, and what their calls answer.
use Rattle.std.specs.Prelude.{◌≡◌, ◌<◌, ◌≤◌, ◌+◌, ◌-◌, ◌*◌, ◌^◌, ℕ, Bool, List, Option, Some, None, Result, Ok, Err, IsTrue, ⊤}
use Rattle.cell_types.specs.declared.geometry.TheConstants.{MAX_SLOTS}
use Rattle.cell_types.specs.declared.refusal.Evidence.{Evidence}
use Rattle.cell_types.specs.declared.refusal.Fault.{Fault}
use Rattle.cell_types.specs.declared.refusal.Fault.TheVariants.{Tampered, Failed}
use Rattle.worm_device.specs.Counts.{Rose, IsStill}
use Rattle.worm_device.specs.Views.{ViewState, Viewed}
use Rattle.zigzag_join.specs.declared.lists.Landing.{Landing}

-- The state of some lists.
pub record ListsState : Type 1 where
  -- how many lists there are
  pub lists : ℕ
  -- the view that they are read through
  pub view : ViewState
  -- what they are besides, in rows of numbers of their own: the names of the loans that they hold, so that whoever
  -- lent a view knows what comes back, and of what they were made. No call changes it.
  pub made_of : List (List ℕ)
  -- the list must not pass the slot
  pub owes : ℕ → ℕ → Type 0
  -- the list vouches for the slot
  pub vouches : ℕ → ℕ → Type 0
  -- the lists may name this evidence
  pub may_name : Evidence → Type 0
  -- the lists show this evidence
  pub shows : Evidence → Type 0
  -- the list has some posting of the slot: its next slot is always one of these
  pub lands : ℕ → ℕ → Type 0
  -- the slot was seen to be live: what lists answer is always one of these
  pub live : ℕ → Type 0
  -- how often a list was asked for its next slot, and how often whether it has one
  pub next_asks : ℕ
  pub has_asks : ℕ
  -- how many reads of the device below one ask of each kind may cost
  pub next_reads : ℕ
  pub has_reads : ℕ

-- how many reads all that was asked so far may have cost
abbrev pub paid_reads : ListsState → ℕ
paid_reads s = s.next_reads * s.next_asks + s.has_reads * s.has_asks

-- each count of asks can still rise, so that it is how often was asked
pub record CountsAsks (s : ListsState) : Type 0 where
  pub next : s.next_asks < 2 ^ 64 - 1
  pub has : s.has_asks < 2 ^ 64 - 1

-- Where at some earlier time the device below had counted so many reads, and the lists so many asks of each kind: what
-- was read since, the asks since have paid for. It is a name that proofs don't look into, so that one call goes after
-- another with no lemma.
unfoldable pub HasPaid : ℕ → ℕ → ℕ → ListsState → Type 0
HasPaid reads next has s =
    CountsAsks s → s.view.base.reads + (s.next_reads * next + s.has_reads * has) ≤ reads + paid_reads s

-- What every call keeps, and so every row of calls: the lists stay as many and what they are, the view is read alone,
-- what a list must not pass, vouches for or may name once it does ever after, and a live slot stays one. Counts of asks
-- don't fall. paid says HasPaid of the counts of old, and of each earlier time on.
pub record Keeps (old new : ListsState) : Type 0 where
  pub lists : new.lists ≡ old.lists
  pub made_of : new.made_of ≡ old.made_of
  pub viewed : Viewed old.view new.view
  pub owing : (which slot : ℕ) → old.owes which slot → new.owes which slot
  pub vouching : (which slot : ℕ) → old.vouches which slot → new.vouches which slot
  pub naming : (e : Evidence) → old.may_name e → new.may_name e
  pub living : (slot : ℕ) → old.live slot → new.live slot
  pub landing : IsStill old.view.base.foreign_writes new.view.base.foreign_writes → (which slot : ℕ)
      → new.lands which slot → old.lands which slot
  pub next_reads : new.next_reads ≡ old.next_reads
  pub has_reads : new.has_reads ≡ old.has_reads
  pub next_asks : old.next_asks ≤ new.next_asks
  pub has_asks : old.has_asks ≤ new.has_asks
  pub paid : (reads next has : ℕ) → HasPaid reads next has old → HasPaid reads next has new

-- Why there is no answer: a call below failed, or this is evidence that the lists may name, and that they show
-- where nobody else wrote.
abbrev pub ListsFaultEnds : ListsState → ListsState → Fault → Type 0
ListsFaultEnds old new Failed = Rose old.view.base.faults new.view.base.faults
ListsFaultEnds old new (Tampered e) =
    new.may_name e × (IsStill old.view.base.foreign_writes new.view.base.foreign_writes → new.shows e)

-- one ask for a next slot was made, and is counted where the count has not reached its last value
abbrev pub AsksNext : ListsState → ListsState → Type 0
AsksNext old new =
    (new.next_asks ≤ old.next_asks + 1) × (new.has_asks ≡ old.has_asks) × Rose old.next_asks new.next_asks

-- and one whether a list has a slot
abbrev pub AsksHas : ListsState → ListsState → Type 0
AsksHas old new =
    (new.next_asks ≡ old.next_asks) × (new.has_asks ≤ old.has_asks + 1) × Rose old.has_asks new.has_asks

-- the list comes to this slot from one on: it is a slot of a posting of the list, and none that the list must not pass
-- lies between
abbrev pub ComesTo : ℕ → ℕ → ListsState → ListsState → ℕ → Type 0
ComesTo which from old new n =
    (from ≤ n) × (n < MAX_SLOTS) × new.lands which n × ((slot : ℕ) → old.owes which slot → from ≤ slot → n ≤ slot)

-- what a list answers that is asked for a slot at or past one
abbrev pub ListNextEnds : ℕ → ℕ → ListsState → ListsState → Result (Option ℕ) Fault → Type 0
ListNextEnds which from old new (Ok (Some n)) = ComesTo which from old new n × new.live n
ListNextEnds which from old new (Ok None) = (slot : ℕ) → old.owes which slot → from ≤ slot → ⊥
ListNextEnds which from old new (Err fault) = ListsFaultEnds old new fault

-- and where only a slot for which it says that it vouches need be live
abbrev pub LandEnds : ℕ → ℕ → ListsState → ListsState → Result (Option Landing) Fault → Type 0
LandEnds which from old new (Ok (Some landing)) =
    ComesTo which from old new landing.slot
    × (IsTrue landing.vouched → new.vouches which landing.slot × new.live landing.slot)
LandEnds which from old new (Ok None) = ListNextEnds which from old new (Ok None)
LandEnds which from old new (Err fault) = ListsFaultEnds old new fault

-- this is known of the slot that is answered, if any
abbrev pub KnowsNext : (ℕ → Type 0) → Result (Option ℕ) Fault → Type 0
KnowsNext knows (Ok (Some n)) = knows n
KnowsNext knows other = ⊤

-- and of the one that a list has come to, where it vouches for it
abbrev pub KnowsLanding : (ℕ → Type 0) → Result (Option Landing) Fault → Type 0
KnowsLanding knows (Ok (Some landing)) = IsTrue landing.vouched → knows landing.slot
KnowsLanding knows other = ⊤

-- and of the one that a list has
abbrev pub KnowsHad : (ℕ → Type 0) → ℕ → Result Bool Fault → Type 0
KnowsHad knows slot (Ok there) = IsTrue there → knows slot
KnowsHad knows slot (Err fault) = ⊤

-- what a list answers that is asked whether it has a slot
abbrev pub HasEnds : ℕ → ℕ → ListsState → ListsState → Result Bool Fault → Type 0
HasEnds which slot old new (Ok there) = (old.owes which slot → IsTrue there) × (IsTrue there → new.vouches which slot)
HasEnds which slot old new (Err fault) = ListsFaultEnds old new fault

-- and where a slot that it has is live besides
abbrev pub ConfirmEnds : ℕ → ℕ → ListsState → ListsState → Result Bool Fault → Type 0
ConfirmEnds which slot old new (Ok there) =
    (old.owes which slot → IsTrue there) × (IsTrue there → new.vouches which slot × new.live slot)
ConfirmEnds which slot old new (Err fault) = ListsFaultEnds old new fault
