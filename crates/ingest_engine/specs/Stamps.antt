-- Which stamps the done slots of a volume have, as a reader of the log answers it, and whether another is past them.
use Rattle.std.specs.Prelude.{◌≡◌, ◌<◌, ◌≤◌, ◌⊎◌, ℕ, ℤ, pos, negsuc, Option, None, Some, Result, Ok, Err, IsTrue, ⊤}
use Rattle.cell_types.specs.Image.{Image}
use Rattle.cell_types.specs.Layout.{Layout}
use Rattle.cell_types.specs.declared.refusal.Evidence.{Evidence}
use Rattle.cell_types.specs.declared.refusal.Fault.{Fault}
use Rattle.cell_types.specs.declared.refusal.Fault.TheVariants as faults
use Rattle.cell_types.specs.declared.refusal.Refusal.{Refusal}
use Rattle.cell_types.specs.declared.refusal.Refusal.TheVariants.{StampTooEarly}
use Rattle.volume_meaning.specs.Slots.{HasStamp, IsDoneSlot}
use Rattle.worm_device.specs.Views.{ViewState, Viewed}
use Rattle.recovery_engine.specs.LastSlot.{IsSlotRule}
use Rattle.identifier_lookup.specs.Walks.{IsOfSlot, WalkFails}

-- a done slot below n has this stamp
pub record IsStampBelow (g : Layout) (image : Image) (n seconds : ℕ) : Type 0 where
  pub slot : ℕ
  pub below : slot < n
  pub done : IsDoneSlot g image slot
  pub stamp : HasStamp image slot seconds

-- one has it, if there is one
abbrev pub IsOneBelow : Layout → Image → ℕ → Option ℕ → Type 0
IsOneBelow g image n None = ⊤
IsOneBelow g image n (Some seconds) = IsStampBelow g image n seconds

-- the first is at most the last, if there is a first
abbrev pub IsStampUpTo : Option ℕ → Option ℕ → Type 0
IsStampUpTo None last = ⊤
IsStampUpTo (Some first) None = ⊥
IsStampUpTo (Some first) (Some last) = first ≤ last

-- the stamp that a signed number is of: none, where it is below zero
abbrev pub stamp_of_number : ℤ → Option ℕ
stamp_of_number (pos seconds) = Some seconds
stamp_of_number (negsuc below) = None

-- each done slot from one on, and below n, has a stamp of at most so many seconds; where that is none, there is no such
-- slot
abbrev pub AreUpTo : Layout → Image → ℕ → ℕ → Option ℕ → Type 0
AreUpTo g image from n last =
    (m seconds : ℕ) → from ≤ m → m < n → IsDoneSlot g image m → HasStamp image m seconds
    → IsStampUpTo (Some seconds) last

-- of the stamps of the done slots below n this is the greatest
pub record IsGreatestStamp (g : Layout) (image : Image) (n seconds : ℕ) : Type 0 where
  pub one : IsStampBelow g image n seconds
  pub most : AreUpTo g image 0 n (Some seconds)

-- it is one
abbrev pub GreatestStampsAreOne : Type 0
GreatestStampsAreOne =
    (g : Layout) (image : Image) (n one other : ℕ) → IsGreatestStamp g image n one → IsGreatestStamp g image n other
    → one ≡ other

-- the evidence is a cell of the log, of a slot below n: the one that its rule, of the rules of slots, is about
pub record IsInLogBelow (n : ℕ) (e : Evidence) : Type 0 where
  pub slot : ℕ
  pub below : slot < n
  pub rule : IsSlotRule e.rule
  pub cell : IsOfSlot slot e

-- where looks at the slots below n name a cell, it is such a one
abbrev pub NamesSlot : ℕ → ViewState → Fault → Type 0
NamesSlot n old faults.Failed = ⊤
NamesSlot n old (faults.Tampered e) = IsTrue old.base.tells → IsInLogBelow n e

-- How reading the stamps of the done slots below n may end, and why. The greatest is told: one of them has it, and none
-- had a greater one.
abbrev pub GreatestStampEnds : Layout → ℕ → ViewState → ViewState → Result (Option ℕ) Fault → Type 0
GreatestStampEnds g n old new (Ok last) =
    (new.base.faults ≡ old.base.faults)
    × (IsTrue old.base.tells → AreUpTo g old.image 0 n last × IsOneBelow g new.image n last)
GreatestStampEnds g n old new (Err fault) =
    NamesSlot n old fault × ((horizon edge : ℕ) → WalkFails g horizon edge old new fault)

pub record ReadsStamps (g : Layout) (n : ℕ) (old new : ViewState) (result : Result (Option ℕ) Fault) : Type 0 where
  pub viewed : Viewed old new
  pub ends : GreatestStampEnds g n old new result

-- How reading those from one on, and below n, may end: what comes is the latest of them and of one that was known
-- before.
abbrev pub AddStampsEnds : Layout → ℕ → ℕ → Option ℕ → ViewState → ViewState → Result (Option ℕ) Fault → Type 0
AddStampsEnds g from n greatest old new (Ok last) =
    (new.base.faults ≡ old.base.faults) × IsStampUpTo greatest last
    × (IsTrue old.base.tells
    → AreUpTo g old.image from n last × ((last ≡ greatest) ⊎ IsOneBelow g new.image n last))
AddStampsEnds g from n greatest old new (Err fault) =
    NamesSlot n old fault × ((horizon edge : ℕ) → WalkFails g horizon edge old new fault)

pub record AddsStamps (g : Layout) (from n : ℕ) (greatest : Option ℕ) (old new : ViewState)
    (result : Result (Option ℕ) Fault)
    : Type 0 where
  pub viewed : Viewed old new
  pub ends : AddStampsEnds g from n greatest old new result

-- the stamps of the done slots from one on, and below n, were read
pub record StampsSoFar (g : Layout) (from n : ℕ) (greatest : Option ℕ) (old now : ViewState) : Type 0 where
  pub viewed : Viewed old now
  pub faults : now.base.faults ≡ old.base.faults
  pub most : IsTrue old.base.tells → AreUpTo g old.image from n greatest
  pub one : IsTrue old.base.tells → IsOneBelow g now.image n greatest

-- how comparing a stamp with the last one may end
abbrev pub PastLast : ℕ → Option ℕ → Result Unit Refusal → Type 0
PastLast given last (Ok u) = (seconds : ℕ) → last ≡ Some seconds → seconds < given
PastLast given last (Err (StampTooEarly early other)) = (early ≡ given) × (last ≡ Some other) × (given ≤ other)
PastLast given last (Err refusal) = ⊥
