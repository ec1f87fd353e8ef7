-- What is known of the front of a block, and what a look adds to it.
use Rattle.std.specs.Prelude.{◌≡◌, ◌<◌, ◌≤◌, ◌+◌, ℕ, Option, Some, None, Result, Ok, Err, IsTrue}
use Rattle.cell_types.specs.Image.{Image}
use Rattle.cell_types.specs.declared.refusal.Fault.{Fault}
use Rattle.volume_meaning.specs.Blocks.{PostingFields, InFront}
use Rattle.worm_device.specs.Views.{ViewState, Viewed}
use Rattle.jump_block.specs.Fronts.{AreBelow, HasKeyAt, FirstEnds}
use Rattle.jump_block.specs.declared.known_front.Front.{Front}
use Rattle.jump_block.specs.declared.known_front.KnownFront.{KnownFront}

-- so many places of the block are in its front, and the last of them has this key
pub record IsKnown (image : Image) (f : KnownFront) : Type 0 where
  pub last : (place : ℕ) → f.count ≡ place + 1 → HasKeyAt image f.block place f.greatest

-- the known keys are below x
pub record IsBelow (f : KnownFront) (x : ℕ) : Type 0 where
  pub below : 1 ≤ f.count → f.greatest < x

-- the greatest known key, where there is one
abbrev pub IsGreatest : KnownFront → Option ℕ → Type 0
IsGreatest f None = f.count ≡ 0
IsGreatest f (Some key) = (1 ≤ f.count) × (key ≡ f.greatest)

-- reading on so far: one read for each further place
pub record ReadSoFar (x : ℕ) (old new : ViewState) (front later : KnownFront) : Type 0 where
  pub viewed : Viewed old new
  pub block : later.block ≡ front.block
  pub more : front.count ≤ later.count
  pub places : later.count ≤ 128
  pub reads : new.base.reads + front.count ≤ old.base.reads + later.count
  pub below : IsBelow later x
  pub known : IsTrue old.base.tells → IsKnown new.image later

-- reading on keeps what is known, and costs one read for each further place and one for the last
pub record ReadsOn (x : ℕ) (old new : ViewState) (front later : KnownFront) (result : Result Front Fault) : Type 0 where
  pub viewed : Viewed old new
  pub block : later.block ≡ front.block
  pub more : front.count ≤ later.count
  pub places : later.count ≤ 128
  pub reads : new.base.reads + front.count ≤ old.base.reads + later.count + 1
  pub known : IsTrue old.base.tells → IsKnown new.image later
  pub ends : FirstEnds x front.block old new result

-- A look from known places on keeps what is known, and makes more of it known. It costs one read for each place that
-- was not known, and eight besides; over a view that does not tell its image, which may forget, 137 at most.
pub record FindsFromKnown (x : ℕ) (old new : ViewState) (front later : KnownFront) (result : Result Front Fault)
    : Type 0 where
  pub viewed : Viewed old new
  pub block : later.block ≡ front.block
  pub places : later.count ≤ 128
  pub known : IsTrue old.base.tells → IsKnown new.image later
  pub reads : new.base.reads ≤ old.base.reads + 137
  pub cheap : IsTrue old.base.tells → new.base.reads + front.count ≤ old.base.reads + later.count + 8
  pub ends : FirstEnds x front.block old new result

-- this place of the block's front holds a key at or past x
pub record IsPastKey (image : Image) (block place x : ℕ) : Type 0 where
  pub p : PostingFields
  pub in_front : InFront image block place p
  pub past : x ≤ p.key

-- the first known place with a key at or past x
abbrev pub BisectEnds : ℕ → ViewState → ViewState → KnownFront → Result ℕ Fault → Type 0
BisectEnds x old new f (Ok place) =
    (place < f.count) × (IsTrue old.base.tells → AreBelow new.image f.block place x
    × IsPastKey new.image f.block place x)
BisectEnds x old new f (Err fault) = FirstEnds x f.block old new (Err fault)

-- bisecting costs seven reads at most
pub record Bisects (x : ℕ) (old new : ViewState) (f : KnownFront) (result : Result ℕ Fault) : Type 0 where
  pub viewed : Viewed old new
  pub reads : new.base.reads ≤ old.base.reads + 7
  pub ends : BisectEnds x old new f result
