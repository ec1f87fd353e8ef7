-- What planning over a view does.
use Rattle.std.specs.Prelude.{◌≡◌, ◌≤◌, ◌+◌, ◌*◌, ℕ, List, length, Result, Ok, Err, IsTrue, ⊤}
use Rattle.cell_types.specs.Image.{IsUnchanged}
use Rattle.cell_types.specs.Layout.{Layout}
use Rattle.cell_types.specs.declared.refusal.Evidence.{Evidence}
use Rattle.cell_types.specs.declared.refusal.Refusal.{Refusal}
use Rattle.cell_types.specs.declared.refusal.Refusal.TheVariants.{DeviceFault, NoMemory, Tampered}
use Rattle.volume_meaning.specs.Postings.{ListedPosting}
use Rattle.worm_device.specs.Calls.{Called}
use Rattle.worm_device.specs.Counts.{IsStill, Rose}
use Rattle.worm_device.specs.Views.{IsView, ViewState}
use Rattle.hash_tree.specs.declared.level.Level.{Level}
use Rattle.hash_tree.specs.declared.path.Open.{Open}
use Rattle.ingest_plan.specs.Indexes.{IsIndexed, IsIndexEvidence}
use Rattle.ingest_plan.specs.Licensing.{IsLicensable}
use Rattle.ingest_plan.specs.Planning.{IsJournalBefore}
use Rattle.ingest_plan.specs.declared.place.IndexPlace.{IndexPlace}
use Rattle.ingest_plan.specs.declared.plan.PlannedIndex.{PlannedIndex}

-- the index is planned, with at most a block for each posting and a node, and this is its journal
pub record IsPlannedOver (g : Layout) (n edge : ℕ) (rows : List ListedPosting) (level : Level) (place : Open) (p : PlannedIndex)
    (old new : ViewState) : Type 0 where
  pub indexed : IsIndexed g n rows level place edge (edge + p.block_length) old new
  pub blocks : p.block_length ≤ 256 * length rows + 32
  pub journal : IsJournalBefore g (edge + p.block_length) new.planned p.journal.items

-- What is named is of a list of one of the postings, or is the level's child cell; and new cells begin at the edge.
pub record NamesBelow (g : Layout) (edge : ℕ) (rows : List ListedPosting) (level : Level) (place : Open)
    (old new : ViewState) (e : Evidence) : Type 0 where
  pub view : IsView new
  pub fresh : new.fresh ≡ edge
  pub is : IsIndexEvidence g rows level place new e
  pub licensable : IsLicensable g old new

-- how planning over a view may end, and why
abbrev pub OverEnds : Layout → ℕ → ℕ → List ListedPosting → Level → Open → ViewState → ViewState → Result PlannedIndex Refusal
    → Type 0
OverEnds g n edge rows level place old new (Ok p) = IsPlannedOver g n edge rows level place p old new
OverEnds g n edge rows level place old new (Err (Tampered e)) =
    IsTrue old.base.tells → NamesBelow g edge rows level place old new e
OverEnds g n edge rows level place old new (Err DeviceFault) = Rose old.base.faults new.base.faults
OverEnds g n edge rows level place old new (Err NoMemory) = ⊤
OverEnds g n edge rows level place old new (Err refusal) = ⊥

-- what planning over a view does: where nobody else wrote, the device below stands as it did
pub record PlansOver (g : Layout) (index : IndexPlace) (rows : List ListedPosting) (old new : ViewState)
    (result : Result PlannedIndex Refusal) : Type 0 where
  pub called : Called old.base new.base
  pub quiet : IsStill old.base.foreign_writes new.base.foreign_writes → IsUnchanged old.base.image new.base.image
  pub fresh : new.fresh ≡ old.fresh
  pub loans : new.loans ≡ old.loans
  pub ends : OverEnds g index.slot index.edge rows index.end.level index.end.place old new result
