-- When an ingest commits at the earliest: somebody else who is to write its outcome cell soon enough comes first.
use Rattle.std.specs.Prelude.{◌≡◌, ◌<◌, ◌+◌, ◌^◌, ◌-◌, ℕ, List, [], ◌∷◌, length, Option}
use Rattle.cell_types.specs.Layout.{Layout, outcome_at}
use Rattle.cell_types.specs.Records.{IsRecordCell}
use Rattle.cell_types.specs.declared.record_cell.RecordCell.TheVariants.{Commit}
use Rattle.volume_meaning.specs.Documents.{stored_bytes}
use Rattle.volume_meaning.specs.Postings.{ArePostings, ListedPosting}
use Rattle.volume_meaning.specs.Slots.{cells_for}
use Rattle.volume_meaning.specs.Volumes.{IsVolume}
use Rattle.worm_device.specs.State.{IsDevice}
use Rattle.worm_memory.specs.Memory.{Memory, device_of}
use Rattle.worm_memory.specs.OwnChanges.{IsBelowMoment, IsNumbered}
use Rattle.worm_memory.specs.declared.moment.Moment.{Moment}
use Rattle.script_events.specs.declared.event.Event.TheVariants as event
use Rattle.script_events.specs.declared.event.Schedule.{Schedule}
use Rattle.script_events.specs.declared.event.Timed.{Timed}
use Rattle.script_replies.specs.declared.reply.Reply.TheVariants as reply
use Rattle.hostile_replay.specs.Turns.{Turns}

-- what somebody else is to write into the outcome cell of slot n, and nothing else, and when; it is no commit cell
pub record WritesOutcome (n : ℕ) (plan : Schedule) (timed : Timed) : Type 0 where
  pub one : plan.foreign ≡ timed ∷ []
  pub there : timed.at ≡ outcome_at n
  pub when : IsNumbered timed.before
  pub other : (bytes journal : ℕ) → IsRecordCell (Commit bytes journal) (outcome_at n) timed.cell → ⊥

-- In which step an ingest commits, at the earliest: it makes the sync with which it settles; writes the reserve cell, and
-- makes it sure; writes the content cells, and a journal cell for each posting and one for the bucket, and makes them
-- sure; and writes the commit cell.
abbrev pub steps_to_commit : List ℕ → List ℕ → List ListedPosting → ℕ
steps_to_commit id body rows = 6 + cells_for (length (stored_bytes id body)) + length rows

-- the moment is too late: its number is past that of the steps up to the commit cell of slot n
pub record IsPastCommit (id : List ℕ) (stamp : Option ℕ) (body : List ℕ) (n : ℕ) (g : Layout) (moment : Moment) : Type 0
  where
    pub rows : List ListedPosting
    pub are : ArePostings g stamp body n rows
    pub past : IsBelowMoment (steps_to_commit id body rows) moment

-- An ingest is acknowledged though somebody else was to write its outcome cell: then the moment was past the commit.
abbrev pub CommitsComeFirst : Type 0
CommitsComeFirst =
    (id : List ℕ) (stamp : Option ℕ) (body : List ℕ) (plan : Schedule) (timed : Timed) (n : ℕ) (old new : Memory)
    → IsDevice (device_of new) → old.foreign_writes < 2 ^ 64 - 1
    → WritesOutcome n plan timed → Turns (event.Ingest id stamp body plan) (reply.Acknowledged n) old new
    → (g : Layout) × IsVolume new.cells (device_of new).image g × IsPastCommit id stamp body n g timed.before
