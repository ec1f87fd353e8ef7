-- How the last slot is ended: the cells that its state asks for, in which order.
use Rattle.std.specs.Prelude.{◌≡◌, ⊤, ◌⊎◌, ℕ, Result, Ok, Err, IsTrue}
use Rattle.cell_types.specs.Image.{Image}
use Rattle.cell_types.specs.Layout.{Layout, outcome_at, done_at, lists_at}
use Rattle.cell_types.specs.Records.{record_bytes}
use Rattle.cell_types.specs.declared.record_cell.RecordCell.TheVariants as records
use Rattle.cell_types.specs.declared.refusal.Evidence.{Evidence}
use Rattle.cell_types.specs.declared.refusal.Fault.{Fault}
use Rattle.cell_types.specs.declared.refusal.Fault.TheVariants.{Tampered, Failed}
use Rattle.volume_meaning.specs.Documents.{document_at}
use Rattle.tamper_rules.specs.Journals.{journal_at}
use Rattle.tamper_rules.specs.declared.numbers.TheConstants.{OUTCOME_CELL, DONE_CELL, BROKEN_JOURNAL}
use Rattle.worm_device.specs.Counts.{Rose}
use Rattle.worm_device.specs.State.{DeviceState}
use Rattle.recovery_engine.specs.declared.put.Blame.TheVariants.{Rule}
use Rattle.recovery_engine.specs.declared.put.Put.{Put}
use Rattle.commit_record.specs.declared.slot.SlotState.{SlotState}
use Rattle.commit_record.specs.declared.slot.SlotState.TheVariants.{Reserved, Committed}
use Rattle.recovery_engine.specs.Entries.{AreEntries}
use Rattle.recovery_engine.specs.Journal.{IsEntryPut, IsFlawed}
use Rattle.recovery_engine.specs.declared.journal.Journal.{Journal}
use Rattle.recovery_engine.specs.declared.settling.Step.{Step}
use Rattle.recovery_engine.specs.declared.settling.Step.TheVariants as steps

-- the abandon cell and the done cell of slot n; where another value stands there, that cell is named
abbrev pub abandon_put : ℕ → Put
abandon_put n =
    record { at = outcome_at n; value = record_bytes records.Abandon (outcome_at n); blame = Rule OUTCOME_CELL }

abbrev pub done_put : ℕ → Put
done_put n = record { at = done_at n; value = record_bytes (records.Done n) (done_at n); blame = Rule DONE_CELL }

-- the journal of slot n, whose commit cell states so many bytes and journal cells
abbrev pub journal_of : Layout → ℕ → ℕ → ℕ → ℕ → ℕ → Journal
journal_of g n start length bytes journal = record {
  place = journal_at start length journal;
  count = journal;
  first = lists_at g;
  below = document_at start length bytes journal;
  commit = record {
    rule = BROKEN_JOURNAL;
    cell = outcome_at n;
    found = record_bytes (records.Commit bytes journal) (outcome_at n);
  };
}

-- The cells that are put first, by the state of slot n: the abandon cell where it is reserved, and where it is
-- committed those that its journal asks for, as it stands in this image.
abbrev pub IsFirstEnd : Image → ℕ → SlotState → Put → Type 0
IsFirstEnd image n (Reserved start length) put = put ≡ abandon_put n
IsFirstEnd image n (Committed start length bytes journal) put =
    IsEntryPut image (journal_at start length journal) journal put
IsFirstEnd image n state put = ⊥

-- those that are put once the first ones are sure: the done cell of a slot that was committed
abbrev pub IsLastEnd : ℕ → SlotState → Put → Type 0
IsLastEnd n (Committed start length bytes journal) put = put ≡ done_put n
IsLastEnd n state put = ⊥

-- the phases in which a slot in this state is ended
abbrev pub end_plan : Image → ℕ → SlotState → ℕ → Put → Type 0
end_plan image n state j put = ((j ≡ 0) × IsFirstEnd image n state put) ⊎ ((j ≡ 1) × IsLastEnd n state put)

-- how many phases these are
abbrev pub end_phases : SlotState → ℕ
end_phases (Reserved start length) = 1
end_phases (Committed start length bytes journal) = 2
end_phases state = 0

-- what has been done then
abbrev pub step_of : ℕ → SlotState → Step
step_of n (Reserved start length) = steps.Abandoned n
step_of n (Committed start length bytes journal) = steps.Completed n
step_of n state = steps.Nothing

-- where the slot is committed, each cell of its journal asks for what it may ask for
abbrev pub HasJournal : Layout → SlotState → Image → Type 0
HasJournal g (Committed start length bytes journal) image =
    AreEntries (lists_at g) image (journal_at start length journal) (document_at start length bytes journal) journal
HasJournal g state image = ⊤

-- the slot is committed, and this says of its journal what is wrong with it
abbrev pub HasFlaw : Layout → ℕ → SlotState → Image → Evidence → Type 0
HasFlaw g n (Committed start length bytes journal) image e =
    IsFlawed (journal_of g n start length bytes journal) image e
HasFlaw g n state image e = ⊥

-- how a look at a slot's journal may end, and why
abbrev pub SlotCheckEnds : Layout → ℕ → SlotState → DeviceState → DeviceState → Result Unit Fault → Type 0
SlotCheckEnds g n state old new (Ok u) = IsTrue old.tells → HasJournal g state new.image
SlotCheckEnds g n state old new (Err Failed) = Rose old.faults new.faults
SlotCheckEnds g n state old new (Err (Tampered e)) = IsTrue old.tells → HasFlaw g n state new.image e
