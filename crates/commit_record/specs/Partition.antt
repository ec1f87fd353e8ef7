-- The three parts of a slot's cells: its blocks, its document and its journal.
use Rattle.std.specs.Prelude.{◌≤◌, ◌+◌, ◌-◌, ℕ, Option, Some, None, ⊤}
use Rattle.cell_types.specs.declared.geometry.TheConstants.{MAX_CELLS}
use Rattle.volume_meaning.specs.Documents.{document_at}
use Rattle.volume_meaning.specs.Slots.{cells_for}
use Rattle.tamper_rules.specs.Journals.{journal_at}
use Rattle.commit_record.specs.declared.slot.SlotState.{SlotState}
use Rattle.commit_record.specs.declared.slot.SlotState.TheVariants.{Unused, Reserved, Abandoned, Committed, Done}
use Rattle.commit_record.specs.declared.partition.Parts.{Parts}

-- the document and the journal fit into the slot's cells, and these lie on a device
abbrev pub HasRoomFor : ℕ → ℕ → ℕ → ℕ → Type 0
HasRoomFor start length bytes journal = (cells_for bytes + journal ≤ length) × (start + length ≤ MAX_CELLS)

-- so it is where the state has a document
abbrev pub HasRoom : SlotState → Type 0
HasRoom Unused = ⊤
HasRoom (Reserved start length) = ⊤
HasRoom (Abandoned start length) = ⊤
HasRoom (Committed start length bytes journal) = HasRoomFor start length bytes journal
HasRoom (Done start length bytes journal) = HasRoomFor start length bytes journal

-- the journal is last, the document before it, and blocks are what is left in front
abbrev pub parts_in : ℕ → ℕ → ℕ → ℕ → Parts
parts_in start length bytes journal = record {
  blocks = start;
  block_length = document_at start length bytes journal - start;
  document = document_at start length bytes journal;
  document_cells = cells_for bytes;
  journal = journal_at start length journal;
  journal_cells = journal;
}

-- a slot has parts where it is committed or done
abbrev pub parts_of : SlotState → Option Parts
parts_of Unused = None
parts_of (Reserved start length) = None
parts_of (Abandoned start length) = None
parts_of (Committed start length bytes journal) = Some (parts_in start length bytes journal)
parts_of (Done start length bytes journal) = Some (parts_in start length bytes journal)
