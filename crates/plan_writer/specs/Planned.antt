-- What a plan asks to be written, in which phases.
use Rattle.std.specs.Prelude.{◌≡◌, ◌≤◌, ◌+◌, ◌-◌, ◌<◌, ◌^◌, ◌⊎◌, ℕ, zero, suc, List, length, slice_get, Option, Some, None}
use Rattle.cell_types.specs.Image.{Image}
use Rattle.cell_types.specs.Layout.{Layout, reserve_at, outcome_at, spare_at, pool_at, lists_at}
use Rattle.cell_types.specs.Records.{record_bytes}
use Rattle.cell_types.specs.declared.record_cell.RecordCell.TheVariants.{Reserve, Commit, Stamp}
use Rattle.volume_meaning.specs.Documents.{IsIdentifier, IsBody, content_at, stored_bytes}
use Rattle.volume_meaning.specs.Slots.{IsStampFor, cells_for}
use Rattle.tamper_rules.specs.declared.numbers.TheConstants.{RESERVE_CELL, OUTCOME_CELL, STRAY_CELL}
use Rattle.recovery_engine.specs.Putting.{IsInRow}
use Rattle.recovery_engine.specs.declared.put.Blame.TheVariants.{Rule, Journal}
use Rattle.recovery_engine.specs.declared.put.Put.{Put}
use Rattle.commit_record.specs.States.{FitsInto}
use Rattle.commit_record.specs.declared.reservation.Reservation.{Reservation}
use Rattle.recovery_engine.specs.Ending.{done_put}
use Rattle.recovery_engine.specs.Entries.{AreEntries, target_of}
use Rattle.plan_writer.specs.declared.plan.Plan.{Plan}

-- where the document of a plan begins, and where its journal does
abbrev pub document_from : Plan → ℕ
document_from p = p.start + p.block_length

abbrev pub journal_from : Plan → ℕ
journal_from p = p.start + p.block_length + length p.document.now

-- the cells that it reserves: blocks, document, journal
abbrev pub reserved_by : Plan → Reservation
reserved_by p = record {
  start = p.start;
  length = p.block_length + length p.document.now + length p.journal.now;
}

-- slot n's reserve cell of these cells, its stamp cell, and its commit cell
abbrev pub reserve_put : ℕ → Reservation → Put
reserve_put n cells = record {
  at = reserve_at n;
  value = record_bytes (Reserve cells.start cells.length) (reserve_at n);
  blame = Rule RESERVE_CELL;
}

abbrev pub stamp_put : ℕ → ℕ → Put
stamp_put n seconds = record {
  at = spare_at n;
  value = record_bytes (Stamp seconds) (spare_at n);
  blame = Rule STRAY_CELL;
}

abbrev pub commit_put : ℕ → ℕ → ℕ → Put
commit_put n bytes journal = record {
  at = outcome_at n;
  value = record_bytes (Commit bytes journal) (outcome_at n);
  blame = Rule OUTCOME_CELL;
}

-- slot n's stamp cell, if a stamp is given
pub record IsStampPut (n : ℕ) (stamp : Option ℕ) (put : Put) : Type 0 where
  pub seconds : ℕ
  pub given : stamp ≡ Some seconds
  pub is : put ≡ stamp_put n seconds

-- a cell of the document, or one of the journal behind it: these lie in the pool
abbrev pub IsPooledPut : Plan → Put → Type 0
IsPooledPut p put =
    IsInRow (document_from p) p.document.now STRAY_CELL put ⊎ IsInRow (journal_from p) p.journal.now STRAY_CELL put

-- what is stored before slot n is committed: its stamp, if one is given, and the document and the journal
abbrev pub IsStoredPut : ℕ → Plan → Put → Type 0
IsStoredPut n p put = IsStampPut n p.stamp put ⊎ IsPooledPut p put

-- what a cell of the journal asks for, which begins at this place
pub record IsAskedPut (place : ℕ) (journal : List (List ℕ)) (put : Put) : Type 0 where
  pub k : ℕ
  pub value : slice_get journal k ≡ Some put.value
  pub at : put.at ≡ target_of put.value
  pub blame : put.blame ≡ Journal (place + k)

-- how many phases an ingest has
abbrev pub INGEST_PHASES : ℕ
INGEST_PHASES = 5

-- which cells each of them puts: reserve, store, commit, apply, finish
abbrev pub ingest_phases : ℕ → Plan → ℕ → Put → Type 0
ingest_phases n p zero put = put ≡ reserve_put n (reserved_by p)
ingest_phases n p (suc zero) put = IsStoredPut n p put
ingest_phases n p (suc (suc zero)) put = put ≡ commit_put n p.bytes (length p.journal.now)
ingest_phases n p (suc (suc (suc zero))) put = IsAskedPut (journal_from p) p.journal.now put
ingest_phases n p (suc (suc (suc (suc zero)))) put = put ≡ done_put n
ingest_phases n p (suc (suc (suc (suc (suc j))))) put = ⊥

-- these cells as an image, from a place on
abbrev pub laid : ℕ → List (List ℕ) → Image
laid place cells at = slice_get cells (at - place)

-- A plan suits a volume: the cells that it reserves lie in the pool, its document and journal are as many as a commit
-- cell can state, a stamp is given exactly where documents are stamped and has 32 bits, and the journal asks for what
-- it may ask for.
pub record Suits (g : Layout) (p : Plan) : Type 0 where
  pub from : pool_at g ≤ p.start
  pub to : p.start + (reserved_by p).length ≤ g.cells
  pub fits : FitsInto (reserved_by p).length p.bytes (length p.journal.now)
  pub document : length p.document.now ≡ cells_for p.bytes
  pub stamp : IsStampFor g p.stamp
  pub stamp_fits : (seconds : ℕ) → p.stamp ≡ Some seconds → seconds < 2 ^ 32
  pub entries : AreEntries (lists_at g) (laid (journal_from p) p.journal.now) (journal_from p) (document_from p)
      (length p.journal.now)

-- the plan's document is this one
pub record PlansDocument (p : Plan) (id body : List ℕ) : Type 0 where
  pub identifier : IsIdentifier id
  pub is_body : IsBody body
  pub bytes : p.bytes ≡ length (stored_bytes id body)
  pub each : (k : ℕ) → k < cells_for (length (stored_bytes id body))
      → slice_get p.document.now k ≡ Some (content_at (stored_bytes id body) k)
