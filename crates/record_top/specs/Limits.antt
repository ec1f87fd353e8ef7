-- The limits and numbers that clauses cite by a constant's name, as the numbers that users are told.
use Rattle.std.specs.Prelude.{◌≡◌}
use Rattle.cell_types.specs.declared.geometry.TheConstants.{FIRST_VERSION, FOLDED_VERSION, MAX_CELLS, MAX_LISTS, MAX_SLOTS, NEWEST_VERSION, STAMPED_VERSION}
use Rattle.cell_types.specs.declared.record_cell.TheConstants.{MAX_STORED_BYTES, MIN_STORED_BYTES}
use Rattle.volume_meaning.specs.declared.limits.TheConstants.{MAX_BODY_BYTES, MAX_IDENTIFIER_BYTES}
use Rattle.record_query.specs.declared.finding.TheConstants.{CELL_READS, FIND_READS, TERM_READS}
use Rattle.receipt_text.specs.declared.receipt.TheConstants.{MAX_RECEIPT_CELLS}
use Rattle.script_events.specs.declared.limits.TheConstants.{MAX_EVENTS, MAX_FAILING, MAX_FOREIGN_WRITES, MAX_KEPT, MAX_MOMENT, MAX_SCRIPT_CELLS, MAX_WORDS}
use Rattle.script_replies.specs.declared.beginning.TheConstants.{MAX_REPLAYED_CELLS}
use Rattle.command_line.specs.declared.words.TheConstants.{MAX_DOCUMENTS, MAX_QUERY_WORDS}
use Rattle.volume_commands.specs.declared.body.TheConstants.{MAX_RECEIPT_BYTES}

-- how large a volume and its documents may be, and which versions there are
pub record LimitsOfVolumes : Type 0 where
  pub cells : MAX_CELLS ≡ 2147483648
  pub slots : MAX_SLOTS ≡ 16777216
  pub lists : MAX_LISTS ≡ 4096
  pub first : FIRST_VERSION ≡ 1
  pub folded : FOLDED_VERSION ≡ 2
  pub stamped : STAMPED_VERSION ≡ 3
  pub newest : NEWEST_VERSION ≡ 3
  -- bytes of a body, of an identifier, and of both with the byte that says how long the identifier is
  pub body : MAX_BODY_BYTES ≡ 1048576
  pub identifier : MAX_IDENTIFIER_BYTES ≡ 200
  pub stored : MAX_STORED_BYTES ≡ 1048777
  pub least_stored : MIN_STORED_BYTES ≡ 2

-- what commands take, and what a find reads at most
pub record LimitsOfCommands : Type 0 where
  pub words : MAX_QUERY_WORDS ≡ 8
  pub documents : MAX_DOCUMENTS ≡ 2000
  pub receipt_cells : MAX_RECEIPT_CELLS ≡ 1000000
  pub receipt_bytes : MAX_RECEIPT_BYTES ≡ 67108864
  -- reads of a find: of settling, for each term and document of it, and for each cell of a candidate
  pub find_reads : FIND_READS ≡ 256
  pub term_reads : TERM_READS ≡ 49152
  pub cell_reads : CELL_READS ≡ 4

-- what a script may ask for
pub record LimitsOfScripts : Type 0 where
  pub script_cells : MAX_SCRIPT_CELLS ≡ 65536
  pub replayed_cells : MAX_REPLAYED_CELLS ≡ 2147483631
  pub events : MAX_EVENTS ≡ 1000
  pub words : MAX_WORDS ≡ 8
  pub failing : MAX_FAILING ≡ 16
  pub foreign_writes : MAX_FOREIGN_WRITES ≡ 64
  pub kept : MAX_KEPT ≡ 65536
  pub moment : MAX_MOMENT ≡ 1000000
