-- What it means that a document is held as the cells that it is stored in.
use Rattle.std.specs.Prelude.{◌≡◌, ℕ, List, length}
use Rattle.append_file.specs.StoredCells.{AreCellsOf}
use Rattle.volume_meaning.specs.Documents.{stored_bytes}
use Rattle.ingest_engine.specs.declared.document.StoredDocument.{StoredDocument}

-- it holds the document of this identifier and this body
pub record IsStoredAs (id body : List ℕ) (document : StoredDocument) : Type 0 where
  pub bytes : document.bytes ≡ length (stored_bytes id body)
  pub cells : AreCellsOf (stored_bytes id body) document.cells.items
