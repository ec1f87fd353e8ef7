-- What the steps of reading a receipt say, and how the reading may end.
use Rattle.std.specs.Prelude.{◌≡◌, ◌≢◌, ◌<◌, ◌≤◌, ◌+◌, ℕ, List, [], ◌∷◌, ◌++◌, codes, length, map, slice_index, Result, Ok, Err, ⊤}
use Rattle.cell_types.specs.Bytes.{IsCell}
use Rattle.receipt_text.specs.Form.{IsFirstBadLine, IsReceiptOn, cell_line, end_line, text_of_lines, text_of_receipt}
use Rattle.receipt_text.specs.Listed.{AreListed}
use Rattle.receipt_text.specs.declared.receipt.Receipt.{Receipt}
use Rattle.receipt_text.specs.declared.receipt.ReceiptFault.{ReceiptFault}
use Rattle.receipt_text.specs.declared.receipt.ReceiptFault.TheVariants.{BadReceipt, NoMemory}
use Rattle.receipt_text.specs.declared.receipt.TheConstants.{MAX_RECEIPT_CELLS}
use Rattle.receipt_text.specs.declared.reading.Listing.{Listing}

-- none of the bytes is this one
abbrev pub Lacks : ℕ → List ℕ → Type 0
Lacks byte text = (i : ℕ) → i < length text → slice_index text i ≢ byte

-- the least address that may follow these cells, the first of which is at this one or past it
abbrev pub next_of : ℕ → List (ℕ × List ℕ) → ℕ
next_of from [] = from
next_of from (cell ∷ cells) = next_of (cell.0 + 1) cells

-- So many cells were read, and their lines are what stood before the rest of the text.
pub record CellsReadSoFar (size : ℕ) (text : List ℕ) (count next : ℕ) (cells : List (ℕ × List ℕ))
    (rest : List ℕ) : Type 0
  where
    pub counted : length cells ≡ count
    pub behind : next_of 0 cells ≡ next
    pub listed : AreListed size cells
    pub room : next ≤ size
    pub splits : text ≡ text_of_lines (map cell_line cells) ++ rest

-- Behind the line of the document, line i of the text is no line that can follow the lines of cells before it.
pub record IsStuck (size : ℕ) (text : List ℕ) (i : ℕ) : Type 0 where
  pub cells : List (ℕ × List ℕ)
  pub rest : List ℕ
  pub listed : AreListed size cells
  pub most : length cells ≤ MAX_RECEIPT_CELLS
  pub number : i ≡ length cells + 2
  pub splits : text ≡ text_of_lines (map cell_line cells) ++ rest
  pub no_cell : (at : ℕ) (value behind : List ℕ) → length cells < MAX_RECEIPT_CELLS → next_of 0 cells ≤ at → at < size
      → IsCell value → rest ≢ cell_line (at, value) ++ (codes "\n" ++ behind)
  pub no_end : (behind : List ℕ) → rest ≢ end_line (length cells) ++ (codes "\n" ++ behind)

-- the text has the lines of these cells and the end line, and what is behind them
pub record IsListing (size : ℕ) (text : List ℕ) (listing : Listing) : Type 0 where
  pub count : length listing.cells ≡ listing.count
  pub most : listing.count ≤ MAX_RECEIPT_CELLS
  pub listed : AreListed size listing.cells
  pub splits : text ≡ text_of_lines (map cell_line listing.cells)
      ++ (end_line listing.count ++ (codes "\n" ++ listing.behind.now))

-- how reading the cells of a receipt may end
abbrev pub ListingEnds : ℕ → List ℕ → Result Listing ReceiptFault → Type 0
ListingEnds size text (Ok listing) = IsListing size text listing
ListingEnds size text (Err (BadReceipt i)) = IsStuck size text i
ListingEnds size text (Err (NoMemory lack)) = ⊤

-- How reading a receipt may end, and why: it is the one that the text spells, or the first line that breaks the form is
-- named. Memory may be wanting.
abbrev pub ReadReceiptEnds : ℕ → List ℕ → Result Receipt ReceiptFault → Type 0
ReadReceiptEnds cells text (Ok r) = IsReceiptOn cells r × (text ≡ text_of_receipt r)
ReadReceiptEnds cells text (Err (BadReceipt i)) = IsFirstBadLine cells text i
ReadReceiptEnds cells text (Err (NoMemory lack)) = ⊤
