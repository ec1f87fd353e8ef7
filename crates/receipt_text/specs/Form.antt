-- The form of a receipt: a line for the document, one for each cell by rising address, and one that says how many there
-- are.
--
--     receipt 0 a
--     36 0600000000012cf24dba5fb000000024
--     end 1
use Rattle.std.specs.Prelude.{◌^◌, ◌≡◌, ◌≢◌, ◌<◌, ◌≤◌, ◌+◌, ℕ, List, [], ◌∷◌, ◌++◌, codes, decimal, length, map}
use Rattle.hex.specs.Hex.{encode_lower}
use Rattle.cell_types.specs.declared.geometry.TheConstants.{MAX_SLOTS}
use Rattle.cell_types.specs.declared.refusal.Refusal.{Refusal}
use Rattle.cell_types.specs.declared.refusal.Refusal.TheVariants as refusals
use Rattle.volume_meaning.specs.Documents.{IsIdentifier}
use Rattle.volume_meaning.specs.declared.limits.TheConstants.{MAX_IDENTIFIER_BYTES}
use Rattle.receipt_text.specs.Listed.{AreListed}
use Rattle.receipt_text.specs.declared.receipt.Receipt.{Receipt}
use Rattle.receipt_text.specs.declared.receipt.ReceiptFault.{ReceiptFault}
use Rattle.receipt_text.specs.declared.receipt.ReceiptFault.TheVariants.{BadReceipt, NoMemory}
use Rattle.receipt_text.specs.declared.receipt.TheConstants.{MAX_RECEIPT_CELLS}

-- the line of the document: its slot and its identifier
abbrev pub head_line : ℕ → List ℕ → List ℕ
head_line slot identifier = codes "receipt " ++ (decimal slot ++ (codes " " ++ identifier))

-- the line of a cell: its address, and its bytes in hexadecimal digits
abbrev pub cell_line : ℕ × List ℕ → List ℕ
cell_line cell = decimal cell.0 ++ (codes " " ++ encode_lower cell.1)

-- the last line: the number of cells
abbrev pub end_line : ℕ → List ℕ
end_line count = codes "end " ++ decimal count

-- the lines of a receipt
abbrev pub receipt_lines : Receipt → List (List ℕ)
receipt_lines r = head_line r.slot r.identifier ∷ (map cell_line r.cells ++ (end_line (length r.cells) ∷ []))

-- lines as a text: a newline behind each
abbrev pub text_of_lines : List (List ℕ) → List ℕ
text_of_lines [] = []
text_of_lines (line ∷ lines) = line ++ (codes "\n" ++ text_of_lines lines)

-- the text that spells a receipt
abbrev pub text_of_receipt : Receipt → List ℕ
text_of_receipt r = text_of_lines (receipt_lines r)

-- a receipt that a device of so many cells can bear out, of no more cells than it may have
pub record IsReceiptOn (cells : ℕ) (r : Receipt) : Type 0 where
  pub slot : r.slot < MAX_SLOTS
  pub identifier : IsIdentifier r.identifier
  pub listed : AreListed cells r.cells
  pub most : length r.cells ≤ MAX_RECEIPT_CELLS

-- a receipt of a device of so many cells begins with these lines
pub record BeginsReceipt (cells : ℕ) (lines : List (List ℕ)) : Type 0 where
  pub receipt : Receipt
  pub is : IsReceiptOn cells receipt
  pub rest : List (List ℕ)
  pub same : receipt_lines receipt ≡ lines ++ rest

-- Line i of the text, from 1, is the first that breaks the form, or has the first address that the device does not
-- have: a receipt begins with the lines before it, and none with these and it, whether it is some other line, ends
-- without a newline, or is not there at all. And the text is no receipt, so the lines before it are not all there is.
pub record IsFirstBadLine (cells : ℕ) (text : List ℕ) (i : ℕ) : Type 0 where
  pub before : List (List ℕ)
  pub rest : List ℕ
  pub number : i ≡ length before + 1
  pub splits : text ≡ text_of_lines before ++ rest
  pub begins : BeginsReceipt cells before
  pub breaks : (line behind : List ℕ) → rest ≡ line ++ (codes "\n" ++ behind)
      → BeginsReceipt cells (before ++ (line ∷ [])) → ⊥
  pub none : (r : Receipt) → IsReceiptOn cells r → text ≢ text_of_receipt r

-- the limits of the form, as numbers
pub record LimitsAreNumbers : Type 0 where
  pub cells : MAX_RECEIPT_CELLS ≡ 1000000
  pub slots : MAX_SLOTS ≡ 16777216
  pub identifier : MAX_IDENTIFIER_BYTES ≡ 200

-- what a fault of a receipt's text is to a command
abbrev pub refusal_of_receipt : ReceiptFault → Refusal
refusal_of_receipt (BadReceipt i) = refusals.BadReceipt i
refusal_of_receipt (NoMemory lack) = refusals.NoMemory

-- a text spells one receipt
abbrev pub TextsAreOne : Type 0
TextsAreOne =
    (cells : ℕ) (r s : Receipt) → cells < 2 ^ 32 → IsReceiptOn cells r → IsReceiptOn cells s
    → text_of_receipt r ≡ text_of_receipt s → r ≡ s

-- a text has one first line that breaks the form, and one that has such a line spells no receipt
pub record BadIsOne : Type 0 where
  pub one : (cells : ℕ) (text : List ℕ) (i j : ℕ) → cells < 2 ^ 32 → IsFirstBadLine cells text i
      → IsFirstBadLine cells text j → i ≡ j
  pub none : (cells : ℕ) (r : Receipt) (i : ℕ) → IsReceiptOn cells r → IsFirstBadLine cells (text_of_receipt r) i → ⊥
