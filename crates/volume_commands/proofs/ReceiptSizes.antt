-- How many bytes the text of a receipt has: fewer than are taken from a source.
use Rattle.std.proofs.Common.{◌≡◌, ◌<◌, ◌≤◌, ◌+◌, ◌*◌, ◌^◌, ◌++◌, ℕ, List, [], ◌∷◌, length, map, arith, length-append}
use Rattle.std.specs.Prelude.{codes, decimal}
use Rattle.std.proofs.lemmas.Fmt.{length-decimal-le}
use Rattle.hex.specs.Hex.{encode_lower, lower_digits}
use Rattle.hex.proofs.HexLemmas.{length-encode_with}
use Rattle.cell_types.specs.Bytes.{IsCell}
use Rattle.receipt_text.specs.Form.{IsReceiptOn, cell_line, end_line, head_line, text_of_lines, text_of_receipt}
use Rattle.receipt_text.specs.Listed.{AreListedFrom}
use Rattle.receipt_text.specs.declared.receipt.Receipt.{Receipt}
use Rattle.volume_commands.specs.declared.body.TheConstants.{MAX_RECEIPT_BYTES}

-- a number of 32 bits has ten digits at most
ten_digits : (n : ℕ) → n < 2 ^ 32 → length (decimal n) ≤ 10
ten_digits n few = length-decimal-le 10 n (omega arith) (omega (arith, few)) (omega (arith, few))

-- one line more
line_more : (line : List ℕ) (lines : List (List ℕ))
    → length (text_of_lines (line ∷ lines)) ≡ length line + 1 + length (text_of_lines lines)
line_more line lines =
    omega (
      arith,
      length-append line (codes "\n" ++ text_of_lines lines),
      length-append (codes "\n")
          (text_of_lines lines),
    )

cell_line_fits : (at : ℕ) (value : List ℕ) → at < 2 ^ 32 → IsCell value → length (cell_line (at, value)) ≤ 43
cell_line_fits at value few is = omega (
  arith,
  length-append (decimal at) (codes " " ++ encode_lower value),
  length-append (codes " ") (encode_lower value),
  ten_digits at few,
  length-encode_with lower_digits value,
  is.sixteen,
)

cells_fit : (size from : ℕ) (cells : List (ℕ × List ℕ)) (behind : List (List ℕ)) → size ≤ 2 ^ 32
    → AreListedFrom size from cells
    → length (text_of_lines (map cell_line cells ++ behind)) ≤ 44 * length cells + length (text_of_lines behind)
cells_fit size from [] behind few are = omega arith
cells_fit size from (cell ∷ cells) behind few are = omega (
  arith,
  line_more (cell_line cell) (map cell_line cells ++ behind),
  cell_line_fits cell.0 cell.1 (omega (arith, are.1, few)) are.2,
  cells_fit size (cell.0 + 1) cells behind few are.3,
)

head_fits : (slot : ℕ) (identifier : List ℕ) → slot < 2 ^ 32 → length identifier ≤ 200
    → length (head_line slot identifier) ≤ 219
head_fits slot identifier few most = omega (
  arith,
  length-append (codes "receipt ") (decimal slot ++ (codes " " ++ identifier)),
  length-append (decimal slot) (codes " " ++ identifier),
  length-append (codes " ") identifier,
  ten_digits slot few,
  most,
)

end_fits : (count : ℕ) → count < 2 ^ 32 → length (end_line count) ≤ 14
end_fits count few = omega (arith, length-append (codes "end ") (decimal count), ten_digits count few)

-- the text of a receipt is not too long
pub receipt_fits : (cells : ℕ) (r : Receipt) → cells < 2 ^ 32 → IsReceiptOn cells r
    → length (text_of_receipt r) ≤ MAX_RECEIPT_BYTES
receipt_fits cells r few is = omega (
  arith,
  line_more (head_line r.slot r.identifier) (map cell_line r.cells ++ (end_line (length r.cells) ∷ [])),
  head_fits r.slot r.identifier (omega (arith, is.slot)) is.identifier.most,
  cells_fit cells 0 r.cells (end_line (length r.cells) ∷ []) (omega (arith, few)) is.listed,
  line_more (end_line (length r.cells)) [],
  end_fits (length r.cells) (omega (arith, is.most)),
  is.most,
)
