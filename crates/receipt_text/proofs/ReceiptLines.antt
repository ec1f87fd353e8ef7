-- The lines of receipts: no two kinds are alike, and what follows the lines of some cells.
use Rattle.std.proofs.Common.{◌≡◌, ◌≢◌, ◌<◌, ◌≤◌, ◌+◌, ◌^◌, ℕ, List, [], ◌∷◌, ◌++◌, codes, decimal, drop, length, map, Ok, refl, sym, ap, subst, arith, ◌∙◌}
use Rattle.std.proofs.lemmas.Fmt.{decimal_injective, decimal_nonempty}
use Rattle.hex.specs.Hex.{encode_lower}
use Rattle.cell_types.specs.Bytes.{IsCell}
use Rattle.cell_types.specs.declared.geometry.TheConstants.{MAX_SLOTS}
use Rattle.volume_meaning.specs.Documents.{IsIdentifier}
use Rattle.receipt_text.specs.Form.{IsReceiptOn, cell_line, end_line, head_line, receipt_lines}
use Rattle.receipt_text.specs.Listed.{AreListedFrom}
use Rattle.receipt_text.specs.Reading.{Lacks, next_of}
use Rattle.receipt_text.specs.declared.receipt.Receipt.{Receipt}
use Rattle.receipt_text.proofs.Cutting.{cut_once, digits_lack_newline, lacks_append, lacks_cons, lacks_none, lacks_tested, number_lacks}
use Rattle.receipt_text.proofs.Spelling.{decodes, number_lacks_space}
use Rattle.receipt_text.proofs.TextLines.{AreLines, lines_append}

-- ---- no line has a newline

number_lacks_newline : (n : ℕ) → n < 2 ^ 32 → Lacks 10 (decimal n)
number_lacks_newline n below = number_lacks 10 n (omega arith) (λ d small same. omega (arith, same))

space_is_other : Lacks 10 (32 ∷ [])
space_is_other = lacks_cons 10 32 [] (λ same. omega (arith, same)) (lacks_none 10)

identifier_lacks : (id : List ℕ) → IsIdentifier id → Lacks 10 id
identifier_lacks id is i below same = omega (arith, same, (is.each i below).0)

pub head_is_line : (slot : ℕ) (id : List ℕ) → slot < MAX_SLOTS → IsIdentifier id → Lacks 10 (head_line slot id)
head_is_line slot id below is =
    lacks_append 10 (codes "receipt ") (decimal slot ++ (32 ∷ id)) (lacks_tested 10 (codes "receipt ") refl)
    (lacks_append 10 (decimal slot) (32 ∷ id) (number_lacks_newline slot (omega arith))
    (lacks_append 10 (32 ∷ []) id space_is_other (identifier_lacks id is)))

pub cell_is_line : (cell : ℕ × List ℕ) → cell.0 < 2 ^ 32 → Lacks 10 (cell_line cell)
cell_is_line cell below =
    lacks_append 10 (decimal cell.0) (32 ∷ encode_lower cell.1) (number_lacks_newline cell.0 below)
    (lacks_append 10 (32 ∷ []) (encode_lower cell.1) space_is_other (digits_lack_newline cell.1))

pub end_is_line : (count : ℕ) → count < 2 ^ 32 → Lacks 10 (end_line count)
end_is_line count below =
    lacks_append 10 (codes "end ") (decimal count) (lacks_tested 10 (codes "end ") refl)
    (number_lacks_newline count below)

cells_are_lines : (size from : ℕ) (cells : List (ℕ × List ℕ)) → size < 2 ^ 32 → AreListedFrom size from cells
    → AreLines (map cell_line cells)
cells_are_lines size from [] small are = tt
cells_are_lines size from (e ∷ es) small are =
    (cell_is_line e (omega (arith, are.1)), cells_are_lines size (e.0 + 1) es small are.3)

pub receipt_is_lines : (cells : ℕ) (r : Receipt) → cells < 2 ^ 32 → IsReceiptOn cells r → AreLines (receipt_lines r)
receipt_is_lines cells r small is = (
  head_is_line r.slot r.identifier is.slot is.identifier,
  lines_append (map cell_line r.cells) (end_line (length r.cells) ∷ [])
      (cells_are_lines cells 0 r.cells small is.listed)
      (end_is_line (length r.cells) (omega (arith, is.most)), tt),
)

-- ---- lines of one kind

begins_other : (byte : ℕ) (digits rest tail : List ℕ) → 0 < length digits → Lacks byte digits
    → digits ++ rest ≢ byte ∷ tail
begins_other byte [] rest tail some lacks same = omega arith
begins_other byte (d ∷ ds) rest tail some lacks same = lacks 0 (omega arith) (cc same)

-- no line of a cell is the line of the end
pub cell_no_end : (cell : ℕ × List ℕ) (count : ℕ) → cell.0 < 2 ^ 32 → cell_line cell ≢ end_line count
cell_no_end cell count below same =
    begins_other 101 (decimal cell.0) (32 ∷ encode_lower cell.1) (drop 1 (end_line count))
    (decimal_nonempty cell.0 (omega arith))
    (number_lacks 101 cell.0 (omega arith) (λ d small e. omega (arith, e))) same

-- a line spells one cell
pub cell_once : (c e : ℕ × List ℕ) → c.0 < 2 ^ 32 → e.0 < 2 ^ 32 → IsCell c.1 → IsCell e.1
    → cell_line c ≡ cell_line e → (c.0 ≡ e.0) × (c.1 ≡ e.1)
cell_once c e below other one two same =
    let cut = cut_once 32 (decimal c.0) (encode_lower c.1) (decimal e.0) (encode_lower e.1)
    (number_lacks_space c.0 below) (number_lacks_space e.0 other) same in
    let first = decodes (encode_lower c.1) c.1 one refl in
    let second = decodes (encode_lower c.1) e.1 two cut.1 in
    let both : Ok c.1 ≡ Ok e.1 = sym first ∙ second in
    (decimal_injective c.0 e.0 (omega arith) (omega arith) cut.0, cc both)

-- a line spells one slot and one identifier
pub head_once : (m n : ℕ) (a b : List ℕ) → m < MAX_SLOTS → n < MAX_SLOTS → head_line m a ≡ head_line n b
    → (m ≡ n) × (a ≡ b)
head_once m n a b below other same =
    let cut = cut_once 32 (decimal m) a (decimal n) b (number_lacks_space m (omega arith))
    (number_lacks_space n (omega arith)) (ap (drop 8) same) in
    (decimal_injective m n (omega arith) (omega arith) cut.0, cut.1)

-- ---- what follows the lines of cells

-- What a line behind the lines of some cells says, of a receipt that begins with all of them: it ends the receipt, or
-- it lists one more cell.
pub data Follows (size from count : ℕ) (before cells : List (ℕ × List ℕ)) (line : List ℕ) : Type 0 where
  ends : cells ≡ before → line ≡ end_line count → Follows size from count before cells line
  lists : (at : ℕ) (value : List ℕ) → next_of from before ≤ at → at < size → IsCell value
      → length before < length cells → line ≡ cell_line (at, value) → Follows size from count before cells line

pub follows : (size from count : ℕ) (before cells : List (ℕ × List ℕ)) (line : List ℕ) (more : List (List ℕ))
    → size < 2 ^ 32 → AreListedFrom size from before → AreListedFrom size from cells
    → map cell_line cells ++ (end_line count ∷ []) ≡ map cell_line before ++ (line ∷ more)
    → Follows size from count before cells line
follows size from count [] [] line more small one two same = ends refl (cc same)
follows size from count [] (c ∷ cs) line more small one two same =
    lists c.0 c.1 two.0 two.1 two.2 (omega arith) (cc same)
follows size from count (e ∷ es) [] line more small one two same =
    absurd (cell_no_end e count (omega (arith, one.1)) (cc same))
follows size from count (e ∷ es) (c ∷ cs) line more small one two same =
    let head : cell_line c ≡ cell_line e = cc same in
    let tail : map cell_line cs ++ (end_line count ∷ []) ≡ map cell_line es ++ (line ∷ more) = cc same in
    let alike = cell_once c e (omega (arith, two.1)) (omega (arith, one.1)) two.2 one.2 head in
    let there = subst (λ (n : ℕ). AreListedFrom size (n + 1) cs) alike.0 two.3 in
    go (follows size (e.0 + 1) count es cs line more small one.3 there tail) (ap (λ (n : ℕ). n) alike.0) alike.1
  where
    go : Follows size (e.0 + 1) count es cs line → c.0 ≡ e.0 → c.1 ≡ e.1
        → Follows size from count (e ∷ es) (c ∷ cs) line
    go (ends same_cells is) at value =
        ends (ap (λ (x : ℕ). (x, c.1) ∷ cs) at ∙ ap (λ (x : List ℕ). (e.0, x) ∷ cs) value
        ∙ ap (λ (l : List (ℕ × List ℕ)). e ∷ l) same_cells) is
    go (lists a v past below cell longer is) at value = lists a v past below cell (omega arith) is

-- cells with the line of the end are no cells alone
pub never_whole : (size from count : ℕ) (before cells : List (ℕ × List ℕ)) → size < 2 ^ 32
    → AreListedFrom size from before
    → map cell_line cells ++ (end_line count ∷ []) ≢ map cell_line before
never_whole size from count [] [] small are same = cc same
never_whole size from count [] (c ∷ cs) small are same = cc same
never_whole size from count (e ∷ es) [] small are same = cell_no_end e count (omega (arith, are.1)) (cc same)
never_whole size from count (e ∷ es) (c ∷ cs) small are same =
    never_whole size (e.0 + 1) count es cs small are.3 (cc same)

-- the cells of a receipt are those that its lines list
pub cells_once : (size from m n : ℕ) (one other : List (ℕ × List ℕ)) → size < 2 ^ 32 → AreListedFrom size from one
    → AreListedFrom size from other
    → map cell_line one ++ (end_line m ∷ []) ≡ map cell_line other ++ (end_line n ∷ []) → one ≡ other
cells_once size from m n one other small are also same =
    go (follows size from m other one (end_line n) [] small also are same)
  where
    go : Follows size from m other one (end_line n) → one ≡ other
    go (ends same_cells is) = same_cells
    go (lists a v past below cell longer is) = absurd (cell_no_end (a, v) n (omega (arith, below, small)) (sym is))
