-- Cells that are read one after another, and where the reading is stuck.
use Rattle.std.proofs.Common.{◌≡◌, ◌≢◌, ◌<◌, ◌≤◌, ◌+◌, ◌^◌, ℕ, List, [], ◌∷◌, ◌++◌, append_assoc, length, length-append, map, refl, sym, ap, subst, arith, ◌∙◌}
use Rattle.std.specs.BTreeMap.{insert_entry}
use Rattle.std.specs.Ordering.{nat_cmp}
use Rattle.cell_types.specs.Bytes.{IsCell}
use Rattle.receipt_text.specs.Form.{cell_line, end_line, text_of_lines}
use Rattle.receipt_text.specs.Listed.{AreListedFrom}
use Rattle.receipt_text.specs.Reading.{IsListing, IsStuck, Lacks, CellsReadSoFar, next_of}
use Rattle.receipt_text.specs.declared.reading.Listing.{Listing}
use Rattle.receipt_text.specs.declared.receipt.TheConstants.{MAX_RECEIPT_CELLS}
use Rattle.receipt_text.proofs.Cutting.{cut_once}
use Rattle.receipt_text.proofs.Listing.{listed_behind, listed_below, listed_more}
use Rattle.receipt_text.proofs.ReceiptLines.{cell_is_line, end_is_line}
use Rattle.receipt_text.proofs.TextLines.{text_append}

-- no cell is read at the beginning
pub nothing_read : (size : ℕ) (text : List ℕ) → CellsReadSoFar size text 0 0 [] text
nothing_read size text = record { counted = refl; behind = refl; listed = tt; room = omega arith; splits = refl }

-- ---- one cell more

-- listed cells stand below the address that may follow them
listed_tight : (size from : ℕ) (cells : List (ℕ × List ℕ)) → AreListedFrom size from cells
    → AreListedFrom (next_of from cells) from cells
listed_tight size from [] are = tt
listed_tight size from (e ∷ es) are =
    (are.0, omega (arith, next_past (e.0 + 1) es are.3), are.2, listed_tight size (e.0 + 1) es are.3)
  where
    next_past : (first : ℕ) (cells : List (ℕ × List ℕ)) → AreListedFrom size first cells → first ≤ next_of first cells
    next_past first [] listed = omega arith
    next_past first (c ∷ cs) listed = omega (arith, listed.0, next_past (c.0 + 1) cs listed.3)

next_more : (from at : ℕ) (value : List ℕ) (cells : List (ℕ × List ℕ))
    → next_of from (cells ++ ((at, value) ∷ [])) ≡ at + 1
next_more from at value [] = refl
next_more from at value (e ∷ es) = next_more (e.0 + 1) at value es

map_more : (cells : List (ℕ × List ℕ)) (cell : ℕ × List ℕ)
    → map cell_line (cells ++ (cell ∷ [])) ≡ map cell_line cells ++ (cell_line cell ∷ [])
map_more [] cell = refl
map_more (e ∷ es) cell = ap (λ (l : List (List ℕ)). cell_line e ∷ l) (map_more es cell)

text_more : (cells : List (ℕ × List ℕ)) (cell : ℕ × List ℕ) (behind : List ℕ)
    → text_of_lines (map cell_line (cells ++ (cell ∷ []))) ++ behind
    ≡ text_of_lines (map cell_line cells) ++ (cell_line cell ++ (10 ∷ behind))
text_more cells cell behind =
    ap (λ (l : List (List ℕ)). text_of_lines l ++ behind) (map_more cells cell)
    ∙ ap (λ (t : List ℕ). t ++ behind) (text_append (map cell_line cells) (cell_line cell ∷ []))
    ∙ append_assoc (text_of_lines (map cell_line cells)) (cell_line cell ++ (10 ∷ [])) behind
    ∙ ap (λ (t : List ℕ). text_of_lines (map cell_line cells) ++ t) (append_assoc (cell_line cell) (10 ∷ []) behind)

pub read_more : (size : ℕ) (text : List ℕ) (count next at : ℕ) (value : List ℕ) (cells new : List (ℕ × List ℕ))
    (rest front behind : List ℕ) → CellsReadSoFar size text count next cells rest → rest ≡ front ++ (10 ∷ behind)
    → front ≡ cell_line (at, value) → next ≤ at → at < size → IsCell value
    → new ≡ insert_entry nat_cmp cells at value → CellsReadSoFar size text (count + 1) (at + 1) new behind
read_more size text count next at value cells new rest front behind so_far cut line past below is put =
    subst (λ (l : List (ℕ × List ℕ)). CellsReadSoFar size text (count + 1) (at + 1) l behind) (sym whole) (record {
      counted = (let many = length-append cells ((at, value) ∷ []) in omega (arith, many, so_far.counted));
      behind = next_more 0 at value cells;
      listed = listed_more size 0 at value cells tight (omega arith) below is;
      room = omega (arith, below);
      splits = so_far.splits ∙ ap (λ (t : List ℕ). text_of_lines (map cell_line cells) ++ t)
          (cut ∙ ap (λ (t : List ℕ). t ++ (10 ∷ behind)) line) ∙ sym (text_more cells (at, value) behind);
    })
  where
    tight : AreListedFrom at 0 cells
    tight = listed_below (next_of 0 cells) at 0 cells (omega (arith, so_far.behind, past))
        (listed_tight size 0 cells so_far.listed)

    whole : new ≡ cells ++ ((at, value) ∷ [])
    whole = put ∙ listed_behind 0 at value cells tight

-- ---- the end

-- as many cells were read as may be
pub read_most : (size : ℕ) (text : List ℕ) (count next : ℕ) (cells : List (ℕ × List ℕ)) (rest : List ℕ)
    → CellsReadSoFar size text count next cells rest → count ≤ MAX_RECEIPT_CELLS → MAX_RECEIPT_CELLS ≤ count
    → CellsReadSoFar size text MAX_RECEIPT_CELLS next cells rest
read_most size text count next cells rest so_far most full =
    subst (λ (n : ℕ). CellsReadSoFar size text n next cells rest)
    (let same : count ≡ MAX_RECEIPT_CELLS = omega (arith, most, full) in same) so_far

-- the line of the end was read
pub all_read : (size : ℕ) (text : List ℕ) (next : ℕ) (listing : Listing) (rest front : List ℕ)
    → CellsReadSoFar size text listing.count next listing.cells rest → rest ≡ front ++ (10 ∷ listing.behind.now)
    → front ≡ end_line listing.count → listing.count ≤ MAX_RECEIPT_CELLS → IsListing size text listing
all_read size text next listing rest front so_far cut line most = record {
  count = so_far.counted;
  most = most;
  listed = so_far.listed;
  splits = so_far.splits ∙ ap (λ (t : List ℕ). text_of_lines (map cell_line listing.cells) ++ t)
      (cut ∙ ap (λ (t : List ℕ). t ++ (10 ∷ listing.behind.now)) line);
}

-- ---- stuck

module _ (size : ℕ) (text : List ℕ) (count next : ℕ) (cells : List (ℕ × List ℕ)) (rest : List ℕ) (small : size < 2 ^ 32)
    (so_far : CellsReadSoFar size text count next cells rest) (most : count ≤ MAX_RECEIPT_CELLS) where
  -- no line is left
  pub stuck_without_line : ((front behind : List ℕ) → rest ≢ front ++ (10 ∷ behind)) → IsStuck size text (count + 2)
  stuck_without_line never = record {
    cells = cells;
    rest = rest;
    listed = so_far.listed;
    most = omega (arith, so_far.counted, most);
    number = omega (arith, so_far.counted);
    splits = so_far.splits;
    no_cell = λ at value behind room past below is same. never (cell_line (at, value)) behind same;
    no_end = λ behind same. never (end_line (length cells)) behind same;
  }

  module _ (front behind : List ℕ) (cut : rest ≡ front ++ (10 ∷ behind)) (lacks : Lacks 10 front)
      (no_end : front ≢ end_line count) where
    -- the line neither ends the receipt nor lists a cell that can follow
    pub stuck_at_line : ((at : ℕ) (value : List ℕ) → count < MAX_RECEIPT_CELLS → next ≤ at → at < size → IsCell value
        → front ≢ cell_line (at, value)) → IsStuck size text (count + 2)
    stuck_at_line no_cell = record {
      cells = cells;
      rest = rest;
      listed = so_far.listed;
      most = omega (arith, so_far.counted, most);
      number = omega (arith, so_far.counted);
      splits = so_far.splits;
      no_cell = λ at value after room past below is same.
          no_cell at value (omega (arith, so_far.counted, room)) (omega (arith, so_far.behind, past)) below is
          (cut_once 10 front behind (cell_line (at, value)) after lacks
          (cell_is_line (at, value) (omega (arith, below, small))) (sym cut ∙ same)).0;
      no_end = λ after same.
          no_end
          ((cut_once 10 front behind (end_line (length cells)) after lacks
          (end_is_line (length cells) (omega (arith, so_far.counted, most))) (sym cut ∙ same)).0
          ∙ ap end_line so_far.counted);
    }

    -- no cell may follow
    pub stuck_at_most : MAX_RECEIPT_CELLS ≤ count → IsStuck size text (count + 2)
    stuck_at_most full = stuck_at_line (λ at value room past below is same. omega (arith, room, full))
