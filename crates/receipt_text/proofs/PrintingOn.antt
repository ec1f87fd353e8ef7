-- Lines that are appended one after another.
use Rattle.std.proofs.Common.{◌≡◌, ℕ, List, [], ◌∷◌, ◌++◌, append_assoc, append-nil, length, map, sym, ap, ◌∙◌}
use Rattle.receipt_text.specs.Form.{cell_line, end_line, head_line, text_of_lines, text_of_receipt}
use Rattle.receipt_text.specs.declared.receipt.Receipt.{Receipt}
use Rattle.receipt_text.proofs.TextLines.{text_append}

-- the line of the next cell is appended
pub print_more : (old new line : List ℕ) (left next : List (ℕ × List ℕ)) (cell : ℕ × List ℕ)
    → new ≡ old ++ text_of_lines (line ∷ []) → line ≡ cell_line cell → left ≡ cell ∷ next
    → new ++ text_of_lines (map cell_line next) ≡ old ++ text_of_lines (map cell_line left)
print_more old new line left next cell appended is more =
    ap (λ (t : List ℕ). t ++ text_of_lines (map cell_line next)) appended
    ∙ append_assoc old (line ++ (10 ∷ [])) (text_of_lines (map cell_line next))
    ∙ ap (λ (t : List ℕ). old ++ t) (append_assoc line (10 ∷ []) (text_of_lines (map cell_line next)))
    ∙ ap (λ (l : List ℕ). old ++ (l ++ (10 ∷ text_of_lines (map cell_line next)))) is
    ∙ ap (λ (cells : List (ℕ × List ℕ)). old ++ text_of_lines (map cell_line cells)) (sym more)

-- all are
pub print_all : (start text : List ℕ) (left cells : List (ℕ × List ℕ)) → left ≡ []
    → text ++ text_of_lines (map cell_line left) ≡ start ++ text_of_lines (map cell_line cells)
    → text ≡ start ++ text_of_lines (map cell_line cells)
print_all start text left cells none so_far =
    sym (append-nil text) ∙ ap (λ (l : List (ℕ × List ℕ)). text ++ text_of_lines (map cell_line l)) (sym none) ∙ so_far

-- the line of the document, the lines of the cells and the line of the end are the text of the receipt
pub print_whole : (r : Receipt) (count : ℕ) (first middle whole end : List ℕ)
    → first ≡ text_of_lines (head_line r.slot r.identifier ∷ [])
    → middle ≡ first ++ text_of_lines (map cell_line r.cells)
    → end ≡ end_line count → count ≡ length r.cells → whole ≡ middle ++ text_of_lines (end ∷ [])
    → whole ≡ text_of_receipt r
print_whole r count first middle whole end head cells is many appended =
    appended ∙ ap (λ (t : List ℕ). t ++ text_of_lines (end ∷ [])) both
    ∙ ap (λ (l : List ℕ). text_of_lines lines ++ text_of_lines (l ∷ [])) (is ∙ ap end_line many)
    ∙ sym (text_append lines (end_line (length r.cells) ∷ []))
  where
    lines : List (List ℕ)
    lines = head_line r.slot r.identifier ∷ map cell_line r.cells

    both : middle ≡ text_of_lines lines
    both = cells ∙ ap (λ (t : List ℕ). t ++ text_of_lines (map cell_line r.cells)) head
        ∙ sym (text_append (head_line r.slot r.identifier ∷ []) (map cell_line r.cells))
