-- A text spells one receipt, and has one first line that breaks the form.
use Rattle.std.proofs.Common.{◌≡◌, ◌<◌, ◌^◌, inl, inr, ℕ, List, [], ◌∷◌, ◌++◌, append_assoc, append-nil, drop, length, sym, ap, subst, arith, ◌∙◌}
use Rattle.std.proofs.lemmas.Bool.{cases_eq, cases_lt}
use Rattle.receipt_text.specs.Form.{BeginsReceipt, IsFirstBadLine, IsReceiptOn, TextsAreOne, head_line, receipt_lines, text_of_lines}
use Rattle.receipt_text.specs.declared.receipt.Receipt.{Receipt}
use Rattle.receipt_text.proofs.ReceiptLines.{cells_once, head_once, receipt_is_lines}
use Rattle.receipt_text.proofs.TextLines.{AreLines, goes_on, lines_before, nothing_next, same_lines}

-- the rest of a list of lines
abbrev pub rest_of : List (List ℕ) → List (List ℕ)
rest_of lines = drop 1 lines

-- a receipt of these parts
abbrev pub receipt_with : ℕ → List ℕ → List (ℕ × List ℕ) → Receipt
receipt_with slot id cells = record { slot = slot; identifier = id; cells = cells }

-- the same lines are those of the same receipt
pub lines_once : (cells : ℕ) (r s : Receipt) → cells < 2 ^ 32 → IsReceiptOn cells r → IsReceiptOn cells s
    → receipt_lines r ≡ receipt_lines s → r ≡ s
lines_once cells r s small one two same =
    let head : head_line r.slot r.identifier ≡ head_line s.slot s.identifier = cc same in
    let parts = head_once r.slot s.slot r.identifier s.identifier one.slot two.slot head in
    let listed = cells_once cells 0 (length r.cells) (length s.cells) r.cells s.cells small one.listed two.listed
    (ap rest_of same) in
    ap (λ (n : ℕ). receipt_with n r.identifier r.cells) parts.0
    ∙ ap (λ (id : List ℕ). receipt_with s.slot id r.cells) parts.1
    ∙ ap (λ (l : List (ℕ × List ℕ)). receipt_with s.slot s.identifier l) listed

-- lines with nothing behind them
with_nothing : (lines : List (List ℕ)) → text_of_lines lines ++ [] ≡ text_of_lines lines
with_nothing lines = append-nil (text_of_lines lines)

-- a text of lines is not that of fewer lines
never_fewer : (lines others : List (List ℕ)) → AreLines lines → AreLines others
    → text_of_lines lines ≡ text_of_lines others → length lines < length others → ⊥
never_fewer lines others one two same less =
    let on = goes_on lines others [] [] one two (with_nothing lines ∙ same ∙ sym (with_nothing others)) less in
    nothing_next on.line on.behind on.next

-- texts of lines are the same where the lines are
texts_once : (lines others : List (List ℕ)) → AreLines lines → AreLines others
    → text_of_lines lines ≡ text_of_lines others → lines ≡ others
texts_once lines others one two same =
    elim (cases_eq (length lines) (length others)) [
      | inl many ↦
          (same_lines lines others [] [] one two (with_nothing lines ∙ same ∙ sym (with_nothing others)) many).0
      | inr differ ↦
          elim (cases_lt (length lines) (length others)) [
            | inl less ↦ absurd (never_fewer lines others one two same less)
            | inr more ↦ absurd (never_fewer others lines two one (sym same) (omega arith))
          ]
    ]

pub texts_are_one : TextsAreOne
texts_are_one cells r s small one two same =
    lines_once cells r s small one two
    (texts_once (receipt_lines r) (receipt_lines s) (receipt_is_lines cells r small one)
    (receipt_is_lines cells s small two) same)

-- a receipt that begins with more lines begins with these
pub begins_before : (cells : ℕ) (before : List (List ℕ)) (line : List ℕ) (more : List (List ℕ))
    → BeginsReceipt cells (before ++ (line ∷ more)) → BeginsReceipt cells (before ++ (line ∷ []))
begins_before cells before line more begins = record {
  receipt = begins.receipt;
  is = begins.is;
  rest = more ++ begins.rest;
  same = begins.same ∙ append_assoc before (line ∷ more) begins.rest
      ∙ sym (append_assoc before (line ∷ []) (more ++ begins.rest));
}

-- the lines that a receipt begins with are lines
pub begun_are_lines : (cells : ℕ) (before : List (List ℕ)) → cells < 2 ^ 32 → BeginsReceipt cells before → AreLines before
begun_are_lines cells before small begins =
    lines_before before begins.rest (subst AreLines begins.same (receipt_is_lines cells begins.receipt small begins.is))

-- the first bad line is at no later line
not_later : (cells : ℕ) (text : List ℕ) (i j : ℕ) → cells < 2 ^ 32 → (one : IsFirstBadLine cells text i)
    → (other : IsFirstBadLine cells text j) → length one.before < length other.before → ⊥
not_later cells text i j small one other less =
    let on = goes_on one.before other.before one.rest other.rest (begun_are_lines cells one.before small one.begins)
    (begun_are_lines cells other.before small other.begins) (sym one.splits ∙ other.splits) less in
    one.breaks on.line on.behind on.next
    (begins_before cells one.before on.line on.more (subst (BeginsReceipt cells) on.lines other.begins))

pub bad_is_one : (cells : ℕ) (text : List ℕ) (i j : ℕ) → cells < 2 ^ 32 → IsFirstBadLine cells text i
    → IsFirstBadLine cells text j → i ≡ j
bad_is_one cells text i j small one other =
    elim (cases_eq (length one.before) (length other.before)) [
      | inl many ↦ omega (arith, one.number, other.number, many)
      | inr differ ↦
          elim (cases_lt (length one.before) (length other.before)) [
            | inl less ↦ absurd (not_later cells text i j small one other less)
            | inr more ↦ absurd (not_later cells text j i small other one (omega arith))
          ]
    ]
