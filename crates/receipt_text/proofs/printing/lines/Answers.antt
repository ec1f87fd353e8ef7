-- The line of the document, those of the cells, and the line of the end.
use Rattle.std.proofs.Common.{◌≡◌, ◌∙◌, ◌∷◌, [], List, ℕ, ap}
use Rattle.receipt_text.specs.Form.{head_line, text_of_lines}
use Rattle.receipt_text.proofs.PrintingOn.{print_whole}
use Rattle.receipt_text.proofs.printing.lines.Goals as goal

pub returns : goal.returns
returns c =
    let same : text_of_lines (head_line c.args.receipt.now.slot c.bytes.result.now ∷ [])
    ≡ text_of_lines (head_line c.args.receipt.now.slot c.args.receipt.now.identifier ∷ []) =
    ap (λ (id : List ℕ). text_of_lines (head_line c.args.receipt.now.slot id ∷ [])) c.bytes.ensures in
    print_whole c.args.receipt.now c.len-count.result c.in_ok-text.text.items c.print.new.text.items
    c.print_line.new.text.items c.as_bytes.result.now (c.in_ok-text.ensures ∙ same) c.in_ok-print.ensures
    (c.as_bytes.ensures.value ∙ c.in_ok-end.ensures.ok) c.len-count.ensures.count c.in_ok-print_line.ensures
