-- The head fills whole cells, or holds all of the document.
use Rattle.std.proofs.Common.{◌≡◌, ◌≤◌, ◌-◌, ◌/◌, ℕ, List, [], ◌∷◌, ◌++◌, length, take, sym, ap, ◌∙◌, subst, arith}
use Rattle.append_file.specs.StoredCells.{AddsCellsOf}
use Rattle.ingest_engine.proofs.JoinedCells.{stored_length, stored_whole, whole_or_all}
use Rattle.ingest_engine.proofs.document.StoredDocument.new.Goals as goal

pub returns : goal.returns
returns c =
    let id = c.args.id.now in
    let body = c.args.body.now in
    let n : ℕ = c.min-head_length.result - 1 - length id in
    let fits : n ≤ length body = omega (arith, c.min-head_length.ensures) in
    let ends = whole_or_all id body c.next_multiple_of.result n c.next_multiple_of.ensures.multiple
    c.next_multiple_of.ensures.lower_bound
    (ap (λ (m : ℕ). m - 1 - length id) c.min-head_length.ensures) in
    let head : c.deref.result.now ≡ length id ∷ (id ++ take n body) =
    c.deref.ensures.value ∙ c.in_ok-extend_from_slice-2.ensures.items
    ∙ ap (λ (l : List ℕ). l ++ c.split_at.result.0.now) (c.in_ok-extend_from_slice.ensures.items
    ∙ ap (λ (l : List ℕ). l ++ id) (c.in_ok-push.ensures.items
    ∙ ap (λ (l : List ℕ). l ++ (length id ∷ [])) c.in_ok-head.ensures.items))
    ∙ ap (λ (l : List ℕ). length id ∷ (id ++ l)) c.split_at.ensures.front in
    record {
      bytes = sym (stored_length id body);
      cells = stored_whole id body n (c.next_multiple_of.result / 15) c.in_ok-cells.cells.items
          c.push_content.new.cells.items
          c.push_content-2.new.cells.items c.in_ok-cells.ensures.items fits ends
          (subst (λ (l : List ℕ). AddsCellsOf l c.in_ok-cells.cells.items c.push_content.new.cells.items) head
          c.in_ok-push_content.ensures)
          (subst (λ (l : List ℕ). AddsCellsOf l c.push_content.new.cells.items c.push_content-2.new.cells.items)
          c.split_at.ensures.back c.in_ok-push_content-2.ensures);
    }
