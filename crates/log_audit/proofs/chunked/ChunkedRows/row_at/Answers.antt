-- The place is one of a full chunk, or lies behind them.
use Rattle.std.proofs.Common.{◌≡◌, ◌<◌, ◌≤◌, ◌+◌, ◌*◌, ◌-◌, ◌/◌, ◌%◌, ℕ, List, Some, length, sym, ◌∙◌, ap, arith}
use Rattle.std.specs.Prelude.{slice_get}
use Rattle.std.specs.Global.{Vec}
use Rattle.std.proofs.lemmas.Option.{slice_get-get_or}
use Rattle.log_audit.specs.AllRows.{all_rows}
use Rattle.log_audit.specs.declared.chunked.TheConstants.{CHUNK_ROWS}
use Rattle.log_audit.specs.declared.written.WrittenCell.{WrittenCell}
use Rattle.log_audit.proofs.Chunking.{in_chunk, in_last}
use Rattle.log_audit.proofs.chunked.ChunkedRows.row_at.Goals as goal

pub returns-then-chunk-len : goal.returns-then-chunk-len
returns-then-chunk-len c =
    let rows = c.args.self.now in let place = c.args.place in let chunk = c.index.result.now in
    let inside : place / CHUNK_ROWS < length rows.full.items = omega (arith, c.if-chunk-len.true, c.len.ensures) in
    let there : slice_get rows.full.items (place / CHUNK_ROWS) ≡ Some chunk =
    slice_get-get_or rows.full.items (place / CHUNK_ROWS) chunk inside ∙ ap (λ (v : Vec WrittenCell). Some v) (sym c.index.ensures) in
    c.row_in.ensures
    ∙ ap (λ (l : List WrittenCell). slice_get l (place % CHUNK_ROWS)) c.deref.ensures.value
    ∙ sym (in_chunk rows.full.items rows.last.items rows.chunks.each (place / CHUNK_ROWS) (place % CHUNK_ROWS) chunk there (below place))
    ∙ ap (slice_get (all_rows rows)) (whole place)
  where
    below : (n : ℕ) → n % CHUNK_ROWS < CHUNK_ROWS
    below n = omega arith

    whole : (n : ℕ) → n / CHUNK_ROWS * CHUNK_ROWS + n % CHUNK_ROWS ≡ n
    whole n = omega arith

pub returns : goal.returns
returns c =
    let rows = c.args.self.now in let place = c.args.place in
    let many : c.len-2.result ≡ length rows.full.items = omega (arith, c.len-2.ensures) in
    let behind : length rows.full.items * CHUNK_ROWS ≤ place = omega (arith, c.if-chunk-len.false, c.len.ensures) in
    (c.row_in-2).ensures
    ∙ ap (λ (l : List WrittenCell). slice_get l (place - c.len-2.result * CHUNK_ROWS)) (c.deref-2).ensures.value
    ∙ ap (λ (n : ℕ). slice_get rows.last.items (place - n * CHUNK_ROWS)) many
    ∙ sym (in_last rows.full.items rows.last.items rows.chunks.each (place - length rows.full.items * CHUNK_ROWS))
    ∙ ap (slice_get (all_rows rows)) (whole (length rows.full.items * CHUNK_ROWS) place behind)
  where
    whole : (a n : ℕ) → a ≤ n → a + (n - a) ≡ n
    whole a n h = omega (arith, h)
