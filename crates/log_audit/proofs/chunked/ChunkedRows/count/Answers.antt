-- So many chunks are full, and so many rows stand behind them.
use Rattle.std.proofs.Common.{arith}
use Rattle.log_audit.proofs.Chunking.{count_over}
use Rattle.log_audit.proofs.chunked.ChunkedRows.count.Goals as goal

pub overflow_mul-result : goal.overflow_mul-result
overflow_mul-result c =
    let rows = c.args.self.now in
    let all = count_over rows.full.items rows.last.items rows.chunks.each in
    omega (arith, all, c.requires, c.len.ensures)

pub overflow_add-result : goal.overflow_add-result
overflow_add-result c =
    let rows = c.args.self.now in
    let all = count_over rows.full.items rows.last.items rows.chunks.each in
    omega (arith, all, c.requires, c.len.ensures, c.len-2.ensures)

pub returns : goal.returns
returns c =
    let rows = c.args.self.now in
    let all = count_over rows.full.items rows.last.items rows.chunks.each in
    omega (arith, all, c.len.ensures, c.len-2.ensures)
