-- One journal cell after another.
use Rattle.std.proofs.Common.{◌≡◌, ℕ, refl, subst, arith, Ok}
use Rattle.recovery_engine.specs.Putting.{Puts}
use Rattle.cell_types.proofs.Passed.{handed}
use Rattle.recovery_engine.proofs.Phasing.{phase_synced}
use Rattle.recovery_engine.specs.Journal.{IsEntryPut}
use Rattle.recovery_engine.proofs.Entries.{entry_refused, entry_put, entry_held, entry_checked}
use Rattle.recovery_engine.proofs.journal.apply_journal.Goals as goal

pub returns-in_err-put : goal.returns-in_err-put
returns-in_err-put g c =
    rw (handed c.from_residual.result c.in_err-put.field-0.0 c.from_residual.ensures.1)
    (entry_refused c.args.journal.now c.loop-k.k (omega arith) c.loop-k.invariant.puts c.requires.entries
    c.entry.ensures.called c.entry.ensures.quiet c.loop-k.floor c.loop-k.invariant.checked c.in_err-put.field-0.0
    c.in_err-put.ensures.ends)

pub returns-in_err-put_cell : goal.returns-in_err-put_cell
returns-in_err-put_cell g c =
    rw (handed c.from_residual-in_err-put_cell.result c.in_err-put_cell.field-0.0
    c.from_residual-in_err-put_cell.ensures.1)
    (entry_held c.args.journal.now c.loop-k.k (omega arith) c.loop-k.invariant.puts c.requires.entries
    c.entry.ensures.called c.entry.ensures.quiet c.loop-k.floor c.loop-k.invariant.checked
    c.in_ok-put.put c.in_ok-put.ensures.ends.0 c.in_ok-put.ensures.ends.1 c.in_ok-put.ensures.ends.2 (c.in_ok-put.ensures.unfailed refl)
    c.in_err-put_cell.field-0.0 c.in_err-put_cell.ensures)

pub loop-k-preserved : goal.loop-k-preserved
loop-k-preserved g c = record {
  puts = entry_put c.args.journal.now c.loop-k.k (omega arith) c.loop-k.invariant.puts c.requires.entries
      c.entry.ensures.called c.entry.ensures.quiet c.loop-k.floor c.loop-k.invariant.checked
      c.in_ok-put.put c.in_ok-put.ensures.ends.0 c.in_ok-put.ensures.ends.1 c.in_ok-put.ensures.ends.2 (c.in_ok-put.ensures.unfailed refl)
      c.in_ok-put_cell.ensures;
  checked = entry_checked c.args.journal.now c.loop-k.k (omega arith) c.loop-k.invariant.puts c.requires.entries
      c.entry.ensures.called c.entry.ensures.quiet c.loop-k.floor c.loop-k.invariant.checked
      c.in_ok-put.put c.in_ok-put.ensures.ends.0 c.in_ok-put.ensures.ends.1 c.in_ok-put.ensures.ends.2 (c.in_ok-put.ensures.unfailed refl);
}

pub returns : goal.returns
returns g c =
    let old = g.D.Device.state c.args.device.now in
    let mid = g.D.Device.state c.loop-k.device in
    let all : c.loop-k.k ≡ c.args.journal.now.count = omega arith in
    phase_synced tt tt tt (subst (λ (n : ℕ). Puts (IsEntryPut old.image c.args.journal.now.place n) old mid (Ok tt)) all
    c.loop-k.invariant.puts) c.in_ok-sync.ensures
