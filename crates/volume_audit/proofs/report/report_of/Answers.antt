-- The three numbers.
use Rattle.std.proofs.Common.{sym, subst, ℕ}
use Rattle.log_audit.specs.Kept.{count_of}
use Rattle.log_audit.specs.KeptVolumes.{image_in}
use Rattle.volume_meaning.specs.Volumes.{IsWritten}
use Rattle.volume_audit.specs.Counts.{Counts}
use Rattle.volume_audit.proofs.Counting.{counted}
use Rattle.volume_audit.proofs.report.report_of.Goals as goal

pub returns : goal.returns
returns c = let volume = c.args.volume.now in
    record {
      done = c.count_done.ensures;
      abandoned = c.count_abandoned.ensures;
      written = subst (λ (n : ℕ). Counts (IsWritten (image_in volume)) n c.written.result) c.requires.count
          (subst (Counts (IsWritten (image_in volume)) (count_of volume.kept)) (sym c.written.ensures.count)
          (counted c.written.ensures.rows));
    }
