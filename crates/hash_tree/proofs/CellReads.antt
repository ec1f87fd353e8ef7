-- A cell that is no record is neither a bucket nor a child cell.
use Rattle.std.proofs.Common.{ℕ, Err}
use Rattle.cell_types.specs.declared.record_cell.RecordCell.TheVariants as records
use Rattle.cell_types.specs.declared.refusal.Fault.{Fault}
use Rattle.cell_types.specs.declared.refusal.Fault.TheVariants.{Tampered, Failed}
use Rattle.tamper_rules.specs.declared.numbers.TheConstants.{FAKE_BUCKET, LOST_CHILD}
use Rattle.worm_device.specs.Looks.{ReadsRecord}
use Rattle.worm_device.specs.Views.{ViewState}
use Rattle.hash_tree.specs.Looking.{ReadsBucket, ReadsChild}

pub unread_bucket : (at : ℕ) (old new : ViewState) (fault : Fault) → ReadsRecord at FAKE_BUCKET old new (Err fault)
    → ReadsBucket at old new (Err fault)
unread_bucket at old new Failed read = record {
  viewed = read.viewed;
  reads = read.reads;
  ends = read.ends;
}
unread_bucket at old new (Tampered e) read = record {
  viewed = read.viewed;
  reads = read.reads;
  ends = (
    read.ends.0,
    read.ends.1,
    read.ends.2,
    λ tells. record {
      stands = read.ends.4 tells;
      none = λ slot fingerprint is. read.ends.3 (records.Bucket slot fingerprint) is;
    },
  );
}

pub unread_child : (at pool edge : ℕ) (old new : ViewState) (fault : Fault)
    → ReadsRecord at LOST_CHILD old new (Err fault) → ReadsChild at pool edge old new (Err fault)
unread_child at pool edge old new Failed read = record {
  viewed = read.viewed;
  reads = read.reads;
  ends = read.ends;
}
unread_child at pool edge old new (Tampered e) read = record {
  viewed = read.viewed;
  reads = read.reads;
  ends = (
    read.ends.0,
    read.ends.1,
    read.ends.2,
    λ tells. record {
      stands = read.ends.4 tells;
      none = λ target is. absurd (read.ends.3 (records.Child target) is);
    },
  );
}
