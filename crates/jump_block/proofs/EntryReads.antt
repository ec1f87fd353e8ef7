-- Reading an entry or a pointer, where what was read is none.
use Rattle.std.proofs.Common.{◌≡◌, ◌+◌, ℕ, Err, ap, sym, subst, ◌∙◌}
use Rattle.cell_types.specs.declared.record_cell.RecordCell.TheVariants.{Jump}
use Rattle.cell_types.specs.declared.refusal.Fault.{Fault}
use Rattle.cell_types.specs.declared.refusal.Fault.TheVariants.{Tampered, Failed}
use Rattle.cell_types.specs.Records.{IsRecordCell}
use Rattle.volume_meaning.specs.Blocks.{posting_record}
use Rattle.worm_device.specs.Looks.{ReadsRecord}
use Rattle.worm_device.specs.Views.{ViewState}
use Rattle.jump_block.specs.Entries.{ReadsEntry}
use Rattle.jump_block.specs.Pointers.{ReadsPointer}

-- no record is no posting
pub unread_entry : (block place at : ℕ) (old new : ViewState) (fault : Fault) → at ≡ block + place
    → ReadsRecord at 8 old new (Err fault) → ReadsEntry block place old new (Err fault)
unread_entry block place at old new Failed is read = record {
  viewed = read.viewed;
  reads = read.reads;
  ends = read.ends;
}
unread_entry block place at old new (Tampered e) is read = record {
  viewed = read.viewed;
  reads = read.reads;
  ends = (
    read.ends.0,
    read.ends.1 ∙ is,
    λ tells. record {
      stands = ap new.image (sym is) ∙ read.ends.4 tells;
      none = λ p h. read.ends.3 (posting_record p)
          (subst (λ (n : ℕ). IsRecordCell (posting_record p) n e.found) (sym is) h);
    },
  );
}

-- no record is no jump cell
pub unread_pointer : (want at : ℕ) (old new : ViewState) (fault : Fault) → at ≡ want
    → ReadsRecord at 10 old new (Err fault) → ReadsPointer want old new (Err fault)
unread_pointer want at old new Failed is read = record {
  viewed = read.viewed;
  reads = read.reads;
  ends = read.ends;
}
unread_pointer want at old new (Tampered e) is read = record {
  viewed = read.viewed;
  reads = read.reads;
  ends = (
    read.ends.0,
    read.ends.1 ∙ is,
    λ tells. record {
      stands = ap new.image (sym is) ∙ read.ends.4 tells;
      none = λ t h. read.ends.3 (Jump t)
          (subst (λ (n : ℕ). IsRecordCell (Jump t) n e.found) (sym is) h);
    },
  );
}
