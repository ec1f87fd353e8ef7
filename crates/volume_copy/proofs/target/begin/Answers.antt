-- The target was formatted, or compared, or it refuses.
use Rattle.std.proofs.Common.{refl, ℕ, ◌∙◌, subst, sym}
use Rattle.std.specs.Prelude.{IsTrue}
use Rattle.worm_device.proofs.Counting.{rose_or_still}
use Rattle.worm_device.proofs.Elapsing.{called_then}
use Rattle.volume_copy.specs.Beginning.{StatesNone, StatesOther}
use Rattle.volume_copy.specs.Copies.{by_format, by_look, by_volume}
use Rattle.volume_copy.proofs.AddedOn.{read_none}
use Rattle.volume_copy.proofs.Begun.{audit_free, begin_refuses, begins_compared, begins_formatted, can_audited, format_free, is_another, of_version, read_once}
use Rattle.volume_copy.proofs.Stayed.{format_held, held_then, read_held}
use Rattle.volume_copy.proofs.WholeVolumes.{refuses_called}
use Rattle.volume_copy.proofs.target.begin.Goals as goal

-- cell 0 could not be read
pub returns-in_default : goal.returns-in_default
returns-in_default g c = record {
  from_read = read_none _;
  to_called = c.read.ensures.called;
  to_held = read_held (g.met.E.Device.proper c.args.to.now) (g.met.E.Device.proper c.read.new.self)
      (read_once c.read.ensures);
  same = tt;
  first = tt;
  complete = λ free. absurd (rose_or_still _ _ c.in_default.ensures.cause free.unfailed.to_unfailed);
  ends = by_look refl c.in_default.ensures.cause;
}

-- it was formatted
pub returns-in-Ok-format_volume : goal.returns-in-Ok-format_volume
returns-in-Ok-format_volume g c =
    begins_formatted c.args.slots c.args.lists c.version-version.result c.new.result c.new.ensures.items
    c.requires.source c.version-version.ensures.version (g.met.E.Device.proper c.read.new.self)
    (g.met.E.Device.proper c.format_volume.new.device) (g.met.E.Device.proper c.args.to.now) c.read.ensures.called
    (read_held (g.met.E.Device.proper c.args.to.now) (g.met.E.Device.proper c.read.new.self) (read_once c.read.ensures))
    c.in-Ok-format_volume.ensures

-- it was not
pub returns-in-Err : goal.returns-in-Err
returns-in-Err g c = record {
  from_read = read_none _;
  to_called = called_then c.read.ensures.called c.in-Err.ensures.called;
  to_held = held_then (g.met.E.Device.proper c.args.to.now) (g.met.E.Device.proper c.read.new.self)
      c.read.ensures.called c.in-Err.ensures.called
      (read_held (g.met.E.Device.proper c.args.to.now) (g.met.E.Device.proper c.read.new.self) (read_once c.read.ensures))
      (format_held _ _ refl (g.met.E.Device.proper c.read.new.self) c.in-Err.ensures);
  same = tt;
  first = tt;
  complete = rw c.to_target.ensures (λ free. format_free _ (read_once c.read.ensures)
      (sym (c.in-Ok.ensures.answer free.alone.to_tells) ∙ c.in_default-found.is) c.in-Err.refusal c.in-Err.ensures free);
  ends = rw c.to_target.ensures (begin_refuses c.args.slots c.args.lists c.args.source.now _ _ _ _ c.in-Err.refusal
      (by_format _ c.version-version.result c.read.ensures.called
      (λ tells. sym (c.in-Ok.ensures.answer (subst IsTrue c.read.ensures.called.tells tells)) ∙ c.in_default-found.is)
      (of_version c.version-version.result c.requires.source c.version-version.ensures.version) c.in-Err.ensures));
}

-- it is another volume
pub returns-then-states_other : goal.returns-then-states_other
returns-then-states_other g c = record {
  from_read = read_none _;
  to_called = c.read.ensures.called;
  to_held = read_held (g.met.E.Device.proper c.args.to.now) (g.met.E.Device.proper c.read.new.self)
      (read_once c.read.ensures);
  same = tt;
  first = tt;
  complete = rw c.other_volume.ensures (λ free. tt);
  ends = rw c.other_volume.ensures (is_another c.read.ensures.only
      (λ tells. sym (c.in-Ok.ensures.answer (subst IsTrue c.read.ensures.called.tells tells)) ∙ c.in-Some.is)
      (subst (λ (n : ℕ). StatesOther c.args.slots c.args.lists c.version-version.result n c.in-Some.cell)
      c.cells.ensures.cells c.if-states_other.ensures)
      (of_version c.version-version.result c.requires.source c.version-version.ensures.version));
}

-- what was audited can be read
pub compare-requires-clause-target : goal.compare-requires-clause-target
compare-requires-clause-target g c = can_audited c.in-Ok-audited_volume.ensures.ends

-- it was compared
pub returns-in-Ok-audited_volume : goal.returns-in-Ok-audited_volume
returns-in-Ok-audited_volume g c =
    begins_compared c.args.slots c.args.lists c.version-version.result c.in-Some.cell c.requires.source
    c.version-version.ensures.version c.read.ensures.called
    (λ tells. sym (c.in-Ok.ensures.answer tells) ∙ c.in-Some.is)
    (subst (λ (n : ℕ). StatesNone c.args.slots c.args.lists c.version-version.result n c.in-Some.cell)
    c.cells.ensures.cells c.if-states_other.ensures)
    c.in-Ok-audited_volume.ensures.ends
    (read_held (g.met.E.Device.proper c.args.to.now) (g.met.E.Device.proper c.read.new.self) (read_once c.read.ensures))
    c.audited_volume.ensures.held (g.met.E.Device.proper c.args.to.now) (g.met.E.Device.proper c.read.new.self)
    (g.met.E.Device.proper c.audited_volume.new.device) (g.met.E.Device.proper c.compare.new.to) c.compare.result
    c.compare.ensures

-- it was not audited
pub returns-in-Err-audited_volume : goal.returns-in-Err-audited_volume
returns-in-Err-audited_volume g c = record {
  from_read = read_none _;
  to_called = called_then c.read.ensures.called (refuses_called c.in-Err-audited_volume.ensures.ends);
  to_held = held_then (g.met.E.Device.proper c.args.to.now) (g.met.E.Device.proper c.read.new.self)
      c.read.ensures.called (refuses_called c.in-Err-audited_volume.ensures.ends)
      (read_held (g.met.E.Device.proper c.args.to.now) (g.met.E.Device.proper c.read.new.self) (read_once c.read.ensures))
      c.audited_volume.ensures.held;
  same = tt;
  first = tt;
  complete = rw c.to_target-in-Err-audited_volume.ensures (audit_free (g.met.E.Device.proper c.args.to.now)
      (g.met.E.Device.proper c.read.new.self) (read_once c.read.ensures)
      (refuses_called c.in-Err-audited_volume.ensures.ends) c.in-Some.cell
      (λ tells. sym (c.in-Ok.ensures.answer tells) ∙ c.in-Some.is) c.in-Err-audited_volume.refusal
      c.in-Err-audited_volume.ensures.steady);
  ends = rw c.to_target-in-Err-audited_volume.ensures (begin_refuses c.args.slots c.args.lists c.args.source.now _ _ _ _
      c.in-Err-audited_volume.refusal (by_volume _ c.read.ensures.called c.in-Err-audited_volume.ensures.ends));
}
