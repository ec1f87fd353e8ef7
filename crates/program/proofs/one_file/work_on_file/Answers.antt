-- The file that was opened is the one that the device shows.
use Rattle.std.proofs.Common.{ℕ, refl, sym, ap, subst, ◌∙◌}
use Rattle.host_files.specs.Device.{SureStands}
use Rattle.program.specs.OneFile.{IsNoDevice, done_on, new_device, no_device}
use Rattle.program.proofs.OneFile.{ran_over, shown_by}
use Rattle.program.proofs.one_file.work_on_file.Goals as goal

pub over-requires : goal.over-requires
over-requires g c =
    subst (λ file. (cells : ℕ) → SureStands cells (g.H.File.HostFile.state file).told) (sym c.new-file.ensures)
    c.in-Some.ensures.stands

pub returns-in_default-over : goal.returns-in_default-over
returns-in_default-over g c =
    no_device c.in-Some.file c.in-Some.ensures.opened
    (subst (λ file. IsNoDevice (g.H.File.HostFile.state file)) c.new-file.ensures c.in_default-over.ensures.refused.1)
    refl refl refl

pub returns : goal.returns
returns g c = done_on (record {
  file = c.in-Some.file;
  opened = c.in-Some.ensures.opened;
  text = c.run_over-done.new.text;
  done = c.run_over-done.result;
  ran = ran_over _ _ _ c.in-Some.file _ _ _ _
      (c.in-Ok-over.ensures.made ∙ ap (λ file. new_device (g.H.File.HostFile.state file)) c.new-file.ensures)
      c.run_over-done.ensures;
  shown = c.put_all-shown.result;
  shows = shown_by _ _ _ _ c.put_all-shown.result c.bytes.ensures c.put_all-shown.ensures.whole
      c.put_all-shown.ensures.part;
  answer = c.answer_of.ensures;
})
