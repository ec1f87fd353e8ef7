-- The files that were opened are those that the devices show.
use Rattle.std.proofs.Common.{ℕ, refl, sym, ap, subst, ◌∙◌, inl, inr}
use Rattle.std.proofs.lemmas.Bool.{false≢true}
use Rattle.host_files.specs.Device.{SureStands}
use Rattle.host_files.specs.File.{FileState}
use Rattle.program.specs.OneFile.{IsNoDevice, new_device}
use Rattle.program.specs.TwoFiles.{copied, no_device, same}
use Rattle.program.proofs.OneFile.{shown_by}
use Rattle.program.proofs.TwoFiles.{ran_onto, were_opened}
use Rattle.program.proofs.copying.copy_onto.Goals as goal

pub returns-then-is_same : goal.returns-then-is_same
returns-then-is_same g c =
    same _ _ (record {
      between = c.number_of-one.new.self;
      first = c.number_of-one.ensures;
      second = c.number_of-other.ensures;
    }) (c.is_same.ensures.0 c.if-is_same.true) refl refl

pub over-requires : goal.over-requires
over-requires g c =
    subst (λ (file : FileState). (cells : ℕ) → SureStands cells file.told)
    (sym (ap g.H.File.HostFile.state c.new-from.ensures ∙ c.hold_in_order.ensures.from)) c.in-Some.ensures.stands

pub returns-in_default-over : goal.returns-in_default-over
returns-in_default-over g c =
    no_device c.in-Some.from c.in-Some-open.to
    (were_opened _ _ _ c.number_of-one.ensures c.number_of-other.ensures
    (λ is. false≢true (sym c.if-is_same.false ∙ c.is_same.ensures.1 is)) c.in-Some.ensures.opened
    c.in-Some-open.ensures.opened c.hold_in_order.ensures.held)
    (inl (subst IsNoDevice (ap g.H.File.HostFile.state c.new-from.ensures ∙ c.hold_in_order.ensures.from)
    c.in_default-over.ensures.refused.1)) refl refl

pub over-requires-2 : goal.over-requires-2
over-requires-2 g c =
    subst (λ (file : FileState). (cells : ℕ) → SureStands cells file.told)
    (sym (ap g.H.File.HostFile.state c.new-to.ensures ∙ c.hold_in_order.ensures.to)) c.in-Some-open.ensures.stands

pub returns-in_default-over-2 : goal.returns-in_default-over-2
returns-in_default-over-2 g c =
    no_device c.in-Some.from c.in-Some-open.to
    (were_opened _ _ _ c.number_of-one.ensures c.number_of-other.ensures
    (λ is. false≢true (sym c.if-is_same.false ∙ c.is_same.ensures.1 is)) c.in-Some.ensures.opened
    c.in-Some-open.ensures.opened c.hold_in_order.ensures.held)
    (inr (subst IsNoDevice (ap g.H.File.HostFile.state c.new-to.ensures ∙ c.hold_in_order.ensures.to)
    c.in_default-over-2.ensures.refused.1)) refl refl

pub returns : goal.returns
returns g c = copied (record {
  from = c.in-Some.from;
  to = c.in-Some-open.to;
  opened = were_opened _ _ _ c.number_of-one.ensures c.number_of-other.ensures
      (λ is. false≢true (sym c.if-is_same.false ∙ c.is_same.ensures.1 is)) c.in-Some.ensures.opened
      c.in-Some-open.ensures.opened c.hold_in_order.ensures.held;
  text = c.run_onto-done.new.text;
  done = c.run_onto-done.result;
  ran = ran_onto _ _ _ _ c.in-Some.from c.in-Some-open.to _ _
      (c.in-Ok-over.ensures.made
      ∙ ap new_device (ap g.H.File.HostFile.state c.new-from.ensures ∙ c.hold_in_order.ensures.from))
      (c.in-Ok-over-2.ensures.made
      ∙ ap new_device (ap g.H.File.HostFile.state c.new-to.ensures ∙ c.hold_in_order.ensures.to))
      c.run_onto-done.ensures;
  shown = c.put_all-shown.result;
  shows = shown_by _ _ _ _ c.put_all-shown.result c.bytes.ensures c.put_all-shown.ensures.whole
      c.put_all-shown.ensures.part;
  answer = c.answer_of_copy.ensures;
})
