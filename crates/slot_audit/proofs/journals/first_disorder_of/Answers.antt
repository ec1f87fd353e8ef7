-- Rule 1 is kept; a place more; a cell that is written; and the first place that is not in order.
use Rattle.std.proofs.Common.{◌+◌, ℕ, sym, ◌∙◌, ap, arith, refl}
use Rattle.std.proofs.lemmas.Option.{none-some}
use borrow.Author.Count.{below_more}
use Rattle.log_audit.specs.KeptVolumes.{image_in}
use Rattle.tamper_rules.specs.Rules.{ReserveCells}
use Rattle.log_audit.proofs.Deciding.{decided_no, decided_yes}
use Rattle.slot_audit.specs.Journals.{IsOrdered}
use Rattle.slot_audit.proofs.journals.first_disorder_of.Goals as goal

pub is_in_order-requires-clause-met : goal.is_in_order-requires-clause-met
is_in_order-requires-clause-met c = c.requires.met ReserveCells (omega arith)

pub loop-place-preserved : goal.loop-place-preserved
loop-place-preserved c =
    below_more (IsOrdered c.args.volume.now.geometry (image_in c.args.volume.now) c.args.stored.now) c.loop-place.place
    c.loop-place.invariant (decided_yes _ c.is_in_order.ensures c.if-is_in_order.true)

pub unreachable-requires : goal.unreachable-requires
unreachable-requires c =
    let written = c.requires.written c.loop-place.place c.loop-place-test.true in
    none-some written.found (sym c.in_default.is ∙ c.at.ensures
    ∙ ap (λ (from : ℕ). image_in c.args.volume.now (from + c.loop-place.place)) c.journal_at-from.ensures.at ∙
    written.stands)

pub returns-in-loop-place : goal.returns-in-loop-place
returns-in-loop-place c = record {
  number = refl;
  place = c.loop-place.place;
  inside = c.loop-place-test.true;
  cell = ap (λ (from : ℕ). from + c.loop-place.place) c.journal_at-from.ensures.at;
  stands = sym c.at.ensures ∙ c.in-Some.is;
  bad = decided_no _ c.is_in_order.ensures c.if-is_in_order.false;
  before = c.loop-place.invariant;
}
