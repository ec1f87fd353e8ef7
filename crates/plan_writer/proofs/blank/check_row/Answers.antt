-- Place after place.
use Rattle.std.proofs.Common.{ℕ, List, Option, Some, Err, sym, ap, ◌∙◌, subst, refl, arith}
use Rattle.std.proofs.lemmas.Option.{slice_get-get_or}
use Rattle.cell_types.specs.declared.refusal.Fault.{Fault}
use Rattle.plan_writer.specs.Blank.{RowLookEnds}
use Rattle.plan_writer.proofs.BlankSoFar.{nothing_more}
use Rattle.plan_writer.proofs.blank.check_row.Goals as goal

pub loop-place-init : goal.loop-place-init
loop-place-init c = λ place below. absurd (omega (arith, below))

-- this one was written
pub returns-in-Some : goal.returns-in-Some
returns-in-Some c =
    subst (λ (fault : Fault). RowLookEnds c.args.start c.args.row.now (Err fault)) (sym c.breach.ensures)
    (record {
      rule = refl;
      place = c.loop-place.place;
      cell = refl;
      is = slice_get-get_or c.args.row.now c.loop-place.place _ c.loop-place-test.true
          ∙ ap (λ (v : Option (List ℕ)). Some v) c.in-Some.is;
      before = c.loop-place.invariant;
    })

pub loop-place-preserved : goal.loop-place-preserved
loop-place-preserved c = nothing_more c.args.row.now c.loop-place.place _ c.loop-place.invariant c.loop-place-test.true c.in_default.is

pub returns : goal.returns
returns c = λ place below. c.loop-place.invariant place (omega (arith, below, c.loop-place-test.false))
