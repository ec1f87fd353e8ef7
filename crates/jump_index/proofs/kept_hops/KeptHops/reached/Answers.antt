-- No hop yet, and one hop more.
use Rattle.std.proofs.Common.{◌≡◌, Some, None, Option, ◌-◌, arith, sym, subst, ap, ◌∙◌}
use Rattle.std.proofs.lemmas.Option.{slice_get-get_or}
use Rattle.jump_index.specs.Keeping.{Reaches}
use Rattle.jump_index.specs.declared.kept_hops.Reached.{Reached}
use Rattle.jump_index.specs.declared.kept_hops.KeptHop.{KeptHop}
use Rattle.jump_index.proofs.Ways.{reach_on, reach_starts}
use Rattle.jump_index.proofs.kept_hops.KeptHops.reached.Goals as goal
use Rattle.jump_index.proofs.kept_hops.KeptHops.reached.Goals.{in-Some+then-goes_on, in-Some+else-goes_on, in_default}

pub loop-turn-init : goal.loop-turn-init
loop-turn-init c = reach_starts c.args.bounds c.args.head c.args.x c.args.self.now (omega (arith, c.ranges.x.fits))

pub loop-turn-preserved : goal.loop-turn-preserved
loop-turn-preserved c =
    let P : Reached → Type 0 = λ r. Reaches c.args.bounds c.args.head c.args.x c.args.self.now r in
    elim c.match-kept.branch [
      | in-Some+then-goes_on w ↦ subst P (sym w.reached-is)
          (reach_on c.args.bounds c.args.head c.args.x c.from.result (7 - c.loop-turn.turn) w.min.result
          c.args.self.now c.loop-turn.reached w.in-Some.hop c.loop-turn.invariant (w.goes_on.ensures w.if-goes_on.true)
          (slice_get-get_or c.args.self.now.held c.from.result None (omega (arith, c.from.ensures))
          ∙ ap (λ (o : Option KeptHop). Some o) w.in-Some.is) (omega arith) w.min.ensures)
      | in-Some+else-goes_on w ↦ subst P (sym w.reached-is) c.loop-turn.invariant
      | in_default w ↦ subst P (sym w.reached-is) c.loop-turn.invariant
    ]
