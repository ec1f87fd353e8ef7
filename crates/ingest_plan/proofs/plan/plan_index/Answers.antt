-- The postings of the body, planned over the device.
use Rattle.std.proofs.Common.{refl, ap, ◌∙◌, arith}
use Rattle.std.proofs.lemmas.Grind.{common_steps}
use Rattle.worm_device.specs.Directly.{device_is_view}
use Rattle.worm_device.specs.Overlaying.{overlay_shows}
use Rattle.worm_device.specs.Views.{seen_directly}
use Rattle.ingest_plan.proofs.Deriving.{plans_index}
use Rattle.ingest_plan.proofs.Postings.{few, given, in_order}
use Rattle.ingest_plan.proofs.plan.plan_index.Goals as goal

pub plan_over-requires-clause-order : goal.plan_over-requires-clause-order
plan_over-requires-clause-order g c =
    in_order c.args.volume.now.geometry c.args.stamp c.args.body.now c.args.index.now.slot c.deref-2.result.now
    (given c.args.volume.now.geometry c.args.stamp c.args.body.now c.args.index.now.slot c.in_ok-terms.terms.items c.deref.result.now
    c.in_ok-rows.rows.items c.deref-2.result.now c.requires.stamped (rw (c.rule_of.ensures, c.version.ensures.version) at c.in_ok-terms.ensures) c.deref.ensures.value
    (rw c.lists.ensures.lists at c.in_ok-rows.ensures.ok) c.deref-2.ensures.value)

pub plan_over-requires-clause-few : goal.plan_over-requires-clause-few
plan_over-requires-clause-few g c =
    omega (
      arith,
      few c.args.volume.now.geometry c.args.stamp c.args.body.now c.args.index.now.slot c.deref-2.result.now
          (given c.args.volume.now.geometry c.args.stamp c.args.body.now c.args.index.now.slot c.in_ok-terms.terms.items c.deref.result.now
          c.in_ok-rows.rows.items c.deref-2.result.now c.requires.stamped (rw (c.rule_of.ensures, c.version.ensures.version) at c.in_ok-terms.ensures) c.deref.ensures.value
          (rw c.lists.ensures.lists at c.in_ok-rows.ensures.ok) c.deref-2.ensures.value),
    )

pub returns : goal.returns
returns g c =
    plans_index c.args.volume.now.geometry c.args.index.now c.args.stamp c.args.body.now c.deref-2.result.now
    _ _ _ _ _
    (given c.args.volume.now.geometry c.args.stamp c.args.body.now c.args.index.now.slot c.in_ok-terms.terms.items c.deref.result.now
    c.in_ok-rows.rows.items c.deref-2.result.now c.requires.stamped (rw (c.rule_of.ensures, c.version.ensures.version) at c.in_ok-terms.ensures) c.deref.ensures.value
    (rw c.lists.ensures.lists at c.in_ok-rows.ensures.ok) c.deref-2.ensures.value)
    c.requires.to c.plan_over.ensures (ap (λ view. g.D.Device.state view.device.now) c.new-overlay.ensures.view ∙ ap (λ d. g.D.Device.state d) c.new.ensures.same)
    (ap (λ d. g.D.Device.state d) (grind (arith, common_steps))) refl
    (overlay_shows (λ view. seen_directly (g.D.Device.state view.device.now) view.device.ghost_name)
    (λ view. device_is_view (g.D.Device.state view.device.now) view.device.ghost_name (g.met.D.Device.proper view.device.now))
    c.new-overlay.result)
    (grind (arith, common_steps)) (grind (arith, common_steps))
    (ap (λ view. (g.D.Device.state view.device.now).image) c.new-overlay.ensures.view
    ∙ ap (λ d. (g.D.Device.state d).image) c.new.ensures.same)
