-- One cell after another.
use Rattle.std.proofs.Common.{◌≡◌, ◌+◌, ℕ, List, ap, length, slice_get, Some, Ok, ◌∙◌, subst, arith, refl}
use Rattle.std.proofs.lemmas.Option.{slice_get_read}
use Rattle.cell_types.proofs.Passed.{handed}
use Rattle.worm_device.specs.Calls.{Writes}
use Rattle.worm_device.proofs.Compared.{alike, differ}
use Rattle.worm_device.proofs.Rows.{row_none, row_more, row_other, row_failed, row_whole}
use Rattle.worm_device.proofs.device.Device.write_row.Goals as goal
use Rattle.worm_device.proofs.device.Device.write_row.Goals.{in-Taken+else-ne, in_default}

pub write-requires : goal.write-requires
write-requires g c = omega (arith, c.requires, c.loop-place.invariant.called.cells, c.loop-place-test.true)

pub loop-place-init : goal.loop-place-init
loop-place-init g c = row_none c.args.at c.args.values.now (g.Self.Device.state c.args.self.now)

pub returns-in_err-written : goal.returns-in_err-written
returns-in_err-written g c =
    let is : slice_get c.args.values.now c.loop-place.place ≡ Some c.index-values-place.result = slice_get_read
    c.args.values.now (length c.args.values.now) c.loop-place.place c.index-values-place.result refl
    c.loop-place-test.true c.index-values-place.is in
    rw (handed c.from_residual.result c.in_err-written.field-0.0 c.from_residual.ensures.1)
    (row_failed c.args.at c.args.values.now c.loop-place.place c.index-values-place.result is c.loop-place.invariant
    c.in_err-written.field-0.0 c.in_err-written.ensures)

pub returns-then-ne : goal.returns-then-ne
returns-then-ne g c =
    let is : slice_get c.args.values.now c.loop-place.place ≡ Some c.index-values-place.result = slice_get_read
    c.args.values.now (length c.args.values.now) c.loop-place.place c.index-values-place.result refl
    c.loop-place-test.true c.index-values-place.is in
    row_other c.args.at c.args.values.now c.loop-place.place c.index-values-place.result is c.loop-place.invariant
    c.in-Taken.found (differ _ _ c.ne.result c.ne.ensures c.if-ne.true)
    (subst (λ w. Writes (c.args.at + c.loop-place.place) c.index-values-place.result
    (g.Self.Device.state c.loop-place.self) (g.Self.Device.state c.write.new.self) (Ok w))
    c.in-Taken.is c.in_ok-written.ensures)

pub loop-place-preserved : goal.loop-place-preserved
loop-place-preserved g c =
    let is : slice_get c.args.values.now c.loop-place.place ≡ Some c.index-values-place.result = slice_get_read
    c.args.values.now (length c.args.values.now) c.loop-place.place c.index-values-place.result refl
    c.loop-place-test.true c.index-values-place.is in
    row_more c.args.at c.args.values.now c.loop-place.place c.index-values-place.result is c.loop-place.invariant
    c.in_ok-written.written c.in_ok-written.ensures
    (λ tells. elim c.match-written.branch [
      | in-Taken+else-ne w ↦ ((subst (λ written. Writes (c.args.at + c.loop-place.place) c.index-values-place.result
          (g.Self.Device.state c.loop-place.self) (g.Self.Device.state c.write.new.self) (Ok written))
          w.in-Taken.is c.in_ok-written.ensures).answer tells).0
          ∙ ap (λ (v : List ℕ). Some v)
          (alike w.in-Taken.found c.index-values-place.result w.ne.result w.ne.ensures w.if-ne.false)
      | in_default w ↦ ((subst (λ written. Writes (c.args.at + c.loop-place.place) c.index-values-place.result
          (g.Self.Device.state c.loop-place.self) (g.Self.Device.state c.write.new.self) (Ok written))
          w.in_default.is c.in_ok-written.ensures).answer tells).1
    ])

pub returns : goal.returns
returns g c = row_whole c.args.at c.args.values.now c.loop-place.place
    (omega (arith, c.loop-place-test.false, c.loop-place.auto.place-end)) (g.Self.Device.state c.args.self.now)
    (g.Self.Device.state c.loop-place.self) c.loop-place.invariant
