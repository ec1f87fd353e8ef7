-- Each ending, by the lemma of its kind.
use Rattle.std.proofs.Common.{sym, arith, inl, inr, ◌∙◌}
use Rattle.cell_types.proofs.Passed.{handed}
use Rattle.worm_device.proofs.Resting.{viewed_self}
use Rattle.jump_index.proofs.Ways.{hop_on, with_fronts, with_hops}
use Rattle.jump_index.proofs.Behind.{target_outside, target_fault, target_entry, at_key, target_first, target_without_key}
use Rattle.jump_index.proofs.later.look_behind.Goals as goal
use Rattle.jump_index.proofs.later.look_behind.Goals.{then-hop-bounds-via-then-hop-bounds, then-hop-bounds-via-else-hop-bounds+then-from, in-At+else-from-hop, in_default}

pub returns-then-hop-bounds-clause-looks : goal.returns-then-hop-bounds-clause-looks
returns-then-hop-bounds-clause-looks g c = record {
  viewed = viewed_self (g.V.View.seen c.args.view.now);
  reads = omega arith;
  ends = target_outside c.args.bounds c.args.hop.block c.args.hop.greatest c.args.hop.span c.args.hop.target
      (g.V.View.seen c.args.view.now) c.leads_nowhere.result c.requires.ready.span (λ tells. (c.requires.ready.stands tells).jump)
      (elim c.then-hop-bounds.branch [
        | then-hop-bounds-via-then-hop-bounds w ↦ inl (omega arith)
        | then-hop-bounds-via-else-hop-bounds+then-from w ↦ inr (omega arith)
      ])
      c.leads_nowhere.ensures;
}

pub returns-in_err-first-clause-kept : goal.returns-in_err-first-clause-kept
returns-in_err-first-clause-kept g c = λ tells.
    with_fronts c.in_err-first.ensures.finds.viewed.image (c.requires.kept tells) (c.in_err-first.ensures.kept tells)

pub returns-then-from-hop-clause-kept : goal.returns-then-from-hop-clause-kept
returns-then-from-hop-clause-kept g c = λ tells.
    let f = c.in_ok-first.ensures in
    let before = with_fronts f.finds.viewed.image (c.requires.kept tells) (f.kept tells) in
    with_hops before (c.keep.ensures _ before.hops (hop_on f.finds.viewed.image (c.requires.ready.stands tells)))

pub returns-clause-kept : goal.returns-clause-kept
returns-clause-kept g c = λ tells.
    with_fronts c.in_ok-first.ensures.finds.viewed.image (c.requires.kept tells) (c.in_ok-first.ensures.kept tells)

pub returns-in_err-first-clause-looks : goal.returns-in_err-first-clause-looks
returns-in_err-first-clause-looks g c =
    rw (handed c.from_residual.result c.in_err-first.field-0.0 c.from_residual.ensures.1)
    (let f = c.in_err-first.ensures.finds in
    record {
      viewed = f.viewed;
      reads = f.reads;
      ends = target_fault c.args.bounds c.args.hop.block c.args.hop.greatest c.args.hop.span c.args.hop.target _ _ f.viewed
          c.requires.ready.span (λ tells. (c.requires.ready.stands tells).full) (λ tells. (c.requires.ready.stands tells).jump)
          (omega arith) (omega arith) c.in_err-first.field-0.0 f.ends;
    })

pub returns-then-from-hop-clause-looks : goal.returns-then-from-hop-clause-looks
returns-then-from-hop-clause-looks g c =
    let f = rw c.in-At.is at c.in_ok-first.ensures.finds in
    record {
      viewed = f.viewed;
      reads = f.reads;
      ends = (
        f.ends.2,
        omega arith,
        target_entry c.args.bounds c.args.hop.block c.args.hop.greatest c.args.hop.span c.args.hop.target _ _ f.viewed c.requires.ready.span
            (λ tells. (c.requires.ready.stands tells).full) (λ tells. (c.requires.ready.stands tells).jump)
            (omega arith) (omega arith) c.in-At.entry c.requires.ready.edge f.ends,
        target_first c.args.bounds c.args.hop.block c.args.hop.greatest c.args.hop.span c.args.hop.target _ _ f.viewed c.requires.ready.span
            (λ tells. (c.requires.ready.stands tells).full) (λ tells. (c.requires.ready.stands tells).jump)
            (omega arith) (omega arith) c.in-At.entry f.ends (omega arith),
      );
    }

pub returns-clause-looks : goal.returns-clause-looks
returns-clause-looks g c =
    let f = c.in_ok-first.ensures.finds in
    record {
      viewed = f.viewed;
      reads = f.reads;
      ends = target_without_key c.args.bounds c.args.hop.block c.args.hop.greatest c.args.hop.span c.args.hop.target _ _ f.viewed
          c.requires.ready.span (λ tells. (c.requires.ready.stands tells).full) (λ tells. (c.requires.ready.stands tells).jump)
          (omega arith) (omega arith) c.in_ok-first.first f.ends
          (λ e same. elim c.match-first.branch [
            | in-At+else-from-hop w ↦ omega
                (arith, at_key e w.in-At.entry (sym same ∙ w.in-At.is))
            | in_default w ↦ absurd
                (w.in_default.not-At e same)
          ])
          c.leads_nowhere-2.result c.leads_nowhere-2.ensures;
    }
