-- Each ending, by what the probe of its ordinal found.
use Rattle.std.proofs.Common.{rules, ◌+◌, sym, subst, arith, ◌∙◌}
use Rattle.cell_types.proofs.Passed.{handed}
use Rattle.posting_list.proofs.Evidence.{false_never}
use Rattle.posting_list.proofs.Bisecting.{HasSoFar, first_found, first_missing, go_down, go_up, has_fault, has_first, middle_found, middle_missing, narrowed_first, narrowed_more, none_left, reads_more}
use Rattle.posting_list.proofs.has_slot.find_posting.Goals as goal

-- there is no posting with ordinal 0
pub returns-in_default-clause-finds : goal.returns-in_default-clause-finds
returns-in_default-clause-finds g c =
    first_missing c.args.reach.now c.args.term.now c.args.slot _ _ (rw c.in_default.is at c.in_ok-first.ensures.probes)

-- it has the tag
pub returns-then-is_same-clause-finds : goal.returns-then-is_same-clause-finds
returns-then-is_same-clause-finds g c =
    first_found c.args.reach.now c.args.term.now c.args.slot (g.V.View.seen c.args.view.now)
    (g.V.View.seen c.probe.new.view) c.in-Some.first (rw c.in-Some.is at c.in_ok-first.ensures.probes)
    (c.is_same.ensures.0 c.if-is_same.true)

-- it has another one, and tells the last ordinal
pub loop-low-init : goal.loop-low-init
loop-low-init g c = record {
  kept = c.probe.ensures.kept;
  so_far = subst
      (λ n. HasSoFar c.args.reach.now c.args.term.now c.args.slot (g.V.View.seen c.args.view.now)
      (g.V.View.seen c.probe.new.view) 1 (n + 1)) (sym c.from-high.ensures)
      (has_first c.args.reach.now c.args.term.now c.args.slot (g.V.View.seen c.args.view.now)
      (g.V.View.seen c.probe.new.view) c.in-Some.first (search rules)
      (rw c.in-Some.is at c.in_ok-first.ensures.probes)
      (λ same. false_never (sym c.if-is_same.false ∙ c.is_same.ensures.1 same)));
  narrowed = narrowed_first (g.V.View.seen c.args.view.now) (g.V.View.seen c.probe.new.view) c.in-Some.first.last _
      (search rules) (omega (arith, c.from-high.ensures)) c.probe.ensures.reads;
}

-- a probe gives no answer
pub returns-in_err-found-clause-finds : goal.returns-in_err-found-clause-finds
returns-in_err-found-clause-finds g c =
    rw (handed c.from_residual-in_err-found.result c.in_err-found.field-0.0 c.from_residual-in_err-found.ensures.1)
    (has_fault c.args.reach.now c.args.term.now c.args.slot (g.V.View.seen c.args.view.now)
    (g.V.View.seen c.loop-low.view) (g.V.View.seen c.probe-in-loop-low.new.view) c.loop-low.invariant.so_far.viewed _
    c.in_err-found.field-0.0 c.in_err-found.ensures.probes)

-- the middle ordinal has no posting
pub returns-in_default-found-clause-finds : goal.returns-in_default-found-clause-finds
returns-in_default-found-clause-finds g c =
    middle_missing c.args.reach.now c.args.term.now c.args.slot (g.V.View.seen c.args.view.now)
    (g.V.View.seen c.loop-low.view) (g.V.View.seen c.probe-in-loop-low.new.view) c.loop-low.low c.loop-low.high _
    c.loop-low.invariant.so_far (omega arith) (omega (arith, c.loop-low-test.true))
    (rw c.in_default-found.is at c.in_ok-found.ensures.probes)

-- the middle ordinal has the tag
pub returns-then-is_same-2-clause-finds : goal.returns-then-is_same-2-clause-finds
returns-then-is_same-2-clause-finds g c =
    middle_found c.args.reach.now c.args.term.now c.args.slot (g.V.View.seen c.args.view.now)
    (g.V.View.seen c.loop-low.view) (g.V.View.seen c.probe-in-loop-low.new.view) c.loop-low.low c.loop-low.high _
    c.loop-low.invariant.so_far (omega arith) (omega (arith, c.loop-low-test.true)) c.in-Some-found.entry
    (rw c.in-Some-found.is at c.in_ok-found.ensures.probes) (c.is_same-in-loop-low.ensures.0 c.if-is_same-2.true)

-- it has a smaller one
pub loop-low-preserved-then-number_of-sought : goal.loop-low-preserved-then-number_of-sought
loop-low-preserved-then-number_of-sought g c = record {
  kept = c.probe-in-loop-low.ensures.kept;
  so_far = go_up c.args.reach.now c.args.term.now c.args.slot (g.V.View.seen c.args.view.now)
      (g.V.View.seen c.loop-low.view) (g.V.View.seen c.probe-in-loop-low.new.view) c.loop-low.low c.loop-low.high _
      c.loop-low.invariant.so_far (omega arith) (omega (arith, c.loop-low-test.true)) c.in-Some-found.entry
      (rw c.in-Some-found.is at c.in_ok-found.ensures.probes)
      (λ same. false_never (sym c.if-is_same-2.false ∙ c.is_same-in-loop-low.ensures.1 same))
      (omega (arith, c.if-number_of-sought.true, c.number_of.ensures, c.number_of-sought.ensures));
  narrowed = narrowed_more (g.V.View.seen c.args.view.now) (g.V.View.seen c.loop-low.view)
      (g.V.View.seen c.probe-in-loop-low.new.view) c.loop-low.low c.loop-low.high c.loop-low-test.true
      c.probe-in-loop-low.ensures.reads _ _ c.loop-low.invariant.narrowed (omega (arith, c.loop-low-test.true));
}

-- or a greater one
pub loop-low-preserved : goal.loop-low-preserved
loop-low-preserved g c = record {
  kept = c.probe-in-loop-low.ensures.kept;
  so_far = go_down c.args.reach.now c.args.term.now c.args.slot (g.V.View.seen c.args.view.now)
      (g.V.View.seen c.loop-low.view) (g.V.View.seen c.probe-in-loop-low.new.view) c.loop-low.low c.loop-low.high _
      c.loop-low.invariant.so_far (omega arith) (omega (arith, c.loop-low-test.true)) c.in-Some-found.entry
      (rw c.in-Some-found.is at c.in_ok-found.ensures.probes)
      (λ same. false_never (sym c.if-is_same-2.false ∙ c.is_same-in-loop-low.ensures.1 same))
      (omega (arith, c.if-number_of-sought.false, c.number_of.ensures, c.number_of-sought.ensures));
  narrowed = narrowed_more (g.V.View.seen c.args.view.now) (g.V.View.seen c.loop-low.view)
      (g.V.View.seen c.probe-in-loop-low.new.view) c.loop-low.low c.loop-low.high c.loop-low-test.true
      c.probe-in-loop-low.ensures.reads _ _ c.loop-low.invariant.narrowed (omega (arith, c.loop-low-test.true));
}

-- no ordinal is left
pub returns-clause-finds : goal.returns-clause-finds
returns-clause-finds g c =
    none_left c.args.reach.now c.args.term.now c.args.slot (g.V.View.seen c.args.view.now)
    (g.V.View.seen c.loop-low.view) c.loop-low.low c.loop-low.high c.loop-low.invariant.so_far
    (omega (arith, c.loop-low-test.false))

pub returns-in_err-found-clause-reads : goal.returns-in_err-found-clause-reads
returns-in_err-found-clause-reads g c =
    reads_more (g.V.View.seen c.args.view.now) (g.V.View.seen c.loop-low.view)
    (g.V.View.seen c.probe-in-loop-low.new.view) c.loop-low.low c.loop-low.high c.loop-low-test.true
    c.probe-in-loop-low.ensures.reads c.loop-low.invariant.narrowed

pub returns-in_default-found-clause-reads : goal.returns-in_default-found-clause-reads
returns-in_default-found-clause-reads g c =
    reads_more (g.V.View.seen c.args.view.now) (g.V.View.seen c.loop-low.view)
    (g.V.View.seen c.probe-in-loop-low.new.view) c.loop-low.low c.loop-low.high c.loop-low-test.true
    c.probe-in-loop-low.ensures.reads c.loop-low.invariant.narrowed

pub returns-then-is_same-2-clause-reads : goal.returns-then-is_same-2-clause-reads
returns-then-is_same-2-clause-reads g c =
    reads_more (g.V.View.seen c.args.view.now) (g.V.View.seen c.loop-low.view)
    (g.V.View.seen c.probe-in-loop-low.new.view) c.loop-low.low c.loop-low.high c.loop-low-test.true
    c.probe-in-loop-low.ensures.reads c.loop-low.invariant.narrowed

pub returns-clause-reads : goal.returns-clause-reads
returns-clause-reads g c =
    let n = c.loop-low.invariant.narrowed in
    omega (arith, n.reads)
