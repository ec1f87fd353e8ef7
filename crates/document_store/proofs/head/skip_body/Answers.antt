-- The body, byte by byte.
use Rattle.std.proofs.Common.{◌≡◌, ℕ, subst, arith}
use Rattle.cell_types.proofs.Passed.{handed}
use Rattle.document_store.proofs.SoFar.{BodySoFar, fault_on, body_more, body_whole, body_left, head_fits}
use Rattle.document_store.proofs.head.skip_body.Goals as goal

-- a byte was not read
pub returns-in_err-read_byte-clause-ends : goal.returns-in_err-read_byte-clause-ends
returns-in_err-read_byte-clause-ends g c =
    let old = g.V.View.seen c.args.view.now in
    let now = g.V.View.seen c.loop.view in
    rw (handed c.from_residual.result c.in_err-read_byte.field-0.0 c.from_residual.ensures.1)
    (fault_on (g.V.View.seen c.read_byte.new.view) c.read_byte.new.position c.in_err-read_byte.field-0.0
    c.loop.invariant.viewed c.loop.invariant.faults c.loop.invariant.read
    (body_left old now c.args.start c.args.bytes c.args.position.now c.loop.position c.args.head.now c.loop.counter
    (head_fits c.requires.head) c.loop.invariant c.loop-test.true)
    c.in_err-read_byte.ensures.ends)

-- one more
pub loop-preserved : goal.loop-preserved
loop-preserved g c =
    body_more c.in_ok-read_byte.field-0 c.loop.invariant c.in_ok-read_byte.ensures.viewed
    c.in_ok-read_byte.ensures.is c.in_ok-read_byte.ensures.reads c.in_ok-read_byte.ensures.ends

-- all of them
pub returns-clause-ends : goal.returns-clause-ends
returns-clause-ends g c =
    let old = g.V.View.seen c.args.view.now in
    let now = g.V.View.seen c.loop.view in
    let at_end : c.loop.counter ≡ c.args.head.now.body_length =
    omega (arith, c.loop-test.false, c.loop.auto.counter-end) in (
      c.loop.invariant.faults,
      body_whole old now c.args.start c.args.bytes c.args.position.now c.loop.position
          c.args.head.now (head_fits c.requires.head)
          (subst (λ (k : ℕ). BodySoFar old now c.args.start c.args.bytes c.args.position.now c.loop.position
          c.args.head.now k)
          at_end c.loop.invariant),
    )
