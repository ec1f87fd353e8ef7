-- The first row, which has the head, and then the rows behind it.
use Rattle.std.proofs.Common.{◌≡◌, ◌+◌, ◌-◌, ◌∙◌, ℕ, [], ap, drop, length, take, arith, subst}
use Rattle.std.proofs.lemmas.List.{length-drop, take_all}
use Rattle.cell_types.proofs.Passed.{handed}
use Rattle.worm_device.proofs.Resting.{viewed_then}
use Rattle.record_query.specs.Matching.{seek_fault_of}
use Rattle.record_query.proofs.Bodies.{SeekSoFar, first_unread, no_front, seek_differs, seek_first, seek_matches, seek_on, seek_within, unpushed}
use Rattle.record_query.proofs.matching.seek.Goals as goal

-- the first row was not read
pub returns-in_err-first-clause-ends : goal.returns-in_err-first-clause-ends
returns-in_err-first-clause-ends g c =
    rw (handed c.from_residual.result (seek_fault_of c.in_err-first.field-0.0) c.from_residual.ensures.1)
    (first_unread c.args.start c.args.bytes (g.V.View.seen c.args.view.now) (g.V.View.seen c.next_row.new.view)
    c.new-position.result c.next_row.new.position c.next_row.new.into c.in_err-first.field-0.0
    (c.new-position.ensures.begins (g.V.View.seen c.args.view.now)) c.in_err-first.ensures.ends)

-- it is no document's
pub returns-in_default-clause-ends : goal.returns-in_default-clause-ends
returns-in_default-clause-ends g c =
    let row = take c.in_ok-first.first c.next_row.new.into in
    no_front c.args.start c.args.bytes (g.V.View.seen c.args.view.now) (g.V.View.seen c.next_row.new.view)
    c.next_row.new.position row c.in_ok-first.ensures.viewed c.in_ok-first.ensures.ends.0
    (c.in_ok-first.ensures.ends.3 c.args.start c.args.bytes []
    (c.new-position.ensures.begins (g.V.View.seen c.args.view.now)))
    c.in_default.ensures.none

-- what stands behind the head was pushed
pub loop-count-init : goal.loop-count-init
loop-count-init g c =
    let row = take c.in_ok-first.first c.next_row.new.into in
    let head = c.in-Some.ensures.some in
    let before : 1 + c.from-before.result ≡ 1 + c.in-Some.head.id_length = omega (arith, c.from-before.ensures) in
    let long : length row ≡ c.in_ok-first.first = c.in_ok-first.ensures.ends.2 in
    let counted : c.in_ok-first.first
    ≡ 1 + c.in-Some.head.id_length + (c.in_ok-first.first - (1 + c.from-before.result)) =
    omega (arith, before, long, head.within) in
    seek_first (g.V.View.seen c.args.view.now) (g.V.View.seen c.next_row.new.view) c.args.start c.args.bytes
    c.in_ok-first.first (c.in_ok-first.first - (1 + c.from-before.result)) c.next_row.new.position c.in-Some.head
    c.args.matcher.now c.forget_document.new.matcher c.push_all.new.self row _
    c.in_ok-first.ensures.viewed c.in_ok-first.ensures.ends.0 c.in_ok-first.ensures.is
    (omega (arith, c.in_ok-first.ensures.reads))
    (c.in_ok-first.ensures.ends.3 c.args.start c.args.bytes []
    (c.new-position.ensures.begins (g.V.View.seen c.args.view.now)))
    head long counted (
    take_all (length row - (1 + c.from-before.result)) (drop (1 + c.from-before.result) row)
    (omega (arith, length-drop (1 + c.from-before.result) row))
    ∙ ap (λ (k : ℕ). drop k row) before
    ) c.forget_document.ensures c.in_ok-push_all.ensures

-- no more bytes were read, or pushed
pub returns-in_err-count-clause-viewed : goal.returns-in_err-count-clause-viewed
returns-in_err-count-clause-viewed g c =
    viewed_then c.loop-count.invariant.read.viewed c.in_err-count.ensures.viewed

pub returns-in_err-count-clause-ends : goal.returns-in_err-count-clause-ends
returns-in_err-count-clause-ends g c =
    rw (handed c.from_residual-in_err-count.result c.in_err-count.field-0.0
    c.from_residual-in_err-count.ensures.1)
    (unpushed (g.V.View.seen c.args.view.now) (g.V.View.seen c.loop-count.view) (g.V.View.seen c.push_next.new.view)
    c.args.start c.args.bytes c.loop-count.position c.push_next.new.position c.in-Some.head c.args.matcher.now
    c.loop-count.matcher c.push_next.new.matcher c.loop-count.count c.in_err-count.field-0.0 c.loop-count.invariant
    c.loop-count-test.true c.in_err-count.ensures.ends)

-- more of them, which the body has
pub loop-count-preserved : goal.loop-count-preserved
loop-count-preserved g c =
    seek_on (g.V.View.seen c.args.view.now) (g.V.View.seen c.loop-count.view) (g.V.View.seen c.push_next.new.view)
    c.args.start c.args.bytes c.loop-count.position c.push_next.new.position c.in-Some.head c.args.matcher.now
    c.loop-count.matcher c.push_next.new.matcher c.loop-count.count c.in_ok-count.field-0 c.loop-count.invariant
    c.in_ok-count.ensures.viewed c.in_ok-count.ensures.is c.in_ok-count.ensures.reads c.in_ok-count.ensures.ends

pub overflow_add-count : goal.overflow_add-count
overflow_add-count g c =
    let most = seek_within (g.V.View.seen c.args.view.now) (g.V.View.seen c.push_next.new.view) c.args.start c.args.bytes
    c.push_next.new.position c.in-Some.head c.args.matcher.now c.push_next.new.matcher
    (c.loop-count.count + c.in_ok-count.field-0) (loop-count-preserved g c) in
    omega (arith, most, c.loop-count.invariant.head.most)

-- the whole body
pub returns-then-matched-clause-ends : goal.returns-then-matched-clause-ends
returns-then-matched-clause-ends g c =
    let now = g.V.View.seen c.loop-count.view in
    let most = seek_within (g.V.View.seen c.args.view.now) now c.args.start c.args.bytes c.loop-count.position
    c.in-Some.head c.args.matcher.now c.loop-count.matcher c.loop-count.count c.loop-count.invariant in
    let all : c.loop-count.count ≡ c.in-Some.head.body_length = omega (arith, c.loop-count-test.false, most) in
    let so_far = subst (λ (k : ℕ). SeekSoFar (g.V.View.seen c.args.view.now) now c.args.start c.args.bytes
    c.loop-count.position c.in-Some.head c.args.matcher.now c.loop-count.matcher k) all c.loop-count.invariant in (
      c.loop-count.invariant.read.faults,
      seek_matches (g.V.View.seen c.args.view.now) now c.args.start c.args.bytes c.loop-count.position c.in-Some.head
          c.args.matcher.now c.loop-count.matcher c.in_ok-matched.matched so_far c.in_ok-matched.ensures.ends
          c.if-matched.true,
    )

pub returns-clause-ends : goal.returns-clause-ends
returns-clause-ends g c =
    let now = g.V.View.seen c.loop-count.view in
    let most = seek_within (g.V.View.seen c.args.view.now) now c.args.start c.args.bytes c.loop-count.position
    c.in-Some.head c.args.matcher.now c.loop-count.matcher c.loop-count.count c.loop-count.invariant in
    let all : c.loop-count.count ≡ c.in-Some.head.body_length = omega (arith, c.loop-count-test.false, most) in
    let so_far = subst (λ (k : ℕ). SeekSoFar (g.V.View.seen c.args.view.now) now c.args.start c.args.bytes
    c.loop-count.position c.in-Some.head c.args.matcher.now c.loop-count.matcher k) all c.loop-count.invariant in (
      c.loop-count.invariant.read.faults,
      seek_differs (g.V.View.seen c.args.view.now) now c.args.start c.args.bytes c.loop-count.position c.in-Some.head
          c.args.matcher.now c.loop-count.matcher c.in_ok-matched.matched so_far c.in_ok-matched.ensures.ends
          c.if-matched.false,
    )
