-- Each ending, by the lemma of its kind.
use Rattle.std.proofs.Common.{inl, inr, arith, sym, subst}
use Rattle.std.specs.Prelude.{IsTrue}
use Rattle.cell_types.proofs.Passed.{handed}
use Rattle.cell_types.specs.Image.{Image}
use Rattle.volume_meaning.proofs.Extending.{holds_on, blank_before}
use Rattle.worm_device.specs.Overlays.{of_overlay}
use Rattle.worm_device.proofs.Resting.{viewed_then}
use Rattle.jump_block.proofs.Knowing.{key_on}
use Rattle.jump_block.specs.Pointing.{HasPointer}
use Rattle.jump_insertion.proofs.Lasting.{ends_behind, none_last, passes, open_last, tail_last_then}
use Rattle.jump_insertion.proofs.Naming.{greatest_fault, check_refused, named_fault, meets_home, no_key_there, front_fault, late_fault, fault_then, full_at_most, check_on}
use Rattle.jump_insertion.proofs.Readying.{at_viewed, at_target, own_block_viewed, reached_viewed}
use Rattle.jump_insertion.proofs.Showing.{is_view, quiet_image}
use Rattle.jump_insertion.proofs.Tailing.{leads_to, tail_leads, tail_then, tail_level_falls}
use Rattle.jump_insertion.proofs.hops.+tail.Goals as goal
use Rattle.jump_insertion.proofs.hops.+tail.Goals.{else-target-home-via-then-target-home+then-from+else-from-2, else-target-home-via-then-target-home+else-from, else-target-home-via-else-target-home}

-- a fault of the search for the greatest pointer
pub returns-in_err-found-clause-finds : goal.returns-in_err-found-clause-finds
returns-in_err-found-clause-finds g t c =
    rw (handed c.from_residual.result c.in_err-found.field-0.0 c.from_residual.ensures.1)
    (let viewed = c.greatest_pointer.ensures.viewed in
    record {
      viewed = viewed;
      ends = greatest_fault (of_overlay g.V.View.seen c.args.overlay.now)
          (of_overlay g.V.View.seen c.greatest_pointer.new.view)
          (is_view g.V.View.seen g.met.V.View.proper c.greatest_pointer.new.view)
          c.args.search.walk.list.head c.args.search.walk.list.floor c.args.search.walk.next c.args.search.walk.key c.args.step.full.block (λ tells. at_viewed viewed (c.requires.at tells))
          c.args.step.full.greatest_key c.args.step.bound c.in_err-found.field-0.0 c.in_err-found.ensures.ends;
    })

pub check_target-requires : goal.check_target-requires
check_target-requires g t c =
    let viewed = c.greatest_pointer.ensures.viewed in
    let found = (rw c.in-Some.is at c.in_ok-found.ensures).ends in record {
      inside = c.requires.inside;
      place = record { levels = found.is.levels; some = found.is.some; digits = found.is.digits };
      fresh = omega (arith, c.requires.fresh, viewed.fresh);
      at = λ tells. at_viewed viewed (c.requires.at (subst IsTrue viewed.called.tells tells));
      jump = λ tells. found.led (subst IsTrue viewed.called.tells tells);
    }

-- the pointer leads nowhere
pub returns-in_err-check_target-clause-finds : goal.returns-in_err-check_target-clause-finds
returns-in_err-check_target-clause-finds g t c =
    rw (handed c.from_residual-in_err-check_target.result c.in_err-check_target.field-0.0 c.from_residual-in_err-check_target.ensures.1)
    (record {
      viewed = c.greatest_pointer.ensures.viewed;
      ends = check_refused c.args.search.walk.list.head c.args.search.walk.list.floor c.args.search.walk.next c.args.search.walk.key c.args.step.full.block c.in-Some.target c.in-Some.span
          (of_overlay g.V.View.seen c.args.overlay.now)
          (of_overlay g.V.View.seen c.greatest_pointer.new.view) c.greatest_pointer.ensures.viewed
          c.in_err-check_target.field-0.0 c.in_err-check_target.ensures;
    })

-- the target meets the home
pub returns-then-from-2-clause-finds : goal.returns-then-from-2-clause-finds
returns-then-from-2-clause-finds g t c =
    let viewed = c.greatest_pointer.ensures.viewed in
    let found = (rw c.in-Some.is at c.in_ok-found.ensures).ends in
    record {
      viewed = viewed;
      ends = named_fault c.args.search.walk.list.head c.args.search.walk.list.floor c.args.search.walk.key c.args.step.full.block c.in-Some.span.level c.in-Some.span.digit
          c.in-Some.target (of_overlay g.V.View.seen c.args.overlay.now)
          (of_overlay g.V.View.seen c.greatest_pointer.new.view) c.leads_nowhere.result c.leads_nowhere.ensures
          (λ e names tells.
          meets_home (of_overlay g.V.View.seen c.greatest_pointer.new.view)
          (is_view g.V.View.seen g.met.V.View.proper c.greatest_pointer.new.view)
          c.args.search.walk.list.head c.args.search.walk.list.floor c.args.search.walk.next c.args.search.walk.key c.args.step.full.block (at_viewed viewed (c.requires.at tells))
          c.in-Some.span c.args.step.full.greatest_key c.in-Some.target found.is (found.led tells)
          (c.in_ok-check_target.ensures) (subst IsTrue (sym viewed.called.tells) tells)
          c.args.search.home (own_block_viewed viewed c.args.search.walk.list.head c.args.search.home (c.requires.home_own tells))
          (reached_viewed viewed c.args.search.walk.list.head c.args.search.walk.list.floor c.args.search.home (c.requires.home_reached tells))
          c.if-target-home.true (omega (arith, c.if-from.true, c.from.ensures, c.from-then-target-home.ensures))
          (omega (arith, c.if-from-2.true, c.from-then-from.ensures, c.from-then-from-2.ensures)) e names);
    }

-- a fault of the look into the target
pub returns-in_err-first-clause-finds : goal.returns-in_err-first-clause-finds
returns-in_err-first-clause-finds g t c =
    rw (handed c.from_residual-in_err-first.result c.in_err-first.field-0.0 c.from_residual-in_err-first.ensures.1)
    (let viewed = c.greatest_pointer.ensures.viewed in
    let checked = c.in_ok-check_target.ensures in
    record {
      viewed = viewed_then viewed c.first_at_least.ensures.viewed;
      ends = fault_then c.args.search.walk.list.head c.args.search.walk.list.floor c.args.search.walk.key (of_overlay g.V.View.seen c.args.overlay.now)
          (of_overlay g.V.View.seen c.greatest_pointer.new.view)
          (of_overlay g.V.View.seen c.first_at_least.new.view) viewed c.in_err-first.field-0.0
          (front_fault (of_overlay g.V.View.seen c.greatest_pointer.new.view)
          (of_overlay g.V.View.seen c.first_at_least.new.view)
          (is_view g.V.View.seen g.met.V.View.proper c.first_at_least.new.view)
          c.args.search.walk.list.head c.args.search.walk.list.floor c.args.search.walk.next c.args.search.walk.key c.in-Some.target
          (λ tells. at_viewed c.first_at_least.ensures.viewed
          (at_target (at_viewed viewed (c.requires.at (subst IsTrue viewed.called.tells tells))) (checked.2 tells)))
          c.in_err-first.field-0.0 c.in_err-first.ensures.ends);
    })

-- a late posting
pub returns-in-At-clause-finds : goal.returns-in-At-clause-finds
returns-in-At-clause-finds g t c =
    let viewed = c.greatest_pointer.ensures.viewed in
    let checked = c.in_ok-check_target.ensures in
    record {
      viewed = viewed_then viewed c.first_at_least.ensures.viewed;
      ends = fault_then c.args.search.walk.list.head c.args.search.walk.list.floor c.args.search.walk.key (of_overlay g.V.View.seen c.args.overlay.now)
          (of_overlay g.V.View.seen c.greatest_pointer.new.view)
          (of_overlay g.V.View.seen c.first_at_least.new.view) viewed c.late_posting.result
          (late_fault (of_overlay g.V.View.seen c.greatest_pointer.new.view)
          (of_overlay g.V.View.seen c.first_at_least.new.view)
          (is_view g.V.View.seen g.met.V.View.proper c.first_at_least.new.view)
          c.args.search.walk.list.head c.args.search.walk.list.floor c.args.search.walk.next c.args.search.walk.key c.in-Some.target
          (λ tells. at_viewed c.first_at_least.ensures.viewed
          (at_target (at_viewed viewed (c.requires.at (subst IsTrue viewed.called.tells tells))) (checked.2 tells)))
          c.in-At.late (rw c.in-At.is at c.in_ok-first.ensures).ends c.late_posting.result
          c.late_posting.ensures);
    }

-- a blank place
pub returns-in-Open-clause-finds : goal.returns-in-Open-clause-finds
returns-in-Open-clause-finds g t c =
    let viewed = c.greatest_pointer.ensures.viewed in
    let looked = c.first_at_least.ensures.viewed in
    let checked = c.in_ok-check_target.ensures in
    let read = (rw c.in-Open.is at c.in_ok-first.ensures).ends in
    record {
      viewed = viewed_then viewed looked;
      ends = (
        read.0,
        checked.0,
        checked.1,
        λ tells.
            let told = subst IsTrue (sym viewed.called.tells) tells in
            let hop = checked.2 told in
            record {
              own_block = own_block_viewed looked c.args.search.walk.list.head c.in-Some.target hop.own_block;
              reached = reached_viewed looked c.args.search.walk.list.head c.args.search.walk.list.floor c.in-Some.target hop.reached;
              apart = elim c.else-target-home.branch [
                | else-target-home-via-then-target-home+then-from+else-from-2 w ↦
                    inr (inl (omega (arith, w.if-from-2.false, w.from-then-from.ensures, w.from-then-from-2.ensures)))
                | else-target-home-via-then-target-home+else-from w ↦
                    inr (inr (omega (arith, w.if-from.false, w.from.ensures, w.from-then-target-home.ensures)))
                | else-target-home-via-else-target-home w ↦ inl w.if-target-home.false
              ];
              blank = (read.1 told).0;
              rises = (read.1 told).1.last;
            },
      );
    }

-- the target has no key of the span
pub returns-then-from-span-clause-finds : goal.returns-then-from-span-clause-finds
returns-then-from-span-clause-finds g t c =
    let viewed = c.greatest_pointer.ensures.viewed in
    let looked = c.first_at_least.ensures.viewed in
    let found = (rw c.in-Some.is at c.in_ok-found.ensures).ends in
    let checked = c.in_ok-check_target.ensures in
    let read = (rw c.in-Full.is at c.in_ok-first.ensures).ends in
    record {
      viewed = viewed_then viewed looked;
      ends = named_fault c.args.search.walk.list.head c.args.search.walk.list.floor c.args.search.walk.key c.args.step.full.block c.in-Some.span.level c.in-Some.span.digit
          c.in-Some.target (of_overlay g.V.View.seen c.args.overlay.now)
          (of_overlay g.V.View.seen c.first_at_least.new.view) c.leads_nowhere-then-from-span.result
          c.leads_nowhere-then-from-span.ensures (λ e names tells.
          let told = subst IsTrue (sym viewed.called.tells) tells in
          no_key_there (of_overlay g.V.View.seen c.first_at_least.new.view)
          (is_view g.V.View.seen g.met.V.View.proper c.first_at_least.new.view)
          c.args.search.walk.list.head c.args.search.walk.list.floor c.args.search.walk.next c.args.search.walk.key c.args.step.full.block
          (at_viewed looked (at_viewed viewed (c.requires.at tells)))
          c.in-Some.span c.args.step.full.greatest_key c.in-Some.target found.is (holds_on looked.image (found.led tells))
          (check_on (of_overlay g.V.View.seen c.greatest_pointer.new.view)
          (of_overlay g.V.View.seen c.first_at_least.new.view) c.args.search.walk.list.head c.args.search.walk.list.floor c.args.search.walk.next c.args.search.walk.key
          c.args.step.full.block c.in-Some.target c.in-Some.span looked checked) (subst IsTrue (sym looked.called.tells) told)
          (key_on looked.image (key_on viewed.image (c.requires.full tells)))
          (λ place p below front. omega (
            arith,
            full_at_most (read.1 told) place p below front,
            c.if-from-span.true,
            c.from-2.ensures,
          )) e names);
    }

-- the target is the next block on the way
pub tail-requires : goal.tail-requires
tail-requires g t c κs within =
    let viewed = c.greatest_pointer.ensures.viewed in
    let looked = c.first_at_least.ensures.viewed in
    let both = viewed_then viewed looked in
    let found = (rw c.in-Some.is at c.in_ok-found.ensures).ends in
    let checked = c.in_ok-check_target.ensures in
    let read = (rw c.in-Full.is at c.in_ok-first.ensures).ends in
    let falls = tail_level_falls c.args.step.full.greatest_key c.args.step.bound c.args.step.level c.in-Some.span
    found.is found.below c.requires.narrow in (
      omega (arith, falls, c.decreases),
      (
        within,
        record {
          inside = omega (arith, checked.1);
          home = c.requires.home;
          bound = omega (arith, c.min.ensures);
          narrow = omega (arith, c.min.ensures, found.is.high, c.if-from-span.false, c.from-2.ensures);
          fresh = omega (arith, c.requires.fresh, viewed.fresh, looked.fresh);
          at = λ told. at_viewed looked (at_target (at_viewed viewed
              (c.requires.at (subst IsTrue both.called.tells told)))
              (checked.2 (subst IsTrue looked.called.tells told)));
          full = λ told. read.1 (subst IsTrue looked.called.tells told);
          home_own = λ told. own_block_viewed both c.args.search.walk.list.head c.args.search.home
              (c.requires.home_own (subst IsTrue both.called.tells told));
          home_reached = λ told. reached_viewed both c.args.search.walk.list.head c.args.search.walk.list.floor
              c.args.search.home (c.requires.home_reached (subst IsTrue both.called.tells told));
        },
      ),
    )

-- what the search behind the target finds
pub returns-clause-finds : goal.returns-clause-finds
returns-clause-finds g t c =
    tail_then c.args.search.walk.list.head c.args.search.walk.list.floor c.args.search.walk.next c.args.search.walk.key c.args.search.home
    (of_overlay g.V.View.seen c.args.overlay.now) (of_overlay g.V.View.seen c.first_at_least.new.view)
    (of_overlay g.V.View.seen c.tail.new.overlay)
    (viewed_then c.greatest_pointer.ensures.viewed c.first_at_least.ensures.viewed) c.tail.result
    c.tail.ensures.finds

pub returns-in-Open-clause-leads : goal.returns-in-Open-clause-leads
returns-in-Open-clause-leads g t c = λ tells.
    let found = (rw c.in-Some.is at c.in_ok-found.ensures).ends in
    let checked = c.in_ok-check_target.ensures in
    leads_to (of_overlay g.V.View.seen c.first_at_least.new.view) found.is checked.0 checked.1
    (holds_on c.first_at_least.ensures.viewed.image (found.led tells))

pub returns-clause-leads : goal.returns-clause-leads
returns-clause-leads g t c =
    let found = (rw c.in-Some.is at c.in_ok-found.ensures).ends in
    let checked = c.in_ok-check_target.ensures in
    let looked = c.first_at_least.ensures.viewed in
    tail_leads c.args.search.walk.list.head c.args.search.walk.list.floor c.args.search.walk.next c.args.search.walk.key c.args.search.home c.args.step.full.block c.in-Some.target c.args.step.full.greatest_key
    c.in-Some.span (of_overlay g.V.View.seen c.args.overlay.now)
    (of_overlay g.V.View.seen c.first_at_least.new.view)
    (of_overlay g.V.View.seen c.tail.new.overlay) found.is checked.0 checked.1
    (viewed_then c.greatest_pointer.ensures.viewed looked)
    (λ tells. holds_on looked.image (found.led tells)) c.tail.result c.tail.ensures.finds c.tail.ensures.leads

-- no pointer is written: the block is the last
pub returns-in_default-clause-last : goal.returns-in_default-clause-last
returns-in_default-clause-last g t c = λ tells still head at q top there less trail.
    none_last (c.requires.full tells) ((rw c.in_default.is at c.in_ok-found.ensures).ends tells) top there less trail

-- the target is the last
pub returns-in-Open-clause-last : goal.returns-in-Open-clause-last
returns-in-Open-clause-last g t c = λ tells still head at q top there less trail.
    let viewed = c.greatest_pointer.ensures.viewed in
    let looked = c.first_at_least.ensures.viewed in
    let found = (rw c.in-Some.is at c.in_ok-found.ensures).ends in
    let read = (rw c.in-Open.is at c.in_ok-first.ensures).ends in
    let same = quiet_image viewed _ looked.called.foreign_writes still in
    let led = subst (λ (i : Image). HasPointer i c.args.step.full.block c.in-Some.span.level c.in-Some.span.digit
    c.in-Some.target)
    same (found.led tells) in
    let h = passes c.in-Some.span found.is (c.requires.full tells) led (found.blank tells) top there less trail in
    ends_behind h.hop (open_last c.in-Open.place read.0
    (blank_before (viewed_then viewed looked).image (read.1 (subst IsTrue (sym viewed.called.tells) tells)).0) h.trail)

pub returns-clause-last : goal.returns-clause-last
returns-clause-last g t c =
    let found = (rw c.in-Some.is at c.in_ok-found.ensures).ends in
    let looked = c.first_at_least.ensures.viewed in
    tail_last_then c.args.search.walk.list.floor c.args.search.walk.next c.args.step.full.block c.in-Some.target c.args.step.bound c.min.result c.args.step.full.greatest_key
    c.in-Some.span (of_overlay g.V.View.seen c.args.overlay.now)
    (of_overlay g.V.View.seen c.first_at_least.new.view) (of_overlay g.V.View.seen c.tail.new.overlay)
    found.is (viewed_then c.greatest_pointer.ensures.viewed looked) c.tail.ensures.finds.viewed.called.foreign_writes
    c.requires.full (λ tells. holds_on looked.image (found.led tells)) (λ tells. found.blank tells)
    (λ k high low. omega (arith, high, low, c.min.ensures, c.requires.bound)) c.tail.result c.tail.ensures.last

pub greatest_pointer-requires-clause-inside : goal.greatest_pointer-requires-clause-inside
greatest_pointer-requires-clause-inside g t c = c.requires.inside

pub greatest_pointer-requires-clause-bound : goal.greatest_pointer-requires-clause-bound
greatest_pointer-requires-clause-bound g t c = c.requires.bound

pub returns-in_default-clause-finds : goal.returns-in_default-clause-finds
returns-in_default-clause-finds g t c = record { viewed = c.greatest_pointer.ensures.viewed; ends = tt }

pub returns-in_err-found-clause-leads : goal.returns-in_err-found-clause-leads
returns-in_err-found-clause-leads g t c =
    rw (handed c.from_residual.result c.in_err-found.field-0.0 c.from_residual.ensures.1) tt

pub returns-in_err-found-clause-last : goal.returns-in_err-found-clause-last
returns-in_err-found-clause-last g t c =
    rw (handed c.from_residual.result c.in_err-found.field-0.0 c.from_residual.ensures.1) tt

pub returns-in_err-check_target-clause-leads : goal.returns-in_err-check_target-clause-leads
returns-in_err-check_target-clause-leads g t c =
    rw (handed c.from_residual-in_err-check_target.result c.in_err-check_target.field-0.0 c.from_residual-in_err-check_target.ensures.1) tt

pub returns-in_err-check_target-clause-last : goal.returns-in_err-check_target-clause-last
returns-in_err-check_target-clause-last g t c =
    rw (handed c.from_residual-in_err-check_target.result c.in_err-check_target.field-0.0 c.from_residual-in_err-check_target.ensures.1) tt

pub returns-in_err-first-clause-leads : goal.returns-in_err-first-clause-leads
returns-in_err-first-clause-leads g t c =
    rw (handed c.from_residual-in_err-first.result c.in_err-first.field-0.0 c.from_residual-in_err-first.ensures.1) tt

pub returns-in_err-first-clause-last : goal.returns-in_err-first-clause-last
returns-in_err-first-clause-last g t c =
    rw (handed c.from_residual-in_err-first.result c.in_err-first.field-0.0 c.from_residual-in_err-first.ensures.1) tt

pub leads_nowhere-requires-clause-level : goal.leads_nowhere-requires-clause-level
leads_nowhere-requires-clause-level g t c = (rw c.in-Some.is at c.in_ok-found.ensures).ends.is.levels

pub leads_nowhere-requires-clause-some : goal.leads_nowhere-requires-clause-some
leads_nowhere-requires-clause-some g t c = (rw c.in-Some.is at c.in_ok-found.ensures).ends.is.some

pub leads_nowhere-requires-clause-digit : goal.leads_nowhere-requires-clause-digit
leads_nowhere-requires-clause-digit g t c = (rw c.in-Some.is at c.in_ok-found.ensures).ends.is.digits

pub leads_nowhere-requires-clause-inside : goal.leads_nowhere-requires-clause-inside
leads_nowhere-requires-clause-inside g t c = omega (arith, c.requires.inside)

pub leads_nowhere-requires-then-from-span-clause-level : goal.leads_nowhere-requires-then-from-span-clause-level
leads_nowhere-requires-then-from-span-clause-level g t c = (rw c.in-Some.is at c.in_ok-found.ensures).ends.is.levels

pub leads_nowhere-requires-then-from-span-clause-some : goal.leads_nowhere-requires-then-from-span-clause-some
leads_nowhere-requires-then-from-span-clause-some g t c = (rw c.in-Some.is at c.in_ok-found.ensures).ends.is.some

pub leads_nowhere-requires-then-from-span-clause-digit : goal.leads_nowhere-requires-then-from-span-clause-digit
leads_nowhere-requires-then-from-span-clause-digit g t c = (rw c.in-Some.is at c.in_ok-found.ensures).ends.is.digits

pub leads_nowhere-requires-then-from-span-clause-inside : goal.leads_nowhere-requires-then-from-span-clause-inside
leads_nowhere-requires-then-from-span-clause-inside g t c = omega (arith, c.requires.inside)

pub first_at_least-requires : goal.first_at_least-requires
first_at_least-requires g t c = omega (arith, c.in_ok-check_target.ensures.1)
