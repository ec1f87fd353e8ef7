-- Each ending, by the lemma of its kind.
use Rattle.std.proofs.Common.{◌≡◌, ◌+◌, inl, inr, refl, arith, sym, ap, ◌∙◌, subst, Some, None, Ok, Err}
use Rattle.std.specs.Prelude.{IsTrue}
use Rattle.cell_types.proofs.Passed.{handed}
use Rattle.cell_pool.specs.declared.fault.GrowthFault.TheVariants as growth
use Rattle.cell_types.specs.Image.{Image}
use Rattle.volume_meaning.specs.Blocks.{posting_record}
use Rattle.volume_meaning.proofs.Extending.{holds_on}
use Rattle.worm_device.specs.Overlays.{of_overlay}
use Rattle.worm_device.proofs.Resting.{viewed_then}
use Rattle.jump_block.proofs.Knowing.{key_on}
use Rattle.jump_block.proofs.OneBlock.{level_falls}
use Rattle.jump_insertion.specs.Planning.{PutsRecord}
use Rattle.jump_insertion.proofs.Adding.{grows_open, grow_then, grow_behind}
use Rattle.jump_insertion.proofs.Naming.{front_fault, late_fault, pointer_fault, fault_then, check_refused, named_fault, no_key_there, check_on}
use Rattle.jump_insertion.proofs.Placing.{into_open, into_target, place_then, refused_behind, read_fault, no_key_here, one_refused}
use Rattle.jump_insertion.proofs.Planned.{planned_alone, has_planned_then, pool_next, writes_on}
use Rattle.jump_insertion.proofs.Readying.{at_viewed, at_target, under_way_viewed, visit_viewed}
use Rattle.jump_insertion.proofs.Showing.{is_view, blank_is_free}
use Rattle.jump_insertion.proofs.insertion.+insert_from.Goals as goal

-- a fault of the look into the block
pub returns-in_err-first-clause-places : goal.returns-in_err-first-clause-places
returns-in_err-first-clause-places g t c =
    rw (handed c.from_residual.result (growth.Fault c.in_err-first.field-0.0) c.from_residual.ensures.1)
    (let viewed = c.first_at_least.ensures.viewed in
    read_fault c.args.insertion.list.head c.args.insertion.list.floor c.args.pool.now.next c.args.visit.block
    c.args.insertion.entry c.args.visit.within.low c.args.visit.within.high (of_overlay g.V.View.seen c.args.overlay.now)
    (of_overlay g.V.View.seen c.first_at_least.new.view) c.in_err-first.field-0.0 viewed
    (front_fault (of_overlay g.V.View.seen c.args.overlay.now) (of_overlay g.V.View.seen c.first_at_least.new.view)
    (is_view g.V.View.seen g.met.V.View.proper c.first_at_least.new.view) c.args.insertion.list.head c.args.insertion.list.floor
    c.args.pool.now.next c.args.insertion.entry.key c.args.visit.block
    (λ tells. at_viewed viewed (c.requires.at tells)) c.in_err-first.field-0.0 c.in_err-first.ensures.ends))

-- a late posting
pub returns-in-At-clause-places : goal.returns-in-At-clause-places
returns-in-At-clause-places g t c =
    let viewed = c.first_at_least.ensures.viewed in
    read_fault c.args.insertion.list.head c.args.insertion.list.floor c.args.pool.now.next c.args.visit.block
    c.args.insertion.entry c.args.visit.within.low c.args.visit.within.high (of_overlay g.V.View.seen c.args.overlay.now)
    (of_overlay g.V.View.seen c.first_at_least.new.view) c.late_posting.result viewed
    (late_fault (of_overlay g.V.View.seen c.args.overlay.now) (of_overlay g.V.View.seen c.first_at_least.new.view)
    (is_view g.V.View.seen g.met.V.View.proper c.first_at_least.new.view) c.args.insertion.list.head c.args.insertion.list.floor
    c.args.pool.now.next c.args.insertion.entry.key c.args.visit.block
    (λ tells. at_viewed viewed (c.requires.at tells)) c.in-At.late (rw c.in-At.is at c.in_ok-first.ensures).ends
    c.late_posting.result c.late_posting.ensures)

-- a blank place
pub returns-in-Open-clause-places : goal.returns-in-Open-clause-places
returns-in-Open-clause-places g t c =
    let put = subst (λ n. PutsRecord (c.args.visit.block + n) (posting_record c.args.insertion.entry)
    (record { head = c.args.insertion.list.head; base = c.args.visit.block })
    (of_overlay g.V.View.seen c.first_at_least.new.view) (of_overlay g.V.View.seen c.put_posting.new.overlay) (Ok tt))
    c.from.ensures c.in_ok-put_posting-in-Open.ensures in
    into_open c.args.insertion.list.head c.args.insertion.list.floor c.args.pool.now.next c.args.visit.block c.args.visit.within.low c.args.visit.within.high
    c.in-Open.place c.in-Open.field-1 c.args.insertion.entry (of_overlay g.V.View.seen c.args.overlay.now)
    (of_overlay g.V.View.seen c.first_at_least.new.view) (of_overlay g.V.View.seen c.put_posting.new.overlay)
    (is_view g.V.View.seen g.met.V.View.proper c.first_at_least.new.view) c.requires.posting.head c.requires.lies
    c.requires.low c.requires.high c.requires.before c.first_at_least.ensures.viewed
    (rw c.in-Open.is at c.in_ok-first.ensures).ends c.requires.at put

pub returns-in_err-put_posting-in-Open-clause-places : goal.returns-in_err-put_posting-in-Open-clause-places
returns-in_err-put_posting-in-Open-clause-places g t c =
    rw (handed c.from_residual-in_err-put_posting-in-Open.result c.in_err-put_posting-in-Open.field-0.0 c.from_residual-in_err-put_posting-in-Open.ensures.1)
    (one_refused c.args.insertion.list.head c.args.insertion.list.floor c.args.pool.now.next c.args.visit.block (c.args.visit.block + c.from.result)
    c.args.insertion.entry c.args.visit.within.low c.args.visit.within.high (of_overlay g.V.View.seen c.args.overlay.now)
    (of_overlay g.V.View.seen c.first_at_least.new.view) (of_overlay g.V.View.seen c.put_posting.new.overlay)
    (record { head = c.args.insertion.list.head; base = c.args.visit.block })
    c.in_err-put_posting-in-Open.field-0.0 c.first_at_least.ensures.viewed
    (λ tells. blank_is_free (of_overlay g.V.View.seen c.first_at_least.new.view)
    (is_view g.V.View.seen g.met.V.View.proper c.first_at_least.new.view) _
    (subst (λ n. ((of_overlay g.V.View.seen c.first_at_least.new.view)).image (c.args.visit.block + n) ≡ None)
    (sym c.from.ensures)
    ((rw c.in-Open.is at c.in_ok-first.ensures).ends.1 tells).0))
    c.in_err-put_posting-in-Open.ensures)

-- no key of the span
pub returns-then-from-within-clause-places : goal.returns-then-from-within-clause-places
returns-then-from-within-clause-places g t c =
    no_key_here c.args.insertion.list.head c.args.insertion.list.floor c.args.pool.now.next c.args.visit.block c.in-Full.l
    c.args.insertion.entry c.args.visit.within.low c.args.visit.within.high (of_overlay g.V.View.seen c.args.overlay.now)
    (of_overlay g.V.View.seen c.first_at_least.new.view) c.first_at_least.ensures.viewed
    (λ tells. (rw c.in-Full.is at c.in_ok-first.ensures).ends.1 tells)
    (omega (arith, c.if-from-within.true, c.from-2.ensures))

-- a fault of the read of the pointer
pub returns-in_err-led-clause-places : goal.returns-in_err-led-clause-places
returns-in_err-led-clause-places g t c =
    rw (handed c.from_residual-in_err-led.result (growth.Fault c.in_err-led.field-0.0) c.from_residual-in_err-led.ensures.1)
    (let viewed = viewed_then c.first_at_least.ensures.viewed c.pointer.ensures.viewed in
    let is = c.span-to.ensures.is in
    read_fault c.args.insertion.list.head c.args.insertion.list.floor c.args.pool.now.next c.args.visit.block
    c.args.insertion.entry c.args.visit.within.low c.args.visit.within.high (of_overlay g.V.View.seen c.args.overlay.now)
    (of_overlay g.V.View.seen c.pointer.new.view) c.in_err-led.field-0.0 viewed
    (fault_then c.args.insertion.list.head c.args.insertion.list.floor c.args.insertion.entry.key (of_overlay g.V.View.seen c.args.overlay.now)
    (of_overlay g.V.View.seen c.first_at_least.new.view)
    (of_overlay g.V.View.seen c.pointer.new.view) c.first_at_least.ensures.viewed c.in_err-led.field-0.0
    (pointer_fault (of_overlay g.V.View.seen c.first_at_least.new.view) (of_overlay g.V.View.seen c.pointer.new.view)
    (is_view g.V.View.seen g.met.V.View.proper c.pointer.new.view) c.args.insertion.list.head c.args.insertion.list.floor c.args.pool.now.next
    c.args.insertion.entry.key c.args.visit.block
    (λ told. at_viewed viewed (c.requires.at (subst IsTrue c.first_at_least.ensures.viewed.called.tells told)))
    c.span-to.result.level c.span-to.result.digit (record { levels = is.levels; some = is.some; digits = is.digits })
    c.in_err-led.field-0.0 c.in_err-led.ensures)))

-- the block is the home of the new pointer
pub insert_behind-requires : goal.insert_behind-requires
insert_behind-requires g t c =
    let looked = c.first_at_least.ensures.viewed in
    let led = c.pointer.ensures.viewed in
    let viewed = viewed_then looked led in record {
      visit = visit_viewed viewed c.requires;
      span = c.span-to.ensures.is;
      from = c.span-to.ensures.low;
      below = c.span-to.ensures.high;
      low = omega (arith, c.if-from-within.false, c.from-2.ensures);
      less = (rw c.in-Full.is at c.in_ok-first.ensures).ends.0;
      full = λ tells. key_on led.image
          ((rw c.in-Full.is at c.in_ok-first.ensures).ends.1 (subst IsTrue viewed.called.tells tells));
      blank = λ tells. (rw c.in_default.is at c.in_ok-led.ensures).ends (subst IsTrue led.called.tells tells);
    }

-- behind the block
pub returns-in_default-clause-places : goal.returns-in_default-clause-places
returns-in_default-clause-places g t c =
    place_then c.args.insertion.list.head c.args.insertion.list.floor c.insert_behind.new.pool.next c.args.visit.block
    c.args.insertion.entry c.args.visit.within.low c.args.visit.within.high (of_overlay g.V.View.seen c.args.overlay.now)
    (of_overlay g.V.View.seen c.pointer.new.view) (of_overlay g.V.View.seen c.insert_behind.new.overlay)
    (viewed_then c.first_at_least.ensures.viewed c.pointer.ensures.viewed)
    c.insert_behind.result c.insert_behind.ensures.places

pub check_target-requires : goal.check_target-requires
check_target-requires g t c =
    let led = c.pointer.ensures.viewed in
    let viewed = viewed_then c.first_at_least.ensures.viewed led in
    let is = c.span-to.ensures.is in record {
      inside = omega (arith, c.requires.before, c.requires.posting.room);
      place = record { levels = is.levels; some = is.some; digits = is.digits };
      fresh = omega (arith, c.requires.posting.fresh, viewed.fresh);
      at = λ tells. at_viewed viewed (c.requires.at (subst IsTrue viewed.called.tells tells));
      jump = λ tells. (rw c.in-Some.is at c.in_ok-led.ensures).ends (subst IsTrue led.called.tells tells);
    }

-- the pointer leads nowhere
pub returns-in_err-check_target-clause-places : goal.returns-in_err-check_target-clause-places
returns-in_err-check_target-clause-places g t c =
    rw (handed c.from_residual-in_err-check_target.result (growth.Fault c.in_err-check_target.field-0.0) c.from_residual-in_err-check_target.ensures.1)
    (let viewed = viewed_then c.first_at_least.ensures.viewed c.pointer.ensures.viewed in
    read_fault c.args.insertion.list.head c.args.insertion.list.floor c.args.pool.now.next c.args.visit.block
    c.args.insertion.entry c.args.visit.within.low c.args.visit.within.high (of_overlay g.V.View.seen c.args.overlay.now)
    (of_overlay g.V.View.seen c.pointer.new.view) c.in_err-check_target.field-0.0 viewed
    (check_refused c.args.insertion.list.head c.args.insertion.list.floor c.args.pool.now.next c.args.insertion.entry.key c.args.visit.block c.in-Some.target
    c.span-to.result (of_overlay g.V.View.seen c.args.overlay.now)
    (of_overlay g.V.View.seen c.pointer.new.view) viewed
    c.in_err-check_target.field-0.0 c.in_err-check_target.ensures))

-- the target is the next block that the insertion comes to
pub insert_from-requires : goal.insert_from-requires
insert_from-requires g t c = λ κs lives.
    let viewed = viewed_then c.first_at_least.ensures.viewed c.pointer.ensures.viewed in
    let checked = c.in_ok-check_target.ensures in
    let span = c.span-to.ensures in
    let falls = level_falls c.in-Full.l c.args.insertion.entry.key c.args.visit.within.low c.args.visit.within.high
    c.args.visit.within.level c.span-to.result span.is span.low c.requires.high c.requires.narrow
    (omega (arith, c.if-from-within.false, c.from-2.ensures)) in (
      omega (arith, falls, c.decreases),
      (
        lives,
        record {
          posting = under_way_viewed viewed c.requires.posting;
          low = span.low;
          high = span.high;
          narrow = omega (arith, span.is.high);
          lies = inr checked.0;
          before = omega (arith, checked.1);
          at = λ tells. at_target (at_viewed viewed (c.requires.at (subst IsTrue viewed.called.tells tells)))
              (checked.2 tells);
        },
      ),
    )

-- behind the target
pub returns-clause-places : goal.returns-clause-places
returns-clause-places g t c =
    let viewed = viewed_then c.first_at_least.ensures.viewed c.pointer.ensures.viewed in
    let checked = c.in_ok-check_target.ensures in
    let read = (rw c.in-Full.is at c.in_ok-first.ensures).ends in
    let more = pool_next c.args.pool.now c.insert_from.new.pool c.insert_from.ensures.pool in
    into_target c.args.insertion.list.head c.args.insertion.list.floor c.insert_from.new.pool.next c.args.visit.block c.in-Full.l c.args.visit.within.low
    c.args.visit.within.high c.in-Some.target c.args.insertion.entry c.span-to.result
    (of_overlay g.V.View.seen c.args.overlay.now) (of_overlay g.V.View.seen c.pointer.new.view)
    (of_overlay g.V.View.seen c.insert_from.new.overlay) c.in-Some-placed.spot
    (omega (arith, c.if-from-within.false, c.from-2.ensures)) read.0 c.requires.high
    c.span-to.ensures.is c.span-to.ensures.low c.span-to.ensures.high checked.0 (omega (arith, checked.1, more)) viewed
    (λ tells. key_on c.pointer.ensures.viewed.image (read.1 tells))
    (λ tells. (rw c.in-Some.is at c.in_ok-led.ensures).ends
    (subst IsTrue (sym c.first_at_least.ensures.viewed.called.tells) tells))
    (rw c.in-Some-placed.is at c.in_ok-placed.ensures.places)

-- the target has no key of the span
pub returns-in_default-placed-clause-places : goal.returns-in_default-placed-clause-places
returns-in_default-placed-clause-places g t c =
    let looked = c.first_at_least.ensures.viewed in
    let viewed = viewed_then looked c.pointer.ensures.viewed in
    let checked = c.in_ok-check_target.ensures in
    let done = (rw c.in_default-placed.is at c.in_ok-placed.ensures.places).ends in
    let all = viewed_then viewed done.0 in
    read_fault c.args.insertion.list.head c.args.insertion.list.floor c.insert_from.new.pool.next c.args.visit.block
    c.args.insertion.entry c.args.visit.within.low c.args.visit.within.high (of_overlay g.V.View.seen c.args.overlay.now)
    (of_overlay g.V.View.seen c.insert_from.new.overlay) c.leads_nowhere.result all
    (named_fault c.args.insertion.list.head c.args.insertion.list.floor c.args.insertion.entry.key c.args.visit.block c.span-to.result.level c.span-to.result.digit
    c.in-Some.target (of_overlay g.V.View.seen c.args.overlay.now)
    (of_overlay g.V.View.seen c.insert_from.new.overlay)
    c.leads_nowhere.result c.leads_nowhere.ensures
    (λ e names tells.
    let full = (rw c.in-Full.is at c.in_ok-first.ensures).ends.1 tells in
    let told = subst IsTrue (sym looked.called.tells) tells in
    no_key_there (of_overlay g.V.View.seen c.insert_from.new.overlay)
    (is_view g.V.View.seen g.met.V.View.proper c.insert_from.new.overlay) c.args.insertion.list.head c.args.insertion.list.floor
    c.args.pool.now.next c.args.insertion.entry.key c.args.visit.block
    (at_viewed all (c.requires.at tells)) c.span-to.result c.in-Full.l c.in-Some.target c.span-to.ensures.is
    (holds_on done.0.image ((rw c.in-Some.is at c.in_ok-led.ensures).ends told))
    (check_on (of_overlay g.V.View.seen c.pointer.new.view)
    (of_overlay g.V.View.seen c.insert_from.new.overlay) c.args.insertion.list.head c.args.insertion.list.floor c.args.pool.now.next
    c.args.insertion.entry.key c.args.visit.block c.in-Some.target c.span-to.result done.0 checked)
    (subst IsTrue (sym all.called.tells) tells)
    (key_on done.0.image (key_on c.pointer.ensures.viewed.image full))
    (done.1 (subst IsTrue (sym viewed.called.tells) tells)) e names))

-- a refusal behind the target
pub returns-in_err-placed-clause-places : goal.returns-in_err-placed-clause-places
returns-in_err-placed-clause-places g t c =
    rw (handed c.from_residual-in_err-placed.result c.in_err-placed.field-0.0 c.from_residual-in_err-placed.ensures.1)
    (place_then c.args.insertion.list.head c.args.insertion.list.floor c.insert_from.new.pool.next c.args.visit.block
    c.args.insertion.entry c.args.visit.within.low c.args.visit.within.high (of_overlay g.V.View.seen c.args.overlay.now)
    (of_overlay g.V.View.seen c.pointer.new.view) (of_overlay g.V.View.seen c.insert_from.new.overlay)
    (viewed_then c.first_at_least.ensures.viewed c.pointer.ensures.viewed)
    (Err c.in_err-placed.field-0.0)
    (refused_behind c.args.insertion.list.head c.args.insertion.list.floor c.insert_from.new.pool.next c.args.visit.block c.in-Some.target
    c.span-to.result.low c.span-to.result.high c.args.insertion.entry c.args.visit.within.low c.args.visit.within.high
    (of_overlay g.V.View.seen c.pointer.new.view) (of_overlay g.V.View.seen c.insert_from.new.overlay)
    c.in_err-placed.field-0.0 c.in_err-placed.ensures.places))

pub returns-in-Open-clause-grows : goal.returns-in-Open-clause-grows
returns-in-Open-clause-grows g t c =
    let put = subst (λ n. PutsRecord (c.args.visit.block + n) (posting_record c.args.insertion.entry)
    (record { head = c.args.insertion.list.head; base = c.args.visit.block })
    (of_overlay g.V.View.seen c.first_at_least.new.view) (of_overlay g.V.View.seen c.put_posting.new.overlay) (Ok tt))
    c.from.ensures c.in_ok-put_posting-in-Open.ensures in
    grows_open c.args.insertion.list.floor c.args.pool.now.next c.args.visit.block c.in-Open.place c.in-Open.field-1
    c.args.insertion.entry (of_overlay g.V.View.seen c.args.overlay.now)
    (of_overlay g.V.View.seen c.first_at_least.new.view) (of_overlay g.V.View.seen c.put_posting.new.overlay)
    (record { head = c.args.insertion.list.head; base = c.args.visit.block }) c.first_at_least.ensures.viewed
    (rw c.in-Open.is at c.in_ok-first.ensures).ends put

pub returns-in_default-clause-grows : goal.returns-in_default-clause-grows
returns-in_default-clause-grows g t c =
    grow_then c.args.insertion.list.floor c.args.pool.now.next c.insert_behind.new.pool.next c.args.visit.block c.args.insertion.entry
    (of_overlay g.V.View.seen c.args.overlay.now) (of_overlay g.V.View.seen c.pointer.new.view)
    (of_overlay g.V.View.seen c.insert_behind.new.overlay)
    (viewed_then c.first_at_least.ensures.viewed c.pointer.ensures.viewed)
    c.insert_behind.ensures.places.called.foreign_writes
    c.insert_behind.result c.insert_behind.ensures.grows

pub returns-clause-grows : goal.returns-clause-grows
returns-clause-grows g t c =
    let viewed = viewed_then c.first_at_least.ensures.viewed c.pointer.ensures.viewed in
    let checked = c.in_ok-check_target.ensures in
    let read = (rw c.in-Full.is at c.in_ok-first.ensures).ends in
    grow_behind c.args.insertion.list.floor c.args.pool.now.next c.insert_from.new.pool.next c.args.visit.block c.in-Full.l
    c.in-Some.target c.args.insertion.entry c.span-to.result
    (of_overlay g.V.View.seen c.args.overlay.now) (of_overlay g.V.View.seen c.pointer.new.view)
    (of_overlay g.V.View.seen c.insert_from.new.overlay) c.in-Some-placed.spot c.span-to.ensures.is
    c.span-to.ensures.low c.span-to.ensures.high checked.0 checked.1
    viewed c.insert_from.ensures.places.called.foreign_writes
    (λ tells. key_on c.pointer.ensures.viewed.image (read.1 tells))
    (λ tells. (rw c.in-Some.is at c.in_ok-led.ensures).ends
    (subst IsTrue (sym c.first_at_least.ensures.viewed.called.tells) tells))
    (rw c.in-Some-placed.is at c.in_ok-placed.ensures.grows)

pub returns-in-Open-clause-planned : goal.returns-in-Open-clause-planned
returns-in-Open-clause-planned g t c =
    let viewed = c.first_at_least.ensures.viewed in
    let read = (rw c.in-Open.is at c.in_ok-first.ensures).ends in
    let put = subst (λ n. PutsRecord (c.args.visit.block + n) (posting_record c.args.insertion.entry)
    (record { head = c.args.insertion.list.head; base = c.args.visit.block })
    (of_overlay g.V.View.seen c.first_at_least.new.view) (of_overlay g.V.View.seen c.put_posting.new.overlay) (Ok tt))
    c.from.ensures c.in_ok-put_posting-in-Open.ensures in
    has_planned_then (of_overlay g.V.View.seen c.args.overlay.now)
    (of_overlay g.V.View.seen c.first_at_least.new.view)
    (of_overlay g.V.View.seen c.put_posting.new.overlay) viewed (writes_on put.base) c.args.insertion.list.head c.args.insertion.list.floor
    c.args.pool.now.next c.args.pool.now.next c.args.insertion.entry (Ok (Some (record { block = c.args.visit.block; place = c.in-Open.place })))
    (planned_alone c.args.insertion.list.head c.args.insertion.list.floor c.args.pool.now.next c.args.insertion.entry
    (of_overlay g.V.View.seen c.first_at_least.new.view) (of_overlay g.V.View.seen c.put_posting.new.overlay)
    (record { block = c.args.visit.block; place = c.in-Open.place }) read.0 c.requires.before c.requires.lies
    (λ told. (read.1 (subst IsTrue viewed.called.tells told)).0)
    (λ x past. ap (λ (f : Image). f x) viewed.planned ∙ c.requires.posting.free x past) put)

pub returns-in_default-clause-planned : goal.returns-in_default-clause-planned
returns-in_default-clause-planned g t c =
    has_planned_then (of_overlay g.V.View.seen c.args.overlay.now) (of_overlay g.V.View.seen c.pointer.new.view)
    (of_overlay g.V.View.seen c.insert_behind.new.overlay)
    (viewed_then c.first_at_least.ensures.viewed c.pointer.ensures.viewed)
    c.insert_behind.ensures.places.called.foreign_writes
    c.args.insertion.list.head c.args.insertion.list.floor c.args.pool.now.next c.insert_behind.new.pool.next
    c.args.insertion.entry c.insert_behind.result c.insert_behind.ensures.planned

pub returns-clause-planned : goal.returns-clause-planned
returns-clause-planned g t c =
    has_planned_then (of_overlay g.V.View.seen c.args.overlay.now) (of_overlay g.V.View.seen c.pointer.new.view)
    (of_overlay g.V.View.seen c.insert_from.new.overlay)
    (viewed_then c.first_at_least.ensures.viewed c.pointer.ensures.viewed)
    c.insert_from.ensures.places.called.foreign_writes
    c.args.insertion.list.head c.args.insertion.list.floor c.args.pool.now.next c.insert_from.new.pool.next c.args.insertion.entry
    (Ok (Some c.in-Some-placed.spot))
    (rw c.in-Some-placed.is at c.in_ok-placed.ensures.planned)

pub first_at_least-requires : goal.first_at_least-requires
first_at_least-requires g t c = omega (arith, c.requires.before, c.requires.posting.room)

pub returns-in_err-first-clause-pool : goal.returns-in_err-first-clause-pool
returns-in_err-first-clause-pool g t c = inl refl

pub returns-in_err-first-clause-none : goal.returns-in_err-first-clause-none
returns-in_err-first-clause-none g t c =
    rw (handed c.from_residual.result (growth.Fault c.in_err-first.field-0.0) c.from_residual.ensures.1) tt

pub returns-in_err-first-clause-grows : goal.returns-in_err-first-clause-grows
returns-in_err-first-clause-grows g t c =
    rw (handed c.from_residual.result (growth.Fault c.in_err-first.field-0.0) c.from_residual.ensures.1) tt

pub returns-in_err-first-clause-planned : goal.returns-in_err-first-clause-planned
returns-in_err-first-clause-planned g t c =
    rw (handed c.from_residual.result (growth.Fault c.in_err-first.field-0.0) c.from_residual.ensures.1) tt

pub returns-in_err-put_posting-in-Open-clause-pool : goal.returns-in_err-put_posting-in-Open-clause-pool
returns-in_err-put_posting-in-Open-clause-pool g t c = inl refl

pub returns-in_err-put_posting-in-Open-clause-none : goal.returns-in_err-put_posting-in-Open-clause-none
returns-in_err-put_posting-in-Open-clause-none g t c =
    rw (handed c.from_residual-in_err-put_posting-in-Open.result c.in_err-put_posting-in-Open.field-0.0 c.from_residual-in_err-put_posting-in-Open.ensures.1) tt

pub returns-in_err-put_posting-in-Open-clause-grows : goal.returns-in_err-put_posting-in-Open-clause-grows
returns-in_err-put_posting-in-Open-clause-grows g t c =
    rw (handed c.from_residual-in_err-put_posting-in-Open.result c.in_err-put_posting-in-Open.field-0.0 c.from_residual-in_err-put_posting-in-Open.ensures.1) tt

pub returns-in_err-put_posting-in-Open-clause-planned : goal.returns-in_err-put_posting-in-Open-clause-planned
returns-in_err-put_posting-in-Open-clause-planned g t c =
    rw (handed c.from_residual-in_err-put_posting-in-Open.result c.in_err-put_posting-in-Open.field-0.0 c.from_residual-in_err-put_posting-in-Open.ensures.1) tt

pub returns-in_err-led-clause-pool : goal.returns-in_err-led-clause-pool
returns-in_err-led-clause-pool g t c = inl refl

pub returns-in_err-led-clause-none : goal.returns-in_err-led-clause-none
returns-in_err-led-clause-none g t c =
    rw (handed c.from_residual-in_err-led.result (growth.Fault c.in_err-led.field-0.0) c.from_residual-in_err-led.ensures.1) tt

pub returns-in_err-led-clause-grows : goal.returns-in_err-led-clause-grows
returns-in_err-led-clause-grows g t c =
    rw (handed c.from_residual-in_err-led.result (growth.Fault c.in_err-led.field-0.0) c.from_residual-in_err-led.ensures.1) tt

pub returns-in_err-led-clause-planned : goal.returns-in_err-led-clause-planned
returns-in_err-led-clause-planned g t c =
    rw (handed c.from_residual-in_err-led.result (growth.Fault c.in_err-led.field-0.0) c.from_residual-in_err-led.ensures.1) tt

pub returns-in_err-check_target-clause-pool : goal.returns-in_err-check_target-clause-pool
returns-in_err-check_target-clause-pool g t c = inl refl

pub returns-in_err-check_target-clause-none : goal.returns-in_err-check_target-clause-none
returns-in_err-check_target-clause-none g t c =
    rw (handed c.from_residual-in_err-check_target.result (growth.Fault c.in_err-check_target.field-0.0) c.from_residual-in_err-check_target.ensures.1) tt

pub returns-in_err-check_target-clause-grows : goal.returns-in_err-check_target-clause-grows
returns-in_err-check_target-clause-grows g t c =
    rw (handed c.from_residual-in_err-check_target.result (growth.Fault c.in_err-check_target.field-0.0) c.from_residual-in_err-check_target.ensures.1) tt

pub returns-in_err-check_target-clause-planned : goal.returns-in_err-check_target-clause-planned
returns-in_err-check_target-clause-planned g t c =
    rw (handed c.from_residual-in_err-check_target.result (growth.Fault c.in_err-check_target.field-0.0) c.from_residual-in_err-check_target.ensures.1) tt

pub returns-in_err-placed-clause-pool : goal.returns-in_err-placed-clause-pool
returns-in_err-placed-clause-pool g t c = c.insert_from.ensures.pool

pub returns-in_err-placed-clause-none : goal.returns-in_err-placed-clause-none
returns-in_err-placed-clause-none g t c =
    rw (handed c.from_residual-in_err-placed.result c.in_err-placed.field-0.0 c.from_residual-in_err-placed.ensures.1) tt

pub returns-in_err-placed-clause-grows : goal.returns-in_err-placed-clause-grows
returns-in_err-placed-clause-grows g t c =
    rw (handed c.from_residual-in_err-placed.result c.in_err-placed.field-0.0 c.from_residual-in_err-placed.ensures.1) tt

pub returns-in_err-placed-clause-planned : goal.returns-in_err-placed-clause-planned
returns-in_err-placed-clause-planned g t c =
    rw (handed c.from_residual-in_err-placed.result c.in_err-placed.field-0.0 c.from_residual-in_err-placed.ensures.1) tt

pub returns-in-At-clause-pool : goal.returns-in-At-clause-pool
returns-in-At-clause-pool g t c = inl refl

pub put_posting-requires-clause-well_formed : goal.put_posting-requires-clause-well_formed
put_posting-requires-clause-well_formed g t c = c.requires.posting.well_formed

pub returns-in-Open-clause-pool : goal.returns-in-Open-clause-pool
returns-in-Open-clause-pool g t c = inl refl

pub returns-then-from-within-clause-pool : goal.returns-then-from-within-clause-pool
returns-then-from-within-clause-pool g t c = inl refl

pub returns-then-from-within-clause-none : goal.returns-then-from-within-clause-none
returns-then-from-within-clause-none g t c = omega (arith, c.if-from-within.true, c.from-2.ensures)

pub span-to-requires : goal.span-to-requires
span-to-requires g t c = (rw c.in-Full.is at c.in_ok-first.ensures).ends.0

pub pointer-requires-clause-level : goal.pointer-requires-clause-level
pointer-requires-clause-level g t c = c.span-to.ensures.is.levels

pub pointer-requires-clause-some : goal.pointer-requires-clause-some
pointer-requires-clause-some g t c = c.span-to.ensures.is.some

pub pointer-requires-clause-digit : goal.pointer-requires-clause-digit
pointer-requires-clause-digit g t c = c.span-to.ensures.is.digits

pub pointer-requires-clause-inside : goal.pointer-requires-clause-inside
pointer-requires-clause-inside g t c = omega (arith, c.requires.before, c.requires.posting.room)

pub returns-in_default-clause-pool : goal.returns-in_default-clause-pool
returns-in_default-clause-pool g t c = c.insert_behind.ensures.pool

pub returns-in_default-clause-none : goal.returns-in_default-clause-none
returns-in_default-clause-none g t c = c.insert_behind.ensures.none

pub leads_nowhere-requires-clause-level : goal.leads_nowhere-requires-clause-level
leads_nowhere-requires-clause-level g t c = c.span-to.ensures.is.levels

pub leads_nowhere-requires-clause-some : goal.leads_nowhere-requires-clause-some
leads_nowhere-requires-clause-some g t c = c.span-to.ensures.is.some

pub leads_nowhere-requires-clause-digit : goal.leads_nowhere-requires-clause-digit
leads_nowhere-requires-clause-digit g t c = c.span-to.ensures.is.digits

pub leads_nowhere-requires-clause-inside : goal.leads_nowhere-requires-clause-inside
leads_nowhere-requires-clause-inside g t c = omega (arith, c.requires.before, c.requires.posting.room)

pub returns-in_default-placed-clause-pool : goal.returns-in_default-placed-clause-pool
returns-in_default-placed-clause-pool g t c = c.insert_from.ensures.pool

pub returns-clause-pool : goal.returns-clause-pool
returns-clause-pool g t c = c.insert_from.ensures.pool
