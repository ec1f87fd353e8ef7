-- Each ending, by the lemma of its kind.
use Rattle.std.proofs.Common.{inl, inr, arith}
use Rattle.jump_block.proofs.OneBlock.{level_falls}
use Rattle.kept_documents.proofs.Leading.{at_blank, at_entry, at_fault, at_low, leads_out, lost_pointer, no_pointer, onward}
use Rattle.kept_documents.proofs.trails.+leads_to.Goals as goal

-- the front ends with an entry out of order
pub returns-in-Err : goal.returns-in-Err
returns-in-Err g t c =
    let h = c.in-Err.ensures in
    at_fault c.args.pool c.args.block c.args.low c.args.bound c.args.wanted _ _ h.viewed
    c.in-Err.fault c.refuted.result h.ends c.refuted.ensures

-- with an entry at or past the key
pub returns-in-At : goal.returns-in-At
returns-in-At g t c =
    let h = rw c.in-At.is at c.in-Ok.ensures in
    at_entry c.args.pool c.args.block c.args.low c.args.bound c.args.wanted _ _ h.viewed
    c.in-At.next c.is_posting.result h.ends c.is_posting.ensures c.requires.from c.requires.below

-- with a blank place
pub returns-in-Open : goal.returns-in-Open
returns-in-Open g t c =
    let h = rw c.in-Open.is at c.in-Ok.ensures in
    at_blank c.args.pool c.args.block c.args.low c.args.bound c.args.wanted _ _ h.viewed
    c.in-Open.field-0 c.in-Open.field-1 h.ends

-- the block is full, with no key of the span
pub returns-then-from-low : goal.returns-then-from-low
returns-then-from-low g t c =
    let h = rw c.in-Full.is at c.in-Ok.ensures in
    at_low c.args.pool c.args.block c.args.low c.args.bound c.args.wanted _ _ h.viewed
    c.in-Full.l h.ends (omega arith)

-- the pointer is no jump cell
pub returns-in-Err-pointer : goal.returns-in-Err-pointer
returns-in-Err-pointer g t c =
    let h = rw c.in-Full.is at c.in-Ok.ensures in
    let s = c.span-first.ensures in
    lost_pointer c.args.pool c.args.block c.args.low c.args.bound c.args.wanted _ _ h.viewed _
    c.in-Full.l c.span-first.result s.is s.low s.high h.ends.1 c.in-Err-pointer.fault
    c.refuted-in-Err-pointer.result c.in-Err-pointer.ensures c.refuted-in-Err-pointer.ensures

-- it is blank
pub returns-in_default : goal.returns-in_default
returns-in_default g t c =
    let h = rw c.in-Full.is at c.in-Ok.ensures in
    let s = c.span-first.ensures in
    no_pointer c.args.pool c.args.block c.args.low c.args.bound c.args.wanted _ _ h.viewed _
    c.in-Full.l c.span-first.result s.is s.low s.high h.ends.1 (rw c.in_default.is at c.in-Ok-pointer.ensures)

-- it leads below the pool
pub returns-then-target-pool : goal.returns-then-target-pool
returns-then-target-pool g t c =
    let h = rw c.in-Full.is at c.in-Ok.ensures in
    let s = c.span-first.ensures in
    leads_out c.args.pool c.args.block c.args.low c.args.bound c.args.wanted _ _ h.viewed _
    c.in-Full.l c.span-first.result s.is s.low s.high h.ends.1 c.in-Some.target
    (rw c.in-Some.is at c.in-Ok-pointer.ensures) (inl (omega arith))

-- or past the device's end
pub returns-then-from : goal.returns-then-from
returns-then-from g t c =
    let h = rw c.in-Full.is at c.in-Ok.ensures in
    let s = c.span-first.ensures in
    leads_out c.args.pool c.args.block c.args.low c.args.bound c.args.wanted _ _ h.viewed _
    c.in-Full.l c.span-first.result s.is s.low s.high h.ends.1 c.in-Some.target
    (rw c.in-Some.is at c.in-Ok-pointer.ensures) (inr (omega (arith, c.cells.ensures.cells)))

pub leads_to-requires : goal.leads_to-requires
leads_to-requires g t c = λ κs lives.
    let h = rw c.in-Full.is at c.in-Ok.ensures in
    let s = c.span-first.ensures in
    let falls = level_falls c.in-Full.l c.args.wanted.key c.args.low c.args.bound c.args.level c.span-first.result s.is
    s.low c.requires.below c.requires.narrow (omega arith) in (
      omega (arith, falls, c.decreases),
      (
        lives,
        (
          omega (arith, c.cells.ensures.cells),
          (omega (arith, s.is.high), (s.low, (s.high, omega (arith, falls, c.requires.level)))),
        ),
      ),
    )

-- it leads on
pub returns : goal.returns
returns g t c =
    let h = rw c.in-Full.is at c.in-Ok.ensures in
    let s = c.span-first.ensures in
    onward c.args.pool c.args.block c.args.low c.args.bound c.args.wanted _ _ h.viewed _
    c.in-Full.l c.span-first.result s.is s.low s.high h.ends.1 c.in-Some.target
    (rw c.in-Some.is at c.in-Ok-pointer.ensures) _ c.leads_to.result (omega arith)
    (omega (arith, c.cells.ensures.cells)) (omega arith) (omega (arith, h.ends.0, c.requires.below)) c.leads_to.ensures
