-- Each ending, by the lemma of its kind.
use Rattle.std.proofs.Common.{inl, inr, arith}
use Rattle.jump_block.proofs.OneBlock.{level_falls}
use Rattle.receipt_cells.proofs.TrailEnds.{at_blank, at_entry, at_fault, at_low, leads_on, leads_out, lost_pointer, no_pointer, target_fails}
use Rattle.receipt_cells.proofs.trails.+list_block.Goals as goal

-- the front ends with an entry out of order
pub returns-in-Err : goal.returns-in-Err
returns-in-Err g t c =
    let h = c.in-Err.ensures in
    at_fault c.args.pool c.args.reached.block c.args.reached.low c.args.reached.bound c.args.wanted _ _ _
    h.viewed c.in-Err.fault c.given_up.result h.ends c.given_up.ensures

-- with an entry at or past the key
pub returns-in-At : goal.returns-in-At
returns-in-At g t c =
    let h = rw c.in-At.is at c.in-Ok.ensures in
    at_entry c.args.pool c.args.reached.block c.args.reached.low c.args.reached.bound c.args.wanted _ _ _
    h.viewed c.in-At.next _ _ c.list_to.result h.ends c.list_to.ensures

-- with a blank place
pub returns-in-Open : goal.returns-in-Open
returns-in-Open g t c =
    let h = rw c.in-Open.is at c.in-Ok.ensures in
    at_blank c.args.pool c.args.reached.block c.args.reached.low c.args.reached.bound c.args.wanted _ _ _
    h.viewed c.in-Open.field-0 c.in-Open.field-1 h.ends

-- the block is full, with no key of the span
pub returns-then-from-low : goal.returns-then-from-low
returns-then-from-low g t c =
    let h = rw c.in-Full.is at c.in-Ok.ensures in
    at_low c.args.pool c.args.reached.block c.args.reached.low c.args.reached.bound c.args.wanted _ _ _
    h.viewed c.in-Full.l h.ends (omega arith)

-- the pointer is no jump cell
pub returns-in-Err-pointer : goal.returns-in-Err-pointer
returns-in-Err-pointer g t c =
    let h = rw c.in-Full.is at c.in-Ok.ensures in
    let s = c.span-first.ensures in
    lost_pointer c.args.pool c.args.reached.block c.args.reached.low c.args.reached.bound c.args.wanted _ _ _
    c.in-Full.l c.span-first.result 0 s.is s.low s.high h.viewed h.ends.1 _ c.in-Err-pointer.fault
    c.given_up-in-Err-pointer.result c.in-Err-pointer.ensures c.given_up-in-Err-pointer.ensures

-- it is blank
pub returns-in_default : goal.returns-in_default
returns-in_default g t c =
    let h = rw c.in-Full.is at c.in-Ok.ensures in
    let s = c.span-first.ensures in
    no_pointer c.args.pool c.args.reached.block c.args.reached.low c.args.reached.bound c.args.wanted _ _ _
    c.in-Full.l c.span-first.result 0 s.is s.low s.high h.viewed h.ends.1 _
    (rw c.in_default.is at c.in-Ok-pointer.ensures)

-- it leads below the pool
pub returns-then-target-pool : goal.returns-then-target-pool
returns-then-target-pool g t c =
    let h = rw c.in-Full.is at c.in-Ok.ensures in
    let s = c.span-first.ensures in
    leads_out c.args.pool c.args.reached.block c.args.reached.low c.args.reached.bound c.args.wanted _ _ _
    c.in-Full.l c.span-first.result c.in-Some.target s.is s.low s.high h.viewed h.ends.1 _
    (rw c.in-Some.is at c.in-Ok-pointer.ensures) (inl (omega arith))

-- or past the device's end
pub returns-then-from : goal.returns-then-from
returns-then-from g t c =
    let h = rw c.in-Full.is at c.in-Ok.ensures in
    let s = c.span-first.ensures in
    leads_out c.args.pool c.args.reached.block c.args.reached.low c.args.reached.bound c.args.wanted _ _ _
    c.in-Full.l c.span-first.result c.in-Some.target s.is s.low s.high h.viewed h.ends.1 _
    (rw c.in-Some.is at c.in-Ok-pointer.ensures) (inr (omega (arith, c.cells.ensures.cells)))

pub list_block-requires : goal.list_block-requires
list_block-requires g t c = λ κs lives.
    let h = rw c.in-Full.is at c.in-Ok.ensures in
    let s = c.span-first.ensures in
    let falls = level_falls c.in-Full.l c.args.wanted.key c.args.reached.low c.args.reached.bound c.args.reached.level
    c.span-first.result s.is s.low c.requires.below c.requires.narrow (omega arith) in (
      omega (arith, falls, c.decreases),
      (
        lives,
        (
          omega (arith, c.cells.ensures.cells),
          (omega (arith, s.is.high), (s.low, (s.high, omega (arith, falls, c.requires.level)))),
        ),
      ),
    )

-- the cells behind it could not be listed
pub returns-in-Err-list_block : goal.returns-in-Err-list_block
returns-in-Err-list_block g t c =
    let h = rw c.in-Full.is at c.in-Ok.ensures in
    let s = c.span-first.ensures in
    target_fails c.args.pool c.args.reached.block c.args.reached.low c.args.reached.bound c.args.wanted _ _ _
    c.in-Full.l c.span-first.result c.in-Some.target s.is s.low s.high h.viewed h.ends.1 _
    (rw c.in-Some.is at c.in-Ok-pointer.ensures) _ _ c.in-Err-list_block.why
    (rw c.in-Err-list_block.is at c.list_block.ensures)

-- it leads on
pub returns : goal.returns
returns g t c =
    let h = rw c.in-Full.is at c.in-Ok.ensures in
    let s = c.span-first.ensures in
    leads_on c.args.pool c.args.reached.block c.args.reached.low c.args.reached.bound c.args.wanted _ _ _
    c.in-Full.l c.span-first.result c.in-Some.target s.is s.low s.high h.viewed h.ends.1 _
    (rw c.in-Some.is at c.in-Ok-pointer.ensures) _ _ (rw c.in_default-list_block.is at c.list_block.ensures) _ _
    c.list_hop.result c.list_hop.ensures
