-- The document was taken, and the index asked.
use Rattle.std.proofs.Common.{◌≡◌, ap, refl, sym, ◌∙◌, rules, arith}
use Rattle.std.specs.Prelude.{IsTrue, length}
use Rattle.host_ports.specs.Memories.{GatheredBytes}
use Rattle.document_store.specs.Heads.{id_of}
use Rattle.document_store.specs.Standing.{HoldsDocument}
use Rattle.document_store.proofs.Checking.{has_part_on}
use Rattle.kept_documents.proofs.Holding.{index_fails, indexed_no, indexed_yes, look_fails, other_one}
use Rattle.kept_documents.proofs.Opening.{read_back}
use Rattle.cell_types.specs.declared.refusal.Fault.TheVariants as faults
use Rattle.kept_documents.proofs.kept.kept_part.Goals as goal
use Rattle.kept_documents.proofs.kept.kept_part.Goals.{After-is_indexed}

-- its document is broken
pub returns-in-Err-Tampered : goal.returns-in-Err-Tampered
returns-in-Err-Tampered g c =
    let h = rw c.in-Err-Tampered.field-0-is at c.in-Err-Tampered.ensures in
    look_fails c.args.volume c.args.part.slot c.args.id.now _ _ h.viewed
    (faults.Tampered c.in-Err-Tampered.evidence) c.refused.result h.ends.0 c.refused.ensures

-- it has another identifier
pub returns-then-ne : goal.returns-then-ne
returns-then-ne g c =
    let h = c.in-Ok.ensures in
    let other : id_of c.in-Ok.head ≡ c.args.id.now → ⊥ = search (rules, c.ne.ensures, c.if-ne.true) in
    other_one c.args.volume c.args.part.slot c.args.id.now _ _ h.viewed (id_of c.in-Ok.head)
    h.ends.2.got.has.body h.ends.2.holds other

-- a call of the sink failed: then memory lacked
pub unreachable-requires : goal.unreachable-requires
unreachable-requires g c =
    let h = rw c.in-Err-SinkFault.field-0-is at c.in-Err-SinkFault.ensures in
    omega (arith, h.ends.1, ap (λ (m : GatheredBytes). m.faults) c.in_ok-body.ensures, c.in_default.ensures)

-- its body is what was read
read : (g : _) (c : After-is_indexed g) → c.bytes.result.now ≡ c.in-Ok.ensures.ends.2.got.has.body
read g c =
    read_back c.in_ok-body.body.held _ _ c.take_part.new.sink.held c.in-Ok.ensures.ends.2.got.gets
    (ap (λ (m : GatheredBytes). m.held) c.in_ok-body.ensures) c.bytes.ensures

-- and it has the identifier that is asked for
held : (g : _) (c : After-is_indexed g) → IsTrue (g.V.View.seen c.take_part.new.view).base.tells
    → HoldsDocument c.args.volume.geometry (g.V.View.seen c.take_part.new.view).image c.args.part.slot c.args.id.now
    c.bytes.result.now
held g c tells =
    let own : id_of c.in-Ok.head ≡ c.args.id.now = search (rules, c.ne.ensures, c.if-ne.false, c.from.ensures) in
    rw (← own, read g c) (c.in-Ok.ensures.ends.2.holds tells)

-- the index could not be asked
pub returns-in-Err : goal.returns-in-Err
returns-in-Err g c =
    index_fails c.args.volume c.args.part.slot c.args.id.now _ _ c.in-Ok.ensures.viewed c.bytes.result.now
    (held g (goal.at.returns-in-Err g c).After-is_indexed) _ c.in-Err.why c.in-Err.ensures

-- the index does not lead to it
pub returns-then-not-led : goal.returns-then-not-led
returns-then-not-led g c =
    indexed_no c.args.volume c.args.part.slot c.args.id.now _ _ c.in-Ok.ensures.viewed c.bytes.result.now
    (held g (goal.at.returns-then-not-led g c).After-is_indexed) _ (rw c.if-not-led.true at c.in-Ok-is_indexed.ensures)

-- it does
pub returns : goal.returns
returns g c =
    let at = (goal.at.returns g c).After-is_indexed in
    let h = c.in-Ok.ensures in
    indexed_yes c.args.volume c.args.part.slot c.args.id.now _ _ h.viewed c.bytes.result.now (held g at)
    _ _ refl refl
    (has_part_on c.args.volume.geometry (g.V.View.seen c.args.view.now) (g.V.View.seen c.take_part.new.view) c.args.part
    h.viewed c.requires.part)
    (sym c.bytes.ensures) (sym h.ends.2.got.has.is_length ∙ ap length (sym (read g at)))
    (rw c.if-not-led.false at c.in-Ok-is_indexed.ensures)
