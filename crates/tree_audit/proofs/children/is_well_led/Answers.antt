-- The target lies past the edge; is not journaled; is led to by a lower cell; and all is well but what is near.
use Rattle.std.proofs.Common.{◌+◌, refl, sym, arith}
use Rattle.tree_audit.specs.ChildCells.{lead_number}
use Rattle.log_audit.proofs.Deciding.{no, decided_no, decided_yes}
use Rattle.tree_audit.proofs.Leading.{edge_is, edge_is_one, moved, no_lead_before, lead_before}
use Rattle.tree_audit.proofs.children.is_well_led.Goals as goal

pub returns-then-volume-target : goal.returns-then-volume-target
returns-then-volume-target c = let volume = c.args.volume.now in
    no (λ w.
    let far = w.edge volume.log.edge (edge_is volume.log volume.is_log) in omega (arith, far, c.if-volume-target.true))

pub returns-then-not-is_journaled : goal.returns-then-not-is_journaled
returns-then-not-is_journaled c = no (λ w. decided_no _ c.is_journaled.ensures c.if-not-is_journaled.true w.journaled)

pub returns-then-has_between : goal.returns-then-has_between
returns-then-has_between c =
    let number = lead_number c.args.target 0 in
    let h = decided_yes _ c.has_between.ensures c.if-has_between.true in
    no (λ w. lead_before c.requires.nodes {number = number} {high = number + c.args.cell} c.cells-cells.ensures.exists c.requires.inside refl refl
    (moved c.deref.ensures.value (omega (arith, c.from-number.ensures)) (omega (arith, c.from-number.ensures, c.from.ensures)) h) w.first)

pub returns : goal.returns
returns c =
    let number = lead_number c.args.target 0 in (
      λ yes. record {
        edge = λ at e. let one = edge_is_one c.args.volume.now.is_log e in omega (arith, one, c.if-volume-target.false);
        journaled = decided_yes _ c.is_journaled.ensures c.if-not-is_journaled.false;
        first = no_lead_before c.requires.nodes {number = number} {high = number + c.args.cell} c.requires.leads refl refl
            (λ h. decided_no _ c.has_between.ensures c.if-has_between.false (moved (sym c.deref.ensures.value)
            (omega (arith, c.from-number.ensures)) (omega (arith, c.from-number.ensures, c.from.ensures)) h));
        clear = c.is_clear.ensures.0 yes;
      },
      λ w. c.is_clear.ensures.1 w.clear,
    )
