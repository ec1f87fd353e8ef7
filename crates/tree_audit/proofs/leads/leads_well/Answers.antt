-- No jump cell, or one that leads outside, to nobody's cells, off the span, or into others; or none of these.
use Rattle.std.proofs.Common.{arith}
use Rattle.tamper_rules.specs.Rules.{Entries}
use Rattle.log_audit.specs.KeptVolumes.{image_in}
use Rattle.log_audit.proofs.Deciding.{decided_no, decided_yes, no}
use Rattle.tree_audit.proofs.PointerLeading.{alone_so, inside_so, off_nodes_so, owned_so, span_so, target_is, well}
use Rattle.tree_audit.proofs.leads.leads_well.Goals as goal

pub returns-in_default : goal.returns-in_default
returns-in_default c = no (λ w. c.in_default.ensures.none w.target w.jump)

pub returns-then-not-is_inside : goal.returns-then-not-is_inside
returns-then-not-is_inside c = let volume = c.args.volume.now in
    no (λ w. decided_no _ c.is_inside.ensures c.if-not-is_inside.true
    (inside_so volume.geometry (image_in volume) volume.log volume.is_log c.args.listed.now.list
    c.args.listed.now.block c.args.level c.args.digit c.in-Some.target c.in-Some.ensures.some w))

pub is_owned-requires-clause-room : goal.is_owned-requires-clause-room
is_owned-requires-clause-room c =
    let inside = decided_yes _ c.is_inside.ensures c.if-not-is_inside.false in
    omega (arith, inside.to, c.cells-cells.ensures.exists.cells)

pub returns-then-not-is_owned : goal.returns-then-not-is_owned
returns-then-not-is_owned c = let volume = c.args.volume.now in
    no (λ w. decided_no _ c.is_owned.ensures c.if-not-is_owned.true
    (owned_so volume.geometry (image_in volume) volume.log volume.is_log c.args.listed.now.list
    c.args.listed.now.block c.args.level c.args.digit c.in-Some.target c.in-Some.ensures.some w))

pub is_in_span-requires-clause-entries : goal.is_in_span-requires-clause-entries
is_in_span-requires-clause-entries c = c.requires.met Entries (omega arith)

pub is_in_span-requires-clause-target : goal.is_in_span-requires-clause-target
is_in_span-requires-clause-target c = let volume = c.args.volume.now in
    target_is volume.geometry (image_in volume) volume.log volume.is_log c.args.listed.now.list
    c.args.listed.now.block c.args.level c.args.digit c.in-Some.target c.in-Some.ensures.some c.requires.block
    c.requires.level c.requires.some c.requires.digit (decided_yes _ c.is_inside.ensures c.if-not-is_inside.false)

pub is_in_span-requires-clause-space : goal.is_in_span-requires-clause-space
is_in_span-requires-clause-space c =
    let inside = decided_yes _ c.is_inside.ensures c.if-not-is_inside.false in
    omega (arith, inside.to, c.cells-cells.ensures.exists.cells)

pub returns-then-not-is_in_span : goal.returns-then-not-is_in_span
returns-then-not-is_in_span c = let volume = c.args.volume.now in
    no (λ w. decided_no _ c.is_in_span.ensures c.if-not-is_in_span.true
    (span_so volume.geometry (image_in volume) volume.log volume.is_log c.args.listed.now.list
    c.args.listed.now.block c.args.level c.args.digit c.in-Some.target c.in-Some.ensures.some w))

pub returns-then-not-is_alone : goal.returns-then-not-is_alone
returns-then-not-is_alone c = let volume = c.args.volume.now in
    no (λ w. decided_no _ c.is_alone.ensures c.if-not-is_alone.true
    (alone_so volume.geometry (image_in volume) volume.log volume.is_log c.args.listed.now.list
    c.args.listed.now.block c.args.level c.args.digit c.in-Some.target c.in-Some.ensures.some w))

pub returns : goal.returns
returns c = let volume = c.args.volume.now in (
  λ off. well volume.geometry (image_in volume) volume.log volume.is_log c.args.listed.now.list
      c.args.listed.now.block c.args.level c.args.digit c.in-Some.target c.in-Some.ensures.some
      (decided_yes _ c.is_inside.ensures c.if-not-is_inside.false)
      (decided_yes _ c.is_owned.ensures c.if-not-is_owned.false)
      (decided_yes _ c.is_in_span.ensures c.if-not-is_in_span.false)
      (decided_yes _ c.is_alone.ensures c.if-not-is_alone.false)
      (c.is_off_nodes.ensures.0 off),
  λ w. c.is_off_nodes.ensures.1
      (off_nodes_so volume.geometry (image_in volume) volume.log volume.is_log c.args.listed.now.list
      c.args.listed.now.block c.args.level c.args.digit c.in-Some.target c.in-Some.ensures.some w),
)
