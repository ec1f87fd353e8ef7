-- A slot that does not stand; one with a hash trail; one without; and all of them.
use Rattle.std.proofs.Common.{◌<◌, ℕ, List, sym, ◌∙◌, subst, arith}
use Rattle.cell_types.specs.Layout.{done_at}
use Rattle.tamper_rules.specs.Rules.{Paths}
use Rattle.document_store.specs.Heads.{id_of}
use Rattle.volume_meaning.proofs.OneDocument.{one_document}
use Rattle.log_audit.specs.KeptVolumes.{image_in}
use Rattle.log_audit.proofs.Deciding.{decided_no, decided_yes}
use Rattle.log_audit.proofs.Families.{met_all, first_rising}
use Rattle.tree_audit.specs.Paths.{HasRootTrail}
use Rattle.tree_audit.proofs.Trailing.{IsFound, one_trail, are_found, stands_slot}
use Rattle.tree_audit.proofs.trails.first_broken_path.Goals as goal

pub loop-slot-preserved-in_default : goal.loop-slot-preserved-in_default
loop-slot-preserved-in_default c =
    one_trail c.loop-slot.invariant (λ id body stands. absurd (c.in_default.ensures.none id body stands))

pub loop-slot-preserved-then-has_hash_trail : goal.loop-slot-preserved-then-has_hash_trail
loop-slot-preserved-then-has_hash_trail c =
    let g = c.args.volume.now.geometry in let image = image_in c.args.volume.now in
    let slot = c.loop-slot.slot in let has = c.in-Some.ensures.some in
    one_trail c.loop-slot.invariant (λ id body stands. subst (λ (i : List ℕ). HasRootTrail g image i slot)
    (one_document g.cells image slot (id_of c.in-Some.head) has.body id body has.stands stands).0
    (decided_yes _ c.has_hash_trail.ensures c.if-has_hash_trail.true))

pub returns-in-loop-slot : goal.returns-in-loop-slot
returns-in-loop-slot c =
    let g = c.args.volume.now.geometry in let image = image_in c.args.volume.now in
    let slot = c.loop-slot.slot in let has = c.in-Some.ensures.some in
    let inside : slot < g.slots = omega (arith, c.loop-slot-test.true, c.slots-slot-end.ensures.slots) in
    first_rising g {image = image} Paths {at = done_at} {Fine = IsFound g image} {n = slot} {slots = g.slots} _
    (λ cell h. λ n id body at stands. h n (stands_slot c.requires.stated stands) at id body stands)
    (λ met. λ id body stands. met slot id body c.done_at-cell.ensures.at stands)
    (λ a b h. omega (arith, h)) (are_found c.loop-slot.invariant)
    (λ found. decided_no _ c.has_hash_trail.ensures c.if-has_hash_trail.false (found (id_of c.in-Some.head) has.body has.stands).path)
    (omega arith) (slot, inside, c.done_at-cell.ensures.at) (sym c.at.ensures ∙ (c.in-Some-at).is) c.done_at-cell.ensures.at

pub returns : goal.returns
returns c = let volume = c.args.volume.now in
    let g = volume.geometry in let image = image_in volume in
    met_all g {image = image} Paths {at = done_at} {Fine = IsFound g image} {n = c.loop-slot.slot}
    (λ cell h. λ n id body at stands. h n
    (let low = stands_slot c.requires.stated stands in omega (
      arith,
      low,
      c.loop-slot-test.false,
      c.slots-slot-end.ensures.slots,
    )) at id body stands)
    (are_found c.loop-slot.invariant)
