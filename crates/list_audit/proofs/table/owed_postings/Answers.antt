-- A slot that is not stored, one without postings, one with its postings, and all of them.
use Rattle.std.proofs.Common.{◌≡◌, ◌∙◌, ℕ, true, false, inr, sym, subst, arith}
use Rattle.log_audit.specs.KeptVolumes.{image_in}
use Rattle.document_store.specs.Standing.{HoldsDocument}
use Rattle.list_audit.specs.Bodies.{AreRowsOf, HasNoRows}
use Rattle.list_audit.specs.Owing.{AllExist, AreOwed}
use Rattle.list_audit.proofs.Holding.{held_by}
use Rattle.list_audit.proofs.Owing.{none_yet, nothing_more, one_exists, owed_in_order, slot_more, not_stored_owes, no_rows_owes}
use Rattle.list_audit.proofs.Trailing.{some_of, none_of}
use Rattle.list_audit.proofs.table.owed_postings.Goals as goal

pub loop-slot-preserved-in_default : goal.loop-slot-preserved-in_default
loop-slot-preserved-in_default _ c =
    let g = c.args.volume.now.geometry in let image = image_in c.args.volume.now in let n = c.loop-slot.slot in (
      nothing_more g image n c.loop-slot.table.rows.items c.loop-slot.invariant.0 (not_stored_owes g image n c.in_default.ensures.none),
      λ all. one_exists g image n (c.loop-slot.invariant.1 all)
          (λ id body h. absurd (c.in_default.ensures.none _ _ _ _ (record { commits = h.done.commits; done = inr h.done.done }))),
      c.loop-slot.invariant.2,
    )

pub loop-slot-preserved-in_default-found : goal.loop-slot-preserved-in_default-found
loop-slot-preserved-in_default-found _ c =
    let g = c.args.volume.now.geometry in let image = image_in c.args.volume.now in let n = c.loop-slot.slot in (
      nothing_more g image n c.loop-slot.table.rows.items c.loop-slot.invariant.0 (no_rows_owes g image n
          (subst (HasNoRows g image) c.in-Some.ensures.same
          (none_of (HasNoRows g image c.in-Some.stored.slot) c.in_ok-found.found c.in_ok-found.ensures.none (c.in_default-found).is))),
      λ all. absurd (clash all),
      c.in_ok-found.ensures.same ∙ c.loop-slot.invariant.2,
    )
  where
    clash : false ≡ true → ⊥
    clash e = cc

pub loop-slot-preserved : goal.loop-slot-preserved
loop-slot-preserved _ c =
    let g = c.args.volume.now.geometry in let image = image_in c.args.volume.now in let n = c.loop-slot.slot in
    let d = held_by c.in-Some.ensures.some c.requires.documents in
    let rows = some_of (λ rows. AreRowsOf g image c.in-Some.stored.slot rows.items) c.in_ok-found.found c.in-Some-found.rows
    c.in_ok-found.ensures.some c.in-Some-found.is in
    let here = subst (λ (k : ℕ). AreRowsOf g image k c.deref.result.now) c.in-Some.ensures.same
    (subst (AreRowsOf g image c.in-Some.stored.slot) (sym c.deref.ensures.value) rows) in (
      slot_more g image n c.deref.result.now c.loop-slot.table.rows.items c.add_all.new.self.rows.items d.0 d.1
          (subst (λ (k : ℕ). HoldsDocument g image k d.0 d.1) c.in-Some.ensures.same d.2) here
          c.loop-slot.invariant.0 c.in_ok-add_all.ensures,
      λ all. one_exists g image n (c.loop-slot.invariant.1 all) (λ id body h. (here id body h).2.exist),
      c.in_ok-found.ensures.same ∙ c.loop-slot.invariant.2,
    )

pub loop-slot-init : goal.loop-slot-init
loop-slot-init _ c = (
  none_yet c.args.volume.now.geometry (image_in c.args.volume.now) _ c.in_ok-table.ensures,
  λ all m id body less. absurd (omega (arith, less)),
  c.in_ok-known.ensures ∙ c.lists.ensures.lists,
)

pub returns : goal.returns
returns _ c =
    let g = c.args.volume.now.geometry in let image = image_in c.args.volume.now in
    let all : c.loop-slot.slot ≡ g.slots =
    omega (arith, c.loop-slot-test.false, c.loop-slot.auto.slot-end, c.slots-slot-end.ensures.slots) in
    record {
      owed = owed_in_order g image g.slots c.loop-slot.table.rows.items _
          (subst (λ (k : ℕ). AreOwed g image k c.loop-slot.table.rows.items) all c.loop-slot.invariant.0) c.sort.ensures.same;
      order = c.sort.ensures.order;
      exist = λ said. subst (AllExist g image) all (c.loop-slot.invariant.1 said);
    }
