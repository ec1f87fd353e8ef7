-- The licence of what a search names: it stands there, in a place of its rule, and the rule is broken there.
use Rattle.std.proofs.Common.{◌≡◌, ◌<◌, ◌≤◌, ◌+◌, ◌*◌, ◌⊎◌, ⊎_elim, inl, inr, ℕ, List, Some, ap, sym, subst, arith, ◌∙◌}
use Rattle.std.proofs.lemmas.Bool.{cases_lt}
use Rattle.cell_types.specs.Image.{Image}
use Rattle.cell_types.specs.Layout.{Layout, FirstBlock, LiesIn, list_at, pool_at, all_lists}
use Rattle.cell_types.specs.Records.{IsRecordCell}
use Rattle.cell_types.specs.declared.record_cell.RecordCell.TheVariants.{Jump}
use Rattle.cell_types.specs.declared.refusal.Evidence.{Evidence}
use Rattle.volume_meaning.specs.Slots.{IsEdge}
use Rattle.volume_meaning.specs.Volumes.{Holds}
use Rattle.volume_meaning.proofs.Holding.{one_record_holds, some_is}
use Rattle.volume_meaning.specs.Blocks.{PostingFields, posting_record, InFront, InSpan, Leads, arrived, onwards, pointer_at}
use Rattle.volume_meaning.specs.Nodes.{IsBlockOf}
use Rattle.volume_meaning.proofs.Fronts.{front_holds, one_place, one_posting}
use Rattle.tamper_rules.specs.Rules.{Entries, HoldsInOrder, IsOfPool, LeadsWell, Pointers}
use Rattle.jump_block.specs.Fronts.{IsBadEntry, no_posting, does_not_rise}
use Rattle.jump_block.proofs.Knowing.{front_below}
use Rattle.jump_block.proofs.OneBlock.{in_place, jump_target, leads_wider, not_in_order}
use Rattle.jump_index.specs.Evidence.{IsBadPointer, ShowsInBlock, bad_entry, bad_pointer, no_jump, outside, no_key}
use Rattle.jump_block.specs.Pointing.{HasFull}
use Rattle.jump_index.specs.Searches.{IsListLicensed}
use Rattle.jump_index.specs.declared.bounds.Bounds.{Bounds}

-- a full block's front ends with its greatest key
greatest_key : (g : Layout) (image : Image) (l block level digit greatest : ℕ) → HasFull image block greatest
    → (well : LeadsWell g image l block level digit) → well.greatest.key ≡ greatest
greatest_key g image l block level digit greatest full well =
    ⊎_elim
    (λ (less : well.ends.place + 1 < 128).
    let next = front_below full.in_front (well.ends.place + 1) (omega arith) in
    absurd (well.ends.ends less next.0 next.1))
    (λ le.
    let last : well.ends.place ≡ 127 = omega (arith, well.ends.in_places) in
    let here : InFront image block 127 well.greatest = subst (λ (n : ℕ). InFront image block n well.greatest) last
    well.ends.in_front in
    ap (λ (q : PostingFields). q.key) (one_place here full.in_front) ∙ full.same)
    (cases_lt (well.ends.place + 1) 128)

-- a pointer that leads nowhere does not lead well
not_well : (g : Layout) (image : Image) (bounds : Bounds) (l block level digit : ℕ) (found : List ℕ)
    → bounds.pool ≡ pool_at g → IsEdge g image image bounds.edge
    → image (pointer_at block level digit) ≡ Some found → IsBadPointer bounds image block level digit found
    → LeadsWell g image l block level digit → ⊥
not_well g image bounds l block level digit found pool edge stands (no_jump bad) well =
    let same : well.jump.cell ≡ found = some_is well.jump.cell found (sym well.jump.stands ∙ stands) in
    bad.none well.target (subst (λ (c : List ℕ). IsRecordCell (Jump well.target) (pointer_at block level digit) c)
    same well.jump.is)
not_well g image bounds l block level digit found pool edge stands (outside target jump out) well =
    let one : well.target ≡ target = jump_target well.target target
    (one_record_holds image (pointer_at block level digit) (Jump well.target) (Jump target) well.jump jump) in
    ⊎_elim
    (λ early. omega (arith, well.from))
    (λ late. omega (arith, well.edge bounds.edge edge))
    out
not_well g image bounds l block level digit found pool edge stands (no_key target greatest jump full none) well =
    let one : well.target ≡ target = jump_target well.target target
    (one_record_holds image (pointer_at block level digit) (Jump well.target) (Jump target) well.jump jump) in
    let same = greatest_key g image l block level digit greatest full well in
    none well.place well.some well.in_places
    (subst (λ (b : ℕ). InFront image b well.place well.some) one well.in_front)
    (subst (λ (n : ℕ). InSpan n level digit well.some.key) same well.in_span)

-- what is out of order stands
bad_stands : (image : Image) (block place : ℕ) (found : List ℕ) → IsBadEntry image block place found
    → image (block + place) ≡ Some found
bad_stands image block place found (no_posting bad) = bad.stands
bad_stands image block place found (does_not_rise before key p is has stands holds le) = stands

-- evidence that a search shows is licensed
pub licensed : (cells : ℕ) (image : Image) (bounds : Bounds) (head : ℕ) (e : Evidence) → bounds.edge ≤ cells
    → ShowsInBlock bounds image head e → IsListLicensed bounds head cells image e
licensed cells image bounds head e inside (bad_entry at off leads rule cell below bad) = record {
  stands = ap image cell ∙ bad_stands image at off e.found bad;
  place = λ g l list first pool edge. (
    Entries,
    rule,
    in_place g image l bounds.pool bounds.edge head at off
        e.cell list first pool edge leads (omega arith) cell,
  );
  broken = λ g l volume list first pool edge. record {
    layout = g;
    volume = volume;
    rule = Entries;
    named = rule;
    place = in_place g image l bounds.pool bounds.edge head at off e.cell list first pool
        (omega (arith, volume.size)) leads (omega arith) cell;
    written = record { found = e.found; stands = ap image cell ∙ bad_stands image at off e.found bad };
    not_met = λ met.
        let wider = leads_wider (pool_at g) g.cells (omega arith) (omega (arith, volume.size)) leads in
        let block : IsBlockOf g image l at = record {
          list = list;
          leads = subst
              (λ (h : ℕ). Leads image (pool_at g) g.cells at h) first wider;
        } in
        not_in_order image at off e.found bad (met.entry l at off block below cell);
  };
}
licensed cells image bounds head e inside (bad_pointer at level digit leads rule is cell stands bad) = record {
  stands = stands;
  place = λ g l list first pool edge. (
    Pointers,
    rule,
    in_place g image l bounds.pool bounds.edge head at
        (127 + 15 * level + digit) e.cell list first pool edge leads (omega (arith, is.levels, is.digits)) cell,
  );
  broken = λ g l volume list first pool edge. record {
    layout = g;
    volume = volume;
    rule = Pointers;
    named = rule;
    place = in_place g image l bounds.pool bounds.edge head at (127 + 15 * level + digit) e.cell list first pool
        (omega (arith, volume.size)) leads (omega (arith, is.levels, is.digits)) cell;
    written = record { found = e.found; stands = stands };
    not_met = λ met.
        let wider = leads_wider (pool_at g) g.cells (omega arith) (omega (arith, volume.size)) leads in
        let block : IsBlockOf g image l at = record {
          list = list;
          leads = subst
              (λ (h : ℕ). Leads image (pool_at g) g.cells at h) first wider;
        } in
        not_well g image bounds l at level digit e.found pool edge (ap image (sym cell) ∙ stands) bad
        (met l at level digit block is.levels is.some is.digits cell);
  };
}
