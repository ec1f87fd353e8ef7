-- A plan's journal is in order: targets rise, and each is an index cell of the old image or one of the new cells.
use Rattle.std.proofs.Common.{◌≡◌, ◌<◌, ◌≤◌, ◌+◌, ◌*◌, ◌⊎◌, ⊎_elim, inl, inr, ℕ, suc, zero, List, [], length, slice_get, Some, refl, sym, subst, arith}
use Rattle.std.proofs.lemmas.Option.{slice_get-get_or}
use Rattle.cell_types.specs.Image.{Image}
use Rattle.cell_types.specs.Layout.{Layout, list_at, pool_at, all_lists}
use Rattle.cell_types.specs.declared.record_cell.RecordCell.{RecordCell}
use Rattle.volume_meaning.specs.Blocks.{Leads}
use Rattle.volume_meaning.specs.Nodes.{IsNode}
use Rattle.volume_meaning.specs.Postings.{ListedPosting}
use Rattle.tamper_rules.specs.Journals.{IsIndexCell}
use Rattle.ingest_laws.specs.Filling.{IsCopyInPlan, IsPlannedCopy}
use Rattle.ingest_laws.specs.Ingesting.{Plan}
use Rattle.ingest_laws.proofs.SettledShapes.{leads_wider}
use Rattle.hash_tree.specs.declared.level.Level.{Level}
use Rattle.hash_tree.specs.declared.path.Open.{Open}
use Rattle.plan_laws.specs.Laws.{IsPlannedIndex}
use Rattle.plan_laws.proofs.Behind.{IsPlannedCell, a_posting, a_pointer, a_bucket, a_child, block_was, more, node_was, planned_cell, planned_low, to_inside}
use Rattle.plan_laws.proofs.NewImage.{ends_there}
use Rattle.plan_laws.proofs.OldPlaces.{block_cell, node_cell}

module _ {g : Layout} {old laid : Image} {p : Plan} {rows : List ListedPosting} {level : Level} {place : Open} {to : ℕ}
    {planned : Image} (h : IsPlannedIndex g old laid p rows level place to planned) where
  in_block : (l block i cell : ℕ) → l < all_lists g → Leads laid (pool_at g) to block (list_at g l) → i < 256
      → cell ≡ block + i
      → IsIndexCell g old p.slot cell ⊎ (p.start ≤ cell)
  in_block l block i cell list leads less here = ⊎_elim
      (λ was. inl (subst (λ (c : ℕ). IsIndexCell g old p.slot c) (sym here)
      (block_cell h.takes.layout h.takes.settled h.takes.horizon h.takes.slot i
      (record { list = list; leads = leads_wider (omega (arith, more h, to_inside h)) was }) less)))
      (λ far. inr (omega (arith, far, here)))
      (block_was h l block list leads)

  in_node : (v node i cell : ℕ) → IsNode g laid v node → i < 32 → cell ≡ node + i
      → IsIndexCell g old p.slot cell ⊎ (p.start ≤ cell)
  in_node v node i cell is less here = ⊎_elim
      (λ was. inl (subst (λ (c : ℕ). IsIndexCell g old p.slot c) (sym here)
      (node_cell h.takes.layout h.takes.settled h.takes.horizon h.takes.slot i was less)))
      (λ next. inr (omega (arith, next, here, h.stands.lists.more)))
      (node_was h is)

  of_kind : {cell : ℕ} {value : List ℕ} → IsPlannedCell g p.slot rows level to laid cell value
      → IsIndexCell g old p.slot cell ⊎ (p.start ≤ cell)
  of_kind {cell} (a_posting i a block at row list leads less here same) =
      in_block a.list block at cell list leads (omega (arith, less)) here
  of_kind {cell} (a_pointer l block i digit target list leads levels low high here other same) =
      in_block l block (127 + 15 * i + digit) cell list leads (omega (arith, levels, high)) here
  of_kind {cell} (a_bucket v node x is less here same) = in_node v node x cell is (omega (arith, less)) here
  of_kind {cell} (a_child v node x w target is less here other same) =
      in_node v node (16 + x) cell is (omega (arith, less)) (omega (arith, here))

  -- what a place of the journal copies, and to which cell
  record Copied (at : ℕ) : Type 0 where
    target : ℕ
    copied : RecordCell
    copy : IsCopyInPlan p at target copied
    number : slice_get h.journal.numbers at ≡ Some target
    value : List ℕ
    stands : planned target ≡ Some value

  copied_at : (at : ℕ) → at < length p.journal → Copied at
  copied_at at below =
      let entry = slice_get-get_or p.journal at [] below in
      let number = slice_get-get_or h.journal.numbers at 0 (omega (arith, below, h.journal.long)) in
      let stands = h.journal.each at _ _ number entry in
      let index = h.index _ _ stands in
      record {
        target = _;
        copied = index.held;
        copy = record {
          value = _;
          entry = entry;
          index = index.index;
          address = omega (arith, planned_low h stands, to_inside h, h.takes.layout.cells);
          is = index.is;
        };
        number = number;
        value = _;
        stands = stands;
      }

  pub in_order : (at : ℕ) → at < length p.journal → IsPlannedCopy g old p at
  in_order zero below =
      let here = copied_at zero below in
      record {
        target = here.target;
        copied = here.copied;
        entry = here.copy;
        rises = inl refl;
        before_document = omega (arith, planned_low h here.stands, ends_there h);
        index = of_kind (planned_cell h here.target here.value here.stands);
      }
  in_order (suc k) below =
      let here = copied_at (suc k) below in
      let before = copied_at k (omega (arith, below)) in
      record {
        target = here.target;
        copied = here.copied;
        entry = here.copy;
        rises = inr (
          k,
          before.target,
          before.copied,
          omega arith,
          before.copy,
          h.journal.rise k (suc k) before.target here.target (omega arith) before.number here.number,
        );
        before_document = omega (arith, planned_low h here.stands, ends_there h);
        index = of_kind (planned_cell h here.target here.value here.stands);
      }
