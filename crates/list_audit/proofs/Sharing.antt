-- Rule 9 by two lists of a block.
use Rattle.std.proofs.Common.{◌≡◌, ◌<◌, ◌≤◌, ◌+◌, ◌-◌, ◌⊎◌, ⊎_elim, ℕ, zero, suc, List, length, get_or, Some, true, refl, ◌∙◌, sym, subst, ap, arith}
use Rattle.std.specs.Prelude.{IsTrue, slice_get}
use Rattle.std.proofs.lemmas.Bool.{cases_order}
use Rattle.std.proofs.lemmas.Option.{slice_get_within, slice_get-get_or}
use Rattle.cell_types.specs.Image.{Image}
use Rattle.cell_types.specs.Layout.{Layout}
use Rattle.volume_meaning.specs.Blocks.{PostingFields, posting_record}
use Rattle.volume_meaning.specs.Nodes.{IsBlockOf}
use Rattle.volume_meaning.specs.Volumes.{Holds}
use Rattle.volume_meaning.proofs.Fronts.{one_posting}
use Rattle.tamper_rules.specs.Rules.{Entries, HoldsInOrder}
use Rattle.log_audit.specs.Findings.{IsMetAll}
use Rattle.log_audit.proofs.Orders.{below_or_at}
use Rattle.list_audit.specs.Blocks.{AreBlocksForTwo, AreRising, IsAmongBlocks, IsShared}
use Rattle.list_audit.specs.Deciding.{AreDecided, BeginsForeign, IsDecided}
use Rattle.list_audit.specs.Numbers.{neighbour_number}
use Rattle.list_audit.specs.Owing.{AreOwed, BlockOwes, IsPostingOwed}
use Rattle.list_audit.specs.Tables.{FitsRow, HasRow}
use Rattle.list_audit.specs.declared.found.ListBlocks.{ListBlocks}
use Rattle.list_audit.specs.declared.listed.ListBlock.{ListBlock}
use Rattle.list_audit.proofs.EachBlock.{DecideAll, asked_of}
use Rattle.list_audit.proofs.Owing.{of_table}

module _ (g : Layout) (image : Image) where
  -- a posting that is not of the table of what is owed is foreign to its list
  pub is_foreign : (rows : List (ℕ × List ℕ)) → AreOwed g image g.slots rows → (l block : ℕ) (q : PostingFields) → FitsRow l q
      → Holds image block (posting_record q) → (HasRow rows l q → ⊥) → (p : PostingFields) → Holds image block (posting_record p)
      → IsPostingOwed g image l p → ⊥
  is_foreign rows owed l block q fits here none p holds is =
      none ((of_table g image rows l q owed fits).1 (subst (IsPostingOwed g image l) (one_posting image block p q holds here) is))

  -- where rule 8 is kept and a posting stands in a block one stands at its first place
  first_posting : IsMetAll g image Entries → (l block place : ℕ) → IsBlockOf g image l block → place < 128 → (p : PostingFields)
      → Holds image (block + place) (posting_record p) → (q : PostingFields) × Holds image block (posting_record q)
  first_posting met l block zero is few p holds = (p, subst (λ (at : ℕ). Holds image at (posting_record p)) (omega arith) holds)
  first_posting met l block (suc before) is few p holds =
      let in_order : HoldsInOrder image block (suc before) = (met (block + suc before) (record { found = holds.cell; stands = holds.stands })).entry
      l block (suc before) is few refl in
      ⊎_elim
      (λ (none : suc before ≡ 0). absurd (omega (arith, none)))
      (λ w. first_posting met l block before is (omega (arith, few)) w.1
      (subst (λ (k : ℕ). Holds image (block + k) (posting_record w.1)) (omega (arith, w.2)) w.3))
      in_order.rises

module _ (g : Layout) (image : Image) (blocks : List ListBlock) where
  -- each of the first n blocks is decided with the one before it
  abbrev pub AreDecidedBelow : ℕ → Type 0
  AreDecidedBelow n = (j : ℕ) (b c : ListBlock) → j + 1 < n → slice_get blocks j ≡ Some b → slice_get blocks (j + 1) ≡ Some c → IsDecided g image b c

  -- one block more is
  pub decided_more : (n : ℕ) (before here : ListBlock) → AreDecidedBelow n → 1 ≤ n → slice_get blocks (n - 1) ≡ Some before
      → slice_get blocks n ≡ Some here → IsDecided g image before here → AreDecidedBelow (n + 1)
  decided_more n before here so_far some at_before at_here is j b c less there next = ⊎_elim
      (λ (earlier : j + 1 < n). so_far j b c earlier there next)
      (λ (same : j + 1 ≡ n). let last : j ≡ n - 1 = omega (arith, same, some) in
      let e : Some before ≡ Some b = sym at_before ∙ subst (λ (k : ℕ). slice_get blocks k ≡ Some b) last there in
      let f : Some here ≡ Some c = sym at_here ∙ subst (λ (k : ℕ). slice_get blocks k ≡ Some c) same next in
      let one : before ≡ b = cc in
      let other : here ≡ c = cc in
      subst (λ (d : ListBlock). IsDecided g image d c) one (subst (IsDecided g image before) other is))
      (below_or_at (j + 1) n less)

  -- a list that has the block stands before another, so the one right before this has the block, too
  pub has_before : AreRising blocks → (block l m : ℕ) → l < m → (a : IsAmongBlocks blocks l block) → (b : IsAmongBlocks blocks m block)
      → (before : ListBlock) × (1 ≤ b.place) × (slice_get blocks (b.place - 1) ≡ Some before) × (before.block ≡ block)
  has_before are block l m less a b = ⊎_elim
      (λ (same : a.place ≡ b.place). let e : Some a.one ≡ Some b.one = sym a.there ∙ subst (λ (k : ℕ). slice_get blocks k ≡ Some b.one) (sym same) b.there in
      let one : a.one ≡ b.one = cc in
      absurd (omega (arith, less, a.list, b.list, ap (λ (d : ListBlock). d.list) one)))
      (λ differ. ⊎_elim
      (λ (first : a.place < b.place). behind first (below_or_at a.place (b.place - 1) (omega (arith, first))))
      (λ (last : b.place < a.place). absurd (let r = are.rises b.place a.place b.one a.one last b.there a.there in omega (arith, r, a.list, a.is, b.list, b.is, less)))
      differ)
      (cases_order a.place b.place)
    where
      none : ListBlock
      none = record { list = 0; block = 0 }

      right : ListBlock
      right = get_or blocks (b.place - 1) none

      behind : a.place < b.place → (a.place < b.place - 1) ⊎ (a.place ≡ b.place - 1)
          → (before : ListBlock) × (1 ≤ b.place) × (slice_get blocks (b.place - 1) ≡ Some before) × (before.block ≡ block)
      behind first where_it =
          let inside = slice_get_within blocks b.place b.one b.there in
          let there : slice_get blocks (b.place - 1) ≡ Some right = slice_get-get_or blocks (b.place - 1) none (omega (arith, first, inside)) in
          let below = are.rises (b.place - 1) b.place right b.one (omega (arith, first)) there b.there in
          let from : neighbour_number l block ≤ neighbour_number right.list right.block = ⊎_elim
          (λ (earlier : a.place < b.place - 1). let r = are.rises a.place (b.place - 1) a.one right earlier a.there there in omega (arith, r, a.list, a.is))
          (λ (same : a.place ≡ b.place - 1).
          let e : Some a.one ≡ Some right = sym a.there ∙ subst (λ (k : ℕ). slice_get blocks k ≡ Some right) (sym same) there in
          let one : a.one ≡ right = cc in
          omega (arith, a.list, a.is, ap (λ (d : ListBlock). d.list) one, ap (λ (d : ListBlock). d.block) one))
          where_it in (
            right,
            omega (arith, first),
            there,
            omega (arith, from, below, b.list, b.is, are.few (b.place - 1) right there, are.few b.place b.one b.there),
          )

  -- where each block is decided so is each that two lists have
  pub are_decided : AreRising blocks → (n : ℕ) → AreDecidedBelow n → length blocks ≤ n → AreDecided g image blocks
  are_decided are n below past block s = ⊎_elim
      (λ (same : s.one ≡ s.other). absurd (s.two same))
      (λ differ. ⊎_elim
      (λ (less : s.one < s.other). by s.one s.other less s.first s.second)
      (λ (more : s.other < s.one). by s.other s.one more s.second s.first) differ)
      (cases_order s.one s.other)
    where
      by : (l m : ℕ) → l < m → IsAmongBlocks blocks l block → IsAmongBlocks blocks m block → BeginsForeign g image blocks block
      by l m less a b p holds =
          let before = has_before are block l m less a b in
          let behind : slice_get blocks (b.place - 1 + 1) ≡ Some b.one = subst (λ (k : ℕ). slice_get blocks k ≡ Some b.one) (omega (arith, before.1)) b.there in
          let inside = slice_get_within blocks b.place b.one b.there in
          ⊎_elim
          (λ (no : IsPostingOwed g image before.0.list p → ⊥). record {
            list = before.0.list;
            among = record { place = b.place - 1; one = before.0; there = before.2; list = refl; is = before.3 };
            not_owed = no;
          })
          (λ (no : IsPostingOwed g image b.one.list p → ⊥). record {
            list = b.one.list;
            among = record { place = b.place; one = b.one; there = b.there; list = refl; is = b.is };
            not_owed = no;
          })
          (below (b.place - 1) before.0 b.one (omega (arith, before.1, inside, past)) before.2 behind (before.3 ∙ sym b.is) p
          (subst (λ (k : ℕ). Holds image k (posting_record p)) (sym b.is) holds))

-- two lists of each block decide rule 9
pub two_owe : (g : Layout) (image : Image) (found : ListBlocks) → AreBlocksForTwo g image found → AreDecided g image found.blocks.items
    → IsMetAll g image Entries → DecideAll g image found.blocks.items (BlockOwes g image)
two_owe g image found are decided met cell written asked l block is place few at p holds = ⊎_elim
    (λ (among : IsAmongBlocks found.blocks.items l block).
    asked_of (BlockOwes g image) cell (asked cell (omega arith) written) among place few at p holds)
    (λ (shared : IsTrue true × IsShared found.blocks.items block). let first = first_posting g image met l block place is few p holds in
    let foreign = decided block shared.1 first.0 first.1 in
    let same : block + 0 ≡ block = omega arith in
    absurd (foreign.not_owed (asked_of (BlockOwes g image) block
    (asked block (omega (arith, at)) (record { found = first.1.cell; stands = first.1.stands })) foreign.among 0 (omega arith) (sym same) first.0
    (subst (λ (k : ℕ). Holds image k (posting_record first.0)) (sym same) first.1))))
    (are.taken.all l block is)
