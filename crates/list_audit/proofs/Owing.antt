-- Which postings the documents of a volume are to have, slot after slot.
use Rattle.std.proofs.Common.{◌≡◌, ◌<◌, ◌+◌, ◌↔◌, ⊎_elim, inl, inr, ℕ, List, [], length, Option, Some, sym, ◌∙◌, subst, ap, arith}
use Rattle.std.specs.Prelude.{slice_get}
use Rattle.cell_types.specs.Image.{Image}
use Rattle.cell_types.specs.Layout.{Layout, all_lists}
use Rattle.document_store.specs.Standing.{HoldsDocument}
use Rattle.document_store.proofs.Holding.{held_stands, stands_held}
use Rattle.volume_meaning.specs.Blocks.{PostingFields, posting_record}
use Rattle.volume_meaning.specs.Nodes.{IsBlockOf}
use Rattle.volume_meaning.specs.Postings.{ListedPosting, HasPostings, IsPostingOf}
use Rattle.volume_meaning.specs.Slots.{Stores}
use Rattle.volume_meaning.specs.Volumes.{Holds, IsVolume}
use Rattle.tamper_rules.specs.Rules.{IsTruePosting, PostingRule}
use Rattle.log_audit.specs.Logs.{IsLog}
use Rattle.log_audit.specs.declared.log.Log.{Log}
use Rattle.log_audit.proofs.Logged.{stores_of}
use Rattle.log_audit.proofs.Storing.{stored_there, stored_is_live}
use Rattle.log_audit.proofs.Orders.{below_or_at}
use Rattle.list_audit.specs.Bodies.{AreRowsOf, HasNoRows}
use Rattle.list_audit.specs.Owing.{IsPostingOwed, AllExist, AreOwed, KeepsPostingRule, BlockOwes}
use Rattle.list_audit.specs.Tables.{AddsRows, AreSameRows, FitsRow, HasRow, number_of}
use Rattle.list_audit.proofs.Trailing.{one_stamp}

module _ (g : Layout) (image : Image) where
  -- no slot is below 0
  pub none_owed : (rows : List (ℕ × List ℕ)) → ((l : ℕ) (p : PostingFields) → HasRow rows l p → ⊥) → AreOwed g image 0 rows
  none_owed rows none l p fits = (λ has. absurd (none l p has), λ owed. absurd (omega (arith, owed.1)))

  -- nor in a table that is empty
  pub none_yet : (rows : List (ℕ × List ℕ)) → rows ≡ [] → AreOwed g image 0 rows
  none_yet rows empty = none_owed rows (λ l p has. omega (arith, has.1, ap length empty))

  -- the same in another order
  pub owed_in_order : (n : ℕ) (rows sorted : List (ℕ × List ℕ)) → AreOwed g image n rows → AreSameRows rows sorted → AreOwed g image n sorted
  owed_in_order n rows sorted are same l p fits =
      let row : ℕ × List ℕ = (number_of l p.key p.last, p.tag) in
      (λ has. (are l p fits).0 ((same row).0 has), λ owed. (same row).1 ((are l p fits).1 owed))

  -- a slot of which nothing is owed
  pub nothing_more : (n : ℕ) (rows : List (ℕ × List ℕ)) → AreOwed g image n rows
      → ((l : ℕ) (p : PostingFields) (o : IsPostingOwed g image l p) → o.slot ≡ n → ⊥) → AreOwed g image (n + 1) rows
  nothing_more n rows so_far none l p fits = (
    λ has. let o = (so_far l p fits).0 has in (o.0, omega (arith, o.1)),
    λ owed. ⊎_elim
        (λ (earlier : owed.0.slot < n). (so_far l p fits).1 (owed.0, earlier))
        (λ (here : owed.0.slot ≡ n). absurd (none l p owed.0 here))
        (below_or_at owed.0.slot n owed.1),
  )

  -- the postings of one document more exist
  pub one_exists : (n : ℕ) → AllExist g image n → ((id body : List ℕ) → HoldsDocument g image n id body → HasPostings g body)
      → AllExist g image (n + 1)
  one_exists n all here m id body less holds = ⊎_elim
      (λ (earlier : m < n). all m id body earlier holds)
      (λ (same : m ≡ n). here id body (subst (λ (k : ℕ). HoldsDocument g image k id body) same holds))
      (below_or_at m n less)

  -- a slot with its postings
  pub slot_more : (n : ℕ) (added : List ListedPosting) (old new : List (ℕ × List ℕ)) (id body : List ℕ) → HoldsDocument g image n id body
      → AreRowsOf g image n added → AreOwed g image n old → AddsRows added old new → AreOwed g image (n + 1) new
  slot_more n added old new id body holds are so_far adds l p fits = (
    λ has. ⊎_elim
        (λ (before : HasRow old l p). let o = (so_far l p fits).0 before in (o.0, omega (arith, o.1)))
        (λ (at : (i : ℕ) × (slice_get added i ≡ Some (record { list = l; posting = p }))).
        let r = are id body holds in
        let e = r.2.each at.0 (record { list = l; posting = p }) at.1 in (
          record { list = e.0; slot = n; id = id; body = body; holds = holds; postings = r.2.exist; stamp = r.0; is_stamp = r.1; is = e.1 },
          omega arith,
        ))
        ((adds l p fits).0 has),
    λ owed. ⊎_elim
        (λ (earlier : owed.0.slot < n). (adds l p fits).1 (inl ((so_far l p fits).1 (owed.0, earlier))))
        (λ (here : owed.0.slot ≡ n). (adds l p fits).1 (inr (there owed.0 here)))
        (below_or_at owed.0.slot n owed.1),
  )
    where
      there : (o : IsPostingOwed g image l p) → o.slot ≡ n → (i : ℕ) × (slice_get added i ≡ Some (record { list = l; posting = p }))
      there o same = at n (sym same) are
        where
          at : (m : ℕ) → m ≡ o.slot → AreRowsOf g image m added → (i : ℕ) × (slice_get added i ≡ Some (record { list = l; posting = p }))
          at m e rows =
              let r = subst (λ (k : ℕ). AreRowsOf g image k added) e rows o.id o.body o.holds in
              r.2.all l p o.list (subst (λ (stamp : Option ℕ). IsPostingOf g stamp o.body o.slot l p)
              (one_stamp g image o.slot o.stamp r.0 o.is_stamp r.1) o.is)

  -- a slot that is not stored owes nothing, nor does one without postings
  pub not_stored_owes : (n : ℕ) → ((a b c d : ℕ) → Stores g image n a b c d → ⊥) → (l : ℕ) (p : PostingFields) (o : IsPostingOwed g image l p) → o.slot ≡ n → ⊥
  not_stored_owes n none l p o same =
      let h = subst (λ (k : ℕ). HoldsDocument g image k o.id o.body) same o.holds in
      none _ _ _ _ (record { commits = h.done.commits; done = inr h.done.done })

  pub no_rows_owes : (n : ℕ) → HasNoRows g image n → (l : ℕ) (p : PostingFields) (o : IsPostingOwed g image l p) → o.slot ≡ n → ⊥
  no_rows_owes n none l p o same =
      none o.id o.body (subst (λ (k : ℕ). HoldsDocument g image k o.id o.body) same o.holds) o.postings

module _ (g : Layout) (image : Image) (log : Log) (volume : IsVolume g.cells image g) (is : IsLog g image log) where
  -- what is owed is true
  owed_is_true : (l : ℕ) (p : PostingFields) → IsPostingOwed g image l p → IsTruePosting g image l p
  owed_is_true l p o =
      let done = o.holds.done in
      let there = stores_of g image log is o.slot _ _ _ _ (record { commits = done.commits; done = inr done.done }) in
      record {
        slot = o.slot;
        live = stored_is_live g image log is _ (stored_there log is o.slot _ _ _ _ there);
        id = o.id;
        body = o.body;
        stands = held_stands g g.cells image o.slot o.id o.body volume o.holds;
        postings = o.postings;
        stamp = o.stamp;
        is_stamp = o.is_stamp;
        is = o.is;
      }

  -- what is true is owed
  true_is_owed : (l : ℕ) (p : PostingFields) → l < all_lists g → IsTruePosting g image l p → IsPostingOwed g image l p
  true_is_owed l p less t = record {
    list = less;
    slot = t.slot;
    id = t.id;
    body = t.body;
    holds = stands_held g g.cells image t.slot t.id t.body volume t.stands;
    postings = t.postings;
    stamp = t.stamp;
    is_stamp = t.is_stamp;
    is = t.is;
  }

  -- rule 9 at a cell, by the blocks of lists
  pub rule_owes : (cell : ℕ) → ((l block : ℕ) → IsBlockOf g image l block → BlockOwes g image l block cell) → PostingRule g image cell
  rule_owes cell each l block place p of few at holds =
      owed_is_true l p (each l block of place few at p (subst (λ (n : ℕ). Holds image n (posting_record p)) at holds))

  pub block_owes : (cell : ℕ) → PostingRule g image cell → (l block : ℕ) → IsBlockOf g image l block → BlockOwes g image l block cell
  block_owes cell rule l block of place few at p holds =
      true_is_owed l p of.list (rule l block place p of few at (subst (λ (n : ℕ). Holds image n (posting_record p)) (sym at) holds))

-- a posting of the table is owed, and one that is owed is of the table
pub of_table : (g : Layout) (image : Image) (rows : List (ℕ × List ℕ)) (l : ℕ) (p : PostingFields) → AreOwed g image g.slots rows → FitsRow l p
    → (HasRow rows l p ↔ IsPostingOwed g image l p)
of_table g image rows l p are fits =
    (λ has. ((are l p fits).0 has).0, λ o. (are l p fits).1 (o, o.holds.done.commits.reserves.slot))

-- the posting that stands there is the one that was found
pub found_owed : (g : Layout) (image : Image) (l block place : ℕ) {found : Option PostingFields} {q : PostingFields}
    → ((p : PostingFields) → Holds image (block + place) (posting_record p) → found ≡ Some p) → found ≡ Some q
    → IsPostingOwed g image l q → KeepsPostingRule g image l block place
found_owed g image l block place {found} {q} one is owed p holds =
    let both : Some q ≡ Some p = sym is ∙ one p holds in
    let same : q ≡ p = cc in
    subst (IsPostingOwed g image l) same owed
