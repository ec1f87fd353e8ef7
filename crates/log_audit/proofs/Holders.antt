-- The slot that reserves a cell, in the log.
use Rattle.std.proofs.Common.{◌≡◌, ◌<◌, ◌≤◌, ◌+◌, ⊎_elim, ℕ, List, Some, refl, sym, ◌∙◌, subst, ap, arith}
use Rattle.std.specs.Prelude.{slice_get}
use Rattle.std.proofs.lemmas.Bool.{cases_order}
use Rattle.cell_types.specs.Image.{Image}
use Rattle.cell_types.specs.Layout.{Layout}
use Rattle.volume_meaning.specs.Documents.{document_at}
use Rattle.volume_meaning.specs.Slots.{Reserves, Stores}
use Rattle.tamper_rules.specs.Journals.{LiesInBlocks}
use Rattle.tamper_rules.specs.Rules.{ReserveCells}
use Rattle.log_audit.specs.Findings.{IsMetAll}
use Rattle.log_audit.specs.Logs.{IsEnded, IsLog, end_of, start_of}
use Rattle.log_audit.specs.Owning.{AreInRow, HasCell}
use Rattle.log_audit.specs.Stored.{IsStored}
use Rattle.log_audit.specs.declared.ended.EndedSlot.{EndedSlot}
use Rattle.log_audit.specs.declared.ended.EndedSlot.TheVariants.{Abandoned, Done}
use Rattle.log_audit.specs.declared.log.Log.{Log}
use Rattle.log_audit.specs.declared.stored.StoredSlot.{StoredSlot}
use Rattle.log_audit.proofs.Logged.{before, stores_of}
use Rattle.log_audit.proofs.Storing.{logged, one_row, stores_it}

-- a slot that reserves the cell stands at one of these places
abbrev pub IsOnlyBetween : List EndedSlot → ℕ → ℕ → ℕ → Type 0
IsOnlyBetween slots cell low high = (n : ℕ) → HasCell slots n cell → (low ≤ n) × (n < high)

spans : (slot : EndedSlot) → start_of slot ≤ end_of slot
spans (Abandoned start many) = omega arith
spans (Done start many bytes journal) = omega arith

-- the slot that reserves the cell is the one that stands there
same_slot : {slots : List EndedSlot} {cell m n : ℕ} {slot : EndedSlot} (has : HasCell slots n cell) → n ≡ m
    → slice_get slots m ≡ Some slot → (start_of slot ≤ cell) × (cell < end_of slot)
same_slot {slots} {cell} {m} {n} {slot} has same there =
    let both : Some has.slot ≡ Some slot = sym has.stands ∙ ap (slice_get slots) same ∙ there in
    let is : has.slot ≡ slot = cc in
    (subst (λ (s : EndedSlot). start_of s ≤ cell) is has.from, subst (λ (s : EndedSlot). cell < end_of s) is has.below)

module _ {slots : List EndedSlot} {cell : ℕ} (row : AreInRow slots) where
  -- the slot in the middle begins behind the cell
  pub keep_lower : (low high middle : ℕ) (slot : EndedSlot) → slice_get slots middle ≡ Some slot
      → IsOnlyBetween slots cell low high → cell < start_of slot → IsOnlyBetween slots cell low middle
  keep_lower low high middle slot there only behind n has = ⊎_elim
      (λ same. absurd (let e = same_slot has same there in omega (arith, behind, e.0)))
      (λ differ. ⊎_elim
      (λ less. ((only n has).0, less))
      (λ more. absurd (let e = row.follow middle n slot has.slot there has.stands more in
      let f = spans slot in omega (arith, e, f, behind, has.from)))
      differ)
      (cases_order n middle)

  -- the slot in the middle ends before the cell
  pub keep_upper : (low high middle : ℕ) (slot : EndedSlot) → slice_get slots middle ≡ Some slot
      → IsOnlyBetween slots cell low high → end_of slot ≤ cell → IsOnlyBetween slots cell (middle + 1) high
  keep_upper low high middle slot there only past n has = ⊎_elim
      (λ same. absurd (let e = same_slot has same there in omega (arith, past, e.1)))
      (λ differ. ⊎_elim
      (λ less. absurd (let e = row.follow n middle has.slot slot has.stands there less in
      let f = spans slot in omega (arith, e, f, past, has.below)))
      (λ more. (omega (arith, more), (only n has).1))
      differ)
      (cases_order n middle)

  -- one slot alone reserves a cell
  pub one_holder : (m n : ℕ) → HasCell slots m cell → HasCell slots n cell → m ≡ n
  one_holder m n a b = ⊎_elim
      (λ same. same)
      (λ differ. ⊎_elim
      (λ less. absurd (let e = row.follow m n a.slot b.slot a.stands b.stands less in omega (arith, e, a.below, b.from)))
      (λ more. absurd (let e = row.follow n m b.slot a.slot b.stands a.stands more in omega (arith, e, b.below, a.from)))
      differ)
      (cases_order m n)

-- a slot that has ended reserves the cells from its start to its end
ended_reserves : (g : Layout) (image : Image) (n : ℕ) (slot : EndedSlot) → IsEnded g image n slot
    → (many : ℕ) × Reserves g image n (start_of slot) many × (end_of slot ≡ start_of slot + many)
ended_reserves g image n (Abandoned start many) is = (many, is.abandons.reserves, refl)
ended_reserves g image n (Done start many bytes journal) is = (many, is.commits.reserves, refl)

-- where rule 1 is kept, the slots of the log follow one another
pub log_in_row : (g : Layout) (image : Image) (log : Log) → IsLog g image log → IsMetAll g image ReserveCells
    → AreInRow log.slots.items
log_in_row g image log is met = record {
  room = λ n slot there. (is.each n slot there).1;
  follow = λ m n lower upper a b less.
      let x = ended_reserves g image m lower (is.each m lower a).0 in
      let y = ended_reserves g image n upper (is.each n upper b).0 in
      let e = before g image met m n (start_of lower) x.0 (start_of upper) y.0 less x.1 y.1 in
      omega (arith, e, x.2);
}

-- the slot in whose blocks the cell lies reserves it
pub owner_holds : {g : Layout} {image : Image} {log : Log} {m cell : ℕ} → IsLog g image log → LiesInBlocks g image m cell
    → HasCell log.slots.items m cell
owner_holds {g} {image} {log} {m} {cell} is lies = record {
  slot = Done lies.start lies.length lies.bytes lies.journal;
  stands = stores_of g image log is m lies.start lies.length lies.bytes lies.journal lies.stores;
  from = lies.from;
  below = omega (arith, lies.below);
}

module _ {g : Layout} {image : Image} {log : Log} {m cell : ℕ} (is : IsLog g image log)
    (met : IsMetAll g image ReserveCells) (has : HasCell log.slots.items m cell) where
  same_owner : (n : ℕ) → LiesInBlocks g image n cell → n ≡ m
  same_owner n lies = one_holder (log_in_row g image log is met) n m (owner_holds is lies) has

  -- the slot that reserves the cell holds no document
  pub not_owned : ((a b c d : ℕ) → Stores g image m a b c d → ⊥) → (n : ℕ) → LiesInBlocks g image n cell → ⊥
  not_owned none n lies = none lies.start lies.length lies.bytes lies.journal
      (subst (λ (k : ℕ). Stores g image k lies.start lies.length lies.bytes lies.journal) (same_owner n lies) lies.stores)

  -- it holds one, and the cell lies before it
  pub owned : {s : StoredSlot} → IsStored g image s → s.slot ≡ m
      → cell < document_at s.start s.length s.bytes s.journal → LiesInBlocks g image m cell
  owned {s} stored same less =
      let there = same_slot has (sym same) (logged is stored) in
      subst (λ (k : ℕ). LiesInBlocks g image k cell) same (record {
        start = s.start;
        length = s.length;
        bytes = s.bytes;
        journal = s.journal;
        stores = stores_it stored;
        from = there.0;
        below = less;
      })

  -- it holds one, and the cell does not lie before it
  pub not_before : {s : StoredSlot} → IsStored g image s → s.slot ≡ m
      → document_at s.start s.length s.bytes s.journal ≤ cell → (n : ℕ) → LiesInBlocks g image n cell → ⊥
  not_before {s} stored same past n lies =
      let row = one_row stored (same ∙ sym (same_owner n lies)) lies.stores in
      let a = row.0 in let b = row.1 in let c = row.2 in let d = row.3 in
      let at : document_at lies.start lies.length lies.bytes lies.journal ≡ document_at s.start s.length s.bytes s.journal = cc in
      omega (arith, at, past, lies.below)
