-- What the log says of slots.
use Rattle.std.proofs.Common.{◌≡◌, ◌<◌, ◌≤◌, ◌+◌, ⊎_elim, inr, ℕ, zero, suc, List, length, get_or, Option, Some, None, refl, sym, ◌∙◌, subst, arith}
use Rattle.std.specs.Prelude.{slice_get}
use Rattle.std.proofs.lemmas.Bool.{cases_order}
use Rattle.std.proofs.lemmas.Option.{none-some, slice_get-get_or}
use Rattle.cell_types.specs.Image.{Image}
use Rattle.cell_types.specs.Layout.{Layout, reserve_at, outcome_at, pool_at}
use Rattle.cell_types.specs.declared.record_cell.RecordCell.TheVariants as records
use Rattle.volume_meaning.specs.Slots.{Reserves, Stores, IsAbandonedSlot, IsDoneSlot, EndsBelow}
use Rattle.volume_meaning.specs.Volumes.{Holds}
use Rattle.volume_meaning.proofs.Holding.{one_record_holds}
use Rattle.volume_meaning.proofs.OneDocument.{reserves, commits}
use Rattle.tamper_rules.specs.Rules.{ReserveCells, ReserveRule}
use Rattle.tamper_rules.proofs.Settled.{written}
use Rattle.log_audit.specs.Findings.{IsMetAll}
use Rattle.log_audit.specs.Logs.{IsLog}
use Rattle.log_audit.specs.declared.ended.EndedSlot.{EndedSlot}
use Rattle.log_audit.specs.declared.ended.EndedSlot.TheVariants.{Abandoned, Done}
use Rattle.log_audit.specs.declared.log.Log.{Log}

-- no element stands there where the list has ended
pub past_end : (xs : List EndedSlot) (n : ℕ) → slice_get xs n ≡ None → length xs ≤ n
past_end xs n none = ⊎_elim
    (λ same. omega (arith, same))
    (λ differ. ⊎_elim
    (λ less. absurd (none-some (get_or xs n (Abandoned 0 0)) (sym none ∙ slice_get-get_or xs n (Abandoned 0 0) less)))
    (λ more. omega (arith, more)) differ)
    (cases_order n (length xs))

module _ (g : Layout) (image : Image) (log : Log) (is : IsLog g image log) where
  -- a slot that stores is done in the log, by the same numbers
  pub stores_of : (n s r b j : ℕ) → Stores g image n s r b j → slice_get log.slots.items n ≡ Some (Done s r b j)
  stores_of n s r b j stores = at (slice_get log.slots.items n) refl
    where
      at : (found : Option EndedSlot) → slice_get log.slots.items n ≡ found → slice_get log.slots.items n ≡ Some (Done s r b j)
      at None none = absurd (none-some stores.commits.reserves.reserve.cell
          (sym (is.free n (past_end log.slots.items n none) stores.commits.reserves.slot) ∙ stores.commits.reserves.reserve.stands))
      at (Some (Abandoned s' r')) some =
          let e = (is.each n (Abandoned s' r') some).0 in
          absurd (let clash : records.Abandon ≡ records.Commit b j = one_record_holds image (outcome_at n) records.Abandon (records.Commit b j) e.abandons.outcome stores.commits.outcome in cc)
      at (Some (Done s' r' b' j')) some =
          let e = (is.each n (Done s' r' b' j') some).0 in
          let one = reserves s' r' s r (one_record_holds image (reserve_at n) (records.Reserve s' r') (records.Reserve s r) e.commits.reserves.reserve stores.commits.reserves.reserve) in
          let two = commits b' j' b j (one_record_holds image (outcome_at n) (records.Commit b' j') (records.Commit b j) e.commits.outcome stores.commits.outcome) in
          let a = one.0 in let c = one.1 in let d = two.0 in let f = two.1 in
          some ∙ (cc)

  -- a slot that is done in the log is done
  pub done_slot : (n s r b j : ℕ) → slice_get log.slots.items n ≡ Some (Done s r b j) → IsDoneSlot g image n
  done_slot n s r b j some = record { start = s; length = r; bytes = b; journal = j; done = (is.each n (Done s r b j) some).0 }

  -- and one that is not is not
  pub not_done : (n : ℕ) → ((s r b j : ℕ) → slice_get log.slots.items n ≡ Some (Done s r b j) → ⊥) → IsDoneSlot g image n → ⊥
  not_done n none d = none d.start d.length d.bytes d.journal
      (stores_of n d.start d.length d.bytes d.journal (record { commits = d.done.commits; done = inr d.done.done }))

  pub abandoned_slot : (n s r : ℕ) → slice_get log.slots.items n ≡ Some (Abandoned s r) → IsAbandonedSlot g image image n
  abandoned_slot n s r some = record { start = s; length = r; abandoned = (is.each n (Abandoned s r) some).0 }

  pub not_abandoned : (n : ℕ) → ((s r : ℕ) → slice_get log.slots.items n ≡ Some (Abandoned s r) → ⊥) → IsAbandonedSlot g image image n → ⊥
  not_abandoned n none a = at (slice_get log.slots.items n) refl
    where
      at : (found : Option EndedSlot) → slice_get log.slots.items n ≡ found → ⊥
      at None past = none-some a.abandoned.abandons.reserves.reserve.cell
          (sym (is.free n (past_end log.slots.items n past) a.abandoned.abandons.reserves.slot) ∙ a.abandoned.abandons.reserves.reserve.stands)
      at (Some (Abandoned s r)) some = none s r some
      at (Some (Done s r b j)) some =
          let e = (is.each n (Done s r b j) some).0 in
          let clash : records.Abandon ≡ records.Commit b j = one_record_holds image (outcome_at n) records.Abandon (records.Commit b j) a.abandoned.abandons.outcome e.commits.outcome in cc

-- Where rule 1 is kept, the reservations of the slots below n end where those below n end, or before.
module _ (g : Layout) (image : Image) (met : IsMetAll g image ReserveCells) where
  ends_before : (n at : ℕ) → EndsBelow g image n at → (m start size : ℕ) → m < n
      → Reserves g image m start size → start + size ≤ at
  ends_before zero at ends m start size less r = absurd (omega arith)
  ends_before (suc k) at ends m start size less r = ⊎_elim
      (λ (z : (suc k ≡ 0) × (at ≡ pool_at g)). absurd (omega (arith, z.0)))
      (λ (w : (l : ℕ) × (from : ℕ) × (many : ℕ) × (suc k ≡ l + 1) × Reserves g image l from many × (at ≡ from + many)).
      let same : w.0 ≡ k = omega (arith, w.3) in
      let last : Reserves g image k w.1 w.2 = subst (λ (i : ℕ). Reserves g image i w.1 w.2) same w.4 in
      ⊎_elim
      (λ eq. let both = reserves start size w.1 w.2 (one_record_holds image (reserve_at k) (records.Reserve start size) (records.Reserve w.1 w.2)
      (subst (λ (i : ℕ). Holds image (reserve_at i) (records.Reserve start size)) eq r.reserve) last.reserve) in
      omega (arith, both.0, both.1, w.5))
      (λ differ. ⊎_elim
      (λ lower.
      let rule : ReserveRule g image k = met (reserve_at k) (written last) k last.slot refl in
      let before : start + size ≤ rule.start = ends_before k rule.start rule.begins m start size lower r in
      let both = reserves w.1 w.2 rule.start rule.length (one_record_holds image (reserve_at k) (records.Reserve w.1 w.2) (records.Reserve rule.start rule.length) last.reserve rule.reserves.reserve) in
      omega (arith, both.0, w.5))
      (λ above. absurd (omega arith)) differ)
      (cases_order m k))
      ends

  -- a slot's cells lie before those of each later slot
  pub before : (m n a b c d : ℕ) → m < n → Reserves g image m a b → Reserves g image n c d → a + b ≤ c
  before m n a b c d less r q =
      let rule : ReserveRule g image n = met (reserve_at n) (written q) n q.slot refl in
      let one = reserves c d rule.start rule.length (one_record_holds image (reserve_at n) (records.Reserve c d) (records.Reserve rule.start rule.length) q.reserve rule.reserves.reserve) in
      let ends = ends_before n rule.start rule.begins m a b less r in
      omega (arith, ends, one.0)

  -- slots whose cells meet are one
  pub one_slot : (m n a b c d cell : ℕ) → Reserves g image m a b → Reserves g image n c d → a ≤ cell → cell < a + b → c ≤ cell → cell < c + d → m ≡ n
  one_slot m n a b c d cell r q h k l p = ⊎_elim
      (λ same. same)
      (λ differ. ⊎_elim
      (λ less. absurd (let e = before m n a b c d less r q in omega (arith, e, h, k, l, p)))
      (λ more. absurd (let e = before n m c d a b more q r in omega (arith, e, h, k, l, p)))
      differ)
      (cases_order m n)
