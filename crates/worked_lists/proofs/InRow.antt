-- Rows of postings that are inserted one after another.
use Rattle.std.proofs.Common.{◌≡◌, ◌<◌, ◌≤◌, ◌+◌, ◌-◌, ◌*◌, ◌⊎◌, ⊎_elim, ℕ, None, Ok, ap, subst, arith, ◌∙◌}
use Rattle.std.specs.Prelude.{IsTrue}
use Rattle.volume_meaning.specs.Blocks.{PostingFields}
use Rattle.worm_device.specs.Views.{ViewState, IsView}
use Rattle.cell_pool.specs.Grants.{TakesFront}
use Rattle.cell_pool.specs.declared.pool.Pool.{Pool}
use Rattle.jump_block.specs.declared.held_entry.Entry.{Entry}
use Rattle.jump_insertion.specs.Inserting.{InsertsPosting}
use Rattle.jump_insertion.specs.Readiness.{IsReadyList}
use Rattle.jump_insertion.proofs.Untouched.{nothing_touched, untouched_ready}

-- so many of a row are inserted, and the pool has room for a block for each of the others
pub record RowSoFar (from s : ViewState) (head floor : ℕ) (pool : Pool) (first count done : ℕ) : Type 0 where
  pub most : done ≤ count
  pub fresh : s.fresh ≡ from.fresh
  pub next : from.fresh ≤ pool.next
  pub room : 256 * (count - done) ≤ pool.end - pool.next
  pub free : (cell : ℕ) → pool.next ≤ cell → s.planned cell ≡ None
  pub ready : IsTrue s.base.tells → IsReadyList s head floor pool.next (first + 256 * done)

pub row_begins : (s : ViewState) → IsView s → (head floor : ℕ) (pool : Pool) (first count : ℕ) → s.fresh ≤ pool.next
    → 256 * count ≤ pool.end - pool.next → ((cell : ℕ) → s.planned cell ≡ None)
    → RowSoFar s s head floor pool first count 0
row_begins s view head floor pool first count next room free = record {
  most = omega arith;
  fresh = λ i. s.fresh;
  next = next;
  room = omega (arith, room);
  free = λ cell past. free cell;
  ready = λ tells. untouched_ready s head floor pool.next (first + 256 * 0) (nothing_touched s head view free);
}

-- a key more
pub row_goes_on : (from s t : ViewState) (head floor : ℕ) (pool later : Pool) (first count done : ℕ) (p : PostingFields)
    (e : Entry) → RowSoFar from s head floor pool first count done → done < count
    → (later ≡ pool) ⊎ TakesFront pool later 256 pool.next
    → InsertsPosting head floor pool.next later.next p s t (Ok e) → p.key ≡ first + 256 * done
    → RowSoFar from t head floor later first count (done + 1)
row_goes_on from s t head floor pool later first count done p e so_far less taken inserts key = record {
  most = omega (arith, less);
  fresh = inserts.fresh ∙ so_far.fresh;
  next = ⊎_elim
      (λ (same : later ≡ pool). let h : later.next ≡ pool.next =
      ap (λ (x : Pool). x.next) same in omega (arith, h, so_far.next))
      (λ (took : TakesFront pool later 256 pool.next). omega (arith, took.next, so_far.next)) taken;
  room = ⊎_elim
      (λ (same : later ≡ pool).
      let h : later.next ≡ pool.next = ap (λ (x : Pool). x.next) same in
      let k : later.end ≡ pool.end = ap (λ (x : Pool). x.end) same in
      omega (arith, h, k, so_far.room, less))
      (λ (took : TakesFront pool later 256 pool.next). omega (arith, took.next, took.end, so_far.room, less)) taken;
  free = inserts.ends.4;
  ready = λ tells. (inserts.ends.5 (subst IsTrue inserts.called.tells tells)).ready (first + 256 * (done + 1))
      (omega (arith, key));
}
