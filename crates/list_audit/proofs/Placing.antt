-- The place of a key in the front of a block.
use Rattle.std.proofs.Common.{◌≡◌, ◌<◌, ◌≤◌, ◌+◌, ⊎_elim, ℕ, sym, subst, arith}
use Rattle.std.proofs.lemmas.Bool.{cases_order}
use Rattle.cell_types.specs.Image.{Image}
use Rattle.volume_meaning.specs.Blocks.{PostingFields, posting_record, InFront}
use Rattle.volume_meaning.proofs.Fronts.{front_holds, one_posting, rises, rises_or_same}
use Rattle.volume_meaning.specs.Volumes.{Holds}
use Rattle.log_audit.proofs.Deciding.{held_written}
use Rattle.jump_block.proofs.Knowing.{front_below}
use Rattle.list_audit.specs.Trails.{IsAllFront, IsPlaceOfKey}

-- a place that holds a posting is in the front
pub in_the_front : {image : Image} {block k : ℕ} {p : PostingFields} → IsAllFront image block → k < 128
    → Holds image (block + k) (posting_record p) → InFront image block k p
in_the_front {image} {block} {k} {p} front few holds =
    let f = front k few (held_written holds) in
    subst (InFront image block k) (one_posting image (block + k) f.0 p (front_holds f.1) holds) f.1

-- The place of the key lies between these two.
pub record IsBetween (image : Image) (block key low high : ℕ) : Type 0 where
  pub order : low ≤ high
  pub most : high ≤ 128
  pub lower : (k : ℕ) → k < low → (p : PostingFields) × InFront image block k p × (p.key < key)
  pub upper : (k : ℕ) (p : PostingFields) → high ≤ k → k < 128 → InFront image block k p → key ≤ p.key

pub anywhere : (image : Image) (block key : ℕ) → IsBetween image block key 0 128
anywhere image block key = record {
  order = omega arith;
  most = omega arith;
  lower = λ k less. absurd (omega (arith, less));
  upper = λ k p from to. absurd (omega (arith, from, to));
}

module _ {image : Image} {block key low high : ℕ} (b : IsBetween image block key low high) where
  -- no posting stands in the middle
  pub ends_before : (middle : ℕ) → low ≤ middle → middle < high
      → ((p : PostingFields) → Holds image (block + middle) (posting_record p) → ⊥) → IsBetween image block key low middle
  ends_before middle from to none = record {
    order = from;
    most = omega (arith, to, b.most);
    lower = b.lower;
    upper = λ k p past few front. absurd (let f = front_below front middle past in none f.0 (front_holds f.1));
  }

  -- a lower key stands there
  pub stands_below : (middle : ℕ) (p : PostingFields) → middle < high → InFront image block middle p → p.key < key
      → IsBetween image block key (middle + 1) high
  stands_below middle p to front less = record {
    order = omega (arith, to);
    most = b.most;
    lower = λ k below. ⊎_elim
        (λ (same : k ≡ middle). (p, subst (λ (n : ℕ). InFront image block n p) (sym same) front, less))
        (λ differ. ⊎_elim
        (λ (earlier : k < middle). let f = front_below front k (omega (arith, earlier)) in
        (f.0, f.1, let r = rises front k f.0 f.1 earlier in omega (arith, r, less)))
        (λ (later : middle < k). absurd (omega (arith, later, below)))
        differ)
        (cases_order k middle);
    upper = b.upper;
  }

  -- a key stands there that is not lower
  pub stands_above : (middle : ℕ) (p : PostingFields) → low ≤ middle → middle < high → InFront image block middle p → key ≤ p.key
      → IsBetween image block key low middle
  stands_above middle p from to front le = record {
    order = from;
    most = omega (arith, to, b.most);
    lower = b.lower;
    upper = λ k q past few other. let r = rises_or_same front other past in omega (arith, r, le);
  }

  -- the key itself stands there
  pub stands_there : (middle : ℕ) (p : PostingFields) → middle < high → InFront image block middle p → p.key ≡ key
      → IsPlaceOfKey image block key middle
  stands_there middle p to front same = record {
    most = omega (arith, to, b.most);
    lower = λ k below. let f = front_below front k (omega (arith, below)) in
        (f.0, f.1, let r = rises front k f.0 f.1 below in omega (arith, r, same));
    upper = λ k q past few other. let r = rises_or_same front other past in omega (arith, r, same);
  }

  -- the two have come together
  pub comes_together : high ≤ low → IsPlaceOfKey image block key low
  comes_together past = record {
    most = omega (arith, b.order, b.most);
    lower = b.lower;
    upper = λ k p from few front. b.upper k p (omega (arith, past, from)) few front;
  }
