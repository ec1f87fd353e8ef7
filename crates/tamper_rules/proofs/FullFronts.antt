-- A block whose entry places are all in order has a full front.
use Rattle.std.proofs.Common.{◌≡◌, ◌<◌, ◌+◌, ⊎_elim, ℕ, suc, zero, refl, sym, subst, ap, arith}
use Rattle.std.proofs.lemmas.Bool.{cases_lt}
use Rattle.cell_types.specs.Image.{Image}
use Rattle.volume_meaning.specs.Blocks.{PostingFields, posting_record, InFront, at_the_start, behind, IsFull}
use Rattle.volume_meaning.proofs.Fronts.{front_holds, one_posting}
use Rattle.volume_meaning.specs.Volumes.{Holds}
use Rattle.tamper_rules.specs.Rules.{HoldsInOrder, EndsFront}

-- a full front ends at its last place
pub full_ends : {image : Image} {block : ℕ} {greatest : PostingFields} → IsFull image block greatest
    → EndsFront image block greatest
full_ends f = record { place = 127; in_places = omega arith; in_front = f; ends = λ less. absurd (omega arith) }

module _ {image : Image} {block : ℕ} (entries : (place : ℕ) → place < 128 → HoldsInOrder image block place) where
  in_front : (place : ℕ) → place < 128 → (p : PostingFields) × InFront image block place p
  in_front zero below = let e = entries zero below in (e.p, at_the_start zero e.p refl e.holds)
  in_front (suc n) below =
      let e = entries (suc n) below in
      let before = in_front n (omega arith) in (
        e.p,
        ⊎_elim
            (λ first. absurd (omega arith))
            (λ (r : (b : ℕ) × (q : PostingFields) × (suc n ≡ b + 1) × Holds image (block + b) (posting_record q)
            × (q.key < e.p.key)).
            let same : n ≡ r.0 = omega (arith, r.2) in
            let held : Holds image (block + n) (posting_record r.1) =
            subst (λ (k : ℕ). Holds image (block + k) (posting_record r.1)) (sym same) r.3 in
            let one : before.0 ≡ r.1 = one_posting image (block + n) before.0 r.1 (front_holds before.1) held in
            let key : before.0.key ≡ r.1.key = ap (λ (p : PostingFields). p.key) one in
            behind (suc n) n e.p before.0 (omega arith) before.1 (omega (arith, key, r.4)) e.holds)
            e.rises,
      )

  -- so the greatest posting of its front stands at the last place
  pub ends_full : {greatest : PostingFields} → EndsFront image block greatest → IsFull image block greatest
  ends_full {greatest} e = ⊎_elim
      (λ (less : e.place + 1 < 128). let next = in_front (e.place + 1) less in absurd (e.ends less next.0 next.1))
      (λ le. let last : e.place ≡ 127 = let low = e.in_places in omega arith in subst
      (λ (k : ℕ). InFront image block k greatest) last e.in_front)
      (cases_lt (e.place + 1) 128)
