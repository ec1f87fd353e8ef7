-- What holds of a settled image.
use Rattle.std.proofs.Common.{◌≡◌, ◌<◌, ◌≤◌, ◌+◌, ⊎_elim, inl, inr, ℕ, suc, zero, refl, sym, ◌∙◌, subst, ap, arith}
use Rattle.std.proofs.lemmas.Option.{none-some}
use Rattle.std.proofs.lemmas.Bool.{cases_order}
use Rattle.cell_types.specs.Image.{Image}
use Rattle.cell_types.specs.Layout.{Layout, reserve_at, pool_at}
use Rattle.cell_types.specs.declared.record_cell.RecordCell.TheVariants.{Reserve}
use Rattle.tamper_rules.specs.Rules.{ReserveCells, ReserveRule}
use Rattle.tamper_rules.specs.Settling.{IsSettled}
use Rattle.volume_meaning.specs.Slots.{Reserves, IsAbandonedSlot, IsDoneSlot, HasEnded, AreTaken, IsHorizon, EndsBelow, IsEdge}
use Rattle.volume_meaning.specs.Volumes.{Holds, IsWritten}
use Rattle.volume_meaning.proofs.Holding.{one_record_holds}
use Rattle.volume_meaning.proofs.OneDocument.{reserves}
use Rattle.tamper_rules.proofs.Images.{look}

-- a slot that has ended has a written reserve cell
pub ended_reserves : {g : Layout} {image : Image} {n : ℕ} → HasEnded g image image n
    → (start : ℕ) × (length : ℕ) × Reserves g image n start length
ended_reserves {g} {image} {n} h = ⊎_elim
    (λ (a : IsAbandonedSlot g image image n). (a.start, a.length, a.abandoned.abandons.reserves))
    (λ (d : IsDoneSlot g image n). (d.start, d.length, d.done.commits.reserves))
    h

pub written : {g : Layout} {image : Image} {n start length : ℕ} → Reserves g image n start length
    → IsWritten image (reserve_at n)
written r = record { found = r.reserve.cell; stands = r.reserve.stands }

-- where an edge is said of a slot, that slot is a horizon
pub edge_horizon : (g : Layout) (image : Image) (at : ℕ) (e : IsEdge g image image at) → IsHorizon g image image (e.u)
edge_horizon g image at e = record {
  most = e.most;
  below = λ m is. ⊎_elim
      (λ (z : (e.u ≡ 0) × (at ≡ _)). absurd (omega (arith, z.0, is)))
      (λ (w : (k : ℕ) × (start : ℕ) × (length : ℕ) × (e.u ≡ k + 1) × Reserves g image k start length
      × (at ≡ start + length)).
      let same : k_of w ≡ m = omega (arith, is, w.3) in
      subst (λ (k : ℕ). IsWritten image (reserve_at k)) same (written w.4))
      e.ends;
  free = e.free;
}
  where
    k_of : ((k : ℕ) × (start : ℕ) × (length : ℕ) × (e.u ≡ k + 1) × Reserves g image k start length
        × (at ≡ start + length)) → ℕ
    k_of w = w.0

module _ (g : Layout) (image : Image) (s : IsSettled g image) where
  -- each slot below one that is taken is taken
  pub taken_below : (n : ℕ) → n < g.slots → IsWritten image (reserve_at n) → AreTaken image n
  taken_below zero inside w m below = absurd (omega arith)
  taken_below (suc n) inside w m below =
      let rule : ReserveRule g image (suc n) = s.met ReserveCells (reserve_at (suc n)) w (suc n) inside refl in
      let ended = ended_reserves (rule.before n (omega arith)) in
      let here : IsWritten image (reserve_at n) = written ended.2 in
      ⊎_elim
      (λ same. subst (λ (k : ℕ). IsWritten image (reserve_at k)) (sym same) here)
      (λ differ. ⊎_elim (λ less. taken_below n (omega arith) here m less) (λ above. absurd (omega arith)) differ)
      (cases_order m n)

  -- each slot below a horizon is taken
  pub taken_to : (n : ℕ) → IsHorizon g image image n → AreTaken image n
  taken_to zero h m below = absurd (omega arith)
  taken_to (suc k) h m below =
      let last : IsWritten image (reserve_at k) = h.below k (omega arith) in
      ⊎_elim
      (λ same. subst (λ (i : ℕ). IsWritten image (reserve_at i)) (sym same) last)
      (λ differ. ⊎_elim (λ less. taken_below k (omega (arith, h.most)) last m less)
      (λ above. absurd (omega arith)) differ)
      (cases_order m k)

  -- and no other
  pub below_horizon : (n m : ℕ) → n < g.slots → IsHorizon g image image n → m < g.slots
      → IsWritten image (reserve_at m) → m < n
  below_horizon n m free h inside w = ⊎_elim
      (λ same. absurd (none-some _ (sym (h.free free) ∙ ap (λ (i : ℕ). image (reserve_at i)) (sym same) ∙ w.stands)))
      (λ differ. ⊎_elim (λ less. less)
      (λ above. let x : IsWritten image (reserve_at n) = taken_below m inside w n above in absurd
      (none-some _ (sym (h.free free) ∙ x.stands)))
      differ)
      (cases_order m n)

  -- the reservations of the slots below n end where those below n end, or before
  pub ends_before : (n at : ℕ) → EndsBelow g image n at → (m start length : ℕ) → m < n
      → Reserves g image m start length → start + length ≤ at
  ends_before zero at ends m start length less r = absurd (omega arith)
  ends_before (suc k) at ends m start length less r = ⊎_elim
      (λ (z : (suc k ≡ 0) × (at ≡ _)). absurd (omega (arith, z.0)))
      (λ (w : (l : ℕ) × (from : ℕ) × (size : ℕ) × (suc k ≡ l + 1) × Reserves g image l from size × (at ≡ from + size)).
      let same : w.0 ≡ k = omega (arith, w.3) in
      let last : Reserves g image k w.1 w.2 = subst (λ (i : ℕ). Reserves g image i w.1 w.2) same w.4 in
      ⊎_elim
      (λ is. let both = reserves start length w.1 w.2 (one_record_holds image (reserve_at k) (Reserve start length)
      (Reserve w.1 w.2)
      (subst (λ (i : ℕ). Holds image (reserve_at i) (Reserve start length)) is r.reserve) last.reserve) in
      omega (arith, both.0, both.1, w.5))
      (λ differ. ⊎_elim
      (λ lower.
      let rule : ReserveRule g image k = s.met ReserveCells (reserve_at k) (written last) k last.slot refl in
      let before : start + length ≤ rule.start = ends_before k rule.start rule.begins m start length lower r in
      let both = reserves w.1 w.2 rule.start rule.length (one_record_holds image (reserve_at k) (Reserve w.1 w.2)
      (Reserve rule.start rule.length) last.reserve rule.reserves.reserve) in
      omega (arith, both.0, w.5))
      (λ above. absurd (omega arith)) differ)
      (cases_order m k))
      ends

  -- two horizons are the same
  pub one_horizon : (u v : ℕ) → IsHorizon g image image u → IsHorizon g image image v → u ≡ v
  one_horizon u v h k = ⊎_elim (λ same. same) (λ differ. ⊎_elim
      (λ less. absurd (apart u v h k less))
      (λ above. absurd (apart v u k h above))
      differ) (cases_order u v)
    where
      apart : (u v : ℕ) → IsHorizon g image image u → IsHorizon g image image v → u < v → ⊥
      apart u zero h k less = omega arith
      apart u (suc v) h k less =
          let last : IsWritten image (reserve_at v) = k.below v (omega arith) in
          ⊎_elim
          (λ same. none-some _ (sym (h.free (omega (arith, k.most))) ∙ ap (λ (m : ℕ). image (reserve_at m)) same
          ∙ last.stands))
          (λ differ. ⊎_elim
          (λ below. let at : IsWritten image (reserve_at u) = taken_below v (omega (arith, k.most)) last u below in
          none-some _ (sym (h.free (omega (arith, k.most))) ∙ at.stands))
          (λ above. absurd (omega arith)) differ)
          (cases_order u v)

  -- there is a horizon
  pub some_horizon : (u : ℕ) × IsHorizon g image image u
  some_horizon = from g.slots zero (omega arith) (λ m is. absurd (omega arith))
    where
      from : (left u : ℕ) → u + left ≡ g.slots → ((m : ℕ) → u ≡ m + 1 → IsWritten image (reserve_at m))
          → (u : ℕ) × IsHorizon g image image u
      from zero u all below = (u, record { most = omega arith; below = below; free = λ less. absurd (omega arith) })
      from (suc left) u all below = ⊎_elim
          (λ blank. (u, record { most = omega arith; below = below; free = λ less. blank }))
          (λ w. from left (suc u) (omega arith) (λ m is. let same : u ≡ m = omega arith in
          subst (λ (k : ℕ). IsWritten image (reserve_at k)) same (record { found = w.0; stands = w.1 })))
          (look image (reserve_at u))

  -- below a horizon the reservations end somewhere, and that is an edge
  pub some_edge : (u : ℕ) → IsHorizon g image image u → (at : ℕ) × IsEdge g image image at × EndsBelow g image u at
  some_edge zero h = (
    pool_at g,
    record { u = zero; most = h.most; free = h.free; ends = inl (refl, refl) },
    inl
        (refl, refl),
  )
  some_edge (suc m) h =
      let rule : ReserveRule g image m =
      s.met ReserveCells (reserve_at m) (h.below m (omega arith)) m (omega (arith, h.most)) refl in
      let ends : EndsBelow g image (suc m) (rule.start + rule.length) =
      inr (m, rule.start, rule.length, omega arith, rule.reserves, refl) in
      (rule.start + rule.length, record { u = suc m; most = h.most; free = h.free; ends = ends }, ends)

-- where the reservations of the slots below n end is one place
pub one_end : (g : Layout) (image : Image) (n a b : ℕ) → EndsBelow g image n a → EndsBelow g image n b → a ≡ b
one_end g image n a b h k = ⊎_elim
    (λ (z : (n ≡ 0) × (a ≡ _)). ⊎_elim
    (λ (y : (n ≡ 0) × (b ≡ _)). z.1 ∙ sym y.1)
    (λ w. absurd (omega (arith, z.0, w.3)))
    k)
    (λ w. ⊎_elim
    (λ (y : (n ≡ 0) × (b ≡ _)). absurd (omega (arith, y.0, w.3)))
    (λ v. apart w.0 v.0 w.1 w.2 v.1 v.2 w.3 v.3 w.4 v.4 w.5 v.5)
    k)
    h
  where
    apart : (m l s t u v : ℕ) → n ≡ m + 1 → n ≡ l + 1 → Reserves g image m s t → Reserves g image l u v
        → a ≡ s + t → b ≡ u + v → a ≡ b
    apart m l s t u v is is' r q e f =
        let same : m ≡ l = omega (arith, is, is') in
        let both = reserves s t u v (one_record_holds image (reserve_at l) (Reserve s t) (Reserve u v)
        (subst (λ (k : ℕ). Holds image (reserve_at k) (Reserve s t)) same r.reserve) q.reserve) in
        omega (arith, both.0, both.1, e, f)

-- a settled image has one edge
pub one_edge : (g : Layout) (image : Image) → IsSettled g image → (a b : ℕ) → IsEdge g image image a
    → IsEdge g image image b → a ≡ b
one_edge g image s a b h k =
    let same : k.u ≡ h.u = one_horizon g image s k.u h.u (edge_horizon g image b k) (edge_horizon g image a h) in
    one_end g image h.u a b h.ends (subst (λ (u : ℕ). EndsBelow g image u b) same k.ends)
