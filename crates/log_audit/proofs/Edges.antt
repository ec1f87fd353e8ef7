-- The edge, by the log.
use Rattle.std.proofs.Common.{◌≡◌, ◌<◌, ◌≤◌, ⊎_elim, ℕ, length, Option, Some, None, refl, sym, ◌∙◌, subst, arith}
use Rattle.std.specs.Prelude.{slice_get}
use Rattle.std.proofs.lemmas.Option.{none-some}
use Rattle.cell_types.specs.Image.{Image}
use Rattle.cell_types.specs.Layout.{Layout, reserve_at}
use Rattle.volume_meaning.specs.Slots.{Reserves, EndsBelow, IsEdge}
use Rattle.log_audit.specs.Logs.{IsLog}
use Rattle.log_audit.specs.declared.ended.EndedSlot.{EndedSlot}
use Rattle.log_audit.specs.declared.log.Log.{Log}
use Rattle.log_audit.proofs.Beginning.{ended_cells, one_reservation}
use Rattle.log_audit.proofs.Logged.{past_end}
use Rattle.log_audit.proofs.Orders.{below_or_not}

module _ (g : Layout) (image : Image) (log : Log) (is : IsLog g image log) where
  -- where the log ends there is an edge
  pub is_edge : IsEdge g image image log.edge
  is_edge = record { u = length log.slots.items; most = is.few; free = λ less. is.free _ (omega arith) less; ends = is.ends }

  -- a slot of the log reserves cells, and none behind it does
  taken : (n : ℕ) → image (reserve_at n) ≡ None → n < g.slots → length log.slots.items ≤ n
  taken n none less = at (slice_get log.slots.items n) refl
    where
      at : (found : Option EndedSlot) → slice_get log.slots.items n ≡ found → length log.slots.items ≤ n
      at None past = past_end log.slots.items n past
      at (Some slot) some =
          let r = (ended_cells g image n slot (is.each n slot some).0).2 in
          absurd (none-some r.reserve.cell (sym none ∙ r.reserve.stands))

  behind : (n start size : ℕ) → Reserves g image n start size → n < length log.slots.items
  behind n start size r = ⊎_elim (λ less. less)
      (λ past. absurd (none-some r.reserve.cell (sym (is.free n past r.slot) ∙ r.reserve.stands)))
      (below_or_not n (length log.slots.items))

  -- and no other edge
  pub one_edge : (at : ℕ) → IsEdge g image image at → at ≡ log.edge
  one_edge at edge = ends edge.u same edge.ends
    where
      up : (u : ℕ) → EndsBelow g image u at → u ≤ length log.slots.items
      up u e = ⊎_elim (λ z. omega (arith, z.0)) (λ w. let b = behind w.0 w.1 w.2 w.4 in omega (arith, b, w.3)) e

      same : edge.u ≡ length log.slots.items
      same = ⊎_elim
          (λ (free : edge.u < g.slots). let t = taken edge.u (edge.free free) free in let b = up edge.u edge.ends in omega (arith, t, b))
          (λ (full : g.slots ≤ edge.u). let b = up edge.u edge.ends in omega (arith, full, is.few, b))
          (below_or_not edge.u g.slots)

      ends : (u : ℕ) → u ≡ length log.slots.items → EndsBelow g image u at → at ≡ log.edge
      ends u all e = ⊎_elim
          (λ z. ⊎_elim
          (λ z'. z.1 ∙ sym z'.1)
          (λ w'. absurd (omega (arith, z.0, all, w'.3)))
          is.ends)
          (λ w. ⊎_elim
          (λ z'. absurd (omega (arith, w.3, all, z'.0)))
          (λ w'. let n : w'.0 ≡ w.0 = omega (arith, w.3, w'.3, all) in
          let one = one_reservation g image w.0 w.1 w.2 w'.1 w'.2 w.4
          (subst (λ (k : ℕ). Reserves g image k w'.1 w'.2) n w'.4) in
          omega (arith, one.0, one.1, w.5, w'.5))
          is.ends)
          e
