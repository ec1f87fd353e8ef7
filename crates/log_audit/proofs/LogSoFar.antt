-- The log of the slots below one.
use Rattle.std.proofs.Common.{◌≡◌, ◌<◌, ◌≤◌, ◌+◌, ◌-◌, ◌++◌, zero, suc, ⊎_elim, inl, inr, ℕ, List, [], ◌∷◌, length, Some, None, refl, sym, ◌∙◌, subst, ap, arith}
use Rattle.std.specs.Prelude.{slice_get}
use Rattle.std.proofs.lemmas.Option.{slice_get_within}
use Rattle.cell_types.specs.Image.{Image}
use Rattle.cell_types.specs.Layout.{Layout, reserve_at, pool_at}
use Rattle.volume_meaning.specs.Slots.{EndsBelow}
use Rattle.tamper_rules.specs.Rules.{ReserveCells, ReserveRule}
use Rattle.tamper_rules.proofs.Images.{look}
use Rattle.tamper_rules.proofs.Settled.{ended_reserves}
use Rattle.log_audit.proofs.OneMore.{get_before, get_last, length_pushed}
use Rattle.log_audit.proofs.Orders.{below_or_at}
use Rattle.log_audit.proofs.Beginning.{ended_cells}
use Rattle.log_audit.specs.Findings.{AreMetBelow}
use Rattle.log_audit.specs.Logs.{IsEnded, FitsOnDevice, end_of, IsLog}
use Rattle.log_audit.specs.declared.ended.EndedSlot.{EndedSlot}
use Rattle.log_audit.specs.declared.log.Log.{Log}

pub record LogSoFar (g : Layout) (image : Image) (n : ℕ) (slots : List EndedSlot) (edge : ℕ) : Type 0 where
  pub count : length slots ≡ n
  pub most : n ≤ g.slots
  pub each : (m : ℕ) (slot : EndedSlot) → slice_get slots m ≡ Some slot → IsEnded g image m slot × FitsOnDevice slot
  pub ends : EndsBelow g image n edge

pub none_yet : (g : Layout) (image : Image) (slots : List EndedSlot) (edge : ℕ) → slots ≡ [] → edge ≡ pool_at g → LogSoFar g image 0 slots edge
none_yet g image slots edge none at = record {
  count = ap length none;
  most = omega arith;
  each = λ m slot is. absurd (omega (arith, slice_get_within slots m slot is, ap length none));
  ends = inl (refl, at);
}

pub one_more : {g : Layout} {image : Image} {n : ℕ} {slots after : List EndedSlot} {edge end : ℕ} (slot : EndedSlot) → LogSoFar g image n slots edge
    → n < g.slots → IsEnded g image n slot → FitsOnDevice slot → after ≡ slots ++ slot ∷ [] → end ≡ end_of slot
    → LogSoFar g image (n + 1) after end
one_more {g} {image} {n} {slots} {after} {edge} {end} slot so_far less is room more at = record {
  count = ap length more ∙ length_pushed slots slot ∙ ap (λ (k : ℕ). k + 1) so_far.count;
  most = omega (arith, less);
  each = λ m other there. ⊎_elim
      (λ (earlier : m < n). so_far.each m other (sym (get_before slots slot m (omega (arith, earlier, so_far.count))) ∙ sym (ap (λ (l : List EndedSlot). slice_get l m) more) ∙ there))
      (λ (same : m ≡ n).
      let e : Some slot ≡ Some other = sym (get_last slots slot m (same ∙ sym so_far.count)) ∙ sym (ap (λ (l : List EndedSlot). slice_get l m) more) ∙ there in
      let eq : slot ≡ other = cc in
      subst (λ (s : EndedSlot). IsEnded g image m s × FitsOnDevice s) eq (subst (λ (k : ℕ). IsEnded g image k slot) (sym same) is, room))
      (below_or_at m n (let w : m < length after = slice_get_within after m other there in
      omega (arith, w, ap length more ∙ length_pushed slots slot, so_far.count)));
  ends = let r = ended_cells g image n slot is in inr (n, r.0, r.1, refl, r.2, at ∙ r.3);
}

-- where a slot's reserve cell is blank, so is each later one's
pub rest_free : (g : Layout) (image : Image) (n : ℕ) → AreMetBelow g image 4 → image (reserve_at n) ≡ None
    → (left m : ℕ) → m ≡ n + left → m < g.slots → image (reserve_at m) ≡ None
rest_free g image n met none zero m is less = ap (λ (k : ℕ). image (reserve_at k)) (omega (arith, is)) ∙ none
rest_free g image n met none (suc left) m is less = ⊎_elim
    (λ blank. blank)
    (λ w. let rule : ReserveRule g image m = met ReserveCells (omega arith) (reserve_at m) (record { found = w.0; stands = w.1 }) m less refl in
    let before = ended_reserves (rule.before (n + left) (omega (arith, is))) in
    let free : image (reserve_at (n + left)) ≡ None = rest_free g image n met none left (n + left) refl (omega (arith, is, less)) in
    absurd (let clash : None ≡ Some before.2.reserve.cell = sym free ∙ before.2.reserve.stands in cc))
    (look image (reserve_at m))

pub is_log : {g : Layout} {image : Image} {n : ℕ} {slots : List EndedSlot} {edge : ℕ} → LogSoFar g image n slots edge
    → ((m : ℕ) → n ≤ m → m < g.slots → image (reserve_at m) ≡ None) → (log : Log) → log.slots.items ≡ slots → log.edge ≡ edge → IsLog g image log
is_log {g} {image} {n} {slots} {edge} so_far free log same at = record {
  few = omega (arith, so_far.most, so_far.count, ap length same);
  each = λ m slot is. so_far.each m slot (ap (λ (l : List EndedSlot). slice_get l m) (sym same) ∙ is);
  free = λ m from less. free m (omega (arith, from, so_far.count, ap length same)) less;
  ends = let e : n ≡ length log.slots.items = omega (arith, so_far.count, ap length same) in
      subst (λ (k : ℕ). EndsBelow g image k log.edge) e (subst (EndsBelow g image n) (sym at) so_far.ends);
}

-- the slots from one on, whose reserve cell is blank
pub free_from : (g : Layout) (image : Image) (n : ℕ) → AreMetBelow g image 4 → image (reserve_at n) ≡ None
    → (m : ℕ) → n ≤ m → m < g.slots → image (reserve_at m) ≡ None
free_from g image n met none m from less = rest_free g image n met none (m - n) m (omega (arith, from)) less
