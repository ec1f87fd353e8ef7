-- Of what a log says there is one proof at most, so that a volume whose cells are kept can carry it.
use Rattle.std.specs.Prelude.{◌≡◌, ◌+◌, ℕ, List, Some}
use Rattle.std.proofs.Common.{ap, subst, sym, arith, inl, inr, ◌∙◌}
use Rattle.std.proofs.Props.{props}
use Rattle.cell_types.specs.Image.{Image}
use Rattle.cell_types.specs.Layout.{Layout, reserve_at, spare_at, pool_at}
use Rattle.cell_types.specs.Records.{Fits, IsRecordCell, IsWellFormed}
use Rattle.cell_types.specs.declared.record_cell.RecordCell.{RecordCell}
use Rattle.cell_types.specs.declared.record_cell.RecordCell.TheVariants.{Volume, Reserve, Commit, Abandon, Done, Posting, Jump, Bucket, Child, Stamp}
use Rattle.volume_meaning.specs.Slots.{EndsBelow, HasStamp, IsStamped, Reserves}
use Rattle.volume_meaning.specs.Volumes.{Holds}
use Rattle.volume_meaning.proofs.Holding.{one_record_holds, some_is}
use Rattle.log_audit.specs.Logs.{IsEnded, FitsOnDevice, IsLog}
use Rattle.log_audit.specs.declared.ended.EndedSlot.{EndedSlot}
use Rattle.log_audit.specs.declared.ended.EndedSlot.TheVariants as ended
use Rattle.log_audit.specs.declared.log.Log.{Log}

fits_prop : (r : RecordCell) → IsProp (Fits r)
fits_prop (Volume version slots lists cells) = Prim.hlevel props
fits_prop (Reserve start length) = Prim.hlevel props
fits_prop (Commit bytes journal) = Prim.hlevel props
fits_prop Abandon = Prim.hlevel props
fits_prop (Done slot) = Prim.hlevel props
fits_prop (Posting key last tag) = Prim.hlevel props
fits_prop (Jump target) = Prim.hlevel props
fits_prop (Bucket slot fingerprint) = Prim.hlevel props
fits_prop (Child target) = Prim.hlevel props
fits_prop (Stamp seconds) = Prim.hlevel props

well_formed_prop : (r : RecordCell) (at : ℕ) → IsProp (IsWellFormed r at)
well_formed_prop (Volume version slots lists cells) at = Prim.hlevel props
well_formed_prop (Reserve start length) at = Prim.hlevel props
well_formed_prop (Commit bytes journal) at = Prim.hlevel props
well_formed_prop Abandon at = Prim.hlevel props
well_formed_prop (Done slot) at = Prim.hlevel props
well_formed_prop (Posting key last tag) at = Prim.hlevel props
well_formed_prop (Jump target) at = Prim.hlevel props
well_formed_prop (Bucket slot fingerprint) at = Prim.hlevel props
well_formed_prop (Child target) at = Prim.hlevel props
well_formed_prop (Stamp seconds) at = Prim.hlevel props

is_cell_prop : (r : RecordCell) (at : ℕ) (cell : List ℕ) → IsProp (IsRecordCell r at cell)
is_cell_prop r at cell = Prim.hlevel (props, fits_prop, well_formed_prop)

stands_prop : (image : Image) (at : ℕ) (cell : List ℕ) → IsProp (image at ≡ Some cell)
stands_prop image at cell = Prim.hlevel props

holds_prop : (image : Image) (at : ℕ) (r : RecordCell) → IsProp (Holds image at r)
holds_prop image at r h k = one (some_is h.cell k.cell (sym h.stands ∙ k.stands)) h.stands k.stands h.is k.is where
  made : (cell : List ℕ) → image at ≡ Some cell → IsRecordCell r at cell → Holds image at r
  made cell stands is = record { cell = cell; stands = stands; is = is }

  one : {c d : List ℕ} → c ≡ d → (s : image at ≡ Some c) (t : image at ≡ Some d) → (i : IsRecordCell r at c)
      (j : IsRecordCell r at d) → made c s i ≡ made d t j
  one {c} e s t i j = subst
      (λ (d : List ℕ). (t : image at ≡ Some d) (j : IsRecordCell r at d) → made c s i ≡ made d t j) e
      (λ t j. ap (λ (x : image at ≡ Some c). made c x i) (stands_prop image at c s t)
      ∙ ap (λ (x : IsRecordCell r at c). made c t x) (is_cell_prop r at c i j)) t j

same_seconds : (s t : ℕ) → Stamp s ≡ Stamp t → s ≡ t
same_seconds s t e = cc

stamped_prop : (image : Image) (n : ℕ) → IsProp (IsStamped image n)
stamped_prop image n a b =
    one (same_seconds a.seconds b.seconds (one_record_holds image (spare_at n) _ _ a.stamp b.stamp)) a.stamp b.stamp where
      made : (seconds : ℕ) → HasStamp image n seconds → IsStamped image n
      made seconds stamp = record { seconds = seconds; stamp = stamp }

      one : {s t : ℕ} → s ≡ t → (p : HasStamp image n s) (q : HasStamp image n t) → made s p ≡ made t q
      one {s} e p q = subst (λ (t : ℕ). (q : HasStamp image n t) → made s p ≡ made t q) e
          (λ q. ap (λ (x : HasStamp image n s). made s x) (holds_prop image (spare_at n) (Stamp s) p q)) q

ended_prop : (g : Layout) (image : Image) (n : ℕ) (slot : EndedSlot) → IsProp (IsEnded g image n slot)
ended_prop g image n (ended.Abandoned start length) = Prim.hlevel (props, holds_prop)
ended_prop g image n (ended.Done start length bytes journal) = Prim.hlevel (props, holds_prop, stamped_prop)

on_device_prop : (slot : EndedSlot) → IsProp (FitsOnDevice slot)
on_device_prop (ended.Abandoned start length) = Prim.hlevel props
on_device_prop (ended.Done start length bytes journal) = Prim.hlevel props

same_range : (s l t k : ℕ) → Reserve s l ≡ Reserve t k → (s ≡ t) × (l ≡ k)
same_range s l t k e = (cc, cc)

module _ (g : Layout) (image : Image) (n at : ℕ) where
  abbrev Last : ℕ → ℕ → ℕ → Type 0
  Last m start length = (n ≡ m + 1) × Reserves g image m start length × (at ≡ start + length)

  last_prop : (m start length : ℕ) → IsProp (Last m start length)
  last_prop m start length = Prim.hlevel (props, holds_prop)

  abbrev made : (m start length : ℕ) → Last m start length → EndsBelow g image n at
  made m start length last = inr (m, start, length, last.0, last.1, last.2)

  one : {m k s t l j : ℕ} → m ≡ k → s ≡ t → l ≡ j → (p : Last m s l) (q : Last k t j) → made m s l p ≡ made k t j q
  one {m} {k} {s} {t} {l} {j} a b c p q = subst (λ (k : ℕ). (q : Last k t j) → made m s l p ≡ made k t j q) a
      (λ q. subst (λ (t : ℕ). (q : Last m t j) → made m s l p ≡ made m t j q) b
      (λ q. subst (λ (j : ℕ). (q : Last m s j) → made m s l p ≡ made m s j q) c
      (λ q. ap (λ (x : Last m s l). made m s l x) (last_prop m s l p q)) q) q) q

  first_prop : IsProp ((n ≡ 0) × (at ≡ pool_at g))
  first_prop = Prim.hlevel props

  ends_prop : IsProp (EndsBelow g image n at)
  ends_prop (inl p) (inl q) = ap (λ (x : (n ≡ 0) × (at ≡ pool_at g)). inl x) (first_prop p q)
  ends_prop (inl p) (inr (m, start, length, is, reserves, ends)) = absurd (omega (arith, p.0, is))
  ends_prop (inr (m, start, length, is, reserves, ends)) (inl q) = absurd (omega (arith, is, q.0))
  ends_prop (inr (m, start, length, is, reserves, ends)) (inr (k, t, j, same, others, there)) =
      let one_slot : m ≡ k = omega (arith, is, same) in
      let here : Reserves g image m t j = subst (λ (k : ℕ). Reserves g image k t j) (sym one_slot) others in
      let range =
      same_range start length t j (one_record_holds image (reserve_at m) _ _ reserves.reserve here.reserve) in
      one one_slot range.0 range.1 (is, reserves, ends) (same, others, there)

pub is_log_prop : (g : Layout) (image : Image) (log : Log) → IsProp (IsLog g image log)
is_log_prop g image log = Prim.hlevel (props, ended_prop, on_device_prop, ends_prop)
