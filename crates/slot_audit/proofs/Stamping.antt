-- The greatest stamp of the done slots below one.
use Rattle.std.proofs.Common.{◌≡◌, ◌<◌, ◌≤◌, ◌+◌, ◌⊎◌, ⊎_elim, ℕ, max, Option, Some, None, subst, true, nat_lt, arith}
use Rattle.std.specs.Prelude.{IsTrue}
use Rattle.cell_types.specs.Image.{Image}
use Rattle.cell_types.specs.Layout.{Layout, TakesStamps, spare_at, reserve_at}
use Rattle.cell_types.specs.declared.record_cell.RecordCell.TheVariants.{Stamp}
use Rattle.volume_meaning.specs.Slots.{IsDoneSlot, HasStamp}
use Rattle.volume_meaning.proofs.Holding.{one_record_holds}
use Rattle.volume_meaning.specs.Volumes.{IsWritten}
use Rattle.tamper_rules.specs.Rules.{IsTrueStamp}
use Rattle.log_audit.proofs.Deciding.{yes}
use Rattle.log_audit.specs.Stored.{IsStored}
use Rattle.log_audit.specs.declared.stored.StoredSlot.{StoredSlot}
use Rattle.log_audit.proofs.Orders.{below_or_at, is_less, less_is}
use Rattle.slot_audit.specs.Strays.{IsLatest}

-- a slot has one stamp
pub one_stamp : {image : Image} (n : ℕ) {a b : ℕ} → HasStamp image n a → HasStamp image n b → a ≡ b
one_stamp {image} n {a} {b} x y =
    let same : Stamp a ≡ Stamp b = one_record_holds image (spare_at n) (Stamp a) (Stamp b) x y in cc

-- a stored slot is done
pub done_stored : {g : Layout} {image : Image} {s : StoredSlot} {n : ℕ} → IsStored g image s → s.slot ≡ n → IsDoneSlot g image n
done_stored {g} {image} {s} {n} stored same = subst (IsDoneSlot g image) same (record {
  start = s.start;
  length = s.length;
  bytes = s.bytes;
  journal = s.journal;
  done = stored.done;
})

module _ (g : Layout) (image : Image) (n : ℕ) where
  -- a slot with no stamp, or not done, changes nothing
  pub latest_same : (latest : Option ℕ) → IsLatest g image n latest
      → ((seconds : ℕ) → IsDoneSlot g image n → HasStamp image n seconds → ⊥) → IsLatest g image (n + 1) latest
  latest_same None is none = λ m seconds less done stamp. ⊎_elim
      (λ (earlier : m < n). is m seconds earlier done stamp)
      (λ (same : m ≡ n). none seconds (subst (IsDoneSlot g image) same done)
      (subst (λ (k : ℕ). HasStamp image k seconds) same stamp))
      (below_or_at m n less)
  latest_same (Some latest) is none = (
    (is.0.0, omega (arith, is.0.1), is.0.2, is.0.3),
    λ m seconds less done stamp. ⊎_elim
        (λ (earlier : m < n). is.1 m seconds earlier done stamp)
        (λ (same : m ≡ n). absurd (none seconds (subst (IsDoneSlot g image) same done)
        (subst (λ (k : ℕ). HasStamp image k seconds) same stamp)))
        (below_or_at m n less),
  )

  module _ (own : ℕ) (done : IsDoneSlot g image n) (stamp : HasStamp image n own) where
    -- its stamp, where it is of the slot itself
    mine : (m seconds : ℕ) → m ≡ n → HasStamp image m seconds → seconds ≡ own
    mine m seconds same has = one_stamp n (subst (λ (k : ℕ). HasStamp image k seconds) same has) stamp

    -- the first stamp
    pub latest_first : IsLatest g image n None → IsLatest g image (n + 1) (Some own)
    latest_first is = (
      (n, omega arith, done, stamp),
      λ m seconds less d has. ⊎_elim
          (λ (earlier : m < n). absurd (is m seconds earlier d has))
          (λ (same : m ≡ n). let e = mine m seconds same has in omega (arith, e))
          (below_or_at m n less),
    )

    -- the greater of two
    pub latest_more : (latest greater : ℕ) → greater ≡ max latest own → IsLatest g image n (Some latest)
        → IsLatest g image (n + 1) (Some greater)
    latest_more latest greater same is = (
      which,
      λ m seconds less d has. ⊎_elim
          (λ (earlier : m < n). let b = is.1 m seconds earlier d has in omega (arith, b, same))
          (λ (here : m ≡ n). let e = mine m seconds here has in omega (arith, e, same))
          (below_or_at m n less),
    )
      where
        order : (a b : ℕ) → (a ≤ b) ⊎ (b ≤ a)
        order a b = grind arith

        which : (m : ℕ) × (m < n + 1) × IsDoneSlot g image m × HasStamp image m greater
        which = ⊎_elim
            (λ (le : latest ≤ own). let e : own ≡ greater = omega (arith, le, same) in
            (n, omega arith, done, subst (HasStamp image n) e stamp))
            (λ (ge : own ≤ latest). let e : latest ≡ greater = omega (arith, ge, same) in
            (is.0.0, omega (arith, is.0.1), is.0.2, subst (HasStamp image is.0.0) e is.0.3))
            (order latest own)

  module _ (own : ℕ) (version : TakesStamps g) (reserve : IsWritten image (reserve_at n))
      (stamp : HasStamp image n own) where
    -- no done slot below has a stamp
    pub first_is_true : IsLatest g image n None → (IsTrue true → IsTrueStamp g image n) × (IsTrueStamp g image n → IsTrue true)
    first_is_true none = yes (record {
      version = version;
      reserve = reserve;
      seconds = own;
      stamp = stamp;
      rises = λ m lower less done has. absurd (none m lower less done has);
    })

    -- the greatest stamp of the done slots below is smaller
    pub greater_is_true : (latest : ℕ) → IsLatest g image n (Some latest)
        → (IsTrue (nat_lt latest own) → IsTrueStamp g image n) × (IsTrueStamp g image n → IsTrue (nat_lt latest own))
    greater_is_true latest is = (
      λ greater. record {
        version = version;
        reserve = reserve;
        seconds = own;
        stamp = stamp;
        rises = λ m lower less done has.
            let most = is.1 m lower less done has in omega (arith, most, less_is latest own greater);
      },
      λ rule.
          let rises = rule.rises is.0.0 latest is.0.1 is.0.2 is.0.3 in
          is_less latest own (omega (arith, rises, one_stamp n rule.stamp stamp)),
    )
