-- What a bisection of the slots has seen.
use Rattle.std.proofs.Common.{true, false, ◌≡◌, ◌<◌, ◌≤◌, ◌+◌, ◌*◌, ◌-◌, ◌/◌, ◌^◌, ◌↔◌, ℕ, suc, List, Option, Some, None, refl, sym, ap, ◌∙◌, subst, arith}
use Rattle.std.proofs.Math.Nat.{pow-succ'}
use Rattle.std.proofs.lemmas.Option.{none-some}
use Rattle.std.specs.Prelude.{IsNone, IsTrue, Ok}
use Rattle.cell_types.specs.Image.{Image, Extends}
use Rattle.cell_types.specs.Layout.{Layout, reserve_at}
use Rattle.volume_meaning.specs.Volumes.{IsWritten}
use Rattle.volume_meaning.proofs.Extending.{blank_before}
use Rattle.worm_device.specs.Views.{ViewState, Viewed, ViewReads}
use Rattle.worm_device.proofs.Resting.{viewed_then}
use Rattle.commit_record.specs.LogEnds.{IsLastReserve, IsLogEnd}

-- The slot before low is taken, and its reserve cell is this one; the slot high was free, and so was the last. Few
-- slots are left after so many halvings.
pub record HorizonSoFar (g : Layout) (low high halving : ℕ) (last : Option (List ℕ)) (old now : ViewState)
    : Type 0 where
  pub viewed : Viewed old now
  pub reads : now.base.reads ≤ old.base.reads + 1 + halving
  pub faults : now.base.faults ≡ old.base.faults
  pub order : low ≤ high
  pub inside : high < g.slots
  pub narrow : high < low + 2 ^ (24 - halving)
  pub none : IsNone last ↔ (low ≡ 0)
  pub stands : IsTrue old.base.tells → IsLastReserve now.image low last
  pub free : IsTrue old.base.tells → old.image (reserve_at high) ≡ None
  pub not_full : IsTrue old.base.tells → old.image (reserve_at (g.slots - 1)) ≡ None

true_false : true ≡ false → ⊥
true_false e = cc

halved : (h : ℕ) → h < 24 → 2 ^ (24 - h) ≡ 2 * 2 ^ (24 - (h + 1))
halved h less = let e : 24 - h ≡ suc (24 - (h + 1)) = omega arith in
    ap (λ (n : ℕ). 2 ^ n) e ∙ pow-succ' 2 (24 - (h + 1))

told : {old mid : ViewState} → Viewed old mid → IsTrue old.base.tells → IsTrue mid.base.tells
told before tells = subst IsTrue (sym before.called.tells) tells

-- what a read of a slot's reserve cell has answered stands there
answered : (at n : ℕ) (found seen : Option (List ℕ)) (old new : ViewState) → ViewReads at old new (Ok found)
    → found ≡ seen → at ≡ reserve_at n → IsTrue old.base.tells → new.image (reserve_at n) ≡ seen
answered at n found seen old new read is e tells =
    subst (λ (a : ℕ). new.image a ≡ seen) e (sym (read.answer tells) ∙ is)

-- what stood in the last reserve cell stands there still
still_last : (u : ℕ) (last : Option (List ℕ)) (old new : Image) → (IsNone last ↔ (u ≡ 0)) → Extends old new
    → IsLastReserve old u last → IsLastReserve new u last
still_last u None old new none on stands m next =
    let zero_is : u ≡ 0 = none.0 refl in absurd (omega (arith, next, zero_is))
still_last u (Some cell) old new none on stands m next = on.keeps (reserve_at m) cell (stands m next)

-- a slot whose reserve cell stands is taken
last_taken : (u : ℕ) (last : Option (List ℕ)) (image : Image) → (IsNone last ↔ (u ≡ 0)) → IsLastReserve image u last
    → (m : ℕ) → u ≡ m + 1 → IsWritten image (reserve_at m)
last_taken u None image none stands m next =
    let zero_is : u ≡ 0 = none.0 refl in absurd (omega (arith, next, zero_is))
last_taken u (Some cell) image none stands m next = record { found = cell; stands = stands m next }

-- the slot in the middle is taken: on behind it
pub taken_more : (g : Layout) (low high halving middle at : ℕ) (cell : List ℕ) (found last : Option (List ℕ))
    (old mid new : ViewState) → HorizonSoFar g low high halving last old mid
    → ViewReads at mid new (Ok found) → found ≡ Some cell → at ≡ reserve_at middle → halving < 24
    → middle ≡ low + (high - low) / 2 → low < high
    → HorizonSoFar g (middle + 1) high (halving + 1) (Some cell) old new
taken_more g low high halving middle at cell found last old mid new s read seen e less is some = record {
  viewed = viewed_then s.viewed read.viewed;
  reads = omega (arith, s.reads, read.count);
  faults = read.cause ∙ s.faults;
  order = omega (arith, is, some);
  inside = s.inside;
  narrow = omega (arith, is, s.narrow, halved halving less);
  none = (λ never. absurd (true_false never), λ zero_is. absurd (omega (arith, zero_is)));
  stands = λ tells m next. subst (λ (n : ℕ). new.image (reserve_at n) ≡ Some cell) (omega (arith, next))
      (answered at middle found (Some cell) mid new read seen e (told s.viewed tells));
  free = s.free;
  not_full = s.not_full;
}

-- it is free: on before it
pub free_more : (g : Layout) (low high halving middle at : ℕ) (found last : Option (List ℕ))
    (old mid new : ViewState) → HorizonSoFar g low high halving last old mid
    → ViewReads at mid new (Ok found) → found ≡ None → at ≡ reserve_at middle → halving < 24
    → middle ≡ low + (high - low) / 2 → low < high
    → HorizonSoFar g low middle (halving + 1) last old new
free_more g low high halving middle at found last old mid new s read seen e less is some = record {
  viewed = viewed_then s.viewed read.viewed;
  reads = omega (arith, s.reads, read.count);
  faults = read.cause ∙ s.faults;
  order = omega (arith, is, some);
  inside = omega (arith, is, some, s.inside);
  narrow = omega (arith, is, s.narrow, halved halving less);
  none = s.none;
  stands = λ tells. still_last low last mid.image new.image s.none read.viewed.image (s.stands tells);
  free = λ tells. blank_before s.viewed.image
      (blank_before read.viewed.image (answered at middle found None mid new read seen e (told s.viewed tells)));
  not_full = s.not_full;
}

-- so many halvings leave one slot
pub last_halving : (low high halving : ℕ) → 24 ≤ halving → high < low + 2 ^ (24 - halving) → high ≤ low
last_halving low high halving all narrow =
    let e : 24 - halving ≡ 0 = omega (arith, all) in
    let one : 2 ^ (24 - halving) ≡ 1 = ap (λ (n : ℕ). 2 ^ n) e in
    omega (arith, narrow, one)

-- one slot is left
pub one_left : (g : Layout) (low high halving : ℕ) (last : Option (List ℕ)) (old now : ViewState)
    → HorizonSoFar g low high halving last old now → high ≤ low
    → (high ≤ g.slots) × (now.base.faults ≡ old.base.faults) × (IsNone last ↔ (high ≡ 0))
    × (IsTrue old.base.tells → IsLogEnd g old.image now.image high × IsLastReserve now.image high last)
one_left g low high halving last old now s one =
    let same : low ≡ high = omega (arith, one, s.order) in (
      omega (arith, s.inside),
      s.faults,
      subst (λ (u : ℕ). IsNone last ↔ (u ≡ 0)) same s.none,
      λ tells. (
        record {
          horizon = record {
            most = omega (arith, s.inside);
            below = λ m next. last_taken low last now.image s.none (s.stands tells) m (omega (arith, same, next));
            free = λ less. s.free tells;
          };
          full = λ w. absurd (none-some w.found (sym (s.not_full tells) ∙ w.stands));
        },
        subst (λ (u : ℕ). IsLastReserve now.image u last) same (s.stands tells),
      ),
    )
