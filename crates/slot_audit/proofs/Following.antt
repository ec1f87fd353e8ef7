-- Tiles that follow one another, taken from the last to the first.
use Rattle.std.proofs.Common.{rules, nat_eq, List, [], ◌∷◌, length, ◌≡◌, ◌≢◌, ◌↔◌, None, false, ◌<◌, ◌≤◌, ◌+◌, ◌⊎◌, ⊎_elim, inl, inr, ℕ, Option, Some, refl, sym, ◌∙◌, subst, arith}
use Rattle.std.specs.Prelude.{IsSome, IsTrue}
use Rattle.std.specs.Ordering.{nat_cmp, is_lt}
use Rattle.std.specs.BTreeMap.{BTreeMap, get, is_at, btree_map_len, IsUpperBound, Updates}
use Rattle.std.specs.Map.{lookup}
use Rattle.std.proofs.lemmas.Bool.{cases_order, cases_eq}
use Rattle.std.proofs.lemmas.Grind.{common_steps}
use Rattle.std.proofs.lemmas.Option.{none-some}
use Rattle.log_audit.proofs.Orders.{below_or_not}
use Rattle.slot_audit.specs.Tables.{Follow, ended, tile, LieWithin}

one_value : (sizes : ℕ → Option ℕ) (t z w : ℕ) → sizes t ≡ Some z → sizes t ≡ Some w → z ≡ w
one_value sizes t z w a b = let e : Some z ≡ Some w = sym a ∙ b in cc

module _ (sizes : ℕ → Option ℕ) (to : ℕ) where
  -- they do not pass the end
  most : (at : ℕ) → Follow sizes to at → at ≤ to
  most at (ended a same) = omega (arith, same)
  most at (tile a size less stands none rest) = omega (arith, less)

  -- where they begin, one of them does, or they are at the end
  first : (at : ℕ) → Follow sizes to at → (at ≡ to) ⊎ ((size : ℕ) × (sizes at ≡ Some size))
  first at (ended a same) = inl same
  first at (tile a size less stands none rest) = inr (size, stands)

  -- behind each of them they go on
  behind_each : (at : ℕ) → Follow sizes to at → (t z : ℕ) → sizes t ≡ Some z → at ≤ t → t < to
      → ((u w : ℕ) → t < u → u < t + z → sizes u ≡ Some w → ⊥) × Follow sizes to (t + z)
  behind_each at (ended a same) t z stands from below = absurd (omega (arith, same, from, below))
  behind_each at (tile a size less here none rest) t z stands from below = ⊎_elim
      (λ (same : t ≡ a).
      let eq : z ≡ size = one_value sizes a z size (subst (λ (k : ℕ). sizes k ≡ Some z) same stands) here in (
        λ u w up down is. none u w (omega (arith, up, same)) (omega (arith, down, same, eq)) is,
        subst (Follow sizes to) (omega (arith, same, eq)) rest,
      ))
      (λ differ. ⊎_elim
      (λ lower. absurd (omega (arith, lower, from)))
      (λ above. ⊎_elim
      (λ (within : t < a + size). absurd (none t z above within stands))
      (λ (past : a + size ≤ t). behind_each (a + size) rest t z stands past below)
      (below_or_not t (a + size)))
      differ)
      (cases_order t a)

-- What was taken: the tiles from `behind` on follow one another, and those below it are left.
pub record Taken (sizes left : ℕ → Option ℕ) (from to behind : ℕ) : Type 0 where
  pub kept : (t z : ℕ) → left t ≡ Some z → (sizes t ≡ Some z) × (t < behind)
  pub rest : (t z : ℕ) → sizes t ≡ Some z → t < behind → left t ≡ Some z
  pub follow : Follow sizes to behind
  pub low : from ≤ behind

pub none_taken : (sizes : ℕ → Option ℕ) (from to : ℕ) → from ≤ to → LieWithin sizes from to → Taken sizes sizes from to to
none_taken sizes from to order within = record {
  kept = λ t z is. (is, (within t z is).1);
  rest = λ t z is less. is;
  follow = ended to refl;
  low = order;
}

module _ {sizes left : ℕ → Option ℕ} {from to behind : ℕ} (within : LieWithin sizes from to)
    (taken : Taken sizes left from to behind) where
  -- the last one that is left
  module _ (t z : ℕ) (stands : left t ≡ Some z) (last : (u w : ℕ) → left u ≡ Some w → u ≤ t) where
    here : sizes t ≡ Some z
    here = (taken.kept t z stands).0

    less : t < behind
    less = (taken.kept t z stands).1

    -- none begins between it and what was taken
    between : (u w : ℕ) → t < u → u < behind → sizes u ≡ Some w → ⊥
    between u w up down is = let e = last u w (taken.rest u w is down) in omega (arith, e, up)

    -- it ends where they begin
    pub one_taken : (new : ℕ → Option ℕ) → ((u w : ℕ) → new u ≡ Some w → (left u ≡ Some w) × (u < t))
        → ((u w : ℕ) → left u ≡ Some w → u < t → new u ≡ Some w) → t + z ≡ behind → Taken sizes new from to t
    one_taken new kept rest ends = record {
      kept = λ u w is. let k = kept u w is in ((taken.kept u w k.0).0, k.1);
      rest = λ u w is below. rest u w (taken.rest u w is (omega (arith, below, less))) below;
      follow = tile t z (within t z here).1 here
          (λ u w up down is. between u w up (omega (arith, down, ends)) is)
          (subst (Follow sizes to) (sym ends) taken.follow);
      low = (within t z here).0;
    }

    -- it does not
    pub not_taken : (t + z ≡ behind → ⊥) → Follow sizes to from → ⊥
    not_taken differs whole =
        let after = behind_each sizes to from whole t z here (within t z here).0 (within t z here).1 in
        let end = most sizes to (t + z) after.1 in
        ⊎_elim (λ same. differs same)
        (λ differ. ⊎_elim
        (λ (short : t + z < behind). ⊎_elim
        (λ (over : t + z ≡ to). let top = most sizes to behind taken.follow in omega (arith, over, top, short))
        (λ next. between (t + z) next.0 (omega (arith, (within t z here).2)) short next.1)
        (first sizes to (t + z) after.1))
        (λ (long : behind < t + z). ⊎_elim
        (λ (over : behind ≡ to). omega (arith, over, end, long))
        (λ next. after.0 behind next.0 less long next.1)
        (first sizes to behind taken.follow))
        differ)
        (cases_order (t + z) behind)

  -- none is left
  pub all_taken : ((t z : ℕ) → left t ≡ Some z → ⊥) → Follow sizes to from → behind ≡ from
  all_taken none whole = ⊎_elim
      (λ same. same)
      (λ differ. ⊎_elim
      (λ under. absurd (omega (arith, under, taken.low)))
      (λ (above : from < behind). ⊎_elim
      (λ (over : from ≡ to). absurd (let top = most sizes to behind taken.follow in omega (arith, over, top, above)))
      (λ next. absurd (none from next.0 (taken.rest from next.0 next.1 above)))
      (first sizes to from whole))
      differ)
      (cases_order behind from)

not_behind : (u t : ℕ) → is_lt (nat_cmp t u) ≡ false → u ≤ t
not_behind u t h = grind (arith, common_steps)

below : (u t : ℕ) → u ≤ t → u ≢ t → u < t
below u t h differs = ⊎_elim (λ same. absurd (differs same))
    (λ differ. ⊎_elim (λ less. less) (λ above. absurd (omega (arith, above, h))) differ) (cases_order u t)

some_value : (o : Option ℕ) (w : ℕ) → o ≡ Some w → IsSome o
some_value (Some v) w is = search rules
some_value None w is = absurd (none-some w is)

-- A map whose last entry was taken.
module _ (old new : BTreeMap ℕ ℕ) (t : ℕ) (last : IsUpperBound nat_cmp old t) (updates : Updates nat_cmp old new t None) where
  -- it was the last one
  pub is_last : (u w : ℕ) → get nat_cmp old u ≡ Some w → u ≤ t
  is_last u w is = not_behind u t (last u (some_value (get nat_cmp old u) w is))

  other : (u : ℕ) → u ≢ t → get nat_cmp new u ≡ get nat_cmp old u
  other u differs = grind (arith, common_steps, updates.2 u)

  pub was_left : (u w : ℕ) → get nat_cmp new u ≡ Some w → (get nat_cmp old u ≡ Some w) × (u < t)
  was_left u w is = ⊎_elim
      (λ (same : u ≡ t). absurd (none-some w (sym (subst (λ (k : ℕ). get nat_cmp new k ≡ None) (sym same) updates.1) ∙ is)))
      (λ differs. let before = sym (other u differs) ∙ is in
      let low = is_last u w before in (before, below u t low differs))
      (cases_eq u t)

  pub stays_left : (u w : ℕ) → get nat_cmp old u ≡ Some w → u < t → get nat_cmp new u ≡ Some w
  stays_left u w is less = other u (λ same. omega (arith, same, less)) ∙ is

no_key : (es : List (ℕ × ℕ)) (t z : ℕ) → (0 < length es → ⊥) → lookup (is_at (nat_cmp t)) es ≡ Some z → ⊥
no_key [] t z none is = none-some z is
no_key (e ∷ es) t z none is = none (omega arith)

-- a map without entries has no key
pub none_left : (m : BTreeMap ℕ ℕ) → (0 < btree_map_len m → ⊥) → (t z : ℕ) → get nat_cmp m t ≡ Some z → ⊥
none_left m none t z is = no_key m.entries t z none is

pub not_some : {X : Type 0} {o : Option X} → o ≡ None → IsSome o → ⊥
not_some {X} {o = None} is some = search rules
not_some {X} {o = Some x} is some = none-some x (sym is)

-- they come to an end where they are to begin
pub same_place : (sizes : ℕ → Option ℕ) (from to behind : ℕ) → Follow sizes to behind → (Follow sizes to from → behind ≡ from)
    → (IsTrue (nat_eq behind from) ↔ Follow sizes to from)
same_place sizes from to behind follow ends = (
  λ yes. subst (Follow sizes to) (same_is behind from yes) follow,
  λ whole. is_same behind from (ends whole),
)
  where
    same_is : (a b : ℕ) → IsTrue (nat_eq a b) → a ≡ b
    same_is a b h = grind arith

    is_same : (a b : ℕ) → a ≡ b → IsTrue (nat_eq a b)
    is_same a b h = grind arith
