-- The nodes of all levels, each seen once.
use Rattle.std.proofs.Common.{◌≡◌, ◌<◌, ◌≤◌, ◌+◌, ◌-◌, ◌↔◌, ◌⊎◌, ◌++◌, ⊎_elim, inl, inr, ℕ, true, List, [], ◌∷◌, length, refl, sym, ◌∙◌, subst, ap, arith}
use Rattle.std.specs.Prelude.{slice_index, Contains, IfOk, Result, Ok, Err}
use Rattle.std.specs.BTreeSet.{BTreeSet, contains, Updates as SetUpdates}
use Rattle.std.specs.Cmp.{nat_cmp_total}
use Rattle.std.specs.List.Sorted.{IsStrictlyIncreasing}
use Rattle.std.specs.Ordering.{nat_cmp}
use Rattle.std.proofs.lemmas.List.Elements.{Contains-append_left, Contains-get_or, Contains-push, Contains-push_cases}
use Rattle.std.proofs.lemmas.Map.Lookups.{exact_unsigned}
use Rattle.std.proofs.lemmas.Map.Views.{btree_set_contains_iff}
use Rattle.cell_types.specs.Image.{Image}
use Rattle.cell_types.specs.Layout.{Layout, IsLayout}
use Rattle.cell_types.specs.declared.record_cell.RecordCell.TheVariants.{Child}
use Rattle.volume_meaning.specs.Nodes.{IsNode, root, under}
use Rattle.volume_meaning.specs.Volumes.{Holds}
use Rattle.log_audit.proofs.Orders.{below_or_at}
use Rattle.list_audit.proofs.Taking.{kept_number, more_numbers, same_number}
use Rattle.tree_audit.specs.Nodes.{AddsRow, AreNodesInside, AreOnLevel, AreUnder, IsSomeNode, IsTarget}
use Rattle.tree_audit.specs.Numbers.{AreAll}
use Rattle.tree_audit.proofs.Closing.{deepest, node_inside, same_default}

-- the number was seen
abbrev pub IsSeen : BTreeSet ℕ → ℕ → Type 0
IsSeen seen x = contains nat_cmp seen x ≡ true

-- each node to which a child cell of this one leads was seen
abbrev pub IsFollowed : Layout → Image → BTreeSet ℕ → ℕ → Type 0
IsFollowed g image seen x = (target : ℕ) → IsTarget g image x 32 target → IsSeen seen target

-- the nodes down to this level were seen, and those of a row are left to follow
pub record AreSeen (g : Layout) (image : Image) (level : ℕ) (seen : BTreeSet ℕ) (row : List ℕ) : Type 0 where
  pub each : (x : ℕ) → IsSeen seen x → IsSomeNode g image x
  pub all : (v node : ℕ) → v ≤ level → IsNode g image v node → IsSeen seen node
  pub here : (x : ℕ) → Contains row x → IsNode g image level x
  pub followed : (x : ℕ) → IsSeen seen x → Contains row x ⊎ IsFollowed g image seen x

-- no number was
pub none_seen : (seen : BTreeSet ℕ) → seen.keys ≡ [] → (x : ℕ) → IsSeen seen x → ⊥
none_seen seen empty x has = let c = (btree_set_contains_iff nat_cmp_total exact_unsigned seen x).0 has in omega (arith, c.1, ap length empty)

-- what both clauses of a result give
pub both_ok : {X Y : Type 0} (P Q R : X → Type 0) (r : Result X Y) → ((x : X) → P x → Q x → R x) → IfOk r P → IfOk r Q → IfOk r R
both_ok P Q R (Ok x) gives p q = gives x p q
both_ok P Q R (Err e) gives p q = tt

-- the root was seen
pub root_seen : {g : Layout} {image : Image} {first : List ℕ} {old new : BTreeSet ℕ} {fresh : List ℕ} → ((x : ℕ) → IsSeen old x → ⊥)
    → AreOnLevel g image 0 first → AddsRow first old new fresh → AreSeen g image 0 new fresh
root_seen {g} {image} {first} {old} {new} {fresh} none here adds = record {
  each = λ x seen. (0, of_row x (in_row x seen));
  all = λ v node low is. (adds.each node).1 (inr (here.all node (subst (λ (w : ℕ). IsNode g image w node) (omega (arith, low)) is)));
  here = λ x h. of_row x (adds.fresh_is x h);
  followed = λ x seen. ⊎_elim
      (λ (h : Contains fresh x). inl h)
      (λ (h : IsSeen old x). absurd (none x h))
      (adds.rest x (in_row x seen));
}
  where
    in_row : (x : ℕ) → IsSeen new x → Contains first x
    in_row x seen = ⊎_elim
        (λ (h : IsSeen old x). absurd (none x h))
        (λ (h : Contains first x). h)
        ((adds.each x).0 seen)

    of_row : (x : ℕ) → Contains first x → IsNode g image 0 x
    of_row x h = subst (IsNode g image 0) (same_default first h.0 0 x h.1 ∙ h.2) (here.each h.0 h.1)

-- the nodes of a row lie on the device
pub row_inside : {g : Layout} {image : Image} {level : ℕ} {seen : BTreeSet ℕ} {row : List ℕ} → IsLayout g → AreSeen g image level seen row
    → AreNodesInside g row
row_inside {g} {image} {level} {seen} {row} layout are index less = node_inside layout (are.here (slice_index row index) (Contains-get_or row index 0 less))

-- and those of the level below
pub level_seen : {g : Layout} {image : Image} {level : ℕ} {row beneath : List ℕ} {old new : BTreeSet ℕ} {fresh : List ℕ} → level < 63
    → AreSeen g image level old row → AreUnder g image row beneath → AddsRow beneath old new fresh → AreSeen g image (level + 1) new fresh
level_seen {g} {image} {level} {row} {beneath} {old} {new} {fresh} levels are targets adds = record {
  each = λ x seen. ⊎_elim
      (λ (h : IsSeen old x). are.each x h)
      (λ (h : Contains beneath x). (level + 1, below x h))
      ((adds.each x).0 seen);
  all = λ v node low is. ⊎_elim
      (λ (above : v < level + 1). kept node (are.all v node (omega (arith, above)) is))
      (λ (same : v ≡ level + 1). last node (subst (λ (w : ℕ). IsNode g image w node) same is))
      (below_or_at v (level + 1) (omega (arith, low)));
  here = λ x h. below x (adds.fresh_is x h);
  followed = λ x seen. ⊎_elim
      (λ (h : IsSeen old x). inr (follows x h))
      (λ (h : Contains beneath x). ⊎_elim
      (λ (f : Contains fresh x). inl f)
      (λ (o : IsSeen old x). inr (follows x o))
      (adds.rest x h))
      ((adds.each x).0 seen);
}
  where
    kept : (x : ℕ) → IsSeen old x → IsSeen new x
    kept x h = (adds.each x).1 (inl h)

    -- a target of a node of the row is among those beneath
    targeted : (x target : ℕ) → Contains row x → IsTarget g image x 32 target → Contains beneath target
    targeted x target h t = (targets.each target).1 (record {
      index = h.0;
      first = h.1;
      inside = h.1;
      target_of = subst (λ (k : ℕ). IsTarget g image k 32 target) (sym (same_default row h.0 0 x h.1 ∙ h.2)) t;
    })

    follows : (x : ℕ) → IsSeen old x → IsFollowed g image new x
    follows x h target t = ⊎_elim
        (λ (r : Contains row x). (adds.each target).1 (inr (targeted x target r t)))
        (λ (f : IsFollowed g image old x). kept target (f target t))
        (are.followed x h)

    below : (x : ℕ) → Contains beneath x → IsNode g image (level + 1) x
    below x h =
        let u = (targets.each x).0 h in
        let t = u.target_of in
        let above = slice_index row u.index in
        let cell : above + t.place ≡ above + 16 + (t.place - 16) = omega (arith, t.from) in
        under (level + 1) x level above (t.place - 16) refl (are.here above (Contains-get_or row u.index 0 u.inside)) (omega (arith, t.to, t.from)) levels
        (subst (λ (c : ℕ). Holds image c (Child x)) cell t.leads.held) t.leads.from t.leads.to

    last : (node : ℕ) → IsNode g image (level + 1) node → IsSeen new node
    last node (root _ _ zero_level is) = absurd (omega (arith, zero_level))
    last node (under _ _ v above x next rest low less child from to) =
        let cell : above + 16 + x ≡ above + (16 + x) = omega arith in
        follows above (are.all v above (omega (arith, next)) rest) node (record {
          place = 16 + x;
          from = omega arith;
          to = omega (arith, low);
          leads = record { held = subst (λ (c : ℕ). Holds image c (Child node)) cell child; from = from; to = to };
        })

-- all were, where those of the last level were
pub all_seen : {g : Layout} {image : Image} {level : ℕ} {seen : BTreeSet ℕ} {row numbers : List ℕ} → AreSeen g image level seen row → 63 ≤ level
    → IsStrictlyIncreasing numbers → ((x : ℕ) → Contains numbers x ↔ IsSeen seen x) → AreAll (IsSomeNode g image) numbers
all_seen are last rising same = record {
  rising = rising;
  each = λ x. (
    λ h. are.each x ((same x).0 h),
    λ node. (same x).1 (are.all node.0 x (let most = deepest node.1 in omega (arith, most, last)) node.1),
  );
}

-- the number is one of the first n of the row
pub record IsAmongFirst (row : List ℕ) (n x : ℕ) : Type 0 where
  pub k : ℕ
  pub first : k < n
  pub inside : k < length row
  pub is : slice_index row k ≡ x

-- the first n of a row were added
pub record AddsFirst (row : List ℕ) (n : ℕ) (old new : BTreeSet ℕ) (fresh : List ℕ) : Type 0 where
  pub each : (x : ℕ) → IsSeen new x ↔ (IsSeen old x ⊎ IsAmongFirst row n x)
  pub fresh_is : (x : ℕ) → Contains fresh x → IsAmongFirst row n x
  pub rest : (x : ℕ) → IsAmongFirst row n x → Contains fresh x ⊎ IsSeen old x

pub none_first : (row : List ℕ) (old : BTreeSet ℕ) {fresh : List ℕ} → fresh ≡ [] → AddsFirst row 0 old old fresh
none_first row old {fresh} empty = record {
  each = λ x. (
    λ h. inl h,
    λ h. ⊎_elim (λ (o : IsSeen old x). o) (λ (f : IsAmongFirst row 0 x). absurd (omega (arith, f.first))) h,
  );
  fresh_is = λ x h. absurd (omega (arith, h.1, ap length empty));
  rest = λ x f. absurd (omega (arith, f.first));
}

module _ {row : List ℕ} {n number : ℕ} (inside : n < length row) (number_is : number ≡ slice_index row n) where
  here : IsAmongFirst row (n + 1) number
  here = record { k = n; first = omega arith; inside = inside; is = sym number_is }

  more : (x : ℕ) → IsAmongFirst row n x → IsAmongFirst row (n + 1) x
  more x f = record { k = f.k; first = omega (arith, f.first); inside = f.inside; is = f.is }

  split : (x : ℕ) → IsAmongFirst row (n + 1) x → IsAmongFirst row n x ⊎ (x ≡ number)
  split x f = ⊎_elim
      (λ (less : f.k < n). inl (record { k = f.k; first = less; inside = f.inside; is = f.is }))
      (λ (same : f.k ≡ n). inr (sym f.is ∙ ap (slice_index row) same ∙ sym number_is))
      (below_or_at f.k n f.first)

module _ {row : List ℕ} {n number : ℕ} {old : BTreeSet ℕ} (new after : BTreeSet ℕ) {fresh : List ℕ} (so_far : AddsFirst row n old new fresh)
    (inside : n < length row) (number_is : number ≡ slice_index row n) (updates : SetUpdates nat_cmp new after number true) where
  each_more : (x : ℕ) → IsSeen after x ↔ (IsSeen old x ⊎ IsAmongFirst row (n + 1) x)
  each_more x = (
    λ h. ⊎_elim
        (λ (same : x ≡ number). inr (subst (IsAmongFirst row (n + 1)) (sym same) (here inside number_is)))
        (λ (before : IsSeen new x). ⊎_elim
        (λ (o : IsSeen old x). inl o)
        (λ (f : IsAmongFirst row n x). inr (more inside number_is x f))
        ((so_far.each x).0 before))
        (more_numbers new after number updates x h),
    λ h. ⊎_elim
        (λ (o : IsSeen old x). kept_number new after number updates x ((so_far.each x).1 (inl o)))
        (λ (f : IsAmongFirst row (n + 1) x). ⊎_elim
        (λ (g : IsAmongFirst row n x). kept_number new after number updates x ((so_far.each x).1 (inr g)))
        (λ (same : x ≡ number). subst (IsSeen after) (sym same) (same_number new after number updates))
        (split inside number_is x f))
        h,
  )

  -- one that was seen before
  pub one_seen : IsSeen new number → AddsFirst row (n + 1) old after fresh
  one_seen was = record {
    each = each_more;
    fresh_is = λ x h. more inside number_is x (so_far.fresh_is x h);
    rest = λ x f. ⊎_elim
        (λ (g : IsAmongFirst row n x). so_far.rest x g)
        (λ (same : x ≡ number). ⊎_elim
        (λ (o : IsSeen old number). inr (subst (IsSeen old) (sym same) o))
        (λ (g : IsAmongFirst row n number). so_far.rest x (subst (IsAmongFirst row n) (sym same) g))
        ((so_far.each number).0 was))
        (split inside number_is x f);
  }

  -- one that was not
  pub one_fresh : {now : List ℕ} → now ≡ fresh ++ number ∷ [] → AddsFirst row (n + 1) old after now
  one_fresh {now} is = record {
    each = each_more;
    fresh_is = λ x h. ⊎_elim
        (λ (before : Contains fresh x). more inside number_is x (so_far.fresh_is x before))
        (λ (same : number ≡ x). subst (IsAmongFirst row (n + 1)) same (here inside number_is))
        (Contains-push_cases fresh number x (subst (λ (xs : List ℕ). Contains xs x) is h));
    rest = λ x f. ⊎_elim
        (λ (g : IsAmongFirst row n x). ⊎_elim
        (λ (c : Contains fresh x). inl (subst (λ (xs : List ℕ). Contains xs x) (sym is) (Contains-append_left fresh (number ∷ []) x c)))
        (λ (o : IsSeen old x). inr o)
        (so_far.rest x g))
        (λ (same : x ≡ number). inl (subst (λ (xs : List ℕ). Contains xs x) (sym is)
        (subst (Contains (fresh ++ number ∷ [])) (sym same) (Contains-push fresh number))))
        (split inside number_is x f);
  }

pub all_first : {row : List ℕ} {n : ℕ} {old new : BTreeSet ℕ} {fresh : List ℕ} → AddsFirst row n old new fresh → length row ≤ n → AddsRow row old new fresh
all_first {row} {n} {old} {new} {fresh} adds past = record {
  each = λ x. (
    λ h. ⊎_elim (λ (o : IsSeen old x). inl o) (λ (f : IsAmongFirst row n x). inr (contained x f)) ((adds.each x).0 h),
    λ h. (adds.each x).1 (⊎_elim (λ (o : IsSeen old x). inl o) (λ (c : Contains row x). inr (among x c)) h),
  );
  fresh_is = λ x h. contained x (adds.fresh_is x h);
  rest = λ x c. adds.rest x (among x c);
}
  where
    contained : (x : ℕ) → IsAmongFirst row n x → Contains row x
    contained x f = (f.k, f.inside, same_default row f.k x 0 f.inside ∙ f.is)

    among : (x : ℕ) → Contains row x → IsAmongFirst row n x
    among x c = record { k = c.0; first = omega (arith, c.1, past); inside = c.1; is = same_default row c.0 0 x c.1 ∙ c.2 }
