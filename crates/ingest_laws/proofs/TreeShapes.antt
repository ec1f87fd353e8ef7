-- The shape of the tree goes on.
use Rattle.std.proofs.Common.{◌≡◌, ◌<◌, ◌≤◌, ◌+◌, ◌⊎◌, ⊎_elim, inl, inr, ℕ, Some, None, sym, ◌∙◌, subst, arith}
use Rattle.std.proofs.lemmas.Option.{none-some}
use Rattle.cell_types.specs.Image.{Image, Extends}
use Rattle.cell_types.specs.Layout.{Layout, root_at, pool_at}
use Rattle.cell_types.specs.declared.record_cell.RecordCell.{RecordCell}
use Rattle.cell_types.specs.declared.record_cell.RecordCell.TheVariants.{Child}
use Rattle.ingest_laws.specs.ListShapes.{AddsOneCell}
use Rattle.volume_meaning.specs.Nodes.{IsNode, root, under, AreApart}
use Rattle.ingest_laws.specs.TreeShapes.{ChildWell, IsWellRooted}
use Rattle.volume_meaning.specs.Volumes.{Holds, IsWritten}
use Rattle.volume_meaning.proofs.Extending.{holds_on, written_on}
use Rattle.volume_meaning.proofs.Holding.{one_record_holds}
use Rattle.tamper_rules.proofs.GivenUp.{children}
use Rattle.ingest_laws.proofs.ListShapes.{adds_extends, written_back, holds_back}
use Rattle.tamper_rules.proofs.Writing.{same_or_not}

pub child_on : {g : Layout} {old new : Image} {to more v node x : ℕ} → Extends old new → to ≤ more
    → ChildWell g old to v node x → ChildWell g new more v node x
child_on e le c = record {
  target = c.target;
  child = holds_on e c.child;
  bucket = written_on e c.bucket;
  level = c.level;
  from = c.from;
  inside = omega (arith, c.inside);
}

-- more room leaves the tree as it was
pub rooted_wider : {g : Layout} {image : Image} {to wider : ℕ} → to ≤ wider → wider ≤ g.cells
    → IsWellRooted g image to → IsWellRooted g image wider
rooted_wider {g} {image} {to} {wider} le inside w = record {
  room = inside;
  children = λ v node x n less is. child_on (record { keeps = λ cell value h. h }) le (w.children v node x n less is);
  once = w.once;
  apart = w.apart;
}

-- a node's place: it is the root, or lies in the room
pub node_place : {g : Layout} {image : Image} {to v node : ℕ} → IsWellRooted g image to
    → IsNode g image v node → (node ≡ root_at g) ⊎ ((pool_at g ≤ node) × (node + 32 ≤ to))
node_place w (root v node is at) = inl at
node_place {g} {image} {to} w (under v node u above x is rest xs less child from inside) =
    let c = w.children u above x rest xs (record { found = child.cell; stands = child.stands }) in
    let same : node ≡ c.target =
    children node c.target (one_record_holds image (above + 16 + x) (Child node) (Child c.target) child c.child) in
    inr (from, omega (arith, same, c.inside))

-- a node is reached at one level
pub one_level : {g : Layout} {image : Image} {to : ℕ} → IsWellRooted g image to → {u node : ℕ}
    → IsNode g image u node → (v : ℕ) → IsNode g image v node → u ≡ v
one_level w (root u node is at) v (root _ _ is' at') = is ∙ sym is'
one_level w (root u node is at) v (under _ _ k above x is' rest xs less child from inside) = absurd (omega arith)
one_level w (under u node k above x is rest xs less child from inside) v (root _ _ is' at') = absurd (omega arith)
one_level {g} {image} w (under u node k above x is rest xs less child from inside) v
    (under _ _ j other y is' rest' ys less' child' from' inside') =
    let same = w.once k above x j other y node rest xs rest' ys child child' in
    let there : above ≡ other = ⊎_elim (λ s. s) (λ far. absurd (⊎_elim (λ low. omega arith) (λ high. omega arith) far))
    (w.apart k above j other rest rest') in
    let level : k ≡ j = one_level w rest j (subst (λ (n : ℕ). IsNode g image j n) (sym there) rest') in
    omega arith

module _ {g : Layout} {old new : Image} {to : ℕ} (w : IsWellRooted g old to) (e : Extends old new)
    (same : (v node x : ℕ) → IsNode g old v node → x < 16 → new (node + 16 + x) ≡ old (node + 16 + x)) where
  node_back : {v node : ℕ} → IsNode g new v node → IsNode g old v node
  node_back (root v node is at) = root v node is at
  node_back (under v node u above x is rest xs less child from inside) =
      let there = node_back rest in
      under v node u above x is there xs less (holds_back (same u above x there xs) child) from inside

  pub rooted_apart : IsWellRooted g new to
  rooted_apart = record {
    room = w.room;
    children = λ v node x n xs is. let there = node_back n in child_on e (omega arith)
        (w.children v node x there xs (written_back (same v node x there xs) is));
    once = λ v node x u other y target n xs m ys h k. let a = node_back n in let b = node_back m in
        w.once v node x u other y target a xs b ys (holds_back (same v node x a xs) h)
        (holds_back (same u other y b ys) k);
    apart = λ v node u other n m. w.apart v node u other (node_back n) (node_back m);
  }

module _ {g : Layout} {old new : Image} {to v node x target : ℕ} (w : IsWellRooted g old to) (n : IsNode g old v node)
    (xs : x < 16) (less : v < 63)
    (a : AddsOneCell (node + 16 + x) old new) (child : Holds new (node + 16 + x) (Child target))
    (bucket : IsWritten old (node + x))
    (fresh : to ≤ target) (pool : pool_at g ≤ to) (inside : target + 32 ≤ g.cells)
    (blank : (y : ℕ) → y < 16 → old (target + 16 + y) ≡ None) where
  e : Extends old new
  e = adds_extends a

  -- the new child cell is no cell of the new node
  new_blank : (y : ℕ) → y < 16 → new (target + 16 + y) ≡ None
  new_blank y ys = a.others (target + 16 + y)
      (λ same. ⊎_elim (λ is. omega arith) (λ h. omega (arith, h.0, h.1)) (node_place w n)) ∙ blank y ys

  -- each node is an old one, or the new one
  node_of : {u other : ℕ} → IsNode g new u other → IsNode g old u other ⊎ (other ≡ target)
  node_of (root u other is at) = inl (root u other is at)
  node_of (under u other k above y is rest ys low hop from into) = ⊎_elim
      (λ there. ⊎_elim
      (λ same. inr (children other target (one_record_holds new (node + 16 + x) (Child other) (Child target)
      (subst (λ (c : ℕ). Holds new c (Child other)) same hop) child)))
      (λ differ. inl (under u other k above y is there ys low
      (holds_back (a.others (above + 16 + y) differ) hop) from into))
      (same_or_not (above + 16 + y) (node + 16 + x)))
      (λ same. absurd (none-some _ (sym (new_blank y ys) ∙ subst
      (λ (c : ℕ). new (c + 16 + y) ≡ Some hop.cell) same hop.stands)))
      (node_of rest)

  -- an old child cell leads elsewhere
  old_target : {u other y t : ℕ} → IsNode g old u other → y < 16 → Holds old (other + 16 + y) (Child t)
      → t ≡ target → ⊥
  old_target {u} {other} {y} {t} m ys h same =
      let c = w.children u other y m ys (record { found = h.cell; stands = h.stands }) in
      let is : t ≡ c.target =
      children t c.target (one_record_holds old (other + 16 + y) (Child t) (Child c.target) h c.child) in
      omega (arith, c.inside)

  no_child : {other y : ℕ} → other ≡ target → y < 16 → IsWritten new (other + 16 + y) → ⊥
  no_child {other} {y} same ys is =
      none-some _ (sym (new_blank y ys) ∙ subst (λ (c : ℕ). new (c + 16 + y) ≡ Some is.found) same is.stands)

  written_of : {c : ℕ} {r : RecordCell} → Holds new c r → IsWritten new c
  written_of h = record { found = h.cell; stands = h.stands }

  -- the node and the place of a child cell are told by its number
  same_child : {u other y : ℕ} → IsNode g old u other → y < 16 → other + 16 + y ≡ node + 16 + x
      → (other ≡ node) × (y ≡ x)
  same_child {u} {other} {y} m ys same = ⊎_elim
      (λ is. (is, omega arith))
      (λ far. absurd (⊎_elim (λ low. omega arith) (λ high. omega arith) far))
      (w.apart u other v node m n)

  children_on : (u other y : ℕ) → IsNode g new u other → y < 16 → IsWritten new (other + 16 + y)
      → ChildWell g new (target + 32) u other y
  children_on u other y m ys is = ⊎_elim
      (λ there. ⊎_elim
      (λ same.
      let h = same_child there ys same in
      record {
        target = target;
        child = subst (λ (c : ℕ). Holds new c (Child target)) (sym same) child;
        bucket = subst (λ (c : ℕ). IsWritten new c) (let z : node + x ≡ other + y = omega (arith, h.0, h.1) in z)
            (written_on e bucket);
        level = level_of u (subst (λ (c : ℕ). IsNode g old u c) h.0 there);
        from = omega arith;
        inside = omega arith;
      })
      (λ differ. child_on e (omega arith) (w.children u other y there ys
      (written_back (a.others (other + 16 + y) differ) is)))
      (same_or_not (other + 16 + y) (node + 16 + x)))
      (λ same. absurd (no_child same ys is))
      (node_of m)
    where
      level_of : (u : ℕ) → IsNode g old u node → u < 63
      level_of u m = omega (arith, one_level w m v n)

  first_on : (u other y : ℕ) (k more z t : ℕ) → IsNode g new u other → y < 16 → IsNode g new k more → z < 16
      → Holds new (other + 16 + y) (Child t) → Holds new (more + 16 + z) (Child t) → other + 16 + y ≡ more + 16 + z
  first_on u other y k more z t m ys o zs h i = ⊎_elim
      (λ there. ⊎_elim
      (λ also. ⊎_elim
      (λ same. ⊎_elim
      (λ same'. same ∙ sym same')
      (λ differ'.
      let is : t ≡ target = children t target (one_record_holds new (node + 16 + x) (Child t) (Child target)
      (subst (λ (c : ℕ). Holds new c (Child t)) same h) child) in
      absurd (old_target also zs (holds_back (a.others (more + 16 + z) differ') i) is))
      (same_or_not (more + 16 + z) (node + 16 + x)))
      (λ differ. ⊎_elim
      (λ same'.
      let is : t ≡ target = children t target (one_record_holds new (node + 16 + x) (Child t) (Child target)
      (subst (λ (c : ℕ). Holds new c (Child t)) same' i) child) in
      absurd (old_target there ys (holds_back (a.others (other + 16 + y) differ) h) is))
      (λ differ'. w.once u other y k more z t there ys also zs (holds_back (a.others (other + 16 + y) differ) h)
      (holds_back (a.others (more + 16 + z) differ') i))
      (same_or_not (more + 16 + z) (node + 16 + x)))
      (same_or_not (other + 16 + y) (node + 16 + x)))
      (λ same. absurd (no_child same zs (written_of i)))
      (node_of o))
      (λ same. absurd (no_child same ys (written_of h)))
      (node_of m)

  old_apart : {u other : ℕ} → IsNode g old u other → AreApart other 32 target 32
  old_apart m = ⊎_elim (λ is. inl (omega arith)) (λ h. inl (omega (arith, h.1))) (node_place w m)

  apart_on : (u other k more : ℕ) → IsNode g new u other → IsNode g new k more
      → (other ≡ more) ⊎ AreApart other 32 more 32
  apart_on u other k more m o = ⊎_elim
      (λ there. ⊎_elim
      (λ also. w.apart u other k more there also)
      (λ same. inr (subst (λ (c : ℕ). AreApart other 32 c 32) (sym same) (old_apart there)))
      (node_of o))
      (λ same. ⊎_elim
      (λ also. inr (subst (λ (c : ℕ). AreApart c 32 more 32) (sym same) (⊎_elim inr inl (old_apart also))))
      (λ same'. inl (same ∙ sym same'))
      (node_of o))
      (node_of m)

  pub rooted_with_child : IsWellRooted g new (target + 32)
  rooted_with_child = record { room = inside; children = children_on; once = first_on; apart = apart_on }
