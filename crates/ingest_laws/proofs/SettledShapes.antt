-- The lists and the tree of a settled image have their shapes.
use Rattle.std.proofs.Common.{◌≡◌, ◌<◌, ◌≤◌, ◌+◌, ◌⊎◌, ⊎_elim, inl, inr, ℕ, List, Some, refl, sym, ◌∙◌, subst, arith}
use Rattle.std.proofs.lemmas.Bool.{cases_order}
use Rattle.cell_types.specs.Image.{Image}
use Rattle.cell_types.specs.Layout.{Layout, all_lists, IsLayout, list_at, pool_at}
use Rattle.cell_types.specs.declared.record_cell.RecordCell.TheVariants.{Jump, Child}
use Rattle.volume_meaning.specs.Blocks.{Leads, arrived, onwards, pointer_at}
use Rattle.ingest_laws.specs.ListShapes.{IsWellListed}
use Rattle.volume_meaning.specs.Nodes.{IsBlockOf, IsNode, root, under, AreApart}
use Rattle.tamper_rules.specs.Rules
use Rattle.tamper_rules.specs.Rules.{EntryRule, PointerRule, LeadsWell, ChildRule, LeadsDownWell}
use Rattle.tamper_rules.specs.Settling.{IsSettled}
use Rattle.volume_meaning.specs.Slots.{Reserves, IsEdge}
use Rattle.ingest_laws.specs.TreeShapes.{IsWellRooted}
use Rattle.volume_meaning.specs.Volumes.{Holds, IsWritten}
use Rattle.volume_meaning.proofs.Holding.{one_record_holds}
use Rattle.tamper_rules.proofs.FullFronts.{ends_full}
use Rattle.tamper_rules.proofs.GivenUp.{jumps, children, leads_further}
use Rattle.tamper_rules.proofs.Images.{look}

pub leads_wider : {image : Image} {from to more last block : ℕ} → to ≤ more → Leads image from to last block
    → Leads image from more last block
leads_wider le (arrived block is) = arrived block is
leads_wider le (onwards block level digit target l s d jump f t rest) =
    onwards block level digit target l s d jump f (omega arith) (leads_wider le rest)

-- the edge lies in the device
pub edge_inside : {g : Layout} {image : Image} {at : ℕ} → IsLayout g → IsEdge g image image at → at ≤ g.cells
edge_inside {g} {image} {at} l e = ⊎_elim
    (λ (z : (e.u ≡ 0) × (at ≡ pool_at g)). omega (arith, z.1, l.pool))
    (λ (w : (m : ℕ) × (start : ℕ) × (length : ℕ) × (e.u ≡ m + 1) × Reserves g image m start length
    × (at ≡ start + length)). let r = w.4 in omega (arith, r.to, w.5))
    e.ends

module _ {g : Layout} {image : Image} {at l : ℕ} (layout : IsLayout g) (s : IsSettled g image)
    (e : IsEdge g image image at) (list : l < all_lists g) where
  block_of : {block : ℕ} → Leads image (pool_at g) at block (list_at g l) → IsBlockOf g image l block
  block_of b = record { list = list; leads = leads_wider (edge_inside layout e) b }

  -- how a block is reached last
  record LastHop (block : ℕ) : Type 0 where
    from : ℕ
    level : ℕ
    digit : ℕ
    is : IsBlockOf g image l from
    levels : level < 8
    low : 1 ≤ digit
    high : digit ≤ 15
    jump : Holds image (pointer_at from level digit) (Jump block)
    pool : pool_at g ≤ block

  last_hop : {last cur : ℕ} → Leads image (pool_at g) g.cells last cur → IsBlockOf g image l cur
      → (last ≡ cur) ⊎ LastHop last
  last_hop (arrived cur is) b = inl (sym is)
  last_hop {last} (onwards cur level digit target ls d1 d2 jump f t rest) b =
      let next : IsBlockOf g image l target = record {
        list = list;
        leads = leads_further b.leads level digit target ls d1 d2 jump f t;
      } in
      ⊎_elim
      (λ same. inr (record {
        from = cur;
        level = level;
        digit = digit;
        is = b;
        levels = ls;
        low = d1;
        high = d2;
        jump = subst (λ (k : ℕ). Holds image (pointer_at cur level digit) (Jump k)) (sym same) jump;
        pool = omega (arith, f, same);
      }))
      inr
      (last_hop rest next)

  reached : {block : ℕ} → IsBlockOf g image l block → (block ≡ list_at g l) ⊎ LastHop block
  reached b = last_hop b.leads (record { list = list; leads = arrived (list_at g l) refl })

  rule_of : {block level digit : ℕ} {cell : List ℕ} → IsBlockOf g image l block → level < 8 → 1 ≤ digit
      → digit ≤ 15 → image (pointer_at block level digit) ≡ Some cell → LeadsWell g image l block level digit
  rule_of {block} {level} {digit} {cell} b ls d1 d2 is =
      let r : PointerRule g image (pointer_at block level digit) =
      s.met Rules.Pointers (pointer_at block level digit) (record {
        found = cell;
        stands = is;
      }) in
      r l block level digit b ls d1 d2 refl

  far_apart : {a b : ℕ} → LastHop a → IsBlockOf g image l b → (a ≡ b) ⊎ AreApart a 256 b 256
  far_apart {a} {b} h other =
      let r : LeadsWell g image l h.from h.level h.digit = rule_of h.is h.levels h.low h.high h.jump.stands in
      let same : a ≡ r.target = jumps a r.target (one_record_holds image (pointer_at h.from h.level h.digit) (Jump a)
      (Jump r.target) h.jump r.jump) in
      ⊎_elim (λ x. inl (same ∙ sym x.0)) (λ far. inr (subst (λ (k : ℕ). AreApart k 256 b 256) (sym same) far))
      (r.blocks l b other)

  blocks_apart : {a b : ℕ} → IsBlockOf g image l a → IsBlockOf g image l b → (a ≡ b) ⊎ AreApart a 256 b 256
  blocks_apart {a} {b} x y = ⊎_elim
      (λ first. ⊎_elim
      (λ also. inl (first ∙ sym also))
      (λ h. inr (inl (let p = h.pool in omega arith)))
      (reached y))
      (λ h. far_apart h y)
      (reached x)

  pub settled_listed : IsWellListed image (pool_at g) at (list_at g l)
  settled_listed = record {
    before = omega arith;
    entries = λ block place b below w.
        let r : EntryRule g image (block + place) = s.met Rules.Entries (block + place) w in
        r.entry l block place (block_of b) below refl;
    blank = λ block place b low high. ⊎_elim (λ none. none)
        (λ h. let r : EntryRule g image (block + place) = s.met Rules.Entries (block + place) (record {
          found = h.0;
          stands = h.1;
        }) in
        absurd (r.blank l block place (block_of b) low high refl))
        (look image (block + place));
    pointers = λ block level digit b ls d1 d2 w. let r = rule_of (block_of b) ls d1 d2 w.stands in record {
      target = r.target;
      jump = r.jump;
      greatest = r.greatest;
      is_full = ends_full (λ place below.
          let e : EntryRule g image (block + place) = s.met Rules.Entries (block + place) (r.full place below) in
          e.entry l block place (block_of b) below refl) r.ends;
      inside_from = r.from;
      inside_to = r.edge at e;
      place = r.place;
      some = r.some;
      in_places = r.in_places;
      in_front = r.in_front;
      in_span = r.in_span;
    };
    apart = λ a b x y. blocks_apart (block_of x) (block_of y);
  }

module _ {g : Layout} {image : Image} {at : ℕ} (layout : IsLayout g) (s : IsSettled g image)
    (e : IsEdge g image image at) where
  child_rule : {v node x : ℕ} → IsNode g image v node → x < 16 → IsWritten image (node + 16 + x)
      → LeadsDownWell g image v node x
  child_rule {v} {node} {x} n xs w =
      let r : ChildRule g image (node + 16 + x) = s.met Rules.Children (node + 16 + x) w in
      r v node x n xs refl

  nodes_apart : {v u node other : ℕ} → IsNode g image v node → IsNode g image u other
      → (node ≡ other) ⊎ AreApart node 32 other 32
  nodes_apart (root v node is at) (root u other is' at') = inl (at ∙ sym at')
  nodes_apart (root v node is at) (under u other k above x is' rest xs less child from inside) = inr (inl (omega arith))
  nodes_apart {u = u} {other = other} (under v node k above x is rest xs less child from inside) m =
      let r = child_rule rest xs (record { found = child.cell; stands = child.stands }) in
      let same : node ≡ r.target = children node r.target (one_record_holds image (above + 16 + x) (Child node)
      (Child r.target) child r.child) in
      ⊎_elim (λ is. inl (same ∙ sym is)) (λ far. inr (subst (λ (c : ℕ). AreApart c 32 other 32) (sym same) far))
      (r.nodes u other m)

  one_parent : {v node x u other y target : ℕ} → IsNode g image v node → x < 16 → IsNode g image u other → y < 16
      → Holds image (node + 16 + x) (Child target) → Holds image (other + 16 + y) (Child target)
      → node + 16 + x < other + 16 + y → ⊥
  one_parent {v} {node} {x} {u} {other} {y} {target} n xs m ys h i less =
      let r = child_rule m ys (record { found = i.cell; stands = i.stands }) in
      let same : target ≡ r.target = children target r.target
      (one_record_holds image (other + 16 + y) (Child target) (Child r.target) i r.child) in
      r.once v node x n xs less (subst (λ (t : ℕ). Holds image (node + 16 + x) (Child t)) same h)

  pub settled_rooted : IsWellRooted g image at
  settled_rooted = record {
    room = edge_inside layout e;
    children = λ v node x n xs w. let r = child_rule n xs w in record {
      target = r.target;
      child = r.child;
      bucket = r.bucket;
      level = r.level;
      from = r.from;
      inside = r.edge at e;
    };
    once = λ v node x u other y target n xs m ys h i. ⊎_elim (λ same. same)
        (λ differ. absurd (⊎_elim (λ less. one_parent n xs m ys h i less)
        (λ more. one_parent m ys n xs i h more) differ))
        (cases_order (node + 16 + x) (other + 16 + y));
    apart = λ v node u other n m. nodes_apart n m;
  }
