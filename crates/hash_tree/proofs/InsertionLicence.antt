-- A node with a cell that is planned for somebody else breaks the rule of child cells.
use Rattle.std.proofs.Common.{◌≡◌, ◌<◌, ◌≤◌, ◌+◌, ◌∙◌, ◌⊎◌, ⊎_elim, inl, inr, ℕ, Option, Some, refl, sym, subst, arith}
use Rattle.std.specs.Prelude.{IsTrue}
use Rattle.cell_types.specs.Image.{Image}
use Rattle.cell_types.specs.Layout.{Layout, LiesIn, Root, root_at}
use Rattle.cell_types.specs.declared.record_cell.RecordCell.TheVariants.{Child}
use Rattle.cell_types.specs.declared.refusal.Evidence.{Evidence}
use Rattle.volume_meaning.specs.Slots.{IsEdge}
use Rattle.volume_meaning.specs.Volumes.{Holds, IsVolume}
use Rattle.volume_meaning.proofs.Holding.{one_record_holds}
use Rattle.volume_meaning.specs.Nodes.{AreApart, IsNode}
use Rattle.volume_meaning.specs.Nodes as nodes
use Rattle.tamper_rules.specs.Rules.{Children, IsBroken, IsMet, IsOfPool, LeadsDownWell}
use Rattle.tamper_rules.proofs.GivenUp.{children}
use Rattle.worm_device.specs.Views.{ViewState}
use Rattle.worm_device.specs.declared.owner.Owner.{Owner}
use Rattle.hash_tree.specs.Levels.{IsChildPlace, IsLedWithin, node_of}
use Rattle.hash_tree.specs.declared.level.ChildCell.{ChildCell}
use Rattle.hash_tree.specs.declared.level.Level.{Level}
use Rattle.hash_tree.specs.declared.path.Open.{Open}
use Rattle.hash_tree.specs.Inserting.{IsPlaceTaken}
use Rattle.hash_tree.specs.InsertionLaws.{LiesByOwner, in_block, in_node, in_new}
use Rattle.hash_tree.specs.Readiness.{blank_of, owner_in}

-- where a child cell of a node leads to this target, the rule of child cells says so of it
leads_well : {g : Layout} {image : Image} {cell target : ℕ} → IsChildPlace g image cell → IsMet g image Children cell
    → Holds image cell (Child target)
    → (v : ℕ) × (node : ℕ) × (x : ℕ) × (well : LeadsDownWell g image v node x) × (well.target ≡ target)
leads_well {g} {image} {cell} {target} place met held =
    let well = met place.level place.node place.half_byte place.is_node place.below place.at in (
      place.level,
      place.node,
      place.half_byte,
      well,
      children well.target target
          (one_record_holds image cell (Child well.target) (Child target)
          (subst (λ (c : ℕ). Holds image c (Child well.target)) (sym place.at) well.child) held),
    )

-- a child cell of a node lies in the root or in the pool
pub child_inside : {g : Layout} {image : Image} {cell v node x : ℕ} → IsNode g image v node → x < 16
    → cell ≡ node + 16 + x → LiesIn g Root cell ⊎ IsOfPool g cell
child_inside (nodes.IsNode.root v node is at) xs same =
    inl (record { exists = tt; from = omega (arith, at, same); below = omega (arith, at, same, xs) })
child_inside (nodes.IsNode.under v node u above x is rest half less child from inside) xs same =
    inr (omega (arith, from, same), omega (arith, inside, same, xs))

-- the cell lies in the node, and where its owner says
not_others : {g : Layout} {view : ViewState} {cell v above x node : ℕ} {owner : Owner}
    → IsEdge g view.lower view.lower view.fresh → (well : LeadsDownWell g view.lower v above x) → well.target ≡ node
    → node ≤ cell → cell < node + 32 → (owner ≡ owner_in g node → ⊥) → LiesByOwner g view cell owner → ⊥
not_others edge well is from to another (in_block l block head low high) =
    ⊎_elim
    (λ before. omega (arith, before, is, from, to, low, high))
    (λ after. omega (arith, after, is, from, to, low, high))
    (well.blocks l _ block)
not_others {g} {view} {cell} {v} {above} {x} {node} {owner} edge well is from to another
    (in_node w there head low high) =
    ⊎_elim
    (λ same. another (owner_is owner (root_at g) node head (same ∙ is)))
    (λ far.
    ⊎_elim
    (λ before. omega (arith, before, is, from, to, low, high))
    (λ after. omega (arith, after, is, from, to, low, high))
    far)
    (well.nodes w owner.base there)
  where
    owner_is : (o : Owner) (head base : ℕ) → o.head ≡ head → o.base ≡ base → o ≡ record { head = head; base = base }
    owner_is o head base h b =
        subst (λ (x : ℕ). o ≡ record { head = x; base = base }) h
        (subst (λ (y : ℕ). o ≡ record { head = o.head; base = y }) b refl)
not_others {g} {view} edge well is from to another (in_new past low) =
    omega (arith, well.edge view.fresh edge, is, to, past, low)

module _ (g : Layout) (level : Level) (place : Open) (view : ViewState) (e : Evidence)
    (taken : IsPlaceTaken g level place view e) (tells : IsTrue view.base.tells) (volume : IsVolume g.cells view.lower g)
    (edge : IsEdge g view.lower view.lower view.fresh) (within : IsLedWithin g view.lower level.led_by)
    (lies : (cell : ℕ) (owner : Owner) → view.owners cell ≡ Some owner → LiesByOwner g view cell owner) where
  led_within : IsChildPlace g view.lower e.cell
  led_within =
      subst (λ (c : ℕ). IsChildPlace g view.lower c) (sym taken.cell)
      (subst (λ (l : Option ChildCell). IsLedWithin g view.lower l) taken.led within)

  pub broken : IsBroken g.cells view.lower e.rule e.cell
  broken = record {
    layout = g;
    volume = volume;
    rule = Children;
    named = taken.rule;
    place = child_inside led_within.is_node led_within.below led_within.at;
    written = record { found = e.found; stands = taken.stands tells };
    not_met = λ met.
        let it = leads_well led_within met
        (let h : Holds view.lower e.cell (Child (node_of g level)) =
        record { cell = e.found; stands = taken.stands tells; is = taken.leads tells } in h) in
        not_others edge it.3 it.4 taken.from taken.to taken.another (lies (blank_of place) taken.owner taken.for_whom);
  }
