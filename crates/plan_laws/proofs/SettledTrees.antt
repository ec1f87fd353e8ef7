-- The tree of a settled image stands as it should.
use Rattle.std.proofs.Common.{◌≡◌, ◌<◌, ◌≤◌, ◌+◌, ◌⊎◌, ⊎_elim, inl, inr, ℕ, refl, sym, subst, arith}
use Rattle.std.proofs.lemmas.Bool.{cases_lt}
use Rattle.cell_types.specs.Image.{Image}
use Rattle.cell_types.specs.Layout.{Layout, IsLayout, list_at, pool_at}
use Rattle.cell_types.specs.declared.record_cell.RecordCell.TheVariants.{Child}
use Rattle.volume_meaning.specs.Slots.{IsEdge}
use Rattle.volume_meaning.proofs.Holding.{one_record_holds}
use Rattle.volume_meaning.specs.Blocks.{Leads, arrived, onwards}
use Rattle.volume_meaning.specs.Nodes.{AreApart, IsBlockOf, IsNode, root, under}
use Rattle.tamper_rules.specs.Rules
use Rattle.tamper_rules.specs.Rules.{ChildRule, LeadsDownWell}
use Rattle.tamper_rules.specs.Settling.{IsSettled}
use Rattle.tamper_rules.proofs.GivenUp.{children}
use Rattle.ingest_laws.proofs.SettledShapes.{edge_inside, leads_wider, settled_rooted}
use Rattle.plan_laws.specs.Standing.{TreeStands}

-- a block is a first one, or lies in the pool
pub block_place : {image : Image} {from to last block : ℕ} → Leads image from to last block
    → (last ≡ block) ⊎ (from ≤ last)
block_place (arrived block is) = inl (sym is)
block_place (onwards block level digit target l s d jump f t rest) =
    ⊎_elim (λ same. inr (omega (arith, same, f))) inr (block_place rest)

module _ {g : Layout} {image : Image} {edge : ℕ} (layout : IsLayout g) (s : IsSettled g image)
    (e : IsEdge g image image edge) where
  node_apart : {v node l block : ℕ} → IsNode g image v node → IsBlockOf g image l block → AreApart node 32 block 256
  node_apart {v} {node} {l} {block} (root _ _ is at) b = ⊎_elim
      (λ (first : block ≡ list_at g l). behind_or_before first (cases_lt l g.lists))
      (λ (pool : pool_at g ≤ block). inl (omega (arith, pool, at)))
      (block_place b.leads)
    where
      behind_or_before : block ≡ list_at g l → (l < g.lists) ⊎ (g.lists ≤ l) → AreApart node 32 block 256
      behind_or_before first (inl word) = inr (omega (arith, first, at, word))
      behind_or_before first (inr time) = inl (omega (arith, first, at, time))
  node_apart {v} {node} {l} {block} (under _ _ u above x is rest less levels child from inside) b =
      let rule : ChildRule g image (above + 16 + x) =
      s.met Rules.Children (above + 16 + x) (record { found = child.cell; stands = child.stands }) in
      let well : LeadsDownWell g image u above x = rule u above x rest less refl in
      let same : node ≡ well.target =
      children node well.target (one_record_holds image (above + 16 + x) (Child node)
      (Child well.target) child well.child) in
      subst (λ (t : ℕ). AreApart t 32 block 256) (sym same) (well.blocks l block b)

  pub settled_tree : TreeStands g image edge
  settled_tree = record {
    rooted = settled_rooted layout s e;
    apart = λ v node l block is list leads.
        node_apart is (record { list = list; leads = leads_wider (edge_inside layout e) leads });
  }
