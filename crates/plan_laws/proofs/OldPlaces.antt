-- Where blocks and nodes of a settled image lie: in first blocks, in the root, and in block parts of slots.
use Rattle.std.proofs.Common.{◌≡◌, ◌<◌, ◌≤◌, ◌+◌, ◌⊎◌, ⊎_elim, inl, inr, ℕ, suc, zero, List, [], ◌∷◌, refl, sym, ◌∙◌, subst, arith}
use Rattle.std.specs.Prelude.{Contains}
use Rattle.cell_types.specs.Image.{Image}
use Rattle.cell_types.specs.Layout.{Layout, IsLayout, list_at, outcome_at, pool_at}
use Rattle.cell_types.specs.declared.record_cell.RecordCell.TheVariants.{Jump, Child}
use Rattle.volume_meaning.specs.Documents.{document_at}
use Rattle.volume_meaning.specs.Slots.{IsDone, IsHorizon, Stores}
use Rattle.volume_meaning.specs.Volumes.{Holds}
use Rattle.volume_meaning.proofs.Holding.{one_record_holds}
use Rattle.volume_meaning.proofs.OneDocument.{reserves, commits}
use Rattle.volume_meaning.specs.Blocks.{Leads, arrived, onwards, pointer_at}
use Rattle.volume_meaning.specs.Nodes.{IsBlockOf, IsNode, root, under}
use Rattle.tamper_rules.specs.Journals.{IsIndexCell, LiesInBlocks, of_list, of_root, of_slot}
use Rattle.tamper_rules.specs.Rules
use Rattle.tamper_rules.specs.Rules.{ChildRule, HasChild, IsSize, LeadsDownWell, LeadsWell, PointerRule, Tile, TilingRule}
use Rattle.tamper_rules.specs.Settling.{IsSettled}
use Rattle.tamper_rules.proofs.Between.{commit_done}
use Rattle.tamper_rules.proofs.GivenUp.{children, jumps, leads_further}
use Rattle.tamper_rules.proofs.Settled.{below_horizon, written}

-- a target among those that tile cells has at least 32 of them
module _ (image : Image) (start reserved journal : ℕ) where
  size_least : {target size : ℕ} → IsSize image start reserved journal target size → 32 ≤ size
  size_least is = ⊎_elim (λ (x : (_ ≡ 256) × _). omega (arith, x.0)) (λ x. omega (arith, x.0)) is

  tile_rises : (targets : List ℕ) (from to : ℕ) → Tile image start reserved journal from to targets → from ≤ to
  tile_rises [] from to same = omega (arith, same)
  tile_rises (target ∷ targets) from to (at, size, is, rest) =
      omega (arith, tile_rises targets (from + size) to rest)

  tile_fits : (targets : List ℕ) (from to target : ℕ) → Tile image start reserved journal from to targets
      → Contains targets target → target + 32 ≤ to
  tile_fits [] from to target same among = absurd (omega (arith, among.1))
  tile_fits (first ∷ targets) from to target (at, size, is, rest) (zero, low, same) =
      omega (arith, size_least is, at, same, tile_rises targets (from + size) to rest)
  tile_fits (first ∷ targets) from to target (at, size, is, rest) (suc k, low, same) =
      tile_fits targets (from + size) to target rest (k, omega (arith, low), same)

module _ {g : Layout} {image : Image} {n : ℕ} (layout : IsLayout g) (s : IsSettled g image)
    (horizon : IsHorizon g image image n) (free : n < g.slots) where
  -- a block is its list's first, or lies in the block part of one slot
  abbrev IsOwned : ℕ → ℕ → Type 0
  IsOwned l block =
      (block ≡ list_at g l) ⊎ ((m : ℕ) × LiesInBlocks g image m block × LiesInBlocks g image m (block + 255))

  led : {l from level digit block : ℕ} → IsBlockOf g image l from → level < 8 → 1 ≤ digit → digit ≤ 15
      → Holds image (pointer_at from level digit) (Jump block) → IsOwned l block
  led {l} {from} {level} {digit} {block} b levels low high jump =
      let rule : PointerRule g image (pointer_at from level digit) =
      s.met Rules.Pointers (pointer_at from level digit) (record { found = jump.cell; stands = jump.stands }) in
      let well : LeadsWell g image l from level digit = rule l from level digit b levels low high refl in
      let same : block ≡ well.target =
      jumps block well.target
      (one_record_holds image (pointer_at from level digit) (Jump block) (Jump well.target) jump well.jump) in
      inr (
        well.owner,
        subst (λ (t : ℕ). LiesInBlocks g image well.owner t) (sym same) well.owns_first,
        subst (λ (t : ℕ). LiesInBlocks g image well.owner (t + 255)) (sym same) well.owns_last,
      )

  reached : {l last block : ℕ} → Leads image (pool_at g) g.cells last block → IsBlockOf g image l block
      → IsOwned l block → IsOwned l last
  reached {l} (arrived block is) b so = subst (λ (c : ℕ). IsOwned l c) is so
  reached (onwards block level digit target levels low high jump from to rest) b so =
      reached rest
      (record { list = b.list; leads = leads_further b.leads level digit target levels low high jump from to })
      (led b levels low high jump)

  pub block_owned : {l block : ℕ} → IsBlockOf g image l block → (block ≡ list_at g l)
      ⊎ ((m : ℕ) × LiesInBlocks g image m block × LiesInBlocks g image m (block + 255))
  block_owned {l} b = reached b.leads (record { list = b.list; leads = arrived (list_at g l) refl }) (inl refl)

  not_above : {m start reserved bytes journal : ℕ} → Stores g image m start reserved bytes journal → m ≤ n
  not_above {m} stores =
      let reserves = stores.commits.reserves in
      omega (arith, below_horizon g image s n m free horizon reserves.slot (written reserves))

  -- each cell of a block is an index cell
  pub block_cell : {l block : ℕ} (i : ℕ) → IsBlockOf g image l block → i < 256 → IsIndexCell g image n (block + i)
  block_cell {l} {block} i b less = ⊎_elim
      (λ first. of_list l (record { exists = b.list; from = omega (arith, first); below = omega (arith, first, less) }))
      (λ (owned : (m : ℕ) × LiesInBlocks g image m block × LiesInBlocks g image m (block + 255)).
      let first = owned.1 in
      let last = owned.2 in
      let place = reserves first.start first.length last.start last.length
      (one_record_holds image _ _ _ first.stores.commits.reserves.reserve last.stores.commits.reserves.reserve) in
      let sizes = commits first.bytes first.journal last.bytes last.journal
      (one_record_holds image _ _ _ first.stores.commits.outcome last.stores.commits.outcome) in
      of_slot owned.0 (not_above first.stores) (record {
        start = first.start;
        length = first.length;
        bytes = first.bytes;
        journal = first.journal;
        stores = first.stores;
        from = omega (arith, first.from);
        below = omega (arith, last.below, place.0, place.1, sizes.0, sizes.1, less);
      }))
      (block_owned b)

  node_inside : {v node : ℕ} → IsNode g image v node → node + 32 ≤ g.cells
  node_inside (root v node is at) = omega (arith, at, layout.pool)
  node_inside (under v node u above x is rest less levels child from inside) = inside

  -- a node's child cell that leads to another was written by a slot that is done, which has its cells
  child_owned : {v node x target : ℕ} → IsNode g image v node → x < 16 → Holds image (node + 16 + x) (Child target)
      → (i : ℕ) → i < 32 → IsIndexCell g image n (target + i)
  child_owned {v} {node} {x} {target} is less child i below =
      let rule : ChildRule g image (node + 16 + x) =
      s.met Rules.Children (node + 16 + x) (record { found = child.cell; stands = child.stands }) in
      let well : LeadsDownWell g image v node x = rule v node x is less refl in
      let same : target ≡ well.target =
      children target well.target
      (one_record_holds image (node + 16 + x) (Child target) (Child well.target) child well.child) in
      let slot = commit_done g image s well.owner well.bytes well.journal well.stores.commits.reserves.slot
      well.stores.commits.outcome in
      let done : IsDone g image well.owner well.start well.reserved well.bytes well.journal =
      record { commits = well.stores.commits; done = slot.done.done } in
      let tiles : TilingRule image well.start well.reserved well.bytes well.journal =
      s.met Rules.Tilings (outcome_at well.owner)
      (record { found = well.stores.commits.outcome.cell; stands = well.stores.commits.outcome.stands })
      well.owner well.start well.reserved well.bytes well.journal refl done in
      let copied : HasChild image well.start well.reserved well.journal well.target = (
        well.place,
        node + 16 + x,
        record {
          below = well.in_journal;
          entry = well.child.cell;
          stands = well.same ∙ well.child.stands;
          index = tt;
          address = omega (arith, node_inside is, layout.cells, less);
          is = well.child.is;
        },
      ) in
      let among : Contains tiles.targets well.target =
      (tiles.each well.target).0 (inr copied, well.in_blocks, well.before_document) in
      let fits = tile_fits image well.start well.reserved well.journal tiles.targets well.start
      (document_at well.start well.reserved well.bytes well.journal) well.target tiles.tile among in
      of_slot well.owner (not_above well.stores) (record {
        start = well.start;
        length = well.reserved;
        bytes = well.bytes;
        journal = well.journal;
        stores = well.stores;
        from = omega (arith, same, well.in_blocks);
        below = omega (arith, same, fits, below);
      })

  -- each cell of a node is an index cell
  pub node_cell : {v node : ℕ} (i : ℕ) → IsNode g image v node → i < 32 → IsIndexCell g image n (node + i)
  node_cell i (root v node is at) less =
      of_root (record { exists = tt; from = omega (arith, at); below = omega (arith, at, less) })
  node_cell i (under v node u above x is rest low levels child from inside) less = child_owned rest low child i less
