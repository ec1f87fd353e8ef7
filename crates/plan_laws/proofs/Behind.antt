-- Where a document's index is planned on a settled volume: what stood before, between postings and bucket, and behind.
use Rattle.std.proofs.Common.{◌≡◌, ◌<◌, ◌≤◌, ◌+◌, ◌⊎◌, ⊎_elim, inl, inr, ℕ, List, slice_get, Some, None, refl, sym, ◌∙◌, subst, arith, length}
use Rattle.std.proofs.lemmas.Bool.{cases_lt}
use Rattle.std.proofs.lemmas.Option.{none-some}
use Rattle.cell_types.specs.Image.{Image, Extends}
use Rattle.cell_types.specs.Layout.{Layout, list_at, pool_at, all_lists}
use Rattle.cell_types.specs.Records.{IsRecordCell}
use Rattle.cell_types.specs.declared.record_cell.RecordCell.{RecordCell}
use Rattle.cell_types.specs.declared.record_cell.RecordCell.TheVariants.{Jump, Bucket, Child}
use Rattle.volume_meaning.specs.Volumes.{Holds}
use Rattle.volume_meaning.proofs.Extending.{blank_before}
use Rattle.volume_meaning.proofs.Holding.{some_is}
use Rattle.volume_meaning.specs.Blocks.{Leads, pointer_at, posting_record}
use Rattle.volume_meaning.specs.HashPaths.{fingerprint_of, nibble}
use Rattle.volume_meaning.specs.Nodes.{IsNode, under}
use Rattle.volume_meaning.specs.Postings.{IsPostingOf, ListedPosting}
use Rattle.tamper_rules.proofs.GoingOn.{leads_to_on}
use Rattle.tamper_rules.proofs.Images.{look}
use Rattle.tamper_rules.proofs.Writing.{same_or_not}
use Rattle.ingest_laws.specs.Ingesting.{Plan}
use Rattle.ingest_laws.proofs.SettledShapes.{leads_wider}
use Rattle.hash_tree.specs.Levels.{bucket_at, child_at, node_of}
use Rattle.hash_tree.specs.declared.level.Level.{Level}
use Rattle.hash_tree.specs.declared.path.Open.{Open}
use Rattle.jump_insertion.proofs.KeptTrails.{leads_below}
use Rattle.hash_tree.proofs.InsertionPaths.{nibble_low}
use Rattle.hash_tree.specs.Rooting.{IsRooted, TreeGrows, in_bucket, in_new_node}
use Rattle.ingest_plan.specs.Standing.{IsAddedTo, posting, pointer}
use Rattle.plan_laws.specs.Standing.{IndexesStand, TreeStands, below_slot, seconds_of}
use Rattle.plan_laws.proofs.BehindBucket as bucket
use Rattle.plan_laws.proofs.BehindRow.{node_back, node_on}
use Rattle.plan_laws.proofs.ListsAside.{was_block}
use Rattle.plan_laws.specs.Laws.{IsPlannedIndex}
use Rattle.plan_laws.proofs.Taken as taken

-- A planned cell is one of the document's postings in a block of the posting's list, a pointer of a list's block to
-- another of its blocks, the document's bucket in a node, or a child cell of a node that leads to a node.
pub data IsPlannedCell (g : Layout) (n : ℕ) (rows : List ListedPosting) (level : Level) (to : ℕ)
    (image : Image) (cell : ℕ)
    (value : List ℕ) : Type 0 where
  a_posting : (i : ℕ) (a : ListedPosting) (block at : ℕ) → slice_get rows i ≡ Some a → a.list < all_lists g
      → Leads image (pool_at g) to block (list_at g a.list) → at < 128 → cell ≡ block + at
      → IsRecordCell (posting_record a.posting) cell value → IsPlannedCell g n rows level to image cell value
  a_pointer : (l block i digit target : ℕ) → l < all_lists g → Leads image (pool_at g) to block (list_at g l)
      → i < 8 → 1 ≤ digit → digit ≤ 15 → cell ≡ pointer_at block i digit
      → Leads image (pool_at g) to target (list_at g l) → IsRecordCell (Jump target) cell value
      → IsPlannedCell g n rows level to image cell value
  a_bucket : (v node x : ℕ) → IsNode g image v node → x < 16 → cell ≡ node + x
      → IsRecordCell (Bucket n (fingerprint_of level.digest)) cell value
      → IsPlannedCell g n rows level to image cell value
  a_child : (v node x w target : ℕ) → IsNode g image v node → x < 16 → cell ≡ node + 16 + x → IsNode g image w target
      → IsRecordCell (Child target) cell value → IsPlannedCell g n rows level to image cell value

-- what stands in a cell is the record that it holds
pub record_there : {image : Image} {at cell : ℕ} {value : List ℕ} {r : RecordCell} → cell ≡ at → Holds image at r
    → image cell ≡ Some value → IsRecordCell r cell value
record_there {image} {at} {cell} {value} {r} same h is =
    let here : Holds image cell r = subst (λ (c : ℕ). Holds image c r) (sym same) h in
    subst (λ (v : List ℕ). IsRecordCell r cell v) (some_is here.cell value (sym here.stands ∙ is)) here.is

module _ {g : Layout} {old laid : Image} {p : Plan} {rows : List ListedPosting} {level : Level} {place : Open} {to : ℕ}
    {planned : Image} (h : IsPlannedIndex g old laid p rows level place to planned) where
  pub pool_before : pool_at g ≤ p.start
  pool_before = taken.pool_before h.takes

  pub blank_from : (cell : ℕ) → p.start ≤ cell → old cell ≡ None
  blank_from cell from = taken.blank_from h.takes cell from

  pub stand : IndexesStand g old p.start (below_slot g p.slot (seconds_of p.stamp))
  stand = taken.stand h.takes

  pub to_inside : to ≤ g.cells
  to_inside = omega (arith, h.takes.room, h.takes.inside)

  pub more : p.start ≤ to
  more = omega (arith, h.stands.lists.more, h.stands.more)

  pub planned_low : {cell : ℕ} {value : List ℕ} → planned cell ≡ Some value → cell < to
  planned_low {cell} {value} is = ⊎_elim
      (λ less. less)
      (λ far. absurd (none-some _ (sym (h.before cell far) ∙ is)))
      (cases_lt cell to)

  pub tree_between : TreeStands g h.stands.between h.stands.next
  tree_between = bucket.tree pool_before to_inside stand h.ends h.stands

  pub is_rooted : IsRooted g level place p.slot h.stands.next to h.stands.between laid
  is_rooted = bucket.rooted pool_before to_inside stand h.ends h.stands

  pub stand_behind : IndexesStand g laid to (below_slot g (p.slot + 1) (seconds_of p.stamp + 1))
  stand_behind = bucket.stands_behind pool_before to_inside stand h.ends h.stands

  pub extends_between : Extends h.stands.between laid
  extends_between = bucket.extends pool_before to_inside stand h.ends h.stands is_rooted.grows

  -- a block was one before, or is new
  pub block_was : (l block : ℕ) → l < all_lists g → Leads laid (pool_at g) to block (list_at g l)
      → Leads old (pool_at g) p.start block (list_at g l) ⊎ (p.start ≤ block)
  block_was l block list leads =
      h.stands.lists.blocks l block list
      (was_block h.stands.lists.lists extends_between h.stands.more
      (λ k b i less leads below.
      bucket.block_same pool_before to_inside stand h.ends h.stands k b i less leads below)
      l block list leads)

  -- a node was one between, or is the next
  pub node_was : {v node : ℕ} → IsNode g laid v node → IsNode g old v node ⊎ (node ≡ h.stands.next)
  node_was {v} {node} is = ⊎_elim
      (λ was. inl (node_back pool_before stand.tree h.stands.lists was))
      inr
      (is_rooted.nodes v node is)

  -- each posting of the row is one of the document's
  pub is_listed : (i : ℕ) (a : ListedPosting) → slice_get rows i ≡ Some a
      → (a.list < all_lists g) × IsPostingOf g p.stamp p.body p.slot a.list a.posting
  is_listed i a row = h.rows_are.each i a row

  -- between postings and bucket nothing new stands behind the postings' blocks
  pub between_blank : (cell : ℕ) → old cell ≡ None → h.stands.next ≤ cell → h.stands.between cell ≡ None
  between_blank cell none far = ⊎_elim
      (λ blank. blank)
      (λ found. absurd (outside (h.stands.lists.added cell found.0 found.1 none)))
      (look h.stands.between cell)
    where
      lists_below : (l : ℕ) → l < all_lists g → list_at g l + 256 ≤ h.stands.next
      lists_below l list = omega (arith, list, pool_before, h.stands.lists.more)

      outside : {value : List ℕ} → IsAddedTo g rows (length rows) h.stands.between h.stands.next cell value → ⊥
      outside (posting i a block at count row leads less is same) =
          omega (arith, leads_below leads (lists_below a.list (is_listed i a row).0), less, is, far)
      outside (pointer l block i digit target list leads levels low high is other same) =
          omega (arith, leads_below leads (lists_below l list), levels, high, is, far)

  half : (v : ℕ) → nibble level.digest v < 16
  half v = nibble_low level.digest h.ends.digest v

  -- the level's node is one still
  node_laid : IsNode g laid level.number (node_of g level)
  node_laid = node_on extends_between (node_on h.stands.lists.extends h.ends.node)

  -- what the bucket adds
  of_tree : {cell cost : ℕ} {value : List ℕ} → TreeGrows g level p.slot h.stands.next to h.stands.between laid cost
      → h.stands.between cell ≡ None → laid cell ≡ Some value → IsPlannedCell g p.slot rows level to laid cell value
  of_tree {cell} (in_bucket adds holds same cost) none is = ⊎_elim
      (λ here. a_bucket level.number (node_of g level) (nibble level.digest level.number) node_laid (half level.number)
      here
      (record_there here holds is))
      (λ other. absurd (none-some _ (sym (adds.others cell other ∙ none) ∙ is)))
      (same_or_not cell (bucket_at g level))
  of_tree {cell} (in_new_node mid levels adds leads adds_bucket holds same cost) none is = ⊎_elim
      (λ here. a_child level.number (node_of g level) (nibble level.digest level.number) (level.number + 1)
      h.stands.next
      node_laid (half level.number) here new_node (record_there here leads is))
      (λ other. ⊎_elim
      (λ here. a_bucket (level.number + 1) h.stands.next (nibble level.digest (level.number + 1)) new_node
      (half (level.number + 1)) here (record_there here holds is))
      (λ another. absurd (none-some _ (sym (adds_bucket.others cell another ∙ adds.others cell other ∙ none) ∙ is)))
      (same_or_not cell (h.stands.next + nibble level.digest (level.number + 1))))
      (same_or_not cell (child_at g level))
    where
      new_node : IsNode g laid (level.number + 1) h.stands.next
      new_node = under (level.number + 1) h.stands.next level.number (node_of g level)
          (nibble level.digest level.number) refl
          node_laid (half level.number) levels leads (omega (arith, pool_before, h.stands.lists.more))
          (omega (arith, same, to_inside))

  leads_on : {last block : ℕ} → Leads h.stands.between (pool_at g) h.stands.next last block
      → Leads laid (pool_at g) to last block
  leads_on leads = leads_wider h.stands.more (leads_to_on extends_between leads)

  -- what the postings add
  of_row : {cell : ℕ} {value : List ℕ} → IsAddedTo g rows (length rows) h.stands.between h.stands.next cell value
      → IsPlannedCell g p.slot rows level to laid cell value
  of_row (posting i a block at count row leads less is same) =
      a_posting i a block at row (is_listed i a row).0 (leads_on leads) less is same
  of_row (pointer l block i digit target list leads levels low high is other same) =
      a_pointer l block i digit target list (leads_on leads) levels low high is (leads_on other) same

  pub planned_cell : (cell : ℕ) (value : List ℕ) → planned cell ≡ Some value
      → IsPlannedCell g p.slot rows level to laid cell value
  planned_cell cell value is = ⊎_elim
      (λ none. of_tree is_rooted.grows none (h.laid_is.adds cell value is))
      (λ found.
      let same : found.0 ≡ value =
      some_is found.0 value (sym (extends_between.keeps cell found.0 found.1) ∙ h.laid_is.adds cell value is) in
      of_row (subst (λ (v : List ℕ). IsAddedTo g rows (length rows) h.stands.between h.stands.next cell v) same
      (h.stands.lists.added cell found.0 found.1 (h.blank cell value is))))
      (look h.stands.between cell)

  -- some cell is planned: the bucket
  pub some_planned : (cell : ℕ) × (value : List ℕ) × (planned cell ≡ Some value)
  some_planned = found is_rooted.grows
    where
      new_is_planned : {cell : ℕ} {r : RecordCell} → h.stands.between cell ≡ None → Holds laid cell r
          → (at : ℕ) × (value : List ℕ) × (planned at ≡ Some value)
      new_is_planned {cell} none holds = ⊎_elim
          (λ was. absurd (none-some _ (sym (blank_before h.stands.lists.extends none) ∙ was)))
          (λ row. (cell, holds.cell, row))
          (h.laid_is.only cell holds.cell holds.stands)

      found : {cost : ℕ} → TreeGrows g level p.slot h.stands.next to h.stands.between laid cost
          → (at : ℕ) × (value : List ℕ) × (planned at ≡ Some value)
      found (in_bucket adds holds same cost) = new_is_planned adds.was holds
      found (in_new_node mid levels adds leads adds_bucket holds same cost) = new_is_planned adds.was leads
