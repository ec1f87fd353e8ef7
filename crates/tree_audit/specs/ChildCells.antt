-- Which child cells lead to which nodes, by numbers.
use Rattle.std.specs.Prelude.{◌≡◌, ◌<◌, ◌≤◌, ◌+◌, ◌*◌, ℕ, List, slice_get, Option, Some}
use Rattle.cell_types.specs.Image.{Image}
use Rattle.cell_types.specs.Layout.{Layout}
use Rattle.cell_types.specs.declared.record_cell.RecordCell.TheVariants.{Child}
use Rattle.volume_meaning.specs.declared.nodes.TheConstants.{NODE_BUCKETS, NODE_CELLS}
use Rattle.log_audit.specs.Leads.{LeadsInto}
use Rattle.tree_audit.specs.declared.child_cells.TheConstants.{TARGET_STEP}

-- the cell is at the place of a child cell of the node
pub record IsChildPlace (node at : ℕ) : Type 0 where
  pub place : ℕ
  pub from : NODE_BUCKETS ≤ place
  pub to : place < NODE_CELLS
  pub is : at ≡ node + place

-- the cell is at the place of a child cell of the last node, if there is one
pub record IsLastPlace (last : Option ℕ) (at : ℕ) : Type 0 where
  pub node : ℕ
  pub is_last : last ≡ Some node
  pub here : IsChildPlace node at

-- the child cell there leads to a node whose cells lie in the pool
abbrev pub HasChildInPool : Layout → Image → ℕ → ℕ → Type 0
HasChildInPool g image at target = LeadsInto g image (λ (t : ℕ). Child t) NODE_CELLS at target

-- the number of a child cell that leads to this target
abbrev pub lead_number : ℕ → ℕ → ℕ
lead_number target cell = target * TARGET_STEP + cell

-- the number is that of a child cell of this node, one of those before this place
pub record IsLeadOf (g : Layout) (image : Image) (node below x : ℕ) : Type 0 where
  pub place : ℕ
  pub from : NODE_BUCKETS ≤ place
  pub to : place < below
  pub target : ℕ
  pub leads : HasChildInPool g image (node + place) target
  pub is : x ≡ lead_number target (node + place)

-- it is that of a child cell of one of the first n of these nodes
pub record IsLeadAmong (g : Layout) (image : Image) (nodes : List ℕ) (n x : ℕ) : Type 0 where
  pub index : ℕ
  pub first : index < n
  pub node : ℕ
  pub there : slice_get nodes index ≡ Some node
  pub lead : IsLeadOf g image node NODE_CELLS x
