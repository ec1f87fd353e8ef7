-- Paths of digests.
use Rattle.std.proofs.Common.{◌≡◌, ◌<◌, ◌≤◌, ◌/◌, ℕ, List, arith}
use Rattle.cell_types.specs.Bytes.{AreBytes}
use Rattle.cell_types.specs.Image.{Image}
use Rattle.cell_types.specs.Layout.{Layout, pool_at, root_at}
use Rattle.volume_meaning.specs.HashPaths.{Sought, PassedTo, at_root, down, nibble}
use Rattle.volume_meaning.specs.Nodes.{IsNode, IsOnPath}
use Rattle.volume_meaning.specs.Nodes as nodes

-- a half byte
pub nibble_low : (d : List ℕ) → AreBytes d → (v : ℕ) → nibble d v < 16
nibble_low d bytes v = let b = bytes.each (v / 2) in grind (arith, b)

-- a path that is passed
pub on_path : {g : Layout} {image : Image} {s : Sought} {node level : ℕ} → AreBytes s.digest → s.pool ≡ pool_at g
    → s.cells ≤ g.cells → PassedTo image s (root_at g) node level
    → IsOnPath g image s.digest level node × IsNode g image level node
on_path bytes pool cells (at_root node level is zero) =
    (nodes.IsOnPath.root level node zero is, nodes.IsNode.root level node zero is)
on_path {g} {image} {s} bytes pool cells (down node level above before is rest passed leads) =
    let way = on_path bytes pool cells rest in
    let from : pool_at g ≤ node = omega (arith, pool, leads.inside_from) in (
      nodes.IsOnPath.under level node before above is way.0 leads.levels leads.child from
          (omega (arith, leads.inside_to, cells)),
      nodes.IsNode.under level node before above (nibble s.digest before) is way.1 (nibble_low s.digest bytes before)
          leads.levels leads.child from (omega (arith, leads.inside_to, cells)),
    )
