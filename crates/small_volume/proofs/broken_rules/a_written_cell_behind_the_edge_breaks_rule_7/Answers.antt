-- 584 is an edge, and lies before the cell.
use Rattle.std.proofs.Common.{◌<◌, inr, [], ◌∷◌, refl, arith}
use Rattle.tamper_rules.specs.Rules.{StrayCells}
use Rattle.small_volume.proofs.Broken.{broken_by, edge_on}
use Rattle.small_volume.proofs.Values.{foreign_extends}
use Rattle.small_volume.specs.SmallVolume.{small_image}
use Rattle.small_volume.specs.ForeignCells.{stray_cell}
use Rattle.small_volume.proofs.broken_rules.a_written_cell_behind_the_edge_breaks_rule_7.Goals as goal

pub returns : goal.returns
returns c = broken_by StrayCells 700 stray_cell refl (inr (inr (omega arith, omega arith)))
    (λ met.
    let edge = edge_on (foreign_extends small_image ((700, stray_cell) ∷ [])) refl in
    let before : 700 < 584 = met.edge 584 edge (omega arith) in
    omega (arith, before))
