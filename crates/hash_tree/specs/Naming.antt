-- What a refusal to plan an entry's first cell names.
use Rattle.std.specs.Prelude.{◌≡◌, Option, Some, None}
use Rattle.cell_types.specs.declared.refusal.Fault.TheVariants.{Tampered}
use Rattle.tamper_rules.specs.declared.numbers.TheConstants.{LOST_CHILD}
use Rattle.cell_pool.specs.declared.fault.GrowthFault.{GrowthFault}
use Rattle.cell_pool.specs.declared.fault.GrowthFault.TheVariants as growth
use Rattle.cell_pool.specs.declared.planning.PlanFault.{PlanFault}
use Rattle.cell_pool.specs.declared.planning.PlanFault.TheVariants.{Taken, NoMemory}
use Rattle.hash_tree.specs.declared.level.ChildCell.{ChildCell}

-- a taken cell is blamed on the child cell that led to its node: the root's cells are nobody else's
abbrev pub BlamesChild : Option ChildCell → PlanFault → GrowthFault → Type 0
BlamesChild led (NoMemory lack) named = named ≡ growth.NoMemory lack
BlamesChild None Taken named = ⊥
BlamesChild (Some child) Taken named =
    named ≡ growth.Fault (Tampered (record { rule = LOST_CHILD; cell = child.cell; found = child.found }))
