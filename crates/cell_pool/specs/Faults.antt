-- Why an entry is not inserted, as a command refuses.
use Rattle.cell_types.specs.Refusals.{refusal_of_fault}
use Rattle.cell_types.specs.declared.refusal.Refusal.{Refusal}
use Rattle.cell_types.specs.declared.refusal.Refusal.TheVariants as refusals
use Rattle.cell_pool.specs.declared.fault.GrowthFault.{GrowthFault}
use Rattle.cell_pool.specs.declared.fault.GrowthFault.TheVariants.{Fault, NoMemory}

-- as a command refuses
abbrev pub refusal_of_growth : GrowthFault → Refusal
refusal_of_growth (Fault fault) = refusal_of_fault fault
refusal_of_growth (NoMemory lack) = refusals.NoMemory
