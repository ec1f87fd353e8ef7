-- The fault that a program ends with.
use Rattle.cell_types.specs.declared.refusal.CopyRefusal.{CopyRefusal}
use Rattle.cell_types.specs.declared.refusal.CopyRefusal.TheVariants as copies
use Rattle.cell_types.specs.declared.refusal.Refusal.{Refusal}
use Rattle.cell_types.specs.declared.refusal.Refusal.TheVariants as refusals
use Rattle.program_host.specs.declared.fault.Fault.{Fault}
use Rattle.program_host.specs.declared.fault.Fault.TheVariants.{Usage, Refused, NotCopied}

-- that of a command that was refused
abbrev pub fault_of : Refusal → Fault
fault_of refusals.Usage = Usage
fault_of refusal = Refused refusal

-- that of a copy that was refused
abbrev pub fault_of_copy : CopyRefusal → Fault
fault_of_copy copies.Usage = Usage
fault_of_copy refusal = NotCopied refusal
