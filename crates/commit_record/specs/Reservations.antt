-- The cells that a slot reserves, by its state.
use Rattle.std.specs.Prelude.{Bool, true, false, Option, Some, None}
use Rattle.commit_record.specs.declared.reservation.Reservation.{Reservation}
use Rattle.commit_record.specs.declared.slot.SlotState.{SlotState}
use Rattle.commit_record.specs.declared.slot.SlotState.TheVariants.{Unused, Reserved, Abandoned, Committed, Done}

-- those that its state names
abbrev pub reservation_of : SlotState → Option Reservation
reservation_of Unused = None
reservation_of (Reserved start length) = Some (record { start = start; length = length })
reservation_of (Abandoned start length) = Some (record { start = start; length = length })
reservation_of (Committed start length bytes journal) = Some (record { start = start; length = length })
reservation_of (Done start length bytes journal) = Some (record { start = start; length = length })

-- the slot is abandoned or done
abbrev pub has_ended : SlotState → Bool
has_ended Unused = false
has_ended (Reserved start length) = false
has_ended (Abandoned start length) = true
has_ended (Committed start length bytes journal) = false
has_ended (Done start length bytes journal) = true
