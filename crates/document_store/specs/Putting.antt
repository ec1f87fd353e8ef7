-- The body of a part, as it is put into a sink piece by piece.
use Rattle.std.specs.Prelude.{◌≡◌, ◌≤◌, ◌+◌, ℕ, List, ◌++◌, length, take, Result, Ok, Err, IsTrue}
use Rattle.cell_types.specs.declared.refusal.Fault.{Fault}
use Rattle.cell_types.specs.declared.refusal.Fault.TheVariants as faults
use Rattle.host_ports.specs.Sinks.{Gets, SinkState}
use Rattle.worm_device.specs.Counts.{Rose}
use Rattle.worm_device.specs.Views.{ViewState}
use Rattle.append_file.specs.Reading.{HasBroken, HasRead}
use Rattle.append_file.specs.declared.piece.ContentFault.{ContentFault}
use Rattle.append_file.specs.declared.piece.ContentFault.TheVariants as contents
use Rattle.append_file.specs.declared.position.Position.{Position}
use Rattle.document_store.specs.Heads.{HasBody, IsWholePart, SpellsNone}
use Rattle.document_store.specs.declared.body.BodyFault.{BodyFault}
use Rattle.document_store.specs.declared.body.BodyFault.TheVariants as bodies
use Rattle.document_store.specs.declared.head.Head.{Head}
use Rattle.document_store.specs.declared.putting.PutFault.{PutFault}
use Rattle.document_store.specs.declared.putting.PutFault.TheVariants.{Broken, ReadFault, SinkFault}

-- why a body was not put, where a look gave no answer
abbrev pub body_fault_of : Fault → BodyFault
body_fault_of (faults.Tampered e) = bodies.Tampered e
body_fault_of faults.Failed = bodies.ReadFault

-- why it was not, where bytes were not read
abbrev pub put_fault_of : ContentFault → PutFault
put_fault_of contents.Broken = Broken
put_fault_of contents.ReadFault = ReadFault

-- How reading so many bytes of a part may end, and why: they are the next ones.
abbrev pub FillEnds : ViewState → ViewState → Position → Position → List ℕ → Result Unit ContentFault → Type 0
FillEnds old new p q piece (Ok u) =
    (new.base.faults ≡ old.base.faults)
    × ((start bytes : ℕ) (given : List ℕ) → HasRead old start bytes p given → HasRead new start bytes q (given ++
    piece))
FillEnds old new p q piece (Err contents.Broken) =
    (new.base.faults ≡ old.base.faults)
    × ((start bytes : ℕ) (given : List ℕ) → HasRead old start bytes p given → length given + length piece ≤ bytes
    → IsTrue old.base.tells → HasBroken new.image start bytes)
FillEnds old new p q piece (Err contents.ReadFault) = Rose old.base.faults new.base.faults

-- The sink got some bytes behind what it held: the first of the body of each document that the part holds.
pub record GotFront (v : ViewState) (start bytes : ℕ) (from to : SinkState) : Type 0 where
  pub got : List ℕ
  pub gets : Gets from.held to.held got
  pub front : (id body : List ℕ) → IsTrue v.base.tells → IsWholePart v start bytes id body
      → (got ≡ take (length got) body) × (length got ≤ length body)

-- why the body of a part was not put whole, and what the sink got
abbrev pub PutFails : ℕ → ℕ → ViewState → ViewState → SinkState → SinkState → PutFault → Type 0
PutFails start bytes old new from to Broken =
    (new.base.faults ≡ old.base.faults) × (to.faults ≡ from.faults) × GotFront new start bytes from to
    × (IsTrue old.base.tells → SpellsNone new.image start bytes)
PutFails start bytes old new from to ReadFault =
    Rose old.base.faults new.base.faults × (to.faults ≡ from.faults) × GotFront new start bytes from to
PutFails start bytes old new from to SinkFault =
    (new.base.faults ≡ old.base.faults) × Rose from.faults to.faults × GotFront new start bytes from to

-- The sink got the body behind this head, behind what it held.
pub record GotRest (v : ViewState) (start bytes : ℕ) (h : Head) (from to : SinkState) : Type 0 where
  pub has : HasBody v start bytes h
  pub gets : Gets from.held to.held has.body

-- how putting the body behind a head may end, and why
abbrev pub PutRestEnds : ℕ → ℕ → Head → ViewState → ViewState → SinkState → SinkState → Result Unit PutFault → Type 0
PutRestEnds start bytes h old new from to (Ok u) =
    (new.base.faults ≡ old.base.faults) × (to.faults ≡ from.faults) × GotRest new start bytes h from to
PutRestEnds start bytes h old new from to (Err fault) = PutFails start bytes old new from to fault

-- how putting the body of a part may end, and why; at Ok this is the head that stands before it
abbrev pub PutBodyEnds : ℕ → ℕ → ViewState → ViewState → SinkState → SinkState → Result Head PutFault → Type 0
PutBodyEnds start bytes old new from to (Ok h) =
    (new.base.faults ≡ old.base.faults) × (to.faults ≡ from.faults) × GotRest new start bytes h from to
PutBodyEnds start bytes old new from to (Err fault) = PutFails start bytes old new from to fault
