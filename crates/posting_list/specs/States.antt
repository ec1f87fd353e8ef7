-- Lists of terms as the join sees them.
use Rattle.std.specs.Prelude.{◌≡◌, ℕ, Bool, List, [], ◌∷◌, length, map, Option, Some, None, Result, Ok, Err, IsTrue, ⊤}
use Rattle.cell_types.specs.declared.refusal.Fault.{Fault}
use Rattle.worm_device.specs.Views.{ViewState}
use Rattle.document_store.specs.Looks.{HasPart}
use Rattle.document_store.specs.declared.part.Part.{Part}
use Rattle.zigzag_join.specs.Lists.{ListsState}
use Rattle.zigzag_join.specs.declared.lists.Landing.{Landing}
use Rattle.posting_list.specs.Naming.{MayName, ShowsListEvidence}
use Rattle.posting_list.specs.Owing.{IsLiveSlot, Lands, Owes, Vouches}
use Rattle.posting_list.specs.declared.reach.Reach.{Reach}
use Rattle.posting_list.specs.declared.sought_term.SoughtTerm.{SoughtTerm}
use Rattle.posting_list.specs.declared.has_slot.TheConstants.{HAS_READS}
use Rattle.posting_list.specs.declared.next_slot.TheConstants.{NEXT_READS}

-- what is read, as a row of numbers
abbrev pub row_of : Reach → List ℕ
row_of r =
    r.volume.version ∷ r.volume.geometry.slots ∷ r.volume.geometry.lists ∷ r.volume.geometry.cells
    ∷ r.volume.geometry.version ∷ r.horizon ∷ r.bounds.pool ∷ r.bounds.edge ∷ []

-- a term as a row of numbers
abbrev pub term_row : SoughtTerm → List ℕ
term_row t = t.list ∷ t.tag

-- The lists of these terms over a view that was lent under this name: one a term, in their order. They are made of the
-- loan, of what is read, and of the terms.
abbrev pub counted_lists : Reach → List SoughtTerm → ℕ → ViewState → ℕ → ℕ → ListsState
counted_lists r terms loan s next_asks has_asks = record {
  lists = length terms;
  view = s;
  made_of = (loan ∷ s.loans) ∷ row_of r ∷ map term_row terms;
  owes = Owes r terms s;
  vouches = Vouches r terms s;
  may_name = MayName r s;
  shows = ShowsListEvidence r s;
  lands = Lands r terms s;
  live = IsLiveSlot r s;
  next_asks = next_asks;
  has_asks = has_asks;
  next_reads = NEXT_READS;
  has_reads = HAS_READS;
}

-- the same before they were asked for anything
abbrev pub lists_over : Reach → List SoughtTerm → ℕ → ViewState → ListsState
lists_over r terms loan s = counted_lists r terms loan s 0 0

-- what is known of the slot is where its document lies: this is the part that is kept
pub record KnowsPart (r : Reach) (s : ViewState) (last : Option Part) (slot : ℕ) : Type 0 where
  pub part : Part
  pub is : last ≡ Some part
  pub slot_is : part.slot ≡ slot
  pub has : HasPart r.volume.geometry s part

-- where a list always looks at the slot that it comes to, the slot is live, and it is known where its document lies
abbrev pub LooksAlways : Bool → Reach → ViewState → Option Part → Result (Option Landing) Fault → Type 0
LooksAlways always r s last (Ok (Some landing)) =
    IsTrue always → IsLiveSlot r s landing.slot × KnowsPart r s last landing.slot
LooksAlways always r s last (Ok None) = ⊤
LooksAlways always r s last (Err fault) = ⊤
