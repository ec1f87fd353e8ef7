-- A match in a slot, and none.
use Rattle.std.proofs.Common.{◌≡◌, ℕ, List, Some, None, Ok, Err, sym, ◌∙◌, subst}
use Rattle.std.specs.Prelude.{IsTrue}
use Rattle.cell_types.specs.Layout.{Layout}
use Rattle.cell_types.specs.Refusals.{refusal_of_fault}
use Rattle.cell_types.specs.declared.refusal.Fault.{Fault}
use Rattle.cell_types.specs.declared.refusal.Fault.TheVariants as faults
use Rattle.volume_meaning.specs.Words.{rule_of}
use Rattle.worm_device.specs.Views.{ViewState, Viewed}
use Rattle.word_reader.specs.declared.matcher.Matcher.{Matcher}
use Rattle.document_store.specs.Heads.{id_of}
use Rattle.document_store.specs.Looks.{IsPartOf, LookFails}
use Rattle.document_store.specs.Standing.{HoldsDocument}
use Rattle.document_store.specs.declared.head.Head.{Head}
use Rattle.document_store.specs.declared.part.Part.{Part}
use Rattle.record_query.specs.Matching.{IsMatcherOf, ReadMatch, ReadOther, SlotEnds}
use Rattle.record_query.specs.declared.found.Match.{Match}
use Rattle.document_store.proofs.Holding.{part_on, whole_is_held}

-- a fault of a look, as a command refuses
pub refused : (g : Layout) (n : ℕ) (terms : List (List ℕ)) (old new : ViewState) (fault : Fault)
    → LookFails g n old new fault → SlotEnds g n terms old new (Err (refusal_of_fault fault))
refused g n terms old new (faults.Tampered e) fails = fails
refused g n terms old new faults.Failed fails = fails

-- what was read in a part, after it was found
module _ (g : Layout) (part : Part) (terms : List (List ℕ)) (m : Matcher)
    (was : IsMatcherOf (rule_of g.version) terms m)
    {old new : ViewState} (viewed : Viewed old new) (same : new.base.faults ≡ old.base.faults)
    (is : IsTrue old.base.tells → IsPartOf g old.image part.slot part) where
  holds : IsTrue old.base.tells → IsPartOf g new.image part.slot part
  holds tells = part_on viewed.image (is tells)

  now_tells : IsTrue old.base.tells → IsTrue new.base.tells
  now_tells tells = subst IsTrue (sym viewed.called.tells) tells

  pub found_match : (h : Head) (found : Match) → ReadMatch new part.start part.bytes m h → found.slot ≡ part.slot
      → found.identifier ≡ id_of h → found.bytes ≡ h.body_length
      → SlotEnds g part.slot terms old new (Ok (Some found))
  found_match h found read slot_is id_is bytes_is = (
    same,
    λ tells. record {
      body = read.has.body;
      slot_is = slot_is;
      holds = subst (λ (id : List ℕ). HoldsDocument g new.image part.slot id read.has.body) (sym id_is)
          (whole_is_held g new part.slot part (id_of h) read.has.body (now_tells tells) (holds tells) read.has.whole);
      bytes_is = bytes_is ∙ sym read.has.is_length;
      matches = read.matches (rule_of g.version) terms was;
    },
  )

  pub no_match : ReadOther new part.start part.bytes m → SlotEnds g part.slot terms old new (Ok None)
  no_match read = (
    same,
    λ tells. record {
      id = read.id;
      body = read.body;
      holds = whole_is_held g new part.slot part read.id read.body (now_tells tells) (holds tells) read.whole;
      lacks = read.differs (rule_of g.version) terms was;
    },
  )
