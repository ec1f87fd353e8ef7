-- A document that was read in a slot that is done, from the look for its part on.
use Rattle.std.proofs.Common.{◌≡◌, ◌<◌, ◌≤◌, ◌+◌, ◌↔◌, ℕ, List, length, Some, Result, Ok, Err, refl, ◌∙◌, sym, ap, subst, arith}
use Rattle.std.specs.Prelude.{IsTrue, Bool}
use Rattle.cell_types.specs.Image.{Image}
use Rattle.cell_types.specs.Layout.{Layout}
use Rattle.cell_types.specs.Refusals.{refusal_of_fault}
use Rattle.cell_types.specs.declared.refusal.Fault.{Fault}
use Rattle.cell_types.specs.declared.refusal.Fault.TheVariants.{Tampered, Failed}
use Rattle.volume_meaning.specs.Slots.{cells_for}
use Rattle.worm_device.specs.Views.{ViewState, Viewed}
use Rattle.commit_record.specs.States.{stamp_cells}
use Rattle.document_store.specs.Heads.{HasBody, id_of}
use Rattle.document_store.specs.Looks.{HasPart, HasStored, HoldsHead, HoldsIdentifier, HoldsSome, IdentifierEnds, IsPartOf, IsSame, LookFails, PartEnds, ReadsOnce, SameEnds}
use Rattle.document_store.specs.Standing.{HoldsDocument}
use Rattle.document_store.specs.declared.head.Head.{Head}
use Rattle.document_store.specs.declared.part.Part.{Part}
use Rattle.document_store.proofs.Holding.{one_part, part_on, whole_is_held}
use Rattle.document_store.proofs.Naming.{fails_from, told}

-- a look that gave no answer, as a command refuses
pub identifier_fails : (g : Layout) (n : ℕ) (old new : ViewState) (fault : Fault) → LookFails g n old new fault
    → IdentifierEnds g n old new (Err (refusal_of_fault fault))
identifier_fails g n old new (Tampered e) fails = fails
identifier_fails g n old new Failed fails = fails

-- a look found the part
pub found_part : (g : Layout) (n : ℕ) (old mid : ViewState) (part : Part) → Viewed old mid
    → PartEnds g n old mid (Ok (Some part)) → n < g.slots → HasPart g mid part
found_part g n old mid part before found less = record {
  slot = subst (λ (m : ℕ). m < g.slots) (sym found.0) less;
  inside = found.1;
  stated = found.4;
  is = λ tells. subst (λ (m : ℕ). IsPartOf g mid.image m part) (sym found.0)
      (found.3 (subst IsTrue before.called.tells tells));
}

module _ (g : Layout) (n : ℕ) (old mid new : ViewState) (part : Part) (before : Viewed old mid) (after : Viewed mid new)
    (found : PartEnds g n old mid (Ok (Some part))) where
  part_later : IsTrue old.base.tells → IsPartOf g new.image n part
  part_later tells = part_on after.image (found.3 tells)

  -- it has as many stored bytes as the slot states
  pub bytes_are : IsTrue old.base.tells → (start reserved bytes journal : ℕ)
      → Rattle.volume_meaning.specs.Slots.IsDone g new.image n start reserved bytes journal → bytes ≡ part.bytes
  bytes_are tells start reserved bytes journal done =
      (one_part g new.image n part start reserved bytes journal (part_later tells) done).0

  pub reads_once : mid.base.reads ≤ old.base.reads + (3 + stamp_cells g)
      → new.base.reads ≤ mid.base.reads + cells_for part.bytes → ReadsOnce g n old new
  reads_once first second tells start reserved bytes journal done =
      let same = bytes_are tells start reserved bytes journal done in
      omega (arith, first, second, ap cells_for same)

  -- why its document was not read
  pub read_fails : (fault : Fault) → LookFails g part.slot mid new fault → LookFails g n old new fault
  read_fails fault fails =
      fails_from g before after n found.2 fault (subst (λ (m : ℕ). LookFails g m mid new fault) found.0 fails)

  -- whether it has an identifier
  pub same_then : (id : List ℕ) (result : Result Bool Fault) → SameEnds g part.slot id mid new result
      → SameEnds g n id old new result
  same_then id (Ok same) ends = (
    ends.0 ∙ found.2,
    λ tells. subst (λ (m : ℕ). IsSame g new.image m id same) found.0 (ends.1 (told before tells)),
  )
  same_then id (Err fault) ends = read_fails fault ends

module _ (g : Layout) (old new : ViewState) (part : Part) (viewed : Viewed old new) (has : HasPart g old part) where
  -- a part that was found goes on being one
  pub has_part_on : HasPart g new part
  has_part_on = record {
    slot = has.slot;
    inside = has.inside;
    stated = has.stated;
    is = λ tells. part_on viewed.image (has.is (subst IsTrue viewed.called.tells tells));
  }

  module _ (h : Head) (body : HasBody new part.start part.bytes h) where
    -- the slot holds the document that was read
    pub read_holds : IsTrue new.base.tells → HoldsDocument g new.image part.slot (id_of h) body.body
    read_holds tells = whole_is_held g new part.slot part (id_of h) body.body tells (has_part_on.is tells) body.whole

    -- the document of a part that was found before
    pub part_head : IsTrue old.base.tells → HoldsHead g new.image part.slot h
    part_head tells = record {
      body = body.body;
      holds = read_holds (told viewed tells);
      body_length = sym body.is_length;
    }

    pub holds_some : IsTrue new.base.tells → HoldsSome g new.image part.slot
    holds_some tells = record { id = id_of h; body = body.body; holds = read_holds tells }

module _ (g : Layout) (n : ℕ) (image : Image) (h : Head) (head : HoldsHead g image n h) where
  pub has_stored : h.id_length ≡ length (id_of h)
      → HasStored g image n (record { identifier_length = h.id_length; body_length = h.body_length })
  has_stored same = record {
    id = id_of h;
    body = head.body;
    holds = head.holds;
    identifier_length = same;
    body_length = head.body_length;
  }

  pub holds_identifier : (id : List ℕ) → id ≡ id_of h → HoldsIdentifier g image n id
  holds_identifier id same = record {
    body = head.body;
    holds = subst (λ (i : List ℕ). HoldsDocument g image n i head.body) (sym same) head.holds;
  }

  pub is_same : (id : List ℕ) (same : Bool) → (IsTrue same ↔ (id_of h ≡ id)) → IsSame g image n id same
  is_same id same says = record { own = id_of h; holds = holds_identifier (id_of h) refl; says = says }
