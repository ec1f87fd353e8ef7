-- A look behind one pointer, over plain values.
use Rattle.std.proofs.Common.{◌≡◌, ◌<◌, ◌≤◌, ◌+◌, ◌⊎◌, ⊎_elim, inl, inr, ℕ, List, Some, Ok, Err, refl, ap, sym, subst, arith, ◌∙◌}
use Rattle.std.specs.Prelude.{IsTrue}
use Rattle.std.proofs.lemmas.Bool.{cases_lt}
use Rattle.cell_types.specs.Image.{Image}
use Rattle.cell_types.specs.declared.record_cell.RecordCell.TheVariants.{Jump}
use Rattle.cell_types.specs.declared.refusal.Evidence.{Evidence}
use Rattle.cell_types.specs.declared.refusal.Fault.{Fault}
use Rattle.cell_types.specs.declared.refusal.Fault.TheVariants.{Tampered, Failed}
use Rattle.volume_meaning.proofs.Extending.{holds_on}
use Rattle.volume_meaning.proofs.Holding.{one_record_holds}
use Rattle.volume_meaning.specs.Blocks.{PostingFields, InFront, InSpan, Trail, Leads, arrived, onwards, pointer_at}
use Rattle.volume_meaning.proofs.Trails.{trail_on}
use Rattle.worm_device.specs.Views.{ViewState, Viewed}
use Rattle.jump_block.specs.Entries.{posting_of}
use Rattle.jump_block.specs.Fronts.{FirstEnds}
use Rattle.jump_block.specs.Spans.{IsSpan}
use Rattle.jump_block.specs.declared.held_entry.Entry.{Entry}
use Rattle.jump_block.specs.declared.known_front.Front.{Front}
use Rattle.jump_block.specs.declared.known_front.Front.TheVariants.{At, Open, Full}
use Rattle.jump_block.specs.declared.spans.Span.{Span}
use Rattle.jump_block.proofs.Knowing.{key_on}
use Rattle.jump_block.proofs.OneBlock.{jump_target, none_from_blank, full_greatest, of_span}
use Rattle.jump_index.specs.Evidence.{IsBadPointer, outside, no_key, ShowsInBlock, bad_entry, bad_pointer, FaultShows}
use Rattle.jump_block.specs.Pointing.{HasFull, HasPointer, IsPointerPlace, IsPointerEvidence}
use Rattle.jump_index.specs.Looking.{IsLeastEntry}
use Rattle.jump_index.specs.Searches.{IsListEntry, IsEntryBehind}
use Rattle.jump_index.specs.declared.bounds.Bounds.{Bounds}
use Rattle.jump_index.proofs.Passing.{known_less, next_is_least, next_passes_none, goes_through}

-- an entry that was found is one
key_of : Front → ℕ
key_of (At e) = e.key
key_of (Open n greatest) = 0
key_of (Full greatest) = 0

pub at_key : (a b : Entry) → At a ≡ At b → a.key ≡ b.key
unfolding key_of
at_key a b e = ap key_of e

-- the pointer is named as evidence, for this reason
pub shows_pointer : (bounds : Bounds) (image : Image) (block level digit target : ℕ) (e : Evidence)
    → IsPointerPlace level digit → HasPointer image block level digit target
    → IsPointerEvidence block level digit target (Tampered e)
    → IsBadPointer bounds image block level digit e.found → ShowsInBlock bounds image block e
shows_pointer bounds image block level digit target e place jump names bad =
    bad_pointer block level digit (arrived block refl) names.0 place names.1
    (ap image names.1 ∙ jump.stands ∙ ap (λ (c : List ℕ). Some c) (jump.is.same ∙ sym names.2)) bad

module _ (bounds : Bounds) (block l : ℕ) (span : Span) (target : ℕ) (old new : ViewState) (viewed : Viewed old new)
    (is : IsSpan l span) (full : IsTrue old.base.tells → HasFull old.image block l)
    (jump : IsTrue old.base.tells → HasPointer old.image block span.level span.digit target)
    (from : bounds.pool ≤ target) (to : target + 256 ≤ bounds.edge) where
  -- the block leads to the target still
  leads : IsTrue old.base.tells → Leads new.image bounds.pool bounds.edge target block
  leads tells = onwards block span.level span.digit target is.levels is.some is.digits
      (holds_on viewed.image (jump tells)) from to (arrived target refl)

  pub target_fault : (fault : Fault) → FirstEnds span.low target old new (Err fault)
      → FaultShows bounds block old new fault
  target_fault Failed ends = ends
  target_fault (Tampered e) ends = (
    inl ends.0,
    λ tells. bad_entry target ends.1 (leads tells) ends.0 ends.3
        ends.2 (ends.4 tells).0,
  )

  pub target_entry : (e : Entry) → bounds.edge ≤ old.cells → FirstEnds span.low target old new (Ok (At e))
      → IsListEntry old.cells e
  target_entry e edge ends = record { inside = omega (arith, ends.0, to, edge); place = ends.1; last = ends.3 }

  -- the first entry of the target at or past the span's beginning is no greater than a posting with a trail
  pub target_first : (e : Entry) → FirstEnds span.low target old new (Ok (At e)) → e.key < span.high
      → IsTrue old.base.tells
      → IsEntryBehind bounds new.image block e × IsLeastEntry bounds block span.low old e
  target_first e ends inside tells =
      let found = ends.4 tells in (
        record {
          leads = let P : ℕ → Type 0 = λ b. Leads new.image bounds.pool bounds.edge b block in subst P
              (sym ends.0) (leads tells);
          place = ends.1;
          in_front = let P : ℕ → Type 0 = λ b. InFront new.image b e.place (posting_of e) in subst P (sym ends.0)
              found.0;
        },
        λ at p trail asked. ⊎_elim
            (λ below.
            let through = goes_through old.image bounds.pool old.cells at l block p span (full tells) is asked
            below trail in
            let one : through.target ≡ target = jump_target through.target target
            (one_record_holds old.image (pointer_at block span.level span.digit) (Jump through.target)
            (Jump target) through.jump (jump tells)) in
            let P : ℕ → Type 0 = λ b. Trail new.image bounds.pool old.cells at p b in
            (next_passes_none new.image target e.place span.low found.1 bounds.pool old.cells at (posting_of e) p
            found.0
            ends.1 ends.2 (subst P one (trail_on viewed.image through.rest)) asked).0)
            (λ past. omega arith)
            (cases_lt p.key span.high),
      )

  -- no key of the target lies in the span
  no_key_here : (first : Front) → FirstEnds span.low target old new (Ok first)
      → ((e : Entry) → first ≡ At e → span.high ≤ e.key) → IsTrue old.base.tells
      → (place : ℕ) (p : PostingFields) → place < 128 → InFront new.image target place p
      → InSpan l span.level span.digit p.key → ⊥
  no_key_here (At e) ends past tells place p below front within =
      let lies = of_span is within in
      let found = ends.4 tells in
      let least = next_is_least new.image target e.place span.low found.1 (posting_of e) found.0 ends.2 place p
      front lies.0 in
      omega (arith, least.0, past e refl, lies.1)
  no_key_here (Open n greatest) ends past tells place p below front within =
      let lies = of_span is within in
      let found = ends.1 tells in
      let less = known_less new.image target n span.low found.1 place p
      (none_from_blank new.image target n place p found.0 front) front in
      omega (arith, less, lies.0)
  no_key_here (Full greatest) ends past tells place p below front within =
      let lies = of_span is within in
      omega (arith, full_greatest new.image target greatest place p (ends.1 tells) below front, ends.0, lies.0)

  pub target_without_key : (first : Front) → FirstEnds span.low target old new (Ok first)
      → ((e : Entry) → first ≡ At e → span.high ≤ e.key) → (fault : Fault)
      → IsPointerEvidence block span.level span.digit target fault → FaultShows bounds block old new fault
  target_without_key first ends past Failed names = absurd names
  target_without_key first ends past (Tampered e) names = (
    inr names.0,
    λ tells.
        let now : HasPointer new.image block span.level span.digit target = holds_on viewed.image (jump tells) in
        shows_pointer bounds new.image block span.level span.digit target e
        (record { levels = is.levels; some = is.some; digits = is.digits }) now names
        (no_key target l now (key_on viewed.image (full tells)) (no_key_here first ends past tells)),
  )

-- a target outside the bounds
pub target_outside : (bounds : Bounds) (block l : ℕ) (span : Span) (target : ℕ) (s : ViewState) (fault : Fault)
    → IsSpan l span
    → (IsTrue s.base.tells → HasPointer s.image block span.level span.digit target)
    → (target < bounds.pool) ⊎ (bounds.edge < target + 256)
    → IsPointerEvidence block span.level span.digit target fault → FaultShows bounds block s s fault
target_outside bounds block l span target s Failed is jump out names = absurd names
target_outside bounds block l span target s (Tampered e) is jump out names = (
  inr names.0,
  λ tells.
      shows_pointer bounds s.image block span.level span.digit target e
      (record { levels = is.levels; some = is.some; digits = is.digits }) (jump tells) names
      (outside target (jump tells) out),
)
