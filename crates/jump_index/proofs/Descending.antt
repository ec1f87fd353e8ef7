-- A search that goes on behind a full block, over plain values.
use Rattle.std.proofs.Common.{◌≡◌, ◌<◌, ◌≤◌, ◌+◌, ◌*◌, ◌^◌, ⊎_elim, inr, ℕ, Some, None, Result, Ok, Err, sym, subst, arith, ◌∙◌, min}
use Rattle.std.specs.Prelude.{IsTrue}
use Rattle.std.proofs.lemmas.Bool.{cases_lt}
use Rattle.std.proofs.lemmas.Option.{none-some}
use Rattle.cell_types.specs.Image.{Image}
use Rattle.cell_types.specs.declared.record_cell.RecordCell.TheVariants.{Jump}
use Rattle.cell_types.specs.declared.refusal.Evidence.{Evidence}
use Rattle.cell_types.specs.declared.refusal.Fault.{Fault}
use Rattle.cell_types.specs.declared.refusal.Fault.TheVariants.{Tampered, Failed}
use Rattle.volume_meaning.proofs.Extending.{holds_on}
use Rattle.volume_meaning.proofs.Holding.{one_record_holds}
use Rattle.volume_meaning.specs.Blocks.{PostingFields, InSpan, Hop, Trail, here, on, onwards, pointer_at}
use Rattle.volume_meaning.proofs.Fronts.{front_holds}
use Rattle.worm_device.specs.Views.{ViewState, Viewed}
use Rattle.worm_device.proofs.Resting.{viewed_then}
use Rattle.jump_block.specs.Entries.{cell_of, posting_of}
use Rattle.jump_block.specs.Spans.{IsSpan}
use Rattle.jump_block.specs.declared.held_entry.Entry.{Entry}
use Rattle.jump_block.specs.declared.spans.Span.{Span}
use Rattle.jump_block.proofs.Counting.{rose_later}
use Rattle.jump_block.proofs.Knowing.{key_on}
use Rattle.jump_block.proofs.OneBlock.{level_falls, jump_target, in_span, of_span}
use Rattle.jump_index.specs.Evidence.{no_key, ShowsInBlock, bad_entry, bad_pointer, FaultShows}
use Rattle.jump_block.specs.Pointing.{HasFull, HasPointer, IsPointerEvidence, HasKeyIn}
use Rattle.jump_index.specs.Looking.{FirstPointer, IsEntryWithin, LooksLater, LooksOn, OnEnds, PassesNone, SearchEnds, SearchesBlock}
use Rattle.jump_index.specs.Searches.{HasBoundedTrail, IsEntryBehind, IsExact, IsFirstEntry}
use Rattle.jump_index.specs.declared.bounds.Bounds.{Bounds}
use Rattle.jump_index.specs.declared.looked.Looked.{Looked}
use Rattle.jump_index.specs.declared.looked.Looked.TheVariants.{Found, Nothing, NoKey}
use Rattle.jump_index.proofs.Behind.{shows_pointer}
use Rattle.jump_index.proofs.LookingLater.{entry_then, fault_then, trail_then}
use Rattle.jump_index.proofs.Passing.{goes_through}

-- keys have 32 bits
pub trail_fits : {image : Image} {from to at : ℕ} {p : PostingFields} {block : ℕ} → Trail image from to at p block
    → p.key < 2 ^ 32
trail_fits (here block place is below front) = (front_holds front).is.fits.0
trail_fits (on block target hop rest) = trail_fits rest

-- the greatest key of a full block lies in the span that led there
pub full_in : {image : Image} {block l : ℕ} (low bound : ℕ) → HasFull image block l → low ≤ l → l < bound
    → HasKeyIn image block low bound
full_in low bound full ge less = record {
  place = 127;
  p = full.p;
  in_places = omega arith;
  in_front =
      full.in_front;
  from = omega (arith, full.same);
  below = omega (arith, full.same);
}

module _ (bounds : Bounds) (block target : ℕ) (s : Span) (l : ℕ) (is : IsSpan l s) (from : bounds.pool ≤ target)
    (to : target + 256 ≤ bounds.edge) where
  -- what a block leads to, the block before it leads to
  entry_before : (image : Image) (e : Entry) → HasPointer image block s.level s.digit target
      → IsEntryBehind bounds image target e → IsEntryBehind bounds image block e
  entry_before image e jump behind = record {
    leads = onwards block s.level s.digit target is.levels is.some is.digits jump from to behind.leads;
    place = behind.place;
    in_front = behind.in_front;
  }

  shows_before : (image : Image) (e : Evidence) → HasPointer image block s.level s.digit target
      → ShowsInBlock bounds image target e → ShowsInBlock bounds image block e
  shows_before image e jump (bad_entry at place leads rule cell below bad) =
      bad_entry at place (onwards block s.level s.digit target is.levels is.some is.digits jump from to leads)
      rule cell below bad
  shows_before image e jump (bad_pointer at level digit leads rule place cell stands bad) =
      bad_pointer at level digit (onwards block s.level s.digit target is.levels is.some is.digits jump from to
      leads) rule place cell stands bad

  -- a trail from the target is one from the block
  trail_before : (new : ViewState) (at : ℕ) (p : PostingFields) → bounds.edge ≤ new.cells
      → HasFull new.image block l → HasPointer new.image block s.level s.digit target
      → s.low ≤ p.key → p.key < s.high → HasKeyIn new.image target s.low s.high → HasBoundedTrail bounds new target at p
      → HasBoundedTrail bounds new block at p
  trail_before new at p edge full jump low high has rest =
      let within : InSpan full.p.key s.level s.digit p.key = subst (λ (n : ℕ). InSpan n s.level s.digit p.key)
      (sym full.same) (in_span is low high) in
      let some : InSpan full.p.key s.level s.digit has.p.key = subst
      (λ (n : ℕ). InSpan n s.level s.digit has.p.key) (sym full.same) (in_span is has.from has.below) in
      let hop : Hop new.image bounds.pool new.cells block p.key target = record {
        greatest = full.p;
        full = full.in_front;
        level = s.level;
        digit = s.digit;
        span = within;
        jump = jump;
        inside_from = from;
        inside_to = omega (arith, to, edge);
        place = has.place;
        some = has.p;
        in_front = has.in_front;
        in_places = has.in_places;
        in_span = some;
      } in on block target hop rest

-- what was done before the later spans are tried: no posting with a trail has a key of the first span
pub record FirstPassed (bounds : Bounds) (block x level : ℕ) (old mid : ViewState) (first : Span) : Type 0 where
  pub viewed : Viewed old mid
  pub reads : mid.base.reads ≤ old.base.reads + (139 + 400 * level)
  pub nothing : IsTrue old.base.tells → PassesNone bounds block x first.high old

-- the first pointer is blank
pub passed_blank : (bounds : Bounds) (block x level : ℕ) (old mid new : ViewState) (l : ℕ) (first : Span)
    → IsSpan l first → first.low ≤ x
    → Viewed old mid → mid.base.reads ≤ old.base.reads + 138 → (IsTrue old.base.tells → HasFull mid.image block l)
    → FirstPointer bounds block first mid new (Ok None) → FirstPassed bounds block x level old new first
passed_blank bounds block x level old mid new l first is low viewed reads full pointer = record {
  viewed = viewed_then viewed pointer.viewed;
  reads = omega (arith, reads, pointer.reads);
  nothing = λ tells at p trail asked below.
      let through = goes_through mid.image bounds.pool mid.cells at l block p first (full tells) is (omega arith)
      below (trail_then bounds block at p old mid viewed trail) in
      none-some _ (sym (pointer.ends (subst IsTrue (sym viewed.called.tells) tells)) ∙
      (holds_on pointer.viewed.image through.jump).stands);
}

module _ (bounds : Bounds) (block x level : ℕ) (old mid next new : ViewState) (l target : ℕ) (first : Span)
    (is : IsSpan l first) (low : first.low ≤ x) (high : x < first.high) (falls : first.level < level)
    (edge : bounds.edge ≤ old.cells) (viewed : Viewed old mid) (reads : mid.base.reads ≤ old.base.reads + 138)
    (full : IsTrue old.base.tells → HasFull mid.image block l)
    (pointer : FirstPointer bounds block first mid next (Ok (Some target))) where
  told : IsTrue old.base.tells → IsTrue mid.base.tells
  told tells = subst IsTrue (sym viewed.called.tells) tells

  told_next : IsTrue old.base.tells → IsTrue next.base.tells
  told_next tells = subst IsTrue (sym pointer.viewed.called.tells) (told tells)

  -- a trail with a key of the first span goes on behind the pointer
  behind_it : IsTrue old.base.tells → (at : ℕ) (p : PostingFields) → HasBoundedTrail bounds old block at p → x ≤ p.key
      → p.key < first.high → HasBoundedTrail bounds next target at p
  behind_it tells at p trail asked below =
      let through = goes_through mid.image bounds.pool mid.cells at l block p first (full tells) is (omega arith)
      below (trail_then bounds block at p old mid viewed trail) in
      let one : through.target ≡ target = jump_target through.target target
      (one_record_holds next.image (pointer_at block first.level first.digit) (Jump through.target) (Jump target)
      (holds_on pointer.viewed.image through.jump) (pointer.ends.2 (told tells))) in
      let P : ℕ → Type 0 = λ b. HasBoundedTrail bounds mid b at p in
      trail_then bounds target at p mid next pointer.viewed (subst P one through.rest)

  -- nothing was found behind it
  pub passed_nothing : SearchesBlock bounds target x first.low first.high first.level next new (Ok Nothing)
      → FirstPassed bounds block x level old new first
  passed_nothing search = record {
    viewed = viewed_then viewed (viewed_then pointer.viewed search.viewed);
    reads = omega (arith, reads, pointer.reads, search.reads);
    nothing = λ tells at p trail asked below. search.ends (told_next tells) at p
        (behind_it tells at p trail asked below) asked below;
  }

  -- an entry was found behind it
  pub found_behind : (e : Entry) (bottom bound : ℕ) (looked : Looked) → bottom ≤ l → l < x → x < bound
      → SearchesBlock bounds target x first.low first.high first.level next new (Ok (Found e)) → IsEntryWithin e bound looked
      → SearchesBlock bounds block x bottom bound level old new (Ok looked)
  found_behind e bottom bound looked ge above asked_below search within = record {
    viewed = viewed_then viewed (viewed_then pointer.viewed search.viewed);
    reads = omega (arith, reads, pointer.reads, search.reads);
    ends = ends looked within;
  } where
    first_of_all : IsTrue old.base.tells → IsFirstEntry bounds block x old e
    first_of_all tells at p trail asked =
        ⊎_elim
        (λ below. (search.ends.3 (told_next tells)).1 at p (behind_it tells at p trail asked below) asked)
        (λ past. (omega (arith, search.ends.1), λ exact. absurd (omega arith)))
        (cases_lt p.key first.high)

    jump_now : IsTrue old.base.tells → HasPointer new.image block first.level first.digit target
    jump_now tells = holds_on search.viewed.image (pointer.ends.2 (told tells))

    full_now : IsTrue old.base.tells → HasFull new.image block l
    full_now tells = key_on search.viewed.image (key_on pointer.viewed.image (full tells))

    behind_now : IsTrue old.base.tells → IsEntryBehind bounds new.image block e
    behind_now tells = entry_before bounds block target first l is pointer.ends.0 pointer.ends.1 new.image e
        (jump_now tells) (search.ends.3 (told_next tells)).0

    exact_now : IsTrue old.base.tells → IsExact bounds block x new e
    exact_now tells same =
        let found = search.ends.3 (told_next tells) in
        trail_before bounds block target first l is pointer.ends.0 pointer.ends.1 new (cell_of e) (posting_of e)
        (omega (arith, edge, viewed.cells, pointer.viewed.cells, search.viewed.cells)) (full_now tells) (jump_now tells)
        (omega (arith, low)) (omega (arith, high)) found.3 (found.2 same)

    ends : (looked : Looked) → IsEntryWithin e bound looked → SearchEnds bounds block x bottom bound old new (Ok looked)
    ends (Found f) (same, less) =
        let P : Entry → Type 0 = λ (a : Entry). SearchEnds bounds block x bottom bound old new (Ok (Found a)) in
        subst P (sym same) (
          search.ends.0,
          less,
          entry_then old next e (viewed_then viewed pointer.viewed) search.ends.2,
          λ tells. (
            behind_now tells,
            first_of_all tells,
            exact_now tells,
            full_in bottom bound (full_now tells)
                ge (omega (arith, above, asked_below)),
          ),
        )
    ends Nothing far = λ tells at p trail asked below. omega (arith, (first_of_all tells at p trail asked).0)
    ends NoKey never = absurd never

  pub fault_behind : (fault : Fault) (bottom bound : ℕ)
      → SearchesBlock bounds target x first.low first.high first.level next new (Err fault)
      → SearchesBlock bounds block x bottom bound level old new (Err fault)
  fault_behind fault bottom bound search = record {
    viewed = viewed_then viewed (viewed_then pointer.viewed search.viewed);
    reads = omega (arith, reads, pointer.reads, search.reads);
    ends = ends fault search.ends;
  } where
    ends : (fault : Fault) → FaultShows bounds target next new fault → FaultShows bounds block old new fault
    ends Failed rose = rose_later _ _ _ (viewed_then viewed pointer.viewed).called.faults rose
    ends (Tampered e) shows = (
      shows.0,
      λ tells. shows_before bounds block target first l is pointer.ends.0 pointer.ends.1 new.image e
          (holds_on search.viewed.image (pointer.ends.2 (told tells)))
          (shows.1 (told_next tells)),
    )

  pub no_key_behind : (fault : Fault) (bottom bound : ℕ)
      → SearchesBlock bounds target x first.low first.high first.level next new (Ok NoKey)
      → IsPointerEvidence block first.level first.digit target fault
      → SearchesBlock bounds block x bottom bound level old new (Err fault)
  no_key_behind fault bottom bound search names = record {
    viewed = viewed_then viewed (viewed_then pointer.viewed search.viewed);
    reads = omega (arith, reads, pointer.reads, search.reads);
    ends = ends fault names;
  } where
    ends : (fault : Fault) → IsPointerEvidence block first.level first.digit target fault
        → FaultShows bounds block old new fault
    ends Failed names = absurd names
    ends (Tampered e) names = (
      inr names.0,
      λ tells.
          let now = holds_on search.viewed.image (pointer.ends.2 (told tells)) in
          shows_pointer bounds new.image block first.level first.digit target e
          (record { levels = is.levels; some = is.some; digits = is.digits }) now names
          (no_key target l now (key_on search.viewed.image (key_on pointer.viewed.image (full tells)))
          (λ place p in_places front within.
          let lies = of_span is within in
          search.ends (told_next tells) (record {
            place = place;
            p = p;
            in_places = in_places;
            in_front = front;
            from = lies.0;
            below = lies.1;
          }))),
    )

-- the later spans, where an entry is to have a key below the bound
module _ (bounds : Bounds) (block l past bound : ℕ) (old new : ViewState) where
  pub on_found : (e : Entry) (limit : ℕ) (looked : Looked)
      → LooksLater bounds block l past limit old new (Ok (Some e)) → IsEntryWithin e bound looked
      → LooksOn bounds block past bound old new (Ok looked)
  on_found e limit looked later within = record {
    viewed = later.viewed;
    reads = later.reads;
    ends = ends looked
        within;
  } where
    ends : (looked : Looked) → IsEntryWithin e bound looked → OnEnds bounds block past bound old new (Ok looked)
    ends (Found f) (same, less) =
        let P : Entry → Type 0 = λ (a : Entry). OnEnds bounds block past bound old new (Ok (Found a)) in
        subst P (sym same) (later.ends.0, less, later.ends.1, later.ends.2)
    ends Nothing ge = λ tells at p trail asked below. omega (arith, (later.ends.2 tells).1 at p trail asked)
    ends NoKey never = absurd never

  pub on_nothing : (limit : ℕ) → (limit ≡ min bound (2 ^ 32))
      → LooksLater bounds block l past limit old new (Ok None) → LooksOn bounds block past bound old new (Ok Nothing)
  on_nothing limit is later = record {
    viewed = later.viewed;
    reads = later.reads;
    ends = λ tells at p trail asked below. later.ends tells at p trail asked (omega (arith, is, trail_fits trail));
  }

-- the first span was passed, and then the later ones were tried
pub then_on : (bounds : Bounds) (block x low bound level l : ℕ) (old mid new : ViewState) (first : Span)
    → x < first.high → FirstPassed bounds block x level old mid first
    → low ≤ l → l < x → x < bound → (IsTrue old.base.tells → HasFull mid.image block l)
    → (result : Result Looked Fault) → LooksOn bounds block first.high bound mid new result
    → SearchesBlock bounds block x low bound level old new result
then_on bounds block x low bound level l old mid new first high passed ge above asked_below full (Ok (Found e))
    later = record {
      viewed = viewed_then passed.viewed later.viewed;
      reads = omega (arith, passed.reads, later.reads);
      ends = (
        omega (arith, later.ends.0),
        later.ends.1,
        entry_then old mid e passed.viewed later.ends.2,
        λ tells.
            let found = later.ends.3 (subst IsTrue (sym passed.viewed.called.tells) tells) in (
              found.0,
              λ at p trail asked. ⊎_elim
                  (λ below. absurd (passed.nothing tells at p trail asked below))
                  (λ past. (
                    found.1 at p (trail_then bounds block at p old mid passed.viewed trail) past,
                    λ exact. absurd (omega arith),
                  ))
                  (cases_lt p.key first.high),
              λ same. absurd (omega (arith, later.ends.0)),
              full_in low bound (key_on later.viewed.image (full tells)) ge (omega arith),
            ),
      );
    }
then_on bounds block x low bound level l old mid new first high passed ge above asked_below full (Ok Nothing)
    later = record {
      viewed = viewed_then passed.viewed later.viewed;
      reads = omega (arith, passed.reads, later.reads);
      ends = λ tells at p trail asked below.
          ⊎_elim
          (λ before. passed.nothing tells at p trail asked before)
          (λ past. later.ends (subst IsTrue (sym passed.viewed.called.tells) tells) at p
          (trail_then bounds block at p old mid passed.viewed trail) past below)
          (cases_lt p.key first.high);
    }
then_on bounds block x low bound level l old mid new first high passed ge above asked_below full (Ok NoKey) later
    = absurd later.ends
then_on bounds block x low bound level l old mid new first high passed ge above asked_below full (Err fault) later
    = record {
      viewed = viewed_then passed.viewed later.viewed;
      reads = omega (arith, passed.reads, later.reads);
      ends = fault_then bounds block old mid new passed.viewed fault later.ends;
    }
