-- What an insertion names as evidence stands below, in a block of the list.
use Rattle.std.proofs.Common.{◌≡◌, ◌≢◌, ◌<◌, ◌≤◌, ◌+◌, ⊎_elim, inl, inr, ℕ, List, Some, None, Ok, Err, ap, sym, subst, arith, ◌∙◌}
use Rattle.std.specs.Prelude.{IsTrue}
use Rattle.cell_types.specs.Image.{Image}
use Rattle.cell_types.specs.Records.{IsRecordCell, record_bytes}
use Rattle.cell_types.specs.declared.record_cell.RecordCell.TheVariants.{Jump}
use Rattle.cell_types.specs.declared.refusal.Evidence.{Evidence}
use Rattle.cell_types.specs.declared.refusal.Fault.{Fault}
use Rattle.cell_types.specs.declared.refusal.Fault.TheVariants.{Tampered, Failed}
use Rattle.volume_meaning.specs.Volumes.{Holds}
use Rattle.volume_meaning.specs.Blocks.{PostingFields, posting_record, InFront, Leads, pointer_at}
use Rattle.volume_meaning.proofs.Fronts.{front_holds, one_posting, one_place, rises, rises_or_same}
use Rattle.tamper_rules.specs.declared.numbers.TheConstants.{BLOCK_OUT_OF_ORDER, LOST_POINTER}
use Rattle.worm_device.specs.Views.{ViewState, Viewed, IsView}
use Rattle.jump_block.specs.Entries.{posting_of}
use Rattle.jump_block.specs.Fronts.{IsBadEntry, no_posting, does_not_rise, FirstEnds}
use Rattle.jump_block.specs.Pointers.{IsNoJump, ReadsPointer}
use Rattle.jump_block.specs.Spans.{IsSpan}
use Rattle.jump_block.specs.declared.held_entry.Entry.{Entry}
use Rattle.jump_block.specs.declared.known_front.Front.TheVariants.{At}
use Rattle.jump_block.specs.declared.spans.Span.{Span}
use Rattle.jump_block.proofs.Counting.{rose_later}
use Rattle.jump_block.specs.Pointing.{HasFull, HasPointer, IsPointerPlace, IsPointerEvidence}
use Rattle.jump_block.proofs.OneBlock.{of_span}
use Rattle.jump_insertion.specs.Evidence.{no_jump, no_key, meets_block, ShowsBelow, bad_entry, bad_pointer, late}
use Rattle.jump_insertion.specs.Hopping.{IsAt, IsOldHop, HopFaultEnds, TargetCheckEnds, GreatestEnds, IsLateEvidence}
use Rattle.jump_insertion.specs.Readiness.{IsOwnBlock, IsBlockReached, IsListCell, a_posting, a_pointer}
use Rattle.jump_insertion.proofs.Hopping.{planned_or_not, below_here, planned_jump, shows_hop}
use Rattle.jump_insertion.proofs.Readying.{own_block_viewed, reached_viewed, cell_same}
use Rattle.jump_insertion.proofs.Showing.{leads_on, some_same}

-- what is out of order is in no front
pub bad_in_front : (image : Image) (block place : ℕ) (found : List ℕ) (p : PostingFields)
    → IsBadEntry image block place found → InFront image block place p → ⊥
bad_in_front image block place found p (no_posting bad) front =
    let holds = front_holds front in
    bad.none p (subst (λ c. IsRecordCell (posting_record p) (block + place) c)
    (some_same holds.cell found (sym holds.stands ∙ bad.stands)) holds.is)
bad_in_front image block place found p (does_not_rise before key q is has stands holds le) front =
    let less : has.p.key < p.key = rises front before has.p has.in_front (omega arith) in
    let same : p.key ≡ q.key = ap (λ (f : PostingFields). f.key)
    (one_posting image (block + place) p q (front_holds front) holds) in
    omega (arith, less, same, has.same, le)

-- a planned entry is in its block's front, with a smaller key
entry_planned : (s : ViewState) (head floor next key block place : ℕ) → place < 128
    → IsListCell s head floor next key (block + place) block
    → ((p : PostingFields) → InFront s.image block place p → p.key < key → ⊥) → ⊥
entry_planned s head floor next key block place below (a_posting at p is there front less) none =
    let same : at ≡ place = omega (arith, is) in
    none p (subst (λ n. InFront s.image block n p) same front) less
entry_planned s head floor next key block place below
    (a_pointer level digit target l at owner is_place is holds from to full has planned is_head is_base) none =
    omega (arith, is, is_place.some)

module _ (s : ViewState) (view : IsView s) (head floor next key block : ℕ) (at : IsAt s head floor next key block) where
  entry_free : (place : ℕ) → place < 128 → ((p : PostingFields) → InFront s.image block place p → p.key < key → ⊥)
      → s.planned (block + place) ≡ None
  entry_free place below none = ⊎_elim
      (λ planned. absurd (entry_planned s head floor next key block place below planned none))
      (λ free. free)
      (planned_or_not s view head floor next key block at (block + place) (omega arith) (omega arith))

  bad_stands : (place : ℕ) (found : List ℕ) → IsBadEntry s.image block place found
      → s.image (block + place) ≡ Some found
  bad_stands place found (no_posting bad) = bad.stands
  bad_stands place found (does_not_rise before k q is has stands holds le) = stands

  -- an entry out of order
  pub shows_entry : (place : ℕ) (e : Evidence) → e.rule ≡ BLOCK_OUT_OF_ORDER → e.cell ≡ block + place → place < 128
      → IsBadEntry s.image block place e.found → ShowsBelow s head floor key e
  shows_entry place e rule cell below bad =
      let free = entry_free place below (λ p front less. bad_in_front s.image block place e.found p bad front) in
      let stands = bad_stands place e.found bad in
      let here = below_here s view head floor next key block at (block + place) e.found (omega arith) free stands in
      bad_entry block place here.1
      (record {
        free = ap s.planned cell ∙ free;
        before = omega (arith, cell, here.0);
        stands =
            ap s.image cell ∙ stands;
      })
      rule cell below bad

  -- a late posting
  pub shows_late : (entry : Entry) (e : Evidence) → entry.block ≡ block → entry.place < 128
      → InFront s.image block entry.place (posting_of entry) → key ≤ entry.key → IsLateEvidence entry (Tampered e)
      → ShowsBelow s head floor key e
  shows_late entry e is below front late_key names =
      let holds = front_holds front in
      let free = entry_free entry.place below (λ p other less.
      let same : p.key ≡ entry.key = ap (λ (f : PostingFields). f.key) (one_place other front) in omega (arith, same))
      in
      let here = below_here s view head floor next key block at (block + entry.place) holds.cell
      (omega arith) free holds.stands in
      let cell : e.cell ≡ block + entry.place = omega (arith, names.1, is) in
      let found : e.found ≡ holds.cell =
      names.2 ∙ ap (λ n. record_bytes (posting_record (posting_of entry)) n) (ap (λ (b : ℕ). b + entry.place) is)
      ∙ sym holds.is.same in
      late block entry.place (posting_of entry) here.1
      (record {
        free = ap s.planned cell ∙ free;
        before = omega (arith, cell, here.0);
        stands = ap s.image cell ∙ holds.stands ∙ ap (λ (c : List ℕ). Some c) (sym found);
      })
      names.0 cell below (subst (λ c. Holds s.image c (posting_record (posting_of entry))) (sym cell) holds) late_key

  pointer_planned : (level digit : ℕ) (found : List ℕ) → IsPointerPlace level digit
      → IsNoJump s.image (pointer_at block level digit) found
      → IsListCell s head floor next key (pointer_at block level digit) block → ⊥
  pointer_planned level digit found place bad (a_posting at' p is below front less) = omega (arith, is, place.some)
  pointer_planned level digit found place bad
      (a_pointer level' digit' target l at' owner place' is holds from to full has planned is_head is_base) =
      bad.none target (subst (λ c. IsRecordCell (Jump target) (pointer_at block level digit) c)
      (some_same holds.cell found (sym holds.stands ∙ bad.stands)) holds.is)

  -- a pointer that is no jump cell
  pub shows_no_jump : (level digit : ℕ) (e : Evidence) → IsPointerPlace level digit → e.rule ≡ LOST_POINTER
      → e.cell ≡ pointer_at block level digit → IsNoJump s.image (pointer_at block level digit) e.found
      → ShowsBelow s head floor key e
  shows_no_jump level digit e place rule cell bad =
      let free = ⊎_elim
      (λ planned. absurd (pointer_planned level digit e.found place bad planned))
      (λ free. free)
      (planned_or_not s view head floor next key block at (pointer_at block level digit) (omega arith)
      (omega (arith, place.levels, place.digits))) in
      let here = below_here s view head floor next key block at (pointer_at block level digit) e.found
      (omega arith) free bad.stands in
      bad_pointer block level digit here.1
      (record {
        free = ap s.planned cell ∙ free;
        before = omega (arith, cell, here.0);
        stands =
            ap s.image cell ∙ bad.stands;
      })
      rule place cell (no_jump bad)

module _ (s t : ViewState) (view : IsView t) (head floor next key block : ℕ)
    (at : IsTrue s.base.tells → IsAt t head floor next key block) where
  -- a fault of a look into a front
  pub front_fault : (fault : Fault) → FirstEnds key block s t (Err fault) → HopFaultEnds head floor key s t fault
  front_fault Failed ends = ends
  front_fault (Tampered e) ends = λ tells.
      shows_entry t view head floor next key block (at tells) ends.1 e ends.0 ends.3 ends.2 (ends.4 tells).0

  -- the entry that was found is late
  pub late_fault : (entry : Entry) → FirstEnds key block s t (Ok (At entry)) → (fault : Fault)
      → IsLateEvidence entry fault → HopFaultEnds head floor key s t fault
  late_fault entry ends Failed names = absurd names
  late_fault entry ends (Tampered e) names = λ tells.
      shows_late t view head floor next key block (at tells) entry e ends.0 ends.1 (ends.4 tells).0 ends.2 names

  -- a fault of a read of a pointer
  pub pointer_fault : (level digit : ℕ) → IsPointerPlace level digit → (fault : Fault)
      → ReadsPointer (pointer_at block level digit) s t (Err fault) → HopFaultEnds head floor key s t fault
  pointer_fault level digit place Failed read = read.ends
  pointer_fault level digit place (Tampered e) read = λ tells.
      shows_no_jump t view head floor next key block (at tells) level digit e place read.ends.0 read.ends.1
      (read.ends.2 tells)

  -- a fault of the search for the greatest pointer
  pub greatest_fault : (l bound : ℕ) (fault : Fault) → GreatestEnds block l bound s t (Err fault)
      → HopFaultEnds head floor key s t fault
  greatest_fault l bound Failed ends = ends
  greatest_fault l bound (Tampered e) ends = λ tells.
      let bad = ends.1 tells in
      shows_no_jump t view head floor next key block (at tells) bad.level bad.digit e bad.place ends.0 bad.at bad.bad

-- a fault of a later call is one of a longer row of calls
pub fault_then : (head floor key : ℕ) (a b c : ViewState) → Viewed a b → (fault : Fault)
    → HopFaultEnds head floor key b c fault → HopFaultEnds head floor key a c fault
fault_then head floor key a b c viewed Failed ends = rose_later _ _ _ viewed.called.faults ends
fault_then head floor key a b c viewed (Tampered e) ends = λ tells. ends (subst IsTrue (sym viewed.called.tells) tells)

pub check_refused : (head floor next key block target : ℕ) (span : Span) (a b : ViewState) → Viewed a b
    → (fault : Fault)
    → TargetCheckEnds head floor next key block span target b (Err fault) → HopFaultEnds head floor key a b fault
check_refused head floor next key block target span a b viewed Failed ends = absurd ends
check_refused head floor next key block target span a b viewed (Tampered e) ends =
    λ tells. ends (subst IsTrue (sym viewed.called.tells) tells)

-- a fault that names a pointer
pub named_fault : (head floor key block level digit target : ℕ) (a b : ViewState) (fault : Fault)
    → IsPointerEvidence block level digit target fault
    → ((e : Evidence) → IsPointerEvidence block level digit target (Tampered e) → IsTrue a.base.tells
    → ShowsBelow b head floor key e)
    → HopFaultEnds head floor key a b fault
named_fault head floor key block level digit target a b Failed names shows = absurd names
named_fault head floor key block level digit target a b (Tampered e) names shows = shows e names

module _ (s : ViewState) (view : IsView s) (head floor next key block : ℕ) (at : IsAt s head floor next key block)
    (span : Span) (l target : ℕ) (is : IsSpan l span) (led : HasPointer s.image block span.level span.digit target)
    (checked : TargetCheckEnds head floor next key block span target s (Ok tt)) (tells : IsTrue s.base.tells) where
  -- the target meets the block at which the search began
  pub meets_home : (home : ℕ) → IsOwnBlock s head home → IsBlockReached s head floor home → target ≢ home
      → target < home + 256 → home < target + 256 → (e : Evidence)
      → IsPointerEvidence block span.level span.digit target (Tampered e) → ShowsBelow s head floor key e
  meets_home home own reached differ before behind e names = ⊎_elim
      (λ planned.
      let on = planned_jump s view head floor next key block at span.level span.digit target is.levels is.some
      is.digits led planned in
      absurd (⊎_elim
      (λ (same : on.owner.base ≡ home). differ (sym on.is_base ∙ same))
      (λ apart. ⊎_elim
      (λ (a : on.owner.base + 256 ≤ home). omega (arith, on.is_base, a, behind))
      (λ (b : home + 256 ≤ on.owner.base). omega (arith, on.is_base, b, before)) apart)
      (own.apart on.cell on.owner on.planned on.is_head)))
      (λ (old : IsOldHop s head floor block (pointer_at block span.level span.digit) target).
      shows_hop s view head floor next key block at span.level span.digit target is.levels is.some is.digits led
      old.free e names
      (meets_block target home led checked.0 old.to reached (λ same. differ (sym same)) before behind))
      (checked.2 tells).pointer

  -- no key of the target lies in the span
  pub no_key_there : HasFull s.image block l
      → ((place : ℕ) (p : PostingFields) → place < 128 → InFront s.image target place p → p.key < span.low)
      → (e : Evidence) → IsPointerEvidence block span.level span.digit target (Tampered e)
      → ShowsBelow s head floor key e
  no_key_there full none e names = ⊎_elim
      (λ planned.
      let on = planned_jump s view head floor next key block at span.level span.digit target is.levels is.some
      is.digits led planned in
      let same : on.full.p.key ≡ full.p.key = ap (λ (f : PostingFields). f.key)
      (one_place on.full.in_front full.in_front) in
      absurd (omega (
        arith,
        none on.has.place on.has.p on.has.in_places on.has.in_front,
        on.has.from,
        is.low,
        same,
        on.full.same,
        full.same,
      )))
      (λ (old : IsOldHop s head floor block (pointer_at block span.level span.digit) target).
      shows_hop s view head floor next key block at span.level span.digit target is.levels is.some is.digits led
      old.free e names
      (no_key target l led full old.to checked.0
      (λ place p below front within. omega (arith, none place p below front, (of_span is within).0))))
      (checked.2 tells).pointer

-- all keys of a full front are at most the greatest
pub full_at_most : {image : Image} {block l : ℕ} → HasFull image block l → (place : ℕ) (p : PostingFields) → place < 128
    → InFront image block place p → p.key ≤ l
full_at_most full place p below front = omega (arith, rises_or_same front full.in_front (omega arith), full.same)

-- what was checked holds after reads
pub check_on : (s t : ViewState) (head floor next key block target : ℕ) (span : Span) → Viewed s t
    → TargetCheckEnds head floor next key block span target s (Ok tt)
    → TargetCheckEnds head floor next key block span target t (Ok tt)
check_on s t head floor next key block target span viewed checked = (
  checked.0,
  checked.1,
  λ tells.
      let hop = checked.2 (subst IsTrue viewed.called.tells tells) in
      record {
        own_block = own_block_viewed viewed head target hop.own_block;
        reached = reached_viewed viewed head floor target hop.reached;
        pointer = ⊎_elim
            (λ planned. inl (cell_same s t head floor next key viewed.image viewed.lower viewed.fresh viewed.owners
            (pointer_at block span.level span.digit) block planned))
            (λ (old : IsOldHop s head floor block (pointer_at block span.level span.digit) target).
            let P : ℕ → Type 0 = λ n. Leads t.lower floor n block head in
            inr (record {
              to = omega (arith, old.to, viewed.fresh);
              free = ap (λ (f : Image). f (pointer_at block span.level span.digit)) viewed.planned ∙ old.free;
              before = omega (arith, old.before, viewed.fresh);
              leads = subst P (sym viewed.fresh) (leads_on viewed.lower old.leads);
            }))
            hop.pointer;
      },
)
