-- A look into one block, over plain values.
use Rattle.std.proofs.Common.{◌≡◌, ◌<◌, ◌≤◌, ◌+◌, ◌-◌, ⊎_elim, inl, ℕ, Option, Some, None, Result, Ok, Err, refl, ap, sym, subst, arith, ◌∙◌}
use Rattle.std.specs.Prelude.{IsTrue}
use Rattle.std.proofs.lemmas.Bool.{cases_lt}
use Rattle.std.proofs.lemmas.Option.{none-some}
use Rattle.cell_types.specs.Image.{Image}
use Rattle.cell_types.specs.declared.refusal.Fault.{Fault}
use Rattle.cell_types.specs.declared.refusal.Fault.TheVariants.{Tampered, Failed}
use Rattle.volume_meaning.specs.Blocks.{PostingFields, InFront, here, arrived}
use Rattle.volume_meaning.proofs.Fronts.{front_holds, one_posting, rises_or_same, front_on}
use Rattle.worm_device.specs.Views.{ViewState, Viewed}
use Rattle.worm_device.proofs.Resting.{viewed_then}
use Rattle.jump_block.specs.Entries.{EntryEnds, ReadsEntry, posting_of}
use Rattle.jump_block.specs.Fronts.{FirstEnds, no_posting}
use Rattle.jump_block.specs.declared.held_entry.Entry.{Entry}
use Rattle.jump_block.specs.declared.known_front.Front.TheVariants.{At, Open, Full}
use Rattle.jump_block.proofs.Counting.{rose_later}
use Rattle.jump_block.proofs.Knowing.{front_below}
use Rattle.jump_index.specs.Evidence.{bad_entry}
use Rattle.jump_index.specs.Looking.{BeforeEnds, EndsBefore, BlockLookEnds, LooksBefore, LooksAtBlock, SearchEnds}
use Rattle.jump_index.specs.declared.bounds.Bounds.{Bounds}
use Rattle.jump_index.specs.declared.looked.Here.{Here}
use Rattle.jump_index.specs.declared.looked.Here.TheVariants.{Ends, Beyond}
use Rattle.jump_index.specs.declared.looked.Looked.TheVariants.{Found, Nothing, NoKey}
use Rattle.jump_index.proofs.Passing.{next_passes_none, open_passes_none}
use Rattle.jump_block.proofs.OneBlock.{full_greatest, none_from_blank}
use Rattle.jump_index.proofs.LookingLater.{trail_then}

-- the key before a place is below low, and so are those before it
all_below : (image : Image) (block place low : ℕ) → ((before : ℕ) (p : PostingFields) → place ≡ before + 1
    → InFront image block before p → p.key < low)
    → (q : ℕ) (p : PostingFields) → q < place → InFront image block q p → (last : PostingFields)
    → InFront image block (place - 1) last → p.key < low
all_below image block place low none q p less front last at_last =
    let le : p.key ≤ last.key = rises_or_same front at_last (omega arith) in
    omega (arith, le, none (place - 1) last (omega arith) at_last)

module _ (block x low bound : ℕ) (old mid : ViewState) (from : low ≤ x) (inside : block + 256 ≤ old.cells)
    (viewed : Viewed old mid) where
  -- an entry with a key below the bound
  pub found_here : (e : Entry) → FirstEnds x block old mid (Ok (At e)) → e.key < bound → (bounds : Bounds)
      → SearchEnds bounds block x low bound old mid (Ok (Found e))
  found_here e ends less bounds = (
    ends.2,
    less,
    record { inside = omega (arith, ends.0, inside); place = ends.1; last = ends.3 },
    λ tells.
        let found = ends.4 tells in (
          record {
            leads = arrived block (sym ends.0);
            place = ends.1;
            in_front = let P : ℕ → Type 0 = λ b. InFront mid.image b e.place (posting_of e) in subst P
                (sym ends.0) found.0;
          },
          λ at p trail asked.
              let h = next_passes_none mid.image block e.place x found.1 bounds.pool mid.cells at (posting_of e) p
              found.0 ends.1 ends.2 (trail_then bounds block at p old mid viewed trail) asked in
              (h.0, λ exact. (omega (arith, (h.1 exact).0, ends.0), (h.1 exact).1)),
          λ exact. here block e.place (omega (arith, ends.0)) ends.1 found.0,
          record {
            place = e.place;
            p = posting_of e;
            in_places = ends.1;
            in_front = found.0;
            from = omega
                (arith, from, ends.2);
            below = less;
          },
        ),
  )

  -- the first entry at or past x is past the bound, and a key before it may lie in the span
  pub past_here : (e : Entry) (new : ViewState) → FirstEnds x block old mid (Ok (At e)) → bound ≤ e.key
      → mid.base.reads ≤ old.base.reads + 137
      → (result : Result Here Fault) → LooksBefore block e.place low mid new result
      → LooksAtBlock block x low bound old new result
  past_here e new ends ge reads result before = record {
    viewed = viewed_then viewed before.viewed;
    reads = omega (arith, reads, before.reads);
    ends = go result before.ends;
  } where
    told : IsTrue old.base.tells → IsTrue mid.base.tells
    told tells = subst IsTrue (sym viewed.called.tells) tells

    go : (result : Result Here Fault) → BeforeEnds block e.place low mid new result
        → BlockLookEnds block x low bound old new result
    go (Ok (Ends (Found f))) never = absurd never
    go (Ok (Ends Nothing)) said = λ bounds tells at p trail asked less.
        let found = ends.4 tells in
        let h = next_passes_none mid.image block e.place x found.1 bounds.pool mid.cells at (posting_of e) p
        found.0 ends.1 ends.2 (trail_then bounds block at p old mid viewed trail) asked in
        omega (arith, h.0)
    go (Ok (Ends NoKey)) none = λ bounds tells has.
        let found = ends.4 tells in
        let now : InFront new.image block e.place (posting_of e) = front_on before.viewed.image found.0 in
        ⊎_elim
        (λ (less : has.place < e.place).
        let last = front_below now (e.place - 1) (omega arith) in
        omega (
          arith,
          has.from,
          all_below new.image block e.place low (none (told tells)) has.place has.p less
              has.in_front last.0 last.1,
        ))
        (λ le. let up : e.key ≤ has.p.key = rises_or_same now has.in_front le in omega (arith, has.below))
        (cases_lt has.place e.place)
    go (Ok (Beyond l)) never = absurd never
    go (Err Failed) rose = λ bounds. rose_later _ _ _ viewed.called.faults rose
    go (Err (Tampered f)) named = λ bounds. (
      inl named.0,
      λ tells.
          bad_entry block named.1 (arrived block refl) named.0 named.3 named.2 (no_posting (named.4 (told tells))),
    )

  -- a blank place behind keys below x
  pub open_here : (n : ℕ) (greatest : Option ℕ) (result : Here) → FirstEnds x block old mid (Ok (Open n greatest))
      → EndsBefore greatest low result
      → BlockLookEnds block x low bound old mid (Ok result)
  open_here n greatest (Ends (Found f)) ends never = absurd never
  open_here n greatest (Ends Nothing) ends said = λ bounds tells at p trail asked less.
      let found = ends.1 tells in
      open_passes_none mid.image block n x found.1 bounds.pool mid.cells at p found.0 ends.0
      (trail_then bounds block at p old mid viewed trail) asked
  open_here n None (Ends NoKey) ends none = λ bounds tells has.
      let found = ends.1 tells in
      let less = none_from_blank mid.image block n has.place has.p found.0 has.in_front in
      omega (arith, found.2)
  open_here n (Some key) (Ends NoKey) ends none = λ bounds tells has.
      let found = ends.1 tells in
      let less = none_from_blank mid.image block n has.place has.p found.0 has.in_front in
      let le : has.p.key ≤ found.2.2.p.key = rises_or_same has.in_front found.2.2.in_front (omega (arith, found.2.1)) in
      omega (arith, has.from, found.2.2.same, none key refl)
  open_here n greatest (Beyond l) ends never = absurd never

  -- a full block whose greatest key is below low
  pub low_here : (greatest : ℕ) → FirstEnds x block old mid (Ok (Full greatest)) → greatest < low
      → BlockLookEnds block x low bound old mid (Ok (Ends NoKey))
  low_here greatest ends less = λ bounds tells has.
      omega (
        arith,
        has.from,
        full_greatest mid.image block greatest has.place has.p (ends.1 tells) has.in_places
            has.in_front,
      )

  -- a fault of the look
  pub fault_here : (fault : Fault) → FirstEnds x block old mid (Err fault)
      → BlockLookEnds block x low bound old mid (Err fault)
  fault_here Failed rose = λ bounds. rose
  fault_here (Tampered e) ends = λ bounds. (
    inl ends.0,
    λ tells. bad_entry block ends.1 (arrived block refl)
        ends.0 ends.3 ends.2 (ends.4 tells).0,
  )

-- the entry before a place, read
pub before_read : (block place low : ℕ) (old new : ViewState) (e : Entry) → e.key < low → 1 ≤ place
    → ReadsEntry block (place - 1) old new (Ok (Some e))
    → LooksBefore block place low old new (Ok (Ends NoKey))
before_read block place low old new e less some read = record {
  viewed = read.viewed;
  reads = read.reads;
  ends = λ tells before p is front.
      let same : place - 1 ≡ before = omega arith in
      let P : ℕ → Type 0 = λ n. EntryEnds block n old new (Ok (Some e)) in
      let ends = subst P same read.ends in
      let one : p.key ≡ e.key = ap (λ (q : PostingFields). q.key)
      (one_posting new.image (block + before) p (posting_of e) (front_holds front) (ends.3 tells)) in
      omega arith;
}

-- a blank place before is none of the front
pub before_blank : (block place low : ℕ) (old new : ViewState) → 1 ≤ place
    → ReadsEntry block (place - 1) old new (Ok None)
    → LooksBefore block place low old new (Ok (Ends NoKey))
before_blank block place low old new some read = record {
  viewed = read.viewed;
  reads = read.reads;
  ends = λ tells before p is front.
      let same : place - 1 ≡ before = omega arith in
      let P : ℕ → Type 0 = λ n. EntryEnds block n old new (Ok None) in
      absurd (none-some _ (sym (subst P same read.ends tells) ∙ (front_holds front).stands));
}

pub before_fault : (block place low : ℕ) (old new : ViewState) (fault : Fault) → 1 ≤ place → place < 128
    → ReadsEntry block (place - 1) old new (Err fault)
    → LooksBefore block place low old new (Err fault)
before_fault block place low old new Failed some below read = record
    { viewed = read.viewed; reads = read.reads; ends = read.ends }
before_fault block place low old new (Tampered e) some below read = record {
  viewed = read.viewed;
  reads = read.reads;
  ends = (read.ends.0, place - 1, omega arith, read.ends.1, read.ends.2);
}
