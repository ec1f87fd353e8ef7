-- Whether a posting has a trail from a block, over plain values.
use Rattle.std.proofs.Common.{◌≡◌, ◌<◌, ◌≤◌, ◌+◌, ◌^◌, ⊎_elim, ◌⊎◌, ℕ, List, Bool, true, false, Option, Some, None, Result, Ok, Err, refl, ap, sym, subst, arith, ◌∙◌}
use Rattle.std.specs.Prelude.{IsTrue, ◌↔◌}
use Rattle.std.proofs.lemmas.Bool.{cases_lt}
use Rattle.std.proofs.lemmas.Option.{none-some}
use Rattle.cell_types.specs.Image.{Image, Extends}
use Rattle.cell_types.specs.Records.{IsRecordCell}
use Rattle.cell_types.specs.declared.record_cell.RecordCell.TheVariants.{Jump}
use Rattle.cell_types.specs.declared.refusal.Fault.{Fault}
use Rattle.cell_types.specs.declared.refusal.Fault.TheVariants as faults
use Rattle.volume_meaning.specs.Volumes.{Holds}
use Rattle.volume_meaning.proofs.Extending.{holds_on}
use Rattle.volume_meaning.proofs.Holding.{one_record_holds, some_is}
use Rattle.volume_meaning.specs.Blocks.{PostingFields, posting_record, InFront, InSpan, Hop, Trail, here, on, pointer_at}
use Rattle.volume_meaning.proofs.Fronts.{front_holds, front_on, one_place, one_posting, rises}
use Rattle.volume_meaning.proofs.Spans.{apart, span_above}
use Rattle.volume_meaning.proofs.Trails.{trail_on}
use Rattle.worm_device.specs.Views.{ViewState, Viewed}
use Rattle.worm_device.specs.declared.device.Failed.{Failed}
use Rattle.worm_device.proofs.Resting.{viewed_then}
use Rattle.jump_block.specs.Entries.{posting_of}
use Rattle.jump_block.specs.Fronts.{AreBelow, FirstEnds, IsBadEntry, does_not_rise, no_posting}
use Rattle.jump_block.specs.Pointers.{ReadsPointer}
use Rattle.jump_block.specs.Spans.{IsSpan}
use Rattle.jump_block.specs.declared.held_entry.Entry.{Entry}
use Rattle.jump_block.specs.declared.known_front.Front.TheVariants.{At, Open, Full}
use Rattle.jump_block.specs.declared.spans.Span.{Span}
use Rattle.jump_block.proofs.Counting as counts
use Rattle.jump_block.proofs.Knowing.{front_below, key_on}
use Rattle.jump_block.specs.Pointing.{HasFull, HasKeyIn, HasPointer}
use Rattle.jump_block.proofs.OneBlock.{full_greatest, in_span, jump_target, of_span}
use Rattle.jump_index.proofs.Passing.{known_less, next_passes_none, open_passes_none}
use Rattle.kept_documents.specs.Trails.{AsksBlock, AsksTrail, HasTrailFrom, IsRefuted}

-- a key in a span stays there
pub key_in_on : {old new : Image} {block low bound : ℕ} → Extends old new → HasKeyIn old block low bound
    → HasKeyIn new block low bound
key_in_on e h = record {
  place = h.place;
  p = h.p;
  in_places = h.in_places;
  in_front = front_on e h.in_front;
  from = h.from;
  below = h.below;
}

-- a trail stays over a row of calls
pub trail_later : {pool block : ℕ} {p : PostingFields} {old new : ViewState} → Viewed old new
    → HasTrailFrom pool old block p → HasTrailFrom pool new block p
trail_later {pool} {block} {p} {old} {new} viewed t = (
  t.0,
  subst (λ (n : ℕ). Trail new.image pool n t.0 p block) (sym viewed.cells) (trail_on viewed.image t.1),
)

-- an entry out of order ends the front before it
pub none_from_bad : (image : Image) (block place : ℕ) (found : List ℕ) → IsBadEntry image block place found
    → (q : ℕ) (p : PostingFields) → InFront image block q p → q < place
none_from_bad image block place found bad q p front =
    ⊎_elim
    (λ less. less)
    (λ le. let h = front_below front place le in absurd (never h.0 h.1 bad))
    (cases_lt q place)
  where
    never : (r : PostingFields) → InFront image block place r → IsBadEntry image block place found → ⊥
    never r at_place (no_posting none) =
        let holds = front_holds at_place in
        let same : holds.cell ≡ found = some_is holds.cell found (sym holds.stands ∙ none.stands) in
        none.none r (subst (λ (c : List ℕ). IsRecordCell (posting_record r) (block + place) c) same holds.is)
    never r at_place (does_not_rise before key s is last stands holds le) =
        let same : s ≡ r = one_posting image (block + place) s r holds (front_holds at_place) in
        let up : last.p.key < r.key = rises at_place before last.p last.in_front (omega arith) in
        omega (arith, up, last.same, le, ap (λ (x : PostingFields). x.key) same)

-- from a block whose front an entry out of order ends, before a key, no posting with this key has a trail
bad_passes_none : (image : Image) (block place from to at : ℕ) (found : List ℕ) (p : PostingFields)
    → IsBadEntry image block place found → AreBelow image block place p.key → place < 128
    → Trail image from to at p block → ⊥
bad_passes_none image block place from to at found p bad below in_places (here _ q is less front) =
    omega (
      arith,
      known_less image block place p.key below q p (none_from_bad image block place found bad q p front) front,
    )
bad_passes_none image block place from to at found p bad below in_places (on _ target hop rest) =
    omega (arith, none_from_bad image block place found bad 127 hop.greatest hop.full)

no_yes : false ≡ true → ⊥
no_yes e = cc

-- a trail through a full block goes on behind the pointer of its key's span
record GoesOn (image : Image) (pool cells : ℕ) (p : PostingFields) (block : ℕ) (s : Span) : Type 0 where
  target : ℕ
  jump : HasPointer image block s.level s.digit target
  inside_from : pool ≤ target
  inside_to : target + 256 ≤ cells
  has : HasKeyIn image target s.low s.high
  at : ℕ
  rest : Trail image pool cells at p target

goes_on : (image : Image) (pool cells at l block : ℕ) (p : PostingFields) (s : Span) → HasFull image block l
    → IsSpan l s → s.low ≤ p.key → p.key < s.high → Trail image pool cells at p block
    → GoesOn image pool cells p block s
goes_on image pool cells at l block p s full is low high (here _ place at_is below front) =
    let le : p.key ≤ l = full_greatest image block l place p full below front in
    let above : l < p.key = span_above (in_span {k = p.key} is low high) in
    absurd (omega arith)
goes_on image pool cells at l block p s full is low high (on _ target hop rest) =
    let same : hop.greatest.key ≡ l = ap (λ (q : PostingFields). q.key) (one_place hop.full full.in_front) ∙
    full.same in
    let places : (hop.level ≡ s.level) × (hop.digit ≡ s.digit) =
    apart l p.key hop.level hop.digit s.level s.digit (subst (λ (n : ℕ). InSpan n hop.level hop.digit p.key) same
    hop.span) (in_span {k = p.key} is low high) in
    let cell : pointer_at block hop.level hop.digit ≡ pointer_at block s.level s.digit = omega
    (arith, places.0, places.1) in
    let some : InSpan l s.level s.digit hop.some.key =
    subst (λ (d : ℕ). InSpan l s.level d hop.some.key) places.1
    (subst (λ (v : ℕ). InSpan l v hop.digit hop.some.key) places.0
    (subst (λ (n : ℕ). InSpan n hop.level hop.digit hop.some.key) same hop.in_span)) in
    let lies = of_span is some in
    record {
      target = target;
      jump = subst (λ (c : ℕ). Holds image c (Jump target)) cell hop.jump;
      inside_from = hop.inside_from;
      inside_to = hop.inside_to;
      has = record {
        place = hop.place;
        p = hop.some;
        in_places = hop.in_places;
        in_front = hop.in_front;
        from = lies.0;
        below = lies.1;
      };
      at = at;
      rest = rest;
    }

module _ (pool block low bound : ℕ) (p : PostingFields) (old mid : ViewState) (viewed : Viewed old mid) where
  -- an entry with a key at or past the asked one ends the look
  pub at_entry : (e : Entry) (answer : Bool) → FirstEnds p.key block old mid (Ok (At e))
      → (IsTrue answer ↔ (posting_of e ≡ p)) → low ≤ p.key → p.key < bound
      → AsksBlock pool block p low bound old mid (Ok answer)
  at_entry e true ends says from below = record {
    viewed = viewed;
    ends = λ tells.
        let found = ends.4 tells in
        let front : InFront mid.image block e.place p = subst
        (λ (q : PostingFields). InFront mid.image block e.place q) (says.0 refl) found.0 in (
          (block + e.place, here block e.place refl ends.1 front),
          record {
            place = e.place;
            p = p;
            in_places = ends.1;
            in_front = front;
            from = from;
            below = below;
          },
        );
  }
  at_entry e false ends says from below = record {
    viewed = viewed;
    ends = λ tells t has.
        let found = ends.4 tells in
        let now = trail_later viewed t in
        let h = next_passes_none mid.image block e.place p.key found.1 pool mid.cells now.0 (posting_of e) p found.0
        ends.1 ends.2 now.1 (omega arith) in
        no_yes (says.1 (sym (h.1 refl).1));
  }

  -- so does a blank place
  pub at_blank : (n : ℕ) (greatest : Option ℕ) → FirstEnds p.key block old mid (Ok (Open n greatest))
      → AsksBlock pool block p low bound old mid (Ok false)
  at_blank n greatest ends = record {
    viewed = viewed;
    ends = λ tells t has.
        let found = ends.1 tells in
        let now = trail_later viewed t in
        open_passes_none mid.image block n p.key found.1 pool mid.cells now.0 p found.0 ends.0 now.1 (omega arith);
  }

  -- and an entry out of order
  pub at_fault : (fault : Fault) (result : Result Bool Failed) → FirstEnds p.key block old mid (Err fault)
      → IsRefuted fault result → AsksBlock pool block p low bound old mid result
  at_fault faults.Failed (Ok answer) ends says = absurd says
  at_fault faults.Failed (Err failed) ends says = record { viewed = viewed; ends = ends }
  at_fault (faults.Tampered e) (Err failed) ends says = absurd says
  at_fault (faults.Tampered e) (Ok true) ends says = absurd (no_yes (sym says))
  at_fault (faults.Tampered e) (Ok false) ends says = record {
    viewed = viewed;
    ends = λ tells t has.
        let found = ends.4 tells in
        let now = trail_later viewed t in
        bad_passes_none mid.image block ends.1 pool mid.cells now.0 _ p found.0 found.1 ends.2 now.1;
  }

  -- a full block with no key of the span
  pub at_low : (l : ℕ) → FirstEnds p.key block old mid (Ok (Full l)) → l < low
      → AsksBlock pool block p low bound old mid (Ok false)
  at_low l ends less = record {
    viewed = viewed;
    ends = λ tells t has.
        let le : has.p.key ≤ l = full_greatest mid.image block l has.place has.p (ends.1 tells) has.in_places
        (front_on viewed.image has.in_front) in
        omega (arith, le, has.from);
  }

  module _ (next : ViewState) (l : ℕ) (s : Span) (is : IsSpan l s) (from : s.low ≤ p.key) (below : p.key < s.high)
      (full : IsTrue old.base.tells → HasFull mid.image block l) where
    -- behind a full block a trail goes on by the pointer
    behind : IsTrue old.base.tells → HasTrailFrom pool old block p → GoesOn mid.image pool mid.cells p block s
    behind tells t =
        let now = trail_later viewed t in
        goes_on mid.image pool mid.cells now.0 l block p s (full tells) is from below now.1

    told : IsTrue old.base.tells → IsTrue mid.base.tells
    told tells = subst IsTrue (sym viewed.called.tells) tells

    -- the pointer is blank
    pub no_pointer : ReadsPointer (pointer_at block s.level s.digit) mid next (Ok None)
        → AsksBlock pool block p low bound old next (Ok false)
    no_pointer read = record {
      viewed = viewed_then viewed read.viewed;
      ends = λ tells t has.
          none-some _ (sym (read.ends (told tells)) ∙ (holds_on read.viewed.image (behind tells t).jump).stands);
    }

    -- it is no jump cell
    pub lost_pointer : (fault : Fault) (result : Result Bool Failed)
        → ReadsPointer (pointer_at block s.level s.digit) mid next (Err fault) → IsRefuted fault result
        → AsksBlock pool block p low bound old next result
    lost_pointer faults.Failed (Ok answer) read says = absurd says
    lost_pointer faults.Failed (Err failed) read says = record {
      viewed = viewed_then viewed read.viewed;
      ends = counts.rose_later _ _ _ viewed.called.faults read.ends;
    }
    lost_pointer (faults.Tampered e) (Err failed) read says = absurd says
    lost_pointer (faults.Tampered e) (Ok true) read says = absurd (no_yes (sym says))
    lost_pointer (faults.Tampered e) (Ok false) read says = record {
      viewed = viewed_then viewed read.viewed;
      ends = λ tells t has.
          let b = behind tells t in
          let holds = holds_on read.viewed.image b.jump in
          let none = read.ends.2 (told tells) in
          let same : holds.cell ≡ e.found = some_is holds.cell e.found (sym holds.stands ∙ none.stands) in
          none.none b.target
          (subst (λ (c : List ℕ). IsRecordCell (Jump b.target) (pointer_at block s.level s.digit) c) same holds.is);
    }

    module _ (target : ℕ) (read : ReadsPointer (pointer_at block s.level s.digit) mid next (Ok (Some target))) where
      -- it leads where the trail goes on
      one_target : (tells : IsTrue old.base.tells) (b : GoesOn mid.image pool mid.cells p block s) → b.target ≡ target
      one_target tells b = jump_target b.target target
          (one_record_holds next.image (pointer_at block s.level s.digit) (Jump b.target) (Jump target)
          (holds_on read.viewed.image b.jump) (read.ends (told tells)))

      -- its target is no block of the pool
      pub leads_out : (target < pool) ⊎ (next.cells < target + 256)
          → AsksBlock pool block p low bound old next (Ok false)
      leads_out out = record {
        viewed = viewed_then viewed read.viewed;
        ends = λ tells t has.
            let b = behind tells t in
            let same = one_target tells b in
            ⊎_elim
            (λ (less : target < pool). omega (arith, b.inside_from, same))
            (λ (past : next.cells < target + 256). omega (arith, b.inside_to, same, read.viewed.cells))
            out;
      }

      -- its target was asked
      pub onward : (new : ViewState) (result : Result Bool Failed) → pool ≤ target → target + 256 ≤ next.cells
          → low ≤ l → l < bound → AsksBlock pool target p s.low s.high next new result
          → AsksBlock pool block p low bound old new result
      onward new (Err failed) above inside ge less asked = record {
        viewed = viewed_then viewed (viewed_then read.viewed asked.viewed);
        ends = counts.rose_later _ _ _ (viewed_then viewed read.viewed).called.faults asked.ends;
      }
      onward new (Ok false) above inside ge less asked = record {
        viewed = viewed_then viewed (viewed_then read.viewed asked.viewed);
        ends = λ tells t has.
            let b = behind tells t in
            let same = one_target tells b in
            let later : HasTrailFrom pool next b.target p = trail_later {old = mid} read.viewed (b.at, b.rest) in
            asked.ends (subst IsTrue (sym (viewed_then viewed read.viewed).called.tells) tells)
            (subst (λ (c : ℕ). HasTrailFrom pool next c p) same later)
            (subst (λ (c : ℕ). HasKeyIn next.image c s.low s.high) same (key_in_on read.viewed.image b.has));
      }
      onward new (Ok true) above inside ge less asked = record {
        viewed = viewed_then viewed (viewed_then read.viewed asked.viewed);
        ends = λ tells.
            let found = asked.ends (subst IsTrue (sym (viewed_then viewed read.viewed).called.tells) tells) in
            let now : HasFull new.image block l = key_on asked.viewed.image (key_on read.viewed.image (full tells)) in
            let within : InSpan now.p.key s.level s.digit p.key = subst (λ (n : ℕ). InSpan n s.level s.digit p.key)
            (sym now.same) (in_span is from below) in
            let some : InSpan now.p.key s.level s.digit found.1.p.key = subst
            (λ (n : ℕ). InSpan n s.level s.digit found.1.p.key) (sym now.same)
            (in_span is found.1.from found.1.below) in
            let hop : Hop new.image pool new.cells block p.key target = record {
              greatest = now.p;
              full = now.in_front;
              level = s.level;
              digit = s.digit;
              span = within;
              jump = holds_on asked.viewed.image (read.ends (told tells));
              inside_from = above;
              inside_to = omega (arith, inside, asked.viewed.cells);
              place = found.1.place;
              some = found.1.p;
              in_front = found.1.in_front;
              in_places = found.1.in_places;
              in_span = some;
            } in (
              (found.0.0, on block target hop found.0.1),
              record {
                place = 127;
                p = now.p;
                in_places = omega arith;
                in_front = now.in_front;
                from = omega (arith, now.same);
                below = omega (arith, now.same);
              },
            );
      }

-- a trail begins in a block that has a key
pub trail_has_key : {image : Image} {from to at : ℕ} {p : PostingFields} {block : ℕ} → Trail image from to at p block
    → HasKeyIn image block 0 (2 ^ 32)
trail_has_key (here block place is below front) = record {
  place = place;
  p = _;
  in_places = below;
  in_front = front;
  from = omega arith;
  below = (front_holds front).is.fits.0;
}
trail_has_key (on block target hop rest) = record {
  place = 127;
  p = hop.greatest;
  in_places = omega arith;
  in_front = hop.full;
  from = omega arith;
  below = (front_holds hop.full).is.fits.0;
}

-- of a list's first block a trail alone is asked
pub from_head : (pool head : ℕ) (p : PostingFields) (old new : ViewState) (result : Result Bool Failed)
    → AsksBlock pool head p 0 (2 ^ 32) old new result → AsksTrail pool head p old new result
from_head pool head p old new (Ok true) asked = record {
  viewed = asked.viewed;
  ends = λ tells. (asked.ends tells).0;
}
from_head pool head p old new (Ok false) asked = record {
  viewed = asked.viewed;
  ends = λ tells t. asked.ends tells t (trail_has_key t.1);
}
from_head pool head p old new (Err failed) asked = record { viewed = asked.viewed; ends = asked.ends }
