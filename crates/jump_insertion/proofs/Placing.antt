-- Where a posting goes: into a block with a blank place, or behind a full block, with a pointer to it there.
use Rattle.std.proofs.Common.{◌≡◌, ◌≢◌, ◌<◌, ◌≤◌, ◌+◌, ◌*◌, ◌^◌, ◌⊎◌, ⊎_elim, inl, inr, ℕ, Option, Some, None, Result, Ok, Err, refl, ap, sym, subst, arith, ◌∙◌}
use Rattle.std.specs.Prelude.{IsTrue}
use Rattle.std.proofs.lemmas.Option.{none-some}
use Rattle.cell_types.specs.Image.{Image, Extends}
use Rattle.cell_types.specs.declared.record_cell.RecordCell.TheVariants.{Jump}
use Rattle.cell_types.specs.declared.refusal.Fault.TheVariants.{Tampered, Failed}
use Rattle.cell_types.specs.declared.refusal.Fault as fault
use Rattle.volume_meaning.specs.Volumes.{Holds}
use Rattle.volume_meaning.proofs.Extending.{holds_on}
use Rattle.volume_meaning.specs.Blocks.{PostingFields, posting_record, InFront, at_the_start, behind, InSpan, Hop, here, on, pointer_at}
use Rattle.volume_meaning.specs.Nodes.{AreApart}
use Rattle.volume_meaning.proofs.Fronts.{front_on}
use Rattle.worm_device.specs.Views.{ViewState, Viewed, IsView}
use Rattle.worm_device.specs.declared.owner.Owner.{Owner}
use Rattle.worm_device.proofs.Elapsing.{called_then}
use Rattle.worm_device.proofs.Images.{extends_then, extends_self}
use Rattle.worm_device.proofs.Resting.{viewed_self, viewed_then}
use Rattle.jump_block.specs.Fronts.{FirstEnds}
use Rattle.jump_block.specs.Spans.{IsSpan}
use Rattle.jump_block.specs.declared.known_front.Front.TheVariants.{Open}
use Rattle.jump_block.specs.declared.spans.Span.{Span}
use Rattle.jump_block.proofs.Knowing.{key_on}
use Rattle.jump_block.specs.Pointing.{HasFull, HasPointer, HasKeyIn}
use Rattle.jump_block.proofs.OneBlock.{none_from_blank}
use Rattle.cell_pool.specs.Grants.{TakesFront}
use Rattle.cell_pool.specs.declared.fault.GrowthFault.{GrowthFault}
use Rattle.cell_pool.specs.declared.fault.GrowthFault.TheVariants.{Fault, NoMemory}
use Rattle.cell_pool.specs.declared.pool.Pool.{Pool}
use Rattle.jump_insertion.specs.Hopping.{IsAt, IsSpot, HopFaultEnds, TailEnds}
use Rattle.jump_insertion.specs.Placing.{PlacePostingEnds, PlacesPosting}
use Rattle.jump_insertion.specs.Planning.{PutsRecord}
use Rattle.jump_insertion.specs.Readiness.{IsOwnBlock, IsBlockReached, is_new, a_posting, a_pointer, IsReadyList}
use Rattle.jump_insertion.specs.Steps.{PlacesFrom, PutsWithPointer}
use Rattle.jump_insertion.specs.UnderWay.{IsHome}
use Rattle.jump_insertion.specs.declared.entries.Home.{Home}
use Rattle.jump_insertion.specs.declared.entries.Insertion.{Insertion}
use Rattle.jump_insertion.specs.declared.entries.Spot.{Spot}
use Rattle.jump_insertion.proofs.Growing.{next_front}
use Rattle.jump_insertion.proofs.Naming.{fault_then, full_at_most}
use Rattle.jump_insertion.proofs.Readying.{ready_viewed, ready_same, ready_put, own_block_same, own_block_viewed, own_block_put, reached_viewed, reached_as, apart_from_head}
use Rattle.jump_insertion.proofs.Showing.{blank_is_free, adding_extends, called_on, quiet_on, quiet_then, same_extends}

pub span_holds : {l k : ℕ} {s : Span} → IsSpan l s → s.low ≤ k → k < s.high → InSpan l s.level s.digit k
span_holds is low high = record {
  levels = is.levels;
  some = is.some;
  digits = is.digits;
  low = omega (arith, is.low, low);
  high = omega (arith, is.low, is.high, high);
}

-- what a hop to a block is, whose front has a key of the span
hop_to : (image : Image) (floor to block l target : ℕ) (p : PostingFields) (s : Span) → HasFull image block l
    → IsSpan l s
    → s.low ≤ p.key → p.key < s.high → HasPointer image block s.level s.digit target → floor ≤ target
    → target + 256 ≤ to → HasKeyIn image target s.low s.high → Hop image floor to block p.key target
hop_to image floor to block l target p s full is low high led from inside has =
    let P : ℕ → ℕ → Type 0 = λ n k. InSpan n s.level s.digit k in
    record {
      greatest = full.p;
      full = full.in_front;
      level = s.level;
      digit = s.digit;
      span = subst (λ n. P n p.key) (sym full.same) (span_holds is low high);
      jump = led;
      inside_from = from;
      inside_to = inside;
      place = has.place;
      some = has.p;
      in_front = has.in_front;
      in_places = has.in_places;
      in_span = subst (λ n. P n has.p.key) (sym full.same) (span_holds is has.from has.below);
    }

-- a full block has its greatest key
full_has_key : {image : Image} {block l low bound : ℕ} → HasFull image block l → low ≤ l → l < bound
    → HasKeyIn image block low bound
full_has_key full low bound = record {
  place = 127;
  p = full.p;
  in_places = omega arith;
  in_front = full.in_front;
  from = omega (arith, full.same, low);
  below = omega (arith, full.same, bound);
}

pub places_differ : (target block place level digit : ℕ) → AreApart target 256 block 256 → place < 128 → level < 8
    → 1 ≤ digit → digit ≤ 15 → target + place ≡ pointer_at block level digit → ⊥
places_differ target block place level digit apart below levels some digits is = ⊎_elim
    (λ before. omega (arith, before, below, levels, some, digits, is))
    (λ behind. omega (arith, behind, below, levels, some, digits, is))
    apart

-- an insertion that reads, and then at most plans cells
planned_after : {head floor to block low bound : ℕ} {p : PostingFields} {old mid new : ViewState}
    {result : Result (Option Spot) GrowthFault} → Viewed old mid → new.cells ≡ mid.cells → new.fresh ≡ mid.fresh
    → new.loans ≡ mid.loans → new.lower ≡ mid.lower → new.base ≡ mid.base
    → PlacePostingEnds head floor to block p low bound old new result
    → PlacesPosting head floor to block p low bound old new result
planned_after {mid = mid} {new = new} viewed cells fresh loans lower base ends = record {
  called = called_on viewed.called base;
  cells = cells ∙ viewed.cells;
  fresh = fresh ∙ viewed.fresh;
  loans = loans ∙ viewed.loans;
  lower = extends_then viewed.lower (same_extends mid.lower new.lower lower);
  quiet = quiet_on viewed base;
  ends = ends;
}

-- an insertion in or behind a block after reads, which is one in or behind another
placed_after : {head floor to block behind low bound a b : ℕ} {p : PostingFields} {old mid new : ViewState}
    {placed result : Result (Option Spot) GrowthFault} → Viewed old mid
    → PlacesPosting head floor to behind p a b mid new placed
    → PlacePostingEnds head floor to block p low bound old new result
    → PlacesPosting head floor to block p low bound old new result
placed_after viewed placed ends = record {
  called = called_then viewed.called placed.called;
  cells = placed.cells ∙ viewed.cells;
  fresh = placed.fresh ∙ viewed.fresh;
  loans = placed.loans ∙ viewed.loans;
  lower = extends_then viewed.lower placed.lower;
  quiet = quiet_then viewed placed.called placed.quiet;
  ends = ends;
}

-- the posting goes to a blank place of the block
pub into_open : (head floor next block low bound place : ℕ) (greatest : Option ℕ) (p : PostingFields)
    (old mid new : ViewState) → IsView mid → head + 256 ≤ floor → (block ≡ head) ⊎ (floor ≤ block)
    → low ≤ p.key → p.key < bound → block + 256 ≤ next → Viewed old mid
    → FirstEnds p.key block old mid (Ok (Open place greatest))
    → (IsTrue old.base.tells → IsAt old head floor next p.key block)
    → PutsRecord (block + place) (posting_record p) (record { head = head; base = block }) mid new (Ok tt)
    → PlacesPosting head floor next block p low bound old new (Ok (Some (record { block = block; place = place })))
into_open head floor next block low bound place greatest p old mid new view before lies from below inside viewed read
    is_at put =
    planned_after viewed put.cells put.fresh put.loans put.lower put.base (λ tells.
    let open_ = read.1 tells in
    let blank : mid.image (block + place) ≡ None = open_.0 in
    let grown : Extends mid.image new.image = adding_extends (λ c differ. (put.others c differ).0) blank in
    let there : InFront new.image block place p = next_front new.image block place p
    (λ before h. let q = open_.1.last before h in (q.0, front_on grown q.1, q.2)) put.ends.shown in
    let at_old = is_at tells in
    record {
      shown = extends_then viewed.image grown;
      trail = here block place refl read.0 there;
      has = record { place = place; p = p; in_places = read.0; in_front = there; from = from; below = below };
      ready = λ key less.
          ready_put mid new head floor next next p.key key (block + place) block
          (record { head = head; base = block }) refl refl
          (λ c differ. (put.others c differ).2) put.ends.for_whom (view.unowned (block + place) put.ends.free)
          grown (same_extends mid.lower new.lower put.lower) put.fresh (omega arith) (omega (arith, read.0))
          (ready_viewed viewed head floor next p.key at_old.ready) (omega arith) (omega (arith, less)) inside
          (apart_from_head before lies) (own_block_viewed viewed head block at_old.own_block)
          (reached_viewed viewed head floor block at_old.reached) (a_posting place p refl read.0 there less);
    })

-- the posting may go to this place
pub record IsTarget (mid : ViewState) (i : Insertion) (next to home : ℕ) (spot : Spot) : Type 0 where
  pub from : i.list.floor ≤ spot.block
  pub inside : spot.block + 256 ≤ to
  pub in_places : spot.place < 128
  pub more : next ≤ to
  pub view : IsView mid
  pub told : IsTrue mid.base.tells
      → IsSpot mid i.list.head i.list.floor i.entry.key home spot.block spot.place

-- a state that shows this image over this one
abbrev pub with_image : ViewState → Image → Image → ViewState
with_image s image lower = record {
  cells = s.cells;
  image = image;
  planned = s.planned;
  owners = s.owners;
  lower = lower;
  fresh = s.fresh;
  base = s.base;
  loans = s.loans;
}

-- a front of another block than the pointer's stays as it is
front_past : (image new : Image) (target block level digit : ℕ) {place : ℕ} {q : PostingFields}
    → AreApart target 256 block 256
    → place < 128 → level < 8 → 1 ≤ digit → digit ≤ 15
    → ((c : ℕ) → c ≢ pointer_at block level digit → new c ≡ image c) → InFront image target place q
    → InFront new target place q
front_past image new target block level digit apart below levels some digits others (at_the_start i p is holds) =
    at_the_start i p is (record {
      cell = holds.cell;
      stands = others (target + i) (λ e. places_differ target block i level digit apart below levels some digits e)
          ∙ holds.stands;
      is = holds.is;
    })
front_past image new target block level digit apart below levels some digits others
    (behind i j p r is rest less holds) =
    behind i j p r is (front_past image new target block level digit apart
    (omega (arith, is, below)) levels some digits others rest) less (record {
      cell = holds.cell;
      stands = others (target + i) (λ e. places_differ target block i level digit apart below levels some digits e)
          ∙ holds.stands;
      is = holds.is;
    })

span_key : {image : Image} {target l : ℕ} {s : Span} → IsSpan l s → HasKeyIn image target s.low s.high
    → HasKeyIn image target (l + s.digit * 16 ^ s.level) (l + s.digit * 16 ^ s.level + 16 ^ s.level)
span_key is has = record {
  place = has.place;
  p = has.p;
  in_places = has.in_places;
  in_front = has.in_front;
  from = omega (arith, has.from, is.low);
  below = omega (arith, has.below, is.high, is.low);
}

-- what is written or planned behind a full block
module _ (pool : Pool) (i : Insertion) (full : Home) (to : ℕ) (old mid new : ViewState) (spot : Spot) (sees : IsView old)
    (home : IsHome old pool i full) (target : IsTarget mid i pool.next to full.visit.block spot) (viewed : Viewed old mid)
  where
    -- the target is another block
    pub spot_apart : IsTrue old.base.tells → AreApart spot.block 256 full.visit.block 256
    spot_apart tells =
        let there = target.told (subst IsTrue (sym viewed.called.tells) tells) in
        let full_mid = key_on viewed.image (home.full tells) in
        ⊎_elim
        (λ (same : spot.block ≡ full.visit.block). absurd (omega (
          arith,
          none_from_blank mid.image full.visit.block spot.place 127 full_mid.p
              (subst (λ b. mid.image (b + spot.place) ≡ None) same there.blank) full_mid.in_front,
          target.in_places,
        )))
        (λ apart. apart)
        there.apart

    pub spot_differs : IsTrue old.base.tells → spot.block + spot.place ≢ pointer_at full.visit.block full.to.level full.to.digit
    spot_differs tells = λ e.
        places_differ spot.block full.visit.block spot.place full.to.level full.to.digit
        (spot_apart tells) target.in_places home.span.levels home.span.some home.span.digits e

    pub spot_free : IsTrue old.base.tells → mid.planned (spot.block + spot.place) ≡ None
    spot_free tells = blank_is_free mid target.view (spot.block + spot.place)
        (target.told (subst IsTrue (sym viewed.called.tells) tells)).blank

    pub pointer_free : IsTrue old.base.tells → mid.planned (pointer_at full.visit.block full.to.level full.to.digit) ≡ None
    pointer_free tells = ap (λ (f : Image). f (pointer_at full.visit.block full.to.level full.to.digit)) viewed.planned
        ∙ blank_is_free old sees (pointer_at full.visit.block full.to.level full.to.digit) (home.blank tells)

    module _ (put_at : ViewState) (owner home_owner : Owner) (is_head : owner.head ≡ i.list.head)
        (is_base : owner.base ≡ spot.block)
        (is_home_head : home_owner.head ≡ i.list.head) (is_home_base : home_owner.base ≡ full.visit.block)
        (put : PutsRecord (spot.block + spot.place) (posting_record i.entry) owner mid put_at (Ok tt))
        (led : PutsRecord (pointer_at full.visit.block full.to.level full.to.digit) (Jump spot.block) home_owner put_at new
        (Ok tt))
        (tells : IsTrue old.base.tells) where
      there : IsSpot mid i.list.head i.list.floor i.entry.key full.visit.block spot.block spot.place
      there = target.told (subst IsTrue (sym viewed.called.tells) tells)

      at_old : IsAt old i.list.head i.list.floor pool.next i.entry.key full.visit.block
      at_old = home.visit.at tells

      grown : Extends old.image new.image
      grown = record {
        keeps = λ c v h.
            let at_mid = viewed.image.keeps c v h in
            let not_pointer : c ≢ pointer_at full.visit.block full.to.level full.to.digit =
            λ e. none-some v (sym (home.blank tells) ∙ ap old.image (sym e) ∙ h) in
            let not_at : c ≢ spot.block + spot.place =
            λ e. none-some v (sym there.blank ∙ ap mid.image (sym e) ∙ at_mid) in
            (led.others c not_pointer).0 ∙ (put.others c not_at).0 ∙ at_mid;
      }

      holds_new : Holds new.image (spot.block + spot.place) (posting_record i.entry)
      holds_new = record {
        cell = put.ends.shown.cell;
        stands = (led.others (spot.block + spot.place) (spot_differs tells)).0 ∙ put.ends.shown.stands;
        is = put.ends.shown.is;
      }

      -- the posting is in the target's front
      into : InFront new.image spot.block spot.place i.entry
      into =
          let front_kept : Extends mid.image put_at.image = adding_extends (λ c d. (put.others c d).0) there.blank in
          next_front new.image spot.block spot.place i.entry
          (λ before h.
          let q = there.rises before h in (
            q.0,
            front_past put_at.image new.image spot.block full.visit.block full.to.level full.to.digit (spot_apart tells)
                (omega (arith, h, target.in_places)) home.span.levels home.span.some home.span.digits
                (λ c d. (led.others c d).0) (front_on front_kept q.1),
            q.2,
          ))
          holds_new

      has : HasKeyIn new.image spot.block full.to.low full.to.high
      has = record {
        place = spot.place;
        p = i.entry;
        in_places = target.in_places;
        in_front = into;
        from = home.from;
        below = home.below;
      }

      full_new : HasFull new.image full.visit.block full.greatest_key
      full_new = key_on grown (home.full tells)

      lower_mid : Extends mid.lower new.lower
      lower_mid = same_extends mid.lower new.lower (led.lower ∙ put.lower)

      -- The states that lead from what was shown at first to what is shown in the end: nobody's cell that was written
      -- meanwhile below a planned one counts.
      abbrev first : ViewState
      first = with_image mid old.image mid.lower

      abbrev second : ViewState
      second = with_image put_at new.image new.lower

      ready_first : IsReadyList first i.list.head i.list.floor pool.next i.entry.key
      ready_first = ready_same old first i.list.head i.list.floor pool.next i.entry.key
          (extends_self old.image) viewed.lower viewed.fresh viewed.owners at_old.ready

      own_target : IsOwnBlock first i.list.head spot.block
      own_target = record { inside = there.own_block.inside; apart = there.own_block.apart }

      own_home : IsOwnBlock first i.list.head full.visit.block
      own_home = own_block_same old first i.list.head i.list.floor pool.next i.entry.key
          (extends_self old.image) viewed.lower viewed.fresh viewed.owners full.visit.block at_old.own_block

      ready_second : (key : ℕ) → i.entry.key < key → IsReadyList second i.list.head i.list.floor to key
      ready_second key greater =
          ready_put first second i.list.head i.list.floor pool.next to i.entry.key key
          (spot.block + spot.place) spot.block owner is_head is_base
          (λ c d. (put.others c d).2) put.ends.for_whom (target.view.unowned (spot.block + spot.place) put.ends.free)
          grown lower_mid put.fresh (omega arith) (omega (arith, target.in_places)) ready_first target.more
          (omega (arith, greater)) target.inside
          (apart_from_head home.visit.posting.head (inr target.from)) own_target
          (reached_as mid first i.list.head i.list.floor (extends_self mid.lower) refl spot.block there.reached)
          (a_posting spot.place i.entry refl target.in_places into greater)

      own_second : (key : ℕ) → i.entry.key < key → IsOwnBlock second i.list.head full.visit.block
      own_second key greater =
          own_block_put first second i.list.head i.list.floor pool.next to i.entry.key key
          (spot.block + spot.place) spot.block owner is_head is_base
          (λ c d. (put.others c d).2) put.ends.for_whom (target.view.unowned (spot.block + spot.place) put.ends.free)
          grown lower_mid put.fresh (omega arith) (omega (arith, target.in_places)) full.visit.block
          (inr (spot_apart tells)) own_home

      reached_second : IsBlockReached second i.list.head i.list.floor full.visit.block
      reached_second = reached_as old second i.list.head i.list.floor (extends_then viewed.lower lower_mid)
          (put.fresh ∙ viewed.fresh) full.visit.block at_old.reached

      pub placed_ready : (key : ℕ) → i.entry.key < key → IsReadyList new i.list.head i.list.floor to key
      placed_ready key greater =
          ready_put second new i.list.head i.list.floor to to key key
          (pointer_at full.visit.block full.to.level full.to.digit) full.visit.block home_owner is_home_head is_home_base
          (λ c d. (led.others c d).2) led.ends.for_whom (unowned_pointer led.ends.free)
          (extends_self new.image) (extends_self new.lower) led.fresh (omega arith)
          (omega (arith, home.span.levels, home.span.digits))
          (ready_second key greater) (omega arith) (omega arith) (omega (arith, home.visit.before, target.more))
          (apart_from_head home.visit.posting.head home.visit.lies) (own_second key greater) reached_second
          (a_pointer full.to.level full.to.digit spot.block full.greatest_key (spot.block + spot.place) owner
          (record { levels = home.span.levels; some = home.span.some; digits = home.span.digits }) refl led.ends.shown
          target.from target.inside
          full_new (span_key home.span has)
          ((led.others (spot.block + spot.place) (spot_differs tells)).2 ∙ put.ends.for_whom) is_head is_base)
        where
          unowned_pointer : put_at.planned (pointer_at full.visit.block full.to.level full.to.digit) ≡ None
              → put_at.owners (pointer_at full.visit.block full.to.level full.to.digit) ≡ None
          unowned_pointer free =
              let other : pointer_at full.visit.block full.to.level full.to.digit ≢ spot.block + spot.place =
              λ e. spot_differs tells (sym e) in
              (put.others (pointer_at full.visit.block full.to.level full.to.digit) other).2
              ∙ target.view.unowned (pointer_at full.visit.block full.to.level full.to.digit) (pointer_free tells)

      pub placed_hop : Hop new.image i.list.floor to full.visit.block i.entry.key spot.block
      placed_hop =
          hop_to new.image i.list.floor to full.visit.block full.greatest_key spot.block i.entry full.to
          full_new home.span home.from home.below led.ends.shown target.from target.inside has

      pub placed_grown : Extends old.image new.image
      placed_grown = grown

      pub placed_into : InFront new.image spot.block spot.place i.entry
      placed_into = into

      pub placed_key : HasKeyIn new.image full.visit.block full.visit.within.low full.visit.within.high
      placed_key = full_has_key full_new home.low (omega (arith, home.less, home.visit.high))

    -- the call that plans both
    pub both_places : (result : Result (Option Spot) GrowthFault)
        → PutsWithPointer i full spot mid new result → PlacesFrom i full.visit to old new result
    both_places (Ok (Some found)) both =
        planned_after viewed both.cells both.fresh both.loans both.lower both.base (λ tells.
        let two = both.ends.1 in
        let owner : Owner = record { head = i.list.head; base = spot.block } in
        let home_owner : Owner = record { head = i.list.head; base = full.visit.block } in
        let there = target.told (subst IsTrue (sym viewed.called.tells) tells) in
        record {
          shown = placed_grown two.mid owner home_owner refl refl refl refl two.posting two.jump tells;
          trail = on full.visit.block spot.block
              (placed_hop two.mid owner home_owner refl refl refl refl two.posting two.jump tells)
              (here spot.block spot.place (ap (λ (x : Spot). x.block + x.place) both.ends.0) target.in_places
              (placed_into two.mid owner home_owner refl refl refl refl two.posting two.jump tells));
          has = placed_key two.mid owner home_owner refl refl refl refl two.posting two.jump tells;
          ready = placed_ready two.mid owner home_owner refl refl refl refl two.posting two.jump tells;
        })
    both_places (Ok None) both = absurd both.ends
    both_places (Err (Fault Failed)) both = absurd both.ends
    both_places (Err (Fault (Tampered e))) both =
        planned_after viewed both.cells both.fresh both.loans both.lower both.base (
          λ tells. absurd (both.ends (spot_free tells) (pointer_free tells) (spot_differs tells)),
          λ tells. absurd (both.ends (spot_free tells) (pointer_free tells) (spot_differs tells)),
        )
    both_places (Err (NoMemory lack)) both =
        planned_after viewed both.cells both.fresh both.loans both.lower both.base tt

-- a new block is one to go to
pub new_spot : (s : ViewState) → IsView s → (head floor next key block : ℕ) → IsReadyList s head floor next key
    → s.fresh ≤ next
    → ((cell : ℕ) → next ≤ cell → s.planned cell ≡ None) → block + 256 ≤ next → IsSpot s head floor key block next 0
new_spot s view head floor next key block ready fresh free before = record {
  own_block = record {
    inside = λ cell owner is from to. absurd (none-some owner (sym (view.unowned cell (free cell from)) ∙ is));
    apart = λ cell owner is same. inr (inl (ready.inside cell owner is same).2);
  };
  reached = is_new fresh;
  apart = inr (inr before);
  blank = view.beyond (next + 0) (free (next + 0) (omega arith)) (omega (arith, fresh));
  rises = λ before h. absurd (omega (arith, h));
}

-- the pool grants a new block for the posting
pub new_target : (pool granted : Pool) (i : Insertion) (full : Home) (target : ℕ) (old mid : ViewState) → IsView mid
    → IsHome old pool i full → Viewed old mid → TakesFront pool granted 256 target
    → IsTarget mid i pool.next granted.next full.visit.block (record { block = target; place = 0 })
new_target pool granted i full target old mid view home viewed taken =
    let posting = home.visit.posting in
    record {
      from = omega (arith, posting.floor, taken.first);
      inside = omega (arith, taken.first, taken.next);
      in_places = omega arith;
      more = omega (arith, taken.next);
      view = view;
      told = λ tells. subst (λ n. IsSpot mid i.list.head i.list.floor i.entry.key full.visit.block n 0) (sym taken.first)
          (new_spot mid view i.list.head i.list.floor pool.next i.entry.key full.visit.block
          (ready_viewed viewed i.list.head i.list.floor pool.next i.entry.key
          (home.visit.at (subst IsTrue viewed.called.tells tells)).ready)
          (omega (arith, posting.fresh, viewed.fresh))
          (λ x past. ap (λ (f : Image). f x) viewed.planned ∙ posting.free x past) home.visit.before);
    }

-- the list's tail has a blank place for it
pub tail_target : (i : Insertion) (next home : ℕ) (old mid : ViewState) (spot : Spot) → IsView mid → Viewed old mid
    → TailEnds i.list.head i.list.floor next i.entry.key home old mid (Ok (Some spot)) → IsTarget mid i next next home spot
tail_target i next home old mid spot view viewed found = record {
  from = found.1;
  inside = found.2;
  in_places = found.0;
  more = omega arith;
  view = view;
  told = λ tells. found.3 (subst IsTrue viewed.called.tells tells);
}

-- the posting went behind the target
pub into_target : (head floor to block l low bound target : ℕ) (p : PostingFields) (s : Span) (old mid new : ViewState)
    (spot : Spot) → low ≤ l → l < p.key → p.key < bound → IsSpan l s → s.low ≤ p.key → p.key < s.high
    → floor ≤ target → target + 256 ≤ to → Viewed old mid → (IsTrue old.base.tells → HasFull mid.image block l)
    → (IsTrue old.base.tells → HasPointer mid.image block s.level s.digit target)
    → PlacesPosting head floor to target p s.low s.high mid new (Ok (Some spot))
    → PlacesPosting head floor to block p low bound old new (Ok (Some spot))
into_target head floor to block l low bound target p s old mid new spot from less below is span_from span_to
    inside_from inside_to viewed full led placed = placed_after viewed placed (λ tells.
    let done = placed.ends (subst IsTrue (sym viewed.called.tells) tells) in
    let full_new = key_on done.shown (full tells) in
    record {
      shown = extends_then viewed.image done.shown;
      trail = on block target
          (hop_to new.image floor to block l target p s full_new is span_from span_to
          (holds_on done.shown (led tells)) inside_from inside_to done.has)
          done.trail;
      has = full_has_key full_new from (omega (arith, less, below));
      ready = done.ready;
    })

-- an insertion after reads
pub place_then : (head floor to block : ℕ) (p : PostingFields) (low bound : ℕ) (old mid new : ViewState)
    → Viewed old mid
    → (result : Result (Option Spot) GrowthFault) → PlacesPosting head floor to block p low bound mid new result
    → PlacesPosting head floor to block p low bound old new result
place_then head floor to block p low bound old mid new viewed result placed =
    placed_after viewed placed (why result placed.ends) where
      told : IsTrue old.base.tells → IsTrue mid.base.tells
      told tells = subst IsTrue (sym viewed.called.tells) tells

      why : (result : Result (Option Spot) GrowthFault) → PlacePostingEnds head floor to block p low bound mid new result
          → PlacePostingEnds head floor to block p low bound old new result
      why (Ok (Some spot)) placed = λ tells.
          let done = placed (told tells) in
          record { shown = extends_then viewed.image done.shown; trail = done.trail; has = done.has; ready = done.ready }
      why (Ok None) none = (viewed_then viewed none.0, λ tells. none.1 (told tells))
      why (Err (Fault fault)) ends =
          (fault_then head floor p.key old mid new viewed fault ends.0, λ tells. viewed_then viewed (ends.1 (told tells)))
      why (Err (NoMemory lack)) ends = tt

-- a refusal behind the target is one behind the block
pub refused_behind : (head floor to block target a b : ℕ) (p : PostingFields) (low bound : ℕ) (old new : ViewState)
    (fault : GrowthFault)
    → PlacesPosting head floor to target p a b old new (Err fault)
    → PlacesPosting head floor to block p low bound old new (Err fault)
refused_behind head floor to block target a b p low bound old new fault placed =
    placed_after (viewed_self old) placed (why fault placed.ends) where
      why : (fault : GrowthFault) → PlacePostingEnds head floor to target p a b old new (Err fault)
          → PlacePostingEnds head floor to block p low bound old new (Err fault)
      why (Fault fault) ends = ends
      why (NoMemory lack) ends = ends

-- a fault of the reads
pub read_fault : (head floor to block : ℕ) (p : PostingFields) (low bound : ℕ) (old new : ViewState) (f : fault.Fault)
    → Viewed old new
    → HopFaultEnds head floor p.key old new f → PlacesPosting head floor to block p low bound old new (Err (Fault f))
read_fault head floor to block p low bound old new f viewed ends =
    planned_after viewed refl refl refl refl refl (ends, λ tells. viewed)

-- the block has no key of the span
pub no_key_here : (head floor to block l : ℕ) (p : PostingFields) (low bound : ℕ) (old new : ViewState) → Viewed old new
    → (IsTrue old.base.tells → HasFull new.image block l) → l < low
    → PlacesPosting head floor to block p low bound old new (Ok None)
no_key_here head floor to block l p low bound old new viewed full less =
    planned_after viewed refl refl refl refl refl (
      viewed,
      λ tells place q below front. omega (arith, full_at_most (full tells) place q below front, less),
    )

-- the cell of the posting was planned already, which a view that tells does not show as blank
pub one_refused : (head floor to block at : ℕ) (p : PostingFields) (low bound : ℕ) (old mid new : ViewState)
    (owner : Owner)
    (fault : GrowthFault) → Viewed old mid → (IsTrue old.base.tells → mid.planned at ≡ None)
    → PutsRecord at (posting_record p) owner mid new (Err fault)
    → PlacesPosting head floor to block p low bound old new (Err fault)
one_refused head floor to block at p low bound old mid new owner (Fault Failed) viewed free put = absurd put.ends
one_refused head floor to block at p low bound old mid new owner (Fault (Tampered e)) viewed free put =
    planned_after viewed put.cells put.fresh put.loans put.lower put.base (
      λ tells. absurd (none-some e.found (sym (free tells) ∙ put.ends.planned)),
      λ tells. absurd (none-some e.found (sym (free tells) ∙ put.ends.planned)),
    )
one_refused head floor to block at p low bound old mid new owner (NoMemory lack) viewed free put =
    planned_after viewed put.cells put.fresh put.loans put.lower put.base tt
