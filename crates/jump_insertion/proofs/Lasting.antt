-- The tail that a search finds is the list's last block.
use Rattle.std.proofs.Common.{◌≡◌, ◌<◌, ◌≤◌, ◌+◌, ◌*◌, ◌^◌, ⊎_elim, ℕ, Option, Some, None, Result, Ok, Err, ap, refl, sym, subst, arith, ◌∙◌}
use Rattle.std.specs.Prelude.{IsTrue}
use Rattle.std.proofs.lemmas.Bool.{cases_lt}
use Rattle.std.proofs.lemmas.Option.{none-some}
use Rattle.std.proofs.Math.Nat.{mul-le-mul_right, one-le-pow}
use Rattle.cell_types.specs.Image.{Image}
use Rattle.cell_types.specs.declared.record_cell.RecordCell.TheVariants.{Jump}
use Rattle.cell_types.specs.declared.refusal.Fault.{Fault}
use Rattle.volume_meaning.specs.Volumes.{Holds}
use Rattle.volume_meaning.specs.Blocks.{PostingFields, Hop, InFront, InSpan, Trail, here, on, Leads, pointer_at}
use Rattle.volume_meaning.proofs.Fronts.{one_place, rises, rises_or_same}
use Rattle.volume_meaning.proofs.Holding.{one_record_holds}
use Rattle.volume_meaning.proofs.Spans as spans
use Rattle.tamper_rules.proofs.GivenUp.{leads_further}
use Rattle.ingest_laws.specs.Needs.{at_end, through}
use Rattle.worm_device.specs.Counts.{IsStill}
use Rattle.worm_device.specs.Views.{ViewState, Viewed}
use Rattle.worm_device.proofs.Counting.{still_second}
use Rattle.jump_block.specs.Spans.{IsSpan}
use Rattle.jump_block.specs.declared.spans.Span.{Span}
use Rattle.jump_block.specs.Pointing.{HasFull, HasPointer}
use Rattle.jump_block.proofs.OneBlock.{jump_target, none_from_blank}
use Rattle.jump_insertion.specs.Growing.{IsTop, EndsTrailAt, EndsAtFull, IsLastBlock, IsLastFull}
use Rattle.jump_insertion.specs.Hopping.{BlankFrom, TailLast}
use Rattle.jump_insertion.specs.declared.entries.Spot.{Spot}
use Rattle.jump_insertion.proofs.Showing.{quiet_image}

-- behind a full block with no pointer for smaller keys there is nothing
pub none_last : {image : Image} {floor next block head at l bound : ℕ} {q : PostingFields} → HasFull image block l
    → BlankFrom image block l 0 bound → IsTop image floor next head q → Leads image floor next block head
    → q.key < bound → Trail image floor next at q block → EndsAtFull image floor next at q block
none_last {image} {q = q} full blank top led less (here block place is below front) =
    let most : full.p.key ≤ q.key = top.top block 127 full.p led (omega arith) full.in_front in
    ⊎_elim
    (λ (before : place < 127). let up : q.key < full.p.key =
    rises full.in_front place q front before in absurd (omega (arith, up, most)))
    (λ past. let last : place ≡ 127 = omega (arith, past, below) in record {
      last = block;
      is = omega (arith, is, last);
      trail = at_end block refl (omega arith) (subst (λ (n : ℕ). InFront image block n q) last front);
    })
    (cases_lt place 127)
none_last {image} {q = q} full blank top led less (on block target hop rest) =
    let same : hop.greatest.key ≡ _ = ap (λ (f : PostingFields). f.key) (one_place hop.full full.in_front)
    ∙ full.same in
    let within = subst (λ (n : ℕ). InSpan n hop.level hop.digit q.key) same hop.span in
    absurd (none-some hop.jump.cell (sym (blank q.key hop.level hop.digit (omega arith) less within) ∙ hop.jump.stands))

-- behind the greatest written pointer
pub record Passes (image : Image) (floor next block head at target high : ℕ) (q : PostingFields) : Type 0 where
  pub hop : Hop image floor next block q.key target
  pub trail : Trail image floor next at q target
  pub led : Leads image floor next target head
  pub below : q.key < high

pub passes : {image : Image} {floor next block head at l bound target : ℕ} {q : PostingFields} (s : Span) → IsSpan l s
    → HasFull image block l → HasPointer image block s.level s.digit target
    → BlankFrom image block l s.high bound → IsTop image floor next head q → Leads image floor next block head
    → q.key < bound → Trail image floor next at q block → Passes image floor next block head at target s.high q
passes {image} {floor} {next} {block} {head} {at} {l} {bound} {target} {q} s is full led blank top there less trail =
    let p = top.listed.pointers block s.level s.digit there is.levels is.some is.digits
    (record { found = led.cell; stands = led.stands }) in
    let same : p.target ≡ target = jump_target p.target target
    (one_record_holds image (pointer_at block s.level s.digit) (Jump p.target) (Jump target) p.jump led) in
    let keys : p.greatest.key ≡ l = ap (λ (f : PostingFields). f.key) (one_place p.is_full full.in_front) ∙ full.same in
    let within : InSpan l s.level s.digit p.some.key =
    subst (λ (n : ℕ). InSpan n s.level s.digit p.some.key) keys p.in_span in
    let led_there : Leads image floor next target head =
    leads_further there s.level s.digit target is.levels is.some is.digits led
    (omega (arith, same, p.inside_from)) (omega (arith, same, p.inside_to)) in
    let front : InFront image target p.place p.some =
    subst (λ (n : ℕ). InFront image n p.place p.some) same p.in_front in
    let most : p.some.key ≤ q.key = top.top target p.place p.some led_there p.in_places front in
    let past : l < p.some.key = spans.span_above within in
    go trail (omega (arith, within.low, is.low, most)) (omega (arith, past, most)) led_there
  where
    go : Trail image floor next at q block → s.low ≤ q.key → l < q.key → Leads image floor next target head
        → Passes image floor next block head at target s.high q
    go (here _ place at_is below front) low over led_there =
        let le : q.key ≤ full.p.key = rises_or_same front full.in_front (omega (arith, below)) in absurd
        (omega (arith, le, full.same, over))
    go (on _ next_block hop rest) low over led_there =
        let keys : hop.greatest.key ≡ l = ap (λ (f : PostingFields). f.key) (one_place hop.full full.in_front)
        ∙ full.same in
        let within : InSpan l hop.level hop.digit q.key =
        subst (λ (n : ℕ). InSpan n hop.level hop.digit q.key) keys hop.span in
        ⊎_elim
        (λ (inside : q.key < s.high).
        let mine : InSpan l s.level s.digit q.key =
        record {
          levels = is.levels;
          some = is.some;
          digits = is.digits;
          low = omega (arith, is.low, low);
          high =
              omega (arith, is.low, is.high, inside);
        } in
        let one = spans.apart l q.key hop.level hop.digit s.level s.digit within mine in
        let at_same : pointer_at block hop.level hop.digit ≡ pointer_at block s.level s.digit =
        omega (arith, one.0, one.1) in
        let t : next_block ≡ target = jump_target next_block target
        (one_record_holds image (pointer_at block s.level s.digit) (Jump next_block) (Jump target)
        (subst (λ (c : ℕ). Holds image c (Jump next_block)) at_same hop.jump) led) in
        record {
          hop = subst (λ (n : ℕ). Hop image floor next block q.key n) t hop;
          trail = subst (λ (n : ℕ). Trail image floor next at q n) t rest;
          led = led_there;
          below = inside;
        })
        (λ over_it. absurd (none-some hop.jump.cell
        (sym (blank q.key hop.level hop.digit over_it less within) ∙ hop.jump.stands)))
        (cases_lt q.key s.high)

-- a block with a blank place is the last
pub open_last : {image : Image} {floor next at block : ℕ} {q : PostingFields} (place : ℕ) → place < 128
    → image (block + place) ≡ None → Trail image floor next at q block
    → EndsTrailAt image floor next at q block block
open_last place small blank (here block at_place is below front) =
    record { place = at_place; is = is; trail = at_end block refl below front }
open_last {image} place small blank (on block target hop rest) =
    absurd (omega (arith, none_from_blank image block place 127 hop.greatest blank hop.full, small))

-- a trail that goes on behind a pointer ends where that ends
pub ends_behind : {image : Image} {floor next at block target last : ℕ} {q : PostingFields}
    → Hop image floor next block q.key target → EndsTrailAt image floor next at q last target
    → EndsTrailAt image floor next at q last block
ends_behind {block = block} {target = target} hop end =
    record { place = end.place; is = end.is; trail = through block target hop end.trail }

full_behind : {image : Image} {floor next at block target : ℕ} {q : PostingFields}
    → Hop image floor next block q.key target → EndsAtFull image floor next at q target
    → EndsAtFull image floor next at q block
full_behind {block = block} {target = target} hop end =
    record { last = end.last; is = end.is; trail = through block target hop end.trail }

-- a tail behind a pointer
pub tail_last_then : (floor next block target bound bound' l : ℕ) (s : Span) (old mid new : ViewState) → IsSpan l s
    → Viewed old mid → mid.base.foreign_writes ≤ new.base.foreign_writes
    → (IsTrue old.base.tells → HasFull old.image block l)
    → (IsTrue old.base.tells → HasPointer mid.image block s.level s.digit target)
    → (IsTrue old.base.tells → BlankFrom old.image block l s.high bound)
    → ((k : ℕ) → k < s.high → k < bound → k < bound') → (result : Result (Option Spot) Fault)
    → TailLast floor next target bound' mid new result → TailLast floor next block bound old new result
tail_last_then floor next block target bound bound' l s old mid new is viewed later full led blank narrow
    (Ok (Some spot)) last = λ tells still head at q top there less trail.
    let same : mid.image ≡ old.image = quiet_image viewed new.base.foreign_writes later still in
    let led_old : HasPointer old.image block s.level s.digit target =
    subst (λ (i : Image). HasPointer i block s.level s.digit target) same (led tells) in
    let h = passes s is (full tells) led_old (blank tells) top there less trail in
    let back = last (subst IsTrue (sym viewed.called.tells) tells)
    (still_second viewed.called.foreign_writes later still) head at q
    (subst (λ (i : Image). IsTop i floor next head q) (sym same) top)
    (subst (λ (i : Image). Leads i floor next target head) (sym same) h.led) (narrow q.key h.below less)
    (subst (λ (i : Image). Trail i floor next at q target) (sym same) h.trail) in
    ends_behind h.hop (subst (λ (i : Image). EndsTrailAt i floor next at q spot.block target) same back)
tail_last_then floor next block target bound bound' l s old mid new is viewed later full led blank narrow
    (Ok None) last = λ tells still head at q top there less trail.
    let same : mid.image ≡ old.image = quiet_image viewed new.base.foreign_writes later still in
    let led_old : HasPointer old.image block s.level s.digit target =
    subst (λ (i : Image). HasPointer i block s.level s.digit target) same (led tells) in
    let h = passes s is (full tells) led_old (blank tells) top there less trail in
    let back = last (subst IsTrue (sym viewed.called.tells) tells)
    (still_second viewed.called.foreign_writes later still) head at q
    (subst (λ (i : Image). IsTop i floor next head q) (sym same) top)
    (subst (λ (i : Image). Leads i floor next target head) (sym same) h.led) (narrow q.key h.below less)
    (subst (λ (i : Image). Trail i floor next at q target) (sym same) h.trail) in
    full_behind h.hop (subst (λ (i : Image). EndsAtFull i floor next at q target) same back)
tail_last_then floor next block target bound bound' l s old mid new is viewed later full led blank narrow
    (Err fault) last = tt

-- a key behind a full block with a blank pointer is below the pointer's span
pub below_span : {image : Image} {floor next block at l : ℕ} {q : PostingFields} (s : Span) (key : ℕ) → IsSpan l s
    → HasFull image block l → image (pointer_at block s.level s.digit) ≡ None → l < s.low
    → key < s.high → q.key < key → Trail image floor next at q block → q.key < s.low
below_span {image} {floor} {next} {block} {at} {l} {q} s key is full blank over top less
    (here _ place at_is below front) =
    let le : q.key ≤ full.p.key = rises_or_same front full.in_front (omega (arith, below)) in omega (
      arith,
      le,
      full.same,
      over,
    )
below_span {image} {floor} {next} {block} {at} {l} {q} s key is full blank over top less (on _ next_block hop rest) =
    let keys : hop.greatest.key ≡ l = ap (λ (f : PostingFields). f.key) (one_place hop.full full.in_front)
    ∙ full.same in
    let within : InSpan l hop.level hop.digit q.key =
    subst (λ (n : ℕ). InSpan n hop.level hop.digit q.key) keys hop.span in
    ⊎_elim
    (λ (low : q.key < s.low). low)
    (λ inside.
    let mine : InSpan l s.level s.digit q.key =
    record {
      levels = is.levels;
      some = is.some;
      digits = is.digits;
      low = omega (arith, is.low, inside);
      high =
          omega (arith, is.low, is.high, less, top);
    } in
    let one = spans.apart l q.key hop.level hop.digit s.level s.digit within mine in
    let at_same : pointer_at block hop.level hop.digit ≡ pointer_at block s.level s.digit =
    omega (arith, one.0, one.1) in
    absurd (none-some hop.jump.cell (sym blank ∙ ap image (sym at_same) ∙ hop.jump.stands)))
    (cases_lt q.key s.low)

low_over : (l : ℕ) (s : Span) → IsSpan l s → l < s.low
low_over l s is =
    let wide : 1 ≤ 16 ^ s.level = one-le-pow s.level 16 (omega arith) in
    let first : 1 * 16 ^ s.level ≤ s.digit * 16 ^ s.level = mul-le-mul_right (16 ^ s.level) is.some in
    omega (arith, is.low, wide, first)

-- what the tail search found is the last block, for keys up to the new one
pub is_last : (floor next block l key : ℕ) (s : Span) (spot : Spot) (old mid : ViewState) → IsSpan l s → key < s.high
    → HasFull old.image block l → old.image (pointer_at block s.level s.digit) ≡ None
    → IsTrue old.base.tells → IsStill old.base.foreign_writes mid.base.foreign_writes → mid.image ≡ old.image
    → TailLast floor next block s.low old mid (Ok (Some spot)) → IsLastBlock mid.image floor next block key spot.block
is_last floor next block l key s spot old mid is top full blank tells still same last =
    subst (λ (i : Image). IsLastBlock i floor next block key spot.block) (sym same)
    (λ head at q listed led less trail. last tells still head at q listed led
    (below_span s key is full blank (low_over l s is) top less trail) trail)

pub is_last_full : (floor next block l key : ℕ) (s : Span) (old mid : ViewState) → IsSpan l s → key < s.high
    → HasFull old.image block l → old.image (pointer_at block s.level s.digit) ≡ None
    → IsTrue old.base.tells → IsStill old.base.foreign_writes mid.base.foreign_writes → mid.image ≡ old.image
    → TailLast floor next block s.low old mid (Ok None) → IsLastFull mid.image floor next block key
is_last_full floor next block l key s old mid is top full blank tells still same last =
    subst (λ (i : Image). IsLastFull i floor next block key) (sym same)
    (λ head at q listed led less trail. last tells still head at q listed led
    (below_span s key is full blank (low_over l s is) top less trail) trail)
