-- What an insertion adds where nobody else writes.
use Rattle.std.proofs.Common.{◌≡◌, ◌<◌, ◌≤◌, ◌+◌, ℕ, Option, Some, None, Result, Ok, Err, refl, ap, sym, subst, arith, ◌∙◌}
use Rattle.std.specs.Prelude.{IsTrue}
use Rattle.cell_types.specs.Image.{Image}
use Rattle.volume_meaning.specs.Blocks.{PostingFields, posting_record, InSpan, Leads, pointer_at}
use Rattle.worm_device.specs.Counts.{IsStill}
use Rattle.worm_device.specs.State.{DeviceState}
use Rattle.worm_device.specs.Views.{ViewState, Viewed, IsView}
use Rattle.worm_device.specs.declared.owner.Owner.{Owner}
use Rattle.worm_device.proofs.Counting.{still_first, still_second}
use Rattle.jump_block.specs.Fronts.{FirstEnds}
use Rattle.jump_block.specs.Spans.{IsSpan}
use Rattle.jump_block.specs.declared.known_front.Front.TheVariants.{Open}
use Rattle.jump_block.specs.declared.spans.Span.{Span}
use Rattle.jump_block.proofs.Knowing.{key_on}
use Rattle.jump_block.specs.Pointing.{HasFull, HasPointer}
use Rattle.cell_pool.specs.declared.fault.GrowthFault.{GrowthFault}
use Rattle.cell_pool.specs.declared.pool.Pool.{Pool}
use Rattle.jump_insertion.specs.Growing.{LeadsOnBy, ends, hops, PutsTwo, Grows, in_block, in_tail, in_new_block, IsLastBlock, IsLastFull}
use Rattle.jump_insertion.specs.Placing.{GrowEnds}
use Rattle.jump_insertion.specs.Planning.{PutsRecord}
use Rattle.jump_insertion.specs.declared.entries.Spot.{Spot}
use Rattle.jump_insertion.specs.Steps.{GrowsFrom, PutsWithPointer}
use Rattle.jump_insertion.specs.UnderWay.{IsHome}
use Rattle.jump_insertion.specs.declared.entries.Home.{Home}
use Rattle.jump_insertion.specs.declared.entries.Insertion.{Insertion}
use Rattle.jump_insertion.proofs.Placing.{IsTarget, span_holds, spot_differs}
use Rattle.jump_insertion.proofs.Showing.{quiet_image}

count_of : (a b : DeviceState) → b ≡ a → a.foreign_writes ≤ b.foreign_writes
count_of a b same =
    let h : b.foreign_writes ≡ a.foreign_writes = ap (λ (s : DeviceState). s.foreign_writes) same in omega (arith, h)

-- the posting goes to a blank place of the block
pub grows_open : (floor next block place : ℕ) (greatest : Option ℕ) (p : PostingFields) (old mid new : ViewState)
    (owner : Owner)
    → Viewed old mid → FirstEnds p.key block old mid (Ok (Open place greatest))
    → PutsRecord (block + place) (posting_record p) owner mid new (Ok tt)
    → GrowEnds floor next next block p old new (Ok (Some (record { block = block; place = place })))
grows_open floor next block place greatest p old mid new owner viewed read put = λ tells still.
    let open_ = read.1 tells in
    let same : mid.image ≡ old.image = quiet_image viewed new.base.foreign_writes
    (count_of mid.base new.base put.base) still in
    let P : Image → Type 0 = λ i. Grows i new.image floor next next block p 1 in (
      1,
      subst P same (in_block block place (ends block refl) read.0
          (record { was = open_.0; others = λ c differ. (put.others c differ).0 })
          put.ends.shown open_.1.last refl refl),
    )

-- the posting goes to another block, to which the pointer leads now
pub grows_both : (pool : Pool) (i : Insertion) (full : Home) (to cost : ℕ) (old mid new : ViewState) (spot : Spot)
    (sees : IsView old) → IsHome old pool i full → IsTarget mid i pool.next to full.visit.block spot → Viewed old mid
    → (IsTrue old.base.tells → mid.image ≡ old.image → IsStill old.base.foreign_writes mid.base.foreign_writes
    → PutsTwo mid.image new.image full.visit.block spot.block spot.place i.entry
    → Grows mid.image new.image i.list.floor pool.next to full.visit.block i.entry cost)
    → (result : Result (Option Spot) GrowthFault) → PutsWithPointer i full spot mid new result
    → GrowsFrom i full.visit pool.next to old new result
grows_both pool i full to cost old mid new spot sees home target viewed grown (Ok (Some found)) both = λ tells still.
    let two = both.ends.1 in
    let there = target.told (subst IsTrue (sym viewed.called.tells) tells) in
    let full_mid = key_on viewed.image (home.full tells) in
    let same : mid.image ≡ old.image = quiet_image viewed new.base.foreign_writes
    (count_of mid.base new.base both.base) still in
    let P : Image → Type 0 = λ x.
    Grows x new.image i.list.floor pool.next to full.visit.block i.entry cost in
    let S : ℕ → Type 0 = λ n. InSpan n full.to.level full.to.digit i.entry.key in
    let pointer : ℕ = pointer_at full.visit.block full.to.level full.to.digit in
    let puts : PutsTwo mid.image new.image full.visit.block spot.block spot.place i.entry = record {
      mid = two.mid.image;
      level = full.to.level;
      digit = full.to.digit;
      greatest = full_mid.p;
      full = full_mid.in_front;
      span = subst S (sym full_mid.same) (span_holds home.span home.from home.below);
      in_places = target.in_places;
      adds = record { was = there.blank; others = λ c differ. (two.posting.others c differ).0 };
      posting = two.posting.ends.shown;
      rises = there.rises;
      adds_jump = record {
        was = (two.posting.others pointer
            (λ e. spot_differs pool i full to old mid new spot sees home target viewed tells (sym e))).0
            ∙ ap (λ (f : Image). f pointer) same ∙ home.blank tells;
        others = λ c differ. (two.jump.others c differ).0;
      };
      jump = two.jump.ends.shown;
    } in (
      cost,
      subst P same (grown tells same (still_first viewed.called.foreign_writes
          (count_of mid.base new.base both.base) still) puts),
    )
grows_both pool i full to cost old mid new spot sees home target viewed grown (Ok None) both = tt
grows_both pool i full to cost old mid new spot sees home target viewed grown (Err fault) both = tt

-- the tail has a blank place
pub grown_in_tail : (floor next block : ℕ) (p : PostingFields) (mid new : ViewState) (spot : Spot)
    → Leads mid.image floor next spot.block block → floor ≤ spot.block → spot.block + 256 ≤ next
    → IsLastBlock mid.image floor next block p.key spot.block
    → PutsTwo mid.image new.image block spot.block spot.place p → Grows mid.image new.image floor next next block p 2
grown_in_tail floor next block p mid new spot led from to last puts =
    in_tail block spot.block spot.place (ends block refl) puts led from to last refl refl

-- the new block is the pool's next one
pub grown_in_new : (floor next to block target : ℕ) (p : PostingFields) (mid new : ViewState) → target ≡ next
    → to ≡ next + 256
    → ((c : ℕ) → next ≤ c → mid.image c ≡ None) → IsLastFull mid.image floor next block p.key
    → PutsTwo mid.image new.image block target 0 p → Grows mid.image new.image floor next to block p 258
grown_in_new floor next to block target p mid new first more blank last puts =
    let P : ℕ → Type 0 = λ n. PutsTwo mid.image new.image block n 0 p in
    in_new_block block (ends block refl) (subst P first puts) blank last more refl

-- an insertion after reads
pub grow_then : (floor next to block : ℕ) (p : PostingFields) (old mid new : ViewState) → Viewed old mid
    → mid.base.foreign_writes ≤ new.base.foreign_writes → (result : Result (Option Spot) GrowthFault)
    → GrowEnds floor next to block p mid new result → GrowEnds floor next to block p old new result
grow_then floor next to block p old mid new viewed later (Ok (Some at)) grown = λ tells still.
    let g = grown (subst IsTrue (sym viewed.called.tells) tells)
    (still_second viewed.called.foreign_writes later still) in
    let same : mid.image ≡ old.image = quiet_image viewed new.base.foreign_writes later still in
    let P : Image → Type 0 = λ i. Grows i new.image floor next to block p g.0 in
    (g.0, subst P same g.1)
grow_then floor next to block p old mid new viewed later (Ok None) grown = tt
grow_then floor next to block p old mid new viewed later (Err fault) grown = tt

grows_hop : {old new : Image} {floor next to block target : ℕ} {p : PostingFields} {cost : ℕ}
    → LeadsOnBy old floor next block p.key target → Grows old new floor next to target p cost
    → Grows old new floor next to block p cost
grows_hop {block = block} {target = target} step (in_block last place walk below adds holds rises same cost_is) =
    in_block last place (hops block target step walk) below adds holds rises same cost_is
grows_hop {block = block} {target = target} step (in_tail home at place walk puts led from below last same cost_is) =
    in_tail home at place (hops block target step walk) puts led from below last same cost_is
grows_hop {block = block} {target = target} step (in_new_block home walk puts blank last same cost_is) =
    in_new_block home (hops block target step walk) puts blank last same cost_is

-- an insertion behind a block
pub grow_behind : (floor next to block l target : ℕ) (p : PostingFields) (s : Span) (old mid new : ViewState)
    (spot : Spot)
    → IsSpan l s → s.low ≤ p.key → p.key < s.high → floor ≤ target → target + 256 ≤ next → Viewed old mid
    → mid.base.foreign_writes ≤ new.base.foreign_writes → (IsTrue old.base.tells → HasFull mid.image block l)
    → (IsTrue old.base.tells → HasPointer mid.image block s.level s.digit target)
    → GrowEnds floor next to target p mid new (Ok (Some spot)) → GrowEnds floor next to block p old new (Ok (Some spot))
grow_behind floor next to block l target p s old mid new spot is span_from span_to from below viewed later full led
    grown = λ tells still.
    let g = grown (subst IsTrue (sym viewed.called.tells) tells)
    (still_second viewed.called.foreign_writes later still) in
    let same : mid.image ≡ old.image = quiet_image viewed new.base.foreign_writes later still in
    let P : Image → Type 0 = λ i. Grows i new.image floor next to block p g.0 in
    let S : ℕ → Type 0 = λ n. InSpan n s.level s.digit p.key in
    let f = full tells in
    let step : LeadsOnBy mid.image floor next block p.key target = record {
      greatest = f.p;
      full = f.in_front;
      level = s.level;
      digit = s.digit;
      span = subst S (sym f.same) (span_holds is span_from span_to);
      jump = led tells;
      inside_from = from;
      inside_to = below;
    } in
    (g.0, subst P same (grows_hop step g.1))
