-- How the listing of a trail's cells ends, over plain values.
use Rattle.std.proofs.Common.{◌≡◌, ◌<◌, ◌≤◌, ◌+◌, ◌^◌, ◌⊎◌, ℕ, List, Option, Some, None, Result, Ok, Err, false, refl, sym, subst, arith}
use Rattle.std.specs.Prelude.{IsTrue}
use Rattle.cell_types.specs.declared.refusal.Fault.{Fault}
use Rattle.cell_types.specs.declared.refusal.Fault.TheVariants as faults
use Rattle.volume_meaning.specs.Blocks.{PostingFields, InFront, Trail, pointer_at}
use Rattle.volume_meaning.proofs.Trails.{trail_on}
use Rattle.worm_device.specs.Views.{ViewState, Viewed}
use Rattle.worm_device.proofs.Resting.{viewed_then}
use Rattle.jump_block.specs.Entries.{posting_of}
use Rattle.jump_block.specs.Fronts.{FirstEnds}
use Rattle.jump_block.specs.Pointers.{ReadsPointer}
use Rattle.jump_block.specs.Pointing.{HasFull}
use Rattle.jump_block.specs.Spans.{IsSpan}
use Rattle.jump_block.specs.declared.held_entry.Entry.{Entry}
use Rattle.jump_block.specs.declared.known_front.Front.TheVariants.{At, Open, Full}
use Rattle.jump_block.specs.declared.spans.Span.{Span}
use Rattle.jump_block.proofs.Counting.{rose_later}
use Rattle.jump_block.proofs.Knowing.{key_on}
use Rattle.jump_index.proofs.Passing.{next_passes_none}
use Rattle.kept_documents.specs.Trails.{AsksBlock, HasTrailFrom}
use Rattle.kept_documents.specs.declared.fault.AskFault.{AskFault}
use Rattle.kept_documents.specs.declared.fault.AskFault.TheVariants.{NoMemory, ReadFault}
use Rattle.kept_documents.proofs.Leading as leading
use Rattle.receipt_cells.specs.Needed.{ListsJust}
use Rattle.receipt_cells.specs.Trails.{HopCells, IsGivenUp, ListsBlock, ListsTrail, TrailCells}
use Rattle.receipt_cells.specs.Written.{IsInRow, ListsCells, ListsWritten}
use Rattle.receipt_cells.proofs.Listing.{cells_then}
use Rattle.receipt_cells.proofs.Trailing.{IsLedOn, behind_just, here_just, led_on}

module _ (pool block low bound : ℕ) (p : PostingFields) (old mid : ViewState) (listed : List (ℕ × List ℕ)) where
  -- where the block leads to no posting there is nothing to list
  pub none_there : AsksBlock pool block p low bound old mid (Ok false)
      → ListsBlock pool block p low bound old mid listed listed (Ok _)
  none_there asks = record { viewed = asks.viewed; ends = λ tells t has. absurd (asks.ends tells t has) }

  module _ (viewed : Viewed old mid) where
    -- the front ends with an entry out of order
    pub at_fault : (fault : Fault) (result : Result Unit AskFault) → FirstEnds p.key block old mid (Err fault)
        → IsGivenUp fault result → ListsBlock pool block p low bound old mid listed listed result
    at_fault faults.Failed (Ok u) ends says = absurd says
    at_fault faults.Failed (Err ReadFault) ends says = record { viewed = viewed; ends = ends }
    at_fault faults.Failed (Err (NoMemory lack)) ends says = absurd says
    at_fault (faults.Tampered e) (Err why) ends says = absurd says
    at_fault (faults.Tampered e) (Ok u) ends says =
        none_there (leading.at_fault pool block low bound p old mid viewed (faults.Tampered e) (Ok false) ends refl)

    -- with a blank place
    pub at_blank : (n : ℕ) (greatest : Option ℕ) → FirstEnds p.key block old mid (Ok (Open n greatest))
        → ListsBlock pool block p low bound old mid listed listed (Ok _)
    at_blank n greatest ends = none_there (leading.at_blank pool block low bound p old mid viewed n greatest ends)

    -- the block is full, with no key of the span
    pub at_low : (l : ℕ) → FirstEnds p.key block old mid (Ok (Full l)) → l < low
        → ListsBlock pool block p low bound old mid listed listed (Ok _)
    at_low l ends less = none_there (leading.at_low pool block low bound p old mid viewed l ends less)

    told : IsTrue old.base.tells → IsTrue mid.base.tells
    told tells = subst IsTrue (sym viewed.called.tells) tells

    -- a trail of before, over the cells of before
    pub later : (next : ViewState) → Viewed old next → (t : HasTrailFrom pool old block p)
        → Trail next.image pool old.cells t.0 p block
    later next v t = trail_on v.image t.1

    -- the front has a key at or past the posting's: it is the posting, and its places up to there were listed
    pub at_entry : (e : Entry) (new : ViewState) (list : List (ℕ × List ℕ)) (result : Result Unit AskFault)
        → FirstEnds p.key block old mid (Ok (At e))
        → ListsCells (IsInRow e.block (e.block + e.place + 1)) mid new listed list result
        → ListsBlock pool block p low bound old new listed list result
    at_entry e new list (Err ReadFault) ends lists = record {
      viewed = viewed_then viewed lists.viewed;
      ends = rose_later _ _ _ viewed.called.faults lists.ends;
    }
    at_entry e new list (Err (NoMemory lack)) ends lists = record { viewed = viewed_then viewed lists.viewed; ends = tt }
    at_entry e new list (Ok u) ends lists = record {
      viewed = viewed_then viewed lists.viewed;
      ends = λ tells t has.
          let found = ends.4 tells in
          let now = later mid viewed t in
          let h = next_passes_none mid.image block e.place p.key found.1 pool old.cells t.0 (posting_of e) p found.0
          ends.1 ends.2 now (omega arith) in
          let front : InFront mid.image block e.place p =
          subst (λ (q : PostingFields). InFront mid.image block e.place q) (sym (h.1 refl).1) found.0 in
          here_just lists.viewed.image e.place ends.1 front
          (subst (λ (b : ℕ). ListsWritten (IsInRow b (b + e.place + 1)) mid.image new.image listed list) ends.0
          (lists.ends (told tells)));
    }

  -- the block leads on to the target, which was asked, and then its own cells were listed
  module _ (l : ℕ) (s : Span) (target : ℕ) (is : IsSpan l s) (from : s.low ≤ p.key) (below : p.key < s.high)
      (viewed : Viewed old mid) (full : IsTrue old.base.tells → HasFull mid.image block l) where
    told_mid : IsTrue old.base.tells → IsTrue mid.base.tells
    told_mid tells = subst IsTrue (sym viewed.called.tells) tells

    nothing : {next : ViewState} → AsksBlock pool block p low bound old next (Ok false)
        → ListsBlock pool block p low bound old next listed listed (Ok _)
    nothing asks = record { viewed = asks.viewed; ends = λ tells t has. absurd (asks.ends tells t has) }

    -- the pointer is no jump cell
    pub lost_pointer : (next : ViewState) (fault : Fault) (result : Result Unit AskFault)
        → ReadsPointer (pointer_at block s.level s.digit) mid next (Err fault) → IsGivenUp fault result
        → ListsBlock pool block p low bound old next listed listed result
    lost_pointer next faults.Failed (Ok u) read says = absurd says
    lost_pointer next faults.Failed (Err ReadFault) read says = record {
      viewed = viewed_then viewed read.viewed;
      ends = rose_later _ _ _ viewed.called.faults read.ends;
    }
    lost_pointer next faults.Failed (Err (NoMemory lack)) read says = absurd says
    lost_pointer next (faults.Tampered e) (Err why) read says = absurd says
    lost_pointer next (faults.Tampered e) (Ok u) read says = nothing (leading.lost_pointer pool block low bound p old mid
        viewed next l s is from below full (faults.Tampered e) (Ok false) read refl)

    -- it is blank
    pub no_pointer : (next : ViewState) → ReadsPointer (pointer_at block s.level s.digit) mid next (Ok None)
        → ListsBlock pool block p low bound old next listed listed (Ok _)
    no_pointer next read =
        nothing (leading.no_pointer pool block low bound p old mid viewed next l s is from below full read)

    module _ (next : ViewState) (read : ReadsPointer (pointer_at block s.level s.digit) mid next (Ok (Some target))) where
      so_far : Viewed old next
      so_far = viewed_then viewed read.viewed

      led : (tells : IsTrue old.base.tells) (t : HasTrailFrom pool old block p)
          → IsLedOn next.image pool old.cells t.0 p block s target
      led tells t = led_on next.image pool old.cells t.0 l block p s target (key_on read.viewed.image (full tells)) is
          from below (read.ends (told_mid tells)) (later viewed next so_far t)

      -- its target is no block of the pool
      pub leads_out : (target < pool) ⊎ (next.cells < target + 256)
          → ListsBlock pool block p low bound old next listed listed (Ok _)
      leads_out out = nothing
          (leading.leads_out pool block low bound p old mid viewed next l s is from below full target read out)

      told_next : IsTrue old.base.tells → IsTrue next.base.tells
      told_next tells = subst IsTrue (sym so_far.called.tells) tells

      module _ (asked : ViewState) (between : List (ℕ × List ℕ)) where
        -- without the cells behind it there is nothing
        pub target_fails : (why : AskFault) → ListsBlock pool target p s.low s.high next asked listed between (Err why)
            → ListsBlock pool block p low bound old asked listed between (Err why)
        target_fails ReadFault lists = record {
          viewed = viewed_then so_far lists.viewed;
          ends = rose_later _ _ _ so_far.called.faults lists.ends;
        }
        target_fails (NoMemory lack) lists = record { viewed = viewed_then so_far lists.viewed; ends = tt }

        module _ (lists : ListsBlock pool target p s.low s.high next asked listed between (Ok _)) (new : ViewState)
            (list : List (ℕ × List ℕ)) where
          to_target : Viewed old asked
          to_target = viewed_then so_far lists.viewed

          -- the cells behind it were listed, and then its own
          pub leads_on : (result : Result Unit AskFault)
              → ListsCells (HopCells block s.level s.digit) asked new between list result
              → ListsBlock pool block p low bound old new listed list result
          leads_on (Err ReadFault) hop = record {
            viewed = viewed_then to_target hop.viewed;
            ends = rose_later _ _ _ to_target.called.faults hop.ends;
          }
          leads_on (Err (NoMemory lack)) hop = record { viewed = viewed_then to_target hop.viewed; ends = tt }
          leads_on (Ok u) hop = record {
            viewed = viewed_then to_target hop.viewed;
            ends = λ tells t has.
                let on = led tells t in
                let rest : HasTrailFrom pool next target p =
                (t.0, subst (λ (n : ℕ). Trail next.image pool n t.0 p target) (sym so_far.cells) on.rest) in
                let behind = lists.ends (told_next tells) rest on.has in
                behind_just lists.viewed.image hop.viewed.image on
                (subst (λ (n : ℕ). ListsJust (TrailCells pool n asked.image target p) asked.image listed between)
                so_far.cells behind)
                (hop.ends (subst IsTrue (sym to_target.called.tells) tells));
          }

-- of a list's first block a trail alone is asked
pub from_head : (pool head : ℕ) (p : PostingFields) (old new : ViewState) (listed list : List (ℕ × List ℕ))
    (result : Result Unit AskFault) → ListsBlock pool head p 0 (2 ^ 32) old new listed list result
    → ListsTrail pool head p old new listed list result
from_head pool head p old new listed list (Ok u) lists = record {
  viewed = lists.viewed;
  ends = λ tells t. lists.ends tells t (leading.trail_has_key t.1);
}
from_head pool head p old new listed list (Err ReadFault) lists = record { viewed = lists.viewed; ends = lists.ends }
from_head pool head p old new listed list (Err (NoMemory lack)) lists = record { viewed = lists.viewed; ends = tt }

-- the front's cells of a block that leads on were listed, and then the jump cell
pub hop_listed : (block level digit places at : ℕ) (old mid new : ViewState) (listed between list : List (ℕ × List ℕ))
    (result : Result Unit AskFault) → places ≡ 128 → at ≡ pointer_at block level digit
    → ListsCells (IsInRow block (block + places)) old mid listed between (Ok _)
    → ListsCells (λ c. c ≡ at) mid new between list result
    → ListsCells (HopCells block level digit) old new listed list result
hop_listed block level digit places at old mid new listed between list result all is row jump =
    cells_then result
    (subst (λ (n : ℕ). ListsCells (IsInRow block (block + n)) old mid listed between (Ok _)) all row)
    (subst (λ (n : ℕ). ListsCells (λ c. c ≡ n) mid new between list result) is jump)
