-- Posting after posting of the time list: up to which stamp the span is answered for.
use Rattle.std.proofs.Common.{◌≡◌, ◌<◌, ◌≤◌, ◌+◌, ◌-◌, ◌^◌, ◌++◌, ℕ, List, [], ◌∷◌, Option, Some, None, Ok, Err, refl, sym, ap, ⊎_elim, subst, arith, ◌∙◌}
use Rattle.std.specs.Global.{Vec}
use Rattle.std.specs.Prelude.{Contains, IfSome, IsTrue}
use Rattle.std.proofs.lemmas.Bool.{cases_lt}
use Rattle.std.proofs.lemmas.List.{length-append}
use Rattle.std.proofs.lemmas.List.Elements.{Contains-append_left, Contains-append_right, Contains-push, Contains-push_cases}
use Rattle.cell_types.specs.Image.{Extends, Image}
use Rattle.cell_types.specs.Layout.{Layout}
use Rattle.cell_types.specs.Refusals.{refusal_of_fault}
use Rattle.cell_types.specs.declared.refusal.Fault.{Fault}
use Rattle.cell_types.specs.declared.refusal.Fault.TheVariants as faults
use Rattle.cell_types.specs.declared.refusal.Refusal.{Refusal}
use Rattle.cell_types.specs.declared.refusal.Refusal.TheVariants as refusals
use Rattle.volume_meaning.specs.Blocks.{PostingFields}
use Rattle.volume_meaning.specs.Postings.{time_posting}
use Rattle.volume_meaning.proofs.Extending.{holds_on}
use Rattle.worm_device.specs.Views.{ViewState, Viewed}
use Rattle.worm_device.proofs.Resting.{viewed_self, viewed_then}
use Rattle.document_store.proofs.Holding.{held_on}
use Rattle.jump_block.specs.Entries.{posting_of}
use Rattle.jump_block.specs.declared.held_entry.Entry.{Entry}
use Rattle.jump_index.proofs.LookingLater.{trail_then}
use Rattle.jump_index.proofs.Telling.{told}
use Rattle.posting_list.specs.Searches.{head_of}
use Rattle.posting_list.specs.declared.reach.Reach.{Reach}
use Rattle.time_index.specs.Gathering.{AreTimeMatches, GatherTimesEnds, GathersTimes, IsBehind, IsLastMatch, IsSlotUpTo, SpanGathered, SpanSoFar, unanswered}
use Rattle.time_index.specs.Matching.{IsEarlier, IsMatchOf, IsTimeMatchIn, MatchTimeEnds, ReadsMatch, TimeFault, cells_of}
use Rattle.time_index.specs.Postings.{IsTimed, NextPosting, slot_named}
use Rattle.time_index.specs.Spans.{SlotsRise, TellsSlot, all_cells_of}
use Rattle.time_index.specs.declared.found.TimeMatch.{TimeMatch}
use Rattle.time_index.specs.declared.matching.Stamped.{Stamped}
use Rattle.time_index.proofs.Parts.{of_lists, slot_of_time, time_later}

-- a match goes on telling of what stands
match_on : {g : Layout} {old new : Image} {m : TimeMatch} → Extends old new → IsTimeMatchIn g old m → IsTimeMatchIn g new m
match_on grows is = record {
  body = is.body;
  holds = held_on grows is.holds;
  bytes_is = is.bytes_is;
  stamp = holds_on grows is.stamp;
}

-- one more match behind the others
rises_on : (matches : List TimeMatch) (one : TimeMatch) (from : ℕ) → SlotsRise from matches
    → ((m : TimeMatch) → Contains matches m → m.slot < one.slot) → from ≤ one.slot → SlotsRise from (matches ++ one ∷ [])
rises_on [] one from rise below low = (low, tt)
rises_on (m ∷ matches) one from rise below low = (
  rise.0,
  rises_on matches one (m.slot + 1) rise.1 (λ n among. below n (Contains-append_right (m ∷ []) matches n among))
      (omega (arith, below m (0, omega arith, refl))),
)

-- its cells count, too
cells_on : (matches : List TimeMatch) (one : TimeMatch)
    → all_cells_of (matches ++ one ∷ []) ≡ all_cells_of matches + cells_of one
cells_on [] one = omega arith
cells_on (m ∷ matches) one = omega (arith, cells_on matches one)

module _ (r : Reach) (from to : ℕ) where
  -- nothing was asked for yet
  pub none_asked : (s : ViewState) → from ≤ to → SpanSoFar r from to (Some from) s s [] None
  none_asked s order = record {
    viewed = viewed_self s;
    reads = omega arith;
    next_is = (omega arith, order);
    all = λ tells at n seconds small timed past below. absurd (omega (arith, past, below));
    only = λ tells m among. absurd (omega (arith, among.1));
    rise = λ tells. tt;
    up_to = λ tells m among. absurd (omega (arith, among.1));
    last_is = tt;
  }

  -- the whole span is answered for
  pub all_answered : {old now : ViewState} (matches : Vec TimeMatch) (last : Option Stamped)
      → SpanSoFar r from to None old now matches.items last → GathersTimes r from to old now (Ok matches)
  all_answered matches last so = record {
    viewed = so.viewed;
    ends = record { all = so.all; only = so.only; rise = so.rise; reads = omega (arith, so.reads) };
  }

  module _ {old now : ViewState} (key : ℕ) (matches : List TimeMatch) (last : Option Stamped)
      (so : SpanSoFar r from to (Some key) old now matches last) where
    on_now : (at : ℕ) (p : PostingFields) → IsTimed r old at p → IsTimed r now at p
    on_now at p timed = trail_then r.bounds (head_of r r.volume.geometry.lists) at p old now so.viewed timed

    only_on : {new : ViewState} → Viewed now new → IsTrue old.base.tells → AreTimeMatches r new from to matches
    only_on after tells m among = let was = so.only tells m among in (match_on after.image was.0, was.1, was.2, was.3)

    -- the postings could not be searched
    pub search_fails : {mid : ViewState} (fault : Fault) → NextPosting r key to now mid (Err fault)
        → GathersTimes r from to old mid (Err (refusal_of_fault fault))
    search_fails {mid} fault next = record {
      viewed = viewed_then so.viewed next.viewed;
      ends = refused fault (time_later r old now mid so.viewed next.viewed fault
          (of_lists r now mid next.viewed fault next.ends));
    }
      where
        refused : (fault : Fault) → TimeFault r old mid fault → GatherTimesEnds r from to old mid (Err (refusal_of_fault fault))
        refused faults.Failed fails = fails
        refused (faults.Tampered e) fails = fails

    -- there is no posting more
    pub none_left : {mid : ViewState} (found : Vec TimeMatch) → found.items ≡ matches
        → NextPosting r key to now mid (Ok None) → mid.base.reads ≤ now.base.reads + 8192
        → GathersTimes r from to old mid (Ok found)
    none_left {mid} found same next costs = record {
      viewed = viewed_then so.viewed next.viewed;
      ends = subst (SpanGathered r from to old mid) (sym same) (record {
        all = λ tells at n seconds small timed past below. ⊎_elim
            (λ (before : seconds < key). so.all tells at n seconds small timed past before)
            (λ (behind : key ≤ seconds). absurd (next.ends (told so.viewed tells) at (time_posting n seconds)
            (on_now at (time_posting n seconds) timed) behind (omega (arith, below))))
            (cases_lt seconds key);
        only = only_on next.viewed;
        rise = so.rise;
        reads = omega (arith, costs, so.reads);
      });
    }

    module _ {mid : ViewState} (e : Entry) (next : NextPosting r key to now mid (Ok (Some e))) where
      -- the last match is an earlier one
      pub earlier : IfSome last (IsEarlier r.volume.geometry mid e.key)
      earlier = by_last last so.last_is
        where
          by_last : (l : Option Stamped) → IfSome l (IsLastMatch r now key)
              → IfSome l (IsEarlier r.volume.geometry mid e.key)
          by_last None is = tt
          by_last (Some l) is = record {
            slot = is.slot;
            less = omega (arith, is.less, next.ends.from_is);
            stamp = λ tells. holds_on next.viewed.image (is.stamp (subst IsTrue next.viewed.called.tells tells));
          }

      -- its document was not read
      pub match_fails : {new : ViewState} (refusal : Refusal) → ReadsMatch r e last mid new (Err refusal)
          → GathersTimes r from to old new (Err refusal)
      match_fails {new} refusal reads = record {
        viewed = viewed_then (viewed_then so.viewed next.viewed) reads.viewed;
        ends = since refusal reads.ends;
      }
        where
          since : (refusal : Refusal) → MatchTimeEnds r e last mid new (Err refusal)
              → GatherTimesEnds r from to old new (Err refusal)
          since refusals.DeviceFault fails = time_later r old mid new (viewed_then so.viewed next.viewed) reads.viewed
              faults.Failed fails
          since (refusals.Tampered f) fails = time_later r old mid new (viewed_then so.viewed next.viewed) reads.viewed
              (faults.Tampered f) fails
          since refusals.NoMemory fails = λ tells. let w = fails (told next.viewed (told so.viewed tells)) in record {
            wanted = w.wanted;
            is = w.is;
            below = w.below;
            from_is = omega (arith, w.from_is, next.ends.from_is, so.next_is.0);
            to_is = omega (arith, w.to_is, next.ends.to_is);
          }
          since refusal fails = absurd fails

      module _ {new : ViewState} (m : TimeMatch) (reads : ReadsMatch r e last mid new (Ok m)) where
        is : IsMatchOf r e last mid new m
        is = reads.ends

        told_mid : IsTrue old.base.tells → IsTrue mid.base.tells
        told_mid tells = told next.viewed (told so.viewed tells)

        -- no memory was to be had for one more
        pub not_kept : GathersTimes r from to old new (Err refusals.NoMemory)
        not_kept = record {
          viewed = viewed_then (viewed_then so.viewed next.viewed) reads.viewed;
          ends = λ tells. record {
            wanted = m;
            is = is.is (told_mid tells);
            below = is.below;
            from_is = omega (arith, is.seconds, next.ends.from_is, so.next_is.0);
            to_is = omega (arith, is.seconds, next.ends.to_is);
          };
        }

        old_slot : {n seconds : ℕ} → TellsSlot matches n seconds → TellsSlot (matches ++ m ∷ []) n seconds
        old_slot has = record {
          found = has.found;
          among = Contains-append_left matches (m ∷ []) has.found has.among;
          slot_is = has.slot_is;
          seconds_is = has.seconds_is;
        }

        -- the posting of this stamp is the one that was read
        its_slot : IsTrue old.base.tells → (at n seconds : ℕ) → n < 2 ^ 32 → IsTimed r old at (time_posting n seconds)
            → key ≤ seconds → seconds ≤ e.key → TellsSlot (matches ++ m ∷ []) n seconds
        its_slot tells at n seconds small timed past upto =
            let first = next.ends.first (told so.viewed tells) at (time_posting n seconds)
            (on_now at (time_posting n seconds) timed) past in
            let same : seconds ≡ e.key = omega (arith, first.0, upto) in
            let posting : time_posting n seconds ≡ posting_of e = first.1 same in
            record {
              found = m;
              among = Contains-push matches m;
              slot_is = is.slot_is ∙ sym (ap slot_named posting) ∙ slot_of_time n seconds small;
              seconds_is = is.seconds ∙ sym same;
            }

        module _ (behind : Option ℕ) (goes_on : IsBehind e.key to behind) where
          up_to_key : (b : Option ℕ) → IsBehind e.key to b → (seconds : ℕ) → seconds < unanswered b to → seconds ≤ e.key
          up_to_key None goes seconds below = omega (arith, below, goes)
          up_to_key (Some k) goes seconds below = omega (arith, below, goes.0)

          past_key : (b : Option ℕ) → IsBehind e.key to b → e.key < unanswered b to
          past_key None goes = omega (arith, next.ends.to_is)
          past_key (Some k) goes = omega (arith, goes.0)

          next_in : (b : Option ℕ) → IsBehind e.key to b → IfSome b (λ k. (from ≤ k) × (k ≤ to))
          next_in None goes = tt
          next_in (Some k) goes = (
            omega (arith, goes.0, next.ends.from_is, so.next_is.0),
            omega (arith, goes.0, goes.1),
          )

          below_slot : IsTrue old.base.tells → (o : TimeMatch) → Contains matches o → o.slot < m.slot
          below_slot tells o among = by_last last (so.up_to tells o among) (is.later (told_mid tells))
            where
              by_last : (l : Option Stamped) → IsSlotUpTo l o → IfSome l (λ b. b.slot < m.slot) → o.slot < m.slot
              by_last None none later = absurd none
              by_last (Some l) upto later = omega (arith, upto, later)

          pub one_more : mid.base.reads ≤ now.base.reads + 8192
              → SpanSoFar r from to behind old new (matches ++ m ∷ []) (Some (record { slot = m.slot; seconds = m.seconds }))
          one_more costs = record {
            viewed = viewed_then (viewed_then so.viewed next.viewed) reads.viewed;
            reads = omega (arith, costs, so.reads, is.reads, length-append matches (m ∷ []), cells_on matches m);
            next_is = next_in behind goes_on;
            all = λ tells at n seconds small timed past below. ⊎_elim
                (λ (before : seconds < key). old_slot (so.all tells at n seconds small timed past before))
                (λ (after : key ≤ seconds). its_slot tells at n seconds small timed after
                (up_to_key behind goes_on seconds below))
                (cases_lt seconds key);
            only = λ tells o among. ⊎_elim
                (λ (before : Contains matches o). only_on (viewed_then next.viewed reads.viewed) tells o before)
                (λ (here : m ≡ o). subst
                (λ (x : TimeMatch). IsTimeMatchIn r.volume.geometry new.image x × (from ≤ x.seconds) × (x.seconds ≤ to)
                × (x.slot < r.horizon)) here (
                  is.is (told_mid tells),
                  omega (arith, is.seconds, next.ends.from_is, so.next_is.0),
                  omega (arith, is.seconds, next.ends.to_is),
                  is.below,
                ))
                (Contains-push_cases matches m o among);
            rise = λ tells. rises_on matches m 0 (so.rise tells) (below_slot tells) (omega arith);
            up_to = λ tells o among. ⊎_elim
                (λ (before : Contains matches o). omega (arith, below_slot tells o before))
                (λ (here : m ≡ o). subst (λ (x : TimeMatch). x.slot ≤ m.slot) here (omega arith))
                (Contains-push_cases matches m o among);
            last_is = record {
              slot = is.slot;
              less = omega (arith, is.seconds, past_key behind goes_on);
              stamp = λ tells. (is.is (subst IsTrue (reads.viewed.called.tells) tells)).stamp;
            };
          }

          -- fewer stamps are left
          pub less_left : to + 1 - unanswered behind to < to + 1 - key
          less_left = omega (arith, past_key behind goes_on, next.ends.from_is, so.next_is.1)
