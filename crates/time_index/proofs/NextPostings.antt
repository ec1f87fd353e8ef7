-- The next posting of the time list, by a search for its stamp and one more for this very stamp.
use Rattle.std.proofs.Common.{◌≡◌, ◌<◌, ◌≤◌, ℕ, Option, Some, None, Ok, Err, sym, ap, ⊎_elim, subst, arith, ◌∙◌}
use Rattle.std.specs.Prelude.{IsTrue}
use Rattle.cell_types.specs.Layout.{TakesStamps, all_lists}
use Rattle.cell_types.specs.declared.refusal.Fault.{Fault}
use Rattle.volume_meaning.specs.Blocks.{PostingFields}
use Rattle.worm_device.specs.Views.{ViewState, Viewed}
use Rattle.worm_device.proofs.Resting.{viewed_then}
use Rattle.jump_block.specs.declared.held_entry.Entry.{Entry}
use Rattle.jump_index.specs.Searches.{FindsGeq}
use Rattle.jump_index.proofs.LookingLater.{entry_then, trail_then}
use Rattle.jump_index.proofs.Telling.{told}
use Rattle.posting_list.specs.Searches.{head_of, within}
use Rattle.posting_list.specs.declared.reach.Reach.{Reach}
use Rattle.posting_list.proofs.Evidence.{entry_on, find_fault, says_later}
use Rattle.time_index.specs.Postings.{IsNextPosting, IsOfKey, IsTimed, NextPosting}

-- the time list of the volume
abbrev times : Reach → ℕ
times r = r.volume.geometry.lists

module _ (r : Reach) (from to : ℕ) (stamped : TakesStamps r.volume.geometry) where
  -- it is one of the volume's lists
  less : times r < all_lists r.volume.geometry
  less = omega (arith, stamped)

  -- the search gives no answer
  pub first_fails : {old mid : ViewState} (fault : Fault) → FindsGeq (within r) (head_of r (times r)) from old mid (Err fault)
      → NextPosting r from to old mid (Err fault)
  first_fails {old} {mid} fault found = record {
    viewed = found.viewed;
    ends = find_fault r (times r) from old mid fault less found;
  }

  module _ {old mid : ViewState} (first : Entry)
      (found : FindsGeq (within r) (head_of r (times r)) from old mid (Ok (Some first))) where
    -- the second one gives none
    pub second_fails : {new : ViewState} (fault : Fault) → FindsGeq (within r) (head_of r (times r)) first.key mid new (Err fault)
        → NextPosting r from to old new (Err fault)
    second_fails {new} fault again = record {
      viewed = viewed_then found.viewed again.viewed;
      ends = says_later r old mid new found.viewed again.viewed fault
          (find_fault r (times r) first.key mid new fault less again);
    }

    on_mid : (at : ℕ) (p : PostingFields) → IsTimed r old at p → IsTimed r mid at p
    on_mid at p trail = trail_then (within r) (head_of r (times r)) at p old mid found.viewed trail

    -- no posting with a trail has a lesser stamp
    none_less : IsTrue old.base.tells → (at : ℕ) (p : PostingFields) → IsTimed r old at p → from ≤ p.key
        → first.key ≤ p.key
    none_less tells at p trail past = ((found.ends.2 tells).1 at p trail past).0

    module _ (to_is : first.key ≤ to) {new : ViewState} where
      by_first : Viewed mid new
          → (IsTrue old.base.tells → (at : ℕ) (p : PostingFields) → IsTimed r old at p → p.key ≡ first.key → ⊥)
          → IsNextPosting r from to old new first
      by_first second none = record {
        from_is = found.ends.0;
        to_is = to_is;
        entry = found.ends.1;
        behind = λ tells. entry_on second.image (found.ends.2 tells).0;
        first = λ tells at p trail past.
            (none_less tells at p trail past, λ same. absurd (none tells at p trail same));
      }

      by_second : (second : Entry) → FindsGeq (within r) (head_of r (times r)) first.key mid new (Ok (Some second))
          → second.key ≡ first.key → IsNextPosting r from to old new second
      by_second second again same = record {
        from_is = omega (arith, found.ends.0, same);
        to_is = omega (arith, to_is, same);
        entry = entry_then old mid second found.viewed again.ends.1;
        behind = λ tells. (again.ends.2 (told found.viewed tells)).0;
        first = λ tells at p trail past.
            let least = none_less tells at p trail past in
            let is = (again.ends.2 (told found.viewed tells)).1 at p (on_mid at p trail) least in
            (is.0, λ key. (is.1 (key ∙ same)).1);
      }

      next_is : (again : Option Entry) → FindsGeq (within r) (head_of r (times r)) first.key mid new (Ok again)
          → (e : Entry) → IsOfKey first again e → IsNextPosting r from to old new e
      next_is None again e is = subst (IsNextPosting r from to old new) (sym is)
          (by_first again.viewed (λ tells at p trail same.
          again.ends (told found.viewed tells) at p (on_mid at p trail) (omega (arith, same))))
      next_is (Some second) again e is = ⊎_elim
          (λ (one : (second.key ≡ first.key) × (e ≡ second)).
          subst (IsNextPosting r from to old new) (sym one.1) (by_second second again one.0))
          (λ (other : (second.key ≡ first.key → ⊥) × (e ≡ first)).
          subst (IsNextPosting r from to old new) (sym other.1)
          (by_first again.viewed (λ tells at p trail same.
          let is_second = (((again.ends.2 (told found.viewed tells)).1 at p (on_mid at p trail)
          (omega (arith, same))).1 same).1 in
          other.0 (sym (ap (λ (q : PostingFields). q.key) is_second) ∙ same))))
          is

      pub found_next : (again : Option Entry) → FindsGeq (within r) (head_of r (times r)) first.key mid new (Ok again)
          → (e : Entry) → IsOfKey first again e → NextPosting r from to old new (Ok (Some e))
      found_next again finds e is = record {
        viewed = viewed_then found.viewed finds.viewed;
        ends = next_is again finds e is;
      }
