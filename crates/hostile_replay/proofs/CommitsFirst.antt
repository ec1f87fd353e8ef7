-- A foreign write into the outcome cell that is soon enough comes before the commit: by how many changes the ingest has made
-- itself when its commit cell stands.
use Rattle.std.proofs.Common.{◌≡◌, ◌≤◌, ◌<◌, ◌+◌, ◌-◌, ◌==◌, ◌&&◌, ◌||◌, ◌^◌, ◌⊎◌, if◌then◌else◌, ⊎_elim, inl, inr, ℕ, zero, suc, Bool, true, false, List, [], ◌∷◌, map, length, take, drop, take-add, take-take, length-take, Contains, Option, Some, None, refl, sym, ap, ◌∙◌, subst, arith}
use Rattle.std.specs.List.{list_all, list_any}
use Rattle.std.specs.Str.{bytes_eq}
use Rattle.std.proofs.Math.Seq.{take-length}
use Rattle.std.proofs.lemmas.Bool.{and_parts, and_from, cases_lt, cond-false, cond-true, cond_both}
use Rattle.std.proofs.lemmas.Bool.Decides.{nat_tests}
use Rattle.std.proofs.lemmas.Option.{none-some}
use Rattle.std.proofs.lemmas.Slice.Eq.{bytes_eq-Decides}
use Rattle.cell_types.specs.Image.{Image, Between, Extends}
use Rattle.cell_types.specs.Layout.{Layout, outcome_at, reserve_at}
use Rattle.cell_types.specs.Records.{IsRecordCell}
use Rattle.cell_types.specs.declared.record_cell.RecordCell.TheVariants.{Commit}
use Rattle.volume_meaning.specs.Documents.{stored_bytes}
use Rattle.volume_meaning.specs.Slots.{cells_for}
use Rattle.volume_meaning.specs.Volumes.{IsVolume}
use Rattle.std.proofs.lemmas.List.{drop-drop}
use Rattle.worm_device.specs.Calls.{Called, instant_of}
use Rattle.worm_device.specs.State.{Instant, IsDevice, LeftSince}
use Rattle.worm_device.proofs.Elapsing.{elapses_of, remembers_of}
use Rattle.worm_device.proofs.Images.{extends_self}
use Rattle.worm_memory.specs.Memory.{KeepsPlan, Memory, device_of, mark_of}
use Rattle.worm_memory.specs.OwnChanges.{changes_since, is_of_call, own_changes_in, ComePast, IsBelowMoment, IsWrittenEarly}
use Rattle.worm_memory.specs.Plans.{calls_for, is_called_for, is_reached, last_changes, last_foreign_writes}
use Rattle.worm_memory.specs.Moments.{is_others_write}
use Rattle.worm_memory.specs.Proper.{blank_stands, sure_stands}
use Rattle.worm_memory.specs.Worlds.{after_changes, blank, foreign_writes_in, world}
use Rattle.worm_memory.specs.declared.change.Change.{Change}
use Rattle.worm_memory.specs.declared.change.Change.TheVariants.{Wrote, Foreign, Synced, Lost, Crashed}
use Rattle.worm_memory.specs.declared.moment.Moment.{Moment}
use Rattle.worm_memory.specs.declared.moment.Moment.TheVariants.{Step, Call}
use Rattle.worm_memory.specs.declared.moment.Timed as planned
use Rattle.worm_memory.proofs.Accounts.{changes_append, foreign_writes_append}
use Rattle.worm_memory.proofs.Counting.{both, both_risen, none_synced, one_synced, own_is, standing_all, standing_none, syncs_in, writes_in}
use Rattle.worm_memory.proofs.OwnChanges.{none_uncounted, planned_first, takes_steps}
use Rattle.worm_memory.proofs.Worlds.{after_row}
use Rattle.plan_writer.specs.Planned.{document_from}
use Rattle.script_events.specs.declared.event.Event.TheVariants as event
use Rattle.script_events.specs.declared.event.Schedule.{Schedule}
use Rattle.script_events.specs.declared.event.Timed.{Timed}
use Rattle.script_replies.specs.Beginnings.{begun_with, planned_of}
use Rattle.script_replies.specs.declared.reply.Reply.TheVariants as reply
use Rattle.hostile_replay.specs.InTime.{steps_to_commit, CommitsComeFirst, IsPastCommit, WritesOutcome}
use Rattle.hostile_replay.specs.Turns.{Turns}
use Rattle.hostile_replay.proofs.Committing.{reserve_stands, stored_stand, with_pooled}
use Rattle.hostile_replay.proofs.StoredIngests.{HasCommit, PutsBlank, committed, puts_blank}

false_true : false ≡ true → ⊥
false_true e = cc

either_true : (b : Bool) → (b || false) ≡ true → b ≡ true
either_true true is = refl
either_true false is = is

left_false : (a b : Bool) → (a || b) ≡ false → a ≡ false
left_false true b is = absurd (false_true (sym is))
left_false false b is = refl

right_false : (a b : Bool) → (a || b) ≡ false → b ≡ false
right_false true b is = absurd (false_true (sym is))
right_false false b is = is

-- what was planned for a cell was planned by the one write that there is
called_parts : (s c at : ℕ) (value : List ℕ) (t : planned.Timed) → list_any (calls_for s c at value) (t ∷ []) ≡ true
    → ((t.at == at) ≡ true) × (t.value ≡ value)
called_parts s c at value t is =
    let both_are = and_parts (is_reached s c t.before) ((t.at == at) && bytes_eq t.value value)
    (either_true (calls_for s c at value t) is) in
    let parts = and_parts (t.at == at) (bytes_eq t.value value) both_are.1 in
    (parts.0, (bytes_eq-Decides t.value value).0 parts.1)

-- where nobody else wrote that cell, nobody else wrote
none_foreign : (s c : ℕ) (t : planned.Timed) (changes : List Change)
    → list_all (is_called_for s c (t ∷ [])) changes ≡ true → list_any (is_others_write t.at) changes ≡ false
    → foreign_writes_in changes ≡ 0
none_foreign s c t [] all none = refl
none_foreign s c t (Wrote at value ∷ changes) all none = none_foreign s c t changes all none
none_foreign s c t (Foreign at value ∷ changes) all none =
    let first = and_parts (list_any (calls_for s c at value) (t ∷ [])) (list_all (is_called_for s c (t ∷ [])) changes) all in
    let here = (called_parts s c at value t first.0).0 in
    absurd (false_true (sym (left_false (t.at == at) (list_any (is_others_write t.at) changes) none) ∙ here))
none_foreign s c t (Synced ∷ changes) all none = none_foreign s c t changes all none
none_foreign s c t (Lost at ∷ changes) all none = none_foreign s c t changes all none
none_foreign s c t (Crashed ∷ changes) all none = none_foreign s c t changes all none

none_taken : (i : ℕ) (changes : List Change) → foreign_writes_in changes ≡ 0 → foreign_writes_in (take i changes) ≡ 0
none_taken zero changes none = refl
none_taken (suc i) [] none = refl
none_taken (suc i) (Wrote at value ∷ changes) none = none_taken i changes none
none_taken (suc i) (Foreign at value ∷ changes) none = absurd (omega (arith, none))
none_taken (suc i) (Synced ∷ changes) none = none_taken i changes none
none_taken (suc i) (Lost at ∷ changes) none = none_taken i changes none
none_taken (suc i) (Crashed ∷ changes) none = none_taken i changes none

none_dropped : (i : ℕ) (changes : List Change) → foreign_writes_in changes ≡ 0 → foreign_writes_in (drop i changes) ≡ 0
none_dropped zero changes none = none
none_dropped (suc i) [] none = refl
none_dropped (suc i) (Wrote at value ∷ changes) none = none_dropped i changes none
none_dropped (suc i) (Foreign at value ∷ changes) none = absurd (omega (arith, none))
none_dropped (suc i) (Synced ∷ changes) none = none_dropped i changes none
none_dropped (suc i) (Lost at ∷ changes) none = none_dropped i changes none
none_dropped (suc i) (Crashed ∷ changes) none = none_dropped i changes none

all_dropped : {A : Type 0} (f : A → Bool) (i : ℕ) (xs : List A) → list_all f xs ≡ true → list_all f (drop i xs) ≡ true
all_dropped f zero xs all = all
all_dropped f (suc i) [] all = refl
all_dropped f (suc i) (x ∷ xs) all = all_dropped f i xs (and_parts (f x) (list_all f xs) all).1

all_taken : {A : Type 0} (f : A → Bool) (i : ℕ) (xs : List A) → list_all f xs ≡ true → list_all f (take i xs) ≡ true
all_taken f zero xs all = refl
all_taken f (suc i) [] all = refl
all_taken f (suc i) (x ∷ xs) all =
    let parts = and_parts (f x) (list_all f xs) all in
    and_from (f x) (list_all f (take i xs)) parts.0 (all_taken f i xs parts.1)

below_less : (a b : ℕ) (m : Moment) → a ≤ b → IsBelowMoment b m → IsBelowMoment a m
below_less a b (Step n) le is = omega (arith, le, is)
below_less a b (Call n) le is = omega (arith, le, is)

-- what is sure, and one cell that stands
abbrev with_cell : Image → Image → ℕ → Image
with_cell sure image at = λ cell. if cell == at then image cell else sure cell

with_cell_between : (sure image : Image) (at : ℕ) → Extends sure image → Between sure image (with_cell sure image at)
with_cell_between sure image at stands = record {
  above = record {
    keeps = λ cell value is. cond_both (cell == at) (image cell) (sure cell)
        (λ (found : Option (List ℕ)). found ≡ Some value) (λ here. stands.keeps cell value is) (λ other. is);
  };
  below = record {
    keeps = λ cell value. cond_both (cell == at) (image cell) (sure cell)
        (λ (found : Option (List ℕ)). found ≡ Some value → image cell ≡ Some value) (λ here is. is)
        (λ other is. stands.keeps cell value is);
  };
}

same_number : (n : ℕ) → (n == n) ≡ true
same_number n = grind (arith, nat_tests)

other_number : (a b : ℕ) → (a < b) ⊎ (b < a) → (a == b) ≡ false
other_number a b (inl less) = grind (arith, nat_tests)
other_number a b (inr less) = grind (arith, nat_tests)

cell_there : (sure image : Image) (at : ℕ) → with_cell sure image at at ≡ image at
cell_there sure image at = cond-true (at == at) (image at) (sure at) (same_number at)

cell_elsewhere : (sure image : Image) (at cell : ℕ) → (cell < at) ⊎ (at < cell)
    → with_cell sure image at cell ≡ sure cell
cell_elsewhere sure image at cell apart = cond-false (cell == at) (image cell) (sure cell) (other_number cell at apart)

-- The changes up to a moment at which the commit cell stands.
module _ (id : List ℕ) (stamp : Option ℕ) (body : List ℕ) (n : ℕ) (begun new : Memory)
    (f : PutsBlank id stamp body n (device_of begun) (device_of new))
    (called : Called (device_of begun) (device_of new)) (end : ℕ) (after : length begun.changes ≤ end)
    (within : end ≤ length new.changes) (found : List ℕ)
    (stands : (world (take end new.changes)).image (outcome_at n) ≡ Some found) where
  abbrev world_at : ℕ → Instant
  world_at k = world (take k new.changes)

  -- the moment at which the volume had been looked at
  abbrev looked_at : ℕ
  looked_at = f.looked.moment

  sure_in : (k : ℕ) → Extends (world_at k).sure (world_at k).image
  sure_in k = sure_stands blank (take k new.changes) blank_stands

  -- the commit cell was written since
  looked_before : looked_at ≤ end
  looked_before = ⊎_elim
      (λ (before : end < looked_at). absurd (too_early before))
      (λ (le : looked_at ≤ end). le)
      (cases_lt end looked_at)
    where
      too_early : end < looked_at → ⊥
      too_early before =
          let same : world_at end ≡ f.looked.past end = (remembers_of f.puts.called).past end before in
          let now = (elapses_of f.called).adds (length begun.changes) (world_at end).image (omega arith)
          (inr (
            end,
            after,
            before,
            subst (λ (i : Instant). Between i.sure i.image (world_at end).image) same
                (record { above = sure_in end; below = extends_self (world_at end).image }),
          )) in
          ⊎_elim
          (λ (earlier : LeftSince (device_of begun) (length begun.changes) (world_at end).image). ⊎_elim
          (λ (b : Between (device_of begun).sure (device_of begun).image (world_at end).image).
          none-some found (sym f.unused.outcome ∙ b.below.keeps (outcome_at n) found stands))
          (λ (m : (m : ℕ) × (length begun.changes ≤ m) × (m < length begun.changes)
          × Between (world (take m begun.changes)).sure (world (take m begun.changes)).image (world_at end).image).
          absurd (omega (arith, m.1, m.2)))
          earlier)
          (λ (b : Between (device_of begun).sure f.looked.image (world_at end).image).
          none-some found (sym f.outcome ∙ b.below.keeps (outcome_at n) found stands))
          now

  -- Since then.
  abbrev since : List Change
  since = drop looked_at new.changes

  -- how many changes there were since then
  abbrev early : ℕ
  early = end - looked_at

  end_is : looked_at + early ≡ end
  end_is = omega (arith, looked_before)

  abbrev start : Instant
  start = world_at looked_at

  looked_within : looked_at ≤ length new.changes
  looked_within = omega (arith, looked_before, within)

  -- what stood then
  start_is : start ≡ instant_of f.looked
  start_is = ⊎_elim
      (λ (before : looked_at < length new.changes). (remembers_of f.puts.called).last before)
      (λ (last : length new.changes ≤ looked_at).
      let same : length new.changes ≡ looked_at = omega (arith, last, looked_within) in
      ap world (ap (λ k. take k new.changes) (sym same) ∙ take-length new.changes)
      ∙ (remembers_of f.puts.called).still same)
      (cases_lt looked_at (length new.changes))

  blank_start : (cell : ℕ) → f.looked.image cell ≡ None → start.image cell ≡ None
  blank_start cell none = ap (λ (i : Instant). i.image cell) start_is ∙ none

  world_is : (i : ℕ) → world_at (looked_at + i) ≡ after_changes start (take i since)
  world_is i = ap world (take-add looked_at i new.changes) ∙ after_row blank (take looked_at new.changes) (take i since)

  start_unsure : (cell : ℕ) (value : List ℕ) → start.image cell ≡ None → start.sure cell ≡ Some value → ⊥
  start_unsure cell value none is = none-some value (sym none ∙ (sure_in looked_at).keeps cell value is)

  left_at : (k : ℕ) (image : Image) → looked_at ≤ k → k ≤ length new.changes
      → Between (world_at k).sure (world_at k).image image → LeftSince (device_of new) looked_at image
  left_at k image later most between = ⊎_elim
      (λ (before : k < length new.changes). inr (k, later, before, between))
      (λ (last : length new.changes ≤ k).
      let all : take k new.changes ≡ new.changes =
      ap (λ i. take i new.changes) (omega (arith, last, most)) ∙ take-length new.changes in
      inl (subst (λ (l : List Change). Between (world l).sure (world l).image image) all between))
      (cases_lt k (length new.changes))

  image_left : LeftSince (device_of new) looked_at (world_at end).image
  image_left = left_at end (world_at end).image looked_before within
      (record { above = sure_in end; below = extends_self (world_at end).image })

  abbrev tells : f.looked.tells ≡ true
  tells = f.called.tells

  abbrev stored : ℕ
  stored = length f.plan.document.now + length f.plan.journal.now

  abbrev place : ℕ
  place = document_from f.plan

  some_stored : 0 < stored
  some_stored = omega (arith, f.journal)

  blank_then : f.looked.image place ≡ None
  blank_then = f.pooled place (record { from = omega arith; below = omega (arith, some_stored) })

  blank_place : start.image place ≡ None
  blank_place = blank_start place blank_then

  -- the first stored cell is sure by then
  stored_sure : (value : List ℕ) × ((world_at end).sure place ≡ Some value)
  stored_sure =
      let mixed = with_cell (world_at end).sure (world_at end).image (outcome_at n) in
      let left = left_at end mixed looked_before within
      (with_cell_between (world_at end).sure (world_at end).image (outcome_at n) (sure_in end)) in
      let here = stored_stand f.layout n f.plan f.looked (device_of new) f.less f.suits f.puts tells f.outcome f.still mixed
      found left (cell_there (world_at end).sure (world_at end).image (outcome_at n) ∙ stands) 0 some_stored in (
        here.0,
        sym (cell_elsewhere (world_at end).sure (world_at end).image (outcome_at n) place
            (inr (omega (arith, f.suits.from, f.less)))) ∙ ap mixed (omega arith) ∙ here.1,
      )

  end_world : world_at end ≡ after_changes start (take early since)
  end_world = ap world_at (sym end_is) ∙ world_is early

  -- What they are.
  module _ (calls : list_all is_of_call since ≡ true) (none : foreign_writes_in since ≡ 0) where
    abbrev changes : List Change
    changes = take early since

    calls_here : list_all is_of_call changes ≡ true
    calls_here = all_taken is_of_call early since calls

    -- something was made sure twice
    some_sync : syncs_in changes ≡ 0 → ⊥
    some_sync zero_of =
        let same = ap (λ (now : Instant). now.sure place) end_world ∙
        ap (λ (s : Image). s place) (none_synced start changes calls_here zero_of) in
        start_unsure place stored_sure.0 blank_place (sym same ∙ stored_sure.1)

    one_sync : syncs_in changes ≡ 1 → ⊥
    one_sync one =
        let o = one_synced start changes calls_here one in
        let i = o.before in
        let short : i ≤ early = omega (arith, o.within, length-take early since) in
        let row : take i changes ≡ take i since = take-take i early since short in
        let there : world_at (looked_at + i) ≡ after_changes start (take i changes) =
        world_is i ∙ ap (after_changes start) (sym row) in
        let sure_then : (after_changes start changes).sure place ≡ Some stored_sure.0 =
        sym (ap (λ (now : Instant). now.sure place) end_world) ∙ stored_sure.1 in
        let stood : (after_changes start (take i changes)).image place ≡ Some stored_sure.0 =
        sym (ap (λ (s : Image). s place) o.sure) ∙ sure_then in
        let at_sync : (world_at (looked_at + i)).image place ≡ Some stored_sure.0 =
        ap (λ (now : Instant). now.image place) there ∙ stood in
        let mixed = with_cell (world_at (looked_at + i)).sure (world_at (looked_at + i)).image place in
        let left = left_at (looked_at + i) mixed (omega arith) (omega (arith, short, within, looked_before))
        (with_cell_between (world_at (looked_at + i)).sure (world_at (looked_at + i)).image place
        (sure_in (looked_at + i))) in
        let reserved = with_pooled f.layout n f.plan f.looked (device_of new) f.less f.suits f.puts tells f.outcome f.still
        mixed place stored_sure.0 left (omega arith) blank_then
        (cell_there (world_at (looked_at + i)).sure (world_at (looked_at + i)).image place ∙ at_sync) in
        let unsure : (world_at (looked_at + i)).sure (reserve_at n) ≡ start.sure (reserve_at n) =
        ap (λ (now : Instant). now.sure (reserve_at n)) there ∙ ap (λ (s : Image). s (reserve_at n)) o.same in
        let not_there : (v : List ℕ) → mixed (reserve_at n) ≡ Some v → ⊥ =
        λ v is. start_unsure (reserve_at n) v (blank_start (reserve_at n) f.reserve) (sym unsure
        ∙ sym (cell_elsewhere (world_at (looked_at + i)).sure (world_at (looked_at + i)).image place (reserve_at n)
        (inl (omega (arith, f.suits.from, f.less)))) ∙ is) in
        not_there reserved.0 reserved.1

    two_syncs : 2 ≤ syncs_in changes
    two_syncs = ⊎_elim
        (λ (less : syncs_in changes < 2). ⊎_elim
        (λ (none_yet : syncs_in changes < 1). absurd (some_sync (omega (arith, none_yet))))
        (λ (one : 1 ≤ syncs_in changes). absurd (one_sync (omega (arith, one, less))))
        (cases_lt (syncs_in changes) 1))
        (λ (enough : 2 ≤ syncs_in changes). enough)
        (cases_lt (syncs_in changes) 2)

    -- and each of these cells was written
    log_row : (i : ℕ) → i < 2 → (value : List ℕ) × ((world_at end).image (reserve_at n + i) ≡ Some value)
    log_row zero below =
        let here = reserve_stands f.layout n f.plan f.looked (device_of new) f.less f.suits f.puts tells f.outcome f.still
        (world_at end).image found image_left stands in
        (here.0, ap (world_at end).image (omega arith) ∙ here.1)
    log_row (suc zero) below = (found, ap (world_at end).image (omega arith) ∙ stands)
    log_row (suc (suc i)) below = absurd (omega (arith, below))

    blank_log : (cell : ℕ) → reserve_at n ≤ cell → cell < reserve_at n + 2 → start.image cell ≡ None
    blank_log cell low high = ⊎_elim
        (λ (first : cell < outcome_at n).
        ap start.image (omega (arith, low, first)) ∙ blank_start (reserve_at n) f.reserve)
        (λ (second : outcome_at n ≤ cell).
        ap start.image (omega (arith, second, high)) ∙ blank_start (outcome_at n) f.outcome)
        (cases_lt cell (outcome_at n))

    apart : reserve_at n + 2 ≤ place
    apart = omega (arith, f.suits.from, f.less)

    many_writes : 2 + stored ≤ writes_in changes
    many_writes =
        let risen = both_risen (reserve_at n) 2 place stored apart start changes calls_here
        (none_taken early since none) in
        let first = standing_none start.image (reserve_at n) 2 blank_log in
        let second = standing_none start.image place stored
        (λ cell low high. blank_start cell (f.pooled cell (record { from = omega (arith, low); below = omega (arith, high) }))) in
        let third = standing_all (world_at end).image (reserve_at n) 2 log_row in
        let fourth = standing_all (world_at end).image place stored
        (stored_stand f.layout n f.plan f.looked (device_of new) f.less f.suits f.puts tells f.outcome f.still
        (world_at end).image found image_left stands) in
        let same = ap (λ (now : Instant). both (reserve_at n) 2 place stored apart now.image) end_world in
        omega (arith, risen, first, second, third, fourth, same)

    -- with the sync of settling they are as many as the steps to the commit
    many_changes : steps_to_commit id body f.rows ≤ own_changes_in changes + 1
    many_changes =
        let count : length f.plan.document.now ≡ cells_for (length (stored_bytes id body)) =
        f.suits.document ∙ ap cells_for f.document.bytes in
        omega (arith, own_is changes, two_syncs, many_writes, count, f.journal)

  -- a row that ends later begins with what was of the row before
  all_since : (from : ℕ) → from ≤ looked_at → list_all is_of_call (drop from new.changes) ≡ true
      → list_all is_of_call since ≡ true
  all_since from le all =
      subst (λ l. list_all is_of_call l ≡ true) (since_is from le)
      (all_dropped is_of_call (looked_at - from) (drop from new.changes) all)
    where
      since_is : (k : ℕ) → k ≤ looked_at → drop (looked_at - k) (drop k new.changes) ≡ since
      since_is k le = drop-drop (looked_at - k) k new.changes ∙ ap (λ i. drop i new.changes) (omega (arith, le))

  none_since : (from : ℕ) → from ≤ looked_at → foreign_writes_in (drop from new.changes) ≡ 0
      → foreign_writes_in since ≡ 0
  none_since from le none =
      subst (λ l. foreign_writes_in l ≡ 0) (since_is from le)
      (none_dropped (looked_at - from) (drop from new.changes) none)
    where
      since_is : (k : ℕ) → k ≤ looked_at → drop (looked_at - k) (drop k new.changes) ≡ since
      since_is k le = drop-drop (looked_at - k) k new.changes ∙ ap (λ i. drop i new.changes) (omega (arith, le))

  -- and each came in a later step than that sync
  pub come_past : ComePast f.looked.steps looked_at new
  come_past = record {
    counted = (remembers_of f.puts.called).steps;
    each = λ i from less. (remembers_of f.puts.called).steps_since i from less;
  }

  pub past_commit : (m : Moment) (from : ℕ) → from ≤ looked_at → list_all is_of_call (drop from new.changes) ≡ true
      → foreign_writes_in (drop from new.changes) ≡ 0
      → ((place' count steps : ℕ) → from ≤ place' → place' + count ≡ end → ComePast steps place' new
      → 1 ≤ own_changes_in (take count (drop place' new.changes))
      → IsBelowMoment (steps + own_changes_in (take count (drop place' new.changes))) m)
      → IsBelowMoment (steps_to_commit id body f.rows) m
  past_commit m from le calls none later =
      let many = many_changes (all_since from le calls) (none_since from le none) in
      below_less (steps_to_commit id body f.rows) (f.looked.steps + own_changes_in (take early since)) m
      (omega (arith, many, f.stepped))
      (later looked_at early f.looked.steps le end_is come_past (omega (arith, many)))

-- One turn.
module _ (id : List ℕ) (stamp : Option ℕ) (body : List ℕ) (plan : Schedule) (timed : Timed) (n : ℕ) (old new : Memory)
    (device : IsDevice (device_of new)) (below : old.foreign_writes < 2 ^ 64 - 1) (writes : WritesOutcome n plan timed)
    (turn : Turns (event.Ingest id stamp body plan) (reply.Acknowledged n) old new) where
  abbrev begun : Memory
  begun = begun_with plan old

  abbrev t : planned.Timed
  t = planned_of timed

  foreign_is : new.plan.foreign ≡ t ∷ []
  foreign_is = ap (λ p. p.foreign) turn.by_plan.plan_is ∙ ap (λ (l : List Timed). map planned_of l) writes.one

  keeps : KeepsPlan new
  keeps = turn.by_plan.keeps

  commit : HasCommit n (device_of new).image
  commit = committed id stamp body n (device_of begun) (device_of new) device (turn.answers.ends refl)

  stands : (world new.changes).image t.at ≡ Some commit.value
  stands = ap (world new.changes).image writes.there ∙ commit.stands

  from_is : last_changes new.marks ≡ length old.changes
  from_is = ap last_changes turn.by_plan.marks ∙ changes_append 0 old.marks (mark_of old)

  not_theirs : list_any (calls_for new.steps new.calls t.at commit.value) new.plan.foreign ≡ true → ⊥
  not_theirs any =
      let one = subst (λ l. list_any (calls_for new.steps new.calls t.at commit.value) l ≡ true) foreign_is any in
      let same = (called_parts new.steps new.calls t.at commit.value t one).1 in
      writes.other commit.bytes commit.journal
      (subst (IsRecordCell (Commit commit.bytes commit.journal) (outcome_at n)) (sym same) commit.is)

  by_then : IsWrittenEarly new t.at t.before
      → (g : Layout) × IsVolume new.cells (device_of new).image g × IsPastCommit id stamp body n g timed.before
  by_then e =
      let named = subst (λ l. list_all (is_called_for new.steps new.calls l) (changes_since new) ≡ true) foreign_is
      keeps.named in
      let none = none_foreign new.steps new.calls t (changes_since new) named e.alone in
      let count : new.foreign_writes ≡ old.foreign_writes =
      none_uncounted new keeps none
      ∙ ap last_foreign_writes turn.by_plan.marks ∙ foreign_writes_append 0 old.marks (mark_of old) in
      let f = puts_blank id stamp body n (device_of begun) (device_of new) refl
      (record { same = count; below = below }) device (turn.answers.ends refl) turn.answers.comes in
      let end = last_changes new.marks + e.early in
      let after : length old.changes ≤ end = omega (arith, from_is) in
      let started : length old.changes ≤ f.looked.moment = (remembers_of f.called).later in
      let stood : (world (take end new.changes)).image (outcome_at n) ≡ Some e.found =
      ap (λ at. (world (take end new.changes)).image at) (sym writes.there) ∙ e.stands in
      let looked : last_changes new.marks ≤ f.looked.moment = omega (arith, from_is, started) in (
        f.layout,
        f.volume,
        record {
          rows = f.rows;
          are = f.are;
          past = past_commit id stamp body n begun new f turn.called end after e.within e.found stood timed.before
              (last_changes new.marks) looked (takes_steps new keeps).calls none e.later;
        },
      )

  first : (g : Layout) × IsVolume new.cells (device_of new).image g × IsPastCommit id stamp body n g timed.before
  first = ⊎_elim
      (λ (any : list_any (calls_for new.steps new.calls t.at commit.value) new.plan.foreign ≡ true). absurd (not_theirs any))
      by_then
      (planned_first new t commit.value keeps
      (subst (λ l. Contains l t) (sym foreign_is) (0, omega arith, refl)) writes.when stands)

pub commits_first : CommitsComeFirst
commits_first id stamp body plan timed n old new device below writes turn =
    first id stamp body plan timed n old new device below writes turn
