-- A slot is in one state at most, and in none where its cells are no state.
use Rattle.std.proofs.Common.{◌≡◌, ℕ, refl, subst, arith}
use Rattle.cell_types.specs.Image.{Image}
use Rattle.cell_types.specs.Layout.{Layout, reserve_at, outcome_at, done_at}
use Rattle.volume_meaning.specs.Slots.{Commits, Reserves}
use Rattle.volume_meaning.specs.Volumes.{IsWritten}
use Rattle.volume_meaning.proofs.Holding.{one_record_holds}
use Rattle.volume_meaning.proofs.OneDocument.{reserves, commits}
use Rattle.commit_record.specs.Laws.{StatesAreOne}
use Rattle.commit_record.specs.States.{IsState, IsNoState, reserves_none, ends_unreserved, ends_wrongly, ends_unstamped, done_unreserved, done_unended, done_abandoned, done_wrongly}
use Rattle.commit_record.specs.declared.slot.SlotState.{SlotState}
use Rattle.commit_record.specs.declared.slot.SlotState.TheVariants.{Unused, Reserved, Abandoned, Committed, Done}
use Rattle.commit_record.proofs.Breaking.{no_both, no_holds, no_stamp, no_written}

module _ (g : Layout) (image : Image) (n : ℕ) where
  -- a slot reserves one range of cells
  same_cells : {s l s' l' : ℕ} → Reserves g image n s l → Reserves g image n s' l' → (s ≡ s') × (l ≡ l')
  same_cells p q = reserves _ _ _ _ (one_record_holds image (reserve_at n) _ _ p.reserve q.reserve)

  -- and states one document and one journal
  same_commit : {s l b j s' l' b' j' : ℕ} → Commits g image n s l b j → Commits g image n s' l' b' j' → (b ≡ b') × (j ≡ j')
  same_commit p q = commits _ _ _ _ (one_record_holds image (outcome_at n) _ _ p.outcome q.outcome)

  -- what fits into a slot's cells fits into them, by whichever name they go
  fits_there : {s l s' l' b j : ℕ} → Reserves g image n s l → Commits g image n s' l' b j → Commits g image n s l b j
  fits_there {s} {l} {s'} {l'} p q =
      let same = same_cells p q.reserves in
      record { reserves = p; outcome = q.outcome; fits = omega (arith, q.fits, same.1); stamped = q.stamped }

  pub one : (state other : SlotState) → IsState g image image n state → IsState g image image n other → state ≡ other
  one Unused Unused p q = refl
  one Unused (Reserved s' l') p q = absurd (no_holds image (reserve_at n) _ p.reserve q.reserves.reserve)
  one Unused (Abandoned s' l') p q = absurd (no_holds image (reserve_at n) _ p.reserve q.abandons.reserves.reserve)
  one Unused (Committed s' l' b' j') p q =
      absurd (no_holds image (reserve_at n) _ p.reserve q.commits.reserves.reserve)
  one Unused (Done s' l' b' j') p q = absurd (no_holds image (reserve_at n) _ p.reserve q.commits.reserves.reserve)
  one (Reserved s l) Unused p q = absurd (no_holds image (reserve_at n) _ q.reserve p.reserves.reserve)
  one (Reserved s l) (Reserved s' l') p q = let c = same_cells p.reserves q.reserves in cc (c.0, c.1)
  one (Reserved s l) (Abandoned s' l') p q = absurd (no_holds image (outcome_at n) _ p.outcome q.abandons.outcome)
  one (Reserved s l) (Committed s' l' b' j') p q =
      absurd (no_holds image (outcome_at n) _ p.outcome q.commits.outcome)
  one (Reserved s l) (Done s' l' b' j') p q = absurd (no_holds image (outcome_at n) _ p.outcome q.commits.outcome)
  one (Abandoned s l) Unused p q = absurd (no_holds image (reserve_at n) _ q.reserve p.abandons.reserves.reserve)
  one (Abandoned s l) (Reserved s' l') p q = absurd (no_holds image (outcome_at n) _ q.outcome p.abandons.outcome)
  one (Abandoned s l) (Abandoned s' l') p q =
      let c = same_cells p.abandons.reserves q.abandons.reserves in cc (c.0, c.1)
  one (Abandoned s l) (Committed s' l' b' j') p q =
      absurd (no_both image (outcome_at n) _ _ p.abandons.outcome q.commits.outcome)
  one (Abandoned s l) (Done s' l' b' j') p q =
      absurd (no_both image (outcome_at n) _ _ p.abandons.outcome q.commits.outcome)
  one (Committed s l b j) Unused p q = absurd (no_holds image (reserve_at n) _ q.reserve p.commits.reserves.reserve)
  one (Committed s l b j) (Reserved s' l') p q = absurd (no_holds image (outcome_at n) _ q.outcome p.commits.outcome)
  one (Committed s l b j) (Abandoned s' l') p q =
      absurd (no_both image (outcome_at n) _ _ q.abandons.outcome p.commits.outcome)
  one (Committed s l b j) (Committed s' l' b' j') p q =
      let c = same_cells p.commits.reserves q.commits.reserves in
      let d = same_commit p.commits q.commits in
      cc (c.0, c.1, d.0, d.1)
  one (Committed s l b j) (Done s' l' b' j') p q = absurd (no_holds image (done_at n) _ p.done q.done)
  one (Done s l b j) Unused p q = absurd (no_holds image (reserve_at n) _ q.reserve p.commits.reserves.reserve)
  one (Done s l b j) (Reserved s' l') p q = absurd (no_holds image (outcome_at n) _ q.outcome p.commits.outcome)
  one (Done s l b j) (Abandoned s' l') p q =
      absurd (no_both image (outcome_at n) _ _ q.abandons.outcome p.commits.outcome)
  one (Done s l b j) (Committed s' l' b' j') p q = absurd (no_holds image (done_at n) _ q.done p.done)
  one (Done s l b j) (Done s' l' b' j') p q =
      let c = same_cells p.commits.reserves q.commits.reserves in
      let d = same_commit p.commits q.commits in
      cc (c.0, c.1, d.0, d.1)

  pub apart : {rule cell : ℕ} (state : SlotState) → IsWritten image cell → IsState g image image n state
      → IsNoState g image image n rule cell → ⊥
  apart Unused w p (reserves_none r c none) = no_written image (reserve_at n) p.reserve (subst (IsWritten image) c w)
  apart Unused w p (ends_unreserved r c blank) =
      no_written image (outcome_at n) p.outcome (subst (IsWritten image) c w)
  apart Unused w p (ends_wrongly s' l' r c reserves no_abandon no_commit) =
      no_holds image (reserve_at n) _ p.reserve reserves.reserve
  apart Unused w p (ends_unstamped s' l' b' j' r c reserves commit fits stamped lacks) =
      no_holds image (reserve_at n) _ p.reserve reserves.reserve
  apart Unused w p (done_unreserved r c blank no_outcome) =
      no_written image (done_at n) p.done (subst (IsWritten image) c w)
  apart Unused w p (done_unended s' l' r c reserves no_outcome) =
      no_holds image (reserve_at n) _ p.reserve reserves.reserve
  apart Unused w p (done_abandoned s' l' r c abandons) =
      no_holds image (reserve_at n) _ p.reserve abandons.reserves.reserve
  apart Unused w p (done_wrongly s' l' b' j' r c commits not_done) =
      no_holds image (reserve_at n) _ p.reserve commits.reserves.reserve
  apart (Reserved s l) w p (reserves_none r c none) = none s l p.reserves
  apart (Reserved s l) w p (ends_unreserved r c blank) = no_holds image (reserve_at n) _ blank p.reserves.reserve
  apart (Reserved s l) w p (ends_wrongly s' l' r c reserves no_abandon no_commit) =
      no_written image (outcome_at n) p.outcome (subst (IsWritten image) c w)
  apart (Reserved s l) w p (ends_unstamped s' l' b' j' r c reserves commit fits stamped lacks) =
      no_holds image (outcome_at n) _ p.outcome commit
  apart (Reserved s l) w p (done_unreserved r c blank no_outcome) =
      no_holds image (reserve_at n) _ blank p.reserves.reserve
  apart (Reserved s l) w p (done_unended s' l' r c reserves no_outcome) =
      no_written image (done_at n) p.done (subst (IsWritten image) c w)
  apart (Reserved s l) w p (done_abandoned s' l' r c abandons) =
      no_holds image (outcome_at n) _ p.outcome abandons.outcome
  apart (Reserved s l) w p (done_wrongly s' l' b' j' r c commits not_done) =
      no_holds image (outcome_at n) _ p.outcome commits.outcome
  apart (Abandoned s l) w p (reserves_none r c none) = none s l p.abandons.reserves
  apart (Abandoned s l) w p (ends_unreserved r c blank) =
      no_holds image (reserve_at n) _ blank p.abandons.reserves.reserve
  apart (Abandoned s l) w p (ends_wrongly s' l' r c reserves no_abandon no_commit) =
      no_abandon (record { reserves = reserves; outcome = p.abandons.outcome })
  apart (Abandoned s l) w p (ends_unstamped s' l' b' j' r c reserves commit fits stamped lacks) =
      no_both image (outcome_at n) _ _ p.abandons.outcome commit
  apart (Abandoned s l) w p (done_unreserved r c blank no_outcome) =
      no_holds image (reserve_at n) _ blank p.abandons.reserves.reserve
  apart (Abandoned s l) w p (done_unended s' l' r c reserves no_outcome) =
      no_holds image (outcome_at n) _ no_outcome p.abandons.outcome
  apart (Abandoned s l) w p (done_abandoned s' l' r c abandons) =
      no_written image (done_at n) p.done (subst (IsWritten image) c w)
  apart (Abandoned s l) w p (done_wrongly s' l' b' j' r c commits not_done) =
      no_both image (outcome_at n) _ _ p.abandons.outcome commits.outcome
  apart (Committed s l b j) w p (reserves_none r c none) = none s l p.commits.reserves
  apart (Committed s l b j) w p (ends_unreserved r c blank) =
      no_holds image (reserve_at n) _ blank p.commits.reserves.reserve
  apart (Committed s l b j) w p (ends_wrongly s' l' r c reserves no_abandon no_commit) =
      no_commit b j (fits_there reserves p.commits)
  apart (Committed s l b j) w p (ends_unstamped s' l' b' j' r c reserves commit fits stamped lacks) =
      no_stamp image n lacks (p.commits.stamped stamped)
  apart (Committed s l b j) w p (done_unreserved r c blank no_outcome) =
      no_holds image (reserve_at n) _ blank p.commits.reserves.reserve
  apart (Committed s l b j) w p (done_unended s' l' r c reserves no_outcome) =
      no_holds image (outcome_at n) _ no_outcome p.commits.outcome
  apart (Committed s l b j) w p (done_abandoned s' l' r c abandons) =
      no_both image (outcome_at n) _ _ abandons.outcome p.commits.outcome
  apart (Committed s l b j) w p (done_wrongly s' l' b' j' r c commits not_done) =
      no_written image (done_at n) p.done (subst (IsWritten image) c w)
  apart (Done s l b j) w p (reserves_none r c none) = none s l p.commits.reserves
  apart (Done s l b j) w p (ends_unreserved r c blank) =
      no_holds image (reserve_at n) _ blank p.commits.reserves.reserve
  apart (Done s l b j) w p (ends_wrongly s' l' r c reserves no_abandon no_commit) =
      no_commit b j (fits_there reserves p.commits)
  apart (Done s l b j) w p (ends_unstamped s' l' b' j' r c reserves commit fits stamped lacks) =
      no_stamp image n lacks (p.commits.stamped stamped)
  apart (Done s l b j) w p (done_unreserved r c blank no_outcome) =
      no_holds image (reserve_at n) _ blank p.commits.reserves.reserve
  apart (Done s l b j) w p (done_unended s' l' r c reserves no_outcome) =
      no_holds image (outcome_at n) _ no_outcome p.commits.outcome
  apart (Done s l b j) w p (done_abandoned s' l' r c abandons) =
      no_both image (outcome_at n) _ _ abandons.outcome p.commits.outcome
  apart (Done s l b j) w p (done_wrongly s' l' b' j' r c commits not_done) = not_done p.done

pub one_state : StatesAreOne
one_state = record {
  one = λ g image n state other p q. one g image n state other p q;
  apart = λ g image n rule cell state w p no_state. apart g image n state w p no_state;
}
