-- Where a slot's cells are no state, a rule is broken.
use Rattle.std.proofs.Common.{◌≡◌, ◌<◌, ℕ, None, sym, ◌∙◌, ⊎_elim}
use Rattle.std.proofs.lemmas.Option.{none-some}
use Rattle.cell_types.specs.Image.{Image}
use Rattle.cell_types.specs.Layout.{Layout, reserve_at, outcome_at, spare_at}
use Rattle.cell_types.specs.declared.record_cell.RecordCell.{RecordCell}
use Rattle.cell_types.specs.declared.record_cell.RecordCell.TheVariants as records
use Rattle.volume_meaning.specs.Slots.{IsStamped}
use Rattle.volume_meaning.specs.Volumes.{Holds, IsVolume, IsWritten}
use Rattle.volume_meaning.proofs.Holding.{one_record_holds}
use Rattle.tamper_rules.specs.Rules.{Rule, IsBroken, IsMet, IsPlace, ReserveCells, OutcomeCells, DoneCells, number_of}
use Rattle.commit_record.specs.Laws.{NoStateBreaksARule}
use Rattle.commit_record.specs.States.{IsNoState, LacksStamp, reserves_none, ends_unreserved, ends_wrongly, ends_unstamped, done_unreserved, done_unended, done_abandoned, done_wrongly}

-- a blank cell is not written
pub no_written : (image : Image) (at : ℕ) → image at ≡ None → IsWritten image at → ⊥
no_written image at blank w = none-some w.found (sym blank ∙ w.stands)

-- and holds no record
pub no_holds : (image : Image) (at : ℕ) (r : RecordCell) → image at ≡ None → Holds image at r → ⊥
no_holds image at r blank h = none-some h.cell (sym blank ∙ h.stands)

-- one cell is not both an abandon and a commit cell
pub no_both : (image : Image) (at bytes journal : ℕ) → Holds image at records.Abandon → Holds image at
    (records.Commit bytes journal) → ⊥
no_both image at bytes journal h k =
    let same : records.Abandon ≡ records.Commit bytes journal = one_record_holds image at _ _ h k in cc

-- a slot that lacks its stamp in one image has none there
pub no_stamp : (image : Image) (n : ℕ) → LacksStamp image image n → IsStamped image n → ⊥
no_stamp image n lacks has =
    ⊎_elim (λ blank. no_holds image (spare_at n) _ blank has.stamp) (λ none. none has.seconds has.stamp) lacks

module _ (cells : ℕ) (g : Layout) (image : Image) (n cell : ℕ) (volume : IsVolume cells image g) (less : n < g.slots)
    (written : IsWritten image cell) where
  broken : (number : ℕ) (rule : Rule) → number ≡ number_of rule → IsPlace g rule cell → (IsMet g image rule cell → ⊥)
      → IsBroken cells image number cell
  broken number rule named place not_met = record {
    layout = g;
    volume = volume;
    rule = rule;
    named = named;
    place = place;
    written = written;
    not_met = not_met;
  }

  pub breaks : (number : ℕ) → IsNoState g image image n number cell → IsBroken cells image number cell
  breaks number (reserves_none r c none) = broken number ReserveCells r (n, less, c)
      (λ met. let kept = met n less c in none kept.start kept.length kept.reserves)
  breaks number (ends_unreserved r c blank) = broken number OutcomeCells r (n, less, c)
      (λ met. no_written image (reserve_at n) blank (met n less c).reserve)
  breaks number (ends_wrongly start length r c reserves no_abandon no_commit) = broken number OutcomeCells r
      (n, less, c)
      (λ met. ⊎_elim
      (λ abandon. no_abandon (record { reserves = reserves; outcome = abandon }))
      (λ commit. no_commit commit.0 commit.1
      (record { reserves = reserves; outcome = commit.2; fits = commit.3 start length reserves.reserve; stamped = commit.4 }))
      (met n less c).outcome)
  breaks number (ends_unstamped start length bytes journal r c reserves commit fits stamped lacks) = broken number
      OutcomeCells r (n, less, c)
      (λ met. ⊎_elim
      (λ abandon. no_both image (outcome_at n) bytes journal abandon commit)
      (λ kept. no_stamp image n lacks (kept.4 stamped))
      (met n less c).outcome)
  breaks number (done_unreserved r c no_reserve no_outcome) = broken number DoneCells r (n, less, c)
      (λ met. no_holds image (outcome_at n) _ no_outcome (met n less c).commit)
  breaks number (done_unended start length r c reserves no_outcome) = broken number DoneCells r (n, less, c)
      (λ met. no_holds image (outcome_at n) _ no_outcome (met n less c).commit)
  breaks number (done_abandoned start length r c abandons) = broken number DoneCells r (n, less, c)
      (λ met. let kept = met n less c in no_both image (outcome_at n) kept.bytes kept.journal abandons.outcome
      kept.commit)
  breaks number (done_wrongly start length bytes journal r c commits not_done) = broken number DoneCells r
      (n, less, c)
      (λ met. not_done (met n less c).done)

pub no_state_breaks : NoStateBreaksARule
no_state_breaks cells g image n number cell volume less written no_state =
    breaks cells g image n cell volume less written number no_state
