-- What is known of a cell by what was found in it.
use Rattle.std.proofs.Common.{◌≡◌, ℕ, List, Option, Some, None, Result, Err, sym, ◌∙◌, ap, subst}
use Rattle.std.specs.Prelude.{IsErrAnd}
use Rattle.std.proofs.lemmas.Option.{none-some}
use Rattle.std.proofs.lemmas.Result.{err_from_is_err_and}
use Rattle.cell_types.specs.Image.{Image, Extends}
use Rattle.cell_types.specs.Layout.{Layout, spare_at}
use Rattle.cell_types.specs.Records.{IsRecordCell}
use Rattle.cell_types.specs.declared.record_cell.RecordCell.{RecordCell}
use Rattle.volume_meaning.specs.Volumes.{Holds}
use Rattle.volume_meaning.proofs.Extending.{blank_before}
use Rattle.volume_meaning.proofs.Holding.{one_record_holds, some_is}
use Rattle.worm_device.specs.Looks.{IsSeen}
use Rattle.commit_record.specs.SlotCells.{SeenStamp, found_cell}
use Rattle.worm_device.specs.declared.looks.Found.{Found}
use Rattle.worm_device.specs.declared.looks.Found.TheVariants.{Blank, Record, Stray}

-- what a `?` hands on is the error that it was given
pub handed : {T E : Type 0} (r : Result T E) (e : E) → IsErrAnd r (λ d. d ≡ e) → r ≡ Err e
handed r e h = let q = err_from_is_err_and r h in q.1 ∙ ap Err q.2

module _ (before after : Image) (at : ℕ) where
  -- a written cell stands in the later image
  pub stands : (found : Found) (cell : List ℕ) → IsSeen before after at found → found_cell found ≡ Some cell
      → after at ≡ Some cell
  stands Blank cell seen is = absurd (none-some cell is)
  stands (Record other held) cell seen is = seen.0 ∙ is
  stands (Stray other) cell seen is = seen.0 ∙ is

  -- a blank one was blank in the earlier image
  pub was_blank : (found : Found) → IsSeen before after at found → found_cell found ≡ None → before at ≡ None
  was_blank Blank seen is = seen
  was_blank (Record cell held) seen is = absurd (none-some cell (sym is))
  was_blank (Stray cell) seen is = absurd (none-some cell (sym is))

  module _ (found : Found) (cell : List ℕ) (seen : IsSeen before after at found) where
    -- a record stands
    pub record_stands : (held : RecordCell) → found ≡ Record cell held → after at ≡ Some cell
    record_stands held is = stands found cell seen (ap found_cell is)

    -- and is held
    pub record_held : (held : RecordCell) → found ≡ Record cell held → Holds after at held
    record_held held is =
        let s : IsSeen before after at (Record cell held) = subst (IsSeen before after at) is seen in
        record { cell = cell; stands = s.0; is = s.1 }

    -- and no other record is
    pub record_one : (held r : RecordCell) → found ≡ Record cell held → Holds after at r → r ≡ held
    record_one held r is h = one_record_holds after at r held h (record_held held is)

    -- a stray cell stands
    pub stray_stands : found ≡ Stray cell → after at ≡ Some cell
    stray_stands is = stands found cell seen (ap found_cell is)

    -- and holds no record
    pub stray_none : found ≡ Stray cell → (r : RecordCell) → Holds after at r → ⊥
    stray_none is r h =
        let s : IsSeen before after at (Stray cell) = subst (IsSeen before after at) is seen in
        s.1 r (subst (IsRecordCell r at) (some_is h.cell cell (sym h.stands ∙ s.0)) h.is)

-- what was seen between two images was seen between any that lie further apart
pub seen_further : {before before' after after' : Image} (at : ℕ) (found : Found) → Extends before' before
    → Extends after after' → IsSeen before after at found → IsSeen before' after' at found
seen_further at Blank e f seen = blank_before e seen
seen_further at (Record cell held) e f seen = (f.keeps at cell seen.0, seen.1)
seen_further at (Stray cell) e f seen = (f.keeps at cell seen.0, seen.1)

-- what was seen between two images is seen between any that have the same in this cell
pub seen_same : (before after before' after' : Image) (at : ℕ) (found : Found) → before' at ≡ before at
    → after' at ≡ after at
    → IsSeen before after at found → IsSeen before' after' at found
seen_same before after before' after' at Blank same same' seen = same ∙ seen
seen_same before after before' after' at (Record cell held) same same' seen = (same' ∙ seen.0, seen.1)
seen_same before after before' after' at (Stray cell) same same' seen = (same' ∙ seen.0, seen.1)

-- so it is with a stamp cell
pub stamp_further : (g : Layout) {before before' after after' : Image} (n : ℕ) (stamp : Option Found)
    → Extends before' before → Extends after after' → SeenStamp g n stamp before after
    → SeenStamp g n stamp before' after'
stamp_further g n None e f seen = seen
stamp_further g n (Some found) e f seen = (seen.0, seen_further (spare_at n) found e f seen.1)

pub stamp_same : (g : Layout) (before after before' after' : Image) (n : ℕ) (stamp : Option Found)
    → before' (spare_at n) ≡ before (spare_at n) → after' (spare_at n) ≡ after (spare_at n)
    → SeenStamp g n stamp before after → SeenStamp g n stamp before' after'
stamp_same g before after before' after' n None same same' seen = seen
stamp_same g before after before' after' n (Some found) same same' seen =
    (seen.0, seen_same before after before' after' (spare_at n) found same same' seen.1)
