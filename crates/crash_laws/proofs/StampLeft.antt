-- What a plan that was cut short has left has the stamp, where it has the commit cell.
use Rattle.std.proofs.Common.{◌≡◌, ◌≤◌, ◌∙◌, ℕ, List, Option, Some, None, inl, inr, ⊎_elim, refl, sym, arith}
use Rattle.std.proofs.lemmas.Option.{none-some}
use Rattle.cell_types.specs.Image.{Image}
use Rattle.cell_types.specs.Layout.{Layout, outcome_at, spare_at}
use Rattle.volume_meaning.specs.Slots.{IsStampOf}
use Rattle.tamper_rules.specs.Rules as Rules
use Rattle.tamper_rules.specs.Rules.{OutcomeRule}
use Rattle.tamper_rules.proofs.Images.{look}
use Rattle.ingest_laws.specs.Filling.{IsWellPlanned}
use Rattle.ingest_laws.specs.Ingesting.{Applying, Committing, ContentRow, CopyRow, Finishing, IsLeftIn, Phase, Plan, Reserving, Row, Storing, order_of}

module _ {g : Layout} {old after : Image} {p : Plan} (w : IsWellPlanned g old after p) {image : Image} {phase : Phase}
    (l : IsLeftIn p old image phase) where
  -- the slot had no outcome cell
  outcome_blank : old (outcome_at p.slot) ≡ None
  outcome_blank = ⊎_elim (λ none. none)
      (λ x. absurd (
      let o : OutcomeRule g old p.slot = w.filled.before.met Rules.OutcomeCells (outcome_at p.slot)
      (record { found = x.0; stands = x.1 }) p.slot w.filled.reserves.slot refl in
      none-some _ (sym (w.filled.horizon.free w.filled.reserves.slot) ∙ o.reserve.stands)))
      (look old (outcome_at p.slot))

  -- no cell of the first two phases is the commit cell
  by_phase : (value : List ℕ) (one : Phase) → order_of one ≤ order_of phase → Row p one (outcome_at p.slot) value
      → 2 ≤ order_of phase
  by_phase value Reserving le row = absurd (omega (arith, row.at))
  by_phase value Storing le (inr row) = absurd (omega (arith, row.row.at))
  by_phase value Storing le (inl row) = absurd (
      let r = w.filled.reserves in
      ⊎_elim
      (λ (c : ContentRow p (outcome_at p.slot) value). omega (arith, c.at, r.slot, r.from, w.filled.fits))
      (λ (c : CopyRow p (outcome_at p.slot) value). omega (arith, c.at, r.slot, r.from, w.filled.fits))
      row)
  by_phase value Committing le row = le
  by_phase value Applying le row = omega (arith, le)
  by_phase value Finishing le row = omega (arith, le)

  -- so that is put when all is stored
  stored : (value : List ℕ) → image (outcome_at p.slot) ≡ Some value → 2 ≤ order_of phase
  stored value is = ⊎_elim
      (λ (was : old (outcome_at p.slot) ≡ Some value). absurd (none-some _ (sym outcome_blank ∙ was)))
      (λ (row : (one : Phase) × (order_of one ≤ order_of phase) × Row p one (outcome_at p.slot) value).
      by_phase value row.0 row.1 row.2)
      (l.only (outcome_at p.slot) value is)

  given : (value : List ℕ) → image (outcome_at p.slot) ≡ Some value → (stamp : Option ℕ) → p.stamp ≡ stamp
      → IsStampOf g after p.slot stamp → IsStampOf g image p.slot stamp
  given value is None same s = s
  given value is (Some seconds) same s = (
    s.0,
    record {
      cell = s.1.cell;
      stands = l.before Storing (stored value is) (spare_at p.slot) s.1.cell
          (inr (record { seconds = seconds; given = same; row = record { at = refl; is = s.1.is } }));
      is = s.1.is;
    },
  )

  pub stamp_left : (value : List ℕ) → image (outcome_at p.slot) ≡ Some value → IsStampOf g image p.slot p.stamp
  stamp_left value is = given value is p.stamp refl w.filled.stamp
