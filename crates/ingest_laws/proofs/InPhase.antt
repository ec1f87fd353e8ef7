-- An image that was left in one phase of an ingest.
use Rattle.std.proofs.Common.{◌≡◌, ◌<◌, ◌≤◌, ⊎_elim, ℕ, List, sym, ◌∙◌, arith, length}
use Rattle.std.proofs.lemmas.Option.{none-some}
use Rattle.std.proofs.lemmas.Bool.{cases_lt}
use Rattle.cell_types.specs.Image.{Image}
use Rattle.cell_types.specs.Layout.{Layout, spare_at, pool_at}
use Rattle.volume_meaning.specs.Documents.{document_at}
use Rattle.ingest_laws.specs.Ingesting.{Plan, Phase, Reserving, Storing, Committing, Applying, Finishing, order_of, stored_of, ContentRow, CopyRow, StoredRow, StampRow, AppliedRow, Row, IsInPhases, IsIngest, IsLeftIn, LeavesSound}
use Rattle.tamper_rules.proofs.GoingOn.{one_copy}
use Rattle.ingest_laws.proofs.Ingests.{slot_reserves, in_order, applied_copies, applied_far, stored_from}
use Rattle.ingest_laws.proofs.IngestLeaves.{leaves_sound}

module _ {g : Layout} {old new : Image} {p : Plan} (i : IsIngest g old new p) where
  -- what is applied lies before the document, and what is stored does not
  applied_low : {cell : ℕ} {value : List ℕ} → AppliedRow p cell value
      → cell < document_at p.start p.reserved (length (stored_of p)) (length p.journal)
  applied_low {cell} row =
      let c = applied_copies i row in
      let o = in_order i row.place c.below in
      let same = one_copy new p.start p.reserved (length p.journal) row.place cell o.target row.copied
      o.copied c o.copies in
      omega (arith, o.before_document, same.1)

  stored_high : {cell : ℕ} {value : List ℕ} → StoredRow p cell value
      → document_at p.start p.reserved (length (stored_of p)) (length p.journal) ≤ cell
  stored_high {cell} {value} row = ⊎_elim
      (λ (c : ContentRow p cell value). omega (arith, c.at))
      (λ (c : CopyRow p cell value). omega (arith, c.at))
      row

  pool_from : pool_at g ≤ p.start
  pool_from = let r = slot_reserves i in r.from

  -- what is stored lies in the slot's cells, or in its spare cell
  not_stored : {cell : ℕ} {value : List ℕ} → Row p Storing cell value
      → (p.start ≤ cell → document_at p.start p.reserved (length (stored_of p)) (length p.journal) ≤ cell → ⊥)
      → (cell ≡ spare_at p.slot → ⊥) → ⊥
  not_stored {cell} {value} row far spare = ⊎_elim
      (λ stored. far (stored_from i stored) (stored_high stored))
      (λ (s : StampRow p cell value). spare s.row.at)
      row

  -- no cell is of two phases
  apart : (one : Phase) (two : Phase) → order_of one < order_of two → (cell : ℕ) (v w : List ℕ)
      → Row p one cell v → Row p two cell w → ⊥
  apart Reserving Reserving less cell v w a b = omega arith
  apart Reserving Storing less cell v w a b =
      not_stored b (λ far high. omega (arith, far, a.at, i.free, pool_from)) (λ at. omega (arith, at, a.at))
  apart Reserving Committing less cell v w a b = omega (arith, a.at, b.at)
  apart Reserving Applying less cell v w a b = let far = applied_far i b in omega (arith, far, a.at, i.free)
  apart Reserving Finishing less cell v w a b = omega (arith, a.at, b.at)
  apart Storing Committing less cell v w a b =
      not_stored a (λ far high. omega (arith, far, b.at, i.free, pool_from)) (λ at. omega (arith, at, b.at))
  apart Storing Applying less cell v w a b = let low = applied_low b in let above =
      applied_far i b in not_stored a (λ far high. omega arith) (λ at. omega (arith, at, above, i.free))
  apart Storing Finishing less cell v w a b =
      not_stored a (λ far high. omega (arith, far, b.at, i.free, pool_from)) (λ at. omega (arith, at, b.at))
  apart Committing Applying less cell v w a b = let far = applied_far i b in omega (arith, far, a.at, i.free)
  apart Committing Finishing less cell v w a b = omega (arith, a.at, b.at)
  apart Applying Finishing less cell v w a b = let far = applied_far i a in omega (arith, far, b.at, i.free)
  apart Storing Reserving less cell v w a b = omega arith
  apart Storing Storing less cell v w a b = omega arith
  apart Committing Reserving less cell v w a b = omega arith
  apart Committing Storing less cell v w a b = omega arith
  apart Committing Committing less cell v w a b = omega arith
  apart Applying Reserving less cell v w a b = omega arith
  apart Applying Storing less cell v w a b = omega arith
  apart Applying Committing less cell v w a b = omega arith
  apart Applying Applying less cell v w a b = omega arith
  apart Finishing Reserving less cell v w a b = omega arith
  apart Finishing Storing less cell v w a b = omega arith
  apart Finishing Committing less cell v w a b = omega arith
  apart Finishing Applying less cell v w a b = omega arith
  apart Finishing Finishing less cell v w a b = omega arith

  in_phases : {image : Image} (phase : Phase) → IsLeftIn p old image phase → IsInPhases p old image
  in_phases {image} phase l earlier later less cell value row none is other held first = ⊎_elim
      (λ was. absurd (none-some _ (sym none ∙ was)))
      (λ (h : (one : Phase) × (order_of one ≤ order_of phase) × Row p one cell value). ⊎_elim
      (λ low. absurd (apart h.0 later low cell value value h.2 row))
      (λ high. l.before earlier (omega (arith, h.1)) other held first)
      (cases_lt (order_of h.0) (order_of later)))
      (l.only cell value is)

  pub left_sound : (image : Image) (phase : Phase) → IsLeftIn p old image phase
      → LeavesSound g.cells old new p.slot image
  left_sound image phase l = leaves_sound i l.keeps
      (record {
        keeps = λ cell value is. ⊎_elim
            (λ was. i.rows.keeps.keeps cell value was)
            (λ (h : (one : Phase) × (order_of one ≤ order_of phase) × Row p one cell value). i.rows.adds cell
            value (h.0, h.2))
            (l.only cell value is);
      })
      (in_phases phase l)
