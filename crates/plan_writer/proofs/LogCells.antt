-- Which phase puts which cell of a plan.
use Rattle.std.proofs.Common.{◌≡◌, ◌≢◌, ◌≤◌, ◌<◌, ◌+◌, ℕ, zero, suc, List, Option, Some, length, refl, sym, ap, ◌∙◌, ⊎_elim, arith}
use Rattle.std.specs.Prelude.{slice_get}
use Rattle.std.proofs.lemmas.Option.{slice_get_within}
use Rattle.cell_types.specs.Layout.{Layout, reserve_at, outcome_at, done_at, spare_at, lists_at}
use Rattle.recovery_engine.specs.declared.put.Put.{Put}
use Rattle.recovery_engine.specs.Putting.{IsInRow}
use Rattle.recovery_engine.specs.Ending.{done_put}
use Rattle.volume_meaning.proofs.Holding.{some_is}
use Rattle.tamper_rules.specs.declared.numbers.TheConstants.{STRAY_CELL}
use Rattle.plan_writer.specs.Planned.{IsAskedPut, IsPooledPut, IsStampPut, IsStoredPut, Suits, commit_put, document_from, ingest_phases, journal_from, reserve_put, reserved_by, stamp_put}
use Rattle.plan_writer.specs.declared.plan.Plan.{Plan}
use Rattle.plan_writer.proofs.Targets.{asked_below, asked_from, asked_once}

-- the document and the journal lie in the cells that are reserved
pub pooled_from : (p : Plan) (put : Put) → IsPooledPut p put → document_from p ≤ put.at
pooled_from p put h = ⊎_elim
    (λ (a : IsInRow (document_from p) p.document.now STRAY_CELL put). omega (arith, a.at))
    (λ (b : IsInRow (journal_from p) p.journal.now STRAY_CELL put). omega (arith, b.at))
    h

pub pooled_to : (p : Plan) (put : Put) → IsPooledPut p put → put.at < p.start + (reserved_by p).length
pooled_to p put h = ⊎_elim
    (λ (a : IsInRow (document_from p) p.document.now STRAY_CELL put).
    omega (arith, a.at, slice_get_within p.document.now a.place put.value a.value))
    (λ (b : IsInRow (journal_from p) p.journal.now STRAY_CELL put).
    omega (arith, b.at, slice_get_within p.journal.now b.place put.value b.value))
    h

row_once : (from rule : ℕ) (cells : List (List ℕ)) (a b : Put) → IsInRow from cells rule a → IsInRow from cells rule b
    → b.at ≡ a.at → b.value ≡ a.value
row_once from rule cells a b p q e =
    let same : q.place ≡ p.place = omega (arith, p.at, q.at, e) in
    some_is b.value a.value (sym q.value ∙ ap (slice_get cells) same ∙ p.value)

pooled_once : (p : Plan) (put other : Put) → IsPooledPut p put → IsPooledPut p other → other.at ≡ put.at
    → other.value ≡ put.value
pooled_once p put other one two e = ⊎_elim
    (λ (a : IsInRow (document_from p) p.document.now STRAY_CELL put). ⊎_elim
    (λ (c : IsInRow (document_from p) p.document.now STRAY_CELL other).
    row_once (document_from p) STRAY_CELL p.document.now put other a c e)
    (λ (d : IsInRow (journal_from p) p.journal.now STRAY_CELL other).
    absurd (omega (arith, a.at, d.at, e, slice_get_within p.document.now a.place put.value a.value)))
    two)
    (λ (b : IsInRow (journal_from p) p.journal.now STRAY_CELL put). ⊎_elim
    (λ (c : IsInRow (document_from p) p.document.now STRAY_CELL other).
    absurd (omega (arith, b.at, c.at, e, slice_get_within p.document.now c.place other.value c.value)))
    (λ (d : IsInRow (journal_from p) p.journal.now STRAY_CELL other).
    row_once (journal_from p) STRAY_CELL p.journal.now put other b d e)
    two)
    one

at_of : (a b : Put) → a ≡ b → a.at ≡ b.at
at_of a b e = ap (λ (x : Put). x.at) e

some_once : (stamp : Option ℕ) (a b : ℕ) → stamp ≡ Some a → stamp ≡ Some b → a ≡ b
some_once stamp a b p q = cc

-- a slot has one stamp cell
stamp_once : (n : ℕ) (stamp : Option ℕ) (put other : Put) → IsStampPut n stamp put → IsStampPut n stamp other
    → other.value ≡ put.value
stamp_once n stamp put other a b =
    let same : b.seconds ≡ a.seconds = some_once stamp b.seconds a.seconds b.given a.given in
    ap (λ (x : Put). x.value) b.is ∙ ap (λ (s : ℕ). (stamp_put n s).value) same ∙ sym (ap (λ (x : Put). x.value) a.is)

pub stamp_at : (n : ℕ) (stamp : Option ℕ) (put : Put) → IsStampPut n stamp put → put.at ≡ spare_at n
stamp_at n stamp put a = at_of put _ a.is

module _ (g : Layout) (n : ℕ) (p : Plan) (less : n < g.slots) (suits : Suits g p) where
  -- what is stored is the slot's spare cell, and cells of the pool
  stored_apart : (put : Put) → IsStoredPut n p put → put.at < lists_at g → put.at ≢ spare_at n → ⊥
  stored_apart put h low other = ⊎_elim
      (λ (a : IsStampPut n p.stamp put). other (stamp_at n p.stamp put a))
      (λ (b : IsPooledPut p put). omega (arith, low, pooled_from p put b, suits.from))
      h

  -- the reserve cell is put in the first phase
  pub reserve_in : (j : ℕ) (put : Put) → ingest_phases n p j put → put.at ≡ reserve_at n
      → (j ≡ 0) × (put ≡ reserve_put n (reserved_by p))
  reserve_in zero put h here = (refl, h)
  reserve_in (suc zero) put h here =
      absurd (stored_apart put h (omega (arith, here, less)) (λ e. omega (arith, here, e)))
  reserve_in (suc (suc zero)) put h here = absurd (omega (arith, here, at_of put _ h))
  reserve_in (suc (suc (suc zero))) put h here = absurd (omega (arith, asked_from g p suits put h, here, less))
  reserve_in (suc (suc (suc (suc zero)))) put h here = absurd (omega (arith, here, at_of put _ h))
  reserve_in (suc (suc (suc (suc (suc j))))) put h here = absurd h

  -- the commit cell in the third
  pub commit_in : (j : ℕ) (put : Put) → ingest_phases n p j put → put.at ≡ outcome_at n
      → (j ≡ 2) × (put ≡ commit_put n p.bytes (length p.journal.now))
  commit_in zero put h here = absurd (omega (arith, here, at_of put _ h))
  commit_in (suc zero) put h here =
      absurd (stored_apart put h (omega (arith, here, less)) (λ e. omega (arith, here, e)))
  commit_in (suc (suc zero)) put h here = (refl, h)
  commit_in (suc (suc (suc zero))) put h here = absurd (omega (arith, asked_from g p suits put h, here, less))
  commit_in (suc (suc (suc (suc zero)))) put h here = absurd (omega (arith, here, at_of put _ h))
  commit_in (suc (suc (suc (suc (suc j))))) put h here = absurd h

  -- the done cell in the last
  pub done_in : (j : ℕ) (put : Put) → ingest_phases n p j put → put.at ≡ done_at n → (j ≡ 4) × (put ≡ done_put n)
  done_in zero put h here = absurd (omega (arith, here, at_of put _ h))
  done_in (suc zero) put h here =
      absurd (stored_apart put h (omega (arith, here, less)) (λ e. omega (arith, here, e)))
  done_in (suc (suc zero)) put h here = absurd (omega (arith, here, at_of put _ h))
  done_in (suc (suc (suc zero))) put h here = absurd (omega (arith, asked_from g p suits put h, here, less))
  done_in (suc (suc (suc (suc zero)))) put h here = (refl, h)
  done_in (suc (suc (suc (suc (suc j))))) put h here = absurd h

  -- a cell of the document or the journal is put with one value
  pub once_pooled : (put : Put) → IsPooledPut p put → (j : ℕ) (other : Put) → ingest_phases n p j other
      → other.at ≡ put.at → other.value ≡ put.value
  once_pooled put pooled zero other h e =
      absurd (omega (arith, at_of other _ h, e, pooled_from p put pooled, suits.from, less))
  once_pooled put pooled (suc zero) other h e = ⊎_elim
      (λ (a : IsStampPut n p.stamp other).
      absurd (omega (arith, stamp_at n p.stamp other a, e, pooled_from p put pooled, suits.from, less)))
      (λ (b : IsPooledPut p other). pooled_once p put other pooled b e)
      h
  once_pooled put pooled (suc (suc zero)) other h e =
      absurd (omega (arith, at_of other _ h, e, pooled_from p put pooled, suits.from, less))
  once_pooled put pooled (suc (suc (suc zero))) other h e =
      absurd (omega (arith, asked_below g p suits other h, e, pooled_from p put pooled))
  once_pooled put pooled (suc (suc (suc (suc zero)))) other h e =
      absurd (omega (arith, at_of other _ h, e, pooled_from p put pooled, suits.from, less))
  once_pooled put pooled (suc (suc (suc (suc (suc j))))) other h e = absurd h

  -- and so is the stamp cell
  pub once_stamped : (put : Put) → IsStampPut n p.stamp put → (j : ℕ) (other : Put) → ingest_phases n p j other
      → other.at ≡ put.at → other.value ≡ put.value
  once_stamped put stamp zero other h e =
      absurd (omega (arith, at_of other _ h, e, stamp_at n p.stamp put stamp))
  once_stamped put stamp (suc zero) other h e = ⊎_elim
      (λ (a : IsStampPut n p.stamp other). stamp_once n p.stamp put other stamp a)
      (λ (b : IsPooledPut p other).
      absurd (omega (arith, stamp_at n p.stamp put stamp, e, pooled_from p other b, suits.from, less)))
      h
  once_stamped put stamp (suc (suc zero)) other h e =
      absurd (omega (arith, at_of other _ h, e, stamp_at n p.stamp put stamp))
  once_stamped put stamp (suc (suc (suc zero))) other h e =
      absurd (omega (arith, asked_from g p suits other h, e, stamp_at n p.stamp put stamp, less))
  once_stamped put stamp (suc (suc (suc (suc zero)))) other h e =
      absurd (omega (arith, at_of other _ h, e, stamp_at n p.stamp put stamp))
  once_stamped put stamp (suc (suc (suc (suc (suc j))))) other h e = absurd h

  -- and so is each that the journal asks for
  pub once_asked : (put : Put) → IsAskedPut (journal_from p) p.journal.now put
      → (j : ℕ) (other : Put) → ingest_phases n p j other → other.at ≡ put.at → other.value ≡ put.value
  once_asked put asked zero other h e =
      absurd (omega (arith, at_of other _ h, e, asked_from g p suits put asked, less))
  once_asked put asked (suc zero) other h e = ⊎_elim
      (λ (a : IsStampPut n p.stamp other).
      absurd (omega (arith, stamp_at n p.stamp other a, e, asked_from g p suits put asked, less)))
      (λ (b : IsPooledPut p other).
      absurd (omega (arith, asked_below g p suits put asked, e, pooled_from p other b)))
      h
  once_asked put asked (suc (suc zero)) other h e =
      absurd (omega (arith, at_of other _ h, e, asked_from g p suits put asked, less))
  once_asked put asked (suc (suc (suc zero))) other h e = asked_once g p suits put other asked h e
  once_asked put asked (suc (suc (suc (suc zero)))) other h e =
      absurd (omega (arith, at_of other _ h, e, asked_from g p suits put asked, less))
  once_asked put asked (suc (suc (suc (suc (suc j))))) other h e = absurd h
