-- The cells that a plan's journal asks for: they rise, from the first list on and up to the document.
use Rattle.std.proofs.Common.{◌≡◌, ◌≤◌, ◌<◌, ◌+◌, ℕ, length, Some, sym, ◌∙◌, subst, arith}
use Rattle.std.specs.Prelude.{slice_get}
use Rattle.std.proofs.lemmas.Option.{slice_get_within}
use Rattle.cell_types.specs.Layout.{Layout, lists_at}
use Rattle.recovery_engine.specs.declared.put.Put.{Put}
use Rattle.recovery_engine.proofs.Rising.{entries_apart, entries_below, entries_from}
use Rattle.plan_writer.specs.Planned.{IsAskedPut, Suits, document_from, journal_from, laid}
use Rattle.plan_writer.specs.declared.plan.Plan.{Plan}

module _ (g : Layout) (p : Plan) (suits : Suits g p) where
  -- a cell of the journal, as one of its image
  there : (put : Put) (a : IsAskedPut (journal_from p) p.journal.now put)
      → laid (journal_from p) p.journal.now (journal_from p + a.k) ≡ Some put.value
  there put a = subst (λ (m : ℕ). slice_get p.journal.now m ≡ Some put.value) (omega arith) a.value

  within : (put : Put) (a : IsAskedPut (journal_from p) p.journal.now put) → a.k < length p.journal.now
  within put a = slice_get_within p.journal.now a.k put.value a.value

  -- what is asked for lies from the first list on
  pub asked_from : (put : Put) → IsAskedPut (journal_from p) p.journal.now put → lists_at g ≤ put.at
  asked_from put a =
      omega (
        arith,
        a.at,
        entries_from (lists_at g) (laid (journal_from p) p.journal.now) (journal_from p) (document_from p)
            (length p.journal.now) suits.entries a.k put.value (within put a) (there put a),
      )

  -- and before the document
  pub asked_below : (put : Put) → IsAskedPut (journal_from p) p.journal.now put → put.at < document_from p
  asked_below put a =
      omega (
        arith,
        a.at,
        entries_below (lists_at g) (laid (journal_from p) p.journal.now) (journal_from p) (document_from p)
            (length p.journal.now) suits.entries a.k put.value (within put a) (there put a),
      )

  -- and with one value
  pub asked_once : (put other : Put) → IsAskedPut (journal_from p) p.journal.now put
      → IsAskedPut (journal_from p) p.journal.now other → other.at ≡ put.at → other.value ≡ put.value
  asked_once put other a b same =
      entries_apart (lists_at g) (laid (journal_from p) p.journal.now) (journal_from p) (document_from p)
      (length p.journal.now) suits.entries b.k a.k other.value put.value (within other b) (within put a) (there other b)
      (there put a) (sym b.at ∙ same ∙ a.at)
