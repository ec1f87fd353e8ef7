-- Rules 4 to 6 at slots that are stored.
use Rattle.std.proofs.Common.{◌≡◌, ◌<◌, inl, inr, ℕ, Some, sym, ◌∙◌, subst, ap, arith}
use Rattle.std.proofs.lemmas.Option.{none-some}
use Rattle.cell_types.specs.Image.{Image}
use Rattle.cell_types.specs.Layout.{Layout, outcome_at}
use Rattle.cell_types.specs.declared.refusal.Evidence.{Evidence}
use Rattle.volume_meaning.specs.Documents.{document_at}
use Rattle.volume_meaning.specs.Slots.{Stores}
use Rattle.volume_meaning.specs.Volumes.{IsWritten}
use Rattle.tamper_rules.specs.Rules.{HasDocument, DocumentRule, JournalRule, Journals, RedoneRule, number_of}
use Rattle.log_audit.specs.Findings.{IsLeastBroken}
use Rattle.log_audit.specs.Logs.{IsLog}
use Rattle.log_audit.specs.Stored.{IsStored}
use Rattle.log_audit.specs.declared.log.Log.{Log}
use Rattle.log_audit.specs.declared.stored.StoredSlot.{StoredSlot}
use Rattle.log_audit.proofs.Storing.{stores_it, one_row}
use Rattle.slot_audit.specs.Journals.{AreAllWritten, AreWritten, IsOrdered, IsRedone, journal_cell}
use Rattle.slot_audit.proofs.Going.{AreGoodTo, in_pool, stored_of}
use Rattle.slot_audit.proofs.Ordering.{has_target, one_target}

-- rule 4 at a slot that is stored
pub document_rule : {g : Layout} {image : Image} {s : StoredSlot} {n at : ℕ} → IsStored g image s → s.slot ≡ n
    → at ≡ document_at s.start s.length s.bytes s.journal → HasDocument image at s.bytes → DocumentRule g image n
document_rule {g} {image} {s} {n} {at} is same where_it has a b c d stores =
    let row = one_row is same stores in
    let e = row.0 in let f = row.1 in let h = row.2 in let k = row.3 in
    let place : at ≡ document_at a b c d = where_it ∙ (cc) in
    subst (λ (m : ℕ). HasDocument image (document_at a b c d) m) (sym h)
    (subst (λ (m : ℕ). HasDocument image m s.bytes) place has)

pub no_document_rule : {g : Layout} {image : Image} {s : StoredSlot} {n at : ℕ} → IsStored g image s → s.slot ≡ n
    → at ≡ document_at s.start s.length s.bytes s.journal → (HasDocument image at s.bytes → ⊥) → DocumentRule g image n → ⊥
no_document_rule {g} {image} {s} {n} {at} is same where_it none rule =
    none (subst (λ (m : ℕ). HasDocument image m s.bytes) (sym where_it)
    (rule s.start s.length s.bytes s.journal
    (subst (λ (k : ℕ). Stores g image k s.start s.length s.bytes s.journal) same (stores_it is))))

module _ {g : Layout} {image : Image} {log : Log} (is : IsLog g image log) where
  -- rule 5 at a cell, where each journal cell is written: each place that stands there is in order
  pub journal_rule : AreAllWritten g image → (cell : ℕ)
      → ((t : StoredSlot) → IsStored g image t → (q : ℕ) → q < t.journal → cell ≡ journal_cell t q → IsOrdered g image t q)
      → JournalRule g image cell
  journal_rule written cell ordered = record {
    copy = λ n a b c d place stores less at. ordered _ (stored_of is n a b c d stores) place less at;
    commit = λ n a b c d place stores less at. written _ (stored_of is n a b c d stores) place less;
  }

  -- rule 6 at a cell: each place that stands there holds no copy, or one of a cell that holds the same
  pub redone_rule : (cell : ℕ)
      → ((t : StoredSlot) → IsStored g image t → (q : ℕ) → q < t.journal → cell ≡ journal_cell t q → IsRedone image t q)
      → RedoneRule g image cell
  redone_rule cell redone = record {
    done = λ n a b c d place target copied done copy at.
        let stored = stored_of is n a b c d (record { commits = done.commits; done = inr done.done }) in
        redone _ stored place copy.below at target (has_target copy) ∙ ap image (sym at);
    committed = λ n a b c d place target copied committed copy at.
        let stored = stored_of is n a b c d (record { commits = committed.commits; done = inl committed.done }) in
        absurd (none-some stored.done.done.cell (sym committed.done ∙ stored.done.done.stands));
  }

  -- A journal has a blank cell, and those of the slots below it have none.
  pub blank_is_least : {s : StoredSlot} (e : Evidence) → IsStored g image s → e.rule ≡ number_of Journals
      → e.cell ≡ outcome_at s.slot → image e.cell ≡ Some e.found
      → AreGoodTo g image (λ t q. IsWritten image (journal_cell t q)) s.slot → (AreWritten image s → ⊥)
      → IsLeastBroken g image Journals e
  blank_is_least {s} e stored number at stands good blank = record {
    number = number;
    place = inl (s.slot, inside, at);
    stands = stands;
    not_met = λ rule. blank (λ q less. rule.commit s.slot s.start s.length s.bytes s.journal q (stores_it stored) less at);
    below = λ cell under written. record {
      copy = λ n a b c d place stores less there.
          let pool = in_pool (stored_of is n a b c d stores) less there in absurd (omega (arith, pool.0, under, at, inside));
      commit = λ n a b c d place stores less there.
          good.each _ (stored_of is n a b c d stores) (omega (arith, there, under, at)) place less;
    };
  }
    where
      inside : s.slot < g.slots
      inside = stored.done.commits.reserves.slot

-- where rule 5 is kept at a journal cell, its place is in order
pub ordered_so : {g : Layout} {image : Image} {s : StoredSlot} {place cell : ℕ} → IsStored g image s → place < s.journal
    → cell ≡ journal_cell s place → JournalRule g image cell → IsOrdered g image s place
ordered_so {g} {image} {s} {place} {cell} stored less at rule =
    rule.copy s.slot s.start s.length s.bytes s.journal place (stores_it stored) less at

-- where rule 6 is kept at a journal cell that is in order, its target holds the same
pub redone_so : {g : Layout} {image : Image} {s : StoredSlot} {place cell : ℕ} → IsStored g image s → place < s.journal
    → cell ≡ journal_cell s place → IsOrdered g image s place → RedoneRule g image cell → IsRedone image s place
redone_so {g} {image} {s} {place} {cell} stored less at o rule target h =
    ap image (sym (one_target (has_target o.copies) h))
    ∙ rule.done s.slot s.start s.length s.bytes s.journal place o.target o.copied stored.done o.copies at ∙ ap image at
