-- Going through journals by rising slot and place: what is good so far, and the least cell at which a rule is broken.
use Rattle.std.proofs.Common.{◌≡◌, ◌<◌, ◌≤◌, ◌+◌, ⊎_elim, ℕ, true, false, List, Option, Some, None, sym, ◌∙◌, subst, ap, arith}
use Rattle.std.specs.Prelude.{is_some}
use Rattle.std.proofs.lemmas.Option.{none-some}
use Rattle.std.proofs.lemmas.Bool.{cases_order}
use Rattle.cell_types.specs.Image.{Image}
use Rattle.cell_types.specs.Layout.{Layout}
use Rattle.cell_types.specs.declared.refusal.Evidence.{Evidence}
use Rattle.volume_meaning.specs.Slots.{Stores}
use Rattle.volume_meaning.specs.Volumes.{IsWritten}
use Rattle.tamper_rules.specs.Rules.{Rule, ReserveCells, IsMet, IsPlace, IsOfPool}
use Rattle.log_audit.specs.Findings.{IsMetAll, IsLeastBroken}
use Rattle.log_audit.specs.Logs.{IsLog}
use Rattle.log_audit.specs.Stored.{IsStored}
use Rattle.log_audit.specs.declared.log.Log.{Log}
use Rattle.log_audit.specs.declared.stored.StoredSlot.{StoredSlot}
use Rattle.log_audit.proofs.Logged.{before, stores_of}
use Rattle.log_audit.proofs.Storing.{stored_there, stores_it, one_row}
use Rattle.slot_audit.specs.Journals.{IsFirstPlace, journal_cell}

-- a slot that is committed or done is stored, by the log
pub stored_of : {g : Layout} {image : Image} {log : Log} → IsLog g image log → (n a b c d : ℕ) → Stores g image n a b c d
    → IsStored g image (record { slot = n; start = a; length = b; bytes = c; journal = d })
stored_of {g} {image} {log} is n a b c d stores =
    stored_there log is n a b c d (stores_of g image log is n a b c d stores)

-- a slot is stored by one row of numbers
same_row : {g : Layout} {image : Image} {s t : StoredSlot} → IsStored g image s → IsStored g image t → t.slot ≡ s.slot
    → t ≡ s
same_row {g} {image} {s} {t} x y same =
    let row = one_row x (sym same) (stores_it y) in
    let a = row.0 in let b = row.1 in let c = row.2 in let d = row.3 in
    let e : made t.slot t.start t.length t.bytes t.journal ≡ made s.slot s.start s.length s.bytes s.journal = cc in e
  where
    made : ℕ → ℕ → ℕ → ℕ → ℕ → StoredSlot
    made n a b c d = record { slot = n; start = a; length = b; bytes = c; journal = d }

-- a cell in which nothing was found is not written
pub blank_by : {image : Image} {cell at : ℕ} {found : Option (List ℕ)} → found ≡ image cell → is_some found ≡ false
    → cell ≡ at → IsWritten image at → ⊥
blank_by {image} {cell} {at} {found = None} is none same written =
    none-some written.found (is ∙ ap image same ∙ written.stands)
blank_by {image} {cell} {at} {found = Some v} is none same written = let clash : true ≡ false = none in cc

-- each place of the journal of each stored slot below n is good
pub record AreGoodTo (g : Layout) (image : Image) (Good : StoredSlot → ℕ → Type 0) (n : ℕ) : Type 0 where
  pub each : (s : StoredSlot) → IsStored g image s → s.slot < n → (place : ℕ) → place < s.journal → Good s place

pub none_yet : {g : Layout} {image : Image} {Good : StoredSlot → ℕ → Type 0} → AreGoodTo g image Good 0
none_yet = record { each = λ s is less. absurd (omega (arith, less)) }

-- a slot that holds no document
pub none_more : {g : Layout} {image : Image} {Good : StoredSlot → ℕ → Type 0} {n : ℕ} → AreGoodTo g image Good n
    → ((a b c d : ℕ) → Stores g image n a b c d → ⊥) → AreGoodTo g image Good (n + 1)
none_more {g} {image} {Good} {n} good none = record {
  each = λ s is less. ⊎_elim
      (λ same. absurd (none s.start s.length s.bytes s.journal
      (subst (λ (k : ℕ). Stores g image k s.start s.length s.bytes s.journal) same (stores_it is))))
      (λ differ. ⊎_elim (λ below. good.each s is below) (λ above. absurd (omega (arith, above, less))) differ)
      (cases_order s.slot n);
}

-- a slot whose places are good
pub slot_more : {g : Layout} {image : Image} {Good : StoredSlot → ℕ → Type 0} {n : ℕ} {s : StoredSlot}
    → AreGoodTo g image Good n → IsStored g image s → s.slot ≡ n → ((place : ℕ) → place < s.journal → Good s place)
    → AreGoodTo g image Good (n + 1)
slot_more {g} {image} {Good} {n} {s} good stored here places = record {
  each = λ t is less. ⊎_elim
      (λ same. subst (λ (x : StoredSlot). (place : ℕ) → place < x.journal → Good x place)
      (sym (same_row stored is (same ∙ sym here))) places)
      (λ differ. ⊎_elim (λ below. good.each t is below) (λ above. absurd (omega (arith, above, less))) differ)
      (cases_order t.slot n);
}

-- all slots
pub all_good : {g : Layout} {image : Image} {Good : StoredSlot → ℕ → Type 0} {n : ℕ} → AreGoodTo g image Good n
    → g.slots ≤ n → (s : StoredSlot) → IsStored g image s → (place : ℕ) → place < s.journal → Good s place
all_good good past s is = good.each s is (omega (arith, past, is.done.commits.reserves.slot))

-- a journal cell lies in the pool
pub in_pool : {g : Layout} {image : Image} {s : StoredSlot} {place cell : ℕ} → IsStored g image s → place < s.journal
    → cell ≡ journal_cell s place → IsOfPool g cell
in_pool {g} {image} {s} {place} {cell} is less at =
    let from = is.done.commits.reserves.from in
    let to = is.done.commits.reserves.to in
    let fits = is.cells.fits in
    (omega (arith, from, fits, at), omega (arith, to, fits, at, less))

module _ (g : Layout) (image : Image) (met : IsMetAll g image ReserveCells) (rule : Rule)
    (Good : StoredSlot → ℕ → Type 0) where
  -- The slots below this one are good, and this place is the first one of it that is not.
  pub least_place : {s : StoredSlot} {e : Evidence} → IsStored g image s → AreGoodTo g image Good s.slot
      → (first : IsFirstPlace (Good s) image rule s e) → IsPlace g rule e.cell
      → ((cell : ℕ) → ((t : StoredSlot) → IsStored g image t → (q : ℕ) → q < t.journal → cell ≡ journal_cell t q → Good t q)
      → IsMet g image rule cell)
      → (IsMet g image rule e.cell → Good s first.place)
      → IsLeastBroken g image rule e
  least_place {s} {e} stored good first place ask unmet = record {
    number = first.number;
    place = place;
    stands = first.stands;
    not_met = λ is. first.bad (unmet is);
    below = λ cell less written. ask cell (λ t is q inside at. ⊎_elim
        (λ same. let eq = same_row stored is same in
        subst (λ (x : StoredSlot). Good x q) (sym eq) (first.before q (lower eq cell less at)))
        (λ differ. ⊎_elim
        (λ under. good.each t is under q inside)
        (λ over. absurd (let apart = before g image met s.slot t.slot s.start s.length t.start t.length over
        stored.done.commits.reserves is.done.commits.reserves in
        omega (arith, apart, less, at, first.cell, first.inside, stored.cells.fits, is.cells.fits)))
        differ)
        (cases_order t.slot s.slot));
  }
    where
      lower : {t : StoredSlot} {q : ℕ} → t ≡ s → (cell : ℕ) → cell < e.cell → cell ≡ journal_cell t q → q < first.place
      lower {t} {q} eq cell less at =
          let one : cell ≡ journal_cell s q = subst (λ (x : StoredSlot). cell ≡ journal_cell x q) eq at in
          omega (arith, one, less, first.cell)
