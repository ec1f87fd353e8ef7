-- Journal cells, looked at one after another.
use Rattle.std.proofs.Common.{◌≡◌, ◌<◌, ◌≤◌, ◌+◌, ◌⊎◌, ℕ, List, Some, None, refl, sym, ap, ◌∙◌, inl, inr, ⊎_elim, subst, arith, below_more}
use Rattle.std.proofs.lemmas.Option.{none-some, same_Some}
use Rattle.std.specs.Prelude.{IsTrue, Ok, Err}
use Rattle.cell_types.specs.Image.{Image, Extends, IsUnchanged}
use Rattle.recovery_engine.specs.Entries.{target_of, IsCopy, IsFit, IsUnfit, IsFloor, AreEntries}
use Rattle.cell_types.specs.declared.refusal.Evidence.{Evidence}
use Rattle.cell_types.specs.declared.refusal.Fault.{Fault}
use Rattle.cell_types.specs.declared.refusal.Fault.TheVariants.{Tampered, Failed}
use Rattle.worm_device.specs.Calls.{Called}
use Rattle.worm_device.specs.Counts.{IsStill}
use Rattle.worm_device.specs.State.{DeviceState}
use Rattle.worm_device.proofs.Elapsing.{called_then}
use Rattle.recovery_engine.specs.declared.put.Put.{Put}
use Rattle.recovery_engine.specs.declared.put.Blame.{Blame}
use Rattle.recovery_engine.specs.declared.put.Blame.TheVariants as blames
use Rattle.recovery_engine.specs.Putting.{Puts, PutsPhase, IsThis}
use Rattle.recovery_engine.proofs.Phasing.{below_or_at, false_true, only_looked, changes_wider, puts_more, puts_ended, puts_looked, phase_ended}
use Rattle.recovery_engine.specs.declared.journal.Journal.{Journal}
use Rattle.recovery_engine.specs.Journal.{IsEntryOf, IsEntryPut, IsUnfitAt, JournalEntryEnds}

-- the floor of journal cell n, where the cells before it are entries, and lie below it
pub record CheckedTo (first : ℕ) (image : Image) (place below n floor : ℕ) : Type 0 where
  pub entries : AreEntries first image place below n
  pub floor_is : IsFloor first image place n floor
  pub lower : (k : ℕ) (cell : List ℕ) → k < n → image (place + k) ≡ Some cell → target_of cell < floor

pub floor_on : {old new : Image} (first place k floor : ℕ) → Extends old new → IsFloor first old place k floor
    → IsFloor first new place k floor
floor_on {old} {new} first place k floor e f = ⊎_elim inl
    (λ (b : (m : ℕ) × (before : List ℕ) × (k ≡ m + 1) × (old (place + m) ≡ Some before) ×
    (floor ≡ target_of before + 1)). inr (b.0, b.1, b.2, e.keeps (place + b.0) b.1 b.3, b.4))
    f

pub entries_on : {old new : Image} (first place below n : ℕ) → Extends old new → AreEntries first old place below n
    → AreEntries first new place below n
entries_on {old} {new} first place below n e entries k less =
    let h = entries k less in
    record {
      cell = h.cell;
      floor = h.floor;
      stands = e.keeps (place + k) h.cell h.stands;
      floor_is = floor_on first
          place k h.floor e h.floor_is;
      fit = h.fit;
    }

-- one floor for each journal cell
pub floor_one : (first : ℕ) (image : Image) (place k floor floor' : ℕ) → IsFloor first image place k floor
    → IsFloor first image place k floor' → floor ≡ floor'
floor_one first image place k floor floor' p q = ⊎_elim
    (λ (a : (k ≡ 0) × (floor ≡ first)). ⊎_elim
    (λ (b : (k ≡ 0) × (floor' ≡ first)). a.1 ∙ sym b.1)
    (λ (b : (m : ℕ) × (before : List ℕ) × (k ≡ m + 1) × (image (place + m) ≡ Some before) ×
    (floor' ≡ target_of before + 1)). absurd (omega (arith, a.0, b.2)))
    q)
    (λ (a : (m : ℕ) × (before : List ℕ) × (k ≡ m + 1) × (image (place + m) ≡ Some before) ×
    (floor ≡ target_of before + 1)). ⊎_elim
    (λ (b : (k ≡ 0) × (floor' ≡ first)). absurd (omega (arith, b.0, a.2)))
    (λ (b : (m : ℕ) × (before : List ℕ) × (k ≡ m + 1) × (image (place + m) ≡ Some before) ×
    (floor' ≡ target_of before + 1)).
    let same : b.0 ≡ a.0 = omega (arith, a.2, b.2) in
    let value : a.1 ≡ b.1 = same_Some a.1 b.1 (sym a.3 ∙ ap (λ (m : ℕ). image (place + m)) (sym same) ∙ b.3) in
    a.4 ∙ ap (λ (v : List ℕ). target_of v + 1) value ∙ sym b.4)
    q)
    p

-- no cell yet
pub checked_none : (first : ℕ) (image : Image) (place below : ℕ) → CheckedTo first image place below 0 first
checked_none first image place below = record {
  entries = λ k less. absurd (omega (arith, less));
  floor_is = inl
      (refl, refl);
  lower = λ k cell less stands. absurd (omega (arith, less));
}

-- the same later
pub checked_on : {old new : Image} {first place below n floor : ℕ} → Extends old new
    → CheckedTo first old place below n floor → CheckedTo first new place below n floor
checked_on {old} {new} {first} {place} {below} {n} {floor} e c = record {
  entries = entries_on first place below n e c.entries;
  floor_is = floor_on first place n floor e c.floor_is;
  lower = λ k cell less stands.
      let h = c.entries k less in
      c.lower k cell less (h.stands ∙ ap Some (same_Some h.cell cell
      (sym (e.keeps (place + k) h.cell h.stands) ∙ stands)));
}

-- one cell more
pub checked_more : (first : ℕ) (image : Image) (place below n floor next : ℕ) (put : Put)
    → CheckedTo first image place below n floor → IsFit floor below put.value → put.at ≡ target_of put.value
    → IsEntryOf image place n put → next ≡ put.at + 1 → CheckedTo first image place below (n + 1) next
checked_more first image place below n floor next put c fit at is next_is = record {
  entries = below_more _ n c.entries
      (record { cell = put.value; floor = floor; stands = is.stands; floor_is = c.floor_is; fit = fit });
  floor_is = inr (n, put.value, refl, is.stands, next_is ∙ ap (λ (a : ℕ). a + 1) at);
  lower = λ k cell less stands. ⊎_elim
      (λ (earlier : k < n). omega (arith, c.lower k cell earlier stands, fit.from, at, next_is))
      (λ (here : k ≡ n).
      let value : cell ≡ put.value = same_Some cell put.value
      (sym stands ∙ ap (λ (m : ℕ). image (place + m)) here ∙ is.stands) in
      omega (arith, ap target_of value, at, next_is))
      (below_or_at k n less);
}

same_put : (a b : Put) → a.at ≡ b.at → a.value ≡ b.value → a.blame ≡ b.blame → a ≡ b
same_put a b e f h = ap (λ (k : ℕ). record a { at = k }) e ∙ ap
    (λ (v : List ℕ). record { at = b.at; value = v; blame = a.blame }) f ∙ ap (λ (w : Blame). record b { blame = w }) h

-- a journal that is written, cell by cell
module _ (j : Journal) (k : ℕ) (less : k < j.count) {old mid now : DeviceState}
    (puts : Puts (IsEntryPut old.image j.place k) old mid (Ok tt))
    (entries : IsTrue old.tells → AreEntries j.first old.image j.place j.below j.count)
    (called : Called mid now) (quiet : IsStill mid.foreign_writes now.foreign_writes → IsUnchanged mid.image now.image)
    (floor : ℕ)
    (checked : IsTrue old.tells → CheckedTo j.first old.image j.place j.below k floor) where
  c0 : Called old now
  c0 = called_then puts.called called

  entry_left : (next : ℕ) → k ≤ next → (put : Put) → IsEntryPut old.image j.place k put
      → IsEntryPut old.image j.place next put
  entry_left next more put h = (h.0, omega (arith, h.1, more), h.2)

  never : (e : Evidence) → IsTrue old.tells
      → ((e ≡ j.commit) × (now.image (j.place + k) ≡ None)) ⊎ IsUnfitAt (j.place + k) floor j.below now.image e → ⊥
  never e tells flaw =
      let h = entries tells k less in
      let stands : now.image (j.place + k) ≡ Some h.cell = c0.image.keeps (j.place + k) h.cell h.stands in
      ⊎_elim
      (λ (blank : (e ≡ j.commit) × (now.image (j.place + k) ≡ None)). none-some h.cell (sym blank.1 ∙ stands))
      (λ (unfit : IsUnfitAt (j.place + k) floor j.below now.image e).
      let value : e.found ≡ h.cell = same_Some e.found h.cell (sym unfit.stands ∙ stands) in
      let one : floor ≡ h.floor = floor_one j.first old.image j.place k floor h.floor (checked tells).floor_is
      h.floor_is in
      let not : IsUnfit floor j.below h.cell = subst (IsUnfit floor j.below) value unfit.unfit in
      ⊎_elim
      (λ (no : IsCopy h.cell → ⊥). no h.fit.copy)
      (λ (rest : (target_of h.cell < floor) ⊎ (j.below ≤ target_of h.cell)). ⊎_elim
      (λ (low : target_of h.cell < floor). omega (arith, low, one, h.fit.from))
      (λ (high : j.below ≤ target_of h.cell). omega (arith, high, h.fit.to))
      rest)
      not)
      flaw

  -- a journal cell was not read
  pub entry_refused : (fault : Fault) → JournalEntryEnds j k floor mid now (Err fault)
      → PutsPhase (IsEntryPut old.image j.place j.count) old now (Err fault)
  entry_refused Failed ends = phase_ended Failed (record {
    called = c0;
    unfailed = λ ok. absurd (false_true ok);
    only = λ tells still. changes_wider (entry_left j.count (omega (arith, less)))
        (only_looked tt puts called quiet tells still);
    ends = omega (arith, ends, puts.called.faults);
  })
  entry_refused (Tampered e) ends = phase_ended (Tampered e) (record {
    called = c0;
    unfailed = λ ok. absurd (false_true ok);
    only = λ tells still. changes_wider (entry_left j.count (omega (arith, less)))
        (only_looked tt puts called quiet tells still);
    ends = λ tells. absurd (never e tells (ends (subst IsTrue (sym puts.called.tells) tells)));
  })

  module _ (put : Put) (fit : IsFit floor j.below put.value) (at : put.at ≡ target_of put.value)
      (is : IsTrue mid.tells → IsEntryOf now.image j.place k put) (none : now.faults ≡ mid.faults) where
    puts_now : Puts (IsEntryPut old.image j.place k) old now (Ok tt)
    puts_now = puts_looked tt tt puts called quiet none

    -- it stood at old
    entry_was : IsTrue old.tells → IsEntryOf old.image j.place k put
    entry_was tells =
        let h = entries tells k less in
        let now_is = is (subst IsTrue (sym puts.called.tells) tells) in
        let value : h.cell ≡ put.value = same_Some h.cell put.value
        (sym (c0.image.keeps (j.place + k) h.cell h.stands) ∙ now_is.stands) in
        record { stands = h.stands ∙ ap Some value; at = now_is.at; blame = now_is.blame }

    entry_right : IsTrue old.tells → (next : ℕ) → k < next → (other : Put) → other ≡ put
        → IsEntryPut old.image j.place next other
    entry_right tells next more other e = (k, more, subst (IsEntryOf old.image j.place k) (sym e) (entry_was tells))

    entry_covers : IsTrue old.tells → (other : Put) → IsEntryPut old.image j.place (k + 1) other
        → IsEntryPut old.image j.place k other ⊎ (other ≡ put)
    entry_covers tells other h = ⊎_elim
        (λ (earlier : h.0 < k). inl (h.0, earlier, h.2))
        (λ (here : h.0 ≡ k).
        let w = entry_was tells in
        let value : other.value ≡ put.value = same_Some other.value put.value
        (sym h.2.stands ∙ ap (λ (m : ℕ). old.image (j.place + m)) here ∙ w.stands) in
        inr (same_put other put (h.2.at ∙ ap target_of value ∙ sym w.at) value
        (h.2.blame ∙ ap (λ (m : ℕ). blames.Journal (j.place + m)) here ∙ sym w.blame)))
        (below_or_at h.0 k h.1)

    module _ {new : DeviceState} where
      pub entry_put : Puts (IsThis put) now new (Ok tt) → Puts (IsEntryPut old.image j.place (k + 1)) old new (Ok tt)
      entry_put then = record {
        called = called_then c0 then.called;
        unfailed = λ ok. then.unfailed refl ∙ puts_now.unfailed refl;
        only = λ tells. (puts_more (entry_left (k + 1) (omega arith)) (entry_right tells (k + 1) (omega arith)) tt
            puts_now (entry_covers tells) tt tt then).only tells;
        ends = λ tells. (puts_more (entry_left (k + 1) (omega arith)) (entry_right tells (k + 1) (omega arith)) tt
            puts_now (entry_covers tells) tt tt then).ends tells;
      }

      pub entry_held : (fault : Fault) → Puts (IsThis put) now new (Err fault)
          → PutsPhase (IsEntryPut old.image j.place j.count) old new (Err fault)
      entry_held Failed then = phase_ended Failed (record {
        called = called_then c0 then.called;
        unfailed = λ ok. absurd (false_true ok);
        only = λ tells. (puts_ended (entry_left j.count (omega (arith, less))) (entry_right tells j.count less) tt
            puts_now Failed then).only tells;
        ends = omega (arith, then.ends, c0.faults);
      })
      entry_held (Tampered e) then = phase_ended (Tampered e) (record {
        called = called_then c0 then.called;
        unfailed = λ ok. absurd (false_true ok);
        only = λ tells. (puts_ended (entry_left j.count (omega (arith, less))) (entry_right tells j.count less) tt
            puts_now (Tampered e) then).only tells;
        ends = λ tells. (puts_ended (entry_left j.count (omega (arith, less))) (entry_right tells j.count less) tt
            puts_now (Tampered e) then).ends tells;
      })

    pub entry_checked : IsTrue old.tells → CheckedTo j.first old.image j.place j.below (k + 1) (put.at + 1)
    entry_checked tells = checked_more j.first old.image j.place j.below k floor (put.at + 1) put (checked tells) fit at
        (entry_was tells) refl
