-- Evidence that settling names in a journal, and in the cells that end a slot.
use Rattle.std.proofs.Common.{◌≡◌, ◌≢◌, ◌≤◌, ◌<◌, ◌+◌, ◌^◌, ◌⊎◌, ℕ, List, Some, None, Ok, Err, refl, sym, ap, ◌∙◌, inl, inr, ⊎_elim, subst, arith}
use Rattle.std.proofs.lemmas.Option.{none-some, same_Some}
use Rattle.std.specs.Prelude.{IsTrue, Result}
use Rattle.cell_types.specs.Image.{Image, Extends, IsUnchanged}
use Rattle.cell_types.specs.Layout.{Layout, reserve_at, outcome_at, done_at, lists_at}
use Rattle.cell_types.specs.Records.{IsRecordCell, record_bytes}
use Rattle.cell_types.specs.Refusals.{refusal_of_fault}
use Rattle.cell_types.specs.declared.geometry.TheConstants.{MAX_SLOTS}
use Rattle.cell_types.specs.declared.record_cell.RecordCell.{RecordCell}
use Rattle.cell_types.specs.declared.record_cell.RecordCell.TheVariants as records
use Rattle.cell_types.specs.declared.refusal.Evidence.{Evidence}
use Rattle.cell_types.specs.declared.refusal.Fault.{Fault}
use Rattle.cell_types.specs.declared.refusal.Fault.TheVariants as faults
use Rattle.cell_types.proofs.OneRecord.{address_in}
use Rattle.commit_record.specs.Licences.{IsLicensed}
use Rattle.commit_record.specs.declared.slot.SlotState.{SlotState}
use Rattle.commit_record.specs.declared.slot.SlotState.TheVariants.{Unused, Reserved, Abandoned, Committed, Done}
use Rattle.recovery_engine.specs.declared.put.Blame.{Blame}
use Rattle.recovery_engine.specs.declared.put.Blame.TheVariants.{Rule}
use Rattle.recovery_engine.specs.declared.put.Put.{Put}
use Rattle.recovery_engine.specs.Putting.{IsPut, IsPutTwice, IsTaken, IsInFirst, PutsPhases, blamed, evidence_of}
use Rattle.volume_meaning.specs.Documents.{document_at}
use Rattle.recovery_engine.specs.Entries.{target_of, IsCopy, IsUnfit, IsFloor, AreEntries}
use Rattle.tamper_rules.specs.Journals.{journal_at, CopiesIndexCell, IsInOrder}
use Rattle.tamper_rules.specs.Rules.{IsBroken, IsPlaceOf, IsOfPool, OutcomeCells, DoneCells, Journals, Targets}
use Rattle.tamper_rules.specs.declared.numbers.TheConstants.{BROKEN_JOURNAL, OUTCOME_CELL, DONE_CELL, OTHER_TARGET}
use Rattle.tamper_rules.proofs.Images.{same_image, look}
use Rattle.tamper_rules.proofs.SettlingGoesOn.{behind_log}
use Rattle.volume_meaning.specs.Slots.{Commits, Stores}
use Rattle.volume_meaning.specs.Volumes.{IsVolume, Holds}
use Rattle.volume_meaning.proofs.Extending.{commits_on, ended_further, ends_on, volume_on}
use Rattle.worm_device.specs.Calls.{Called}
use Rattle.worm_device.specs.Counts.{IsStill}
use Rattle.worm_device.specs.State.{DeviceState}
use Rattle.worm_device.proofs.Counting.{still_first, still_second}
use Rattle.worm_device.proofs.Elapsing.{called_then}
use Rattle.worm_device.proofs.Images.{extends_self}
use Rattle.recovery_engine.specs.Ending.{HasJournal, SlotCheckEnds, abandon_put, done_put, end_plan, end_phases, journal_of}
use Rattle.recovery_engine.specs.Journal.{IsEntryPut, IsUnfitAt, IsFlawed, JournalEnds}
use Rattle.recovery_engine.specs.declared.journal.Journal.{Journal}
use Rattle.recovery_engine.specs.LastSlot.{IsLastSlot}
use Rattle.recovery_engine.specs.Settling.{HasOtherTarget, IsFoundBroken, IsSettlingRule, NamesTarget, SettleEnds}
use Rattle.recovery_engine.proofs.Rising.{entries_apart, entries_from}
use Rattle.recovery_engine.proofs.InOrder.{state_further}

-- a volume stays one on the device, over calls
pub volume_later : (old new : DeviceState) (g : Layout) → Called old new → IsVolume old.cells old.image g
    → IsVolume new.cells new.image g
volume_later old new g called volume =
    subst (λ (n : ℕ). IsVolume n new.image g) (sym called.cells) (volume_on called.image volume)

-- the last slot, seen later
pub last_on : (g : Layout) (before after after' : Image) (n : ℕ) (state : SlotState) → Extends after after'
    → IsLastSlot g before after n state → IsLastSlot g before after' n state
last_on g before after after' n state e last = record {
  is = state_further g before before after after' n state (extends_self before) e last.is;
  follows = λ cells reserved.
      let f = last.follows cells reserved in
      record {
        begins = ends_on {before = before} {before' = before} (extends_self before) e f.begins;
        ended = λ m is. ended_further (extends_self before) e (f.ended m is);
      };
}

-- a rule that is broken where nothing has changed was broken before
broken_before : (old now : DeviceState) (rule cell : ℕ) → Called old now → IsUnchanged old.image now.image
    → IsBroken now.cells now.image rule cell → IsBroken old.cells old.image rule cell
broken_before old now rule cell called same broken =
    subst (λ (k : ℕ). IsBroken k old.image rule cell) called.cells
    (subst (λ (i : Image). IsBroken now.cells i rule cell) (same_image same) broken)

-- what looks find, they have not written
pub found_looked : (old now : DeviceState) (e : Evidence) → IsSettlingRule e.rule → Called old now
    → (IsStill old.foreign_writes now.foreign_writes → IsUnchanged old.image now.image) → IsLicensed old now e
    → IsFoundBroken IsSettlingRule old now e
found_looked old now e rule called quiet licensed = record {
  rule = rule;
  licensed = licensed;
  before = λ still. broken_before old now e.rule e.cell called (quiet still) (licensed.broken still);
}

module _ (g : Layout) (n s l b j : ℕ) where
  -- a journal cell that is in order is fit
  in_order_fits : (image : Image) (k floor : ℕ) (cell : List ℕ) → image (journal_at s l j + k) ≡ Some cell
      → IsFloor (lists_at g) image (journal_at s l j) k floor → IsInOrder g image n s l b j k
      → IsUnfit floor (document_at s l b j) cell → ⊥
  in_order_fits image k floor cell stands floor_is o unfit =
      let value : o.copies.entry ≡ cell = same_Some o.copies.entry cell (sym o.copies.stands ∙ stands) in
      let is : IsRecordCell o.copied o.target cell = subst (IsRecordCell o.copied o.target) value o.copies.is in
      let here : target_of cell ≡ o.target = address_in o.copied o.target cell o.copies.address is in
      ⊎_elim
      (λ (no : IsCopy cell → ⊥). no (record {
        held = o.copied;
        index = o.copies.index;
        is = subst (λ (a : ℕ). IsRecordCell o.copied a cell) (sym here) is;
      }))
      (λ (rest : (target_of cell < floor) ⊎ (document_at s l b j ≤ target_of cell)). ⊎_elim
      (λ (low : target_of cell < floor). ⊎_elim
      (λ (a : (k ≡ 0) × (floor ≡ lists_at g)). omega (arith, low, a.1, here, behind_log o.index))
      (λ (c : (m : ℕ) × (before : List ℕ) × (k ≡ m + 1) × (image (journal_at s l j + m) ≡ Some before)
      × (floor ≡ target_of before + 1)). ⊎_elim
      (λ (first : k ≡ 0). omega (arith, first, c.2))
      (λ (r : (before : ℕ) × (lower : ℕ) × (other : RecordCell) × (k ≡ before + 1)
      × CopiesIndexCell image s l j before lower other × (lower < o.target)).
      let same : r.0 ≡ c.0 = omega (arith, r.3, c.2) in
      let entry : r.4.entry ≡ c.1 = same_Some r.4.entry c.1
      (sym r.4.stands ∙ ap (λ (m : ℕ). image (journal_at s l j + m)) same ∙ c.3) in
      let there : target_of c.1 ≡ r.1 = address_in r.2 r.1 c.1 r.4.address
      (subst (IsRecordCell r.2 r.1) entry r.4.is) in
      omega (arith, low, c.4, here, there, r.5))
      o.rises)
      floor_is)
      (λ (high : document_at s l b j ≤ target_of cell). omega (arith, high, here, o.before_document))
      rest)
      unfit

  -- a journal cell is blank or unfit
  flaw_licensed : (s0 s5 : DeviceState) (e : Evidence) → IsVolume s5.cells s5.image g
      → Commits g s5.image n s l b j
      → (IsStill s0.foreign_writes s5.foreign_writes → s5.image (done_at n) ≡ None)
      → IsFlawed (journal_of g n s l b j) s5.image e → IsLicensed s0 s5 e
  flaw_licensed s0 s5 e volume commits open_slot flaw = ⊎_elim
      (λ (blank : (e ≡ (journal_of g n s l b j).commit) × (s5.image (journal_at s l j + flaw.k) ≡ None)).
      subst (IsLicensed s0 s5) (sym blank.0) (record {
        stands = commits.outcome.stands ∙ ap Some commits.outcome.is.same;
        layout = g;
        volume = volume;
        place = (Journals, refl, inl (n, commits.reserves.slot, refl));
        broken = λ still. record {
          layout = g;
          volume = volume;
          rule = Journals;
          named = refl;
          place = inl (n, commits.reserves.slot, refl);
          written = record { found = commits.outcome.cell; stands = commits.outcome.stands };
          not_met = λ met.
              let w = met.commit n s l b j flaw.k (record { commits = commits; done = inl (open_slot still) })
              flaw.within refl in
              none-some w.found (sym blank.1 ∙ w.stands);
        };
      }))
      (λ (unfit : IsUnfitAt (journal_at s l j + flaw.k) flaw.floor (document_at s l b j) s5.image e).
      let stands : s5.image e.cell ≡ Some e.found = ap s5.image unfit.cell ∙ unfit.stands in
      let inside : IsOfPool g e.cell = (
        omega (arith, unfit.cell, flaw.within, commits.reserves.from, commits.fits),
        omega (arith, unfit.cell, flaw.within, commits.reserves.to, commits.fits),
      ) in
      record {
        stands = stands;
        layout = g;
        volume = volume;
        place = (Journals, unfit.rule, inr inside);
        broken = λ still. record {
          layout = g;
          volume = volume;
          rule = Journals;
          named = unfit.rule;
          place = inr inside;
          written = record { found = e.found; stands = stands };
          not_met = λ met. in_order_fits s5.image flaw.k flaw.floor e.found unfit.stands flaw.floor_is
              (met.copy n s l b j flaw.k (record { commits = commits; done = inl (open_slot still) }) flaw.within
              unfit.cell) unfit.unfit;
        };
      })
      flaw.flaw

  -- what is wrong with a journal breaks the journal's rule
  flaw_rule : (s0 s5 : DeviceState) {e : Evidence} → IsFlawed (journal_of g n s l b j) s5.image e
      → e.rule ≡ BROKEN_JOURNAL
  flaw_rule s0 s5 {e} flaw = ⊎_elim
      (λ (blank : (e ≡ (journal_of g n s l b j).commit) × (s5.image (journal_at s l j + flaw.k) ≡ None)).
      ap (λ (f : Evidence). f.rule) blank.0)
      (λ (unfit : IsUnfitAt (journal_at s l j + flaw.k) flaw.floor (document_at s l b j) s5.image e). unfit.rule)
      flaw.flaw

  -- a target of the journal holds another value than its journal cell
  target_broken : (cells : ℕ) (image : Image) (k : ℕ) (value found : List ℕ) → IsVolume cells image g
      → Stores g image n s l b j → k < j → image (journal_at s l j + k) ≡ Some value → IsCopy value
      → target_of value < 2 ^ 32 → image (target_of value) ≡ Some found → found ≢ value
      → IsBroken cells image OTHER_TARGET (journal_at s l j + k)
  target_broken cells image k value found volume stores within stands copy small other differs = record {
    layout = g;
    volume = volume;
    rule = Targets;
    named = refl;
    place = (
      omega (arith, within, stores.commits.reserves.from, stores.commits.fits),
      omega (arith, within, stores.commits.reserves.to, stores.commits.fits),
    );
    written = record { found = value; stands = stands };
    not_met = λ met. ⊎_elim
        (λ (none : image (done_at n) ≡ None). ⊎_elim
        (λ (blank : image (target_of value) ≡ None). none-some found (sym blank ∙ other))
        (λ (same : image (target_of value) ≡ image (journal_at s l j + k)).
        differs (same_Some found value (sym other ∙ same ∙ stands)))
        (met.committed n s l b j k (target_of value) copy.held (record { commits = stores.commits; done = none })
        copies refl))
        (λ (holds : Holds image (done_at n) (records.Done n)).
        differs (same_Some found value (sym other
        ∙ met.done n s l b j k (target_of value) copy.held (record { commits = stores.commits; done = holds }) copies
        refl
        ∙ stands)))
        stores.done;
  }
    where
      copies : CopiesIndexCell image s l j k (target_of value) copy.held
      copies = record {
        below = within;
        entry = value;
        stands = stands;
        index = copy.index;
        address = small;
        is = copy.is;
      }

-- what a look at the journal of a committed slot says of the slot
pub journal_checked : (g : Layout) (n s l b j : ℕ) (old new : DeviceState) (state : SlotState) (journal : Journal)
    (result : Result (Unit {0}) Fault) → state ≡ Committed s l b j → journal ≡ journal_of g n s l b j
    → JournalEnds journal old new result → SlotCheckEnds g n state old new result
journal_checked g n s l b j old new state journal result e f ends =
    subst (λ (x : SlotState). SlotCheckEnds g n x old new result) (sym e)
    (by_result result (subst (λ (x : Journal). JournalEnds x old new result) f ends))
  where
    by_result : (r : Result (Unit {0}) Fault) → JournalEnds (journal_of g n s l b j) old new r
        → SlotCheckEnds g n (Committed s l b j) old new r
    by_result (Ok tt) h = h
    by_result (Err faults.Failed) h = h
    by_result (Err (faults.Tampered e)) h = h

-- a look at the slot's journal names no target
pub check_names : (g : Layout) (n : ℕ) (s0 s4 s5 : DeviceState) (state : SlotState) (fault : Fault) → IsTrue s4.tells
    → SlotCheckEnds g n state s4 s5 (Err fault) → NamesTarget s0 s5 (Err (refusal_of_fault fault))
check_names g n s0 s4 s5 state faults.Failed tells ends = tt
check_names g n s0 s4 s5 Unused (faults.Tampered e) tells ends = absurd (ends tells)
check_names g n s0 s4 s5 (Reserved s l) (faults.Tampered e) tells ends = absurd (ends tells)
check_names g n s0 s4 s5 (Abandoned s l) (faults.Tampered e) tells ends = absurd (ends tells)
check_names g n s0 s4 s5 (Done s l b j) (faults.Tampered e) tells ends = absurd (ends tells)
check_names g n s0 s4 s5 (Committed s l b j) (faults.Tampered e) tells ends = λ six.
    absurd (omega (arith, six, flaw_rule g n s l b j s4 s5 (ends tells)))

-- Settling after the last slot was looked at: it began at s0, and looks alone came before s4.
module _ (g : Layout) (n : ℕ) (s0 s3 s4 s5 : DeviceState) (c03 : Called s0 s3) (c34 : Called s3 s4) (c45 : Called s4 s5)
    (quiet_04 : IsStill s0.foreign_writes s4.foreign_writes → IsUnchanged s0.image s4.image)
    (quiet_34 : IsStill s3.foreign_writes s4.foreign_writes → IsUnchanged s3.image s4.image) where
  c04 : Called s0 s4
  c04 = called_then c03 c34

  tells_4 : IsTrue s0.tells → IsTrue s4.tells
  tells_4 tells = subst IsTrue (sym c04.tells) tells

  still_34 : IsStill s0.foreign_writes s5.foreign_writes → IsStill s3.foreign_writes s4.foreign_writes
  still_34 still = still_second c03.foreign_writes c34.foreign_writes
      (still_first c04.foreign_writes c45.foreign_writes still)

  -- a look at the slot's journal was refused
  pub check_refused : (state : SlotState) (fault : Fault)
      → (IsStill s4.foreign_writes s5.foreign_writes → IsUnchanged s4.image s5.image)
      → (IsTrue s0.tells → IsVolume s4.cells s4.image g) → (IsTrue s4.tells → IsLastSlot g s3.image s4.image n state)
      → SlotCheckEnds g n state s4 s5 (Err fault) → SettleEnds s0 s5 (Err (refusal_of_fault fault))
  check_refused state faults.Failed quiet_45 volume last ends = omega (arith, ends, c04.faults)
  check_refused Unused (faults.Tampered e) quiet_45 volume last ends = λ tells. absurd (ends (tells_4 tells))
  check_refused (Reserved s l) (faults.Tampered e) quiet_45 volume last ends = λ tells. absurd (ends (tells_4 tells))
  check_refused (Abandoned s l) (faults.Tampered e) quiet_45 volume last ends = λ tells. absurd (ends (tells_4 tells))
  check_refused (Done s l b j) (faults.Tampered e) quiet_45 volume last ends = λ tells. absurd (ends (tells_4 tells))
  check_refused (Committed s l b j) (faults.Tampered e) quiet_45 volume last ends = λ tells.
      let is = (last (tells_4 tells)).is in
      let more = c04.foreign_writes in
      found_looked s0 s5 e (inr (inl (flaw_rule g n s l b j s0 s5 (ends (tells_4 tells))))) (called_then c04 c45)
      (λ still cell. quiet_45 (still_second more c45.foreign_writes still) cell
      ∙ quiet_04 (still_first more c45.foreign_writes still) cell)
      (flaw_licensed g n s l b j s0 s5 e (volume_later s4 s5 g c45 (volume tells)) (commits_on c45.image is.commits)
      (λ still. quiet_45 (still_second more c45.foreign_writes still) (done_at n) ∙ quiet_34 (still_34 still)
      (done_at n)
      ∙ is.done)
      (ends (tells_4 tells)))

  module _ (volume : IsVolume s4.cells s4.image g) (tells : IsTrue s4.tells) (e : Evidence) where
    volume_5 : IsVolume s5.cells s5.image g
    volume_5 = volume_later s4 s5 g c45 volume

    still_45 : IsStill s0.foreign_writes s5.foreign_writes → IsStill s4.foreign_writes s5.foreign_writes
    still_45 still = still_second c04.foreign_writes c45.foreign_writes still

    -- a cell of the log that was blank and is put once is taken only where somebody else wrote
    own_held : (P : Put → Type 0) (rule a : ℕ) (v : List ℕ) (taken : IsTaken P s4 s5 e)
        → (let own : Put = record { at = a; value = v; blame = Rule rule } in taken.put ≡ own) → IsPlaceOf g rule a
        → IsSettlingRule rule
        → s3.image a ≡ None → ((other : Put) → P other → other.at ≡ a → other.value ≡ v)
        → IsFoundBroken IsSettlingRule s0 s5 e
    own_held P rule a v taken is place named none once =
        let here : taken.put.at ≡ a = ap (λ (p : Put). p.at) is in
        let value : taken.put.value ≡ v = ap (λ (p : Put). p.value) is in
        let never : IsStill s0.foreign_writes s5.foreign_writes → ⊥ = λ still. ⊎_elim
        (λ (stood : s4.image taken.put.at ≡ Some taken.found).
        none-some taken.found (sym (ap s4.image here ∙ quiet_34 (still_34 still) a ∙ none) ∙ stood))
        (λ (twice : IsPutTwice P taken.put taken.found).
        taken.differs (sym twice.is ∙ once twice.other twice.planned (twice.here ∙ here) ∙ sym value))
        (taken.stood (still_45 still)) in
        subst (IsFoundBroken IsSettlingRule s0 s5) (sym (taken.is ∙ ap (λ (p : Put). evidence_of p taken.found) is)) (record {
          rule = named;
          licensed = record {
            stands = ap s5.image (sym here) ∙ taken.stands;
            layout = g;
            volume = volume_5;
            place = place;
            broken = λ still. absurd (never still);
          };
          before = λ still. absurd (never still);
        })

    module _ (s l b j : ℕ) (commits : Commits g s4.image n s l b j) (none : s3.image (done_at n) ≡ None)
        (entries : AreEntries (lists_at g) s4.image (journal_at s l j) (document_at s l b j) j)
        (phases : PutsPhases (end_plan s4.image n (Committed s l b j)) 2 s4 s5 (Err (faults.Tampered e))) where
      -- no target is a cell of the log
      no_target : (put : Put) → IsEntryPut s4.image (journal_at s l j) j put → put.at ≡ done_at n → ⊥
      no_target put h here =
          let low : lists_at g ≤ target_of put.value =
          entries_from (lists_at g) s4.image (journal_at s l j) (document_at s l b j) j entries h.0 put.value h.1
          h.2.stands in
          omega (arith, commits.reserves.slot, here, h.2.at, low)

      -- the done cell is put alone
      once : (other : Put) → IsInFirst (end_plan s4.image n (Committed s l b j)) 2 other → other.at ≡ done_at n
          → other.value ≡ record_bytes (records.Done n) (done_at n)
      once other h here = ⊎_elim
          (λ (first : (h.0 ≡ 0) × IsEntryPut s4.image (journal_at s l j) j other).
          absurd (no_target other first.1 here))
          (λ (final : (h.0 ≡ 1) × (other ≡ done_put n)). ap (λ (x : Put). x.value) final.1)
          h.2

      few : n < MAX_SLOTS
      few = omega (arith, commits.reserves.slot, volume.volume.is.well_formed.0.slots)

      -- the slot is committed still, or done now
      stores_5 : IsStill s0.foreign_writes s5.foreign_writes → Stores g s5.image n s l b j
      stores_5 still = record {
        commits = commits_on c45.image commits;
        done = ⊎_elim inl
            (λ (w : (v : List ℕ) × (s5.image (done_at n) ≡ Some v)). inr (⊎_elim
            (λ (stood : s4.image (done_at n) ≡ Some w.0).
            absurd (none-some w.0 (sym (quiet_34 (still_34 still) (done_at n) ∙ none) ∙ stood)))
            (λ (p : IsPut (IsInFirst (end_plan s4.image n (Committed s l b j)) 2) s4.image (done_at n) w.0). record {
              cell = w.0;
              stands = w.1;
              is = record {
                fits = omega (arith, few);
                well_formed = few;
                same = sym p.is ∙ once p.put p.planned p.here;
              };
            })
            (phases.puts.only tells (still_45 still) (done_at n) w.0 w.1)))
            (look s5.image (done_at n));
      }

      -- where nobody else wrote, the target held what was found there before
      target_stood : (taken : IsTaken (IsInFirst (end_plan s4.image n (Committed s l b j)) 2) s4 s5 e)
          → IsEntryPut s4.image (journal_at s l j) j taken.put → IsStill s0.foreign_writes s5.foreign_writes
          → s4.image (target_of taken.put.value) ≡ Some taken.found
      target_stood taken is still = ⊎_elim
          (λ (was : s4.image taken.put.at ≡ Some taken.found). ap s4.image (sym is.2.at) ∙ was)
          (λ (twice : IsPutTwice (IsInFirst (end_plan s4.image n (Committed s l b j)) 2) taken.put taken.found). absurd
          (⊎_elim
          (λ (first : (twice.planned.0 ≡ 0) × IsEntryPut s4.image (journal_at s l j) j twice.other).
          taken.differs (sym twice.is
          ∙ entries_apart (lists_at g) s4.image (journal_at s l j) (document_at s l b j) j entries first.1.0 is.0
          twice.other.value taken.put.value first.1.1 is.1 first.1.2.stands is.2.stands
          (sym first.1.2.at ∙ twice.here ∙ is.2.at)))
          (λ (final : (twice.planned.0 ≡ 1) × (twice.other ≡ done_put n)).
          no_target taken.put is (sym twice.here ∙ ap (λ (p : Put). p.at) final.1))
          twice.planned.2))
          (taken.stood (still_45 still))

      -- so it held another value than its journal cell before the call
      target_names : (taken : IsTaken (IsInFirst (end_plan s4.image n (Committed s l b j)) 2) s4 s5 e)
          → IsEntryPut s4.image (journal_at s l j) j taken.put → IsStill s0.foreign_writes s5.foreign_writes
          → HasOtherTarget s0.image e.cell
      target_names taken is still =
          let put = taken.put in
          let same : s4.image ≡ s0.image =
          same_image (quiet_04 (still_first c04.foreign_writes c45.foreign_writes still)) in
          let here : e.cell ≡ journal_at s l j + is.0 = ap (λ (f : Evidence). f.cell)
          (taken.is ∙ ap (λ (w : Blame). blamed w put.at put.value taken.found) is.2.blame) in
          record {
            value = put.value;
            stands = subst (λ (i : Image). i e.cell ≡ Some put.value) same (ap s4.image here ∙ is.2.stands);
            found = taken.found;
            there = subst (λ (i : Image). i (target_of put.value) ≡ Some taken.found) same
                (target_stood taken is still);
            differs = taken.differs;
          }

      -- the target of this journal cell holds another value
      target_held : (taken : IsTaken (IsInFirst (end_plan s4.image n (Committed s l b j)) 2) s4 s5 e)
          → IsEntryPut s4.image (journal_at s l j) j taken.put → IsFoundBroken IsSettlingRule s0 s5 e
      target_held taken is =
          let k = is.0 in
          let put = taken.put in
          let h = entries k is.1 in
          let value : h.cell ≡ put.value = same_Some h.cell put.value (sym h.stands ∙ is.2.stands) in
          let copy : IsCopy put.value = subst IsCopy value h.fit.copy in
          let small : target_of put.value < 2 ^ 32 =
          omega (arith, h.fit.to, ap target_of value, commits.reserves.to, volume.volume.is.well_formed.0.cells) in
          let stands : s5.image (journal_at s l j + k) ≡ Some put.value =
          c45.image.keeps (journal_at s l j + k) put.value is.2.stands in
          let other : s5.image (target_of put.value) ≡ Some taken.found = ap s5.image (sym is.2.at) ∙ taken.stands in
          let stood = target_stood taken is in
          subst (IsFoundBroken IsSettlingRule s0 s5)
          (sym (taken.is ∙ ap (λ (w : Blame). blamed w put.at put.value taken.found) is.2.blame))
          (record {
            rule = inr (inr refl);
            licensed = record {
              stands = stands;
              layout = g;
              volume = volume_5;
              place = (
                Targets,
                refl,
                (
                  omega (arith, is.1, commits.reserves.from, commits.fits),
                  omega (arith, is.1, commits.reserves.to, commits.fits),
                ),
              );
              broken = λ still. target_broken g n s l b j s5.cells s5.image k put.value taken.found volume_5
                  (stores_5 still) is.1 stands copy small other taken.differs;
            };
            before = λ still. broken_before s0 s4 OTHER_TARGET (journal_at s l j + k) c04
                (quiet_04 (still_first c04.foreign_writes c45.foreign_writes still))
                (target_broken g n s l b j s4.cells s4.image k put.value taken.found volume
                (record { commits = commits; done = inl (quiet_34 (still_34 still) (done_at n) ∙ none) })
                is.1 is.2.stands copy small (stood still) taken.differs);
          })

    -- the slot was not ended
    taken_found : (state : SlotState) → IsLastSlot g s3.image s4.image n state → HasJournal g state s4.image
        → PutsPhases (end_plan s4.image n state) (end_phases state) s4 s5 (Err (faults.Tampered e))
        → IsFoundBroken IsSettlingRule s0 s5 e
    taken_found Unused last entries phases = absurd (let t = phases.puts.ends tells in omega (arith, t.planned.1))
    taken_found (Abandoned s l) last entries phases =
        absurd (let t = phases.puts.ends tells in omega (arith, t.planned.1))
    taken_found (Done s l b j) last entries phases =
        absurd (let t = phases.puts.ends tells in omega (arith, t.planned.1))
    taken_found (Reserved s l) last entries phases =
        let t = phases.puts.ends tells in
        own_held (IsInFirst (end_plan s4.image n (Reserved s l)) 1) OUTCOME_CELL (outcome_at n) _ t
        (abandon t.put t.planned) (OutcomeCells, refl, (n, last.is.reserves.slot, refl))
        (inl (inr (inl refl))) last.is.outcome
        (λ other h here. ap (λ (x : Put). x.value) (abandon other h))
      where
        abandon : (put : Put) → IsInFirst (end_plan s4.image n (Reserved s l)) 1 put → put ≡ abandon_put n
        abandon put h = ⊎_elim
            (λ (a : (h.0 ≡ 0) × (put ≡ abandon_put n)). a.1)
            (λ (c : (h.0 ≡ 1) × ⊥). absurd c.1)
            h.2
    taken_found (Committed s l b j) last entries phases =
        let t = phases.puts.ends tells in
        ⊎_elim
        (λ (first : (t.planned.0 ≡ 0) × IsEntryPut s4.image (journal_at s l j) j t.put).
        target_held s l b j last.is.commits last.is.done entries phases t first.1)
        (λ (final : (t.planned.0 ≡ 1) × (t.put ≡ done_put n)).
        own_held (IsInFirst (end_plan s4.image n (Committed s l b j)) 2) DONE_CELL (done_at n) _ t final.1
        (DoneCells, refl, (n, last.is.commits.reserves.slot, refl)) (inl (inr (inr refl))) last.is.done
        (once s l b j last.is.commits last.is.done entries phases))
        t.planned.2

  -- and what was named by the rule of targets
  pub end_names : (state : SlotState) (fault : Fault) → IsVolume s4.cells s4.image g → IsTrue s4.tells
      → IsLastSlot g s3.image s4.image n state → HasJournal g state s4.image
      → PutsPhases (end_plan s4.image n state) (end_phases state) s4 s5 (Err fault)
      → NamesTarget s0 s5 (Err (refusal_of_fault fault))
  end_names state faults.Failed volume tells last entries phases = tt
  end_names Unused (faults.Tampered e) volume tells last entries phases =
      absurd (let t = phases.puts.ends tells in omega (arith, t.planned.1))
  end_names (Abandoned s l) (faults.Tampered e) volume tells last entries phases =
      absurd (let t = phases.puts.ends tells in omega (arith, t.planned.1))
  end_names (Done s l b j) (faults.Tampered e) volume tells last entries phases =
      absurd (let t = phases.puts.ends tells in omega (arith, t.planned.1))
  end_names (Reserved s l) (faults.Tampered e) volume tells last entries phases = λ six still.
      let t = phases.puts.ends tells in
      absurd (⊎_elim
      (λ (a : (t.planned.0 ≡ 0) × (t.put ≡ abandon_put n)).
      omega (arith, six, ap (λ (f : Evidence). f.rule) (t.is ∙ ap (λ (p : Put). evidence_of p t.found) a.1)))
      (λ (c : (t.planned.0 ≡ 1) × ⊥). c.1)
      t.planned.2)
  end_names (Committed s l b j) (faults.Tampered e) volume tells last entries phases = λ six still.
      let t = phases.puts.ends tells in
      ⊎_elim
      (λ (first : (t.planned.0 ≡ 0) × IsEntryPut s4.image (journal_at s l j) j t.put).
      target_names volume tells e s l b j last.is.commits last.is.done entries phases t first.1 still)
      (λ (final : (t.planned.0 ≡ 1) × (t.put ≡ done_put n)).
      absurd (omega (
        arith,
        six,
        ap (λ (f : Evidence). f.rule) (t.is ∙ ap (λ (p : Put). evidence_of p t.found) final.1),
      )))
      t.planned.2

  pub end_refused : (state : SlotState) (fault : Fault) → (IsTrue s0.tells → IsVolume s4.cells s4.image g)
      → (IsTrue s4.tells → IsLastSlot g s3.image s4.image n state) → (IsTrue s4.tells → HasJournal g state s4.image)
      → PutsPhases (end_plan s4.image n state) (end_phases state) s4 s5 (Err fault)
      → SettleEnds s0 s5 (Err (refusal_of_fault fault))
  end_refused state faults.Failed volume last entries phases = omega (arith, phases.puts.ends, c04.faults)
  end_refused state (faults.Tampered e) volume last entries phases = λ tells.
      let t4 = tells_4 tells in
      taken_found (volume tells) t4 e state (last t4) (entries t4) phases

-- ending a slot writes no reserve cell
not_reserve : (g : Layout) (image : Image) (n m : ℕ) (state : SlotState) → m < g.slots → HasJournal g state image
    → (put : Put) → IsInFirst (end_plan image n state) (end_phases state) put → put.at ≡ reserve_at m → ⊥
not_reserve g image n m Unused less entries put h here = omega (arith, h.1)
not_reserve g image n m (Abandoned s l) less entries put h here = omega (arith, h.1)
not_reserve g image n m (Done s l b j) less entries put h here = omega (arith, h.1)
not_reserve g image n m (Reserved s l) less entries put h here = ⊎_elim
    (λ (a : (h.0 ≡ 0) × (put ≡ abandon_put n)). omega (arith, here, ap (λ (x : Put). x.at) a.1))
    (λ (c : (h.0 ≡ 1) × ⊥). c.1)
    h.2
not_reserve g image n m (Committed s l b j) less entries put h here = ⊎_elim
    (λ (first : (h.0 ≡ 0) × IsEntryPut image (journal_at s l j) j put).
    let low : lists_at g ≤ target_of put.value =
    entries_from (lists_at g) image (journal_at s l j) (document_at s l b j) j entries first.1.0 put.value first.1.1
    first.1.2.stands in
    omega (arith, less, here, first.1.2.at, low))
    (λ (final : (h.0 ≡ 1) × (put ≡ done_put n)). omega (arith, here, ap (λ (x : Put). x.at) final.1))
    h.2

pub stays_free : (g : Layout) (n m : ℕ) (state : SlotState) (s4 s5 : DeviceState) (u : Unit {0}) → m < g.slots
    → HasJournal g state s4.image → PutsPhases (end_plan s4.image n state) (end_phases state) s4 s5 (Ok u)
    → IsTrue s4.tells → IsStill s4.foreign_writes s5.foreign_writes → s4.image (reserve_at m) ≡ None
    → s5.image (reserve_at m) ≡ None
stays_free g n m state s4 s5 u less entries phases tells still none = ⊎_elim
    (λ (blank : s5.image (reserve_at m) ≡ None). blank)
    (λ (w : (v : List ℕ) × (s5.image (reserve_at m) ≡ Some v)). absurd (⊎_elim
    (λ (stood : s4.image (reserve_at m) ≡ Some w.0). none-some w.0 (sym none ∙ stood))
    (λ (q : IsPut (IsInFirst (end_plan s4.image n state) (end_phases state)) s4.image (reserve_at m) w.0).
    not_reserve g s4.image n m state less entries q.put q.planned q.here)
    (phases.puts.only tells still (reserve_at m) w.0 w.1)))
    (look s5.image (reserve_at m))
