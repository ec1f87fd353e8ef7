-- A cell of a plan was found taken.
use Rattle.std.proofs.Common.{inl, ◌≡◌, ◌<◌, ◌≤◌, ◌+◌, ◌⊎◌, ℕ, zero, suc, List, Option, length, Some, None, refl, sym, ap, ◌∙◌, inr, ⊎_elim, subst, arith}
use Rattle.std.specs.Prelude.{slice_get}
use Rattle.std.proofs.lemmas.Option.{none-some, slice_get_within}
use Rattle.cell_types.specs.Image.{Extends}
use Rattle.cell_types.specs.Layout.{Layout, IsLayout, reserve_at, outcome_at, done_at, spare_at}
use Rattle.cell_types.specs.Records.{IsRecordCell}
use Rattle.cell_types.specs.declared.refusal.Evidence.{Evidence}
use Rattle.recovery_engine.specs.declared.put.Blame.{Blame}
use Rattle.recovery_engine.specs.declared.put.Blame.TheVariants.{Rule}
use Rattle.recovery_engine.specs.declared.put.Put.{Put}
use Rattle.recovery_engine.specs.Putting.{AreStanding, IsInFirst, IsInRow, IsPut, IsPutTwice, IsTakenIn, blamed}
use Rattle.recovery_engine.specs.Ending.{done_put}
use Rattle.recovery_engine.specs.Entries.{target_of}
use Rattle.volume_meaning.specs.Slots.{Commits}
use Rattle.volume_meaning.specs.Volumes.{IsVolume}
use Rattle.volume_meaning.proofs.Extending.{volume_on}
use Rattle.volume_meaning.proofs.Holding.{some_is}
use Rattle.tamper_rules.specs.Journals.{CopiesIndexCell, journal_at}
use Rattle.tamper_rules.specs.Rules.{DoneCells, IsPlaceOf, OutcomeCells, RedoneRule, ReserveCells, StrayCells, Targets}
use Rattle.tamper_rules.specs.declared.numbers.TheConstants.{DONE_CELL, OUTCOME_CELL, RESERVE_CELL, STRAY_CELL}
use Rattle.worm_device.specs.Counts.{IsStill}
use Rattle.worm_device.specs.State.{DeviceState}
use Rattle.worm_device.specs.Calls.{Called}
use Rattle.worm_device.proofs.Counting.{still_first, still_second}
use Rattle.plan_writer.specs.Blank.{IsSlotFree, IsOfNewSlot}
use Rattle.plan_writer.specs.Planned.{INGEST_PHASES, IsAskedPut, IsPooledPut, IsStampPut, Suits, commit_put, document_from, ingest_phases, journal_from, reserve_put, reserved_by}
use Rattle.plan_writer.specs.PuttingPlans.{AsksForBlank, IsFoundByPlan, IsPlanRule}
use Rattle.plan_writer.specs.declared.plan.Plan.{Plan}
use Rattle.plan_writer.proofs.LogCells.{commit_in, done_in, once_asked, once_pooled, once_stamped, pooled_from, pooled_to, reserve_in, stamp_at}
use Rattle.plan_writer.proofs.Stated.{commits_by, done_by}
use Rattle.plan_writer.proofs.Targets.{asked_below}

by_cell : (R : Type 0) (found : Option (List ℕ)) → (found ≡ None → R) → ((v : List ℕ) → found ≡ Some v → R) → R
by_cell R None none some = none refl
by_cell R (Some v) none some = some v refl

before_or : (a b : ℕ) → (a < b) ⊎ (b ≤ a)
before_or a b = grind arith

-- what is blamed by the number of a rule
blames : (w : Blame) (number at : ℕ) (value found : List ℕ) (e : Evidence) → e ≡ blamed w at value found
    → w ≡ Rule number → e ≡ record { rule = number; cell = at; found = found }
blames w number at value found e is blame = is ∙ ap (λ (b : Blame). blamed b at value found) blame

module _ (g : Layout) (n : ℕ) (p : Plan) {s0 s2 s4 : DeviceState} (layout : IsLayout g) (less : n < g.slots)
    (suits : Suits g p) (c02 : Called s0 s2) (c24 : Called s2 s4) (volume : IsVolume s2.cells s2.image g)
    (free : IsSlotFree s2.image n (reserved_by p))
    (unreserved : IsStill s0.foreign_writes s2.foreign_writes → s2.image (reserve_at n) ≡ None)
    (e : Evidence) (t : IsTakenIn (ingest_phases n p) INGEST_PHASES s2 s4 e)
    (only : IsStill s2.foreign_writes s4.foreign_writes → (at : ℕ) (value : List ℕ) → s4.image at ≡ Some value
    → (s2.image at ≡ Some value) ⊎ IsPut (IsInFirst (ingest_phases n p) INGEST_PHASES) s2.image at value)
    (proper : Extends s4.sure s4.image) where
  volume_4 : IsVolume s4.cells s4.image g
  volume_4 = subst (λ (k : ℕ). IsVolume k s4.image g) (sym c24.cells) (volume_on c24.image volume)

  still_2 : IsStill s0.foreign_writes s4.foreign_writes → IsStill s0.foreign_writes s2.foreign_writes
  still_2 still = still_first c02.foreign_writes c24.foreign_writes still

  still_4 : IsStill s0.foreign_writes s4.foreign_writes → IsStill s2.foreign_writes s4.foreign_writes
  still_4 still = still_second c02.foreign_writes c24.foreign_writes still

  -- a cell that was blank at entry, and is put with one value, holds it where nobody else wrote
  never : IsStill s0.foreign_writes s4.foreign_writes → s2.image t.taken.put.at ≡ None
      → ((j : ℕ) (other : Put) → ingest_phases n p j other → other.at ≡ t.taken.put.at
      → other.value ≡ t.taken.put.value)
      → ⊥
  never still blank once = ⊎_elim
      (λ (stood : s2.image t.taken.put.at ≡ Some t.taken.found). none-some t.taken.found (sym blank ∙ stood))
      (λ (twice : IsPutTwice (IsInFirst (ingest_phases n p) INGEST_PHASES) t.taken.put t.taken.found).
      t.taken.differs (sym twice.is ∙ once twice.planned.0 twice.other twice.planned.2 twice.here))
      (t.taken.stood (still_4 still))

  -- so one of the slot's own cells was taken by somebody else
  own : (number : ℕ) → IsPlanRule number → IsOfNewSlot n (reserved_by p) t.taken.put.at
      → t.taken.put.blame ≡ Rule number → IsPlaceOf g number t.taken.put.at
      → (IsStill s0.foreign_writes s2.foreign_writes → s2.image t.taken.put.at ≡ None)
      → ((j : ℕ) (other : Put) → ingest_phases n p j other → other.at ≡ t.taken.put.at
      → other.value ≡ t.taken.put.value)
      → IsFoundByPlan n p s0 s2 s4 e
  own number named here blame place blank once =
      subst (IsFoundByPlan n p s0 s2 s4)
      (sym (blames t.taken.put.blame number t.taken.put.at t.taken.put.value t.taken.found e t.taken.is blame))
      (record {
        rule = named;
        own = here;
        licensed = record {
          stands = t.taken.stands;
          layout = g;
          volume = volume_4;
          place = place;
          broken = λ still. absurd (never still (blank (still_2 still)) once);
        };
        at_entry = λ still asks. absurd (never still (blank (still_2 still)) once);
        before = λ still asks. absurd (never still (blank (still_2 still)) once);
        unput = λ still asks. absurd (never still (blank (still_2 still)) once);
      })

  -- a target holds something else, where all phases before are sure
  module _ (a : IsAskedPut (journal_from p) p.journal.now t.taken.put)
      (before : AreStanding (IsInFirst (ingest_phases n p) 3) s4.sure) where
    value : List ℕ
    value = t.taken.put.value

    within : a.k < length p.journal.now
    within = slice_get_within p.journal.now a.k t.taken.put.value a.value

    stands : s4.image (journal_from p + a.k) ≡ Some t.taken.put.value
    stands = proper.keeps (journal_from p + a.k) t.taken.put.value
        (before (record { at = journal_from p + a.k; value = t.taken.put.value; blame = Rule STRAY_CELL })
        (1, omega arith, inr (inr (record { place = a.k; at = refl; value = a.value; blame = refl }))))

    other : s4.image (target_of t.taken.put.value) ≡ Some t.taken.found
    other = ap s4.image (sym a.at) ∙ t.taken.stands

    commits : Commits g s4.image n p.start (reserved_by p).length p.bytes (length p.journal.now)
    commits = commits_by g n p layout less suits s4.image
        (proper.keeps (reserve_at n) _ (before (reserve_put n (reserved_by p)) (0, omega arith, refl)))
        (λ put stamp. proper.keeps put.at put.value (before put (1, omega arith, inl stamp)))
        (proper.keeps (outcome_at n) _ (before (commit_put n p.bytes (length p.journal.now)) (2, omega arith, refl)))

    here : journal_from p + a.k ≡ journal_at p.start (reserved_by p).length (length p.journal.now) + a.k
    here = omega arith

    copied : CopiesIndexCell s4.image p.start (reserved_by p).length (length p.journal.now) a.k (target_of t.taken.put.value)
        (suits.entries a.k within).fit.copy.held
    copied =
        let h = suits.entries a.k within in
        let got : slice_get p.journal.now a.k ≡ Some h.cell = subst (λ (m : ℕ). slice_get p.journal.now m ≡ Some h.cell)
        (omega arith) h.stands in
        let same : h.cell ≡ t.taken.put.value = some_is h.cell t.taken.put.value (sym got ∙ a.value) in
        record {
          below = within;
          entry = t.taken.put.value;
          stands = ap s4.image (sym here) ∙ stands;
          index = h.fit.copy.index;
          address = omega (arith, asked_below g p suits t.taken.put a, a.at, suits.to, layout.cells);
          is = subst (λ (v : List ℕ). IsRecordCell h.fit.copy.held (target_of v) v) same h.fit.copy.is;
        }

    differs : s4.image (target_of t.taken.put.value) ≡ s4.image (journal_from p + a.k) → ⊥
    differs same = t.taken.differs (some_is t.taken.found t.taken.put.value (sym other ∙ same ∙ stands))

    not_met : IsStill s0.foreign_writes s4.foreign_writes → RedoneRule g s4.image (journal_from p + a.k) → ⊥
    not_met still met = by_cell ⊥ (s4.image (done_at n))
        (λ blank. ⊎_elim
        (λ (none : s4.image (target_of t.taken.put.value) ≡ None). none-some t.taken.found (sym none ∙ other))
        (λ (same : s4.image (target_of t.taken.put.value) ≡ s4.image (journal_from p + a.k)). differs same)
        (met.committed n p.start (reserved_by p).length p.bytes (length p.journal.now) a.k
        (target_of t.taken.put.value) _ (record { commits = commits; done = blank }) copied here))
        (λ v done. differs
        (met.done n p.start (reserved_by p).length p.bytes (length p.journal.now) a.k (target_of t.taken.put.value) _
        (record {
          commits = commits;
          done = done_by g n p layout less suits s4.image (done ∙ ap Some (done_value v done));
        }) copied here))
      where
        done_value : (v : List ℕ) → s4.image (done_at n) ≡ Some v → v ≡ (done_put n).value
        done_value v done = ⊎_elim
            (λ (stood : s2.image (done_at n) ≡ Some v). absurd (none-some v (sym free.done ∙ stood)))
            (λ (q : IsPut (IsInFirst (ingest_phases n p) INGEST_PHASES) s2.image (done_at n) v).
            sym q.is ∙ ap (λ (x : Put). x.value) (done_in g n p less suits q.planned.0 q.put q.planned.2 q.here).1)
            (only (still_4 still) (done_at n) v done)

    -- a target of the plan's own cells was looked at
    target_blank : AsksForBlank p s2.image → s2.image (target_of t.taken.put.value) ≡ None
    target_blank asks = ⊎_elim
        (λ (low : target_of t.taken.put.value < p.start). asks a.k t.taken.put.value a.value low)
        (λ (high : p.start ≤ target_of t.taken.put.value). free.reserved (target_of t.taken.put.value) (record {
          from = high;
          below = omega (arith, asked_below g p suits t.taken.put a, a.at);
        }))
        (before_or (target_of t.taken.put.value) p.start)

    target : IsFoundByPlan n p s0 s2 s4 e
    target =
        subst (IsFoundByPlan n p s0 s2 s4)
        (sym (t.taken.is ∙ ap (λ (w : Blame). blamed w t.taken.put.at t.taken.put.value t.taken.found) a.blame))
        (record {
          rule = inr (inr (inr (inl refl)));
          own = inr (record { from = omega arith; below = omega (arith, within) });
          licensed = record {
            stands = stands;
            layout = g;
            volume = volume_4;
            place = (Targets, refl, (omega (arith, suits.from), omega (arith, within, suits.to)));
            broken = λ still. record {
              layout = g;
              volume = volume_4;
              rule = Targets;
              named = refl;
              place = (omega (arith, suits.from), omega (arith, within, suits.to));
              written = record { found = t.taken.put.value; stands = stands };
              not_met = not_met still;
            };
          };
          at_entry = λ still asks. absurd (never still (ap s2.image a.at ∙ target_blank asks)
              (once_asked g n p less suits t.taken.put a));
          before = λ still asks. absurd (never still (ap s2.image a.at ∙ target_blank asks)
              (once_asked g n p less suits t.taken.put a));
          unput = λ still asks. absurd (never still (ap s2.image a.at ∙ target_blank asks)
              (once_asked g n p less suits t.taken.put a));
        })

  -- by the phase in which it was
  by_phase : (j : ℕ) → ingest_phases n p j t.taken.put → AreStanding (IsInFirst (ingest_phases n p) j) s4.sure
      → IsFoundByPlan n p s0 s2 s4 e
  by_phase zero h before =
      let at : t.taken.put.at ≡ reserve_at n = ap (λ (x : Put). x.at) h in
      own RESERVE_CELL (inl refl) (inl (omega (arith, at), omega (arith, at))) (ap (λ (x : Put). x.blame) h) (ReserveCells, refl, (n, less, at))
      (λ still. ap s2.image at ∙ unreserved still)
      (λ i other q here. ap (λ (x : Put). x.value) (reserve_in g n p less suits i other q (here ∙ at)).1
      ∙ sym (ap (λ (x : Put). x.value) h))
  by_phase (suc zero) h before = ⊎_elim stamp_taken pooled_taken h
    where
      stamp_taken : IsStampPut n p.stamp t.taken.put → IsFoundByPlan n p s0 s2 s4 e
      stamp_taken a =
          let at : t.taken.put.at ≡ spare_at n = stamp_at n p.stamp t.taken.put a in
          own STRAY_CELL (inr (inr (inr (inr refl)))) (inl (omega (arith, at), omega (arith, at)))
          (ap (λ (x : Put). x.blame) a.is) (StrayCells, refl, inr (inl (n, less, at)))
          (λ still. ap s2.image at ∙ free.spare)
          (once_stamped g n p less suits t.taken.put a)

      pooled_blame : IsPooledPut p t.taken.put → t.taken.put.blame ≡ Rule STRAY_CELL
      pooled_blame s = ⊎_elim
          (λ (x : IsInRow (document_from p) p.document.now STRAY_CELL t.taken.put). x.blame)
          (λ (y : IsInRow (journal_from p) p.journal.now STRAY_CELL t.taken.put). y.blame)
          s

      pooled_taken : IsPooledPut p t.taken.put → IsFoundByPlan n p s0 s2 s4 e
      pooled_taken b =
          let from : document_from p ≤ t.taken.put.at = pooled_from p t.taken.put b in
          let to : t.taken.put.at < p.start + (reserved_by p).length = pooled_to p t.taken.put b in
          own STRAY_CELL (inr (inr (inr (inr refl)))) (inr (record { from = omega (arith, from); below = to }))
          (pooled_blame b)
          (StrayCells, refl, inr (inr (omega (arith, from, suits.from), omega (arith, to, suits.to))))
          (λ still. free.reserved t.taken.put.at (record { from = omega (arith, from); below = to }))
          (once_pooled g n p less suits t.taken.put b)
  by_phase (suc (suc zero)) h before =
      let at : t.taken.put.at ≡ outcome_at n = ap (λ (x : Put). x.at) h in
      own OUTCOME_CELL (inr (inl refl)) (inl (omega (arith, at), omega (arith, at))) (ap (λ (x : Put). x.blame) h) (OutcomeCells, refl, (n, less, at))
      (λ still. ap s2.image at ∙ free.outcome)
      (λ i other q here. ap (λ (x : Put). x.value) (commit_in g n p less suits i other q (here ∙ at)).1
      ∙ sym (ap (λ (x : Put). x.value) h))
  by_phase (suc (suc (suc zero))) h before = target h before
  by_phase (suc (suc (suc (suc zero)))) h before =
      let at : t.taken.put.at ≡ done_at n = ap (λ (x : Put). x.at) h in
      own DONE_CELL (inr (inr (inl refl))) (inl (omega (arith, at), omega (arith, at))) (ap (λ (x : Put). x.blame) h) (DoneCells, refl, (n, less, at))
      (λ still. ap s2.image at ∙ free.done)
      (λ i other q here. ap (λ (x : Put). x.value) (done_in g n p less suits i other q (here ∙ at)).1
      ∙ sym (ap (λ (x : Put). x.value) h))
  by_phase (suc (suc (suc (suc (suc j))))) h before = absurd h

  pub taken_found : IsFoundByPlan n p s0 s2 s4 e
  taken_found = by_phase t.phase t.planned t.before
