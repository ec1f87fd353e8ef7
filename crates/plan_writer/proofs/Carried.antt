-- The phases of a plan, one after the other.
use Rattle.std.proofs.Common.{◌≡◌, ◌+◌, ℕ, List, length, Some, Ok, Err, refl, sym, ap, ◌∙◌, inl, inr, ⊎_elim, subst, arith}
use Rattle.std.specs.Prelude.{IsTrue, Result, slice_get}
use Rattle.std.proofs.lemmas.Option.{slice_get_within}
use Rattle.cell_types.specs.Image.{Image}
use Rattle.cell_types.specs.Layout.{Layout, lists_at}
use Rattle.cell_types.specs.declared.refusal.Fault.{Fault}
use Rattle.commit_record.specs.declared.reservation.Reservation.{Reservation}
use Rattle.recovery_engine.specs.declared.put.Put.{Put}
use Rattle.recovery_engine.specs.declared.put.Blame.TheVariants.{Rule}
use Rattle.recovery_engine.specs.Putting.{IsThis, PutsPhase, PutsPhases}
use Rattle.recovery_engine.proofs.Phasing.{phases_none, phases_more, phases_ended, phases_wider, phase_told}
use Rattle.recovery_engine.specs.Ending.{done_put, journal_of}
use Rattle.recovery_engine.specs.Entries.{AreEntries, target_of}
use Rattle.recovery_engine.specs.Journal.{IsEntryPut}
use Rattle.recovery_engine.specs.declared.journal.Journal.{Journal}
use Rattle.volume_meaning.specs.Slots.{cells_for}
use Rattle.volume_meaning.proofs.Holding.{some_is}
use Rattle.tamper_rules.specs.declared.numbers.TheConstants.{STRAY_CELL}
use Rattle.worm_device.specs.State.{DeviceState}
use Rattle.plan_writer.specs.Planned.{INGEST_PHASES, IsAskedPut, IsStoredPut, Suits, commit_put, document_from, ingest_phases, journal_from, laid, reserve_put, reserved_by}
use Rattle.plan_writer.specs.declared.plan.Plan.{Plan}

laid_is : (place k : ℕ) (cells : List (List ℕ)) (v : List ℕ) → laid place cells (place + k) ≡ Some v
    → slice_get cells k ≡ Some v
laid_is place k cells v h = subst (λ (m : ℕ). slice_get cells m ≡ Some v) (omega arith) h

-- entries that are laid down are entries where they stand
entries_stand : (first place below n : ℕ) (cells : List (List ℕ)) (image : Image)
    → ((k : ℕ) (v : List ℕ) → slice_get cells k ≡ Some v → image (place + k) ≡ Some v)
    → AreEntries first (laid place cells) place below n → AreEntries first image place below n
entries_stand first place below n cells image stands entries k less =
    let h = entries k less in
    record {
      cell = h.cell;
      floor = h.floor;
      stands = stands k h.cell (laid_is place k cells h.cell h.stands);
      floor_is = ⊎_elim inl
          (λ (b : (m : ℕ) × (before : List ℕ) × (k ≡ m + 1) × (laid place cells (place + m) ≡ Some before)
          × (h.floor ≡ target_of before + 1)).
          inr (b.0, b.1, b.2, stands b.0 b.1 (laid_is place b.0 cells b.1 b.3), b.4))
          h.floor_is;
      fit = h.fit;
    }

module _ (n : ℕ) (p : Plan) where
  module _ (cells : Reservation) (cells_are : cells ≡ reserved_by p) {s0 s1 : DeviceState} where
    first_phase : (result : Result (Unit {0}) Fault) → PutsPhase (IsThis (reserve_put n cells)) s0 s1 result
        → PutsPhase (IsThis (reserve_put n (reserved_by p))) s0 s1 result
    first_phase result q =
        subst (λ (r : Reservation). PutsPhase (IsThis (reserve_put n r)) s0 s1 result) cells_are q

    -- the reserve cell was not put
    pub reserve_ended : (fault : Fault) → PutsPhase (IsThis (reserve_put n cells)) s0 s1 (Err fault)
        → PutsPhases (ingest_phases n p) INGEST_PHASES s0 s1 (Err fault)
    reserve_ended fault q = phases_wider (ingest_phases n p) 1 5 fault (omega arith)
        (phases_ended (ingest_phases n p) 0 tt (phases_none (ingest_phases n p) s0) fault (first_phase (Err fault) q))

    module _ (first : PutsPhase (IsThis (reserve_put n cells)) s0 s1 (Ok tt)) where
      far_1 : PutsPhases (ingest_phases n p) 1 s0 s1 (Ok tt)
      far_1 = phases_more (ingest_phases n p) 0 tt (phases_none (ingest_phases n p) s0) tt tt
          (first_phase (Ok tt) first)

      module _ {s2 : DeviceState} where
        -- the document and the journal were not
        pub store_ended : (fault : Fault)
            → PutsPhase (IsStoredPut n p) s1 s2 (Err fault)
            → PutsPhases (ingest_phases n p) INGEST_PHASES s0 s2 (Err fault)
        store_ended fault q = phases_wider (ingest_phases n p) 2 5 fault (omega arith)
            (phases_ended (ingest_phases n p) 1 tt far_1 fault q)

        module _ (second : PutsPhase (IsStoredPut n p) s1 s2 (Ok tt)) where
          far_2 : PutsPhases (ingest_phases n p) 2 s0 s2 (Ok tt)
          far_2 = phases_more (ingest_phases n p) 1 tt far_1 tt tt second

          module _ {s3 : DeviceState} where
            -- the commit cell was not
            pub commit_ended : (fault : Fault)
                → PutsPhase (IsThis (commit_put n p.bytes (length p.journal.now))) s2 s3 (Err fault)
                → PutsPhases (ingest_phases n p) INGEST_PHASES s0 s3 (Err fault)
            commit_ended fault q = phases_wider (ingest_phases n p) 3 5 fault (omega arith)
                (phases_ended (ingest_phases n p) 2 tt far_2 fault q)

            module _ (third : PutsPhase (IsThis (commit_put n p.bytes (length p.journal.now))) s2 s3 (Ok tt)) where
              far_3 : PutsPhases (ingest_phases n p) 3 s0 s3 (Ok tt)
              far_3 = phases_more (ingest_phases n p) 2 tt far_2 tt tt third

              -- the journal stands
              journal_stands : IsTrue s3.tells → (k : ℕ) (v : List ℕ) → slice_get p.journal.now k ≡ Some v
                  → s3.image (journal_from p + k) ≡ Some v
              journal_stands tells k v is =
                  far_3.puts.ends (subst IsTrue far_3.puts.called.tells tells)
                  (record { at = journal_from p + k; value = v; blame = Rule STRAY_CELL })
                  (1, omega arith, inr (inr (record { place = k; at = refl; value = is; blame = refl })))

              module _ (g : Layout) (suits : Suits g p) (j : Journal)
                  (is : j ≡ journal_of g n cells.start cells.length p.bytes (length p.journal.now)) where
                start_is : cells.start ≡ p.start
                start_is = ap (λ (r : Reservation). r.start) cells_are

                length_is : cells.length ≡ (reserved_by p).length
                length_is = ap (λ (r : Reservation). r.length) cells_are

                place_is : j.place ≡ journal_from p
                place_is = omega (arith, ap (λ (x : Journal). x.place) is, start_is, length_is)

                below_is : j.below ≡ document_from p
                below_is =
                    let doc : length p.document.now ≡ cells_for p.bytes = suits.document in
                    omega (arith, doc, ap (λ (x : Journal). x.below) is, start_is, length_is)

                count_is : j.count ≡ length p.journal.now
                count_is = ap (λ (x : Journal). x.count) is

                lists_from : j.first ≡ lists_at g
                lists_from = ap (λ (x : Journal). x.first) is

                -- its cells ask for what they may ask for
                pub entries_there : IsTrue s3.tells → AreEntries j.first s3.image j.place j.below j.count
                entries_there tells =
                    rw lists_from (rw place_is (rw below_is (rw count_is
                    (entries_stand (lists_at g) (journal_from p) (document_from p) (length p.journal.now) p.journal.now
                    s3.image (journal_stands tells) suits.entries))))

                asked_to : IsTrue s3.tells → (put : Put)
                    → IsEntryPut s3.image (journal_from p) (length p.journal.now) put
                    → IsAskedPut (journal_from p) p.journal.now put
                asked_to tells put h =
                    let e = suits.entries h.0 h.1 in
                    let got : slice_get p.journal.now h.0 ≡ Some e.cell = laid_is (journal_from p) h.0 p.journal.now
                    e.cell e.stands in
                    let value : e.cell ≡ put.value = some_is e.cell put.value
                    (sym (journal_stands tells h.0 e.cell got) ∙ h.2.stands) in
                    record { k = h.0; value = got ∙ ap Some value; at = h.2.at; blame = h.2.blame }

                asked_back : IsTrue s3.tells → (put : Put) → IsAskedPut (journal_from p) p.journal.now put
                    → IsEntryPut s3.image (journal_from p) (length p.journal.now) put
                asked_back tells put h = (
                  h.k,
                  slice_get_within p.journal.now h.k put.value h.value,
                  record { stands = journal_stands tells h.k put.value h.value; at = h.at; blame = h.blame },
                )

                module _ {s4 : DeviceState} where
                  asked_phase : (result : Result (Unit {0}) Fault)
                      → PutsPhase (IsEntryPut s3.image j.place j.count) s3 s4 result
                      → PutsPhase (IsAskedPut (journal_from p) p.journal.now) s3 s4 result
                  asked_phase result q =
                      phase_told asked_to asked_back
                      (subst (λ (a : ℕ). PutsPhase (IsEntryPut s3.image a (length p.journal.now)) s3 s4 result) place_is
                      (subst (λ (k : ℕ). PutsPhase (IsEntryPut s3.image j.place k) s3 s4 result) count_is q))

                  -- a target was not put
                  pub apply_ended : (fault : Fault)
                      → PutsPhase (IsEntryPut s3.image j.place j.count) s3 s4 (Err fault)
                      → PutsPhases (ingest_phases n p) INGEST_PHASES s0 s4 (Err fault)
                  apply_ended fault q = phases_wider (ingest_phases n p) 4 5 fault (omega arith)
                      (phases_ended (ingest_phases n p) 3 tt far_3 fault (asked_phase (Err fault) q))

                  module _ (fourth : PutsPhase (IsEntryPut s3.image j.place j.count) s3 s4 (Ok tt)) where
                    far_4 : PutsPhases (ingest_phases n p) 4 s0 s4 (Ok tt)
                    far_4 = phases_more (ingest_phases n p) 3 tt far_3 tt tt (asked_phase (Ok tt) fourth)

                    -- all were, up to the done cell
                    pub carried : {s5 : DeviceState} (result : Result (Unit {0}) Fault)
                        → PutsPhase (IsThis (done_put n)) s4 s5 result
                        → PutsPhases (ingest_phases n p) INGEST_PHASES s0 s5 result
                    carried (Ok tt) q = phases_more (ingest_phases n p) 4 tt far_4 tt tt q
                    carried (Err fault) q = phases_ended (ingest_phases n p) 4 tt far_4 fault q
