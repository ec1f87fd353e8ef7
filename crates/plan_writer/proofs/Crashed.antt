-- What a crash leaves of the cells of a slot's log, by the phase that it fell in.
use Rattle.std.proofs.Common.{◌≡◌, ◌≤◌, ◌<◌, ◌+◌, ℕ, List, Option, length, Some, None, refl, sym, ap, ◌∙◌, inl, inr, ⊎_elim, subst, arith}
use Rattle.std.proofs.lemmas.Option.{none-some}
use Rattle.cell_types.specs.Image.{Image}
use Rattle.cell_types.specs.Layout.{Layout, reserve_at, outcome_at, done_at}
use Rattle.cell_types.specs.declared.record_cell.RecordCell.TheVariants as records
use Rattle.commit_record.specs.States.{IsState}
use Rattle.commit_record.specs.declared.slot.SlotState.{SlotState}
use Rattle.commit_record.specs.declared.slot.SlotState.TheVariants.{Unused, Reserved, Committed, Done}
use Rattle.recovery_engine.specs.declared.put.Put.{Put}
use Rattle.recovery_engine.specs.declared.put.Blame.TheVariants.{Rule}
use Rattle.recovery_engine.specs.Putting.{AreStanding, IsPut, IsInFirst}
use Rattle.recovery_engine.specs.Ending.{done_put}
use Rattle.volume_meaning.specs.Documents.{Spells, content_at, document_at, stored_bytes}
use Rattle.volume_meaning.specs.Slots.{Reserves, Commits, cells_for}
use Rattle.volume_meaning.specs.Volumes.{Holds}
use Rattle.volume_meaning.proofs.Holding.{one_record_holds}
use Rattle.tamper_rules.specs.declared.numbers.TheConstants.{STRAY_CELL}
use Rattle.plan_writer.specs.CrashLaws.{IsLeftByPlan, IsWholeOrUncommitted}
use Rattle.plan_writer.specs.Planned.{IsStoredPut, PlansDocument, Suits, commit_put, document_from, ingest_phases, reserve_put, reserved_by}
use Rattle.plan_writer.specs.declared.plan.Plan.{Plan}
use Rattle.plan_writer.proofs.LogCells.{commit_in, done_in, reserve_in}
use Rattle.plan_writer.proofs.Stated.{commits_by, reserves_by}

by_cell : (R : Type 0) (found : Option (List ℕ)) → (found ≡ None → R) → ((v : List ℕ) → found ≡ Some v → R) → R
by_cell R None none some = none refl
by_cell R (Some v) none some = some v refl

module _ (g : Layout) (n : ℕ) (p : Plan) (image : Image) (left : IsLeftByPlan g n p image) where
  suits : Suits g p
  suits = left.planned.suits

  less : n < g.slots
  less = left.planned.unused.slot

  -- a cell that was blank and is written now was put
  was_put : (at : ℕ) (v : List ℕ) → left.old.image at ≡ None → image at ≡ Some v
      → IsPut (IsInFirst (ingest_phases n p) (left.leaves.phase + 1)) left.old.image at v
  was_put at v none here = ⊎_elim
      (λ (stood : left.old.image at ≡ Some v). absurd (none-some v (sym none ∙ stood)))
      (λ put. put)
      (left.leaves.only left.alone at v here)

  -- a commit cell was put in the third phase
  committed_in : (v : List ℕ) → image (outcome_at n) ≡ Some v
      → (2 ≤ left.leaves.phase) × (v ≡ (commit_put n p.bytes (length p.journal.now)).value)
  committed_in v here =
      let put = was_put (outcome_at n) v left.planned.unused.outcome here in
      let is = commit_in g n p less suits put.planned.0 put.put put.planned.2 put.here in
      (omega (arith, is.0, put.planned.1), sym put.is ∙ ap (λ (x : Put). x.value) is.1)

  -- a done cell in the last
  ended_in : (v : List ℕ) → image (done_at n) ≡ Some v → (4 ≤ left.leaves.phase) × (v ≡ (done_put n).value)
  ended_in v here =
      let put = was_put (done_at n) v left.planned.unused.done here in
      let is = done_in g n p less suits put.planned.0 put.put put.planned.2 put.here in
      (omega (arith, is.0, put.planned.1), sym put.is ∙ ap (λ (x : Put). x.value) is.1)

  -- and the reserve cell is the plan's
  reserved_as : (v : List ℕ) → image (reserve_at n) ≡ Some v → v ≡ (reserve_put n (reserved_by p)).value
  reserved_as v here =
      let put = was_put (reserve_at n) v left.planned.unused.reserve here in
      let is = reserve_in g n p less suits put.planned.0 put.put put.planned.2 put.here in
      sym put.is ∙ ap (λ (x : Put). x.value) is.1

  -- a commit cell is left with the stamp, the document and the journal
  pub follows : (v : List ℕ) → image (outcome_at n) ≡ Some v
      → AreStanding (IsStoredPut n p) image
  follows v here put h = let two = (committed_in v here).0 in left.leaves.all put (1, omega (arith, two), h)

  reserves : (v : List ℕ) → image (reserve_at n) ≡ Some v
      → Reserves g image n p.start (reserved_by p).length
  reserves v here = reserves_by g n p left.planned.layout less suits image (here ∙ ap Some (reserved_as v here))

  commits : (r v : List ℕ) → image (reserve_at n) ≡ Some r → image (outcome_at n) ≡ Some v
      → Commits g image n p.start (reserved_by p).length p.bytes (length p.journal.now)
  commits r v there here = commits_by g n p left.planned.layout less suits image (there ∙ ap Some (reserved_as r there))
      (λ put stamp. follows v here put (inl stamp)) (here ∙ ap Some (committed_in v here).1)

  -- where the outcome cell is written the slot is committed
  committed : (v : List ℕ) → image (outcome_at n) ≡ Some v
      → Commits g image n p.start (reserved_by p).length p.bytes (length p.journal.now)
  committed v here =
      let two = (committed_in v here).0 in
      commits _ v (left.leaves.all (reserve_put n (reserved_by p)) (0, omega (arith, two), refl)) here

  ended : (v : List ℕ) → image (done_at n) ≡ Some v → Holds image (done_at n) (records.Done n)
  ended v here = record {
    cell = v;
    stands = here;
    is = record {
      fits = omega (arith, less, left.planned.layout.slots);
      well_formed = omega (arith, less, left.planned.layout.slots);
      same = (ended_in v here).1;
    };
  }

  -- the slot is in a state
  pub has_state : (state : SlotState) × IsState g image image n state
  has_state = by_cell ((state : SlotState) × IsState g image image n state) (image (done_at n))
      (λ no_done. by_cell ((state : SlotState) × IsState g image image n state) (image (outcome_at n))
      (λ no_outcome. by_cell ((state : SlotState) × IsState g image image n state) (image (reserve_at n))
      (λ no_reserve. (Unused, record { slot = less; reserve = no_reserve; outcome = no_outcome; done = no_done }))
      (λ r there. (
        Reserved p.start (reserved_by p).length,
        record { reserves = reserves r there; outcome = no_outcome; done = no_done },
      )))
      (λ v here. (
        Committed p.start (reserved_by p).length p.bytes (length p.journal.now),
        record { commits = committed v here; done = no_done },
      )))
      (λ d done.
      let four = (ended_in d done).0 in
      let here = left.leaves.all (commit_put n p.bytes (length p.journal.now)) (2, omega (arith, four), refl) in (
        Done p.start (reserved_by p).length p.bytes (length p.journal.now),
        record { commits = committed _ here; done = ended d done },
      ))

  -- a slot that states a document states the plan's
  module _ (id body : List ℕ) (plans : PlansDocument p id body) (start reserved bytes journal : ℕ)
      (states : Commits g image n start reserved bytes journal) where
    ours : Commits g image n p.start (reserved_by p).length p.bytes (length p.journal.now)
    ours = committed states.outcome.cell states.outcome.stands

    start_is : p.start ≡ start
    start_is =
        let one = one_record_holds image (reserve_at n) _ _ ours.reserves.reserve states.reserves.reserve in cc

    reserved_is : (reserved_by p).length ≡ reserved
    reserved_is =
        let one = one_record_holds image (reserve_at n) _ _ ours.reserves.reserve states.reserves.reserve in cc

    bytes_is : p.bytes ≡ bytes
    bytes_is = let one = one_record_holds image (outcome_at n) _ _ ours.outcome states.outcome in cc

    journal_is : length p.journal.now ≡ journal
    journal_is = let one = one_record_holds image (outcome_at n) _ _ ours.outcome states.outcome in cc

    stated : bytes ≡ length (stored_bytes id body)
    stated = sym bytes_is ∙ plans.bytes

    begins : document_from p ≡ document_at start reserved bytes journal
    begins =
        let doc : length p.document.now ≡ cells_for p.bytes = suits.document in
        omega (arith, doc, start_is, reserved_is, bytes_is, journal_is)

    spelt : Spells image (document_at start reserved bytes journal) (stored_bytes id body)
    spelt = subst (λ (a : ℕ). Spells image a (stored_bytes id body)) begins
        (λ k below. follows states.outcome.cell states.outcome.stands
        (record { at = document_from p + k; value = content_at (stored_bytes id body) k; blame = Rule STRAY_CELL })
        (inr (inl (record { place = k; at = refl; value = plans.each k below; blame = refl }))))

  -- the slot is in a state, and states no other document
  pub is_whole : (id body : List ℕ) → PlansDocument p id body → IsWholeOrUncommitted g n id body image
  is_whole id body plans = record {
    state = has_state.0;
    is = has_state.1;
    bytes = stated id body plans;
    whole = spelt id body plans;
  }
