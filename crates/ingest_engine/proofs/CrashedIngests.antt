-- What a crash in the middle of an ingest leaves of a slot that was unused, where nobody else writes.
use Rattle.std.proofs.Common.{◌≡◌, ◌≢◌, ◌≤◌, ◌<◌, ◌+◌, ◌⊎◌, ℕ, List, Result, sym, subst, ⊎_elim, inl, inr, arith, Option}
use Rattle.std.specs.Prelude.{IsTrue}
use Rattle.cell_types.specs.Image.{Image, Extends, Between, IsUnchanged}
use Rattle.cell_types.specs.Layout.{Layout, IsLayout}
use Rattle.cell_types.specs.declared.refusal.Refusal.{Refusal}
use Rattle.volume_meaning.specs.Slots.{IsUnused}
use Rattle.volume_meaning.specs.Volumes.{IsVolume}
use Rattle.volume_meaning.proofs.Extending.{volume_on}
use Rattle.tamper_rules.proofs.GivenUp.{one_layout}
use Rattle.worm_device.specs.Calls.{Called}
use Rattle.worm_device.specs.Counts.{IsStill}
use Rattle.worm_device.specs.State.{DeviceState, LeftSince}
use Rattle.worm_device.proofs.Counting.{still_first, still_second}
use Rattle.worm_device.proofs.Elapsing.{called_then, elapses_of}
use Rattle.recovery_engine.specs.Putting.{IsInFirst, LeavesPhases}
use Rattle.recovery_engine.specs.declared.put.Put.{Put}
use Rattle.commit_record.specs.States.{IsState}
use Rattle.commit_record.specs.declared.slot.SlotState.{SlotState}
use Rattle.commit_record.specs.declared.slot.SlotState.TheVariants.{Unused, Reserved, Abandoned, Committed, Done}
use Rattle.recovery_engine.specs.Ending.{end_phases, IsFirstEnd, IsLastEnd}
use Rattle.recovery_engine.specs.Settling.{EndsByPhases, HasSettled, IsEnding, Settles, settle_plan}
use Rattle.recovery_engine.specs.declared.settling.Ready.{Ready}
use Rattle.plan_writer.specs.CrashLaws.{CrashesLeaveWholeSlots, IsWholeOrUncommitted}
use Rattle.plan_writer.specs.Planned.{INGEST_PHASES, PlansDocument, Suits, ingest_phases}
use Rattle.plan_writer.specs.PuttingPlans.{PutsPlan}
use Rattle.plan_writer.specs.declared.plan.Plan.{Plan}
use Rattle.ingest_engine.specs.Ingesting.{IngestComesTo, CrashesLeaveSlots}
use Rattle.ingest_engine.proofs.UnusedSlots.{IsOwn, plan_apart, settle_apart, unused_after, unused_in, unused_whole}

-- what could be left at a moment lies below what stood then
pub left_now : (s : DeviceState) (image : Image) → LeftSince s s.moment image → Extends image s.image
left_now s image left = ⊎_elim
    (λ (b : Between s.sure s.image image). b.below)
    (λ (past : (m : ℕ) × (s.moment ≤ m) × (m < s.moment) × Between (s.past m).sure (s.past m).image image). absurd
    (omega (arith, past.1, past.2)))
    left

-- a state with phases, or one without
by_phases : (R : Type 0) (state : SlotState) → (1 ≤ end_phases state → R)
    → (((between : Image) (m : ℕ) (put : Put) → IsFirstEnd between m state put → ⊥)
    × ((m : ℕ) (put : Put) → IsLastEnd m state put → ⊥) → R) → R
by_phases R (Reserved start length) some none = some (omega arith)
by_phases R (Committed start length bytes journal) some none = some (omega arith)
by_phases R Unused some none = none (λ between m put e. e, λ m put e. e)
by_phases R (Abandoned start length) some none = none (λ between m put e. e, λ m put e. e)
by_phases R (Done start length bytes journal) some none = none (λ between m put e. e, λ m put e. e)

module _ (g : Layout) (n : ℕ) (old : DeviceState) (volume : IsVolume old.cells old.image g)
    (unused : IsUnused g old.image n) where
  module _ {settled : DeviceState} {result : Result Ready Refusal} (s : Settles old settled result)
      (tells : IsTrue old.tells)
      (still : IsStill old.foreign_writes settled.foreign_writes) where
    e : EndsByPhases old settled result
    e = s.writes tells

    between_is : old.image ≡ e.between
    between_is = λ i cell. sym (e.quiet still cell) i

    between_unused : IsUnused g e.between n
    between_unused = subst (λ (image : Image). IsUnused g image n) between_is unused

    ends_apart : (k : ℕ) (put : Put) → IsInFirst (settle_plan e.between e.slot e.state) k put → IsOwn n put.at → ⊥
    ends_apart k put planned own = by_phases ⊥ e.state
        (λ (some : 1 ≤ end_phases e.state).
        let ending : IsEnding old.cells old.image e.between e.slot e.state = e.ending some in
        let same : ending.layout ≡ g = one_layout {cells = old.cells} {more = old.cells} ending.layout g
        ending.volume (volume_on e.grows volume) in
        settle_apart ending.layout e.between e.slot n (subst (λ (h : Layout). IsUnused h e.between n)
        (sym same) between_unused)
        e.state (subst (λ (image : Image). IsState ending.layout image e.between e.slot e.state) between_is ending.is)
        ending.journal k put planned own)
        (λ (none : ((between : Image) (m : ℕ) (put : Put) → IsFirstEnd between m e.state put → ⊥)
        × ((m : ℕ) (put : Put) → IsLastEnd m e.state put → ⊥)).
        ⊎_elim
        (λ (a : (planned.0 ≡ 1) × IsFirstEnd e.between e.slot e.state put). none.0 e.between e.slot put a.1)
        (λ (b : (planned.0 ≡ 2) × IsLastEnd e.slot e.state put). none.1 e.slot put b.1)
        planned.2)

    -- settling leaves the slot unused
    pub settled_unused : IsUnused g settled.image n
    settled_unused = unused_after n (e.only still) (ends_apart 3) unused

    -- and so does a crash in it
    pub settling_left : (image : Image) → LeftSince settled old.moment image → IsUnused g image n
    settling_left image left = ⊎_elim
        (λ (before : LeftSince old old.moment image). unused_in (left_now old image before) unused)
        (λ (l : LeavesPhases (settle_plan e.between e.slot e.state) 3 old settled image).
        unused_after n (l.only still) (ends_apart (l.phase + 1)) unused)
        (e.crashes tells old.moment image (omega arith) left)

  module _ {looked : DeviceState} {r : Ready} (h : HasSettled old looked r) (tells : IsTrue old.tells)
      (still : IsStill old.foreign_writes looked.foreign_writes) where
    first_still : IsStill old.foreign_writes h.settled.foreign_writes
    first_still = still_first h.settles.called.foreign_writes h.looked.foreign_writes still

    same_image : IsUnchanged h.settled.image looked.image
    same_image = h.quiet (still_second h.settles.called.foreign_writes h.looked.foreign_writes still)

    same_is : h.settled.image ≡ looked.image
    same_is = λ i cell. sym (same_image cell) i

    pub looked_unused : IsUnused g looked.image n
    looked_unused = subst (λ (image : Image). IsUnused g image n) same_is (settled_unused h.settles tells first_still)

    pub looking_left : (image : Image) → LeftSince looked old.moment image → IsUnused g image n
    looking_left image left = ⊎_elim
        (λ (before : LeftSince h.settled old.moment image). settling_left h.settles tells first_still image before)
        (λ (b : Between h.settled.sure looked.image image). unused_in b.below looked_unused)
        ((elapses_of h.looked).adds old.moment image (elapses_of h.settles.called).later left)

    -- a crash while a plan is put
    module _ (law : CrashesLeaveWholeSlots) (id body : List ℕ) (p : Plan) (new : DeviceState)
        (layout : r.volume.geometry ≡ g)
        (is_layout : IsLayout g) (suits : Suits g p) (plans : PlansDocument p id body)
        (puts : PutsPlan r.horizon p looked new)
        (alone : IsStill looked.foreign_writes new.foreign_writes) where
      its_own : (image : Image) → LeavesPhases (ingest_phases r.horizon p) INGEST_PHASES looked new image
          → r.horizon ≡ n
          → IsWholeOrUncommitted g n id body image
      its_own image leaves here = law g n p id body image plans (record {
        old = looked;
        new = new;
        planned = record { layout = is_layout; unused = looked_unused; suits = suits };
        leaves = subst (λ (u : ℕ). LeavesPhases (ingest_phases u p) INGEST_PHASES looked new image) here leaves;
        alone = alone;
      })

      elsewhere : (image : Image) → LeavesPhases (ingest_phases r.horizon p) INGEST_PHASES looked new image
          → r.horizon ≢ n
          → IsWholeOrUncommitted g n id body image
      elsewhere image leaves apart =
          unused_whole (unused_after n (leaves.only alone) (plan_apart g p r.horizon n suits unused.slot apart
          (leaves.phase + 1)) looked_unused)

      same_or_not : (a b : ℕ) → (a ≡ b) ⊎ (a ≢ b)
      same_or_not a b = ⊎_elim inl (λ (differs : a ≢ b). inr differs) (decide a b)
        where
          decide : (a b : ℕ) → (a ≡ b) ⊎ (a ≢ b)
          decide a b = grind arith

      pub putting_left : (image : Image) → LeftSince new old.moment image → IsWholeOrUncommitted g n id body image
      putting_left image left = ⊎_elim
          (λ (before : LeftSince looked old.moment image). unused_whole (looking_left image before))
          (λ (leaves : LeavesPhases (ingest_phases r.horizon p) INGEST_PHASES looked new image).
          ⊎_elim (its_own image leaves) (elsewhere image leaves) (same_or_not r.horizon n))
          (puts.crashes (subst IsTrue (sym (called_then h.settles.called h.looked).tells) tells) old.moment image
          (omega (arith, (elapses_of h.settles.called).later, (elapses_of h.looked).later)) left)

-- the volume that was found ready is the one that stood at entry
pub ready_layout : (old looked : DeviceState) (r : Ready) (g : Layout) → HasSettled old looked r → IsTrue old.tells
    → IsVolume old.cells old.image g → (r.volume.geometry ≡ g) × IsLayout g
ready_layout old looked r g h tells volume =
    let ready = h.settles.ends.1 tells in
    let later : IsVolume h.settled.cells h.settled.image g =
    subst (λ (cells : ℕ). IsVolume cells h.settled.image g) (sym h.settles.called.cells)
    (volume_on h.settles.called.image volume) in
    let same : r.volume.geometry ≡ g =
    one_layout {cells = h.settled.cells} {more = h.settled.cells} r.volume.geometry g ready.volume later in
    (same, subst IsLayout same h.settles.ends.0.layout)

-- whatever an ingest has come to
pub crashed : (id : List ℕ) (stamp : Option ℕ) (body : List ℕ) (old new : DeviceState) → CrashesLeaveWholeSlots
    → Called old new → IngestComesTo id stamp body old new
    → CrashesLeaveSlots id body old new
crashed id stamp body old new law called (IngestComesTo.nothing same) tells still g n volume unused image left =
    unused_whole (unused_in (left_now old image (subst (λ (s : DeviceState). LeftSince s old.moment image) same left))
    unused)
crashed id stamp body old new law called (IngestComesTo.settling refusal s) tells still g n volume unused image left =
    unused_whole (settling_left g n old volume unused s tells still image left)
crashed id stamp body old new law called (IngestComesTo.settled r h) tells still g n volume unused image left =
    unused_whole (looking_left g n old volume unused h tells still image left)
crashed id stamp body old new law called (IngestComesTo.put looked r p h device less plan puts) tells still g n volume
    unused image left =
    let first : Called old looked = called_then h.settles.called h.looked in
    let layout = ready_layout old looked r g h tells volume in
    putting_left g n old volume unused h tells (still_first first.foreign_writes puts.called.foreign_writes still)
    law id body p new
    layout.0 layout.1 (subst (λ (k : Layout). Suits k p) layout.0 plan.suits) plan.document puts
    (still_second first.foreign_writes puts.called.foreign_writes still) image left
