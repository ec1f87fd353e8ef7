-- What an ingest has planned, on a volume that was settled from a steady state, is well made.
use Rattle.std.proofs.Common.{◌≡◌, ◌<◌, ◌+◌, ◌^◌, ℕ, List, Option, Some, None, refl, sym, ap, ◌∙◌, subst, arith}
use Rattle.std.specs.Prelude.{IsTrue, length}
use Rattle.std.proofs.lemmas.Option.{none-some}
use Rattle.sha2.specs.Sha256.{sha256}
use Rattle.cell_types.specs.Bytes.{AreBytes}
use Rattle.cell_types.specs.Image.{Image}
use Rattle.cell_types.specs.Layout.{Layout, root_at}
use Rattle.volume_meaning.specs.Documents.{Stands, stored_bytes}
use Rattle.volume_meaning.specs.Slots.{EndsBelow, IsEdge, IsHorizon, IsStampFor, cells_for}
use Rattle.volume_meaning.specs.Volumes.{IsVolume, IsWritten}
use Rattle.volume_meaning.proofs.Extending.{written_on}
use Rattle.volume_meaning.specs.HashPaths.{IsPassed, PassedTo}
use Rattle.volume_meaning.specs.Keeping.{sought_in}
use Rattle.volume_meaning.proofs.Digests.{digest_is_bytes}
use Rattle.tamper_rules.specs.Rules.{Paths}
use Rattle.tamper_rules.specs.Settling.{IsSettled, Settled, Sound}
use Rattle.tamper_rules.proofs.GivenUp.{one_layout}
use Rattle.tamper_rules.proofs.Images.{same_image}
use Rattle.ingest_laws.specs.Filling.{IsWellPlanned}
use Rattle.ingest_laws.specs.Ingesting as growing
use Rattle.ingest_laws.specs.Needs.{IsNeed}
use Rattle.worm_device.specs.Counts.{IsStill}
use Rattle.worm_device.specs.State.{DeviceState, IsDevice}
use Rattle.worm_device.specs.Views.{seen_directly}
use Rattle.worm_device.proofs.Counting.{still_second}
use Rattle.recovery_engine.specs.Settling.{HasSettled}
use Rattle.recovery_engine.specs.declared.settling.Ready.{Ready}
use Rattle.hash_tree.specs.Levels.{node_of}
use Rattle.hash_tree.specs.Steps.{IsOpenAt}
use Rattle.hash_tree.specs.declared.level.Level.{Level}
use Rattle.hash_tree.specs.Readiness.{PassedDown, blank_in}
use Rattle.plan_laws.specs.Standing.{EndsPath, seconds_of}
use Rattle.identifier_lookup.specs.Walks.{EndsThere, IsBlankIn, IsPassedAbove, IsPassedUpToPlace, NoneHasTrail}
use Rattle.ingest_plan.specs.Planning.{IsLater, IsPlanned}
use Rattle.plan_laws.specs.Laws.{TakesSlot}
use Rattle.plan_laws.proofs.Answered.{answered}
use Rattle.plan_laws.proofs.Needed.{needed}
use Rattle.plan_laws.proofs.Well.{well}
use Rattle.plan_writer.specs.Planned.{PlansDocument, Suits, reserved_by}
use Rattle.plan_writer.specs.declared.plan.Plan.{Plan}
use Rattle.plan_writer.proofs.PutFrom.{ends_2, free_2, volume_2}
use Rattle.ingest_plan.specs.declared.plan.PlannedIndex.{PlannedIndex}
use Rattle.ingest_engine.specs.Indexing.{HasIndex, HasWalked}
use Rattle.ingest_engine.specs.Ingesting.{need_with}
use Rattle.crash_laws.specs.SettlingSteadiness.{EndsAs, IsSteady}
use Rattle.crash_laws.proofs.LookedAt.{looked_ends, looked_sound}

-- a plan, as the laws of images speak of it
abbrev pub plan_of : ℕ → Plan → List ℕ → List ℕ → growing.Plan
plan_of n p id body = record {
  slot = n;
  start = p.start;
  reserved = (reserved_by p).length;
  id = id;
  body = body;
  stamp = p.stamp;
  journal = p.journal.now;
}

-- the seconds of a stamp, if there is one, have 32 bits
few_seconds : (stamp : Option ℕ) → ((seconds : ℕ) → stamp ≡ Some seconds → seconds < 2 ^ 32)
    → seconds_of stamp < 2 ^ 32
few_seconds None few = omega arith
few_seconds (Some seconds) few = few seconds refl

module _ (g : Layout) (cells : ℕ) (image : Image) (id : List ℕ) (level : Level) (bucket : ℕ) where
  -- a path that is passed up to a place is passed down to it
  down : (child : Option ℕ) → IsOpenAt g level bucket child
      → PassedTo image (sought_in cells g id) (root_at g) (node_of g level) level.number
      → IsPassedAbove g cells image id bucket child → PassedDown g image (sought_in cells g id) level child
  down None is to above = to
  down (Some child) is to above = (to, subst (λ (b : ℕ). IsPassed image (sought_in cells g id) b) is.0 above)

  -- its blank cell is blank
  blank : (child : Option ℕ) → IsBlankIn image bucket child → image (blank_in bucket child) ≡ None
  blank None is = is
  blank (Some child) is = is

  -- and the bucket above a child cell is written
  above_written : (child : Option ℕ) → IsPassedAbove g cells image id bucket child → (at : ℕ) → child ≡ Some at
      → IsWritten image bucket
  above_written None above at is = absurd (none-some at is)
  above_written (Some child) above at is = record { found = above.bucket.cell; stands = above.bucket.stands }

module _ (old looked : DeviceState) (r : Ready) (tells : IsTrue old.tells) (h : HasSettled old looked r)
    (still : IsStill old.foreign_writes looked.foreign_writes) (device : IsDevice old) (device_looked : IsDevice looked)
    (steady : IsSteady old) where
  abbrev g : Layout
  g = r.volume.geometry

  -- the volume was sound, and stands as settling makes of it
  pub was_sound : Sound old.cells old.image
  was_sound = looked_sound old looked r tells h still device device_looked steady

  pub ends_as : EndsAs old looked was_sound.after r.step
  ends_as = looked_ends old looked r tells h still device_looked.sure was_sound

  volume_now : IsVolume looked.cells looked.image g
  volume_now = volume_2 r h tells

  settled_now : IsSettled g looked.image
  settled_now =
      let s : Settled old.cells looked.image = subst (Settled old.cells) (sym ends_as.image) was_sound.settled in
      subst (λ (k : Layout). IsSettled k looked.image) (one_layout s.layout g s.volume volume_now) s.settled

  still_looks : IsStill h.settled.foreign_writes looked.foreign_writes
  still_looks = still_second h.settles.called.foreign_writes h.looked.foreign_writes still

  same_settled : looked.image ≡ h.settled.image
  same_settled = same_image (h.quiet still_looks)

  volume_then : IsVolume h.settled.cells h.settled.image g
  volume_then = (h.settles.ends.1 tells).volume

  module _ (id : List ℕ) (stamp : Option ℕ) (body : List ℕ) (given : IsStampFor r.volume.geometry stamp)
      (index : PlannedIndex) (less : r.horizon < r.volume.geometry.slots)
      (has : HasIndex r id stamp body index h.settled looked) where
    walk : HasWalked r id has.place has.level h.settled has.walked looked
    walk = has.ends

    still_walked : IsStill has.walked.foreign_writes looked.foreign_writes
    still_walked = still_second walk.called.foreign_writes walk.looked.foreign_writes still_looks

    same_walked : looked.image ≡ has.walked.image
    same_walked = same_image (walk.quiet still_walked)

    tells_then : IsTrue h.settled.tells
    tells_then = subst IsTrue (sym h.settles.called.tells) tells

    tells_walked : IsTrue has.walked.tells
    tells_walked = subst IsTrue (sym walk.called.tells) tells_then

    -- the path of the identifier ends there
    there : EndsThere g id (seen_directly h.settled 0) (seen_directly has.walked 0) has.place
        has.level
    there = walk.path.4 tells_then

    walked_cells : has.walked.cells ≡ g.cells
    walked_cells = walk.called.cells ∙ sym volume_then.size

    passed_there : IsPassedUpToPlace g g.cells looked.image id has.place has.level
    passed_there =
        subst (λ (i : Image). IsPassedUpToPlace g g.cells i id has.place has.level) (sym same_walked)
        (subst (λ (k : ℕ). IsPassedUpToPlace g k has.walked.image id has.place has.level) walked_cells
        (there.passed volume_then))

    passed_down : PassedDown g looked.image (sought_in g.cells g id) has.level has.place.child
    passed_down = down g g.cells looked.image id has.level has.place.bucket has.place.child
        walk.path.2 passed_there.passed passed_there.above

    digest_is : has.level.digest ≡ sha256 id
    digest_is = walk.path.0

    ends_path : EndsPath g looked.image has.level has.place
    ends_path = subst (λ (i : Image). EndsPath g i has.level has.place) (sym same_walked) (record {
      digest = subst AreBytes (sym digest_is) (digest_is_bytes id);
      number = walk.path.1.number;
      open_at = walk.path.2;
      node = there.reached;
      blank = blank g g.cells has.walked.image id has.level has.place.bucket has.place.child
          there.blank;
      bucket = λ child is. above_written g has.walked.cells has.walked.image id has.level
          has.place.bucket has.place.child (there.passed volume_then).above child is;
    })

    none_now : NoneHasTrail g g.cells looked.image id
    none_now =
        subst (λ (k : ℕ). NoneHasTrail g k looked.image id) (sym volume_then.size)
        (subst (λ (i : Image). NoneHasTrail g h.settled.cells i id) (sym same_settled) (there.none volume_then))

    -- each document that stands on a settled volume has a hash trail, so none has the identifier
    absent : (m : ℕ) (other : List ℕ) → Stands g.cells looked.image m id other → ⊥
    absent m other stands =
        let rule = settled_now.met Paths _ (record { found = stands.done.done.cell; stands = stands.done.done.stands })
        m id other refl stands in
        none_now m (record { body = other; stands = stands; trail = rule.path })

    pub horizon_now : IsHorizon g looked.image looked.image r.horizon
    horizon_now = record {
      most = h.settles.ends.0.horizon;
      below = λ m is. written_on h.looked.image ((h.settles.ends.1 tells).horizon.below m is);
      free = λ inside. free_2 r h tells inside still;
    }

    -- the stamp is past those that stand
    later_now : IsLater g looked.image r.horizon stamp
    later_now = subst (λ (i : Image). IsLater g i r.horizon stamp) (sym same_settled) (has.past tells_then)

    -- what it takes is the document's need
    pub need : IsNeed g looked.image r.horizon id body stamp (need_with id body index)
    need = subst (λ (i : Image). IsNeed g i r.horizon id body stamp (need_with id body index)) (sym same_walked)
        (needed tells_walked still_walked h.settles.ends.0.layout
        (subst (λ (i : Image). IsSettled g i) same_walked settled_now)
        (subst (λ (i : Image). IsHorizon g i i r.horizon) same_walked horizon_now) less
        (subst (λ (i : Image). EndsBelow g i r.horizon r.edge) same_walked (ends_2 r h tells)) given
        (subst (λ (i : Image). IsLater g i r.horizon stamp) same_walked later_now)
        (subst (λ (i : Image). EndsPath g i has.level has.place) same_walked ends_path) digest_is
        (subst (λ (i : Image). PassedDown g i (sought_in g.cells g id) has.level has.place.child)
        same_walked passed_down)
        has.planned)

    -- the edge is one of what stands
    pub edge_now : IsEdge g looked.image looked.image r.edge
    edge_now = record {
      u = r.horizon;
      most = h.settles.ends.0.horizon;
      free = horizon_now.free;
      ends = ends_2 r h tells;
    }

    -- it is put by a plan of the document, with the stamp
    module _ (p : Plan) (starts : p.start ≡ r.edge) (suits : Suits g p) (document : PlansDocument p id body)
        (stamped : p.stamp ≡ stamp) (blocks : p.block_length ≡ index.block_length)
        (journal : p.journal.now ≡ index.journal.items) where
      takes : TakesSlot g looked.image (plan_of r.horizon p id body) (p.start + index.block_length)
      takes = record {
        layout = h.settles.ends.0.layout;
        volume = record { volume = volume_now.volume; size = refl };
        settled = settled_now;
        horizon = horizon_now;
        slot = less;
        begins = subst (EndsBelow g looked.image r.horizon) (sym starts) (ends_2 r h tells);
        room =
            let count : length p.document.now ≡ cells_for (length (stored_bytes id body)) = suits.document
            ∙ ap cells_for document.bytes in
            omega (arith, count, blocks);
        inside = suits.to;
        stamp = suits.stamp;
        later = subst (λ (s : Option ℕ). IsLater g looked.image r.horizon s) (sym stamped) later_now;
        seconds = few_seconds p.stamp suits.stamp_fits;
        identifier = document.identifier;
        body = document.is_body;
        absent = absent;
      }

      planned : IsPlanned g r.horizon p.start has.level has.place p.stamp body index has.walked looked
      planned = subst
          (λ (s : Option ℕ). IsPlanned g r.horizon p.start has.level has.place s body index has.walked looked)
          (sym stamped)
          (subst
          (λ (k : ℕ). IsPlanned g r.horizon k has.level has.place stamp body index has.walked looked)
          (sym starts) has.planned)

      -- so the plan is well made
      pub well_planned : (after : Image) × IsWellPlanned g looked.image after (plan_of r.horizon p id body)
      well_planned =
          let at : Image → Type 0 = λ i. (after : Image) × IsWellPlanned g i after (plan_of r.horizon p id body) in
          subst (λ (i : Image). (after : Image) × IsWellPlanned g i after (plan_of r.horizon p id body))
          (sym same_walked)
          (well (answered {g = g} {p = plan_of r.horizon p id body} {old = has.walked} {new = looked} tells_walked
          still_walked (walk.quiet still_walked)
          (subst (λ (i : Image). TakesSlot g i (plan_of r.horizon p id body) (p.start + index.block_length))
          same_walked takes)
          journal
          (subst (λ (i : Image). EndsPath g i has.level has.place) same_walked ends_path)
          digest_is
          (subst (λ (i : Image). PassedDown g i (sought_in g.cells g id) has.level has.place.child)
          same_walked passed_down)
          planned))
