-- A walk along an identifier's path, candidate by candidate, over plain values.
use Rattle.std.proofs.Common.{◌≡◌, ◌<◌, ◌≤◌, ◌+◌, ◌∙◌, ◌⊎◌, ⊎_elim, inr, ℕ, List, Bool, true, Option, Some, None, Result, Ok, Err, refl, ap, sym, subst, arith}
use Rattle.std.specs.Prelude.{IsTrue}
use Rattle.sha2.specs.Sha256.{sha256}
use Rattle.cell_types.specs.Image.{Image}
use Rattle.cell_types.specs.Layout.{Layout, root_at}
use Rattle.cell_types.specs.declared.record_cell.RecordCell.TheVariants.{Bucket}
use Rattle.cell_types.specs.declared.refusal.Evidence.{Evidence}
use Rattle.cell_types.specs.declared.refusal.Fault.{Fault}
use Rattle.cell_types.specs.declared.refusal.Fault.TheVariants.{Tampered, Failed}
use Rattle.volume_meaning.specs.Volumes.{Holds, IsVolume}
use Rattle.volume_meaning.proofs.Extending.{holds_on, stands_on, volume_on}
use Rattle.volume_meaning.specs.HashPaths.{HashTrail, IsPassed, PassedTo, Sought, at_root, fingerprint_of, nibble}
use Rattle.volume_meaning.specs.Keeping.{sought_in}
use Rattle.volume_meaning.specs.Nodes as nodes
use Rattle.volume_meaning.specs.Nodes.{IsOnPath}
use Rattle.volume_meaning.proofs.HashTrails.{follows, hash_trail_on, none_at_blank_bucket, none_at_blank_child, none_at_the_end, passed_to_on, the_found_one}
use Rattle.tamper_rules.proofs.GoingOn.{on_path_on}
use Rattle.worm_device.specs.Views.{ViewState, Viewed}
use Rattle.worm_device.proofs.Counting.{rose_from}
use Rattle.worm_device.proofs.Resting.{viewed_self, viewed_then}
use Rattle.document_store.specs.Looks.{HoldsIdentifier, IsSame, LookFails}
use Rattle.document_store.specs.declared.part.Part.{Part}
use Rattle.document_store.proofs.Holding.{held_stands}
use Rattle.document_store.proofs.Naming.{fails_from}
use Rattle.hash_tree.specs.Levels.{AreBounds, IsLedWithin, IsLevelPlaced, IsLevelReached, bucket_at, child_at, first_level, node_of}
use Rattle.hash_tree.specs.Steps.{EndsAt, IsOpenAt, IsPassedUpTo, PassesAbove, Steps, blank_bucket, blank_child, candidate, full, no_bucket, no_child}
use Rattle.hash_tree.specs.declared.level.Level.{Level}
use Rattle.hash_tree.specs.declared.path.Open.{Open}
use Rattle.hash_tree.specs.declared.path.PathStep.{PathStep}
use Rattle.hash_tree.specs.declared.path.PathStep.TheVariants.{Candidate, End, PathFull}
use Rattle.hash_tree.proofs.Growing.{led_within_on, passed_up_to_on, placed_on, reached_on}
use Rattle.hash_tree.proofs.Licence.{bucket_place}
use Rattle.hash_tree.proofs.Paths.{bucket_passed, false_never, passed_along}
use Rattle.identifier_lookup.specs.Candidates.{Compares, HoldsNamed, NamesBucket}
use Rattle.identifier_lookup.specs.Costs.{WalkCosts}
use Rattle.identifier_lookup.specs.Walks.{HasIdentifierTrail, IsBlankIn, IsFirstOnPath, IsFound, IsPassedAbove, LiesOnPath, LooksUpSlot, NoneHasTrail, WalkEnds, WalksPath, at_bucket, at_child, in_slot}
use Rattle.identifier_lookup.specs.declared.answers.Walk.TheVariants as walks
use Rattle.identifier_lookup.specs.declared.candidates.Named.{Named}
use Rattle.identifier_lookup.proofs.Costing.{CostsSoFar, below_candidate, below_next, compared_below, costs_begin, costs_end, costs_end_there, costs_more, passed_is_way}
use Rattle.identifier_lookup.proofs.Licence.{fake_licensed, half_byte, names_licensed, slot_cell}

-- The path is passed up to this level. Nothing has gone wrong, and the level's node is one of the volume's.
pub record WalkSoFar (g : Layout) (edge : ℕ) (id : List ℕ) (old now : ViewState) (level : Level) : Type 0 where
  pub viewed : Viewed old now
  pub costs : CostsSoFar g id old now level.number (compared_below level.number level.answered)
  pub faults : now.base.faults ≡ old.base.faults
  pub digest : level.digest ≡ sha256 id
  pub placed : IsLevelPlaced g edge now level
  pub reached : IsTrue old.base.tells → IsLevelReached g now.image level
  pub led_within : IsTrue old.base.tells → IsLedWithin g now.image level.led_by
  pub passed : IsTrue old.base.tells → IsVolume old.cells old.image g
      → IsPassedUpTo g edge now.image (root_at g) (sought_in old.cells g id) level

-- at the root
pub walk_begins : (g : Layout) (edge : ℕ) (id : List ℕ) (old : ViewState) (level : Level) → g.cells ≤ old.cells
    → AreBounds g edge → level ≡ first_level (sha256 id) → WalkSoFar g edge id old old level
walk_begins g edge id old level size bounds is =
    subst (λ (l : Level). WalkSoFar g edge id old old l) (sym is)
    (record {
      viewed = viewed_self old;
      costs = costs_begin g id old 0 0;
      faults = refl;
      digest = refl;
      placed = record { number = omega arith; within = tt; led = λ tells. tt };
      reached = λ tells. nodes.IsNode.root 0 (root_at g) refl refl;
      led_within = λ tells. tt;
      passed = λ tells volume. record {
        digest = refl;
        pool = refl;
        cells = omega (arith, bounds.to, size);
        passed = at_root (root_at g) 0 refl refl;
        answered = λ never. absurd (false_never never);
      };
    })

-- answers that are not the same
abbrev answer : PathStep → Result PathStep Evidence
answer step = Ok step

no_end : (place : Open) (slot bucket : ℕ) → answer (End place) ≡ answer (Candidate slot bucket) → ⊥
no_end place slot bucket e = cc

no_full_end : (place : Open) → answer (End place) ≡ answer PathFull → ⊥
no_full_end place e = cc

no_full : (slot bucket : ℕ) → answer (Candidate slot bucket) ≡ answer PathFull → ⊥
no_full slot bucket e = cc

no_fault : (step : PathStep) (e : Evidence) → answer step ≡ Err e → ⊥
no_fault step e same = cc

same_place : (place other : Open) → answer (End place) ≡ answer (End other) → place ≡ other
same_place place other e = cc

same_slot : (slot bucket other there : ℕ) → answer (Candidate slot bucket) ≡ answer (Candidate other there)
    → (slot ≡ other) × (bucket ≡ there)
same_slot slot bucket other there e = (cc, cc)

-- the place at which a path ends is blank
end_is_blank : {g : Layout} {edge : ℕ} {image : Image} {level last : Level} {place : Open}
    → EndsAt g edge image level last (Ok (End place)) → IsBlankIn image place.bucket place.child
end_is_blank {place = place} (candidate slot fresh held is same) = absurd (no_end place _ _ same)
end_is_blank {image = image} {place = place} (blank_bucket blank is same) =
    subst (λ (p : Open). IsBlankIn image p.bucket p.child) (sym (same_place place _ same)) blank
end_is_blank {image = image} {place = place} (blank_child none less blank is same) =
    subst (λ (p : Open). IsBlankIn image p.bucket p.child) (sym (same_place place _ same)) blank
end_is_blank {place = place} (full none last is same) = absurd (no_full_end place same)
end_is_blank {place = place} (no_bucket found bad is same) = absurd (no_fault (End place) _ same)
end_is_blank {place = place} (no_child found none less bad is same) = absurd (no_fault (End place) _ same)

abbrev no_answer : Evidence → Result PathStep Evidence
no_answer e = Err e

same_fault : (e f : Evidence) → no_answer e ≡ no_answer f → e ≡ f
same_fault e f same = cc

-- what stands for a bucket or a child cell and is none lies on the path that is passed up to its level
fault_lies : (g : Layout) (cells edge : ℕ) (id : List ℕ) (image : Image) (level last : Level) (e : Evidence)
    → IsPassedUpTo g edge image (root_at g) (sought_in cells g id) level → EndsAt g edge image level last (Err e)
    → LiesOnPath g cells image id e
fault_lies g cells edge id image level last e up (candidate slot fresh held is same) =
    absurd (no_fault _ e (sym same))
fault_lies g cells edge id image level last e up (blank_bucket blank is same) = absurd (no_fault _ e (sym same))
fault_lies g cells edge id image level last e up (blank_child none less blank is same) =
    absurd (no_fault _ e (sym same))
fault_lies g cells edge id image level last e up (full none bottom is same) = absurd (no_fault _ e (sym same))
fault_lies g cells edge id image level last e up (no_bucket found bad is same) =
    let one = same_fault e _ same in
    at_bucket (node_of g level) level.number up.passed (ap (λ (x : Evidence). x.rule) one)
    (ap (λ (x : Evidence). x.cell) one ∙ ap (λ (d : List ℕ). node_of g level + nibble d level.number) (sym up.digest))
fault_lies g cells edge id image level last e up (no_child found none less bad is same) =
    let one = same_fault e _ same in
    at_child (node_of g level) level.number up.passed
    (subst (λ (c : ℕ). IsPassed image (sought_in cells g id) c)
    (ap (λ (d : List ℕ). node_of g level + nibble d level.number) (sym up.digest)) (bucket_passed up none)) less
    (ap (λ (x : Evidence). x.rule) one)
    (ap (λ (x : Evidence). x.cell) one
    ∙ ap (λ (d : List ℕ). node_of g level + 16 + nibble d level.number) (sym up.digest))

-- a candidate's bucket names its slot, with the fingerprint of the digest
candidate_is_held : {g : Layout} {edge : ℕ} {image : Image} {level last : Level} {slot bucket : ℕ}
    → EndsAt g edge image level last (Ok (Candidate slot bucket))
    → Holds image bucket (Bucket slot (fingerprint_of last.digest))
candidate_is_held {image = image} {level = level} {last = last} {slot = slot} {bucket = bucket}
    (candidate other fresh held is same) =
    let one = same_slot slot bucket _ _ same in
    subst (λ (l : Level). Holds image bucket (Bucket slot (fingerprint_of l.digest))) (sym is)
    (subst (λ (n : ℕ). Holds image bucket (Bucket n (fingerprint_of level.digest))) (sym one.0)
    (subst (λ (c : ℕ). Holds image c (Bucket other (fingerprint_of level.digest))) (sym one.1) held))
candidate_is_held {slot = slot} {bucket = bucket} (blank_bucket blank is same) =
    absurd (no_end _ slot bucket (sym same))
candidate_is_held {slot = slot} {bucket = bucket} (blank_child none less blank is same) =
    absurd (no_end _ slot bucket (sym same))
candidate_is_held {slot = slot} {bucket = bucket} (full none last is same) = absurd (no_full slot bucket same)
candidate_is_held {slot = slot} {bucket = bucket} (no_bucket found bad is same) =
    absurd (no_fault (Candidate slot bucket) _ same)
candidate_is_held {slot = slot} {bucket = bucket} (no_child found none less bad is same) =
    absurd (no_fault (Candidate slot bucket) _ same)

module _ (g : Layout) (horizon edge : ℕ) (id : List ℕ) (old now mid : ViewState) (level next : Level)
    (bounds : AreBounds g edge) (so_far : WalkSoFar g edge id old now level) where
  abbrev s : Sought
  s = sought_in old.cells g id

  told : IsTrue old.base.tells → IsTrue now.base.tells
  told tells = subst IsTrue (sym so_far.viewed.called.tells) tells

  module _ (result : Result PathStep Fault) (step : Steps g edge now mid level next result) where
    whole : Viewed old mid
    whole = viewed_then so_far.viewed step.viewed

    digest_is : next.digest ≡ sha256 id
    digest_is = step.digest ∙ so_far.digest

    -- what it cost up to there
    costs_here : WalkCosts g id old mid
    costs_here = costs_end so_far.costs mid next.number step.viewed step.reads
        (below_next level.number next.number level.answered step.further) step.placed.number

    -- the path is passed up to the next level's node
    up_to : IsTrue old.base.tells → IsVolume old.cells old.image g
        → IsPassedUpTo g edge mid.image (root_at g) s level
    up_to tells volume = passed_up_to_on step.viewed.image (so_far.passed tells volume)

    passed_here : IsTrue old.base.tells → IsVolume old.cells old.image g
        → PassedTo mid.image s (root_at g) (node_of g next) next.number
    passed_here tells volume = step.goes_on (told tells) (root_at g) s (up_to tells volume)

    reached_here : IsTrue old.base.tells → IsLevelReached g mid.image next
    reached_here tells = step.reached (told tells) (reached_on level step.viewed.image (so_far.reached tells))

    led_here : IsTrue old.base.tells → IsLedWithin g mid.image next.led_by
    led_here tells = step.led_within (told tells) (reached_on level step.viewed.image (so_far.reached tells))
        (led_within_on g level.led_by step.viewed.image (so_far.led_within tells))

    -- the node is on the path
    way_here : IsTrue old.base.tells → IsVolume old.cells old.image g
        → IsOnPath g mid.image (sha256 id) next.number (node_of g next)
    way_here tells volume = passed_is_way refl (omega (arith, volume.size)) (passed_here tells volume)

    -- a hash trail at entry goes on from there
    trail_here : IsTrue old.base.tells → IsVolume old.cells old.image g → (n : ℕ)
        → (t : HasIdentifierTrail g old.cells old.image id n) → HashTrail mid.image s n (node_of g next) next.number
    trail_here tells volume n t =
        follows (passed_here tells volume) n t.body (stands_on whole.image t.stands) (hash_trail_on whole.image t.trail)

    -- the bucket of the next level is on the path of the digest
    bucket_is : bucket_at g next ≡ node_of g next + nibble (sha256 id) next.number
    bucket_is = ap (λ (d : List ℕ). node_of g next + nibble d next.number) digest_is

    child_is : child_at g next ≡ node_of g next + 16 + nibble (sha256 id) next.number
    child_is = ap (λ (d : List ℕ). node_of g next + 16 + nibble d next.number) digest_is

    -- what is said of the device's cells at entry is said of them at exit
    cells_now : {view : ViewState} → Viewed old view → old.cells ≡ view.cells
    cells_now viewed = sym viewed.cells

  -- a step that gives no answer
  pub walk_fails : (fault : Fault) → Steps g edge now mid level next (Err fault)
      → WalksPath g horizon edge id old mid (Err fault)
  walk_fails Failed step = record {
    viewed = viewed_then so_far.viewed step.viewed;
    costs = costs_here (Err Failed) step;
    ends = rose_from _ _ _ so_far.faults step.ends;
    named = tt;
  }
  walk_fails (Tampered e) step = record {
    viewed = viewed_then so_far.viewed step.viewed;
    costs = costs_here (Err (Tampered e)) step;
    ends = (
      step.ends.1,
      step.ends.2 ∙ so_far.faults,
      λ tells.
          let shown = (step.ends.3 (told tells)).1.shown in
          record {
            rule = inr (inr (inr (inr step.ends.0)));
            stands = shown.stands;
            broken = λ still volume until ends.
                shown.broken volume (reached_on level step.viewed.image (so_far.reached tells)) ends;
          },
    );
    named = λ tells volume.
        let is = (step.ends.3 (told tells)).0 in
        subst (λ (c : ℕ). LiesOnPath g c mid.image id e) (cells_now (Err (Tampered e)) step (whole (Err (Tampered e)) step))
        (fault_lies g old.cells edge id mid.image is.level next e
        (passed_along is.comes (up_to (Err (Tampered e)) step tells volume)) is.ends);
  }

  -- the path ends
  module _ (place : Open) (step : Steps g edge now mid level next (Ok (End place))) where
    abbrev ended : Result PathStep Fault
    ended = Ok (End place)

    none_open : (child : Option ℕ) → IsOpenAt g next place.bucket child → IsBlankIn mid.image place.bucket child
        → PassesAbove g edge mid.image level next child
        → IsTrue old.base.tells → IsVolume old.cells old.image g → NoneHasTrail g old.cells old.image id
    none_open None at blank above tells volume n t =
        none_at_blank_bucket (trail_here ended step tells volume n t)
        (ap mid.image (sym (at ∙ bucket_is ended step)) ∙ blank)
    none_open (Some child) at blank above tells volume n t =
        none_at_blank_child t.body (stands_on (whole ended step).image t.stands)
        (trail_here ended step tells volume n t)
        (subst (λ (c : ℕ). IsPassed mid.image s c) (bucket_is ended step)
        (above (root_at g) s (up_to ended step tells volume)))
        (ap mid.image (sym (at.1 ∙ child_is ended step)) ∙ blank)

    above_open : (child : Option ℕ) → IsOpenAt g next place.bucket child
        → PassesAbove g edge mid.image level next child
        → IsTrue old.base.tells → IsVolume old.cells old.image g
        → IsPassedAbove g mid.cells mid.image id place.bucket child
    above_open None at above tells volume = tt
    above_open (Some child) at above tells volume =
        subst (λ (c : ℕ). IsPassed mid.image (sought_in c g id) place.bucket) (cells_now ended step (whole ended step))
        (subst (λ (c : ℕ). IsPassed mid.image s c) (sym at.0) (above (root_at g) s (up_to ended step tells volume)))

    pub walk_ends : WalksPath g horizon edge id old mid (Ok (walks.End place next))
    walk_ends = record {
      viewed = whole ended step;
      costs = costs_here ended step;
      ends = (
        digest_is ended step,
        step.placed,
        step.ends.0,
        step.ends.1 ∙ so_far.faults,
        λ tells.
            let seen = step.ends.2 (told tells) in
            let blank = end_is_blank seen.0.ends in
            record {
              blank = blank;
              reached = reached_here ended step tells;
              led_within = led_here ended step tells;
              passed = λ volume. record {
                passed = subst
                    (λ (c : ℕ). PassedTo mid.image (sought_in c g id) (root_at g) (node_of g next) next.number)
                    (cells_now ended step (whole ended step)) (passed_here ended step tells volume);
                above = above_open place.child step.ends.0 seen.1 tells volume;
              };
              none = none_open place.child step.ends.0 blank seen.1 tells;
            },
      );
      named = tt;
    }

  -- it is full
  module _ (step : Steps g edge now mid level next (Ok PathFull)) where
    abbrev filled : Result PathStep Fault
    filled = Ok PathFull

    passed_last : IsTrue old.base.tells → IsVolume old.cells old.image g
        → PassedTo mid.image s (root_at g) (node_of g next) 63
    passed_last tells volume =
        subst (λ (v : ℕ). PassedTo mid.image s (root_at g) (node_of g next) v) step.ends.0
        (passed_here filled step tells volume)

    last_bucket : IsTrue old.base.tells → IsVolume old.cells old.image g
        → IsPassed mid.image s (node_of g next + nibble (sha256 id) 63)
    last_bucket tells volume =
        subst (λ (v : ℕ). IsPassed mid.image s (node_of g next + nibble (sha256 id) v)) step.ends.0
        (subst (λ (c : ℕ). IsPassed mid.image s c) (bucket_is filled step)
        ((step.ends.2 (told tells)).1 (root_at g) s (up_to filled step tells volume)))

    pub walk_full : WalksPath g horizon edge id old mid (Ok walks.PathFull)
    walk_full = record {
      viewed = whole filled step;
      costs = costs_here filled step;
      ends = (
        step.ends.1 ∙ so_far.faults,
        λ tells. record {
          passed = λ volume. record {
            node = node_of g next;
            passed = subst (λ (c : ℕ). PassedTo mid.image (sought_in c g id) (root_at g) (node_of g next) 63)
                (cells_now filled step (whole filled step)) (passed_last tells volume);
            last = subst
                (λ (c : ℕ). IsPassed mid.image (sought_in c g id) (node_of g next + nibble (sha256 id) 63))
                (cells_now filled step (whole filled step)) (last_bucket tells volume);
          };
          none = λ volume n t.
              none_at_the_end t.body (stands_on (whole filled step).image t.stands)
              (subst (λ (v : ℕ). HashTrail mid.image s n (node_of g next) v) step.ends.0
              (trail_here filled step tells volume n t))
              (last_bucket tells volume);
        },
      );
      named = tt;
    }

  -- there is a candidate, and its slot's document was compared
  module _ (new : ViewState) (slot bucket : ℕ) (step : Steps g edge now mid level next (Ok (Candidate slot bucket)))
    where
      abbrev offered : Result PathStep Fault
      offered = Ok (Candidate slot bucket)

      abbrev named : Named
      named = record { bucket = bucket; slot = slot; digest = sha256 id }

      -- the bucket is the next level's, and names the slot
      pub is_named : IsTrue mid.base.tells → HoldsNamed mid.image named
      is_named tells =
          let before = subst IsTrue step.viewed.called.tells tells in
          subst (λ (d : List ℕ). Holds mid.image bucket (Bucket slot (fingerprint_of d))) (digest_is offered step)
          (candidate_is_held (step.ends.2 before).0.ends)

      named_later : IsTrue old.base.tells → IsTrue mid.base.tells
      named_later tells = subst IsTrue (sym (whole offered step).called.tells) tells

      bucket_here : bucket ≡ node_of g next + nibble (sha256 id) next.number
      bucket_here = step.ends.0.0 ∙ bucket_is offered step

      bucket_later : {result : Result (Option Part) Fault} → Compares g horizon named id mid new result
          → IsTrue old.base.tells
          → Holds new.image (node_of g next + nibble (sha256 id) next.number) (Bucket slot (fingerprint_of (sha256 id)))
      bucket_later compared tells =
          subst (λ (c : ℕ). Holds new.image c (Bucket slot (fingerprint_of (sha256 id)))) bucket_here
          (holds_on compared.viewed.image (is_named (named_later tells)))

      -- what the walk cost, with this comparison
      under : compared_below level.number level.answered ≤ next.number
      under = below_candidate level.number next.number level.answered step.further step.ends.0.2

      costs_on : {result : Result (Option Part) Fault} → Compares g horizon named id mid new result
          → CostsSoFar g id old new next.number (next.number + 1)
      costs_on compared = costs_more so_far.costs mid next.number step.viewed step.reads
          (below_next level.number next.number level.answered step.further) step.placed.number (node_of g next) slot new
          compared.viewed compared.costs (viewed_then (whole offered step) compared.viewed) under
          (λ tells volume. on_path_on compared.viewed.image (way_here offered step tells volume)) (bucket_later compared)

      costs_whole : {result : Result (Option Part) Fault} → Compares g horizon named id mid new result → WalkCosts g id old new
      costs_whole compared = costs_end_there so_far.costs mid next.number step.viewed step.reads
          (below_next level.number next.number level.answered step.further) step.placed.number (node_of g next) slot new
          compared.viewed compared.costs (viewed_then (whole offered step) compared.viewed) under
          (λ tells volume. on_path_on compared.viewed.image (way_here offered step tells volume)) (bucket_later compared)

      -- the path is passed up to the bucket's node
      passed_later : Viewed mid new → IsTrue old.base.tells → IsVolume old.cells old.image g
          → PassedTo new.image (sought_in new.cells g id) (root_at g) (node_of g next) next.number
      passed_later viewed tells volume =
          subst (λ (c : ℕ). PassedTo new.image (sought_in c g id) (root_at g) (node_of g next) next.number)
          (sym (viewed_then (whole offered step) viewed).cells)
          (passed_to_on viewed.image (passed_here offered step tells volume))

      -- the slot is the first on the path
      first_later : {result : Result (Option Part) Fault} → Compares g horizon named id mid new result → IsTrue old.base.tells
          → IsVolume old.cells old.image g → IsFirstOnPath g new.cells new.image id slot
      first_later compared tells volume = record {
        node = node_of g next;
        level = next.number;
        passed = passed_later compared.viewed tells volume;
        bucket = bucket_later compared tells;
      }

      -- so what is named is its bucket, or a cell of the slot
      compare_lies : (e : Evidence) {result : Result (Option Part) Fault} → Compares g horizon named id mid new result
          → IsTrue old.base.tells → IsVolume old.cells old.image g
          → NamesBucket g horizon named mid new e ⊎ LookFails g slot mid new (Tampered e)
          → LiesOnPath g new.cells new.image id e
      compare_lies e compared tells volume h =
          let first = first_later compared tells volume in
          ⊎_elim
          (λ (b : NamesBucket g horizon named mid new e).
          at_bucket (node_of g next) next.number (passed_later compared.viewed tells volume) b.0 (b.1 ∙ bucket_here))
          (λ (l : LookFails g slot mid new (Tampered e)). in_slot slot first (slot_cell (l.2 (named_later tells))))
          h

      compare_names : (e : Evidence) → Viewed mid new
          → NamesBucket g horizon named mid new e ⊎ LookFails g slot mid new (Tampered e)
          → WalkEnds g horizon edge id old new (Err (Tampered e))
      compare_names e viewed h = ⊎_elim
          (λ (b : NamesBucket g horizon named mid new e). (
            bucket_place g edge next bounds step.placed.within
                (subst (λ (d : List ℕ). nibble d next.number < 16) (sym (digest_is offered step))
                (half_byte id next.number))
                e b.0 (b.1 ∙ step.ends.0.0),
            b.2 ∙ step.ends.1 ∙ so_far.faults,
            λ tells. fake_licensed g horizon edge id old mid new named next e bounds step.placed.within
                (digest_is offered step) (whole offered step) viewed
                (reached_on next viewed.image (reached_here offered step tells)) step.ends.0.0 b.0 b.1
                (b.3 (named_later tells)),
          ))
          (λ (l : LookFails g slot mid new (Tampered e)).
          let fails = fails_from g (whole offered step) viewed slot (step.ends.1 ∙ so_far.faults) (Tampered e) l in (
            fails.0,
            fails.1,
            λ tells. names_licensed g horizon edge slot old new e (viewed_then (whole offered step) viewed)
                (fails.2 tells),
          ))
          h

      pub compare_fails : (fault : Fault) → Compares g horizon named id mid new (Err fault)
          → WalksPath g horizon edge id old new (Err fault)
      compare_fails Failed compared = record {
        viewed = viewed_then (whole offered step) compared.viewed;
        costs = costs_whole compared;
        ends = rose_from _ _ _ (step.ends.1 ∙ so_far.faults) compared.ends;
        named = tt;
      }
      compare_fails (Tampered e) compared = record {
        viewed = viewed_then (whole offered step) compared.viewed;
        costs = costs_whole compared;
        ends = compare_names e compared.viewed compared.ends;
        named = λ tells volume. compare_lies e compared tells volume compared.ends;
      }

      -- the volume at exit
      volume_now : Viewed mid new → IsVolume old.cells old.image g → IsVolume old.cells new.image g
      volume_now viewed volume = volume_on (viewed_then (whole offered step) viewed).image volume

      -- it has the identifier
      holds_own : IsSame g new.image slot id true → HoldsIdentifier g new.image slot id
      holds_own same = subst (λ (i : List ℕ). HoldsIdentifier g new.image slot i) (same.says.0 refl) same.holds

      pub walk_finds : (part : Part) → Compares g horizon named id mid new (Ok (Some part))
          → WalksPath g horizon edge id old new (Ok (walks.Found part))
      walk_finds part compared =
          let all = viewed_then (whole offered step) compared.viewed in
          let slot_is : slot ≡ part.slot = sym compared.ends.3 in
          let found : IsTrue old.base.tells → IsFound g id old new slot = λ tells.
          let own = holds_own (compared.ends.2 (named_later tells)) in
          record {
            holds = own;
            first = first_later compared tells;
            alone = λ volume m t.
                the_found_one
                (hash_trail_on compared.viewed.image (trail_here offered step tells volume m t))
                slot t.body own.body (stands_on all.image t.stands)
                (held_stands g old.cells new.image slot id own.body (volume_now compared.viewed volume)
                own.holds)
                (bucket_later compared tells);
          } in
          record {
            viewed = all;
            costs = costs_whole compared;
            ends = (
              subst (λ (n : ℕ). n < horizon) slot_is compared.ends.0,
              compared.ends.1 ∙ step.ends.1 ∙ so_far.faults,
              λ tells. subst (λ (n : ℕ). IsFound g id old new n) slot_is (found tells),
              compared.ends.4,
            );
            named = tt;
          }

      -- or another one, and the bucket is passed
      pub walk_on : Compares g horizon named id mid new (Ok None) → WalkSoFar g edge id old new next
      walk_on compared = record {
        viewed = viewed_then (whole offered step) compared.viewed;
        costs = subst (λ (b : Bool). CostsSoFar g id old new next.number (compared_below next.number b))
            (sym step.ends.0.1) (costs_on compared);
        faults = compared.ends.1 ∙ step.ends.1 ∙ so_far.faults;
        digest = digest_is offered step;
        placed = placed_on compared.viewed step.placed;
        reached = λ tells. reached_on next compared.viewed.image (reached_here offered step tells);
        led_within = λ tells. led_within_on g next.led_by compared.viewed.image (led_here offered step tells);
        passed = λ tells volume.
            let same = compared.ends.2 (named_later tells) in
            let before = so_far.passed tells volume in
            record {
              digest = sym (digest_is offered step);
              pool = before.pool;
              cells = before.cells;
              passed = passed_to_on compared.viewed.image (passed_here offered step tells volume);
              answered = λ answered. record {
                slot = slot;
                fingerprint = fingerprint_of (sha256 id);
                bucket = subst (λ (c : ℕ). Holds new.image c (Bucket slot (fingerprint_of (sha256 id)))) step.ends.0.0
                    (holds_on compared.viewed.image (is_named (named_later tells)));
                other = inr (
                  same.own,
                  same.holds.body,
                  held_stands g old.cells new.image slot same.own same.holds.body (volume_now compared.viewed volume)
                      same.holds.holds,
                  λ is. false_never (same.says.1 is),
                );
              };
            };
      }

-- a look-up finds none where the path ends
pub none_at_end : (g : Layout) (horizon edge : ℕ) (id : List ℕ) (old new : ViewState) (place : Open) (level : Level)
    → WalksPath g horizon edge id old new (Ok (walks.End place level)) → LooksUpSlot g horizon edge id old new (Ok None)
none_at_end g horizon edge id old new place level walk = record {
  viewed = walk.viewed;
  costs = walk.costs;
  ends = (walk.ends.3, λ tells volume. (walk.ends.4 tells).none volume);
  named = tt;
}

-- and where it is full
pub none_at_full : (g : Layout) (horizon edge : ℕ) (id : List ℕ) (old new : ViewState)
    → WalksPath g horizon edge id old new (Ok walks.PathFull) → LooksUpSlot g horizon edge id old new (Ok None)
none_at_full g horizon edge id old new walk = record {
  viewed = walk.viewed;
  costs = walk.costs;
  ends = (walk.ends.0, λ tells volume. (walk.ends.1 tells).none volume);
  named = tt;
}
