-- What a look-up answers, over settling, the walk along the identifier's path, and the body.
use Rattle.std.proofs.Common.{◌≡◌, ◌≤◌, ◌+◌, ◌⊎◌, ℕ, true, false, None, List, [], Result, Ok, Err, refl, sym, inl, inr, subst, ⊎_elim, arith, ◌∙◌}
use Rattle.std.specs.Prelude.{Contains, IsTrue}
use Rattle.std.proofs.lemmas.Bool.{cases_Bool}
use Rattle.cell_types.specs.Image.{Image, Extends}
use Rattle.cell_types.specs.Layout.{Layout, root_at}
use Rattle.cell_types.specs.Refusals.{refusal_of_fault}
use Rattle.cell_types.specs.declared.refusal.Fault.{Fault}
use Rattle.cell_types.specs.declared.refusal.Fault.TheVariants as faults
use Rattle.cell_types.specs.declared.refusal.Refusal.{Refusal}
use Rattle.cell_types.specs.declared.refusal.Refusal.TheVariants.{Absent, DeviceFault, NotAVolume, NotFormatted, SinkFault, Tampered, WrongSize}
use Rattle.volume_meaning.specs.Documents.{Document, Stands}
use Rattle.volume_meaning.specs.Slots.{cells_for}
use Rattle.volume_meaning.proofs.Extending.{holds_on, stands_on}
use Rattle.volume_meaning.proofs.OneDocument.{one_document}
use Rattle.volume_meaning.specs.HashPaths.{HashTrail}
use Rattle.volume_meaning.specs.Keeping.{IsKept, Kept, sought_in}
use Rattle.volume_meaning.proofs.HashTrails.{passed_to_on}
use Rattle.volume_meaning.proofs.KeepingLaws.{kept_on}
use Rattle.host_ports.specs.Sinks.{SinkState}
use Rattle.tamper_rules.proofs.GivenUp.{one_layout}
use Rattle.worm_device.specs.State.{DeviceState}
use Rattle.worm_device.specs.Views.{Viewed, seen_directly}
use Rattle.worm_device.proofs.Counting.{still_second}
use Rattle.worm_device.proofs.Elapsing.{called_then}
use Rattle.worm_device.proofs.Images.{extends_then}
use Rattle.worm_device.proofs.Resting.{viewed_self}
use Rattle.recovery_engine.specs.Settling.{SettleEnds, Settles, SettlesFirst}
use Rattle.recovery_engine.specs.declared.settling.Ready.{Ready}
use Rattle.document_store.specs.Looks.{BodyEnds, GotPart, HoldsBody, HoldsSome}
use Rattle.document_store.specs.declared.part.Part.{Part}
use Rattle.document_store.specs.declared.body.BodyFault.{BodyFault}
use Rattle.document_store.specs.declared.body.BodyFault.TheVariants as bodies
use Rattle.document_store.proofs.Holding.{held_is_one, held_on, held_stands}
use Rattle.identifier_lookup.specs.Costs.{WalkCosts}
use Rattle.identifier_lookup.specs.Walks.{HasIdentifierTrail, IsFirstOnPath, IsFound, IsPathLicensed, NoneHasTrail, in_slot}
use Rattle.identifier_lookup.specs.declared.answers.Walk.TheVariants as walks
use Rattle.identifier_lookup.proofs.Licence.{names_licensed, slot_cell}
use Rattle.hash_tree.specs.declared.level.Level.{Level}
use Rattle.hash_tree.specs.declared.path.Open.{Open}
use Rattle.record_query.specs.Looking.{HasLooked}
use Rattle.record_query.proofs.Looking.{is_ready, same_since, still_looking, tells_settled, volume_now, looked_more}
use Rattle.record_query.specs.LookingUp.{IsLocated, IsLookedUp, IsThatOf, LookUpEnds, LooksUp, NamesLookUpEvidence, NamesLookUpRule, NoneHas, PathEnds, PutsFront, at_place, behind_all, by_settling, on_path, refusal_of_body}
use Rattle.record_query.specs.Reaching.{WalksOnDevice}
use Rattle.record_query.specs.declared.found.Found.{Found}
use Rattle.record_query.proofs.LookedBriefly.{put_briefly, walked_briefly}
use Rattle.record_query.proofs.Searched.{comes_to_settled, edge_is, reach_is, walked}

-- settling was ended
module _ (id : List ℕ) (old new : DeviceState) (sink : SinkState) where
  refused : (refusal : Refusal) → SettleEnds old new (Err refusal) → LookUpEnds id old new sink sink (Err refusal)
  refused DeviceFault ends = (ends, (refl, inl refl))
  refused (Tampered e) ends = ((refl, inl refl), λ tells. (refl, (ends tells).licensed))
  refused NotFormatted ends = (refl, ends)
  refused (NotAVolume found) ends = (refl, ends)
  refused (WrongSize stated real) ends = (refl, ends)
  refused refusal ends = absurd ends

  -- the evidence is by a rule of settling
  refused_rule : (refusal : Refusal) → SettleEnds old new (Err refusal) → NamesLookUpRule old (Err refusal)
  refused_rule (Tampered e) ends = λ tells. inl (ends tells).rule
  refused_rule refusal ends = tt

  -- settling named it
  refused_named : (refusal : Refusal) → Settles old new (Err refusal) → NamesLookUpEvidence id old new (Err refusal)
  refused_named (Tampered e) s = λ tells. by_settling s
  refused_named refusal s = tt

  pub look_up_unsettled : (refusal : Refusal) → Settles old new (Err refusal)
      → LooksUp id old new sink sink (Err refusal)
  look_up_unsettled refusal s = record {
    called = s.called;
    comes = SettlesFirst.settling refusal refl s;
    ends = refused refusal s.ends;
    rule = refused_rule refusal s.ends;
    named = refused_named refusal s;
    briefly = λ tells settled still mates have. omega (arith, s.again tells settled still);
  }

-- a kept document with the identifier has a hash trail
kept_has_trail : {g : Layout} {cells : ℕ} {image : Image} {d : Document} (id : List ℕ) → d.id ≡ id
    → IsKept cells image g d → HasIdentifierTrail g cells image id d.slot
kept_has_trail {g} {cells} {image} {d} id same kept = record {
  body = d.body;
  stands = subst (λ (i : List ℕ). Stands cells image d.slot i d.body) same kept.stands;
  trail = subst (λ (i : List ℕ). HashTrail image (sought_in cells g i) d.slot (root_at g) 0) same kept.path;
}

-- what is first on a path stays so
first_on : {g : Layout} {cells : ℕ} {a b : Image} {id : List ℕ} {n : ℕ} → Extends a b → IsFirstOnPath g cells a id n
    → IsFirstOnPath g cells b id n
first_on e f = record {
  node = f.node;
  level = f.level;
  passed = passed_to_on e f.passed;
  bucket = holds_on e f.bucket;
}

-- a sink of which nothing is asked
abbrev nothing : SinkState
nothing = record { held = None; faults = 0 }

-- the walk along the path
module _ (id : List ℕ) (r : Ready) (old settled mid : DeviceState) (s : Settles old settled (Ok r))
    (seen : Viewed (seen_directly settled 0) (seen_directly mid 0)) where
  before : HasLooked r old settled mid
  before = walked s seen

  abbrev g : Layout
  g = r.volume.geometry

  told_mid : IsTrue old.tells → IsTrue mid.tells
  told_mid tells = subst IsTrue (sym (called_then s.called seen.called).tells) tells

  -- documents that are kept at entry, or at exit where nobody else wrote, are kept once the volume was settled
  kept_settled : (documents : List Document) → Kept old.cells old.image documents
      → Kept settled.cells settled.image documents
  kept_settled documents kept =
      subst (λ (k : ℕ). Kept k settled.image documents) (sym s.called.cells) (kept_on s.called.image kept)

  is_kept : IsTrue old.tells → (documents : List Document) → Kept settled.cells settled.image documents
      → (d : Document) → Contains documents d → IsKept settled.cells settled.image g d
  is_kept tells documents kept d among =
      subst (λ (h : Layout). IsKept settled.cells settled.image h d)
      (one_layout {cells = settled.cells} {more = settled.cells} kept.layout g kept.volume
      (is_ready before tells).volume) (kept.each d among)

  module _ (sink : SinkState) where
    come : WalkCosts g id (seen_directly settled 0) (seen_directly mid 0) → (answer : Result Found Refusal)
        → LookUpEnds id old mid sink sink answer → NamesLookUpRule old answer
        → NamesLookUpEvidence id old mid answer → LooksUp id old mid sink sink answer
    come costs answer ends rule named = record {
      called = called_then s.called seen.called;
      comes = comes_to_settled before;
      ends = ends;
      rule = rule;
      named = named;
      briefly = walked_briefly id r old settled mid s seen costs;
    }

    -- it was ended
    pub look_up_unwalked : (fault : Fault) → WalksOnDevice r id settled mid (Err fault)
        → LooksUp id old mid sink sink (Err (refusal_of_fault fault))
    look_up_unwalked faults.Failed w =
        come w.costs (Err DeviceFault) (omega (arith, s.called.faults, w.ends), (refl, inl refl)) tt tt
    look_up_unwalked (faults.Tampered e) w = come w.costs (Err (Tampered e)) (
      (refl, inl refl),
      λ tells.
          let licence = w.ends.2 (tells_settled before tells) in (
            refl,
            record {
              stands = licence.stands;
              layout = g;
              volume = volume_now before tells;
              place = w.ends.0;
              broken = λ still. licence.broken (still_looking before still) (volume_now before tells)
                  (reach_is before tells still).horizon (edge_is before tells still);
            },
          ),
    ) (λ tells. inr (w.ends.2 (tells_settled before tells)).rule) (λ tells.
        on_path g (volume_now before tells) (w.named (tells_settled before tells) (is_ready before tells).volume))

    none_has : IsTrue old.tells → NoneHasTrail g settled.cells settled.image id → (documents : List Document)
        → Kept settled.cells settled.image documents → NoneHas id documents
    none_has tells none documents kept d among same =
        none d.slot (kept_has_trail id same (is_kept tells documents kept d among))

    absent : WalkCosts g id (seen_directly settled 0) (seen_directly mid 0)
        → (IsTrue old.tells → PathEnds g id mid × NoneHasTrail g settled.cells settled.image id)
        → LooksUp id old mid sink sink (Err Absent)
    absent costs ends = come costs (Err Absent) (
      refl,
      λ tells. record {
        layout = g;
        volume = volume_now before tells;
        ends = (ends tells).0;
        before = λ documents kept. none_has tells (ends tells).1 documents (kept_settled documents kept);
        alone = λ still documents kept. none_has tells (ends tells).1 documents
            (subst (λ (i : Image). Kept settled.cells i documents) (same_since before still)
            (subst (λ (k : ℕ). Kept k mid.image documents) seen.called.cells kept));
      },
    ) tt tt

    -- the path ends
    pub look_up_ended : (place : Open) (level : Level) → WalksOnDevice r id settled mid (Ok (walks.End place level))
        → LooksUp id old mid sink sink (Err Absent)
    look_up_ended place level w = absent w.costs (λ tells.
        let end = w.ends.4 (tells_settled before tells) in
        let volume = (is_ready before tells).volume in
        (at_place place level (end.passed volume) end.blank, end.none volume))

    pub look_up_full : WalksOnDevice r id settled mid (Ok walks.PathFull) → LooksUp id old mid sink sink (Err Absent)
    look_up_full w = absent w.costs (λ tells.
        let full = w.ends.1 (tells_settled before tells) in
        let volume = (is_ready before tells).volume in
        (behind_all (full.passed volume), full.none volume))

  -- this part's slot was found
  module _ (part : Part) (w : WalksOnDevice r id settled mid (Ok (walks.Found part))) where
    abbrev n : ℕ
    n = part.slot

    found : IsTrue old.tells → IsFound g id (seen_directly settled 0) (seen_directly mid 0) n
    found tells = w.ends.2 (tells_settled before tells)

    -- the document was read whole
    pub found_whole : IsTrue mid.tells → HoldsSome g mid.image n
    found_whole tells =
        let here = (found (subst IsTrue (called_then s.called seen.called).tells tells)).holds in
        record { id = id; body = here.body; holds = here.holds }

    module _ (new : DeviceState) (from to : SinkState) (viewed : Viewed (seen_directly mid 0) (seen_directly new 0)) where
      after : HasLooked r old settled new
      after = looked_more before viewed

      told_new : IsTrue old.tells → IsTrue new.tells
      told_new tells = subst IsTrue (sym viewed.called.tells) (told_mid tells)

      -- the slot is the first on the path at exit, too
      first_now : IsTrue old.tells → IsFirstOnPath g new.cells new.image id n
      first_now tells = first_on viewed.image (subst (λ (k : ℕ). IsFirstOnPath g k mid.image id n)
          (sym viewed.called.cells) ((found tells).first (is_ready before tells).volume))

      module _ (tells : IsTrue old.tells) (body : List ℕ) (h : HoldsBody g new.image n body) where
        -- the body that slot n holds at exit is that of the document with the identifier
        stands : Stands new.cells new.image n id body
        stands =
            let here = (found tells).holds in
            let one = held_is_one g new.image n id here.body h.id body (held_on viewed.image here.holds) h.holds in
            subst (λ (i : List ℕ). Stands new.cells new.image n i body) (sym one.0)
            (held_stands g new.cells new.image n h.id body (volume_now after tells) h.holds)

        that_of : (documents : List Document) → Kept settled.cells settled.image documents → IsThatOf id body n documents
        that_of documents kept d among same =
            let is = is_kept tells documents kept d among in
            let slot : d.slot ≡ n = (found tells).alone (is_ready before tells).volume d.slot (kept_has_trail id same is) in
            let there : Stands new.cells new.image d.slot d.id d.body =
            subst (λ (k : ℕ). Stands k new.image d.slot d.id d.body)
            (sym (viewed.called.cells ∙ seen.called.cells))
            (stands_on (extends_then seen.image viewed.image) is.stands) in (
              slot,
              (one_document new.cells new.image n d.id d.body id body
                  (subst (λ (k : ℕ). Stands new.cells new.image k d.id d.body) slot there) stands).1,
            )

        looked_up_is : IsLookedUp id body n old new
        looked_up_is = record {
          first = record {
            layout = g;
            volume = volume_now after tells;
            stands = stands;
            first = first_now tells;
          };
          before = λ documents kept. that_of documents (kept_settled documents kept);
          alone = λ still documents kept. that_of documents
              (subst (λ (i : Image). Kept settled.cells i documents) (same_since after still)
              (subst (λ (k : ℕ). Kept k new.image documents) after.looked.cells kept));
        }

      puts_front : GotPart g n (seen_directly new 0) from to → PutsFront id old new from to
      puts_front front = record {
        body = front.body;
        slot = n;
        count = front.count;
        first = λ tells. looked_up_is tells front.body (front.holds (told_new tells));
        most = front.most;
        gets = front.gets;
      }

      no_more : (to ≡ from) ⊎ GotPart g n (seen_directly new 0) from to → (to ≡ from) ⊎ PutsFront id old new from to
      no_more got = ⊎_elim (λ (e : to ≡ from). inl e) (λ front. inr (puts_front front)) got

      come_to : new.reads ≤ mid.reads + cells_for part.bytes → (answer : Result Found Refusal)
          → LookUpEnds id old new from to answer → NamesLookUpRule old answer
          → NamesLookUpEvidence id old new answer → LooksUp id old new from to answer
      come_to reads answer is rule named = record {
        called = called_then (called_then s.called seen.called) viewed.called;
        comes = comes_to_settled after;
        ends = is;
        rule = rule;
        named = named;
        briefly = λ tells. put_briefly id r old settled mid s seen w.costs tells part (found tells)
            (w.ends.3.is (told_mid tells)) new viewed reads;
      }

      -- the whole body
      pub looked_up : (bytes : ℕ) → new.reads ≤ mid.reads + cells_for part.bytes
          → BodyEnds g n (seen_directly mid 0) (seen_directly new 0) from to (Ok bytes)
          → LooksUp id old new from to (Ok (record { slot = n; bytes = bytes }))
      looked_up bytes reads put = come_to reads (Ok (record { slot = n; bytes = bytes })) (record {
        body = put.2.body;
        first = λ tells. looked_up_is tells put.2.body (put.2.holds (told_new tells));
        below = omega (arith, w.ends.0, s.ends.0.horizon, s.ends.0.layout.slots);
        bytes_is = put.2.length_is;
        gets = put.2.gets;
        faults = put.1;
      }) tt tt

      -- or why it was not put
      pub look_up_unput : (fault : BodyFault) → new.reads ≤ mid.reads + cells_for part.bytes
          → BodyEnds g n (seen_directly mid 0) (seen_directly new 0) from to (Err fault)
          → LooksUp id old new from to (Err (refusal_of_body fault))
      look_up_unput (bodies.Tampered e) reads put =
          let named : IsTrue old.tells → IsPathLicensed g r.horizon r.edge (seen_directly mid 0) (seen_directly new 0) e =
          λ tells. names_licensed g r.horizon r.edge n (seen_directly mid 0) (seen_directly new 0) e viewed
          (put.0.2 (told_mid tells)) in
          come_to reads (Err (Tampered e)) (
            (put.1, no_more put.2),
            λ tells.
                let licence = named tells in (
                  put.3 (told_mid tells),
                  record {
                    stands = licence.stands;
                    layout = g;
                    volume = volume_now after tells;
                    place = put.0.0;
                    broken = λ still. licence.broken
                        (still_second seen.called.foreign_writes viewed.called.foreign_writes
                        (still_looking after still))
                        (volume_now after tells) (reach_is after tells still).horizon (edge_is after tells still);
                  },
                ),
          ) (λ tells. inr (named tells).rule) (λ tells.
          on_path g (volume_now after tells) (in_slot n (first_now tells) (slot_cell (put.0.2 (told_mid tells)))))
      look_up_unput bodies.ReadFault reads put = come_to reads (Err DeviceFault)
          (omega (arith, s.called.faults, seen.called.faults, put.0), (put.1, no_more put.2)) tt tt
      look_up_unput bodies.SinkFault reads put = come_to reads (Err SinkFault) (put.1, puts_front put.2) tt tt

    -- the slot was located
    module _ (telling : IsTrue old.tells) where
      here : HoldsBody g mid.image n (found telling).holds.body
      here = record { id = id; holds = (found telling).holds.holds }

      located_is : IsLookedUp id (found telling).holds.body n old mid
      located_is = looked_up_is mid nothing nothing (viewed_self (seen_directly mid 0)) telling
          (found telling).holds.body here

    pub located : IsLocated id old mid n
    located = record {
      called = called_then s.called seen.called;
      comes = comes_to_settled before;
      below = omega (arith, w.ends.0, s.ends.0.horizon, s.ends.0.layout.slots);
      body = body_is.0;
      first = body_is.1;
      briefly = walked_briefly id r old settled mid s seen w.costs;
    }
      where
        body_is : (body : List ℕ) × (IsTrue old.tells → IsLookedUp id body n old mid)
        body_is = elim (cases_Bool old.tells) [
          | inl telling ↦ ((found telling).holds.body, λ tells. located_is telling)
          | inr silent ↦ ([], λ tells. absurd (let clash : true ≡ false = sym tells ∙ silent in cc))
        ]
