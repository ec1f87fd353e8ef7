-- Where nobody else writes, what is held comes from the ingests in order, whatever crashes fall.
use Rattle.std.proofs.Common.{◌≡◌, ◌≤◌, ◌<◌, ◌⊎◌, ⊎_elim, inl, ℕ, Bool, true, false, if◌then◌else◌, List, [], ◌∷◌, ◌++◌, Option, Some, None, refl, sym, ap, subst, ◌∙◌, arith}
use Rattle.std.proofs.lemmas.List.{append-nil, append_assoc}
use Rattle.std.proofs.lemmas.List.Elements.{Contains-push}
use Rattle.cell_types.specs.Image.{Image, Between, Extends}
use Rattle.cell_types.specs.declared.refusal.Refusal.TheVariants as refusals
use Rattle.volume_meaning.specs.Documents.{AreDocuments, Document}
use Rattle.tamper_rules.specs.Settling.{Held, IsBlankOrSound, none, nothing, of_after}
use Rattle.tamper_rules.proofs.Images.{same_image}
use Rattle.tamper_rules.proofs.Steady.{steady_two}
use Rattle.worm_device.specs.Counts.{IsStill}
use Rattle.worm_device.specs.State.{DeviceState, IsDevice, LeftSince}
use Rattle.worm_device.proofs.Images.{extends_self, extends_then}
use Rattle.worm_memory.specs.Unsure.{is_among}
use Rattle.worm_memory.specs.Memory.{Memory, device_of}
use Rattle.worm_memory.specs.Worlds.{world}
use Rattle.worm_memory.specs.declared.change.Change.{Change}
use Rattle.volume_meaning.proofs.Extending.{blank_before}
use Rattle.crash_laws.specs.SettlingSteadiness.{HoldsOneOf, IsSteady}
use Rattle.crash_laws.proofs.LeftWhole.{left_between, sure_steady, whole_from}
use Rattle.crash_laws.specs.Steadiness.{HasOneMore, HoldsOneMore, IsLeftByIngest, StaysSteadyBy}
use Rattle.ingest_engine.specs.Ingesting.{document_in}
use Rattle.hostile_replay.specs.Headline.{ComeFrom, MayGive, HoldsIngests, IngestsAreHeld, IsUndisturbed, IsNew, MayGiveNone, nothing_came, followed}
use Rattle.hostile_replay.specs.Headline as said
use Rattle.command_laws.specs.Telling.{LeavesHeld}
use Rattle.hostile_replay.specs.Steadily.{CommandsAreWhole, IsCommand, IsWholeTurn, begun_by}
use Rattle.hostile_replay.specs.Turns.{IsCrash, Turns}
use Rattle.script_replies.specs.Beginnings.{begun_with}
use Rattle.hostile_replay.specs.Worlds.{AreInTurn, Turn}
use Rattle.script_events.specs.declared.event.Event.{Event}
use Rattle.script_events.specs.declared.event.Event.TheVariants as event
use Rattle.script_events.specs.declared.event.Schedule.{Schedule}
use Rattle.script_replies.specs.declared.reply.Reply.{Reply}
use Rattle.script_replies.specs.declared.reply.Reply.TheVariants as reply
use Rattle.hostile_replay.proofs.Along.{along, crash_sure, turn_goes}
use Rattle.tamper_rules.proofs.HeldGrows.{held_up}
use Rattle.hostile_replay.proofs.LastDocuments.{last_is_new}

-- what an image holds comes from these turns
pub record HoldsFrom (turns : List Turn) (cells : ℕ) (image : Image) : Type 0 where
  pub documents : List Document
  pub held : Held cells image documents
  pub come : ComeFrom turns documents

-- the device is steady, and what stands and what is sure comes from these turns
pub record IsSteadyFrom (turns : List Turn) (s : DeviceState) : Type 0 where
  pub steady : IsSteady s
  pub image : HoldsFrom turns s.cells s.image
  pub sure : HoldsFrom turns s.cells s.sure

-- one turn more that gives none, or one
no_more : {turns : List Turn} {cells more : ℕ} {image other : Image} (t : Turn) → MayGive t.event t.reply []
    → more ≡ cells → ((documents : List Document) → Held cells image documents → Held cells other documents)
    → HoldsFrom turns cells image → HoldsFrom (turns ++ t ∷ []) more other
no_more {turns} {cells} {more} {image} {other} t gives same keeps h = record {
  documents = h.documents;
  held = subst (λ (n : ℕ). Held n other h.documents) (sym same) (keeps h.documents h.held);
  come = subst (ComeFrom (turns ++ t ∷ [])) (append-nil h.documents) (followed turns h.documents t [] h.come gives);
}

one_more : {turns : List Turn} {cells more : ℕ} {image other : Image} (t : Turn) (d : Document)
    → MayGive t.event t.reply (d ∷ [])
    → more ≡ cells → ((documents : List Document) → Held cells image documents → Held cells other (documents ++ d ∷ []))
    → HoldsFrom turns cells image → HoldsFrom (turns ++ t ∷ []) more other
one_more {turns} {cells} {more} {image} {other} t d gives same keeps h = record {
  documents = h.documents ++ d ∷ [];
  held = subst (λ (n : ℕ). Held n other (h.documents ++ d ∷ [])) (sym same) (keeps h.documents h.held);
  come = followed turns h.documents t (d ∷ []) h.come gives;
}

-- what holds the documents of one of two
one_of : {turns : List Turn} {old : DeviceState} {more : ℕ} {other : Image} (t : Turn) → MayGive t.event t.reply []
    → more ≡ old.cells → IsSteadyFrom turns old → HoldsOneOf old.cells old.sure old.image other
    → HoldsFrom (turns ++ t ∷ []) more other
one_of t gives same stands holds = ⊎_elim
    (λ low. no_more t gives same low stands.sure)
    (λ high. no_more t gives same high stands.image)
    holds

-- a command that adds no document
none_added : {turns : List Turn} {old new : DeviceState} (t : Turn) → MayGive t.event t.reply [] → IsDevice old
    → IsDevice new → new.cells ≡ old.cells → IsSteadyFrom turns old → LeavesHeld old new
    → IsSteadyFrom (turns ++ t ∷ []) new
none_added {turns} {old} {new} t gives device device_new same stands adds = record {
  steady = adds.stays.steady;
  image = no_more t gives same
      (λ documents held. subst (λ (n : ℕ). Held n new.image documents) same (adds.keeps documents held)) stands.image;
  sure = one_of t gives same stands
      (whole_from old new new.sure device stands.steady adds.stays.crashes
      (inl (record { above = extends_self new.sure; below = device_new.sure }))).holds;
}

-- a crash in an ingest leaves what one of two holds, or one document more
left_by : (id : List ℕ) (stamp : Option ℕ) (body : List ℕ) (old new : DeviceState) (image : Image) → IsDevice old
    → IsSteady old → StaysSteadyBy id stamp body old new
    → Between new.sure new.image image → HoldsOneOf old.cells old.sure old.image image
    ⊎ HoldsOneMore id stamp body old image
left_by id stamp body old new image device steady stays between = ⊎_elim
    (λ (before : LeftSince old old.moment image). ⊎_elim
    (λ (b : Between old.sure old.image image). inl (left_between old device steady image b).holds)
    (λ (m : (m : ℕ) × (old.moment ≤ m) × (m < old.moment) × Between (old.past m).sure (old.past m).image image).
    absurd (omega (arith, m.1, m.2)))
    before)
    (λ (l : IsLeftByIngest id stamp body old image). l.holds)
    (stays.crashes old.moment image (omega arith) (inl between))

module _ {turns : List Turn} {old new : DeviceState} (device : IsDevice old) (device_new : IsDevice new)
    (same : new.cells ≡ old.cells) (stands : IsSteadyFrom turns old) where
  module _ (id : List ℕ) (stamp : Option ℕ) (body : List ℕ) (t : Turn) where
    -- an ingest that was acknowledged
    acknowledged : (n : ℕ) → MayGive t.event t.reply (document_in n id body ∷ []) → IsSteady new
        → HasOneMore id stamp body n old new → IsSteadyFrom (turns ++ t ∷ []) new
    acknowledged n gives steady more = record {
      steady = steady;
      image = one_more t (document_in n id body) gives same in_image stands.image;
      sure = one_more t (document_in n id body) gives same in_sure stands.image;
    }
      where
        all_sure : new.sure ≡ new.image
        all_sure = same_image more.sure

        in_image : (documents : List Document) → Held old.cells old.image documents
            → Held old.cells new.image (documents ++ document_in n id body ∷ [])
        in_image documents held =
            subst (λ (k : ℕ). Held k new.image (documents ++ document_in n id body ∷ [])) same
            (of_after new.image (nothing more.settled (λ cell. refl))
            (subst (λ (i : Image). AreDocuments new.cells i (documents ++ document_in n id body ∷ []))
            all_sure
            (more.documents documents held)))

        in_sure : (documents : List Document) → Held old.cells old.image documents
            → Held old.cells new.sure (documents ++ document_in n id body ∷ [])
        in_sure documents held =
            subst (λ (i : Image). Held old.cells i (documents ++ document_in n id body ∷ []))
            (sym all_sure) (in_image documents held)

    -- one that was cut short
    cut_short : ((n : ℕ) → MayGive t.event t.reply (document_in n id body ∷ [])) → MayGive t.event t.reply []
        → StaysSteadyBy id stamp body old new → IsSteadyFrom (turns ++ t ∷ []) new
    cut_short gives gives_none stays = record {
      steady = stays.steady;
      image = in_either new.image (record { above = device_new.sure; below = extends_self new.image });
      sure = in_either new.sure (record { above = extends_self new.sure; below = device_new.sure });
    }
      where
        in_either : (image : Image) → Between new.sure new.image image → HoldsFrom (turns ++ t ∷ []) new.cells image
        in_either image between = ⊎_elim
            (λ (holds : HoldsOneOf old.cells old.sure old.image image). one_of t gives_none same stands holds)
            (λ (more : HoldsOneMore id stamp body old image).
            one_more t (document_in more.slot id body) (gives more.slot) same more.holds stands.image)
            (left_by id stamp body old new image device stands.steady stays between)

    -- one that was refused in another way
    refused : MayGive t.event t.reply [] → StaysSteadyBy id stamp body old new
        → ((documents : List Document) → Held old.cells old.image documents → Held new.cells new.image documents)
        → IsSteadyFrom (turns ++ t ∷ []) new
    refused gives_none stays keeps = record {
      steady = stays.steady;
      image = no_more t gives_none same kept stands.image;
      sure = ⊎_elim
          (λ (holds : HoldsOneOf old.cells old.sure old.image new.sure). one_of t gives_none same stands holds)
          (λ (more : HoldsOneMore id stamp body old new.sure). absurd (not_more more))
          (left_by id stamp body old new new.sure device stands.steady stays
          (record { above = extends_self new.sure; below = device_new.sure }));
    }
      where
        kept : (documents : List Document) → Held old.cells old.image documents → Held old.cells new.image documents
        kept documents held = subst (λ (n : ℕ). Held n new.image documents) same (keeps documents held)

        -- what is sure stands, and so does the document: but it doesn't
        not_more : HoldsOneMore id stamp body old new.sure → ⊥
        not_more more =
            let d = document_in more.slot id body in
            let documents = stands.image.documents in
            let sure = more.holds documents stands.image.held in
            last_is_new old.cells new.sure documents d sure
            (held_up old.cells new.sure new.image (documents ++ d ∷ []) documents
            (subst (λ (n : ℕ). IsBlankOrSound n new.sure) same
            (stays.steady.each new.sure (record { above = extends_self new.sure; below = device_new.sure })))
            (subst (λ (n : ℕ). IsBlankOrSound n new.image) same
            (stays.steady.each new.image (record { above = device_new.sure; below = extends_self new.image })))
            device_new.sure sure (kept documents stands.image.held) d (Contains-push documents d))

kept_below : (b : Bool) (image sure : Option (List ℕ)) (value : List ℕ)
    → ((v : List ℕ) → sure ≡ Some v → image ≡ Some v) → (if b then image else sure) ≡ Some value → image ≡ Some value
kept_below true image sure value stands is = is
kept_below false image sure value stands is = stands value is

-- a crash
crashed : {turns : List Turn} {keep : List ℕ} {old new : Memory} {crash : _} (t : Turn) → MayGive t.event t.reply []
    → IsDevice (device_of old) → new.cells ≡ old.cells → IsSteadyFrom turns (device_of old) → IsCrash keep old new crash
    → IsSteadyFrom (turns ++ t ∷ []) (device_of new)
crashed {turns} {keep} {old} {new} t gives device same stands c = record {
  steady = sure_steady (device_of new) (λ cell. c.sure cell)
      (subst (λ (n : ℕ). IsBlankOrSound n (device_of new).image) (sym same)
      (stands.steady.each (device_of new).image between));
  image = one_of t gives same stands held;
  sure = one_of t gives same stands
      (subst (HoldsOneOf old.cells (device_of old).sure (device_of old).image)
      (sym all_sure) held);
}
  where
    all_sure : (device_of new).sure ≡ (device_of new).image
    all_sure = same_image c.sure

    between : Between (device_of old).sure (device_of old).image (device_of new).image
    between = record {
      above = crash_sure device c;
      below = record {
        keeps = λ cell value is. kept_below (is_among cell keep) ((device_of old).image cell)
            ((device_of old).sure cell)
            value (device.sure.keeps cell) (sym (c.image cell) ∙ is);
      };
    }

    held : HoldsOneOf old.cells (device_of old).sure (device_of old).image (device_of new).image
    held = steady_two (λ other e f. stands.steady.each other (record { above = e; below = f }))
        between.above between.below

-- where nothing stands
new_stands : (m : Memory) → IsNew m → IsSteadyFrom [] (device_of m)
new_stands m new = record {
  steady = record {
    each = λ image between. inl (λ cell. blank_below (between.below) cell);
  };
  image = record { documents = []; held = none blank refl; come = nothing_came };
  sure = record { documents = []; held = none sure_blank refl; come = nothing_came };
}
  where
    blank : (cell : ℕ) → (device_of m).image cell ≡ None
    blank cell = ap (λ (changes : List Change). (world changes).image cell) new.changes

    sure_blank : (cell : ℕ) → (device_of m).sure cell ≡ None
    sure_blank cell = ap (λ (changes : List Change). (world changes).sure cell) new.changes

    blank_below : {image : Image} → Extends image (device_of m).image → (cell : ℕ) → image cell ≡ None
    blank_below e cell = blank_before e (blank cell)

-- nothing happens
same_stands : {turns : List Turn} {old new : DeviceState} (t : Turn) → MayGive t.event t.reply []
    → new.cells ≡ old.cells
    → new.image ≡ old.image → new.sure ≡ old.sure → IsSteadyFrom turns old → IsSteadyFrom (turns ++ t ∷ []) new
same_stands {turns} {old} {new} t gives cells image sure stands = record {
  steady = record {
    each = λ other between. subst (λ (n : ℕ). IsBlankOrSound n other) (sym cells)
        (stands.steady.each other (record {
          above = subst (λ (i : Image). Extends i other) sure between.above;
          below = subst (λ (i : Image). Extends other i) image between.below;
        }));
  };
  image = no_more t gives cells (λ documents held. subst (λ (i : Image). Held old.cells i documents) (sym image) held)
      stands.image;
  sure = no_more t gives cells (λ documents held. subst (λ (i : Image). Held old.cells i documents) (sym sure) held)
      stands.sure;
}

-- the turn of these
abbrev turn_of : Event → Reply → Memory → Memory → Turn
turn_of e r old new = record { event = e; reply = r; old = old; new = new }

-- a device as a command begins is the same device
begun_device : (plan : Schedule) (m : Memory) → IsDevice (device_of m) → IsDevice (device_of (begun_with plan m))
begun_device plan m d = record { sure = d.sure; inside = d.inside; some_cells = d.some_cells; cells = d.cells }

begun_steady : (plan : Schedule) (m : Memory) → IsSteady (device_of m) → IsSteady (device_of (begun_with plan m))
begun_steady plan m steady = record { each = steady.each }

begun_stands : (plan : Schedule) {turns : List Turn} (m : Memory) → IsSteadyFrom turns (device_of m)
    → IsSteadyFrom turns (device_of (begun_with plan m))
begun_stands plan m stands =
    record { steady = begun_steady plan m stands.steady; image = stands.image; sure = stands.sure }

pub begun_by_device : (e : Event) (m : Memory) → IsDevice (device_of m) → IsDevice (device_of (begun_by e m))
begun_by_device (event.Format slots lists version plan) m d = begun_device plan m d
begun_by_device (event.Ingest id stamp body plan) m d = begun_device plan m d
begun_by_device (event.Find terms plan) m d = begun_device plan m d
begun_by_device (event.Lookup id plan) m d = begun_device plan m d
begun_by_device (event.Audit plan) m d = begun_device plan m d
begun_by_device (event.Recover plan) m d = begun_device plan m d
begun_by_device (event.Foreign at value) m d =
    record { sure = d.sure; inside = d.inside; some_cells = d.some_cells; cells = d.cells }
begun_by_device (event.Crash keep) m d =
    record { sure = d.sure; inside = d.inside; some_cells = d.some_cells; cells = d.cells }

pub begun_by_steady : (e : Event) (m : Memory) → IsSteady (device_of m) → IsSteady (device_of (begun_by e m))
begun_by_steady (event.Format slots lists version plan) m s = begun_steady plan m s
begun_by_steady (event.Ingest id stamp body plan) m s = begun_steady plan m s
begun_by_steady (event.Find terms plan) m s = begun_steady plan m s
begun_by_steady (event.Lookup id plan) m s = begun_steady plan m s
begun_by_steady (event.Audit plan) m s = begun_steady plan m s
begun_by_steady (event.Recover plan) m s = begun_steady plan m s
begun_by_steady (event.Foreign at value) m s = record { each = s.each }
begun_by_steady (event.Crash keep) m s = record { each = s.each }

module _ (whole : CommandsAreWhole) {turns : List Turn} (old new : Memory) (device : IsDevice (device_of old))
    (device_new : IsDevice (device_of new)) (alone : new.foreign_writes ≡ 0)
    (stands : IsSteadyFrom turns (device_of old)) where
  still : (e : Event) (r : Reply) → Turns e r old new → IsStill old.foreign_writes new.foreign_writes
  still e r t =
      let goes = turn_goes e r old new device t in
      record { same = omega (arith, goes.foreign_writes, alone); below = omega (arith, goes.foreign_writes, alone) }

  pub whole_turn : (e : Event) (r : Reply) → IsCommand e → Turns e r old new → IsWholeTurn e r old new
  whole_turn e r command t =
      whole e r old new (begun_by_device e old device) device_new (begun_by_steady e old stands.steady)
      (still e r t) command t

  same_cells : (e : Event) (r : Reply) → Turns e r old new → new.cells ≡ old.cells
  same_cells e r t = (turn_goes e r old new device t).cells

  adds_none : (e : Event) (r : Reply) (plan : Schedule) → MayGive e r [] → Turns e r old new
      → LeavesHeld (device_of (begun_with plan old)) (device_of new)
      → IsSteadyFrom (turns ++ turn_of e r old new ∷ []) (device_of new)
  adds_none e r plan gives t adds = none_added (turn_of e r old new) gives (begun_device plan old device) device_new
      (same_cells e r t) (begun_stands plan old stands) adds

  step : (e : Event) (r : Reply) → Turns e r old new → IsSteadyFrom (turns ++ turn_of e r old new ∷ []) (device_of new)
  step (event.Format slots lists version plan) r t = adds_none (event.Format slots lists version plan) r plan
      (said.none (event.Format slots lists version plan) r tt) t
      (whole_turn (event.Format slots lists version plan) r tt t).leaves
  step (event.Find terms plan) r t = adds_none (event.Find terms plan) r plan
      (said.none (event.Find terms plan) r tt) t (whole_turn (event.Find terms plan) r tt t).leaves
  step (event.Lookup id plan) r t = adds_none (event.Lookup id plan) r plan
      (said.none (event.Lookup id plan) r tt) t (whole_turn (event.Lookup id plan) r tt t).leaves
  step (event.Audit plan) r t = adds_none (event.Audit plan) r plan
      (said.none (event.Audit plan) r tt) t (whole_turn (event.Audit plan) r tt t).leaves
  step (event.Recover plan) r t = adds_none (event.Recover plan) r plan
      (said.none (event.Recover plan) r tt) t (whole_turn (event.Recover plan) r tt t).leaves
  step (event.Ingest id stamp body plan) (reply.Acknowledged n) t =
      let adds = (whole_turn (event.Ingest id stamp body plan) (reply.Acknowledged n) tt t).leaves in
      acknowledged (begun_device plan old device) device_new
      (same_cells (event.Ingest id stamp body plan) (reply.Acknowledged n) t)
      (begun_stands plan old stands) id stamp body (turn_of (event.Ingest id stamp body plan)
      (reply.Acknowledged n) old new) n
      (said.stored id stamp body plan n) adds.stays.steady (adds.adds n refl)
  step (event.Ingest id stamp body plan) (reply.Refused refusals.DeviceFault) t =
      let adds = (whole_turn (event.Ingest id stamp body plan) (reply.Refused refusals.DeviceFault) tt t).leaves in
      cut_short (begun_device plan old device) device_new (same_cells (event.Ingest id stamp body plan)
      (reply.Refused refusals.DeviceFault) t)
      (begun_stands plan old stands) id stamp body (turn_of (event.Ingest id stamp body plan)
      (reply.Refused refusals.DeviceFault) old new)
      (λ n. said.cut_short id stamp body plan n) (said.none (event.Ingest id stamp body plan)
      (reply.Refused refusals.DeviceFault) tt) adds.stays
  step (event.Ingest id stamp body plan) (reply.Refused refusal) t =
      let adds = (whole_turn (event.Ingest id stamp body plan) (reply.Refused refusal) tt t).leaves in
      refused (begun_device plan old device) device_new (same_cells (event.Ingest id stamp body plan)
      (reply.Refused refusal) t)
      (begun_stands plan old stands) id stamp body (turn_of (event.Ingest id stamp body plan)
      (reply.Refused refusal) old new)
      (said.none (event.Ingest id stamp body plan) (reply.Refused refusal) tt) adds.stays (adds.keeps tt)
  step (event.Ingest id stamp body plan) r t = absurd t.answers
  step (event.Foreign at value) reply.ForeignDone t =
      absurd (omega (arith, alone, ap (λ (m : Memory). m.foreign_writes) t.1))
  step (event.Foreign at value) (reply.ForeignTaken found) t =
      same_stands (turn_of (event.Foreign at value) (reply.ForeignTaken found) old new)
      (said.none (event.Foreign at value) (reply.ForeignTaken found) tt)
      (ap (λ (m : Memory). m.cells) t.1)
      (ap (λ (m : Memory). (device_of m).image) t.1)
      (ap (λ (m : Memory). (device_of m).sure) t.1) stands
  step (event.Foreign at value) r t = absurd t
  step (event.Crash keep) (reply.Crashed crash) t =
      crashed (turn_of (event.Crash keep) (reply.Crashed crash) old new)
      (said.none (event.Crash keep) (reply.Crashed crash) tt) device
      (same_cells (event.Crash keep) (reply.Crashed crash) t) stands t
  step (event.Crash keep) r t = absurd t

-- along the turns
pub stands_along : CommandsAreWhole → (done : List Turn) (from : Memory) (turns : List Turn) (to : Memory)
    → IsDevice (device_of from) → IsSteadyFrom done (device_of from) → AreInTurn from turns to → IsUndisturbed to
    → IsSteadyFrom (done ++ turns) (device_of to)
stands_along whole done from [] to device stands leads alone =
    subst (λ (l : List Turn). IsSteadyFrom l (device_of to)) (sym (append-nil done))
    (subst (λ (m : Memory). IsSteadyFrom done (device_of m)) (sym leads) stands)
stands_along whole done from (t ∷ turns) to device stands leads alone =
    let rest = along t.new turns to leads.1 leads.3 in
    let here : IsUndisturbed t.new = omega (arith, rest.0.foreign_writes, alone) in
    let old_device = subst (λ (m : Memory). IsDevice (device_of m)) (sym leads.0) device in
    let old_stands = subst (λ (m : Memory). IsSteadyFrom done (device_of m)) (sym leads.0) stands in
    let one : IsSteadyFrom (done ++ t ∷ []) (device_of t.new) =
    step whole t.old t.new old_device leads.1 here old_stands t.event t.reply leads.2 in
    subst (λ (l : List Turn). IsSteadyFrom l (device_of to)) (append_assoc done (t ∷ []) turns)
    (stands_along whole (done ++ t ∷ []) t.new turns to leads.1 one leads.3 alone)

pub stands_from : CommandsAreWhole → (from : Memory) (turns : List Turn) (to : Memory) → IsDevice (device_of from)
    → IsNew from → AreInTurn from turns to → IsUndisturbed to → IsSteadyFrom turns (device_of to)
stands_from whole from turns to device new leads alone =
    stands_along whole [] from turns to device (new_stands from new) leads alone

pub ingests_held : CommandsAreWhole → IngestsAreHeld
ingests_held whole = record {
  held = λ from before mid device new leads alone.
      let s = stands_from whole from before mid device new leads alone in
      record { documents = s.image.documents; held = s.image.held; come = s.image.come };
  stay = λ from to before after mid device new first rest alone sure documents low high d among.
      let goes = along mid after to (along from before mid device first).1 rest in
      let alone_mid : IsUndisturbed mid = omega (arith, goes.0.foreign_writes, alone) in
      let s = stands_from whole from before mid device new first alone_mid in
      let device_mid = (along from before mid device first).1 in
      let z = stands_along whole before mid after to device_mid s rest alone in
      held_up mid.cells (device_of mid).sure (device_of to).image sure documents
      (s.steady.each (device_of mid).sure (record {
        above = extends_self (device_of mid).sure;
        below = device_mid.sure;
      }))
      (subst (λ (n : ℕ). IsBlankOrSound n (device_of to).image) goes.0.cells
      (z.steady.each (device_of to).image (record { above = goes.1.sure; below = extends_self (device_of to).image })))
      (extends_then goes.0.sure goes.1.sure) low
      (subst (λ (n : ℕ). Held n (device_of to).image documents) goes.0.cells high) d among;
}
