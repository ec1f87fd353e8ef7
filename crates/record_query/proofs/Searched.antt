-- What a search answers, over settling, the lists, and the slots that they have in common.
use Rattle.std.proofs.Common.{◌≡◌, ◌<◌, ℕ, zero, suc, List, [], ◌∷◌, Result, Some, Ok, Err, inl, inr, ⊎_elim, refl, sym, map, length, subst, arith, ◌≤◌}
use Rattle.std.proofs.lemmas.Nat.{mod_below}
use Rattle.std.proofs.lemmas.List.{length-map}
use Rattle.std.proofs.lemmas.List.Elements.{Contains-append_right}
use Rattle.std.specs.Global.{Vec}
use Rattle.std.specs.Prelude.{Contains, IsTrue, slice_get, slice_index}
use Rattle.cell_types.specs.Image.{Extends, Image}
use Rattle.cell_types.specs.Layout.{Layout}
use Rattle.cell_types.specs.declared.refusal.Refusal.{Refusal}
use Rattle.cell_types.specs.declared.refusal.Refusal.TheVariants.{DeviceFault, NoMemory, NotAVolume, NotFormatted, Tampered, WrongSize}
use Rattle.volume_meaning.specs.Documents.{Document}
use Rattle.volume_meaning.specs.Slots.{IsEdge}
use Rattle.volume_meaning.specs.Words.{Matches, rule_of}
use Rattle.volume_meaning.proofs.Extending.{volume_on}
use Rattle.volume_meaning.specs.Keeping.{IsKept, Kept}
use Rattle.volume_meaning.proofs.KeepingLaws.{kept_on}
use Rattle.volume_meaning.proofs.Trails.{trail_on}
use Rattle.tamper_rules.proofs.GivenUp.{one_layout}
use Rattle.worm_device.specs.Counts.{IsStill}
use Rattle.worm_device.specs.State.{DeviceState}
use Rattle.worm_device.specs.Views.{Viewed, seen_directly}
use Rattle.worm_device.proofs.Counting.{still_second}
use Rattle.worm_device.proofs.Elapsing.{called_then}
use Rattle.zigzag_join.specs.Joins.{AllOwe}
use Rattle.recovery_engine.specs.Settling.{SettleEnds, Settles, SettlesFirst}
use Rattle.recovery_engine.specs.declared.settling.Ready.{Ready}
use Rattle.posting_list.specs.Joins.{TermsGather, TermsGatherReads, slots_of}
use Rattle.document_store.specs.declared.part.Part.{Part}
use Rattle.posting_list.specs.Laws.{KeptAreOwed}
use Rattle.posting_list.specs.Naming.{IsReachOf}
use Rattle.posting_list.specs.States.{lists_over}
use Rattle.posting_list.specs.Terms.{sought_of}
use Rattle.posting_list.specs.declared.sought_term.SoughtTerm.{SoughtTerm}
use Rattle.posting_list.proofs.Evidence.{state_rule}
use Rattle.posting_list.proofs.Owed.{owed_small}
use Rattle.document_store.specs.Looks.{NamesDocument, of_document, of_state}
use Rattle.document_store.specs.Standing.{HoldsDocument}
use Rattle.document_store.proofs.Holding.{held_on, held_stands, stands_held}
use Rattle.identifier_lookup.proofs.Licence.{names_licensed}
use Rattle.record_query.specs.Looking.{HasLooked}
use Rattle.record_query.proofs.Looking.{has_settled, is_ready, same_since, still_looking, still_settling, tells_settled, volume_now, looked_from, looked_more}
use Rattle.record_query.specs.Among.{AmongEnds, FoundAmong, ReadsEach}
use Rattle.record_query.specs.Finding.{FindEnds, Finds, HasMatch, HasMatchAt, HasTerms, IsFindRule, IsJudged, IsLedTo, IsListed, NamesFindRule, Searches}
use Rattle.record_query.specs.Matching.{HoldsOther}
use Rattle.record_query.specs.Reaching.{reach_of}
use Rattle.record_query.specs.declared.found.Match.{Match}
use Rattle.record_query.proofs.Briefly.{briefly_gathered, briefly_searched, briefly_unsettled}

-- the volume was settled, and then looked at
pub walked : {r : Ready} {old settled new : DeviceState} → Settles old settled (Ok r)
    → Viewed (seen_directly settled 0) (seen_directly new 0) → HasLooked r old settled new
walked s viewed = looked_more (looked_from s) viewed

-- so a query has come far
pub comes_to_settled : {X : Type 0} {result : Result X Refusal} {r : Ready} {old settled new : DeviceState}
    → HasLooked r old settled new → SettlesFirst X old new result
comes_to_settled {X} {result} {r} w = SettlesFirst.settled r (has_settled w)

-- settling was ended
module _ (terms : List (List ℕ)) (old new : DeviceState) where
  refused : (refusal : Refusal) → SettleEnds old new (Err refusal) → FindEnds terms old new (Err refusal)
  refused DeviceFault ends = ends
  refused (Tampered e) ends = λ tells. (ends tells).licensed
  refused NotFormatted ends = ends
  refused (NotAVolume found) ends = ends
  refused (WrongSize stated real) ends = ends
  refused refusal ends = absurd ends

  -- the evidence is by a rule of settling
  refused_rule : (refusal : Refusal) → SettleEnds old new (Err refusal) → NamesFindRule old (Err refusal)
  refused_rule (Tampered e) ends = λ tells. inl (ends tells).rule
  refused_rule refusal ends = tt

  pub search_unsettled : (refusal : Refusal) → Settles old new (Err refusal) → Searches terms old new (Err refusal)
  search_unsettled refusal s = record {
    called = s.called;
    comes = SettlesFirst.settling refusal refl s;
    ends = refused refusal s.ends;
    rule = refused_rule refusal s.ends;
    reads = briefly_unsettled terms old new (Err refusal) s;
  }

  -- no memory was to be had
  pub search_unstarted : (r : Ready) → Settles old new (Ok r) → Searches terms old new (Err NoMemory)
  search_unstarted r s = record {
    called = s.called;
    comes = comes_to_settled {settled = new} (looked_from s);
    ends = tt;
    rule = tt;
    reads = briefly_unsettled terms old new (Ok r) s;
  }

-- a body has the terms by the rule of the volume's one layout
has_by : {cells : ℕ} {image : Image} {body : List ℕ} {terms : List (List ℕ)} {g : Layout}
    → (has : HasTerms cells image body terms) → has.layout ≡ g → Matches (rule_of g.version) body terms
has_by {cells} {image} {body} {terms} has same =
    subst (λ (h : Layout). Matches (rule_of h.version) body terms) same has.matches

-- a slot to which lists lead goes on being one
led_on : {cells : ℕ} {old new : Image} {terms : List (List ℕ)} {n : ℕ} → Extends old new
    → IsLedTo cells old terms n → IsLedTo cells new terms n
led_on e led = record {
  layout = led.layout;
  volume = volume_on e led.volume;
  each = λ word among.
      let l = led.each word among in
      record {
        body = l.body;
        postings = l.postings;
        tagged = l.tagged;
        trails = λ p is. let t = l.trails p is in (t.0, trail_on e t.1);
      };
}

-- the list and the tag of each term
abbrev sought : ℕ → List (List ℕ) → List SoughtTerm
sought lists terms = map (sought_of lists) terms

-- each of them is that of a term
sought_at : (lists : ℕ) (terms : List (List ℕ)) (which : ℕ) → which < length (sought lists terms)
    → (word : List ℕ) × (slice_get (sought lists terms) which ≡ Some (sought_of lists word)) × Contains terms word
sought_at lists [] which less = absurd (omega (arith, less))
sought_at lists (word ∷ rest) zero less = (word, refl, (0, omega arith, refl))
sought_at lists (word ∷ rest) (suc which) less =
    let there = sought_at lists rest which (omega (arith, less)) in
    (there.0, there.1, Contains-append_right (word ∷ []) rest there.0 there.2)

-- where nobody else wrote, this is how far the image is filled
module _ {r : Ready} {old settled new : DeviceState} (w : HasLooked r old settled new) (tells : IsTrue old.tells)
    (still : IsStill old.foreign_writes new.foreign_writes) where
  pub reach_is : IsReachOf (reach_of r) new.image
  reach_is = subst (IsReachOf (reach_of r)) (sym (same_since w still)) (record {
    horizon = record {
      most = (is_ready w tells).horizon.most;
      below = (is_ready w tells).horizon.below;
      free = λ less. (is_ready w tells).free (still_settling w still) less;
    };
    edge = (is_ready w tells).edge;
    pool = refl;
  })

  pub edge_is : IsEdge r.volume.geometry new.image new.image r.edge
  edge_is = record {
    u = r.horizon;
    most = reach_is.horizon.most;
    free = reach_is.horizon.free;
    ends = reach_is.edge;
  }

module _ (owed : KeptAreOwed) (terms : List (List ℕ)) (r : Ready) (old settled mid : DeviceState)
    (s : Settles old settled (Ok r)) (seen : Viewed (seen_directly settled 0) (seen_directly mid 0)) where
  before : HasLooked r old settled mid
  before = walked s seen

  abbrev these : List SoughtTerm
  these = sought r.volume.geometry.lists terms

  abbrev gathers : Result (Vec Part) Refusal → Type 0
  gathers result = TermsGather (reach_of r) these (seen_directly settled 0) (seen_directly mid 0) result

  abbrev gathers_briefly : Type 0
  gathers_briefly = TermsGatherReads (reach_of r) these (seen_directly settled 0) (seen_directly mid 0)

  told : IsTrue old.tells → IsTrue mid.tells
  told tells = subst IsTrue (sym (called_then s.called seen.called).tells) tells

  -- the slots were not gathered
  ungathered : (refusal : Refusal) → gathers (Err refusal) → FindEnds terms old mid (Err refusal)
  ungathered DeviceFault g = omega (arith, s.called.faults, g.ends)
  ungathered (Tampered e) g = λ tells.
      let named = g.ends.0 (told tells) in
      record {
        stands = named.stands;
        layout = r.volume.geometry;
        volume = volume_now before tells;
        place = named.place refl;
        broken = λ still. (g.ends.1 (still_looking before still) (told tells)).broken (volume_now before tells)
            (reach_is before tells still);
      }
  ungathered NoMemory g = tt
  ungathered refusal g = absurd g.ends

  -- the evidence is by a rule of lists
  ungathered_rule : (refusal : Refusal) → gathers (Err refusal) → NamesFindRule old (Err refusal)
  ungathered_rule (Tampered e) g = λ tells. inr (inl (g.ends.0 (told tells)).rule)
  ungathered_rule refusal g = tt

  pub search_ungathered : (refusal : Refusal) → gathers (Err refusal) → gathers_briefly
      → Searches terms old mid (Err refusal)
  search_ungathered refusal g few = record {
    called = called_then s.called seen.called;
    comes = comes_to_settled before;
    ends = ungathered refusal g;
    rule = ungathered_rule refusal g;
    reads = briefly_gathered terms r old settled s mid seen few;
  }

  module _ (parts : Vec Part) (g : gathers (Ok parts)) (new : DeviceState)
      (then : Viewed (seen_directly mid 0) (seen_directly new 0)) where
    after : HasLooked r old settled new
    after = looked_more before then

    abbrev slots : List ℕ
    slots = slots_of parts.items

    abbrev found_among : List Match → Type 0
    found_among matches =
        FoundAmong r.volume.geometry slots (length slots) terms mid.image new.image matches

    -- to slot n lead the lists of all terms
    abbrev all_listed : ℕ → Type 0
    all_listed n =
        (word : List ℕ) → Contains terms word → IsListed settled.cells settled.image r.volume.geometry word n

    module _ (tells : IsTrue old.tells) where
      module _ (d : Document) (has : Matches (rule_of r.volume.geometry.version) d.body terms)
          (kept : IsKept settled.cells settled.image r.volume.geometry d) where
        -- no list may pass the slot of a kept document that has the terms
        all_owe : AllOwe (lists_over (reach_of r) these 0 (seen_directly settled 0)) d.slot
        all_owe which less =
            let term = sought_at r.volume.geometry.lists terms which less in
            owed (reach_of r) these (seen_directly settled 0) which (sought_of r.volume.geometry.lists term.0) d
            (tells_settled before tells) (is_ready before tells).volume refl term.1
            (mod_below _ r.volume.geometry.lists (omega (arith, s.ends.0.layout.some_lists))) kept
            (record { word = term.0; among = has term.0 term.2; list = refl; same = refl })

        small : d.slot < 16777216
        small =
            let one : kept.stands.layout ≡ r.volume.geometry =
            one_layout {cells = settled.cells} {more = settled.cells} kept.stands.layout r.volume.geometry
            kept.stands.volume (is_ready before tells).volume in
            omega (arith, subst (λ (h : Layout). d.slot < h.slots) one kept.stands.slot, s.ends.0.layout.slots)

        -- so it was found
        kept_found : (matches : List Match)
            → FoundAmong r.volume.geometry slots (length slots) terms mid.image new.image matches
            → HasMatch matches d.slot d.id d.body
        kept_found matches f =
            let here = g.ends.0.all d.slot all_owe small in
            let held : HoldsDocument r.volume.geometry settled.image d.slot d.id d.body =
            stands_held r.volume.geometry settled.cells settled.image d.slot d.id d.body (is_ready before tells).volume
            kept.stands in
            subst (λ (n : ℕ). HasMatch matches n d.id d.body) here.is
            (f.all here.place d.id d.body here.inside
            (subst (λ (n : ℕ). HoldsDocument r.volume.geometry mid.image n d.id d.body) (sym here.is)
            (held_on seen.image held)) has)

      -- no list may pass a slot to which all lead
      listed_owe : (n : ℕ) → all_listed n → AllOwe (lists_over (reach_of r) these 0 (seen_directly settled 0)) n
      listed_owe n each which less =
          let term = sought_at r.volume.geometry.lists terms which less in
          let l = each term.0 term.2 in
          record {
            term = sought_of r.volume.geometry.lists term.0;
            there = term.1;
            owed = record {
              tells = tells_settled before tells;
              volume = (is_ready before tells).volume;
              list = mod_below _ r.volume.geometry.lists (omega (arith, s.ends.0.layout.some_lists));
              body = l.body;
              postings = l.postings;
              tagged = l.tagged;
              trails = l.trails;
            };
          }

      -- so it was gathered, and its document was read
      listed_judged : (matches : List Match) → found_among matches → 1 ≤ length terms → (n : ℕ) → all_listed n
          → IsJudged new.cells new.image terms matches n
      listed_judged matches f some n each =
          let owe = listed_owe n each in
          let first = owe 0 (omega (arith, some, length-map terms (sought_of r.volume.geometry.lists))) in
          let here = g.ends.0.all n owe (owed_small (reach_of r) first.term (seen_directly settled 0) n first.owed) in
          subst (IsJudged new.cells new.image terms matches) here.is
          (⊎_elim (λ (h : HasMatchAt matches (slice_index slots here.place)). inl h)
          (λ (o : HoldsOther r.volume.geometry new.image (slice_index slots here.place) terms). inr (record {
            id = o.id;
            body = o.body;
            stands = held_stands r.volume.geometry new.cells new.image (slice_index slots here.place) o.id o.body
                (volume_now after tells) o.holds;
            lacks = λ has. o.lacks (has_by has (one_layout {cells = new.cells} {more = new.cells} has.layout
                r.volume.geometry has.volume (volume_now after tells)));
          }))
          (f.judged here.place here.inside))

      led_judged : (matches : List Match) → found_among matches → 1 ≤ length terms → (n : ℕ)
          → IsLedTo settled.cells settled.image terms n → IsJudged new.cells new.image terms matches n
      led_judged matches f some n led =
          let one : led.layout ≡ r.volume.geometry =
          one_layout {cells = settled.cells} {more = settled.cells} led.layout r.volume.geometry led.volume
          (is_ready before tells).volume in
          listed_judged matches f some n
          (λ word among. subst (λ (h : Layout). IsListed settled.cells settled.image h word n) one (led.each word among))

      -- of documents that are kept once the volume was settled, those that have the terms
      all_found : (matches : List Match)
          → FoundAmong r.volume.geometry slots (length slots) terms mid.image new.image matches
          → (documents : List Document) → Kept settled.cells settled.image documents
          → (d : Document) → Contains documents d → Matches (rule_of r.volume.geometry.version) d.body terms
          → HasMatch matches d.slot d.id d.body
      all_found matches f documents kept d among has =
          let one : kept.layout ≡ r.volume.geometry =
          one_layout {cells = settled.cells} {more = settled.cells} kept.layout r.volume.geometry kept.volume
          (is_ready before tells).volume in
          kept_found d has (subst (λ (h : Layout). IsKept settled.cells settled.image h d) one (kept.each d among))
          matches f

      finds : (matches : List Match) → found_among matches → 1 ≤ length terms → Finds terms old new matches
      finds matches f some = record {
        judged = λ n led. led_judged matches f some n
            (subst (λ (k : ℕ). IsLedTo k settled.image terms n) (sym s.called.cells) (led_on s.called.image led));
        judged_alone = λ still n led. led_judged matches f some n
            (subst (λ (i : Image). IsLedTo settled.cells i terms n) (same_since after still)
            (subst (λ (k : ℕ). IsLedTo k new.image terms n) after.looked.cells led));
        all = λ documents kept d among has. all_found matches f documents
            (subst (λ (k : ℕ). Kept k settled.image documents) (sym s.called.cells) (kept_on s.called.image kept))
            d among (has_by has (one_layout {cells = old.cells} {more = settled.cells} has.layout r.volume.geometry
            (volume_on s.called.image has.volume) (is_ready before tells).volume));
        alone = λ still documents kept d among has. all_found matches f documents
            (subst (λ (i : Image). Kept settled.cells i documents) (same_since after still)
            (subst (λ (k : ℕ). Kept k new.image documents) after.looked.cells kept))
            d among (has_by has (one_layout {cells = new.cells} {more = new.cells} has.layout r.volume.geometry
            has.volume (volume_now after tells)));
        only = λ found among. let is = (f.only found among).is in record {
          body = is.body;
          stands = held_stands r.volume.geometry new.cells new.image found.slot found.identifier is.body
              (volume_now after tells) is.holds;
          bytes_is = is.bytes_is;
          has = record {
            layout = r.volume.geometry;
            volume = volume_now after tells;
            matches = is.matches;
          };
        };
        rise = f.rise;
      }

    ends_of : (result : Result (Vec Match) Refusal)
        → AmongEnds r.volume.geometry slots terms mid new result → 1 ≤ length terms
        → FindEnds terms old new result
    ends_of (Ok matches) ends some = λ tells.
        finds tells matches.items (ends (told tells)) some
    ends_of (Err NoMemory) ends some = tt
    ends_of (Err DeviceFault) ends some = omega (arith, s.called.faults, seen.called.faults, ends.refuses)
    ends_of (Err (Tampered e)) ends some = λ tells.
        let licence = names_licensed r.volume.geometry r.horizon r.edge ends.n (seen_directly mid 0)
        (seen_directly new 0) e then (ends.refuses.2 (told tells)) in
        record {
          stands = licence.stands;
          layout = r.volume.geometry;
          volume = volume_now after tells;
          place = ends.refuses.0;
          broken = λ still. licence.broken
              (still_second seen.called.foreign_writes then.called.foreign_writes (still_looking after still))
              (volume_now after tells) (reach_is after tells still).horizon (edge_is after tells still);
        }
    ends_of (Err refusal) ends some = absurd ends.refuses

    -- the evidence is by a rule of a slot's cells, or by that of its document
    rule_of_end : (result : Result (Vec Match) Refusal)
        → AmongEnds r.volume.geometry slots terms mid new result → NamesFindRule old result
    rule_of_end (Ok matches) ends = tt
    rule_of_end (Err (Tampered e)) ends = λ tells. named (ends.refuses.2 (told tells)) where
      named : NamesDocument r.volume.geometry ends.n (seen_directly mid 0) (seen_directly new 0) e → IsFindRule e.rule
      named (of_state out) = inr (inl (state_rule out.seen))
      named (of_document broken) = inr (inr broken.rule)
    rule_of_end (Err refusal) ends = tt

    -- the slots were searched, or this was ended
    pub searched : (result : Result (Vec Match) Refusal)
        → AmongEnds r.volume.geometry slots terms mid new result → 1 ≤ length terms → gathers_briefly
        → ReadsEach r.volume.geometry slots mid new → Searches terms old new result
    searched result ends some few each = record {
      called = called_then (called_then s.called seen.called) then.called;
      comes = comes_to_settled after;
      ends = ends_of result ends some;
      rule = rule_of_end result ends;
      reads = briefly_searched terms r old settled s mid seen few some parts g new then each;
    }
