-- What a search by time answers, over settling and what was gathered.
use Rattle.std.proofs.Common.{◌≡◌, ◌<◌, ◌≤◌, ◌+◌, ◌*◌, ◌^◌, ℕ, List, [], ◌∷◌, length, Option, Some, None, Result, Ok, Err, refl, sym, ap, inl, inr, ⊎_elim, subst, arith, ◌∙◌}
use Rattle.std.specs.Global.{Vec}
use Rattle.std.specs.Prelude.{Contains, IsTrue}
use Rattle.std.proofs.lemmas.List.Elements.{Contains-push_cases}
use Rattle.cell_types.specs.Image.{Extends, Image}
use Rattle.cell_types.specs.Layout.{Layout, TakesStamps, list_at, pool_at}
use Rattle.cell_types.specs.declared.refusal.Evidence.{Evidence}
use Rattle.cell_types.specs.declared.refusal.Refusal.{Refusal}
use Rattle.cell_types.specs.declared.refusal.Refusal.TheVariants as refusals
use Rattle.volume_meaning.specs.Blocks.{Trail}
use Rattle.volume_meaning.specs.Keeping.{IsKept, Kept}
use Rattle.volume_meaning.specs.Postings.{time_posting}
use Rattle.volume_meaning.proofs.KeepingLaws.{kept_on}
use Rattle.volume_meaning.specs.Documents.{Document}
use Rattle.volume_meaning.specs.Slots.{IsStampOf}
use Rattle.volume_meaning.specs.Volumes.{IsVolume}
use Rattle.volume_meaning.proofs.Extending.{holds_on, volume_on}
use Rattle.volume_meaning.proofs.Trails.{trail_on}
use Rattle.tamper_rules.specs.Settling.{Settled}
use Rattle.tamper_rules.proofs.GivenUp.{one_layout}
use Rattle.tamper_rules.proofs.Images.{same_image}
use Rattle.worm_device.specs.State.{DeviceState}
use Rattle.worm_device.specs.Views.{Viewed, seen_directly}
use Rattle.worm_device.proofs.Counting.{still_first, still_second}
use Rattle.worm_device.proofs.Elapsing.{called_then}
use Rattle.document_store.specs.Standing.{HoldsDocument}
use Rattle.document_store.proofs.Holding.{held_is_one, held_on, held_stands, stands_held}
use Rattle.posting_list.specs.Naming.{ShowsListEvidence}
use Rattle.posting_list.specs.declared.reach.Reach.{Reach}
use Rattle.recovery_engine.specs.Settling.{SettleEnds, Settles, SettlesFirst}
use Rattle.recovery_engine.specs.declared.settling.Ready.{Ready}
use Rattle.record_query.specs.Looking.{HasLooked}
use Rattle.record_query.specs.Reaching.{reach_of}
use Rattle.record_query.proofs.Loans.{viewed_by_any}
use Rattle.record_query.proofs.Looking.{has_settled, is_ready, looked_from, same_since, still_looking, still_settling, tells_settled, volume_now}
use Rattle.record_query.proofs.Searched.{comes_to_settled, reach_is, walked}
use Rattle.time_index.specs.Asking.{AsksStamps}
use Rattle.time_index.specs.Gathering.{GatherTimesEnds, GathersTimes, GathersOnDevice, SpanGathered}
use Rattle.time_index.specs.Matching.{IsTimeMatchIn, WantsTimeMatch}
use Rattle.time_index.specs.Spans.{FindsBetween, FindsKeptSpan, FindsSpan, HasTimeMatch, IsStampedSlot, IsTimeListed, IsTimeMatch, LieInLog, NamesTimeRule, ReadsBriefly, SearchesTimes, SpanEnds, TellsListed, WantsMatch, all_cells_of, searched, unstamped}
use Rattle.time_index.specs.declared.found.TimeMatch.{TimeMatch}
use Rattle.time_index.specs.declared.span.TheConstants.{SPAN_READS}
use Rattle.time_index.proofs.Matched.{one_stamp}

-- the loan is not spoken of
shows_by_any : (r : Reach) (new : DeviceState) (b : ℕ) → {e : Evidence} → ShowsListEvidence r (seen_directly new b) e
    → ShowsListEvidence r (seen_directly new 0) e
shows_by_any r new b shows tells = let is = shows tells in record { stands = is.stands; broken = is.broken }

pub gathers_by_any : (ready : Ready) (from to : ℕ) (old new : DeviceState) (a b : ℕ)
    (result : Result (Vec TimeMatch) Refusal)
    → GathersTimes (reach_of ready) from to (seen_directly old a) (seen_directly new b) result
    → GathersOnDevice ready from to old new result
gathers_by_any ready from to old new a b result g = record {
  viewed = viewed_by_any old new a b g.viewed;
  ends = by_result result g.ends;
}
  where
    by_result : (result : Result (Vec TimeMatch) Refusal)
        → GatherTimesEnds (reach_of ready) from to (seen_directly old a) (seen_directly new b) result
        → GatherTimesEnds (reach_of ready) from to (seen_directly old 0) (seen_directly new 0) result
    by_result (Ok matches) h = record { all = h.all; only = h.only; rise = h.rise; reads = h.reads }
    by_result (Err refusals.DeviceFault) h = h
    by_result (Err (refusals.Tampered e)) h = (
      λ tells. let is = h.0 tells in record { rule = is.rule; stands = is.stands; place = is.place },
      λ still. shows_by_any (reach_of ready) new b {e = e} (h.1 still),
    )
    by_result (Err refusals.NoMemory) h = h
    by_result (Err refusal) h = absurd h

module _ (from to : ℕ) (old new : DeviceState) where
  -- settling was ended
  refused : (refusal : Refusal) → SettleEnds old new (Err refusal) → SpanEnds from to old new (Err refusal)
  refused refusals.DeviceFault ends = ends
  refused (refusals.Tampered e) ends = λ tells. (ends tells).licensed
  refused refusals.NotFormatted ends = ends
  refused (refusals.NotAVolume found) ends = ends
  refused (refusals.WrongSize stated real) ends = ends
  refused refusal ends = absurd ends

  refused_rule : (refusal : Refusal) → SettleEnds old new (Err refusal) → NamesTimeRule old (Err refusal)
  refused_rule (refusals.Tampered e) ends = λ tells. inl (ends tells).rule
  refused_rule refusal ends = tt

  pub unsettled : (refusal : Refusal) → Settles old new (Err refusal) → SearchesTimes from to old new (Err refusal)
  unsettled refusal s = record {
    called = s.called;
    comes = SettlesFirst.settling refusal refl s;
    ends = refused refusal s.ends;
    rule = refused_rule refusal s.ends;
    reads = tt;
  }

  -- the settled volume has no stamps
  pub without_stamps : (r : Ready) → Settles old new (Ok r) → (TakesStamps r.volume.geometry → ⊥)
      → SearchesTimes from to old new (Err refusals.NoStamps)
  without_stamps r s other = record {
    called = s.called;
    comes = comes_to_settled {settled = new} (looked_from s);
    ends = λ tells. (r.volume.geometry, (s.ends.1 tells).volume, grind (arith, s.ends.0.layout.version, other));
    rule = tt;
    reads = tt;
  }

-- where the time list leads it goes on leading
time_listed_on : {cells : ℕ} {old new : Image} {n seconds : ℕ} → Extends old new → IsTimeListed cells old n seconds
    → IsTimeListed cells new n seconds
time_listed_on e led = record {
  layout = led.layout;
  volume = volume_on e led.volume;
  at = led.at;
  trail = trail_on e led.trail;
}

-- a slot of the volume has this stamp
stamp_by : {cells : ℕ} {image : Image} {n seconds : ℕ} {g : Layout} → (is : IsStampedSlot cells image n seconds)
    → is.layout ≡ g → IsStampOf g image n (Some seconds)
stamp_by {cells} {image} {n} {seconds} is same = subst (λ (h : Layout). IsStampOf h image n (Some seconds)) same is.stamp

module _ (r : Ready) (from to : ℕ) (old settled new : DeviceState) (s : Settles old settled (Ok r))
    (stamped : TakesStamps r.volume.geometry) (seen : Viewed (seen_directly settled 0) (seen_directly new 0))
  where
    w : HasLooked r old settled new
    w = walked s seen

    abbrev g : Layout
    g = r.volume.geometry

    module _ (tells : IsTrue old.tells) where
      -- a match tells of a document that stands
      is_match : (found : TimeMatch) → IsTimeMatchIn g new.image found → from ≤ found.seconds → found.seconds ≤ to
          → IsTimeMatch new.cells new.image from to found
      is_match found is from_is to_is = record {
        body = is.body;
        stands = held_stands g new.cells new.image found.slot found.identifier is.body (volume_now w tells) is.holds;
        bytes_is = is.bytes_is;
        stamp = record { layout = g; volume = volume_now w tells; stamp = (stamped, is.stamp) };
        from_is = from_is;
        to_is = to_is;
      }

      -- below the horizon to which settling came
      in_log : (matches : List TimeMatch) → ((found : TimeMatch) → Contains matches found → found.slot < r.horizon)
          → LieInLog old new matches
      in_log matches below = record {
        ready = r;
        settled = has_settled w;
        horizon = λ still. (reach_is w tells still).horizon;
        below = below;
      }

      -- memory was wanted for one
      wants_match : WantsTimeMatch (reach_of r) new.image from to → WantsMatch from to old new
      wants_match wants = record {
        wanted = wants.wanted;
        is = is_match wants.wanted wants.is wants.from_is wants.to_is;
        log = in_log (wants.wanted ∷ []) (λ found among. ⊎_elim
            (λ (none : Contains [] found). absurd (omega (arith, none.1)))
            (λ (here : wants.wanted ≡ found). subst (λ (m : TimeMatch). m.slot < r.horizon) here wants.below)
            (Contains-push_cases [] wants.wanted found among));
      }

    module _ (tells : IsTrue old.tells) (matches : List TimeMatch)
        (gathered : SpanGathered (reach_of r) from to (seen_directly settled 0) (seen_directly new 0) matches) where
      module _ (d : Document) (seconds : ℕ) (kept : IsKept settled.cells settled.image g d)
          (stamp : IsStampOf g settled.image d.slot (Some seconds)) (from_is : from ≤ seconds) (to_is : seconds ≤ to)
        where
          -- the document is kept with this stamp
          kept_stamp : kept.stamp ≡ Some seconds
          kept_stamp = by_stamp kept.stamp kept.is_stamp
            where
              by_stamp : (other : Option ℕ) → IsStampOf g settled.image d.slot other → other ≡ Some seconds
              by_stamp None is = absurd (omega (arith, is, stamped))
              by_stamp (Some k) is = ap Some (one_stamp settled.image d.slot k seconds is.1 stamp.1)

          small : d.slot < 2 ^ 32
          small =
              let one : kept.stands.layout ≡ g = one_layout {cells = settled.cells} {more = settled.cells} kept.stands.layout g
              kept.stands.volume (is_ready w tells).volume in
              omega (arith, subst (λ (h : Layout). d.slot < h.slots) one kept.stands.slot, s.ends.0.layout.slots)

          held_new : HoldsDocument g new.image d.slot d.id d.body
          held_new = held_on seen.image (stands_held g settled.cells settled.image d.slot d.id d.body
              (is_ready w tells).volume kept.stands)

          -- so it was found
          kept_found : HasTimeMatch matches d.slot d.id d.body seconds
          kept_found =
              let trail = kept.trails g.lists (time_posting d.slot seconds) (omega (arith, stamped))
              (inr (seconds, kept_stamp, refl, refl)) in
              let has = gathered.all (tells_settled w tells) trail.0 d.slot seconds small trail.1 from_is
              (omega (arith, to_is)) in
              let is = (gathered.only (tells_settled w tells) has.found has.among).0 in
              let here : HoldsDocument g new.image d.slot has.found.identifier is.body =
              subst (λ (n : ℕ). HoldsDocument g new.image n has.found.identifier is.body) has.slot_is is.holds in
              let same = held_is_one g new.image d.slot has.found.identifier is.body d.id d.body here held_new in
              record {
                found = has.found;
                among = has.among;
                slot_is = has.slot_is;
                identifier_is = same.0;
                bytes_is = is.bytes_is ∙ ap length same.1;
                seconds_is = has.seconds_is;
              }

      -- of documents that are kept once the volume was settled, those whose stamps lie in the span
      all_found : (documents : List Document) → Kept settled.cells settled.image documents → (d : Document) (seconds : ℕ)
          → Contains documents d → IsStampOf g settled.image d.slot (Some seconds) → from ≤ seconds → seconds ≤ to
          → HasTimeMatch matches d.slot d.id d.body seconds
      all_found documents kept d seconds among stamp from_is to_is =
          let one : kept.layout ≡ g = one_layout {cells = settled.cells} {more = settled.cells} kept.layout g kept.volume
          (is_ready w tells).volume in
          kept_found d seconds (subst (λ (h : Layout). IsKept settled.cells settled.image h d) one (kept.each d among))
          stamp from_is to_is

      -- each slot to which the time list leads with a stamp of the span
      all_listed : TellsListed settled.cells settled.image from to matches
      all_listed n seconds small led from_is to_is =
          let one : led.layout ≡ g = one_layout {cells = settled.cells} {more = settled.cells} led.layout g led.volume
          (is_ready w tells).volume in
          gathered.all (tells_settled w tells) led.at n seconds small
          (subst (λ (h : Layout). Trail settled.image (pool_at h) settled.cells led.at (time_posting n seconds)
          (list_at h h.lists)) one led.trail) from_is (omega (arith, to_is))

      pub finds : FindsSpan from to old new matches
      finds = record {
        listed = λ n seconds small led from_is to_is. all_listed n seconds small
            (subst (λ (k : ℕ). IsTimeListed k settled.image n seconds) (sym s.called.cells)
            (time_listed_on s.called.image led)) from_is to_is;
        listed_alone = λ still n seconds small led from_is to_is. all_listed n seconds small
            (subst (λ (i : Image). IsTimeListed settled.cells i n seconds) (same_since w still)
            (subst (λ (k : ℕ). IsTimeListed k new.image n seconds) w.looked.cells led)) from_is to_is;
        all = λ documents kept d seconds among stamp from_is to_is.
            let by = stamp_by stamp (one_layout {cells = old.cells} {more = settled.cells} stamp.layout g
            (volume_on s.called.image stamp.volume) (is_ready w tells).volume) in
            all_found documents
            (subst (λ (k : ℕ). Kept k settled.image documents) (sym s.called.cells) (kept_on s.called.image kept))
            d seconds among (by.0, holds_on s.called.image by.1) from_is to_is;
        alone = λ still documents kept d seconds among stamp from_is to_is.
            let by = stamp_by stamp (one_layout {cells = new.cells} {more = new.cells} stamp.layout g stamp.volume
            (volume_now w tells)) in
            all_found documents
            (subst (λ (i : Image). Kept settled.cells i documents) (same_since w still)
            (subst (λ (k : ℕ). Kept k new.image documents) w.looked.cells kept))
            d seconds among (subst (λ (i : Image). IsStampOf g i d.slot (Some seconds)) (same_since w still) by) from_is
            to_is;
        only = λ found among.
            let is = gathered.only (tells_settled w tells) found among in is_match tells found is.0 is.1 is.2;
        log = in_log tells matches (λ found among. (gathered.only (tells_settled w tells) found among).3);
        rise = gathered.rise (tells_settled w tells);
      }

    ends_of : (result : Result (Vec TimeMatch) Refusal)
        → GatherTimesEnds (reach_of r) from to (seen_directly settled 0) (seen_directly new 0) result
        → SpanEnds from to old new result
    ends_of (Ok matches) ends = λ tells. finds tells matches.items ends
    ends_of (Err refusals.NoMemory) ends = λ tells. wants_match tells (ends (tells_settled w tells))
    ends_of (Err refusals.DeviceFault) ends = omega (arith, s.called.faults, ends)
    ends_of (Err (refusals.Tampered e)) ends = λ tells.
        let named = ends.0 (tells_settled w tells) in
        record {
          stands = named.stands;
          layout = g;
          volume = volume_now w tells;
          place = named.place refl;
          broken = λ still. (ends.1 (still_looking w still)
              (subst IsTrue (sym seen.called.tells) (tells_settled w tells))).broken (volume_now w tells)
              (reach_is w tells still);
        }
    ends_of (Err refusal) ends = absurd ends

    rule_of : (result : Result (Vec TimeMatch) Refusal)
        → GatherTimesEnds (reach_of r) from to (seen_directly settled 0) (seen_directly new 0) result
        → NamesTimeRule old result
    rule_of (Ok matches) ends = tt
    rule_of (Err (refusals.Tampered e)) ends = λ tells. inr (ends.0 (tells_settled w tells)).rule
    rule_of (Err refusal) ends = tt

    reads_of : (result : Result (Vec TimeMatch) Refusal)
        → GatherTimesEnds (reach_of r) from to (seen_directly settled 0) (seen_directly new 0) result
        → ReadsBriefly 64 old new result
    reads_of (Ok matches) ends = λ tells still volume.
        brief old.reads settled.reads new.reads (length matches.items) (all_cells_of matches.items)
        (s.again tells volume (still_settling w still)) ends.reads
      where
        brief : (o m n k c : ℕ) → m ≤ o + 64 → n ≤ m + 8197 * (k + 1) + c → n ≤ o + 64 + 8224 * (k + 1) + 4 * c
        brief o m n k c first second = omega (arith, first, second)
    reads_of (Err refusal) ends = tt

    -- the time list was searched, or this was ended
    pub settled_search : (result : Result (Vec TimeMatch) Refusal) → GathersOnDevice r from to settled new result
        → SearchesTimes from to old new result
    settled_search result gathers = record {
      called = called_then s.called seen.called;
      comes = comes_to_settled w;
      ends = ends_of result gathers.ends;
      rule = rule_of result gathers.ends;
      reads = reads_of result gathers.ends;
    }

module _ (from to : ℕ) (old new : DeviceState) where
  -- no stamps were found in cell 0
  pub refused_stamps : (refusal : Refusal) → AsksStamps old new (Err refusal) → FindsBetween from to old new (Err refusal)
  refused_stamps refusal asks = record {
    called = asks.called;
    does = unstamped refusal asks refl;
    kept = tt;
    reads = tt;
  }

module _ (from to : ℕ) (old mid new : DeviceState) (asks : AsksStamps old mid (Ok tt)) where
  kept_of : (result : Result (Vec TimeMatch) Refusal) → SpanEnds from to mid new result
      → FindsKeptSpan from to old result
  kept_of (Ok matches) ends = λ tells documents kept d seconds among stamp from_is to_is.
      (ends (subst IsTrue (sym asks.called.tells) tells)).all documents
      (subst (λ (k : ℕ). Kept k mid.image documents) (sym asks.called.cells) (kept_on asks.called.image kept)) d seconds
      among (record {
        layout = stamp.layout;
        volume = subst (λ (k : ℕ). IsVolume k mid.image stamp.layout) (sym asks.called.cells)
            (volume_on asks.called.image stamp.volume);
        stamp = (stamp.stamp.0, holds_on asks.called.image stamp.stamp.1);
      }) from_is to_is
  kept_of (Err refusal) ends = tt

  briefly : (result : Result (Vec TimeMatch) Refusal) → SearchesTimes from to mid new result
      → ReadsBriefly SPAN_READS old new result
  briefly (Ok matches) searches = λ tells still volume.
      brief old.reads mid.reads new.reads (length matches.items) (all_cells_of matches.items) asks.reads
      (searches.reads (subst IsTrue (sym asks.called.tells) tells)
      (still_second asks.called.foreign_writes searches.called.foreign_writes still)
      (subst (λ (k : ℕ). Settled k mid.image) (sym asks.called.cells)
      (subst (λ (i : Image). Settled old.cells i)
      (sym (same_image (asks.quiet (still_first asks.called.foreign_writes searches.called.foreign_writes still))))
      volume)))
    where
      brief : (o m n k c : ℕ) → m ≤ o + 1 → n ≤ m + 64 + 8224 * (k + 1) + 4 * c
          → n ≤ o + 256 + 8224 * (k + 1) + 4 * c
      brief o m n k c first second = omega (arith, first, second)
  briefly (Err refusal) searches = tt

  -- the volume was searched
  pub searched_between : (result : Result (Vec TimeMatch) Refusal) → SearchesTimes from to mid new result
      → FindsBetween from to old new result
  searched_between result searches = record {
    called = called_then asks.called searches.called;
    does = searched mid asks searches;
    kept = kept_of result searches.ends;
    reads = briefly result searches;
  }
