-- What a search of a settled volume reads.
use Rattle.std.proofs.Common.{◌≡◌, ◌<◌, ◌≤◌, ◌+◌, ◌*◌, ℕ, zero, suc, List, [], ◌∷◌, length, map, Some, Result, Ok, refl, sym, ap, subst, arith, ◌∙◌}
use Rattle.std.specs.Global.{Vec}
use Rattle.std.specs.Prelude.{Contains, IsTrue, slice_get, slice_index, slice_index_or}
use Rattle.std.proofs.lemmas.Nat.{mod_below}
use Rattle.cell_types.specs.Image.{Image}
use Rattle.cell_types.specs.Layout.{Layout}
use Rattle.cell_types.specs.declared.refusal.Refusal.{Refusal}
use Rattle.volume_meaning.specs.Documents.{AreDocuments, Document, Stands, stored_bytes}
use Rattle.volume_meaning.specs.Slots.{IsDone}
use Rattle.volume_meaning.specs.Volumes.{IsVolume}
use Rattle.volume_meaning.specs.Nearness.{IsCandidate, IsNear, SharesList}
use Rattle.volume_meaning.specs.Postings.{list_of}
use Rattle.tamper_rules.specs.Settling.{IsSettled, Settled}
use Rattle.tamper_rules.proofs.GivenUp.{one_layout}
use Rattle.worm_device.specs.Counts.{IsStill}
use Rattle.worm_device.specs.State.{DeviceState}
use Rattle.worm_device.specs.Views.{Viewed, seen_directly}
use Rattle.worm_device.proofs.Counting.{still_first, still_second}
use Rattle.worm_device.proofs.Elapsing.{called_then}
use Rattle.worm_device.proofs.Resting.{rests_of}
use Rattle.tamper_rules.proofs.Images.{same_image}
use Rattle.recovery_engine.specs.Settling.{Settles}
use Rattle.recovery_engine.specs.declared.settling.Ready.{Ready}
use Rattle.recovery_engine.proofs.OfSettled.{settled_same}
use Rattle.posting_list.specs.Joins.{TermsGather, TermsGatherReads, gather_reads, slots_of}
use Rattle.document_store.specs.declared.part.Part.{Part}
use Rattle.posting_list.specs.Owing.{HasPosting, IsVouched}
use Rattle.posting_list.specs.Terms.{sought_of}
use Rattle.posting_list.specs.declared.sought_term.SoughtTerm.{SoughtTerm}
use Rattle.record_query.specs.Among.{IsSlotCost, ReadsEach}
use Rattle.record_query.specs.Finding.{FindsBriefly, HaveCells}
use Rattle.record_query.specs.Reaching.{reach_of}
use Rattle.record_query.proofs.Costs.{IsSlotOf, stored_cells, common_cost, slot_cost, slot_cost_is, counted_slots, few_counted}
use Rattle.record_query.proofs.Nearby.{candidate_of, shared, tagged}

-- the number of a term among those that are sought
pub record IsNumbered (lists : ℕ) (terms : List (List ℕ)) (word : List ℕ) : Type 0 where
  pub which : ℕ
  pub inside : which + 1 ≤ length (map (sought_of lists) terms)
  pub there : slice_get (map (sought_of lists) terms) which ≡ Some (sought_of lists word)

pub numbered : (lists : ℕ) (terms : List (List ℕ)) (word : List ℕ) → Contains terms word → IsNumbered lists terms word
numbered lists [] word c = absurd (omega (arith, c.1))
numbered lists (first ∷ rest) word c = by_place (λ among. numbered lists rest word among) c.0 c.1 c.2 where
  by_place : (Contains rest word → IsNumbered lists rest word) → (k : ℕ) → k < length (first ∷ rest)
      → slice_index_or (first ∷ rest) k word ≡ word → IsNumbered lists (first ∷ rest) word
  by_place next zero less is = record {
    which = zero;
    inside = omega arith;
    there = ap (λ (w : List ℕ). Some (sought_of lists w)) is;
  }
  by_place next (suc k) less is =
      let n = next (k, omega (arith, less), is) in
      record { which = suc n.which; inside = omega (arith, n.inside); there = n.there }

pub same_length : (lists : ℕ) (terms : List (List ℕ)) → length (map (sought_of lists) terms) ≡ length terms
same_length lists [] = refl
same_length lists (word ∷ rest) = omega (arith, same_length lists rest)

some_term : (a b : SoughtTerm) → Some a ≡ Some b → a ≡ b
some_term a b e = cc

-- what the terms, Near and the candidates ask for
bound : (old settled mid new t m cells : ℕ) → settled ≤ old + 64 → mid ≤ settled + gather_reads t m
    → new ≤ mid + cells → new ≤ old + 256 + 49152 * (t * (m + 1)) + 4 * cells
bound old settled mid new t m cells first gathered last =
    omega (arith, first, gathered, last, opened t m, more t m)
  where
    opened : (t m : ℕ) → t * (4100 * (2 * m + 1) + 36868 * m) ≡ 45068 * (t * m) + 4100 * t
    opened t m = grind arith

    more : (t m : ℕ) → t * (m + 1) ≡ t * m + t
    more t m = grind arith

-- where no more than settling was done, that is brief
brief : (old new t m cells : ℕ) → new ≤ old + 64 → new ≤ old + 256 + 49152 * (t * (m + 1)) + 4 * cells
brief old new t m cells first = omega (arith, first)

pub briefly_unsettled : (terms : List (List ℕ)) (old new : DeviceState) (result : Result Ready Refusal)
    → Settles old new result → FindsBriefly terms old new
briefly_unsettled terms old new result s = λ tells still volume documents are near cells n have.
    brief old.reads new.reads (length terms) near cells (s.again tells volume still)

module _ (terms : List (List ℕ)) (r : Ready) (old settled : DeviceState) (s : Settles old settled (Ok r))
    (mid : DeviceState) (seen : Viewed (seen_directly settled 0) (seen_directly mid 0))
    (reads : TermsGatherReads (reach_of r) (map (sought_of r.volume.geometry.lists) terms) (seen_directly settled 0)
    (seen_directly mid 0)) where
  some_list : (word : List ℕ) → list_of r.volume.geometry.lists word < r.volume.geometry.lists
  some_list word = mod_below _ r.volume.geometry.lists (omega (arith, s.ends.0.layout.some_lists))

  module _ (tells : IsTrue old.tells) (still : IsStill old.foreign_writes mid.foreign_writes)
      (volume : Settled old.cells old.image) (documents : List Document)
      (are : AreDocuments old.cells old.image documents) where
    still_settling : IsStill old.foreign_writes settled.foreign_writes
    still_settling = still_first s.called.foreign_writes seen.called.foreign_writes still

    first_reads : settled.reads ≤ old.reads + 64
    first_reads = s.again tells volume still_settling

    same : settled.image ≡ old.image
    same = settled_same old settled tells still_settling volume (Ok r) s

    same_mid : mid.image ≡ old.image
    same_mid = same_image ((rests_of seen).shown (still_second s.called.foreign_writes seen.called.foreign_writes still))
        ∙ same

    told : IsTrue old.tells → IsTrue mid.tells
    told t = subst IsTrue (sym (called_then s.called seen.called).tells) t

    -- the layout is the one that settling answered
    layout_is : volume.layout ≡ r.volume.geometry
    layout_is = one_layout {cells = old.cells} {more = settled.cells} volume.layout r.volume.geometry volume.volume
        (subst (λ (i : Image). IsVolume settled.cells i r.volume.geometry) same (s.ends.1 tells).volume)

    volume_is : IsVolume old.cells old.image r.volume.geometry
    volume_is = subst (λ (h : Layout). IsVolume old.cells old.image h) layout_is volume.volume

    settled_is : IsSettled r.volume.geometry old.image
    settled_is = subst (λ (h : Layout). IsSettled h old.image) layout_is volume.settled

    module _ (d : Document) (c : Contains documents d) where
      stands : Stands old.cells old.image d.slot d.id d.body
      stands = ((are.each d).1 c).stands

      one : stands.layout ≡ r.volume.geometry
      one = one_layout {cells = old.cells} {more = old.cells} stands.layout r.volume.geometry stands.volume volume_is

      small : d.slot < 16777216
      small = omega (arith, subst (λ (h : Layout). d.slot < h.slots) one stands.slot, s.ends.0.layout.slots)

      costs : slot_cost documents d.slot ≡ stored_cells d
      costs = slot_cost_is 0 documents are.rise d c

      low_cost : slot_cost documents d.slot ≤ stored_cells d
      low_cost = omega (arith, costs)

      -- its slot costs so much
      cost_at : (slot : ℕ) → d.slot ≡ slot → IsSlotCost r.volume.geometry mid.image slot (slot_cost documents slot)
      cost_at slot is = subst (λ (n : ℕ). IsSlotCost r.volume.geometry mid.image n (slot_cost documents n)) is (record {
        start = stands.start;
        reserved = stands.reserved;
        bytes = length (stored_bytes d.id d.body);
        journal = stands.journal;
        done = subst (λ (i : Image). IsDone r.volume.geometry i d.slot stands.start stands.reserved
            (length (stored_bytes d.id d.body)) stands.journal) (sym same_mid)
            (subst (λ (h : Layout). IsDone h old.image d.slot stands.start stands.reserved
            (length (stored_bytes d.id d.body)) stands.journal) one stands.done);
        most = omega (arith, costs);
      })

    -- gathering reads what Near asks for
    gathered_reads : (near : ℕ) → IsNear volume.layout documents terms near
        → mid.reads ≤ settled.reads + gather_reads (length terms) near
    gathered_reads near of_layout =
        let n = subst (λ (h : Layout). IsNear h documents terms near) layout_is of_layout in
        let k = numbered r.volume.geometry.lists terms n.term n.among in
        let c = counted_slots (SharesList r.volume.geometry n.term) documents near n.count in
        let few = few_counted (SharesList r.volume.geometry n.term) 16777216 documents near are.rise small n.count in
        let paid = reads.reads (still_second s.called.foreign_writes seen.called.foreign_writes still) k.which k.inside
        c.slots (omega (arith, c.many, few))
        (λ slot lands on.
        let h = lands (subst IsTrue (sym s.called.tells) tells) in
        let term : h.0 ≡ sought_of r.volume.geometry.lists n.term = some_term h.0
        (sought_of r.volume.geometry.lists n.term) (sym h.1 ∙ k.there) in
        let posting : HasPosting (reach_of r) (sought_of r.volume.geometry.lists n.term) old.image slot =
        subst (λ (i : Image). HasPosting (reach_of r) (sought_of r.volume.geometry.lists n.term) i slot) same
        (subst (λ (t : SoughtTerm). HasPosting (reach_of r) t settled.image slot) term h.2) in
        let d = shared (reach_of r) old.cells old.image documents volume_is settled_is are refl s.ends.0.to n.term slot
        (some_list n.term) posting in
        subst (Contains c.slots) d.is (c.all d.d d.among d.such)) in
        subst (λ (t : ℕ). mid.reads ≤ settled.reads + gather_reads t near) (same_length r.volume.geometry.lists terms)
        (subst (λ (m : ℕ). mid.reads ≤ settled.reads
        + gather_reads (length (map (sought_of r.volume.geometry.lists) terms)) m) c.many paid)

    module _ (some : 1 ≤ length terms) (parts : Vec Part)
        (g : TermsGather (reach_of r) (map (sought_of r.volume.geometry.lists) terms) (seen_directly settled 0)
        (seen_directly mid 0) (Ok parts)) where
      abbrev slots : List ℕ
      slots = slots_of parts.items

      -- each slot that was gathered is that of a candidate
      candidate : (i : ℕ) → i < length slots
          → IsSlotOf (IsCandidate r.volume.geometry terms) documents (slice_index slots i)
      candidate i less =
          let slot = slice_index slots i in
          candidate_of r.volume.geometry old.cells old.image documents are terms some slot (λ word among.
          let k = numbered r.volume.geometry.lists terms word among in
          let v = g.ends.0.vouched i less k.which (omega (arith, k.inside)) (told tells) in
          let term : v.0 ≡ sought_of r.volume.geometry.lists word = some_term v.0
          (sought_of r.volume.geometry.lists word) (sym v.1 ∙ k.there) in
          tagged (reach_of r) old.cells old.image documents volume_is settled_is are refl s.ends.0.to word slot
          (some_list word)
          (subst (λ (i : Image). IsVouched (reach_of r) (sought_of r.volume.geometry.lists word) i slot) same_mid
          (subst (λ (t : SoughtTerm). IsVouched (reach_of r) t mid.image slot) term v.2)))

      -- and reading them costs what the candidates ask for
      each_reads : (new : DeviceState) → ReadsEach r.volume.geometry slots mid new → (cells : ℕ)
          → HaveCells (IsCandidate volume.layout terms) documents cells → new.reads ≤ mid.reads + cells
      each_reads new each cells of_layout =
          let have = subst (λ (h : Layout). HaveCells (IsCandidate h terms) documents cells) layout_is of_layout in
          let most = common_cost (IsCandidate r.volume.geometry terms) (slot_cost documents) documents are.rise low_cost
          cells have slots g.ends.0.rise candidate in
          let paid = each (told tells) (slot_cost documents) (λ i less.
          let c = candidate i less in cost_at c.d c.among (slice_index slots i) c.is) in
          omega (arith, most, paid)

  -- the slots were gathered, or this was ended
  pub briefly_gathered : FindsBriefly terms old mid
  briefly_gathered = λ tells still volume documents are near cells n have.
      bound old.reads settled.reads mid.reads mid.reads (length terms) near cells
      (first_reads tells still volume documents are) (gathered_reads tells still volume documents are near n)
      (omega arith)

  -- and their documents were read
  pub briefly_searched : 1 ≤ length terms → (parts : Vec Part)
      → TermsGather (reach_of r) (map (sought_of r.volume.geometry.lists) terms) (seen_directly settled 0)
      (seen_directly mid 0) (Ok parts)
      → (new : DeviceState) → Viewed (seen_directly mid 0) (seen_directly new 0)
      → ReadsEach r.volume.geometry (slots_of parts.items) mid new → FindsBriefly terms old new
  briefly_searched some parts g new then each = λ tells still volume documents are near cells n have.
      let before = still_first (called_then s.called seen.called).foreign_writes then.called.foreign_writes still in
      bound old.reads settled.reads mid.reads new.reads (length terms) near cells
      (first_reads tells before volume documents are) (gathered_reads tells before volume documents are near n)
      (each_reads tells before volume documents are some parts g new each cells have)
