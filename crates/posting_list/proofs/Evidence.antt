-- What a search names: it stands, in a place of its rule, and the rule is broken there.
use Rattle.std.proofs.Common.{◌≡◌, ◌<◌, ◌≤◌, ◌+◌, ◌/◌, ⊎_elim, inl, inr, min, ℕ, true, false, List, Some, None, Ok, Err, refl, ap, sym, subst, arith, rules, ◌∙◌}
use Rattle.std.specs.Prelude.{IsTrue}
use Rattle.std.proofs.lemmas.Bool.{cases_lt}
use Rattle.std.proofs.lemmas.Option.{none-some}
use Rattle.cell_types.specs.Image.{Image, Extends, IsUnchanged}
use Rattle.cell_types.specs.Layout.{Layout, all_lists, pool_at, reserve_at, outcome_at, done_at}
use Rattle.cell_types.specs.declared.record_cell.RecordCell.TheVariants.{Abandon, Commit}
use Rattle.cell_types.specs.declared.refusal.Fault.{Fault}
use Rattle.cell_types.specs.declared.refusal.Fault.TheVariants.{Tampered, Failed}
use Rattle.volume_meaning.specs.Slots.{Reserves, IsDoneSlot, IsEdge, IsHorizon, IsLive}
use Rattle.volume_meaning.specs.Volumes.{Holds, IsVolume}
use Rattle.volume_meaning.proofs.Holding.{one_record_holds}
use Rattle.volume_meaning.specs.Blocks.{PostingFields, posting_record}
use Rattle.volume_meaning.specs.Nodes.{IsBlockOf}
use Rattle.volume_meaning.proofs.Fronts.{front_holds, front_on}
use Rattle.volume_meaning.proofs.Tags.{of_word, word_slot}
use Rattle.tamper_rules.specs.Rules.{IsBroken, IsPlace, IsTruePosting, Postings}
use Rattle.worm_device.specs.Counts.{IsStill}
use Rattle.worm_device.specs.Views.{ViewState, Viewed}
use Rattle.worm_device.proofs.Counting.{still_second}
use Rattle.worm_device.proofs.Resting.{rests_of, viewed_self}
use Rattle.commit_record.specs.States.{IsNoState, IsState, StateEnds, done_abandoned, done_unended, done_unreserved, done_wrongly, ends_unreserved, ends_unstamped, ends_wrongly, reserves_none}
use Rattle.commit_record.specs.declared.slot.SlotState.{SlotState}
use Rattle.commit_record.specs.declared.slot.SlotState.TheVariants.{Unused, Reserved, Abandoned, Committed, Done}
use Rattle.document_store.specs.Looks.{part_of}
use Rattle.jump_block.specs.Entries.{cell_of, posting_of}
use Rattle.jump_block.specs.declared.held_entry.Entry.{Entry}
use Rattle.jump_block.proofs.Counting.{rose_later}
use Rattle.jump_index.specs.Searches.{FindsGeq, IsEntryBehind}
use Rattle.jump_index.specs.declared.bounds.Bounds.{Bounds}
use Rattle.jump_block.proofs.OneBlock.{in_place, leads_wider}
use Rattle.jump_index.proofs.Telling.{told_before}
use Rattle.posting_list.specs.Naming.{FaultSays, IsListRule, IsReachOf}
use Rattle.posting_list.specs.Searches.{IsFalsePosting, LooksLive, head_of, within}
use Rattle.posting_list.specs.declared.reach.Reach.{Reach}
use Rattle.posting_list.proofs.Owed.{leads_on}

-- how far the image is filled ends at an edge
reach_edge : (r : Reach) (image : Image) → IsReachOf r image → IsEdge r.volume.geometry image image r.bounds.edge
reach_edge r image reach = record {
  u = r.horizon;
  most = reach.horizon.most;
  free = reach.horizon.free;
  ends = reach.edge;
}

-- which lies on the device
edge_inside : (r : Reach) (cells : ℕ) (image : Image) → IsVolume cells image r.volume.geometry → IsReachOf r image
    → r.bounds.edge ≤ r.volume.geometry.cells
edge_inside r cells image volume reach = ⊎_elim
    (λ none. let inside = volume.volume.is.well_formed.0.pool in omega (arith, none.1, inside))
    (λ (last : (m : ℕ) × (start : ℕ) × (length : ℕ) × (r.horizon ≡ m + 1)
    × Reserves r.volume.geometry image m start length × (r.bounds.edge ≡ start + length)).
    omega (arith, last.4.to, last.5))
    reach.edge

-- so nothing is cut off the bounds
within_edge : (r : Reach) (cells : ℕ) (image : Image) → IsVolume cells image r.volume.geometry → IsReachOf r image
    → IsEdge r.volume.geometry image image (within r).edge
within_edge r cells image volume reach =
    subst (λ n. IsEdge r.volume.geometry image image n)
    (sym (whole r.bounds.edge r.volume.geometry.cells (edge_inside r cells image volume reach)))
    (reach_edge r image reach) where
      whole : (a b : ℕ) → a ≤ b → min a b ≡ a
      whole a b le = omega (arith, le)

-- a search's fault
pub find_fault : (r : Reach) (list x : ℕ) (old new : ViewState) (fault : Fault) → list < all_lists r.volume.geometry
    → FindsGeq (within r) (head_of r list) x old new (Err fault) → FaultSays r old new fault
find_fault r list x old new Failed less found = found.ends
find_fault r list x old new (Tampered e) less found = (
  λ tells.
      let licence = found.ends.1 (told_before found.viewed tells) in
      record {
        rule = inr (inr (inr (inr found.ends.0)));
        stands = licence.stands;
        place = λ pool. licence.place r.volume.geometry list less refl pool (omega arith);
      },
  λ still tells.
      let licence = found.ends.1 (told_before found.viewed tells) in
      record {
        stands = licence.stands;
        broken = λ volume reach. licence.broken r.volume.geometry list volume less refl reach.pool
            (within_edge r new.cells new.image volume reach);
      },
)

-- a fault of a later call is one of a longer row of calls
pub says_later : (r : Reach) (a b c : ViewState) → Viewed a b → Viewed b c → (fault : Fault) → FaultSays r b c fault
    → FaultSays r a c fault
says_later r a b c first second Failed says = rose_later _ _ _ first.called.faults says
says_later r a b c first second (Tampered e) says =
    (says.0, λ still. says.1 (still_second first.called.foreign_writes second.called.foreign_writes still))

-- a slot at or past the horizon is not live
past_horizon : (g : Layout) (image : Image) (u slot : ℕ) → u ≤ slot → IsHorizon g image image u
    → IsLive g image slot → ⊥
past_horizon g image u slot past horizon live =
    let blank : image (reserve_at u) ≡ None = horizon.free (omega (arith, past, live.slot)) in
    ⊎_elim
    (λ (below : u < slot).
    let taken = live.taken u below in none-some taken.found (sym blank ∙ taken.stands))
    (λ (le : slot ≤ u).
    let reserve = live.done.done.commits.reserves.reserve in
    none-some reserve.cell (sym blank ∙ ap (λ n. image (reserve_at n)) (omega (arith, past, le)) ∙ reserve.stands))
    (cases_lt u slot)

abandon_commit : (bytes journal : ℕ) → Abandon ≡ Commit bytes journal → ⊥
abandon_commit bytes journal e = cc

-- a slot that was seen in another state is not done, where what was seen blank is so still
not_done : (g : Layout) (before after : Image) (n : ℕ) (state : SlotState) → IsUnchanged before after
    → part_of n state ≡ None → IsState g before after n state → IsDoneSlot g after n → ⊥
not_done g before after n Unused same other is done =
    let held = done.done.commits.reserves.reserve in
    none-some held.cell (sym is.reserve ∙ sym (same (reserve_at n)) ∙ held.stands)
not_done g before after n (Reserved start length) same other is done =
    let held = done.done.commits.outcome in
    none-some held.cell (sym is.outcome ∙ sym (same (outcome_at n)) ∙ held.stands)
not_done g before after n (Abandoned start length) same other is done =
    abandon_commit done.bytes done.journal
    (one_record_holds after (outcome_at n) Abandon (Commit done.bytes done.journal) is.abandons.outcome
    done.done.commits.outcome)
not_done g before after n (Committed start length bytes journal) same other is done =
    let held = done.done.done in
    none-some held.cell (sym is.done ∙ sym (same (done_at n)) ∙ held.stands)
not_done g before after n (Done start length bytes journal) same other is done = none-some _ (sym other)

pub false_never : false ≡ true → ⊥
false_never e = cc

-- a slot at or past the horizon, or one that the volume does not have
pub live_not : (r : Reach) (slot : ℕ) (s : ViewState) → min r.horizon r.volume.geometry.slots ≤ slot
    → LooksLive r slot s s (Ok None)
live_not r slot s past = record {
  viewed = viewed_self s;
  ends = λ tells still horizon live.
      past_horizon r.volume.geometry s.image r.horizon slot (omega (arith, past, live.slot)) horizon live;
}

-- a slot in another state than done
live_none : (r : Reach) (slot : ℕ) (old new : ViewState) (state : SlotState) → Viewed old new
    → StateEnds r.volume.geometry slot old new (Ok state) → part_of slot state ≡ None → LooksLive r slot old new (Ok None)
live_none r slot old new state viewed ends none = record {
  viewed = viewed;
  ends = λ tells still horizon live.
      not_done r.volume.geometry old.image new.image slot state ((rests_of viewed).shown still) none (ends.2 tells)
      live.done;
}

-- a slot before it, by its state
pub live_state : (r : Reach) (slot : ℕ) (old new : ViewState) (state : SlotState)
    → slot < min r.horizon r.volume.geometry.slots → Viewed old new
    → StateEnds r.volume.geometry slot old new (Ok state) → LooksLive r slot old new (Ok (part_of slot state))
live_state r slot old new Unused before viewed ends = live_none r slot old new Unused viewed ends refl
live_state r slot old new (Reserved start length) before viewed ends =
    live_none r slot old new (Reserved start length) viewed ends refl
live_state r slot old new (Abandoned start length) before viewed ends =
    live_none r slot old new (Abandoned start length) viewed ends refl
live_state r slot old new (Committed start length bytes journal) before viewed ends =
    live_none r slot old new (Committed start length bytes journal) viewed ends refl
live_state r slot old new (Done start length bytes journal) before viewed ends = record {
  viewed = viewed;
  ends = (
    omega (arith, before),
    omega (arith, before),
    λ tells. record { start = start; length = length; bytes = bytes; journal = journal; done = ends.2 tells },
    refl,
    record {
      slot = omega (arith, before);
      inside = omega (arith, ends.0.0.2, ends.0.1.3);
      stated = search rules;
      is = λ tells.
          record { first = start; reserved = length; done = ends.2 (told_before viewed tells); start_is = refl };
    },
  );
}

-- cells that are no state break a rule of such cells
pub state_rule : {g : Layout} {before after : Image} {n rule cell : ℕ} → IsNoState g before after n rule cell
    → IsListRule rule
state_rule (reserves_none r c none) = inl r
state_rule (ends_unreserved r c none) = inr (inl r)
state_rule (ends_wrongly start length r c reserves no_abandon no_commit) = inr (inl r)
state_rule (ends_unstamped start length bytes journal r c reserves commit fits stamped lacks) = inr (inl r)
state_rule (done_unreserved r c none blank) = inr (inr (inl r))
state_rule (done_unended start length r c reserves none) = inr (inr (inl r))
state_rule (done_abandoned start length r c abandons) = inr (inr (inl r))
state_rule (done_wrongly start length bytes journal r c commits no_done) = inr (inr (inl r))

-- a fault of the look at its cells
pub live_fault : (r : Reach) (slot : ℕ) (old new : ViewState) (fault : Fault) → Viewed old new
    → StateEnds r.volume.geometry slot old new (Err fault) → LooksLive r slot old new (Err fault)
live_fault r slot old new Failed viewed ends = record { viewed = viewed; ends = ends }
live_fault r slot old new (Tampered e) viewed ends = record {
  viewed = viewed;
  ends = (
    λ tells. record {
      rule = state_rule (ends.2 (told_before viewed tells)).seen;
      stands = (ends.2 (told_before viewed tells)).shown.stands;
      place = λ pool. ends.0;
    },
    λ still tells.
        let shown = (ends.2 (told_before viewed tells)).shown in
        record { stands = shown.stands; broken = λ volume reach. shown.broken still volume },
  );
}

-- an entry stays where it is
pub entry_on : {bounds : Bounds} {old new : Image} {head : ℕ} {e : Entry} → Extends old new
    → IsEntryBehind bounds old head e → IsEntryBehind bounds new head e
entry_on x behind = record {
  leads = leads_on x behind.leads;
  place = behind.place;
  in_front = front_on x behind.in_front;
}

-- A posting of a list is named that is none of a live slot's document.
module _ (r : Reach) (list : ℕ) (e : Entry) (less : list < all_lists r.volume.geometry) where
  not_met : (image : Image) → r.bounds.pool ≡ pool_at r.volume.geometry
      → IsEntryBehind (within r) image (head_of r list) e
      → (IsTruePosting r.volume.geometry image list (posting_of e) → ⊥)
      → ((l block place : ℕ) (p : PostingFields) → IsBlockOf r.volume.geometry image l block → place < 128
      → cell_of e ≡ block + place → Holds image (cell_of e) (posting_record p)
      → IsTruePosting r.volume.geometry image l p) → ⊥
  not_met image pool behind untrue met =
      let block : IsBlockOf r.volume.geometry image list e.block = record {
        list = less;
        leads = leads_wider (pool_at r.volume.geometry) r.volume.geometry.cells (omega (arith, pool)) (omega arith)
            behind.leads;
      } in
      untrue (met list e.block e.place (posting_of e) block behind.place refl (front_holds behind.in_front))

  module _ (old mid new : ViewState) (first : Viewed old mid) (second : Viewed mid new)
      (behind : IsTrue old.base.tells → IsEntryBehind (within r) mid.image (head_of r list) e)
      (untrue : IsStill mid.base.foreign_writes new.base.foreign_writes → IsTrue new.base.tells
      → IsHorizon r.volume.geometry new.image new.image r.horizon
      → IsTruePosting r.volume.geometry new.image list (posting_of e) → ⊥) where
    pub false_named : (fault : Fault) → IsFalsePosting e fault → FaultSays r old new fault
    false_named Failed names = absurd names
    false_named (Tampered f) names = (
      λ tells. record {
        rule = inr (inr (inr (inl names.0)));
        stands = stands tells;
        place = λ pool. (Postings, names.0, place tells pool);
      },
      λ still tells. record { stands = stands tells; broken = broken still tells },
    ) where
      there : IsTrue new.base.tells → IsEntryBehind (within r) new.image (head_of r list) e
      there tells = entry_on second.image (behind (told_before first (told_before second tells)))

      stands : IsTrue new.base.tells → new.image f.cell ≡ Some f.found
      stands tells =
          let holds = front_holds (there tells).in_front in
          ap new.image names.1 ∙ holds.stands ∙ ap (λ (c : List ℕ). Some c) (holds.is.same ∙ sym names.2)

      place : (tells : IsTrue new.base.tells) → (pool : r.bounds.pool ≡ pool_at r.volume.geometry)
          → IsPlace r.volume.geometry Postings f.cell
      place tells pool = in_place r.volume.geometry new.image list r.bounds.pool (within r).edge (head_of r list)
          e.block e.place f.cell less refl pool (omega arith) (there tells).leads (omega (arith, (there tells).place))
          names.1

      broken : IsStill old.base.foreign_writes new.base.foreign_writes → IsTrue new.base.tells
          → IsVolume new.cells new.image r.volume.geometry → IsReachOf r new.image
          → IsBroken new.cells new.image f.rule f.cell
      broken still tells volume reach = record {
        layout = r.volume.geometry;
        volume = volume;
        rule = Postings;
        named = names.0;
        place = place tells reach.pool;
        written = record { found = f.found; stands = stands tells };
        not_met = λ met. not_met new.image reach.pool (there tells)
            (untrue (still_second first.called.foreign_writes second.called.foreign_writes still) tells reach.horizon)
            (λ l block at p of less_place cell holds. met l block at p of less_place (names.1 ∙ cell)
            (subst (λ n. Holds new.image n (posting_record p)) (sym names.1) holds));
      }

-- so is a posting of a word whose slot was seen not to be live
pub false_posting : (r : Reach) (list : ℕ) (e : Entry) (old mid new : ViewState) (fault : Fault)
    → list < r.volume.geometry.lists → Viewed old mid
    → (IsTrue old.base.tells → IsEntryBehind (within r) mid.image (head_of r list) e)
    → LooksLive r (e.key / 256) mid new (Ok None) → IsFalsePosting e fault → FaultSays r old new fault
false_posting r list e old mid new fault less viewed behind dead names =
    false_named r list e (omega (arith, less)) old mid new viewed dead.viewed behind
    (λ still tells horizon t.
    let slot = word_slot r.volume.geometry t.body t.slot list (posting_of e) t.postings
    (of_word r.volume.geometry t.stamp t.body t.slot list (posting_of e) less t.is) in
    dead.ends (told_before dead.viewed tells) still horizon
    (subst (λ (n : ℕ). IsLive r.volume.geometry new.image n) (sym slot) t.live))
    fault names
