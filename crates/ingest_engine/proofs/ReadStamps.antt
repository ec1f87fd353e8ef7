-- The stamps of the done slots, read one after another, and what that says of a device.
use Rattle.std.proofs.Common.{◌≡◌, ◌<◌, ◌≤◌, ◌+◌, ◌⊎◌, ⊎_elim, inl, inr, ℕ, Option, None, Some, Result, Ok, Err, refl, ap, sym, subst, arith, ◌∙◌}
use Rattle.std.specs.Prelude.{IsTrue, List, length}
use Rattle.std.proofs.lemmas.Bool.{cases_lt}
use Rattle.cell_types.specs.Image.{Image}
use Rattle.cell_types.specs.Layout.{Layout, done_at}
use Rattle.cell_types.specs.declared.refusal.Evidence.{Evidence}
use Rattle.cell_types.specs.declared.refusal.Fault.{Fault}
use Rattle.cell_types.specs.declared.refusal.Fault.TheVariants as faults
use Rattle.cell_types.specs.declared.refusal.Refusal.{Refusal}
use Rattle.cell_types.specs.declared.refusal.Refusal.TheVariants.{StampTooEarly}
use Rattle.cell_types.specs.Refusals.{refusal_of_fault}
use Rattle.volume_meaning.specs.Slots.{HasStamp, IsDoneSlot}
use Rattle.volume_meaning.proofs.Extending.{done_slot_on, holds_on}
use Rattle.worm_device.specs.State.{DeviceState}
use Rattle.worm_device.specs.Views.{Viewed, ViewState, seen_directly}
use Rattle.worm_device.proofs.Counting.{still_second}
use Rattle.worm_device.proofs.Elapsing.{called_self}
use Rattle.worm_device.proofs.Resting.{rests_of, viewed_self, viewed_then}
use Rattle.commit_record.proofs.Breaking.{no_holds}
use Rattle.commit_record.proofs.RowStates.{row_stamp, row_stamp_was, row_state, row_tampered}
use Rattle.commit_record.specs.SlotCells.{ReadsSlots, SlotOfRow, StampOfRow}
use Rattle.commit_record.specs.States.{IsState, StateEnds}
use Rattle.commit_record.specs.declared.slot.SlotState.{SlotState}
use Rattle.commit_record.specs.declared.slot.SlotState.TheVariants.{Abandoned, Committed, Done, Reserved, Unused}
use Rattle.document_store.specs.Looks.{of_state}
use Rattle.identifier_lookup.specs.Walks.{WalkFails}
use Rattle.identifier_lookup.proofs.Licence.{names_licensed, slot_cell, state_rule}
use Rattle.recovery_engine.specs.declared.settling.Ready.{Ready}
use Rattle.ingest_engine.specs.Indexing.{LooksPast, PastEnds, ReadsOnDevice}
use Rattle.ingest_engine.specs.Stamps.{AddsStamps, AreUpTo, IsOneBelow, IsStampUpTo, NamesSlot, PastLast, ReadsStamps, GreatestStampEnds, StampsSoFar}

-- what is up to one is up to another that this one is up to
up_to_then : (first mid last : Option ℕ) → IsStampUpTo first mid → IsStampUpTo mid last → IsStampUpTo first last
up_to_then None mid last p q = tt
up_to_then (Some a) None last p q = absurd p
up_to_then (Some a) (Some b) None p q = absurd q
up_to_then (Some a) (Some b) (Some c) p q = omega (arith, p, q)

-- one that was below stays so
one_on : (g : Layout) (n : ℕ) (last : Option ℕ) {old new : ViewState} → Viewed old new → IsOneBelow g old.image n last
    → IsOneBelow g new.image n last
one_on g n None viewed is = tt
one_on g n (Some seconds) viewed is = record {
  slot = is.slot;
  below = is.below;
  done = done_slot_on viewed.image viewed.image is.done;
  stamp = holds_on viewed.image is.stamp;
}

-- what keeps a later look from an answer keeps an earlier row of looks from it, if none of them failed
fails_since : (g : Layout) {old mid new : ViewState} → Viewed old mid → Viewed mid new
    → mid.base.faults ≡ old.base.faults → (fault : Fault)
    → ((horizon edge : ℕ) → WalkFails g horizon edge mid new fault)
    → (horizon edge : ℕ) → WalkFails g horizon edge old new fault
fails_since g first second same faults.Failed fails horizon edge = omega (arith, fails horizon edge, same)
fails_since g first second same (faults.Tampered e) fails horizon edge =
    let h = fails horizon edge in (
      h.0,
      h.1 ∙ same,
      λ tells. let seen = h.2 (subst IsTrue (sym first.called.tells) tells) in record {
        rule = seen.rule;
        stands = seen.stands;
        broken = λ still.
            seen.broken (still_second first.called.foreign_writes second.called.foreign_writes still);
      },
    )

-- and it names a cell by the same rules
names_since : (n : ℕ) {old mid : ViewState} → Viewed old mid → (fault : Fault) → NamesSlot n mid fault
    → NamesSlot n old fault
names_since n first faults.Failed names = tt
names_since n first (faults.Tampered e) names = λ tells. names (subst IsTrue (sym first.called.tells) tells)

-- evidence of a slot's cells is one of them, by its rule
names_slot : (g : Layout) (n : ℕ) (old new : ViewState) (e : Evidence) → StateEnds g n old new (Err (faults.Tampered e))
    → NamesSlot (n + 1) old (faults.Tampered e)
names_slot g n old new e ends = λ tells. record {
  slot = n;
  below = omega arith;
  rule = state_rule (ends.2 tells).seen;
  cell = slot_cell (of_state (ends.2 tells));
}

-- what is named of slots below one is of slots below a later one
pub names_further : {n more : ℕ} (old : ViewState) → n ≤ more → (fault : Fault) → NamesSlot n old fault
    → NamesSlot more old fault
names_further old less faults.Failed names = tt
names_further old less (faults.Tampered e) names = λ tells.
    let is = names tells in
    record { slot = is.slot; below = omega (arith, is.below, less); rule = is.rule; cell = is.cell }

-- a slot in another state is not done
undone : (g : Layout) (n : ℕ) (before after : Image) (state : SlotState) → IsState g before after n state
    → ((start length bytes journal : ℕ) → state ≡ Done start length bytes journal → ⊥) → IsDoneSlot g before n → ⊥
undone g n before after Unused is other was = no_holds before (done_at n) _ is.done was.done.done
undone g n before after (Reserved start length) is other was = no_holds before (done_at n) _ is.done was.done.done
undone g n before after (Abandoned start length) is other was = no_holds before (done_at n) _ is.done was.done.done
undone g n before after (Committed start length bytes journal) is other was =
    no_holds before (done_at n) _ is.done was.done.done
undone g n before after (Done start length bytes journal) is other was = other start length bytes journal refl

up_to_self : (one : Option ℕ) → IsStampUpTo one one
up_to_self None = tt
up_to_self (Some s) = omega arith

-- the stamps of some slots between two states of the view
module _ (g : Layout) (greatest : Option ℕ) {old new : ViewState} (viewed : Viewed old new)
    (faults : new.base.faults ≡ old.base.faults) where
  -- of none
  pub adds_none : (n : ℕ) → AddsStamps g n n greatest old new (Ok greatest)
  adds_none n = record {
    viewed = viewed;
    ends = (
      faults,
      up_to_self greatest,
      λ tells. (λ m seconds from below done stamp. absurd (omega (arith, from, below)), inl refl),
    );
  }

  -- of one that was not done
  pub not_done : (n : ℕ) → (IsTrue old.base.tells → IsDoneSlot g old.image n → ⊥)
      → AddsStamps g n (n + 1) greatest old new (Ok greatest)
  not_done n undone = record {
    viewed = viewed;
    ends = (
      faults,
      up_to_self greatest,
      λ tells. (
        λ m seconds from below done stamp.
            absurd (undone tells (subst (λ (k : ℕ). IsDoneSlot g old.image k) (one_slot m from below) done)),
        inl refl,
      ),
    );
  }
    where
      one_slot : (m : ℕ) → n ≤ m → m < n + 1 → m ≡ n
      one_slot m from below = omega (arith, from, below)

  -- of one that was
  module _ (n : ℕ) (stamp last : Option ℕ) (up : IsStampUpTo greatest last) (up' : IsStampUpTo stamp last)
      (either : (last ≡ greatest) ⊎ (last ≡ stamp)) where
    pub is_done : (IsTrue old.base.tells → IsDoneSlot g new.image n)
        → (IsTrue old.base.tells → (seconds : ℕ) → HasStamp old.image n seconds → stamp ≡ Some seconds)
        → (IsTrue old.base.tells → (seconds : ℕ) → stamp ≡ Some seconds → HasStamp new.image n seconds)
        → AddsStamps g n (n + 1) greatest old new (Ok last)
    is_done done told stands = record {
      viewed = viewed;
      ends = (
        faults,
        up,
        λ tells. (
          λ m seconds from below was has.
              let same : m ≡ n = omega (arith, from, below) in
              let here : HasStamp old.image n seconds = subst (λ (k : ℕ). HasStamp old.image k seconds) same has in
              subst (λ (s : Option ℕ). IsStampUpTo s last) (told tells seconds here) up',
          ⊎_elim inl (λ (other : last ≡ stamp). one tells last stamp other refl refl) either,
        ),
      );
    }
      where
        one : IsTrue old.base.tells → (l s : Option ℕ) → l ≡ s → l ≡ last → s ≡ stamp
            → (last ≡ greatest) ⊎ IsOneBelow g new.image (n + 1) last
        one tells l None same is_last is_stamp =
            inr (subst (λ (o : Option ℕ). IsOneBelow g new.image (n + 1) o) (sym same ∙ is_last) tt)
        one tells l (Some seconds) same is_last is_stamp =
            inr (subst (λ (o : Option ℕ). IsOneBelow g new.image (n + 1) o) (sym same ∙ is_last) (record {
              slot = n;
              below = omega arith;
              done = done tells;
              stamp = stands tells seconds (sym is_stamp);
            }))

-- one that is below stays below
below_on : (g : Layout) (image : Image) {n more : ℕ} (last : Option ℕ) → IsOneBelow g image n last → n ≤ more
    → IsOneBelow g image more last
below_on g image None there before = tt
below_on g image (Some seconds) there before = record {
  slot = there.slot;
  below = omega (arith, there.below, before);
  done = there.done;
  stamp = there.stamp;
}

-- and further ones before them
pub adds_more : (g : Layout) (slot n : ℕ) (greatest later last : Option ℕ) {old new : ViewState} → slot + 1 ≤ n
    → AddsStamps g (slot + 1) n greatest old new (Ok later) → AddsStamps g slot (slot + 1) later old new (Ok last)
    → AddsStamps g slot n greatest old new (Ok last)
adds_more g slot n greatest later last {old} {new} before behind one = record {
  viewed = one.viewed;
  ends = (
    one.ends.0,
    up_to_then greatest later last behind.ends.1 one.ends.1,
    λ tells. (
      λ m seconds from below done has. ⊎_elim
          (λ (same : m < slot + 1). (one.ends.2 tells).0 m seconds from same done has)
          (λ (past : slot + 1 ≤ m).
          up_to_then (Some seconds) later last ((behind.ends.2 tells).0 m seconds past below done has) one.ends.1)
          (cases_lt m (slot + 1)),
      ⊎_elim
          (λ (same : last ≡ later).
          ⊎_elim (λ (older : later ≡ greatest). inl (same ∙ older))
          (λ (there : IsOneBelow g new.image n later).
          inr (subst (λ (o : Option ℕ). IsOneBelow g new.image n o) (sym same) there))
          (behind.ends.2 tells).1)
          (λ (there : IsOneBelow g new.image (slot + 1) last). inr (below_on g new.image last there before))
          (one.ends.2 tells).1,
    ),
  );
}

-- a slot whose cells were read in a row
module _ (g : Layout) (n : ℕ) (row : List (Option (List ℕ))) (greatest : Option ℕ) (less : n < g.slots)
    (four : 4 ≤ length row) (old new : ViewState) (reads : ReadsSlots n row old new) where
  -- they are no state
  pub slot_tampered : (e : Evidence) → SlotOfRow g n row (Err e)
      → AddsStamps g n (n + 1) greatest old new (Err (faults.Tampered e))
  slot_tampered e is =
      let ends = row_tampered g n row reads four less e is in
      record {
        viewed = reads.viewed;
        ends = (
          names_slot g n old new e ends,
          λ horizon edge. (
            ends.0,
            ends.1,
            λ tells. names_licensed g horizon edge n old new e reads.viewed (of_state (ends.2 tells)),
          ),
        );
      }

  -- the state is another
  pub slot_undone : (state : SlotState) → SlotOfRow g n row (Ok state)
      → ((start length bytes journal : ℕ) → state ≡ Done start length bytes journal → ⊥)
      → AddsStamps g n (n + 1) greatest old new (Ok greatest)
  slot_undone state is other =
      let ends = row_state g n row reads four state is in
      not_done g greatest reads.viewed reads.faults n
      (λ tells. undone g n old.image new.image state (ends.2 tells) other)

  -- it is done
  pub slot_done : (start length bytes journal : ℕ) → SlotOfRow g n row (Ok (Done start length bytes journal))
      → (stamp last : Option ℕ) → StampOfRow n row stamp → IsStampUpTo greatest last → IsStampUpTo stamp last
      → (last ≡ greatest) ⊎ (last ≡ stamp) → AddsStamps g n (n + 1) greatest old new (Ok last)
  slot_done start length bytes journal is stamp last of up up' either =
      let ends = row_state g n row reads four (Done start length bytes journal) is in
      is_done g greatest reads.viewed reads.faults n stamp last up up' either
      (λ tells. record { start = start; length = length; bytes = bytes; journal = journal; done = ends.2 tells })
      (row_stamp_was g n row reads four stamp of) (row_stamp g n row reads four stamp of)

module _ (g : Layout) (n : ℕ) where
  -- none was read yet
  pub none_read : (s : ViewState) (from : ℕ) → n ≤ from → StampsSoFar g from n None s s
  none_read s from all = record {
    viewed = viewed_self s;
    faults = refl;
    most = λ tells m seconds past below done has. absurd (omega (arith, all, past, below));
    one = λ tells. tt;
  }

  module _ {from first : ℕ} {greatest : Option ℕ} {old now : ViewState} (so : StampsSoFar g from n greatest old now)
      (inside : from ≤ n) {next : ViewState} where
    pub some_more : (last : Option ℕ) → AddsStamps g first from greatest now next (Ok last)
        → StampsSoFar g first n last old next
    some_more last adds = record {
      viewed = viewed_then so.viewed adds.viewed;
      faults = adds.ends.0 ∙ so.faults;
      most = λ tells m seconds past below done has. ⊎_elim
          (λ (same : m < from).
          (adds.ends.2 (told tells)).0 m seconds past same (done_slot_on so.viewed.image so.viewed.image done)
          (holds_on so.viewed.image has))
          (λ (later : from ≤ m).
          up_to_then (Some seconds) greatest last (so.most tells m seconds later below done has) adds.ends.1)
          (cases_lt m from);
      one = λ tells. ⊎_elim
          (λ (same : last ≡ greatest).
          subst (λ (l : Option ℕ). IsOneBelow g next.image n l) (sym same)
          (one_on g n greatest adds.viewed (so.one tells)))
          (λ (there : IsOneBelow g next.image from last). below_on g next.image last there inside)
          (adds.ends.2 (told tells)).1;
    }
      where
        told : IsTrue old.base.tells → IsTrue now.base.tells
        told tells = subst IsTrue (sym so.viewed.called.tells) tells

    pub stopped : (fault : Fault) → AddsStamps g first from greatest now next (Err fault)
        → ReadsStamps g n old next (Err fault)
    stopped fault adds = record {
      viewed = viewed_then so.viewed adds.viewed;
      ends = (
        names_since n so.viewed fault (names_further now inside fault adds.ends.0),
        fails_since g so.viewed adds.viewed so.faults fault adds.ends.1,
      );
    }

  pub all_read : {from : ℕ} {greatest : Option ℕ} {old now : ViewState} → StampsSoFar g from n greatest old now
      → from ≡ 0 → ReadsStamps g n old now (Ok greatest)
  all_read {greatest = greatest} {old = old} so none = record {
    viewed = so.viewed;
    ends = (
      so.faults,
      λ tells. (subst (λ (k : ℕ). AreUpTo g old.image k n greatest) none (so.most tells), so.one tells),
    );
  }

-- stamps that were read over a loan of the device are those of the device
pub device_reads : (r : Ready) {entry new : DeviceState} {lent back : ℕ}
    → Viewed (seen_directly entry lent) (seen_directly new back) → (result : Result (Option ℕ) Fault)
    → GreatestStampEnds r.volume.geometry r.horizon (seen_directly entry lent) (seen_directly new back) result
    → ReadsOnDevice r entry new result
device_reads r {entry} {new} {lent} {back} viewed result ends = record {
  called = viewed.called;
  quiet = (rests_of viewed).shown;
  ends = by_any result ends;
}
  where
    by_any : (result : Result (Option ℕ) Fault)
        → GreatestStampEnds r.volume.geometry r.horizon (seen_directly entry lent) (seen_directly new back) result
        → GreatestStampEnds r.volume.geometry r.horizon (seen_directly entry 0) (seen_directly new 0) result
    by_any (Ok last) h = h
    by_any (Err faults.Failed) h = h
    by_any (Err (faults.Tampered e)) h = (
      h.0,
      λ horizon edge.
          let fails = h.1 horizon edge in (
            fails.0,
            fails.1,
            λ tells. let seen = fails.2 tells in
                record { rule = seen.rule; stands = seen.stands; broken = seen.broken },
          ),
    )

-- no stamp is given, and nothing is read
pub none_given : (r : Ready) (entry : DeviceState) → LooksPast r None entry entry (Ok tt)
none_given r entry = record {
  called = called_self entry;
  quiet = λ still cell. refl;
  ends = (refl, λ tells. tt);
}

-- the stamps could not be read
pub not_read : (r : Ready) (given : ℕ) {entry new : DeviceState} (fault : Fault) → ReadsOnDevice r entry new (Err fault)
    → LooksPast r (Some given) entry new (Err (refusal_of_fault fault))
not_read r given faults.Failed reads = record {
  called = reads.called;
  quiet = reads.quiet;
  ends = reads.ends.1 r.horizon r.edge;
}
not_read r given (faults.Tampered e) reads = record {
  called = reads.called;
  quiet = reads.quiet;
  ends = (
    record { seconds = given; is = refl },
    λ tells.
        let fails = reads.ends.1 r.horizon r.edge in
        let seen = fails.2 tells in
        record { rule = reads.ends.0 tells; stands = seen.stands; place = fails.0; broken = seen.broken },
  );
}

-- and where they were, the stamp is past them or is not
pub compared : (r : Ready) (given : ℕ) (last : Option ℕ) {entry new : DeviceState} (result : Result Unit Refusal)
    → ReadsOnDevice r entry new (Ok last) → PastLast given last result → LooksPast r (Some given) entry new result
compared r given last {entry} {new} result reads past = record {
  called = reads.called;
  quiet = reads.quiet;
  ends = why result past;
}
  where
    below_given : (before : ℕ) (last : Option ℕ) → IsStampUpTo (Some before) last
        → ((seconds : ℕ) → last ≡ Some seconds → seconds < given) → before < given
    below_given before None up past = absurd up
    below_given before (Some seconds) up past = omega (arith, up, past seconds refl)

    why : (result : Result Unit Refusal) → PastLast given last result → PastEnds r (Some given) entry new result
    why (Ok u) past = (
      reads.ends.0,
      λ tells m before below done has.
          below_given before last ((reads.ends.1 tells).0 m before (omega arith) below done has) past,
    )
    why (Err (StampTooEarly early other)) is = record {
      given_is = ap Some (sym is.0);
      early = omega (arith, is.0, is.2);
      stands = λ tells. subst (λ (l : Option ℕ). IsOneBelow r.volume.geometry new.image r.horizon l) is.1
          (reads.ends.1 tells).1;
      most = λ tells. subst (λ (l : Option ℕ). AreUpTo r.volume.geometry entry.image 0 r.horizon l) is.1
          (reads.ends.1 tells).0;
    }
    why (Err refusal) is = absurd is
