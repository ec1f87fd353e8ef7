-- Where a search for the next slot lands.
use Rattle.std.proofs.Common.{◌≡◌, ◌<◌, ◌*◌, ◌/◌, ◌^◌, ℕ, Bool, IsTrue, zero, suc, List, [], ◌∷◌, slice_set, Option, Some, None, Ok, Err, refl, subst, sym, arith}
use Rattle.std.specs.Prelude.{is_some, slice_get}
use Rattle.cell_types.specs.declared.refusal.Fault.{Fault}
use Rattle.worm_device.specs.Views.{ViewState, Viewed}
use Rattle.worm_device.proofs.Resting.{viewed_self, viewed_then}
use Rattle.jump_block.specs.declared.held_entry.Entry.{Entry}
use Rattle.jump_index.specs.declared.kept_search.KeptSearch.{KeptSearch}
use Rattle.jump_index.specs.Searches.{FindsGeq, IsEntryBehind}
use Rattle.jump_index.proofs.Telling.{told_before}
use Rattle.jump_index.proofs.Ways.{search_on}
use Rattle.jump_block.proofs.OneBlock.{leads_wider}
use Rattle.jump_block.specs.Entries.{posting_of}
use Rattle.document_store.specs.declared.part.Part.{Part}
use Rattle.volume_meaning.specs.Slots.{IsDoneSlot}
use Rattle.volume_meaning.proofs.Fronts.{front_holds}
use Rattle.volume_meaning.proofs.Extending.{holds_on}
use Rattle.posting_list.specs.Keeping.{KeepEach, KeepsSearch}
use Rattle.posting_list.specs.Owing.{IsLiveSlot, IsVouched}
use Rattle.posting_list.specs.Searches.{ConfirmsSlot, FindsPosting, HasPostingPart, HasSlot, IsFalsePosting, IsLandedPart, IsLookedAt, IsWordEntry, LooksLive, NextSlot, head_of, within}
use Rattle.posting_list.specs.declared.reach.Reach.{Reach}
use Rattle.posting_list.specs.declared.sought_term.SoughtTerm.{SoughtTerm}
use Rattle.posting_list.proofs.Evidence.{false_never, false_posting, find_fault, says_later}
use Rattle.posting_list.proofs.Owed.{leads_on, owed_trail}

-- what is kept of a list stands on
pub keeps_on : (kept : KeptSearch) (s t : ViewState) → Viewed s t → KeepsSearch s kept → KeepsSearch t kept
keeps_on kept s t viewed keeps = λ tells. search_on viewed.image (keeps (told_before viewed tells))

-- where one of some is put anew, each is as it was or this one
each_set : {P : KeptSearch → Type 0} (all : List KeptSearch) (k : ℕ) (now : KeptSearch)
    → ((i : ℕ) (f : KeptSearch) → slice_get all i ≡ Some f → P f) → P now
    → (i : ℕ) (f : KeptSearch) → slice_get (slice_set all k now) i ≡ Some f → P f
each_set [] k now was is i f e = absurd (none_some f e) where
  none_some : (f : KeptSearch) → None ≡ Some f → ⊥
  none_some f e = cc
each_set {P} (x ∷ xs) zero now was is zero f e = subst P (some_search now f e) is where
  some_search : (a b : KeptSearch) → Some a ≡ Some b → a ≡ b
  some_search a b e = cc
each_set (x ∷ xs) zero now was is (suc i) f e = was (suc i) f e
each_set (x ∷ xs) (suc k) now was is zero f e = was zero f e
each_set {P} (x ∷ xs) (suc k) now was is (suc i) f e =
    each_set {P = P} xs k now (λ j. was (suc j)) is i f e

-- so what each of them keeps stands on
pub keep_each_on : (all : List KeptSearch) (k : ℕ) (now : KeptSearch) (s t : ViewState) → Viewed s t → KeepEach s all
    → KeepsSearch t now → KeepEach t (slice_set all k now)
keep_each_on all k now s t viewed each is = each_set {P = KeepsSearch t} all k now
    (λ i f e. keeps_on f s t viewed (each i f e)) is

-- a live slot's part
pub part_some : (r : Reach) (e : Entry) (old new : ViewState) (part : Part)
    → LooksLive r (e.key / 256) old new (Ok (Some part)) → HasPostingPart r e old new (Ok part)
part_some r e old new part live = record {
  viewed = live.viewed;
  ends = (
    live.ends.3,
    (
      omega (arith, live.ends.0, live.ends.3),
      omega (arith, live.ends.1, live.ends.3),
      λ tells. subst (λ (n : ℕ). IsDoneSlot r.volume.geometry new.image n) (sym live.ends.3)
          (live.ends.2 (told_before live.viewed tells)),
    ),
    live.ends.4,
  );
}

-- or its slot is not live
pub part_none : (r : Reach) (e : Entry) (old new : ViewState) (fault : Fault) → IsWordEntry r old e
    → LooksLive r (e.key / 256) old new (Ok None) → IsFalsePosting e fault → HasPostingPart r e old new (Err fault)
part_none r e old new fault stands dead names = record {
  viewed = dead.viewed;
  ends = false_posting r stands.list e old old new fault stands.words (viewed_self old) stands.behind dead names;
}

pub part_fault : (r : Reach) (e : Entry) (old new : ViewState) (fault : Fault)
    → LooksLive r (e.key / 256) old new (Err fault) → HasPostingPart r e old new (Err fault)
part_fault r e old new fault live = record { viewed = live.viewed; ends = live.ends }

-- so the slot was looked at
looked_at : (r : Reach) (e : Entry) (old new : ViewState) (part : Part) → HasPostingPart r e old new (Ok part)
    → IsLookedAt r new (e.key / 256) part
looked_at r e old new part has = record {
  same = has.ends.0;
  live = subst (λ (n : ℕ). IsLiveSlot r new n) has.ends.0 has.ends.1;
  has = has.ends.2;
}

-- an entry with the term's tag vouches for its slot, also after a row of calls
pub entry_vouches : (r : Reach) (term : SoughtTerm) (e : Entry) (mid new : ViewState) → Viewed mid new
    → e.tag ≡ term.tag → IsEntryBehind (within r) mid.image (head_of r term.list) e
    → IsVouched r term new.image (e.key / 256)
entry_vouches r term e mid new viewed same behind = record {
  block = e.block;
  place = e.place;
  p = posting_of e;
  leads = leads_on viewed.image
      (leads_wider r.bounds.pool r.bounds.edge (omega arith) (omega arith) behind.leads);
  in_places = behind.place;
  holds = holds_on viewed.image (front_holds behind.in_front);
  same_tag = same;
  same_slot = refl;
}

module _ (r : Reach) (term : SoughtTerm) (from : ℕ) (always : Bool) (old mid new : ViewState)
    (less : term.list < r.volume.geometry.lists) where
  pub next_fault : (fault : Fault) → FindsGeq (within r) (head_of r term.list) (256 * from) old new (Err fault)
      → NextSlot r term from always old new (Err fault)
  next_fault fault found = record {
    viewed = found.viewed;
    ends = find_fault r term.list (256 * from) old new fault (omega (arith, less)) found;
  }

  pub next_none : FindsGeq (within r) (head_of r term.list) (256 * from) old new (Ok None)
      → NextSlot r term from always old new (Ok None)
  next_none found = record {
    viewed = found.viewed;
    ends = λ slot owed past.
        let t = owed_trail r term old slot owed in
        found.ends owed.tells t.at t.p t.trail (omega (arith, t.from, past));
  }

  module _ (e : Entry) (found : FindsGeq (within r) (head_of r term.list) (256 * from) old mid (Ok (Some e))) where
    pub found_stands : IsWordEntry r mid e
    found_stands = record {
      list = term.list;
      words = less;
      behind = λ tells. (found.ends.2 (told_before found.viewed tells)).0;
    }

    -- the list comes to its slot, and looks at it or not
    pub next_some : (part : Option Part) (vouched : Bool) → Viewed mid new → (IsTrue vouched → e.tag ≡ term.tag)
        → e.key < 2 ^ 32 → IsLandedPart r always new (e.key / 256) vouched part
        → NextSlot r term from always old new
        (Ok (Some (record { slot = e.key / 256; vouched = vouched; part = part })))
    next_some part vouched viewed same_tag fits looked = record {
      viewed = viewed_then found.viewed viewed;
      ends = (
        omega (arith, found.ends.0),
        omega (arith, fits),
        λ slot owed past.
            let t = owed_trail r term old slot owed in
            let first = ((found.ends.2 owed.tells).1 t.at t.p t.trail (omega (arith, t.from, past))).0 in
            omega (arith, first, t.below),
        λ tells.
            let behind = (found.ends.2 tells).0 in
            record {
              block = e.block;
              place = e.place;
              p = posting_of e;
              leads = leads_on viewed.image
                  (leads_wider r.bounds.pool r.bounds.edge (omega arith) (omega arith) behind.leads);
              in_places = behind.place;
              holds = holds_on viewed.image (front_holds behind.in_front);
              same_slot = refl;
            },
        λ yes tells. entry_vouches r term e mid new viewed (same_tag yes) (found.ends.2 tells).0,
        looked,
      );
    }

    pub next_looked : (part : Part) (vouched : Bool) → (IsTrue vouched → e.tag ≡ term.tag) → e.key < 2 ^ 32
        → HasPostingPart r e mid new (Ok part)
        → NextSlot r term from always old new
        (Ok (Some (record { slot = e.key / 256; vouched = vouched; part = Some part })))
    next_looked part vouched same_tag fits has =
        next_some (Some part) vouched has.viewed same_tag fits (looked_at r e mid new part has)

    pub next_part_fault : (fault : Fault) → HasPostingPart r e mid new (Err fault)
        → NextSlot r term from always old new (Err fault)
    next_part_fault fault has = record {
      viewed = viewed_then found.viewed has.viewed;
      ends = says_later r old mid new found.viewed has.viewed fault has.ends;
    }

-- what the search for the term's posting says, of whether the list has the slot
pub has_of : (r : Reach) (term : SoughtTerm) (slot : ℕ) (old new : ViewState) (found : Option Entry)
    → FindsPosting r term slot old new (Ok found) → HasSlot r term slot old new (Ok (is_some found))
has_of r term slot old new (Some e) finds = record {
  viewed = finds.viewed;
  ends = (
    λ owed. refl,
    λ yes tells. subst (λ (n : ℕ). IsVouched r term new.image n) finds.ends.0
        (entry_vouches r term e new new (viewed_self new) finds.ends.1 (finds.ends.3 tells)),
  );
}
has_of r term slot old new None finds = record {
  viewed = finds.viewed;
  ends = (λ owed. absurd (finds.ends owed), λ yes. absurd (false_never yes));
}

module _ (r : Reach) (term : SoughtTerm) (slot : ℕ) (old mid new : ViewState)
    (less : term.list < r.volume.geometry.lists) (e : Entry)
    (finds : FindsPosting r term slot old mid (Ok (Some e))) where
  pub posting_stands : IsWordEntry r mid e
  posting_stands = record {
    list = term.list;
    words = less;
    behind = λ tells. finds.ends.3 (told_before finds.viewed tells);
  }

  pub confirms_some : (part : Part) → HasPostingPart r e mid new (Ok part)
      → ConfirmsSlot r term slot old new (Ok (Some part))
  confirms_some part has = record {
    viewed = viewed_then finds.viewed has.viewed;
    ends = (
      λ tells. subst (λ (n : ℕ). IsVouched r term new.image n) finds.ends.0
          (entry_vouches r term e mid new has.viewed finds.ends.1 (finds.ends.3 tells)),
      subst (λ (n : ℕ). IsLookedAt r new n part) finds.ends.0 (looked_at r e mid new part has),
    );
  }

  pub confirms_fault : (fault : Fault) → HasPostingPart r e mid new (Err fault)
      → ConfirmsSlot r term slot old new (Err fault)
  confirms_fault fault has = record {
    viewed = viewed_then finds.viewed has.viewed;
    ends = says_later r old mid new finds.viewed has.viewed fault has.ends;
  }
