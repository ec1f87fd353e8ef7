-- What the searches say, of the lists as the join sees them.
use Rattle.std.proofs.Common.{◌≡◌, ◌<◌, ◌≤◌, ◌+◌, ◌-◌, ◌*◌, ◌^◌, ◌⊎◌, ⊎_elim, inl, inr, min, arith, ℕ, Bool, List, Option, Some, None, Result, Ok, Err, ◌∷◌, map, ap, refl, sym, subst, ◌∙◌}
use Rattle.std.specs.Prelude.{IsTrue, is_some, slice_get}
use Rattle.cell_types.specs.declared.refusal.Fault.{Fault}
use Rattle.cell_types.specs.declared.refusal.Fault.TheVariants.{Tampered, Failed}
use Rattle.worm_device.specs.Views.{ViewState, Viewed}
use Rattle.zigzag_join.specs.Lists.{ConfirmEnds, ListsFaultEnds, HasEnds, Keeps, KnowsNext, LandEnds}
use Rattle.jump_index.proofs.Telling.{told, told_before}
use Rattle.cell_types.specs.Image.{Image}
use Rattle.cell_types.specs.Layout.{Layout}
use Rattle.document_store.specs.Looks.{HasPart}
use Rattle.document_store.specs.declared.part.Part.{Part}
use Rattle.document_store.proofs.Holding.{part_on}
use Rattle.tamper_rules.proofs.Images.{same_image}
use Rattle.worm_device.proofs.Resting.{rests_of}
use Rattle.posting_list.specs.Naming.{FaultSays}
use Rattle.posting_list.specs.Owing.{HasPosting, IsLiveSlot, IsSlotOwed, Owes}
use Rattle.posting_list.specs.Searches.{ConfirmsSlot, HasSlot, IsLandedPart, IsLookedAt, NextSlot}
use Rattle.posting_list.specs.States.{KnowsPart, counted_lists, row_of, term_row}
use Rattle.posting_list.specs.Terms.{TermEnds}
use Rattle.posting_list.specs.declared.next_slot.Landed.{Landed}
use Rattle.posting_list.specs.declared.reach.Reach.{Reach}
use Rattle.posting_list.specs.declared.sought_term.SoughtTerm.{SoughtTerm}
use Rattle.zigzag_join.proofs.Joining.{paid_since}
use Rattle.posting_list.specs.declared.has_slot.TheConstants.{HAS_READS}
use Rattle.posting_list.specs.declared.next_slot.TheConstants.{NEXT_READS}
use Rattle.posting_list.proofs.Evidence.{false_never}
use Rattle.posting_list.proofs.Owed.{live_on, owed_on, vouched_on}

one_term : (terms : List SoughtTerm) (which : ℕ) (a b : SoughtTerm) → slice_get terms which ≡ Some a
    → slice_get terms which ≡ Some b → a ≡ b
one_term terms which a b h k = some_term a b (sym h ∙ k) where
  some_term : (a b : SoughtTerm) → Some a ≡ Some b → a ≡ b
  some_term a b e = cc

-- where the volume can't stand here, or has no such list, there is nothing to pass
pub none_owed : (r : Reach) (terms : List SoughtTerm) (which : ℕ) (s : ViewState) → TermEnds r terms which s None
    → (slot : ℕ) → Owes r terms s which slot → ⊥
none_owed r terms which s never slot o =
    never o.term (record { size = o.owed.volume.size; there = o.there; list = o.owed.list })

-- a part that was found is one later
pub has_on : (g : Layout) (s t : ViewState) → Viewed s t → (part : Part) → HasPart g s part → HasPart g t part
has_on g s t viewed part has = record {
  slot = has.slot;
  inside = has.inside;
  stated = has.stated;
  is = λ tells. part_on viewed.image (has.is (told_before viewed tells));
}

-- the slot was looked at, and this is its part
abbrev pub IsLooked : Reach → ViewState → ℕ → Option Part → Type 0
IsLooked r s slot found = (part : Part) × (found ≡ Some part) × IsLookedAt r s slot part

-- a slot that a list vouches for, or always looks at, was looked at
looked_part : (r : Reach) (always : Bool) (s : ViewState) (slot : ℕ) (vouched : Bool) (found : Option Part)
    → IsLandedPart r always s slot vouched found → (IsTrue vouched) ⊎ (IsTrue always) → IsLooked r s slot found
looked_part r always s slot vouched (Some part) looked either = (part, refl, looked)
looked_part r always s slot vouched None none either =
    absurd (⊎_elim (λ (yes : IsTrue vouched). none.0 yes) (λ (yes : IsTrue always). none.1 yes) either)

module _ (r : Reach) (terms : List SoughtTerm) (loan : ℕ) (s t : ViewState) (n h i j : ℕ) where
  -- what every row of reads keeps that the asks have paid for
  pub keeps_all : Viewed s t → n ≤ i → h ≤ j
      → (i < 2 ^ 64 - 1 → j < 2 ^ 64 - 1
      → t.base.reads + (NEXT_READS * n + HAS_READS * h) ≤ s.base.reads + (NEXT_READS * i + HAS_READS * j))
      → Keeps (counted_lists r terms loan s n h) (counted_lists r terms loan t i j)
  keeps_all viewed more_next more_has pays = record {
    lists = refl;
    made_of = ap (λ (loans : List ℕ). (loan ∷ loans) ∷ row_of r ∷ map term_row terms) viewed.loans;
    viewed = viewed;
    owing = λ which slot o.
        record { term = o.term; there = o.there; owed = owed_on r o.term slot s t viewed o.owed };
    vouching = λ which slot v tells.
        let h = v (told_before viewed tells) in
        (h.0, h.1, vouched_on r h.0 slot s.image t.image viewed.image h.2);
    naming = λ e may tells.
        let h = may (told_before viewed tells) in
        record { rule = h.rule; stands = viewed.image.keeps e.cell e.found h.stands; place = h.place };
    living = λ slot was. live_on r slot s t viewed was;
    landing = λ still which slot lands tells.
        let there = lands (told viewed tells) in (
          there.0,
          there.1,
          subst (λ (x : Image). HasPosting r there.0 x slot)
              (same_image ((rests_of viewed).shown still)) there.2,
        );
    next_reads = refl;
    has_reads = refl;
    next_asks = more_next;
    has_asks = more_has;
    paid = paid_since (counted_lists r terms loan s n h) (counted_lists r terms loan t i j) refl refl more_next
        more_has (λ counts. pays counts.next counts.has);
  }

  -- one ask for a next slot pays for what it read, where it was counted
  pub keeps_next : Viewed s t → i ≡ min (n + 1) (2 ^ 64 - 1) → j ≡ h → n < 2 ^ 64
      → t.base.reads ≤ s.base.reads + NEXT_READS
      → Keeps (counted_lists r terms loan s n h) (counted_lists r terms loan t i j)
  keeps_next viewed next has fits reads = keeps_all viewed (omega (arith, next, fits)) (omega (arith, has))
      (λ counts other. omega (arith, next, has, counts, reads))

  -- and so does one whether a list has a slot
  pub keeps_has : Viewed s t → i ≡ n → j ≡ min (h + 1) (2 ^ 64 - 1) → h < 2 ^ 64
      → t.base.reads ≤ s.base.reads + HAS_READS
      → Keeps (counted_lists r terms loan s n h) (counted_lists r terms loan t i j)
  keeps_has viewed next has fits reads = keeps_all viewed (omega (arith, next)) (omega (arith, has, fits))
      (λ other counts. omega (arith, next, has, counts, reads))

  fault_ends : (fault : Fault) → FaultSays r s t fault
      → ListsFaultEnds (counted_lists r terms loan s n h) (counted_lists r terms loan t i j) fault
  fault_ends Failed says = says
  fault_ends (Tampered e) says = says

  module _ (which : ℕ) (term : SoughtTerm) (there : slice_get terms which ≡ Some term) where
    -- the term of this number is the one that was asked for
    owed_here : (slot : ℕ) → Owes r terms s which slot → IsSlotOwed r term s slot
    owed_here slot o =
        subst (λ (x : SoughtTerm). IsSlotOwed r x s slot) (one_term terms which o.term term o.there there) o.owed

    pub land_some : (from : ℕ) (always : Bool) (landed : Landed) → NextSlot r term from always s t (Ok (Some landed))
        → LandEnds which from (counted_lists r terms loan s n h) (counted_lists r terms loan t i j)
        (Ok (Some (record { slot = landed.slot; vouched = landed.vouched })))
    land_some from always landed next = (
      (
        next.ends.0,
        next.ends.1,
        λ tells. (term, there, next.ends.3 (told_before next.viewed tells)),
        λ slot o past. next.ends.2 slot (owed_here slot o) past,
      ),
      λ yes. (
        λ tells. (term, there, next.ends.4 yes (told_before next.viewed tells)),
        (looked_part r always t landed.slot landed.vouched landed.part next.ends.5 (inl yes)).2.live,
      ),
    )

    pub land_none : (from : ℕ) (always : Bool) → NextSlot r term from always s t (Ok None)
        → LandEnds which from (counted_lists r terms loan s n h) (counted_lists r terms loan t i j) (Ok None)
    land_none from always next = λ slot o past. next.ends slot (owed_here slot o) past

    pub land_fails : (from : ℕ) (always : Bool) (fault : Fault) → NextSlot r term from always s t (Err fault)
        → LandEnds which from (counted_lists r terms loan s n h) (counted_lists r terms loan t i j) (Err fault)
    land_fails from always fault next = fault_ends fault next.ends

    pub has_ends : (slot : ℕ) (result : Result Bool Fault) → HasSlot r term slot s t result
        → HasEnds which slot (counted_lists r terms loan s n h) (counted_lists r terms loan t i j) result
    has_ends slot (Ok is) has = (
      λ o. has.ends.0 (owed_here slot o),
      λ yes tells. (term, there, has.ends.1 yes (told_before has.viewed tells)),
    )
    has_ends slot (Err fault) has = fault_ends fault has.ends

    pub confirm_ends : (slot : ℕ) (found : Option Part) → ConfirmsSlot r term slot s t (Ok found)
        → ConfirmEnds which slot (counted_lists r terms loan s n h) (counted_lists r terms loan t i j)
        (Ok (is_some found))
    confirm_ends slot (Some part) confirms = (
      λ o. refl,
      λ yes. (
        λ tells. (term, there, confirms.ends.0 (told_before confirms.viewed tells)),
        confirms.ends.1.live,
      ),
    )
    confirm_ends slot None confirms = (
      λ o. absurd (confirms.ends (owed_here slot o)),
      λ yes. absurd (false_never yes),
    )

    pub confirm_fails : (slot : ℕ) (fault : Fault) → ConfirmsSlot r term slot s t (Err fault)
        → ConfirmEnds which slot (counted_lists r terms loan s n h) (counted_lists r terms loan t i j) (Err fault)
    confirm_fails slot fault confirms = fault_ends fault confirms.ends

-- of a slot that was looked at it is known where its document lies
known_part : (r : Reach) (s : ViewState) (slot : ℕ) (last : Option Part) → IsLooked r s slot last
    → KnowsPart r s last slot
known_part r s slot last looked =
    record { part = looked.0; is = looked.1; slot_is = looked.2.same; has = looked.2.has }

-- so of one that a list comes to, where it vouches for it
pub knows_landed : (r : Reach) (term : SoughtTerm) (from : ℕ) (always : Bool) (s t : ViewState) (landed : Landed)
    → NextSlot r term from always s t (Ok (Some landed)) → IsTrue landed.vouched
    → KnowsPart r t landed.part landed.slot
knows_landed r term from always s t landed next vouches = known_part r t landed.slot landed.part
    (looked_part r always t landed.slot landed.vouched landed.part next.ends.5 (inl vouches))

-- or always looks at it
pub knows_always : (r : Reach) (term : SoughtTerm) (from : ℕ) (always : Bool) (s t : ViewState) (landed : Landed)
    → NextSlot r term from always s t (Ok (Some landed)) → IsTrue always
    → IsLiveSlot r t landed.slot × KnowsPart r t landed.part landed.slot
knows_always r term from always s t landed next looks =
    let looked = looked_part r always t landed.slot landed.vouched landed.part next.ends.5 (inr looks) in
    (looked.2.live, known_part r t landed.slot landed.part looked)

-- and of one that a list confirms
pub knows_confirmed : (r : Reach) (term : SoughtTerm) (slot : ℕ) (s t : ViewState) (found : Option Part)
    → ConfirmsSlot r term slot s t (Ok found) → IsTrue (is_some found) → KnowsPart r t found slot
knows_confirmed r term slot s t (Some part) confirms there =
    known_part r t slot (Some part) (part, refl, confirms.ends.1)
knows_confirmed r term slot s t None confirms there = absurd (false_never there)

-- of the slot that is answered that is known
pub knows_of : (knows : ℕ → Type 0) (answer : Option ℕ) (slot : ℕ) → answer ≡ Some slot
    → KnowsNext knows (Ok answer) → knows slot
knows_of knows answer slot is known = subst (λ (o : Option ℕ). KnowsNext knows (Ok o)) is known
