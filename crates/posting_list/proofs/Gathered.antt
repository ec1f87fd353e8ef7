-- Gathering parts, turn by turn.
use Rattle.std.proofs.Common.{◌≡◌, ◌≤◌, ◌+◌, ◌∙◌, ℕ, List, [], ◌∷◌, ◌++◌, Option, Some, None, Ok, ap, arith, subst, sym, ⊎_elim}
use Rattle.std.proofs.lemmas.List.{map-append}
use Rattle.std.proofs.lemmas.List.Elements.{Contains-push_cases}
use Rattle.std.specs.Prelude.{Contains}
use Rattle.zigzag_join.specs.Counts.{GatherCosts, JoinCosts}
use Rattle.zigzag_join.specs.Gathering.{Gathers}
use Rattle.zigzag_join.specs.Joins.{JoinEnds}
use Rattle.zigzag_join.specs.Lists.{Keeps, ListsState}
use Rattle.zigzag_join.proofs.Gathering.{GatherSoFar, gather_costs, gather_more, gather_none, gathered, gathered_costs}
use Rattle.document_store.specs.Looks.{HasPart}
use Rattle.document_store.specs.declared.part.Part.{Part}
use Rattle.posting_list.specs.Joins.{HaveParts, slots_of}
use Rattle.posting_list.specs.States.{KnowsPart}
use Rattle.posting_list.specs.declared.reach.Reach.{Reach}
use Rattle.posting_list.proofs.Joining.{has_on}

-- the parts of the slots before this one were gathered
pub record PartsSoFar (r : Reach) (old now : ListsState) (from : ℕ) (parts : List Part) : Type 0 where
  pub slots : GatherSoFar old now from (slots_of parts)
  pub have : HaveParts r.volume.geometry now.view parts

pub parts_none : (r : Reach) (old : ListsState) (parts : List Part) → parts ≡ [] → PartsSoFar r old old 0 parts
parts_none r old parts none = subst (PartsSoFar r old old 0) (sym none) (record {
  slots = gather_none old;
  have = λ part among. absurd (omega (arith, among.1));
})

module _ (r : Reach) (old now : ListsState) (from : ℕ) (parts : List Part) (so_far : PartsSoFar r old now from parts)
  where
    -- no slot is left
    pub parts_all : 16777216 ≤ from → Gathers old now (slots_of parts) × HaveParts r.volume.geometry now.view parts
    parts_all past = (
      record {
        all = λ slot owe small. so_far.slots.all slot owe (omega (arith, past, small));
        vouched = so_far.slots.vouched;
        live = so_far.slots.live;
        rise = so_far.slots.rise;
      },
      so_far.have,
    )

    pub parts_cost : GatherCosts old now
    parts_cost = gather_costs old now from (slots_of parts) so_far.slots

    module _ (new : ListsState) (kept : Keeps now new) where
      -- there are no more
      pub parts_ended : JoinEnds from now new (Ok None)
          → Gathers old new (slots_of parts) × HaveParts r.volume.geometry new.view parts
      parts_ended none = (
        gathered old now new from (slots_of parts) so_far.slots kept none,
        λ part among. has_on r.volume.geometry now.view new.view kept.viewed part (so_far.have part among),
      )

      pub parts_costs : JoinCosts from now new (Ok None) → GatherCosts old new
      parts_costs costs = gathered_costs old now new from (slots_of parts) so_far.slots kept costs

      -- one more
      module _ (slot : ℕ) (ends : JoinEnds from now new (Ok (Some slot))) (costs : JoinCosts from now new (Ok (Some slot)))
        where
          pub more_costs : GatherCosts old new
          more_costs = gather_costs old new (slot + 1) _
              (gather_more old now new from (slots_of parts) so_far.slots kept slot ends costs)

          pub parts_more : (part : Part) → part.slot ≡ slot → HasPart r.volume.geometry new.view part → (all : List Part)
              → all ≡ parts ++ part ∷ [] → PartsSoFar r old new (slot + 1) all
          parts_more part is has all these = subst (PartsSoFar r old new (slot + 1)) (sym these) (record {
            slots = subst (GatherSoFar old new (slot + 1))
                (ap (λ (n : ℕ). slots_of parts ++ n ∷ []) (sym is)
                ∙ sym (map-append (λ (p : Part). p.slot) parts (part ∷ [])))
                (gather_more old now new from (slots_of parts) so_far.slots kept slot ends costs);
            have = λ one among. ⊎_elim
                (λ (before : Contains parts one).
                has_on r.volume.geometry now.view new.view kept.viewed one (so_far.have one before))
                (λ (last : part ≡ one). subst (HasPart r.volume.geometry new.view) last has)
                (Contains-push_cases parts part one among);
          })

-- the part that is kept is the one that is known of the slot
pub known_part : (r q : Reach) → q ≡ r → (new : ListsState) (last : Option Part) (slot : ℕ)
    → KnowsPart q new.view last slot → (part : Part) → last ≡ Some part
    → (part.slot ≡ slot) × HasPart r.volume.geometry new.view part
known_part r q same new last slot known part is = subst
    (λ (p : Part). (p.slot ≡ slot) × HasPart r.volume.geometry new.view p) (some_part known.part part (sym known.is ∙ is))
    (known.slot_is, subst (λ (k : Reach). HasPart k.volume.geometry new.view known.part) same known.has) where
      some_part : (a b : Part) → Some a ≡ Some b → a ≡ b
      some_part a b e = cc
