-- The first slots of a row were searched.
use Rattle.std.proofs.Common.{◌≡◌, ◌<◌, ◌≤◌, ◌+◌, ◌⊎◌, ℕ, List, [], ◌∷◌, ◌++◌, length, Some, None, Option, Ok, Err, refl, sym, ap, ◌∙◌, subst, inl, inr, ⊎_elim, arith}
use Rattle.std.proofs.lemmas.List.{get_or-map, length-map}
use Rattle.std.proofs.lemmas.List.Elements.{Contains-append_left, Contains-get_or, Contains-append_right, Contains-push, Contains-push_cases}
use Rattle.std.specs.Prelude.{Contains, IsTrue, slice_index, slice_index_or}
use Rattle.cell_types.specs.Image.{Image, Extends}
use Rattle.cell_types.specs.Layout.{Layout}
use Rattle.cell_types.specs.declared.refusal.Fault.TheVariants as faults
use Rattle.cell_types.specs.declared.refusal.Refusal.{Refusal}
use Rattle.cell_types.specs.declared.refusal.Refusal.TheVariants.{DeviceFault, NoMemory, Tampered}
use Rattle.volume_meaning.specs.Slots.{cells_for}
use Rattle.volume_meaning.specs.Words.{Matches, rule_of}
use Rattle.worm_device.specs.State.{DeviceState}
use Rattle.worm_device.specs.Views.{Viewed, seen_directly}
use Rattle.worm_device.proofs.Resting.{viewed_self, viewed_then}
use Rattle.word_reader.specs.declared.matcher.Matcher.{Matcher}
use Rattle.zigzag_join.specs.Gathering.{GatheredRise}
use Rattle.document_store.specs.Looks.{HasPart, IsPartOf}
use Rattle.document_store.specs.declared.part.Part.{Part}
use Rattle.posting_list.specs.Joins.{HaveParts, slots_of}
use Rattle.posting_list.proofs.Joining.{has_on}
use Rattle.document_store.specs.Standing.{HoldsDocument}
use Rattle.record_query.specs.Among.{AmongEnds, IsSlotCost, FoundAmong, IsMatchAmong, ReadsEach, added, row_cost}
use Rattle.record_query.specs.Finding.{HasMatchAt, MatchesRise}
use Rattle.record_query.specs.Matching.{HoldsOther, IsMatchIn, IsMatcherOf, KeepsTerms, SlotEnds}
use Rattle.record_query.specs.declared.found.Match.{Match}
use Rattle.document_store.proofs.Holding.{held_is_one, held_on, one_part}
use Rattle.document_store.proofs.Naming.{fails_from}
use Rattle.volume_meaning.proofs.Extending.{done_on}
use Rattle.record_query.proofs.Costs.{cost_more, cost_within}

-- slots rise on, where the last one is behind the others
rises_on : (matches : List Match) (last : Match) (from u : ℕ) → MatchesRise from matches
    → ((found : Match) → Contains matches found → found.slot < u) → u ≤ last.slot → from ≤ last.slot
    → MatchesRise from (matches ++ last ∷ [])
rises_on [] last from u rises below after start = (start, tt)
rises_on (first ∷ rest) last from u rises below after start = (
  rises.0,
  rises_on rest last (first.slot + 1) u rises.1
      (λ found among. below found (Contains-append_right (first ∷ []) rest found among)) after
      (let less : first.slot < u = below first (0, omega arith, refl) in omega (arith, less, after)),
)

below_or_at : (n k : ℕ) → n < k + 1 → (n < k) ⊎ (n ≡ k)
below_or_at n k less = grind arith

-- no slot was searched yet
found_none : (g : Layout) (slots : List ℕ) (terms : List (List ℕ)) (image : Image)
    → FoundAmong g slots 0 terms image image []
found_none g slots terms image = record {
  all = λ i id body less. absurd (omega (arith, less));
  judged = λ i less. absurd (omega (arith, less));
  only = λ found among. absurd (omega (arith, among.1));
  rise = tt;
}

module _ (g : Layout) (slots : List ℕ) (k : ℕ) (terms : List (List ℕ)) (old now new : Image) (grows : Extends old now)
    (goes : Extends now new) (matches : List Match) (so_far : FoundAmong g slots k terms old now matches) where
  -- the slot has its match, or holds a document that lacks one of the terms
  abbrev IsJudgedAt : Image → ℕ → List Match → Type 0
  IsJudgedAt image n all = HasMatchAt all n ⊎ HoldsOther g image n terms

  match_on : (found : Match) → Contains matches found → IsMatchAmong g new slots (k + 1) terms found
  match_on found among =
      let was = so_far.only found among in
      record {
        place = was.place;
        before = omega (arith, was.before);
        at = was.at;
        is = record {
          body = was.is.body;
          slot_is = was.is.slot_is;
          holds = held_on goes was.is.holds;
          bytes_is = was.is.bytes_is;
          matches = was.is.matches;
        };
      }

  held_here : (i : ℕ) (id body : List ℕ) → i ≡ k → HoldsDocument g old (slice_index slots i) id body
      → HoldsDocument g now (slice_index slots k) id body
  held_here i id body here was =
      held_on grows (subst (λ (j : ℕ). HoldsDocument g old (slice_index slots j) id body) here was)

  -- what was judged goes on being so
  judged_on : (all : List Match) (n : ℕ) → ((found : Match) → Contains matches found → Contains all found)
      → IsJudgedAt now n matches → IsJudgedAt new n all
  judged_on all n among was = ⊎_elim
      (λ (h : HasMatchAt matches n).
      inl (record { found = h.found; among = among h.found h.among; slot_is = h.slot_is }))
      (λ (o : HoldsOther g now n terms).
      inr (record { id = o.id; body = o.body; holds = held_on goes o.holds; lacks = o.lacks }))
      was

  -- and so is the slot of place k
  judged_more : (all : List Match) → ((found : Match) → Contains matches found → Contains all found)
      → IsJudgedAt new (slice_index slots k) all → (i : ℕ) → i < k + 1 → IsJudgedAt new (slice_index slots i) all
  judged_more all among here i less = ⊎_elim
      (λ (before : i < k). judged_on all (slice_index slots i) among (so_far.judged i before))
      (λ (at : i ≡ k). subst (λ (j : ℕ). IsJudgedAt new (slice_index slots j) all) (sym at) here)
      (below_or_at i k less)

  -- one that holds another document held none with the terms
  other_none : HoldsOther g new (slice_index slots k) terms → (id body : List ℕ)
      → HoldsDocument g now (slice_index slots k) id body → Matches (rule_of g.version) body terms → ⊥
  other_none other id body was has =
      let one = held_is_one g new (slice_index slots k) id body other.id other.body (held_on goes was) other.holds in
      other.lacks (subst (λ (b : List ℕ). Matches (rule_of g.version) b terms) one.1 has)

  -- one more had no match
  found_no_more : HoldsOther g new (slice_index slots k) terms → FoundAmong g slots (k + 1) terms old new matches
  found_no_more other = record {
    all = λ i id body less was has. ⊎_elim
        (λ (before : i < k). so_far.all i id body before was has)
        (λ (here : i ≡ k). absurd (other_none other id body (held_here i id body here was) has))
        (below_or_at i k less);
    judged = judged_more matches (λ found among. among) (inr other);
    only = match_on;
    rise = so_far.rise;
  }

  -- one more had a match
  found_one_more : GatheredRise slots → k < length slots → (one : Match) → IsMatchIn g new (slice_index slots k) terms one
      → FoundAmong g slots (k + 1) terms old new (matches ++ one ∷ [])
  found_one_more rise inside one is = record {
    all = λ i id body less was has. ⊎_elim
        (λ (before : i < k).
        let h = so_far.all i id body before was has in
        record {
          found = h.found;
          among = Contains-append_left matches (one ∷ []) h.found h.among;
          slot_is = h.slot_is;
          identifier_is = h.identifier_is;
          bytes_is = h.bytes_is;
        })
        (λ (here : i ≡ k).
        let there = held_on goes (held_here i id body here was) in
        let same = held_is_one g new (slice_index slots k) one.identifier is.body id body is.holds there in
        record {
          found = one;
          among = Contains-push matches one;
          slot_is = is.slot_is ∙ sym (ap (slice_index slots) here);
          identifier_is = same.0;
          bytes_is = is.bytes_is ∙ ap length same.1;
        })
        (below_or_at i k less);
    judged = judged_more (matches ++ one ∷ []) (λ found among. Contains-append_left matches (one ∷ []) found among)
        (inl (record { found = one; among = Contains-push matches one; slot_is = is.slot_is }));
    only = λ found among. ⊎_elim
        (λ (before : Contains matches found). match_on found before)
        (λ (here : one ≡ found). subst (IsMatchAmong g new slots (k + 1) terms) here (record {
          place = k;
          before = omega arith;
          at = sym is.slot_is;
          is = record {
            body = is.body;
            slot_is = refl;
            holds = subst (λ (n : ℕ). HoldsDocument g new n one.identifier is.body) (sym is.slot_is) is.holds;
            bytes_is = is.bytes_is;
            matches = is.matches;
          };
        }))
        (Contains-push_cases matches one found among);
    rise = rises_on matches one 0 one.slot so_far.rise
        (λ found among.
        let was = so_far.only found among in
        let less : slice_index slots was.place < slice_index slots k = rise was.place k was.before inside in
        omega (arith, less, was.at, is.slot_is))
        (omega arith) (omega arith);
  }

-- what the first k slots cost, each by its own cost
abbrev pub ReadsFirst : Layout → List ℕ → ℕ → DeviceState → DeviceState → Type 0
ReadsFirst g slots k old now =
    IsTrue old.tells → (cost : ℕ → ℕ)
    → ((i : ℕ) → i < length slots → IsSlotCost g old.image (slice_index slots i) (cost (slice_index slots i)))
    → now.reads ≤ old.reads + row_cost cost slots k

-- is no more than what all cost
pub reads_all : (g : Layout) (slots : List ℕ) (k : ℕ) (old now : DeviceState) → ReadsFirst g slots k old now
    → ReadsEach g slots old now
reads_all g slots k old now first = λ tells cost each. omega (arith, first tells cost each, cost_within cost slots k)

-- the first k slots were searched
pub record FoundSoFar (g : Layout) (slots : List ℕ) (k : ℕ) (old now : DeviceState) (m n : Matcher)
    (matches : List Match) : Type 0 where
  pub viewed : Viewed (seen_directly old 0) (seen_directly now 0)
  pub reads : ReadsFirst g slots k old now
  pub keeps : KeepsTerms m n
  pub faults : (terms : List (List ℕ)) → IsMatcherOf (rule_of g.version) terms m → now.faults ≡ old.faults
  pub found : (terms : List (List ℕ)) → IsMatcherOf (rule_of g.version) terms m → IsTrue old.tells
      → FoundAmong g slots k terms old.image now.image matches

pub so_far_none : (g : Layout) (slots : List ℕ) (old : DeviceState) (m : Matcher)
    → FoundSoFar g slots 0 old old m m []
so_far_none g slots old m = record {
  viewed = viewed_self _;
  reads = λ tells cost each. omega arith;
  keeps = λ rule terms was. was;
  faults = λ terms was. refl;
  found = λ terms was tells. found_none g slots terms old.image;
}

module _ (g : Layout) (slots : List ℕ) (k : ℕ) (old now new : DeviceState) (m n : Matcher) (matches : List Match)
    (so_far : FoundSoFar g slots k old now m n matches)
    (viewed : Viewed (seen_directly now 0) (seen_directly new 0)) where
  told : IsTrue old.tells → IsTrue now.tells
  told tells = subst IsTrue (sym so_far.viewed.called.tells) tells

  -- what one slot more costs, whose document has this part
  reads_more : (inside : k < length slots) → (part : Part)
      → (IsTrue now.tells → IsPartOf g now.image (slice_index slots k) part)
      → new.reads ≤ now.reads + cells_for part.bytes → ReadsFirst g slots (k + 1) old new
  reads_more inside part is read tells cost each =
      let c = each k inside in
      let same = one_part g now.image (slice_index slots k) part c.start c.reserved c.bytes c.journal (is (told tells))
      (done_on so_far.viewed.image c.done) in
      omega (
        arith,
        so_far.reads tells cost each,
        read,
        ap cells_for same.0,
        c.most,
        cost_more cost slots k inside,
      )

  module _ (rise : GatheredRise slots) (inside : k < length slots) (first : ReadsFirst g slots (k + 1) old new) where
    more : (terms : List (List ℕ)) → IsMatcherOf (rule_of g.version) terms m → (found : Option Match)
        → SlotEnds g (slice_index slots k) terms (seen_directly now 0) (seen_directly new 0) (Ok found)
        → IsTrue old.tells → FoundAmong g slots (k + 1) terms old.image new.image (added found matches)
    more terms was None ends tells = found_no_more g slots k terms old.image now.image new.image so_far.viewed.image
        viewed.image matches (so_far.found terms was tells) (ends.1 (told tells))
    more terms was (Some one) ends tells = found_one_more g slots k terms old.image now.image new.image
        so_far.viewed.image viewed.image matches (so_far.found terms was tells) rise inside one (ends.1 (told tells))

    same : (terms : List (List ℕ)) (found : Option Match)
        → SlotEnds g (slice_index slots k) terms (seen_directly now 0) (seen_directly new 0) (Ok found)
        → new.faults ≡ now.faults
    same terms None ends = ends.0
    same terms (Some one) ends = ends.0

    -- one slot more was searched
    so_far_more : (o : Matcher) (found : Option Match) (all : List Match) → KeepsTerms n o
        → ((terms : List (List ℕ)) → IsMatcherOf (rule_of g.version) terms n
        → SlotEnds g (slice_index slots k) terms (seen_directly now 0) (seen_directly new 0) (Ok found))
        → all ≡ added found matches → FoundSoFar g slots (k + 1) old new m o all
    so_far_more o found all keeps ends is = record {
      viewed = viewed_then so_far.viewed viewed;
      reads = first;
      keeps = λ rule terms was. keeps rule terms (so_far.keeps rule terms was);
      faults = λ terms was.
          same terms found (ends terms (so_far.keeps (rule_of g.version) terms was)) ∙ so_far.faults terms was;
      found = λ terms was tells. subst (FoundAmong g slots (k + 1) terms old.image new.image) (sym is)
          (more terms was found (ends terms (so_far.keeps (rule_of g.version) terms was)) tells);
    }

  -- a slot was not searched
  so_far_ended : (refusal : Refusal)
      → ((terms : List (List ℕ)) → IsMatcherOf (rule_of g.version) terms n
      → SlotEnds g (slice_index slots k) terms (seen_directly now 0) (seen_directly new 0) (Err refusal))
      → (terms : List (List ℕ)) → IsMatcherOf (rule_of g.version) terms m
      → AmongEnds g slots terms old new (Err refusal)
  so_far_ended NoMemory ends terms was = tt
  so_far_ended DeviceFault ends terms was = record {
    n = slice_index slots k;
    refuses = fails_from g so_far.viewed viewed (slice_index slots k) (so_far.faults terms was) faults.Failed
        (ends terms (so_far.keeps (rule_of g.version) terms was));
  }
  so_far_ended (Tampered e) ends terms was = record {
    n = slice_index slots k;
    refuses = fails_from g so_far.viewed viewed (slice_index slots k) (so_far.faults terms was) (faults.Tampered e)
        (ends terms (so_far.keeps (rule_of g.version) terms was));
  }
  so_far_ended refusal ends terms was = absurd (ends terms (so_far.keeps (rule_of g.version) terms was))

-- The slot of place k, whose part was handed on.
module _ (g : Layout) (parts : List Part) (k : ℕ) (old now new : DeviceState) (m n : Matcher) (matches : List Match)
    (so_far : FoundSoFar g (slots_of parts) k old now m n matches)
    (viewed : Viewed (seen_directly now 0) (seen_directly new 0)) (inside : k < length parts) where
  abbrev part : Part
  part = slice_index_or parts k (record { slot = 0; start = 0; bytes = 0; journal = 0 })

  within : k < length (slots_of parts)
  within = omega (arith, inside, length-map parts (λ (p : Part). p.slot))

  slot_is : part.slot ≡ slice_index (slots_of parts) k
  slot_is = sym (get_or-map (λ (p : Part). p.slot) parts k _ 0 inside)

  -- it is one still
  pub part_now : HaveParts g (seen_directly old 0) parts → HasPart g (seen_directly now 0) part
  part_now have = has_on g (seen_directly old 0) (seen_directly now 0) so_far.viewed part
      (have part (Contains-get_or parts k _ inside))

  -- what reading its document costs
  pub part_reads : HaveParts g (seen_directly old 0) parts → new.reads ≤ now.reads + cells_for part.bytes
      → ReadsFirst g (slots_of parts) (k + 1) old new
  part_reads have read = reads_more g (slots_of parts) k old now new m n matches so_far viewed within part
      (λ tells. subst (λ (slot : ℕ). IsPartOf g now.image slot part) slot_is ((part_now have).is tells)) read

  -- it was searched
  pub part_more : GatheredRise (slots_of parts) → HaveParts g (seen_directly old 0) parts
      → new.reads ≤ now.reads + cells_for part.bytes → (o : Matcher) (found : Option Match) (all : List Match)
      → KeepsTerms n o
      → ((terms : List (List ℕ)) → IsMatcherOf (rule_of g.version) terms n
      → SlotEnds g part.slot terms (seen_directly now 0) (seen_directly new 0) (Ok found))
      → all ≡ added found matches → FoundSoFar g (slots_of parts) (k + 1) old new m o all
  part_more rise have read o found all keeps ends is =
      so_far_more g (slots_of parts) k old now new m n matches so_far viewed rise within (part_reads have read) o found
      all keeps
      (λ terms was. subst (λ (slot : ℕ). SlotEnds g slot terms (seen_directly now 0) (seen_directly new 0) (Ok found))
      slot_is (ends terms was))
      is

  -- or it was not
  pub part_ended : (refusal : Refusal)
      → ((terms : List (List ℕ)) → IsMatcherOf (rule_of g.version) terms n
      → SlotEnds g part.slot terms (seen_directly now 0) (seen_directly new 0) (Err refusal))
      → (terms : List (List ℕ)) → IsMatcherOf (rule_of g.version) terms m
      → AmongEnds g (slots_of parts) terms old new (Err refusal)
  part_ended refusal ends = so_far_ended g (slots_of parts) k old now new m n matches so_far viewed refusal
      (λ terms was. subst
      (λ (slot : ℕ). SlotEnds g slot terms (seen_directly now 0) (seen_directly new 0) (Err refusal)) slot_is
      (ends terms was))
