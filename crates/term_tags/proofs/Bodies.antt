-- The tags of a list among the keys of a body's words are the body's tags in this list.
use Rattle.std.proofs.Common.{◌≡◌, ◌≤◌, ◌<◌, ◌∙◌, ℕ, zero, suc, List, [], ◌∷◌, length, drop, refl, sym, ap, subst, arith}
use Rattle.std.specs.Prelude.{Contains}
use Rattle.std.proofs.lemmas.Nat.{mod_below}
use Rattle.byteorder.specs.Endian.{big_number}
use Rattle.sha2.specs.Sha256.{sha256}
use Rattle.cell_types.specs.Layout.{Layout}
use Rattle.volume_meaning.specs.Words.{AreWords, rule_of}
use Rattle.volume_meaning.proofs.Words.{words_are_one}
use Rattle.volume_meaning.specs.Postings.{HasTag, AreTags}
use Rattle.term_tags.specs.Keys.{key_of, keys_of, list_in, tag_in, tags_at, AreInLists, AreKeys}
use Rattle.term_tags.specs.Listing.{AllFit, AreCounts, GetsTooMany, IsFirstOver}
use Rattle.term_tags.proofs.KeyLaws.{list_back, tag_back}
use Rattle.term_tags.proofs.TagsAt.{at_place, key_at, member, tag_at, tags_rise}

-- the key of a term is among the keys
keyed : (lists : ℕ) (terms : List (List ℕ)) (term : List ℕ) → Contains terms term
    → Contains (keys_of lists terms) (key_of lists term)
keyed lists [] term (k, low, is) = absurd (omega (arith, low))
keyed lists (t ∷ terms) term (zero, low, is) = (zero, omega arith, ap (key_of lists) is)
keyed lists (t ∷ terms) term (suc k, low, is) =
    let rest = keyed lists terms term (k, omega (arith, low), is) in
    (suc rest.0, omega (arith, rest.1), rest.2)

-- and each key is that of a term
term_of : (lists : ℕ) (terms : List (List ℕ)) (key : ℕ) → Contains (keys_of lists terms) key
    → (term : List ℕ) × Contains terms term × (key_of lists term ≡ key)
term_of lists [] key (k, low, is) = absurd (omega (arith, low))
term_of lists (t ∷ terms) key (zero, low, is) = (t, (zero, omega arith, refl), is)
term_of lists (t ∷ terms) key (suc k, low, is) =
    let rest = term_of lists terms key (k, omega (arith, low), is) in
    (rest.0, (suc rest.1.0, omega (arith, rest.1.1), rest.1.2), rest.2)

module _ (g : Layout) (body : List ℕ) (terms : List (List ℕ)) (keys : List ℕ) (words : AreWords (rule_of g.version) body terms)
    (are : AreKeys g.lists terms keys) where
  -- a tag among the keys is one of the body
  from_key : (l : ℕ) (tag : List ℕ) → Contains (tags_at l keys) tag → HasTag g body l tag
  from_key l tag has =
      let place = at_place (tags_at l keys) tag has in
      let found = key_at l keys place.0 tag place.1 in
      let from = term_of g.lists terms found.key (are.each found.key (member keys found.place found.key found.stands)) in
      record {
        word = from.0;
        among = record { words = terms; are = words; among = from.1 };
        list = sym (list_back g.lists from.0) ∙ ap list_in from.2 ∙ found.of_list;
        same = sym (tag_back g.lists from.0) ∙ ap tag_in from.2 ∙ found.tag_is;
      }

  -- and each tag of the body is among the keys
  to_key : (l : ℕ) (tag : List ℕ) → HasTag g body l tag → Contains (tags_at l keys) tag
  to_key l tag h =
      let all : h.among.words ≡ terms =
      words_are_one.one (rule_of g.version) body h.among.words h.among.are ∙ sym (words_are_one.one (rule_of g.version) body terms words) in
      let in_terms : Contains terms h.word = subst (λ (ws : List (List ℕ)). Contains ws h.word) all h.among.among in
      let place = at_place keys (key_of g.lists h.word) (are.all (key_of g.lists h.word) (keyed g.lists terms h.word in_terms)) in
      subst (Contains (tags_at l keys)) (tag_back g.lists h.word ∙ h.same)
      (member (tags_at l keys) _ (tag_in (key_of g.lists h.word))
      (tag_at l keys place.0 (key_of g.lists h.word) place.1 (list_back g.lists h.word ∙ h.list)))

  -- so they are the body's tags in the list
  pub are_tags : (l : ℕ) → AreTags g body l (tags_at l keys)
  are_tags l = record {
    rise = tags_rise l keys are.rise;
    each = from_key l;
    all = to_key l;
  }

  -- a list with too many of the keys gets too many tags
  pub too_many : (counts : List ℕ) (l count : ℕ) → AreCounts g.lists keys counts → IsFirstOver counts l count
      → GetsTooMany g body l count
  too_many counts l count counted over =
      let below : l < g.lists = omega (arith, over.below, counted.long) in
      record {
        below = below;
        tags = tags_at l keys;
        are = are_tags l;
        number = sym (counted.each l below) ∙ over.number;
        many = over.many;
        lowest = λ m less.
            (tags_at m keys, are_tags m, omega (arith, over.lowest m less, counted.each m (omega (arith, less, below))));
      }

-- each key's list is one of so many
pub in_lists : (lists : ℕ) (terms : List (List ℕ)) (keys : List ℕ) → 1 ≤ lists → AreKeys lists terms keys
    → AreInLists lists keys
in_lists lists terms keys some are = record {
  each = λ key has.
      let from = term_of lists terms key (are.each key has) in
      subst (λ (l : ℕ). l < lists) (sym (list_back lists from.0) ∙ ap list_in from.2)
      (mod_below (big_number 4 (drop 6 (sha256 from.0))) lists some);
}

-- where each list's count fits, it has few enough tags
pub few_tags : (lists : ℕ) (keys counts : List ℕ) → AreCounts lists keys counts → AllFit counts lists
    → (l : ℕ) → l < lists → length (tags_at l keys) ≤ 256
few_tags lists keys counts counted fit l less = omega (arith, counted.each l less, fit.each l less)
