-- Words that are no options, and which words ask for a search.
use Rattle.std.proofs.Common.{◌≡◌, ◌<◌, ℕ, List, [], ◌∷◌, String, length, get_or, map, subst, sym, ap, ◌∙◌, arith}
use Rattle.std.proofs.lemmas.List.{get_or-map, length-map}
use Rattle.std.specs.Global.{Global}
use Rattle.std.specs.Prelude.{Contains}
use Rattle.std.specs.String.{string_bytes}
use Rattle.command_line.specs.Asking.{AsksToFind}
use Rattle.command_line.specs.Words.{IsNoOption}

-- a word is no option where it can't be one
pub no_option : (word : List ℕ) → ((IsNoOption word → ⊥) → ⊥) → IsNoOption word
no_option [] not = absurd (not (λ (o : IsNoOption []). omega (arith, o.some)))
no_option (b ∷ word) not = record {
  some = omega arith;
  no_hyphen = λ e. not (λ (o : IsNoOption (b ∷ word)). o.no_hyphen e);
}

tail_is : {A : Type 0} (x y : A) (xs ys : List A) → x ∷ xs ≡ y ∷ ys → xs ≡ ys
tail_is x y xs ys e = cc

-- words of which one behind the first is an option ask for no search
pub no_search : (words rest : List (String Global)) (command : String Global) → words ≡ command ∷ rest
    → (k : ℕ) → k < length rest → (IsNoOption (string_bytes (get_or rest k command)) → ⊥)
    → (asked : List (List ℕ)) → AsksToFind (map string_bytes words) asked → ⊥
no_search words rest command is k less option asked asks =
    let word = string_bytes (get_or rest k command) in
    let same = tail_is _ _ _ _ (sym (ap (map string_bytes) is) ∙ asks.asked_is) in
    let among : Contains (map string_bytes rest) word =
    (k, omega (arith, less, length-map rest string_bytes), get_or-map string_bytes rest k command word less) in
    option (asks.each word (subst (λ (list : List (List ℕ)). Contains list word) same among))
