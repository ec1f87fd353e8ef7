-- An event whose `do` names one kind is of no other.
use Rattle.std.proofs.Common.{◌≡◌, ℕ, List, [], ◌∷◌, Option, Some, Result, IfOk, MatchOption, subst, false, true≢false, unwrap_or, option_and_then, bytes_eq, refl, ap, sym, ◌∙◌}
use Rattle.std.proofs.lemmas.Slice.Eq.{bytes_eq-Decides}
use Rattle.serde_json.specs.Data.{Data, string}
use Rattle.serde_json.specs.Find.{as_str}
use Rattle.script_events.specs.declared.event.Event.{Event}
use Rattle.script_events.specs.declared.event.Event.TheVariants.{Format, Ingest, Find, Lookup, Foreign}
use Rattle.script_events.specs.declared.event.Schedule.{Schedule}
use Rattle.volume_meaning.specs.Words.{AreWords, rule_of}
use Rattle.volume_meaning.specs.declared.word_rules.WordRule.{WordRule}
use Rattle.script_events.specs.Grammar.{SaysEvent, SaysFind, SaysForeign, SaysFormat, SaysIngest, SaysKind, SaysLookup, SaysTerm}
use Rattle.script_events.specs.declared.kind.EventKind.TheVariants as kind
use Rattle.script_events.specs.Json.{Exactly}

text_in : Option Data → List ℕ
text_in o = unwrap_or (option_and_then as_str o) []

-- no member is two texts
pub two_texts : (a b : List ℕ) (o : Option Data) → o ≡ Some (string a) → o ≡ Some (string b) → bytes_eq a b ≡ false → ⊥
unfolding text_in
two_texts a b o is other differ =
    let same : a ≡ b = ap text_in (sym is ∙ other) in
    true≢false (sym ((bytes_eq-Decides a b).1 same) ∙ differ)

-- where a kind's members are none, an event of this kind is none
module _ (cells stated : ℕ) (d : Data) where
  pub none_format : SaysKind kind.Format d
      → ((x : ℕ × ℕ × Schedule) → SaysFormat cells x.0 x.1 x.2 d → ⊥) → (e : Event) → SaysEvent cells stated e d → ⊥
  none_format said none (Format slots lists version plan) h = none (slots, lists, plan) h.1.1
  none_format said none e h = two_texts _ _ _ said h.0 refl

  pub none_ingest : SaysKind kind.Ingest d
      → ((x : List ℕ × Option ℕ × List ℕ × Schedule) → SaysIngest cells x.0 x.1 x.2 x.3 d → ⊥) → (e : Event)
      → SaysEvent cells stated e d → ⊥
  none_ingest said none (Ingest id stamp body plan) h = none (id, stamp, body, plan) h.1
  none_ingest said none e h = two_texts _ _ _ said h.0 refl

  pub none_find : SaysKind kind.Find d
      → ((x : List (List ℕ) × Schedule) → SaysFind cells (rule_of stated) x.0 x.1 d → ⊥) → (e : Event)
      → SaysEvent cells stated e d → ⊥
  none_find said none (Find terms plan) h = none (terms, plan) h.1
  none_find said none e h = two_texts _ _ _ said h.0 refl

  pub none_lookup : SaysKind kind.Lookup d → ((x : List ℕ × Schedule) → SaysLookup cells x.0 x.1 d → ⊥) → (e : Event)
      → SaysEvent cells stated e d → ⊥
  none_lookup said none (Lookup id plan) h = none (id, plan) h.1
  none_lookup said none e h = two_texts _ _ _ said h.0 refl

  pub none_foreign : SaysKind kind.Foreign d → ((x : ℕ × List ℕ) → SaysForeign cells x.0 x.1 d → ⊥) → (e : Event)
      → SaysEvent cells stated e d → ⊥
  none_foreign said none (Foreign at cell) h = none (at, cell) h.1
  none_foreign said none e h = two_texts _ _ _ said h.0 refl

pub ruleset of_no_other_kind = (none_format, none_ingest, none_find, none_lookup, none_foreign)

-- the term that a text holds is the one that the value says
pub term_said : {E : Type 0} (rule : WordRule) (word : List ℕ) (d : Data) (found : Result (Option (List ℕ)) E) → as_str d ≡ Some word
    → IfOk found (Exactly (λ term. AreWords rule word (term ∷ []))) → IfOk found (Exactly (λ term. SaysTerm rule term d))
term_said rule word d found is h =
    subst (λ text. IfOk found (Exactly (λ term. MatchOption text ⊥ (λ bytes. AreWords rule bytes (term ∷ []))))) (sym is) h
