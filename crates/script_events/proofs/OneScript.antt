-- A text is one script at most, and has one fault at most.
use Rattle.std.proofs.Common.{◌≡◌, ℕ, zero, suc, List, [], ◌∷◌, Option, Some, None, MatchOption, codes, unwrap_or, refl, ap, sym, ◌∙◌, subst}
use Rattle.serde_json.specs.Data.{Data, Items, no_items, item}
use Rattle.serde_json.specs.Find.{get}
use Rattle.cell_types.specs.declared.geometry.TheConstants.{FIRST_VERSION, NEWEST_VERSION}
use Rattle.script_events.proofs.OneReading.{both, event_one, items_one, number_one}
use Rattle.script_events.specs.Grammar.{SaysEvent}
use Rattle.script_events.specs.Json.{AreItems, IsFirstOther, IsNumberIn}
use Rattle.script_events.specs.Scripts.{IsFramed, IsScript, IsScriptFault, SaysFrame, TextsAreOneScript}
use Rattle.script_events.specs.declared.event.Event.{Event}
use Rattle.script_events.specs.declared.event.Script.{Script}

-- it states one version, or leaves it out
version_one : (a b : ℕ) (o : Option Data)
    → MatchOption o (a ≡ FIRST_VERSION) (IsNumberIn FIRST_VERSION NEWEST_VERSION a)
    → MatchOption o (b ≡ FIRST_VERSION) (IsNumberIn FIRST_VERSION NEWEST_VERSION b) → a ≡ b
version_one a b None h k = h ∙ sym k
version_one a b (Some d) h k = number_one FIRST_VERSION NEWEST_VERSION a b d h k

-- a text is of one frame
frame_one : (text : List ℕ) (m n v w : ℕ) (ds es : Items) → IsFramed text m v ds → IsFramed text n w es
    → (m ≡ n) × (v ≡ w) × (ds ≡ es)
frame_one text m n v w ds es h k =
    let same : k.0 ≡ h.0 = ap (λ o. unwrap_or o h.0) (sym k.1.1 ∙ h.1.1) in
    let other : SaysFrame n w es h.0 = subst (SaysFrame n w es) same k.2 in (
      both (get (codes "cells") h.0) _ _ h.2.1 other.1 (λ e p q. number_one _ _ m n e p q),
      version_one v w (get (codes "version") h.0) h.2.2 other.2,
      ap (λ o. unwrap_or o ds) (sym h.2.3 ∙ other.3),
    )

-- what is said of items on so many cells, of this version, is said of the same items, cells and version
moved : (P : (Event → Data → Type 0) → Items → Type 0) (m n v w : ℕ) (ds es : Items) → (m ≡ n) × (v ≡ w) × (ds ≡ es)
    → P (SaysEvent n w) es → P (SaysEvent m v) ds
moved P m n v w ds es same said =
    subst (P (SaysEvent m v)) (sym same.2)
    (subst (λ x. P (SaysEvent m x) es) (sym same.1) (subst (λ x. P (SaysEvent x w) es) (sym same.0) said))

-- none of the items is another than these
none_other : {A : Type 0} (R : A → Data → Type 0) (n : ℕ) (xs : List A) (ds : Items) → AreItems R xs ds → IsFirstOther R n ds → ⊥
none_other R n xs no_items are first = first
none_other R zero xs (item d ds) are first = first
none_other R (suc zero) [] (item d ds) are first = are
none_other R (suc zero) (x ∷ xs) (item d ds) are first = first x are.0
none_other R (suc (suc n)) [] (item d ds) are first = are
none_other R (suc (suc n)) (x ∷ xs) (item d ds) are first = none_other R (suc n) xs ds are.1 first.1

-- one item is the first that is another
first_one : {A : Type 0} (R : A → Data → Type 0) (m n : ℕ) (ds : Items) → IsFirstOther R m ds → IsFirstOther R n ds → m ≡ n
first_one R m n no_items h k = absurd h
first_one R zero n (item d ds) h k = absurd h
first_one R (suc zero) zero (item d ds) h k = absurd k
first_one R (suc (suc m)) zero (item d ds) h k = absurd k
first_one R (suc zero) (suc zero) (item d ds) h k = refl
first_one R (suc zero) (suc (suc n)) (item d ds) h k = absurd (h k.0.0 k.0.1)
first_one R (suc (suc m)) (suc zero) (item d ds) h k = absurd (k h.0.0 h.0.1)
first_one R (suc (suc m)) (suc (suc n)) (item d ds) h k = ap suc (first_one R (suc m) (suc n) ds h.1 k.1)

abbrev script_with : ℕ → List Event → Script
script_with cells events = record { cells = cells; events = events }

script_one : (text : List ℕ) (a b : Script) → IsScript text a → IsScript text b → a ≡ b
script_one text a b h k =
    let same = frame_one text a.cells b.cells h.0 k.0 h.1 k.1 h.2 k.2 in
    let says = SaysEvent a.cells h.0 in
    let others : AreItems says b.events h.1 =
    moved (λ R ds. AreItems R b.events ds) a.cells b.cells h.0 k.0 h.1 k.1 same k.3 in
    let events : a.events ≡ b.events = items_one says (event_one a.cells h.0) a.events b.events h.1 h.3 others in
    ap (λ n. script_with n a.events) same.0 ∙ ap (script_with b.cells) events

no_fault : (text : List ℕ) (script : Script) (i : ℕ) → IsScript text script → IsScriptFault text i → ⊥
no_fault text script zero h fault = fault script.cells h.0 h.1 h.2
no_fault text script (suc n) h fault =
    let same = frame_one text script.cells fault.0 h.0 fault.1 h.1 fault.2 h.2 fault.3 in
    let other = moved (λ R ds. IsFirstOther R (suc n) ds) script.cells fault.0 h.0 fault.1 h.1 fault.2 same fault.4 in
    none_other (SaysEvent script.cells h.0) (suc n) script.events h.1 h.3 other

fault_one : (text : List ℕ) (i j : ℕ) → IsScriptFault text i → IsScriptFault text j → i ≡ j
fault_one text zero zero h k = refl
fault_one text zero (suc j) h k = absurd (h k.0 k.1 k.2 k.3)
fault_one text (suc i) zero h k = absurd (k h.0 h.1 h.2 h.3)
fault_one text (suc i) (suc j) h k =
    let same = frame_one text h.0 k.0 h.1 k.1 h.2 k.2 h.3 k.3 in
    let other = moved (λ R ds. IsFirstOther R (suc j) ds) h.0 k.0 h.1 k.1 h.2 k.2 same k.4 in
    first_one (SaysEvent h.0 h.1) (suc i) (suc j) h.2 h.4 other

pub texts_are_one_script : TextsAreOneScript
texts_are_one_script = record { one = script_one; none = no_fault; fault = fault_one }
