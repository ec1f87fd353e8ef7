-- What a blank or sound image holds comes first in what each such image that extends it holds.
use Rattle.std.proofs.Common.{◌≡◌, ⊎_elim, ℕ, List, ◌++◌, None, ap, sym, ◌∙◌, subst}
use Rattle.std.specs.Prelude.{Contains}
use Rattle.std.proofs.lemmas.List.Elements.{Contains-append_left}
use Rattle.std.proofs.lemmas.Option.{none-some}
use Rattle.cell_types.specs.Image.{Image, Extends}
use Rattle.cell_types.specs.Layout.{Layout}
use Rattle.volume_meaning.specs.Documents.{Document}
use Rattle.volume_meaning.specs.Volumes.{IsVolume}
use Rattle.volume_meaning.proofs.Extending.{volume_on}
use Rattle.tamper_rules.specs.Settling.{IsBlankOrSound, Sound, Held, none, of_after}
use Rattle.tamper_rules.proofs.Between.{volume_of}
use Rattle.tamper_rules.proofs.HeldFirst.{first_of_both}
use Rattle.tamper_rules.proofs.SameDocuments.{held_of, settled_for}

pub held_first : (cells : ℕ) (lower upper : Image) (ds es : List Document) → IsBlankOrSound cells lower
    → IsBlankOrSound cells upper → Extends lower upper → Held cells lower ds → Held cells upper es
    → (more : List Document) × (es ≡ ds ++ more)
held_first cells lower upper ds es low high e (none blank is) held =
    (es, ap (λ (l : List Document). l ++ es) (sym is))
held_first cells lower upper ds es low high e (of_after after a are) held =
    let v = volume_of a in
    let here : IsVolume (v.0).cells lower v.0 = subst (λ (c : ℕ). IsVolume c lower v.0) (sym (v.1).size) v.1 in
    let stands = (v.1).volume.stands in
    ⊎_elim
    (λ (blank : (cell : ℕ) → lower cell ≡ None). absurd (none-some _ (sym (blank 0) ∙ stands)))
    (λ (s : Sound cells lower). ⊎_elim
    (λ (blank : (cell : ℕ) → upper cell ≡ None). absurd (none-some _ (sym (blank 0) ∙ e.keeps 0 _ stands)))
    (λ (t : Sound cells upper).
    let s' = subst (λ (c : ℕ). Sound c lower) (sym (v.1).size) s in
    let t' = subst (λ (c : ℕ). Sound c upper) (sym (v.1).size) t in
    first_of_both here e s'.is t'.is (settled_for here s') (settled_for (volume_on e here) t') ds es
    (held_of here s' ds (subst (λ (c : ℕ). Held c lower ds) (sym (v.1).size) (of_after after a are)))
    (held_of (volume_on e here) t' es (subst (λ (c : ℕ). Held c upper es) (sym (v.1).size) held)))
    high)
    low

-- so each document that the earlier one holds is held by the later one
pub held_up : (cells : ℕ) (lower upper : Image) (ds es : List Document) → IsBlankOrSound cells lower
    → IsBlankOrSound cells upper → Extends lower upper → Held cells lower ds → Held cells upper es → (d : Document)
    → Contains ds d → Contains es d
held_up cells lower upper ds es low high e one other d among =
    let first = held_first cells lower upper ds es low high e one other in
    subst (λ (l : List Document). Contains l d) (sym first.1) (Contains-append_left ds first.0 d among)
