-- The words are the image and those behind it.
use Rattle.std.proofs.Common.{◌≡◌, ℕ, List, ◌∷◌, map, refl, sym, ap, subst, ◌∙◌}
use Rattle.std.specs.Prelude.{codes}
use Rattle.std.specs.String.{string_bytes}
use Rattle.std.proofs.lemmas.Bool.{false≢true}
use Rattle.std.proofs.lemmas.Slice.Eq.{bytes_eq-Decides}
use Rattle.program.specs.Asking.{IsHyphened}
use Rattle.program.specs.Carrying.{no_image, in_memory, on_file, on_two_files}
use Rattle.program.proofs.OneFile.{same_path}
use Rattle.program.proofs.carrying.carry_out.Goals as goal

pub returns-then-asks_to_copy : goal.returns-then-asks_to_copy
returns-then-asks_to_copy g c =
    let words = ap (map string_bytes) (sym c.deref.ensures.value ∙ c.in-Some.ensures.cases.0) in
    on_two_files _ _ words (c.asks_to_copy.ensures.0 c.if-asks_to_copy.true) refl c.copy.ensures

pub returns-then-eq : goal.returns-then-eq
returns-then-eq g c =
    let words = ap (map string_bytes) (sym c.deref.ensures.value ∙ c.in-Some.ensures.cases.0) in
    let same = bytes_eq-Decides c.as_str.result.now (codes "-") in
    let image : string_bytes c.in-Some.image.now ≡ codes "-" =
    sym c.as_str.ensures.value ∙ same.0 (sym c.eq.ensures ∙ c.if-eq.true) in
    in_memory (map string_bytes c.in-Some.rest.now)
    (words ∙ ap (λ (w : List ℕ). w ∷ map string_bytes c.in-Some.rest.now) image)
    (λ is. false≢true (sym c.if-asks_to_copy.false ∙ c.asks_to_copy.ensures.1 is)) refl c.work_in_memory.ensures

pub returns-then-is_hyphened : goal.returns-then-is_hyphened
returns-then-is_hyphened g c =
    let words = ap (map string_bytes) (sym c.deref.ensures.value ∙ c.in-Some.ensures.cases.0) in
    let same = bytes_eq-Decides c.as_str.result.now (codes "-") in
    no_image _ _ words (λ is. false≢true (sym c.if-asks_to_copy.false ∙ c.asks_to_copy.ensures.1 is))
    (subst IsHyphened c.as_bytes.ensures.value (c.is_hyphened.ensures.0 c.if-is_hyphened.true))
    (λ image. false≢true (sym c.if-eq.false ∙ c.eq.ensures ∙ same.1 (c.as_str.ensures.value ∙ image))) refl refl

pub returns : goal.returns
returns g c =
    let words = ap (map string_bytes) (sym c.deref.ensures.value ∙ c.in-Some.ensures.cases.0) in
    on_file _ _ words (λ is. false≢true (sym c.if-asks_to_copy.false ∙ c.asks_to_copy.ensures.1 is))
    (λ is. false≢true (sym c.if-is_hyphened.false
    ∙ c.is_hyphened.ensures.1 (subst IsHyphened (sym c.as_bytes.ensures.value) is)))
    (same_path _ _ _ _ _ _ _ _ c.as_str-2.ensures.value c.work_on_file.ensures)
