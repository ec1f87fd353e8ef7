-- The words name two images.
use Rattle.std.proofs.Common.{map, sym, ap, subst, ◌∙◌, inl, inr}
use Rattle.std.specs.String.{string_bytes}
use Rattle.std.proofs.lemmas.Bool.{false≢true}
use Rattle.program.specs.Asking.{IsHyphened}
use Rattle.program.proofs.TwoFiles.{not_images, works_onto}
use Rattle.program.proofs.copying.copy.Goals as goal

pub returns-then-is_hyphened : goal.returns-then-is_hyphened
returns-then-is_hyphened g c =
    not_images _ _ _ _ _ _ _ _ c.in-Some.ensures.some
    (ap (map string_bytes) (sym c.deref.ensures.value ∙ c.in-Some-split_first.ensures.cases.0))
    (inl (subst IsHyphened c.as_bytes.ensures.value (c.is_hyphened.ensures.0 c.if-is_hyphened.true)))

pub returns-then-is_hyphened-2 : goal.returns-then-is_hyphened-2
returns-then-is_hyphened-2 g c =
    not_images _ _ _ _ _ _ _ _ c.in-Some.ensures.some
    (ap (map string_bytes) (sym c.deref.ensures.value ∙ c.in-Some-split_first.ensures.cases.0))
    (inr (subst IsHyphened c.as_bytes-2.ensures.value (c.is_hyphened-2.ensures.0 c.if-is_hyphened-2.true)))

pub returns : goal.returns
returns g c =
    works_onto _ _ _ _ _ _ _ _ _ _ _ _ _ c.in-Some.ensures.some
    (ap (map string_bytes) (sym c.deref.ensures.value ∙ c.in-Some-split_first.ensures.cases.0))
    (λ is. false≢true (sym c.if-is_hyphened.false
    ∙ c.is_hyphened.ensures.1 (subst IsHyphened (sym c.as_bytes.ensures.value) is)))
    (λ is. false≢true (sym c.if-is_hyphened-2.false
    ∙ c.is_hyphened-2.ensures.1 (subst IsHyphened (sym c.as_bytes-2.ensures.value) is)))
    c.as_str.ensures.value c.as_str-2.ensures.value c.copy_onto.ensures
