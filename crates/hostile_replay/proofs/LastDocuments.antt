-- The last document of an image is none of those before it.
use Rattle.std.proofs.Common.{◌≡◌, ◌≤◌, ◌<◌, ◌+◌, ⊎_elim, ℕ, List, [], ◌∷◌, ◌++◌, length, ap, arith, length-append}
use Rattle.std.specs.Prelude.{Contains}
use Rattle.std.proofs.lemmas.List.Elements.{Contains-append_cases, Contains-push_cases}
use Rattle.cell_types.specs.Image.{Image}
use Rattle.volume_meaning.specs.Documents.{Document, Rise}
use Rattle.tamper_rules.specs.Settling.{Held, none, of_after}

none_in : (d : Document) → Contains [] d → ⊥
none_in d c = omega (arith, c.1)

-- slots rise along a list of documents, up to the last
last_from : (from : ℕ) (ds : List Document) (d : Document) → Rise from (ds ++ d ∷ []) → from ≤ d.slot
last_from from [] d rise = rise.0
last_from from (x ∷ ds) d rise = omega (arith, rise.0, last_from (x.slot + 1) ds d rise.1)

the_one : (d e : Document) → Contains (d ∷ []) e → d ≡ e
the_one d e among = ⊎_elim (λ (c : Contains [] e). absurd (none_in e c)) (λ (same : d ≡ e). same)
    (Contains-push_cases [] d e among)

last_is_greatest : (from : ℕ) (ds : List Document) (d e : Document) → Rise from (ds ++ d ∷ []) → Contains ds e
    → e.slot < d.slot
last_is_greatest from [] d e rise among = absurd (none_in e among)
last_is_greatest from (x ∷ ds) d e rise among = ⊎_elim
    (λ (here : Contains (x ∷ []) e).
    omega (arith, last_from (x.slot + 1) ds d rise.1, ap (λ (y : Document). y.slot) (the_one x e here)))
    (λ (later : Contains ds e). last_is_greatest (x.slot + 1) ds d e rise.1 later)
    (Contains-append_cases (x ∷ []) ds e among)

-- a document that stands behind the others of an image is not among them
pub last_is_new : (cells : ℕ) (image : Image) (ds : List Document) (d : Document) → Held cells image (ds ++ d ∷ [])
    → Contains ds d → ⊥
last_is_new cells image ds d (none blank is) among =
    omega (arith, length-append ds (d ∷ []), ap (λ (l : List Document). length l) is)
last_is_new cells image ds d (of_after after a are) among =
    let less = last_is_greatest 0 ds d d are.rise among in omega (arith, less)
