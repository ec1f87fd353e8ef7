-- Where each image between two is blank or sound, it holds the documents of the lower or those of the upper; and an
-- image holds one list of documents.
use Rattle.std.proofs.Common.{◌≡◌, ◌<◌, ◌⊎◌, ⊎_elim, inl, inr, ℕ, suc, zero, List, Some, None, refl, sym, ◌∙◌, subst, ap, arith}
use Rattle.std.proofs.lemmas.Option.{none-some}
use Rattle.cell_types.specs.Image.{Image, Extends}
use Rattle.cell_types.specs.Layout.{Layout}
use Rattle.volume_meaning.specs.Documents.{Document, AreDocuments}
use Rattle.volume_meaning.specs.Volumes.{IsVolume}
use Rattle.volume_meaning.proofs.Extending.{blank_before}
use Rattle.volume_meaning.proofs.Holding.{some_is}
use Rattle.volume_meaning.proofs.Lists.{lists_one}
use Rattle.tamper_rules.specs.Settling.{After, Sound, IsBlankOrSound, Held, none, of_after}
use Rattle.tamper_rules.proofs.Between.{volume_of}
use Rattle.tamper_rules.proofs.Images.{look, same_image}
use Rattle.tamper_rules.proofs.OneAfter.{one_after}
use Rattle.tamper_rules.proofs.SameDocuments.{holds_two}
use Rattle.tamper_rules.proofs.Writing.{put_cell, put_there, put_other, same_or_not}

-- what settling makes something of is not blank
not_blank : {cells : ℕ} {image after : Image} → After cells image after → image 0 ≡ None → ⊥
not_blank a blank = let v = volume_of a in none-some _ (sym blank ∙ (v.1).volume.stands)

pub held_one : (cells : ℕ) (image : Image) (one other : List Document) → Held cells image one
    → Held cells image other → one ≡ other
held_one cells image one other (none blank is) (none blank' is') = is ∙ sym is'
held_one cells image one other (none blank is) (of_after after a are) = absurd (not_blank a (blank 0))
held_one cells image one other (of_after after a are) (none blank is) = absurd (not_blank a (blank 0))
held_one cells image one other (of_after after a are) (of_after after' a' are') =
    lists_one cells after' one other (subst (λ (i : Image). AreDocuments cells i one)
    (one_after cells image after after' a a') are) are'

-- the documents of one of two images
abbrev HoldsOneOf : ℕ → Image → Image → Image → Type 0
HoldsOneOf cells low high image =
    ((documents : List Document) → Held cells low documents → Held cells image documents)
    ⊎ ((documents : List Document) → Held cells high documents → Held cells image documents)

module _ {cells : ℕ} {low high image : Image} (steady : (other : Image) → Extends low other → Extends other high
    → IsBlankOrSound cells other)
    (e : Extends low image) (f : Extends image high) where
  -- where the lower one is sound, so is each
  from_sound : (g : Layout) → IsVolume cells low g → HoldsOneOf cells low high image
  from_sound g v =
      let here : IsVolume g.cells low g = subst (λ (c : ℕ). IsVolume c low g) (sym v.size) v in
      let sound : (other : Image) → Extends low other → Extends other high → Sound g.cells other = λ other p q.
      ⊎_elim
      (λ (blank : (cell : ℕ) → other cell ≡ None). absurd (none-some _ (sym (blank 0) ∙ p.keeps 0 _ v.volume.stands)))
      (λ (s : Sound cells other). subst (λ (c : ℕ). Sound c other) (sym v.size) s)
      (steady other p q) in
      subst (λ (c : ℕ). HoldsOneOf c low high image) v.size (holds_two here sound e f)

  -- where the lower one is blank, nothing stands in the upper one but its volume cell
  module _ (blank : (cell : ℕ) → low cell ≡ None) where
    no_other : (cell : ℕ) (value : List ℕ) → 0 < cell → high cell ≡ Some value → ⊥
    no_other cell value above stands =
        let one : Image = put_cell (λ at. None) cell value in
        let here : one cell ≡ Some value = put_there (λ at. None) cell value cell refl in
        let first : one 0 ≡ None = put_other (λ at. None) cell value 0 (λ same. omega arith) in
        ⊎_elim
        (λ (all_blank : (at : ℕ) → one at ≡ None). none-some _ (sym (all_blank cell) ∙ here))
        (λ (s : Sound cells one). not_blank s.is first)
        (steady one
        (record { keeps = λ at found is. absurd (none-some found (sym (blank at) ∙ is)) })
        (record {
          keeps = λ at found is. ⊎_elim
              (λ (same : at ≡ cell).
              let same_value : found ≡ value =
              some_is found value (sym is ∙ put_there (λ i. None) cell value at same) in
              ap high same ∙ stands ∙ ap (λ (v : List ℕ). Some v) (sym same_value))
              (λ (other : at ≡ cell → ⊥). absurd (none-some found
              (sym (put_other (λ i. None) cell value at other) ∙ is)))
              (same_or_not at cell);
        }))

    same_as_high : (g : Layout) → IsVolume cells image g → (cell : ℕ) → high cell ≡ image cell
    same_as_high g v zero = f.keeps 0 _ v.volume.stands ∙ sym v.volume.stands
    same_as_high g v (suc n) = ⊎_elim
        (λ (lacks : high (suc n) ≡ None). lacks ∙ sym (blank_before f lacks))
        (λ (w : (value : List ℕ) × (high (suc n) ≡ Some value)). absurd (no_other (suc n) w.0 (omega arith) w.1))
        (look high (suc n))

    from_blank : HoldsOneOf cells low high image
    from_blank = ⊎_elim
        (λ (all_blank : (cell : ℕ) → image cell ≡ None). inl (none_held all_blank))
        (λ (s : Sound cells image). let v = volume_of s.is in
        let same : high ≡ image = same_image (same_as_high v.0 v.1) in
        inr (λ documents held. subst (λ (i : Image). Held cells i documents) same held))
        (steady image e f)
      where
        none_held : ((cell : ℕ) → image cell ≡ None) → (documents : List Document) → Held cells low documents
            → Held cells image documents
        none_held all_blank documents (none low_blank is) = none all_blank is
        none_held all_blank documents (of_after after a are) = absurd (not_blank a (blank 0))

  pub steady_two : HoldsOneOf cells low high image
  steady_two = ⊎_elim
      from_blank
      (λ (s : Sound cells low). let v = volume_of s.is in from_sound v.0 v.1)
      (steady low (record { keeps = λ cell value is. is })
      (record { keeps = λ cell value is. f.keeps cell value (e.keeps cell value is) }))
