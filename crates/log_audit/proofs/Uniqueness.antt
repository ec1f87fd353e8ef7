-- There is one evidence of an image.
use Rattle.std.proofs.Common.{◌≡◌, ⊎_elim, ℕ, List, Some, sym, ◌∙◌, subst, ap}
use Rattle.std.proofs.lemmas.Bool.{cases_order}
use Rattle.cell_types.specs.Image.{Image}
use Rattle.cell_types.specs.Layout.{Layout}
use Rattle.cell_types.specs.declared.refusal.Evidence.{Evidence}
use Rattle.tamper_rules.specs.Rules.{Rule, number_of}
use Rattle.log_audit.specs.Findings.{IsFirstBroken, IsLeastBroken, IsMetAll}
use Rattle.log_audit.proofs.Numbers.{one_rule}

module _ {g : Layout} {image : Image} where
  -- a rule with evidence is not kept
  not_kept : {rule : Rule} {e : Evidence} → IsLeastBroken g image rule e → IsMetAll g image rule → ⊥
  not_kept {rule} {e} least met = least.not_met (met e.cell (record { found = e.found; stands = least.stands }))

  -- of one rule there is one least cell, and what stands there is one
  least_is_one : {rule : Rule} {a b : Evidence} → IsLeastBroken g image rule a → IsLeastBroken g image rule b → a ≡ b
  least_is_one {rule} {a} {b} one other = ⊎_elim
      (λ (same : a.cell ≡ b.cell).
      let both : Some a.found ≡ Some b.found = sym one.stands ∙ ap image same ∙ other.stands in
      let found : a.found ≡ b.found = cc in
      ap (λ (n : ℕ). record { rule = n; cell = a.cell; found = a.found }) (one.number ∙ sym other.number)
      ∙ ap (λ (n : ℕ). record { rule = b.rule; cell = n; found = a.found }) same
      ∙ ap (λ (v : List ℕ). record { rule = b.rule; cell = b.cell; found = v }) found)
      (λ differ. ⊎_elim
      (λ before. absurd (one.not_met (other.below a.cell before (record { found = a.found; stands = one.stands }))))
      (λ behind. absurd (other.not_met (one.below b.cell behind (record { found = b.found; stands = other.stands }))))
      differ)
      (cases_order a.cell b.cell)

-- and of all rules there is one least that is broken
pub first_is_one : (g : Layout) (image : Image) (a b : Evidence) → IsFirstBroken g image a → IsFirstBroken g image b → a ≡ b
first_is_one g image a b one other = ⊎_elim
    (λ (same : number_of one.rule ≡ number_of other.rule).
    least_is_one one.least (subst (λ (rule : Rule). IsLeastBroken g image rule b) (sym (one_rule one.rule other.rule same)) other.least))
    (λ differ. ⊎_elim
    (λ before. absurd (not_kept one.least (other.lower one.rule before)))
    (λ behind. absurd (not_kept other.least (one.lower other.rule behind)))
    differ)
    (cases_order (number_of one.rule) (number_of other.rule))
