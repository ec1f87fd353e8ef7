-- The least broken cell of several parts of a rule, found by going through the parts in any order.
use Rattle.std.proofs.Common.{◌≡◌, ◌<◌, ◌≤◌, ◌+◌, ⊎_elim, ℕ, Option, Some, None, Bool, true, false, refl, sym, subst, ap, arith}
use Rattle.std.specs.Prelude.{nat_le, if◌then◌else◌}
use Rattle.std.proofs.lemmas.Bool.Decides.{nat_tests}
use Rattle.cell_types.specs.Image.{Image}
use Rattle.cell_types.specs.Layout.{Layout}
use Rattle.cell_types.specs.declared.refusal.Evidence.{Evidence}
use Rattle.volume_meaning.specs.Volumes.{IsWritten}
use Rattle.tamper_rules.specs.Rules.{Rule, IsMet, IsPlace, number_of}
use Rattle.log_audit.specs.Findings.{FindsBroken}
use Rattle.log_audit.specs.Least.{IsLeastOf, FindsPart, LiesBehind, lower_finding}
use Rattle.log_audit.proofs.Families.{AreFine}
use Rattle.log_audit.proofs.Orders.{below_or_at}

nat_le_true : (a b : ℕ) → nat_le a b ≡ true → a ≤ b
nat_le_true a b e = grind (arith, nat_tests)

nat_le_false : (a b : ℕ) → nat_le a b ≡ false → b < a
nat_le_false a b e = grind (arith, nat_tests)

-- what the first n of a row of parts ask of a cell
abbrev pub AskedBelow : (ℕ → ℕ → Type 0) → ℕ → ℕ → Type 0
AskedBelow Asked n cell = (part : ℕ) → part < n → Asked part cell

module _ (g : Layout) (image : Image) (rule : Rule) where
  -- what finds for one part finds for each that asks the same
  pub as_asked : (P Q : ℕ → Type 0) (found : Option Evidence) → FindsPart g image rule P found
      → ((cell : ℕ) → P cell → Q cell) → ((cell : ℕ) → Q cell → P cell) → FindsPart g image rule Q found
  as_asked P Q None p to from = λ cell written. to cell (p cell written)
  as_asked P Q (Some e) p to from = record {
    number = p.number;
    place = p.place;
    stands = p.stands;
    broken = λ q. p.broken (from e.cell q);
    below = λ cell less written. to cell (p.below cell less written);
  }

  -- the lower of the findings for two parts finds for both
  pub both_parts : (P Q : ℕ → Type 0) (one other : Option Evidence)
      → FindsPart g image rule P one → FindsPart g image rule Q other
      → FindsPart g image rule (λ cell. P cell × Q cell) (lower_finding one other)
  both_parts P Q None None p q = λ cell written. (p cell written, q cell written)
  both_parts P Q None (Some f) p q = record {
    number = q.number;
    place = q.place;
    stands = q.stands;
    broken = λ h. q.broken h.1;
    below = λ cell less written. (p cell written, q.below cell less written);
  }
  both_parts P Q (Some e) None p q = record {
    number = p.number;
    place = p.place;
    stands = p.stands;
    broken = λ h. p.broken h.0;
    below = λ cell less written. (p.below cell less written, q cell written);
  }
  both_parts P Q (Some e) (Some f) p q = which (nat_le e.cell f.cell) refl
    where
      which : (b : Bool) → nat_le e.cell f.cell ≡ b
          → FindsPart g image rule (λ cell. P cell × Q cell) (if nat_le e.cell f.cell then Some e else Some f)
      which true le =
          subst (FindsPart g image rule (λ cell. P cell × Q cell)) (sym (ap (λ (c : Bool). if c then Some e else Some f) le)) (record {
            number = p.number;
            place = p.place;
            stands = p.stands;
            broken = λ h. p.broken h.0;
            below = λ cell less written.
                (p.below cell less written, q.below cell (omega (arith, less, nat_le_true e.cell f.cell le)) written);
          })
      which false gt =
          subst (FindsPart g image rule (λ cell. P cell × Q cell)) (sym (ap (λ (c : Bool). if c then Some e else Some f) gt)) (record {
            number = q.number;
            place = q.place;
            stands = q.stands;
            broken = λ h. q.broken h.1;
            below = λ cell less written.
                (p.below cell (omega (arith, less, nat_le_false e.cell f.cell gt)) written, q.below cell less written);
          })

  -- no part asks nothing
  pub no_part : (Asked : ℕ → ℕ → Type 0) → FindsPart g image rule (AskedBelow Asked 0) None
  no_part Asked = λ cell written part less. absurd (omega (arith, less))

  -- one part more
  pub one_part : (Asked : ℕ → ℕ → Type 0) (n : ℕ) (one other : Option Evidence)
      → FindsPart g image rule (AskedBelow Asked n) one → FindsPart g image rule (Asked n) other
      → FindsPart g image rule (AskedBelow Asked (n + 1)) (lower_finding one other)
  one_part Asked n one other before here = as_asked (λ cell. AskedBelow Asked n cell × Asked n cell) (AskedBelow Asked (n + 1))
      (lower_finding one other) (both_parts (AskedBelow Asked n) (Asked n) one other before here)
      (λ cell both part less. ⊎_elim
      (λ (earlier : part < n). both.0 part earlier)
      (λ (same : part ≡ n). subst (λ (k : ℕ). Asked k cell) (sym same) both.1)
      (below_or_at part n less))
      (λ cell each. (λ part less. each part (omega (arith, less)), each n (omega arith)))

  -- a part that asks nothing before a cell behind what was found
  pub part_behind : (Asked : ℕ → ℕ → Type 0) (n from : ℕ) (found : Option Evidence)
      → FindsPart g image rule (AskedBelow Asked n) found → LiesBehind found from → ((cell : ℕ) → cell < from → Asked n cell)
      → FindsPart g image rule (AskedBelow Asked (n + 1)) found
  part_behind Asked n from None finds behind nothing = absurd behind
  part_behind Asked n from (Some e) finds behind nothing = record {
    number = finds.number;
    place = finds.place;
    stands = finds.stands;
    broken = λ each. finds.broken (λ part less. each part (omega (arith, less)));
    below = λ cell less written part before. ⊎_elim
        (λ (earlier : part < n). finds.below cell less written part earlier)
        (λ (same : part ≡ n). subst (λ (k : ℕ). Asked k cell) (sym same) (nothing cell (omega (arith, less, behind))))
        (below_or_at part n before);
  }

  -- what asks no more and no less than the rule finds for the rule
  pub finds_all : (Asked : ℕ → Type 0) (found : Option Evidence) → FindsPart g image rule Asked found
      → ((cell : ℕ) → Asked cell → IsMet g image rule cell) → ((cell : ℕ) → IsMet g image rule cell → Asked cell)
      → FindsBroken g image rule found
  finds_all Asked None p to from = λ cell written. to cell (p cell written)
  finds_all Asked (Some e) p to from = record {
    number = p.number;
    place = p.place;
    stands = p.stands;
    not_met = λ met. p.broken (from e.cell met);
    below = λ cell less written. to cell (p.below cell less written);
  }

  -- All n places of a part are fine, and the part asks no more of a cell than its places do.
  pub part_met : (Asked : ℕ → Type 0) (at : ℕ → ℕ) (Fine : ℕ → Type 0) (n : ℕ)
      → ((cell : ℕ) → ((k : ℕ) → k < n → cell ≡ at k → Fine k) → Asked cell)
      → AreFine image at Fine n → FindsPart g image rule Asked None
  part_met Asked at Fine n met fine = λ cell written. met cell
      (λ k less same. fine k less (subst (IsWritten image) same written))

  -- The places of a part rise, those below n are fine, and the one at n is not.
  pub first_of_part : (Asked : ℕ → Type 0) (at : ℕ → ℕ) (Fine : ℕ → Type 0) (n size : ℕ) (e : Evidence)
      → ((cell : ℕ) → ((k : ℕ) → k < size → cell ≡ at k → Fine k) → Asked cell)
      → (Asked e.cell → Fine n)
      → ((a b : ℕ) → at a < at b → a < b)
      → AreFine image at Fine n → (Fine n → ⊥)
      → e.rule ≡ number_of rule → IsPlace g rule e.cell → image e.cell ≡ Some e.found → e.cell ≡ at n
      → IsLeastOf g image rule Asked e
  first_of_part Asked at Fine n size e met unmet rises fine broken number place stands same = record {
    number = number;
    place = place;
    stands = stands;
    broken = λ is. broken (unmet is);
    below = λ cell less written. met cell (λ k inside here.
        fine k (rises k n (omega (arith, less, same, here))) (subst (IsWritten image) here written));
  }
