-- The numbers of the rules: each rule has its own, from 1 to 15.
use Rattle.std.proofs.Common.{◌≡◌, ◌<◌, ◌≤◌, ◌+◌, ◌⊎◌, ◌==◌, ⊎_elim, ℕ, refl, sym, ◌∙◌, subst, ap, arith}
use Rattle.std.specs.Prelude.{if◌then◌else◌}
use Rattle.cell_types.specs.Image.{Image}
use Rattle.cell_types.specs.Layout.{Layout}
use Rattle.tamper_rules.specs.Rules.{Rule, number_of, ReserveCells, OutcomeCells, DoneCells, Documents, Journals, Targets, StrayCells, Entries, Postings, Pointers, Buckets, Children, Trails, Paths, Tilings}
use Rattle.log_audit.specs.Findings.{IsMetAll, AreMetBelow}

abbrev rule_of : ℕ → Rule
rule_of n = if n == 1 then ReserveCells else if n == 2 then OutcomeCells else if n == 3 then DoneCells
    else if n == 4 then Documents else if n == 5 then Journals else if n == 6 then Targets
    else if n == 7 then StrayCells else if n == 8 then Entries else if n == 9 then Postings
    else if n == 10 then Pointers else if n == 11 then Buckets else if n == 12 then Children
    else if n == 13 then Trails else if n == 14 then Paths else Tilings

there : (rule : Rule) → (rule_of (number_of rule) ≡ rule) × (1 ≤ number_of rule) × (number_of rule ≤ 15)
there ReserveCells = (refl, omega arith, omega arith)
there OutcomeCells = (refl, omega arith, omega arith)
there DoneCells = (refl, omega arith, omega arith)
there Documents = (refl, omega arith, omega arith)
there Journals = (refl, omega arith, omega arith)
there Targets = (refl, omega arith, omega arith)
there StrayCells = (refl, omega arith, omega arith)
there Entries = (refl, omega arith, omega arith)
there Postings = (refl, omega arith, omega arith)
there Pointers = (refl, omega arith, omega arith)
there Buckets = (refl, omega arith, omega arith)
there Children = (refl, omega arith, omega arith)
there Trails = (refl, omega arith, omega arith)
there Paths = (refl, omega arith, omega arith)
there Tilings = (refl, omega arith, omega arith)

-- no two rules have one number
pub one_rule : (a b : Rule) → number_of a ≡ number_of b → a ≡ b
one_rule a b e = sym (there a).0 ∙ ap rule_of e ∙ (there b).0

-- no rule has a lower number than 1
pub below_1 : (g : Layout) (image : Image) → AreMetBelow g image 1
below_1 g image rule less = absurd (omega (arith, less, (there rule).1))

-- below the next number lies this one, and what lies below it
pub below_next : {g : Layout} {image : Image} (rule : Rule) → AreMetBelow g image (number_of rule) → IsMetAll g image rule
    → AreMetBelow g image (number_of rule + 1)
below_next {g} {image} rule lower here other less = ⊎_elim
    (λ (below : number_of other < number_of rule). lower other below)
    (λ (same : number_of other ≡ number_of rule). subst (IsMetAll g image) (sym (one_rule other rule same)) here)
    (order (number_of other) (number_of rule) less)
  where
    order : (m n : ℕ) → m < n + 1 → (m < n) ⊎ (m ≡ n)
    order m n h = grind arith

-- each rule has a number below 16
pub below_16 : {g : Layout} {image : Image} → AreMetBelow g image 16 → (rule : Rule) → IsMetAll g image rule
below_16 met rule = met rule (omega (arith, (there rule).2))
