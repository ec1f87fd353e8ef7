-- The rows that lists of terms are made of tell what is read, and the terms.
use Rattle.std.proofs.Common.{◌≡◌, ◌<◌, ◌≤◌, ◌+◌, ◌-◌, ◌*◌, ◌^◌, length, arith, ℕ, List, [], ◌∷◌, map, Option, Some, None, Result, Ok, Err, refl, ap, sym, subst, ◌∙◌}
use Rattle.cell_types.specs.declared.refusal.Fault.{Fault}
use Rattle.cell_types.specs.declared.refusal.Fault.TheVariants.{Tampered, Failed}
use Rattle.worm_device.specs.Views.{ViewState}
use Rattle.zigzag_join.specs.Counts.{GatherCosts, JoinCosts}
use Rattle.std.proofs.lemmas.Nat.{mul-le}
use Rattle.zigzag_join.specs.Joins.{JoinEnds}
use Rattle.zigzag_join.specs.Lists.{Keeps}
use Rattle.zigzag_join.proofs.Joining.{reads_of}
use Rattle.std.specs.Global.{Vec}
use Rattle.cell_types.specs.declared.refusal.Refusal.{Refusal}
use Rattle.cell_types.specs.declared.refusal.Refusal.TheVariants as refusals
use Rattle.document_store.specs.declared.part.Part.{Part}
use Rattle.posting_list.specs.Joins.{GatherPartsEnds, TermsCost, TermsGather, TermsGatherCost, TermsGatherReads, TermsJoin, gather_reads}
use Rattle.posting_list.specs.States.{counted_lists, lists_over, row_of, term_row}
use Rattle.posting_list.specs.declared.reach.Reach.{Reach}
use Rattle.posting_list.specs.declared.sought_term.SoughtTerm.{SoughtTerm}

-- what is read, by its row
reach_of : List ℕ → Option Reach
reach_of (version ∷ slots ∷ lists ∷ cells ∷ stated ∷ horizon ∷ pool ∷ edge ∷ []) = Some (record {
  volume = record {
    version = version;
    geometry = record { slots = slots; lists = lists; cells = cells; version = stated };
  };
  horizon = horizon;
  bounds = record { pool = pool; edge = edge };
})
reach_of other = None

-- a term, by its row
terms_of : List (List ℕ) → List SoughtTerm
terms_of [] = []
terms_of ([] ∷ rows) = terms_of rows
terms_of ((list ∷ tag) ∷ rows) = record { list = list; tag = tag } ∷ terms_of rows

reach_back : (r : Reach) → reach_of (row_of r) ≡ Some r
unfolding reach_of
reach_back r = refl

terms_back : (terms : List SoughtTerm) → terms_of (map term_row terms) ≡ terms
unfolding terms_of
terms_back [] = refl
terms_back (t ∷ terms) = ap (λ (ts : List SoughtTerm). t ∷ ts) (terms_back terms)

some_reach : (a b : Reach) → Some a ≡ Some b → a ≡ b
some_reach a b e = cc

-- the first number of the first row
first : List (List ℕ) → ℕ
first ((n ∷ row) ∷ rows) = n
first other = 0

first_of : (n : ℕ) (row : List ℕ) (rows : List (List ℕ)) → first ((n ∷ row) ∷ rows) ≡ n
unfolding first
first_of n row rows = refl

-- the second row
second : List (List ℕ) → List ℕ
second (a ∷ b ∷ rows) = b
second other = []

-- those behind it
behind : List (List ℕ) → List (List ℕ)
behind (a ∷ b ∷ rows) = rows
behind other = []

second_of : (a b : List ℕ) (rows : List (List ℕ)) → second (a ∷ b ∷ rows) ≡ b
unfolding second
second_of a b rows = refl

behind_of : (a b : List ℕ) (rows : List (List ℕ)) → behind (a ∷ b ∷ rows) ≡ rows
unfolding behind
behind_of a b rows = refl

module _ (r q : Reach) (terms others : List SoughtTerm) (loan name : ℕ) (s t : ViewState)
    (same : (lists_over q others name t).made_of ≡ (lists_over r terms loan s).made_of) where
  pub same_reach : q ≡ r
  same_reach = some_reach q r (sym (reach_back q)
      ∙ ap reach_of (sym (second_of (name ∷ t.loans) (row_of q) (map term_row others)) ∙ ap second same
      ∙ second_of (loan ∷ s.loans) (row_of r) (map term_row terms)) ∙ reach_back r)

  pub same_terms : others ≡ terms
  same_terms = sym (terms_back others)
      ∙ ap terms_of (sym (behind_of (name ∷ t.loans) (row_of q) (map term_row others)) ∙ ap behind same
      ∙ behind_of (loan ∷ s.loans) (row_of r) (map term_row terms)) ∙ terms_back terms

  -- and the name of the loan
  pub same_loan : name ≡ loan
  same_loan = sym (first_of name t.loans (row_of q ∷ map term_row others)) ∙ ap first same
      ∙ first_of loan s.loans (row_of r ∷ map term_row terms)

-- What a join answers of lists is the same whatever the loan is called. So where the lists are made of the same at the
-- end, it answers of the terms that it was asked for.
pub joins_these : (r q : Reach) (terms others : List SoughtTerm) (loan name from : ℕ) (s t : ViewState) (n h i j : ℕ)
    (result : Result (Option ℕ) Fault) → (lists_over q others name t).made_of ≡ (lists_over r terms loan s).made_of
    → JoinEnds from (counted_lists r terms loan s n h) (counted_lists q others name t i j) result
    → TermsJoin r terms from s t result
joins_these r q terms others loan name from s t n h i j result same ends =
    unnamed result
    (subst (λ (k : Reach). JoinEnds from (counted_lists r terms loan s n h) (counted_lists k terms name t i j) result)
    (same_reach r q terms others loan name s t same)
    (subst
    (λ (ts : List SoughtTerm). JoinEnds from (counted_lists r terms loan s n h) (counted_lists q ts name t i j) result)
    (same_terms r q terms others loan name s t same) ends)) where
      unnamed : (result : Result (Option ℕ) Fault)
          → JoinEnds from (counted_lists r terms loan s n h) (counted_lists r terms name t i j) result
          → TermsJoin r terms from s t result
      unnamed (Ok (Some n)) ends = record { ends = ends }
      unnamed (Ok None) ends = record { ends = ends }
      unnamed (Err Failed) ends = record { ends = ends }
      unnamed (Err (Tampered e)) ends = record { ends = ends }

-- What it costs is told by the postings at entry, and by counts.
pub costs_these : (r q : Reach) (terms others : List SoughtTerm) (loan name from : ℕ) (s t : ViewState) (n h i j : ℕ)
    (result : Result (Option ℕ) Fault)
    → JoinCosts from (counted_lists r terms loan s n h) (counted_lists q others name t i j) result
    → TermsCost r terms from s t n h i j result
costs_these r q terms others loan name from s t n h i j (Ok (Some slot)) costs = record { costs = costs }
costs_these r q terms others loan name from s t n h i j (Ok None) costs = record { costs = costs }
costs_these r q terms others loan name from s t n h i j (Err fault) costs = record { costs = costs }

-- So it is of all that they have in common.
pub gathers_these : (r q : Reach) (terms others : List SoughtTerm) (loan name : ℕ) (s t : ViewState) (n h i j : ℕ)
    (result : Result (Vec Part) Refusal) → (lists_over q others name t).made_of ≡ (lists_over r terms loan s).made_of
    → GatherPartsEnds r.volume.geometry (counted_lists r terms loan s n h) (counted_lists q others name t i j) result
    → TermsGather r terms s t result
gathers_these r q terms others loan name s t n h i j result same ends =
    unnamed result
    (subst
    (λ (k : Reach). GatherPartsEnds r.volume.geometry (counted_lists r terms loan s n h)
    (counted_lists k terms name t i j) result)
    (same_reach r q terms others loan name s t same)
    (subst
    (λ (ts : List SoughtTerm). GatherPartsEnds r.volume.geometry (counted_lists r terms loan s n h)
    (counted_lists q ts name t i j) result)
    (same_terms r q terms others loan name s t same) ends)) where
      unnamed : (result : Result (Vec Part) Refusal)
          → GatherPartsEnds r.volume.geometry (counted_lists r terms loan s n h) (counted_lists r terms name t i j)
          result
          → TermsGather r terms s t result
      unnamed (Ok parts) ends = record {
        ends = (
          record { all = ends.0.all; vouched = ends.0.vouched; live = ends.0.live; rise = ends.0.rise },
          ends.1,
        );
      }
      unnamed (Err refusals.DeviceFault) ends = record { ends = ends }
      unnamed (Err (refusals.Tampered e)) ends = record { ends = ends }
      unnamed (Err refusals.NoMemory) ends = record { ends = tt }
      unnamed (Err refusal) ends = absurd ends

-- So it is of what gathering costs.
pub gather_costs_these : (r q : Reach) (terms others : List SoughtTerm) (loan name : ℕ) (s t : ViewState) (n h i j : ℕ)
    → GatherCosts (counted_lists r terms loan s n h) (counted_lists q others name t i j)
    → TermsGatherCost r terms s t n h i j
gather_costs_these r q terms others loan name s t n h i j costs = record { costs = costs }

-- so many slots of a volume, and so many terms, leave the counts of asks below their last value
few_asks : (terms slots asks : ℕ) → terms < 2 ^ 32 → slots ≤ 16777216 → asks ≤ terms * (2 * slots + 1)
    → asks < 2 ^ 64 - 1
few_asks terms slots asks few most le =
    omega (arith, le, mul-le terms (2 * slots + 1) (2 ^ 32) 33554433 (omega (arith, few)) (omega (arith, most)))

fewer_asks : (terms slots asks : ℕ) → terms < 2 ^ 32 → slots ≤ 16777216 → asks ≤ terms * slots → asks < 2 ^ 64 - 1
fewer_asks terms slots asks few most le =
    omega (arith, le, mul-le terms slots (2 ^ 32) 16777216 (omega (arith, few)) (omega (arith, most)))

all_reads : (terms slots i j : ℕ) → i ≤ terms * (2 * slots + 1) → j ≤ terms * slots
    → 4100 * i + 36864 * j ≤ gather_reads terms slots
all_reads terms slots i j next has = omega (arith, next, has, opened terms slots) where
  opened : (t s : ℕ) → t * (4100 * (2 * s + 1) + 36864 * s) ≡ 4100 * (t * (2 * s + 1)) + 36864 * (t * s)
  opened t s = grind arith

-- The asks that gathering may make have paid for all that it reads.
pub gather_reads_these : (r q : Reach) (terms others : List SoughtTerm) (loan name : ℕ) (s t : ViewState) (n h i j : ℕ)
    → n ≡ 0 → h ≡ 0 → length terms < 2 ^ 32
    → Keeps (counted_lists r terms loan s n h) (counted_lists q others name t i j)
    → GatherCosts (counted_lists r terms loan s n h) (counted_lists q others name t i j)
    → TermsGatherReads r terms s t
gather_reads_these r q terms others loan name s t n h i j none_next none_has few kept costs = record {
  reads = λ still which less slots most have.
      let asks = costs still which less slots have in
      let next : i ≤ length terms * (2 * length slots + 1) = omega (arith, asks.0, none_next) in
      let has : j ≤ length terms * length slots = omega (arith, asks.1, none_has) in
      omega (
        arith,
        none_next,
        none_has,
        reads_of kept (record {
          next = few_asks (length terms) (length slots) i few most next;
          has = fewer_asks (length terms) (length slots) j few most has;
        }),
        all_reads (length terms) (length slots) i j next has,
      );
}
