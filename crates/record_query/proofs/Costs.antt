-- What common slots cost together, the cells of candidates pay for; and how many slots Near counts.
use Rattle.std.proofs.Common.{◌≡◌, ◌<◌, ◌≤◌, ◌+◌, ◌-◌, ◌⊎◌, ⊎_elim, inl, inr, ℕ, zero, suc, Bool, true, false, cond, List, [], ◌∷◌, length, refl, sym, ap, subst, arith, ◌∙◌}
use Rattle.std.specs.Prelude.{Contains, nat_eq, slice_index, slice_index_or, ⊤}
use Rattle.volume_meaning.specs.Documents.{Document, Rise, stored_bytes}
use Rattle.volume_meaning.specs.Slots.{cells_for}
use Rattle.volume_meaning.specs.Nearness.{Count}
use Rattle.zigzag_join.specs.Gathering as gathering
use Rattle.record_query.specs.Among.{row_cost}
use Rattle.record_query.specs.Finding.{HaveCells}

cost_none : (cost : ℕ → ℕ) (slots : List ℕ) → row_cost cost slots 0 ≡ 0
cost_none cost [] = refl
cost_none cost (slot ∷ slots) = refl

cost_suc : (cost : ℕ → ℕ) (slots : List ℕ) (k : ℕ) → k < length slots
    → row_cost cost slots (suc k) ≡ row_cost cost slots k + cost (slice_index slots k)
cost_suc cost [] k less = absurd (omega (arith, less))
cost_suc cost (slot ∷ slots) zero less = omega (arith, cost_none cost slots)
cost_suc cost (slot ∷ slots) (suc k) less = omega (arith, cost_suc cost slots k (omega (arith, less)))

-- one slot more
pub cost_more : (cost : ℕ → ℕ) (slots : List ℕ) (k : ℕ) → k < length slots
    → row_cost cost slots (k + 1) ≡ row_cost cost slots k + cost (slice_index slots k)
cost_more cost slots k less =
    let e : suc k ≡ k + 1 = omega arith in
    subst (λ (n : ℕ). row_cost cost slots n ≡ row_cost cost slots k + cost (slice_index slots k)) e
    (cost_suc cost slots k less)

-- of the first slots no more than of all
pub cost_within : (cost : ℕ → ℕ) (slots : List ℕ) (k : ℕ) → row_cost cost slots k ≤ row_cost cost slots (length slots)
cost_within cost [] k = omega arith
cost_within cost (slot ∷ slots) zero = omega arith
cost_within cost (slot ∷ slots) (suc k) = omega (arith, cost_within cost slots k)

-- one of some documents is the first, or one of the others
first_or_rest : (d e : Document) (ds : List Document) → Contains (e ∷ ds) d → (e ≡ d) ⊎ Contains ds d
first_or_rest d e ds c = by_place c.0 c.1 c.2 where
  by_place : (k : ℕ) → k < length (e ∷ ds) → slice_index_or (e ∷ ds) k d ≡ d → (e ≡ d) ⊎ Contains ds d
  by_place zero less is = inl is
  by_place (suc k) less is = inr (k, omega (arith, less), is)

behind_first : (d e : Document) (ds : List Document) → Contains ds d → Contains (e ∷ ds) d
behind_first d e ds c = (suc c.0, omega (arith, c.1), c.2)

-- documents that rise from a slot on have none before it
low : (from : ℕ) (ds : List Document) → Rise from ds → (d : Document) → Contains ds d → from ≤ d.slot
low from [] rise d c = absurd (omega (arith, c.1))
low from (e ∷ ds) rise d c = ⊎_elim
    (λ (same : e ≡ d). subst (λ (x : Document). from ≤ x.slot) same rise.0)
    (λ (rest : Contains ds d). omega (arith, rise.0, low (e.slot + 1) ds rise.1 d rest))
    (first_or_rest d e ds c)

-- the cells of a document
abbrev pub stored_cells : Document → ℕ
stored_cells d = cells_for (length (stored_bytes d.id d.body))

-- what reading the document of a slot costs, of these
pub slot_cost : List Document → ℕ → ℕ
slot_cost [] slot = 0
slot_cost (d ∷ ds) slot = cond (nat_eq d.slot slot) (stored_cells d) (slot_cost ds slot)

cost_here : (d : Document) (ds : List Document) (slot : ℕ) (b : Bool) → nat_eq d.slot slot ≡ b
    → slot_cost (d ∷ ds) slot ≡ cond b (stored_cells d) (slot_cost ds slot)
unfolding slot_cost
cost_here d ds slot b is = ap (λ (c : Bool). cond c (stored_cells d) (slot_cost ds slot)) is

same_slot : (a b : ℕ) → a ≡ b → nat_eq a b ≡ true
same_slot a b e = grind (arith, e)

other_slot : (a b : ℕ) → a < b → nat_eq a b ≡ false
other_slot a b less = grind (arith, less)

-- that of one of them is its cells
pub slot_cost_is : (from : ℕ) (ds : List Document) → Rise from ds → (d : Document) → Contains ds d
    → slot_cost ds d.slot ≡ stored_cells d
slot_cost_is from [] rise d c = absurd (omega (arith, c.1))
slot_cost_is from (e ∷ ds) rise d c = ⊎_elim
    (λ (same : e ≡ d). cost_here e ds d.slot true (same_slot e.slot d.slot (ap (λ (x : Document). x.slot) same))
    ∙ ap (λ (x : Document). stored_cells x) same)
    (λ (rest : Contains ds d).
    let past = low (e.slot + 1) ds rise.1 d rest in
    cost_here e ds d.slot false (other_slot e.slot d.slot (omega (arith, past)))
    ∙ slot_cost_is (e.slot + 1) ds rise.1 d rest)
    (first_or_rest d e ds c)

-- slots that rise from one on
abbrev RiseFrom : ℕ → List ℕ → Type 0
RiseFrom from [] = ⊤
RiseFrom from (slot ∷ slots) = (from ≤ slot) × RiseFrom (slot + 1) slots

rise_from : (from : ℕ) (slots : List ℕ) → ((i : ℕ) → i < length slots → from ≤ slice_index slots i)
    → gathering.GatheredRise slots → RiseFrom from slots
rise_from from [] past rise = tt
rise_from from (slot ∷ slots) past rise = (
  past zero (omega arith),
  rise_from (slot + 1) slots
      (λ i inside. let h : slot < slice_index slots i = rise zero (suc i) (omega arith) (omega (arith, inside)) in
      omega (arith, h))
      (λ i j less inside. rise (suc i) (suc j) (omega (arith, less)) (omega (arith, inside))),
)

past_from : (from : ℕ) (slots : List ℕ) → RiseFrom from slots → (i : ℕ) → i < length slots
    → from ≤ slice_index slots i
past_from from [] rise i inside = absurd (omega (arith, inside))
past_from from (slot ∷ slots) rise zero inside = rise.0
past_from from (slot ∷ slots) rise (suc i) inside =
    omega (arith, rise.0, past_from (slot + 1) slots rise.1 i (omega (arith, inside)))

-- the slot is that of one of the documents, which is such
pub record IsSlotOf (IsSuch : Document → Type 0) (documents : List Document) (slot : ℕ) : Type 0 where
  pub d : Document
  pub among : Contains documents d
  pub such : IsSuch d
  pub is : d.slot ≡ slot

-- a slot past the first document's is one of the others
slot_behind : (IsSuch : Document → Type 0) (e : Document) (ds : List Document) (slot : ℕ) → e.slot < slot
    → IsSlotOf IsSuch (e ∷ ds) slot → IsSlotOf IsSuch ds slot
slot_behind IsSuch e ds slot past s = ⊎_elim
    (λ (same : e ≡ s.d). absurd (omega (arith, past, s.is, ap (λ (x : Document). x.slot) same)))
    (λ (rest : Contains ds s.d). record { d = s.d; among = rest; such = s.such; is = s.is })
    (first_or_rest s.d e ds s.among)

-- what the slots of such documents cost that are behind the first one
abbrev RestCosts : (Document → Type 0) → (ℕ → ℕ) → List Document → Type 0
RestCosts IsSuch cost ds =
    (more : ℕ) → HaveCells IsSuch ds more → (slots : List ℕ) (start : ℕ) → RiseFrom start slots
    → ((i : ℕ) → i < length slots → IsSlotOf IsSuch ds (slice_index slots i))
    → row_cost cost slots (length slots) ≤ more

module _ (IsSuch : Document → Type 0) (cost : ℕ → ℕ) (e : Document) (ds : List Document) (rise : Rise (e.slot + 1) ds)
    (first_cost : cost e.slot ≤ stored_cells e) (rest_costs : RestCosts IsSuch cost ds) (cells : ℕ)
    (have : HaveCells IsSuch (e ∷ ds) cells) (slot : ℕ) (slots : List ℕ) (start : ℕ)
    (rises : RiseFrom start (slot ∷ slots))
    (each : (i : ℕ) → i < length (slot ∷ slots) → IsSlotOf IsSuch (e ∷ ds) (slice_index (slot ∷ slots) i))
    (s : IsSlotOf IsSuch (e ∷ ds) slot) where
  -- the first slot is that of the first document
  at_first : e ≡ s.d → row_cost cost (slot ∷ slots) (length (slot ∷ slots)) ≤ cells
  at_first same =
      let here : e.slot ≡ slot = ap (λ (x : Document). x.slot) same ∙ s.is in
      let first : cost slot ≤ stored_cells e = subst (λ (n : ℕ). cost n ≤ stored_cells e) here first_cost in
      ⊎_elim
      (λ (h : IsSuch e × ((rest : ℕ) × (cells ≡ stored_cells e + rest) × HaveCells IsSuch ds rest)).
      let rest = rest_costs h.1.0 h.1.2 slots (slot + 1) rises.1
      (λ i inside.
      let past = past_from (slot + 1) slots rises.1 i inside in
      slot_behind IsSuch e ds (slice_index slots i) (omega (arith, here, past)) (each (suc i) (omega (arith, inside)))) in
      omega (arith, rest, first, h.1.1))
      (λ (h : (IsSuch e → ⊥) × HaveCells IsSuch ds cells). absurd (h.0 (subst IsSuch (sym same) s.such)))
      have

  -- or all of them are behind it
  behind : Contains ds s.d → row_cost cost (slot ∷ slots) (length (slot ∷ slots)) ≤ cells
  behind rest =
      let after = low (e.slot + 1) ds rise s.d rest in
      let past : e.slot + 1 ≤ slot = omega (arith, after, s.is) in
      let of_rest : (more : ℕ) → HaveCells IsSuch ds more
      → row_cost cost (slot ∷ slots) (length (slot ∷ slots)) ≤ more =
      λ more has. rest_costs more has (slot ∷ slots) (e.slot + 1) (past, rises.1)
      (λ i inside.
      let h = past_from (e.slot + 1) (slot ∷ slots) (past, rises.1) i inside in
      slot_behind IsSuch e ds (slice_index (slot ∷ slots) i) (omega (arith, h)) (each i inside)) in
      ⊎_elim
      (λ (h : IsSuch e × ((more : ℕ) × (cells ≡ stored_cells e + more) × HaveCells IsSuch ds more)).
      omega (arith, of_rest h.1.0 h.1.2, h.1.1))
      (λ (h : (IsSuch e → ⊥) × HaveCells IsSuch ds cells). of_rest cells h.1)
      have

  cost_step : row_cost cost (slot ∷ slots) (length (slot ∷ slots)) ≤ cells
  cost_step = ⊎_elim at_first behind (first_or_rest s.d e ds s.among)

-- Slots that rise and are those of such documents cost no more than these have cells.
all_cost : (IsSuch : Document → Type 0) (cost : ℕ → ℕ) (ds : List Document) (from : ℕ) → Rise from ds
    → ((d : Document) → Contains ds d → cost d.slot ≤ stored_cells d) → RestCosts IsSuch cost ds
all_cost IsSuch cost [] from rise low_cost cells have [] start rises each = omega arith
all_cost IsSuch cost [] from rise low_cost cells have (slot ∷ slots) start rises each =
    let s = each zero (omega arith) in
    absurd (omega (arith, s.among.1))
all_cost IsSuch cost (e ∷ ds) from rise low_cost cells have [] start rises each = omega arith
all_cost IsSuch cost (e ∷ ds) from rise low_cost cells have (slot ∷ slots) start rises each =
    cost_step IsSuch cost e ds rise.1 (low_cost e (zero, omega arith, refl))
    (all_cost IsSuch cost ds (e.slot + 1) rise.1 (λ d c. low_cost d (behind_first d e ds c)))
    cells have slot slots start rises each (each zero (omega arith))

-- common slots rise
pub common_cost : (IsSuch : Document → Type 0) (cost : ℕ → ℕ) (ds : List Document) → Rise 0 ds
    → ((d : Document) → Contains ds d → cost d.slot ≤ stored_cells d) → (cells : ℕ) → HaveCells IsSuch ds cells
    → (slots : List ℕ) → gathering.GatheredRise slots
    → ((i : ℕ) → i < length slots → IsSlotOf IsSuch ds (slice_index slots i))
    → row_cost cost slots (length slots) ≤ cells
common_cost IsSuch cost ds rise low_cost cells have slots rises each =
    all_cost IsSuch cost ds 0 rise low_cost cells have slots 0 (rise_from 0 slots (λ i inside. omega arith) rises) each

-- the slots of those that are counted
pub record CountedSlots (IsSuch : Document → Type 0) (documents : List Document) (count : ℕ) : Type 0 where
  pub slots : List ℕ
  pub many : length slots ≡ count
  pub all : (d : Document) → Contains documents d → IsSuch d → Contains slots d.slot

slot_first : (slot : ℕ) (slots : List ℕ) → Contains (slot ∷ slots) slot
slot_first slot slots = (zero, omega arith, refl)

slot_rest : (one slot : ℕ) (slots : List ℕ) → Contains slots slot → Contains (one ∷ slots) slot
slot_rest one slot slots c = (suc c.0, omega (arith, c.1), c.2)

pub counted_slots : (IsSuch : Document → Type 0) (ds : List Document) (count : ℕ) → Count IsSuch ds count
    → CountedSlots IsSuch ds count
counted_slots IsSuch [] count none = record {
  slots = [];
  many = sym none;
  all = λ d c such. absurd (omega (arith, c.1));
}
counted_slots IsSuch (e ∷ ds) count counts = ⊎_elim
    (λ (h : IsSuch e × ((rest : ℕ) × (count ≡ rest + 1) × Count IsSuch ds rest)).
    let r = counted_slots IsSuch ds h.1.0 h.1.2 in
    record {
      slots = e.slot ∷ r.slots;
      many = omega (arith, r.many, h.1.1);
      all = λ d c such. ⊎_elim
          (λ (same : e ≡ d). subst (λ (x : Document). Contains (e.slot ∷ r.slots) x.slot) same
          (slot_first e.slot r.slots))
          (λ (rest : Contains ds d). slot_rest e.slot d.slot r.slots (r.all d rest such))
          (first_or_rest d e ds c);
    })
    (λ (h : (IsSuch e → ⊥) × Count IsSuch ds count).
    let r = counted_slots IsSuch ds count h.1 in
    record {
      slots = r.slots;
      many = r.many;
      all = λ d c such. ⊎_elim
          (λ (same : e ≡ d). absurd (h.0 (subst IsSuch (sym same) such)))
          (λ (rest : Contains ds d). r.all d rest such)
          (first_or_rest d e ds c);
    })
    counts

-- no more are counted than there are
count_fits : (IsSuch : Document → Type 0) (ds : List Document) (count : ℕ) → Count IsSuch ds count → count ≤ length ds
count_fits IsSuch [] count none = omega (arith, none)
count_fits IsSuch (e ∷ ds) count counts = ⊎_elim
    (λ (h : IsSuch e × ((rest : ℕ) × (count ≡ rest + 1) × Count IsSuch ds rest)).
    omega (arith, count_fits IsSuch ds h.1.0 h.1.2, h.1.1))
    (λ (h : (IsSuch e → ⊥) × Count IsSuch ds count). omega (arith, count_fits IsSuch ds count h.1))
    counts

rise_fits : (from most : ℕ) (ds : List Document) → Rise from ds → ((d : Document) → Contains ds d → d.slot < most)
    → length ds ≤ most - from
rise_fits from most [] rise below = omega arith
rise_fits from most (e ∷ ds) rise below =
    let first : e.slot < most = below e (zero, omega arith, refl) in
    omega (
      arith,
      first,
      rise.0,
      rise_fits (e.slot + 1) most ds rise.1 (λ d c. below d (behind_first d e ds c)),
    )

-- no more are counted than there are slots
pub few_counted : (IsSuch : Document → Type 0) (most : ℕ) (ds : List Document) (count : ℕ) → Rise 0 ds
    → ((d : Document) → Contains ds d → d.slot < most) → Count IsSuch ds count → count ≤ most
few_counted IsSuch most ds count rise below counts =
    omega (arith, count_fits IsSuch ds count counts, rise_fits 0 most ds rise below)
