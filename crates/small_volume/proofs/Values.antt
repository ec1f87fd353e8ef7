-- Bytes and cells that are written out.
use Rattle.std.proofs.Common.{◌≡◌, ◌≢◌, ◌<◌, ◌⊎◌, inl, inr, ◌==◌, ◌&&◌, not, if◌then◌else◌, ℕ, Bool, true, List, [], ◌∷◌, Option, Some, None, length, slice_index, nat_lt, refl, sym, ◌∙◌, ap, arith}
use Rattle.std.specs.List.{list_all}
use Rattle.std.proofs.lemmas.Bool.{and_parts, cases_lt, eq-eqb, ltb-true, true≢false}
use Rattle.std.proofs.lemmas.Bool.Decides.{eqb_tells}
use Rattle.std.proofs.lemmas.List.{get_or_past}
use Rattle.std.proofs.lemmas.List.Elements.{All-get_or}
use Rattle.std.proofs.lemmas.List.Sums.{AllPass-from_list_all}
use Rattle.std.proofs.lemmas.Option.{none-some}
use Rattle.cell_types.specs.Bytes.{AreBytes}
use Rattle.cell_types.specs.Image.{Image, Extends, ChangesOnly}
use Rattle.small_volume.specs.Images.{image_with, with_cell, with_cells, or_else}
use Rattle.volume_meaning.proofs.Holding.{some_is}

-- whether the number is a byte
abbrev is_byte : ℕ → Bool
is_byte b = nat_lt b 256

-- a row is one of bytes where each of its members is below 256
pub are_bytes : (bytes : List ℕ) → list_all is_byte bytes ≡ true → AreBytes bytes
are_bytes bytes below = record {
  each = λ i. elim (cases_lt i (length bytes)) [
    | inl inside ↦
        let each = AllPass-from_list_all is_byte bytes below in
        ltb-true (slice_index bytes i) 256 (All-get_or (λ b. is_byte b ≡ true) bytes i 0 inside each)
    | inr past ↦ rw (get_or_past bytes i 0 past) (omega arith)
  ];
}

-- what stands in a cell: where it has the number of the row's first member, this one's value, and else what the others
-- say
pub first_or_other : (at : ℕ) (value : List ℕ) (cells : List (ℕ × List ℕ)) (cell : ℕ)
    → ((cell ≡ at) × (image_with ((at, value) ∷ cells) cell ≡ Some value))
    ⊎ ((cell ≢ at) × (image_with ((at, value) ∷ cells) cell ≡ image_with cells cell))
first_or_other at value cells cell = elim (eqb_tells cell at) [
  | inl same ↦ inl (same.1, ap (λ (b : Bool). if b then Some value else image_with cells cell) same.0)
  | inr differ ↦ inr (differ.1, ap (λ (b : Bool). if b then Some value else image_with cells cell) differ.0)
]

-- no cell is written behind the last of a row
pub blank_behind : (at cell : ℕ) (value : List ℕ) → at < cell → image_with ((at, value) ∷ []) cell ≡ None
blank_behind at cell value behind = elim (first_or_other at value [] cell) [
  | inl same ↦ absurd (omega (arith, same.0))
  | inr differ ↦ differ.1
]

-- whether no cell of the row has this kind
abbrev pub has_no : ℕ → List (ℕ × List ℕ) → Bool
has_no kind [] = true
has_no kind ((at, value) ∷ cells) = not (slice_index value 0 == kind) && has_no kind cells

-- then none that stands has it
pub none_of_kind : (kind : ℕ) (cells : List (ℕ × List ℕ)) → has_no kind cells ≡ true → (cell : ℕ) (value : List ℕ)
    → image_with cells cell ≡ Some value → slice_index value 0 ≢ kind
none_of_kind kind [] none cell value stands is = none-some value stands
none_of_kind kind ((at, first) ∷ cells) none cell value stands is =
    let both = and_parts (not (slice_index first 0 == kind)) (has_no kind cells) none in
    elim (first_or_other at first cells cell) [
      | inl same ↦
          let held : first ≡ value = some_is first value (sym same.1 ∙ stands) in
          let kind_is : slice_index first 0 ≡ kind = ap (λ (v : List ℕ). slice_index v 0) held ∙ is in
          true≢false (sym both.0 ∙ ap not (eq-eqb (slice_index first 0) kind kind_is))
      | inr differ ↦ none_of_kind kind cells both.1 cell value (sym differ.1 ∙ stands) is
    ]

-- what stands in a cell once these are foreign, by what stood there
with_was : (image : Image) (cells : List (ℕ × List ℕ)) (cell : ℕ) {was : Option (List ℕ)} → image cell ≡ was
    → with_cells image cells cell ≡ or_else was (image_with cells cell)
with_was image cells cell was = ap (λ (o : Option (List ℕ)). or_else o (image_with cells cell)) was

-- foreign cells leave each written one as it was
pub foreign_extends : (image : Image) (cells : List (ℕ × List ℕ)) → Extends image (with_cells image cells)
foreign_extends image cells = record { keeps = λ cell found was. with_was image cells cell was }

-- one foreign cell changes its own cell at most, where that was blank
pub foreign_changes : (image : Image) (at : ℕ) (value : List ℕ)
    → ChangesOnly at value image (with_cell image at value)
foreign_changes image at value cell = by (image cell) refl
  where
    by : (was : Option (List ℕ)) → image cell ≡ was
        → (with_cell image at value cell ≡ image cell)
        ⊎ ((cell ≡ at) × (image cell ≡ None) × (with_cell image at value cell ≡ Some value))
    by (Some found) was = inl (with_was image ((at, value) ∷ []) cell was ∙ sym was)
    by None was =
        let now = with_was image ((at, value) ∷ []) cell was in
        elim (first_or_other at value [] cell) [
          | inl same ↦ inr (same.0, was, now ∙ same.1)
          | inr differ ↦ inl (now ∙ differ.1 ∙ sym was)
        ]
