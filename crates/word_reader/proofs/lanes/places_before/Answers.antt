-- The places before the lowest bit that is set.
use Rattle.std.proofs.Common.{◌≡◌, w64, arith, inl, inr}
use Rattle.std.specs.Int.{bit_at}
use Rattle.std.specs.Int.Count.{count_trailing_zeros}
use Rattle.std.proofs.lemmas.Bool.{cases_lt}
use Rattle.std.proofs.lemmas.Nat.Bits.{bit_at-trailing_zeros}
use Rattle.word_reader.proofs.Places.{none_set}
use Rattle.word_reader.proofs.lanes.places_before.Goals as goal

pub returns-then-found-eq0-clause-none : goal.returns-then-found-eq0-clause-none
returns-then-found-eq0-clause-none c = λ k less one other.
    none_set c.places_found-found.result c.if-found-eq0.true k (c.places_found-found.ensures.found k less one other)

pub returns-clause-most : goal.returns-clause-most
returns-clause-most c =
    let found = c.places_found-found.result in
    let lowest = bit_at-trailing_zeros w64 found (omega (arith, c.if-found-eq0.false)) c.places_found-found.type_inv in
    elim (cases_lt 16 (count_trailing_zeros 64 found)) [
      | inl past ↦
          let clear : bit_at found (count_trailing_zeros 64 found) ≡ 0 =
          c.places_found-found.ensures.few (count_trailing_zeros 64 found) (omega (arith, past)) in
          absurd (omega (arith, clear, lowest.1))
      | inr most ↦ most
    ]

pub returns-clause-none : goal.returns-clause-none
returns-clause-none c = λ k less one other.
    let found = c.places_found-found.result in
    let lowest = bit_at-trailing_zeros w64 found (omega (arith, c.if-found-eq0.false)) c.places_found-found.type_inv in
    let clear : bit_at found k ≡ 0 = lowest.2 k less in
    elim (cases_lt k 16) [
      | inl near ↦
          let set : bit_at found k ≡ 1 = c.places_found-found.ensures.found k near one other in
          omega (arith, clear, set)
      | inr far ↦
          let none : bit_at found (count_trailing_zeros 64 found) ≡ 0 =
          c.places_found-found.ensures.few (count_trailing_zeros 64 found) (omega (arith, far, less)) in
          absurd (omega (arith, none, lowest.1))
    ]
