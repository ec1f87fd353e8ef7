-- The digits that a number is written with are digits, and stand for it.
use Rattle.std.proofs.Common.{◌≡◌, ◌≤◌, ◌<◌, ◌+◌, ◌-◌, ◌*◌, ◌/◌, ◌%◌, ◌^◌, ◌++◌, ℕ, List, [], ◌∷◌, length, slice_index, sym, ap, ◌∙◌, subst, ⊎_elim, arith}
use Rattle.std.proofs.lemmas.Bool.{cases_lt}
use Rattle.std.proofs.lemmas.Fmt.{decimal_by_steps, decimal_nonempty, length-decimal-le}
use Rattle.std.proofs.lemmas.List.{get_or_append_left, length-append}
use Rattle.std.proofs.lemmas.List.Sums.{fold-append}
use Rattle.std.proofs.Math.Nat.{div-add-mod, mod-lt}
use Rattle.std.proofs.Math.Seq.{get_or-append_seam}
use Rattle.std.specs.Fmt.{decimal}
use Rattle.command_line.specs.Words.{IsNumber, digits_value}

-- the byte is a digit
abbrev IsDigit : ℕ → Type 0
IsDigit byte = (48 ≤ byte) × (byte ≤ 57)

-- in place i of the bytes stands one
abbrev IsDigitAt : List ℕ → ℕ → Type 0
IsDigitAt bytes i = IsDigit (slice_index bytes i)

-- the bytes are digits that stand for this number
record StandFor (n : ℕ) (bytes : List ℕ) : Type 0 where
  digits : (i : ℕ) → i < length bytes → IsDigitAt bytes i
  value : digits_value bytes ≡ n

one_digit : (n : ℕ) → n < 10 → StandFor n ((48 + n) ∷ [])
one_digit n less = record {
  digits = λ i among.
      let first : i ≡ 0 = omega arith in
      subst (λ (k : ℕ). IsDigitAt ((48 + n) ∷ []) k) (sym first) (omega arith, omega arith);
  value = omega arith;
}

one_more : (n : ℕ) (front : List ℕ) → 10 ≤ n → StandFor (n / 10) front → StandFor n (front ++ ((48 + n % 10) ∷ []))
one_more n front large stand =
    let last = 48 + n % 10 in
    let rest : List ℕ = last ∷ [] in
    record {
      digits = λ i among. ⊎_elim
          (λ before. subst IsDigit (sym (get_or_append_left front rest 0 i before)) (stand.digits i before))
          (λ behind.
          let at : i ≡ length front = omega (arith, length-append front rest) in
          let found : IsDigit last = (omega arith, (let below : n % 10 < 10 = mod-lt n (omega arith) in omega (arith, below))) in
          subst (IsDigitAt (front ++ rest)) (sym at) (subst IsDigit (sym (get_or-append_seam front last [] 0)) found))
          (cases_lt i (length front));
      value = fold-append (λ (value digit : ℕ). 10 * value + (digit - 48)) 0 front rest
          ∙ ap (λ (value : ℕ). 10 * value + (last - 48)) stand.value ∙ omega (arith, div-add-mod n 10);
    }

-- a number of 1 to 10 digits
pub number_of_decimal : (n : ℕ) → n < 10 ^ 10 → IsNumber (decimal n) n
number_of_decimal n less =
    let wide : n < 2 ^ 64 = omega arith in
    let stand = decimal_by_steps StandFor one_digit one_more n wide in
    record {
      some = decimal_nonempty n wide;
      most = length-decimal-le 10 n (omega arith) less wide;
      digits = stand.digits;
      value = sym stand.value;
    }
