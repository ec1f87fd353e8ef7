-- Which words are numbers, and which are no options.
use Rattle.std.specs.Prelude.{◌≡◌, ◌≢◌, ◌<◌, ◌≤◌, ◌+◌, ◌-◌, ◌*◌, ◌^◌, ℕ, List, fold, length, slice_index}

-- the word is not empty, and begins with no hyphen
pub record IsNoOption (word : List ℕ) : Type 0 where
  pub some : 1 ≤ length word
  pub no_hyphen : slice_index word 0 ≢ 45

-- the number that ASCII digits stand for, the highest first
abbrev pub digits_value : List ℕ → ℕ
digits_value digits = fold (λ n digit. 10 * n + (digit - 48)) 0 digits

-- the word is 1 to 10 ASCII digits, and stands for this number
pub record IsNumber (word : List ℕ) (n : ℕ) : Type 0 where
  pub some : 1 ≤ length word
  pub most : length word ≤ 10
  pub digits : (i : ℕ) → i < length word → (48 ≤ slice_index word i) × (slice_index word i ≤ 57)
  pub value : n ≡ digits_value word

-- the word stands for these seconds, which have 32 bits
pub record AreSeconds (word : List ℕ) (seconds : ℕ) : Type 0 where
  pub number : IsNumber word seconds
  pub most : seconds < 2 ^ 32

-- the word stands for this number, which is from 1 to the most that it may be
pub record IsNumberUpTo (most : ℕ) (word : List ℕ) (n : ℕ) : Type 0 where
  pub number : IsNumber word n
  pub from : 1 ≤ n
  pub to : n ≤ most
