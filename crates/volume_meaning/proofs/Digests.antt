-- A digest is a row of bytes.
use Rattle.std.proofs.Common.{◌<◌, ◌-◌, ◌++◌, ℕ, suc, zero, List, length, slice_index, sym, subst, ⊎_elim, arith}
use Rattle.std.specs.Int.{to_be_bytes, w32}
use Rattle.std.proofs.lemmas.Bool.{cases_lt}
use Rattle.std.proofs.Math.ListN.{get_or-append}
use Rattle.std.proofs.Math.Seq.{get_or-append_right}
use Rattle.sha2.specs.Sha256.{sha256, digest_bytes, final_hash, initial_hash_256}
use Rattle.cell_types.specs.Bytes.{AreBytes}

-- one row of bytes behind another
both_bytes : (xs ys : List ℕ) → AreBytes xs → AreBytes ys → AreBytes (xs ++ ys)
both_bytes xs ys a b = record {
  each = λ i. ⊎_elim
      (λ (less : i < length xs). subst (λ (n : ℕ). n < 256) (sym (get_or-append xs ys 0 i less)) (a.each i))
      (λ le. subst (λ (n : ℕ). n < 256) (sym (get_or-append_right xs ys i 0 le)) (b.each (i - length xs)))
      (cases_lt i (length xs));
}

-- the bytes of a word
word_bytes : (n : ℕ) → AreBytes (to_be_bytes w32 n)
word_bytes n = record { each = λ i. at i }
  where
    at : (i : ℕ) → slice_index (to_be_bytes w32 n) i < 256
    at zero = omega arith
    at (suc zero) = omega arith
    at (suc (suc zero)) = omega arith
    at (suc (suc (suc zero))) = omega arith
    at (suc (suc (suc (suc i)))) = omega arith

words_bytes : (h : List ℕ) (n : ℕ) → AreBytes (digest_bytes h n)
unfolding digest_bytes
words_bytes h zero = record { each = λ i. omega arith }
words_bytes h (suc n) =
    both_bytes (digest_bytes h n) (to_be_bytes w32 (slice_index h n)) (words_bytes h n) (word_bytes (slice_index h n))

pub digest_is_bytes : (m : List ℕ) → AreBytes (sha256 m)
unfolding sha256
digest_is_bytes m = words_bytes (final_hash initial_hash_256 m) 8
