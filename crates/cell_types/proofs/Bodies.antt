-- What a body that is read has, and which records it is not the body of.
use Rattle.std.proofs.Common.{◌≡◌, ◌≢◌, ◌⊎◌, ℕ, ◌+◌, ◌<◌, List, ◌∷◌, ◌++◌, ◌-◌, length, take, drop, length-drop, replicate, slice_index, get_or, arith}
use Rattle.std.proofs.lemmas.List.{get_or-drop, take_all}
use Rattle.byteorder.specs.Endian.{big_bytes}
use Rattle.cell_types.specs.Records.{IsBytes, body_bytes}
use Rattle.cell_types.specs.declared.record_cell.RecordCell.{RecordCell}
use Rattle.cell_types.specs.declared.record_cell.RecordCell.TheVariants.{Volume, Reserve, Commit, Abandon, Done, Posting, Jump, Bucket, Child, Stamp}

-- the end of a list of bytes is bytes
pub end_fits : (n k : ℕ) (xs part : List ℕ) → ((i : ℕ) → get_or xs i 0 < 256) → part ≡ take (length xs - n) (drop n xs)
    → length part ≡ k → IsBytes k part
end_fits n k xs part small same count =
    let whole : take (length xs - n) (drop n xs) ≡ drop n xs = take_all (length xs - n) (drop n xs) (omega (arith, length-drop n xs)) in
    record {
      count = count;
      fits = record { each = λ i. rw (same, whole, get_or-drop n xs i 0) (small (n + i)) };
    }

-- No record has a body of one of these kinds that is not one number and zeros.
pub no_number : (body : List ℕ) (kind : ℕ) → slice_index body 0 ≡ kind → (kind ≡ 5) ⊎ ((kind ≡ 7) ⊎ ((kind ≡ 9) ⊎ (kind ≡ 10)))
    → ((k n : ℕ) → (k ∷ big_bytes 4 n) ++ replicate 7 0 ≢ body) → (r : RecordCell) → body_bytes r ≢ body
no_number body kind is one other (Volume version slots lists cells) same = grind arith
no_number body kind is one other (Reserve start length) same = grind arith
no_number body kind is one other (Commit bytes journal) same = grind arith
no_number body kind is one other Abandon same = grind arith
no_number body kind is one other (Done slot) same = other 5 slot same
no_number body kind is one other (Posting key last tag) same = grind arith
no_number body kind is one other (Jump target) same = other 7 target same
no_number body kind is one other (Bucket slot fingerprint) same = grind arith
no_number body kind is one other (Child target) same = other 9 target same
no_number body kind is one other (Stamp seconds) same = other 10 seconds same

-- No record has a body of one of these kinds that is not two numbers and zeros.
pub no_numbers : (body : List ℕ) (kind : ℕ) → slice_index body 0 ≡ kind → (kind ≡ 2) ⊎ (kind ≡ 3)
    → ((k m n : ℕ) → (k ∷ big_bytes 4 m) ++ big_bytes 4 n ++ replicate 3 0 ≢ body) → (r : RecordCell) → body_bytes r ≢ body
no_numbers body kind is two other (Volume version slots lists cells) same = grind arith
no_numbers body kind is two other (Reserve start length) same = other 2 start length same
no_numbers body kind is two other (Commit bytes journal) same = other 3 bytes journal same
no_numbers body kind is two other Abandon same = grind arith
no_numbers body kind is two other (Done slot) same = grind arith
no_numbers body kind is two other (Posting key last tag) same = grind arith
no_numbers body kind is two other (Jump target) same = grind arith
no_numbers body kind is two other (Bucket slot fingerprint) same = grind arith
no_numbers body kind is two other (Child target) same = grind arith
no_numbers body kind is two other (Stamp seconds) same = grind arith
