-- Places that a file in memory puts one after another, and what it leaves of those behind where it fails.
use Rattle.std.specs.Prelude.{zero, suc, ◌≡◌, ◌<◌, ◌≤◌, ◌+◌, ◌-◌, ◌^◌, ◌*◌, ◌/◌, ◌%◌, ℕ, List, length, drop, Option, Some, Err}
use Rattle.std.proofs.Common.{refl, ◌∙◌, ap, sym, subst, arith, inl, inr, ⊎_elim}
use Rattle.std.proofs.lemmas.List.{length-take, length-drop}
use Rattle.worm_device.specs.Counts.{Rose}
use Rattle.worm_device.specs.declared.device.Failed.{Failed}
use Rattle.host_files.specs.File.{Told, PutsBytes, PutsPlaces, LeavesPlaces, WritesAt, WritesPlaces, part_at}
use Rattle.host_files.specs.Memory.{FileMemory, HasPut, file_of, told_of, file_with_call, file_with_change, file_with_fault}
use Rattle.host_files.specs.declared.change.FileChange.TheVariants.{Put}
use Rattle.host_files.proofs.Changes.{becomes}

-- one place more is put
puts_more : (n place cell : ℕ) (bytes : List ℕ) (old mid new : Option Told) → PutsPlaces n place cell bytes old mid
    → PutsBytes (16 * (cell + (place + n))) (part_at (16 * (place + n)) bytes) mid new
    → PutsPlaces (suc n) place cell bytes old new
puts_more zero place cell bytes old mid new puts step =
    let here : place + 0 ≡ place = omega arith in (
      new,
      subst (λ (t : Option Told). PutsBytes (16 * (cell + place)) (part_at (16 * place) bytes) t new) puts
          (subst (λ (k : ℕ). PutsBytes (16 * (cell + k)) (part_at (16 * k) bytes) mid new) here step),
      refl,
    )
puts_more (suc n) place cell bytes old mid new puts step =
    let here : place + suc n ≡ place + 1 + n = omega arith in (
      puts.0,
      puts.1,
      puts_more n (place + 1) cell bytes puts.0 mid new puts.2
          (subst (λ (k : ℕ). PutsBytes (16 * (cell + k)) (part_at (16 * k) bytes) mid new) here step),
    )

-- nothing is left of places
left_none : (count place cell : ℕ) (bytes : List ℕ) (Torn : Type 0) (told : Option Told)
    → LeavesPlaces count place cell bytes Torn told told
left_none zero place cell bytes Torn told = refl
left_none (suc count) place cell bytes Torn told =
    (told, inl refl, left_none count (place + 1) cell bytes Torn told)

-- places that were put, and then others that were left
left_then : (n m total place cell : ℕ) (bytes : List ℕ) (Torn : Type 0) (old mid new : Option Told) → total ≡ n + m
    → ((k : ℕ) → k < n → length (part_at (16 * (place + k)) bytes) ≡ 16) → PutsPlaces n place cell bytes old mid
    → LeavesPlaces m (place + n) cell bytes Torn mid new → LeavesPlaces total place cell bytes Torn old new
left_then zero m total place cell bytes Torn old mid new sum sixteen puts left =
    let all : m ≡ total = omega (arith, sum) in
    let here : place + 0 ≡ place = omega arith in
    subst (λ (k : ℕ). LeavesPlaces k place cell bytes Torn old new) all
    (subst (λ (k : ℕ). LeavesPlaces m k cell bytes Torn old new) here
    (subst (λ (t : Option Told). LeavesPlaces m (place + 0) cell bytes Torn t new) puts left))
left_then (suc n) m zero place cell bytes Torn old mid new sum sixteen puts left = absurd (omega (arith, sum))
left_then (suc n) m (suc total) place cell bytes Torn old mid new sum sixteen puts left =
    let here : place + suc n ≡ place + 1 + n = omega arith in
    let first : place + 0 ≡ place = omega arith in (
      puts.0,
      inr (
        part_at (16 * place) bytes,
        subst (λ (k : ℕ). length (part_at (16 * k) bytes) ≡ 16) first (sixteen 0 (omega arith)),
        puts.1,
        inl refl,
      ),
      left_then n m total (place + 1) cell bytes Torn puts.0 mid new (omega (arith, sum))
          (λ k below.
          let same : place + suc k ≡ place + 1 + k = omega arith in
          subst (λ (j : ℕ). length (part_at (16 * j) bytes) ≡ 16) same (sixteen (suc k) (omega (arith, below))))
          puts.2 (subst (λ (k : ℕ). LeavesPlaces m k cell bytes Torn mid new) here left),
    )

-- one more
pub put_more : (n cell from : ℕ) (bytes piece : List ℕ) (old mid : FileMemory) → from ≡ 16 * (cell + n)
    → piece ≡ part_at (16 * n) bytes → HasPut n cell bytes old mid
    → HasPut (n + 1) cell bytes old (file_with_change mid (Put from piece))
put_more n cell from bytes piece old mid at is first =
    let next : suc n ≡ n + 1 = omega arith in
    let begin : 0 + n ≡ n = omega arith in
    let new : FileMemory = file_with_change mid (Put from piece) in
    let step : PutsBytes from piece (Some (told_of mid)) (Some (told_of new)) = becomes mid (Put from piece) in
    record {
      first = first.first;
      puts = subst (λ (k : ℕ). PutsPlaces k 0 cell bytes (Some (told_of old)) (Some (told_of new))) next
          (puts_more n 0 cell bytes (Some (told_of old)) (Some (told_of mid)) (Some (told_of new)) first.puts
          (subst (λ (k : ℕ). PutsBytes (16 * (cell + k)) (part_at (16 * k) bytes) (Some (told_of mid)) (Some (told_of new)))
          (sym begin)
          (subst (λ (k : ℕ). PutsBytes k (part_at (16 * n) bytes) (Some (told_of mid)) (Some (told_of new))) at
          (subst (λ (p : List ℕ). PutsBytes from p (Some (told_of mid)) (Some (told_of new))) is step))));
      faults = first.faults;
      parts = first.parts;
    }

-- a place within the bytes has sixteen
part_long : (k : ℕ) (bytes : List ℕ) → 16 * k + 16 ≤ length bytes → length (part_at (16 * k) bytes) ≡ 16
part_long k bytes inside = omega (arith, length-take 16 (drop (16 * k) bytes), length-drop (16 * k) bytes)

-- no place was put
pub places_unput : (from : ℕ) (bytes : List ℕ) (failed : Failed) (old : FileMemory) → old.faults < 2 ^ 64
    → WritesPlaces from bytes (file_of old) (file_of (file_with_fault (file_with_call old))) (Err failed)
places_unput from bytes failed old fits = record {
  size = refl;
  left = left_none (length bytes / 16) 0 (from / 16) bytes (Rose old.parts old.parts) (Some (told_of old));
  parts = omega arith;
  later = omega (arith, fits);
  cause = omega (arith, fits);
}

-- some places were, and the next was left as a write of it alone that failed
pub places_torn : (from count whole place : ℕ) (bytes piece : List ℕ) (failed : Failed) (old mid new : FileMemory)
    → count ≡ length bytes / 16 → whole < count → from % 16 ≡ 0 → place ≡ from + 16 * whole
    → piece ≡ part_at (16 * whole) bytes
    → HasPut whole (from / 16) bytes (file_with_call old) mid
    → WritesAt place piece (file_of mid) (file_of new) (Err failed)
    → WritesPlaces from bytes (file_of old) (file_of new) (Err failed)
places_torn from count whole place bytes piece failed old mid new all less aligned at is puts left =
    let here : place ≡ 16 * (from / 16 + whole) = omega (arith, at, aligned) in
    let Torn : Type 0 = Rose old.parts new.parts in
    let begin : 0 + whole ≡ whole = omega arith in
    record {
      size = left.size ∙ ap length puts.first;
      left = subst (λ (k : ℕ). LeavesPlaces k 0 (from / 16) bytes Torn (Some (told_of old)) (Some (told_of new))) all
          (left_then whole (suc (count - (whole + 1))) count 0 (from / 16) bytes Torn (Some (told_of old))
          (Some (told_of mid)) (Some (told_of new)) (omega (arith, less))
          (λ k below. part_long (0 + k) bytes (omega (arith, below, less, all)))
          puts.puts
          (subst (λ (k : ℕ). LeavesPlaces (suc (count - (whole + 1))) k (from / 16) bytes Torn (Some (told_of mid))
          (Some (told_of new))) (sym begin) (
            Some (told_of new),
            ⊎_elim
                (λ (kept : Some (told_of new) ≡ Some (told_of mid)). inl kept)
                (λ put. inr (
                  put.0,
                  put.1,
                  subst (λ (k : ℕ). PutsBytes k put.0 (Some (told_of mid)) (Some (told_of new))) here put.2,
                  ⊎_elim
                      (λ (same : put.0 ≡ piece). inl (same ∙ is))
                      (λ (rose : Rose mid.parts new.parts). inr (subst (λ (k : ℕ). Rose k new.parts) puts.parts rose))
                      put.3,
                ))
                left.left,
            left_none (count - (whole + 1)) (whole + 1) (from / 16) bytes Torn (Some (told_of new)),
          )));
      parts = omega (arith, puts.parts, left.parts);
      later = omega (arith, puts.faults, left.later);
      cause = subst (λ (k : ℕ). Rose k new.faults) puts.faults left.cause;
    }
