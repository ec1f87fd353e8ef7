-- The bytes of the cells of a row, after those of one of them were put.
use Rattle.std.specs.Prelude.{◌≡◌, ◌≢◌, ◌<◌, ◌≤◌, ◌+◌, ◌-◌, ◌*◌, ℕ, List, length, take, drop}
use Rattle.std.proofs.Common.{◌∙◌, ap, sym, subst, arith, ⊎_elim}
use Rattle.std.proofs.lemmas.Bool.{cases_lt}
use Rattle.std.proofs.lemmas.List.{drop-take}
use Rattle.std.proofs.lemmas.Slice.{between-put_mid, take-put_mid_below, drop-put_mid}
use Rattle.worm_device.specs.ReadBytes.{cell_bytes}
use borrow.Rule.Slice.PartMut.{put_mid}

-- the cell that was put stands in its place
pub put_holds : (place from k : ℕ) (xs ys : List ℕ) → from ≡ 16 * place → length ys ≡ 16 → from ≤ length xs
    → cell_bytes (put_mid from k xs ys) place ≡ ys
put_holds place from k xs ys begins sixteen within =
    let part : from + 16 - from ≡ 16 = omega arith
    in subst (λ start. take 16 (drop start (put_mid from k xs ys)) ≡ ys) begins
    (subst (λ count. take count (drop from (put_mid from k xs ys)) ≡ ys) part
    (between-put_mid from k xs ys (from + 16) within (omega arith)))

-- each other cell is as it was, before it or behind it
pub put_others : (place from k other : ℕ) (xs ys : List ℕ) → from ≡ 16 * place → k ≡ 16 → length ys ≡ 16
    → from ≤ length xs → other ≢ place → cell_bytes (put_mid from k xs ys) other ≡ cell_bytes xs other
put_others place from k other xs ys begins part sixteen within apart =
    ⊎_elim
    (λ (before : other < place).
    sym (drop-take (16 * other) 16 (put_mid from k xs ys))
    ∙ ap (drop (16 * other)) (take-put_mid_below from k xs ys (16 * other + 16) (omega arith) within)
    ∙ drop-take (16 * other) 16 xs)
    (λ (behind : place ≤ other).
    ap (take 16) (drop-put_mid from k xs ys (16 * other) (omega arith) within (omega arith)))
    (cases_lt other place)
