-- The search for the greatest pointer of a block, from its last one down.
use Rattle.std.proofs.Common.{◌≡◌, ◌<◌, ◌≤◌, ◌+◌, ◌^◌, ◌*◌, ⊎_elim, ℕ, None, Err, subst, sym, arith}
use Rattle.std.specs.Prelude.{IsTrue}
use Rattle.std.proofs.lemmas.Bool.{cases_lt}
use Rattle.cell_types.specs.Image.{Image}
use Rattle.cell_types.specs.declared.refusal.Fault.{Fault}
use Rattle.cell_types.specs.declared.refusal.Fault.TheVariants.{Tampered, Failed}
use Rattle.volume_meaning.specs.Blocks.{InSpan, pointer_at}
use Rattle.volume_meaning.proofs.Spans as spans
use Rattle.worm_device.specs.Views.{ViewState, Viewed}
use Rattle.jump_block.specs.Pointers.{ReadsPointer}
use Rattle.jump_block.specs.Spans.{IsSpan}
use Rattle.jump_block.specs.declared.spans.Span.{Span}
use Rattle.jump_insertion.specs.Hopping.{BlankFrom, GreatestEnds}

-- the spans behind this one have no written pointer
pub record GreatestSoFar (block l bound : ℕ) (old new : ViewState) (now : Span) : Type 0 where
  pub viewed : Viewed old new
  pub is : IsSpan l now
  pub below : now.low < bound
  pub above : IsTrue old.base.tells → BlankFrom old.image block l now.high bound

-- one pointer more is blank
pub blank_down : (image : Image) (block l bound : ℕ) (now : Span) → IsSpan l now
    → image (pointer_at block now.level now.digit) ≡ None → BlankFrom image block l now.high bound
    → BlankFrom image block l now.low bound
blank_down image block l bound now is blank above = λ key level digit from below within. ⊎_elim
    (λ (inside : key < now.high).
    let here : InSpan l now.level now.digit key = record {
      levels = is.levels;
      some = is.some;
      digits = is.digits;
      low = omega (arith, is.low, from);
      high = omega (arith, is.low, is.high, inside);
    } in
    let same = spans.apart l key level digit now.level now.digit within here in
    let P : ℕ → Type 0 = λ cell. image cell ≡ None in
    subst P (omega (arith, same.0, same.1)) blank)
    (λ past. above key level digit past below within)
    (cases_lt key now.high)

-- no key at or below l lies in a span
pub blank_below : (image : Image) (block l low bound : ℕ) → low ≤ l + 1 → BlankFrom image block l low bound
    → BlankFrom image block l 0 bound
blank_below image block l low bound first above = λ key level digit from below within.
    let past : l < key = spans.span_above within in
    above key level digit (omega (arith, past, first)) below within

pub blank_none : (image : Image) (block l bound : ℕ) → bound ≤ l + 1 → BlankFrom image block l 0 bound
blank_none image block l bound low = λ key level digit from below within.
    let past : l < key = spans.span_above within in
    absurd (omega (arith, past, low, below))

pub blank_first : (image : Image) (block l high bound : ℕ) → bound ≤ high → BlankFrom image block l high bound
blank_first image block l high bound le = λ key level digit from below within. absurd (omega (arith, le, from, below))

pub first_low : (l : ℕ) (s : Span) → IsSpan l s → s.level ≡ 0 → s.digit ≡ 1 → s.low ≤ l + 1
first_low l s is zero_level one_digit =
    let a : s.low ≡ l + s.digit * 16 ^ 0 = subst (λ (v : ℕ). s.low ≡ l + s.digit * 16 ^ v) zero_level is.low in
    let b : s.low ≡ l + 1 * 16 ^ 0 = subst (λ (d : ℕ). s.low ≡ l + d * 16 ^ 0) one_digit a in
    omega (arith, b)

-- a pointer was not read, or what stands there is no jump cell
pub greatest_unread : (block l bound : ℕ) (old mid new : ViewState) (now : Span) (fault : Fault)
    → GreatestSoFar block l bound old mid now → ReadsPointer (pointer_at block now.level now.digit) mid new (Err fault)
    → GreatestEnds block l bound old new (Err fault)
greatest_unread block l bound old mid new now Failed so_far read =
    omega (arith, so_far.viewed.called.faults, read.ends)
greatest_unread block l bound old mid new now (Tampered e) so_far read = (
  read.ends.0,
  λ tells. record {
    level = now.level;
    digit = now.digit;
    place = record { levels = so_far.is.levels; some = so_far.is.some; digits = so_far.is.digits };
    at = read.ends.1;
    bad = read.ends.2 (subst IsTrue (sym so_far.viewed.called.tells) tells);
  },
)
