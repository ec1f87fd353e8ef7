-- What is kept once the cells below one were read.
use Rattle.std.proofs.Common.{◌≡◌, ◌<◌, ◌≤◌, ◌+◌, ℕ, List, Option, Some, None, refl, sym, ◌∙◌, subst, ap, ⊎_elim, arith}
use Rattle.std.specs.Prelude.{IsTrue, Result, Ok}
use Rattle.cell_types.specs.Image.{Extends, IsUnchanged}
use Rattle.worm_device.specs.Calls.{Called, Reads}
use Rattle.worm_device.specs.Counts.{IsStill}
use Rattle.worm_device.specs.State.{DeviceState, IsDevice}
use Rattle.worm_device.specs.declared.device.Failed.{Failed}
use Rattle.worm_device.proofs.Counting.{still_first, still_second}
use Rattle.worm_device.proofs.Elapsing.{called_self, called_then}
use Rattle.worm_device.proofs.Images.{unchanged_then}
use Rattle.log_audit.specs.Kept.{image_of_kept, count_of, IsNext, IsKeptBetween}
use Rattle.log_audit.specs.Viewing.{shown_within}
use Rattle.log_audit.specs.declared.kept.KeptCells.{KeptCells}
use Rattle.log_audit.proofs.Orders.{below_or_at}

pub record KeptSoFar (old now : DeviceState) (at : ℕ) (kept : KeptCells) : Type 0 where
  pub called : Called old now
  pub count : count_of kept ≡ at
  pub faults : now.faults ≡ old.faults
  pub reads : now.reads ≤ old.reads + at
  pub above : IsTrue old.tells → (c : ℕ) (v : List ℕ) → c < at → old.image c ≡ Some v → image_of_kept kept c ≡ Some v
  pub below : IsTrue old.tells → Extends (image_of_kept kept) now.image
  pub only : IsStill old.foreign_writes now.foreign_writes → IsUnchanged old.image now.image

clash : {value : List ℕ} (found : Option (List ℕ)) → found ≡ None → found ≡ Some value → ⊥
clash {value} found none some = let e : None ≡ Some value = sym none ∙ some in cc

-- nothing was read
pub none_yet : (s : DeviceState) (kept : KeptCells) → count_of kept ≡ 0 → ((cell : ℕ) → image_of_kept kept cell ≡ None)
    → KeptSoFar s s 0 kept
none_yet s kept count blank = record {
  called = called_self s;
  count = count;
  faults = refl;
  reads = omega arith;
  above = λ tells c v less stands. absurd (omega arith);
  below = λ tells. record { keeps = λ c v stands. absurd (clash (image_of_kept kept c) (blank c) stands) };
  only = λ still cell. refl;
}

-- one read more
pub one_read : {old mid new : DeviceState} {at : ℕ} {kept : KeptCells} {result : Result (Option (List ℕ)) Failed} → KeptSoFar old mid at kept
    → Reads at mid new result → new.reads ≤ old.reads + (at + 1)
one_read {old} {mid} {new} {at} so_far read = omega (arith, so_far.reads, read.count)

-- one cell more
pub one_more : {old mid new : DeviceState} {at : ℕ} {kept after : KeptCells} {found : Option (List ℕ)} → KeptSoFar old mid at kept
    → Reads at mid new (Ok found) → IsNext found kept after → KeptSoFar old new (at + 1) after
one_more {old} {mid} {new} {at} {kept} {after} {found} so_far read next =
    let told : IsTrue old.tells → IsTrue mid.tells = λ tells. subst IsTrue (sym so_far.called.tells) tells in
    let before : (c : ℕ) → c < at → image_of_kept after c ≡ image_of_kept kept c = λ c less.
    next.others c (λ same. omega (arith, less, same, so_far.count)) in
    let here : (c : ℕ) → c ≡ at → image_of_kept after c ≡ found = λ c same.
    ap (image_of_kept after) (same ∙ sym so_far.count) ∙ next.here in
    record {
      called = called_then so_far.called read.called;
      count = next.count ∙ ap (λ (n : ℕ). n + 1) so_far.count;
      faults = read.cause ∙ so_far.faults;
      reads = one_read so_far read;
      above = λ tells c v less stands. ⊎_elim
          (λ (earlier : c < at). before c earlier ∙ so_far.above tells c v earlier stands)
          (λ (same : c ≡ at). here c same ∙ read.answer (told tells) ∙ ap new.image (sym same)
          ∙ read.called.image.keeps c v (so_far.called.image.keeps c v stands))
          (below_or_at c at less);
      below = λ tells. record {
        keeps = λ c v stands. ⊎_elim
            (λ (earlier : c < at). read.called.image.keeps c v ((so_far.below tells).keeps c v (sym (before c earlier) ∙ stands)))
            (λ (same : c ≡ at). ap new.image same ∙ sym (read.answer (told tells)) ∙ sym (here c same) ∙ stands)
            (below_or_at c at (let w = shown_within after.kept c v stands in omega (arith, w.0, next.count, so_far.count)));
      };
      only = λ still. unchanged_then (so_far.only (still_first so_far.called.foreign_writes read.called.foreign_writes still))
          (read.only (still_second so_far.called.foreign_writes read.called.foreign_writes still));
    }

-- all were read
pub all_kept : {old new : DeviceState} {at : ℕ} (kept : KeptCells) → IsDevice old → KeptSoFar old new at kept → at ≡ old.cells
    → IsTrue old.tells → IsKeptBetween old new kept
all_kept {old} {new} {at} kept device so_far all tells =
    let up : Extends old.image (image_of_kept kept) = record {
      keeps = λ c v stands.
          so_far.above tells c v (omega (arith, all, (device.inside c v stands).0)) stands;
    } in
    let down = so_far.below tells in
    record {
      above = up;
      below = down;
      quiet = λ still. λ i c. both c (image_of_kept kept c) refl up down (so_far.only still) i;
      before = λ still. λ i c. (both c (image_of_kept kept c) refl up down (so_far.only still) ∙ so_far.only still c) i;
    }
  where
    both : (c : ℕ) (found : Option (List ℕ)) → image_of_kept kept c ≡ found → Extends old.image (image_of_kept kept) → Extends (image_of_kept kept) new.image
        → IsUnchanged old.image new.image → image_of_kept kept c ≡ new.image c
    both c (Some v) is up down same = is ∙ sym (down.keeps c v is)
    both c None is up down same = is ∙ none (new.image c) refl
      where
        none : (there : Option (List ℕ)) → new.image c ≡ there → None ≡ new.image c
        none None at = sym at
        none (Some v) at = absurd (clash (image_of_kept kept c) is (up.keeps c v (sym (same c) ∙ at)))
