-- Which cells the record shows as not sure: just those that are written and not sure, each once.
use Rattle.std.proofs.Common.{◌≡◌, ◌==◌, if◌then◌else◌, ℕ, Bool, true, false, List, [], ◌∷◌, ◌++◌, length, Option, Some, None, refl, ap, sym, ◌∙◌, arith}
use Rattle.std.proofs.lemmas.Bool.Decides.{nat_tests}
use Rattle.std.proofs.lemmas.Bool.{eqb-true}
use Rattle.std.proofs.lemmas.Option.{none-some}
use Rattle.cell_types.specs.Image.{Image, Extends}
use Rattle.worm_device.specs.State.{Instant}
use Rattle.worm_device.proofs.Images.{extends_self, extends_then}
use Rattle.worm_memory.specs.declared.change.Change.{Change}
use Rattle.worm_memory.specs.declared.change.Change.TheVariants.{Wrote, Foreign, Synced, Lost, Crashed}
use Rattle.worm_memory.specs.Losses.{AreDistinct}
use Rattle.worm_memory.specs.Proper.{kept}
use Rattle.worm_memory.specs.Unsure.{is_among, without, unsure_after, unsure_of}
use Rattle.worm_memory.specs.Worlds.{kept_or, written, fallen, after_change, after_changes, blank, world, AreChanges, IsAllSure}
use Rattle.worm_memory.proofs.Worlds.{blank_below}

-- a number is among these and one more
same_test : (b : Bool) → (if b then true else false) ≡ b
same_test true = refl
same_test false = refl

one_test : (b c d x : Bool) → x ≡ (if c then true else d) → (if b then true else x)
    ≡ (if (if b then true else c) then true else d)
one_test true c d x e = refl
one_test false c d x e = e

among_append : (n at : ℕ) (unsure : List ℕ)
    → is_among n (unsure ++ at ∷ []) ≡ (if is_among n unsure then true else (n == at))
among_append n at [] = same_test (n == at)
among_append n at (m ∷ unsure) = one_test (n == m) (is_among n unsure) (n == at) (is_among n (unsure ++ at ∷ []))
    (among_append n at unsure)

-- and among these without one
among_without : (n at : ℕ) (unsure : List ℕ)
    → is_among n (without at unsure) ≡ (if n == at then false else is_among n unsure)
among_without n at [] = grind (arith, nat_tests)
among_without n at (m ∷ unsure) = let rest = among_without n at unsure in grind (arith, nat_tests)

-- each is there once still
apart_append : (at : ℕ) (unsure : List ℕ) → AreDistinct unsure → is_among at unsure ≡ false → AreDistinct (unsure ++ at ∷ [])
apart_append at [] apart new = (refl, tt)
apart_append at (n ∷ unsure) apart new =
    let first = apart.0 in
    let more = among_append n at unsure in
    (grind (arith, nat_tests), apart_append at unsure apart.1 (grind (arith, nat_tests)))

apart_cons : (b : Bool) (n : ℕ) (rest : List ℕ) → (b ≡ false → is_among n rest ≡ false) → AreDistinct rest
    → AreDistinct (if b then rest else n ∷ rest)
apart_cons true n rest new apart = apart
apart_cons false n rest new apart = (new refl, apart)

apart_without : (at : ℕ) (unsure : List ℕ) → AreDistinct unsure → AreDistinct (without at unsure)
apart_without at [] apart = tt
apart_without at (n ∷ unsure) apart =
    let first = apart.0 in
    let less = among_without n at unsure in
    apart_cons (at == n) n (without at unsure) (λ other. grind (arith, nat_tests)) (apart_without at unsure apart.1)

-- the record shows rightly what is not sure
pub record IsRight (now : Instant) (unsure : List ℕ) : Type 0 where
  pub stands : Extends now.sure now.image
  pub else_sure : (cell : ℕ) → is_among cell unsure ≡ false → now.image cell ≡ now.sure cell
  pub not_sure : (cell : ℕ) → is_among cell unsure ≡ true → (value : List ℕ) × (now.image cell ≡ Some value)
      × (now.sure cell ≡ None)
  pub apart : AreDistinct unsure

-- where all is sure
right_all : (image : Image) → IsRight (record { image = image; sure = image }) []
right_all image = record {
  stands = extends_self image;
  else_sure = λ cell other. refl;
  not_sure = λ cell among. absurd (let clash : false ≡ true = among in cc);
  apart = tt;
}

-- a blank cell is none of the unsure ones
blank_new : (now : Instant) (unsure : List ℕ) (at : ℕ) (b : Bool) → is_among at unsure ≡ b → IsRight now unsure
    → now.image at ≡ None
    → is_among at unsure ≡ false
blank_new now unsure at false is right free = is
blank_new now unsure at true is right free =
    let stands = right.not_sure at is in absurd (none-some stands.0 (sym free ∙ stands.1))

put_stands : (here : Bool) (old : Option (List ℕ)) (value : List ℕ) → here ≡ true → old ≡ None
    → (if here then kept_or old value else old) ≡ Some value
put_stands here old value is free = cc

put_elsewhere : (here : Bool) (old : Option (List ℕ)) (value : List ℕ) → here ≡ false
    → (if here then kept_or old value else old) ≡ old
put_elsewhere here old value is = cc

not_either : (a b : Bool) → (if a then true else b) ≡ false → (a ≡ false) × (b ≡ false)
not_either true b e = absurd (let clash : true ≡ false = e in cc)
not_either false b e = (refl, e)

either : (A : Type 0) (a b : Bool) → (if a then true else b) ≡ true → (a ≡ true → A) → (a ≡ false → b ≡ true → A) → A
either A true b e left right = left refl
either A false b e left right = right refl e

-- where a blank cell is written
right_put : (now : Instant) (unsure : List ℕ) (at : ℕ) (value : List ℕ) → IsRight now unsure → now.image at ≡ None
    → IsRight (record { image = written now.image at value; sure = now.sure }) (unsure ++ at ∷ [])
right_put now unsure at value right free = record {
  stands = extends_then right.stands (kept now.image at value);
  else_sure = λ cell other.
      let both = not_either (is_among cell unsure) (cell == at) (sym (among_append cell at unsure) ∙ other) in
      put_elsewhere (cell == at) (now.image cell) value both.1 ∙ right.else_sure cell both.0;
  not_sure = λ cell among.
      either ((v : List ℕ) × (written now.image at value cell ≡ Some v) × (now.sure cell ≡ None))
      (is_among cell unsure) (cell == at) (sym (among_append cell at unsure) ∙ among)
      (λ old. let was = right.not_sure cell old in (was.0, (kept now.image at value).keeps cell was.0 was.1, was.2))
      (λ old here. let same = eqb-true cell at here in
      let cell_free : now.image cell ≡ None = ap now.image same ∙ free in (
        value,
        put_stands (cell == at) (now.image cell) value here cell_free,
        blank_below _ _
            (right.stands.keeps cell) cell_free,
      ));
  apart = apart_append at unsure right.apart (blank_new now unsure at (is_among at unsure) refl right free);
}

fallen_here : (here : Bool) (sure image : Option (List ℕ)) → (here ≡ false → image ≡ sure)
    → (if here then sure else image) ≡ sure
fallen_here true sure image e = refl
fallen_here false sure image e = e refl

fallen_elsewhere : (here : Bool) (sure image : Option (List ℕ)) → here ≡ false → (if here then sure else image) ≡ image
fallen_elsewhere here sure image e = cc

fallen_keeps : (here : Bool) (sure image : Option (List ℕ)) (found : List ℕ) → sure ≡ Some found → image ≡ Some found
    → (if here then sure else image) ≡ Some found
fallen_keeps true sure image found s i = s
fallen_keeps false sure image found s i = i

less : (a b : Bool) → (if a then false else b) ≡ true → (a ≡ false) × (b ≡ true)
less true b e = absurd (let clash : false ≡ true = e in cc)
less false b e = (refl, e)

less_not : (a b : Bool) → (if a then false else b) ≡ false → a ≡ false → b ≡ false
less_not a b e f = cc

-- where a cell is lost
right_lost : (now : Instant) (unsure : List ℕ) (at : ℕ) → IsRight now unsure
    → IsRight (record { image = fallen now.image now.sure at; sure = now.sure }) (without at unsure)
right_lost now unsure at right = record {
  stands = record {
    keeps = λ cell found is. fallen_keeps (cell == at) (now.sure cell) (now.image cell) found is
        (right.stands.keeps cell found is);
  };
  else_sure = λ cell other. fallen_here (cell == at) (now.sure cell) (now.image cell)
      (λ apart. right.else_sure cell (less_not (cell == at) (is_among cell unsure)
      (sym (among_without cell at unsure) ∙ other) apart));
  not_sure = λ cell among.
      let both = less (cell == at) (is_among cell unsure) (sym (among_without cell at unsure) ∙ among) in
      let was = right.not_sure cell both.1 in
      (was.0, fallen_elsewhere (cell == at) (now.sure cell) (now.image cell) both.0 ∙ was.1, was.2);
  apart = apart_without at unsure right.apart;
}

pub right_after : (cells : ℕ) (now : Instant) (unsure : List ℕ) (changes : List Change)
    → IsRight now unsure → AreChanges cells now changes → IsRight (after_changes now changes)
    (unsure_after unsure changes)
right_after cells now unsure [] right all = right
right_after cells now unsure (Wrote at value ∷ changes) right all = right_after cells
    (after_change now (Wrote at value)) (unsure ++ at ∷ []) changes
    (right_put now unsure at value right all.1) all.3
right_after cells now unsure (Foreign at value ∷ changes) right all = right_after cells
    (after_change now (Foreign at value)) (unsure ++ at ∷ []) changes
    (right_put now unsure at value right all.1) all.3
right_after cells now unsure (Synced ∷ changes) right all = right_after cells (after_change now Synced) [] changes
    (right_all now.image) all.1
right_after cells now unsure (Lost at ∷ changes) right all = right_after cells (after_change now (Lost at))
    (without at unsure) changes
    (right_lost now unsure at right) all.1
right_after cells now unsure (Crashed ∷ changes) right all = right_after cells (after_change now Crashed) [] changes
    (right_all now.image) all

-- and so it does from blank cells on
pub right_world : (cells : ℕ) (changes : List Change) → AreChanges cells blank changes
    → IsRight (world changes) (unsure_of changes)
right_world cells changes all = right_after cells blank [] changes (right_all blank.image) all

-- a cell that is written and not sure is among these
pub unsure_is_among : (now : Instant) (unsure : List ℕ) (cell : ℕ) (value : List ℕ) (b : Bool)
    → is_among cell unsure ≡ b
    → IsRight now unsure → now.image cell ≡ Some value → now.sure cell ≡ None → is_among cell unsure ≡ true
unsure_is_among now unsure cell value true is right stands free = is
unsure_is_among now unsure cell value false is right stands free =
    absurd (none-some value (sym free ∙ sym (right.else_sure cell is) ∙ stands))

-- where there is one, not all is sure
first_among : (at : ℕ) (unsure : List ℕ) → is_among at (at ∷ unsure) ≡ true
first_among at unsure = grind (arith, nat_tests)

pub not_all_sure : (now : Instant) (unsure : List ℕ) → (length unsure ≡ 0 → ⊥) → IsRight now unsure → IsAllSure now → ⊥
not_all_sure now [] some right all = some refl
not_all_sure now (at ∷ unsure) some right all =
    let first = right.not_sure at (first_among at unsure) in
    none-some first.0 (sym first.2 ∙ sym (all at) ∙ first.1)

-- and where there is none, all is
pub all_sure : (now : Instant) (unsure : List ℕ) → length unsure ≡ 0 → IsRight now unsure → IsAllSure now
all_sure now [] none right = λ cell. right.else_sure cell refl
all_sure now (at ∷ unsure) none right = absurd (omega arith)
