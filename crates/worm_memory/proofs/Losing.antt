-- What the changes of a crash make of an instant, and of what a device in memory holds.
use Rattle.std.proofs.Common.{◌≡◌, ◌<◌, ◌==◌, if◌then◌else◌, ℕ, zero, suc, Bool, true, false, List, [], ◌∷◌, ◌++◌, length, set, get_or, Option, None, refl, ap, sym, subst, ◌∙◌, ⊎_elim, arith}
use Rattle.std.proofs.Math.ListN.{length-set}
use Rattle.std.proofs.lemmas.Bool.{cond-true, cond-false, eq-eqb}
use Rattle.std.proofs.lemmas.Bool.Decides.{nat_tests, eqb_tells}
use Rattle.std.proofs.lemmas.Option.{none-some}
use Rattle.std.proofs.lemmas.List.{get_or-set_same, get_or-set_other}
use Rattle.worm_device.specs.State.{Instant, IsDevice}
use Rattle.worm_memory.specs.declared.change.Change.{Change}
use Rattle.worm_memory.specs.declared.change.Change.TheVariants.{Lost}
use Rattle.worm_memory.specs.Losses.{kept_image, crash_cells, crash_changes, AllElseSure, AreDistinct}
use Rattle.worm_memory.specs.Memory.{Memory, device_of}
use Rattle.worm_memory.specs.Outcomes.{with_crash}
use Rattle.worm_memory.specs.Unsure.{is_among, unsure_then, unsure_after, unsure_of}
use Rattle.worm_memory.specs.Worlds.{after_change, after_changes, blank, world, AreChanges, HasBecome}
use Rattle.worm_memory.proofs.Unsure.{IsRight}
use Rattle.worm_memory.proofs.Worlds.{after_row, changes_append}

module _ (keep : List ℕ) where
  base : (b : Bool) (image sure : Option (List ℕ)) → (b ≡ false → image ≡ sure) → image ≡ (if b then image else sure)
  base true image sure e = refl
  base false image sure e = e refl

  -- a cell that is kept is not the one that is lost
  lost_kept : (here kept : Bool) (image sure : Option (List ℕ)) → (kept ≡ true → here ≡ false)
      → (if kept then (if here then sure else image) else sure) ≡ (if kept then image else sure)
  lost_kept here false image sure apart = refl
  lost_kept false true image sure apart = refl
  lost_kept true true image sure apart = absurd (let clash : true ≡ false = apart refl in cc)

  not_here : (here rest : Bool) → here ≡ false → rest ≡ false → (if here then true else rest) ≡ false
  not_here true rest e f = absurd (let clash : true ≡ false = e in cc)
  not_here false rest e f = f

  -- numbers of which one is among these and the other is not are two
  apart : (m n : ℕ) → is_among m keep ≡ true → is_among n keep ≡ false → (n == m) ≡ false
  apart m n in_keep out = ⊎_elim
      (λ here. absurd (let clash : true ≡ false = sym in_keep ∙ ap (λ (k : ℕ). is_among k keep) (sym here.1)
      ∙ out in cc))
      (λ other. other.0)
      (eqb_tells n m)

  fell : (here : Bool) (image sure : Option (List ℕ)) → (here ≡ false → image ≡ sure)
      → (if here then sure else image) ≡ sure
  fell true image sure e = refl
  fell false image sure e = e refl

  turned : (a b : ℕ) → (a == b) ≡ false → (b == a) ≡ false
  turned a b e = grind (arith, nat_tests)

  abbrev Keeps : List ℕ → Type 0
  Keeps unsure = (now : Instant) → AllElseSure keep unsure now → (cell : ℕ)
      → (after_changes now (crash_changes keep unsure)).image cell ≡ kept_image keep now.image now.sure cell

  one_more : (at : ℕ) (unsure : List ℕ) (now : Instant) (all : AllElseSure keep (at ∷ unsure) now) (cell : ℕ)
      (b : Bool) → is_among at keep ≡ b → Keeps unsure
      → (after_changes now (if b then crash_changes keep unsure else Lost at ∷ crash_changes keep unsure)).image cell
      ≡ kept_image keep now.image now.sure cell
  one_more at unsure now all cell true is keeps = keeps now (λ c gone free. all c
      (not_here (c == at) (is_among c unsure) (apart at c is free) gone) free) cell
  one_more at unsure now all cell false is keeps =
      keeps (after_change now (Lost at)) (λ c gone free. fell (c == at) (now.image c) (now.sure c)
      (λ other. all c (not_here (c == at) (is_among c unsure) other gone) free)) cell
      ∙ lost_kept (cell == at) (is_among cell keep) (now.image cell) (now.sure cell)
      (λ kept. turned at cell (apart cell at kept is))

  pub crash_image : (unsure : List ℕ) (now : Instant) → AllElseSure keep unsure now → (cell : ℕ)
      → (after_changes now (crash_changes keep unsure)).image cell ≡ kept_image keep now.image now.sure cell
  crash_image [] now all cell = base (is_among cell keep) (now.image cell) (now.sure cell) (all cell refl)
  crash_image (at ∷ unsure) now all cell = one_more at unsure now all cell (is_among at keep) refl (crash_image unsure)

  abbrev Sure : List ℕ → Type 0
  Sure unsure = (now : Instant) (cell : ℕ) → (after_changes now (crash_changes keep unsure)).sure cell
      ≡ (after_changes now (crash_changes keep unsure)).image cell

  one_sure : (at : ℕ) (unsure : List ℕ) (now : Instant) (cell : ℕ) (b : Bool) → Sure unsure
      → (after_changes now (if b then crash_changes keep unsure else Lost at ∷ crash_changes keep unsure)).sure cell
      ≡ (after_changes now (if b then crash_changes keep unsure else Lost at ∷ crash_changes keep unsure)).image
      cell
  one_sure at unsure now cell true sure = sure now cell
  one_sure at unsure now cell false sure = sure (after_change now (Lost at)) cell

  pub crash_sure : (unsure : List ℕ) (now : Instant) (cell : ℕ)
      → (after_changes now (crash_changes keep unsure)).sure cell
      ≡ (after_changes now (crash_changes keep unsure)).image cell
  crash_sure [] now cell = refl
  crash_sure (at ∷ unsure) now cell = one_sure at unsure now cell (is_among at keep) (crash_sure unsure)

-- what a crash leaves in a device's cells, where these are not sure
lost_there : (cells : List (Option (List ℕ))) (now : Instant) (at : ℕ) → HasBecome cells now.image → at < length cells
    → now.sure at ≡ None
    → HasBecome (set cells at None) (after_change now (Lost at)).image
lost_there cells now at holds inside gone = λ cell. ⊎_elim
    (λ here. subst (λ n. get_or (set cells at None) n None ≡ (if n == at then now.sure n else now.image n)) (sym here.1)
    (get_or-set_same cells at None None inside ∙ sym gone ∙ sym (cond-true (at == at) (now.sure at) (now.image at)
    (eq-eqb at at refl))))
    (λ other. get_or-set_other cells at cell None None other.1 ∙ holds cell
    ∙ sym (cond-false (cell == at) (now.sure cell) (now.image cell) other.0))
    (eqb_tells cell at)

-- those that may be lost are cells of the device, and blank in what is sure
abbrev AreBlank : List ℕ → List (Option (List ℕ)) → Instant → Type 0
AreBlank unsure cells now = (cell : ℕ) → is_among cell unsure ≡ true → (cell < length cells) × (now.sure cell ≡ None)

among_rest : (cell at : ℕ) (unsure : List ℕ) → is_among cell unsure ≡ true → is_among cell (at ∷ unsure) ≡ true
among_rest cell at unsure among = grind (arith, nat_tests)

among_first : (at : ℕ) (unsure : List ℕ) → is_among at (at ∷ unsure) ≡ true
among_first at unsure = grind (arith, nat_tests)

abbrev Leaves : List ℕ → List ℕ → Type 0
Leaves keep unsure = (cells : List (Option (List ℕ))) (now : Instant) → HasBecome cells now.image
    → AreBlank unsure cells now
    → HasBecome (crash_cells keep unsure cells) (after_changes now (crash_changes keep unsure)).image

leaves_one : (keep unsure : List ℕ) (at : ℕ) (b : Bool) → Leaves keep unsure
    → (cells : List (Option (List ℕ))) (now : Instant)
    → HasBecome cells now.image → AreBlank (at ∷ unsure) cells now
    → HasBecome (crash_cells keep unsure (if b then cells else set cells at None))
    (after_changes now (if b then crash_changes keep unsure else Lost at ∷ crash_changes keep unsure)).image
leaves_one keep unsure at true leaves cells now holds gone =
    leaves cells now holds (λ cell among. gone cell (among_rest cell at unsure among))
leaves_one keep unsure at false leaves cells now holds gone =
    let first = gone at (among_first at unsure) in
    leaves (set cells at None) (after_change now (Lost at)) (lost_there cells now at holds first.0 first.1)
    (λ cell among. let rest = gone cell (among_rest cell at unsure among) in (simp length-set rest.0, rest.1))

pub crash_leaves : (keep unsure : List ℕ) → Leaves keep unsure
crash_leaves keep [] cells now holds gone = holds
crash_leaves keep (at ∷ unsure) cells now holds gone =
    leaves_one keep unsure at (is_among at keep) (crash_leaves keep unsure) cells now holds gone

-- its changes are changes: each cell that is taken was not sure, also once those before it are taken
abbrev AreUnsure : List ℕ → Instant → Type 0
AreUnsure unsure now = (cell : ℕ) → is_among cell unsure ≡ true → now.image cell ≡ now.sure cell → ⊥

still_unsure : (unsure : List ℕ) (now : Instant) (at : ℕ) → is_among at unsure ≡ false → AreUnsure (at ∷ unsure) now
    → AreUnsure unsure (after_change now (Lost at))
still_unsure unsure now at new are cell among same = ⊎_elim
    (λ here. absurd (let clash : true ≡ false = sym among ∙ ap (λ n. is_among n unsure) here.1 ∙ new in cc))
    (λ other. are cell (among_rest cell at unsure among) (sym (cond-false (cell == at) (now.sure cell)
    (now.image cell) other.0) ∙ same))
    (eqb_tells cell at)

changes_one : (cells at : ℕ) (unsure : List ℕ) (more : List Change) (b : Bool)
    → ((now : Instant) → AreUnsure unsure now → AreChanges cells now more)
    → (now : Instant) → is_among at unsure ≡ false → AreUnsure (at ∷ unsure) now
    → AreChanges cells now (if b then more else Lost at ∷ more)
changes_one cells at unsure more true all now new are = all now (λ cell among. are cell
    (among_rest cell at unsure among))
changes_one cells at unsure more false all now new are =
    (are at (among_first at unsure), all (after_change now (Lost at)) (still_unsure unsure now at new are))

pub crash_are_changes : (cells : ℕ) (keep unsure : List ℕ) → AreDistinct unsure → (now : Instant) → AreUnsure unsure now
    → AreChanges cells now (crash_changes keep unsure)
crash_are_changes cells keep [] apart now are = tt
crash_are_changes cells keep (at ∷ unsure) apart now are =
    changes_one cells at unsure (crash_changes keep unsure) (is_among at keep)
    (crash_are_changes cells keep unsure apart.1) now apart.0 are

pub crash_follows : (cells : ℕ) (keep : List ℕ) (changes : List Change) → AreChanges cells blank changes
    → IsRight (world changes) (unsure_of changes) → AreChanges cells blank
    (changes ++ crash_changes keep (unsure_of changes))
crash_follows cells keep changes all right =
    changes_append cells blank changes (crash_changes keep (unsure_of changes)) all
    (crash_are_changes cells keep (unsure_of changes) right.apart (world changes) (λ cell among same.
    let not_sure = right.not_sure cell among in none-some not_sure.0 (sym not_sure.2 ∙ sym same ∙ not_sure.1)))

-- and after them nothing is unsure
none_one : (at : ℕ) (more : List Change) (b : Bool) → ((unsure : List ℕ) → unsure_after unsure more ≡ [])
    → (unsure : List ℕ)
    → unsure_after unsure (if b then more else Lost at ∷ more) ≡ []
none_one at more true none unsure = none unsure
none_one at more false none unsure = none (unsure_then unsure (Lost at))

crash_unsure : (keep cells unsure : List ℕ) → unsure_after unsure (crash_changes keep cells) ≡ []
crash_unsure keep [] unsure = refl
crash_unsure keep (at ∷ cells) unsure = none_one at (crash_changes keep cells) (is_among at keep)
    (crash_unsure keep cells) unsure

unsure_row : (unsure : List ℕ) (changes more : List Change)
    → unsure_after unsure (changes ++ more) ≡ unsure_after (unsure_after unsure changes) more
unsure_row unsure [] more = refl
unsure_row unsure (first ∷ changes) more = unsure_row (unsure_then unsure first) changes more

pub unsure_crashed : (keep cells : List ℕ) (changes : List Change)
    → unsure_of (changes ++ crash_changes keep cells) ≡ []
unsure_crashed keep cells changes = unsure_row [] changes (crash_changes keep cells)
    ∙ crash_unsure keep cells (unsure_of changes)

-- each of these is among them
pub among_at : (unsure : List ℕ) (i : ℕ) → i < length unsure → is_among (get_or unsure i 0) unsure ≡ true
among_at [] i within = absurd (omega arith)
among_at (at ∷ unsure) zero within = among_first at unsure
among_at (at ∷ unsure) (suc i) within = among_rest (get_or unsure i 0) at unsure (among_at unsure i (omega arith))

-- what a crash makes of a device, cell by cell
pub crashed_image : (m : Memory) (keep : List ℕ) → IsRight (world m.changes) (unsure_of m.changes) → (cell : ℕ)
    → (device_of (with_crash m keep)).image cell ≡ kept_image keep (device_of m).image (device_of m).sure cell
crashed_image m keep right cell =
    ap (λ (now : Instant). now.image cell) (after_row blank m.changes (crash_changes keep (unsure_of m.changes)))
    ∙ crash_image keep (unsure_of m.changes) (world m.changes) (λ c other out. right.else_sure c other) cell

pub crashed_sure : (m : Memory) (keep : List ℕ) (cell : ℕ)
    → (device_of (with_crash m keep)).sure cell ≡ (device_of (with_crash m keep)).image cell
crashed_sure m keep cell =
    let row = after_row blank m.changes (crash_changes keep (unsure_of m.changes)) in
    ap (λ (now : Instant). now.sure cell) row
    ∙ crash_sure keep (unsure_of m.changes) (world m.changes) cell
    ∙ sym (ap (λ (now : Instant). now.image cell) row)

-- the cells that are not sure are cells of the device, and blank in what is sure
pub unsure_inside : (m : Memory) → IsDevice (device_of m) → IsRight (world m.changes) (unsure_of m.changes) → (cell : ℕ)
    → is_among cell (unsure_of m.changes) ≡ true → (cell < m.cells) × ((world m.changes).sure cell ≡ None)
unsure_inside m is right cell among =
    let not_sure = right.not_sure cell among in ((is.inside cell not_sure.0 not_sure.1).0, not_sure.2)

pub each_inside : (m : Memory) → IsDevice (device_of m) → IsRight (world m.changes) (unsure_of m.changes) → (i : ℕ)
    → i < length (unsure_of m.changes) → get_or (unsure_of m.changes) i 0 < m.cells
each_inside m is right i within =
    (unsure_inside m is right (get_or (unsure_of m.changes) i 0) (among_at (unsure_of m.changes) i within)).0
