-- The pages after one of them has changed.
use Rattle.std.specs.Prelude.{◌≡◌, ◌≢◌, ◌<◌, ◌⊎◌, ◌*◌, ◌+◌, ◌/◌, ◌%◌, ◌≤◌, ℕ, zero, suc, List, [], ◌∷◌, length, set, get_or, slice_get, Some, None, Result, Ok, Err, OnOk, OnErr}
use Rattle.std.proofs.Common.{refl, ◌∙◌, ap, sym, subst, arith, inl, inr, ⊎_elim}
use Rattle.std.proofs.lemmas.Option.{none-some, same_Some, slice_get-get_or, slice_get_within}
use Rattle.std.proofs.lemmas.List.{length-set, get_or-set_same}
use Rattle.std.proofs.lemmas.Bool.Decides.{eqb_tells}
use Rattle.worm_device.specs.declared.device.Failed.{Failed}
use Rattle.worm_device.specs.ReadBytes.{cell_bytes}
use Rattle.host_files.specs.Cells.{cell_in}
use Rattle.host_files.specs.File.{patched}
use Rattle.worm_device.proofs.CellBytes.{put_holds, put_others}
use Rattle.host_files.specs.Pages.{PageHolds, PagesHold, IsOn, ArePagesApart}
use Rattle.host_files.specs.declared.pages.Page.{Page}

-- what is got from a list after a set: the new element, or an old one from another place
pub got : {X : Type 0} (xs : List X) (i : ℕ) (y : X) (j : ℕ) (x : X) → slice_get (set xs i y) j ≡ Some x
    → ((j ≡ i) × (y ≡ x)) ⊎ ((j ≢ i) × (slice_get xs j ≡ Some x))
got [] i y j x h = absurd (none-some x h)
got (a ∷ xs) zero y zero x h = inl (refl, same_Some y x h)
got (a ∷ xs) zero y (suc j) x h = inr (λ e. omega (arith, e), h)
got (a ∷ xs) (suc i) y zero x h = inr (λ e. omega (arith, e), h)
got (a ∷ xs) (suc i) y (suc j) x h =
    ⊎_elim (λ new. inl (ap suc new.0, new.1)) (λ old. inr (λ e. old.0 (omega (arith, e)), old.1)) (got xs i y j x h)

-- the pages hold the bytes, where the one that is new does
pub holds_set : (cells : ℕ) (bytes : List ℕ) (pages : List Page) (frame : ℕ) (page : Page)
    → PagesHold cells bytes pages → PageHolds cells bytes page → PagesHold cells bytes (set pages frame page)
holds_set cells bytes pages frame page old new = λ other found is.
    ⊎_elim
    (λ here. subst (PageHolds cells bytes) here.1 new)
    (λ before. old other found before.1)
    (got pages frame page other found is)

-- where a page is on after one has changed
pub on_set : (pages : List Page) (frame : ℕ) (page : Page) (other number : ℕ)
    → IsOn (set pages frame page) other number
    → ((other ≡ frame) × (page.number ≡ Some number)) ⊎ IsOn pages other number
on_set pages frame page other number on =
    ⊎_elim
    (λ here. inl (here.0, ap (λ (p : Page). p.number) here.1 ∙ on.2))
    (λ before. inr (on.0, before.1, on.2))
    (got pages frame page other on.0 on.1)

-- no two are the same page, where the one that is new is nowhere else
pub apart_set : (pages : List Page) (frame : ℕ) (page : Page) → ArePagesApart pages
    → ((number other : ℕ) → page.number ≡ Some number → IsOn pages other number → other ≡ frame)
    → ArePagesApart (set pages frame page)
apart_set pages frame page apart alone = λ number one two on_one on_two.
    ⊎_elim
    (λ first.
    ⊎_elim
    (λ second. first.0 ∙ sym second.0)
    (λ second. first.0 ∙ sym (alone number two first.1 second))
    (on_set pages frame page two number on_two))
    (λ first.
    ⊎_elim
    (λ second. alone number one second.1 first ∙ sym second.0)
    (λ second. apart number one two first second)
    (on_set pages frame page two number on_two))
    (on_set pages frame page one number on_one)

-- a page that was loaded, or not
pub alone_loaded : (pages : List Page) (frame number : ℕ) (page : Page) (result : Result Unit Failed)
    → OnOk result (page.number ≡ Some number) → OnErr result (page.number ≡ None)
    → ((other : ℕ) → IsOn pages other number → ⊥) → (n other : ℕ) → page.number ≡ Some n → IsOn pages other n
    → other ≡ frame
alone_loaded pages frame number page (Ok done) ok err new n other is on =
    absurd (new other (on.0, on.1, on.2 ∙ sym is ∙ ok))
alone_loaded pages frame number page (Err failed) ok err new n other is on = absurd (none-some n (sym err ∙ is))

-- a page that is none holds all
pub none_holds : (cells : ℕ) (bytes : List ℕ) (page : Page) → page.number ≡ None → PageHolds cells bytes page
none_holds cells bytes page none = λ number place is within inside. absurd (none-some number (sym none ∙ is))

page_of : (number place at : ℕ) → place < 256 → 256 * number + place ≡ at → number ≡ at / 256
page_of number place at low same = omega arith

-- A cell of the file was written. A page holds what it held, where it is not the cell's page.
pub holds_patched : (cells at : ℕ) (piece bytes : List ℕ) (page : Page) → 16 * at + 16 ≤ length bytes
    → length piece ≡ 16 → PageHolds cells bytes page → (page.number ≡ Some (at / 256) → ⊥)
    → PageHolds cells (patched (16 * at) piece bytes) page
holds_patched cells at piece bytes page within sixteen old other = λ number place is low inside.
    old number place is low inside
    ∙ sym (put_others at (16 * at) 16 (256 * number + place) bytes piece refl refl sixteen (omega arith)
    (λ same. let here : number ≡ at / 256 = page_of number place at low same in other (is ∙ ap (λ n. Some n) here)))

-- so do the pages, where the cell's page, if it is held, has changed and holds what it is to
pub patched_set : (cells at frame : ℕ) (piece bytes : List ℕ) (pages : List Page) (page : Page)
    → 16 * at + 16 ≤ length bytes → length piece ≡ 16 → IsOn pages frame (at / 256) → ArePagesApart pages
    → PagesHold cells bytes pages → PageHolds cells (patched (16 * at) piece bytes) page
    → PagesHold cells (patched (16 * at) piece bytes) (set pages frame page)
patched_set cells at frame piece bytes pages page within sixteen on apart old new = λ other found is.
    ⊎_elim
    (λ here. subst (PageHolds cells (patched (16 * at) piece bytes)) here.1 new)
    (λ before. holds_patched cells at piece bytes found within sixteen (old other found before.1)
    (λ same. before.0 (apart (at / 256) other frame (found, before.1, same) on)))
    (got pages frame page other found is)

-- the cell's page after the cell was put onto it
pub put_page : (cells at : ℕ) (piece bytes : List ℕ) (page new : Page) → 16 * at + 16 ≤ length bytes
    → length piece ≡ 16 → page.number ≡ Some (at / 256) → new.number ≡ page.number
    → cell_bytes new.bytes (at % 256) ≡ piece
    → ((other : ℕ) → other ≢ at % 256 → cell_bytes new.bytes other ≡ cell_bytes page.bytes other)
    → PageHolds cells bytes page → PageHolds cells (patched (16 * at) piece bytes) new
put_page cells at piece bytes page new within sixteen on same holds others old = λ number place is low inside.
    let number_is : at / 256 ≡ number = same_Some _ _ (sym on ∙ sym same ∙ is) in
    ⊎_elim
    (λ here.
    let whole : 256 * number + place ≡ at = omega (arith, number_is, here.1) in
    ap (cell_bytes new.bytes) here.1
    ∙ holds
    ∙ sym (put_holds at (16 * at) 16 bytes piece refl sixteen (omega arith))
    ∙ ap (cell_bytes (patched (16 * at) piece bytes)) (sym whole))
    (λ apart.
    others place apart.1
    ∙ old number place (sym same ∙ is) low inside
    ∙ sym (put_others at (16 * at) 16 (256 * number + place) bytes piece refl refl sixteen (omega arith)
    (λ whole. apart.1 (omega (arith, whole, low)))))
    (eqb_tells place (at % 256))

-- what was read from a place within a list is what is got from it
pub read_is : {X : Type 0} (xs : List X) (i : ℕ) (x : X) → i < length xs → x ≡ get_or xs i x
    → slice_get xs i ≡ Some x
read_is xs i x within read = slice_get-get_or xs i x within ∙ ap (λ y. Some y) (sym read)

pub got_is : {X : Type 0} (xs : List X) (i : ℕ) (found x : X) → slice_get xs i ≡ Some found → x ≡ get_or xs i x
    → slice_get xs i ≡ Some x
got_is xs i found x is read = read_is xs i x (slice_get_within xs i found is) read

-- a cell that is read from its page is that of the file
pub cell_on : (cells at frame : ℕ) (bytes : List ℕ) (pages : List Page) (on : IsOn pages frame (at / 256))
    → PagesHold cells bytes pages → at < cells
    → cell_in (cell_bytes on.0.bytes (at % 256)) ≡ cell_in (cell_bytes bytes at)
cell_on cells at frame bytes pages on held inside =
    let whole : 256 * (at / 256) + at % 256 ≡ at = omega arith in
    ap cell_in (held frame on.0 on.1 (at / 256) (at % 256) on.2 (omega arith) (omega (arith, whole, inside))
    ∙ ap (cell_bytes bytes) whole)

-- where a page is on after one has become none
pub on_rest : (pages : List Page) (frame : ℕ) (page : Page) (other number : ℕ) → page.number ≡ None
    → IsOn (set pages frame page) other number → (other ≢ frame) × IsOn pages other number
on_rest pages frame page other number none on =
    ⊎_elim
    (λ here. absurd (none-some number (sym none ∙ ap (λ (p : Page). p.number) here.1 ∙ on.2)))
    (λ before. (before.0, (on.0, before.1, on.2)))
    (got pages frame page other on.0 on.1)

-- a page that has changed but for its number is on where it was
pub on_same : (pages : List Page) (frame : ℕ) (page new : Page) (number : ℕ) → slice_get pages frame ≡ Some page
    → IsOn pages frame number → new.number ≡ page.number → IsOn (set pages frame new) frame number
on_same pages frame page new number is on same = (
  new,
  set_is pages frame new (slice_get_within pages frame page is),
  same ∙ ap (λ (p : Page). p.number) (same_Some page on.0 (sym is ∙ on.1)) ∙ on.2,
)
  where
    set_is : {X : Type 0} (xs : List X) (i : ℕ) (x : X) → i < length xs → slice_get (set xs i x) i ≡ Some x
    set_is xs i x within = slice_get-get_or (set xs i x) i x (omega (arith, within, length-set xs i x))
        ∙ ap (λ y. Some y) (get_or-set_same xs i x x within)
