-- Cells of a row that are read, page after page.
use Rattle.std.specs.Prelude.{◌≡◌, ◌≢◌, ◌<◌, ◌≤◌, ◌+◌, ◌-◌, ◌*◌, ◌/◌, ◌%◌, ◌++◌, ℕ, List, length, take, drop, set, get_or, slice_get, Option, Some, Ok}
use Rattle.std.proofs.Common.{◌∙◌, ap, sym, arith, ⊎_elim}
use Rattle.std.proofs.lemmas.Bool.{cases_lt}
use Rattle.std.proofs.lemmas.List.{get_or-take, get_or-drop, length-take, length-drop, length-append}
use Rattle.std.proofs.lemmas.Option.{slice_get-get_or, get_or_from_slice_get, same_Some}
use Rattle.std.proofs.lemmas.Slice.{take-put_mid_below, between-put_mid}
use Rattle.worm_device.specs.ReadBytes.{cell_bytes}
use Rattle.host_files.specs.Cells.{AreCellsIn, cell_in}
use Rattle.host_files.specs.File.{AsksFile, FileState, Told}
use Rattle.host_files.specs.Pages.{HoldOn, IsOn, PagesHold}
use Rattle.host_files.specs.declared.pages.Page.{Page}
use Rattle.host_files.proofs.PageSets.{got}
use borrow.Rule.Slice.PartMut.{put_mid}

-- one cell more was copied
pub copy_more : (n first : ℕ) (found : List (Option (List ℕ))) (put : Option (List ℕ)) (bytes : List ℕ)
    → put ≡ cell_in (cell_bytes bytes (first + n)) → AreCellsIn n first found bytes
    → AreCellsIn (n + 1) first (set found n put) bytes
copy_more n first found put bytes is copied place held below there = ⊎_elim
    (λ (here : (place ≡ n) × (put ≡ held)).
    sym here.1 ∙ is ∙ ap (λ (k : ℕ). cell_in (cell_bytes bytes (first + k))) (sym here.0))
    (λ (before : (place ≢ n) × (slice_get found place ≡ Some held)).
    copied place held (omega (arith, below, before.0)) before.1)
    (got found n put place held there)

-- an element that another list has at another place
moved : {X : Type 0} (xs ys : List X) (i j : ℕ) (x : X) → j < length ys → get_or ys j x ≡ get_or xs i x
    → slice_get xs i ≡ Some x → slice_get ys j ≡ Some x
moved xs ys i j x within same is = slice_get-get_or ys j x within
    ∙ ap (λ y. Some y) (same ∙ get_or_from_slice_get xs i x x is)

-- an element before the part that was put in the midst
before_part : {X : Type 0} (a k : ℕ) (xs ys : List X) (i : ℕ) (x : X) → a ≤ length xs → i < a
    → slice_get (put_mid a k xs ys) i ≡ Some x → slice_get xs i ≡ Some x
before_part a k xs ys i x inside less is = moved (put_mid a k xs ys) xs i i x (omega (arith, inside, less))
    (sym (get_or-take a xs i x less)
    ∙ ap (λ zs. get_or zs i x) (sym (take-put_mid_below a k xs ys a (omega arith) inside))
    ∙ get_or-take a (put_mid a k xs ys) i x less) is

-- an element of the part
in_part : {X : Type 0} (a k : ℕ) (xs ys : List X) (i : ℕ) (x : X) → a ≤ length xs → a ≤ i → i < a + length ys
    → slice_get (put_mid a k xs ys) i ≡ Some x → slice_get ys (i - a) ≡ Some x
in_part a k xs ys i x inside from less is =
    let here : a + (i - a) ≡ i = omega (arith, from) in
    let part : take (a + length ys - a) (drop a (put_mid a k xs ys)) ≡ ys =
    between-put_mid a k xs ys (a + length ys) inside (omega arith) in
    moved (put_mid a k xs ys) ys i (i - a) x (omega (arith, from, less))
    (ap (λ zs. get_or zs (i - a) x) (sym part)
    ∙ get_or-take (a + length ys - a) (drop a (put_mid a k xs ys)) (i - a) x (omega (arith, from, less))
    ∙ get_or-drop a (put_mid a k xs ys) (i - a) x
    ∙ ap (λ (j : ℕ). get_or (put_mid a k xs ys) j x) here) is

-- the first so many cells of the row were read
pub record HasShown (count cells at : ℕ) (room found : List (Option (List ℕ))) (old now : FileState)
    (pages pages' : List Page) : Type 0 where
  pub size : now.size ≡ old.size
  pub told : now.told ≡ old.told
  pub parts : now.parts ≡ old.parts
  pub faults : now.faults ≡ old.faults
  pub long : length found ≡ length room
  pub within : count ≤ length found
  pub shown : (t : Told) → old.told ≡ Some t → PagesHold cells t.now.bytes pages → AreCellsIn count at found t.now.bytes
  pub holds : HoldOn cells old.told pages pages'

-- the cells of one more page were copied
pub shown_more : (count cells at frame more : ℕ) (room found part : List (Option (List ℕ))) (page : Page)
    (old mid now : FileState) (pages pages' pages'' : List Page)
    → HasShown count cells at room found old mid pages pages' → AsksFile mid now (Ok frame)
    → HoldOn cells mid.told pages' pages'' → IsOn pages'' frame ((at + count) / 256)
    → slice_get pages'' frame ≡ Some page → at + length room ≤ cells
    → (at + count) % 256 + more ≤ 256 → count + more ≤ length found → length part ≡ more
    → AreCellsIn (length part) ((at + count) % 256) part page.bytes
    → HasShown (count + more) cells at room (put_mid count more found part) old now pages pages''
shown_more count cells at frame more room found part page old mid now pages pages' pages'' s asks holds on is inside
    low fits long copied = record {
      size = asks.size ∙ s.size;
      told = asks.told ∙ s.told;
      parts = asks.parts ∙ s.parts;
      faults = asks.cause ∙ s.faults;
      long = longer ∙ s.long;
      within = omega (arith, longer, fits);
      shown = λ t told held place h below there. ⊎_elim
          (λ (less : place < count). s.shown t told held place h less
          (before_part count more found part place h within less there))
          (λ (from : count ≤ place).
          let less : place < count + length part = omega (arith, below, long) in
          let here : 256 * ((at + count) / 256) + ((at + count) % 256 + (place - count)) ≡ at + place = omega (
            arith,
            split (at + count),
            from,
          ) in
          copied (place - count) h (omega (arith, less, from)) (in_part count more found part place h within from less there)
          ∙ ap cell_in (holds t (s.told ∙ told) (s.holds t told held) frame page is ((at + count) / 256)
          ((at + count) % 256 + (place - count)) number (omega (arith, low, below, from))
          (omega (arith, here, inside, fits, below, s.long)))
          ∙ ap (λ (k : ℕ). cell_in (cell_bytes t.now.bytes k)) here)
          (cases_lt place count);
      holds = λ t told held. holds t (s.told ∙ told) (s.holds t told held);
    }
  where
    within : count ≤ length found
    within = omega (arith, fits)

    longer : length (put_mid count more found part) ≡ length found
    longer = omega (
      arith,
      length-append (take count found) (part ++ drop more (drop count found)),
      length-append part (drop more (drop count found)),
      length-take count found,
      length-drop more (drop count found),
      length-drop count found,
      long,
      fits,
    )

    number : page.number ≡ Some ((at + count) / 256)
    number = ap (λ (p : Page). p.number) (same_Some page on.0 (sym is ∙ on.1)) ∙ on.2

    split : (n : ℕ) → 256 * (n / 256) + n % 256 ≡ n
    split n = omega arith
