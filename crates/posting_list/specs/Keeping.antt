-- What is kept of a list from one search to the next, as a fact that a holder of a view carries.
use Rattle.std.specs.Prelude.{◌≡◌, ◌<◌, ◌+◌, ℕ, List, Some, IsTrue, slice_get}
use Rattle.std.proofs.Common.{ap, subst, sym, arith, ◌∙◌}
use Rattle.std.proofs.Props.{props}
use Rattle.cell_types.specs.Image.{Image}
use Rattle.cell_types.specs.Records.{IsRecordCell}
use Rattle.cell_types.specs.declared.record_cell.RecordCell.{RecordCell}
use Rattle.cell_types.specs.declared.record_cell.RecordCell.TheVariants.{Jump}
use Rattle.volume_meaning.specs.Volumes.{Holds}
use Rattle.volume_meaning.proofs.Holding.{some_is}
use Rattle.volume_meaning.specs.Blocks.{PostingFields, posting_record, InFront, at_the_start, behind}
use Rattle.volume_meaning.proofs.Fronts.{one_place}
use Rattle.jump_block.specs.Fronts.{HasKeyAt}
use Rattle.jump_block.specs.Keeping.{AreFrontsKept}
use Rattle.jump_block.specs.Known.{IsKnown}
use Rattle.jump_block.specs.declared.kept_fronts.KeptFronts.{KeptFronts}
use Rattle.jump_block.specs.declared.kept_row.KeptRow.{KeptRow}
use Rattle.jump_block.specs.declared.known_front.KnownFront.{KnownFront}
use Rattle.jump_block.specs.KeptRows.{IsRowKept}
use Rattle.jump_block.specs.Pointing.{HasPointer}
use Rattle.jump_index.specs.Keeping.{AreHopsKept, IsHopKept, IsSearchKept}
use Rattle.jump_index.specs.declared.kept_hops.KeptHop.{KeptHop}
use Rattle.jump_index.specs.declared.kept_hops.KeptHops.{KeptHops}
use Rattle.jump_index.specs.declared.kept_search.KeptSearch.{KeptSearch}
use Rattle.worm_device.specs.Views.{ViewState}

-- where the view tells its image, what is kept stands in it
abbrev pub KeepsSearch : ViewState → KeptSearch → Type 0
KeepsSearch s kept = IsTrue s.base.tells → IsSearchKept s.image kept

-- A holder carries a fact of which there is one proof at most. So it is of each that is part of this one.
is_cell_prop : (at : ℕ) (p : PostingFields) (cell : List ℕ) → IsProp (IsRecordCell (posting_record p) at cell)
is_cell_prop at p cell = Prim.hlevel props

is_jump_prop : (at target : ℕ) (cell : List ℕ) → IsProp (IsRecordCell (Jump target) at cell)
is_jump_prop at target cell = Prim.hlevel props

stands_prop : (image : Image) (at : ℕ) (cell : List ℕ) → IsProp (image at ≡ Some cell)
stands_prop image at cell = Prim.hlevel props

is_prop : (a b : ℕ) → IsProp (a ≡ b)
is_prop a b = Prim.hlevel props

one_holds : (r : RecordCell) (image : Image) (at : ℕ) → ((cell : List ℕ) → IsProp (IsRecordCell r at cell))
    → IsProp (Holds image at r)
one_holds r image at one_cell h k =
    one (some_is h.cell k.cell (sym h.stands ∙ k.stands)) h.stands k.stands h.is k.is where
      made : (cell : List ℕ) → image at ≡ Some cell → IsRecordCell r at cell → Holds image at r
      made cell stands is = record { cell = cell; stands = stands; is = is }

      one : {c d : List ℕ} → c ≡ d → (s : image at ≡ Some c) (t : image at ≡ Some d) → (i : IsRecordCell r at c)
          (j : IsRecordCell r at d) → made c s i ≡ made d t j
      one {c} e s t i j = subst
          (λ (d : List ℕ). (t : image at ≡ Some d) (j : IsRecordCell r at d) → made c s i ≡ made d t j) e
          (λ t j. ap (λ (x : image at ≡ Some c). made c x i) (stands_prop image at c s t)
          ∙ ap (λ (x : IsRecordCell r at c). made c t x) (one_cell c i j)) t j

holds_prop : (image : Image) (at : ℕ) (p : PostingFields) → IsProp (Holds image at (posting_record p))
holds_prop image at p = one_holds (posting_record p) image at (is_cell_prop at p)

has_pointer_prop : (image : Image) (block level digit target : ℕ) → IsProp (HasPointer image block level digit target)
has_pointer_prop image block level digit target = one_holds (Jump target) image _ (is_jump_prop _ target)

less_prop : (a b : ℕ) → IsProp (a < b)
less_prop a b = Prim.hlevel props

-- a front's first place
first_is : (image : Image) (block place : ℕ) (p : PostingFields) (is : place ≡ 0)
    (holds : Holds image (block + place) (posting_record p)) (h : InFront image block place p)
    → at_the_start place p is holds ≡ h
first_is image block place p is holds (at_the_start _ _ same held) =
    ap (λ (x : place ≡ 0). at_the_start place p x holds) (is_prop place 0 is same)
    ∙ ap (λ (x : Holds image (block + place) (posting_record p)). at_the_start place p same x)
    (holds_prop image (block + place) p holds held)
first_is image block place p is holds (behind _ before _ q same rest less held) = absurd (omega (arith, is, same))

-- a later place, where there is one proof for the place before
later_is : (image : Image) (block place before : ℕ) (p q : PostingFields) (is : place ≡ before + 1)
    (rest : InFront image block before q) (less : q.key < p.key)
    (holds : Holds image (block + place) (posting_record p))
    → ((other : InFront image block before q) → rest ≡ other) → (h : InFront image block place p)
    → behind place before p q is rest less holds ≡ h
later_is image block place before p q is rest less holds one (at_the_start _ _ same held) =
    absurd (omega (arith, is, same))
later_is image block place before p q is rest less holds one (behind _ other _ r same there smaller held) =
    any other (omega (arith, is, same)) r same there smaller where
      made : (b : ℕ) (f : PostingFields) → place ≡ b + 1 → InFront image block b f → f.key < p.key
          → Holds image (block + place) (posting_record p) → InFront image block place p
      made b f s t l h = behind place b p f s t l h

      of_one : (s : place ≡ before + 1) (t : InFront image block before q) (l : q.key < p.key)
          → made before q is rest less holds ≡ made before q s t l held
      of_one s t l =
          ap (λ (x : place ≡ before + 1). made before q x rest less holds) (is_prop place (before + 1) is s)
          ∙ ap (λ (x : InFront image block before q). made before q s x less holds) (one t)
          ∙ ap (λ (x : q.key < p.key). made before q s t x holds) (less_prop q.key p.key less l)
          ∙ ap (λ (x : Holds image (block + place) (posting_record p)). made before q s t l x)
          (holds_prop image (block + place) p holds held)

      of_place : (f : PostingFields) (s : place ≡ before + 1) (t : InFront image block before f) (l : f.key < p.key)
          → made before q is rest less holds ≡ made before f s t l held
      of_place f s t l = subst
          (λ (f : PostingFields). (t : InFront image block before f) (l : f.key < p.key)
          → made before q is rest less holds ≡ made before f s t l held)
          (one_place rest t) (λ t l. of_one s t l) t l

      any : (b : ℕ) → before ≡ b → (f : PostingFields) (s : place ≡ b + 1) (t : InFront image block b f)
          → (l : f.key < p.key) → made before q is rest less holds ≡ made b f s t l held
      any b e = subst
          (λ (b : ℕ). (f : PostingFields) (s : place ≡ b + 1) (t : InFront image block b f) (l : f.key < p.key)
          → made before q is rest less holds ≡ made b f s t l held)
          e of_place

front_prop : {image : Image} {block place : ℕ} {p : PostingFields} → (f h : InFront image block place p) → f ≡ h
front_prop {image} {block} (at_the_start place p is holds) h = first_is image block place p is holds h
front_prop {image} {block} (behind place before p q is rest less holds) h =
    later_is image block place before p q is rest less holds (λ other. front_prop rest other) h

has_key_prop : (image : Image) (block place key : ℕ) → IsProp (HasKeyAt image block place key)
has_key_prop image block place key a b = one (one_place a.in_front b.in_front) a.in_front b.in_front a.same b.same where
  made : (p : PostingFields) → InFront image block place p → p.key ≡ key → HasKeyAt image block place key
  made p front same = record { p = p; in_front = front; same = same }

  one : {p q : PostingFields} → p ≡ q → (f : InFront image block place p) (h : InFront image block place q)
      → (s : p.key ≡ key) (t : q.key ≡ key) → made p f s ≡ made q h t
  one {p} e f h s t = subst
      (λ (q : PostingFields). (h : InFront image block place q) (t : q.key ≡ key) → made p f s ≡ made q h t) e
      (λ h t. ap (λ (x : InFront image block place p). made p x s) (front_prop f h)
      ∙ ap (λ (x : p.key ≡ key). made p h x) (is_prop p.key key s t)) h t

is_known_prop : (image : Image) (f : KnownFront) → IsProp (IsKnown image f)
is_known_prop image f = Prim.hlevel (props, has_key_prop)

are_kept_prop : (image : Image) (fronts : KeptFronts) → IsProp (AreFrontsKept image fronts)
are_kept_prop image fronts = Prim.hlevel (props, is_known_prop)

is_row_prop : (image : Image) (row : KeptRow) → IsProp (IsRowKept image row)
is_row_prop image row = Prim.hlevel (props, stands_prop)

is_hop_prop : (image : Image) (hop : KeptHop) → IsProp (IsHopKept image hop)
is_hop_prop image hop = Prim.hlevel (props, has_key_prop, has_pointer_prop)

are_hops_prop : (image : Image) (hops : KeptHops) → IsProp (AreHopsKept image hops)
are_hops_prop image hops = Prim.hlevel (props, is_hop_prop)

pub keeps_search_prop : (s : ViewState) (kept : KeptSearch) → IsProp (KeepsSearch s kept)
keeps_search_prop s kept = Prim.hlevel (props, are_kept_prop, is_row_prop, are_hops_prop)

-- so each of some kept searches does
abbrev pub KeepEach : ViewState → List KeptSearch → Type 0
KeepEach s all = (i : ℕ) (kept : KeptSearch) → slice_get all i ≡ Some kept → KeepsSearch s kept

pub keep_each_prop : (s : ViewState) (all : List KeptSearch) → IsProp (KeepEach s all)
keep_each_prop s all = Prim.hlevel (props, keeps_search_prop)
