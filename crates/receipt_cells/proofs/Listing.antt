-- What is listed, over one call after another.
use Rattle.std.proofs.Common.{◌≡◌, ◌<◌, ◌≤◌, ◌+◌, ◌⊎◌, ⊎_elim, inl, inr, ℕ, Bool, true, false, List, Some, None, Result, Ok, Err, ap, refl, sym, subst, arith, ◌∙◌}
use Rattle.std.specs.Prelude.{IsTrue, cond, ◌==◌}
use Rattle.std.proofs.lemmas.Bool.{cases_lt, eqb-true, eq-eqb}
use Rattle.std.proofs.lemmas.Option.{none-some}
use Rattle.cell_types.specs.Image.{Image, Extends}
use Rattle.volume_meaning.specs.Volumes.{IsWritten}
use Rattle.worm_device.specs.Views.{ViewState}
use Rattle.worm_device.proofs.Resting.{viewed_self, viewed_then}
use Rattle.jump_block.proofs.Counting.{rose_later}
use Rattle.kept_documents.specs.declared.fault.AskFault.{AskFault}
use Rattle.kept_documents.specs.declared.fault.AskFault.TheVariants.{NoMemory, ReadFault}
use Rattle.receipt_text.specs.Listed.{ListsAlso, listed_image}
use Rattle.receipt_cells.specs.Needed.{IsListed, ListsJust}
use Rattle.receipt_cells.specs.Written.{IsInRow, ListsCells, ListsWritten, RowSoFar}

-- a written cell stays written
pub written_on : {old new : Image} {c : ℕ} → Extends old new → IsWritten old c → IsWritten new c
written_on {c = c} e w = record { found = w.found; stands = e.keeps c w.found w.stands }

-- a cell more is listed
module _ (at : ℕ) (value : List ℕ) (old new : List (ℕ × List ℕ)) (also : ListsAlso at value old new) where
  there : (c : ℕ) → c ≡ at → listed_image new c ≡ Some value
  there c is = also c ∙ ap (λ (b : Bool). cond b (Some value) (listed_image old c)) (eq-eqb c at is)

  elsewhere : (c : ℕ) → (c == at) ≡ false → listed_image new c ≡ listed_image old c
  elsewhere c is = also c ∙ ap (λ (b : Bool). cond b (Some value) (listed_image old c)) is

  only_this : (c : ℕ) → IsListed new c → IsListed old c ⊎ (c ≡ at)
  only_this c w = go (c == at) refl
    where
      go : (same : Bool) → (c == at) ≡ same → IsListed old c ⊎ (c ≡ at)
      go true e = inr (eqb-true c at e)
      go false e = inl (record { found = w.found; stands = sym (elsewhere c e) ∙ w.stands })

  keeps : (c : ℕ) → IsListed old c → IsListed new c
  keeps c w = go (c == at) refl
    where
      go : (same : Bool) → (c == at) ≡ same → IsListed new c
      go true e = record { found = value; stands = there c (eqb-true c at e) }
      go false e = record { found = w.found; stands = elsewhere c e ∙ w.stands }

  stands_too : (after : Image) → after at ≡ Some value → (c : ℕ) (other : List ℕ) → listed_image new c ≡ Some other
      → (listed_image old c ≡ Some other) ⊎ (after c ≡ Some other)
  stands_too after is c other listed = go (c == at) refl
    where
      go : (same : Bool) → (c == at) ≡ same → (listed_image old c ≡ Some other) ⊎ (after c ≡ Some other)
      go true eq =
          let here : c ≡ at = eqb-true c at eq in
          inr (ap after here ∙ is ∙ sym (there c here) ∙ listed)
      go false eq = inl (sym (elsewhere c eq) ∙ listed)

  pub one_listed : (before after : Image) → after at ≡ Some value → ListsWritten (λ c. c ≡ at) before after old new
  one_listed before after is = record {
    only = only_this;
    all = λ c same w. record { found = value; stands = there c same };
    kept = keeps;
    stand = stands_too after is;
  }

-- a blank cell is not
pub none_listed : (at : ℕ) (before after : Image) (listed : List (ℕ × List ℕ)) → Extends before after → after at ≡ None
    → ListsWritten (λ c. c ≡ at) before after listed listed
none_listed at before after listed e blank = record {
  only = λ c w. inl w;
  all = λ c same w. absurd (none-some w.found (sym (ap after same ∙ blank) ∙ e.keeps c w.found w.stands));
  kept = λ c w. w;
  stand = λ c value is. inl is;
}

-- no cell of an empty row
pub row_starts : (from : ℕ) (s : ViewState) (listed : List (ℕ × List ℕ)) → RowSoFar from from s s listed listed
row_starts from s listed = record {
  viewed = viewed_self s;
  lists = λ tells. record {
    only = λ c w. inl w;
    all = λ c (row : IsInRow from from c) w. absurd (omega (arith, row.0, row.1));
    kept = λ c w. w;
    stand = λ c value is. inl is;
  };
}

-- a value of the first list, of the first image or of the last one
one_by_one : (mid last : Image) (old between new : List (ℕ × List ℕ)) → Extends mid last
    → ((c : ℕ) (value : List ℕ) → listed_image between c ≡ Some value
    → (listed_image old c ≡ Some value) ⊎ (mid c ≡ Some value))
    → ((c : ℕ) (value : List ℕ) → listed_image new c ≡ Some value
    → (listed_image between c ≡ Some value) ⊎ (last c ≡ Some value))
    → (c : ℕ) (value : List ℕ) → listed_image new c ≡ Some value
    → (listed_image old c ≡ Some value) ⊎ (last c ≡ Some value)
one_by_one mid last old between new f a b c value is = ⊎_elim
    (λ (h : listed_image between c ≡ Some value). ⊎_elim inl (λ (k : mid c ≡ Some value). inr (f.keeps c value k))
    (a c value h))
    inr
    (b c value is)

module _ {mid last : Image} {old between new : List (ℕ × List ℕ)} where
  module _ {A B : ℕ → Type 0} where
    -- the written cells of two kinds, one after the other
    pub written_then : {first : Image} → Extends first mid → Extends mid last → ListsWritten A first mid old between
        → ListsWritten B mid last between new → ListsWritten (λ c. A c ⊎ B c) first last old new
    written_then e f a b = record {
      only = λ c w. ⊎_elim (λ (h : IsListed between c). ⊎_elim inl (λ (k : A c). inr (inl k)) (a.only c h))
          (λ (k : B c). inr (inr k)) (b.only c w);
      all = λ c these w. ⊎_elim (λ (k : A c). b.kept c (a.all c k w)) (λ (k : B c). b.all c k (written_on e w)) these;
      kept = λ c w. b.kept c (a.kept c w);
      stand = one_by_one mid last old between new f a.stand b.stand;
    }

    -- the same of two calls that list just the cells of their kinds
    pub just_then : Extends mid last → ListsJust A mid old between → ListsJust B last between new
        → ListsJust (λ c. A c ⊎ B c) last old new
    just_then f a b = record {
      only = λ c w. ⊎_elim (λ (h : IsListed between c). ⊎_elim inl (λ (k : A c). inr (inl k)) (a.only c h))
          (λ (k : B c). inr (inr k)) (b.only c w);
      all = λ c these. ⊎_elim (λ (k : A c). b.kept c (a.all c k)) (λ (k : B c). b.all c k) these;
      kept = λ c w. b.kept c (a.kept c w);
      stand = one_by_one mid last old between new f a.stand b.stand;
    }

module _ {A B : ℕ → Type 0} {before after : Image} {old new : List (ℕ × List ℕ)} where
  -- the written cells of a kind are those of another
  pub written_as : ((c : ℕ) → A c → B c) → ((c : ℕ) → B c → A c) → ListsWritten A before after old new
      → ListsWritten B before after old new
  written_as to back h = record {
    only = λ c w. ⊎_elim inl (λ (k : A c). inr (to c k)) (h.only c w);
    all = λ c these w. h.all c (back c these) w;
    kept = h.kept;
    stand = h.stand;
  }

  -- cells of which each was written are just those of a kind
  pub just_of : ((c : ℕ) → A c → B c) → ((c : ℕ) → B c → A c × IsWritten before c) → ListsWritten A before after old new
      → ListsJust B after old new
  just_of to back h = record {
    only = λ c w. ⊎_elim inl (λ (k : A c). inr (to c k)) (h.only c w);
    all = λ c these. let k = back c these in h.all c k.0 k.1;
    kept = h.kept;
    stand = h.stand;
  }

-- just the cells of a kind are those of another
pub just_as : {A B : ℕ → Type 0} {image : Image} {old new : List (ℕ × List ℕ)} → ((c : ℕ) → A c → B c)
    → ((c : ℕ) → B c → A c) → ListsJust A image old new → ListsJust B image old new
just_as {A = A} to back h = record {
  only = λ c w. ⊎_elim inl (λ (k : A c). inr (to c k)) (h.only c w);
  all = λ c these. h.all c (back c these);
  kept = h.kept;
  stand = h.stand;
}

-- one cell of a row after another
module _ (from at : ℕ) (old now new : ViewState) (listed between later : List (ℕ × List ℕ))
    (so_far : RowSoFar from at old now listed between) where
  told : IsTrue old.base.tells → IsTrue now.base.tells
  told tells = subst IsTrue (sym so_far.viewed.called.tells) tells

  further : from ≤ at → (c : ℕ) → IsInRow from at c ⊎ (c ≡ at) → IsInRow from (at + 1) c
  further le c these = ⊎_elim
      (λ (row : IsInRow from at c). (row.0, omega (arith, row.1)))
      (λ (same : c ≡ at). (omega (arith, same, le), omega (arith, same)))
      these

  last_or_before : (c : ℕ) → IsInRow from (at + 1) c → IsInRow from at c ⊎ (c ≡ at)
  last_or_before c row = ⊎_elim
      (λ (less : c < at). inl (row.0, less))
      (λ (le : at ≤ c). inr (omega (arith, row.1, le)))
      (cases_lt c at)

  pub one_more : from ≤ at → ListsCells (λ c. c ≡ at) now new between later (Ok _)
      → RowSoFar from (at + 1) old new listed later
  one_more le lists = record {
    viewed = viewed_then so_far.viewed lists.viewed;
    lists = λ tells. written_as (further le) last_or_before
        (written_then so_far.viewed.image lists.viewed.image (so_far.lists tells) (lists.ends (told tells)));
  }

  pub row_fails : (these : ℕ → Type 0) (why : AskFault) → ListsCells (λ c. c ≡ at) now new between later (Err why)
      → ListsCells these old new listed later (Err why)
  row_fails these ReadFault lists = record {
    viewed = viewed_then so_far.viewed lists.viewed;
    ends = rose_later _ _ _ so_far.viewed.called.faults lists.ends;
  }
  row_fails these (NoMemory lack) lists = record { viewed = viewed_then so_far.viewed lists.viewed; ends = tt }

-- the row has come to its end
pub all_listed : (from at to : ℕ) (old now : ViewState) (listed later : List (ℕ × List ℕ))
    → RowSoFar from at old now listed later → at ≡ to → ListsCells (IsInRow from to) old now listed later (Ok _)
all_listed from at to old now listed later so_far same = record {
  viewed = so_far.viewed;
  ends = λ tells. subst (λ (n : ℕ). ListsWritten (IsInRow from n) old.image now.image listed later) same
      (so_far.lists tells);
}

-- the cells of two kinds, one after the other
pub cells_then : {A B : ℕ → Type 0} {old mid new : ViewState} {listed between later : List (ℕ × List ℕ)}
    (result : Result Unit AskFault) → ListsCells A old mid listed between (Ok _) → ListsCells B mid new between later result
    → ListsCells (λ c. A c ⊎ B c) old new listed later result
cells_then (Ok u) a b = record {
  viewed = viewed_then a.viewed b.viewed;
  ends = λ tells. written_then a.viewed.image b.viewed.image (a.ends tells)
      (b.ends (subst IsTrue (sym a.viewed.called.tells) tells));
}
cells_then (Err ReadFault) a b = record {
  viewed = viewed_then a.viewed b.viewed;
  ends = rose_later _ _ _ a.viewed.called.faults b.ends;
}
cells_then (Err (NoMemory lack)) a b = record { viewed = viewed_then a.viewed b.viewed; ends = tt }

-- without the first of them there is no second
pub cells_fail : {A B : ℕ → Type 0} {old mid : ViewState} {listed between : List (ℕ × List ℕ)} (why : AskFault)
    → ListsCells A old mid listed between (Err why) → ListsCells B old mid listed between (Err why)
cells_fail ReadFault a = record { viewed = a.viewed; ends = a.ends }
cells_fail (NoMemory lack) a = record { viewed = a.viewed; ends = tt }
