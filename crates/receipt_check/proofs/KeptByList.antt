-- What was listed of a device, and that it keeps the document by itself, over plain values.
use Rattle.std.proofs.Common.{◌≡◌, ◌<◌, ◌≤◌, ◌^◌, ⊎_elim, ℕ, List, Option, Some, None, Result, Ok, Err, sym, subst, ◌∙◌}
use Rattle.std.specs.Prelude.{[], ◌∷◌}
use Rattle.std.proofs.lemmas.Bool.{cases_lt}
use Rattle.std.proofs.lemmas.Option.{none-some}
use Rattle.cell_types.specs.Image.{Extends}
use Rattle.volume_meaning.specs.Documents.{Document}
use Rattle.volume_meaning.specs.Keeping.{IsKept, Kept}
use Rattle.worm_device.specs.State.{DeviceState}
use Rattle.worm_device.specs.Views.{ViewState, seen_directly}
use Rattle.record_query.proofs.Loans.{viewed_by_any}
use Rattle.kept_documents.specs.Kept.{document_of}
use Rattle.kept_documents.specs.declared.fault.AskFault.{AskFault}
use Rattle.kept_documents.specs.declared.fault.AskFault.TheVariants.{NoMemory, ReadFault}
use Rattle.kept_documents.proofs.Opening.{the_same}
use Rattle.receipt_text.specs.Listed.{AreListed, listed_image}
use Rattle.receipt_cells.specs.Whole.{IsKeptListed, KeptListEnds, ListsKept}
use Rattle.receipt_cells.proofs.KeptAlone.{alone, by_cells}
use Rattle.receipt_check.specs.Listing.{AreShown}
use Rattle.receipt_check.proofs.Comparing.{listed_within}

-- what was listed of a device by a loan was listed of it
pub lists_by_any : (n : ℕ) (id : List ℕ) (old new : DeviceState) (a b : ℕ) (listed later : List (ℕ × List ℕ))
    (result : Result (Option ℕ) AskFault) → ListsKept n id (seen_directly old a) (seen_directly new b) listed later result
    → ListsKept n id (seen_directly old 0) (seen_directly new 0) listed later result
lists_by_any n id old new a b listed later result lists = record {
  viewed = viewed_by_any old new a b lists.viewed;
  ends = go result lists.ends;
} where
  go : (result : Result (Option ℕ) AskFault)
      → KeptListEnds n id (seen_directly old a) (seen_directly new b) listed later result
      → KeptListEnds n id (seen_directly old 0) (seen_directly new 0) listed later result
  go (Ok (Some bytes)) ends = λ tells.
      let h = ends tells in
      record {
        body = h.body;
        count = h.count;
        layout = h.layout;
        volume = h.volume;
        kept = h.kept;
        just = h.just;
      }
  go (Ok None) ends = ends
  go (Err ReadFault) ends = ends
  go (Err (NoMemory lack)) ends = tt

-- what was listed of the same view
pub lists_then : {n : ℕ} {id : List ℕ} {a b s t : ViewState} {listed later new : List (ℕ × List ℕ)}
    {result : Result (Option ℕ) AskFault} → ListsKept n id a b listed later result → a ≡ s → b ≡ t → listed ≡ []
    → later ≡ new → ListsKept n id s t [] new result
lists_then {n} {id} {a} {b} {s} {t} {listed} {later} {new} {result} lists first last none same =
    subst (λ (l : List (ℕ × List ℕ)). ListsKept n id s t [] l result) same
    (subst (λ (l : List (ℕ × List ℕ)). ListsKept n id s t l later result) none
    (subst (λ (v : ViewState). ListsKept n id s v listed later result) last
    (subst (λ (v : ViewState). ListsKept n id v b listed later result) first lists)))

-- listed cells of which none is past the last one are cells of the device
pub are_inside : (cells : ℕ) (listed : List (ℕ × List ℕ)) → cells < 2 ^ 32 → AreListed (2 ^ 32) listed
    → ((q : ℕ) → cells ≤ q → listed_image listed q ≡ None) → AreShown cells listed
are_inside cells listed few are none = record {
  few = few;
  each = λ at value there. (
    ⊎_elim
        (λ (less : at < cells). less)
        (λ (le : cells ≤ at). absurd (none-some value (sym (none at le) ∙ there)))
        (cases_lt at cells),
    (listed_within (2 ^ 32) 0 listed at value are there).1,
  );
}

module _ (s : ViewState) (n bytes : ℕ) (id : List ℕ) (listed : List (ℕ × List ℕ))
    (h : IsKeptListed s n id bytes [] listed) where
  -- what is listed stands
  pub stands : Extends (listed_image listed) s.image
  stands = record {
    keeps = λ at value there. ⊎_elim
        (λ (none : listed_image [] at ≡ Some value). absurd (none-some value none))
        (λ (is : s.image at ≡ Some value). is)
        (h.just.stand at value there);
  }

  -- and keeps the document by itself
  pub keeps_alone : Kept s.cells (listed_image listed) (document_of n id h.body ∷ [])
  keeps_alone =
      let both = alone by_cells s.cells s.image h.layout (document_of n id h.body) listed h.volume h.kept h.just in
      record {
        layout = h.layout;
        volume = both.0;
        each = λ d among. subst (λ (x : Document). IsKept s.cells (listed_image listed) h.layout x)
            (the_same (document_of n id h.body) d among) both.1;
      }
