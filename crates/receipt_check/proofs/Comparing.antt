-- Listed cells, compared one after another and then judged, over plain values.
use Rattle.std.proofs.Common.{◌≡◌, ◌<◌, ◌≤◌, ◌+◌, ◌^◌, ℕ, List, Some, None, Ok, Err, refl, sym, subst, arith, ◌∙◌}
use Rattle.std.specs.Prelude.{[], ◌∷◌, cond}
use Rattle.std.specs.Ordering.{MatchOrdering, is_eq, nat_cmp}
use Rattle.std.specs.declared.cmp.Ordering.{Ordering}
use Rattle.std.specs.declared.cmp.Ordering.TheVariants.{Equal, Greater, Less}
use Rattle.std.proofs.lemmas.Cmp.{ranked}
use Rattle.std.proofs.lemmas.Option.{none-some, same_Some}
use Rattle.cell_types.specs.Bytes.{IsCell}
use Rattle.cell_types.specs.Image.{Extends}
use Rattle.volume_meaning.specs.Documents.{Document}
use Rattle.volume_meaning.specs.Keeping.{Kept}
use Rattle.volume_meaning.proofs.KeepingLaws.{kept_on}
use Rattle.worm_device.specs.State.{DeviceState}
use Rattle.worm_device.proofs.Resting.{rests_of}
use Rattle.kept_documents.specs.Kept.{AsksKept, document_of}
use Rattle.receipt_text.specs.Listed.{AreListed, AreListedFrom, listed_image}
use Rattle.receipt_text.specs.declared.receipt.Receipt.{Receipt}
use Rattle.receipt_check.specs.Checks.{ChecksReceipt, ComparedSoFar, ComparesListed}
use Rattle.receipt_check.specs.Listing.{AreShown}
use Rattle.receipt_check.specs.Viewing.{listed_view}
use Rattle.receipt_check.specs.declared.checking.CheckRefusal.TheVariants.{NotShown}

-- a listed cell is a written cell of the device
pub listed_within : (size from : ℕ) (cells : List (ℕ × List ℕ)) (at : ℕ) (value : List ℕ)
    → AreListedFrom size from cells → listed_image cells at ≡ Some value → (at < size) × IsCell value
listed_within size from [] at value are there = absurd (none-some value there)
listed_within size from (e ∷ es) at value are there =
    go (nat_cmp at e.0) (ranked at e.0 (nat_cmp at e.0) refl) there
    (λ (later : listed_image es at ≡ Some value). listed_within size (e.0 + 1) es at value are.3 later)
  where
    go : (order : Ordering) → MatchOrdering order (at < e.0) (at ≡ e.0) (e.0 < at)
        → cond (is_eq order) (Some e.1) (listed_image es at) ≡ Some value
        → (listed_image es at ≡ Some value → (at < size) × IsCell value) → (at < size) × IsCell value
    go Less less there rest = rest there
    go Equal same there rest = (omega (arith, same, are.1), subst IsCell (same_Some e.1 value there) are.2)
    go Greater more there rest = rest there

-- listed cells of a device are shown as such
pub are_shown : (cells size : ℕ) (listed : List (ℕ × List ℕ)) → cells ≡ size → size < 2 ^ 32 → AreListed size listed
    → AreShown cells listed
are_shown cells size listed same few are = record {
  few = omega (arith, same, few);
  each = λ at value there. let h = listed_within size 0 listed at value are there in (omega (arith, same, h.0), h.1);
}

-- each listed cell was compared
pub all_compared : (listed : List (ℕ × List ℕ)) (next : ℕ) (old now : DeviceState) → ComparedSoFar listed next old now
    → AreListed old.cells listed → old.cells ≤ next → ComparesListed listed old now (Ok tt)
all_compared listed next old now so_far are all = record {
  called = so_far.called;
  only = so_far.only;
  ends = λ tells. record {
    keeps = λ q value is. so_far.stand tells q value
        (omega (arith, all, (listed_within old.cells 0 listed q value are is).0)) is;
  };
}

module _ (r : Receipt) (old new : DeviceState) (compared : ComparesListed r.cells old new (Ok tt)) (cells : ℕ)
    (size : cells ≡ old.cells) (shown : List (ℕ × List ℕ)) (left : ℕ) where
  -- the listed cells keep the document
  pub accepted : (bytes : ℕ)
      → AsksKept r.slot r.identifier (listed_view r.cells cells) (listed_view shown left) (Ok (Some bytes))
      → ChecksReceipt r old new (Ok (record { slot = r.slot; bytes = bytes }))
  accepted bytes asked =
      let h = asked.ends refl in
      let same = (rests_of asked.viewed).shown (record { same = refl; below = omega arith }) in
      let back : Extends (listed_image shown) (listed_image r.cells) = record {
        keeps = λ cell value there. sym (same cell) ∙ there;
      } in
      let d : Document = document_of r.slot r.identifier h.body in
      let shows : Kept old.cells (listed_image r.cells) (d ∷ []) = subst
      (λ (c : ℕ). Kept c (listed_image r.cells) (d ∷ [])) (asked.viewed.cells ∙ size) (kept_on back h.kept) in
      record {
        called = compared.called;
        only = compared.only;
        ends = record {
          slot = refl;
          body = h.body;
          bytes = sym h.count;
          shows = shows;
          stand = compared.ends;
          kept = λ tells. subst (λ (c : ℕ). Kept c new.image (d ∷ [])) (sym compared.called.cells)
              (kept_on (compared.ends tells) shows);
        };
      }

  -- they keep none
  pub not_shown : AsksKept r.slot r.identifier (listed_view r.cells cells) (listed_view shown left) (Ok None)
      → ChecksReceipt r old new (Err (NotShown r.slot))
  not_shown asked = record {
    called = compared.called;
    only = compared.only;
    ends = (
      refl,
      λ body kept. asked.ends refl body
          (subst (λ (c : ℕ). Kept c (listed_image r.cells) (document_of r.slot r.identifier body ∷ [])) (sym size) kept),
      compared.ends,
    );
  }
