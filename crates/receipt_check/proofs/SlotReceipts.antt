-- What listed cells show, and what receipt they give.
use Rattle.std.proofs.Common.{◌≡◌, ◌<◌, ◌≤◌, ◌+◌, ◌^◌, ℕ, List, Some, None, Ok, refl, sym, subst, arith, length, ◌∙◌}
use Rattle.std.specs.Prelude.{IsTrue, [], ◌∷◌, cond}
use Rattle.std.specs.Ordering.{MatchOrdering, is_eq, nat_cmp}
use Rattle.std.specs.declared.cmp.Ordering.{Ordering}
use Rattle.std.specs.declared.cmp.Ordering.TheVariants.{Equal, Greater, Less}
use Rattle.std.proofs.lemmas.Cmp.{ranked}
use Rattle.std.proofs.lemmas.Option.{none-some}
use Rattle.cell_types.specs.Image.{Extends}
use Rattle.volume_meaning.specs.Keeping.{Kept}
use Rattle.volume_meaning.proofs.KeepingLaws.{kept_on}
use Rattle.worm_device.specs.State.{DeviceState, IsDevice}
use Rattle.worm_device.specs.Views.{seen_directly}
use Rattle.worm_device.proofs.Resting.{rests_of}
use Rattle.kept_documents.specs.Kept.{AsksKept, document_of}
use Rattle.receipt_text.specs.Listed.{AreListed, AreListedFrom, listed_image}
use Rattle.receipt_text.specs.declared.receipt.Receipt.{Receipt}
use Rattle.receipt_check.specs.Checks.{ShowsDocument}
use Rattle.receipt_check.specs.Viewing.{listed_view}
use Rattle.receipt_check.specs.Judging.{IsSlotReceipt}
use Rattle.receipt_check.specs.Listing.{AreShown}
use Rattle.receipt_check.proofs.KeptByList.{keeps_alone, stands}
use Rattle.receipt_cells.specs.Needed.{ListsJust, RestsOn}
use Rattle.receipt_cells.specs.Whole.{IsKeptListed, ListsKept}
use Rattle.tamper_rules.proofs.DocumentLists.{the_one}
use Rattle.volume_meaning.proofs.OneDocument.{one_document}

-- a listed cell is at or past the first address
listed_from : (size from : ℕ) (cells : List (ℕ × List ℕ)) (at : ℕ) (value : List ℕ) → AreListedFrom size from cells
    → listed_image cells at ≡ Some value → from ≤ at
listed_from size from [] at value are there = absurd (none-some value there)
listed_from size from (e ∷ es) at value are there =
    go (nat_cmp at e.0) (ranked at e.0 (nat_cmp at e.0) refl) there
    (λ (later : listed_image es at ≡ Some value). listed_from size (e.0 + 1) es at value are.3 later)
  where
    go : (order : Ordering) → MatchOrdering order (at < e.0) (at ≡ e.0) (e.0 < at)
        → cond (is_eq order) (Some e.1) (listed_image es at) ≡ Some value
        → (listed_image es at ≡ Some value → e.0 + 1 ≤ at) → from ≤ at
    go Less less there rest = omega (arith, are.0, rest there)
    go Equal same there rest = omega (arith, are.0, same)
    go Greater more there rest = omega (arith, are.0, more)

-- what stands first is shown, and what stands behind it is shown as it is without it
head_shown : (e : ℕ × List ℕ) (es : List (ℕ × List ℕ)) → listed_image (e ∷ es) e.0 ≡ Some e.1
head_shown e es = go (nat_cmp e.0 e.0) (ranked e.0 e.0 (nat_cmp e.0 e.0) refl)
  where
    go : (order : Ordering) → MatchOrdering order (e.0 < e.0) (e.0 ≡ e.0) (e.0 < e.0)
        → cond (is_eq order) (Some e.1) (listed_image es e.0) ≡ Some e.1
    go Less less = absurd (omega (arith, less))
    go Equal same = refl
    go Greater more = absurd (omega (arith, more))

tail_shown : (e : ℕ × List ℕ) (es : List (ℕ × List ℕ)) (at : ℕ) (value : List ℕ) → e.0 < at
    → listed_image es at ≡ Some value → listed_image (e ∷ es) at ≡ Some value
tail_shown e es at value past there = go (nat_cmp at e.0) (ranked at e.0 (nat_cmp at e.0) refl)
  where
    go : (order : Ordering) → MatchOrdering order (at < e.0) (at ≡ e.0) (e.0 < at)
        → cond (is_eq order) (Some e.1) (listed_image es at) ≡ Some value
    go Less less = absurd (omega (arith, less, past))
    go Equal same = absurd (omega (arith, same, past))
    go Greater more = there

-- listed cells of which each is one of the device are listed for it
listed_on : (limit size from : ℕ) (cells : List (ℕ × List ℕ)) → AreListedFrom limit from cells
    → ((at : ℕ) (value : List ℕ) → listed_image cells at ≡ Some value → at < size) → AreListedFrom size from cells
listed_on limit size from [] are each = tt
listed_on limit size from (e ∷ es) are each = (
  are.0,
  each e.0 e.1 (head_shown e es),
  are.2,
  listed_on limit size (e.0 + 1) es are.3 (λ at value there. each at value
      (tail_shown e es at value (omega (arith, listed_from limit (e.0 + 1) es at value are.3 there)) there)),
)

-- there are no more listed cells than the device has
fewer : (size from : ℕ) (cells : List (ℕ × List ℕ)) → AreListedFrom size from cells → from ≤ size
    → length cells + from ≤ size
fewer size from [] are room = omega (arith, room)
fewer size from (e ∷ es) are room =
    let rest = fewer size (e.0 + 1) es are.3 (omega (arith, are.1)) in omega (arith, rest, are.0)

pub few_listed : (size : ℕ) (cells : List (ℕ × List ℕ)) → AreListed size cells → length cells ≤ size
few_listed size cells are = let h = fewer size 0 cells are (omega arith) in omega (arith, h)

module _ (r : Receipt) (cells : ℕ) (shown : List (ℕ × List ℕ)) (left : ℕ) where
  -- the listed cells keep the document
  pub judged : (bytes : ℕ)
      → AsksKept r.slot r.identifier (listed_view r.cells cells) (listed_view shown left) (Ok (Some bytes))
      → (body : List ℕ) × ShowsDocument cells r body
  judged bytes asked =
      let h = asked.ends refl in
      let same = (rests_of asked.viewed).shown (record { same = refl; below = omega arith }) in
      let back : Extends (listed_image shown) (listed_image r.cells) = record {
        keeps = λ cell value there. sym (same cell) ∙ there;
      } in (
        h.body,
        subst (λ (c : ℕ). Kept c (listed_image r.cells) (document_of r.slot r.identifier h.body ∷ []))
            asked.viewed.cells (kept_on back h.kept),
      )

  -- they keep none
  pub judged_none : AsksKept r.slot r.identifier (listed_view r.cells cells) (listed_view shown left) (Ok None)
      → (body : List ℕ) → ShowsDocument cells r body → ⊥
  judged_none asked body shows = asked.ends refl body shows

-- listed cells of the device are listed for it
pub listed_for : (size : ℕ) (cells : List (ℕ × List ℕ)) → AreListed (2 ^ 32) cells → AreShown size cells
    → AreListed size cells
listed_for size cells are shown = listed_on (2 ^ 32) size 0 cells are (λ at value there. (shown.each at value there).0)

module _ (n bytes : ℕ) (id : List ℕ) (old new : DeviceState) (listed : List (ℕ × List ℕ))
    (lists : ListsKept n id (seen_directly old 0) (seen_directly new 0) [] listed (Ok (Some bytes))) (r : Receipt)
    (slot : r.slot ≡ n) (identifier : r.identifier ≡ id) (same : r.cells ≡ listed) where
  kept_listed : IsTrue old.tells → IsKeptListed (seen_directly new 0) r.slot r.identifier bytes [] r.cells
  kept_listed tells =
      subst (λ (l : List (ℕ × List ℕ)). IsKeptListed (seen_directly new 0) r.slot r.identifier bytes [] l) (sym same)
      (subst (λ (i : List ℕ). IsKeptListed (seen_directly new 0) r.slot i bytes [] listed) (sym identifier)
      (subst (λ (m : ℕ). IsKeptListed (seen_directly new 0) m id bytes [] listed) (sym slot) (lists.ends tells)))

  -- a device that tells has no listed cell past its last one
  pub none_beyond : (at : ℕ) (value : List ℕ) → IsDevice new → IsTrue old.tells → listed_image listed at ≡ Some value
      → old.cells ≤ at → ⊥
  none_beyond at value is tells there past =
      let stand = (stands (seen_directly new 0) n bytes id listed (lists.ends tells)).keeps at value there in
      omega (arith, past, (is.inside at value stand).0, lists.viewed.called.cells)

  -- and there the list keeps the document
  pub shown_after_all : (cells : ℕ) → cells ≡ old.cells → IsTrue old.tells
      → ((body : List ℕ) → ShowsDocument cells r body → ⊥) → ⊥
  shown_after_all cells size tells never =
      let h = kept_listed tells in
      never h.body (subst (λ (c : ℕ). ShowsDocument c r h.body) (lists.viewed.called.cells ∙ sym size)
      (keeps_alone (seen_directly new 0) r.slot bytes r.identifier r.cells h))

  -- with a document that they keep the listed cells are a receipt
  pub slot_receipt : (cells : ℕ) → AreListed (2 ^ 32) listed → cells ≡ old.cells → AreShown cells listed
      → (body : List ℕ) × ShowsDocument cells r body → IsSlotReceipt n id old new r
  slot_receipt cells are size shown shows = record {
    slot = slot;
    identifier = identifier;
    listed = subst (AreListed new.cells) (sym same) (subst (λ (c : ℕ). AreListed c listed)
        (size ∙ sym lists.viewed.called.cells) (listed_for cells listed are shown));
    body = shows.0;
    shows = here;
    stand = stand;
    needed = λ tells.
        let h = kept_listed tells in
        record {
          layout = h.layout;
          volume = h.volume;
          just = subst (λ (b : List ℕ). ListsJust (RestsOn new.cells new.image h.layout
              (document_of r.slot r.identifier b)) new.image [] r.cells) (one_body tells h) h.just;
        };
  }
    where
      here : ShowsDocument new.cells r shows.0
      here = subst (λ (c : ℕ). ShowsDocument c r shows.0) (size ∙ sym lists.viewed.called.cells) shows.1

      stand : IsTrue old.tells → Extends (listed_image r.cells) new.image
      stand tells = stands (seen_directly new 0) r.slot bytes r.identifier r.cells (kept_listed tells)

      one_body : (tells : IsTrue old.tells) (h : IsKeptListed (seen_directly new 0) r.slot r.identifier bytes [] r.cells)
          → h.body ≡ shows.0
      one_body tells h =
          let there = ((kept_on (stand tells) here).each (document_of r.slot r.identifier shows.0)
          (the_one (document_of r.slot r.identifier shows.0))).stands in
          (one_document new.cells new.image r.slot r.identifier h.body r.identifier shows.0 h.kept.stands there).1
