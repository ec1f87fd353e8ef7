-- A text that was read: the receipt that it spells, or its first line that breaks the form.
use Rattle.std.proofs.Common.{◌≡◌, ◌≢◌, ◌<◌, ◌≤◌, ◌+◌, ◌^◌, inl, inr, ℕ, zero, suc, List, [], ◌∷◌, ◌++◌, append_assoc, append-nil, length, length-append, map, slice_index, Err, true, ◌==◌, refl, sym, ap, subst, arith, ◌∙◌}
use Rattle.std.proofs.lemmas.Bool.{cases_eq, cases_lt, eqb-true}
use Rattle.std.proofs.lemmas.List.{length-map}
use Rattle.cell_types.specs.declared.geometry.TheConstants.{MAX_SLOTS}
use Rattle.volume_meaning.specs.Documents.{IsIdentifier}
use Rattle.receipt_text.specs.Form.{BeginsReceipt, IsFirstBadLine, IsReceiptOn, cell_line, end_line, head_line, receipt_lines, text_of_lines, text_of_receipt}
use Rattle.receipt_text.specs.Listed.{AreListed}
use Rattle.receipt_text.specs.Reading.{IsListing, IsStuck, Lacks, ListingEnds, ReadReceiptEnds}
use Rattle.receipt_text.specs.declared.reading.Listing.{Listing}
use Rattle.receipt_text.specs.declared.receipt.Receipt.{Receipt}
use Rattle.receipt_text.specs.declared.receipt.ReceiptFault.{ReceiptFault}
use Rattle.receipt_text.specs.declared.receipt.ReceiptFault.TheVariants.{BadReceipt, NoMemory}
use Rattle.receipt_text.specs.declared.receipt.TheConstants.{MAX_RECEIPT_CELLS}
use Rattle.receipt_text.proofs.Cutting.{cut_once}
use Rattle.receipt_text.proofs.OneText.{begun_are_lines, receipt_with, rest_of}
use Rattle.receipt_text.proofs.ReceiptLines.{Follows, cell_no_end, ends, follows, head_is_line, lists, never_whole, receipt_is_lines}
use Rattle.receipt_text.proofs.TextLines.{GoesOn, goes_on, nothing_next, same_lines, text_append}

-- a list without elements
pub is_empty : (xs : List ℕ) → (length xs == 0) ≡ true → xs ≡ []
is_empty [] h = refl
is_empty (x ∷ xs) h = absurd (let some = eqb-true (length (x ∷ xs)) 0 h in omega (arith, some))

-- ---- a text whose lines no receipt begins with is none

module _ (cells : ℕ) (text : List ℕ) (before : List (List ℕ)) (rest : List ℕ) (small : cells < 2 ^ 32)
    (begins : BeginsReceipt cells before) (splits : text ≡ text_of_lines before ++ rest)
    (breaks : (line behind : List ℕ) → rest ≡ line ++ (10 ∷ behind) → BeginsReceipt cells (before ++ (line ∷ [])) → ⊥)
    (whole : (r : Receipt) → IsReceiptOn cells r → receipt_lines r ≡ before → rest ≢ []) where
  goes_past : (r : Receipt) → IsReceiptOn cells r → GoesOn before (receipt_lines r) rest → ⊥
  goes_past r is on = breaks on.line on.behind on.next (record {
    receipt = r;
    is = is;
    rest = on.more;
    same = on.lines ∙ sym (append_assoc before (on.line ∷ []) on.more);
  })

  pub no_receipt : (r : Receipt) → IsReceiptOn cells r → text ≢ text_of_receipt r
  no_receipt r is same =
      let lines = receipt_is_lines cells r small is in
      let front = begun_are_lines cells before small begins in
      let texts : text_of_lines before ++ rest ≡ text_of_lines (receipt_lines r) ++ [] =
      sym splits ∙ same ∙ sym (append-nil (text_of_receipt r)) in
      elim (cases_eq (length before) (length (receipt_lines r))) [
        | inl many ↦
            let alike = same_lines before (receipt_lines r) rest [] front lines texts many in
            whole r is (sym alike.0) alike.1
        | inr differ ↦
            elim (cases_lt (length before) (length (receipt_lines r))) [
              | inl less ↦ goes_past r is (goes_on before (receipt_lines r) rest [] front lines texts less)
              | inr more ↦
                  let on = goes_on (receipt_lines r) before [] rest lines front (sym texts) (omega arith) in
                  nothing_next on.line on.behind on.next
            ]
      ]

  pub first_bad : (i : ℕ) → i ≡ length before + 1 → IsFirstBadLine cells text i
  first_bad i number = record {
    before = before;
    rest = rest;
    number = number;
    splits = splits;
    begins = begins;
    breaks = breaks;
    none = no_receipt;
  }

-- ---- the line of the document

is_a : IsIdentifier (97 ∷ [])
is_a = record { some = omega arith; most = omega arith; each = each } where
  each : (i : ℕ) → i < 1 → (0x21 ≤ slice_index (97 ∷ []) i) × (slice_index (97 ∷ []) i ≤ 0x7E)
  each zero below = (omega arith, omega arith)
  each (suc i) below = absurd (omega arith)

-- each device has a receipt
some_receipt : (cells : ℕ) → BeginsReceipt cells []
some_receipt cells = record {
  receipt = receipt_with 0 (97 ∷ []) [];
  is = record { slot = omega arith; identifier = is_a; listed = tt; most = omega arith };
  rest = receipt_lines (receipt_with 0 (97 ∷ []) []);
  same = refl;
}

-- there is no first line
pub no_line : (cells : ℕ) (text : List ℕ) → cells < 2 ^ 32 → ((front rest : List ℕ) → text ≢ front ++ (10 ∷ rest))
    → IsFirstBadLine cells text 1
no_line cells text small never =
    first_bad cells text [] text small (some_receipt cells) refl
    (λ line behind same begins. never line behind same) (λ r is same. absurd (cc same)) 1 refl

-- the first line is no line of a document
pub no_head : (cells : ℕ) (text front rest : List ℕ) → cells < 2 ^ 32 → text ≡ front ++ (10 ∷ rest) → Lacks 10 front
    → ((slot : ℕ) (id : List ℕ) → slot < MAX_SLOTS → IsIdentifier id → front ≢ head_line slot id)
    → IsFirstBadLine cells text 1
no_head cells text front rest small cut lacks never =
    first_bad cells text [] text small (some_receipt cells) refl breaks (λ r is same. absurd (cc same)) 1 refl
  where
    breaks : (line behind : List ℕ) → text ≡ line ++ (10 ∷ behind) → BeginsReceipt cells ([] ++ (line ∷ [])) → ⊥
    breaks line behind same begins =
        let r = begins.receipt in
        let is : head_line r.slot r.identifier ≡ line = cc begins.same in
        let lines = subst (Lacks 10) is (head_is_line r.slot r.identifier begins.is.slot begins.is.identifier) in
        let alike = (cut_once 10 front rest line behind lacks lines (sym cut ∙ same)).0 in
        never r.slot r.identifier begins.is.slot begins.is.identifier (alike ∙ sym is)

-- ---- the lines behind it

-- no receipt goes on behind the line of the end
nothing_behind : (size : ℕ) (cells others : List (ℕ × List ℕ)) (count : ℕ) (line : List ℕ) (more : List (List ℕ))
    → size < 2 ^ 32 → AreListed size cells → AreListed size others
    → map cell_line others ++ (end_line count ∷ [])
    ≢ map cell_line cells ++ (end_line (length cells) ∷ (line ∷ more))
nothing_behind size cells others count line more small one two same =
    go (follows size 0 count cells others (end_line (length cells)) (line ∷ more) small one two same)
  where
    go : Follows size 0 count cells others (end_line (length cells)) → ⊥
    go (ends same_cells ended) =
        let front = length-append (map cell_line others) (end_line count ∷ []) in
        let back = length-append (map cell_line cells) (end_line (length cells) ∷ (line ∷ more)) in
        let one = length-map others cell_line in
        let other = length-map cells cell_line in
        let many = ap (λ (l : List (List ℕ)). length l) same in
        let alike = ap (λ (l : List (ℕ × List ℕ)). length l) same_cells in
        omega (arith, front, back, one, other, many, alike)
    go (lists at value past below cell longer listed) =
        cell_no_end (at, value) (length cells) (omega (arith, below, small)) (sym listed)

module _ (cells : ℕ) (text front tail : List ℕ) (slot : ℕ) (id : List ℕ) (small : cells < 2 ^ 32)
    (cut : text ≡ front ++ (10 ∷ tail)) (head : front ≡ head_line slot id) (below : slot < MAX_SLOTS)
    (is_id : IsIdentifier id) where
  -- the text begins with the line of the document
  with_head : (t : List ℕ) → tail ≡ t → text ≡ head_line slot id ++ (10 ∷ t)
  with_head t same = cut ∙ ap (λ (l : List ℕ). l ++ (10 ∷ tail)) head
      ∙ ap (λ (l : List ℕ). head_line slot id ++ (10 ∷ l)) same

  -- a receipt of these cells
  receipt_is : (listed : List (ℕ × List ℕ)) → AreListed cells listed → length listed ≤ MAX_RECEIPT_CELLS
      → IsReceiptOn cells (receipt_with slot id listed)
  receipt_is listed are most = record { slot = below; identifier = is_id; listed = are; most = most }

  -- no line of cells or of the end follows those that were read
  pub bad_line : (i : ℕ) → IsStuck cells tail i → IsFirstBadLine cells text i
  bad_line i stuck =
      first_bad cells text lines stuck.rest small begins splits breaks whole i
      (let many = length-map stuck.cells cell_line in omega (arith, many, stuck.number))
    where
      lines : List (List ℕ)
      lines = head_line slot id ∷ map cell_line stuck.cells

      begins : BeginsReceipt cells lines
      begins = record {
        receipt = receipt_with slot id stuck.cells;
        is = receipt_is stuck.cells stuck.listed stuck.most;
        rest = end_line (length stuck.cells) ∷ [];
        same = refl;
      }

      splits : text ≡ text_of_lines lines ++ stuck.rest
      splits = with_head (text_of_lines (map cell_line stuck.cells) ++ stuck.rest) stuck.splits
          ∙ sym (append_assoc (head_line slot id) (10 ∷ text_of_lines (map cell_line stuck.cells)) stuck.rest)

      never : (line behind : List ℕ) (r : Receipt) → IsReceiptOn cells r → stuck.rest ≡ line ++ (10 ∷ behind)
          → Follows cells 0 (length r.cells) stuck.cells r.cells line → ⊥
      never line behind r is next (ends same_cells ended) =
          stuck.no_end behind (next ∙ ap (λ (l : List ℕ). l ++ (10 ∷ behind))
          (ended ∙ ap (λ (l : List (ℕ × List ℕ)). end_line (length l)) same_cells))
      never line behind r is next (lists at value past low cell longer listed) =
          stuck.no_cell at value behind (omega (arith, longer, is.most)) past low cell
          (next ∙ ap (λ (l : List ℕ). l ++ (10 ∷ behind)) listed)

      breaks : (line behind : List ℕ) → stuck.rest ≡ line ++ (10 ∷ behind) → BeginsReceipt cells (lines ++ (line ∷ [])) → ⊥
      breaks line behind next begun =
          let r = begun.receipt in
          never line behind r begun.is next
          (follows cells 0 (length r.cells) stuck.cells r.cells line begun.rest small stuck.listed begun.is.listed
          (ap rest_of begun.same ∙ append_assoc (map cell_line stuck.cells) (line ∷ []) begun.rest))

      whole : (r : Receipt) → IsReceiptOn cells r → receipt_lines r ≡ lines → stuck.rest ≢ []
      whole r is same nothing =
          never_whole cells 0 (length r.cells) stuck.cells r.cells small stuck.listed (ap rest_of same)

  -- reading them was given up
  pub fault_ends : (fault : ReceiptFault) → ListingEnds cells tail (Err fault) → ReadReceiptEnds cells text (Err fault)
  fault_ends (BadReceipt i) stuck = bad_line i stuck
  fault_ends (NoMemory lack) wanting = wanting

  -- the cells and the line of the end, with what is behind
  whole_text : (listing : Listing) → IsListing cells tail listing
      → text ≡ text_of_receipt (receipt_with slot id listing.cells) ++ listing.behind.now
  whole_text listing is =
      with_head (text_of_lines (map cell_line listing.cells) ++ (end_line listing.count ++ (10 ∷ listing.behind.now)))
      is.splits
      ∙ ap (λ (n : ℕ). head_line slot id ++ (10 ∷ (text_of_lines (map cell_line listing.cells)
      ++ (end_line n ++ (10 ∷ listing.behind.now))))) (sym is.count)
      ∙ sym (joined (end_line (length listing.cells)))
    where
      joined : (last : List ℕ)
          → (head_line slot id ++ (10 ∷ text_of_lines (map cell_line listing.cells ++ (last ∷ []))))
          ++ listing.behind.now
          ≡ head_line slot id ++ (10 ∷ (text_of_lines (map cell_line listing.cells)
          ++ (last ++ (10 ∷ listing.behind.now))))
      joined last =
          append_assoc (head_line slot id) (10 ∷ text_of_lines (map cell_line listing.cells ++ (last ∷ [])))
          listing.behind.now
          ∙ ap (λ (t : List ℕ). head_line slot id ++ (10 ∷ (t ++ listing.behind.now)))
          (text_append (map cell_line listing.cells) (last ∷ []))
          ∙ ap (λ (t : List ℕ). head_line slot id ++ (10 ∷ t))
          (append_assoc (text_of_lines (map cell_line listing.cells)) (last ++ (10 ∷ [])) listing.behind.now)
          ∙ ap (λ (t : List ℕ). head_line slot id ++ (10 ∷ (text_of_lines (map cell_line listing.cells) ++ t)))
          (append_assoc last (10 ∷ []) listing.behind.now)

  -- something stands behind the line of the end
  pub bad_end : (listing : Listing) → IsListing cells tail listing → listing.behind.now ≢ []
      → IsFirstBadLine cells text (listing.count + 3)
  bad_end listing is some =
      first_bad cells text (receipt_lines r) listing.behind.now small begins (whole_text listing is) breaks
      (λ s on same nothing. some nothing) (listing.count + 3)
      (omega (arith, many, is.count))
    where
      r : Receipt
      r = receipt_with slot id listing.cells

      many : length (receipt_lines r) ≡ length listing.cells + 2
      many =
          let one = length-append (map cell_line listing.cells) (end_line (length listing.cells) ∷ []) in
          let other = length-map listing.cells cell_line in
          omega (arith, one, other)

      on_device : IsReceiptOn cells r
      on_device = receipt_is listing.cells is.listed (omega (arith, is.count, is.most))

      begins : BeginsReceipt cells (receipt_lines r)
      begins = record { receipt = r; is = on_device; rest = []; same = sym (append-nil (receipt_lines r)) }

      breaks : (line behind : List ℕ) → listing.behind.now ≡ line ++ (10 ∷ behind)
          → BeginsReceipt cells (receipt_lines r ++ (line ∷ [])) → ⊥
      breaks line behind next begun =
          let s = begun.receipt in
          let behind_end : map cell_line s.cells ++ (end_line (length s.cells) ∷ [])
          ≡ map cell_line listing.cells ++ (end_line (length listing.cells) ∷ (line ∷ begun.rest)) =
          ap rest_of begun.same
          ∙ append_assoc (map cell_line listing.cells ++ (end_line (length listing.cells) ∷ [])) (line ∷ []) begun.rest
          ∙ append_assoc (map cell_line listing.cells) (end_line (length listing.cells) ∷ []) (line ∷ begun.rest) in
          nothing_behind cells listing.cells s.cells (length s.cells) line begun.rest small is.listed begun.is.listed
          behind_end

  -- nothing does
  pub good_end : (listing : Listing) → IsListing cells tail listing → listing.behind.now ≡ []
      → IsReceiptOn cells (receipt_with slot id listing.cells)
      × (text ≡ text_of_receipt (receipt_with slot id listing.cells))
  good_end listing is nothing = (
    receipt_is listing.cells is.listed (omega (arith, is.count, is.most)),
    whole_text listing is ∙ ap (λ (t : List ℕ). text_of_receipt (receipt_with slot id listing.cells) ++ t) nothing
        ∙ append-nil (text_of_receipt (receipt_with slot id listing.cells)),
  )
