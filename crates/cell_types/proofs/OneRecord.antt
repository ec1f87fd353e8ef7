-- A kind and a body are those of one record, and a cell is that of one record at one address.
use Rattle.std.proofs.Common.{◌≡◌, ℕ, ◌<◌, ◌^◌, List, [], length, length-drop, take, drop, get_or, ◌+◌, slice_index, nat_eq, if◌then◌else◌, refl, ap, sym, ◌∙◌, arith}
use Rattle.std.proofs.Math.Seq.{take-append_seam, drop-append_seam}
use Rattle.std.proofs.lemmas.List.{get_or-drop, take-append-drop}
use Rattle.std.proofs.lemmas.Nat.{be_bytes_4}
use Rattle.byteorder.specs.Endian.{big_bytes, big_number}
use Rattle.byteorder.specs.Numbers.{big_number-reads_back}
use Rattle.cell_types.specs.Bytes.{IsCell}
use Rattle.cell_types.specs.Records.{Fits, IsRecordCell, RecordsAreOne, body_bytes, record_bytes}
use Rattle.cell_types.specs.declared.record_cell.RecordCell.{RecordCell}
use Rattle.cell_types.specs.declared.record_cell.RecordCell.TheVariants.{Volume, Reserve, Commit, Abandon, Done, Posting, Jump, Bucket, Child, Stamp}

-- the record of a kind and a body, whatever stands there
abbrev read_body : List ℕ → RecordCell
read_body b =
    if nat_eq (slice_index b 0) 1 then Volume (slice_index b 1) (big_number 4 (drop 2 b)) (big_number 2 (drop 6 b)) (big_number 4 (drop 8 b)) else
    if nat_eq (slice_index b 0) 2 then Reserve (big_number 4 (drop 1 b)) (big_number 4 (drop 5 b)) else
    if nat_eq (slice_index b 0) 3 then Commit (big_number 4 (drop 1 b)) (big_number 4 (drop 5 b)) else
    if nat_eq (slice_index b 0) 5 then Done (big_number 4 (drop 1 b)) else
    if nat_eq (slice_index b 0) 6 then Posting (big_number 4 (drop 1 b)) (slice_index b 5) (drop 6 b) else
    if nat_eq (slice_index b 0) 7 then Jump (big_number 4 (drop 1 b)) else
    if nat_eq (slice_index b 0) 8 then Bucket (big_number 4 (drop 1 b)) (drop 5 b) else
    if nat_eq (slice_index b 0) 9 then Child (big_number 4 (drop 1 b)) else
    if nat_eq (slice_index b 0) 10 then Stamp (big_number 4 (drop 1 b)) else
    Abandon

-- a record is read from its kind and body
reads_back : (r : RecordCell) → Fits r → read_body (body_bytes r) ≡ r
reads_back (Volume version slots lists cells) (v, s, l, c) =
    let slots_read = big_number-reads_back 4 slots [] s in
    let lists_read = big_number-reads_back 2 lists [] l in
    let cells_read = big_number-reads_back 4 cells [] c in
    cc
reads_back (Reserve start count) (s, l) =
    let start_read = big_number-reads_back 4 start [] s in
    let count_read = big_number-reads_back 4 count [] l in
    cc
reads_back (Commit bytes journal) (b, j) =
    let bytes_read = big_number-reads_back 4 bytes [] b in
    let journal_read = big_number-reads_back 4 journal [] j in
    cc
reads_back Abandon fits = refl
reads_back (Done slot) fits = ap Done (big_number-reads_back 4 slot [] fits)
reads_back (Posting key last tag) (k, l, t) = ap (λ x. Posting x last tag) (big_number-reads_back 4 key [] k)
reads_back (Jump target) fits = ap Jump (big_number-reads_back 4 target [] fits)
reads_back (Bucket slot fingerprint) (s, f) = ap (λ x. Bucket x fingerprint) (big_number-reads_back 4 slot [] s)
reads_back (Child target) fits = ap Child (big_number-reads_back 4 target [] fits)
reads_back (Stamp seconds) fits = ap Stamp (big_number-reads_back 4 seconds [] fits)

-- a kind and a body are those of one record
pub body_is_one : (r s : RecordCell) → Fits r → Fits s → body_bytes r ≡ body_bytes s → r ≡ s
body_is_one r s of_r of_s same = sym (reads_back r of_r) ∙ ap read_body same ∙ reads_back s of_s

-- kind and body are twelve bytes
length_body : (r : RecordCell) → Fits r → length (body_bytes r) ≡ 12
length_body (Volume version slots lists cells) fits = refl
length_body (Reserve start count) fits = refl
length_body (Commit bytes journal) fits = refl
length_body Abandon fits = refl
length_body (Done slot) fits = refl
length_body (Posting key last tag) (k, l, t) = omega (arith, t.count)
length_body (Jump target) fits = refl
length_body (Bucket slot fingerprint) (s, f) = omega (arith, f.count)
length_body (Child target) fits = refl
length_body (Stamp seconds) fits = refl

-- the first twelve bytes of a record's cell are its kind and body
pub body_in : (r : RecordCell) (address : ℕ) (cell : List ℕ) → IsRecordCell r address cell → body_bytes r ≡ take 12 cell
body_in r address cell is =
    let front = take-append_seam (body_bytes r) (big_bytes 4 address) in
    let count = length_body r is.fits in
    sym (rw is.same (rw count at front))

-- the other four are its address
pub address_in : (r : RecordCell) (address : ℕ) (cell : List ℕ) → address < 2 ^ 32 → IsRecordCell r address cell
    → big_number 4 (drop 12 cell) ≡ address
address_in r address cell small is =
    let end = drop-append_seam (body_bytes r) (big_bytes 4 address) in
    let count = length_body r is.fits in
    let bytes : drop 12 cell ≡ big_bytes 4 address = rw is.same (rw count at end) in
    ap (big_number 4) bytes ∙ big_number-reads_back 4 address [] small

-- a cell is its first twelve bytes and the address that is read from the others
pub joined : (r : RecordCell) (address : ℕ) (cell : List ℕ) → IsCell cell → body_bytes r ≡ take 12 cell
    → big_number 4 (drop 12 cell) ≡ address → cell ≡ record_bytes r address
joined r address cell is body read =
    let count : length (drop 12 cell) ≡ 4 = omega (arith, length-drop 12 cell, is.sixteen) in
    let bytes : (i : ℕ) → get_or (drop 12 cell) i 0 < 256 = λ i. rw (get_or-drop 12 cell i 0) (is.fits.each (12 + i)) in
    let end : big_bytes 4 address ≡ drop 12 cell = be_bytes_4 (drop 12 cell) address count bytes (omega arith) in
    rw (body, end) (sym (take-append-drop 12 cell))

-- a cell is that of one record, at one address
pub one_record : RecordsAreOne
one_record r s a b cell a_fits b_fits of_r of_s = (
  body_is_one r s of_r.fits of_s.fits (body_in r a cell of_r ∙ sym (body_in s b cell of_s)),
  sym (address_in r a cell a_fits of_r) ∙ address_in s b cell b_fits of_s,
)
