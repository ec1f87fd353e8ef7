-- The first stored bytes of a document, and the head that they tell.
use Rattle.std.proofs.Common.{◌≡◌, ◌<◌, ◌≤◌, ◌+◌, ◌-◌, ◌⊎◌, ◌∙◌, ℕ, suc, List, [], ◌∷◌, ◌++◌, length, take, drop, sym, ap, subst, ⊎_elim, arith, slice_index}
use Rattle.std.proofs.Math.Seq.{take-append_seam}
use Rattle.std.proofs.lemmas.List.{get_or-take, length-append, length-drop, length-take-le, take-append-drop, take-take}
use Rattle.std.specs.Prelude.{IsTrue}
use Rattle.volume_meaning.specs.Documents.{IsBody, IsIdentifier, stored_bytes}
use Rattle.volume_meaning.specs.declared.limits.TheConstants.{MAX_BODY_BYTES, MAX_IDENTIFIER_BYTES}
use Rattle.worm_device.specs.Views.{ViewState}
use Rattle.append_file.specs.Reading.{HasRead}
use Rattle.append_file.specs.declared.position.Position.{Position}
use Rattle.append_file.proofs.Spelled.{front_of}
use Rattle.document_store.specs.Heads.{IsHeadOfRow, IsNoFront, SpellsNone, id_of}
use Rattle.document_store.specs.declared.head.Head.{Head}
use Rattle.document_store.proofs.Parsing.{stored_fits}

-- A document of so many stored bytes, of which a row has the first ones.
module _ (bytes : ℕ) (row id body : List ℕ) (is : IsIdentifier id) (short : IsBody body)
    (count : length (stored_bytes id body) ≡ bytes) (front : row ≡ take (length row) (stored_bytes id body))
    (some : 1 ≤ length row) where
  -- the first is the length of the identifier
  pub first_of_row : slice_index row 0 ≡ length id
  first_of_row = ap (λ (l : List ℕ). slice_index l 0) front ∙ get_or-take (length row) (stored_bytes id body) 0 0 some

  -- behind it comes the identifier, where the row is long enough
  pub identifier_of_row : length id < length row → take (length id) (drop 1 row) ≡ id
  identifier_of_row long =
      let rest : drop 1 row ≡ take (length (drop 1 row)) (id ++ body) = behind row front some in
      let size : length (drop 1 row) + 1 ≡ length row = omega (arith, length-drop 1 row, some) in
      ap (take (length id)) rest
      ∙ take-take (length id) (length (drop 1 row)) (id ++ body) (omega (arith, size, long))
      ∙ take-append_seam id body
    where
      behind : (row : List ℕ) → row ≡ take (length row) (length id ∷ (id ++ body)) → 1 ≤ length row
          → drop 1 row ≡ take (length (drop 1 row)) (id ++ body)
      behind [] front some = absurd (omega (arith, some))
      behind (byte ∷ rest) front some = ap (drop 1) front

-- a first byte that is no identifier's length
pub none_at_first : (bytes : ℕ) (row : List ℕ) → 1 ≤ length row
    → ((MAX_IDENTIFIER_BYTES < slice_index row 0) ⊎ (bytes < 1 + slice_index row 0)) → IsNoFront bytes row
none_at_first bytes row some out id body is short count front =
    let e = first_of_row bytes row id body is short count front some in
    ⊎_elim (λ (long : MAX_IDENTIFIER_BYTES < slice_index row 0). omega (arith, e, long, is.most))
    (λ (past : bytes < 1 + slice_index row 0). omega (arith, e, past, count, length-append id body)) out

-- more bytes are left than a body has
pub none_of_body : (bytes : ℕ) (row : List ℕ) → 1 ≤ length row → MAX_BODY_BYTES < bytes - (1 + slice_index row 0)
    → IsNoFront bytes row
none_of_body bytes row some long id body is short count front =
    let e = first_of_row bytes row id body is short count front some in
    omega (arith, e, long, count, length-append id body, short.most)

-- what stands where the identifier is to stand is none
pub none_of_identifier : (bytes n : ℕ) (row : List ℕ) → n ≡ slice_index row 0 → n < length row
    → (IsIdentifier (take n (drop 1 row)) → ⊥) → IsNoFront bytes row
none_of_identifier bytes n row n_is long other id body is short count front =
    let some : 1 ≤ length row = omega (arith, long) in
    let e : n ≡ length id = n_is ∙ first_of_row bytes row id body is short count front some in
    let same : take n (drop 1 row) ≡ id =
    ap (λ (k : ℕ). take k (drop 1 row)) e
    ∙ identifier_of_row bytes row id body is short count front some (omega (arith, e, long)) in
    other (subst IsIdentifier (sym same) is)

-- the head that a row tells
pub head_tells : (bytes n : ℕ) (row : List ℕ) (h : Head) → n ≡ slice_index row 0 → n < length row → h.id_length ≡ n
    → id_of h ≡ take n (drop 1 row) → IsIdentifier (take n (drop 1 row)) → h.body_length ≡ bytes - (1 + n)
    → 1 + n ≤ bytes → h.body_length ≤ MAX_BODY_BYTES → IsHeadOfRow bytes row h
head_tells bytes n row h n_is long length_is id_is is rest within short =
    let some : 1 ≤ length row = omega (arith, long) in
    let size : length (drop 1 row) + 1 ≡ length row = omega (arith, length-drop 1 row, some) in
    let count : length (take n (drop 1 row)) ≡ n = length-take-le n (drop 1 row) (omega (arith, size, long)) in
    let long_id : length (id_of h) ≡ n = ap length id_is ∙ count in
    record {
      head = record {
        identifier = subst IsIdentifier (sym id_is) is;
        id_length = length_is ∙ sym long_id;
        count = omega (arith, long_id, rest, within);
        most = short;
        room = omega (arith, length_is, count, is.most);
      };
      within = omega (arith, length_is, long);
      row_is = split row some (sym (long_id ∙ n_is)) (id_is ∙ ap (λ (k : ℕ). take k (drop 1 row)) (sym length_is));
    }
  where
    split : (row : List ℕ) → 1 ≤ length row → slice_index row 0 ≡ length (id_of h)
        → id_of h ≡ take h.id_length (drop 1 row) → row ≡ stored_bytes (id_of h) (drop (1 + h.id_length) row)
    split [] some first id = absurd (omega (arith, some))
    split (byte ∷ bytes) some first id =
        let next : 1 + h.id_length ≡ suc h.id_length = omega arith in
        ap (λ (b : ℕ). b ∷ bytes) first
        ∙ ap (λ (l : List ℕ). length (id_of h) ∷ l)
        (sym (take-append-drop h.id_length bytes) ∙ ap (λ (l : List ℕ). l ++ drop h.id_length bytes) (sym id))
        ∙ ap (λ (k : ℕ). stored_bytes (id_of h) (drop k (byte ∷ bytes))) (sym next)

-- a part whose first bytes are no document's spells none
pub none_by_front : (v : ViewState) (start bytes : ℕ) (p : Position) (row : List ℕ) → HasRead v start bytes p row
    → IsTrue v.base.tells → IsNoFront bytes row → SpellsNone v.image start bytes
none_by_front v start bytes p row read tells none d =
    none d.id d.body d.is_identifier d.is_body (sym d.count)
    (front_of v start bytes p row read tells (stored_bytes d.id d.body) d.count
    (stored_fits d.id d.body d.is_identifier d.is_body) d.spells)
