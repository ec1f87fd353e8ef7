-- What bytes that were read tell of a document that a part holds.
use Rattle.std.proofs.Common.{◌≡◌, ◌<◌, ◌+◌, ◌-◌, ◌⊎◌, ℕ, zero, suc, List, [], ◌∷◌, ◌++◌, length, sym, ap, ◌∙◌, inl, inr, subst, ⊎_elim, arith, slice_index}
use Rattle.std.proofs.Math.ListN.{get_or-eq_default, get_or-append}
use Rattle.std.proofs.Math.Seq.{get_or-append_seam}
use Rattle.std.proofs.lemmas.List.{get_or-take, length-append, get_or-append-add}
use Rattle.std.proofs.lemmas.Bool.{cases_lt}
use Rattle.std.specs.Prelude.{IsTrue}
use Rattle.cell_types.specs.Bytes.{AreBytes}
use Rattle.cell_types.specs.Image.{Image}
use Rattle.volume_meaning.specs.Documents.{IsIdentifier, IsBody, stored_bytes}
use Rattle.volume_meaning.specs.declared.limits.TheConstants.{MAX_IDENTIFIER_BYTES, MAX_BODY_BYTES}
use Rattle.tamper_rules.specs.Rules.{HasDocument}
use Rattle.worm_device.specs.Views.{ViewState}
use Rattle.append_file.specs.Reading.{HasRead, HasBroken}
use Rattle.append_file.specs.declared.position.Position.{Position}
use Rattle.append_file.proofs.GoingOn.{append_fits}
use Rattle.append_file.proofs.Spelled.{broken_spells, front_of}
use Rattle.document_store.specs.Heads.{SpellsNone}

-- a byte before bytes
cons_fits : (x : ℕ) (xs : List ℕ) → x < 256 → AreBytes xs → AreBytes (x ∷ xs)
cons_fits x xs less fits = record { each = each_of }
  where
    each_of : (i : ℕ) → slice_index (x ∷ xs) i < 256
    each_of zero = less
    each_of (suc i) = fits.each i

-- the characters of an identifier are bytes
id_fits : (id : List ℕ) → IsIdentifier id → AreBytes id
id_fits id is = record {
  each = λ i. elim (cases_lt i (length id)) [
    | inl inside ↦ omega (arith, (is.each i inside).1)
    | inr outside ↦ rw (get_or-eq_default id 0 {n = i} (omega (arith, outside))) (omega arith)
  ];
}

-- the stored bytes of a document are bytes
pub stored_fits : (id body : List ℕ) → IsIdentifier id → IsBody body → AreBytes (stored_bytes id body)
stored_fits id body is_id is_body =
    cons_fits (length id) (id ++ body) (omega (arith, is_id.most))
    (append_fits id body (id_fits id is_id) is_body.bytes)

-- a part with a broken cell holds no document
pub none_broken : (image : Image) (start bytes : ℕ) → HasBroken image start bytes → SpellsNone image start bytes
none_broken image start bytes (k, less, broken) = λ d.
    broken_spells image start bytes k broken less (stored_bytes d.id d.body) d.count
    (stored_fits d.id d.body d.is_identifier d.is_body) d.spells

module _ (v : ViewState) (start bytes : ℕ) (p : Position) (tells : IsTrue v.base.tells) where
  -- each byte that was read is one of the document's
  at_front : (given : List ℕ) → HasRead v start bytes p given → (d : HasDocument v.image start bytes) (i : ℕ)
      → i < length given → slice_index given i ≡ slice_index (stored_bytes d.id d.body) i
  at_front given h d i less =
      let stored = stored_bytes d.id d.body in
      ap (λ (l : List ℕ). slice_index l i)
      (front_of v start bytes p given h tells stored d.count (stored_fits d.id d.body d.is_identifier d.is_body)
      d.spells)
      ∙ get_or-take (length given) stored i 0 less

  -- the first is the length of the identifier
  pub first_is : (n : ℕ) (rest : List ℕ) → HasRead v start bytes p (n ∷ rest) → (d : HasDocument v.image start bytes)
      → n ≡ length d.id
  first_is n rest h d = at_front (n ∷ rest) h d 0 (omega arith)

  -- the first byte is not that of an identifier that fits
  pub none_first : (n : ℕ) (rest : List ℕ) → HasRead v start bytes p (n ∷ rest)
      → ((n ≡ 0) ⊎ ((MAX_IDENTIFIER_BYTES < n) ⊎ (bytes < 1 + n))) → SpellsNone v.image start bytes
  none_first n rest h out d =
      let e = first_is n rest h d in
      ⊎_elim (λ (z : n ≡ 0). omega (arith, e, z, d.is_identifier.some))
      (λ r. ⊎_elim
      (λ (z : MAX_IDENTIFIER_BYTES < n). omega (arith, e, z, d.is_identifier.most))
      (λ (z : bytes < 1 + n). omega (arith, e, z, d.count, length-append d.id d.body))
      r)
      out

  -- so many bytes are left as no body has
  pub none_long : (n : ℕ) (rest : List ℕ) → HasRead v start bytes p (n ∷ rest)
      → MAX_BODY_BYTES < bytes - (1 + n) → SpellsNone v.image start bytes
  none_long n rest h long d =
      let e = first_is n rest h d in omega (arith, e, long, d.count, length-append d.id d.body, d.is_body.most)

  -- a character that no identifier has
  pub none_byte : (n b : ℕ) (front : List ℕ) → HasRead v start bytes p (n ∷ (front ++ b ∷ [])) → length front < n
      → ((b < 0x21) ⊎ (0x7E < b)) → SpellsNone v.image start bytes
  none_byte n b front h less out d =
      let e = first_is n (front ++ b ∷ []) h d in
      let i = length front in
      let at : slice_index (n ∷ (front ++ b ∷ [])) (suc i) ≡ slice_index (stored_bytes d.id d.body) (suc i) =
      at_front (n ∷ (front ++ b ∷ [])) h d (suc i) (omega (arith, length-append front (b ∷ []))) in
      let inside : i < length d.id = omega (arith, less, e) in
      let same : b ≡ slice_index d.id i = sym (get_or-append_seam front b [] 0) ∙ at ∙ get_or-append d.id d.body 0 i
      inside in
      let range = d.is_identifier.each i inside in
      ⊎_elim (λ (z : b < 0x21). omega (arith, z, same, range.0)) (λ (z : 0x7E < b). omega (arith, z, same, range.1)) out

-- the body of a document that is bytes
pub body_fits : (id body : List ℕ) → AreBytes (stored_bytes id body) → AreBytes body
body_fits id body fits = record {
  each = λ i. subst (λ (x : ℕ). x < 256) (get_or-append-add id body i 0) (fits.each (suc (length id + i)));
}
