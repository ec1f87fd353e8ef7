-- A stamp adds one posting to those of the words, in the time list.
use Rattle.std.proofs.Common.{◌≡◌, ◌<◌, ◌⊎◌, ⊎_elim, inl, inr, ℕ, List, [], ◌∷◌, ◌++◌, length, Some, None, zero, suc, refl, ap, sym, subst, ◌∙◌, arith}
use Rattle.std.specs.Prelude.{slice_get}
use Rattle.std.proofs.lemmas.Option.{none-some, same_Some, slice_get_within}
use Rattle.cell_types.specs.Layout.{Layout, TakesStamps, all_lists}
use Rattle.volume_meaning.specs.Blocks.{PostingFields}
use Rattle.volume_meaning.specs.OnePostings.{StampsAddOne, time_entry}
use Rattle.volume_meaning.specs.Postings.{ComesBefore, ListedPosting, ArePostings, IsPostingOf, IsWordPosting, time_posting}

-- a row with one posting more has those of before, and that one
in_front : (rows : List ListedPosting) (last : ListedPosting) (i : ℕ) (a : ListedPosting) → slice_get rows i ≡ Some a
    → slice_get (rows ++ last ∷ []) i ≡ Some a
in_front [] last i a p = absurd (none-some a p)
in_front (x ∷ rows) last zero a p = p
in_front (x ∷ rows) last (suc i) a p = in_front rows last i a p

at_end : (rows : List ListedPosting) (last : ListedPosting) → slice_get (rows ++ last ∷ []) (length rows) ≡ Some last
at_end [] last = refl
at_end (x ∷ rows) last = at_end rows last

either : (rows : List ListedPosting) (last : ListedPosting) (i : ℕ) (a : ListedPosting)
    → slice_get (rows ++ last ∷ []) i ≡ Some a → (slice_get rows i ≡ Some a) ⊎ ((i ≡ length rows) × (last ≡ a))
either [] last zero a p = inr (refl, same_Some last a p)
either [] last (suc i) a p = absurd (none-some a p)
either (x ∷ rows) last zero a p = inl p
either (x ∷ rows) last (suc i) a p =
    ⊎_elim (λ here. inl here) (λ end. inr (ap suc end.0, end.1)) (either rows last i a p)

no_stamp : (seconds : ℕ) → None ≡ Some seconds → ⊥
no_stamp seconds e = cc

-- without a stamp each posting is one of a word
of_none : {g : Layout} {body : List ℕ} {n l : ℕ} {p : PostingFields} → IsPostingOf g None body n l p
    → IsWordPosting g body n l p
of_none is = ⊎_elim (λ word. word) (λ t. absurd (no_stamp t.0 t.1)) is

stamp_same : (a b : ℕ) → Some a ≡ Some b → a ≡ b
stamp_same a b e = cc

module _ (g : Layout) (body : List ℕ) (n seconds : ℕ) (rows : List ListedPosting)
    (version : TakesStamps g)
    (are : ArePostings g None body n rows) where
  abbrev last : ListedPosting
  last = time_entry g n seconds

  word : (i : ℕ) (a : ListedPosting) → slice_get rows i ≡ Some a → IsWordPosting g body n a.list a.posting
  word i a p = of_none (are.each i a p).1

  -- the last comes behind all others
  order : (i j : ℕ) (a b : ListedPosting) → i < j → slice_get (rows ++ last ∷ []) i ≡ Some a
      → slice_get (rows ++ last ∷ []) j ≡ Some b → ComesBefore a b
  order i j a b less p q = ⊎_elim
      (λ (first : slice_get rows i ≡ Some a). ⊎_elim
      (λ (second : slice_get rows j ≡ Some b). are.order i j a b less first second)
      (λ end. inl (omega (arith, (word i a first).list, ap (λ (x : ListedPosting). x.list) end.1)))
      (either rows last j b q))
      (λ end. absurd (⊎_elim
      (λ (second : slice_get rows j ≡ Some b). omega (arith, less, end.0, slice_get_within rows j b second))
      (λ other. omega (arith, less, end.0, other.0))
      (either rows last j b q)))
      (either rows last i a p)

  each : (i : ℕ) (a : ListedPosting) → slice_get (rows ++ last ∷ []) i ≡ Some a
      → (a.list < all_lists g) × IsPostingOf g (Some seconds) body n a.list a.posting
  each i a p = ⊎_elim
      (λ (here : slice_get rows i ≡ Some a). ((are.each i a here).0, inl (word i a here)))
      (λ end. subst (λ (x : ListedPosting). (x.list < all_lists g)
      × IsPostingOf g (Some seconds) body n x.list x.posting) end.1
      (omega (arith, version), inr (seconds, refl, refl, refl)))
      (either rows last i a p)

  all : (l : ℕ) (p : PostingFields) → l < all_lists g → IsPostingOf g (Some seconds) body n l p
      → (i : ℕ) × (slice_get (rows ++ last ∷ []) i ≡ Some (record { list = l; posting = p }))
  all l p less is = ⊎_elim
      (λ (w : IsWordPosting g body n l p).
      let here = are.all l p less (inl w) in
      (here.0, in_front rows last here.0 (record { list = l; posting = p }) here.1))
      (λ t. (
        length rows,
        subst (λ (x : ListedPosting). slice_get (rows ++ last ∷ []) (length rows) ≡ Some x)
            (sym (the_last t)) (at_end rows last),
      ))
      is
    where
      the_last : ((s : ℕ) × (Some seconds ≡ Some s) × (l ≡ g.lists) × (p ≡ time_posting n s))
          → record { list = l; posting = p } ≡ last
      the_last (s, same, list, posting) =
          ap (λ (k : ℕ). record { list = k; posting = p }) list
          ∙ ap (λ (q : PostingFields). record { list = g.lists; posting = q }) posting
          ∙ ap (λ (t : ℕ). time_entry g n t) (sym (stamp_same seconds s same))

  pub stamped : ArePostings g (Some seconds) body n (rows ++ last ∷ [])
  stamped = record { exist = are.exist; order = order; each = each; all = all }

pub stamps_add_one : StampsAddOne
stamps_add_one = stamped
