-- The document of the stamped volume is kept: it has no words, so its time posting is its only one.
use Rattle.std.proofs.Common.{◌≡◌, ◌<◌, inl, inr, ℕ, zero, List, [], ◌∷◌, Some, refl, sym, ◌∙◌, subst, ap, arith}
use Rattle.std.specs.Prelude.{Contains, slice_get}
use Rattle.std.proofs.lemmas.Option.{none-some}
use Rattle.cell_types.specs.Layout.{all_lists, list_at}
use Rattle.volume_meaning.specs.Documents.{Document}
use Rattle.volume_meaning.specs.Words.{words_of, HasWord}
use Rattle.volume_meaning.specs.declared.word_rules.WordRule.TheVariants.{Folded}
use Rattle.volume_meaning.proofs.Words.{words_are_one}
use Rattle.volume_meaning.specs.Blocks.{PostingFields, Trail, at_the_start, here}
use Rattle.volume_meaning.specs.Keeping.{IsKept, Kept}
use Rattle.volume_meaning.specs.Postings.{AreTags, HasPostings, HasTag, IsPostingOf, IsWordPosting, time_posting}
use Rattle.tamper_rules.proofs.DocumentLists.{only_one}
use Rattle.small_volume.specs.StampedVolume.{stamped_document, stamped_image, stamped_layout}
use Rattle.small_volume.proofs.Buckets.{path}
use Rattle.small_volume.proofs.Stamped.{volume, stamp_0, stands_0, time_holds, bucket_holds}

-- no bytes have no words
words : words_of Folded [] ≡ []
unfolding words_of
words = refl

-- so no word is one of theirs
no_word : (word : List ℕ) → HasWord Folded [] word → ⊥
no_word word h =
    let none : h.words ≡ [] = words_are_one.one Folded [] h.words h.are ∙ words in
    absurd (omega (arith, (subst (λ (ws : List (List ℕ)). Contains ws word) none h.among).1))

-- and no tag
no_tag : (l : ℕ) (tag : List ℕ) → HasTag stamped_layout [] l tag → ⊥
no_tag l tag h = no_word h.word h.among

-- each list of words gets none
no_tags_of : (l : ℕ) → AreTags stamped_layout [] l []
no_tags_of l = record {
  rise = λ i j a b less p q. absurd (none-some a p);
  each = λ tag among. absurd (omega (arith, among.1));
  all = λ tag h. absurd (no_tag l tag h);
}

-- so the postings exist
pub postings : HasPostings stamped_layout []
postings = record { each = λ l below. ([], no_tags_of l, omega arith) }

-- no posting is one of a word
no_word_posting : (l : ℕ) (p : PostingFields) → IsWordPosting stamped_layout [] 0 l p → ⊥
no_word_posting l p i = by i.tags i.are i.here
  where
    by : (tags : List (List ℕ)) → AreTags stamped_layout [] l tags → slice_get tags i.ordinal ≡ Some p.tag → ⊥
    by [] are found = none-some p.tag found
    by (tag ∷ tags) are found = no_tag l tag (are.each tag (zero, omega arith, refl))

-- the time posting is one of slot 0's, in the time list
pub is_time : IsPostingOf stamped_layout (Some 1000) [] 0 2 (time_posting 0 1000)
is_time = inr (1000, refl, refl, refl)

-- and has a trail: it stands in the first cell of the list's first block
pub time_trail : Trail stamped_image 836 1200 580 (time_posting 0 1000) 580
time_trail = here 580 0 refl (omega arith) (at_the_start 0 (time_posting 0 1000) refl time_holds)

-- a number that is given is one
same_number : (a b : ℕ) → Some a ≡ Some b → a ≡ b
same_number a b e = cc

-- each posting of the document is that one
pub trail_of : (l : ℕ) (p : PostingFields) → l < all_lists stamped_layout
    → IsPostingOf stamped_layout (Some 1000) [] 0 l p
    → (at : ℕ) × Trail stamped_image 836 1200 at p (list_at stamped_layout l)
trail_of l p below (inl word) = absurd (no_word_posting l p word)
trail_of l p below (inr (seconds, given, list, is)) =
    let same : p ≡ time_posting 0 1000 = is ∙ ap (time_posting 0) (sym (same_number 1000 seconds given)) in (
      580,
      subst (λ (k : ℕ). Trail stamped_image 836 1200 580 p (list_at stamped_layout k)) (sym list)
          (subst (λ (q : PostingFields). Trail stamped_image 836 1200 580 q 580) (sym same) time_trail),
    )

-- so the document is kept
is_kept : IsKept 1200 stamped_image stamped_layout stamped_document
is_kept = record {
  stands = stands_0;
  postings = postings;
  stamp = Some 1000;
  is_stamp = stamp_0;
  trails = trail_of;
  path = path stamped_layout stamped_image bucket_holds;
}

-- and so are the documents of the list that has it alone
pub kept : Kept 1200 stamped_image (stamped_document ∷ [])
kept = record {
  layout = stamped_layout;
  volume = volume;
  each = λ d among. subst (λ (e : Document). IsKept 1200 stamped_image stamped_layout e)
      (sym (only_one stamped_document d among))
      is_kept;
}
