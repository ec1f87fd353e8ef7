-- Where all documents have their postings, and each of them a trail, rule 13 is kept at each slot.
use Rattle.std.proofs.Common.{◌≡◌, ◌<◌, ◌≤◌, ◌+◌, ⊎_elim, ℕ, List, length, Option, Some, sym, ◌∙◌, ap, subst, arith}
use Rattle.std.specs.Prelude.{slice_get}
use Rattle.std.proofs.lemmas.Option.{slice_get_within, slice_get-get_or}
use Rattle.cell_types.specs.Image.{Image}
use Rattle.cell_types.specs.Layout.{Layout, IsLayout, list_at}
use Rattle.volume_meaning.specs.Blocks.{PostingFields}
use Rattle.volume_meaning.specs.Postings.{HasPostings, IsPostingOf, IsWordPosting, time_posting}
use Rattle.volume_meaning.specs.Slots.{IsStampOf}
use Rattle.volume_meaning.proofs.Stamps.{some_stamp, stands_given}
use Rattle.volume_meaning.proofs.Tags.{tags_one}
use Rattle.log_audit.proofs.Orders.{below_or_at}
use Rattle.list_audit.specs.Keeping.{AreLedTo, KeepsTrailRule}
use Rattle.list_audit.specs.Owing.{AllExist, AreOwed}
use Rattle.list_audit.specs.Tables.{FitsRow, number_of}
use Rattle.list_audit.specs.Trails.{HasTrail}

module _ (g : Layout) (image : Image) (rows : List (ℕ × List ℕ)) where
  -- the first n of these postings have trails
  abbrev pub AreLedBelow : ℕ → Type 0
  AreLedBelow n = (i l : ℕ) (p : PostingFields) → i < n → FitsRow l p → slice_get rows i ≡ Some (number_of l p.key p.last, p.tag)
      → HasTrail g image p (list_at g l)

  -- one more
  pub led_more : (n : ℕ) (row : ℕ × List ℕ) (list : ℕ) (q : PostingFields) → AreLedBelow n → slice_get rows n ≡ Some row
      → ((l : ℕ) (p : PostingFields) → FitsRow l p → row ≡ (number_of l p.key p.last, p.tag) → (list ≡ l) × (q ≡ p))
      → HasTrail g image q (list_at g list) → AreLedBelow (n + 1)
  led_more n row list q so_far here said has i l p less fits there = ⊎_elim
      (λ (earlier : i < n). so_far i l p earlier fits there)
      (λ (same : i ≡ n).
      let both : Some row ≡ Some (number_of l p.key p.last, p.tag) = sym here ∙ ap (slice_get rows) (sym same) ∙ there in
      let one = said l p fits (some_row both) in
      subst (λ (k : ℕ). HasTrail g image p (list_at g k)) one.0
      (subst (λ (r : PostingFields). HasTrail g image r (list_at g list)) one.1 has))
      (below_or_at i n less)
    where
      some_row : {a b : ℕ × List ℕ} → Some a ≡ Some b → a ≡ b
      some_row e = cc

  -- all of them
  pub led_all : (n : ℕ) → length rows ≤ n → AreLedBelow n → AreLedTo g image rows
  led_all n all below l p fits has =
      below has.0 l p (omega (arith, has.1, all)) fits
      (slice_get-get_or rows has.0 (number_of l p.key p.last, p.tag) has.1 ∙ ap Some has.2)

module _ (g : Layout) (image : Image) (layout : IsLayout g) where
  -- a posting of a document is such as a cell can hold
  fits_word : (n l : ℕ) (body : List ℕ) (p : PostingFields) → n < g.slots → HasPostings g body → IsWordPosting g body n l p → FitsRow l p
  fits_word n l body p slot exist w =
      let t = exist.each l w.list in
      let same : length w.tags ≡ length t.0 = ap length (tags_one g body l w.tags t.0 w.are t.1) in
      let inside : w.ordinal < length w.tags = slice_get_within w.tags w.ordinal p.tag w.here in
      record {
        list = omega (arith, w.list, layout.lists);
        key = omega (arith, w.key, inside, same, t.2, slot, layout.slots);
        last = omega (arith, w.last, same, t.2);
      }

  fits_time : (n l seconds : ℕ) (stamp : Option ℕ) (p : PostingFields) → IsStampOf g image n stamp → stamp ≡ Some seconds → l ≡ g.lists
      → p ≡ time_posting n seconds → FitsRow l p
  fits_time n l seconds stamp p is given list at =
      let stands = (stands_given g image n stamp seconds is given).1 in
      record {
        list = omega (arith, list, layout.lists);
        key = omega (arith, ap (λ (q : PostingFields). q.key) at, stands.is.fits);
        last = omega (arith, ap (λ (q : PostingFields). q.last) at);
      }

  fits_posting : (n l : ℕ) (stamp : Option ℕ) (body : List ℕ) (p : PostingFields) → n < g.slots → HasPostings g body
      → IsStampOf g image n stamp → IsPostingOf g stamp body n l p → FitsRow l p
  fits_posting n l stamp body p slot exist is_stamp is = ⊎_elim
      (λ (word : IsWordPosting g body n l p). fits_word n l body p slot exist word)
      (λ time. fits_time n l time.0 stamp p is_stamp time.1 time.2 time.3)
      is

  pub all_kept : (rows : List (ℕ × List ℕ)) → AllExist g image g.slots → AreOwed g image g.slots rows → AreLedTo g image rows
      → (n : ℕ) → KeepsTrailRule g image n
  all_kept rows all owed led n id body h =
      let slot : n < g.slots = h.done.commits.reserves.slot in
      let exist = all n id body slot h in
      let stamp = some_stamp layout h.done.commits in
      record {
        postings = exist;
        stamp = stamp.0;
        is_stamp = stamp.1;
        trails = λ l p less is.
            let fits = fits_posting n l stamp.0 body p slot exist stamp.1 is in
            led l p fits ((owed l p fits).1 (
              record {
                list = less;
                slot = n;
                id = id;
                body = body;
                holds = h;
                postings = exist;
                stamp = stamp.0;
                is_stamp = stamp.1;
                is = is;
              },
              slot,
            ));
      }
