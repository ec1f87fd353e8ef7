-- Settling, cut short anywhere.
use Rattle.std.proofs.Common.{◌≡◌, ◌<◌, ◌≤◌, ◌+◌, ◌⊎◌, ⊎_elim, inl, inr, ℕ, List, Some, None, refl, sym, ◌∙◌, subst, ap, arith}
use Rattle.std.proofs.lemmas.Option.{none-some}
use Rattle.cell_types.specs.Image.{Image, Extends, IsUnchanged}
use Rattle.cell_types.specs.Layout.{Layout, reserve_at, outcome_at, done_at, lists_at}
use Rattle.cell_types.specs.declared.record_cell.RecordCell.{RecordCell}
use Rattle.tamper_rules.specs.Journals.{journal_at, CopiesIndexCell, IsIndexCell, of_list, of_root, of_slot, IsInOrder}
use Rattle.tamper_rules.specs.Settling.{Settled, IsOneHorizon, IsWith, AbandonRow, JournalRow, DoneRow, IsReadyJournal, After, nothing, abandoned, completed}
use Rattle.volume_meaning.specs.Slots.{IsCommitted, IsHorizon}
use Rattle.volume_meaning.specs.Volumes.{IsWritten, IsVolume}
use Rattle.volume_meaning.proofs.Extending.{volume_on, written_on, blank_before, commits_on}
use Rattle.volume_meaning.proofs.Holding.{some_is}
use Rattle.tamper_rules.proofs.GoingOn.{copies_on, copies_back, one_copy, in_order_on}
use Rattle.tamper_rules.proofs.Images.{same_image, same_both, look, all_of_it}

-- an index cell lies behind the log
pub behind_log : {g : Layout} {image : Image} {n cell : ℕ} → IsIndexCell g image n cell → lists_at g ≤ cell
behind_log (of_list l lies) = omega (arith, lies.from)
behind_log (of_root lies) = omega (arith, lies.from)
behind_log (of_slot m le b) = omega (arith, b.from, b.stores.commits.reserves.from)

-- so does each target of a journal in order
pub target_behind_log : {g : Layout} {image : Image} {n start reserved bytes journal place target : ℕ} {r : RecordCell}
    → ((k : ℕ) → k < journal → IsInOrder g image n start reserved bytes journal k)
    → CopiesIndexCell image start reserved journal place target r → lists_at g ≤ target
target_behind_log {g} {image} {n} {start} {reserved} {bytes} {journal} {place} {target} {r} each c =
    let o = each place c.below in
    let same = one_copy image start reserved journal place target o.target r o.copied c o.copies in
    omega (arith, behind_log o.index, same.1)

-- where settling has nothing to do, nothing can be left over
module _ {cells : ℕ} {old after image : Image} (settled : Settled cells after) (e : Extends old image)
    (f : Extends image after) where
  as_before : After cells old after → image ≡ old → After cells image after
  as_before a same = subst (λ (i : Image). After cells i after) (sym same) a

  as_after : image ≡ after → After cells image after
  as_after same = subst (λ (i : Image). After cells i after) (sym same) (nothing settled (λ cell. refl))

  after_nothing : After cells old after → IsUnchanged old after → After cells image after
  after_nothing a same = as_before a (same_both e (subst (λ (i : Image). Extends image i) (same_image same) f))

  after_abandoned : (n : ℕ) → After cells old after → IsWith (AbandonRow n) old after → After cells image after
  after_abandoned n a w = ⊎_elim
      (λ blank. as_before a (same_both e (record {
        keeps = λ cell value is. ⊎_elim (λ was. was)
            (λ (row : AbandonRow n cell value). absurd (none-some _ (sym blank ∙ ap image (sym row.at) ∙ is)))
            (w.only cell value (f.keeps cell value is));
      })))
      (λ h. as_after (all_of_it w e f (λ cell value row.
      let there : image cell ≡ Some h.0 = ap image row.at ∙ h.1 in
      let same : value ≡ h.0 = some_is value h.0 (sym (w.adds cell value row) ∙ f.keeps cell h.0 there) in
      there ∙ ap (λ (v : List ℕ). Some v) (sym same))))
      (look image (outcome_at n))

  module _ (g : Layout) (n start reserved bytes journal : ℕ) (v : IsVolume cells old g)
      (h : IsOneHorizon g old (n + 1)) (c : IsCommitted g old old n start reserved bytes journal)
      (ready : IsReadyJournal g old n start reserved bytes journal)
      (w : IsWith (λ cell value. JournalRow old start reserved journal cell value ⊎ DoneRow n cell value) old after)
    where
      -- the log changes in the done cell alone
      log_was : (cell : ℕ) (value : List ℕ) → cell < lists_at g → (cell ≡ done_at n → ⊥)
          → image cell ≡ Some value → old cell ≡ Some value
      log_was cell value low other is = ⊎_elim (λ was. was)
          (λ rows. absurd (⊎_elim
          (λ (row : JournalRow old start reserved journal cell value). let far : lists_at g ≤ cell = target_behind_log
          ready.in_order row.copies in omega arith)
          (λ (row : DoneRow n cell value). other row.at) rows))
          (w.only cell value (f.keeps cell value is))

      log_blank : (cell : ℕ) → cell < lists_at g → (cell ≡ done_at n → ⊥) → old cell ≡ None → image cell ≡ None
      log_blank cell low other blank = ⊎_elim (λ none. none)
          (λ h. absurd (none-some _ (sym blank ∙ log_was cell h.0 low other h.1)))
          (look image cell)

      row_back : {cell : ℕ} {value : List ℕ} → JournalRow image start reserved journal cell value
          → JournalRow old start reserved journal cell value
      row_back {cell} {value} row =
          let o = ready.in_order row.place row.copies.below in
          let was : old (journal_at start reserved journal + row.place) ≡ Some o.copies.entry = o.copies.stands in
          record {
            place = row.place;
            copied = row.copied;
            copies = copies_back e (record { found = o.copies.entry; stands = was }) row.copies;
            stands = was ∙ sym (e.keeps _ _ was) ∙ row.stands;
          }

      row_on : {cell : ℕ} {value : List ℕ} → JournalRow old start reserved journal cell value
          → JournalRow image start reserved journal cell value
      row_on row = record {
        place = row.place;
        copied = row.copied;
        copies = copies_on e row.copies;
        stands = e.keeps _ _ row.stands;
      }

      horizon_back : (u : ℕ) → IsHorizon g image image u → IsHorizon g old old u
      horizon_back u k = record {
        most = k.most;
        below = λ m is. let x = k.below m is in record {
          found = x.found;
          stands = log_was (reserve_at m) x.found (omega (arith, k.most)) (λ same. omega arith) x.stands;
        };
        free = λ less. blank_before e (k.free less);
      }

      horizon_on : (u : ℕ) → IsHorizon g old old u → IsHorizon g image image u
      horizon_on u k = record {
        most = k.most;
        below = λ m is. written_on e (k.below m is);
        free = λ less. log_blank (reserve_at u) (omega arith) (λ same. omega arith) (k.free less);
      }

      going_on : image (done_at n) ≡ None → After cells image after
      going_on blank =
          let dones : (m : ℕ) → m < g.slots → old (done_at m) ≡ None → image (done_at m) ≡ None =
          λ m inside none. ⊎_elim (λ still. still)
          (λ x. absurd (none-some _ (sym none ∙ log_was (done_at m) x.0 (omega arith)
          (λ same. none-some _ (sym blank ∙ ap image (sym same) ∙ x.1)) x.1)))
          (look image (done_at m)) in
          completed g n start reserved bytes journal (volume_on e v)
          (record { is = horizon_on (n + 1) h.is; one = λ u k. h.one u (horizon_back u k) })
          (record { commits = commits_on e c.commits; done = blank })
          (record {
            in_order = λ place below. in_order_on e dones (ready.in_order place below);
            free = λ cell value row. ⊎_elim inl
                (λ x. inr (x.1 ∙ sym (f.keeps cell x.0 x.1) ∙ w.adds cell value (inl (row_back row))))
                (look image cell);
          })
          (record {
            keeps = f;
            adds = λ cell value rows. ⊎_elim (λ row. w.adds cell value (inl (row_back row)))
                (λ row. w.adds cell value (inr row)) rows;
            only = λ cell value is. ⊎_elim (λ was. inl (e.keeps cell value was))
                (λ rows. ⊎_elim (λ row. inr (inl (row_on row))) (λ row. inr (inr row)) rows)
                (w.only cell value is);
          })

      finished : IsWritten image (done_at n) → ((cell : ℕ) (value : List ℕ)
          → JournalRow old start reserved journal cell value → image cell ≡ Some value) → After cells image after
      finished done all = as_after (all_of_it w e f (λ cell value rows. ⊎_elim (all cell value)
          (λ (row : DoneRow n cell value).
          let there : image cell ≡ Some done.found = ap image row.at ∙ done.stands in
          let same : value ≡ done.found =
          some_is value done.found (sym (w.adds cell value (inr row)) ∙ f.keeps cell done.found there) in
          there ∙ ap (λ (x : List ℕ). Some x) (sym same)) rows))

pub goes_on : (cells : ℕ) (old after image : Image) → After cells old after → Settled cells after
    → Extends old image → Extends image after
    → ((g : Layout) (n start reserved bytes journal : ℕ) → IsVolume cells old g
    → IsCommitted g old old n start reserved bytes journal
    → IsWritten image (done_at n)
    → (cell : ℕ) (value : List ℕ) → JournalRow old start reserved journal cell value → image cell ≡ Some value)
    → After cells image after
goes_on cells old after image (nothing is same) settled e f all = after_nothing settled e f (nothing is same) same
goes_on cells old after image (abandoned g n start reserved v h r w) settled e f all =
    after_abandoned settled e f n (abandoned g n start reserved v h r w) w
goes_on cells old after image (completed g n start reserved bytes journal v h c ready w) settled e f all =
    ⊎_elim
    (λ blank. going_on settled e f g n start reserved bytes journal v h c ready w blank)
    (λ x. let done : IsWritten image (done_at n) = record { found = x.0; stands = x.1 } in
    finished settled e f g n start reserved bytes journal v h c ready w done
    (all g n start reserved bytes journal v c done))
    (look image (done_at n))
