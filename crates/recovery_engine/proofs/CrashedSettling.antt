-- What a crash leaves of the slot that settling ends, once the first sync was made.
use Rattle.std.proofs.Common.{◌≡◌, ◌+◌, ℕ, List, Some, None, sym, ap, ◌∙◌, ⊎_elim, arith}
use Rattle.std.proofs.lemmas.Option.{none-some}
use Rattle.cell_types.specs.Image.{Image, Extends}
use Rattle.cell_types.specs.Layout.{Layout, outcome_at, done_at, lists_at}
use Rattle.volume_meaning.specs.Documents.{document_at}
use Rattle.volume_meaning.specs.Slots.{IsAbandoned, IsCommitted, IsDone, IsReserved, IsUnused}
use Rattle.volume_meaning.proofs.Extending.{abandons_on, commits_on, done_on, reserves_on}
use Rattle.tamper_rules.specs.Journals.{journal_at}
use Rattle.recovery_engine.specs.Putting.{IsInFirst, IsPut}
use Rattle.recovery_engine.specs.declared.put.Put.{Put}
use Rattle.commit_record.specs.States.{IsState}
use Rattle.commit_record.specs.declared.slot.SlotState.{SlotState}
use Rattle.commit_record.specs.declared.slot.SlotState.TheVariants.{Unused, Reserved, Abandoned, Committed, Done}
use Rattle.recovery_engine.specs.CrashLaws.{BecomesOf, IsLeftBySettling, SettlingKeepsStates}
use Rattle.recovery_engine.specs.Ending.{IsFirstEnd, IsLastEnd, abandon_put, done_put}
use Rattle.recovery_engine.specs.Journal.{IsEntryPut}
use Rattle.recovery_engine.specs.Settling.{settle_plan}
use Rattle.recovery_engine.proofs.Phasing.{by_cell}
use Rattle.recovery_engine.proofs.Rising.{entries_from}

abbrev Left : Layout → ℕ → SlotState → Image → Type 0
Left g n state image = (left : SlotState) × BecomesOf state left × IsState g image image n left

module _ {g : Layout} {n : ℕ} {state : SlotState} {image : Image} (l : IsLeftBySettling g n state image) where
  abbrev old : Image
  old = l.old.image

  grows : Extends old image
  grows = l.leaves.synced l.synced

  -- what was blank and is written now was put
  put_there : (at : ℕ) (v : List ℕ) → old at ≡ None → image at ≡ Some v
      → IsPut (IsInFirst (settle_plan old n state) (l.leaves.phase + 1)) old at v
  put_there at v none here = ⊎_elim
      (λ (stood : old at ≡ Some v). absurd (none-some v (sym none ∙ stood)))
      (λ put. put)
      (l.leaves.only l.alone at v here)

  -- a cell that is put nowhere stays blank
  unput : (at : ℕ) → ((put : Put) → IsFirstEnd old n state put → put.at ≡ at → ⊥)
      → ((put : Put) → IsLastEnd n state put → put.at ≡ at → ⊥) → old at ≡ None → image at ≡ None
  unput at first last none = by_cell (image at ≡ None) (image at) (λ blank. blank)
      (λ v here.
      let p = put_there at v none here in
      absurd (⊎_elim
      (λ (a : (p.planned.0 ≡ 1) × IsFirstEnd old n state p.put). first p.put a.1 p.here)
      (λ (b : (p.planned.0 ≡ 2) × IsLastEnd n state p.put). last p.put b.1 p.here)
      p.planned.2))

left_unused : (g : Layout) (n : ℕ) (image : Image) → IsLeftBySettling g n Unused image → Left g n Unused image
left_unused g n image l =
    let is : IsUnused g l.old.image n = l.is in (
      Unused,
      BecomesOf.same Unused,
      record {
        slot = is.slot;
        reserve = unput l _ (λ put e here. e) (λ put e here. e) is.reserve;
        outcome = unput l _ (λ put e here. e) (λ put e here. e) is.outcome;
        done = unput l _ (λ put e here. e) (λ put e here. e) is.done;
      },
    )

left_reserved : (g : Layout) (n s r : ℕ) (image : Image) → IsLeftBySettling g n (Reserved s r) image
    → Left g n (Reserved s r) image
left_reserved g n s r image l =
    let is : IsReserved g l.old.image l.old.image n s r = l.is in
    let no_done : image (done_at n) ≡ None =
    unput l (done_at n) (λ put e here. omega (arith, here, ap (λ (p : Put). p.at) e)) (λ put e here. e) is.done in
    by_cell (Left g n (Reserved s r) image) (image (outcome_at n))
    (λ none. (
      Reserved s r,
      BecomesOf.same (Reserved s r),
      record { reserves = reserves_on (grows l) is.reserves; outcome = none; done = no_done },
    ))
    (λ v here.
    let p = put_there l (outcome_at n) v is.outcome here in
    let same : v ≡ (abandon_put n).value = ⊎_elim
    (λ (a : (p.planned.0 ≡ 1) × (p.put ≡ abandon_put n)). sym p.is ∙ ap (λ (q : Put). q.value) a.1)
    (λ (b : (p.planned.0 ≡ 2) × ⊥). absurd b.1)
    p.planned.2 in (
      Abandoned s r,
      BecomesOf.given_up s r,
      record {
        abandons = record {
          reserves = reserves_on (grows l) is.reserves;
          outcome = record { cell = v; stands = here; is = record { fits = tt; well_formed = tt; same = same } };
        };
        done = no_done;
      },
    ))

left_abandoned : (g : Layout) (n s r : ℕ) (image : Image) → IsLeftBySettling g n (Abandoned s r) image
    → Left g n (Abandoned s r) image
left_abandoned g n s r image l =
    let is : IsAbandoned g l.old.image l.old.image n s r = l.is in (
      Abandoned s r,
      BecomesOf.same (Abandoned s r),
      record {
        abandons = abandons_on (grows l) is.abandons;
        done = unput l _ (λ put e here. e) (λ put e here. e) is.done;
      },
    )

left_committed : (g : Layout) (n s r b j : ℕ) (image : Image) → IsLeftBySettling g n (Committed s r b j) image
    → Left g n (Committed s r b j) image
left_committed g n s r b j image l =
    let is : IsCommitted g l.old.image l.old.image n s r b j = l.is in
    by_cell (Left g n (Committed s r b j) image) (image (done_at n))
    (λ none. (
      Committed s r b j,
      BecomesOf.same (Committed s r b j),
      record { commits = commits_on (grows l) is.commits; done = none },
    ))
    (λ v here.
    let p = put_there l (done_at n) v is.done here in
    let same : v ≡ (done_put n).value = ⊎_elim
    (λ (a : (p.planned.0 ≡ 1) × IsEntryPut l.old.image (journal_at s r j) j p.put).
    let low = entries_from (lists_at g) l.old.image (journal_at s r j) (document_at s r b j) j l.journal a.1.0
    p.put.value a.1.1 a.1.2.stands in
    absurd (omega (arith, low, p.here, a.1.2.at, is.commits.reserves.slot)))
    (λ (d : (p.planned.0 ≡ 2) × (p.put ≡ done_put n)). sym p.is ∙ ap (λ (q : Put). q.value) d.1)
    p.planned.2 in (
      Done s r b j,
      BecomesOf.finished s r b j,
      record {
        commits = commits_on (grows l) is.commits;
        done = record {
          cell = v;
          stands = here;
          is = record {
            fits = omega (arith, is.commits.reserves.slot, l.layout.slots);
            well_formed = omega (arith, is.commits.reserves.slot, l.layout.slots);
            same = same;
          };
        };
      },
    ))

pub kept_states : SettlingKeepsStates
kept_states g n Unused image l = left_unused g n image l
kept_states g n (Reserved s r) image l = left_reserved g n s r image l
kept_states g n (Abandoned s r) image l = left_abandoned g n s r image l
kept_states g n (Committed s r b j) image l = left_committed g n s r b j image l
kept_states g n (Done s r b j) image l =
    let is : IsDone g l.old.image n s r b j = l.is in
    (Done s r b j, BecomesOf.same (Done s r b j), done_on (grows l) is)
