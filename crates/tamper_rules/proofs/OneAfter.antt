-- Settling makes one image of an image.
use Rattle.std.proofs.Common.{◌≡◌, ◌+◌, ◌⊎◌, ⊎_elim, ℕ, List, sym, ◌∙◌, subst, ap, arith}
use Rattle.std.proofs.lemmas.Option.{none-some}
use Rattle.cell_types.specs.Image.{Image, Extends}
use Rattle.cell_types.specs.Layout.{Layout, reserve_at, outcome_at}
use Rattle.cell_types.specs.declared.record_cell.RecordCell.TheVariants.{Reserve, Commit, Abandon}
use Rattle.tamper_rules.specs.Settling.{IsSettled, Settled, IsOneHorizon, IsWith, AbandonRow, JournalRow, DoneRow, After, nothing, abandoned, completed}
use Rattle.volume_meaning.specs.Slots.{IsReserved, IsCommitted, IsAbandonedSlot, IsDoneSlot, HasEnded, IsHorizon}
use Rattle.volume_meaning.specs.Volumes.{Holds, IsVolume}
use Rattle.volume_meaning.proofs.Holding.{one_record_holds}
use Rattle.tamper_rules.proofs.GivenUp.{one_layout, no_abandon}
use Rattle.tamper_rules.proofs.Images.{same_image, same_both}
use Rattle.volume_meaning.proofs.OneDocument.{reserves, commits}

into : {rows : ℕ → List ℕ → Type 0} {old x y : Image} → IsWith rows old x → IsWith rows old y → Extends x y
into v w = record {
  keeps = λ cell value is. ⊎_elim (λ was. w.keeps.keeps cell value was)
      (λ row. w.adds cell value row) (v.only cell value is);
}

-- with the same cells an image becomes one image
pub one_with : {rows : ℕ → List ℕ → Type 0} {old a b : Image} → IsWith rows old a → IsWith rows old b → a ≡ b
one_with v w = same_both (into w v) (into v w)

module _ {cells : ℕ} {image : Image} where
  slot_ended : (g : Layout) (n : ℕ) → Settled cells image → IsVolume cells image g
      → IsOneHorizon g image (n + 1) → HasEnded g image image n
  slot_ended g n s v h =
      let settled : IsSettled g image =
      subst (λ (k : Layout). IsSettled k image) (one_layout s.layout g s.volume v) s.settled in
      settled.ended (n + 1) n h.is (omega arith)

  not_reserved : (g : Layout) (n start reserved : ℕ) → Settled cells image → IsVolume cells image g
      → IsOneHorizon g image (n + 1) → IsReserved g image image n start reserved → ⊥
  not_reserved g n start reserved s v h r = ⊎_elim
      (λ (a : IsAbandonedSlot g image image n). none-some _ (sym r.outcome ∙ a.abandoned.abandons.outcome.stands))
      (λ (d : IsDoneSlot g image n). none-some _ (sym r.outcome ∙ d.done.commits.outcome.stands))
      (slot_ended g n s v h)

  not_committed : (g : Layout) (n start reserved bytes journal : ℕ) → Settled cells image
      → IsVolume cells image g → IsOneHorizon g image (n + 1)
      → IsCommitted g image image n start reserved bytes journal → ⊥
  not_committed g n start reserved bytes journal s v h r = ⊎_elim
      (λ (a : IsAbandonedSlot g image image n). no_abandon bytes journal
      (one_record_holds image (outcome_at n) (Commit bytes journal) Abandon r.commits.outcome
      a.abandoned.abandons.outcome))
      (λ (d : IsDoneSlot g image n). none-some _ (sym r.done ∙ d.done.done.stands))
      (slot_ended g n s v h)

  one_slot : (g h : Layout) (n m : ℕ) → IsVolume cells image g → IsVolume cells image h
      → IsOneHorizon g image (n + 1) → IsOneHorizon h image (m + 1) → n ≡ m
  one_slot g h n m v w a b =
      let other : IsHorizon g image image (m + 1) =
      subst (λ (k : Layout). IsHorizon k image image (m + 1)) (one_layout h g w v) b.is in
      let same : m + 1 ≡ n + 1 = a.one (m + 1) other in
      omega (arith, same)

  not_both : (g h : Layout) (n start reserved m from more bytes journal : ℕ) → IsVolume cells image g
      → IsVolume cells image h → IsOneHorizon g image (n + 1) → IsOneHorizon h image (m + 1)
      → IsReserved g image image n start reserved → IsCommitted h image image m from more bytes journal → ⊥
  not_both g h n start reserved m from more bytes journal v w a b r c =
      none-some _ (sym r.outcome ∙ ap (λ (k : ℕ). image (outcome_at k)) (one_slot g h n m v w a b)
      ∙ c.commits.outcome.stands)

  both_completed : (g h : Layout) (n start reserved bytes journal m from more count entries : ℕ)
      → IsVolume cells image g → IsVolume cells image h
      → IsOneHorizon g image (n + 1) → IsOneHorizon h image (m + 1)
      → IsCommitted g image image n start reserved bytes journal → IsCommitted h image image m from more count entries
      → (n ≡ m) × (start ≡ from) × (reserved ≡ more) × (journal ≡ entries)
  both_completed g h n start reserved bytes journal m from more count entries v w a b c d =
      let same = one_slot g h n m v w a b in
      let r = reserves start reserved from more (one_record_holds image (reserve_at m) (Reserve start reserved)
      (Reserve from more)
      (subst (λ (k : ℕ). Holds image (reserve_at k) (Reserve start reserved)) same c.commits.reserves.reserve)
      d.commits.reserves.reserve) in
      let o = commits bytes journal count entries (one_record_holds image (outcome_at m) (Commit bytes journal)
      (Commit count entries)
      (subst (λ (k : ℕ). Holds image (outcome_at k) (Commit bytes journal)) same c.commits.outcome)
      d.commits.outcome) in
      (same, r.0, r.1, o.1)

abbrev Rows : Image → ℕ → ℕ → ℕ → ℕ → ℕ → List ℕ → Type 0
Rows image n start reserved journal cell value =
    JournalRow image start reserved journal cell value ⊎ DoneRow n cell value

pub one_after : (cells : ℕ) (image one other : Image) → After cells image one → After cells image other → one ≡ other
one_after cells image one other (nothing s same) (nothing t also) = same_image same ∙ sym (same_image also)
one_after cells image one other (nothing s same) (abandoned g n start reserved v h r w) =
    absurd (not_reserved g n start reserved s v h r)
one_after cells image one other (nothing s same) (completed g n start reserved bytes journal v h c ready w) =
    absurd (not_committed g n start reserved bytes journal s v h c)
one_after cells image one other (abandoned g n start reserved v h r w) (nothing s same) =
    absurd (not_reserved g n start reserved s v h r)
one_after cells image one other (abandoned g n start reserved v h r w) (abandoned k m from more x i q y) =
    one_with (subst (λ (j : ℕ). IsWith (AbandonRow j) image one) (one_slot g k n m v x h i) w) y
one_after cells image one other (abandoned g n start reserved v h r w)
    (completed k m from more bytes journal x i c ready y) =
    absurd (not_both g k n start reserved m from more bytes journal v x h i r c)
one_after cells image one other (completed g n start reserved bytes journal v h c ready w) (nothing s same) =
    absurd (not_committed g n start reserved bytes journal s v h c)
one_after cells image one other (completed g n start reserved bytes journal v h c ready w)
    (abandoned k m from more x i q y) =
    absurd (not_both k g m from more n start reserved bytes journal x v i h q c)
one_after cells image one other (completed g n start reserved bytes journal v h c ready w)
    (completed k m from more count entries x i d more_ready y) =
    let same = both_completed g k n start reserved bytes journal m from more count entries v x h i c d in
    let w1 : IsWith (Rows image m start reserved journal) image one =
    subst (λ (j : ℕ). IsWith (Rows image j start reserved journal) image one) same.0 w in
    let w2 : IsWith (Rows image m from reserved journal) image one =
    subst (λ (j : ℕ). IsWith (Rows image m j reserved journal) image one) same.1 w1 in
    let w3 : IsWith (Rows image m from more journal) image one =
    subst (λ (j : ℕ). IsWith (Rows image m from j journal) image one) same.2 w2 in
    let w4 : IsWith (Rows image m from more entries) image one =
    subst (λ (j : ℕ). IsWith (Rows image m from more j) image one) same.3 w3 in
    one_with w4 y
