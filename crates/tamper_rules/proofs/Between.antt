-- Sound images between two others.
use Rattle.std.proofs.Common.{◌≡◌, ◌<◌, ◌≤◌, ◌+◌, ⊎_elim, ℕ, Some, None, refl, sym, ◌∙◌, subst, ap, arith}
use Rattle.std.proofs.lemmas.Option.{none-some}
use Rattle.std.proofs.lemmas.Bool.{cases_lt}
use Rattle.cell_types.specs.Image.{Image, Extends}
use Rattle.cell_types.specs.Layout.{Layout, reserve_at, outcome_at, done_at, lists_at}
use Rattle.cell_types.specs.Records.{IsRecordCell}
use Rattle.cell_types.specs.declared.record_cell.RecordCell.TheVariants.{Commit, Abandon}
use Rattle.tamper_rules.specs.Rules
use Rattle.tamper_rules.specs.Rules.{OutcomeRule, DoneRule}
use Rattle.tamper_rules.specs.Settling.{IsSettled, IsOneHorizon, AbandonRow, JournalRow, DoneRow, After, nothing, abandoned, completed, Sound}
use Rattle.volume_meaning.specs.Slots.{IsAbandonedSlot, IsDoneSlot, IsHorizon}
use Rattle.volume_meaning.specs.Volumes.{Holds, IsWritten, IsVolume}
use Rattle.volume_meaning.proofs.Extending.{volume_on, written_on}
use Rattle.volume_meaning.proofs.Holding.{one_record_holds}
use Rattle.tamper_rules.proofs.GivenUp.{no_abandon, one_layout}
use Rattle.tamper_rules.proofs.Images.{look}
use Rattle.tamper_rules.proofs.Settled.{below_horizon, some_horizon}
use Rattle.tamper_rules.proofs.SettlingGoesOn.{target_behind_log}
use Rattle.tamper_rules.proofs.Writing.{put_cell, put_there, put_other, same_or_not}

-- settling keeps what stands
pub after_keeps : {cells : ℕ} {image after : Image} → After cells image after → Extends image after
after_keeps (nothing s same) = record { keeps = λ cell value is. same cell ∙ is }
after_keeps (abandoned g n start reserved v h r w) = w.keeps
after_keeps (completed g n start reserved bytes journal v h c ready w) = w.keeps

-- what it makes something of is a volume
pub volume_of : {cells : ℕ} {image after : Image} → After cells image after → (g : Layout) × IsVolume cells image g
volume_of (nothing s same) = (s.layout, s.volume)
volume_of (abandoned g n start reserved v h r w) = (g, v)
volume_of (completed g n start reserved bytes journal v h c ready w) = (g, v)

-- and a commit cell stood before
pub commit_stood : {cells : ℕ} {image after : Image} → After cells image after → (m bytes journal : ℕ)
    → (g : Layout) → m < g.slots → IsVolume cells image g
    → Holds after (outcome_at m) (Commit bytes journal) → Holds image (outcome_at m) (Commit bytes journal)
commit_stood (nothing s same) m bytes journal g inside v h = record {
  cell = h.cell;
  stands = sym (same (outcome_at m)) ∙ h.stands;
  is = h.is;
}
commit_stood {cells} {image} {after} (abandoned k n start reserved v x r w) m bytes journal g inside vol h = ⊎_elim
    (λ was. record { cell = h.cell; stands = was; is = h.is })
    (λ (row : AbandonRow n (outcome_at m) h.cell).
    let there : Holds after (outcome_at m) Abandon = record {
      cell = h.cell;
      stands = h.stands;
      is = subst (λ (c : ℕ). IsRecordCell Abandon c h.cell) (sym row.at) row.is;
    } in
    absurd (no_abandon bytes journal (one_record_holds after (outcome_at m) (Commit bytes journal) Abandon h there)))
    (w.only (outcome_at m) h.cell h.stands)
commit_stood {cells} {image} {after} (completed k n start reserved more entries v x c ready w) m bytes journal
    g inside vol h = ⊎_elim
    (λ was. record { cell = h.cell; stands = was; is = h.is })
    (λ rows. absurd (⊎_elim
    (λ (row : JournalRow image start reserved entries (outcome_at m) h.cell).
    let same : k ≡ g = one_layout k g v vol in
    let far : lists_at k ≤ outcome_at m = target_behind_log ready.in_order row.copies in
    let low : outcome_at m < lists_at k = subst (λ (j : Layout). outcome_at m < lists_at j) (sym same)
    (let z : outcome_at m < lists_at g = omega arith in z) in
    omega arith)
    (λ (row : DoneRow n (outcome_at m) h.cell). omega (arith, row.at)) rows))
    (w.only (outcome_at m) h.cell h.stands)

-- a done cell that settling writes is that of the slot below the one horizon
pub done_added : {cells : ℕ} {image after : Image} → After cells image after → (m : ℕ) (g : Layout)
    → m < g.slots → IsVolume cells image g
    → image (done_at m) ≡ None → IsWritten after (done_at m) → IsOneHorizon g image (m + 1)
done_added (nothing s same) m g inside v none w = absurd (none-some _ (sym none ∙ sym (same (done_at m)) ∙ w.stands))
done_added {cells} {image} {after} (abandoned k n start reserved v x r w) m g inside vol none d = ⊎_elim
    (λ was. absurd (none-some _ (sym none ∙ was)))
    (λ (row : AbandonRow n (done_at m) d.found). absurd (omega (arith, row.at)))
    (w.only (done_at m) d.found d.stands)
done_added {cells} {image} {after} (completed k n start reserved more entries v x c ready w) m g inside vol none d =
    ⊎_elim
    (λ was. absurd (none-some _ (sym none ∙ was)))
    (λ rows. ⊎_elim
    (λ (row : JournalRow image start reserved entries (done_at m) d.found). absurd (
    let same : k ≡ g = one_layout k g v vol in
    let far : lists_at k ≤ done_at m = target_behind_log ready.in_order row.copies in
    let low : done_at m < lists_at k =
    subst (λ (j : Layout). done_at m < lists_at j) (sym same) (let z : done_at m < lists_at g = omega arith in z) in
    omega arith))
    (λ (row : DoneRow n (done_at m) d.found).
    let is : n ≡ m = omega (arith, row.at) in
    subst (λ (j : Layout). IsOneHorizon j image (m + 1)) (one_layout k g v vol)
    (subst (λ (i : ℕ). IsOneHorizon k image (i + 1)) is x))
    rows)
    (w.only (done_at m) d.found d.stands)

-- a taken slot lies below a horizon
pub in_log : (g : Layout) (image : Image) → IsSettled g image → (u : ℕ) → IsHorizon g image image u → (m : ℕ)
    → m < g.slots → IsWritten image (reserve_at m) → m < u
in_log g image s u h m inside w = ⊎_elim
    (λ free. below_horizon g image s u m free h inside w)
    (λ full. omega arith)
    (cases_lt u g.slots)

-- in a settled image a slot with a commit cell is done
pub commit_done : (g : Layout) (image : Image) → IsSettled g image → (m bytes journal : ℕ) → m < g.slots
    → Holds image (outcome_at m) (Commit bytes journal) → IsDoneSlot g image m
commit_done g image s m bytes journal inside h =
    let o : OutcomeRule g image m =
    s.met Rules.OutcomeCells (outcome_at m) (record { found = h.cell; stands = h.stands }) m inside refl in
    let u = some_horizon g image s in
    ⊎_elim
    (λ (a : IsAbandonedSlot g image image m). absurd (no_abandon bytes journal
    (one_record_holds image (outcome_at m) (Commit bytes journal) Abandon h a.abandoned.abandons.outcome)))
    (λ (d : IsDoneSlot g image m). d)
    (s.ended u.0 m u.1 (in_log g image s u.0 u.1 m inside o.reserve))

-- Where each image from low up to high is sound, a commit cell that low lacks is that of the slot below low's horizon.
module _ {cells : ℕ} {low high : Image} (e : Extends low high)
    (steady : (image : Image) → Extends low image → Extends image high → Sound cells image)
    (g : Layout) (v : IsVolume cells low g) where
  module _ (m bytes journal : ℕ) (inside : m < g.slots) (none : low (outcome_at m) ≡ None)
      (h : Holds high (outcome_at m) (Commit bytes journal)) where
    abbrev mid : Image
    mid = put_cell low (outcome_at m) h.cell

    mid_is : (cell : ℕ) → (cell ≡ outcome_at m → ⊥) → mid cell ≡ low cell
    mid_is cell other = put_other low (outcome_at m) h.cell cell other

    mid_there : mid (outcome_at m) ≡ Some h.cell
    mid_there = put_there low (outcome_at m) h.cell (outcome_at m) refl

    up : Extends low mid
    up = record {
      keeps = λ cell value is. ⊎_elim
          (λ same. absurd (none-some _ (sym none ∙ ap low (sym same) ∙ is)))
          (λ other. mid_is cell other ∙ is)
          (same_or_not cell (outcome_at m));
    }

    down : Extends mid high
    down = record {
      keeps = λ cell value is. ⊎_elim
          (λ same. ap high same ∙ h.stands ∙ sym mid_there ∙ ap mid (sym same) ∙ is)
          (λ other. e.keeps cell value (sym (mid_is cell other) ∙ is))
          (same_or_not cell (outcome_at m));
    }

    sound : Sound cells mid
    sound = steady mid up down

    low_sound : Sound cells low
    low_sound = steady low (record { keeps = λ cell value is. is }) e

    settled_at : (image : Image) → Extends low image → (t : Sound cells image) → IsSettled g (t.after)
    settled_at image f t = subst (λ (k : Layout). IsSettled k t.after)
        (one_layout t.settled.layout g t.settled.volume (volume_on (after_keeps t.is) (volume_on f v)))
        t.settled.settled

    no_done : low (done_at m) ≡ None
    no_done = ⊎_elim (λ z. z)
        (λ x. absurd (
        let k = after_keeps low_sound.is in
        let s = settled_at low (record { keeps = λ cell value is. is }) low_sound in
        let r : DoneRule low_sound.after m = s.met Rules.DoneCells (done_at m)
        (record { found = x.0; stands = k.keeps (done_at m) x.0 x.1 }) m inside refl in
        let c = commit_stood low_sound.is m r.bytes r.journal g inside v r.commit in
        none-some _ (sym none ∙ c.stands)))
        (look low (done_at m))

    one : IsOneHorizon g mid (m + 1)
    one =
        let k = after_keeps sound.is in
        let s = settled_at mid up sound in
        let there : Holds sound.after (outcome_at m) (Commit bytes journal) = record {
          cell = h.cell;
          stands = k.keeps (outcome_at m) h.cell mid_there;
          is = h.is;
        } in
        let d : IsDoneSlot g sound.after m = commit_done g sound.after s m bytes journal inside there in
        done_added sound.is m g inside (volume_on up v) (mid_is (done_at m) (λ same. omega arith) ∙ no_done) (record {
          found = d.done.done.cell;
          stands = d.done.done.stands;
        })

    to_low : (u : ℕ) → IsHorizon g mid mid u → IsHorizon g low low u
    to_low u k = record {
      most = k.most;
      below = λ j is. let w = k.below j is in record {
        found = w.found;
        stands = sym (mid_is (reserve_at j) (λ same. omega arith)) ∙ w.stands;
      };
      free = λ less. sym (mid_is (reserve_at u) (λ same. omega arith)) ∙ k.free less;
    }

    to_mid : (u : ℕ) → IsHorizon g low low u → IsHorizon g mid mid u
    to_mid u k = record {
      most = k.most;
      below = λ j is. written_on up (k.below j is);
      free = λ less. mid_is (reserve_at u) (λ same. omega arith) ∙ k.free less;
    }

    pub one_commit : IsOneHorizon g low (m + 1)
    one_commit = record { is = to_low (m + 1) one.is; one = λ u k. one.one u (to_mid u k) }
