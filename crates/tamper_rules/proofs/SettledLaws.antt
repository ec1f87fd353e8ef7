-- Laws of settled images.
use Rattle.std.proofs.Common.{◌≡◌, ◌<◌, ◌≤◌, ℕ, suc, zero, [], None, refl, sym, ◌∙◌, subst, arith}
use Rattle.std.proofs.lemmas.Option.{none-some}
use Rattle.cell_types.specs.Image.{Image}
use Rattle.cell_types.specs.Layout.{Layout, IsLayout, reserve_at, pool_at}
use Rattle.cell_types.specs.declared.record_cell.RecordCell.{RecordCell}
use Rattle.volume_meaning.specs.Blocks.{pointer_at, Leads, arrived, onwards}
use Rattle.volume_meaning.specs.Documents.{AreDocuments}
use Rattle.volume_meaning.specs.Nodes.{IsNode, root, under}
use Rattle.tamper_rules.specs.Rules
use Rattle.tamper_rules.specs.Rules.{Rule, IsMet, IsBroken, IsDoneIndexCell}
use Rattle.tamper_rules.specs.Settling.{Settled}
use Rattle.volume_meaning.specs.Slots.{Reserves, IsHorizon}
use Rattle.volume_meaning.specs.Volumes.{Holds, IsWritten, IsVolume}
use Rattle.tamper_rules.proofs.GivenUp.{one_layout}

pub unbroken : (cells : ℕ) (image : Image) (number cell : ℕ) → Settled cells image
    → IsBroken cells image number cell → ⊥
unbroken cells image number cell s b =
    let same : s.layout ≡ b.layout = one_layout s.layout b.layout s.volume b.volume in
    b.not_met (subst (λ (g : Layout). IsMet g image b.rule cell) same (s.settled.met b.rule cell b.written))

module _ {cells : ℕ} {image : Image} {g : Layout} (l : IsLayout g) (v : IsVolume cells image g)
    (blank : (cell : ℕ) → 1 ≤ cell → image cell ≡ None) where
  only_0 : (cell : ℕ) → IsWritten image cell → cell ≡ 0
  only_0 zero w = refl
  only_0 (suc cell) w = absurd (none-some _ (sym (blank (suc cell) (omega arith)) ∙ w.stands))

  none_at : {r : RecordCell} (cell : ℕ) → 1 ≤ cell → Holds image cell r → ⊥
  none_at cell some h = none-some _ (sym (blank cell some) ∙ h.stands)

  no_slot : {n start length : ℕ} → Reserves g image n start length → ⊥
  no_slot {n} r = none_at (reserve_at n) (omega arith) r.reserve

  far_block : {block last : ℕ} → Leads image (pool_at g) g.cells last block → 1 ≤ block → 1 ≤ last
  far_block (arrived block is) some = omega arith
  far_block (onwards block level digit target ls d1 d2 jump from to rest) some =
      absurd (none_at (pointer_at block level digit) (omega arith) jump)

  far_node : {level node : ℕ} → IsNode g image level node → 1 ≤ node
  far_node (root level node is at) = omega arith
  far_node (under level node w above x is rest xs less child from to) = omega arith

  no_index : IsDoneIndexCell g image 0 → ⊥
  no_index (Rules.IsDoneIndexCell.of_list k lies) = omega (arith, lies.from)
  no_index (Rules.IsDoneIndexCell.of_root lies) = omega (arith, lies.from)
  no_index (Rules.IsDoneIndexCell.of_slot m from reserved bytes journal d low high) = no_slot d.commits.reserves

  met_0 : (rule : Rule) → IsMet g image rule 0
  met_0 Rules.ReserveCells = λ m inside at. absurd (omega arith)
  met_0 Rules.OutcomeCells = λ m inside at. absurd (omega arith)
  met_0 Rules.DoneCells = λ m inside at. absurd (omega arith)
  met_0 Rules.Documents = λ m inside at. absurd (omega arith)
  met_0 Rules.Journals = record {
    copy = λ n from reserved bytes journal place c below at. absurd (no_slot c.commits.reserves);
    commit = λ n from reserved bytes journal place c below at. absurd (no_slot c.commits.reserves);
  }
  met_0 Rules.Targets = record {
    done = λ n from reserved bytes journal place target copied d c at. absurd (no_slot d.commits.reserves);
    committed = λ n from reserved bytes journal place target copied d c at. absurd (no_slot d.commits.reserves);
  }
  met_0 Rules.StrayCells = record {
    kept_blank = λ one. absurd (omega arith);
    spare = λ n inside at. absurd (omega arith);
    named = λ i. absurd (no_index i);
    edge = λ at e pool. absurd (omega arith);
  }
  met_0 Rules.Entries = record {
    entry = λ k block place b below at. absurd (let far = far_block b.leads (omega arith) in omega arith);
    blank = λ k block place b from to at. let far = far_block b.leads (omega arith) in omega arith;
  }
  met_0 Rules.Postings =
      λ k block place p b below at h. absurd (let far = far_block b.leads (omega arith) in omega arith)
  met_0 Rules.Pointers =
      λ k block level digit b ls d1 d2 at. absurd (let far = far_block b.leads (omega arith) in omega arith)
  met_0 Rules.Buckets = λ level node x o less at. absurd (let far = far_node o in omega arith)
  met_0 Rules.Children = λ level node x o less at. absurd (let far = far_node o in omega arith)
  met_0 Rules.Trails = λ m id body at t. absurd (omega arith)
  met_0 Rules.Paths = λ m id body at t. absurd (omega arith)
  met_0 Rules.Tilings = λ m from reserved bytes journal at d. absurd (omega arith)

  no_horizon : (u m : ℕ) → IsHorizon g image image u → m < u → ⊥
  no_horizon zero m h less = omega arith
  no_horizon (suc k) m h less =
      let w = h.below k (omega arith) in none-some _ (sym (blank (reserve_at k) (omega arith)) ∙ w.stands)

  pub formatted : Settled cells image × AreDocuments cells image []
  formatted = (
    record {
      layout = g;
      volume = v;
      settled = record {
        met = λ rule cell w. subst (λ (c : ℕ). IsMet g image rule c) (sym (only_0 cell w)) (met_0 rule);
        ended = λ u m h less. absurd (no_horizon u m h less);
      };
    },
    record {
      rise = tt;
      each = λ d. (
        λ t. absurd (none_at (reserve_at d.slot) (omega arith) t.stands.done.commits.reserves.reserve),
        λ among. absurd (omega (arith, among.1)),
      );
    },
  )
