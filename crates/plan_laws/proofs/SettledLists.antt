-- The lists of a settled image stand as they should.
use Rattle.std.proofs.Common.{◌≡◌, ◌≢◌, ◌<◌, ◌≤◌, ◌+◌, ◌*◌, ◌⊎◌, ⊎_elim, inl, inr, ℕ, Bool, Some, refl, ap, sym, subst, arith}
use Rattle.std.specs.Prelude.{if◌then◌else◌}
use Rattle.std.proofs.lemmas.Bool.{cases_lt, le-ltb, lt-ltb}
use Rattle.cell_types.specs.Image.{Image}
use Rattle.cell_types.specs.Layout.{Layout, IsLayout, list_at, pool_at, all_lists}
use Rattle.cell_types.specs.declared.record_cell.RecordCell.TheVariants.{Jump}
use Rattle.volume_meaning.specs.Slots.{IsEdge, IsHorizon}
use Rattle.volume_meaning.proofs.Stamps.{stands_given}
use Rattle.volume_meaning.specs.Volumes.{Holds}
use Rattle.volume_meaning.proofs.Holding.{one_record_holds}
use Rattle.volume_meaning.specs.Blocks.{PostingFields, posting_record, Leads, arrived, onwards, pointer_at}
use Rattle.volume_meaning.specs.Nodes.{IsBlockOf, AreApart}
use Rattle.tamper_rules.specs.Rules
use Rattle.tamper_rules.specs.Rules.{IsTruePosting, LeadsWell, PointerRule, PostingRule}
use Rattle.tamper_rules.specs.Settling.{IsSettled}
use Rattle.volume_meaning.specs.Postings.{IsWordPosting, time_posting}
use Rattle.volume_meaning.proofs.Tags.{word_slot}
use Rattle.tamper_rules.proofs.GivenUp.{jumps, leads_further}
use Rattle.tamper_rules.proofs.Settled.{below_horizon, written}
use Rattle.ingest_laws.proofs.SettledShapes.{edge_inside, leads_wider, settled_listed}
use Rattle.ingest_laws.proofs.SettledTrails.{settled_trails}
use Rattle.ingest_plan.specs.Standing.{ListsStand}
use Rattle.plan_laws.specs.Standing.{HasPastStamps, below_slot}

-- the bound of a list of words, and that of the time list
pub words_bound : (g : Layout) (n seconds l : ℕ) → l < g.lists → below_slot g n seconds l ≡ 256 * n
words_bound g n seconds l less = ap (λ (b : Bool). if b then 256 * n else seconds) (lt-ltb l g.lists less)

pub time_bound : (g : Layout) (n seconds l : ℕ) → g.lists ≤ l → below_slot g n seconds l ≡ seconds
time_bound g n seconds l past = ap (λ (b : Bool). if b then 256 * n else seconds) (le-ltb l g.lists past)

module _ {g : Layout} {image : Image} {edge n : ℕ} (layout : IsLayout g) (s : IsSettled g image)
    (e : IsEdge g image image edge) (horizon : IsHorizon g image image n) (free : n < g.slots) (seconds : ℕ)
    (past : HasPastStamps g image n seconds) where
  block_of : {l block : ℕ} → l < all_lists g → Leads image (pool_at g) edge block (list_at g l)
      → IsBlockOf g image l block
  block_of list leads = record { list = list; leads = leads_wider (edge_inside layout e) leads }

  -- each posting is one of a slot below the horizon, or of its stamp
  key_below : {l block place : ℕ} {p : PostingFields} → IsBlockOf g image l block → place < 128
      → Holds image (block + place) (posting_record p) → p.key < below_slot g n seconds l
  key_below {l} {block} {place} {p} b less holds =
      let rule : PostingRule g image (block + place) =
      s.met Rules.Postings (block + place) (record { found = holds.cell; stands = holds.stands }) in
      let true_posting : IsTruePosting g image l p = rule l block place p b less refl holds in
      let live = true_posting.live in
      let below : true_posting.slot < n =
      below_horizon g image s n true_posting.slot free horizon live.slot (written live.done.done.commits.reserves) in
      ⊎_elim
      (λ (word : IsWordPosting g true_posting.body true_posting.slot l p).
      omega (
        arith,
        below,
        word_slot g true_posting.body true_posting.slot l p true_posting.postings word,
        words_bound g n seconds l word.list,
      ))
      (λ (time : (s : ℕ) × (true_posting.stamp ≡ Some s) × (l ≡ g.lists) × (p ≡ time_posting true_posting.slot s)).
      let has = stands_given g image true_posting.slot true_posting.stamp time.0 true_posting.is_stamp time.1 in
      omega (
        arith,
        past (omega (arith, b.list, time.2)) true_posting.slot time.0 below live.done has.1,
        ap (λ (f : PostingFields). f.key) time.3,
        time_bound g n seconds l (omega (arith, time.2)),
      ))
      true_posting.is

  -- a block that a pointer leads to lies in the pool, and meets no block of another list
  record LiesApart (l block : ℕ) : Type 0 where
    from : pool_at g ≤ block
    apart : (k other : ℕ) → k ≢ l → IsBlockOf g image k other → AreApart block 256 other 256

  led_apart : {l from level digit block : ℕ} → IsBlockOf g image l from → level < 8 → 1 ≤ digit → digit ≤ 15
      → Holds image (pointer_at from level digit) (Jump block) → pool_at g ≤ block → LiesApart l block
  led_apart {l} {from} {level} {digit} {block} b levels low high jump pool =
      let rule : PointerRule g image (pointer_at from level digit) =
      s.met Rules.Pointers (pointer_at from level digit) (record { found = jump.cell; stands = jump.stands }) in
      let well : LeadsWell g image l from level digit = rule l from level digit b levels low high refl in
      let same : block ≡ well.target =
      jumps block well.target (one_record_holds image (pointer_at from level digit) (Jump block)
      (Jump well.target) jump well.jump) in
      record {
        from = pool;
        apart = λ k other differ is. ⊎_elim
            (λ here. absurd (differ here.1))
            (λ far. subst (λ (t : ℕ). AreApart t 256 other 256) (sym same) far)
            (well.blocks k other is);
      }

  -- a block of a list is its first, or lies apart
  reached : {l last block : ℕ} → Leads image (pool_at g) g.cells last block → IsBlockOf g image l block
      → (block ≡ list_at g l) ⊎ LiesApart l block → (last ≡ list_at g l) ⊎ LiesApart l last
  reached {l} (arrived block is) b so = subst (λ (c : ℕ). (c ≡ list_at g l) ⊎ LiesApart l c) is so
  reached (onwards block level digit target levels low high jump from to rest) b so =
      reached rest (record {
        list = b.list;
        leads = leads_further b.leads level digit target levels low high jump from to;
      })
      (inr (led_apart b levels low high jump from))

  first_or_apart : {l block : ℕ} → IsBlockOf g image l block → (block ≡ list_at g l) ⊎ LiesApart l block
  first_or_apart {l} b =
      reached b.leads (record { list = b.list; leads = arrived (list_at g l) refl }) (inl refl)

  swapped : {a b : ℕ} → AreApart a 256 b 256 → AreApart b 256 a 256
  swapped h = ⊎_elim inr inl h

  blocks_apart : {l k a b : ℕ} → l ≢ k → IsBlockOf g image l a → IsBlockOf g image k b → AreApart a 256 b 256
  blocks_apart {l} {k} {a} {b} differ x y = ⊎_elim
      (λ first. ⊎_elim
      (λ also. firsts first also)
      (λ far. swapped (far.apart l a differ x))
      (first_or_apart y))
      (λ far. far.apart k b (λ same. differ (sym same)) y)
      (first_or_apart x)
    where
      firsts : a ≡ list_at g l → b ≡ list_at g k → AreApart a 256 b 256
      firsts first also = ⊎_elim
          (λ less. inl (omega (arith, first, also, less)))
          (λ more. inr (omega (arith, first, also, more, differ)))
          (cases_lt l k)

  pub settled_stand : ListsStand g image edge (below_slot g n seconds)
  settled_stand = record {
    well = λ l list. settled_listed layout s e list;
    trails = λ l list block place q leads less holds. settled_trails s e (block_of list leads) less holds;
    keys = λ l list block place q leads less holds. key_below (block_of list leads) less holds;
    apart = λ l k list other differ a b x y. blocks_apart differ (block_of list x) (block_of other y);
  }
