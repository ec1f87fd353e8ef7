-- The blocks of all lists, closed under their pointers.
use Rattle.std.proofs.Common.{◌≡◌, ◌<◌, ◌≤◌, ◌+◌, ◌-◌, ◌*◌, ◌/◌, ◌%◌, ⊎_elim, inr, ℕ, Bool, List, [], length, get_or, Some, None, refl, sym, ◌∙◌, subst, arith}
use Rattle.std.specs.Prelude.{IsTrue, slice_get}
use Rattle.std.proofs.lemmas.Bool.{cases_order}
use Rattle.std.proofs.lemmas.Option.{slice_get_within, none-some, slice_get-get_or}
use Rattle.cell_types.specs.Image.{Image}
use Rattle.cell_types.specs.Layout.{Layout, IsLayout, all_lists, list_at, pool_at}
use Rattle.cell_types.specs.declared.record_cell.RecordCell.TheVariants.{Jump}
use Rattle.volume_meaning.proofs.Holding.{one_record_holds}
use Rattle.volume_meaning.specs.Blocks.{Leads, arrived, onwards}
use Rattle.volume_meaning.specs.Nodes.{IsBlockOf}
use Rattle.log_audit.proofs.Orders.{below_or_at}
use Rattle.list_audit.specs.Blocks.{IsAmongBlocks, IsShared, IsTaken, AreTaken, PointsTo, AddsBlock, LeadsAmong, AreClosedBelow}
use Rattle.list_audit.specs.declared.listed.ListBlock.{ListBlock}
use Rattle.list_audit.proofs.Taking.{taken_more}

-- the first block of a list is one of its
pub first_is : (g : Layout) (image : Image) (l : ℕ) → l < all_lists g → IsBlockOf g image l (list_at g l)
first_is g image l less = record { list = less; leads = arrived (list_at g l) refl }

-- the first blocks of the lists below n were found
pub record AreFirstBelow (for_two : Bool) (g : Layout) (n : ℕ) (blocks : List ListBlock) : Type 0 where
  pub reached : (i : ℕ) (b : ListBlock) → slice_get blocks i ≡ Some b → (b.list < all_lists g) × (b.block ≡ list_at g b.list)
  pub firsts : (l : ℕ) → l < n → IsTaken for_two blocks l (list_at g l)

pub no_first : (for_two : Bool) (g : Layout) (blocks : List ListBlock) → blocks ≡ [] → AreFirstBelow for_two g 0 blocks
no_first for_two g blocks none = subst (AreFirstBelow for_two g 0) (sym none) (record {
  reached = λ i b there. absurd (omega (arith, slice_get_within [] i b there));
  firsts = λ l less. absurd (omega (arith, less));
})

pub one_first : {for_two : Bool} {g : Layout} {n block : ℕ} {old new : List ListBlock} → AreFirstBelow for_two g n old → n < all_lists g
    → block ≡ list_at g n → AddsBlock for_two n block old new → AreFirstBelow for_two g (n + 1) new
one_first {for_two} {g} {n} {block} {old} {new} are less at adds = record {
  reached = λ i b there. ⊎_elim
      (λ (before : slice_get old i ≡ Some b). are.reached i b before)
      (λ (is : (b.list ≡ n) × (b.block ≡ block)). (
        omega (arith, less, is.0),
        is.1 ∙ at ∙ subst (λ (l : ℕ). list_at g n ≡ list_at g l) (sym is.0) refl,
      ))
      (adds.only i b there);
  firsts = λ l below. ⊎_elim
      (λ (earlier : l < n). taken_more adds l (list_at g l) (are.firsts l earlier))
      (λ (same : l ≡ n). subst (λ (m : ℕ). IsTaken for_two new m (list_at g m)) (sym same) (subst (IsTaken for_two new n) at adds.has))
      (below_or_at l n below);
}

pub all_first : {for_two : Bool} {g : Layout} {n : ℕ} {blocks : List ListBlock} (image : Image) → AreFirstBelow for_two g n blocks
    → all_lists g ≤ n → AreClosedBelow for_two g image 0 blocks
all_first {for_two} {g} {n} {blocks} image are past = record {
  reached = λ i b there. let is = are.reached i b there in
      subst (IsBlockOf g image b.list) (sym is.1) (first_is g image b.list is.0);
  firsts = λ l less. are.firsts l (omega (arith, less, past));
  closed = λ i b less. absurd (omega (arith, less));
}

-- The pointer places of the block of this turn below one were followed.
pub record IsFollowed (for_two : Bool) (g : Layout) (image : Image) (n : ℕ) (from : ListBlock) (pointer : ℕ) (blocks : List ListBlock) : Type 0 where
  pub below : AreClosedBelow for_two g image n blocks
  pub here : slice_get blocks n ≡ Some from
  pub leads : LeadsAmong for_two g image blocks from pointer

-- the level and digit of a pointer place
level_of : (pointer : ℕ) → 128 ≤ pointer → pointer < 248
    → (level : ℕ) × (digit : ℕ) × (level < 8) × (1 ≤ digit) × (digit ≤ 15) × (pointer ≡ 127 + 15 * level + digit)
level_of pointer from to = ((pointer - 128) / 15, (pointer - 128) % 15 + 1, omega arith, omega arith, omega arith, omega arith)

-- a block to which a block of the list leads is one of the list
pub leads_on : {g : Layout} {image : Image} {l block pointer target : ℕ} → IsBlockOf g image l block → 128 ≤ pointer → pointer < 248
    → PointsTo g image (block + pointer) target → IsBlockOf g image l target
leads_on {g} {image} {l} {block} {pointer} {target} is from to h =
    let p = level_of pointer from to in
    let jump = subst (λ (q : ℕ). PointsTo g image (block + q) target) p.5 h in
    record { list = is.list; leads = behind (list_at g l) is.leads p.0 p.1 p.2 p.3 p.4 jump }
  where
    behind : (head : ℕ) → Leads image (pool_at g) g.cells block head → (level digit : ℕ) → level < 8 → 1 ≤ digit → digit ≤ 15
        → PointsTo g image (block + (127 + 15 * level + digit)) target → Leads image (pool_at g) g.cells target head
    behind head (arrived b same) level digit a b' c h =
        let k = subst (λ (k : ℕ). PointsTo g image (k + (127 + 15 * level + digit)) target) (sym same) h in
        onwards b level digit target a b' c k.held k.from k.to (arrived target refl)
    behind head (onwards b i j t a b' c jump from to rest) level digit x y z h =
        onwards b i j t a b' c jump from to (behind t rest level digit x y z h)

-- a block of a list lies on the device
pub block_inside : {g : Layout} {image : Image} {l block : ℕ} → IsLayout g → IsBlockOf g image l block → block + 256 ≤ g.cells
block_inside {g} {image} {l} {block} layout is = from (list_at g l) is.leads (head is.list layout.pool)
  where
    head : l < all_lists g → pool_at g ≤ g.cells → list_at g l + 256 ≤ g.cells
    head less pool = grind arith

    from : (start : ℕ) → Leads image (pool_at g) g.cells block start → start + 256 ≤ g.cells → block + 256 ≤ g.cells
    from start (arrived b same) inside = omega (arith, same, inside)
    from start (onwards b level digit target x y z jump low high rest) inside = from target rest high

-- a jump cell leads to one block
pub one_target : {g : Layout} {image : Image} {at a b : ℕ} → PointsTo g image at a → PointsTo g image at b → a ≡ b
one_target {g} {image} {at} {a} {b} h k = let e = one_record_holds image at (Jump a) (Jump b) h.held k.held in cc

module _ {for_two : Bool} {g : Layout} {image : Image} {n : ℕ} where
  -- a place from which no pointer leads on
  pub no_target : {from : ListBlock} {pointer : ℕ} {blocks : List ListBlock} → IsFollowed for_two g image n from pointer blocks
      → ((target : ℕ) → PointsTo g image (from.block + pointer) target → ⊥) → IsFollowed for_two g image n from (pointer + 1) blocks
  no_target {from} {pointer} {blocks} w none = record {
    below = w.below;
    here = w.here;
    leads = λ p t low high h. ⊎_elim
        (λ (less : p < pointer). w.leads p t low less h)
        (λ (same : p ≡ pointer). absurd (none t (subst (λ (q : ℕ). PointsTo g image (from.block + q) t) same h)))
        (below_or_at p pointer high);
  }

  -- a pointer that leads to a block, which was added
  pub one_more : {from : ListBlock} {pointer target : ℕ} {old new : List ListBlock}
      → IsFollowed for_two g image n from pointer old → 128 ≤ pointer → pointer < 248 → PointsTo g image (from.block + pointer) target
      → AddsBlock for_two from.list target old new → IsFollowed for_two g image n from (pointer + 1) new
  one_more {from} {pointer} {target} {old} {new} w low high points adds = record {
    below = record {
      reached = λ i b there. ⊎_elim
          (λ (before : slice_get old i ≡ Some b). w.below.reached i b before)
          (λ (is : (b.list ≡ from.list) × (b.block ≡ target)).
          subst (λ (l : ℕ). IsBlockOf g image l b.block) (sym is.0) (subst (IsBlockOf g image from.list) (sym is.1)
          (leads_on (w.below.reached n from w.here) low high points)))
          (adds.only i b there);
      firsts = λ l less. taken_more adds l (list_at g l) (w.below.firsts l less);
      closed = λ i b less there p t from' to h. taken_more adds b.list t (w.below.closed i b less (before i b less there) p t from' to h);
    };
    here = adds.keeps n from w.here;
    leads = λ p t from' to h. ⊎_elim
        (λ (less : p < pointer). taken_more adds from.list t (w.leads p t from' less h))
        (λ (same : p ≡ pointer). subst (IsTaken for_two new from.list)
        (one_target points (subst (λ (q : ℕ). PointsTo g image (from.block + q) t) same h)) adds.has)
        (below_or_at p pointer to);
  }
    where
      before : (i : ℕ) (b : ListBlock) → i < n → slice_get new i ≡ Some b → slice_get old i ≡ Some b
      before i b less there =
          let inside : i < length old = omega (arith, less, slice_get_within old n from w.here) in
          let is : slice_get old i ≡ Some (get_or old i b) = slice_get-get_or old i b inside in
          let same : Some (get_or old i b) ≡ Some b = sym (adds.keeps i (get_or old i b) is) ∙ there in
          is ∙ same

  -- each pointer place of the block was followed
  pub turn_done : {from : ListBlock} {pointer : ℕ} {blocks : List ListBlock} → IsFollowed for_two g image n from pointer blocks → 248 ≤ pointer
      → AreClosedBelow for_two g image (n + 1) blocks
  turn_done {from} {pointer} {blocks} w past = record {
    reached = w.below.reached;
    firsts = w.below.firsts;
    closed = λ i b less there p t low high h. ⊎_elim
        (λ (earlier : i < n). w.below.closed i b earlier there p t low high h)
        (λ (same : i ≡ n). let e : Some from ≡ Some b = sym w.here ∙ subst (λ (k : ℕ). slice_get blocks k ≡ Some b) same there in
        let eq : from ≡ b = cc in
        subst (λ (c : ListBlock). IsTaken for_two blocks c.list t) eq (w.leads p t low (omega (arith, high, past))
        (subst (λ (c : ListBlock). PointsTo g image (c.block + p) t) (sym eq) h)))
        (below_or_at i n less);
  }

-- no block is left for the next turn
past_blocks : (blocks : List ListBlock) (n : ℕ) → slice_get blocks n ≡ None → length blocks ≤ n
past_blocks blocks n none = ⊎_elim
    (λ same. omega (arith, same))
    (λ differ. ⊎_elim
    (λ less. absurd (none-some (get_or blocks n (record { list = 0; block = 0 }))
    (sym none ∙ slice_get-get_or blocks n (record { list = 0; block = 0 }) less)))
    (λ more. omega (arith, more)) differ)
    (cases_order n (length blocks))

module _ {for_two : Bool} {g : Layout} {image : Image} {n : ℕ} {blocks : List ListBlock} (below : AreClosedBelow for_two g image n blocks)
    (none : slice_get blocks n ≡ None) where
  -- what a block leads to was taken for the block's list
  among_leads : (l block pointer target : ℕ) → IsAmongBlocks blocks l block → 128 ≤ pointer → pointer < 248 → PointsTo g image (block + pointer) target
      → IsTaken for_two blocks l target
  among_leads l block pointer target a low high points =
      let inside = slice_get_within blocks a.place a.one a.there in
      subst (λ (m : ℕ). IsTaken for_two blocks m target) a.list
      (below.closed a.place a.one (omega (arith, inside, past_blocks blocks n none)) a.there pointer target low high
      (subst (λ (k : ℕ). PointsTo g image (k + pointer) target) (sym a.is) points))

  -- so what is there for two others leads to what is there for two
  taken_leads : (l block pointer target : ℕ) → IsTaken for_two blocks l block → 128 ≤ pointer → pointer < 248 → PointsTo g image (block + pointer) target
      → IsTaken for_two blocks l target
  taken_leads l block pointer target taken low high points = ⊎_elim
      (λ (among : IsAmongBlocks blocks l block). among_leads l block pointer target among low high points)
      (λ (h : IsTrue for_two × IsShared blocks block). let s = h.1 in ⊎_elim
      (λ (one : IsAmongBlocks blocks s.one target). ⊎_elim
      (λ (other : IsAmongBlocks blocks s.other target). inr (h.0, record { one = s.one; other = s.other; first = one; second = other; two = s.two }))
      (λ (shared : IsTrue for_two × IsShared blocks target). inr shared)
      (among_leads s.other block pointer target s.second low high points))
      (λ (shared : IsTrue for_two × IsShared blocks target). inr shared)
      (among_leads s.one block pointer target s.first low high points))
      taken

  taken_from : (l block start : ℕ) → Leads image (pool_at g) g.cells block start → IsTaken for_two blocks l start → IsTaken for_two blocks l block
  taken_from l block start (arrived b same) taken = subst (IsTaken for_two blocks l) same taken
  taken_from l block start (onwards b level digit target x y z jump low high rest) taken = taken_from l block target rest
      (taken_leads l start (127 + 15 * level + digit) target taken (omega arith) (omega arith) (record { held = jump; from = low; to = high }))

  -- where no block is left each was taken
  pub all_found : AreTaken for_two g image blocks
  all_found = record {
    each = below.reached;
    all = λ l block is. taken_from l block (list_at g l) is.leads (below.firsts l is.list);
  }
