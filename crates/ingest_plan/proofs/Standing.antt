-- All lists stand as they should behind one posting more of a row.
use Rattle.std.proofs.Common.{◌≡◌, ◌≢◌, ◌<◌, ◌≤◌, ◌+◌, ◌++◌, ◌⊎◌, ◌∙◌, ⊎_elim, inl, inr, ℕ, zero, suc, List, [], ◌∷◌, Option, Some, None, refl, ap, sym, subst, arith, take}
use Rattle.std.specs.Prelude.{slice_get, length}
use Rattle.std.proofs.Math.Seq.{take-length}
use Rattle.std.proofs.lemmas.Bool.{cases_eq}
use Rattle.std.proofs.lemmas.Option.{none-some}
use Rattle.cell_types.specs.Image.{Image, Extends}
use Rattle.cell_types.specs.Layout.{Layout, list_at, pool_at, all_lists}
use Rattle.cell_types.specs.Records.{IsRecordCell}
use Rattle.cell_types.specs.declared.record_cell.RecordCell.{RecordCell}
use Rattle.volume_meaning.specs.Volumes.{Holds}
use Rattle.volume_meaning.specs.Blocks.{Leads}
use Rattle.volume_meaning.specs.Nodes.{AreApart}
use Rattle.volume_meaning.specs.Postings.{ListedPosting}
use Rattle.ingest_laws.specs.ListShapes.{IsWellListed}
use Rattle.ingest_laws.specs.Needs.{PostingCosts, PostingsCost, none, one}
use Rattle.worm_device.proofs.Images.{extends_self, extends_then}
use Rattle.jump_insertion.specs.Costs.{ListHasTrails, HaveKeysBelow}
use Rattle.jump_insertion.specs.Growing.{Grows}
use Rattle.jump_insertion.specs.Others.{ListsAreApart, StandsAside}
use Rattle.jump_insertion.proofs.Added.{IsAddedBy, the_posting, the_pointer, grows_add, leads_go_on}
use Rattle.jump_insertion.proofs.Costs.{posting_costs}
use Rattle.jump_insertion.proofs.KeptTrails.{IsGrown, grown, keys_go_on, trails_go_on}
use Rattle.jump_insertion.proofs.Others.{stands_aside}
use Rattle.ingest_plan.specs.Counts.{PlansAtCost}
use Rattle.ingest_plan.specs.Rows.{AreInOrder}
use Rattle.ingest_plan.specs.Standing.{HasKeysBetween, IsAddedTo, posting, pointer, KeysSoFar, LiesOutside, ListsStand, RowStands}
use Rattle.ingest_plan.proofs.Counting.{costs_none, costs_then}

-- one more of a row
taken_more : (rows : List ListedPosting) (i : ℕ) (row : ListedPosting) → slice_get rows i ≡ Some row
    → take (suc i) rows ≡ take i rows ++ (row ∷ [])
taken_more [] i row is = absurd (none-some row is)
taken_more (other ∷ rows) zero row is = let same : other ≡ row = cc in ap (λ (r : ListedPosting). r ∷ []) same
taken_more (other ∷ rows) (suc i) row is = ap (λ (l : List ListedPosting). other ∷ l) (taken_more rows i row is)

-- the postings cost what they must, and so does one more behind them
costs_more : {g : Layout} {mid new : Image} {next to : ℕ} {rows : List ListedPosting} {old : Image} {from cost : ℕ}
    (a : ListedPosting) (more : ℕ) → PostingsCost g mid next rows old from cost
    → PostingCosts (pool_at g) (list_at g a.list) a.posting mid new next to more
    → PostingsCost g new to (rows ++ (a ∷ [])) old from (cost + more)
costs_more {g} {mid} {new} {next} {to} a more (none old from cost same here is) last =
    let at_old : PostingCosts (pool_at g) (list_at g a.list) a.posting old new next to more =
    subst (λ (i : Image). PostingCosts (pool_at g) (list_at g a.list) a.posting i new next to more) (sym same) last in
    let from_old : PostingCosts (pool_at g) (list_at g a.list) a.posting old new from to more =
    subst (λ (n : ℕ). PostingCosts (pool_at g) (list_at g a.list) a.posting old new n to more) (sym here) at_old in
    one a [] old new from to (cost + more) more 0 from_old (none new to 0 refl refl refl) (omega (arith, is))
costs_more a more (one b rows old then_image from then cost first rest costs others is) last =
    one b (rows ++ (a ∷ [])) old then_image from then (cost + more) first (rest + more) costs
    (costs_more a more others last) (omega (arith, is))

-- keys below one are below a greater
keys_below : {image : Image} {floor next head less key : ℕ} → less ≤ key → HaveKeysBelow image floor next head less
    → HaveKeysBelow image floor next head key
keys_below small keys block place q leads below holds = omega (arith, small, keys block place q leads below holds)

-- before the first posting
pub stands_first : {g : Layout} {bound behind : ℕ → ℕ} {rows : List ListedPosting} {from : ℕ} {image : Image}
    → HasKeysBetween rows bound behind → ListsStand g image from bound → RowStands g behind rows 0 from from image image
stands_first between s = record {
  lists = record {
    well = s.well;
    trails = s.trails;
    keys = λ l less. keys_below (between.rise l) (s.keys l less);
    apart = s.apart;
  };
  extends = extends_self _;
  more = omega arith;
  blocks = λ l block less leads. inl leads;
  outside = λ cell before apart. refl;
  added = λ cell value is blank. absurd (none-some value (sym blank ∙ is));
  cost = 0;
  costs = none _ _ 0 refl refl refl;
}

-- with nothing planned, at no cost
pub stands_first_at_cost : {g : Layout} {bound behind : ℕ → ℕ} {rows : List ListedPosting} {from : ℕ} {image : Image}
    (planned : Image) → HasKeysBetween rows bound behind → ListsStand g image from bound
    → (stands : RowStands g behind rows 0 from from image image) × PlansAtCost planned planned from from stands.cost
unfolding stands_first
stands_first_at_cost {from = from} planned between s = (stands_first between s, costs_none from)

pub keys_first : {g : Layout} {bound : ℕ → ℕ} (rows : List ListedPosting) {from : ℕ} {image : Image}
    → ListsStand g image from bound → KeysSoFar g bound rows 0 image from
keys_first rows s l key less past so_far = keys_below past (s.keys l less)

-- what was added is added still, behind one posting more
added_on : {g : Layout} {rows : List ListedPosting} {i next to cell : ℕ} {value : List ℕ} {old new : Image}
    → Extends old new → next ≤ to → IsAddedTo g rows i old next cell value
    → IsAddedTo g rows (i + 1) new to cell value
added_on e more (posting j q block place less is leads small at holds) =
    posting j q block place (omega (arith, less)) is (leads_go_on e more leads) small at holds
added_on e more (pointer l block level digit target less leads levels some digits at there holds) =
    pointer l block level digit target less (leads_go_on e more leads) levels some digits at
    (leads_go_on e more there) holds

-- the value of a cell is the record that it holds
held_as : {image : Image} {at : ℕ} {r : RecordCell} {value : List ℕ} → image at ≡ Some value → Holds image at r
    → IsRecordCell r at value
held_as {image} {at} {r} {value} is h =
    let there : Some h.cell ≡ Some value = sym h.stands ∙ is in
    let same : h.cell ≡ value = cc in
    subst (λ (v : List ℕ). IsRecordCell r at v) same h.is

-- one posting more
module _ {g : Layout} {bound behind : ℕ → ℕ} {rows : List ListedPosting} {i from next to cost : ℕ}
    {first old new : Image} {p : ListedPosting} (order : AreInOrder g rows) (between : HasKeysBetween rows bound behind)
    (here : slice_get rows i ≡ Some p) (roomy : pool_at g ≤ next) (s : RowStands g behind rows i from next first old)
    (keys : KeysSoFar g bound rows i old next)
    (w : IsWellListed new (pool_at g) to (list_at g p.list))
    (grows : Grows old new (pool_at g) next to (list_at g p.list) p.posting cost) where
  in_list : p.list < all_lists g
  in_list = order.lists_are i p here

  grew : IsGrown old new (pool_at g) next to (list_at g p.list) p.posting
  grew = grown (s.lists.well p.list in_list) roomy grows

  -- keys of the row rise in the posting's list
  keys_here : HaveKeysBelow old (pool_at g) next (list_at g p.list) p.posting.key
  keys_here = keys p.list p.posting.key in_list (between.from i p here)
      (λ j q less is same. ⊎_elim
      (λ (lower : q.list < p.list). omega (arith, lower, same))
      (λ (equal : (q.list ≡ p.list) × (q.posting.key < p.posting.key)). equal.1)
      (order.order j i q p less is here))

  aside : (l : ℕ) → l < all_lists g → l ≢ p.list
      → StandsAside old new (pool_at g) next to (list_at g p.list) (list_at g l)
  aside l less differ = stands_aside grew roomy (s.lists.well l less)
      (s.lists.apart p.list l in_list less (λ same. differ (sym same)))

  own_keys : (key : ℕ) → p.posting.key < key → HaveKeysBelow new (pool_at g) to (list_at g p.list) key
  own_keys key less = keys_go_on grew keys_here key less

  -- what holds of the posting's list and of each other holds of all
  each : (P : ℕ → Type 0) → P p.list → ((l : ℕ) → l < all_lists g → l ≢ p.list → P l) → (l : ℕ) → l < all_lists g → P l
  each P own others l less =
      ⊎_elim (λ same. subst P (sym same) own) (λ differ. others l less differ) (cases_eq l p.list)

  apart_next : (l k : ℕ) → l < all_lists g → k < all_lists g → l ≢ k
      → ListsAreApart new (pool_at g) to (list_at g l) (list_at g k)
  apart_next l k less small differ = ⊎_elim
      (λ (same : l ≡ p.list).
      subst (λ (m : ℕ). ListsAreApart new (pool_at g) to (list_at g m) (list_at g k)) (sym same)
      (aside k small (λ too. differ (omega (arith, same, too)))).apart)
      (λ other. ⊎_elim
      (λ (same : k ≡ p.list). λ a b x y.
      swapped ((aside l less other).apart b a
      (subst (λ (m : ℕ). Leads new (pool_at g) to b (list_at g m)) same y) x))
      (λ another. λ a b x y.
      s.lists.apart l k less small differ a b ((aside l less other).blocks a x) ((aside k small another).blocks b y))
      (cases_eq k p.list))
      (cases_eq l p.list)
    where
      swapped : {a b : ℕ} → AreApart a 256 b 256 → AreApart b 256 a 256
      swapped h = ⊎_elim inr inl h

  pub lists_next : ListsStand g new to behind
  lists_next = record {
    well = each (λ (l : ℕ). IsWellListed new (pool_at g) to (list_at g l)) w
        (λ l less differ. (aside l less differ).well);
    trails = each (λ (l : ℕ). ListHasTrails new (pool_at g) to (list_at g l))
        (trails_go_on grew (s.lists.trails p.list in_list))
        (λ l less differ. (aside l less differ).trails (s.lists.trails l less));
    keys = each (λ (l : ℕ). HaveKeysBelow new (pool_at g) to (list_at g l) (behind l))
        (own_keys (behind p.list) (between.to i p here))
        (λ l less differ. (aside l less differ).keys (behind l) (s.lists.keys l less));
    apart = apart_next;
  }

  -- a block was one behind the posting before, or is new
  block_now : (l block : ℕ) → l < all_lists g → Leads new (pool_at g) to block (list_at g l)
      → Leads old (pool_at g) next block (list_at g l) ⊎ (next ≤ block)
  block_now l block = each
      (λ (k : ℕ). Leads new (pool_at g) to block (list_at g k) → Leads old (pool_at g) next block (list_at g k) ⊎ (next ≤ block))
      (grew.blocks block)
      (λ k less differ leads. inl ((aside k less differ).blocks block leads))
      l

  blocks_next : (l block : ℕ) → l < all_lists g → Leads new (pool_at g) to block (list_at g l)
      → Leads first (pool_at g) from block (list_at g l) ⊎ (from ≤ block)
  blocks_next l block less leads = ⊎_elim
      (λ was. s.blocks l block less was)
      (λ later. inr (omega (arith, later, s.more)))
      (block_now l block less leads)

  outside_next : (cell : ℕ) → cell < from → LiesOutside g first from cell → new cell ≡ first cell
  outside_next cell before apart =
      grew.outside cell (omega (arith, before, s.more))
      (λ block leads. ⊎_elim
      (λ was. apart p.list block in_list was)
      (λ later. inr (omega (arith, before, later)))
      (s.blocks p.list block in_list leads))
      ∙ s.outside cell before apart

  -- what the posting adds
  added_here : (cell : ℕ) (value : List ℕ) → new cell ≡ Some value
      → IsAddedBy new (pool_at g) to (list_at g p.list) p.posting cell
      → IsAddedTo g rows (i + 1) new to cell value
  added_here cell value is (the_posting block place leads less at holds) =
      posting i p block place (omega arith) here leads less at (held_as is holds)
  added_here cell value is (the_pointer block level digit target leads levels some digits at there holds) =
      pointer p.list block level digit target in_list leads levels some digits at there (held_as is holds)

  added_by : (cell : ℕ) (value : List ℕ) → new cell ≡ Some value → first cell ≡ None → (held : Option (List ℕ))
      → old cell ≡ held → IsAddedTo g rows (i + 1) new to cell value
  added_by cell value is blank None free = added_here cell value is (grows_add roomy grows cell value is free)
  added_by cell value is blank (Some other) held =
      let there : Some other ≡ Some value = sym (grew.extends.keeps cell other held) ∙ is in
      let same : other ≡ value = cc in
      subst (λ (v : List ℕ). IsAddedTo g rows (i + 1) new to cell v) same
      (added_on grew.extends grew.more (s.added cell other held blank))

  added_next : (cell : ℕ) (value : List ℕ) → new cell ≡ Some value → first cell ≡ None
      → IsAddedTo g rows (i + 1) new to cell value
  added_next cell value is blank = added_by cell value is blank (old cell) refl

  pub stands_next : RowStands g behind rows (i + 1) from to first new
  stands_next = record {
    extends = extends_then s.extends grew.extends;
    more = omega (arith, s.more, grew.more);
    lists = lists_next;
    blocks = blocks_next;
    outside = outside_next;
    added = added_next;
    cost = s.cost + cost;
    costs =
        let next_place : suc i ≡ i + 1 = omega arith in
        let more : take (i + 1) rows ≡ take i rows ++ (p ∷ []) =
        subst (λ (m : ℕ). take m rows ≡ take i rows ++ (p ∷ [])) next_place (taken_more rows i p here) in
        subst (λ (l : List ListedPosting). PostingsCost g new to l first from (s.cost + cost)) (sym more)
        (costs_more p cost s.costs
        (posting_costs (s.lists.well p.list in_list) (s.lists.trails p.list in_list) keys_here grows));
  }

  -- and what it plans and takes is added to the cost
  pub stands_next_at_cost : {before mid after : Image} → PlansAtCost before mid from next s.cost
      → PlansAtCost mid after next to cost
      → (stands : RowStands g behind rows (i + 1) from to first new) × PlansAtCost before after from to stands.cost
  unfolding stands_next
  stands_next_at_cost so_far now = (stands_next, costs_then s.cost cost s.more grew.more so_far now)

  pub keys_next : KeysSoFar g bound rows (i + 1) new to
  keys_next l key less slot before = ⊎_elim
      (λ (same : l ≡ p.list).
      subst (λ (m : ℕ). HaveKeysBelow new (pool_at g) to (list_at g m) key) (sym same)
      (own_keys key (before i p (omega arith) here (sym same))))
      (λ differ.
      (aside l less differ).keys key
      (keys l key less slot (λ j q small is same. before j q (omega (arith, small)) is same)))
      (cases_eq l p.list)

-- behind the whole row, all its postings
pub costs_of_row : {g : Layout} {behind : ℕ → ℕ} {rows : List ListedPosting} {from to : ℕ} {old new : Image}
    → (s : RowStands g behind rows (length rows) from to old new) → PostingsCost g new to rows old from s.cost
costs_of_row {g} {behind} {rows} {from} {to} {old} {new} s =
    subst (λ (l : List ListedPosting). PostingsCost g new to l old from s.cost) (take-length rows) s.costs
