-- What stands where a plan takes the slot at the horizon of a settled volume.
use Rattle.std.proofs.Common.{◌≡◌, ◌<◌, ◌≤◌, ◌+◌, ◌*◌, ⊎_elim, ℕ, List, Option, Some, None, refl, ap, sym, subst, arith, ◌∙◌}
use Rattle.std.proofs.lemmas.Bool.{cases_lt}
use Rattle.std.specs.Prelude.{nat_lt, if◌then◌else◌, Bool, true, false}
use Rattle.std.proofs.lemmas.Bool.Decides.{nat_tests}
use Rattle.cell_types.specs.Image.{Image}
use Rattle.cell_types.specs.Layout.{Layout, all_lists, pool_at}
use Rattle.volume_meaning.specs.Slots.{IsEdge, IsStampFor, Reserves}
use Rattle.volume_meaning.specs.Blocks.{PostingFields}
use Rattle.volume_meaning.specs.Postings.{ArePostings, IsPostingOf, IsWordPosting, ListedPosting, time_posting}
use Rattle.tamper_rules.specs.Rules
use Rattle.tamper_rules.specs.Rules.{BlankRule}
use Rattle.tamper_rules.specs.Settling.{IsSettled}
use Rattle.tamper_rules.proofs.Images.{look, same_image}
use Rattle.ingest_laws.specs.Ingesting.{Plan}
use Rattle.hash_tree.specs.declared.level.Level.{Level}
use Rattle.hash_tree.specs.declared.path.Open.{Open}
use Rattle.ingest_plan.specs.Standing.{HasKeysBetween, ListsStand}
use Rattle.plan_laws.specs.Standing.{HasPastStamps, IndexesStand, below_slot, seconds_of}
use Rattle.plan_laws.proofs.SettledLists.{settled_stand, time_bound, words_bound}
use Rattle.plan_laws.proofs.SettledTrees.{settled_tree}
use Rattle.ingest_plan.specs.Planning.{IsLater, StandsAtCost, cut_at}
use Rattle.ingest_plan.proofs.Postings.{word_key}
use Rattle.ingest_plan.specs.declared.plan.PlannedIndex.{PlannedIndex}
use Rattle.plan_laws.specs.Laws.{TakesSlot}

-- an image that is blank from a cell on is itself up to there
cut_cell : (edge cell : ℕ) (image : Image) → (edge ≤ cell → image cell ≡ None) → cut_at edge image cell ≡ image cell
cut_cell edge cell image blank = by_test (nat_lt cell edge) refl
  where
    by_test : (less : Bool) → nat_lt cell edge ≡ less → (if less then image cell else None) ≡ image cell
    by_test true is = refl
    by_test false is = sym (blank (grind (arith, nat_tests, is)))

module _ {g : Layout} {image : Image} {edge : ℕ} (e : IsEdge g image image edge) where
  pub pool_before_edge : pool_at g ≤ edge
  pool_before_edge = ⊎_elim
      (λ (z : (e.u ≡ 0) × (edge ≡ pool_at g)). omega (arith, z.1))
      (λ (w : (m : ℕ) × (start : ℕ) × (count : ℕ) × (e.u ≡ m + 1)
      × Reserves g image m start count × (edge ≡ start + count)).
      let r = w.4 in omega (arith, r.from, w.5))
      e.ends

  -- nothing stands from the edge on
  pub blank_behind : IsSettled g image → (cell : ℕ) → edge ≤ cell → image cell ≡ None
  blank_behind settled cell from = ⊎_elim
      (λ none. none)
      (λ found.
      let rule : BlankRule g image cell = settled.met Rules.StrayCells cell
      (record { found = found.0; stands = found.1 }) in
      absurd (omega (arith, rule.edge edge e (omega (arith, pool_before_edge, from)), from)))
      (look image cell)

  -- so that up to the edge the image is the image
  pub cut_at_edge : IsSettled g image → cut_at edge image ≡ image
  cut_at_edge settled = same_image (λ cell. cut_cell edge cell image (λ far. blank_behind settled cell far))

  -- what is planned over the image up to there stands over the image itself
  pub stands_at_cost : {n : ℕ} {bound behind : ℕ → ℕ} {rows : List ListedPosting} {level : Level} {place : Open}
      (made : PlannedIndex) {planned : Image} → IsSettled g image
      → (ListsStand g (cut_at edge image) edge bound
      → StandsAtCost g n edge behind rows level place made (cut_at edge image) planned)
      → ListsStand g image edge bound → StandsAtCost g n edge behind rows level place made image planned
  stands_at_cost {n} {bound} {behind} {rows} {level} {place} made {planned} settled stands lists =
      let same = cut_at_edge settled in
      subst (λ (below : Image). StandsAtCost g n edge behind rows level place made below planned) same
      (stands (subst (λ (below : Image). ListsStand g below edge bound) (sym same) lists))

-- a document's keys lie between the bounds below its slot and its stamp, and those below the next
module _ {g : Layout} {stamp : Option ℕ} {body : List ℕ} {n : ℕ} {rows : List ListedPosting}
    (are : ArePostings g stamp body n rows) where
  before : (l : ℕ) → below_slot g n (seconds_of stamp) l ≤ below_slot g (n + 1) (seconds_of stamp + 1) l
  before l = ⊎_elim
      (λ (less : l < g.lists).
      omega (
        arith,
        words_bound g n (seconds_of stamp) l less,
        words_bound g (n + 1) (seconds_of stamp + 1) l less,
      ))
      (λ (past : g.lists ≤ l).
      omega (
        arith,
        time_bound g n (seconds_of stamp) l past,
        time_bound g (n + 1) (seconds_of stamp + 1) l past,
      ))
      (cases_lt l g.lists)

  between : (p : ListedPosting) → IsPostingOf g stamp body n p.list p.posting
      → (below_slot g n (seconds_of stamp) p.list ≤ p.posting.key)
      × (p.posting.key < below_slot g (n + 1) (seconds_of stamp + 1) p.list)
  between p is = ⊎_elim
      (λ (word : IsWordPosting g body n p.list p.posting).
      let key = word_key g stamp body n rows are word in (
        omega (arith, key.0, words_bound g n (seconds_of stamp) p.list word.list),
        omega (arith, key.1, words_bound g (n + 1) (seconds_of stamp + 1) p.list word.list),
      ))
      (λ (time : (t : ℕ) × (stamp ≡ Some t) × (p.list ≡ g.lists) × (p.posting ≡ time_posting n t)).
      let key : p.posting.key ≡ seconds_of stamp =
      ap (λ (f : PostingFields). f.key) time.3 ∙ sym (ap seconds_of time.1) in (
        omega (arith, key, time_bound g n (seconds_of stamp) p.list (omega (arith, time.2))),
        omega (arith, key, time_bound g (n + 1) (seconds_of stamp + 1) p.list (omega (arith, time.2))),
      ))
      is

  pub keys_of_slot : HasKeysBetween rows (below_slot g n (seconds_of stamp))
      (below_slot g (n + 1) (seconds_of stamp + 1))
  keys_of_slot = record {
    rise = before;
    from = λ i p is. (between p (are.each i p is).1).0;
    to = λ i p is. (between p (are.each i p is).1).1;
  }

-- a stamp that is given where it has to be, and is past the others, is past them on a volume with a time list
pub past_stamps : {g : Layout} {image : Image} {n : ℕ} (stamp : Option ℕ) → IsStampFor g stamp → IsLater g image n stamp
    → HasPastStamps g image n (seconds_of stamp)
past_stamps None given later has = absurd (omega (arith, given, has))
past_stamps (Some seconds) given later has = later

module _ {g : Layout} {old : Image} {p : Plan} {to : ℕ} (takes : TakesSlot g old p to) where
  pub old_edge : IsEdge g old old p.start
  old_edge = record {
    u = p.slot;
    most = takes.horizon.most;
    free = takes.horizon.free;
    ends = takes.begins;
  }

  pub pool_before : pool_at g ≤ p.start
  pool_before = pool_before_edge old_edge

  pub blank_from : (cell : ℕ) → p.start ≤ cell → old cell ≡ None
  blank_from cell from = blank_behind old_edge takes.settled cell from

  pub stand : IndexesStand g old p.start (below_slot g p.slot (seconds_of p.stamp))
  stand = record {
    lists = settled_stand takes.layout takes.settled old_edge takes.horizon takes.slot (seconds_of p.stamp)
        (past_stamps p.stamp takes.stamp takes.later);
    tree = settled_tree takes.layout takes.settled old_edge;
  }
