-- What a walk has read so far, comparison by comparison.
use Rattle.std.proofs.Common.{◌≡◌, ◌<◌, ◌≤◌, ◌+◌, ◌*◌, ◌⊎◌, ⊎_elim, inl, inr, ℕ, zero, suc, List, [], ◌∷◌, Bool, true, false, length, get_or, refl, sym, subst, arith}
use Rattle.std.specs.Prelude.{Contains, IsTrue, if◌then◌else◌, sum_by}
use Rattle.std.proofs.lemmas.List.Sums.{sum_by-cons}
use Rattle.sha2.specs.Sha256.{sha256}
use Rattle.cell_types.specs.Image.{Image, Extends}
use Rattle.cell_types.specs.Layout.{Layout, root_at, pool_at}
use Rattle.cell_types.specs.declared.record_cell.RecordCell.TheVariants.{Bucket}
use Rattle.volume_meaning.specs.Volumes.{Holds, IsVolume}
use Rattle.volume_meaning.proofs.Extending.{done_on, holds_on}
use Rattle.volume_meaning.specs.HashPaths.{PassedTo, Sought, at_root, down, fingerprint_of, nibble}
use Rattle.volume_meaning.specs.Nodes as nodes
use Rattle.volume_meaning.specs.Nodes.{IsOnPath}
use Rattle.tamper_rules.proofs.GoingOn.{on_path_on}
use Rattle.worm_device.specs.Views.{ViewState, Viewed}
use Rattle.identifier_lookup.specs.Costs.{AreDocumentCells, CompareCosts, Comparison, Fall, HasDocumentCells, IsComparison, WalkCosts, cells_in}

-- a path that is passed is a way
pub passed_is_way : {g : Layout} {image : Image} {s : Sought} {node level : ℕ} → s.pool ≡ pool_at g
    → s.cells ≤ g.cells → PassedTo image s (root_at g) node level → IsOnPath g image s.digest level node
passed_is_way pool cells (at_root node level at first) = nodes.IsOnPath.root level node first at
passed_is_way pool cells (down node level above before is rest passed leads) =
    nodes.IsOnPath.under level node before above is (passed_is_way pool cells rest) leads.levels leads.child
    (omega (arith, pool, leads.inside_from)) (omega (arith, leads.inside_to, cells))

-- a comparison goes on being one
cells_on : {g : Layout} {old new : Image} {n cells : ℕ} → Extends old new → AreDocumentCells g old n cells
    → AreDocumentCells g new n cells
cells_on e are = ⊎_elim inl
    (λ (h : HasDocumentCells _ _ _ _). inr (record {
      start = h.start;
      reserved = h.reserved;
      bytes = h.bytes;
      journal = h.journal;
      done = done_on e h.done;
      is = h.is;
    }))
    are

comparison_on : {g : Layout} {old new : Image} {id : List ℕ} {c : Comparison} → Extends old new
    → IsComparison g old id c → IsComparison g new id c
comparison_on e is = record {
  on_path = on_path_on e is.on_path;
  bucket = holds_on e is.bucket;
  are = cells_on e is.are;
}

-- of levels that fall there are no more than the first one says
few : (below : ℕ) (cs : List Comparison) → Fall below cs → length cs ≤ below
few below [] fall = omega arith
few below (c ∷ cs) fall = omega (arith, fall.0, few c.level cs fall.1)

fall_from : (below higher : ℕ) (cs : List Comparison) → below ≤ higher → Fall below cs → Fall higher cs
fall_from below higher [] le fall = tt
fall_from below higher (c ∷ cs) le fall = (omega (arith, le, fall.0), fall.1)

-- one of a list with one more
one_or_rest : (c first : Comparison) (cs : List Comparison) → Contains (first ∷ cs) c
    → (first ≡ c) ⊎ Contains cs c
one_or_rest c first cs among = by_place among.0 among.1 among.2 where
  by_place : (k : ℕ) → k < suc (length cs) → get_or (first ∷ cs) k c ≡ c → (first ≡ c) ⊎ Contains cs c
  by_place zero less is = inl is
  by_place (suc k) less is = inr (k, omega (arith, less), is)

-- So far a walk came down to this level, and compared at levels below another: at each level it took two reads, and for
-- each comparison six and its cells.
pub record CostsSoFar (g : Layout) (id : List ℕ) (old now : ViewState) (number below : ℕ) : Type 0 where
  pub comparisons : List Comparison
  pub reads : now.base.reads ≤ old.base.reads + 2 * number + 6 * length comparisons + sum_by cells_in comparisons
  pub fall : Fall below comparisons
  pub each : IsTrue old.base.tells → IsVolume old.cells old.image g
      → (c : Comparison) → Contains comparisons c → IsComparison g now.image id c

-- at the root
pub costs_begin : (g : Layout) (id : List ℕ) (old : ViewState) (number below : ℕ) → CostsSoFar g id old old number below
costs_begin g id old number below = record {
  comparisons = [];
  reads = omega arith;
  fall = tt;
  each = λ tells volume c among. absurd (omega (arith, among.1));
}

module _ {g : Layout} {id : List ℕ} {old now : ViewState} {number below : ℕ}
    (so_far : CostsSoFar g id old now number below) (mid : ViewState) (next : ℕ) (looked : Viewed now mid)
    (reads : mid.base.reads + 2 * number ≤ now.base.reads + 2 * next + 2) (from : below ≤ next + 1) (last : next < 64)
  where
    -- the walk ends behind a step
    pub costs_end : WalkCosts g id old mid
    costs_end = record {
      comparisons = so_far.comparisons;
      reads = omega (arith, so_far.reads, reads, from, last, few below so_far.comparisons so_far.fall);
      fall = fall_from below 64 so_far.comparisons (omega (arith, from, last)) so_far.fall;
      each = λ tells volume c among. comparison_on looked.image (so_far.each tells volume c among);
    }

    module _ (node slot : ℕ) (new : ViewState) (compared : Viewed mid new) (costs : CompareCosts g slot mid new)
        (whole : Viewed old new) (under : below ≤ next)
        (on_path : IsTrue old.base.tells → IsVolume old.cells old.image g → IsOnPath g new.image (sha256 id) next node)
        (bucket : IsTrue old.base.tells
        → Holds new.image (node + nibble (sha256 id) next) (Bucket slot (fingerprint_of (sha256 id)))) where
      abbrev this : Comparison
      this = record { level = next; node = node; slot = slot; cells = costs.cells }

      told : IsTrue old.base.tells → IsTrue mid.base.tells
      told tells = subst IsTrue compared.called.tells (subst IsTrue (sym whole.called.tells) tells)

      this_is : IsTrue old.base.tells → IsVolume old.cells old.image g → IsComparison g new.image id this
      this_is tells volume = record {
        on_path = on_path tells volume;
        bucket = bucket tells;
        are = costs.are (told tells);
      }

      -- or behind one comparison more
      pub costs_more : CostsSoFar g id old new next (next + 1)
      costs_more = record {
        comparisons = this ∷ so_far.comparisons;
        reads = omega (arith, so_far.reads, reads, costs.reads, sum_by-cons cells_in this so_far.comparisons);
        fall = (omega arith, fall_from below next so_far.comparisons under so_far.fall);
        each = λ tells volume c among. ⊎_elim
            (λ (same : this ≡ c). subst (λ (d : Comparison). IsComparison g new.image id d) same (this_is tells volume))
            (λ (rest : Contains so_far.comparisons c). comparison_on compared.image
            (comparison_on looked.image (so_far.each tells volume c rest)))
            (one_or_rest c this so_far.comparisons among);
      }

      pub costs_end_there : WalkCosts g id old new
      costs_end_there =
          let more = costs_more in
          record {
            comparisons = more.comparisons;
            reads = omega (arith, more.reads, last, few (next + 1) more.comparisons more.fall);
            fall = fall_from (next + 1) 64 more.comparisons (omega (arith, last)) more.fall;
            each = more.each;
          }

-- below which level a walk has compared: below that of the node, or below the next where its bucket was answered
abbrev pub compared_below : ℕ → Bool → ℕ
compared_below number answered = if answered then number + 1 else number

pub below_next : (number next : ℕ) (answered : Bool) → number ≤ next → compared_below number answered ≤ next + 1
below_next number next true le = omega (arith, le)
below_next number next false le = omega (arith, le)

pub below_candidate : (number next : ℕ) (answered : Bool) → number ≤ next → (IsTrue answered → number < next)
    → compared_below number answered ≤ next
below_candidate number next true le further = omega (arith, further refl)
below_candidate number next false le further = omega (arith, le)
