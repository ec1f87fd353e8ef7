-- What is planned for a list stays ready for the next insertion.
use Rattle.std.proofs.Common.{◌≡◌, ◌≢◌, ◌<◌, ◌≤◌, ◌+◌, ◌⊎◌, ⊎_elim, inl, inr, ℕ, Option, Some, None, refl, ap, sym, subst, arith, ◌∙◌}
use Rattle.std.proofs.lemmas.Bool.{cases_eq}
use Rattle.std.proofs.lemmas.Option.{none-some}
use Rattle.std.specs.Prelude.{IsTrue}
use Rattle.cell_types.specs.Image.{Extends, Image}
use Rattle.cell_pool.specs.declared.pool.Pool.{Pool}
use Rattle.volume_meaning.specs.Blocks.{Leads}
use Rattle.volume_meaning.specs.Nodes.{AreApart}
use Rattle.volume_meaning.proofs.Fronts.{front_on}
use Rattle.volume_meaning.proofs.Extending.{holds_on}
use Rattle.worm_device.specs.Views.{ViewState, Viewed}
use Rattle.worm_device.specs.declared.owner.Owner.{Owner}
use Rattle.jump_block.proofs.Knowing.{key_on}
use Rattle.jump_block.specs.declared.spans.Span.{Span}
use Rattle.jump_insertion.specs.Hopping.{IsAt, IsHop}
use Rattle.jump_insertion.specs.Readiness.{IsOwnBlock, IsBlockReached, is_new, stands_below, IsListCell, a_posting, a_pointer, IsReadyList}
use Rattle.jump_insertion.specs.UnderWay.{IsUnderWay, IsVisit}
use Rattle.jump_insertion.specs.declared.entries.Insertion.{Insertion}
use Rattle.jump_insertion.specs.declared.entries.Visit.{Visit}
use Rattle.jump_insertion.proofs.Showing.{has_key_on, leads_on, some_same}

pub reached_as : (s t : ViewState) (head floor : ℕ) → Extends s.lower t.lower → t.fresh ≡ s.fresh → (block : ℕ)
    → IsBlockReached s head floor block → IsBlockReached t head floor block
reached_as s t head floor lower fresh block (is_new past) = is_new (omega (arith, fresh, past))
reached_as s t head floor lower fresh block (stands_below to leads) =
    stands_below (omega (arith, fresh, to))
    (let P : ℕ → Type 0 = λ n. Leads t.lower floor n block head in subst P (sym fresh) (leads_on lower leads))

-- a planned cell stays one of the list, where more is shown
pub cell_on : (s t : ViewState) (head floor next key next' key' : ℕ) → Extends s.image t.image → next ≤ next'
    → key ≤ key' → ((cell : ℕ) (owner : Owner) → s.owners cell ≡ Some owner → t.owners cell ≡ Some owner)
    → (cell base : ℕ) → IsListCell s head floor next key cell base → IsListCell t head floor next' key' cell base
cell_on s t head floor next key next' key' image more keys owners cell base (a_posting place p at below front less) =
    a_posting place p at below (front_on image front) (omega (arith, keys, less))
cell_on s t head floor next key next' key' image more keys owners cell base
    (a_pointer level digit target l at owner place is holds from to full has whose same_head same_base) =
    a_pointer level digit target l at owner place is (holds_on image holds) from (omega (arith, more, to))
    (key_on image full) (has_key_on image has) (owners at owner whose) same_head same_base

-- where the same cells are planned for the same owners
module _ (s t : ViewState) (head floor next key : ℕ) (image : Extends s.image t.image) (lower : Extends s.lower t.lower)
    (fresh : t.fresh ≡ s.fresh) (owners : t.owners ≡ s.owners) where
  whose : (cell : ℕ) (owner : Owner) → t.owners cell ≡ Some owner → s.owners cell ≡ Some owner
  whose cell owner is = sym (ap (λ (f : ℕ → Option Owner). f cell) owners) ∙ is

  pub own_block_same : (block : ℕ) → IsOwnBlock s head block → IsOwnBlock t head block
  own_block_same block own = record {
    inside = λ cell owner is from to. own.inside cell owner (whose cell owner is) from to;
    apart = λ cell owner is same_head. own.apart cell owner (whose cell owner is) same_head;
  }

  pub cell_same : (cell base : ℕ) → IsListCell s head floor next key cell base
      → IsListCell t head floor next key cell base
  cell_same = cell_on s t head floor next key next key image (omega arith) (omega arith)
      (λ cell owner is. ap (λ (f : ℕ → Option Owner). f cell) owners ∙ is)

  pub ready_same : IsReadyList s head floor next key → IsReadyList t head floor next key
  ready_same ready = record {
    first = own_block_same head ready.first;
    mine = λ cell owner is same. cell_same cell owner.base (ready.mine cell owner (whose cell owner is) same);
    named = λ cell owner is same. own_block_same owner.base (ready.named cell owner (whose cell owner is) same);
    reached = λ cell owner is same.
        reached_as s t head floor lower fresh owner.base (ready.reached cell owner (whose cell owner is) same);
    inside = λ cell owner is same. ready.inside cell owner (whose cell owner is) same;
  }

  pub at_same : (block : ℕ) → IsAt s head floor next key block → IsAt t head floor next key block
  at_same block at = record {
    ready = ready_same at.ready;
    own_block = own_block_same block at.own_block;
    reached = reached_as s t head floor lower fresh block at.reached;
  }

-- reads keep all
module _ {s t : ViewState} (viewed : Viewed s t) where
  pub own_block_viewed : (head block : ℕ) → IsOwnBlock s head block → IsOwnBlock t head block
  own_block_viewed head block = own_block_same s t head 0 0 0 viewed.image viewed.lower viewed.fresh viewed.owners block

  pub reached_viewed : (head floor block : ℕ) → IsBlockReached s head floor block → IsBlockReached t head floor block
  reached_viewed head floor block = reached_as s t head floor viewed.lower viewed.fresh block

  pub ready_viewed : (head floor next key : ℕ) → IsReadyList s head floor next key → IsReadyList t head floor next key
  ready_viewed head floor next key = ready_same s t head floor next key viewed.image viewed.lower viewed.fresh
      viewed.owners

  pub at_viewed : {head floor next key block : ℕ} → IsAt s head floor next key block → IsAt t head floor next key block
  at_viewed {head} {floor} {next} {key} {block} =
      at_same s t head floor next key viewed.image viewed.lower viewed.fresh viewed.owners block

-- a walk goes on at the target of a hop
pub at_target : {s : ViewState} {head floor next key block target : ℕ} {span : Span} → IsAt s head floor next key block
    → IsHop s head floor next key block span target → IsAt s head floor next key target
at_target at hop = record { ready = at.ready; own_block = hop.own_block; reached = hop.reached }

-- reads leave what may be planned
pub under_way_viewed : {s t : ViewState} {pool : Pool} {insertion : Insertion} → Viewed s t
    → IsUnderWay s pool insertion → IsUnderWay t pool insertion
under_way_viewed viewed is = record {
  well_formed = is.well_formed;
  head = is.head;
  floor = is.floor;
  fresh = omega (arith, is.fresh, viewed.fresh);
  room = is.room;
  free = λ x past. ap (λ (f : Image). f x) viewed.planned ∙ is.free x past;
}

-- reads leave what was come to
pub visit_viewed : {s t : ViewState} {pool : Pool} {insertion : Insertion} {visit : Visit} → Viewed s t
    → IsVisit s pool insertion visit → IsVisit t pool insertion visit
visit_viewed viewed is = record {
  posting = under_way_viewed viewed is.posting;
  low = is.low;
  high = is.high;
  narrow = is.narrow;
  lies = is.lies;
  before = is.before;
  at = λ tells. at_viewed viewed (is.at (subst IsTrue viewed.called.tells tells));
}

turned : (a b : ℕ) → AreApart a 256 b 256 → AreApart b 256 a 256
turned a b apart = ⊎_elim (λ before. inr before) (λ behind. inl behind) apart

-- the list's other blocks lie behind the first
pub apart_from_head : {head floor block : ℕ} → head + 256 ≤ floor → (block ≡ head) ⊎ (floor ≤ block)
    → (head ≡ block) ⊎ AreApart block 256 head 256
apart_from_head before lies = ⊎_elim (λ same. inl (sym same)) (λ past. inr (inr (omega (arith, before, past)))) lies

-- a cell is planned in a block of the list
module _ (s t : ViewState) (head floor next next' key key' at base : ℕ) (mine : Owner) (same_head : mine.head ≡ head)
    (same_base : mine.base ≡ base) (others : (cell : ℕ) → cell ≢ at → t.owners cell ≡ s.owners cell)
    (is_mine : t.owners at ≡ Some mine) (unowned : s.owners at ≡ None) (image : Extends s.image t.image)
    (lower : Extends s.lower t.lower) (fresh : t.fresh ≡ s.fresh) (from : base ≤ at) (to : at < base + 256) where
  -- a planned cell was planned before, or it is the new one
  whose_before : (cell : ℕ) (owner : Owner) → t.owners cell ≡ Some owner
      → ((cell ≡ at) × (owner ≡ mine)) ⊎ (s.owners cell ≡ Some owner)
  whose_before cell owner is = ⊎_elim
      (λ (same : cell ≡ at). inl (same, some_same owner mine (sym is ∙ ap t.owners same ∙ is_mine)))
      (λ differ. inr (sym (others cell differ) ∙ is))
      (cases_eq cell at)

  kept : (cell : ℕ) (owner : Owner) → s.owners cell ≡ Some owner → t.owners cell ≡ Some owner
  kept cell owner is = ⊎_elim
      (λ (same : cell ≡ at). absurd (none-some owner (sym unowned ∙ ap s.owners (sym same) ∙ is)))
      (λ differ. others cell differ ∙ is)
      (cases_eq cell at)

  base_of : {owner : Owner} → owner ≡ mine → owner.base ≡ base
  base_of same = ap (λ (x : Owner). x.base) same ∙ same_base

  pub own_block_put : (b : ℕ) → (b ≡ base) ⊎ AreApart base 256 b 256 → IsOwnBlock s head b → IsOwnBlock t head b
  own_block_put b lies own = record {
    inside = λ cell owner is in_from in_to. ⊎_elim
        (λ (new : (cell ≡ at) × (owner ≡ mine)). ⊎_elim
        (λ (same : b ≡ base). (ap (λ (x : Owner). x.head) new.1 ∙ same_head, base_of new.1 ∙ sym same))
        (λ apart. absurd (⊎_elim (λ (before : base + 256 ≤ b). omega (arith, new.0))
        (λ (behind : b + 256 ≤ base). omega (arith, new.0)) apart))
        lies)
        (λ before. own.inside cell owner before in_from in_to)
        (whose_before cell owner is);
    apart = λ cell owner is is_head. ⊎_elim
        (λ (new : (cell ≡ at) × (owner ≡ mine)). ⊎_elim
        (λ (same : b ≡ base). inl (base_of new.1 ∙ sym same))
        (λ apart. inr (let P : ℕ → Type 0 = λ n. AreApart n 256 b 256 in subst P (sym (base_of new.1)) apart))
        lies)
        (λ before. own.apart cell owner before is_head)
        (whose_before cell owner is);
  }

  pub ready_put : IsReadyList s head floor next key → next ≤ next' → key ≤ key' → base + 256 ≤ next'
      → (head ≡ base) ⊎ AreApart base 256 head 256 → IsOwnBlock s head base → IsBlockReached s head floor base
      → IsListCell t head floor next' key' at base → IsReadyList t head floor next' key'
  ready_put ready more keys inside lies own_block reached planned = record {
    first = own_block_put head lies ready.first;
    mine = λ cell owner is is_head. ⊎_elim
        (λ (new : (cell ≡ at) × (owner ≡ mine)).
        let P : ℕ → Type 0 = λ n. IsListCell t head floor next' key' n owner.base in
        let Q : ℕ → Type 0 = λ n. IsListCell t head floor next' key' at n in
        subst P (sym new.0) (subst Q (sym (base_of new.1)) planned))
        (λ before. cell_on s t head floor next key next' key' image more keys kept cell owner.base
        (ready.mine cell owner before is_head))
        (whose_before cell owner is);
    named = λ cell owner is is_head. ⊎_elim
        (λ (new : (cell ≡ at) × (owner ≡ mine)).
        let P : ℕ → Type 0 = λ n. IsOwnBlock t head n in
        subst P (sym (base_of new.1)) (own_block_put base (inl refl) own_block))
        (λ before. own_block_put owner.base
        (⊎_elim (λ same. inl same) (λ apart. inr (turned owner.base base apart))
        (own_block.apart cell owner before is_head))
        (ready.named cell owner before is_head))
        (whose_before cell owner is);
    reached = λ cell owner is is_head. ⊎_elim
        (λ (new : (cell ≡ at) × (owner ≡ mine)).
        let P : ℕ → Type 0 = λ n. IsBlockReached t head floor n in
        subst P (sym (base_of new.1)) (reached_as s t head floor lower fresh base reached))
        (λ before. reached_as s t head floor lower fresh owner.base (ready.reached cell owner before is_head))
        (whose_before cell owner is);
    inside = λ cell owner is is_head. ⊎_elim
        (λ (new : (cell ≡ at) × (owner ≡ mine)).
        let b_is : owner.base ≡ base = base_of new.1 in
        (omega (arith, b_is, new.0), omega (arith, b_is, new.0), omega (arith, b_is)))
        (λ before. let h = ready.inside cell owner before is_head in (h.0, h.1, omega (arith, h.2)))
        (whose_before cell owner is);
  }
