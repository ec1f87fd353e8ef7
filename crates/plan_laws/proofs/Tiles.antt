-- The new blocks and the new node of a plan tile its block part.
use Rattle.std.proofs.Common.{◌≡◌, ◌<◌, ◌≤◌, ◌+◌, ◌⊎◌, ⊎_elim, inl, inr, ℕ, suc, zero, List, [], ◌∷◌, length, map, slice_get, Option, Some, None, refl, sym, ◌∙◌, subst, ap, arith}
use Rattle.std.specs.Option.{option_map}
use Rattle.std.specs.Prelude.{Contains}
use Rattle.std.proofs.lemmas.Bool.{cases_lt}
use Rattle.std.proofs.lemmas.Option.{none-some, get_or_from_slice_get, slice_get-get_or, slice_get-map, slice_get_within}
use Rattle.cell_types.specs.Image.{Image}
use Rattle.cell_types.specs.Layout.{Layout, list_at, pool_at, all_lists}
use Rattle.cell_types.specs.Records.{IsRecordCell}
use Rattle.cell_types.specs.declared.record_cell.RecordCell.{RecordCell}
use Rattle.cell_types.specs.declared.record_cell.RecordCell.TheVariants.{Jump, Bucket, Child}
use Rattle.volume_meaning.specs.Volumes.{Holds}
use Rattle.volume_meaning.proofs.Holding.{one_record_holds, some_is}
use Rattle.volume_meaning.specs.Blocks.{Leads, PostingFields, posting_record}
use Rattle.volume_meaning.specs.Nodes.{AreApart, IsNode}
use Rattle.volume_meaning.specs.Postings.{ListedPosting}
use Rattle.tamper_rules.specs.Journals.{CopiesIndexCell, IsIndexRecord, journal_at}
use Rattle.tamper_rules.specs.Rules.{HasChild, HasJump, IsSize, TilingRule}
use Rattle.tamper_rules.specs.Rules as rules
use Rattle.tamper_rules.proofs.GivenUp.{children, jumps}
use Rattle.tamper_rules.proofs.Writing.{same_or_not}
use Rattle.ingest_laws.specs.Ingesting.{Plan, Storing, stored_of}
use Rattle.cell_pool.specs.Grants.{Grant, GrantsTileCells}
use Rattle.hash_tree.specs.declared.level.Level.{Level}
use Rattle.hash_tree.specs.declared.path.Open.{Open}
use Rattle.ingest_plan.specs.Granting.{IsGrantLedTo, to_block, to_node}
use Rattle.plan_laws.specs.Laws.{IsPlannedIndex}
use Rattle.plan_laws.proofs.Behind.{IsPlannedCell, a_posting, a_pointer, a_bucket, a_child, planned_cell, stand_behind}
use Rattle.plan_laws.proofs.NewImage.{ends_there, new_image}
use Rattle.plan_laws.proofs.Rows.{all_rows, of_planned, to_planned}

-- records of different kinds
no_posting_jumps : (a : PostingFields) (target : ℕ) → posting_record a ≡ Jump target → ⊥
no_posting_jumps a target same = cc

no_bucket_jumps : (slot target : ℕ) (fingerprint : List ℕ) → Bucket slot fingerprint ≡ Jump target → ⊥
no_bucket_jumps slot target fingerprint same = cc

no_child_jumps : (other target : ℕ) → Child other ≡ Jump target → ⊥
no_child_jumps other target same = cc

no_posting_leads : (a : PostingFields) (target : ℕ) → posting_record a ≡ Child target → ⊥
no_posting_leads a target same = cc

no_bucket_leads : (slot target : ℕ) (fingerprint : List ℕ) → Bucket slot fingerprint ≡ Child target → ⊥
no_bucket_leads slot target fingerprint same = cc

no_jump_leads : (other target : ℕ) → Jump other ≡ Child target → ⊥
no_jump_leads other target same = cc

-- pieces that tile cells: they rise, each lies inside, and each cell lies in one
tile_rises : (from end : ℕ) (grants : List Grant) → GrantsTileCells from end grants → from ≤ end
tile_rises from end [] same = omega (arith, same)
tile_rises from end (grant ∷ grants) (at, rest) = omega (arith, tile_rises (from + grant.size) end grants rest)

tile_inside : (from end : ℕ) (grants : List Grant) (i : ℕ) (grant : Grant) → GrantsTileCells from end grants
    → slice_get grants i ≡ Some grant → (from ≤ grant.at) × (grant.at + grant.size ≤ end)
tile_inside from end [] i grant same is = absurd (none-some _ is)
tile_inside from end (first ∷ grants) zero grant (at, rest) is =
    let one : first ≡ grant = cc in
    let start : grant.at ≡ from = ap (λ (x : Grant). x.at) (sym one) ∙ at in
    let count : first.size ≡ grant.size = ap (λ (x : Grant). x.size) one in
    (omega (arith, start), omega (arith, start, count, tile_rises (from + first.size) end grants rest))
tile_inside from end (first ∷ grants) (suc i) grant (at, rest) is =
    let there = tile_inside (from + first.size) end grants i grant rest is in
    (omega (arith, there.0), there.1)

-- the piece that has a cell
record HasCell (grants : List Grant) (cell : ℕ) : Type 0 where
  place : ℕ
  grant : Grant
  is : slice_get grants place ≡ Some grant
  from : grant.at ≤ cell
  below : cell < grant.at + grant.size

tile_has : (from end cell : ℕ) (grants : List Grant) → GrantsTileCells from end grants → from ≤ cell → cell < end
    → HasCell grants cell
tile_has from end cell [] same low high = absurd (omega (arith, same, low, high))
tile_has from end cell (grant ∷ grants) (at, rest) low high = ⊎_elim
    (λ less. record {
      place = zero;
      grant = grant;
      is = refl;
      from = omega (arith, at, low);
      below = omega (arith, at, less);
    })
    (λ far.
    let there = tile_has (from + grant.size) end cell grants rest far high in
    record { place = suc there.place; grant = there.grant; is = there.is; from = there.from; below = there.below })
    (cases_lt cell (from + grant.size))

mapped : (found : Option Grant) (target : ℕ) → option_map (λ (grant : Grant). grant.at) found ≡ Some target
    → (grant : Grant) × (found ≡ Some grant) × (grant.at ≡ target)
mapped None target is = absurd (none-some _ is)
mapped (Some grant) target is = (grant, refl, cc)

module _ {g : Layout} {old laid : Image} {p : Plan} {rows : List ListedPosting} {level : Level} {place : Open} {to : ℕ}
    {planned : Image} (h : IsPlannedIndex g old laid p rows level place to planned) where
  -- what the journal copies in the new image is planned
  copies_planned : {at cell : ℕ} {r : RecordCell} → CopiesIndexCell (new_image h) p.start p.reserved
      (length p.journal) at cell r
      → Holds planned cell r
  copies_planned {at} {cell} {r} copies =
      let found = slice_get-get_or p.journal at [] copies.below in
      let there = (all_rows h).adds (journal_at p.start p.reserved (length p.journal) + at) _
      (Storing, inl (inr (record { place = at; entry = found; at = refl }))) in
      let same = some_is _ copies.entry (sym there ∙ copies.stands) in
      record {
        cell = copies.entry;
        stands = to_planned h (record {
          place = at;
          entry = found ∙ ap (λ (v : List ℕ). Some v) same;
          copied = r;
          index = copies.index;
          address = copies.address;
          is = copies.is;
        });
        is = copies.is;
      }

  -- and what is planned is copied
  planned_copies : {cell : ℕ} {r : RecordCell} → IsIndexRecord r → Holds planned cell r
      → (at : ℕ) × CopiesIndexCell (new_image h) p.start p.reserved (length p.journal) at cell r
  planned_copies {cell} {r} index holds =
      let row = of_planned h cell holds.cell holds.stands in (
        row.place,
        record {
          below = slice_get_within p.journal row.place holds.cell row.entry;
          entry = holds.cell;
          stands = (all_rows h).adds (journal_at p.start p.reserved (length p.journal) + row.place) holds.cell
              (Storing, inl (inr (record { place = row.place; entry = row.entry; at = refl })));
          index = index;
          address = row.address;
          is = holds.is;
        },
      )

  one_planned : {cell : ℕ} {value : List ℕ} {r s : RecordCell} → Holds planned cell s → planned cell ≡ Some value
      → IsRecordCell r cell value → r ≡ s
  one_planned {cell} {value} {r} {s} holds stands is =
      one_record_holds planned cell r s (record { cell = value; stands = stands; is = is }) holds

  -- The cells at a target are a block of a list, or a node.
  data IsPiece (target : ℕ) : ℕ → Type 0 where
    a_block : (size l : ℕ) → size ≡ 256 → l < all_lists g → Leads laid (pool_at g) to target (list_at g l)
        → IsPiece target size
    a_node : (size w : ℕ) → size ≡ 32 → IsNode g laid w target → IsPiece target size

  -- a planned pointer leads to a block, and a planned child cell to a node
  jump_piece : {cell target : ℕ} → Holds planned cell (Jump target) → IsPiece target 256
  jump_piece {cell} {target} holds = of_kind (planned_cell h cell holds.cell holds.stands)
    where
      of_kind : IsPlannedCell g p.slot rows level to laid cell holds.cell → IsPiece target 256
      of_kind (a_posting i a block at row list leads less here is) =
          absurd (no_posting_jumps a.posting target (one_planned holds holds.stands is))
      of_kind (a_pointer l block i digit other list leads levels low high here to_other is) =
          let same = jumps other target (one_planned holds holds.stands is) in
          a_block 256 l refl list (subst (λ (t : ℕ). Leads laid (pool_at g) to t (list_at g l)) same to_other)
      of_kind (a_bucket v node x is less here bucket) =
          absurd (no_bucket_jumps _ target _ (one_planned holds holds.stands bucket))
      of_kind (a_child v node x w other is less here to_other child) =
          absurd (no_child_jumps other target (one_planned holds holds.stands child))

  child_piece : {cell target : ℕ} → Holds planned cell (Child target) → IsPiece target 32
  child_piece {cell} {target} holds = of_kind (planned_cell h cell holds.cell holds.stands)
    where
      of_kind : IsPlannedCell g p.slot rows level to laid cell holds.cell → IsPiece target 32
      of_kind (a_posting i a block at row list leads less here is) =
          absurd (no_posting_leads a.posting target (one_planned holds holds.stands is))
      of_kind (a_pointer l block i digit other list leads levels low high here to_other is) =
          absurd (no_jump_leads other target (one_planned holds holds.stands is))
      of_kind (a_bucket v node x is less here bucket) =
          absurd (no_bucket_leads _ target _ (one_planned holds holds.stands bucket))
      of_kind (a_child v node x w other is less here to_other child) =
          let same = children other target (one_planned holds holds.stands child) in
          a_node 32 w refl (subst (λ (t : ℕ). IsNode g laid w t) same to_other)

  grant_piece : (grant : Grant) → IsGrantLedTo planned grant → IsPiece grant.at grant.size
  grant_piece grant (to_block cell holds size) = subst (λ (n : ℕ). IsPiece grant.at n) (sym size) (jump_piece holds)
  grant_piece grant (to_node cell holds size) = subst (λ (n : ℕ). IsPiece grant.at n) (sym size) (child_piece holds)

  -- two pieces begin at one cell and are as long, or don't meet
  pieces_apart : {a b size other : ℕ} → IsPiece a size → IsPiece b other
      → ((a ≡ b) × (size ≡ other)) ⊎ AreApart a size b other
  pieces_apart {a} {b} (a_block size l count list leads) (a_block other k count' list' leads') = ⊎_elim
      (λ (same : l ≡ k).
      ⊎_elim
      (λ one. inl (one, count ∙ sym count'))
      (λ far. inr (⊎_elim (λ low. inl (omega (arith, low, count))) (λ high. inr (omega (arith, high, count'))) far))
      (((stand_behind h).lists.well l list).apart a b leads
      (subst (λ (m : ℕ). Leads laid (pool_at g) to b (list_at g m)) (sym same) leads')))
      (λ differ. inr (⊎_elim (λ low. inl (omega (arith, low, count))) (λ high. inr (omega (arith, high, count')))
      ((stand_behind h).lists.apart l k list list' differ a b leads leads')))
      (same_or_not l k)
  pieces_apart {a} {b} (a_block size l count list leads) (a_node other w count' is) =
      inr (⊎_elim (λ low. inr (omega (arith, low, count'))) (λ high. inl (omega (arith, high, count)))
      ((stand_behind h).tree.apart w b l a is list leads))
  pieces_apart {a} {b} (a_node size w count is) (a_block other l count' list leads) =
      inr (⊎_elim (λ low. inl (omega (arith, low, count))) (λ high. inr (omega (arith, high, count')))
      ((stand_behind h).tree.apart w a l b is list leads))
  pieces_apart {a} {b} (a_node size w count is) (a_node other v count' is') = ⊎_elim
      (λ one. inl (one, count ∙ sym count'))
      (λ far. inr (⊎_elim (λ low. inl (omega (arith, low, count))) (λ high. inr (omega (arith, high, count'))) far))
      ((stand_behind h).tree.rooted.apart w a v b is is')

  piece_some : {target size : ℕ} → IsPiece target size → 1 ≤ size
  piece_some (a_block size l count list leads) = omega (arith, count)
  piece_some (a_node size w count is) = omega (arith, count)

  -- a piece that begins within the new cells is one that the pool gave
  is_granted : {target size : ℕ} → IsPiece target size → p.start ≤ target → target < to
      → Contains (map (λ (grant : Grant). grant.at) h.grants.0) target
  is_granted {target} {size} piece low high =
      let there = tile_has p.start to target h.grants.0 h.grants.1.tile low high in
      let led = h.grants.1.led there.place there.grant there.is in
      let grant = grant_piece there.grant led in
      let same : target ≡ there.grant.at = ⊎_elim
      (λ one. one.0)
      (λ far. absurd (⊎_elim
      (λ before. omega (arith, before, there.from, piece_some piece))
      (λ behind. omega (arith, behind, there.below))
      far))
      (pieces_apart piece grant) in
      let at : slice_get (map (λ (x : Grant). x.at) h.grants.0) there.place ≡ Some target =
      slice_get-map (λ (x : Grant). x.at) h.grants.0 there.place ∙ ap (λ o. option_map (λ (x : Grant). x.at) o) there.is
      ∙ ap (λ (t : ℕ). Some t) (sym same) in (
        there.place,
        slice_get_within (map (λ (x : Grant). x.at) h.grants.0) there.place target at,
        get_or_from_slice_get (map (λ (x : Grant). x.at) h.grants.0) there.place target target at,
      )

  -- no cells are a block and a node
  clash : {target : ℕ} → IsPiece target 256 → IsPiece target 32 → ⊥
  clash {target} block node = ⊎_elim
      (λ one. let same : 256 ≡ 32 = one.1 in omega (arith, same))
      (λ far. ⊎_elim (λ low. omega (arith, low)) (λ high. omega (arith, high)) far)
      (pieces_apart block node)

  abbrev HasJumpTo : ℕ → Type 0
  HasJumpTo target = HasJump (new_image h) p.start p.reserved (length p.journal) target

  abbrev HasChildTo : ℕ → Type 0
  HasChildTo target = HasChild (new_image h) p.start p.reserved (length p.journal) target

  jump_copied : {target : ℕ} → HasJumpTo target → IsPiece target 256
  jump_copied (at, cell, copies) = jump_piece (copies_planned copies)

  child_copied : {target : ℕ} → HasChildTo target → IsPiece target 32
  child_copied (at, cell, copies) = child_piece (copies_planned copies)

  -- what the pool gave is copied as a target
  has_target : {grant : Grant} → IsGrantLedTo planned grant → HasJumpTo grant.at ⊎ HasChildTo grant.at
  has_target (to_block cell holds size) = let copies = planned_copies tt holds in inl (copies.0, cell, copies.1)
  has_target (to_node cell holds size) = let copies = planned_copies tt holds in inr (copies.0, cell, copies.1)

  has_size : {grant : Grant} → IsGrantLedTo planned grant
      → IsSize (new_image h) p.start p.reserved (length p.journal) grant.at grant.size
  has_size (to_block cell holds size) = let copies = planned_copies tt holds in inl (size, (copies.0, cell, copies.1))
  has_size (to_node cell holds size) = inr (size, λ jump. clash (jump_copied jump) (child_piece holds))

  tiled : (from end : ℕ) (grants : List Grant)
      → ((i : ℕ) (grant : Grant) → slice_get grants i ≡ Some grant → IsGrantLedTo planned grant)
      → GrantsTileCells from end grants
      → rules.Tile (new_image h) p.start p.reserved (length p.journal) from end
      (map (λ (grant : Grant). grant.at) grants)
  tiled from end [] led same = same
  tiled from end (grant ∷ grants) led (at, rest) = (
    at,
    grant.size,
    has_size (led zero grant refl),
    tiled (from + grant.size) end grants (λ i one is. led (suc i) one is) rest,
  )

  -- each is a target in the block part
  record IsTarget (target : ℕ) : Type 0 where
    has : HasJumpTo target ⊎ HasChildTo target
    from : p.start ≤ target
    below : target < to

  granted_target : {target : ℕ} → Contains (map (λ (grant : Grant). grant.at) h.grants.0) target → IsTarget target
  granted_target {target} (k, low, is) =
      let found = slice_get-get_or (map (λ (x : Grant). x.at) h.grants.0) k target low in
      let one = mapped (slice_get h.grants.0 k) target
      (sym (slice_get-map (λ (x : Grant). x.at) h.grants.0 k) ∙ found ∙ ap (λ (t : ℕ). Some t) is) in
      let led = h.grants.1.led k one.0 one.1 in
      let inside = tile_inside p.start to h.grants.0 k one.0 h.grants.1.tile one.1 in
      let some = piece_some (grant_piece one.0 led) in
      record {
        has = subst (λ (t : ℕ). HasJumpTo t ⊎ HasChildTo t) one.2 (has_target led);
        from = omega (arith, inside.0, one.2);
        below = omega (arith, inside.1, one.2, some);
      }

  pub tiles : TilingRule (new_image h) p.start p.reserved (length (stored_of p)) (length p.journal)
  tiles = record {
    targets = map (λ (grant : Grant). grant.at) h.grants.0;
    each = λ target. (
      λ is. ⊎_elim
          (λ jump. is_granted (jump_copied jump) is.1 (omega (arith, is.2, ends_there h)))
          (λ child. is_granted (child_copied child) is.1 (omega (arith, is.2, ends_there h)))
          is.0,
      λ among. let there = granted_target among in (there.has, there.from, omega (arith, there.below, ends_there h)),
    );
    tile = subst
        (λ (end : ℕ). rules.Tile (new_image h) p.start p.reserved (length p.journal) p.start end
        (map (λ (grant : Grant). grant.at) h.grants.0))
        (sym (ends_there h)) (tiled p.start to h.grants.0 h.grants.1.led h.grants.1.tile);
  }
