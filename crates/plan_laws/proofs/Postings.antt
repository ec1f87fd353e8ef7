-- The new postings are the document's.
use Rattle.std.proofs.Common.{◌≡◌, ◌<◌, ◌+◌, ⊎_elim, ℕ, List, slice_get, Some, None, sym, ◌∙◌, subst, arith}
use Rattle.std.proofs.lemmas.Option.{none-some}
use Rattle.cell_types.specs.Image.{Image}
use Rattle.cell_types.specs.Layout.{Layout, list_at, pool_at, all_lists}
use Rattle.cell_types.specs.Records.{IsRecordCell}
use Rattle.cell_types.specs.declared.record_cell.RecordCell.{RecordCell}
use Rattle.cell_types.specs.declared.record_cell.RecordCell.TheVariants.{Jump, Bucket, Child}
use Rattle.volume_meaning.specs.Volumes.{Holds}
use Rattle.volume_meaning.proofs.Holding.{one_record_holds}
use Rattle.volume_meaning.specs.Blocks.{Leads, PostingFields, posting_record}
use Rattle.volume_meaning.specs.Nodes.{IsBlockOf}
use Rattle.volume_meaning.specs.Postings.{IsPostingOf, ListedPosting}
use Rattle.volume_meaning.proofs.Fronts.{one_posting}
use Rattle.tamper_rules.proofs.Writing.{same_or_not}
use Rattle.ingest_laws.specs.Ingesting.{Plan}
use Rattle.ingest_laws.proofs.ListShapes.{holds_back}
use Rattle.hash_tree.specs.declared.level.Level.{Level}
use Rattle.hash_tree.specs.declared.path.Open.{Open}
use Rattle.plan_laws.specs.Laws.{IsPlannedIndex}
use Rattle.plan_laws.proofs.Behind.{IsPlannedCell, a_posting, a_pointer, a_bucket, a_child, is_listed, planned_cell, stand_behind}
use Rattle.plan_laws.proofs.NewImage.{new_image}
use Rattle.plan_laws.proofs.Standing.{block_back, block_same}

no_jump_posts : (a : PostingFields) (target : ℕ) → Jump target ≡ posting_record a → ⊥
no_jump_posts a target same = cc

no_bucket_posts : (a : PostingFields) (slot : ℕ) (fingerprint : List ℕ) → Bucket slot fingerprint ≡ posting_record a → ⊥
no_bucket_posts a slot fingerprint same = cc

no_child_posts : (a : PostingFields) (target : ℕ) → Child target ≡ posting_record a → ⊥
no_child_posts a target same = cc

module _ {g : Layout} {old laid : Image} {p : Plan} {rows : List ListedPosting} {level : Level} {place : Open} {to : ℕ}
    {planned : Image} (h : IsPlannedIndex g old laid p rows level place to planned) where
  -- cells of blocks are the same only where their lists are
  same_list : (l k a b i j : ℕ) → l < all_lists g → k < all_lists g → Leads laid (pool_at g) to a (list_at g l)
      → Leads laid (pool_at g) to b (list_at g k) → i < 256 → j < 256 → a + i ≡ b + j → l ≡ k
  same_list l k a b i j list list' leads leads' less less' same = ⊎_elim
      (λ one. one)
      (λ differ. absurd (⊎_elim
      (λ low. omega (arith, low, same, less, less'))
      (λ high. omega (arith, high, same, less, less'))
      ((stand_behind h).lists.apart l k list list' differ a b leads leads')))
      (same_or_not l k)

  -- the posting is one of the document's
  abbrev IsMine : ℕ → PostingFields → Type 0
  IsMine l q = IsPostingOf g p.stamp p.body p.slot l q

  mine : (i : ℕ) (a : ListedPosting) → slice_get rows i ≡ Some a → IsMine a.list a.posting
  mine i a row = (is_listed h i a row).1

  pub postings : (l block at : ℕ) (q : PostingFields) → IsBlockOf g (new_image h) l block → at < 128
      → old (block + at) ≡ None → Holds (new_image h) (block + at) (posting_record q)
      → IsPostingOf g p.stamp p.body p.slot l q
  postings l block at q b less none holds = of_kind (planned_cell h (block + at) held.cell is_planned)
    where
      leads : Leads laid (pool_at g) to block (list_at g l)
      leads = block_back h b

      held : Holds laid (block + at) (posting_record q)
      held = holds_back (block_same h l block at b.list leads (omega (arith, less))) holds

      is_planned : planned (block + at) ≡ Some held.cell
      is_planned = ⊎_elim
          (λ was. absurd (none-some _ (sym none ∙ was)))
          (λ row. row)
          (h.laid_is.only (block + at) held.cell held.stands)

      one : {r : RecordCell} → IsRecordCell r (block + at) held.cell → r ≡ posting_record q
      one {r} is =
          one_record_holds laid (block + at) r (posting_record q)
          (record { cell = held.cell; stands = held.stands; is = is }) held

      of_kind : IsPlannedCell g p.slot rows level to laid (block + at) held.cell → IsMine l q
      of_kind (a_posting i a other k row list leads' below here is) =
          let of_list : a.list ≡ l =
          same_list a.list l other block k at list b.list leads' leads (omega (arith, below)) (omega (arith, less))
          (sym here) in
          let same : a.posting ≡ q =
          one_posting laid (block + at) a.posting q
          (record { cell = held.cell; stands = held.stands; is = is }) held in
          subst (λ (r : PostingFields). IsMine l r) same
          (subst (λ (m : ℕ). IsMine m a.posting) of_list (mine i a row))
      of_kind (a_pointer m other i digit target list leads' levels low high here to_other is) =
          absurd (no_jump_posts q target (one is))
      of_kind (a_bucket v node x is under here bucket) = absurd (no_bucket_posts q _ _ (one bucket))
      of_kind (a_child v node x w target is under here to_other child) = absurd (no_child_posts q target (one child))
