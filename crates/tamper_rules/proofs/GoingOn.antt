-- What is said of journals, blocks and nodes goes on holding in each image that extends the first.
use Rattle.std.proofs.Common.{◌≡◌, ◌<◌, ◌+◌, ◌⊎◌, ⊎_elim, inl, inr, ℕ, List, Some, None, sym, ◌∙◌, subst, ap}
use Rattle.cell_types.specs.Image.{Image, Extends}
use Rattle.cell_types.specs.Layout.{Layout, done_at}
use Rattle.cell_types.specs.Records.{IsRecordCell}
use Rattle.cell_types.specs.declared.record_cell.RecordCell.{RecordCell}
use Rattle.cell_types.proofs.OneRecord.{one_record}
use Rattle.volume_meaning.specs.Blocks.{Leads, PostingFields, arrived, onwards, posting_record}
use Rattle.tamper_rules.specs.Journals.{journal_at, CopiesIndexCell, LiesInBlocks, IsIndexCell, of_list, of_root, of_slot, IsNamed, IsInOrder}
use Rattle.tamper_rules.specs.Rules.{HoldsInOrder}
use Rattle.volume_meaning.specs.Nodes.{IsOnPath, root, under}
use Rattle.volume_meaning.specs.Slots.{Stores}
use Rattle.volume_meaning.specs.Volumes.{Holds, IsWritten}
use Rattle.volume_meaning.proofs.Extending.{holds_on, commits_on, done_on}
use Rattle.volume_meaning.proofs.Holding.{some_is}

pub copies_on : {old new : Image} {start length journal place target : ℕ} {r : RecordCell} → Extends old new
    → CopiesIndexCell old start length journal place target r → CopiesIndexCell new start length journal place target r
copies_on e c = record {
  below = c.below;
  entry = c.entry;
  stands = e.keeps _ _ c.stands;
  index = c.index;
  address = c.address;
  is = c.is;
}

-- a place whose cell is written was copied from where it is written
pub copies_back : {old new : Image} {start length journal place target : ℕ} {r : RecordCell} → Extends old new
    → IsWritten old (journal_at start length journal + place) → CopiesIndexCell new start length journal place target r
    → CopiesIndexCell old start length journal place target r
copies_back {old} {new} {start} {length} {journal} {place} e w c =
    let same : w.found ≡ c.entry = some_is w.found c.entry (sym (e.keeps _ _ w.stands) ∙ c.stands) in
    record {
      below = c.below;
      entry = c.entry;
      stands = w.stands ∙ ap (λ (v : List ℕ). Some v) same;
      index = c.index;
      address = c.address;
      is = c.is;
    }

-- a place of a journal has one target
pub one_copy : (image : Image) (start length journal place t u : ℕ) (r s : RecordCell)
    → (a : CopiesIndexCell image start length journal place t r)
    → (b : CopiesIndexCell image start length journal place u s) → (r ≡ s) × (t ≡ u) × (a.entry ≡ b.entry)
one_copy image start length journal place t u r s a b =
    let same : a.entry ≡ b.entry = some_is a.entry b.entry (sym a.stands ∙ b.stands) in
    let one = one_record r s t u b.entry a.address b.address
    (subst (λ (v : List ℕ). IsRecordCell r t v) same a.is) b.is in
    (one.0, one.1, same)

-- a cell lies in the blocks of a slot that is stored still
pub blocks_by : {g : Layout} {old new : Image} {m cell : ℕ}
    → ((start length bytes journal : ℕ) → Stores g old m start length bytes journal
    → Stores g new m start length bytes journal)
    → LiesInBlocks g old m cell → LiesInBlocks g new m cell
blocks_by stores b = record {
  start = b.start;
  length = b.length;
  bytes = b.bytes;
  journal = b.journal;
  stores = stores b.start b.length b.bytes b.journal b.stores;
  from = b.from;
  below = b.below;
}

-- an index cell is one where each slot that was stored is so still
pub index_by : {g : Layout} {old new : Image} {n cell : ℕ}
    → ((m start length bytes journal : ℕ) → Stores g old m start length bytes journal
    → Stores g new m start length bytes journal)
    → IsIndexCell g old n cell → IsIndexCell g new n cell
index_by stores (of_list l lies) = of_list l lies
index_by stores (of_root lies) = of_root lies
index_by stores (of_slot m le b) = of_slot m le (blocks_by (stores m) b)

-- the place before has a lower target, by another way to say what it copies
pub rises_by : (P Q : ℕ → ℕ → RecordCell → Type 0) {place target : ℕ}
    → ((before lower : ℕ) (other : RecordCell) → P before lower other → Q before lower other)
    → (place ≡ 0) ⊎ ((before : ℕ) × (lower : ℕ) × (other : RecordCell) × (place ≡ before + 1) × P before lower other
    × (lower < target))
    → (place ≡ 0) ⊎ ((before : ℕ) × (lower : ℕ) × (other : RecordCell) × (place ≡ before + 1) × Q before lower other
    × (lower < target))
rises_by P Q so (inl first) = inl first
rises_by P Q so (inr (before, lower, other, is, copies, less)) =
    inr (before, lower, other, is, so before lower other copies, less)

-- a place in order is so where what is copied is copied, and what is stored stored, still
pub in_order_by : {g : Layout} {old new : Image} {n start length bytes journal place : ℕ}
    → ((p target : ℕ) (r : RecordCell) → CopiesIndexCell old start length journal p target r
    → CopiesIndexCell new start length journal p target r)
    → ((m from size stored copies : ℕ) → Stores g old m from size stored copies
    → Stores g new m from size stored copies)
    → IsInOrder g old n start length bytes journal place → IsInOrder g new n start length bytes journal place
in_order_by {g} {old} {new} {n} {start} {length} {bytes} {journal} {place} copies stores o = record {
  target = o.target;
  copied = o.copied;
  copies = copies place o.target o.copied o.copies;
  rises = rises_by (CopiesIndexCell old start length journal) (CopiesIndexCell new start length journal) copies o.rises;
  before_document = o.before_document;
  index = index_by stores o.index;
}

-- and the entry before a smaller key
pub entry_rises_on : {old new : Image} (block : ℕ) {place key : ℕ} → Extends old new
    → (place ≡ 0) ⊎ ((before : ℕ) × (q : PostingFields) × (place ≡ before + 1)
    × Holds old (block + before) (posting_record q) × (q.key < key))
    → (place ≡ 0) ⊎ ((before : ℕ) × (q : PostingFields) × (place ≡ before + 1)
    × Holds new (block + before) (posting_record q) × (q.key < key))
entry_rises_on block e (inl first) = inl first
entry_rises_on block e (inr (before, q, is, holds, less)) = inr (before, q, is, holds_on e holds, less)

pub in_order_goes_on : {old new : Image} {block place : ℕ} → Extends old new → HoldsInOrder old block place
    → HoldsInOrder new block place
in_order_goes_on {block = block} e h =
    record { p = h.p; holds = holds_on e h.holds; rises = entry_rises_on block e h.rises }

-- a slot that is committed or done is so, where its done cell is not written in between by another value
pub stores_on : {g : Layout} {old new : Image} {n start length bytes journal : ℕ} → Extends old new
    → (old (done_at n) ≡ None → new (done_at n) ≡ None)
    → Stores g old n start length bytes journal → Stores g new n start length bytes journal
stores_on {g} {old} {new} {n} e blank s = record {
  commits = commits_on e s.commits;
  done = ⊎_elim (λ none. inl (blank none)) (λ holds. inr (holds_on e holds)) s.done;
}

module _ {g : Layout} {old new : Image} (e : Extends old new)
    (blank : (n : ℕ) → n < g.slots → old (done_at n) ≡ None → new (done_at n) ≡ None) where
  pub stores_go_on : {n start length bytes journal : ℕ} → Stores g old n start length bytes journal
      → Stores g new n start length bytes journal
  stores_go_on {n} s = stores_on e (blank n s.commits.reserves.slot) s

  pub blocks_on : {m cell : ℕ} → LiesInBlocks g old m cell → LiesInBlocks g new m cell
  blocks_on = blocks_by (λ start length bytes journal. stores_go_on)

  pub in_order_on : {n start length bytes journal place : ℕ}
      → IsInOrder g old n start length bytes journal place → IsInOrder g new n start length bytes journal place
  in_order_on = in_order_by (λ p target r. copies_on e) (λ m from size stored copies. stores_go_on)

pub named_on : {g : Layout} {old new : Image} {cell : ℕ} → Extends old new → IsNamed g old cell → IsNamed g new cell
named_on e h = record {
  m = h.m;
  start = h.start;
  length = h.length;
  bytes = h.bytes;
  journal = h.journal;
  done = done_on e h.done;
  place = h.place;
  copied = h.copied;
  copies = copies_on e h.copies;
}

pub leads_to_on : {old new : Image} {from to last block : ℕ} → Extends old new → Leads old from to last block
    → Leads new from to last block
leads_to_on e (arrived block is) = arrived block is
leads_to_on e (onwards block level digit target l s d jump f t rest) =
    onwards block level digit target l s d (holds_on e jump) f t (leads_to_on e rest)

pub on_path_on : {g : Layout} {old new : Image} {digest : List ℕ} {level node : ℕ} → Extends old new
    → IsOnPath g old digest level node → IsOnPath g new digest level node
on_path_on e (root level node is at) = root level node is at
on_path_on e (under level node v above is rest less child f t) =
    under level node v above is (on_path_on e rest) less (holds_on e child) f t
