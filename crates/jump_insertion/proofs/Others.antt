-- What an insertion leaves of the other lists: their blocks lie outside what it writes.
use Rattle.std.proofs.Common.{◌≡◌, ◌<◌, ◌≤◌, ◌+◌, ⊎_elim, inl, inr, ℕ, arith}
use Rattle.cell_types.specs.Image.{Image}
use Rattle.volume_meaning.specs.Blocks.{PostingFields, Leads}
use Rattle.volume_meaning.specs.Nodes.{AreApart}
use Rattle.volume_meaning.proofs.Trails.{trail_on, trail_wider}
use Rattle.ingest_laws.specs.ListShapes.{IsWellListed}
use Rattle.ingest_laws.proofs.ListShapes.{back, holds_back, listed_back, well_apart, well_wider}
use Rattle.jump_insertion.specs.Others.{ListsAreApart, StandsAside}
use Rattle.jump_insertion.proofs.KeptTrails.{IsGrown, leads_below}

-- a cell of a block that lies apart from another lies apart from it
cell_apart : {a b i : ℕ} → i < 256 → AreApart a 256 b 256 → AreApart a 256 (b + i) 1
cell_apart less apart = ⊎_elim (λ low. inl (omega (arith, low))) (λ high. inr (omega (arith, high, less))) apart

module _ {old new : Image} {floor next to head other : ℕ} {p : PostingFields} (g : IsGrown old new floor next to head p)
    (roomy : floor ≤ next) (v : IsWellListed old floor next other)
    (apart : ListsAreApart old floor next head other) where
  below : {b : ℕ} → Leads old floor next b other → b + 256 ≤ next
  below l = leads_below l (omega (arith, v.before, roomy))

  as_it_was : (b i : ℕ) → Leads old floor next b other → i < 256 → new (b + i) ≡ old (b + i)
  as_it_was b i l less =
      g.outside (b + i) (omega (arith, below l, less)) (λ a k. cell_apart less (apart a b k l))

  well_before : IsWellListed new floor next other
  well_before = well_apart v g.extends as_it_was

  was_block : {b : ℕ} → Leads new floor to b other → Leads old floor next b other
  was_block l = listed_back v g.extends as_it_was (back g.more well_before l)

  pub stands_aside : StandsAside old new floor next to head other
  stands_aside = record {
    well = well_wider g.more well_before;
    blocks = λ block leads. was_block leads;
    apart = λ a b k l.
        let there = was_block l in
        ⊎_elim (λ was. apart a b was there) (λ later. inr (omega (arith, below there, later))) (g.blocks a k);
    trails = λ trails block place q leads less holds.
        let there = was_block leads in
        let t = trails block place q there less (holds_back (as_it_was block place there (omega arith)) holds) in
        (t.0, trail_on g.extends (trail_wider floor to (omega arith) g.more t.1));
    keys = λ key keys block place q leads less holds.
        let there = was_block leads in
        keys block place q there less (holds_back (as_it_was block place there (omega arith)) holds);
  }
