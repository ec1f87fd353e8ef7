-- In a settled image the documents that a walk compares are some of its path's mates.
use Rattle.std.proofs.Common.{◌≡◌, ◌<◌, ◌≤◌, ◌+◌, ◌∙◌, ◌⊎◌, ⊎_elim, inl, inr, ℕ, zero, suc, List, [], ◌∷◌, length, get_or, refl, ap, sym, subst, arith}
use Rattle.std.specs.Prelude.{Contains, sum_by}
use Rattle.std.proofs.lemmas.List.Sums.{sum_by-cons}
use Rattle.sha2.specs.Sha256.{sha256}
use Rattle.cell_types.specs.Image.{Image}
use Rattle.cell_types.specs.Layout.{IsLayout, Layout, outcome_at}
use Rattle.cell_types.specs.declared.record_cell.RecordCell.TheVariants.{Bucket, Commit}
use Rattle.volume_meaning.specs.Documents.{Document, Stands, stored_bytes}
use Rattle.volume_meaning.specs.Slots.{IsDone, cells_for}
use Rattle.volume_meaning.specs.Volumes.{Holds}
use Rattle.volume_meaning.proofs.Holding.{one_record_holds}
use Rattle.volume_meaning.proofs.OneDocument.{commits}
use Rattle.volume_meaning.specs.HashPaths.{fingerprint_of, nibble}
use Rattle.volume_meaning.specs.Nearness.{IsPathMate}
use Rattle.volume_meaning.specs.Nodes as nodes
use Rattle.volume_meaning.specs.Nodes.{IsNode, IsOnPath}
use Rattle.tamper_rules.specs.Rules.{BucketRule, Buckets}
use Rattle.tamper_rules.specs.Settling.{IsSettled}
use Rattle.tamper_rules.proofs.Settled.{some_edge, some_horizon}
use Rattle.ingest_laws.specs.TreeShapes.{IsWellRooted}
use Rattle.ingest_laws.proofs.SettledShapes.{settled_rooted}
use Rattle.ingest_laws.proofs.TreeShapes.{one_level}
use Rattle.identifier_lookup.specs.Costs.{AreDocumentCells, Comparison, Fall, HasDocumentCells, HaveMates, IsComparison, Mate, cells_in, cells_of_document, mate_cells}
use Rattle.identifier_lookup.proofs.Licence.{half_byte}

-- one of a list with one more
pub one_or_rest : {X : Type 0} (x first : X) (xs : List X) → Contains (first ∷ xs) x → (first ≡ x) ⊎ Contains xs x
one_or_rest {X} x first xs among = by_place among.0 among.1 among.2 where
  by_place : (k : ℕ) → k < suc (length xs) → get_or (first ∷ xs) k x ≡ x → (first ≡ x) ⊎ Contains xs x
  by_place zero less is = inl is
  by_place (suc k) less is = inr (k, omega (arith, less), is)

pub further : {X : Type 0} (x first : X) (xs : List X) → Contains xs x → Contains (first ∷ xs) x
further x first xs among = (suc among.0, omega (arith, among.1), among.2)

-- what is left of mates once one of them is taken away: all others
pub record Leaves (mates : List Mate) (one : Mate) : Type 0 where
  pub rest : List Mate
  pub cells : mate_cells mates ≡ cells_of_document one.document + mate_cells rest
  pub others : (other : Mate) → Contains mates other → (other ≡ one → ⊥) → Contains rest other

abbrev cells_of_mate : Mate → ℕ
cells_of_mate mate = cells_of_document mate.document

leaves : (mates : List Mate) (one : Mate) → Contains mates one → Leaves mates one
leaves [] one among = absurd (omega (arith, among.1))
leaves (first ∷ mates) one among = ⊎_elim
    (λ (same : first ≡ one). record {
      rest = mates;
      cells = sum_by-cons cells_of_mate first mates ∙ ap (λ (m : Mate). cells_of_mate m + mate_cells mates) same;
      others = λ other there differs. ⊎_elim
          (λ (is : first ≡ other). absurd (differs (sym is ∙ same)))
          (λ (rest : Contains mates other). rest)
          (one_or_rest other first mates there);
    })
    (λ (there : Contains mates one).
    let left = leaves mates one there in
    record {
      rest = first ∷ left.rest;
      cells = omega (
        arith,
        sum_by-cons cells_of_mate first mates,
        sum_by-cons cells_of_mate first left.rest,
        left.cells,
      );
      others = λ other among differs. ⊎_elim
          (λ (is : first ≡ other). (zero, omega arith, is))
          (λ (rest : Contains mates other). further other first left.rest (left.others other rest differs))
          (one_or_rest other first mates among);
    })
    (one_or_rest one first mates among)

-- the levels of comparisons that fall are below the first
level_below : (below : ℕ) (cs : List Comparison) → Fall below cs → (c : Comparison) → Contains cs c → c.level < below
level_below below [] fall c among = absurd (omega (arith, among.1))
level_below below (first ∷ cs) fall c among = ⊎_elim
    (λ (same : first ≡ c). subst (λ (d : Comparison). d.level < below) same fall.0)
    (λ (rest : Contains cs c). omega (arith, fall.0, level_below first.level cs fall.1 c rest))
    (one_or_rest c first cs among)

-- the mate of a comparison: its bucket, and a document that has at least as many cells as were read
pub record MateOf (g : Layout) (image : Image) (id : List ℕ) (c : Comparison) : Type 0 where
  pub document : Document
  pub is : IsPathMate g image id document
  pub at : is.node + nibble (sha256 id) is.level ≡ c.node + nibble (sha256 id) c.level
  pub cells : c.cells ≤ cells_of_document document

abbrev the_mate : {g : Layout} {image : Image} {id : List ℕ} {c : Comparison} → MateOf g image id c → Mate
the_mate {id = id} m = record { bucket = m.is.node + nibble (sha256 id) m.is.level; document = m.document }

pub slots_are : (a b : ℕ) (f h : List ℕ) → Bucket a f ≡ Bucket b h → a ≡ b
slots_are a b f h e = cc

pub node_on : {g : Layout} {image : Image} (id : List ℕ) {v node : ℕ} → IsOnPath g image (sha256 id) v node
    → IsNode g image v node
node_on id (nodes.IsOnPath.root v node is at) = nodes.IsNode.root v node is at
node_on id (nodes.IsOnPath.under v node u above is rest less child from to) =
    nodes.IsNode.under v node u above (nibble (sha256 id) u) is (node_on id rest) (half_byte id u) less child from to

-- a document that stands in a slot has the cells that the slot states
same_cells : {g : Layout} {image : Image} {n cells : ℕ} {id body : List ℕ} → Stands g.cells image n id body
    → AreDocumentCells g image n cells → cells ≤ cells_for (length (stored_bytes id body))
same_cells {g} {image} {n} {cells} {id} {body} stands are = ⊎_elim
    (λ (none : cells ≡ 0). omega (arith, none))
    (λ (some : HasDocumentCells g image n cells).
    let one = commits some.bytes some.journal (length (stored_bytes id body)) stands.journal
    (one_record_holds image (outcome_at n) (Commit some.bytes some.journal)
    (Commit (length (stored_bytes id body)) stands.journal) some.done.commits.outcome stands.done.commits.outcome) in
    let bytes : cells_for some.bytes ≡ cells_for (length (stored_bytes id body)) = ap cells_for one.0 in
    omega (arith, some.is, bytes))
    are

module _ (g : Layout) (image : Image) (id : List ℕ) (layout : IsLayout g) (settled : IsSettled g image) where
  rooted : (to : ℕ) × IsWellRooted g image to
  rooted =
      let until = some_horizon g image settled in
      let edge = some_edge g image settled until.0 until.1 in
      (edge.0, settled_rooted layout settled edge.1)

  -- buckets at two levels of a path are two
  apart : (level node below other : ℕ) → IsOnPath g image (sha256 id) level node
      → IsOnPath g image (sha256 id) below other → below < level
      → node + nibble (sha256 id) level ≡ other + nibble (sha256 id) below → ⊥
  apart level node below other here there less same =
      let tree = rooted.1 in
      let x = half_byte id level in
      let y = half_byte id below in
      ⊎_elim
      (λ (one : node ≡ other).
      let levels : level ≡ below = one_level tree (node_on id here) below
      (subst (λ (n : ℕ). IsNode g image below n) (sym one) (node_on id there)) in
      omega (arith, less, levels))
      (λ far. ⊎_elim (λ low. omega (arith, low, same, x, y)) (λ high. omega (arith, high, same, x, y)) far)
      (tree.apart level node below other (node_on id here) (node_on id there))

  -- a bucket on the path with the fingerprint has a mate
  pub mate_of : (c : Comparison) → IsComparison g image id c → MateOf g image id c
  mate_of c is =
      let at = c.node + nibble (sha256 id) c.level in
      let rule : BucketRule g image at = settled.met Buckets at
      (record { found = is.bucket.cell; stands = is.bucket.stands }) in
      let t = rule c.level c.node (nibble (sha256 id) c.level) (node_on id is.on_path) (half_byte id c.level) refl in
      let slot : t.slot ≡ c.slot = slots_are _ _ _ _ (one_record_holds image at (Bucket t.slot t.fingerprint)
      (Bucket c.slot (fingerprint_of (sha256 id))) t.bucket is.bucket) in
      let stands : Stands g.cells image c.slot t.id t.body =
      subst (λ (n : ℕ). Stands g.cells image n t.id t.body) slot t.stands in
      record {
        document = record { slot = c.slot; id = t.id; body = t.body };
        is = record {
          stands = stands;
          level = c.level;
          node = c.node;
          on_path = is.on_path;
          bucket = is.bucket;
        };
        at = refl;
        cells = same_cells stands is.are;
      }

  -- a comparison and its mate, which is one of these
  abbrev IsMet : List Mate → Comparison → Type 0
  IsMet mates c = IsComparison g image id c × ((m : MateOf g image id c) × Contains mates (the_mate m))

  met_within : (below : ℕ) (cs : List Comparison) (mates : List Mate) → Fall below cs
      → ((c : Comparison) → Contains cs c → IsMet mates c) → sum_by cells_in cs ≤ mate_cells mates
  met_within below [] mates fall each = omega arith
  met_within below (first ∷ cs) mates fall each =
      let here = each first (zero, omega arith, refl) in
      let left = leaves mates (the_mate here.1.0) here.1.1 in
      let rest = met_within first.level cs left.rest fall.1 (λ c among.
      let there = each c (further c first cs among) in (
        there.0,
        (
          there.1.0,
          left.others (the_mate there.1.0) there.1.1 (λ same. apart first.level first.node c.level c.node
              here.0.on_path there.0.on_path (level_below first.level cs fall.1 c among)
              (sym here.1.0.at ∙ ap (λ (m : Mate). m.bucket) (sym same) ∙ there.1.0.at)),
        ),
      )) in
      omega (arith, sum_by-cons cells_in first cs, here.1.0.cells, left.cells, rest)

  -- so what is compared along a path is not more than its mates have
  pub compared_within : (cs : List Comparison) (mates : List Mate) → Fall 64 cs
      → ((c : Comparison) → Contains cs c → IsComparison g image id c)
      → HaveMates g image id mates → sum_by cells_in cs ≤ mate_cells mates
  compared_within cs mates fall each have = met_within 64 cs mates fall (λ c among.
      let is = each c among in
      let mate = mate_of c is in
      (is, (mate, have mate.document mate.is)))

  -- nor is the document of one bucket
  pub one_within : (mates : List Mate) (level node n bytes : ℕ)
      → IsOnPath g image (sha256 id) level node
      → Holds image (node + nibble (sha256 id) level) (Bucket n (fingerprint_of (sha256 id)))
      → HaveMates g image id mates
      → (start reserved journal : ℕ) → IsDone g image n start reserved bytes journal
      → cells_for bytes ≤ mate_cells mates
  one_within mates level node n bytes on_path bucket have start reserved journal done =
      let c : Comparison = record { level = level; node = node; slot = n; cells = cells_for bytes } in
      let is : IsComparison g image id c = record {
        on_path = on_path;
        bucket = bucket;
        are = inr (record {
          start = start;
          reserved = reserved;
          bytes = bytes;
          journal = journal;
          done = done;
          is = refl;
        });
      } in
      let mate = mate_of c is in
      let left = leaves mates (the_mate mate) (have mate.document mate.is) in
      omega (arith, mate.cells, left.cells)
