-- On a settled volume a path has mates, and they can be listed: one node a level, one bucket a node, one document a slot.
use Rattle.std.proofs.Common.{◌≡◌, ◌<◌, ◌≤◌, ◌+◌, ◌∙◌, ◌⊎◌, ⊎_elim, inl, inr, ℕ, zero, suc, List, [], ◌∷◌, length, None, Some, refl, ap, sym, subst, arith}
use Rattle.std.specs.Prelude.{Contains}
use Rattle.std.proofs.lemmas.Bool.{cases_order}
use Rattle.std.proofs.lemmas.Option.{none-some}
use Rattle.sha2.specs.Sha256.{sha256}
use Rattle.cell_types.specs.Image.{Image}
use Rattle.cell_types.specs.Layout.{Layout, root_at}
use Rattle.cell_types.specs.declared.record_cell.RecordCell.{RecordCell}
use Rattle.cell_types.specs.declared.record_cell.RecordCell.TheVariants.{Bucket, Child}
use Rattle.volume_meaning.specs.Documents.{Document, Stands}
use Rattle.volume_meaning.specs.Volumes.{Holds}
use Rattle.volume_meaning.proofs.Holding.{one_record_holds}
use Rattle.volume_meaning.proofs.OneDocument.{one_document}
use Rattle.volume_meaning.specs.HashPaths.{fingerprint_of, nibble}
use Rattle.volume_meaning.specs.Nearness.{IsPathMate}
use Rattle.volume_meaning.specs.Nodes as nodes
use Rattle.volume_meaning.specs.Nodes.{IsOnPath}
use Rattle.tamper_rules.specs.Rules.{BucketRule, Buckets, ChildRule, Children, IsTrueBucket}
use Rattle.tamper_rules.specs.Settling.{IsSettled}
use Rattle.tamper_rules.proofs.GivenUp.{children}
use Rattle.tamper_rules.proofs.Images.{look}
use Rattle.tamper_rules.proofs.Writing.{same_or_not}
use Rattle.identifier_lookup.specs.Costs.{Mate}
use Rattle.identifier_lookup.proofs.Licence.{half_byte}
use Rattle.record_query.specs.Laws.{IsMateOf, MatesOfPath}
use Rattle.record_query.proofs.PathMates.{further, node_on, one_or_rest, slots_are}

-- two lists of numbers are the same or not
lists_same_or_not : (a b : List ℕ) → (a ≡ b) ⊎ (a ≡ b → ⊥)
lists_same_or_not [] [] = inl refl
lists_same_or_not [] (y ∷ ys) = inr (λ is. apart y ys is) where
  apart : (y : ℕ) (ys : List ℕ) → [] ≡ y ∷ ys → ⊥
  apart y ys e = cc
lists_same_or_not (x ∷ xs) [] = inr (λ is. apart x xs is) where
  apart : (x : ℕ) (xs : List ℕ) → x ∷ xs ≡ [] → ⊥
  apart x xs e = cc
lists_same_or_not (x ∷ xs) (y ∷ ys) = ⊎_elim
    (λ (same : x ≡ y). ⊎_elim
    (λ (rest : xs ≡ ys). inl (ap (λ (k : ℕ). k ∷ xs) same ∙ ap (λ (ks : List ℕ). y ∷ ks) rest))
    (λ (differ : xs ≡ ys → ⊥). inr (λ is. differ (tails x y xs ys is)))
    (lists_same_or_not xs ys))
    (λ (differ : x ≡ y → ⊥). inr (λ is. differ (heads x y xs ys is)))
    (same_or_not x y)
  where
    heads : (x y : ℕ) (xs ys : List ℕ) → x ∷ xs ≡ y ∷ ys → x ≡ y
    heads x y xs ys e = cc

    tails : (x y : ℕ) (xs ys : List ℕ) → x ∷ xs ≡ y ∷ ys → xs ≡ ys
    tails x y xs ys e = cc

fingerprints_are : (a b : ℕ) (f h : List ℕ) → Bucket a f ≡ Bucket b h → f ≡ h
fingerprints_are a b f h e = cc

blank_holds : {image : Image} {at : ℕ} {r : RecordCell} → image at ≡ None → Holds image at r → ⊥
blank_holds blank held = none-some _ (sym blank ∙ held.stands)

-- a mate, of its four parts
abbrev made : ℕ → ℕ → List ℕ → List ℕ → Mate
made bucket slot id body = record { bucket = bucket; document = record { slot = slot; id = id; body = body } }

same_made : (a b c d : ℕ) (i j k l : List ℕ) → a ≡ b → c ≡ d → i ≡ j → k ≡ l → made a c i k ≡ made b d j l
same_made a b c d i j k l p q r s =
    ap (λ (x : ℕ). made x c i k) p ∙ ap (λ (x : ℕ). made b x i k) q ∙ ap (λ (x : List ℕ). made b d x k) r
    ∙ ap (λ (x : List ℕ). made b d j x) s

module _ (g : Layout) (image : Image) (id : List ℕ) where
  -- a way that goes to a level below the root comes from the level above
  pub record Comes (level node : ℕ) : Type 0 where
    pub above : ℕ
    pub way : IsOnPath g image (sha256 id) level above
    pub child : Holds image (above + 16 + nibble (sha256 id) level) (Child node)

  comes : {v node : ℕ} → IsOnPath g image (sha256 id) v node → (level : ℕ) → v ≡ level + 1 → Comes level node
  comes (nodes.IsOnPath.root v node first at) level is = absurd (omega (arith, first, is))
  comes (nodes.IsOnPath.under v node u above is rest less child from to) level next =
      let same : u ≡ level = omega (arith, is, next) in
      record {
        above = above;
        way = subst (λ (k : ℕ). IsOnPath g image (sha256 id) k above) same rest;
        child = subst (λ (k : ℕ). Holds image (above + 16 + nibble (sha256 id) k) (Child node)) same child;
      }

  -- a path has one node at a level
  one_node : (v : ℕ) (node other : ℕ) → IsOnPath g image (sha256 id) v node → IsOnPath g image (sha256 id) v other
      → node ≡ other
  one_node zero node other (nodes.IsOnPath.root _ _ first at) (nodes.IsOnPath.root _ _ second there) = at ∙ sym there
  one_node zero node other (nodes.IsOnPath.root _ _ first at) (nodes.IsOnPath.under _ _ u above is rest less child from to) =
      absurd (omega (arith, is))
  one_node zero node other (nodes.IsOnPath.under _ _ u above is rest less child from to) there = absurd (omega (arith, is))
  one_node (suc v) node other here there =
      let a = comes here v (omega arith) in
      let b = comes there v (omega arith) in
      let same : a.above ≡ b.above = one_node v a.above b.above a.way b.way in
      children node other (one_record_holds image (b.above + 16 + nibble (sha256 id) v) (Child node) (Child other)
      (subst (λ (n : ℕ). Holds image (n + 16 + nibble (sha256 id) v) (Child node)) same a.child) b.child)

  -- levels of a path are below 64
  low : {v node : ℕ} → IsOnPath g image (sha256 id) v node → v < 64
  low (nodes.IsOnPath.root v node first at) = omega (arith, first)
  low (nodes.IsOnPath.under v node u above is rest less child from to) = omega (arith, is, less)

  module _ (settled : IsSettled g image) where
    -- whether a path has a node at a level
    node_at : (v : ℕ) → (((node : ℕ) → IsOnPath g image (sha256 id) v node → ⊥)
        ⊎ ((node : ℕ) × IsOnPath g image (sha256 id) v node))
    node_at zero = inr (root_at g, nodes.IsOnPath.root zero (root_at g) refl refl)
    node_at (suc v) = ⊎_elim
        (λ (none : (node : ℕ) → IsOnPath g image (sha256 id) v node → ⊥). inl (λ node way.
        let above = comes way v (omega arith) in none above.above above.way))
        (λ (some : (node : ℕ) × IsOnPath g image (sha256 id) v node). ⊎_elim
        (λ (blank : image (some.0 + 16 + nibble (sha256 id) v) ≡ None). inl (λ node way.
        let above = comes way v (omega arith) in
        blank_holds (ap (λ (n : ℕ). image (n + 16 + nibble (sha256 id) v))
        (one_node v above.above some.0 above.way some.1) ∙ blank) above.child))
        (λ (found : (value : List ℕ) × (image (some.0 + 16 + nibble (sha256 id) v) ≡ Some value)).
        let at = some.0 + 16 + nibble (sha256 id) v in
        let rule : ChildRule g image at = settled.met Children at (record { found = found.0; stands = found.1 }) in
        let r = rule v some.0 (nibble (sha256 id) v) (node_on id some.1) (half_byte id v) refl in
        inr (r.target, nodes.IsOnPath.under (suc v) r.target v some.0 (omega arith) some.1 r.level r.child r.from r.to))
        (look image (some.0 + 16 + nibble (sha256 id) v)))
        (node_at v)

    -- the mates at levels below one
    pub record MatesBelow (v : ℕ) : Type 0 where
      pub mates : List Mate
      pub all : (d : Document) → (m : IsPathMate g image id d) → m.level < v
          → Contains mates (record { bucket = m.node + nibble (sha256 id) m.level; document = d })
      pub only : (mate : Mate) → Contains mates mate → IsMateOf g image id mate
      pub few : length mates ≤ v

    -- where a level has no mate the same are enough
    none_more : (v : ℕ) → MatesBelow v → ((d : Document) → (m : IsPathMate g image id d) → m.level ≡ v → ⊥)
        → MatesBelow (suc v)
    none_more v rest none = record {
      mates = rest.mates;
      all = λ d m less. ⊎_elim
          (λ (here : m.level ≡ v). absurd (none d m here))
          (λ differ. ⊎_elim (λ (below : m.level < v). rest.all d m below)
          (λ (above : v < m.level). absurd (omega (arith, less, above))) differ)
          (cases_order m.level v);
      only = rest.only;
      few = omega (arith, rest.few);
    }

    module _ (v node : ℕ) (way : IsOnPath g image (sha256 id) v node) (rest : MatesBelow v) where
      abbrev bucket : ℕ
      bucket = node + nibble (sha256 id) v

      -- a mate at this level is named by its bucket
      named_here : (d : Document) → (m : IsPathMate g image id d) → m.level ≡ v
          → (m.node + nibble (sha256 id) m.level ≡ bucket)
          × Holds image bucket (Bucket d.slot (fingerprint_of (sha256 id)))
      named_here d m here =
          let there : IsOnPath g image (sha256 id) v m.node =
          subst (λ (k : ℕ). IsOnPath g image (sha256 id) k m.node) here m.on_path in
          let same : m.node + nibble (sha256 id) m.level ≡ bucket =
          ap (λ (k : ℕ). m.node + nibble (sha256 id) k) here
          ∙ ap (λ (n : ℕ). n + nibble (sha256 id) v) (one_node v m.node node there way) in
          (same, subst (λ (c : ℕ). Holds image c (Bucket d.slot (fingerprint_of (sha256 id)))) same m.bucket)

      -- the bucket is a true one with the fingerprint
      module _ (t : IsTrueBucket g image node (nibble (sha256 id) v)) where
        one_bucket : (slot : ℕ) (fingerprint : List ℕ) → Holds image bucket (Bucket slot fingerprint)
            → Bucket slot fingerprint ≡ Bucket t.slot t.fingerprint
        one_bucket slot fingerprint held =
            one_record_holds image bucket (Bucket slot fingerprint) (Bucket t.slot t.fingerprint) held t.bucket

        other_fingerprint : (t.fingerprint ≡ fingerprint_of (sha256 id) → ⊥) → MatesBelow (suc v)
        other_fingerprint other = none_more v rest (λ d m here.
            let held = (named_here d m here).1 in
            other (sym (fingerprints_are d.slot t.slot _ _ (one_bucket d.slot (fingerprint_of (sha256 id)) held))))

        module _ (same : t.fingerprint ≡ fingerprint_of (sha256 id)) where
          abbrev this : Mate
          this = made bucket t.slot t.id t.body

          this_is : IsMateOf g image id this
          this_is = record {
            is = record {
              stands = t.stands;
              level = v;
              node = node;
              on_path = way;
              bucket = subst (λ (f : List ℕ). Holds image bucket (Bucket t.slot f)) same t.bucket;
            };
            at = refl;
          }

          is_this : (d : Document) → (m : IsPathMate g image id d) → m.level ≡ v
              → this ≡ record { bucket = m.node + nibble (sha256 id) m.level; document = d }
          is_this d m here =
              let named = named_here d m here in
              let slot : d.slot ≡ t.slot = slots_are d.slot t.slot _ _
              (one_bucket d.slot (fingerprint_of (sha256 id)) named.1) in
              let one = one_document g.cells image t.slot d.id d.body t.id t.body
              (subst (λ (n : ℕ). Stands g.cells image n d.id d.body) slot m.stands) t.stands in
              same_made bucket (m.node + nibble (sha256 id) m.level) t.slot d.slot t.id d.id t.body d.body
              (sym named.0) (sym slot) (sym one.0) (sym one.1)

          one_more : MatesBelow (suc v)
          one_more = record {
            mates = this ∷ rest.mates;
            all = λ d m less.
                let mate : Mate = record { bucket = m.node + nibble (sha256 id) m.level; document = d } in ⊎_elim
                (λ (here : m.level ≡ v). (zero, omega arith, is_this d m here))
                (λ differ. ⊎_elim
                (λ (below : m.level < v). further mate this rest.mates (rest.all d m below))
                (λ (above : v < m.level). absurd (omega (arith, less, above))) differ)
                (cases_order m.level v);
            only = λ mate among. ⊎_elim
                (λ (is : this ≡ mate). subst (IsMateOf g image id) is this_is)
                (λ (there : Contains rest.mates mate). rest.only mate there)
                (one_or_rest mate this rest.mates among);
            few = omega (arith, rest.few);
          }

      -- the mates up to this level
      with_bucket : MatesBelow (suc v)
      with_bucket = ⊎_elim
          (λ (blank : image bucket ≡ None). none_more v rest (λ d m here. blank_holds blank (named_here d m here).1))
          (λ (found : (value : List ℕ) × (image bucket ≡ Some value)).
          let rule : BucketRule g image bucket =
          settled.met Buckets bucket (record { found = found.0; stands = found.1 }) in
          let t = rule v node (nibble (sha256 id) v) (node_on id way) (half_byte id v) refl in
          ⊎_elim (λ same. one_more t same) (λ other. other_fingerprint t other)
          (lists_same_or_not t.fingerprint (fingerprint_of (sha256 id))))
          (look image bucket)

    mates_below : (v : ℕ) → MatesBelow v
    mates_below zero = record {
      mates = [];
      all = λ d m less. absurd (omega (arith, less));
      only = λ mate among. absurd (omega (arith, among.1));
      few = omega arith;
    }
    mates_below (suc v) = ⊎_elim
        (λ (none : (node : ℕ) → IsOnPath g image (sha256 id) v node → ⊥). none_more v (mates_below v) (λ d m here.
        none m.node (subst (λ (k : ℕ). IsOnPath g image (sha256 id) k m.node) here m.on_path)))
        (λ (some : (node : ℕ) × IsOnPath g image (sha256 id) v node). with_bucket v some.0 some.1 (mates_below v))
        (node_at v)

    pub path_mates : MatesOfPath g image id
    path_mates = let all = mates_below 64 in record {
      mates = all.mates;
      all = λ d m. all.all d m (low m.on_path);
      only = all.only;
      few = all.few;
    }
