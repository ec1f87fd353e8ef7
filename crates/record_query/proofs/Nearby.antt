-- What the lists of a settled volume's terms lead to: slots of its documents, which share the lists.
use Rattle.std.proofs.Common.{◌≡◌, ◌<◌, ◌≤◌, ◌+◌, ◌/◌, ℕ, zero, List, [], ◌∷◌, length, refl, sym, subst, arith, ◌∙◌}
use Rattle.std.specs.Prelude.{Contains}
use Rattle.std.proofs.lemmas.Option.{get_or_from_slice_get, slice_get_within}
use Rattle.cell_types.specs.Image.{Image}
use Rattle.cell_types.specs.Layout.{Layout, list_at, pool_at}
use Rattle.volume_meaning.specs.Documents.{AreDocuments, Document, Stands}
use Rattle.volume_meaning.specs.Volumes.{Holds, IsVolume}
use Rattle.volume_meaning.proofs.OneDocument.{one_document}
use Rattle.volume_meaning.specs.Blocks.{Leads, PostingFields, posting_record}
use Rattle.volume_meaning.specs.Nearness.{IsCandidate, SharesList}
use Rattle.volume_meaning.specs.Nodes.{IsBlockOf}
use Rattle.volume_meaning.specs.Postings.{HasPostings, HasTag, IsWordPosting, list_of, tag_of}
use Rattle.volume_meaning.proofs.Tags.{of_word, word_slot}
use Rattle.tamper_rules.specs.Rules.{Postings}
use Rattle.tamper_rules.specs.Settling.{IsSettled}
use Rattle.jump_block.proofs.OneBlock.{leads_wider}
use Rattle.posting_list.specs.Owing.{HasPosting, IsVouched}
use Rattle.posting_list.specs.Terms.{sought_of}
use Rattle.posting_list.specs.declared.reach.Reach.{Reach}
use Rattle.record_query.proofs.Costs.{IsSlotOf}

-- the posting is one of a document of the volume
pub record IsOfDocument (g : Layout) (documents : List Document) (l : ℕ) (p : PostingFields) : Type 0 where
  pub d : Document
  pub among : Contains documents d
  pub exist : HasPostings g d.body
  pub is : IsWordPosting g d.body d.slot l p
  pub slot : p.key / 256 ≡ d.slot

-- the document has the word's tag, in the word's list
abbrev pub HasTagOf : Layout → List ℕ → Document → Type 0
HasTagOf g word d = HasTag g d.body (list_of g.lists word) (tag_of word)

module _ (r : Reach) (cells : ℕ) (image : Image) (documents : List Document)
    (volume : IsVolume cells image r.volume.geometry) (settled : IsSettled r.volume.geometry image)
    (are : AreDocuments cells image documents) (pool : r.bounds.pool ≡ pool_at r.volume.geometry)
    (edge : r.bounds.edge ≤ r.volume.geometry.cells) where
  -- a posting in a block of a list is one of a document of the volume
  of_document : (l block place : ℕ) (p : PostingFields) → l < r.volume.geometry.lists
      → Leads image r.bounds.pool r.bounds.edge block (list_at r.volume.geometry l) → place < 128
      → Holds image (block + place) (posting_record p) → IsOfDocument r.volume.geometry documents l p
  of_document l block place p less leads inside holds =
      let is_block : IsBlockOf r.volume.geometry image l block = record {
        list = omega (arith, less);
        leads = leads_wider (pool_at r.volume.geometry) r.volume.geometry.cells (omega (arith, pool)) edge leads;
      } in
      let t = settled.met Postings (block + place) (record { found = holds.cell; stands = holds.stands }) l block place p
      is_block inside refl holds in
      let word = of_word r.volume.geometry t.stamp t.body t.slot l p less t.is in
      record {
        d = record { slot = t.slot; id = t.id; body = t.body };
        among = (are.each (record { slot = t.slot; id = t.id; body = t.body })).0 (record {
          stands = subst (λ (n : ℕ). Stands n image t.slot t.id t.body) volume.size t.stands;
          taken = t.live.taken;
        });
        exist = t.postings;
        is = word;
        slot = word_slot r.volume.geometry t.body t.slot l p t.postings word;
      }

  -- a slot that a term's list has a posting of is that of a document that shares the list
  pub shared : (word : List ℕ) (slot : ℕ) → list_of r.volume.geometry.lists word < r.volume.geometry.lists
      → HasPosting r (sought_of r.volume.geometry.lists word) image slot
      → IsSlotOf (SharesList r.volume.geometry word) documents slot
  shared word slot less h =
      let o = of_document (list_of r.volume.geometry.lists word) h.block h.place h.p less h.leads h.in_places h.holds in
      record {
        d = o.d;
        among = o.among;
        such = record { exist = o.exist; posting = h.p; is = o.is };
        is = sym o.slot ∙ h.same_slot;
      }

  -- one that the list vouches for is that of a document with the term's tag
  pub tagged : (word : List ℕ) (slot : ℕ) → list_of r.volume.geometry.lists word < r.volume.geometry.lists
      → IsVouched r (sought_of r.volume.geometry.lists word) image slot
      → IsSlotOf (HasTagOf r.volume.geometry word) documents slot
  tagged word slot less v =
      let o = of_document (list_of r.volume.geometry.lists word) v.block v.place v.p less v.leads v.in_places v.holds in
      let inside = slice_get_within o.is.tags o.is.ordinal v.p.tag o.is.here in
      let there : Contains o.is.tags v.p.tag =
      (o.is.ordinal, inside, get_or_from_slice_get o.is.tags o.is.ordinal v.p.tag v.p.tag o.is.here) in
      record {
        d = o.d;
        among = o.among;
        such = subst (HasTag r.volume.geometry o.d.body (list_of r.volume.geometry.lists word)) v.same_tag
            (o.is.are.each v.p.tag there);
        is = sym o.slot ∙ v.same_slot;
      }

-- a slot that each term's list vouches for is that of a candidate
pub candidate_of : (g : Layout) (cells : ℕ) (image : Image) (documents : List Document)
    → AreDocuments cells image documents → (terms : List (List ℕ)) → 1 ≤ length terms → (slot : ℕ)
    → ((word : List ℕ) → Contains terms word → IsSlotOf (HasTagOf g word) documents slot)
    → IsSlotOf (IsCandidate g terms) documents slot
candidate_of g cells image documents are [] some slot each = absurd (omega (arith, some))
candidate_of g cells image documents are (first ∷ rest) some slot each =
    let one = each first (zero, omega arith, refl) in
    record {
      d = one.d;
      among = one.among;
      such = λ word among.
          let other = each word among in
          let s : one.d.slot ≡ other.d.slot = one.is ∙ sym other.is in
          let same = one_document cells image one.d.slot one.d.id one.d.body other.d.id other.d.body
          ((are.each one.d).1 one.among).stands
          (subst (λ (n : ℕ). Stands cells image n other.d.id other.d.body) (sym s)
          ((are.each other.d).1 other.among).stands) in
          subst (λ (b : List ℕ). HasTag g b (list_of g.lists word) (tag_of word)) (sym same.1) other.such;
      is = one.is;
    }
