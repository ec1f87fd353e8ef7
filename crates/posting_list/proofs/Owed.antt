-- The postings of a slot that must not be passed, each with its ordinal and its trail.
use Rattle.std.proofs.Common.{◌≡◌, ◌<◌, ◌≤◌, ◌+◌, ◌-◌, ◌*◌, ⊎_elim, inl, ℕ, List, length, Some, None, refl, sym, subst, arith}
use Rattle.std.specs.Prelude.{IsTrue, slice_get, slice_index_or}
use Rattle.std.proofs.lemmas.Option.{slice_get_read, slice_get_cases}
use Rattle.cell_types.specs.Image.{Image, Extends}
use Rattle.cell_types.specs.Layout.{Layout, pool_at, list_at}
use Rattle.volume_meaning.specs.Documents.{Document}
use Rattle.volume_meaning.specs.Volumes.{IsVolume}
use Rattle.volume_meaning.proofs.Extending.{done_on, holds_on, volume_on}
use Rattle.volume_meaning.specs.Blocks.{PostingFields, Trail, Leads, arrived, onwards}
use Rattle.volume_meaning.specs.Keeping.{IsKept}
use Rattle.volume_meaning.specs.Postings.{AreTags, HasTag, IsWordPosting}
use Rattle.worm_device.specs.Views.{ViewState, Viewed}
use Rattle.jump_index.specs.Searches.{HasBoundedTrail}
use Rattle.jump_index.proofs.LookingLater.{trail_then}
use Rattle.jump_index.proofs.Descending.{trail_fits}
use Rattle.jump_index.proofs.Telling.{told, told_before}
use Rattle.posting_list.specs.Owing.{IsLiveSlot, IsSlotOwed, IsVouched, Owes}
use Rattle.posting_list.specs.Searches.{head_of}
use Rattle.posting_list.specs.declared.reach.Reach.{Reach}
use Rattle.posting_list.specs.declared.sought_term.SoughtTerm.{SoughtTerm}

-- the tags of the slot in the list, and the ordinal of the one that is sought
pub record OwedTags (r : Reach) (term : SoughtTerm) (body : List ℕ) : Type 0 where
  pub tags : List (List ℕ)
  pub are : AreTags r.volume.geometry body term.list tags
  pub most : length tags ≤ 256
  pub i : ℕ
  pub within : i < length tags
  pub there : slice_get tags i ≡ Some term.tag

module _ (r : Reach) (term : SoughtTerm) (s : ViewState) (slot : ℕ) (o : IsSlotOwed r term s slot) where
  pub owed_tags : OwedTags r term o.body
  owed_tags =
      let all = o.postings.each term.list o.list in
      let has = all.1.all term.tag o.tagged in
      record {
        tags = all.0;
        are = all.1;
        most = all.2;
        i = has.0;
        within = has.1;
        there = slice_get_read all.0 (length all.0) has.0 term.tag refl has.1 (sym has.2);
      }

-- the posting of an ordinal
pub posting_at : ℕ → List (List ℕ) → ℕ → List ℕ → PostingFields
posting_at slot tags k tag = record { key = 256 * slot + k; last = length tags - 1; tag = tag }

-- its key, the greatest ordinal, and its tag
pub posting_key : (slot : ℕ) (tags : List (List ℕ)) (k : ℕ) (x : List ℕ)
    → (posting_at slot tags k x).key ≡ 256 * slot + k
unfolding posting_at
posting_key slot tags k x = refl

pub posting_last : (slot : ℕ) (tags : List (List ℕ)) (k : ℕ) (x : List ℕ)
    → (posting_at slot tags k x).last ≡ length tags - 1
unfolding posting_at
posting_last slot tags k x = refl

pub posting_tag : (slot : ℕ) (tags : List (List ℕ)) (k : ℕ) (x : List ℕ) → (posting_at slot tags k x).tag ≡ x
unfolding posting_at
posting_tag slot tags k x = refl

is_posting : (g : Layout) (l slot : ℕ) (body : List ℕ) (tags : List (List ℕ)) (k : ℕ) (tag : List ℕ)
    → l < g.lists → AreTags g body l tags → k < length tags → slice_get tags k ≡ Some tag
    → IsWordPosting g body slot l (posting_at slot tags k tag)
unfolding posting_at
is_posting g l slot body tags k tag list are less there =
    record { list = list; tags = tags; are = are; ordinal = k; here = there; key = refl; last = omega (arith, less) }

-- the posting of an ordinal has a trail
pub record HasOrdinal (r : Reach) (l slot : ℕ) (s : ViewState) (tags : List (List ℕ)) (k : ℕ) : Type 0 where
  pub tag : List ℕ
  pub there : slice_get tags k ≡ Some tag
  pub at : ℕ
  pub trail : HasBoundedTrail r.bounds s (head_of r l) at (posting_at slot tags k tag)

some_there : (tags : List (List ℕ)) (k : ℕ) → k < length tags → (x : List ℕ) × (slice_get tags k ≡ Some x)
some_there tags k less = ⊎_elim
    (λ (h : (x : List ℕ) × (k < length tags) × (slice_get tags k ≡ Some x) × (slice_index_or tags k x ≡ x)). (h.0, h.2))
    (λ (h : (length tags ≤ k) × (slice_get tags k ≡ None)). absurd (omega (arith, h.0)))
    (slice_get_cases tags k).1

-- also over a row of calls
pub ordinal_of : (r : Reach) (term : SoughtTerm) (slot : ℕ) (old mid : ViewState) → Viewed old mid
    → (o : IsSlotOwed r term old slot) → (t : OwedTags r term o.body) → (k : ℕ) → k < length t.tags
    → HasOrdinal r term.list slot mid t.tags k
ordinal_of r term slot old mid viewed o t k less =
    let x = some_there t.tags k less in
    let p = posting_at slot t.tags k x.0 in
    let is = is_posting r.volume.geometry term.list slot o.body t.tags k x.0 o.list t.are less x.1 in
    let trail = o.trails p is in
    record {
      tag = x.0;
      there = x.1;
      at = trail.0;
      trail = trail_then r.bounds (head_of r term.list) trail.0 p old mid viewed trail.1;
    }

-- a posting of the slot that has a trail
pub record OwedTrail (r : Reach) (term : SoughtTerm) (s : ViewState) (slot : ℕ) : Type 0 where
  pub at : ℕ
  pub p : PostingFields
  pub trail : HasBoundedTrail r.bounds s (head_of r term.list) at p
  pub from : 256 * slot ≤ p.key
  pub below : p.key < 256 * slot + 256

pub owed_trail : (r : Reach) (term : SoughtTerm) (s : ViewState) (slot : ℕ) → IsSlotOwed r term s slot
    → OwedTrail r term s slot
owed_trail r term s slot o =
    let t = owed_tags r term s slot o in
    let p = posting_at slot t.tags t.i term.tag in
    let is = is_posting r.volume.geometry term.list slot o.body t.tags t.i term.tag o.list t.are t.within t.there in
    let trail = o.trails p is in
    let key = posting_key slot t.tags t.i term.tag in
    record {
      at = trail.0;
      p = p;
      trail = trail.1;
      from = omega (arith, key);
      below = omega (arith, key, t.within, t.most);
    }

-- so the slot's number has 24 bits
pub owed_small : (r : Reach) (term : SoughtTerm) (s : ViewState) (slot : ℕ) → IsSlotOwed r term s slot
    → slot < 16777216
owed_small r term s slot o =
    let t = owed_trail r term s slot o in
    omega (arith, t.from, trail_fits t.trail)

-- what must not be passed must not be later
pub owed_on : (r : Reach) (term : SoughtTerm) (slot : ℕ) (s t : ViewState) → Viewed s t → IsSlotOwed r term s slot
    → IsSlotOwed r term t slot
owed_on r term slot s t viewed o = record {
  tells = told viewed o.tells;
  volume = subst (λ n. IsVolume n t.image r.volume.geometry) (sym viewed.cells) (volume_on viewed.image o.volume);
  list = o.list;
  body = o.body;
  postings = o.postings;
  tagged = o.tagged;
  trails = λ p is. let h = o.trails p is in
      (h.0, trail_then r.bounds (head_of r term.list) h.0 p s t viewed h.1);
}

-- blocks go on leading to blocks
pub leads_on : {old new : Image} {from to last block : ℕ} → Extends old new → Leads old from to last block
    → Leads new from to last block
leads_on e (arrived block same) = arrived block same
leads_on e (onwards block level digit target levels some digits led inside_from inside_to rest) =
    onwards block level digit target levels some digits (holds_on e led) inside_from inside_to (leads_on e rest)

-- and a list goes on vouching
pub vouched_on : (r : Reach) (term : SoughtTerm) (slot : ℕ) (old new : Image) → Extends old new
    → IsVouched r term old slot → IsVouched r term new slot
vouched_on r term slot old new e v = record {
  block = v.block;
  place = v.place;
  p = v.p;
  leads = leads_on e v.leads;
  in_places = v.in_places;
  holds = holds_on e v.holds;
  same_tag = v.same_tag;
  same_slot = v.same_slot;
}

-- and a slot that lists come to stays live
pub live_on : (r : Reach) (slot : ℕ) (s t : ViewState) → Viewed s t → IsLiveSlot r s slot → IsLiveSlot r t slot
live_on r slot s t viewed live = (
  live.0,
  live.1,
  λ tells.
      let d = live.2 (told_before viewed tells) in
      record {
        start = d.start;
        length = d.length;
        bytes = d.bytes;
        journal = d.journal;
        done = done_on viewed.image d.done;
      },
)

-- a kept document's slot must not be passed
pub kept_owed : (r : Reach) (terms : List SoughtTerm) (s : ViewState) (which : ℕ) (term : SoughtTerm) (d : Document)
    → IsTrue s.base.tells → IsVolume s.cells s.image r.volume.geometry → r.bounds.pool ≡ pool_at r.volume.geometry
    → slice_get terms which ≡ Some term → term.list < r.volume.geometry.lists
    → IsKept s.cells s.image r.volume.geometry d → HasTag r.volume.geometry d.body term.list term.tag
    → Owes r terms s which d.slot
kept_owed r terms s which term d tells volume pool there list kept tagged = record {
  term = term;
  there = there;
  owed = record {
    tells = tells;
    volume = volume;
    list = list;
    body = d.body;
    postings = kept.postings;
    tagged = tagged;
    trails = λ p is. let h = kept.trails term.list p (omega (arith, list)) (inl is) in
        (h.0, subst (λ n. Trail s.image n s.cells h.0 p (list_at r.volume.geometry term.list)) (sym pool) h.1);
  };
}
