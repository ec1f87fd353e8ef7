-- Lists of documents that are pairs, and one pair more.
use Rattle.std.proofs.Common.{◌≡◌, ◌≤◌, ◌<◌, ◌∙◌, ℕ, zero, suc, List, [], ◌∷◌, ◌++◌, Some, None, ⊎_elim, refl, sym, ap, subst, arith, length}
use Rattle.std.specs.Prelude.{Contains, slice_get, slice_index, take}
use Rattle.std.proofs.Math.Seq.{take-suc}
use Rattle.std.proofs.lemmas.List.{length_push, take_all}
use Rattle.std.proofs.lemmas.List.Elements.{Contains-push_cases}
use Rattle.std.proofs.lemmas.Option.{get_or_from_slice_get, slice_get-get_or, slice_get_within}
use Rattle.cell_types.specs.Image.{Extends, Image}
use Rattle.cell_types.specs.Layout.{Layout}
use Rattle.volume_meaning.specs.Documents.{Document, Stands}
use Rattle.volume_meaning.specs.Volumes.{IsVolume}
use Rattle.volume_meaning.proofs.Extending.{stands_on, volume_on}
use Rattle.volume_meaning.proofs.OneDocument.{one_document}
use Rattle.volume_meaning.proofs.Stamps.{stamp_on}
use Rattle.worm_device.specs.Calls.{Called}
use Rattle.worm_device.specs.State.{DeviceState}
use Rattle.volume_copy.specs.Pairs.{AreOfFirst, ArePairs, HoldSame, PairsHold, SaysSame, old_slots, slots_of}
use Rattle.volume_copy.specs.declared.moved.Moved.{Moved}

-- documents have as many slots
pub slots_length : (ds : List Document) → length (slots_of ds) ≡ length ds
slots_length [] = refl
slots_length (d ∷ ds) = ap suc (slots_length ds)

-- the document of a place has the slot of that place
pub slot_at : (ds : List Document) (k n : ℕ) → slice_get (slots_of ds) k ≡ Some n
    → (d : Document) × (slice_get ds k ≡ Some d) × (d.slot ≡ n)
slot_at [] k n e = absurd (no e)
  where
    no : None ≡ Some n → ⊥
    no e = cc
slot_at (d ∷ ds) zero n e = (d, refl, same e)
  where
    same : Some d.slot ≡ Some n → d.slot ≡ n
    same e = cc
slot_at (d ∷ ds) (suc k) n e = slot_at ds k n e

-- a document of a place is one of them
pub place_in : (ds : List Document) (k : ℕ) (d : Document) → slice_get ds k ≡ Some d → Contains ds d
place_in ds k d e = (k, slice_get_within ds k d e, get_or_from_slice_get ds k d d e)

-- the document of a place, by the slots of all of them
pub by_place : (ds : List Document) (slots : List ℕ) (k : ℕ) → slots_of ds ≡ slots → k < length slots
    → (d : Document) × (slice_get ds k ≡ Some d) × (d.slot ≡ slice_index slots k)
by_place ds slots k same less = slot_at ds k (slice_index slots k)
    (subst (λ (l : List ℕ). slice_get l k ≡ Some (slice_index slots k)) (sym same) (slice_get-get_or slots k 0 less))

module _ (g h : Layout) where
  pub same_on : {from from' to to' : Image} {d e : Document} → Extends from from' → Extends to to'
      → SaysSame g h from to d e → SaysSame g h from' to' d e
  same_on {from} {from'} {to} {to'} {d} {e} p q s = record {
    id = s.id;
    body = s.body;
    stamp = s.stamp;
    there = stamp_on g d.slot s.stamp p s.there;
    here = stamp_on h e.slot s.stamp q s.here;
  }

  -- pairs stay pairs
  pub pairs_on : {from from' to to' : Image} → Extends from from' → Extends to to' → (target : List Document)
      (moved : List Moved) (source : List Document) → ArePairs g h from to target moved source
      → ArePairs g h from' to' target moved source
  pairs_on p q [] [] source are = tt
  pairs_on p q [] (m ∷ moved) source are = absurd are
  pairs_on p q (e ∷ target) [] source are = absurd are
  pairs_on p q (e ∷ target) (m ∷ moved) [] are = absurd are
  pairs_on p q (e ∷ target) (m ∷ moved) (d ∷ source) are =
      (same_on p q are.0, are.1, are.2, pairs_on p q target moved source are.3)

  module _ (from to : Image) where
    -- one pair more, behind the others
    pub pairs_push : (target : List Document) (moved : List Moved) (source : List Document) (d e : Document) (m : Moved)
        → ArePairs g h from to target moved source → slice_get source (length moved) ≡ Some d
        → SaysSame g h from to d e → m.old ≡ d.slot → m.new ≡ e.slot
        → ArePairs g h from to (target ++ e ∷ []) (moved ++ m ∷ []) source
    pairs_push [] [] [] d e m are at same old new = absurd (no at)
      where
        no : None ≡ Some d → ⊥
        no x = cc
    pairs_push [] [] (f ∷ source) d e m are at same old new =
        let is : f ≡ d = one at in (
          subst (λ (x : Document). SaysSame g h from to x e) (sym is) same,
          old ∙ ap (λ (x : Document). x.slot) (sym is),
          new,
          tt,
        )
      where
        one : Some f ≡ Some d → f ≡ d
        one x = cc
    pairs_push [] (n ∷ moved) source d e m are at same old new = absurd are
    pairs_push (f ∷ target) [] source d e m are at same old new = absurd are
    pairs_push (f ∷ target) (n ∷ moved) [] d e m are at same old new = absurd are
    pairs_push (f ∷ target) (n ∷ moved) (x ∷ source) d e m are at same old new =
        (are.0, are.1, are.2, pairs_push target moved source d e m are.3 at same old new)

    -- there are as many, and no more than the source has
    pub pairs_long : (target : List Document) (moved : List Moved) (source : List Document)
        → ArePairs g h from to target moved source → (length target ≡ length moved) × (length moved ≤ length source)
    pairs_long [] [] source are = (refl, omega arith)
    pairs_long [] (m ∷ moved) source are = absurd are
    pairs_long (e ∷ target) [] source are = absurd are
    pairs_long (e ∷ target) (m ∷ moved) [] are = absurd are
    pairs_long (e ∷ target) (m ∷ moved) (d ∷ source) are =
        let rest = pairs_long target moved source are.3 in (ap suc rest.0, omega (arith, rest.1))

    -- a document of the source, and its pair
    pub record HasPair (target : List Document) (moved : List Moved) (d : Document) : Type 0 where
      pub e : Document
      pub pair : Moved
      pub e_in : Contains target e
      pub pair_in : Contains moved pair
      pub same : SaysSame g h from to d e
      pub old_is : pair.old ≡ d.slot
      pub new_is : pair.new ≡ e.slot

    pub pairs_have : (target : List Document) (moved : List Moved) (source : List Document) (d : Document)
        → ArePairs g h from to target moved source → length source ≤ length moved → Contains source d
        → HasPair target moved d
    pairs_have [] [] [] d are all (k, low, is) = absurd (omega (arith, low))
    pairs_have [] [] (f ∷ source) d are all among = absurd (omega (arith, all))
    pairs_have [] (m ∷ moved) source d are all among = absurd are
    pairs_have (e ∷ target) [] source d are all among = absurd are
    pairs_have (e ∷ target) (m ∷ moved) [] d are all among = absurd are
    pairs_have (e ∷ target) (m ∷ moved) (f ∷ source) d are all (zero, low, is) = record {
      e = e;
      pair = m;
      e_in = (zero, omega arith, refl);
      pair_in = (zero, omega arith, refl);
      same = subst (λ (x : Document). SaysSame g h from to x e) is are.0;
      old_is = are.1 ∙ ap (λ (x : Document). x.slot) is;
      new_is = are.2;
    }
    pairs_have (e ∷ target) (m ∷ moved) (f ∷ source) d are all (suc k, low, is) =
        let rest = pairs_have target moved source d are.3 (omega (arith, all)) (k, omega (arith, low), is) in
        record {
          e = rest.e;
          pair = rest.pair;
          e_in = (suc rest.e_in.0, omega (arith, rest.e_in.1), rest.e_in.2);
          pair_in = (suc rest.pair_in.0, omega (arith, rest.pair_in.1), rest.pair_in.2);
          same = rest.same;
          old_is = rest.old_is;
          new_is = rest.new_is;
        }

-- one pair more names one slot more of the source
old_push : (moved : List Moved) (m : Moved) → old_slots (moved ++ m ∷ []) ≡ old_slots moved ++ m.old ∷ []
old_push [] m = refl
old_push (n ∷ moved) m = ap (λ (l : List ℕ). n.old ∷ l) (old_push moved m)

pub first_push : (done : List ℕ) (moved : List Moved) (m : Moved) → length moved < length done
    → m.old ≡ slice_index done (length moved) → AreOfFirst done moved → AreOfFirst done (moved ++ m ∷ [])
first_push done moved m less is first =
    let more : suc (length moved) ≡ length (moved ++ m ∷ []) = omega (arith, length_push moved m) in
    old_push moved m ∙ ap (λ (l : List ℕ). l ++ m.old ∷ []) first
    ∙ ap (λ (n : ℕ). take (length moved) done ++ n ∷ []) is ∙ sym (take-suc done (length moved) 0 less)
    ∙ ap (λ (n : ℕ). take n done) more

-- each slot that is named is that of a pair
pair_of : (moved : List Moved) (n : ℕ) → Contains (old_slots moved) n → (m : Moved) × Contains moved m × (m.old ≡ n)
pair_of [] n (k, low, is) = absurd (omega (arith, low))
pair_of (m ∷ moved) n (zero, low, is) = (m, (zero, omega arith, refl), is)
pair_of (m ∷ moved) n (suc k, low, is) =
    let rest = pair_of moved n (k, omega (arith, low), is) in
    (rest.0, ((suc (rest.1).0, omega (arith, (rest.1).1), (rest.1).2)), rest.2)

-- with as many pairs as slots, they are of just these
pub all_first : (done : List ℕ) (moved : List Moved) → AreOfFirst done moved → length done ≤ length moved
    → old_slots moved ≡ done
all_first done moved first all = first ∙ take_all (length moved) done all

-- and each slot has one
pub pair_for : (done : List ℕ) (moved : List Moved) (n : ℕ) → AreOfFirst done moved → length done ≤ length moved
    → Contains done n → (m : Moved) × Contains moved m × (m.old ≡ n)
pair_for done moved n first all among = pair_of moved n
    (subst (λ (l : List ℕ). Contains l n) (sym (all_first done moved first all)) among)

-- the document that stands in the slot of a pair, and the one that it names in the target, are the same
pub stands_there : {s t : DeviceState} {old new : ℕ} → HoldSame s t old new → (d : Document) → old ≡ d.slot
    → Stands s.cells s.image d.slot d.id d.body → Stands t.cells t.image new d.id d.body
stands_there {s} {t} {old} {new} is d named stands =
    let one = one_document s.cells s.image d.slot is.d.id is.d.body d.id d.body
    (subst (λ (k : ℕ). Stands s.cells s.image k is.d.id is.d.body) (sym is.old_is ∙ named) is.there) stands in
    subst (λ (k : ℕ). Stands t.cells t.image k d.id d.body) (sym is.new_is)
    (subst (λ (x : List ℕ). Stands t.cells t.image is.e.slot x d.body) (is.same.id ∙ one.0)
    (subst (λ (x : List ℕ). Stands t.cells t.image is.e.slot is.e.id x) (is.same.body ∙ one.1) is.here))

-- documents that say the same go on doing so
pub hold_on : {s t u v : DeviceState} {old new : ℕ} → Called s t → Called u v → HoldSame s u old new → HoldSame t v old new
hold_on {s} {t} {u} {v} {old} {new} p q is = record {
  from_layout = is.from_layout;
  to_layout = is.to_layout;
  from_volume = subst (λ (k : ℕ). IsVolume k t.image is.from_layout) (sym p.cells) (volume_on p.image is.from_volume);
  to_volume = subst (λ (k : ℕ). IsVolume k v.image is.to_layout) (sym q.cells) (volume_on q.image is.to_volume);
  d = is.d;
  e = is.e;
  old_is = is.old_is;
  new_is = is.new_is;
  there = subst (λ (k : ℕ). Stands k t.image is.d.slot is.d.id is.d.body) (sym p.cells) (stands_on p.image is.there);
  here = subst (λ (k : ℕ). Stands k v.image is.e.slot is.e.id is.e.body) (sym q.cells) (stands_on q.image is.here);
  same = same_on is.from_layout is.to_layout p.image q.image is.same;
}

-- and with them those of all pairs
pub pairs_hold_on : {s t u v : DeviceState} → Called s t → Called u v → (moved : List Moved) → PairsHold s u moved
    → PairsHold t v moved
pairs_hold_on p q moved hold pair among = hold_on p q (hold pair among)

-- and one pair more
pub pairs_hold_push : {s u : DeviceState} (moved : List Moved) (m : Moved) → PairsHold s u moved
    → HoldSame s u m.old m.new → PairsHold s u (moved ++ m ∷ [])
pairs_hold_push {s} {u} moved m hold one pair among = ⊎_elim
    (λ (before : Contains moved pair). hold pair before)
    (λ (here : m ≡ pair). subst (λ (x : Moved). HoldSame s u x.old x.new) here one)
    (Contains-push_cases moved m pair among)
