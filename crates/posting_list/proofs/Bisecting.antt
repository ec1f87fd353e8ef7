-- Bisection finds the tag of a slot that must not be passed.
use Rattle.std.proofs.Common.{◌≡◌, ◌≢◌, ◌<◌, ◌≤◌, ◌+◌, ◌-◌, ◌*◌, ◌/◌, ◌^◌, ⊎_elim, ℕ, zero, suc, List, length, Some, None, Ok, Err, refl, ap, sym, arith, ◌∙◌}
use Rattle.std.specs.Prelude.{IsTrue, slice_get}
use Rattle.std.proofs.lemmas.Bool.{cases_eq, cases_lt}
use Rattle.byteorder.specs.Endian.{big_number}
use Rattle.cell_types.specs.declared.refusal.Fault.{Fault}
use Rattle.volume_meaning.specs.Blocks.{PostingFields}
use Rattle.worm_device.specs.Views.{ViewState, Viewed}
use Rattle.worm_device.proofs.Resting.{viewed_self, viewed_then}
use Rattle.jump_block.specs.Entries.{posting_of}
use Rattle.jump_block.specs.declared.held_entry.Entry.{Entry}
use Rattle.jump_index.specs.Searches.{FindsGeq}
use Rattle.jump_index.proofs.Telling.{told}
use Rattle.posting_list.specs.Owing.{IsSlotOwed}
use Rattle.posting_list.specs.Searches.{FindsPosting, Probes, head_of, within}
use Rattle.posting_list.specs.declared.reach.Reach.{Reach}
use Rattle.posting_list.specs.declared.sought_term.SoughtTerm.{SoughtTerm}
use Rattle.posting_list.proofs.Evidence.{find_fault, says_later}
use Rattle.posting_list.proofs.Owed.{OwedTags, ordinal_of, owed_tags, posting_at, posting_key, posting_last, posting_tag}

some_one : (a b : List ℕ) → Some a ≡ Some b → a ≡ b
some_one a b e = cc

-- a search's fault is the probe's
pub probe_fault : (r : Reach) (list key : ℕ) (old new : ViewState) (fault : Fault) → list < r.volume.geometry.lists
    → FindsGeq (within r) (head_of r list) key old new (Err fault) → Probes r list key old new (Err fault)
probe_fault r list key old new fault less found =
    record { viewed = found.viewed; ends = find_fault r list key old new fault (omega (arith, less)) found }

-- The ordinals from low up to high are left: where the slot must not be passed, the term's is one of them.
pub record HasSoFar (r : Reach) (term : SoughtTerm) (slot : ℕ) (old new : ViewState) (low high : ℕ) : Type 0 where
  pub viewed : Viewed old new
  pub most : high ≤ 256
  pub left : (o : IsSlotOwed r term old slot)
      → (t : OwedTags r term o.body) × (low ≤ t.i) × (t.i < high) × (high ≤ length t.tags)

module _ (r : Reach) (term : SoughtTerm) (slot : ℕ) (old mid new : ViewState) (viewed : Viewed old mid) where
  pub has_fault : (key : ℕ) (fault : Fault) → Probes r term.list key mid new (Err fault)
      → FindsPosting r term slot old new (Err fault)
  has_fault key fault probed = record {
    viewed = viewed_then viewed probed.viewed;
    ends = says_later r old mid new viewed probed.viewed fault probed.ends;
  }

  now_tells : IsTrue old.base.tells → IsTrue mid.base.tells
  now_tells tells = told viewed tells

  module _ (key k : ℕ) (is_key : key ≡ 256 * slot + k) where
    -- nothing stands under the key of this ordinal
    pub none_there : ((o : IsSlotOwed r term old slot) → (t : OwedTags r term o.body) × (k < length t.tags))
        → Probes r term.list key mid new (Ok None) → FindsPosting r term slot old new (Ok None)
    none_there t_of probed = record {
      viewed = viewed_then viewed probed.viewed;
      ends = λ o.
          let t = t_of o in
          let h = ordinal_of r term slot old mid viewed o t.0 k t.1 in
          probed.ends (now_tells o.tells) h.at (posting_at slot t.0.tags k h.tag) h.trail
          (posting_key slot t.0.tags k h.tag ∙ sym is_key);
    }

    -- what stands there is the posting of this ordinal
    pub one_there : (e : Entry) → Probes r term.list key mid new (Ok (Some e)) → (o : IsSlotOwed r term old slot)
        → (t : OwedTags r term o.body) → k < length t.tags
        → (e.last ≡ length t.tags - 1) × (slice_get t.tags k ≡ Some e.tag)
    one_there e probed o t less =
        let h = ordinal_of r term slot old mid viewed o t k less in
        let p = posting_at slot t.tags k h.tag in
        let same : p ≡ posting_of e = (probed.ends.2 (now_tells o.tells)).1 h.at p h.trail
        (posting_key slot t.tags k h.tag ∙ sym is_key) in (
          sym (ap (λ (q : PostingFields). q.last) same) ∙ posting_last slot t.tags k h.tag,
          h.there ∙ ap (λ (x : List ℕ). Some x)
              (sym (posting_tag slot t.tags k h.tag) ∙ ap (λ (q : PostingFields). q.tag) same),
        )

    -- the tag stands there
    pub found_there : (e : Entry) → k < 256 → Probes r term.list key mid new (Ok (Some e)) → e.tag ≡ term.tag
        → FindsPosting r term slot old new (Ok (Some e))
    found_there e small probed same = record {
      viewed = viewed_then viewed probed.viewed;
      ends = (
        omega (arith, probed.ends.0, is_key, small),
        same,
        probed.ends.1,
        λ tells. (probed.ends.2 (now_tells tells)).0,
      );
    }

-- what stands at an ordinal has another tag: the term's ordinal is not this one
not_here : (term : SoughtTerm) (e : Entry) (middle : ℕ) → e.tag ≢ term.tag → (tags : List (List ℕ)) (i : ℕ)
    → slice_get tags i ≡ Some term.tag → slice_get tags middle ≡ Some e.tag → i ≡ middle → ⊥
not_here term e middle differ tags i there here same =
    differ (some_one e.tag term.tag (sym here ∙ ap (λ n. slice_get tags n) (sym same) ∙ there))

-- the posting of ordinal 0 tells the last one, and where it has another tag, the term's ordinal is one behind it
pub has_first : (r : Reach) (term : SoughtTerm) (slot : ℕ) (old new : ViewState) (e : Entry) → e.last < 256
    → Probes r term.list (256 * slot) old new (Ok (Some e)) → e.tag ≢ term.tag
    → HasSoFar r term slot old new 1 (e.last + 1)
has_first r term slot old new e small probed differ = record {
  viewed = probed.viewed;
  most = omega (arith, small);
  left = λ o.
      let t = owed_tags r term old slot o in
      let one = one_there r term slot old old new (viewed_self old) (256 * slot) 0 (omega arith) e probed o t
      (omega (arith, t.within)) in (
        t,
        ⊎_elim
            (λ (same : t.i ≡ 0). absurd (not_here term e 0 differ t.tags t.i t.there one.1 same))
            (λ other. omega (arith, other))
            (cases_eq t.i 0),
        omega (arith, t.within, one.0),
        omega (arith, t.within, one.0),
      );
}

-- the posting of ordinal 0 has the tag
pub first_found : (r : Reach) (term : SoughtTerm) (slot : ℕ) (old new : ViewState) (e : Entry)
    → Probes r term.list (256 * slot) old new (Ok (Some e)) → e.tag ≡ term.tag
    → FindsPosting r term slot old new (Ok (Some e))
first_found r term slot old new e probed same =
    found_there r term slot old old new (viewed_self old) (256 * slot) 0 (omega arith) e (omega arith) probed same

pub first_missing : (r : Reach) (term : SoughtTerm) (slot : ℕ) (old new : ViewState)
    → Probes r term.list (256 * slot) old new (Ok None) → FindsPosting r term slot old new (Ok None)
first_missing r term slot old new probed =
    none_there r term slot old old new (viewed_self old) (256 * slot) 0 (omega arith)
    (λ o. let t = owed_tags r term old slot o in (t, omega (arith, t.within))) probed

module _ (r : Reach) (term : SoughtTerm) (slot : ℕ) (old mid new : ViewState) (low high middle : ℕ)
    (so_far : HasSoFar r term slot old mid low high) (from : low ≤ middle) (to : middle < high) where
  pub middle_missing : Probes r term.list (256 * slot + middle) mid new (Ok None)
      → FindsPosting r term slot old new (Ok None)
  middle_missing probed = none_there r term slot old mid new so_far.viewed (256 * slot + middle) middle refl
      (λ o. let t = so_far.left o in (t.0, omega (arith, t.3, to))) probed

  pub middle_found : (e : Entry) → Probes r term.list (256 * slot + middle) mid new (Ok (Some e)) → e.tag ≡ term.tag
      → FindsPosting r term slot old new (Ok (Some e))
  middle_found e probed same = found_there r term slot old mid new so_far.viewed (256 * slot + middle) middle refl e
      (omega (arith, to, so_far.most)) probed same

  module _ (e : Entry) (probed : Probes r term.list (256 * slot + middle) mid new (Ok (Some e)))
      (differ : e.tag ≢ term.tag) where
    -- a smaller tag: the term's is behind it
    pub go_up : big_number 6 e.tag < big_number 6 term.tag → HasSoFar r term slot old new (middle + 1) high
    go_up less = record {
      viewed = viewed_then so_far.viewed probed.viewed;
      most = so_far.most;
      left = λ o.
          let t = so_far.left o in
          let one = one_there r term slot old mid new so_far.viewed (256 * slot + middle) middle refl e probed o t.0
          (omega (arith, t.3, to)) in (
            t.0,
            ⊎_elim
                (λ (below : t.0.i < middle).
                let h : big_number 6 term.tag < big_number 6 e.tag = t.0.are.rise t.0.i middle term.tag e.tag below
                t.0.there one.1 in
                absurd (omega (arith, h, less)))
                (λ (le : middle ≤ t.0.i). ⊎_elim
                (λ (same : t.0.i ≡ middle). absurd (not_here term e middle differ t.0.tags t.0.i t.0.there one.1 same))
                (λ other. omega (arith, le, other))
                (cases_eq t.0.i middle))
                (cases_lt t.0.i middle),
            t.2,
            t.3,
          );
    }

    -- a greater tag: the term's is before it
    pub go_down : big_number 6 term.tag ≤ big_number 6 e.tag → HasSoFar r term slot old new low middle
    go_down less = record {
      viewed = viewed_then so_far.viewed probed.viewed;
      most = omega (arith, so_far.most, to);
      left = λ o.
          let t = so_far.left o in
          let one = one_there r term slot old mid new so_far.viewed (256 * slot + middle) middle refl e probed o t.0
          (omega (arith, t.3, to)) in (
            t.0,
            t.1,
            ⊎_elim
                (λ (below : t.0.i < middle). below)
                (λ (le : middle ≤ t.0.i). ⊎_elim
                (λ (same : t.0.i ≡ middle). absurd (not_here term e middle differ t.0.tags t.0.i t.0.there one.1 same))
                (λ other.
                let h : big_number 6 e.tag < big_number 6 term.tag = t.0.are.rise middle t.0.i e.tag term.tag
                (omega (arith, le, other)) one.1 t.0.there in
                absurd (omega (arith, h, less)))
                (cases_eq t.0.i middle))
                (cases_lt t.0.i middle),
            omega (arith, t.3, to),
          );
    }

-- no ordinal is left
pub none_left : (r : Reach) (term : SoughtTerm) (slot : ℕ) (old new : ViewState) (low high : ℕ)
    → HasSoFar r term slot old new low high → high ≤ low → FindsPosting r term slot old new (Ok None)
none_left r term slot old new low high so_far past = record {
  viewed = so_far.viewed;
  ends = λ o. let t = so_far.left o in omega (arith, t.1, t.2, past);
}

-- Fewer ordinals than two to some power are left, and so many searches more may be made.
pub record IsNarrowed (old now : ViewState) (low high : ℕ) : Type 0 where
  pub more : ℕ
  pub narrow : high < low + 2 ^ more
  pub reads : now.base.reads + 4096 * more ≤ old.base.reads + 36864

-- the first search is one of nine
pub narrowed_first : (old now : ViewState) (last high : ℕ) → last < 256 → high ≡ last + 1
    → now.base.reads ≤ old.base.reads + 4096 → IsNarrowed old now 1 high
narrowed_first old now last high small is reads = record {
  more = 8;
  narrow = omega (arith, small, is);
  reads = omega (arith, reads);
}

twice : (k : ℕ) → 2 ^ suc k ≡ 2 * 2 ^ k
twice k = grind arith

module _ (old now new : ViewState) (low high : ℕ) (less : low < high) (reads : new.base.reads ≤ now.base.reads + 4096)
  where
    -- one search more is left
    pub reads_more : IsNarrowed old now low high → new.base.reads ≤ old.base.reads + 36864
    reads_more n = by_more n.more n.narrow n.reads where
      by_more : (k : ℕ) → high < low + 2 ^ k → now.base.reads + 4096 * k ≤ old.base.reads + 36864
          → new.base.reads ≤ old.base.reads + 36864
      by_more zero narrow paid = absurd (omega (arith, narrow, less))
      by_more (suc k) narrow paid = omega (arith, reads, paid)

    -- and half of the ordinals
    pub narrowed_more : (from to : ℕ) → IsNarrowed old now low high → to ≤ from + (high - low) / 2
        → IsNarrowed old new from to
    narrowed_more from to n half = by_more n.more n.narrow n.reads where
      by_more : (k : ℕ) → high < low + 2 ^ k → now.base.reads + 4096 * k ≤ old.base.reads + 36864
          → IsNarrowed old new from to
      by_more zero narrow paid = absurd (omega (arith, narrow, less))
      by_more (suc k) narrow paid = record {
        more = k;
        narrow = omega (arith, half, narrow, twice k);
        reads = omega (arith, reads, paid);
      }
