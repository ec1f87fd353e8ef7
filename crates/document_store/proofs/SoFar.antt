-- What was read in the middle of a head, and in the middle of a body.
use Rattle.std.proofs.Common.{◌≢◌, ◌≡◌, ◌<◌, ◌≤◌, ◌+◌, ◌-◌, ℕ, List, [], ◌∷◌, ◌++◌, length, take, refl, sym, ap, ◌∙◌, inl, inr, subst, arith, slice_index, Ok, Err, get_or-set_other, get_or-set_same, below_more}
use Rattle.std.proofs.Math.ListN.{set}
use Rattle.std.proofs.lemmas.List.{take_more_set, length-append, append_assoc, append-nil, length-take-le, get_or-take, length-set}
use Rattle.std.proofs.lemmas.Bool.{cases_lt}
use Rattle.std.specs.Prelude.{IsTrue}
use Rattle.volume_meaning.specs.Documents.{stored_bytes}
use Rattle.volume_meaning.specs.declared.limits.TheConstants.{MAX_IDENTIFIER_BYTES, MAX_BODY_BYTES}
use Rattle.worm_device.specs.Views.{ViewState, Viewed}
use Rattle.worm_device.proofs.Resting.{viewed_then}
use Rattle.append_file.specs.Reading.{IsPosition, HasRead, ByteEnds}
use Rattle.append_file.specs.declared.piece.ContentFault.{ContentFault}
use Rattle.append_file.specs.declared.piece.ContentFault.TheVariants.{Broken, ReadFault}
use Rattle.append_file.specs.declared.position.Position.{Position}
use Rattle.append_file.proofs.Spelled.{whole}
use Rattle.document_store.specs.Heads.{id_of, HeadFaultEnds, IsHead, IsHeadOf, HasBody}
use Rattle.document_store.specs.declared.head.Head.{Head}
use Rattle.document_store.proofs.Parsing.{none_broken, body_fits}

-- a read that failed, after a row of reads that did not
pub fault_on : {start bytes : ℕ} {old now : ViewState} {p : Position} {given : List ℕ} (new : ViewState) (q : Position)
    (fault : ContentFault) → Viewed old now → now.base.faults ≡ old.base.faults → HasRead now start bytes p given
    → length given < bytes → ByteEnds now new p q (Err fault) → HeadFaultEnds start bytes old new fault
fault_on {start} {bytes} {given = given} new q Broken before same h less ends = (
  ends.0 ∙ same,
  λ tells. none_broken new.image start bytes
      (ends.1 start bytes given h less (subst IsTrue (sym before.called.tells) tells)),
)
fault_on new q ReadFault before same h less ends = omega (arith, same, ends)

-- the first read failed
pub fault_first : (start bytes : ℕ) (old new : ViewState) (p q : Position) (fault : ContentFault)
    → HasRead old start bytes p [] → ByteEnds old new p q (Err fault) → HeadFaultEnds start bytes old new fault
fault_first start bytes old new p q Broken h ends = (
  ends.0,
  λ tells. elim (cases_lt 0 bytes) [
    | inl some ↦ none_broken new.image start bytes (ends.1 start bytes [] h some tells)
    | inr none ↦ λ d. absurd (omega (arith, none, d.count))
  ],
)
fault_first start bytes old new p q ReadFault h ends = ends

-- a fault after a row of reads that did not fail
pub fault_later : (start bytes : ℕ) (old mid new : ViewState) (fault : ContentFault) → Viewed old mid
    → mid.base.faults ≡ old.base.faults → HeadFaultEnds start bytes mid new fault → HeadFaultEnds start bytes old new fault
fault_later start bytes old mid new Broken before same ends =
    (ends.0 ∙ same, λ tells. ends.1 (subst IsTrue (sym before.called.tells) tells))
fault_later start bytes old mid new ReadFault before same ends = omega (arith, same, ends)

-- k bytes of the identifier were read
pub record HeadSoFar (old now : ViewState) (start bytes : ℕ) (p : Position) (n k : ℕ) (id : List ℕ) : Type 0 where
  pub viewed : Viewed old now
  pub faults : now.base.faults ≡ old.base.faults
  pub is : IsPosition p
  pub reads : now.base.reads ≤ old.base.reads + p.read
  pub read : HasRead now start bytes p (n ∷ take k id)
  pub room : length id ≡ MAX_IDENTIFIER_BYTES
  pub each : (i : ℕ) → i < k → (0x21 ≤ slice_index id i) × (slice_index id i ≤ 0x7E)

-- so many bytes of the body were read
pub record BodySoFar (old now : ViewState) (start bytes : ℕ) (p q : Position) (h : Head) (k : ℕ) : Type 0 where
  pub viewed : Viewed old now
  pub faults : now.base.faults ≡ old.base.faults
  pub is : IsPosition q
  pub reads : now.base.reads + p.read ≤ old.base.reads + q.read
  pub body : List ℕ
  pub is_length : length body ≡ k
  pub read : HasRead now start bytes q (stored_bytes (id_of h) body)

-- a head that was read is one of a document
pub head_fits : {v : ViewState} {start bytes : ℕ} {p : Position} {h : Head} → IsHead v start bytes p h
    → IsHeadOf bytes h
head_fits head = record {
  identifier = head.identifier;
  id_length = head.id_length;
  count = head.count;
  most = head.most;
  room = head.room;
}

-- all of them were
abbrev pub body_whole : (old now : ViewState) (start bytes : ℕ) (p q : Position) (h : Head)
    → IsHeadOf bytes h → BodySoFar old now start bytes p q h h.body_length → HasBody now start bytes h
body_whole old now start bytes p q h head so_far =
    let id = id_of h in
    let count : bytes ≡ length (stored_bytes id so_far.body) =
    omega (arith, head.count, so_far.is_length, length-append id so_far.body) in
    record {
      body = so_far.body;
      is_length = so_far.is_length;
      id_length = head.id_length;
      room = head.room;
      whole = record {
        count = count;
        identifier = head.identifier;
        most = omega (arith, head.most, so_far.is_length);
        told = λ tells.
            let all = whole now start bytes q (stored_bytes id so_far.body) so_far.read (sym count) tells in (
              record { bytes = body_fits id so_far.body all.0; most = omega (arith, head.most, so_far.is_length) },
              all.1,
            );
      };
    }

-- more of them, which were the next bytes
abbrev pub body_add : (old now new : ViewState) (start bytes : ℕ) (p q r : Position) (h : Head) (k n : ℕ)
    (piece : List ℕ) → BodySoFar old now start bytes p q h k → Viewed now new
    → new.base.faults ≡ now.base.faults → IsPosition r → new.base.reads + q.read ≤ now.base.reads + r.read
    → length piece ≡ n
    → ((start bytes : ℕ) (given : List ℕ) → HasRead now start bytes q given → HasRead new start bytes r (given ++
    piece))
    → BodySoFar old new start bytes p r h (k + n)
body_add old now new start bytes p q r h k n piece so_far viewed same is reads count ends = record {
  viewed = viewed_then so_far.viewed viewed;
  faults = same ∙ so_far.faults;
  is = is;
  reads = omega (arith, so_far.reads, reads);
  body = so_far.body ++ piece;
  is_length = omega (arith, so_far.is_length, count, length-append so_far.body piece);
  read = subst (HasRead new start bytes r)
      (ap (λ (l : List ℕ). length (id_of h) ∷ l) (append_assoc (id_of h) so_far.body piece))
      (ends start bytes (stored_bytes (id_of h) so_far.body) so_far.read);
}

-- one more
abbrev pub body_more : {old now new : ViewState} {start bytes : ℕ} {p q r : Position} {h : Head} {k : ℕ} (byte : ℕ)
    → BodySoFar old now start bytes p q h k → Viewed now new → IsPosition r
    → new.base.reads + q.read ≤ now.base.reads + r.read → ByteEnds now new q r (Ok byte)
    → BodySoFar old new start bytes p r h (k + 1)
body_more {old} {now} {new} {start} {bytes} {p} {q} {r} {h} {k} byte so_far viewed is reads ends =
    body_add old now new start bytes p q r h k 1 (byte ∷ []) so_far viewed ends.0 is reads refl ends.1

-- nothing of it yet
abbrev pub body_none : (old : ViewState) (start bytes : ℕ) (p : Position) (h : Head) → IsHead old start bytes p h
    → Viewed old old → BodySoFar old old start bytes p p h 0
body_none old start bytes p h head viewed = record {
  viewed = viewed;
  faults = refl;
  is = head.is;
  reads = omega arith;
  body = [];
  is_length = refl;
  read = subst (λ (l : List ℕ). HasRead old start bytes p (length (id_of h) ∷ l)) (sym (append-nil (id_of h)))
      head.read;
}

-- a byte of the body is left
pub body_left : (old now : ViewState) (start bytes : ℕ) (p q : Position) (h : Head) (k : ℕ)
    → IsHeadOf bytes h → (so_far : BodySoFar old now start bytes p q h k) → k < h.body_length
    → length (stored_bytes (id_of h) so_far.body) < bytes
body_left old now start bytes p q h k head so_far less =
    omega (arith, head.count, so_far.is_length, less, length-append (id_of h) so_far.body)

-- the length of the identifier was read
pub head_none : {old now : ViewState} {start bytes : ℕ} {q : Position} {n : ℕ} {id : List ℕ} (p : Position)
    → Viewed old now → now.base.faults ≡ old.base.faults → IsPosition q → p.read ≡ 0
    → now.base.reads + p.read ≤ old.base.reads + q.read → HasRead now start bytes q (n ∷ [])
    → length id ≡ MAX_IDENTIFIER_BYTES → HeadSoFar old now start bytes q n 0 id
head_none p viewed same is none reads read room = record {
  viewed = viewed;
  faults = same;
  is = is;
  reads = omega (arith, reads, none);
  read = read;
  room = room;
  each = λ i less. absurd (omega (arith, less));
}

-- one byte more
pub head_more : {old now new : ViewState} {start bytes : ℕ} {p q : Position} {n k : ℕ} {id : List ℕ} (byte : ℕ)
    → HeadSoFar old now start bytes p n k id → Viewed now new → IsPosition q
    → new.base.reads + p.read ≤ now.base.reads + q.read → ByteEnds now new p q (Ok byte) → k < MAX_IDENTIFIER_BYTES
    → 0x21 ≤ byte → byte ≤ 0x7E → HeadSoFar old new start bytes q n (k + 1) (set id k byte)
head_more {new = new} {start} {bytes} {q = q} {n} {k} {id} byte so_far viewed is reads ends less low high =
    let inside : k < length id = omega (arith, less, so_far.room) in
    record {
      viewed = viewed_then so_far.viewed viewed;
      faults = ends.0 ∙ so_far.faults;
      is = is;
      reads = omega (arith, so_far.reads, reads);
      read = subst (λ (l : List ℕ). HasRead new start bytes q (n ∷ l)) (sym (take_more_set id k byte inside))
          (ends.1 start bytes (n ∷ take k id) so_far.read);
      room = length-set id k byte ∙ so_far.room;
      each = below_more _ _
          (λ i before. let ne : i ≢ k = omega (arith, before) in rw get_or-set_other (so_far.each i before))
          (rw get_or-set_same (low, high));
    }

-- the identifier was read
pub head_whole : {old now : ViewState} {start bytes : ℕ} {p : Position} {n body_length : ℕ} {id : List ℕ}
    → HeadSoFar old now start bytes p n n id → 1 ≤ n → n ≤ MAX_IDENTIFIER_BYTES → 1 + n ≤ bytes
    → body_length ≡ bytes - (1 + n) → body_length ≤ MAX_BODY_BYTES
    → IsHead now start bytes p (record { id = id; id_length = n; body_length = body_length })
head_whole {now = now} {start} {bytes} {p} {n} {id = id} so_far some most less rest short =
    let count : length (take n id) ≡ n = length-take-le n id (omega (arith, most, so_far.room)) in
    record {
      is = so_far.is;
      identifier = record {
        some = omega (arith, count, some);
        most = omega (arith, count, most);
        each = λ i inside. let below : i < n = omega (arith, inside, count) in rw get_or-take (so_far.each i below);
      };
      read = subst (λ (m : ℕ). HasRead now start bytes p (m ∷ take n id)) (sym count) so_far.read;
      id_length = sym count;
      count = omega (arith, count, rest, less);
      most = short;
      room = most;
    }
