-- A body, read while its words are sought.
use Rattle.std.proofs.Common.{◌≡◌, ◌<◌, ◌≤◌, ◌+◌, ◌∙◌, ℕ, Bool, true, false, List, [], length, drop, Ok, Err, ap, arith, inl, inr, subst, sym}
use Rattle.std.proofs.lemmas.Bool.{cases_lt}
use Rattle.std.proofs.lemmas.List.{length-append, length-drop}
use Rattle.std.specs.Prelude.{IsTrue}
use Rattle.volume_meaning.specs.Documents.{stored_bytes}
use Rattle.volume_meaning.specs.declared.word_rules.WordRule.{WordRule}
use Rattle.worm_device.specs.Views.{ViewState, Viewed}
use Rattle.append_file.specs.Reading.{HasRead, IsPosition, NextRowEnds, at_start}
use Rattle.append_file.specs.declared.position.Position.{Position}
use Rattle.word_reader.specs.Matching.{FinishEnds, HasPushed, PushEnds}
use Rattle.word_reader.specs.declared.matcher.Matcher.{Matcher}
use Rattle.append_file.specs.declared.piece.ContentFault.{ContentFault}
use Rattle.append_file.specs.declared.piece.ContentFault.TheVariants.{Broken, ReadFault}
use Rattle.document_store.specs.Heads.{IsHeadOf, IsHeadOfRow, IsNoFront, id_of}
use Rattle.document_store.specs.declared.head.Head.{Head}
use Rattle.record_query.specs.Matching.{IsMatcherOf, KeepsTerms, PushNextEnds, Pushes, ReadMatch, ReadOther, SeekFails, seek_fault_of}
use Rattle.record_query.specs.declared.matching.SeekFault.{SeekFault}
use Rattle.record_query.specs.declared.matching.SeekFault.TheVariants as seeks
use Rattle.document_store.proofs.SoFar.{body_add, body_left, body_whole, BodySoFar}
use Rattle.document_store.proofs.Fronts.{none_by_front}
use Rattle.document_store.proofs.Naming.{spelled_none}
use Rattle.document_store.proofs.Parsing.{none_broken}

-- So many bytes of the body behind a head were read, and pushed to a matcher that had been cleared.
pub record SeekSoFar (old now : ViewState) (start bytes : ℕ) (q : Position) (h : Head) (m n : Matcher) (k : ℕ)
    : Type 0 where
  pub head : IsHeadOf bytes h
  pub read : BodySoFar old now start bytes (at_start start bytes) q h k
  pub pushed : (rule : WordRule) (terms : List (List ℕ)) → IsMatcherOf rule terms m
      → HasPushed n rule terms read.body

-- the bytes of the first row that stand behind the head
pub seek_first : (old now : ViewState) (start bytes first count : ℕ) (q : Position) (h : Head) (m cleared n : Matcher)
    (row rest : List ℕ) → Viewed old now → now.base.faults ≡ old.base.faults → IsPosition q
    → now.base.reads ≤ old.base.reads + q.read → HasRead now start bytes q row → IsHeadOfRow bytes row h
    → length row ≡ first → first ≡ 1 + h.id_length + count → rest ≡ drop (1 + h.id_length) row
    → ((rule : WordRule) (terms : List (List ℕ)) → IsMatcherOf rule terms m → HasPushed cleared rule terms [])
    → PushEnds cleared n rest (Ok tt) → SeekSoFar old now start bytes q h m n count
seek_first old now start bytes first count q h m cleared n row rest viewed same is reads read head long counted rest_is
    was pushed = record {
      head = head.head;
      read = record {
        viewed = viewed;
        faults = same;
        is = is;
        reads = omega (arith, reads);
        body = rest;
        is_length = ap length rest_is ∙ omega (arith, length-drop (1 + h.id_length) row, long, counted);
        read = subst (HasRead now start bytes q)
            (head.row_is ∙ ap (λ (l : List ℕ). stored_bytes (id_of h) l) (sym rest_is)) read;
      };
      pushed = λ rule terms is. pushed rule terms [] (was rule terms is);
    }

-- the next ones too
pub seek_on : (old now new : ViewState) (start bytes : ℕ) (q r : Position) (h : Head) (m n o : Matcher) (k count : ℕ)
    → SeekSoFar old now start bytes q h m n k → Viewed now new → IsPosition r
    → new.base.reads + q.read ≤ now.base.reads + r.read → Pushes now new q r n o count
    → SeekSoFar old new start bytes r h m o (k + count)
seek_on old now new start bytes q r h m n o k count so_far viewed is reads next = record {
  head = so_far.head;
  read = body_add old now new start bytes (at_start start bytes) q r h k count next.piece so_far.read viewed next.faults
      is reads next.is_length next.read;
  pushed = λ rule terms was. next.pushed rule terms so_far.read.body (so_far.pushed rule terms was);
}

-- no more of them are read than the body has
pub seek_within : (old now : ViewState) (start bytes : ℕ) (q : Position) (h : Head) (m n : Matcher) (k : ℕ)
    → SeekSoFar old now start bytes q h m n k → k ≤ h.body_length
seek_within old now start bytes q h m n k so_far =
    let count = so_far.read.read.count in
    omega (arith, so_far.head.count, so_far.read.is_length, count, length-append (id_of h) so_far.read.body)

-- the matcher is still one of its terms
pub still_theirs : (old now : ViewState) (start bytes : ℕ) (q : Position) (h : Head) (m n : Matcher) (k : ℕ)
    → SeekSoFar old now start bytes q h m n k → KeepsTerms m n
still_theirs old now start bytes q h m n k so_far =
    λ rule terms was. record { bytes = so_far.read.body; pushed = so_far.pushed rule terms was }

-- the next bytes were not read, or not pushed
pub row_unread : (v w : ViewState) (p q : Position) (m n : Matcher) (into : List ℕ) (fault : ContentFault)
    → NextRowEnds v w p q into (Err fault) → PushNextEnds v w p q m n (Err (seek_fault_of fault))
row_unread v w p q m n into Broken ends = ends
row_unread v w p q m n into ReadFault ends = ends

pub unpushed : (old now new : ViewState) (start bytes : ℕ) (q r : Position) (h : Head) (m n o : Matcher) (k : ℕ)
    (fault : SeekFault) → SeekSoFar old now start bytes q h m n k → k < h.body_length
    → PushNextEnds now new q r n o (Err fault) → SeekFails start bytes old new fault
unpushed old now new start bytes q r h m n o k seeks.Broken so_far less ends = (
  ends.0 ∙ so_far.read.faults,
  λ tells. spelled_none so_far.read.viewed.image
      (none_broken now.image start bytes
      (ends.1 start bytes (stored_bytes (id_of h) so_far.read.body) so_far.read.read
      (body_left old now start bytes (at_start start bytes) q h k so_far.head so_far.read less)
      (subst IsTrue (sym so_far.read.viewed.called.tells) tells))),
)
unpushed old now new start bytes q r h m n o k seeks.ReadFault so_far less ends =
    omega (arith, so_far.read.faults, ends)
unpushed old now new start bytes q r h m n o k (seeks.NoMemory lack) so_far less ends = ends ∙ so_far.read.faults

-- the first row was not read: a part without a cell holds no document, nor one with a broken cell
pub first_unread : (start bytes : ℕ) (old new : ViewState) (p q : Position) (into : List ℕ) (fault : ContentFault)
    → HasRead old start bytes p [] → NextRowEnds old new p q into (Err fault)
    → SeekFails start bytes old new (seek_fault_of fault)
first_unread start bytes old new p q into Broken begins ends = (
  ends.0,
  λ tells. elim (cases_lt 0 bytes) [
    | inl some ↦ none_broken old.image start bytes (ends.1 start bytes [] begins some tells)
    | inr none ↦ λ d. absurd (omega (arith, none, d.count))
  ],
)
first_unread start bytes old new p q into ReadFault begins ends = ends

-- what stands in the first row is no document's front
pub no_front : (start bytes : ℕ) (old new : ViewState) (q : Position) (row : List ℕ) → Viewed old new
    → new.base.faults ≡ old.base.faults → HasRead new start bytes q row → IsNoFront bytes row
    → SeekFails start bytes old new seeks.Broken
no_front start bytes old new q row viewed same read none = (
  same,
  λ tells. spelled_none viewed.image
      (none_by_front new start bytes q row read (subst IsTrue (sym viewed.called.tells) tells) none),
)

-- a document with the terms
pub seek_matches : (old now : ViewState) (start bytes : ℕ) (q : Position) (h : Head) (m n : Matcher) (matched : Bool)
    → SeekSoFar old now start bytes q h m n h.body_length → FinishEnds n (Ok matched) → matched ≡ true
    → ReadMatch now start bytes m h
seek_matches old now start bytes q h m n matched so_far finish has_all = record {
  has = body_whole old now start bytes (at_start start bytes) q h so_far.head so_far.read;
  matches = λ rule terms was. (finish rule terms so_far.read.body (so_far.pushed rule terms was)).0 has_all;
}

-- a document without them
pub seek_differs : (old now : ViewState) (start bytes : ℕ) (q : Position) (h : Head) (m n : Matcher) (matched : Bool)
    → SeekSoFar old now start bytes q h m n h.body_length → FinishEnds n (Ok matched) → matched ≡ false
    → ReadOther now start bytes m
seek_differs old now start bytes q h m n matched so_far finish lacks =
    let has = body_whole old now start bytes (at_start start bytes) q h so_far.head so_far.read in
    record {
      id = id_of h;
      body = has.body;
      whole = has.whole;
      differs = λ rule terms was matches. true_or (sym lacks
          ∙ (finish rule terms so_far.read.body (so_far.pushed rule terms was)).1 matches);
    }
  where
    true_or : false ≡ true → ⊥
    true_or e = cc
