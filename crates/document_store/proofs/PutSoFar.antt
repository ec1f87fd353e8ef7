-- A body, so far as it was put, and a piece of it, so far as it was read.
use Rattle.std.proofs.Common.{◌≡◌, ◌<◌, ◌≤◌, ◌+◌, ℕ, List, [], ◌∷◌, ◌++◌, length, take, drop, Ok, Err, refl, sym, ap, ◌∙◌, subst, arith}
use Rattle.std.proofs.Math.ListN.{set}
use Rattle.std.proofs.Math.Seq.{drop-append_seam, take-append-add}
use Rattle.std.proofs.lemmas.List.{append_assoc, append-nil, length-append, length-drop, length-set, length-take, length-take-le, take_all, take_more_set, take-take}
use Rattle.std.specs.Prelude.{IsTrue}
use Rattle.volume_meaning.specs.Documents.{stored_bytes}
use Rattle.host_ports.specs.Sinks.{Gets, PutsPart, SinkState}
use Rattle.host_ports.proofs.Pieces.{gets_nothing, gets_then}
use Rattle.worm_device.specs.Counts.{Rose}
use Rattle.worm_device.specs.Views.{ViewState, Viewed}
use Rattle.worm_device.proofs.Resting.{viewed_self, viewed_then}
use Rattle.append_file.specs.Reading.{ByteEnds, HasRead, IsPosition}
use Rattle.append_file.specs.declared.piece.ContentFault.{ContentFault}
use Rattle.append_file.specs.declared.piece.ContentFault.TheVariants as contents
use Rattle.append_file.specs.declared.position.Position.{Position}
use Rattle.append_file.proofs.Spelled.{front_of, has_read_on}
use Rattle.document_store.specs.Heads.{IsHead, IsWholePart, id_of}
use Rattle.document_store.specs.Putting.{FillEnds, GotFront, PutFails, PutRestEnds, put_fault_of}
use Rattle.document_store.specs.declared.head.Head.{Head}
use Rattle.document_store.specs.declared.putting.PutFault.TheVariants.{SinkFault}
use Rattle.document_store.proofs.Holding.{whole_document}
use Rattle.document_store.proofs.Parsing.{first_is, none_broken, stored_fits}
use Rattle.document_store.proofs.SoFar.{BodySoFar, body_add, body_none, body_whole, head_fits}

-- the first k bytes of a piece were read
pub record FillSoFar (old now : ViewState) (p q : Position) (size k : ℕ) (piece : List ℕ) : Type 0 where
  pub viewed : Viewed old now
  pub faults : now.base.faults ≡ old.base.faults
  pub is : IsPosition q
  pub start : q.start ≡ p.start
  pub bytes : q.bytes ≡ p.bytes
  pub reads : now.base.reads + p.read ≤ old.base.reads + q.read
  pub size_is : length piece ≡ size
  pub read : (start bytes : ℕ) (given : List ℕ) → HasRead old start bytes p given
      → HasRead now start bytes q (given ++ take k piece)

pub fill_begins : (old : ViewState) (p : Position) (piece : List ℕ) → IsPosition p
    → FillSoFar old old p p (length piece) 0 piece
fill_begins old p piece is = record {
  viewed = viewed_self old;
  faults = refl;
  is = is;
  start = refl;
  bytes = refl;
  reads = omega arith;
  size_is = refl;
  read = λ start bytes given h. subst (HasRead old start bytes p) (sym (append-nil given)) h;
}

module _ {old now new : ViewState} {p q : Position} {size k : ℕ} {piece : List ℕ}
    (so_far : FillSoFar old now p q size k piece) (viewed : Viewed now new) (r : Position) where
  -- one more
  pub fill_more : (byte : ℕ) → k < size → IsPosition r → r.start ≡ q.start → r.bytes ≡ q.bytes
      → new.base.reads + q.read ≤ now.base.reads + r.read → ByteEnds now new q r (Ok byte)
      → FillSoFar old new p r size (k + 1) (set piece k byte)
  fill_more byte less is start bytes reads ends = record {
    viewed = viewed_then so_far.viewed viewed;
    faults = ends.0 ∙ so_far.faults;
    is = is;
    start = start ∙ so_far.start;
    bytes = bytes ∙ so_far.bytes;
    reads = omega (arith, so_far.reads, reads);
    size_is = length-set piece k byte ∙ so_far.size_is;
    read = λ s b given h. subst (HasRead new s b r)
        (append_assoc given (take k piece) (byte ∷ [])
        ∙ ap (λ (l : List ℕ). given ++ l) (sym (take_more_set piece k byte (omega (arith, less, so_far.size_is)))))
        (ends.1 s b (given ++ take k piece) (so_far.read s b given h));
  }

  -- the next one was not read
  pub fill_fails : (fault : ContentFault) → k < size → ByteEnds now new q r (Err fault)
      → FillEnds old new p r piece (Err fault)
  fill_fails contents.Broken less ends = (
    ends.0 ∙ so_far.faults,
    λ s b given h room tells.
        let count : length (take k piece) ≡ k = length-take-le k piece (omega (arith, less, so_far.size_is)) in
        ends.1 s b (given ++ take k piece) (so_far.read s b given h)
        (omega (arith, count, less, room, so_far.size_is, length-append given (take k piece)))
        (subst IsTrue (sym so_far.viewed.called.tells) tells),
  )
  fill_fails contents.ReadFault less ends = omega (arith, so_far.faults, ends)

-- all of them were
pub fill_whole : {old now : ViewState} {p q : Position} {size k : ℕ} {piece : List ℕ}
    → FillSoFar old now p q size k piece → size ≤ k → FillEnds old now p q piece (Ok tt)
fill_whole {now = now} {q = q} {k = k} {piece = piece} so_far most = (
  so_far.faults,
  λ s b given h.
      subst (λ (l : List ℕ). HasRead now s b q (given ++ l)) (take_all k piece (omega (arith, most, so_far.size_is)))
      (so_far.read s b given h),
)

-- what was read of a body is a front of that of each document that the part holds
pub body_front : (v : ViewState) (start bytes : ℕ) (p : Position) (h : Head) (got id body : List ℕ)
    → HasRead v start bytes p (stored_bytes (id_of h) got) → IsTrue v.base.tells → IsWholePart v start bytes id body
    → (got ≡ take (length got) body) × (length got ≤ length body)
body_front v start bytes p h got id body read tells w =
    let mine = id_of h in
    let d = whole_document v start bytes id body tells w in
    let n : length mine ≡ length id = first_is v start bytes p tells (length mine) (mine ++ got) read d in
    let whole : stored_bytes mine got ≡ take (length (stored_bytes mine got)) (stored_bytes id body) =
    front_of v start bytes p (stored_bytes mine got) read tells (stored_bytes id body) w.count
    (stored_fits id body w.identifier (w.told tells).0) (w.told tells).1 in
    let rest : mine ++ got ≡ take (length (mine ++ got)) (id ++ body) = ap (drop 1) whole in
    let count : length (mine ++ got) ≡ length id + length got =
    length-append mine got ∙ ap (λ (m : ℕ). m + length got) n in
    let same : got ≡ take (length got) body =
    sym (drop-append_seam mine got) ∙ ap (drop (length mine)) (rest ∙ ap (λ (m : ℕ). take m (id ++ body)) count)
    ∙ ap (λ (m : ℕ). drop m (take (length id + length got) (id ++ body))) n
    ∙ ap (drop (length id)) (take-append-add id body (length got)) ∙ drop-append_seam id (take (length got) body) in
    (same, omega (arith, ap length same, length-take (length got) body))

-- so many bytes of a body were read and put
pub record PutSoFar (old now : ViewState) (start bytes : ℕ) (p q : Position) (h : Head) (from to : SinkState) (k : ℕ)
    : Type 0 where
  pub read : BodySoFar old now start bytes p q h k
  pub gets : Gets from.held to.held read.body
  pub faults : to.faults ≡ from.faults
  pub most : k ≤ h.body_length

pub put_begins : {old : ViewState} {start bytes : ℕ} {p : Position} {h : Head} → IsHead old start bytes p h
    → (sink : SinkState) → PutSoFar old old start bytes p p h sink sink 0
put_begins {old} {start} {bytes} {p} {h} head sink = record {
  read = body_none old start bytes p h head (viewed_self old);
  gets = gets_nothing sink.held;
  faults = refl;
  most = omega arith;
}

module _ {old now new : ViewState} {start bytes : ℕ} {p q : Position} {h : Head} {from mid : SinkState} {k : ℕ}
    (head : IsHead old start bytes p h) (so_far : PutSoFar old now start bytes p q h from mid k)
    (viewed : Viewed now new) (r : Position) (piece : List ℕ) where
  -- what was put before a piece that was not read
  got_before : GotFront new start bytes from mid
  got_before = record {
    got = so_far.read.body;
    gets = so_far.gets;
    front = λ id body. body_front new start bytes q h so_far.read.body id body
        (has_read_on now new start bytes q _ viewed so_far.read.read);
  }

  -- a piece was not read
  pub piece_fails : (fault : ContentFault) → k + length piece ≤ h.body_length → FillEnds now new q r piece (Err fault)
      → PutFails start bytes old new from mid (put_fault_of fault)
  piece_fails contents.Broken room ends = (
    ends.0 ∙ so_far.read.faults,
    so_far.faults,
    got_before,
    λ tells.
        none_broken new.image start bytes
        (ends.1 start bytes (stored_bytes (id_of h) so_far.read.body) so_far.read.read
        (omega (arith, room, head.count, so_far.read.is_length, length-append (id_of h) so_far.read.body))
        (subst IsTrue (sym so_far.read.viewed.called.tells) tells)),
  )
  piece_fails contents.ReadFault room ends = (omega (arith, so_far.read.faults, ends), so_far.faults, got_before)

  module _ (is : IsPosition r) (reads : new.base.reads + q.read ≤ now.base.reads + r.read)
      (ends : FillEnds now new q r piece (Ok tt)) where
    -- it was read
    abbrev more : BodySoFar old new start bytes p r h (k + length piece)
    more = body_add old now new start bytes p q r h k (length piece) piece so_far.read viewed ends.0 is reads refl
        ends.1

    -- a piece was put
    pub put_more : (to : SinkState) (n : ℕ) → length piece ≡ n → k + n ≤ h.body_length
        → Gets mid.held to.held piece → to.faults ≡ mid.faults → PutSoFar old new start bytes p r h from to (k + n)
    put_more to n count room gets same = record {
      read = body_add old now new start bytes p q r h k n piece so_far.read viewed ends.0 is reads count ends.1;
      gets = gets_then from.held mid.held to.held so_far.read.body piece so_far.gets gets;
      faults = same ∙ so_far.faults;
      most = room;
    }

    -- or a part of it
    pub put_fails : (to : SinkState) → PutsPart piece mid to → PutFails start bytes old new from to SinkFault
    put_fails to puts =
        let xs = so_far.read.body in
        let n = puts.gets.0 in
        let got = xs ++ take n piece in
        let count : length got ≡ length xs + n =
        length-append xs (take n piece) ∙ ap (λ (m : ℕ). length xs + m) (length-take-le n piece puts.gets.1) in
        let less : length got ≤ length (xs ++ piece) = omega (arith, count, puts.gets.1, length-append xs piece) in (
          ends.0 ∙ so_far.read.faults,
          subst (λ (faults : ℕ). Rose faults to.faults) so_far.faults puts.faults,
          record {
            got = got;
            gets = gets_then from.held mid.held to.held xs (take n piece) so_far.gets puts.gets.2;
            front = λ id body tells w.
                let all = body_front new start bytes r h (xs ++ piece) id body more.read tells w in (
                  sym (take-append-add xs piece n) ∙ ap (λ (m : ℕ). take m (xs ++ piece)) (sym count)
                      ∙ ap (take (length got)) all.0 ∙ take-take (length got) (length (xs ++ piece)) body less,
                  omega (arith, less, all.1),
                );
          },
        )

-- the whole body was put
pub put_whole : {old now : ViewState} {start bytes : ℕ} {p q : Position} {h : Head} {from to : SinkState} {k : ℕ}
    → IsHead old start bytes p h → PutSoFar old now start bytes p q h from to k → h.body_length ≤ k
    → PutRestEnds start bytes h old now from to (Ok tt)
put_whole {old} {now} {start} {bytes} {p} {q} {h} {from} {to} {k} head so_far all =
    let at_end : k ≡ h.body_length = omega (arith, all, so_far.most) in
    let whole = subst (PutSoFar old now start bytes p q h from to) at_end so_far in (
      so_far.read.faults,
      so_far.faults,
      record {
        has = body_whole old now start bytes p q h (head_fits head) whole.read;
        gets = whole.gets;
      },
    )

-- a piece in the front of a buffer of so many bytes
pub piece_size : (count size : ℕ) (buffer piece : List ℕ) → length buffer ≡ size → count ≤ size
    → length piece ≡ length (take count buffer) → length piece ≡ count
piece_size count size buffer piece room less same = same ∙ length-take-le count buffer (omega (arith, less, room))

-- the buffer stays as long
pub buffer_size : (count size : ℕ) (buffer piece : List ℕ) → length buffer ≡ size → count ≤ size
    → length piece ≡ count → length (piece ++ drop count buffer) ≡ size
buffer_size count size buffer piece room less same =
    omega (arith, room, less, same, length-append piece (drop count buffer), length-drop count buffer)
