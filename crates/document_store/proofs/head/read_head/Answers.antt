-- What a head that is no document's shows, and how the identifier is read.
use Rattle.std.proofs.Common.{◌≡◌, ◌<◌, ◌≤◌, ◌+◌, ◌⊎◌, ◌∙◌, ℕ, [], length, take, inl, inr, refl, sym, subst, arith}
use Rattle.std.proofs.lemmas.List.{length-take-le}
use Rattle.std.specs.Prelude.{IsTrue}
use Rattle.cell_types.proofs.Passed.{handed}
use Rattle.volume_meaning.specs.declared.limits.TheConstants.{MAX_IDENTIFIER_BYTES}
use Rattle.document_store.proofs.Parsing.{none_first, none_long, none_byte}
use Rattle.document_store.proofs.SoFar.{HeadSoFar, fault_first, fault_on, head_none, head_more, head_whole}
use Rattle.document_store.proofs.head.read_head.Given.{Over}
use Rattle.document_store.proofs.head.read_head.Goals as goal
use Rattle.document_store.proofs.head.read_head.Goals.{After-read_byte-in-loop-k, then-id_length-eq0-via-then-id_length-eq0, then-id_length-eq0-via-else-id_length-eq0+then-from-gt-MAX_IDENTIFIER_BYTES, then-id_length-eq0-via-else-id_length-eq0+else-from-gt-MAX_IDENTIFIER_BYTES+then-before-bytes}

-- the first byte was not read
pub returns-in_err-id_length-clause-ends : goal.returns-in_err-id_length-clause-ends
returns-in_err-id_length-clause-ends g c =
    rw (handed c.from_residual.result c.in_err-id_length.field-0.0 c.from_residual.ensures.1)
    (fault_first c.args.start c.args.bytes (g.V.View.seen c.args.view.now) (g.V.View.seen c.read_byte.new.view)
    c.args.position.now c.read_byte.new.position c.in_err-id_length.field-0.0 c.requires.begins
    c.in_err-id_length.ensures.ends)

-- it is the length of no identifier
pub returns-then-id_length-eq0-clause-ends : goal.returns-then-id_length-eq0-clause-ends
returns-then-id_length-eq0-clause-ends g c = (
  c.in_ok-id_length.ensures.ends.0,
  λ tells.
      let n = c.in_ok-id_length.id_length in
      let new = g.V.View.seen c.read_byte.new.view in
      let out : (n ≡ 0) ⊎ ((MAX_IDENTIFIER_BYTES < n) ⊎ (c.args.bytes < 1 + n)) = elim c.then-id_length-eq0.branch [
        | then-id_length-eq0-via-then-id_length-eq0 w ↦ inl w.if-id_length-eq0.true
        | then-id_length-eq0-via-else-id_length-eq0+then-from-gt-MAX_IDENTIFIER_BYTES w ↦
            inr (inl (omega (arith, w.if-from-gt-MAX_IDENTIFIER_BYTES.true, w.from.ensures)))
        | then-id_length-eq0-via-else-id_length-eq0+else-from-gt-MAX_IDENTIFIER_BYTES+then-before-bytes w ↦
            inr (inr (omega (arith, w.if-before-bytes.true, c.from-before.ensures)))
      ] in
      none_first new c.args.start c.args.bytes c.read_byte.new.position
      (subst IsTrue (sym c.in_ok-id_length.ensures.viewed.called.tells) tells) n []
      (c.in_ok-id_length.ensures.ends.1 c.args.start c.args.bytes [] c.requires.begins) out,
)

-- it leaves more bytes than a body has
pub returns-then-body_length-clause-ends : goal.returns-then-body_length-clause-ends
returns-then-body_length-clause-ends g c = (
  c.in_ok-id_length.ensures.ends.0,
  λ tells.
      none_long (g.V.View.seen c.read_byte.new.view) c.args.start c.args.bytes c.read_byte.new.position
      (subst IsTrue (sym c.in_ok-id_length.ensures.viewed.called.tells) tells) c.in_ok-id_length.id_length []
      (c.in_ok-id_length.ensures.ends.1 c.args.start c.args.bytes [] c.requires.begins)
      (omega (arith, c.if-body_length.true, c.from-before.ensures)),
)

-- nothing of the identifier was read yet
pub loop-k-init : goal.loop-k-init
loop-k-init g c =
    head_none c.args.position.now c.in_ok-id_length.ensures.viewed c.in_ok-id_length.ensures.ends.0
    c.in_ok-id_length.ensures.is c.requires.none c.in_ok-id_length.ensures.reads
    (c.in_ok-id_length.ensures.ends.1 c.args.start c.args.bytes [] c.requires.begins) refl

-- the characters before this one were read
read_before : (g : Over) (c : After-read_byte-in-loop-k g) → (length (take c.loop-k.k c.loop-k.id) ≡ c.loop-k.k)
    × (c.loop-k.k < c.in_ok-id_length.id_length)
read_before g c =
    let less : c.loop-k.k < c.in_ok-id_length.id_length = omega (arith, c.loop-k-test.true, c.from-k-end.ensures) in
    let most : c.in_ok-id_length.id_length ≤ MAX_IDENTIFIER_BYTES =
    omega (arith, c.if-from-gt-MAX_IDENTIFIER_BYTES.false, c.from.ensures) in
    (length-take-le c.loop-k.k c.loop-k.id (omega (arith, less, most, c.loop-k.invariant.room)), less)

-- a character was not read
pub returns-in_err-byte-clause-ends : goal.returns-in_err-byte-clause-ends
returns-in_err-byte-clause-ends g c =
    let before = read_before g (goal.at.returns-in_err-byte-clause-ends g c).After-read_byte-in-loop-k in
    let inside : 1 + c.in_ok-id_length.id_length ≤ c.args.bytes =
    omega (arith, c.if-before-bytes.false, c.from-before.ensures) in
    rw (handed c.from_residual-in_err-byte.result c.in_err-byte.field-0.0 c.from_residual-in_err-byte.ensures.1)
    (fault_on (g.V.View.seen c.read_byte-in-loop-k.new.view) c.read_byte-in-loop-k.new.position
    c.in_err-byte.field-0.0 c.loop-k.invariant.viewed c.loop-k.invariant.faults c.loop-k.invariant.read
    (omega (arith, before.0, before.1, inside)) c.in_err-byte.ensures.ends)

-- it is none of an identifier
pub returns-then-not-is_ascii_graphic-clause-ends : goal.returns-then-not-is_ascii_graphic-clause-ends
returns-then-not-is_ascii_graphic-clause-ends g c = (
  c.in_ok-byte.ensures.ends.0 ∙ c.loop-k.invariant.faults,
  λ tells.
      let at = (goal.at.returns-then-not-is_ascii_graphic-clause-ends g c).After-read_byte-in-loop-k in
      let before = read_before g at in
      let told = subst IsTrue (sym c.in_ok-byte.ensures.viewed.called.tells)
      (subst IsTrue (sym c.loop-k.invariant.viewed.called.tells) tells) in
      none_byte (g.V.View.seen c.read_byte-in-loop-k.new.view) c.args.start c.args.bytes
      c.read_byte-in-loop-k.new.position told c.in_ok-id_length.id_length c.in_ok-byte.byte
      (take c.loop-k.k c.loop-k.id) (c.in_ok-byte.ensures.ends.1 c.args.start c.args.bytes _ c.loop-k.invariant.read)
      (omega (arith, before.0, before.1))
      c.if-not-is_ascii_graphic.ensures.cases,
)

-- one character more
pub loop-k-preserved : goal.loop-k-preserved
loop-k-preserved g c =
    let less : c.loop-k.k < MAX_IDENTIFIER_BYTES =
    omega (arith, c.loop-k-test.true, c.from-k-end.ensures, c.if-from-gt-MAX_IDENTIFIER_BYTES.false, c.from.ensures) in
    head_more c.in_ok-byte.byte c.loop-k.invariant c.in_ok-byte.ensures.viewed c.in_ok-byte.ensures.is
    c.in_ok-byte.ensures.reads c.in_ok-byte.ensures.ends less c.if-not-is_ascii_graphic.ensures.cases.0
    c.if-not-is_ascii_graphic.ensures.cases.1

-- the identifier was read
pub returns-clause-ends : goal.returns-clause-ends
returns-clause-ends g c =
    let n = c.in_ok-id_length.id_length in
    let old = g.V.View.seen c.args.view.now in
    let now = g.V.View.seen c.loop-k.view in
    let at_end : c.loop-k.k ≡ n = omega (arith, c.loop-k-test.false, c.loop-k.auto.k-end, c.from-k-end.ensures) in
    let so_far = subst (λ (k : ℕ). HeadSoFar old now c.args.start c.args.bytes c.loop-k.position n k c.loop-k.id) at_end
    c.loop-k.invariant in (
      c.loop-k.invariant.faults,
      head_whole so_far (omega (arith, c.if-id_length-eq0.false))
          (omega (arith, c.if-from-gt-MAX_IDENTIFIER_BYTES.false, c.from.ensures))
          (omega (arith, c.if-before-bytes.false, c.from-before.ensures)) (omega (arith, c.from-before.ensures))
          (omega (arith, c.if-body_length.false)),
    )
