-- The rules in an image in which slot 0 alone is taken, and is done: what each of them takes there, and that the image
-- is settled where each is kept.
use Rattle.std.proofs.Common.{◌≡◌, ◌<◌, ◌≤◌, ◌+◌, inl, inr, ℕ, List, [], length, refl, sym, ◌∙◌, subst, ap, arith}
use Rattle.std.proofs.lemmas.Option.{none-some}
use Rattle.cell_types.specs.Image.{Image}
use Rattle.cell_types.specs.Layout.{Layout, done_at, outcome_at, pool_at}
use Rattle.cell_types.specs.declared.record_cell.RecordCell.{RecordCell}
use Rattle.cell_types.specs.declared.record_cell.RecordCell.TheVariants.{Reserve}
use Rattle.volume_meaning.specs.Documents.{Stands, document_at, stored_bytes}
use Rattle.volume_meaning.specs.Slots.{IsDone}
use Rattle.volume_meaning.specs.Volumes.{IsVolume, IsWritten}
use Rattle.volume_meaning.proofs.Holding.{one_record_holds}
use Rattle.volume_meaning.proofs.OneDocument.{reserves}
use Rattle.tamper_rules.specs.Journals.{CopiesIndexCell, IsInOrder, IsNamed, journal_at}
use Rattle.tamper_rules.specs.Rules
use Rattle.tamper_rules.specs.Rules.{Rule, IsMet, ReserveRule, OutcomeRule, DoneRule, HasDocument, JournalRule, RedoneRule, BlankRule, EntryRule, PostingRule, PointerRule, BucketRule, ChildRule, TrailRule, PathRule, TilingRule}
use Rattle.tamper_rules.specs.Settling.{Settled}
use Rattle.tamper_rules.proofs.GivenUp.{one_layout}
use Rattle.tamper_rules.proofs.GoingOn.{one_copy}
use Rattle.small_volume.proofs.OneSlot.{IsAlone, ended_alone, of_one, reserves_alone, stands_alone}

-- a place of slot 0's journal is in order, and its target holds what it holds
pub record IsRedone (g : Layout) (image : Image) (start size bytes journal place : ℕ) : Type 0 where
  pub order : IsInOrder g image 0 start size bytes journal place
  pub same : image order.target ≡ image (journal_at start size journal + place)

-- and so is each
abbrev pub AreRedone : Layout → Image → ℕ → ℕ → ℕ → ℕ → Type 0
AreRedone g image start size bytes journal =
    (place : ℕ) → place < journal → IsRedone g image start size bytes journal place

-- rule 1, of slot 0, whose cells are the first of the pool
pub reserve_rule : {g : Layout} {image : Image} {start size bytes journal : ℕ}
    → IsAlone g image start size bytes journal
    → start ≡ pool_at g → ReserveRule g image 0
reserve_rule {g} {image} {start} {size} a first = record {
  start = start;
  length = size;
  reserves = a.done.commits.reserves;
  begins = inl (refl, first);
  before = λ m is. absurd (omega (arith, is));
}

-- rule 2, of slot 0
pub outcome_rule : {g : Layout} {image : Image} {start size bytes journal : ℕ}
    → IsAlone g image start size bytes journal
    → OutcomeRule g image 0
outcome_rule {g} {image} {start} {size} {bytes} {journal} a =
    let c = a.done.commits in
    record {
      reserve = record { found = c.reserves.reserve.cell; stands = c.reserves.reserve.stands };
      outcome = inr (
        bytes,
        journal,
        c.outcome,
        λ at reserved h.
            let same = one_record_holds image 4 (Reserve start size) (Reserve at reserved) c.reserves.reserve h in
            omega (arith, (reserves start size at reserved same).1, c.fits),
        c.stamped,
      );
    }

-- rule 3, of slot 0
pub done_rule : {g : Layout} {image : Image} {start size bytes journal : ℕ} → IsAlone g image start size bytes journal
    → DoneRule image 0
done_rule {g} {image} {start} {size} {bytes} {journal} a =
    record { done = a.done.done; bytes = bytes; journal = journal; commit = a.done.commits.outcome }

-- rule 4, of slot 0: what stands there is spelt there
has_document : {g : Layout} {image : Image} {start size bytes journal : ℕ} {id body : List ℕ}
    → IsAlone g image start size bytes journal → IsVolume g.cells image g → Stands g.cells image 0 id body
    → HasDocument image (document_at start size bytes journal) bytes
has_document {g} {image} {start} {size} {bytes} {journal} {id} {body} a volume t =
    let same = one_layout t.layout g t.volume volume in
    let count : ℕ = length (stored_bytes id body) in
    let d = subst (λ (h : Layout). IsDone h image 0 t.start t.reserved count t.journal) same t.done in
    of_one a
    (λ n at reserved stored copies. HasDocument image (document_at at reserved stored copies) stored
    → HasDocument image (document_at start size bytes journal) bytes)
    (λ h. h) (record { commits = d.commits; done = inr d.done })
    (record {
      id = id;
      body = body;
      count = refl;
      spells = t.spells;
      is_identifier = t.is_identifier;
      is_body = t.is_body;
    })

-- rule 5
journal_rule : {g : Layout} {image : Image} {start size bytes journal : ℕ} → IsAlone g image start size bytes journal
    → AreRedone g image start size bytes journal → (cell : ℕ) → JournalRule g image cell
journal_rule {g} {image} a redone cell = record {
  copy = λ n at reserved stored copies place s below is. of_one a
      (λ n at reserved stored copies. place < copies → IsInOrder g image n at reserved stored copies place)
      (λ inside. (redone place inside).order) s below;
  commit = λ n at reserved stored copies place s below is. of_one a
      (λ n at reserved stored copies. place < copies → IsWritten image (journal_at at reserved copies + place))
      (λ inside.
      let c = (redone place inside).order.copies in
      record { found = c.entry; stands = c.stands })
      s below;
}

-- rule 6
redone_rule : {g : Layout} {image : Image} {start size bytes journal : ℕ} → IsAlone g image start size bytes journal
    → AreRedone g image start size bytes journal → (cell : ℕ) → RedoneRule g image cell
redone_rule {g} {image} {start} {size} {bytes} {journal} a redone cell = record {
  done = λ n at reserved stored copies place target copied d c is.
      of_one a
      (λ n at reserved stored copies. CopiesIndexCell image at reserved copies place target copied
      → image target ≡ image (journal_at at reserved copies + place))
      (λ c.
      let r = redone place c.below in
      let one = one_copy image start size journal place target r.order.target copied r.order.copied c
      r.order.copies in
      ap image one.1 ∙ r.same)
      (record { commits = d.commits; done = inr d.done }) c
      ∙ ap image (sym is);
  committed = λ n at reserved stored copies place target copied d c is.
      let first = reserves_alone a d.commits.reserves in
      absurd (none-some _ (sym d.done ∙ ap (λ (k : ℕ). image (done_at k)) first.0 ∙ a.done.done.stands));
}

-- what slot 0's journal copies is named
pub named_alone : {g : Layout} {image : Image} {start size bytes journal place cell : ℕ} {copied : RecordCell}
    → IsAlone g image start size bytes journal → CopiesIndexCell image start size journal place cell copied
    → IsNamed g image cell
named_alone {g} {image} {start} {size} {bytes} {journal} {place} {cell} {copied} a copies = record {
  m = 0;
  start = start;
  length = size;
  bytes = bytes;
  journal = journal;
  done = a.done;
  place = place;
  copied = copied;
  copies = copies;
}

-- where slot 0 has no block part, no done slot has one
pub no_blocks : {g : Layout} {image : Image} {start size bytes journal m at reserved stored copies : ℕ}
    → IsAlone g image start size bytes journal → document_at start size bytes journal ≡ start
    → IsDone g image m at reserved stored copies → (cell : ℕ) → at ≤ cell
    → cell < document_at at reserved stored copies → ⊥
no_blocks a none d cell = of_one a
    (λ n at reserved stored copies. at ≤ cell → cell < document_at at reserved stored copies → ⊥)
    (λ low high. omega (arith, none, low, high)) (record { commits = d.commits; done = inr d.done })

-- and so rule 15 has nothing to be tiled
tiling_rule : (image : Image) (start size bytes journal : ℕ) → document_at start size bytes journal ≡ start
    → TilingRule image start size bytes journal
tiling_rule image start size bytes journal none = record {
  targets = [];
  each = λ target. (λ h. absurd (omega (arith, none, h.1, h.2)), λ among. absurd (omega (arith, among.1)));
  tile = sym none;
}

-- What has to be shown of such an image beside its slot, so that each rule is kept at each written cell.
pub record KeepsRules (g : Layout) (image : Image) (start size bytes journal : ℕ) (id body : List ℕ) : Type 0 where
  pub alone : IsAlone g image start size bytes journal
  pub volume : IsVolume g.cells image g
  pub stands : Stands g.cells image 0 id body
  pub first : start ≡ pool_at g
  pub no_block : document_at start size bytes journal ≡ start
  pub outcome : (n : ℕ) → n < g.slots → IsWritten image (outcome_at n) → n ≡ 0
  pub done : (n : ℕ) → n < g.slots → IsWritten image (done_at n) → n ≡ 0
  pub redone : AreRedone g image start size bytes journal
  pub blank : (cell : ℕ) → IsWritten image cell → BlankRule g image cell
  pub entry : (cell : ℕ) → IsWritten image cell → EntryRule g image cell
  pub posting : (cell : ℕ) → IsWritten image cell → PostingRule g image cell
  pub pointer : (cell : ℕ) → IsWritten image cell → PointerRule g image cell
  pub bucket : (cell : ℕ) → IsWritten image cell → BucketRule g image cell
  pub child : (cell : ℕ) → IsWritten image cell → ChildRule g image cell
  pub trail : TrailRule g image 0 body
  pub path : PathRule g image 0 id

-- each rule, at each written cell
met : {g : Layout} {image : Image} {start size bytes journal : ℕ} {id body : List ℕ}
    → KeepsRules g image start size bytes journal id body → (rule : Rule) (cell : ℕ) → IsWritten image cell
    → IsMet g image rule cell
met {g} {image} {start} {size} {bytes} {journal} {id} {body} k = by
  where
    by : (rule : Rule) (cell : ℕ) → IsWritten image cell → IsMet g image rule cell
    by Rules.ReserveCells cell w = λ n inside at.
        subst (ReserveRule g image) (sym (k.alone.only n inside (subst (IsWritten image) at w)))
        (reserve_rule k.alone k.first)
    by Rules.OutcomeCells cell w = λ n inside at.
        subst (OutcomeRule g image) (sym (k.outcome n inside (subst (IsWritten image) at w))) (outcome_rule k.alone)
    by Rules.DoneCells cell w = λ n inside at.
        subst (DoneRule image) (sym (k.done n inside (subst (IsWritten image) at w))) (done_rule k.alone)
    by Rules.Documents cell w = λ n inside is at reserved stored copies s. of_one k.alone
        (λ n at reserved stored copies. HasDocument image (document_at at reserved stored copies) stored)
        (has_document k.alone k.volume k.stands) s
    by Rules.Journals cell w = journal_rule k.alone k.redone cell
    by Rules.Targets cell w = redone_rule k.alone k.redone cell
    by Rules.StrayCells cell w = k.blank cell w
    by Rules.Entries cell w = k.entry cell w
    by Rules.Postings cell w = k.posting cell w
    by Rules.Pointers cell w = k.pointer cell w
    by Rules.Buckets cell w = k.bucket cell w
    by Rules.Children cell w = k.child cell w
    by Rules.Trails cell w = λ n other more at t.
        let is = stands_alone k.alone k.volume k.stands t in
        subst (λ (m : ℕ). TrailRule g image m more) (sym is.0) (subst (TrailRule g image 0) (sym is.2) k.trail)
    by Rules.Paths cell w = λ n other more at t.
        let is = stands_alone k.alone k.volume k.stands t in
        subst (λ (m : ℕ). PathRule g image m other) (sym is.0) (subst (PathRule g image 0) (sym is.1) k.path)
    by Rules.Tilings cell w = λ n at reserved stored copies is d. of_one k.alone
        (λ n at reserved stored copies. TilingRule image at reserved stored copies)
        (tiling_rule image start size bytes journal k.no_block) (record { commits = d.commits; done = inr d.done })

-- so the image is settled
pub settled_alone : {g : Layout} {image : Image} {start size bytes journal : ℕ} {id body : List ℕ}
    → KeepsRules g image start size bytes journal id body → Settled g.cells image
settled_alone {g} k = record {
  layout = g;
  volume = k.volume;
  settled = record { met = met k; ended = λ u m h less. inr (ended_alone k.alone u m h less) };
}
