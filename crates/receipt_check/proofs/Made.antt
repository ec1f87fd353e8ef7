-- How the making of a receipt ends, over the look-up, what was slot_receipt, and evidence.
use Rattle.std.proofs.Common.{◌≡◌, ◌<◌, ℕ, List, None, Some, Result, Ok, Err, ap, sym, subst, inl, inr, arith, ◌∙◌}
use Rattle.std.specs.Prelude.{IsTrue, [], ◌∷◌}
use Rattle.cell_types.specs.Image.{Extends}
use Rattle.cell_types.specs.Layout.{Layout, done_at, list_at, pool_at}
use Rattle.cell_types.specs.declared.record_cell.RecordCell.TheVariants.{Done}
use Rattle.cell_types.specs.declared.refusal.Evidence.{Evidence}
use Rattle.cell_types.specs.declared.refusal.Refusal.{Refusal}
use Rattle.cell_types.specs.declared.refusal.Refusal.TheVariants.{Absent, DeviceFault, NoMemory, NotAVolume, NotFormatted, ReceiptTooLong, SinkFault, Tampered, WrongSize}
use Rattle.volume_meaning.specs.Documents.{IsIdentifier, Stands}
use Rattle.volume_meaning.specs.Volumes.{Holds}
use Rattle.volume_meaning.proofs.OneDocument.{one_document}
use Rattle.volume_meaning.specs.Blocks.{Trail}
use Rattle.volume_meaning.specs.Keeping.{IsKept, Kept}
use Rattle.volume_meaning.proofs.KeepingLaws.{kept_on}
use Rattle.host_ports.specs.Sinks.{SinkState}
use Rattle.tamper_rules.specs.Rules.{TrailRule, Trails}
use Rattle.tamper_rules.specs.declared.numbers.TheConstants.{MISSING_TRAIL}
use Rattle.tamper_rules.proofs.DocumentLists.{the_one}
use Rattle.tamper_rules.proofs.GivenUp.{one_layout}
use Rattle.worm_device.specs.Counts.{IsStill, Rose}
use Rattle.worm_device.specs.State.{DeviceState}
use Rattle.worm_device.specs.Views.{Viewed, seen_directly}
use Rattle.worm_device.proofs.Counting.{still_second}
use Rattle.worm_device.proofs.Elapsing.{called_then}
use Rattle.commit_record.specs.Licences.{IsLicensed}
use Rattle.record_query.specs.LookingUp.{IsFirstOfPath, IsLocated, IsLookUpRule, IsLookedUp, Locates, LookUpEnds, LooksUp, NamesLookUpEvidence, NamesLookUpRule}
use Rattle.kept_documents.specs.Kept.{KeepsNone, document_of}
use Rattle.kept_documents.proofs.Opening.{the_same}
use Rattle.receipt_text.specs.Listed.{listed_image}
use Rattle.receipt_text.specs.declared.receipt.Receipt.{Receipt}
use Rattle.receipt_check.specs.Judging.{IsSlotReceipt, LimitEnds}
use Rattle.receipt_check.specs.Making.{IsReceiptOf, IsUnkept, MakeEnds, MakesReceipt, NamesMakingEvidence, NamesMakingRule}
use Rattle.receipt_check.specs.Naming.{NamesUnkept}
use Rattle.receipt_check.proofs.Later.{comes_later, comes_to, kept_before, looked_up_later}
use Rattle.receipt_check.proofs.PathTrails.{first_trail}

-- a look-up does not name the rule of trails
not_of_trails : (number : ℕ) → IsLookUpRule number → number ≡ MISSING_TRAIL → ⊥
not_of_trails number (inl (inl (inl a))) is = omega (arith, a, is)
not_of_trails number (inl (inl (inr (inl a)))) is = omega (arith, a, is)
not_of_trails number (inl (inl (inr (inr a)))) is = omega (arith, a, is)
not_of_trails number (inl (inr (inl a))) is = omega (arith, a, is)
not_of_trails number (inl (inr (inr a))) is = omega (arith, a, is)
not_of_trails number (inr (inl a)) is = omega (arith, a, is)
not_of_trails number (inr (inr (inl a))) is = omega (arith, a, is)
not_of_trails number (inr (inr (inr (inl a)))) is = omega (arith, a, is)
not_of_trails number (inr (inr (inr (inr (inl a))))) is = omega (arith, a, is)
not_of_trails number (inr (inr (inr (inr (inr (inl a)))))) is = omega (arith, a, is)
not_of_trails number (inr (inr (inr (inr (inr (inr a)))))) is = omega (arith, a, is)

-- a sink of which nothing is asked
abbrev nothing : SinkState
nothing = record { held = None; faults = 0 }

-- nothing was found
module _ (id : List ℕ) (old new : DeviceState) where
  unlooked_ends : (refusal : Refusal) → LookUpEnds id old new nothing nothing (Err refusal)
      → NamesLookUpRule old (Err refusal) → MakeEnds id old new (Err refusal)
  unlooked_ends Absent ends rule = ends.1
  unlooked_ends (Tampered e) ends rule = λ tells.
      ((ends.1 tells).1, λ is. absurd (not_of_trails e.rule (rule tells) is))
  unlooked_ends DeviceFault ends rule = ends.0
  unlooked_ends SinkFault ends rule = absurd (omega (arith, ends.0))
  unlooked_ends NotFormatted ends rule = ends.1
  unlooked_ends (NotAVolume found) ends rule = ends.1
  unlooked_ends (WrongSize stated real) ends rule = ends.1
  unlooked_ends refusal ends rule = absurd ends

  unlooked_rule : (refusal : Refusal) → NamesLookUpRule old (Err refusal) → NamesMakingRule old (Err refusal)
  unlooked_rule (Tampered e) rule = λ tells. inl (rule tells)
  unlooked_rule refusal rule = tt

  unlooked_named : (refusal : Refusal) → NamesLookUpEvidence id old new (Err refusal)
      → NamesMakingEvidence id old new (Err refusal)
  unlooked_named (Tampered e) named = λ tells. inl (named tells)
  unlooked_named refusal named = tt

  pub unlooked : (refusal : Refusal) → Locates id old new (Err refusal) → MakesReceipt id old new (Err refusal)
  unlooked refusal locates =
      let looks : LooksUp id old new nothing nothing (Err refusal) = locates nothing in
      record {
        called = looks.called;
        comes = comes_to refusal looks.comes;
        ends = unlooked_ends refusal looks.ends looks.rule;
        rule = unlooked_rule refusal looks.rule;
        named = unlooked_named refusal looks.named;
      }

-- a document whose postings have their trails is kept where it is the first on its path
kept_by_trails : {id body : List ℕ} {n : ℕ} {new : DeviceState} (f : IsFirstOfPath id body n new)
    → TrailRule f.layout new.image n body → Kept new.cells new.image (document_of n id body ∷ [])
kept_by_trails {id} {body} {n} {new} f rule = record {
  layout = f.layout;
  volume = f.volume;
  each = λ d among. subst (IsKept new.cells new.image f.layout) (the_same (document_of n id body) d among) (record {
    stands = f.stands;
    postings = rule.postings;
    stamp = rule.stamp;
    is_stamp = rule.is_stamp;
    trails = λ l p below is.
        let t = rule.trails l p below is in
        (t.0, subst (λ (c : ℕ). Trail new.image (pool_at f.layout) c t.0 p (list_at f.layout l)) f.volume.size t.1);
    path = first_trail f.first;
  });
}

-- slot n was found
module _ (id : List ℕ) (n : ℕ) (old mid new : DeviceState) (looks : IsLocated id old mid n)
    (viewed : Viewed (seen_directly mid 0) (seen_directly new 0)) where
  told_mid : IsTrue old.tells → IsTrue mid.tells
  told_mid tells = subst IsTrue (sym looks.called.tells) tells

  looked : IsTrue old.tells → IsLookedUp id looks.body n old new
  looked tells = looked_up_later viewed looks.called.foreign_writes (looks.first tells)

  come : (result : Result Receipt Refusal) → MakeEnds id old new result → NamesMakingRule old result
      → NamesMakingEvidence id old new result → MakesReceipt id old new result
  come result ends rule named = record {
    called = called_then looks.called viewed.called;
    comes = comes_later viewed looks.comes;
    ends = ends;
    rule = rule;
    named = named;
  }

  -- memory lacked
  pub unmade : MakesReceipt id old new (Err NoMemory)
  unmade = come (Err NoMemory) (λ tells. (n, looks.body, looked tells)) tt tt

  -- a read failed
  pub unread : Rose mid.faults new.faults → MakesReceipt id old new (Err DeviceFault)
  unread rose = come (Err DeviceFault) (omega (arith, looks.called.faults, rose)) tt tt

  -- the receipt was slot_receipt
  module _ (r : Receipt) (g : IsSlotReceipt n id mid new r) where
    there : Stands new.cells (listed_image r.cells) r.slot r.identifier g.body
    there = (g.shows.each (document_of r.slot r.identifier g.body) (the_one (document_of r.slot r.identifier g.body))).stands

    stand : IsTrue old.tells → Extends (listed_image r.cells) new.image
    stand tells = g.stand (told_mid tells)

    same_body : IsTrue old.tells → looks.body ≡ g.body
    same_body tells =
        let kept = kept_on (stand tells) g.shows in
        let shown = (kept.each (document_of r.slot r.identifier g.body)
        (the_one (document_of r.slot r.identifier g.body))).stands in
        (one_document new.cells new.image n id looks.body id g.body (looked tells).first.stands
        (subst (λ (m : ℕ). Stands new.cells new.image m id g.body) g.slot
        (subst (λ (i : List ℕ). Stands new.cells new.image r.slot i g.body) g.identifier shown))).1

    receipt_of : IsReceiptOf id old new r
    receipt_of = record {
      identifier = g.identifier;
      listed = g.listed;
      body = g.body;
      first = λ tells. subst (λ (m : ℕ). IsLookedUp id g.body m old new) (sym g.slot)
          (subst (λ (b : List ℕ). IsLookedUp id b n old new) (same_body tells) (looked tells));
      shows = g.shows;
      stand = stand;
      needed = λ tells. g.needed (told_mid tells);
    }

    pub limited : IsIdentifier id → (result : Result Receipt Refusal) → LimitEnds r result → MakesReceipt id old new result
    limited is (Ok given) ends = subst (λ (x : Receipt). MakesReceipt id old new (Ok x)) (sym ends.0) (come (Ok r) (
      record {
        slot = there.done.done.is.well_formed;
        identifier = subst IsIdentifier (sym g.identifier) is;
        listed = g.listed;
        most = ends.1;
      },
      receipt_of,
    ) tt tt)
    limited is (Err (ReceiptTooLong count)) ends = come (Err (ReceiptTooLong count))
        (record { receipt = r; is = receipt_of; counted = ends.0; more = ends.1 }) tt tt
    limited is (Err refusal) ends = absurd ends

-- slot n was found, and is not kept
module _ (id : List ℕ) (n : ℕ) (old mid new : DeviceState) (looks : IsLocated id old mid n)
    (viewed : Viewed (seen_directly mid 0) (seen_directly new 0)) where
  none_now : IsTrue old.tells → KeepsNone (seen_directly mid 0) n id → (body : List ℕ)
      → IsStill mid.foreign_writes new.foreign_writes → Kept new.cells new.image (document_of n id body ∷ []) → ⊥
  none_now tells none body still kept = none body (kept_before viewed (document_of n id body ∷ []) still kept)

  still_since : IsStill old.foreign_writes new.foreign_writes → IsStill mid.foreign_writes new.foreign_writes
  still_since still = still_second looks.called.foreign_writes viewed.called.foreign_writes still

  first : IsTrue old.tells → IsLookedUp id looks.body n old new
  first tells = looked id n old mid new looks viewed tells

  no_trails : (tells : IsTrue old.tells) → KeepsNone (seen_directly mid 0) n id
      → IsStill old.foreign_writes new.foreign_writes → TrailRule (first tells).first.layout new.image n looks.body
      → ⊥
  no_trails tells none still rule = none_now tells none looks.body (still_since still)
      (kept_by_trails (first tells).first rule)

  unkept : (cell : ℕ) → cell ≡ done_at n → KeepsNone (seen_directly mid 0) n id → IsTrue old.tells
      → IsUnkept id old new cell
  unkept cell is none tells = record {
    slot = n;
    body = looks.body;
    first = first tells;
    done = is;
    before = λ other kept. none other (subst (λ (c : ℕ). Kept c mid.image (document_of n id other ∷ []))
        (sym looks.called.cells) (kept_on looks.called.image kept));
    alone = λ still rule. no_trails tells none still rule;
  }

  licensed : (e : Evidence) → e.rule ≡ MISSING_TRAIL → e.cell ≡ done_at n → new.image (done_at n) ≡ Some e.found
      → KeepsNone (seen_directly mid 0) n id → IsTrue old.tells → IsLicensed old new e
  licensed e rule cell stands none tells =
      let f = (first tells).first in
      let there : new.image e.cell ≡ Some e.found = ap new.image cell ∙ stands in
      let below : n < f.layout.slots = subst (λ (l : Layout). n < l.slots)
      (one_layout {cells = new.cells} {more = new.cells} f.stands.layout f.layout f.stands.volume f.volume) f.stands.slot in
      record {
        stands = there;
        layout = f.layout;
        volume = f.volume;
        place = (Trails, rule, (n, below, cell));
        broken = λ still. record {
          layout = f.layout;
          volume = f.volume;
          rule = Trails;
          named = rule;
          place = (n, below, cell);
          written = record { found = e.found; stands = there };
          not_met = λ met. no_trails tells none still (met n id looks.body cell
              (subst (λ (c : ℕ). Stands c new.image n id looks.body) (sym f.volume.size) f.stands));
        };
      }

  -- the done cell that says so stands
  done_there : (tells : IsTrue old.tells) → Holds new.image (done_at n) (Done n)
  done_there tells = (first tells).first.stands.done.done

  name : (refusal : Refusal) → (IsTrue old.tells → KeepsNone (seen_directly mid 0) n id) → NamesUnkept n refusal
      → MakesReceipt id old new (Err refusal)
  name (Tampered e) none names = come id n old mid new looks viewed (Err (Tampered e))
      (λ tells. (
        licensed e names.0 names.1
            ((done_there tells).stands ∙ ap (λ (c : List ℕ). Some c) ((done_there tells).is.same ∙ sym names.2))
            (none tells) tells,
        λ _. unkept e.cell names.1 (none tells) tells,
      )) (λ tells. inr names.0) (λ tells. inr names.0)
  name refusal none names = absurd names

-- slot n was found, and is not kept
pub named : (id : List ℕ) (n : ℕ) (old mid new : DeviceState) → IsLocated id old mid n
    → Viewed (seen_directly mid 0) (seen_directly new 0) → (IsTrue mid.tells → KeepsNone (seen_directly mid 0) n id)
    → (refusal : Refusal) → NamesUnkept n refusal → MakesReceipt id old new (Err refusal)
named id n old mid new looks viewed none refusal names =
    name id n old mid new looks viewed refusal
    (λ tells. none (subst IsTrue (sym looks.called.tells) tells)) names
