-- The documents of one place were compared, and then those of all.
use Rattle.std.proofs.Common.{◌≡◌, ◌≤◌, ◌<◌, ◌+◌, ◌∙◌, ℕ, suc, List, [], ◌∷◌, ◌++◌, Option, Some, Result, Ok, Err, refl, sym, ap, subst, arith, length}
use Rattle.std.specs.Prelude.{Contains, IsTrue, get_or, slice_get, slice_index, take}
use Rattle.std.specs.Global.{Vec}
use Rattle.std.proofs.Math.Seq.{take-suc}
use Rattle.std.proofs.lemmas.List.{length_push}
use Rattle.std.proofs.lemmas.Option.{get_or_from_slice_get, slice_get_within}
use Rattle.cell_types.specs.Image.{Image}
use Rattle.cell_types.specs.Layout.{Layout}
use Rattle.cell_types.specs.declared.refusal.CopyRefusal.{CopyRefusal}
use Rattle.cell_types.specs.declared.refusal.CopyRefusal.TheVariants as copies
use Rattle.cell_types.specs.declared.refusal.Refusal.{Refusal}
use Rattle.cell_types.specs.declared.refusal.Refusal.TheVariants as refusals
use Rattle.volume_meaning.specs.Documents.{AreDocuments, Document, Stands}
use Rattle.volume_meaning.specs.Slots.{IsStampOf}
use Rattle.volume_meaning.specs.Volumes.{IsVolume}
use Rattle.volume_meaning.proofs.OneDocument.{one_document}
use Rattle.volume_meaning.proofs.Stamps as stamps
use Rattle.tamper_rules.proofs.DocumentLists.{documents_exist}
use Rattle.tamper_rules.proofs.GivenUp.{one_layout}
use Rattle.tamper_rules.proofs.Images.{same_image}
use Rattle.worm_device.specs.Calls.{Called}
use Rattle.worm_device.specs.State.{DeviceState, IsDevice}
use Rattle.worm_device.proofs.Elapsing.{called_then}
use Rattle.document_store.specs.Standing.{HoldsDocument}
use Rattle.document_store.proofs.Holding.{held_stands}
use Rattle.volume_copy.specs.Adding.{CanBeRead}
use Rattle.volume_copy.specs.Auditing.{IsWholeVolume, done_of}
use Rattle.volume_copy.specs.Comparing.{CompareVolumesEnds, ComparesAll, ComparesNext, FindsOther, FindsSame, IsSameCopy, NextPairEnds, ReadsBoth, WhereWhole}
use Rattle.volume_copy.specs.Alone.{AreAlone}
use Rattle.volume_copy.specs.Copies.{HoldOthers, IsFirstPast, IsFirstToDiffer}
use Rattle.volume_copy.specs.Pairs.{AgreeSoFar, AreOfFirst, ArePairs, CopiedSoFar, HoldSame, PairsHold, SaysSame}
use Rattle.volume_copy.specs.Reading.{HoldsCopy, IsOnlyRead, ReadingFails}
use Rattle.volume_copy.specs.Refusing.{refusal_from, refusal_to}
use Rattle.volume_copy.specs.declared.audited.AuditedVolume.{AuditedVolume}
use Rattle.volume_copy.specs.declared.moved.Moved.{Moved}
use Rattle.volume_copy.specs.declared.stored.StoredCopy.{StoredCopy}
use Rattle.volume_copy.proofs.AddedOn.{alone_first, alone_second, can_on, read_none, read_then, whole_on}
use Rattle.volume_copy.proofs.PairLists.{by_place, first_push, pairs_hold_on, pairs_hold_push, pairs_long, pairs_on, pairs_push, place_in, slots_length}
use Rattle.volume_copy.proofs.WholeVolumes.{reading_later}

-- one side could not be read
module _ (source target : AuditedVolume) (place : ℕ) (from from' to to' : DeviceState) where
  pub next_from : (refusal : Refusal) → ReadingFails from from' refusal
      → NextPairEnds source target place from from' to to' (Err (refusal_from refusal))
  next_from refusals.NoMemory fails = tt
  next_from refusal fails = fails

  pub next_to : (refusal : Refusal) → ReadingFails to to' refusal
      → NextPairEnds source target place from from' to to' (Err (refusal_to refusal))
  next_to refusals.NoMemory fails = tt
  next_to refusal fails = fails

-- documents of a device that was only read are its documents
on_images : {s t : DeviceState} (documents : List Document) → IsOnlyRead s t → t.image ≡ s.image
    → AreDocuments s.cells s.image documents → AreDocuments t.cells t.image documents
on_images {s} {t} documents read same are = subst (λ (k : ℕ). AreDocuments k t.image documents) (sym read.called.cells)
    (subst (λ (i : Image). AreDocuments s.cells i documents) (sym same) are)

volume_read : {s t : DeviceState} (g : Layout) → IsOnlyRead s t → t.image ≡ s.image → IsVolume s.cells s.image g
    → IsVolume t.cells t.image g
volume_read {s} {t} g read same volume = subst (λ (k : ℕ). IsVolume k t.image g) (sym read.called.cells)
    (subst (λ (i : Image). IsVolume s.cells i g) (sym same) volume)

-- what agrees goes on agreeing while both devices are only read
agree_on : {s t u v : DeviceState} {moved : List Moved} → IsOnlyRead s t → IsOnlyRead u v → AreAlone s t u v
    → AgreeSoFar s u moved → AgreeSoFar t v moved
agree_on {s} {t} {u} {v} {moved} p q alone a =
    let same_t : t.image ≡ s.image = same_image (p.only alone.from_alone) in
    let same_v : v.image ≡ u.image = same_image (q.only alone.to_alone) in
    record {
      from_layout = a.from_layout;
      to_layout = a.to_layout;
      from_volume = volume_read a.from_layout p same_t a.from_volume;
      to_volume = volume_read a.to_layout q same_v a.to_volume;
      source = a.source;
      target = a.target;
      those = on_images a.source p same_t a.those;
      these = on_images a.target q same_v a.these;
      some = a.some;
      pairs = pairs_on a.from_layout a.to_layout p.called.image q.called.image (take (length moved) a.target) moved
          a.source a.pairs;
    }

-- a copy of the document of a slot is the document of the list that has this slot
module _ {s : DeviceState} {volume : AuditedVolume} (can : CanBeRead s volume) (tells : IsTrue s.tells) (g : Layout)
    (is_volume : IsVolume s.cells s.image g) (documents : List Document) (are : AreDocuments s.cells s.image documents)
    (d : Document) (among : Contains documents d) (n : ℕ) (same : n ≡ d.slot) (copy : StoredCopy)
    (holds : HoldsCopy volume.volume.geometry s.image n copy) where
  one : volume.volume.geometry ≡ g
  one = one_layout {cells = s.cells} {more = s.cells} volume.volume.geometry g (can.is_volume tells) is_volume

  stands : Stands s.cells s.image d.slot copy.identifier copy.body.held
  stands = held_stands g s.cells s.image d.slot copy.identifier copy.body.held is_volume
      (subst (λ (m : ℕ). HoldsDocument g s.image m copy.identifier copy.body.held) same
      (subst (λ (k : Layout). HoldsDocument k s.image n copy.identifier copy.body.held) one holds.holds))

  pub copy_is : (copy.identifier ≡ d.id) × (copy.body.held ≡ d.body) × IsStampOf g s.image d.slot copy.stamp
  copy_is =
      let both = one_document s.cells s.image d.slot copy.identifier copy.body.held d.id d.body stands
      ((are.each d).1 among).stands in (
        both.0,
        both.1,
        subst (λ (m : ℕ). IsStampOf g s.image m copy.stamp) same
            (subst (λ (k : Layout). IsStampOf k s.image n copy.stamp) one holds.stamped),
      )

module _ {source target : AuditedVolume} {s u : DeviceState} (can_s : CanBeRead s source) (can_u : CanBeRead u target)
    (tells_s : IsTrue s.tells) (tells_u : IsTrue u.tells) (whole_s : IsWholeVolume s (done_of source))
    (whole_u : IsWholeVolume u (done_of target)) (moved : List Moved) (a : AgreeSoFar s u moved)
    (inside : length moved < length (done_of target)) where
  abbrev g : Layout
  g = a.from_layout

  abbrev h : Layout
  h = a.to_layout

  abbrev e_at : (e : Document) × (slice_get a.target (length moved) ≡ Some e)
      × (e.slot ≡ slice_index (done_of target) (length moved))
  e_at = by_place a.target (done_of target) (length moved) (whole_u.slots a.target a.these) inside

  pub past : length (done_of source) ≤ length moved → IsFirstPast s u (slice_index (done_of target) (length moved))
  past over = record {
    moved = moved;
    agree = a;
    all =
        let long = pairs_long g h s.image u.image (take (length moved) a.target) moved a.source a.pairs in
        let count : length a.source ≡ length (done_of source) =
        sym (slots_length a.source) ∙ ap (λ (l : List ℕ). length l) (whole_s.slots a.source a.those) in
        omega (arith, long.1, count, over);
    e = e_at.0;
    e_at = e_at.1;
    new_is = sym e_at.2;
  }

  module _ (within : length moved < length (done_of source)) (old new : ℕ)
      (read : ReadsBoth source target (length moved) s u old new) where
    abbrev d_at : (d : Document) × (slice_get a.source (length moved) ≡ Some d)
        × (d.slot ≡ slice_index (done_of source) (length moved))
    d_at = by_place a.source (done_of source) (length moved) (whole_s.slots a.source a.those) within

    old_is : old ≡ (d_at.0).slot
    old_is = read.old_is ∙ sym d_at.2

    new_is : new ≡ (e_at.0).slot
    new_is = read.new_is ∙ sym e_at.2

    one_is : (read.one.identifier ≡ (d_at.0).id) × (read.one.body.held ≡ (d_at.0).body)
        × IsStampOf g s.image (d_at.0).slot read.one.stamp
    one_is = copy_is can_s tells_s g a.from_volume a.source a.those d_at.0
        (place_in a.source (length moved) d_at.0 d_at.1) old old_is read.one (read.there tells_s)

    other_is : (read.other.identifier ≡ (e_at.0).id) × (read.other.body.held ≡ (e_at.0).body)
        × IsStampOf h u.image (e_at.0).slot read.other.stamp
    other_is = copy_is can_u tells_u h a.to_volume a.target a.these e_at.0
        (place_in a.target (length moved) e_at.0 e_at.1) new new_is read.other (read.here tells_u)

    pub differs : (IsSameCopy read.one read.other → ⊥) → IsFirstToDiffer s u old new
    differs other = record {
      moved = moved;
      agree = a;
      d = d_at.0;
      e = e_at.0;
      d_at = d_at.1;
      e_at = e_at.1;
      old_is = old_is;
      new_is = new_is;
      differ = λ says. other (record {
        identifier = one_is.0 ∙ sym says.id ∙ sym other_is.0;
        body = one_is.1 ∙ sym says.body ∙ sym other_is.1;
        stamp = stamps.one g s.image (d_at.0).slot read.one.stamp says.stamp one_is.2 says.there
            ∙ stamps.one h u.image (e_at.0).slot says.stamp read.other.stamp says.here other_is.2;
      });
    }

    says : IsSameCopy read.one read.other → SaysSame g h s.image u.image d_at.0 e_at.0
    says same = record {
      id = sym other_is.0 ∙ sym same.identifier ∙ one_is.0;
      body = sym other_is.1 ∙ sym same.body ∙ one_is.1;
      stamp = read.one.stamp;
      there = one_is.2;
      here = subst (λ (x : Option ℕ). IsStampOf h u.image (e_at.0).slot x) (sym same.stamp) other_is.2;
    }

    more_target : take (length moved) a.target ++ e_at.0 ∷ [] ≡ take (length moved + 1) a.target
    more_target =
        let low = slice_get_within a.target (length moved) e_at.0 e_at.1 in
        let step : take (suc (length moved)) a.target
        ≡ take (length moved) a.target ++ (get_or a.target (length moved) e_at.0 ∷ []) =
        take-suc a.target (length moved) e_at.0 low in
        let is : get_or a.target (length moved) e_at.0 ≡ e_at.0 =
        get_or_from_slice_get a.target (length moved) e_at.0 e_at.0 e_at.1 in
        let count : suc (length moved) ≡ length moved + 1 = omega arith in
        sym (ap (λ (n : ℕ). take n a.target) (sym count) ∙ step
        ∙ ap (λ (x : Document). take (length moved) a.target ++ x ∷ []) is)

    pub agrees : (pair : Moved) → pair.old ≡ old → pair.new ≡ new → IsSameCopy read.one read.other
        → AgreeSoFar s u (moved ++ pair ∷ [])
    agrees pair first second same = record {
      from_layout = g;
      to_layout = h;
      from_volume = a.from_volume;
      to_volume = a.to_volume;
      source = a.source;
      target = a.target;
      those = a.those;
      these = a.these;
      some =
          let low = slice_get_within a.target (length moved) e_at.0 e_at.1 in
          omega (arith, low, length_push moved pair);
      pairs = subst
          (λ (l : List Document). ArePairs g h s.image u.image l (moved ++ pair ∷ []) a.source)
          (more_target ∙ ap (λ (n : ℕ). take n a.target) (sym (length_push moved pair)))
          (pairs_push g h s.image u.image (take (length moved) a.target) moved a.source d_at.0 e_at.0 pair a.pairs
          d_at.1 (says same) (first ∙ old_is) (second ∙ new_is));
    }

-- documents that were read and are not the same stand in these slots
hold_others : {source target : AuditedVolume} {place : ℕ} {s u : DeviceState} → CanBeRead s source → CanBeRead u target
    → IsTrue s.tells → IsTrue u.tells → (old new : ℕ) → FindsOther source target place s u old new
    → HoldOthers s u old new
hold_others {source} {target} {place} {s} {u} can_s can_u s_tells u_tells old new finds =
    let read = finds.read in
    let there = read.there s_tells in
    let here = read.here u_tells in
    record {
      from_layout = source.volume.geometry;
      to_layout = target.volume.geometry;
      from_volume = can_s.is_volume s_tells;
      to_volume = can_u.is_volume u_tells;
      d = record { slot = old; id = read.one.identifier; body = read.one.body.held };
      e = record { slot = new; id = read.other.identifier; body = read.other.body.held };
      old_is = refl;
      new_is = refl;
      there = held_stands source.volume.geometry s.cells s.image old read.one.identifier read.one.body.held
          (can_s.is_volume s_tells) there.holds;
      here = held_stands target.volume.geometry u.cells u.image new read.other.identifier read.other.body.held
          (can_u.is_volume u_tells) here.holds;
      differ = λ says. finds.other (record {
        identifier = sym says.id;
        body = sym says.body;
        stamp = stamps.one source.volume.geometry s.image old read.one.stamp says.stamp there.stamped says.there
            ∙ stamps.one target.volume.geometry u.image new says.stamp read.other.stamp says.here here.stamped;
      });
    }

-- documents that were read and are the same say the same
hold_same : {source target : AuditedVolume} {place : ℕ} {s u : DeviceState} → CanBeRead s source → CanBeRead u target
    → IsTrue s.tells → IsTrue u.tells → (old new : ℕ) → FindsSame source target place s u old new → HoldSame s u old new
hold_same {source} {target} {place} {s} {u} can_s can_u s_tells u_tells old new finds =
    let read = finds.read in
    let there = read.there s_tells in
    let here = read.here u_tells in
    record {
      from_layout = source.volume.geometry;
      to_layout = target.volume.geometry;
      from_volume = can_s.is_volume s_tells;
      to_volume = can_u.is_volume u_tells;
      d = record { slot = old; id = read.one.identifier; body = read.one.body.held };
      e = record { slot = new; id = read.other.identifier; body = read.other.body.held };
      old_is = refl;
      new_is = refl;
      there = held_stands source.volume.geometry s.cells s.image old read.one.identifier read.one.body.held
          (can_s.is_volume s_tells) there.holds;
      here = held_stands target.volume.geometry u.cells u.image new read.other.identifier read.other.body.held
          (can_u.is_volume u_tells) here.holds;
      same = record {
        id = sym finds.same.identifier;
        body = sym finds.same.body;
        stamp = read.one.stamp;
        there = there.stamped;
        here = subst (λ (x : Option ℕ). IsStampOf target.volume.geometry u.image new x) (sym finds.same.stamp) here.stamped;
      };
    }

-- nothing was compared yet
agree_none : {source target : AuditedVolume} {s u : DeviceState} → CanBeRead s source → CanBeRead u target
    → IsTrue s.tells → IsTrue u.tells → IsWholeVolume s (done_of source) → IsWholeVolume u (done_of target) → AgreeSoFar s u []
agree_none {source} {target} {s} {u} can_s can_u tells_s tells_u whole_s whole_u =
    let those = documents_exist s.cells s.image whole_s.settled in
    let these = documents_exist u.cells u.image whole_u.settled in
    record {
      from_layout = source.volume.geometry;
      to_layout = target.volume.geometry;
      from_volume = can_s.is_volume tells_s;
      to_volume = can_u.is_volume tells_u;
      source = those.0;
      target = these.0;
      those = those.1;
      these = these.1;
      some = omega arith;
      pairs = tt;
    }

-- the documents before one place were compared
pub record ComparedSoFar (source target : AuditedVolume) (from now to there : DeviceState) (moved : List Moved) (place : ℕ)
    : Type 0 where
  pub from_read : IsOnlyRead from now
  pub to_read : IsOnlyRead to there
  pub count : length moved ≡ place
  pub agree : WhereWhole source target from now to there (AgreeSoFar now there moved)
  pub same : IsTrue from.tells → IsTrue to.tells → PairsHold now there moved
  pub first : AreOfFirst (done_of source) moved

pub compared_none : {source target : AuditedVolume} {from to : DeviceState} → CanBeRead from source → CanBeRead to target
    → ComparedSoFar source target from from to to [] 0
compared_none {source} {target} {from} {to} can_s can_u = record {
  from_read = read_none from;
  to_read = read_none to;
  count = refl;
  agree = λ alone whole_s whole_u. agree_none can_s can_u alone.from_tells alone.to_tells whole_s whole_u;
  same = λ from_tells to_tells pair among. absurd (omega (arith, among.1));
  first = refl;
}

module _ {source target : AuditedVolume} {from now to there : DeviceState} {moved : List Moved} {place : ℕ}
    (can_s : CanBeRead from source) (can_u : CanBeRead to target)
    (so_far : ComparedSoFar source target from now to there moved place) (device_now : IsDevice now)
    (device_there : IsDevice there) where
  -- the target has one more than the source
  pub compared_past : place < length (done_of target) → length (done_of source) ≤ place
      → ComparesAll source target from now to there (Err (copies.Longer (slice_index (done_of target) place)))
  compared_past inside over = record {
    from_read = so_far.from_read;
    to_read = so_far.to_read;
    same = tt;
    first = tt;
    ends = λ alone whole_s whole_u.
        subst (λ (n : ℕ). IsFirstPast now there (slice_index (done_of target) n)) so_far.count
        (past (can_on so_far.from_read.called can_s) (can_on so_far.to_read.called can_u)
        (subst IsTrue (sym so_far.from_read.called.tells) alone.from_tells)
        (subst IsTrue (sym so_far.to_read.called.tells) alone.to_tells)
        (whole_on device_now so_far.from_read alone.from_alone whole_s)
        (whole_on device_there so_far.to_read alone.to_alone whole_u) moved (so_far.agree alone whole_s whole_u)
        (omega (arith, so_far.count, inside)) (omega (arith, so_far.count, over)));
  }

  -- all were compared
  pub compared_all : (pairs : Vec Moved) → pairs.items ≡ moved → place ≡ length (done_of target)
      → ComparesAll source target from now to there (Ok pairs)
  compared_all pairs is at_end = record {
    from_read = so_far.from_read;
    to_read = so_far.to_read;
    same = subst (λ (l : List Moved). IsTrue from.tells → IsTrue to.tells → PairsHold now there l) (sym is) so_far.same;
    first = subst (λ (l : List Moved). AreOfFirst (done_of source) l) (sym is) so_far.first;
    ends = λ alone whole_s whole_u.
        let a = so_far.agree alone whole_s whole_u in
        let whole = whole_on device_there so_far.to_read alone.to_alone whole_u in
        let count : length a.target ≡ length (done_of target) =
        sym (slots_length a.target) ∙ ap (λ (l : List ℕ). length l) (whole.slots a.target a.these) in
        subst (λ (l : List Moved). CopiedSoFar now there l) (sym is) (record {
          agree = a;
          all = count ∙ sym at_end ∙ sym so_far.count;
          settled = whole.settled;
          sure = whole.sure;
        });
  }

  module _ {new then : DeviceState} (device_new : IsDevice new) (device_then : IsDevice then)
      (result : Result Moved CopyRefusal)
      (next : ComparesNext source target place now new there then result) where
    all_from : IsOnlyRead from new
    all_from = read_then so_far.from_read next.from_read

    all_to : IsOnlyRead to then
    all_to = read_then so_far.to_read next.to_read

    module _ (alone : AreAlone from new to then) (whole_s : IsWholeVolume from (done_of source))
        (whole_u : IsWholeVolume to (done_of target)) where
      before : AreAlone from now to there
      before = alone_first so_far.from_read.called next.from_read.called so_far.to_read.called next.to_read.called alone

      pub agree_then : AgreeSoFar new then moved
      agree_then = agree_on next.from_read next.to_read
          (alone_second so_far.from_read.called next.from_read.called so_far.to_read.called next.to_read.called alone)
          (so_far.agree before whole_s whole_u)

      pub whole_new : IsWholeVolume new (done_of source)
      whole_new = whole_on device_new all_from alone.from_alone whole_s

      pub whole_then : IsWholeVolume then (done_of target)
      whole_then = whole_on device_then all_to alone.to_alone whole_u

      pub tells_new : IsTrue new.tells
      tells_new = subst IsTrue (sym all_from.called.tells) alone.from_tells

      pub tells_then : IsTrue then.tells
      tells_then = subst IsTrue (sym all_to.called.tells) alone.to_tells

      -- the pair says the same
      pub one_more : place < length (done_of source) → place < length (done_of target) → (pair : Moved)
          → FindsSame source target place new then pair.old pair.new → AgreeSoFar new then (moved ++ pair ∷ [])
      one_more within inside pair finds =
          let f = subst (λ (n : ℕ). FindsSame source target n new then pair.old pair.new) (sym so_far.count) finds in
          agrees (can_on all_from.called can_s) (can_on all_to.called can_u) tells_new tells_then whole_new whole_then
          moved agree_then (omega (arith, so_far.count, inside)) (omega (arith, so_far.count, within)) pair.old pair.new
          f.read pair refl refl f.same

      -- it does not
      pub one_other : place < length (done_of source) → place < length (done_of target) → (old fresh : ℕ)
          → FindsOther source target place new then old fresh → IsFirstToDiffer new then old fresh
      one_other within inside old fresh finds =
          let f = subst (λ (n : ℕ). FindsOther source target n new then old fresh) (sym so_far.count) finds in
          differs (can_on all_from.called can_s) (can_on all_to.called can_u) tells_new tells_then whole_new whole_then
          moved agree_then (omega (arith, so_far.count, inside)) (omega (arith, so_far.count, within)) old fresh f.read
          f.other

pub compared_more : {source target : AuditedVolume} {from now to there new then : DeviceState} {moved : List Moved}
    {place : ℕ} → CanBeRead from source → CanBeRead to target
    → ComparedSoFar source target from now to there moved place → IsDevice now → IsDevice there → IsDevice new
    → IsDevice then → place < length (done_of source) → place < length (done_of target) → (pair : Moved)
    → ComparesNext source target place now new there then (Ok pair)
    → ComparedSoFar source target from new to then (moved ++ pair ∷ []) (place + 1)
compared_more {source} {moved = moved} can_s can_u so_far device_now device_there device_new device_then within inside
    pair next =
    record {
      from_read = read_then so_far.from_read next.from_read;
      to_read = read_then so_far.to_read next.to_read;
      count = length_push moved pair ∙ ap (λ (n : ℕ). n + 1) so_far.count;
      agree = λ alone whole_s whole_u. one_more can_s can_u so_far device_now device_there device_new device_then
          (Ok pair) next alone whole_s whole_u within inside pair next.ends;
      same = λ from_tells to_tells.
          let p = called_then so_far.from_read.called next.from_read.called in
          let q = called_then so_far.to_read.called next.to_read.called in
          pairs_hold_push moved pair
          (pairs_hold_on next.from_read.called next.to_read.called moved (so_far.same from_tells to_tells))
          (hold_same (can_on p can_s) (can_on q can_u) (subst IsTrue (sym p.tells) from_tells)
          (subst IsTrue (sym q.tells) to_tells) pair.old pair.new next.ends);
      first = first_push (done_of source) moved pair (omega (arith, so_far.count, within))
          (next.ends.read.old_is ∙ ap (λ (n : ℕ). slice_index (done_of source) n) (sym so_far.count)) so_far.first;
    }

-- one was not compared, or differs
pub compared_fails : {source target : AuditedVolume} {from now to there new then : DeviceState} {moved : List Moved}
    {place : ℕ} → CanBeRead from source → CanBeRead to target
    → ComparedSoFar source target from now to there moved place → IsDevice now → IsDevice there → IsDevice new
    → IsDevice then → place < length (done_of source) → place < length (done_of target) → (refusal : CopyRefusal)
    → ComparesNext source target place now new there then (Err refusal)
    → ComparesAll source target from new to then (Err refusal)
compared_fails {source} {target} {from} {now} {to} {there} {new} {then} {moved} {place} can_s can_u so_far device_now
    device_there device_new device_then within inside refusal next =
    record {
      from_read = read_then so_far.from_read next.from_read;
      to_read = read_then so_far.to_read next.to_read;
      same = tt;
      first = tt;
      ends = go refusal next.ends;
    }
  where
    go : (r : CopyRefusal) → NextPairEnds source target place now new there then (Err r)
        → CompareVolumesEnds source target from new to then (Err r)
    go (copies.Differs old fresh) finds = (
      λ from_tells to_tells.
          let p = called_then so_far.from_read.called next.from_read.called in
          let q = called_then so_far.to_read.called next.to_read.called in
          hold_others (can_on p can_s) (can_on q can_u) (subst IsTrue (sym p.tells) from_tells)
          (subst IsTrue (sym q.tells) to_tells) old fresh finds,
      λ alone whole_s whole_u. one_other can_s can_u so_far device_now device_there device_new device_then
          (Err refusal) next alone whole_s whole_u within inside old fresh finds,
    )
    go copies.NoMemory fails = tt
    go (copies.From refusals.NoMemory) fails = absurd fails
    go (copies.From r) fails = reading_later so_far.from_read.called next.from_read.called r fails
    go (copies.To refusals.NoMemory) fails = absurd fails
    go (copies.To r) fails = reading_later so_far.to_read.called next.to_read.called r fails
    go r fails = absurd fails

-- both documents of a place
abbrev pub reads_both : {source target : AuditedVolume} {place : ℕ} {from from' to to' : DeviceState} (old new : ℕ)
    → old ≡ slice_index (done_of source) place → new ≡ slice_index (done_of target) place → (one other : StoredCopy)
    → Called from from' → Called to to' → (IsTrue from.tells → HoldsCopy source.volume.geometry from'.image old one)
    → (IsTrue to.tells → HoldsCopy target.volume.geometry to'.image new other)
    → ReadsBoth source target place from' to' old new
reads_both old new old_is new_is one other p q there here = record {
  old_is = old_is;
  new_is = new_is;
  one = one;
  other = other;
  there = λ tells. there (subst IsTrue p.tells tells);
  here = λ tells. here (subst IsTrue q.tells tells);
}
