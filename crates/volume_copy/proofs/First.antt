-- What a crash leaves of the target holds the first documents of the source.
use Rattle.std.proofs.Common.{◌≡◌, ◌≤◌, ◌<◌, ℕ, suc, List, [], ◌∷◌, ◌++◌, Option, Some, None, inl, inr, ⊎_elim, refl, sym, subst, arith, append-nil}
use Rattle.std.specs.Prelude.{Contains}
use Rattle.cell_types.specs.Image.{Between, Extends, Image}
use Rattle.cell_types.specs.Layout.{Layout, TakesStamps}
use Rattle.volume_meaning.specs.Documents.{AreDocuments, Document, IsDocument}
use Rattle.volume_meaning.specs.Slots.{HasStamp, IsStampOf, IsStamped}
use Rattle.volume_meaning.specs.Volumes.{IsVolume}
use Rattle.volume_meaning.proofs.Extending.{blank_before, holds_on, volume_on}
use Rattle.volume_meaning.proofs.Stamps.{one_stamp}
use Rattle.tamper_rules.specs.Settling.{After, Held, IsBlankOrSound, Sound, none, of_after}
use Rattle.tamper_rules.proofs.Between.{after_keeps, volume_of}
use Rattle.tamper_rules.proofs.DocumentLists.{documents_exist}
use Rattle.tamper_rules.proofs.GivenUp.{one_layout}
use Rattle.tamper_rules.proofs.HeldGrows.{held_first}
use Rattle.tamper_rules.proofs.SameDocuments.{spare_stood}
use Rattle.worm_device.specs.Calls.{Called}
use Rattle.worm_device.specs.State.{DeviceState, IsDevice, LeftSince}
use Rattle.worm_device.proofs.Elapsing.{elapses_of}
use Rattle.worm_device.proofs.Images.{extends_self}
use Rattle.crash_laws.specs.SettlingSteadiness.{HoldsOneOf, IsLeftWhole, IsSteady}
use Rattle.crash_laws.proofs.LeftWhole.{left_between}
use Rattle.command_laws.specs.Telling.{LeavesHeld}
use Rattle.volume_copy.specs.First as firsts
use Rattle.volume_copy.specs.First.{HoldsFirst, StaysFirst, first}
use Rattle.volume_copy.specs.Pairs.{ArePairs, SaysSame}
use Rattle.volume_copy.specs.declared.moved.Moved.{Moved}
use Rattle.volume_copy.proofs.PairLists.{pairs_on}

-- the first documents of longer pairs are pairs
pairs_first : (g h : Layout) (from to : Image) (target rest : List Document) (moved : List Moved) (source : List Document)
    → ArePairs g h from to (target ++ rest) moved source
    → (kept : List Moved) × ArePairs g h from to target kept source
pairs_first g h from to [] rest moved source are = ([], tt)
pairs_first g h from to (e ∷ target) rest [] source are = absurd are
pairs_first g h from to (e ∷ target) rest (m ∷ moved) [] are = absurd are
pairs_first g h from to (e ∷ target) rest (m ∷ moved) (d ∷ source) are =
    let behind = pairs_first g h from to target rest moved source are.3 in
    (m ∷ behind.0, (are.0, are.1, are.2, behind.1))

-- what a sound image holds has its stamps there
module _ {cells : ℕ} {image after : Image} {h : Layout} (volume : IsVolume cells image h) (is : After cells image after)
    {top : Image} (below : Extends image top) where
  stamp_below : (d : Document) → IsDocument cells after d.slot d.id d.body → (stamp : Option ℕ)
      → IsStampOf h top d.slot stamp → IsStampOf h image d.slot stamp
  stamp_below d document None of_top = of_top
  stamp_below d document (Some seconds) of_top =
      let stands = document.stands in
      let one : stands.layout ≡ h = one_layout {cells = cells} {more = cells} stands.layout h stands.volume
      (volume_on (after_keeps is) volume) in
      let stamped : IsStamped after d.slot = stands.done.commits.stamped
      (subst TakesStamps (sym one) of_top.0) in
      let there : HasStamp image d.slot stamped.seconds = record {
        cell = stamped.stamp.cell;
        stands = spare_stood is d.slot stamped.stamp.cell h
            (subst (λ (k : Layout). d.slot < k.slots) one stands.slot) volume stamped.stamp.stands;
        is = stamped.stamp.is;
      } in (
        of_top.0,
        subst (HasStamp image d.slot) (one_stamp top d.slot stamped.seconds seconds (holds_on below there) of_top.1) there,
      )

  pairs_below : (g : Layout) (from : Image) (target : List Document) (moved : List Moved) (source : List Document)
      → ((d : Document) → Contains target d → IsDocument cells after d.slot d.id d.body)
      → ArePairs g h from top target moved source → ArePairs g h from image target moved source
  pairs_below g from [] [] source each are = tt
  pairs_below g from [] (m ∷ moved) source each are = absurd are
  pairs_below g from (e ∷ target) [] source each are = absurd are
  pairs_below g from (e ∷ target) (m ∷ moved) [] each are = absurd are
  pairs_below g from (e ∷ target) (m ∷ moved) (d ∷ source) each are =
      let same : SaysSame g h from top d e = are.0 in (
        record {
          id = same.id;
          body = same.body;
          stamp = same.stamp;
          there = same.there;
          here = stamp_below e (each e (0, omega arith, refl)) same.stamp same.here;
        },
        are.1,
        are.2,
        pairs_below g from target moved source
            (λ x among. each x (suc among.0, omega (arith, among.1), among.2)) are.3,
      )

-- An image below one in which documents are pairs holds the first of them, with their stamps.
pub first_below : {more : ℕ} {from : Image} {cells : ℕ} {image top : Image} (g h : Layout)
    (source target rest : List Document) (moved : List Moved) → IsVolume more from g → IsVolume cells top h
    → AreDocuments more from source → ArePairs g h from top (target ++ rest) moved source → Extends image top
    → Held cells image target → HoldsFirst more from cells image
first_below g h source target rest moved there here those are below (none blank is) = firsts.none blank
first_below {more} {from} {cells} {image} {top} g h source target rest moved there here those are below
    (of_after after a documents) =
    let v = volume_of a in
    let one : v.0 ≡ h = one_layout {cells = cells} {more = cells} v.0 h (volume_on below v.1) here in
    let volume : IsVolume cells image h = subst (IsVolume cells image) one v.1 in
    let kept = pairs_first g h from top target rest moved source are in
    first g h source target kept.0 there volume those (of_after after a documents)
    (pairs_below volume a below g from target kept.0 source (λ d among. (documents.each d).1 among) kept.1)

-- an image that holds no document
first_of_none : {more : ℕ} {from : Image} {cells : ℕ} {image : Image} (g : Layout) (source : List Document)
    → IsVolume more from g → AreDocuments more from source → Held cells image [] → HoldsFirst more from cells image
first_of_none g source there those (none blank is) = firsts.none blank
first_of_none g source there those (of_after after a documents) =
    let v = volume_of a in
    first g v.0 source [] [] there v.1 those (of_after after a documents) tt

-- an image that is blank or sound holds a list of documents
held_exist : {cells : ℕ} {image : Image} → IsBlankOrSound cells image → (documents : List Document) × Held cells image documents
held_exist {cells} {image} whole = ⊎_elim
    (λ (blank : (cell : ℕ) → image cell ≡ None). ([], none blank refl))
    (λ (s : Sound cells image).
    let those = documents_exist cells s.after s.settled in (those.0, of_after s.after s.is those.1))
    whole

module _ {old : DeviceState} (device : IsDevice old) (steady : IsSteady old) where
  sound_image : IsBlankOrSound old.cells old.image
  sound_image = steady.each old.image (record { above = device.sure; below = extends_self old.image })

  sound_sure : IsBlankOrSound old.cells old.sure
  sound_sure = steady.each old.sure (record { above = extends_self old.sure; below = device.sure })

  -- what holds the documents of one of two holds the first ones of the source, as the greater does
  one_of_first : {more : ℕ} {from image top : Image} → Extends old.image top → Extends image top
      → HoldsOneOf old.cells old.sure old.image image → (g h : Layout) (source target : List Document) (moved : List Moved)
      → IsVolume more from g → IsVolume old.cells old.image h → AreDocuments more from source
      → Held old.cells old.image target → ArePairs g h from old.image target moved source
      → HoldsFirst more from old.cells image
  one_of_first {more} {from} {image} {top} grows below holds g h source target moved there here those held are =
      let paired : ArePairs g h from top target moved source =
      pairs_on g h (extends_self from) grows target moved source are in
      ⊎_elim
      (λ (low : (l : List Document) → Held old.cells old.sure l → Held old.cells image l).
      let sure = held_exist sound_sure in
      let begins = held_first old.cells old.sure old.image sure.0 target sound_sure sound_image device.sure sure.1 held in
      first_below g h source sure.0 begins.0 moved there (volume_on grows here) those
      (subst (λ (l : List Document). ArePairs g h from top l moved source) begins.1 paired) below (low sure.0 sure.1))
      (λ (high : (l : List Document) → Held old.cells old.image l → Held old.cells image l).
      first_below g h source target [] moved there (volume_on grows here) those
      (subst (λ (l : List Document). ArePairs g h from top l moved source) (sym (append-nil target)) paired) below
      (high target held))
      holds

  -- and none, where nothing stood
  one_of_none : {image : Image} → HoldsOneOf old.cells old.sure old.image image → ((cell : ℕ) → old.image cell ≡ None)
      → Held old.cells image []
  one_of_none {image} holds blank = ⊎_elim
      (λ (low : (l : List Document) → Held old.cells old.sure l → Held old.cells image l).
      low [] (none (λ cell. blank_before device.sure (blank cell)) refl))
      (λ (high : (l : List Document) → Held old.cells old.image l → Held old.cells image l). high [] (none blank refl))
      holds

-- whatever could be left of the target at entry
pub first_at_entry : {old : DeviceState} → IsDevice old → IsSteady old → {more : ℕ} {from : Image}
    → HoldsFirst more from old.cells old.image → (image : Image) → Between old.sure old.image image
    → HoldsFirst more from old.cells image
first_at_entry device steady (firsts.none blank) image between =
    firsts.none (λ cell. blank_before between.below (blank cell))
first_at_entry {old} device steady (first g h source target moved there here those held are) image between =
    one_of_first device steady (extends_self old.image) between.below (left_between old device steady image between).holds
    g h source target moved there here those held are

-- calls that add no document
pub first_of_held : {old new : DeviceState} → IsDevice old → Called old new → IsSteady old → LeavesHeld old new → {more : ℕ}
    {from : Image} (g : Layout) (source : List Document) → IsVolume more from g → AreDocuments more from source
    → HoldsFirst more from old.cells old.image → StaysFirst more from old new
first_of_held {old} {new} device called steady leaves {more} {from} g source there those holds since image le left = ⊎_elim inl
    (λ (b : Between old.sure new.image image). ⊎_elim inl
    (λ (l : IsLeftWhole old image). inr (by b l.holds holds))
    (leaves.stays.crashes since image le left))
    ((elapses_of called).adds since image le left)
  where
    by : Between old.sure new.image image → HoldsOneOf old.cells old.sure old.image image
        → HoldsFirst more from old.cells old.image → HoldsFirst more from old.cells image
    by b one (firsts.none blank) =
        first_of_none g source there those (one_of_none device steady one blank)
    by b one (first f h others target moved from_volume to_volume are held pairs) =
        one_of_first device steady called.image b.below one f h others target moved from_volume to_volume are held pairs

-- one row of calls after another
pub first_then : {a b : DeviceState} (c : DeviceState) {more : ℕ} {from : Image} → Called a b → StaysFirst more from a b
    → StaysFirst more from b c → StaysFirst more from a c
first_then {a} {b} c {more} {from} called one two since image le left = ⊎_elim
    (λ (before : LeftSince b since image). one since image le before)
    (λ (holds : HoldsFirst more from b.cells image).
    inr (subst (λ (k : ℕ). HoldsFirst more from k image) called.cells holds))
    (two since image (omega (arith, le, (elapses_of called).later)) left)

-- so it is of all that a crash could leave since
pub first_since : {old : DeviceState} (new : DeviceState) {more : ℕ} {from : Image} → IsDevice old → IsSteady old
    → HoldsFirst more from old.cells old.image → StaysFirst more from old new → (image : Image)
    → LeftSince new old.moment image → HoldsFirst more from old.cells image
first_since {old} new {more} {from} device steady holds stays image left = ⊎_elim
    (λ (before : LeftSince old old.moment image). ⊎_elim
    (λ (b : Between old.sure old.image image). first_at_entry device steady holds image b)
    (λ (m : (m : ℕ) × (old.moment ≤ m) × (m < old.moment) × Between (old.past m).sure (old.past m).image image).
    absurd (omega (arith, m.1, m.2)))
    before)
    (λ (is : HoldsFirst more from old.cells image). is)
    (stays old.moment image (omega arith) left)
