-- How a slot's document is read while words are sought in it.
use Rattle.std.specs.Prelude.{◌≡◌, ◌<◌, ◌≤◌, ℕ, List, ◌++◌, length, Option, Some, None, Result, Ok, Err, IsTrue}
use Rattle.cell_types.specs.Image.{Image}
use Rattle.cell_types.specs.Layout.{Layout}
use Rattle.cell_types.specs.declared.refusal.Refusal.{Refusal}
use Rattle.cell_types.specs.declared.refusal.Refusal.TheVariants.{NoMemory}
use Rattle.volume_meaning.specs.Words.{Matches, rule_of}
use Rattle.volume_meaning.specs.declared.word_rules.WordRule.{WordRule}
use Rattle.worm_device.specs.Counts.{Rose}
use Rattle.worm_device.specs.Views.{ViewState}
use Rattle.append_file.specs.declared.piece.ContentFault.{ContentFault}
use Rattle.append_file.specs.declared.piece.ContentFault.TheVariants as contents
use Rattle.append_file.specs.Reading.{HasBroken, HasRead}
use Rattle.append_file.specs.declared.position.Position.{Position}
use Rattle.word_reader.specs.Matching.{HasPushed, PushEnds}
use Rattle.word_reader.specs.declared.matcher.Matcher.{Matcher}
use Rattle.document_store.specs.Heads.{HasBody, IsWholePart, SpellsNone}
use Rattle.document_store.specs.Looks.{LookRefuses}
use Rattle.document_store.specs.Standing.{HoldsDocument}
use Rattle.document_store.specs.declared.head.Head.{Head}
use Rattle.record_query.specs.declared.found.Match.{Match}
use Rattle.record_query.specs.declared.matching.SeekFault.{SeekFault}
use Rattle.record_query.specs.declared.matching.SeekFault.TheVariants as seeks

-- a matcher of these terms by this rule, whatever bytes were pushed to it
pub record IsMatcherOf (rule : WordRule) (terms : List (List ℕ)) (m : Matcher) : Type 0 where
  pub bytes : List ℕ
  pub pushed : HasPushed m rule terms bytes

-- a matcher stays one of its terms by its rule
abbrev pub KeepsTerms : Matcher → Matcher → Type 0
KeepsTerms old new =
    (rule : WordRule) (terms : List (List ℕ)) → IsMatcherOf rule terms old → IsMatcherOf rule terms new

-- why words are not sought, where bytes were not read
abbrev pub seek_fault_of : ContentFault → SeekFault
seek_fault_of contents.Broken = seeks.Broken
seek_fault_of contents.ReadFault = seeks.ReadFault

-- how seeking words in a document ends without an answer: a part that is broken held no document before
abbrev pub SeekFails : ℕ → ℕ → ViewState → ViewState → SeekFault → Type 0
SeekFails start bytes old new seeks.Broken =
    (new.base.faults ≡ old.base.faults) × (IsTrue old.base.tells → SpellsNone old.image start bytes)
SeekFails start bytes old new seeks.ReadFault = Rose old.base.faults new.base.faults
SeekFails start bytes old new (seeks.NoMemory lack) = new.base.faults ≡ old.base.faults

-- these many bytes, the next ones of a part, were read and pushed
pub record Pushes (v w : ViewState) (p q : Position) (m n : Matcher) (count : ℕ) : Type 0 where
  pub piece : List ℕ
  pub is_length : length piece ≡ count
  pub some : 1 ≤ count
  pub faults : w.base.faults ≡ v.base.faults
  pub read : (start bytes : ℕ) (given : List ℕ) → HasRead v start bytes p given
      → HasRead w start bytes q (given ++ piece)
  pub pushed : PushEnds m n piece (Ok tt)

-- How reading and pushing the next bytes of a part that has one more may end, and why. A cell that is found broken was
-- so before.
abbrev pub PushNextEnds
    : ViewState → ViewState → Position → Position → Matcher → Matcher → Result ℕ SeekFault → Type 0
PushNextEnds v w p q m n (Ok count) = Pushes v w p q m n count
PushNextEnds v w p q m n (Err seeks.Broken) =
    (w.base.faults ≡ v.base.faults)
    × ((start bytes : ℕ) (given : List ℕ) → HasRead v start bytes p given → length given < bytes
    → IsTrue v.base.tells → HasBroken v.image start bytes)
PushNextEnds v w p q m n (Err seeks.ReadFault) = Rose v.base.faults w.base.faults
PushNextEnds v w p q m n (Err (seeks.NoMemory lack)) = w.base.faults ≡ v.base.faults

-- a document was read that has the terms of a matcher
pub record ReadMatch (v : ViewState) (start bytes : ℕ) (m : Matcher) (h : Head) : Type 0 where
  pub has : HasBody v start bytes h
  pub matches : (rule : WordRule) (terms : List (List ℕ)) → IsMatcherOf rule terms m → Matches rule has.body terms

-- a document was read that does not have the terms of a matcher
pub record ReadOther (v : ViewState) (start bytes : ℕ) (m : Matcher) : Type 0 where
  pub id : List ℕ
  pub body : List ℕ
  pub whole : IsWholePart v start bytes id body
  pub differs : (rule : WordRule) (terms : List (List ℕ)) → IsMatcherOf rule terms m → Matches rule body terms → ⊥

-- How reading a document while the terms of a matcher are sought may end, and why. It answers the head of one that has
-- them.
abbrev pub SeekEnds : ℕ → ℕ → ViewState → ViewState → Matcher → Result (Option Head) SeekFault → Type 0
SeekEnds start bytes old new m (Ok (Some h)) =
    (new.base.faults ≡ old.base.faults) × ReadMatch new start bytes m h
SeekEnds start bytes old new m (Ok None) = (new.base.faults ≡ old.base.faults) × ReadOther new start bytes m
SeekEnds start bytes old new m (Err fault) = SeekFails start bytes old new fault

-- slot n holds a document that has the terms, by the volume's rule of words, and the match tells of it
pub record IsMatchIn (g : Layout) (image : Image) (n : ℕ) (terms : List (List ℕ)) (found : Match) : Type 0 where
  pub body : List ℕ
  pub slot_is : found.slot ≡ n
  pub holds : HoldsDocument g image n found.identifier body
  pub bytes_is : found.bytes ≡ length body
  pub matches : Matches (rule_of g.version) body terms

-- slot n holds a document that lacks one of the terms, by the volume's rule of words
pub record HoldsOther (g : Layout) (image : Image) (n : ℕ) (terms : List (List ℕ)) : Type 0 where
  pub id : List ℕ
  pub body : List ℕ
  pub holds : HoldsDocument g image n id body
  pub lacks : Matches (rule_of g.version) body terms → ⊥

-- How looking for the terms in the document of slot n, which is done, may end, and why: it has them, or lacks one.
abbrev pub SlotEnds : Layout → ℕ → List (List ℕ) → ViewState → ViewState → Result (Option Match) Refusal → Type 0
SlotEnds g n terms old new (Ok (Some found)) =
    (new.base.faults ≡ old.base.faults) × (IsTrue old.base.tells → IsMatchIn g new.image n terms found)
SlotEnds g n terms old new (Ok None) =
    (new.base.faults ≡ old.base.faults) × (IsTrue old.base.tells → HoldsOther g new.image n terms)
SlotEnds g n terms old new (Err NoMemory) = new.base.faults ≡ old.base.faults
SlotEnds g n terms old new (Err refusal) = LookRefuses g n old new refusal
