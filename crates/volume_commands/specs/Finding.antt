-- The command `find`: it searches the documents of the volume for words, and puts out which have them all.
use Rattle.std.specs.Prelude.{◌≡◌, ◌<◌, ◌≤◌, ◌+◌, ◌-◌, ℕ, List, [], ◌∷◌, length, slice_get, Contains, Some, Result, Ok, Err, IsTrue, ⊤}
use Rattle.std.specs.Global.{Vec}
use Rattle.cell_types.specs.Layout.{Layout}
use Rattle.cell_types.specs.declared.refusal.Refusal.{Refusal}
use Rattle.cell_types.specs.declared.refusal.Refusal.TheVariants.{BadWord, NoMemory}
use Rattle.volume_meaning.specs.Words.{AreWords, rule_of}
use Rattle.volume_meaning.specs.declared.word_rules.WordRule.{WordRule}
use Rattle.volume_meaning.specs.Documents.{Document}
use Rattle.volume_meaning.specs.Keeping.{Kept}
use Rattle.worm_device.specs.Counts.{IsStill}
use Rattle.worm_device.specs.State.{DeviceState}
use Rattle.record_query.specs.Finding.{FindsAllOf, Searches}
use Rattle.record_query.specs.declared.found.Match.{Match}
use Rattle.command_line.specs.Lines.{document_line, found_lines}
use Rattle.volume_commands.specs.Ports.{Ports, TellsFromMemory}
use Rattle.command_laws.specs.WholeLogs.{HasSteadyVolume}
use Rattle.volume_commands.specs.Ruling.{AsksRule}

-- by this rule the word holds this term, and no other
abbrev pub IsOneTerm : WordRule → List ℕ → List ℕ → Type 0
IsOneTerm rule word term = AreWords rule word (term ∷ [])

-- the word holds exactly one term
pub record HasOneTerm (rule : WordRule) (word : List ℕ) : Type 0 where
  pub term : List ℕ
  pub is : IsOneTerm rule word term

-- the word of number i, from 1, is the first that does not hold exactly one term
pub record IsFirstBadWord (rule : WordRule) (asked : List (List ℕ)) (i : ℕ) : Type 0 where
  pub word : List ℕ
  pub from : 1 ≤ i
  pub at : slice_get asked (i - 1) ≡ Some word
  pub bad : HasOneTerm rule word → ⊥
  pub before : (j : ℕ) (other : List ℕ) → j + 1 < i → slice_get asked j ≡ Some other → HasOneTerm rule other

-- no term stands twice
abbrev pub StandOnce : List (List ℕ) → Type 0
StandOnce [] = ⊤
StandOnce (term ∷ terms) = (Contains terms term → ⊥) × StandOnce terms

-- the terms are those of the words, each once, and no more than these
pub record AreTermsOf (rule : WordRule) (asked terms : List (List ℕ)) : Type 0 where
  pub all : (word : List ℕ) → Contains asked word → (term : List ℕ) × IsOneTerm rule word term × Contains terms term
  pub only : (term : List ℕ) → Contains terms term → (word : List ℕ) × Contains asked word × IsOneTerm rule word term
  pub once : StandOnce terms
  pub few : length terms ≤ length asked

-- how reading the terms of the words may end, and why
abbrev pub TermsEnd : WordRule → List (List ℕ) → Result (Vec (List ℕ)) Refusal → Type 0
TermsEnd rule asked (Ok terms) = AreTermsOf rule asked terms.items
TermsEnd rule asked (Err (BadWord i)) = IsFirstBadWord rule asked i
TermsEnd rule asked (Err NoMemory) = ⊤
TermsEnd rule asked (Err refusal) = ⊥

-- the line that tells of a match
abbrev pub match_line : Match → List ℕ
match_line m = document_line m.slot m.identifier m.bytes

-- the text that tells of what was found: a line a match, and how many they are
abbrev pub find_text : List Match → List ℕ
find_text matches = found_lines match_line matches

-- the same of the engine's answer
abbrev pub found_text : Vec Match → List ℕ
found_text matches = find_text matches.items

-- each document that was kept at entry and has the terms has its match, where the search was done
abbrev pub FindsKept : List (List ℕ) → DeviceState → Result (Vec Match) Refusal → Type 0
FindsKept terms old (Ok matches) = IsTrue old.tells → (documents : List Document) → Kept old.cells old.image documents
    → FindsAllOf old.cells old.image terms matches.items documents
FindsKept terms old (Err refusal) = ⊤

-- What the command does, by how far it comes. Cell 0 is read first, in one read, since it tells by which rule words are
-- read. Then the words are read, and nothing is written before all of them are. So the command reads one cell more than
-- the search for no more terms than there are words, whose bound the engine states.
pub data DoesFind (asked : List (List ℕ)) (old new : Ports) (result : Result Unit Refusal) : Type 0 where
  -- no volume stands there, or cell 0 was not read
  unruled : (refusal : Refusal) → AsksRule old.device new.device (Err refusal) → result ≡ Err refusal
      → new.source ≡ old.source → new.sink ≡ old.sink → DoesFind asked old new result
  -- a word does not hold exactly one term
  misworded : (rule : WordRule) (i : ℕ) → AsksRule old.device new.device (Ok rule) → IsFirstBadWord rule asked i
      → result ≡ Err (BadWord i) → new.source ≡ old.source → new.sink ≡ old.sink → DoesFind asked old new result
  -- no memory was to be had for the terms
  unread : (rule : WordRule) → AsksRule old.device new.device (Ok rule) → result ≡ Err NoMemory
      → new.source ≡ old.source → new.sink ≡ old.sink → DoesFind asked old new result
  -- The documents are searched for the terms of the words, as the engine says, and its answer is told. The text is made
  -- before its first byte goes out.
  searched : (mid : DeviceState) (rule : WordRule) (terms : List (List ℕ)) (answer : Result (Vec Match) Refusal)
      → AsksRule old.device mid (Ok rule) → AreTermsOf rule asked terms → Searches terms mid new.device answer
      → FindsKept terms old.device answer → new.source ≡ old.source
      → TellsFromMemory found_text answer old new result → DoesFind asked old new result

-- all is as the command wants it: each word holds exactly one term, by the volume's rule
pub record IsReadyToFind (asked : List (List ℕ)) (g : Layout) (old new : Ports) : Type 0 where
  pub words : (word : List ℕ) → Contains asked word → HasOneTerm (rule_of g.version) word
  pub log : HasSteadyVolume g old.device new.device
  pub no_sink_fault : IsStill old.sink.faults new.sink.faults
