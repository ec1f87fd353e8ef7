-- How asking for the one term of a word ends.
use Rattle.std.specs.Prelude.{ℕ, List, [], ◌∷◌, Result, Ok, Err, ⊤}
use Rattle.volume_meaning.specs.Words.{AreWords}
use Rattle.volume_meaning.specs.declared.word_rules.WordRule.{WordRule}
use Rattle.word_reader.specs.declared.reader.WordFault.{WordFault}
use Rattle.word_reader.specs.declared.reader.WordFault.TheVariants.{BadWord, NoMemory}

-- The term is the word's only one; the word is bad where no term is its only one; want of memory is free.
abbrev pub SingleEnds : WordRule → List ℕ → Result (List ℕ) WordFault → Type 0
SingleEnds rule word (Ok term) = AreWords rule word (term ∷ [])
SingleEnds rule word (Err BadWord) = (term : List ℕ) → AreWords rule word (term ∷ []) → ⊥
SingleEnds rule word (Err (NoMemory lack)) = ⊤
