-- Words whose keys are known.
use Rattle.std.specs.Prelude.{◌≡◌, ℕ, List, take}
use Rattle.term_tags.specs.Keys.{key_of}
use Rattle.term_tags.specs.declared.known_keys.KnownKey.{KnownKey}
use Rattle.term_tags.specs.declared.short_word.ShortWord.{ShortWord}

-- the bytes of a word of few bytes
abbrev pub short_bytes : ShortWord → List ℕ
short_bytes short = take short.length short.bytes

-- the key is the word's
abbrev pub IsKnown : ℕ → KnownKey → Type 0
IsKnown lists known = known.key ≡ key_of lists (short_bytes known.word)
