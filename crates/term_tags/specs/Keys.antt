-- A list and a tag as one number, the key: two bytes of the list and six of the tag, so that keys rise by list and then
-- by tag.
--
--     hello, of 2 lists    tag 2cf24dba5fb0 in list 0: key 00002cf24dba5fb0
use Rattle.std.specs.Prelude.{◌<◌, ◌+◌, ◌*◌, ◌/◌, ◌%◌, ◌^◌, nat_eq, if◌then◌else◌, ℕ, List, [], ◌∷◌, map, Contains}
use Rattle.std.specs.List.Sorted.{IsStrictlyIncreasing}
use Rattle.byteorder.specs.Endian.{big_number, big_bytes}
use Rattle.sha2.specs.Sha256.{sha256}
use Rattle.volume_meaning.specs.Postings.{list_of}

-- the key of a term's tag
abbrev pub key_of : ℕ → List ℕ → ℕ
key_of lists term = list_of lists term * 2 ^ 48 + big_number 6 (sha256 term)

-- the keys of terms, in their order and with repeats
abbrev pub keys_of : ℕ → List (List ℕ) → List ℕ
keys_of lists terms = map (key_of lists) terms

-- the list of a key
abbrev pub list_in : ℕ → ℕ
list_in key = key / 2 ^ 48

-- the tag of a key
abbrev pub tag_in : ℕ → List ℕ
tag_in key = big_bytes 6 (key % 2 ^ 48)

-- the distinct keys of the terms, in rising order
pub record AreKeys (lists : ℕ) (terms : List (List ℕ)) (keys : List ℕ) : Type 0 where
  pub rise : IsStrictlyIncreasing keys
  pub each : (key : ℕ) → Contains keys key → Contains (keys_of lists terms) key
  pub all : (key : ℕ) → Contains (keys_of lists terms) key → Contains keys key

-- each key's list is one of so many
pub record AreInLists (lists : ℕ) (keys : List ℕ) : Type 0 where
  pub each : (key : ℕ) → Contains keys key → list_in key < lists

-- the tags of a list among the keys, in the keys' order
abbrev pub tags_at : ℕ → List ℕ → List (List ℕ)
tags_at l [] = []
tags_at l (key ∷ keys) = if nat_eq (list_in key) l then tag_in key ∷ tags_at l keys else tags_at l keys
