-- The postings of a slot's document.
use Rattle.std.proofs.Common.{rules, ◌≡◌, ℕ, List, Option, Some, None, sym, subst}
use Rattle.cell_types.specs.Image.{Image}
use Rattle.cell_types.specs.Layout.{Layout}
use Rattle.volume_meaning.specs.Postings.{ListedPosting}
use Rattle.volume_meaning.specs.Slots.{IsStampOf}
use Rattle.volume_meaning.specs.Words.{AreWords, rule_of}
use Rattle.term_tags.specs.Listing.{GetsTooMany, GivesListed, MayHaveStamp}
use Rattle.term_tags.proofs.TooMany.{too_many_is_one}
use Rattle.list_audit.specs.Bodies.{AreRowsOf, AreWordsOf, HasNoRows}

may_have : (g : Layout) (image : Image) (n : ℕ) (stamp : Option ℕ) → IsStampOf g image n stamp → MayHaveStamp g stamp
may_have g image n None is = search rules
may_have g image n (Some seconds) is = is.0

-- the words gave them
pub rows_given : (g : Layout) (image : Image) (n lists : ℕ) (stamp : Option ℕ) (terms read : List (List ℕ)) (rows : List ListedPosting)
    → IsStampOf g image n stamp → AreWordsOf g image n terms → read ≡ terms → lists ≡ g.lists → GivesListed lists n stamp read rows
    → AreRowsOf g image n rows
rows_given g image n lists stamp terms read rows is words same count gives id body holds = (
  stamp,
  is,
  gives g body (sym count) (may_have g image n stamp is) (subst (AreWords (rule_of g.version) body) (sym same) (words id body holds)),
)

-- a list gets too many of them
pub none_given : (g : Layout) (image : Image) (n lists l count : ℕ) (terms read : List (List ℕ)) → AreWordsOf g image n terms → read ≡ terms
    → lists ≡ g.lists → ((h : Layout) (body : List ℕ) → h.lists ≡ lists → AreWords (rule_of h.version) body read → GetsTooMany h body l count)
    → HasNoRows g image n
none_given g image n lists l count terms read words same many gives id body holds exist =
    too_many_is_one.none g body l count
    (gives g body (sym many) (subst (AreWords (rule_of g.version) body) (sym same) (words id body holds))) exist
