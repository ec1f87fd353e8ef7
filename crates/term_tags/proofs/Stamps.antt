-- The postings of the words and that of the stamp are the document's.
use Rattle.std.proofs.Common.{◌++◌, ℕ, List, Option, Some, None, sym, subst}
use Rattle.std.proofs.lemmas.List.{append-nil}
use Rattle.cell_types.specs.Layout.{Layout}
use Rattle.volume_meaning.specs.Postings.{ArePostings, ListedPosting}
use Rattle.volume_meaning.proofs.StampedPostings.{stamps_add_one}
use Rattle.term_tags.specs.Listing.{MayHaveStamp, time_entries}

pub with_stamp : (g : Layout) (body : List ℕ) (n : ℕ) (rows : List ListedPosting) (stamp : Option ℕ) → MayHaveStamp g stamp
    → ArePostings g None body n rows → ArePostings g stamp body n (rows ++ time_entries g.lists n stamp)
with_stamp g body n rows None may are = subst (ArePostings g None body n) (sym (append-nil rows)) are
with_stamp g body n rows (Some seconds) may are = stamps_add_one g body n seconds rows may are
