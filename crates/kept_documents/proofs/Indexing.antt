-- Whether the index leads to a document, over plain values.
use Rattle.std.proofs.Common.{◌≡◌, ℕ, List, Bool, true, false, Option, Some, None, Ok, Err, sym, subst}
use Rattle.std.specs.Prelude.{IsTrue}
use Rattle.cell_types.specs.Layout.{Layout, all_lists, root_at}
use Rattle.cell_types.specs.declared.refusal.Refusal.TheVariants.{TooManyTerms}
use Rattle.volume_meaning.specs.Words.{AreWords, rule_of}
use Rattle.volume_meaning.specs.declared.word_rules.WordRule.{WordRule}
use Rattle.volume_meaning.proofs.Stamps.{one, stamp_on}
use Rattle.volume_meaning.specs.Postings.{ArePostings, ListedPosting}
use Rattle.worm_device.specs.Views.{ViewState, Viewed}
use Rattle.worm_device.proofs.Resting.{viewed_self, viewed_then}
use Rattle.jump_block.proofs.Counting as counts
use Rattle.term_tags.specs.Listing.{GivesListed, GivesNone, MayHaveStamp}
use Rattle.term_tags.proofs.TooMany.{too_many_is_one}
use Rattle.kept_documents.specs.HashTrails.{AsksPath}
use Rattle.kept_documents.specs.Indexed.{AsksIndexed, IsLedTo}
use Rattle.kept_documents.specs.Postings.{AreOfLists, AreTrailed, AsksPostings, AsksRows}
use Rattle.kept_documents.specs.Stamps.{AsksStamp}
use Rattle.kept_documents.specs.declared.fault.AskFault.{AskFault}
use Rattle.kept_documents.specs.declared.fault.AskFault.TheVariants.{NoMemory, ReadFault}
use Rattle.kept_documents.specs.declared.stamps.SlotStamp.{SlotStamp}
use Rattle.kept_documents.proofs.Leading.{trail_later}
use Rattle.kept_documents.proofs.Pathing.{hash_trail_later}
use Rattle.kept_documents.proofs.PassedBuckets.{volume_later}

-- postings that have trails have them later too
pub trailed_later : {g : Layout} {n : ℕ} {body : List ℕ} {stamp : Option ℕ} {old new : ViewState} → Viewed old new
    → AreTrailed g n body stamp old → AreTrailed g n body stamp new
trailed_later viewed trailed l p less is = trail_later viewed (trailed l p less is)

-- the index leads there later too
pub led_later : {g : Layout} {n : ℕ} {id body : List ℕ} {old new : ViewState} → Viewed old new
    → IsLedTo g old n id body → IsLedTo g new n id body
led_later {g} {n} viewed led = record {
  postings = led.postings;
  stamp = led.stamp;
  is_stamp = stamp_on g n led.stamp viewed.image led.is_stamp;
  trails = trailed_later viewed led.trails;
  path = hash_trail_later g viewed led.path;
}

-- the words that were handed in are those of the volume's rule
words_of_rule : (g : Layout) (body : List ℕ) (rule : WordRule) → rule ≡ rule_of g.version
    → (terms words : List (List ℕ)) → AreWords rule body terms → words ≡ terms → AreWords (rule_of g.version) body words
words_of_rule g body rule is_rule terms words are same =
    subst (λ (r : WordRule). AreWords r body words) is_rule
    (subst (λ (w : List (List ℕ)). AreWords rule body w) (sym same) are)

-- the rows that were asked for are the postings of the body whose words were handed in
pub given : (g : Layout) (body : List ℕ) (n : ℕ) (stamp : Option ℕ) (rule : WordRule)
    (is_rule : rule ≡ rule_of g.version) (lists : ℕ) (terms words : List (List ℕ))
    (rows handed : List ListedPosting) → lists ≡ g.lists → MayHaveStamp g stamp → AreWords rule body terms
    → words ≡ terms → GivesListed lists n stamp words rows → handed ≡ rows → ArePostings g stamp body n handed
given g body n stamp rule is_rule lists terms words rows handed count may are same gives is =
    subst (λ (r : List ListedPosting). ArePostings g stamp body n r) (sym is)
    (gives g body (sym count) may (words_of_rule g body rule is_rule terms words are same))

-- each posting is of one of the lists
pub are_listed : {g : Layout} {body : List ℕ} {n : ℕ} {stamp : Option ℕ} {rows : List ListedPosting}
    → ArePostings g stamp body n rows → AreOfLists (all_lists g) rows
are_listed are i row is = (are.each i row is).0

module _ (g : Layout) (n : ℕ) (body : List ℕ) (stamp : Option ℕ) (old : ViewState) where
  -- the postings don't exist
  pub not_listed : (rule : WordRule) (is_rule : rule ≡ rule_of g.version) (lists : ℕ) (terms words : List (List ℕ))
      (l count : ℕ) → lists ≡ g.lists → AreWords rule body terms → words ≡ terms
      → GivesNone lists words (TooManyTerms l count) → AsksPostings g n body stamp old old (Ok false)
  not_listed rule is_rule lists terms words l count is are same gives = record {
    viewed = viewed_self old;
    ends = λ tells exist trailed. too_many_is_one.none g body l count
        (gives g body (sym is) (words_of_rule g body rule is_rule terms words are same)) exist;
  }

  -- each of them was asked
  pub all_listed : (rows : List ListedPosting) → ArePostings g stamp body n rows → (new : ViewState) (answer : Bool)
      → AsksRows g rows old new (Ok answer) → AsksPostings g n body stamp old new (Ok answer)
  all_listed rows are new true asked = record {
    viewed = asked.viewed;
    ends = (
      are.exist,
      λ tells l p less is. let at = are.all l p less is in
          asked.ends tells at.0 (record { list = l; posting = p }) at.1,
    );
  }
  all_listed rows are new false asked = record {
    viewed = asked.viewed;
    ends = λ tells exist trailed.
        let h = asked.ends in
        let row = are.each h.0 h.1 h.2 in
        h.3 tells (trailed h.1.list h.1.posting row.0 row.1);
  }

module _ (g : Layout) (n : ℕ) (id body : List ℕ) (old mid : ViewState) where
  -- the slot has no stamp
  pub no_stamp : AsksStamp g n old mid (Ok None) → AsksIndexed g n id body old mid (Ok false)
  no_stamp asked = record {
    viewed = asked.viewed;
    ends = λ tells volume led. asked.ends tells led.stamp led.is_stamp;
  }

  module _ (stamp : SlotStamp) (stamped : AsksStamp g n old mid (Ok (Some stamp))) where
    told : IsTrue old.base.tells → IsTrue mid.base.tells
    told tells = subst IsTrue (sym stamped.viewed.called.tells) tells

    -- a document that the index leads to has this stamp
    with_stamp : IsTrue old.base.tells → IsLedTo g old n id body → AreTrailed g n body stamp.seconds mid
    with_stamp tells led =
        let later = led_later stamped.viewed led in
        let same : later.stamp ≡ stamp.seconds =
        one g mid.image n later.stamp stamp.seconds later.is_stamp (stamped.ends.1 tells) in
        subst (λ (s : Option ℕ). AreTrailed g n body s mid) same later.trails

    module _ (next : ViewState) where
      -- whether its postings have trails could not be asked
      pub postings_fail : (why : AskFault) → AsksPostings g n body stamp.seconds mid next (Err why)
          → AsksIndexed g n id body old next (Err why)
      postings_fail ReadFault asked = record {
        viewed = viewed_then stamped.viewed asked.viewed;
        ends = counts.rose_later _ _ _ stamped.viewed.called.faults asked.ends;
      }
      postings_fail (NoMemory lack) asked = record { viewed = viewed_then stamped.viewed asked.viewed; ends = tt }

      -- they don't exist, or have no trails
      pub no_trails : AsksPostings g n body stamp.seconds mid next (Ok false)
          → AsksIndexed g n id body old next (Ok false)
      no_trails asked = record {
        viewed = viewed_then stamped.viewed asked.viewed;
        ends = λ tells volume led. asked.ends (told tells) led.postings (with_stamp tells led);
      }

      -- they have, and the path was asked
      module _ (asked : AsksPostings g n body stamp.seconds mid next (Ok true)) (new : ViewState) where
        so_far : Viewed old next
        so_far = viewed_then stamped.viewed asked.viewed

        told_next : IsTrue old.base.tells → IsTrue next.base.tells
        told_next tells = subst IsTrue (sym so_far.called.tells) tells

        pub path_fails : AsksPath g id n (root_at g) 0 next new (Err _) → AsksIndexed g n id body old new (Err ReadFault)
        path_fails path = record {
          viewed = viewed_then so_far path.viewed;
          ends = counts.rose_later _ _ _ so_far.called.faults path.ends;
        }

        pub then_path : (answer : Bool) → AsksPath g id n (root_at g) 0 next new (Ok answer)
            → AsksIndexed g n id body old new (Ok answer)
        then_path true path = record {
          viewed = viewed_then so_far path.viewed;
          ends = λ tells volume. record {
            postings = asked.ends.0;
            stamp = stamp.seconds;
            is_stamp = stamp_on g n stamp.seconds (viewed_then asked.viewed path.viewed).image (stamped.ends.1 tells);
            trails = trailed_later path.viewed (asked.ends.1 (told tells));
            path = path.ends (told_next tells) (volume_later so_far volume);
          };
        }
        then_path false path = record {
          viewed = viewed_then so_far path.viewed;
          ends = λ tells volume led.
              path.ends (told_next tells) (volume_later so_far volume) (hash_trail_later g so_far led.path);
        }
