-- A slot has one stamp.
use Rattle.std.proofs.Common.{◌≡◌, ℕ, Option, Some, None, refl, ap, subst, arith, ⊎_elim}
use Rattle.std.proofs.lemmas.Bool.{cases_lt}
use Rattle.cell_types.specs.Image.{Image, Extends}
use Rattle.cell_types.specs.Layout.{Layout, IsLayout, TakesNoStamps, TakesStamps, spare_at}
use Rattle.cell_types.specs.declared.geometry.TheConstants.{STAMPED_VERSION}
use Rattle.cell_types.specs.declared.record_cell.RecordCell.TheVariants.{Stamp}
use Rattle.volume_meaning.specs.Laws.{StampsAreOne}
use Rattle.volume_meaning.specs.Slots.{Commits, IsStamped, HasStamp, IsStampOf}
use Rattle.volume_meaning.proofs.Extending.{holds_on}
use Rattle.volume_meaning.proofs.Holding.{one_record_holds}

stamp_seconds : (a b : ℕ) → Stamp a ≡ Stamp b → a ≡ b
stamp_seconds a b e = cc

pub one_stamp : (image : Image) (n a b : ℕ) → HasStamp image n a → HasStamp image n b → a ≡ b
one_stamp image n a b p q = stamp_seconds a b (one_record_holds image (spare_at n) (Stamp a) (Stamp b) p q)

pub one : (g : Layout) (image : Image) (n : ℕ) (a b : Option ℕ) → IsStampOf g image n a → IsStampOf g image n b → a ≡ b
one g image n None None p q = refl
one g image n None (Some b) p q = absurd (omega (arith, p, q.0))
one g image n (Some a) None p q = absurd (omega (arith, p.0, q))
one g image n (Some a) (Some b) p q = ap Some (one_stamp image n a b p.1 q.1)

-- a slot that states its document has a stamp, or is on a volume without stamps
pub some_stamp : {g : Layout} {image : Image} {n start length bytes journal : ℕ} → IsLayout g
    → Commits g image n start length bytes journal → (stamp : Option ℕ) × IsStampOf g image n stamp
some_stamp {g} is c = ⊎_elim
    (λ (less : TakesNoStamps g). (None, less))
    (λ le. let e : TakesStamps g = omega (arith, is.version, le) in
    (Some (c.stamped e).seconds, (e, (c.stamped e).stamp)))
    (cases_lt g.version STAMPED_VERSION)

-- a stamp stays
pub stamp_on : (g : Layout) {old new : Image} (n : ℕ) (stamp : Option ℕ) → Extends old new
    → IsStampOf g old n stamp → IsStampOf g new n stamp
stamp_on g n None e is = is
stamp_on g n (Some s) e is = (is.0, holds_on e is.1)

pub stamps_one : StampsAreOne
stamps_one = record { one = one; some = λ g image n start length bytes journal is c. some_stamp is c }

-- on a volume of stamped documents the slot of a stamp has one
pub has_stamp : (g : Layout) (image : Image) (n : ℕ) (stamp : Option ℕ) → IsStampOf g image n stamp
    → TakesStamps g → IsStamped image n
has_stamp g image n None is version = absurd (omega (arith, is, version))
has_stamp g image n (Some s) is version = record { seconds = s; stamp = is.1 }

-- a stamp that is given stands in the spare cell
pub stands_given : (g : Layout) (image : Image) (n : ℕ) (stamp : Option ℕ) (seconds : ℕ) → IsStampOf g image n stamp
    → stamp ≡ Some seconds → TakesStamps g × HasStamp image n seconds
stands_given g image n None seconds is given = absurd (none_given seconds given)
  where
    none_given : (s : ℕ) → None ≡ Some s → ⊥
    none_given s e = cc
stands_given g image n (Some s) seconds is given =
    (is.0, subst (λ (x : ℕ). HasStamp image n x) (some_given s seconds given) is.1)
  where
    some_given : (a b : ℕ) → Some a ≡ Some b → a ≡ b
    some_given a b e = cc
