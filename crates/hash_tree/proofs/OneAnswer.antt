-- A step from a level has one answer in an image: what one level's cells say is said in one way.
use Rattle.std.proofs.Common.{◌≡◌, ◌∙◌, ⊎_elim, ℕ, List, Bool, true, false, None, Some, Result, Ok, Err, ap, sym, subst, arith}
use Rattle.std.proofs.lemmas.Option.{none-some}
use Rattle.std.specs.Prelude.{IsTrue}
use Rattle.cell_types.specs.Image.{Image}
use Rattle.cell_types.specs.Layout.{Layout}
use Rattle.cell_types.specs.Records.{IsRecordCell}
use Rattle.cell_types.specs.declared.record_cell.RecordCell.TheVariants.{Bucket, Child}
use Rattle.cell_types.specs.declared.refusal.Evidence.{Evidence}
use Rattle.volume_meaning.specs.Volumes.{Holds}
use Rattle.volume_meaning.proofs.Holding.{one_record_holds, some_is}
use Rattle.volume_meaning.specs.HashPaths.{fingerprint_of}
use Rattle.tamper_rules.specs.declared.numbers.TheConstants.{FAKE_BUCKET, LOST_CHILD}
use Rattle.hash_tree.specs.Laws.{StepsAreOne}
use Rattle.hash_tree.specs.Levels.{bucket_at, child_at, level_below}
use Rattle.hash_tree.specs.Steps.{ComesTo, here, further, EndsAt, candidate, blank_bucket, blank_child, full, no_bucket, no_child, HasNoneLeft, IsNoBucket, LeadsBy}
use Rattle.hash_tree.specs.declared.level.ChildCell.{ChildCell}
use Rattle.hash_tree.specs.declared.level.Level.{Level}
use Rattle.hash_tree.specs.declared.path.PathStep.{PathStep}
use Rattle.hash_tree.specs.declared.path.PathStep.TheVariants.{Candidate}

buckets : (a b : ℕ) (f h : List ℕ) → Bucket a f ≡ Bucket b h → (a ≡ b) × (f ≡ h)
buckets a b f h e = (cc, cc)

children : (a b : ℕ) → Child a ≡ Child b → a ≡ b
children a b e = cc

both : (answered : Bool) → answered ≡ false → IsTrue answered → ⊥
both true is_false is_true = let clash : true ≡ false = is_false in cc
both false is_false is_true = cc

-- child cells with the same parts are the same
same_child : (a b : ChildCell) → a.cell ≡ b.cell → a.found ≡ b.found → a.target ≡ b.target → a ≡ b
same_child a b cell found target =
    let made : ℕ → List ℕ → ℕ → ChildCell = λ c f t. record { cell = c; found = f; target = t } in
    ap (λ (c : ℕ). made c a.found a.target) cell ∙ ap (λ (f : List ℕ). made b.cell f a.target) found
    ∙ ap (λ (t : ℕ). made b.cell b.found t) target

module _ (g : Layout) (edge : ℕ) (image : Image) (level : Level) where
  -- a bucket that is a candidate still is not one in which none is left
  left : (slot : ℕ) → level.answered ≡ false
      → Holds image (bucket_at g level) (Bucket slot (fingerprint_of level.digest)) → HasNoneLeft g image level → ⊥
  left slot fresh held none =
      ⊎_elim
      (λ answered. both level.answered fresh answered)
      (λ other. other ((buckets _ _ _ _ (one_record_holds image (bucket_at g level) _ _ none.bucket held)).1))
      none.other

  -- a blank cell holds nothing
  blank_holds : (at slot : ℕ) (f : List ℕ) → image at ≡ None → Holds image at (Bucket slot f) → ⊥
  blank_holds at slot f blank held = none-some held.cell (sym blank ∙ held.stands)

  blank_stands : (at : ℕ) (found : List ℕ) → image at ≡ None → image at ≡ Some found → ⊥
  blank_stands at found blank stands = none-some found (sym blank ∙ stands)

  -- what is no bucket holds none
  bad_holds : (slot : ℕ) (f found : List ℕ) → IsNoBucket image (bucket_at g level) found
      → Holds image (bucket_at g level) (Bucket slot f) → ⊥
  bad_holds slot f found bad held =
      let same : held.cell ≡ found = some_is held.cell found (sym held.stands ∙ bad.stands) in
      bad.none slot f (subst (λ (c : List ℕ). IsRecordCell (Bucket slot f) (bucket_at g level) c) same held.is)

  -- the path leads on from no level where it ends
  ends_or_leads : (last : Level) (answer : Result PathStep Evidence) (child : ChildCell)
      → EndsAt g edge image level last answer
      → HasNoneLeft g image level → LeadsBy g edge image level child → ⊥
  ends_or_leads last answer child (candidate slot fresh held l a) none leads = left slot fresh held none
  ends_or_leads last answer child (blank_bucket blank l a) none leads = blank_holds _ _ _ blank none.bucket
  ends_or_leads last answer child (blank_child passed less blank l a) none leads =
      blank_stands (child_at g level) child.found blank (ap image (sym leads.at) ∙ leads.stands)
  ends_or_leads last answer child (full passed is l a) none leads = omega (arith, is, leads.levels)
  ends_or_leads last answer child (no_bucket found bad l a) none leads = bad_holds _ _ found bad none.bucket
  ends_or_leads last answer child (no_child found passed less bad l a) none leads =
      let at : image (child_at g level) ≡ Some child.found = ap image (sym leads.at) ∙ leads.stands in
      let same : child.found ≡ found = some_is child.found found (sym at ∙ bad.stands) in
      let is : IsRecordCell (Child child.target) (child_at g level) child.found =
      subst (λ (n : ℕ). IsRecordCell (Child child.target) n child.found) leads.at leads.is in
      ⊎_elim
      (λ early. omega (arith, early, leads.from))
      (λ late. omega (arith, late, leads.to))
      (bad.none child.target (subst (λ (c : List ℕ). IsRecordCell (Child child.target) (child_at g level) c) same is))

  -- it leads on by one child cell
  one_child : (child other : ChildCell) → LeadsBy g edge image level child → LeadsBy g edge image level other
      → child ≡ other
  one_child child other leads led =
      let cell : child.cell ≡ other.cell = leads.at ∙ sym led.at in
      let stands : image child.cell ≡ Some other.found = ap image cell ∙ led.stands in
      let found : child.found ≡ other.found = some_is child.found other.found (sym leads.stands ∙ stands) in
      let one : Holds image child.cell (Child child.target) =
      record { cell = child.found; stands = leads.stands; is = leads.is } in
      let two : Holds image child.cell (Child other.target) = record {
        cell = other.found;
        stands = stands;
        is = subst (λ (n : ℕ). IsRecordCell (Child other.target) n other.found) (sym cell) led.is;
      } in
      let target : child.target ≡ other.target =
      children child.target other.target (one_record_holds image child.cell _ _ one two) in
      same_child child other cell found target

  -- and ends in one way
  one_end : (last other : Level) (answer second : Result PathStep Evidence) → EndsAt g edge image level last answer
      → EndsAt g edge image level other second → (last ≡ other) × (answer ≡ second)
  one_end last other answer second (candidate slot fresh held l a) (candidate slot' fresh' held' l' a') = (
    l ∙ sym l',
    a ∙ ap (λ (n : ℕ). Ok (Candidate n (bucket_at g level)))
        ((buckets _ _ _ _ (one_record_holds image (bucket_at g level) _ _ held held')).0) ∙ sym a',
  )
  one_end last other answer second (candidate slot fresh held l a) (blank_bucket blank l' a') =
      absurd (blank_holds _ _ _ blank held)
  one_end last other answer second (candidate slot fresh held l a) (blank_child none less blank l' a') =
      absurd (left slot fresh held none)
  one_end last other answer second (candidate slot fresh held l a) (full none is l' a') =
      absurd (left slot fresh held none)
  one_end last other answer second (candidate slot fresh held l a) (no_bucket found bad l' a') =
      absurd (bad_holds _ _ found bad held)
  one_end last other answer second (candidate slot fresh held l a) (no_child found none less bad l' a') =
      absurd (left slot fresh held none)
  one_end last other answer second (blank_bucket blank l a) (candidate slot fresh held l' a') =
      absurd (blank_holds _ _ _ blank held)
  one_end last other answer second (blank_bucket blank l a) (blank_bucket blank' l' a') = (l ∙ sym l', a ∙ sym a')
  one_end last other answer second (blank_bucket blank l a) (blank_child none less blank' l' a') =
      absurd (blank_holds _ _ _ blank none.bucket)
  one_end last other answer second (blank_bucket blank l a) (full none is l' a') =
      absurd (blank_holds _ _ _ blank none.bucket)
  one_end last other answer second (blank_bucket blank l a) (no_bucket found bad l' a') =
      absurd (blank_stands _ found blank bad.stands)
  one_end last other answer second (blank_bucket blank l a) (no_child found none less bad l' a') =
      absurd (blank_holds _ _ _ blank none.bucket)
  one_end last other answer second (blank_child none less blank l a) (candidate slot fresh held l' a') =
      absurd (left slot fresh held none)
  one_end last other answer second (blank_child none less blank l a) (blank_bucket blank' l' a') =
      absurd (blank_holds _ _ _ blank' none.bucket)
  one_end last other answer second (blank_child none less blank l a) (blank_child none' less' blank' l' a') =
      (l ∙ sym l', a ∙ sym a')
  one_end last other answer second (blank_child none less blank l a) (full none' is l' a') =
      absurd (omega (arith, less, is))
  one_end last other answer second (blank_child none less blank l a) (no_bucket found bad l' a') =
      absurd (bad_holds _ _ found bad none.bucket)
  one_end last other answer second (blank_child none less blank l a) (no_child found none' less' bad l' a') =
      absurd (blank_stands _ found blank bad.stands)
  one_end last other answer second (full none is l a) (candidate slot fresh held l' a') =
      absurd (left slot fresh held none)
  one_end last other answer second (full none is l a) (blank_bucket blank l' a') =
      absurd (blank_holds _ _ _ blank none.bucket)
  one_end last other answer second (full none is l a) (blank_child none' less blank l' a') =
      absurd (omega (arith, less, is))
  one_end last other answer second (full none is l a) (full none' is' l' a') = (l ∙ sym l', a ∙ sym a')
  one_end last other answer second (full none is l a) (no_bucket found bad l' a') =
      absurd (bad_holds _ _ found bad none.bucket)
  one_end last other answer second (full none is l a) (no_child found none' less bad l' a') =
      absurd (omega (arith, less, is))
  one_end last other answer second (no_bucket found bad l a) (candidate slot fresh held l' a') =
      absurd (bad_holds _ _ found bad held)
  one_end last other answer second (no_bucket found bad l a) (blank_bucket blank l' a') =
      absurd (blank_stands _ found blank bad.stands)
  one_end last other answer second (no_bucket found bad l a) (blank_child none less blank l' a') =
      absurd (bad_holds _ _ found bad none.bucket)
  one_end last other answer second (no_bucket found bad l a) (full none is l' a') =
      absurd (bad_holds _ _ found bad none.bucket)
  one_end last other answer second (no_bucket found bad l a) (no_bucket found' bad' l' a') = (
    l ∙ sym l',
    a ∙ ap (λ (f : List ℕ). Err (record { rule = FAKE_BUCKET; cell = bucket_at g level; found = f }))
        (some_is found found' (sym bad.stands ∙ bad'.stands)) ∙ sym a',
  )
  one_end last other answer second (no_bucket found bad l a) (no_child found' none less bad' l' a') =
      absurd (bad_holds _ _ found bad none.bucket)
  one_end last other answer second (no_child found none less bad l a) (candidate slot fresh held l' a') =
      absurd (left slot fresh held none)
  one_end last other answer second (no_child found none less bad l a) (blank_bucket blank l' a') =
      absurd (blank_holds _ _ _ blank none.bucket)
  one_end last other answer second (no_child found none less bad l a) (blank_child none' less' blank l' a') =
      absurd (blank_stands _ found blank bad.stands)
  one_end last other answer second (no_child found none less bad l a) (full none' is l' a') =
      absurd (omega (arith, less, is))
  one_end last other answer second (no_child found none less bad l a) (no_bucket found' bad' l' a') =
      absurd (bad_holds _ _ found' bad' none.bucket)
  one_end last other answer second (no_child found none less bad l a) (no_child found' none' less' bad' l' a') = (
    l ∙ sym l',
    a ∙ ap (λ (f : List ℕ). Err (record { rule = LOST_CHILD; cell = child_at g level; found = f }))
        (some_is found found' (sym bad.stands ∙ bad'.stands)) ∙ sym a',
  )

-- so it comes from a level to one end
one_way : (g : Layout) (edge : ℕ) (image : Image) (at there last other : Level)
    (answer second : Result PathStep Evidence) (level : Level) → ComesTo g edge image at level
    → EndsAt g edge image at last answer
    → ComesTo g edge image there level → EndsAt g edge image there other second → (last ≡ other) × (answer ≡ second)
one_way g edge image at there last other answer second level (here l is) ends (here l' is') finishes =
    one_end g edge image level last other answer second
    (subst (λ (v : Level). EndsAt g edge image v last answer) (sym is) ends)
    (subst (λ (v : Level). EndsAt g edge image v other second) (sym is') finishes)
one_way g edge image at there last other answer second level (here l is) ends (further l' child none leads rest)
    finishes =
    absurd (ends_or_leads g edge image level last answer child
    (subst (λ (v : Level). EndsAt g edge image v last answer) (sym is) ends) none leads)
one_way g edge image at there last other answer second level (further l child none leads rest) ends (here l' is')
    finishes =
    absurd (ends_or_leads g edge image level other second child
    (subst (λ (v : Level). EndsAt g edge image v other second) (sym is') finishes) none leads)
one_way g edge image at there last other answer second level (further l child none leads rest) ends
    (further l' child' none' leads' rest') finishes =
    one_way g edge image at there last other answer second (level_below level child) rest ends
    (subst (λ (c : ChildCell). ComesTo g edge image there (level_below level c))
    (one_child g edge image level child' child leads' leads) rest')
    finishes

pub one_answer : StepsAreOne
one_answer g edge image first last other answer second step again =
    one_way g edge image step.level again.level last other answer second first step.comes step.ends again.comes
    again.ends
