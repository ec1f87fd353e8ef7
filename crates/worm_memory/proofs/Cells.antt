-- What the fields of a device in memory hold: each cell what stands in it, and the list of unsure cells what the record
-- says.
use Rattle.std.proofs.Common.{◌≡◌, ◌<◌, ⊎_elim, ℕ, List, [], ◌∷◌, ◌++◌, length, set, get_or, Option, Some, None, refl, ap, sym, subst, ◌∙◌}
use Rattle.std.proofs.lemmas.Bool.Decides.{eqb_tells}
use Rattle.std.proofs.lemmas.List.{get_or-set_same, get_or-set_other}
use Rattle.cell_types.specs.Image.{Image}
use Rattle.worm_memory.specs.declared.change.Change.{Change}
use Rattle.worm_memory.specs.declared.change.Change.TheVariants.{Synced}
use Rattle.worm_memory.specs.Unsure.{unsure_then, unsure_after, unsure_of}
use Rattle.worm_memory.specs.Worlds.{PutsInto, ours, theirs, world, HasBecome}
use Rattle.worm_memory.proofs.Worlds.{image_is, written_here, written_elsewhere, put_image}

-- what the cells hold after a put: in the cell itself
holds_here : {at : ℕ} {value : List ℕ} {change : Change} → PutsInto at value change
    → (cells : List (Option (List ℕ))) (changes : List Change)
    → at < length cells → (world changes).image at ≡ None
    → get_or (set cells at (Some value)) at None ≡ (world (changes ++ change ∷ [])).image at
holds_here {at} {value} {change} put cells changes within free =
    get_or-set_same cells at (Some value) None within
    ∙ sym (written_here (world changes).image at value free)
    ∙ sym (ap (λ (image : Image). image at) (put_image put (world changes)))
    ∙ sym (image_is changes change at)

-- and in each
pub holds_put : {at : ℕ} {value : List ℕ} {change : Change} → PutsInto at value change
    → (cells : List (Option (List ℕ))) (changes : List Change)
    → at < length cells → (world changes).image at ≡ None
    → HasBecome cells (world changes).image → HasBecome (set cells at (Some value)) (world (changes ++ change ∷ [])).image
holds_put {at} {value} {change} put cells changes within free holds = λ cell.
    let new = (world (changes ++ change ∷ [])).image in
    let elsewhere = written_elsewhere (world changes).image at value cell in
    ⊎_elim
    (λ same. subst (λ n. get_or (set cells at (Some value)) n None ≡ new n) (sym same.1)
    (holds_here put cells changes within free))
    (λ apart. get_or-set_other cells at cell (Some value) None apart.1 ∙ holds cell ∙ sym (elsewhere apart.1)
    ∙ sym (ap (λ (image : Image). image cell) (put_image put (world changes))) ∙ sym (image_is changes change cell))
    (eqb_tells cell at)

-- and after a sync
pub holds_synced : (cells : List (Option (List ℕ))) (changes : List Change)
    → HasBecome cells (world changes).image → HasBecome cells (world (changes ++ Synced ∷ [])).image
holds_synced cells changes holds = λ cell. holds cell ∙ sym (image_is changes Synced cell)

-- one more change in the list of unsure cells
unsure_append : (unsure : List ℕ) (changes : List Change) (change : Change)
    → unsure_after unsure (changes ++ change ∷ []) ≡ unsure_then (unsure_after unsure changes) change
unsure_append unsure [] change = refl
unsure_append unsure (first ∷ changes) change = unsure_append (unsure_then unsure first) changes change

pub unsure_put : {at : ℕ} {value : List ℕ} {change : Change} → PutsInto at value change → (changes : List Change)
    → unsure_of (changes ++ change ∷ []) ≡ unsure_of changes ++ at ∷ []
unsure_put {at} {value} {change} ours changes = unsure_append [] changes change
unsure_put {at} {value} {change} theirs changes = unsure_append [] changes change

pub unsure_synced : (changes : List Change) → unsure_of (changes ++ Synced ∷ []) ≡ []
unsure_synced changes = unsure_append [] changes Synced
