-- The plan's document stands in the new image, and is kept.
use Rattle.std.proofs.Common.{inl, ℕ, List, length, refl}
use Rattle.cell_types.specs.Image.{Image, Extends}
use Rattle.cell_types.specs.Layout.{Layout}
use Rattle.volume_meaning.specs.Documents.{Stands}
use Rattle.volume_meaning.proofs.Extending.{volume_on}
use Rattle.volume_meaning.specs.Keeping.{IsKept}
use Rattle.volume_meaning.specs.Postings.{ListedPosting}
use Rattle.ingest_laws.specs.Ingesting.{Plan, Storing}
use Rattle.ingest_laws.proofs.Filled.{mine}
use Rattle.hash_tree.specs.declared.level.Level.{Level}
use Rattle.hash_tree.specs.declared.path.Open.{Open}
use Rattle.plan_laws.specs.Laws.{IsPlannedIndex}
use Rattle.plan_laws.proofs.Filled.{filled}
use Rattle.plan_laws.proofs.NewImage.{new_image}
use Rattle.plan_laws.proofs.Rows.{all_rows, extends_new}

module _ {g : Layout} {old laid : Image} {p : Plan} {rows : List ListedPosting} {level : Level} {place : Open} {to : ℕ}
    {planned : Image} (h : IsPlannedIndex g old laid p rows level place to planned) where
  stands : Stands g.cells (new_image h) p.slot p.id p.body
  stands = record {
    layout = g;
    start = p.start;
    reserved = p.reserved;
    journal = length p.journal;
    volume = volume_on (all_rows h).keeps h.takes.volume;
    slot = h.takes.slot;
    done = mine (filled h);
    spells = λ k below.
        (all_rows h).adds _ _ (Storing, inl (inl (record { place = k; below = below; at = refl; is = refl })));
    is_identifier = h.takes.identifier;
    is_body = h.takes.body;
  }

  extends_planned : Extends planned (new_image h)
  extends_planned = record {
    keeps = λ cell value is. (extends_new h).keeps cell value (h.laid_is.adds cell value is);
  }

  pub kept : IsKept g.cells (new_image h) g (record { slot = p.slot; id = p.id; body = p.body })
  kept = h.keeps (new_image h) (all_rows h).keeps extends_planned stands (filled h).stamp
