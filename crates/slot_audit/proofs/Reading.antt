-- Documents that are read of kept cells.
use Rattle.std.proofs.Common.{rules, ◌≡◌, ℕ, Ok, Err, refl, sym, subst, arith}
use Rattle.std.specs.Prelude.{IsTrue, true}
use Rattle.cell_types.specs.Image.{Image}
use Rattle.worm_device.specs.Views.{Viewed}
use Rattle.worm_device.proofs.Resting.{rests_of}
use Rattle.tamper_rules.specs.Rules.{HasDocument}
use Rattle.tamper_rules.proofs.Images.{same_image}
use Rattle.append_file.specs.declared.piece.ContentFault.{ContentFault}
use Rattle.append_file.specs.declared.piece.ContentFault.TheVariants as faults
use Rattle.document_store.specs.Heads.{DocumentEnds, id_of}
use Rattle.document_store.specs.declared.head.Head.{Head}
use Rattle.log_audit.specs.Kept.{image_of_kept, view_of}
use Rattle.log_audit.specs.declared.kept.KeptCells.{KeptCells}

told : IsTrue true
told = search rules

-- a view of kept cells shows the same after each read
pub same_kept : (a b : KeptCells) → Viewed (view_of a) (view_of b) → image_of_kept b ≡ image_of_kept a
same_kept a b viewed = same_image ((rests_of viewed).shown (record { same = refl; below = omega arith }))

-- a document was read
pub read_one : (a b : KeptCells) (start bytes : ℕ) (h : Head) → Viewed (view_of a) (view_of b)
    → DocumentEnds start bytes (view_of a) (view_of b) (Ok h)
    → HasDocument (image_of_kept a) start bytes
read_one a b start bytes h viewed ends = subst (λ (i : Image). HasDocument i start bytes) (same_kept a b viewed) (record {
  id = id_of h;
  body = ends.1.body;
  count = ends.1.whole.count;
  spells = (ends.1.whole.told told).1;
  is_identifier = ends.1.whole.identifier;
  is_body = (ends.1.whole.told told).0;
})

-- none was: nothing fails there but for its bytes
pub read_none : (a b : KeptCells) (start bytes : ℕ) (fault : ContentFault) → Viewed (view_of a) (view_of b)
    → DocumentEnds start bytes (view_of a) (view_of b) (Err fault)
    → HasDocument (image_of_kept a) start bytes → ⊥
read_none a b start bytes faults.Broken viewed ends has =
    ends.1 told (subst (λ (i : Image). HasDocument i start bytes) (sym (same_kept a b viewed)) has)
read_none a b start bytes faults.ReadFault viewed ends has = omega (arith, ends)
