-- Why the cells that being kept rests on are enough.
use Rattle.std.proofs.Common.{◌≡◌, ⊎_elim, ℕ, List, Option, Some, None, refl, sym, ◌∙◌}
use Rattle.std.specs.Prelude.{[]}
use Rattle.std.proofs.lemmas.Option.{none-some}
use Rattle.cell_types.specs.Image.{Image}
use Rattle.cell_types.specs.Layout.{Layout, spare_at}
use Rattle.volume_meaning.specs.Documents.{Document}
use Rattle.volume_meaning.specs.Slots.{IsStampOf}
use Rattle.receipt_text.specs.Listed.{listed_image}
use Rattle.receipt_cells.specs.Laws.{KeptByCells, ListsKeepAlone}
use Rattle.receipt_cells.specs.Needed.{RestsOn, of_path, of_posting, of_slot, stamp_cell, volume_cell}
use Rattle.receipt_cells.proofs.Sufficing.{path_by_cells, stands_by_cells}
use Rattle.receipt_cells.proofs.Trailing.{trail_by_cells}

-- a slot's stamp, where its cell stands
stamp_by_cells : (cells : ℕ) (image other : Image) (g : Layout) (d : Document) (stamp : Option ℕ)
    → ((c : ℕ) (value : List ℕ) → RestsOn cells image g d c → image c ≡ Some value → other c ≡ Some value)
    → IsStampOf g image d.slot stamp → IsStampOf g other d.slot stamp
stamp_by_cells cells image other g d None has is = is
stamp_by_cells cells image other g d (Some seconds) has is = (
  is.0,
  record {
    cell = is.1.cell;
    stands = has (spare_at d.slot) is.1.cell (of_slot (stamp_cell is.0 refl)) is.1.stands;
    is = is.1.is;
  },
)

pub by_cells : KeptByCells
by_cells cells image other g d volume kept has = (
  record {
    volume = record {
      cell = volume.volume.cell;
      stands = has 0 volume.volume.cell (volume_cell refl) volume.volume.stands;
      is = volume.volume.is;
    };
    size = volume.size;
  },
  record {
    stands = stands_by_cells
        (λ c value these there. has c value (⊎_elim (λ zero. volume_cell zero) (λ slot. of_slot slot) these) there)
        volume kept.stands;
    postings = kept.postings;
    stamp = kept.stamp;
    is_stamp = stamp_by_cells cells image other g d kept.stamp has kept.is_stamp;
    trails = λ l p less is.
        let t = kept.trails l p less is in (
          t.0,
          trail_by_cells t.1
              (λ c value rests there. has c value (of_posting kept.stamp l p kept.is_stamp less is rests) there),
        );
    path = path_by_cells volume
        (λ c value these there. has c value (⊎_elim (λ zero. volume_cell zero) (λ path. of_path path) these) there)
        kept.path;
  },
)

pub alone : KeptByCells → ListsKeepAlone
alone kept_by cells image g d listed volume kept just =
    kept_by cells image (listed_image listed) g d volume kept (λ c value rests there.
    let w = just.all c rests in
    ⊎_elim
    (λ (none : listed_image [] c ≡ Some w.found). absurd (none-some w.found none))
    (λ (stands : image c ≡ Some w.found). w.stands ∙ sym stands ∙ there)
    (just.stand c w.found w.stands))
