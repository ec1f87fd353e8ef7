-- The stamped volume: 8 slots, 2 lists, 1,200 cells, version 3, and the document `a` with no body and the stamp 1000,
-- with its index. Its cells are written out as those of the small volume are. Its done cell and its bucket are the same
-- sixteen bytes as there.
use Rattle.std.specs.Prelude.{ℕ, List, [], ◌∷◌, codes}
use Rattle.cell_types.specs.Image.{Image}
use Rattle.cell_types.specs.Layout.{Layout}
use Rattle.volume_meaning.specs.Documents.{Document}
use Rattle.small_volume.specs.Images.{image_with}
use Rattle.small_volume.specs.SmallVolume.{done_cell, bucket_cell}

-- 8 slots, 2 lists, 1,200 cells, version 3
abbrev pub stamped_layout : Layout
stamped_layout = record { slots = 8; lists = 2; cells = 1200; version = 3 }

-- cell 0: kind 1, version 3, 8 slots, 2 lists, 1,200 cells
abbrev pub stamped_volume_cell : List ℕ
stamped_volume_cell =
    0x01 ∷ 0x03 ∷ 0x00 ∷ 0x00 ∷ 0x00 ∷ 0x08 ∷ 0x00 ∷ 0x02 ∷ 0x00 ∷ 0x00 ∷ 0x04 ∷ 0xb0
    ∷ 0x00 ∷ 0x00 ∷ 0x00 ∷ 0x00 ∷ []

-- cell 4: kind 2, slot 0 reserves 3 cells from cell 836 on
abbrev pub stamped_reserve_cell : List ℕ
stamped_reserve_cell =
    0x02 ∷ 0x00 ∷ 0x00 ∷ 0x03 ∷ 0x44 ∷ 0x00 ∷ 0x00 ∷ 0x00 ∷ 0x03 ∷ 0x00 ∷ 0x00 ∷ 0x00
    ∷ 0x00 ∷ 0x00 ∷ 0x00 ∷ 0x04 ∷ []

-- cell 5: kind 3, 2 stored bytes, a journal of 2 cells
abbrev pub stamped_commit_cell : List ℕ
stamped_commit_cell =
    0x03 ∷ 0x00 ∷ 0x00 ∷ 0x00 ∷ 0x02 ∷ 0x00 ∷ 0x00 ∷ 0x00 ∷ 0x02 ∷ 0x00 ∷ 0x00 ∷ 0x00
    ∷ 0x00 ∷ 0x00 ∷ 0x00 ∷ 0x05 ∷ []

-- cell 7: kind 10, the stamp 1000
abbrev pub stamp_cell : List ℕ
stamp_cell =
    0x0a ∷ 0x00 ∷ 0x00 ∷ 0x03 ∷ 0xe8 ∷ 0x00 ∷ 0x00 ∷ 0x00 ∷ 0x00 ∷ 0x00 ∷ 0x00 ∷ 0x00
    ∷ 0x00 ∷ 0x00 ∷ 0x00 ∷ 0x07 ∷ []

-- cell 580, the first of the time list: kind 6, key 1000, last 255, slot 0 in four bytes and two zeros
abbrev pub time_cell : List ℕ
time_cell =
    0x06 ∷ 0x00 ∷ 0x00 ∷ 0x03 ∷ 0xe8 ∷ 0xff ∷ 0x00 ∷ 0x00 ∷ 0x00 ∷ 0x00 ∷ 0x00 ∷ 0x00
    ∷ 0x00 ∷ 0x00 ∷ 0x02 ∷ 0x44 ∷ []

-- cell 836: 2 bytes of content, the identifier's length 1 and `a`
abbrev pub stamped_content_cell : List ℕ
stamped_content_cell =
    0x12 ∷ 0x01 ∷ 0x61
    ∷ 0x00 ∷ 0x00 ∷ 0x00 ∷ 0x00 ∷ 0x00 ∷ 0x00 ∷ 0x00 ∷ 0x00 ∷ 0x00 ∷ 0x00 ∷ 0x00 ∷ 0x00 ∷ 0x00 ∷ []

-- The ten written cells. The last two are the journal: copies of cells 560 and 580.
abbrev pub stamped_cells : List (ℕ × List ℕ)
stamped_cells =
    (0, stamped_volume_cell) ∷ (4, stamped_reserve_cell) ∷ (5, stamped_commit_cell) ∷ (6, done_cell) ∷ (7, stamp_cell)
    ∷ (560, bucket_cell) ∷ (580, time_cell) ∷ (836, stamped_content_cell) ∷ (837, bucket_cell) ∷ (838, time_cell) ∷ []

-- the stamped volume's image
abbrev pub stamped_image : Image
stamped_image = image_with stamped_cells

-- its one document
abbrev pub stamped_document : Document
stamped_document = record { slot = 0; id = codes "a"; body = [] }
