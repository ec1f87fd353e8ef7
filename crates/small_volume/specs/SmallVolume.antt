-- The small volume: 8 slots, 2 lists, 1,000 cells, and the document `a` with the body `hello world`, with its index.
-- Its cells are written out: of a record the kind and the body, and on the line below the cell's own number.
use Rattle.std.specs.Prelude.{ℕ, List, [], ◌∷◌, codes}
use Rattle.cell_types.specs.Image.{Image}
use Rattle.cell_types.specs.Layout.{Layout}
use Rattle.volume_meaning.specs.Documents.{Document}
use Rattle.small_volume.specs.Images.{image_with}

-- 8 slots, 2 lists, 1,000 cells, version 1
abbrev pub small_layout : Layout
small_layout = record { slots = 8; lists = 2; cells = 1000; version = 1 }

-- cell 0: kind 1, version 1, 8 slots, 2 lists, 1,000 cells
abbrev pub volume_cell : List ℕ
volume_cell =
    0x01 ∷ 0x01 ∷ 0x00 ∷ 0x00 ∷ 0x00 ∷ 0x08 ∷ 0x00 ∷ 0x02 ∷ 0x00 ∷ 0x00 ∷ 0x03 ∷ 0xe8
    ∷ 0x00 ∷ 0x00 ∷ 0x00 ∷ 0x00 ∷ []

-- cell 4: kind 2, slot 0 reserves 4 cells from cell 580 on
abbrev pub reserve_cell : List ℕ
reserve_cell =
    0x02 ∷ 0x00 ∷ 0x00 ∷ 0x02 ∷ 0x44 ∷ 0x00 ∷ 0x00 ∷ 0x00 ∷ 0x04 ∷ 0x00 ∷ 0x00 ∷ 0x00
    ∷ 0x00 ∷ 0x00 ∷ 0x00 ∷ 0x04 ∷ []

-- cell 5: kind 3, 13 stored bytes, a journal of 3 cells
abbrev pub commit_cell : List ℕ
commit_cell =
    0x03 ∷ 0x00 ∷ 0x00 ∷ 0x00 ∷ 0x0d ∷ 0x00 ∷ 0x00 ∷ 0x00 ∷ 0x03 ∷ 0x00 ∷ 0x00 ∷ 0x00
    ∷ 0x00 ∷ 0x00 ∷ 0x00 ∷ 0x05 ∷ []

-- cell 6: kind 5, slot 0
abbrev pub done_cell : List ℕ
done_cell =
    0x05 ∷ 0x00 ∷ 0x00 ∷ 0x00 ∷ 0x00 ∷ 0x00 ∷ 0x00 ∷ 0x00 ∷ 0x00 ∷ 0x00 ∷ 0x00 ∷ 0x00
    ∷ 0x00 ∷ 0x00 ∷ 0x00 ∷ 0x06 ∷ []

-- the tag of `hello`, as its posting has it
abbrev pub hello_tag : List ℕ
hello_tag = 0x2c ∷ 0xf2 ∷ 0x4d ∷ 0xba ∷ 0x5f ∷ 0xb0 ∷ []

-- cell 36: kind 6, key 0, last 1, the tag of `hello`
abbrev pub hello_cell : List ℕ
hello_cell =
    0x06 ∷ 0x00 ∷ 0x00 ∷ 0x00 ∷ 0x00 ∷ 0x01 ∷ 0x2c ∷ 0xf2 ∷ 0x4d ∷ 0xba ∷ 0x5f ∷ 0xb0
    ∷ 0x00 ∷ 0x00 ∷ 0x00 ∷ 0x24 ∷ []

-- the tag of `world`, as its posting has it
abbrev pub world_tag : List ℕ
world_tag = 0x48 ∷ 0x6e ∷ 0xa4 ∷ 0x62 ∷ 0x24 ∷ 0xd1 ∷ []

-- cell 37: kind 6, key 1, last 1, the tag of `world`
abbrev pub world_cell : List ℕ
world_cell =
    0x06 ∷ 0x00 ∷ 0x00 ∷ 0x00 ∷ 0x01 ∷ 0x01 ∷ 0x48 ∷ 0x6e ∷ 0xa4 ∷ 0x62 ∷ 0x24 ∷ 0xd1
    ∷ 0x00 ∷ 0x00 ∷ 0x00 ∷ 0x25 ∷ []

-- the fingerprint of `a`, as its bucket has it
abbrev pub a_fingerprint : List ℕ
a_fingerprint = 0xca ∷ 0x97 ∷ 0x81 ∷ 0x12 ∷ 0xca ∷ 0x1b ∷ 0xbd ∷ []

-- cell 560: kind 8, slot 0, the fingerprint of `a`
abbrev pub bucket_cell : List ℕ
bucket_cell =
    0x08 ∷ 0x00 ∷ 0x00 ∷ 0x00 ∷ 0x00 ∷ 0xca ∷ 0x97 ∷ 0x81 ∷ 0x12 ∷ 0xca ∷ 0x1b ∷ 0xbd
    ∷ 0x00 ∷ 0x00 ∷ 0x02 ∷ 0x30 ∷ []

-- cell 580: 13 bytes of content, the identifier's length 1, `a`, `hello world`
abbrev pub content_cell : List ℕ
content_cell =
    0x1d ∷ 0x01 ∷ 0x61
    ∷ 0x68 ∷ 0x65 ∷ 0x6c ∷ 0x6c ∷ 0x6f ∷ 0x20 ∷ 0x77 ∷ 0x6f ∷ 0x72 ∷ 0x6c ∷ 0x64
    ∷ 0x00 ∷ 0x00 ∷ []

-- The eleven written cells. The last three are the journal: copies of cells 36, 37 and 560.
abbrev pub small_cells : List (ℕ × List ℕ)
small_cells =
    (0, volume_cell) ∷ (4, reserve_cell) ∷ (5, commit_cell) ∷ (6, done_cell) ∷ (36, hello_cell) ∷ (37, world_cell)
    ∷ (560, bucket_cell) ∷ (580, content_cell) ∷ (581, hello_cell) ∷ (582, world_cell) ∷ (583, bucket_cell) ∷ []

-- the small volume's image
abbrev pub small_image : Image
small_image = image_with small_cells

-- its one document
abbrev pub small_document : Document
small_document = record { slot = 0; id = codes "a"; body = codes "hello world" }

-- the image of a volume that has just been formatted: its volume cell alone
abbrev pub formatted_image : Image
formatted_image = image_with ((0, volume_cell) ∷ [])
