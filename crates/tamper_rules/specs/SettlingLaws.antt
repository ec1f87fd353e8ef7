-- Laws of settled and of sound volumes.
use Rattle.std.specs.Prelude.{◌≡◌, ◌≤◌, ◌⊎◌, ◌++◌, ℕ, List, [], Some, None}
use Rattle.cell_types.specs.Image.{Image, Extends}
use Rattle.cell_types.specs.Layout.{Layout, IsLayout, done_at}
use Rattle.volume_meaning.specs.Documents.{Document, AreDocuments}
use Rattle.volume_meaning.specs.Keeping.{Kept}
use Rattle.tamper_rules.specs.Rules.{IsBroken}
use Rattle.tamper_rules.specs.Settling.{IsSettled, Settled, IsOneHorizon, JournalRow, After, IsBlankOrSound, Held}
use Rattle.volume_meaning.specs.Slots.{IsCommitted, IsEdge}
use Rattle.volume_meaning.specs.Volumes.{IsWritten, IsVolume}

-- a settled image has one horizon and one edge
abbrev pub EdgeIsOne : Type 0
EdgeIsOne =
    (g : Layout) (image : Image) → IsSettled g image
    → ((u : ℕ) × IsOneHorizon g image u)
    × ((at : ℕ) × IsEdge g image image at × ((other : ℕ) → IsEdge g image image other → other ≡ at))

-- a settled image keeps its documents
abbrev pub SettledKeeps : Type 0
SettledKeeps =
    (cells : ℕ) (image : Image) (documents : List Document)
    → Settled cells image → AreDocuments cells image documents → Kept cells image documents

-- Settling, cut short anywhere: what it leaves is made into the same by settling again. The done cell of a committed
-- slot of the volume was written only where each journal cell of this slot stands at its target.
abbrev pub SettlingGoesOn : Type 0
SettlingGoesOn =
    (cells : ℕ) (old after image : Image)
    → After cells old after → Settled cells after → Extends old image → Extends image after
    → ((g : Layout) (n start reserved bytes journal : ℕ)
    → IsVolume cells old g → IsCommitted g old old n start reserved bytes journal → IsWritten image (done_at n)
    → (cell : ℕ) (value : List ℕ) → JournalRow old start reserved journal cell value → image cell ≡ Some value)
    → After cells image after

-- settling makes one image of an image
abbrev pub AfterIsOne : Type 0
AfterIsOne = (cells : ℕ) (image one other : Image) → After cells image one → After cells image other → one ≡ other

-- no rule is broken in a settled image
abbrev pub SettledIsUnbroken : Type 0
SettledIsUnbroken = (cells : ℕ) (image : Image) (number cell : ℕ) → Settled cells image
    → IsBroken cells image number cell → ⊥

-- a volume cell alone is settled, and has no documents
abbrev pub FormattedIsSettled : Type 0
FormattedIsSettled =
    (cells : ℕ) (image : Image) (g : Layout) → IsLayout g → IsVolume cells image g
    → ((cell : ℕ) → 1 ≤ cell → image cell ≡ None)
    → Settled cells image × AreDocuments cells image []

-- a settled image has a list of its documents
abbrev pub DocumentsExist : Type 0
DocumentsExist = (cells : ℕ) (image : Image) → Settled cells image
    → (documents : List Document) × AreDocuments cells image documents

-- an image holds one list of documents
abbrev pub HeldIsOne : Type 0
HeldIsOne = (cells : ℕ) (image : Image) (one other : List Document) → Held cells image one → Held cells image other
    → one ≡ other

-- of two images that are blank or sound, the documents that the earlier one holds are the first ones of the later
abbrev pub HeldGrows : Type 0
HeldGrows =
    (cells : ℕ) (lower upper : Image) (ds es : List Document) → IsBlankOrSound cells lower → IsBlankOrSound cells upper
    → Extends lower upper → Held cells lower ds → Held cells upper es → (more : List Document) × (es ≡ ds ++ more)

-- Where each image from low up to high is blank or sound, as those that a crash may leave are in a steady state, it
-- holds the documents of low or those of high.
abbrev pub SteadyHoldsTwo : Type 0
SteadyHoldsTwo =
    (cells : ℕ) (low high image : Image)
    → ((other : Image) → Extends low other → Extends other high → IsBlankOrSound cells other)
    → Extends low image → Extends image high
    → ((documents : List Document) → Held cells low documents → Held cells image documents)
    ⊎ ((documents : List Document) → Held cells high documents → Held cells image documents)
