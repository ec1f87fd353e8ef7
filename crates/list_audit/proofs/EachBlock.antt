-- A rule that asks the same of the cells of each block: found by going through the blocks of all lists in any order.
use Rattle.std.proofs.Common.{◌≡◌, ◌≤◌, ◌<◌, ◌+◌, ⊎_elim, ℕ, List, length, get_or, Option, Some, None, true, false, sym, ◌∙◌, subst, arith}
use Rattle.std.specs.Prelude.{IsTrue, slice_get}
use Rattle.std.proofs.lemmas.Option.{slice_get_within, slice_get-get_or}
use Rattle.cell_types.specs.Image.{Image}
use Rattle.cell_types.specs.Layout.{Layout}
use Rattle.cell_types.specs.declared.refusal.Evidence.{Evidence}
use Rattle.volume_meaning.specs.Nodes.{IsBlockOf}
use Rattle.volume_meaning.specs.Volumes.{IsWritten}
use Rattle.tamper_rules.specs.Rules.{Rule, IsMet}
use Rattle.log_audit.specs.Findings.{FindsBroken}
use Rattle.log_audit.specs.Least.{FindsPart, LiesBehind, lower_finding}
use Rattle.log_audit.proofs.Parts.{AskedBelow, as_asked, one_part, part_behind, finds_all}
use Rattle.list_audit.specs.Blocks.{AreBlocksForTwo, AreListBlocks, AreOfLists, AskedOf, IsAmongBlocks, IsShared}
use Rattle.list_audit.specs.declared.found.ListBlocks.{ListBlocks}
use Rattle.list_audit.specs.declared.listed.ListBlock.{ListBlock}

-- what is asked of a cell on account of the block at this place
abbrev pub BlockAt : List ListBlock → (ℕ → ℕ → ℕ → Type 0) → ℕ → ℕ → Type 0
BlockAt blocks Asks i cell = (b : ListBlock) → slice_get blocks i ≡ Some b → Asks b.list b.block cell

-- what is asked of a cell on account of each block of a list
abbrev pub AskedOfAll : Layout → Image → (ℕ → ℕ → ℕ → Type 0) → ℕ → Type 0
AskedOfAll g image Asks cell = (l block : ℕ) → IsBlockOf g image l block → Asks l block cell

-- what these blocks ask of the cells up to a written one decides what all ask of it
abbrev pub DecideAll : Layout → Image → List ListBlock → (ℕ → ℕ → ℕ → Type 0) → Type 0
DecideAll g image blocks Asks = (cell : ℕ) → IsWritten image cell
    → ((lower : ℕ) → lower ≤ cell → IsWritten image lower → AskedOf blocks Asks lower) → AskedOfAll g image Asks cell

-- what is asked on account of a block that is among these
pub asked_of : (Asks : ℕ → ℕ → ℕ → Type 0) {blocks : List ListBlock} {l block : ℕ} (cell : ℕ) → AskedOf blocks Asks cell
    → IsAmongBlocks blocks l block → Asks l block cell
asked_of Asks cell asked a =
    subst (λ (m : ℕ). Asks m _ cell) a.list (subst (λ (c : ℕ). Asks a.one.list c cell) a.is (asked a.place a.one a.there))

-- the block of a turn
pub block_here : (items blocks : List ListBlock) (i : ℕ) → items ≡ blocks → i < length items
    → slice_get blocks i ≡ Some (get_or items i (record { list = 0; block = 0 }))
block_here items blocks i same inside =
    subst (λ (rows : List ListBlock). slice_get rows i ≡ Some (get_or items i (record { list = 0; block = 0 }))) same
    (slice_get-get_or items i (record { list = 0; block = 0 }) inside)

-- blocks of all lists decide
pub all_decide : {g : Layout} {image : Image} {found : ListBlocks} (Asks : ℕ → ℕ → ℕ → Type 0) → AreListBlocks g image found
    → DecideAll g image found.blocks.items Asks
all_decide {g} {image} {found} Asks are cell written asked l block is = ⊎_elim
    (λ (among : IsAmongBlocks found.blocks.items l block). asked_of Asks cell (asked cell (omega arith) written) among)
    (λ (shared : IsTrue false × IsShared found.blocks.items block). let clash : false ≡ true = shared.0 in absurd cc)
    (are.taken.all l block is)

-- so do those for two of what is asked of a block whose ever it is
pub two_decide : {g : Layout} {image : Image} {found : ListBlocks} (Asks : ℕ → ℕ → Type 0) → AreBlocksForTwo g image found
    → DecideAll g image found.blocks.items (λ (_ block : ℕ). Asks block)
two_decide {g} {image} {found} Asks are cell written asked l block is = ⊎_elim
    (λ (among : IsAmongBlocks found.blocks.items l block). asked_of (λ (_ block : ℕ). Asks block) cell (asked cell (omega arith) written) among)
    (λ (shared : IsTrue true × IsShared found.blocks.items block). asked_of (λ (_ block : ℕ). Asks block) cell (asked cell (omega arith) written) shared.1.first)
    (are.taken.all l block is)

module _ (g : Layout) (image : Image) (rule : Rule) (blocks : List ListBlock) (Asks : ℕ → ℕ → ℕ → Type 0) where
  -- one block more
  pub one_block : (n : ℕ) (b : ListBlock) (least found result : Option Evidence)
      → FindsPart g image rule (AskedBelow (BlockAt blocks Asks) n) least → slice_get blocks n ≡ Some b
      → FindsPart g image rule (Asks b.list b.block) found → result ≡ lower_finding least found
      → FindsPart g image rule (AskedBelow (BlockAt blocks Asks) (n + 1)) result
  one_block n b least found result before there here is =
      subst (FindsPart g image rule (AskedBelow (BlockAt blocks Asks) (n + 1))) (sym is)
      (one_part g image rule (BlockAt blocks Asks) n least found before
      (as_asked g image rule (Asks b.list b.block) (BlockAt blocks Asks n) found here
      (λ cell asked c at. let e : Some b ≡ Some c = sym there ∙ at in let same : b ≡ c = cc in
      subst (λ (d : ListBlock). Asks d.list d.block cell) same asked)
      (λ cell each. each b there)))

  -- a block behind what was found, which asks nothing of the cells before it
  pub block_behind : (n : ℕ) (b : ListBlock) (least : Option Evidence) → FindsPart g image rule (AskedBelow (BlockAt blocks Asks) n) least
      → slice_get blocks n ≡ Some b → LiesBehind least b.block → ((cell : ℕ) → cell < b.block → Asks b.list b.block cell)
      → FindsPart g image rule (AskedBelow (BlockAt blocks Asks) (n + 1)) least
  block_behind n b least before there behind nothing = part_behind g image rule (BlockAt blocks Asks) n b.block least before behind
      (λ cell less c at. let e : Some b ≡ Some c = sym there ∙ at in let same : b ≡ c = cc in
      subst (λ (d : ListBlock). Asks d.list d.block cell) same (nothing cell less))

  -- each of these
  pub each_block : (n : ℕ) (least : Option Evidence) → FindsPart g image rule (AskedBelow (BlockAt blocks Asks) n) least → length blocks ≤ n
      → FindsPart g image rule (AskedOf blocks Asks) least
  each_block n least finds past = as_asked g image rule (AskedBelow (BlockAt blocks Asks) n) (AskedOf blocks Asks) least finds
      (λ cell below i b there. below i (let w = slice_get_within blocks i b there in omega (arith, w, past)) b there)
      (λ cell each i less b there. each i b there)

  -- all blocks, by these
  pub decided : AreOfLists g image blocks → DecideAll g image blocks Asks → (least : Option Evidence)
      → FindsPart g image rule (AskedOf blocks Asks) least
      → ((cell : ℕ) → AskedOfAll g image Asks cell → IsMet g image rule cell)
      → ((cell : ℕ) → IsMet g image rule cell → AskedOfAll g image Asks cell)
      → FindsBroken g image rule least
  decided each decide least finds met unmet = finds_all g image rule (AskedOfAll g image Asks) least (of_all least finds) met unmet
    where
      of_all : (found : Option Evidence) → FindsPart g image rule (AskedOf blocks Asks) found → FindsPart g image rule (AskedOfAll g image Asks) found
      of_all None p = λ cell written. decide cell written (λ lower low is. p lower is)
      of_all (Some e) p = record {
        number = p.number;
        place = p.place;
        stands = p.stands;
        broken = λ all. p.broken (λ i b there. all b.list b.block (each i b there));
        below = λ cell less written. decide cell written (λ lower low is. p.below lower (omega (arith, less, low)) is);
      }
