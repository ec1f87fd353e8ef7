-- What is sure of a file stands after each change, and its pages hold what stands.
use Rattle.std.specs.Prelude.{◌≡◌, ◌<◌, ◌≤◌, ◌+◌, ◌*◌, ℕ, List, length, replicate, Option, Some, None, Result, Ok, Err, IfSome, MatchResult}
use Rattle.std.proofs.Common.{refl, ◌∙◌, ap, sym, subst, arith, ⊎_elim}
use Rattle.std.proofs.lemmas.Bool.{cases_lt}
use Rattle.std.proofs.lemmas.Option.{none-some, same_Some}
use Rattle.worm_device.specs.declared.device.Failed.{Failed}
use Rattle.worm_device.proofs.Images.{extends_self, extends_then}
use Rattle.worm_device.specs.ReadBytes.{cell_bytes}
use Rattle.host_files.specs.Cells.{cell_in, image_of_bytes}
use Rattle.host_files.specs.Device.{held_instant, StandsIn, SureStands}
use Rattle.host_files.specs.File.{HeldBytes, Told, Becomes, PutsBytes, MakesSure, patched}
use Rattle.host_files.specs.Pages.{PagesHold, Mirror}
use Rattle.host_files.specs.declared.pages.Page.{Page}
use Rattle.host_files.specs.Proper.{within_image}
use Rattle.host_files.proofs.Images.{put_extends}

-- what is sure stands after a change, where it stands in what the file holds then
stands_step : (cells : ℕ) (old new : Told) (held : HeldBytes) → Becomes old new held → SureStands cells (Some old)
    → StandsIn (held_instant cells held) → SureStands cells (Some new)
stands_step cells old new held step stands now = record {
  now = subst (λ (h : HeldBytes). StandsIn (held_instant cells h)) (sym step.now) now;
  before = λ m before.
      ⊎_elim
      (λ earlier. subst (λ (h : HeldBytes). StandsIn (held_instant cells h)) (sym (step.past m earlier))
      (stands.before m earlier))
      (λ last.
      let at : m ≡ old.moment = omega (arith, step.later, before, last) in
      subst (λ (h : HeldBytes). StandsIn (held_instant cells h)) (sym (ap new.past at ∙ step.last)) stands.now)
      (cases_lt m old.moment);
}

-- what is sure stands after a write
pub stands_left : (cells at : ℕ) (put : List ℕ) (told told' : Option Told) → SureStands cells told → at < cells
    → ((t : Told) → told ≡ Some t → 16 * cells ≤ length t.now.bytes) → length put ≡ 16
    → IfSome told (λ t. replicate 16 0 ≡ cell_bytes t.now.bytes at) → PutsBytes (16 * at) put told told'
    → SureStands cells told'
stands_left cells at put None None stands inside within sixteen blank step = stands
stands_left cells at put None (Some new) stands inside within sixteen blank step = absurd step
stands_left cells at put (Some old) None stands inside within sixteen blank step = absurd step
stands_left cells at put (Some old) (Some new) stands inside within sixteen blank step =
    let room : 16 * at + 16 ≤ length old.now.bytes = omega (arith, within old refl, inside) in
    let free : image_of_bytes cells old.now.bytes at ≡ None = within_image cells at old.now.bytes inside
    ∙ ap cell_in (sym blank) in
    stands_step cells old new _ step stands
    (extends_then stands.now (put_extends cells at put old.now.bytes room sixteen free))

-- and the pages hold it, where they were told of it
pub mirror_left : (cells at : ℕ) (put : List ℕ) (told told' : Option Told) (pages pages' : List Page)
    → Mirror cells told pages → at < cells → ((t : Told) → told ≡ Some t → 16 * cells ≤ length t.now.bytes)
    → PutsBytes (16 * at) put told told'
    → ((bytes : List ℕ) → 16 * at + 16 ≤ length bytes → PagesHold cells bytes pages → PagesHold cells
    (patched (16 * at) put bytes) pages')
    → Mirror cells told' pages'
mirror_left cells at put None None pages pages' mirror inside within step puts = λ t is. absurd (none-some t is)
mirror_left cells at put None (Some new) pages pages' mirror inside within step puts = absurd step
mirror_left cells at put (Some old) None pages pages' mirror inside within step puts = absurd step
mirror_left cells at put (Some old) (Some new) pages pages' mirror inside within step puts = λ t is.
    let bytes : t.now.bytes ≡ patched (16 * at) put old.now.bytes =
    ap (λ (u : Told). u.now.bytes) (sym (same_Some new t is)) ∙ ap (λ (h : HeldBytes). h.bytes) step.now in
    subst (λ b. PagesHold cells b pages') (sym bytes) (puts old.now.bytes (omega (arith, within old refl, inside))
    (mirror old refl))

-- what is sure stands after it, and the pages hold what they held
pub stands_synced : (cells : ℕ) (told told' : Option Told) (result : Result Unit Failed) → SureStands cells told
    → MatchResult result (λ _. MakesSure told told') (λ _. told' ≡ told) → SureStands cells told'
stands_synced cells told told' (Err failed) stands step = subst (SureStands cells) (sym step) stands
stands_synced cells None None (Ok done) stands step = stands
stands_synced cells None (Some new) (Ok done) stands step = absurd step
stands_synced cells (Some old) None (Ok done) stands step = absurd step
stands_synced cells (Some old) (Some new) (Ok done) stands step =
    stands_step cells old new _ step stands (extends_self (image_of_bytes cells old.now.bytes))

pub mirror_synced : (cells : ℕ) (told told' : Option Told) (pages : List Page) (result : Result Unit Failed)
    → Mirror cells told pages → MatchResult result (λ _. MakesSure told told') (λ _. told' ≡ told)
    → Mirror cells told' pages
mirror_synced cells told told' pages (Err failed) mirror step = subst (λ t. Mirror cells t pages) (sym step) mirror
mirror_synced cells None None pages (Ok done) mirror step = mirror
mirror_synced cells None (Some new) pages (Ok done) mirror step = absurd step
mirror_synced cells (Some old) None pages (Ok done) mirror step = absurd step
mirror_synced cells (Some old) (Some new) pages (Ok done) mirror step = λ t is.
    let bytes : t.now.bytes ≡ old.now.bytes = ap (λ (u : Told). u.now.bytes) (sym (same_Some new t is))
    ∙ ap (λ (h : HeldBytes). h.bytes) step.now in
    subst (λ b. PagesHold cells b pages) (sym bytes) (mirror old refl)
