-- A key's ordinal is below its list's count, and its row is next.
use Rattle.std.proofs.Common.{◌+◌, ◌-◌, ◌∙◌, ◌∷◌, ◌++◌, [], ℕ, List, slice_index, take, drop, sym, ap, arith}
use Rattle.std.proofs.lemmas.List.{append_assoc}
use Rattle.term_tags.specs.Keys.{list_in}
use Rattle.term_tags.specs.Listing.{rows_behind}
use Rattle.term_tags.specs.declared.rows.Posting.{Posting}
use Rattle.term_tags.proofs.Counting.{below, made_same, next_row, room, step, value_is}
use Rattle.term_tags.proofs.rows.rows.Goals as goal

pub overflow_cast-ordinal : goal.overflow_cast-ordinal
overflow_cast-ordinal c =
    let fits = room c.loop-key.key-index c.loop-key.invariant.0 c.requires.below c.loop-key-test.true
    (c.from-at.ensures ∙ c.list_in-list.ensures) c.index-ordinal.ensures c.args.counts.now c.requires.counts c.requires.fit in
    omega (arith, fits.0, fits.1)

pub overflow_sub-counts : goal.overflow_sub-counts
overflow_sub-counts c =
    let fits = room c.loop-key.key-index c.loop-key.invariant.0 c.requires.below c.loop-key-test.true
    (c.from-at.ensures ∙ c.list_in-list.ensures) c.index-ordinal.ensures c.args.counts.now c.requires.counts c.requires.fit in
    omega (arith, fits.0)

pub overflow_add-ordinal : goal.overflow_add-ordinal
overflow_add-ordinal c =
    let fits = room c.loop-key.key-index c.loop-key.invariant.0 c.requires.below c.loop-key-test.true
    (c.from-at.ensures ∙ c.list_in-list.ensures) c.index-ordinal.ensures c.args.counts.now c.requires.counts c.requires.fit in
    omega (arith, fits.0, fits.1)

pub loop-key-preserved : goal.loop-key-preserved
loop-key-preserved c =
    let keys = c.args.keys.now in
    let i = c.loop-key.key-index in
    let key = slice_index keys i in
    let less = c.loop-key-test.true in
    let is = c.from-at.ensures ∙ c.list_in-list.ensures in
    let counted = c.loop-key.invariant.0 in
    let is_below = below i counted c.requires.below less is c.index-ordinal.ensures in
    let ordinal = value_is i counted c.requires.below less is c.index-ordinal.ensures ∙ counted.each (list_in key) is_below in
    let last = ap (λ (n : ℕ). slice_index c.args.counts.now n - 1) is
    ∙ ap (λ (n : ℕ). n - 1) (c.requires.counts.each (list_in key) is_below) in
    let row = made_same c.list_in-list.result (list_in key) _ _ _ _ c.tag_in.result _ c.list_in-list.ensures ordinal last
    c.tag_in.ensures in
    let before = c.loop-key.rows.items in
    let rest = rows_behind keys (take (i + 1) keys) (drop (i + 1) keys) in (
      step i counted c.requires.below less is c.index-ordinal.ensures,
      ap (λ (rows : List Posting). rows ++ rest) c.in_ok-push.ensures.items ∙ append_assoc before (_ ∷ []) rest
          ∙ ap (λ (p : Posting). before ++ p ∷ rest) row
          ∙ ap (λ (rows : List Posting). before ++ rows) (sym (next_row keys i less)) ∙ c.loop-key.invariant.1,
    )
