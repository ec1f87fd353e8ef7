-- One term more is sought.
use Rattle.std.proofs.Common.{rules, ℕ, ◌+◌, true, false, ◌≡◌, ◌∙◌, ◌++◌, ◌∷◌, [], take, List, ap, sym, subst}
use Rattle.std.proofs.lemmas.List.{take_more}
use Rattle.word_reader.specs.Matching.{SeekAll}
use Rattle.word_reader.specs.declared.byte_matcher.Sought.{Sought}
use Rattle.word_reader.proofs.Seeking.{all_last, tracks_none}
use Rattle.word_reader.proofs.byte_matcher.sought_of.Goals as goal

pub loop-term-preserved : goal.loop-term-preserved
loop-term-preserved c =
    let done = c.loop-term.sought.items in
    let front = take c.loop-term.term-index c.args.terms.now in
    let one : Sought = record { bytes = c.extend_from_slice.new.items; found = false; agrees = true; front = 0 } in
    let same : one.bytes.items ≡ c.term-item.result = search rules in
    let more = all_last done front one c.term-item.result c.loop-term.invariant same (tracks_none c.term-item.result) in
    let taken : take (c.loop-term.term-index + 1) c.args.terms.now ≡ front ++ c.term-item.result ∷ [] =
    take_more c.args.terms.now c.loop-term.term-index c.term-item.result c.loop-term-test.true
    ∙ ap (λ (x : List ℕ). front ++ x ∷ []) (sym c.term-item.is) in
    subst (λ (ss : List Sought). SeekAll ss (take (c.loop-term.term-index + 1) c.args.terms.now) []) (sym c.in_ok-push.ensures.items)
    (subst (λ (ts : List (List ℕ)). SeekAll (done ++ one ∷ []) ts []) (sym taken) more)
