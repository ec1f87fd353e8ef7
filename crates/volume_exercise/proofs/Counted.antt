-- The lines that are counted from the parts of the replies.
use Rattle.std.proofs.Common.{◌≡◌, ◌+◌, ◌-◌, ℕ, List, drop, ap, take, ◌∙◌, arith}
use Rattle.std.specs.List.{count_by, sum_by}
use Rattle.script_replies.specs.declared.reply.Reply.{Reply}
use Rattle.volume_exercise.specs.Tallies.{counted_text, is_acknowledged, tally_lines, matches_in, of_ingests, of_look_ups, of_pairs, of_singles, returned_from, sound_line}

pub same_lines : (n a b m l p o q r : ℕ) (s t : List ℕ) → a ≡ b → m ≡ l → p ≡ o → q ≡ r → s ≡ t
    → tally_lines n a m p q s ≡ tally_lines n b l o r t
same_lines n a b m l p o q r s t a_is m_is p_is q_is s_is =
    ap (λ (x : ℕ). tally_lines n x m p q s) a_is ∙ ap (λ (x : ℕ). tally_lines n b x p q s) m_is
    ∙ ap (λ (x : ℕ). tally_lines n b l x q s) p_is ∙ ap (λ (x : ℕ). tally_lines n b l o x s) q_is
    ∙ ap (λ (x : List ℕ). tally_lines n b l o r x) s_is

module _ (n : ℕ) (replies : List Reply) where
  pub counted_lines : (a m p q : ℕ) (sound : List ℕ)
      → a ≡ count_by is_acknowledged (take (1 + n - 1) (drop 1 replies))
      → m ≡ sum_by matches_in (take (1 + n + 200 - (1 + n)) (drop (1 + n) replies))
      → p ≡ sum_by matches_in (take (1 + n + 200 + 199 - (1 + n + 200)) (drop (1 + n + 200) replies))
      → q ≡ returned_from 0 (take (1 + n + 200 + 199 + n - (1 + n + 200 + 199)) (drop (1 + n + 200 + 199) replies))
      → sound ≡ sound_line replies → tally_lines n a m p q sound ≡ counted_text n replies
  counted_lines a m p q sound a_is m_is p_is q_is sound_is =
      let first : 1 + n - 1 ≡ n = omega arith in
      let second : 1 + n + 200 - (1 + n) ≡ 200 = omega arith in
      let third : 1 + n + 200 + 199 - (1 + n + 200) ≡ 199 = omega arith in
      let fourth : 1 + n + 200 + 199 + n - (1 + n + 200 + 199) ≡ n = omega arith in
      same_lines n a (count_by is_acknowledged (of_ingests n replies)) m (sum_by matches_in (of_singles n replies)) p
      (sum_by matches_in (of_pairs n replies)) q (returned_from 0 (of_look_ups n replies)) sound (sound_line replies)
      (a_is ∙ ap (λ (k : ℕ). count_by is_acknowledged (take k (drop 1 replies))) first)
      (m_is ∙ ap (λ (k : ℕ). sum_by matches_in (take k (drop (1 + n) replies))) second)
      (p_is ∙ ap (λ (k : ℕ). sum_by matches_in (take k (drop (1 + n + 200) replies))) third)
      (q_is ∙ ap (λ (k : ℕ). returned_from 0 (take k (drop (1 + n + 200 + 199) replies))) fourth) sound_is
