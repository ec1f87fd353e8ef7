-- There are three words, and they are the three that were read.
use Rattle.std.proofs.Common.{◌≡◌, ℕ, List, [], ◌∷◌, map, sym, ap, subst, ◌∙◌, arith}
use Rattle.std.specs.String.{string_bytes}
use Rattle.cell_types.specs.declared.geometry.TheConstants.{MAX_LISTS, MAX_SLOTS}
use Rattle.worm_device.proofs.Compared.{alike, differ}
use Rattle.command_line.specs.Words.{IsNumberUpTo}
use Rattle.command_line.proofs.Listed.{first_of_three, if_none, second_is, third_is, three}
use Rattle.command_line.proofs.words.numbers_behind.Goals as goal

-- another name
pub returns-then-ne-clause-none : goal.returns-then-ne-clause-none
returns-then-ne-clause-none c =
    let words = three c.args.words.now c.command-item.result c.slots-item.result c.lists-item.result (omega arith)
    c.command-item.is c.slots-item.is c.lists-item.is in
    λ slots lists asks.
    differ c.as_str.result.now c.args.name.now c.ne.result c.ne.ensures c.if-ne.true
    (c.as_str.ensures.value ∙ first_of_three _ _ _ _ _ _ (sym (ap (map string_bytes) words) ∙ asks.asked))

pub returns-clause-some : goal.returns-clause-some
returns-clause-some c =
    let same = alike c.as_str.result.now c.args.name.now c.ne.result c.ne.ensures c.if-ne.false in
    let command : string_bytes c.command-item.result ≡ c.args.name.now = sym c.as_str.ensures.value ∙ same in
    let first = c.slots-item.result in
    let second = c.lists-item.result in
    let words = three c.args.words.now c.command-item.result first second (omega arith) c.command-item.is
    c.slots-item.is c.lists-item.is in
    let slots = c.in_ok-slots in
    let lists = c.in_ok-lists in
    record {
      first = string_bytes first;
      second = string_bytes second;
      asked = ap (map string_bytes) words
          ∙ ap (λ (w : List ℕ). w ∷ string_bytes first ∷ string_bytes second ∷ []) command;
      slots_word = subst (λ (w : List ℕ). IsNumberUpTo MAX_SLOTS w slots.slots) c.as_bytes.ensures.value
          slots.ensures.some;
      lists_word = subst (λ (w : List ℕ). IsNumberUpTo MAX_LISTS w lists.lists) c.as_bytes-2.ensures.value
          (subst (λ (most : ℕ). IsNumberUpTo most c.as_bytes-2.result.now lists.lists) c.from.ensures
          lists.ensures.some);
    }

-- a word that stands for no number of slots
pub returns-in_err-slots-clause-none : goal.returns-in_err-slots-clause-none
returns-in_err-slots-clause-none c =
    let words = three c.args.words.now c.command-item.result c.slots-item.result c.lists-item.result (omega arith)
    c.command-item.is c.slots-item.is c.lists-item.is in
    if_none c.from_residual.result (λ slots lists asks.
    let second = second_is _ _ _ _ _ _ (sym asks.asked ∙ ap (map string_bytes) words) in
    c.in_err-slots.ensures.none slots
    (subst (λ (w : List ℕ). IsNumberUpTo MAX_SLOTS w slots) (second ∙ sym c.as_bytes.ensures.value) asks.slots_word))

-- a word that stands for no number of lists
pub returns-in_err-lists-clause-none : goal.returns-in_err-lists-clause-none
returns-in_err-lists-clause-none c =
    let words = three c.args.words.now c.command-item.result c.slots-item.result c.lists-item.result (omega arith)
    c.command-item.is c.slots-item.is c.lists-item.is in
    if_none c.from_residual-in_err-lists.result (λ slots lists asks.
    let third = third_is _ _ _ _ _ _ (sym asks.asked ∙ ap (map string_bytes) words) in
    c.in_err-lists.ensures.none lists
    (subst (λ (most : ℕ). IsNumberUpTo most c.as_bytes-2.result.now lists) (sym c.from.ensures)
    (subst (λ (w : List ℕ). IsNumberUpTo MAX_LISTS w lists) (third ∙ sym c.as_bytes-2.ensures.value)
    asks.lists_word)))
