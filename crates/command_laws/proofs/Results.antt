-- A result answers, or refuses in one way.
use Rattle.std.proofs.Common.{◌≡◌, ◌≢◌, Result, Ok, Err}
use Rattle.cell_types.specs.declared.refusal.Refusal.{Refusal}

pub one_refusal : {A : Type 0} (result : Result A Refusal) (a b : Refusal) → result ≡ Err a → result ≡ Err b → a ≡ b
one_refusal result a b p q = cc

-- a refusal is not another
pub other_refusal : {A : Type 0} (result : Result A Refusal) (a b : Refusal) → a ≢ b → result ≡ Err a → result ≡ Err b
    → ⊥
other_refusal result a b differs p q = differs (one_refusal result a b p q)

-- nor is it an answer
pub no_answer : {A : Type 0} (result : Result A Refusal) (a : A) (refusal : Refusal) → result ≡ Ok a
    → result ≡ Err refusal
    → ⊥
no_answer result a refusal p q = cc
