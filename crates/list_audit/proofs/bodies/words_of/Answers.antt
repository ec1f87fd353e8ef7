-- The slot's cells spell a document; what was read are its stored bytes; and its words.
use Rattle.std.proofs.Common.{◌≡◌, ℕ, List, sym, ◌∙◌, ap, subst}
use Rattle.volume_meaning.specs.Words.{AreWords, rule_of}
use Rattle.volume_meaning.specs.declared.word_rules.WordRule.{WordRule}
use Rattle.list_audit.specs.Bodies.{IsStoredDocument}
use Rattle.list_audit.proofs.Holding.{document_in, read_of, stored_document}
use Rattle.list_audit.proofs.bodies.words_of.Goals as goal

pub stored_of-requires-clause-spells : goal.stored_of-requires-clause-spells
stored_of-requires-clause-spells c = document_in c.requires.stored c.requires.documents _ c.document_at.ensures.at

pub body_in-requires : goal.body_in-requires
body_in-requires c = subst IsStoredDocument (sym c.deref.ensures.value)
    (stored_document (document_in c.requires.stored c.requires.documents _ c.document_at.ensures.at) c.in_ok-stored.ensures)

pub returns : goal.returns
returns c = λ id body holds.
    let all = read_of c.requires.stored _ _ c.document_at.ensures.at c.in_ok-stored.ensures id body holds in
    let is = c.body_in.ensures id body (c.deref.ensures.value ∙ all) in
    let rule : c.rule_of.result ≡ rule_of c.args.geometry.now.version = c.rule_of.ensures ∙ ap rule_of c.version.ensures.version in
    subst (λ (r : WordRule). AreWords r body c.in_ok-terms.terms.items) rule
    (subst (λ (b : List ℕ). AreWords c.rule_of.result b c.in_ok-terms.terms.items) is c.in_ok-terms.ensures)
