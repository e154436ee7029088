use Rattle.std.proofs.Common.{rules, ◌≡◌, ◌≢◌, ◌∙◌, ap, false, length, refl}
use Rattle.pb_text_tree.specs.Form.{term_form}
use Rattle.pb_model_text.specs.Grammar.{is_any}
use Rattle.pb_model_text.proofs.InstanceLemmas.{chain-alone, chain-more, arithmetic-alone, arithmetic-more}
use Rattle.pb_model_text.proofs.instances.+is_any.Goals as goal

pub returns-then-is_empty : goal.returns-then-is_empty
returns-then-is_empty t c =
    let none : length c.in-Chain.links.items ≡ 0 = search rules in
    c.is_any.ensures ∙ ap (λ v. is_any (term_form v)) c.deref.ensures ∙ chain-alone is_any false (λ o p x y. refl) (λ o p x y. refl) c.args.term.now c.in-Chain.connective c.in-Chain.first
    c.in-Chain.links c.in-Chain.is none

pub returns-else-is_empty : goal.returns-else-is_empty
returns-else-is_empty t c =
    let some : length c.in-Chain.links.items ≢ 0 = search rules in
    c.if-is_empty.false ∙ chain-more is_any false (λ o p x y. refl) (λ o p x y. refl) c.args.term.now c.in-Chain.connective c.in-Chain.first c.in-Chain.links c.in-Chain.is some

pub returns-then-is_empty-2 : goal.returns-then-is_empty-2
returns-then-is_empty-2 t c =
    let none : length c.in-Arithmetic.links.items ≡ 0 = search rules in
    c.is_any-then-is_empty-2.ensures ∙ ap (λ v. is_any (term_form v)) c.deref-then-is_empty-2.ensures
    ∙ arithmetic-alone is_any false (λ o p x y. refl) (λ o p x y. refl) c.args.term.now c.in-Arithmetic.first c.in-Arithmetic.links c.in-Arithmetic.is none

pub returns-else-is_empty-2 : goal.returns-else-is_empty-2
returns-else-is_empty-2 t c =
    let some : length c.in-Arithmetic.links.items ≢ 0 = search rules in
    c.if-is_empty-2.false ∙ arithmetic-more is_any false (λ o p x y. refl) (λ o p x y. refl) c.args.term.now c.in-Arithmetic.first c.in-Arithmetic.links c.in-Arithmetic.is some
