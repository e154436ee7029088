use Rattle.std.proofs.Common.{rules, ◌≡◌, ◌≢◌, ◌∙◌, ap, None, length, refl}
use Rattle.pb_text_tree.specs.Form.{term_form}
use Rattle.pb_model_text.specs.Models.{name_alone}
use Rattle.pb_model_text.proofs.InstanceLemmas.{chain-alone, chain-more, arithmetic-alone, arithmetic-more}
use Rattle.pb_model_text.proofs.sort.+name_alone.Goals as goal

pub returns-then-is_empty : goal.returns-then-is_empty
returns-then-is_empty t c =
    let none : length c.in-Chain.links.items ≡ 0 = search rules in
    c.name_alone.ensures ∙ ap (λ v. name_alone (term_form v)) c.deref.ensures ∙ chain-alone name_alone None (λ o p x y. refl) (λ o p x y. refl) c.args.term.now c.in-Chain.connective
    c.in-Chain.first c.in-Chain.links c.in-Chain.is none

pub returns-else-is_empty : goal.returns-else-is_empty
returns-else-is_empty t c =
    let some : length c.in-Chain.links.items ≢ 0 = search rules in
    chain-more name_alone None (λ o p x y. refl) (λ o p x y. refl) c.args.term.now c.in-Chain.connective c.in-Chain.first c.in-Chain.links c.in-Chain.is some

pub returns-then-is_empty-2 : goal.returns-then-is_empty-2
returns-then-is_empty-2 t c =
    let none : length c.in-Arithmetic.links.items ≡ 0 = search rules in
    c.name_alone-then-is_empty-2.ensures ∙ ap (λ v. name_alone (term_form v)) c.deref-then-is_empty-2.ensures
    ∙ arithmetic-alone name_alone None (λ o p x y. refl) (λ o p x y. refl) c.args.term.now c.in-Arithmetic.first c.in-Arithmetic.links c.in-Arithmetic.is none

pub returns-else-is_empty-2 : goal.returns-else-is_empty-2
returns-else-is_empty-2 t c =
    let some : length c.in-Arithmetic.links.items ≢ 0 = search rules in
    arithmetic-more name_alone None (λ o p x y. refl) (λ o p x y. refl) c.args.term.now c.in-Arithmetic.first c.in-Arithmetic.links c.in-Arithmetic.is some
