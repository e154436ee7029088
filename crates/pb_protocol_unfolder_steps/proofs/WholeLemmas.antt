-- The names of enumerators, as the definitions have them.
use Rattle.std.proofs.Common.{◌≡◌, ◌∙◌, ◌<◌, ◌≤◌, ◌+◌, ℕ, arith, true, false, length, drop, get_or, refl, sym, ap, List, [], ◌∷◌, ◌++◌, map, flat_map}
use Rattle.std.specs.Prelude.{nat_lt}
use Rattle.std.proofs.lemmas.Bool.Decides.{nat_tests}
use Rattle.std.proofs.lemmas.List.{drop_more, length-append}
use Rattle.pb_text_tree.specs.declared.sort.Enumerator.{Enumerator}
use Rattle.pb_text_tree.specs.declared.sort.Sort.TheVariants as sort
use Rattle.pb_text_tree.specs.declared.sort.Sort.{Sort}
use Rattle.pb_text_tree.specs.declared.sort.SortDeclaration.{SortDeclaration}
use Rattle.pb_text_tree.specs.Form.{enumerator_form, sort_declaration_form, sort_form}
use Rattle.pb_text_meaning.specs.Syntax as syntax
use Rattle.pb_text_meaning.specs.Syntax.{Spec}
use Rattle.pb_text_meaning.specs.Erase.{erased_declaration, erased_enumerator, erased_sort}
use Rattle.pb_protocol_folding.specs.Names.{enumerators_in, names_in}
use Rattle.pb_protocol_tree.specs.declared.protocol.Protocol as declared_protocol
use Rattle.pb_protocol_tree.specs.declared.step.Step as declared_step
use Rattle.pb_protocol_tree.specs.Form.{step_form}
use Rattle.pb_protocol_meaning.specs.Syntax.{Step}
use Rattle.pb_protocol_meaning.specs.Erase.{erased_step, protocol_of}
use Rattle.pb_protocol_meaning.specs.Steps.{data_of}
use Rattle.pb_protocol_unfolding.specs.Written.{written_tuples}
use Rattle.pb_protocol_unfolding.specs.Unfolding.{has_many_steps, most_written}
use Rattle.pb_protocol_unfolder_steps.specs.WholeSteps.{tuples_of_step, tuples_of_steps, enumerator_names, names_declared, names_of_sort}

enumerators-named : (es : List Enumerator) → enumerator_names es ≡ map (λ (e : syntax.Enumerator). e.name) (map erased_enumerator (map enumerator_form es))
enumerators-named [] = refl
enumerators-named (e ∷ es) = ap (λ xs. (erased_enumerator (enumerator_form e)).name ∷ xs) (enumerators-named es)

sort-named : (s : Sort) → names_of_sort s ≡ names_in (erased_sort (sort_form s))
sort-named (sort.Struct es) = enumerators-named es.items
sort-named (sort.Alias target) = refl

pub declared-named : (ds : List SortDeclaration) → names_declared ds ≡ enumerators_in (map erased_declaration (map sort_declaration_form ds))
declared-named [] = refl
declared-named (d ∷ ds) = ap (λ xs. xs ++ names_declared ds) (sort-named d.sort) ∙ ap (λ xs. names_in (erased_sort (sort_form d.sort)) ++ xs) (declared-named ds)

-- ---- counts

tuples-said : (spec : Spec) (steps : List declared_step.Step)
    → tuples_of_steps spec steps ≡ flat_map (λ (a : Step). written_tuples spec a.variables) (map erased_step (map step_form steps))
tuples-said spec [] = refl
tuples-said spec (a ∷ steps) = ap (λ ts. tuples_of_step spec a ++ ts) (tuples-said spec steps)

-- there are many steps in a tree where there are in its protocol
pub many-said : (spec : Spec) (p : declared_protocol.Protocol) (steps : List declared_step.Step) → spec ≡ data_of (protocol_of p) → steps ≡ p.steps.items
    → nat_lt most_written (length (tuples_of_steps spec steps)) ≡ has_many_steps (protocol_of p)
many-said spec p steps same are =
    ap (λ (d : Spec). nat_lt most_written (length (tuples_of_steps d steps))) same
    ∙ ap (λ (ss : List declared_step.Step). nat_lt most_written (length (tuples_of_steps (data_of (protocol_of p)) ss))) are
    ∙ ap (λ ts. nat_lt most_written (length ts)) (tuples-said (data_of (protocol_of p)) p.steps.items)

-- one more step's tuples stand first
pub one-counted : (spec : Spec) (steps : List declared_step.Step) (k : ℕ) (a : declared_step.Step) → k < length steps → a ≡ get_or steps k a
    → length (tuples_of_steps spec (drop k steps)) ≡ length (tuples_of_step spec a) + length (tuples_of_steps spec (drop (k + 1) steps))
one-counted spec steps k a below is =
    ap (λ (ss : List declared_step.Step). length (tuples_of_steps spec ss)) (drop_more steps k a below ∙ ap (λ (b : declared_step.Step). b ∷ drop (k + 1) steps) (sym is))
    ∙ length-append (tuples_of_step spec a) (tuples_of_steps spec (drop (k + 1) steps))

pub is-more : (n m : ℕ) → n < m → true ≡ nat_lt n m
is-more n m h = grind (arith, nat_tests)

pub is-no-more : (n m : ℕ) → m ≤ n → false ≡ nat_lt n m
is-no-more n m h = grind (arith, nat_tests)
