use Rattle.std.proofs.Common.{◌≡◌, ◌∙◌, ◌++◌, ℤ, List, [], ◌∷◌, false, refl, sym, ap, subst, map, ℕ, rules, SFits, w64, to_z, of_z, to_z-of_z, Result, Ok, Err, append_assoc}
use Rattle.std.specs.Prelude.{OnOk}
use Rattle.pb_text_tree.specs.declared.term.Argument.{Argument}
use Rattle.pb_text_tree.specs.Form.{argument_forms, term_form}
use Rattle.pb_text_meaning.specs.Erase.{erased_arguments, erased_term}
use Rattle.pb_text_meaning.specs.Syntax.{Term, Terms, Spec}
use Rattle.pb_text_meaning.specs.Value.{value, values}
use Rattle.pb_text_meaning.specs.Fits as text
use Rattle.pb_text_meaning.specs.Fits.{AllFit}
use Rattle.pb_typing_tree.specs.declared.formula.Argument as declared
use Rattle.pb_typing_tree.specs.Tree as tree
use Rattle.pb_typing_tree.specs.Meaning as typed
use Rattle.pb_typing_tree.specs.Elaboration.{arguments, slotted, unslotted}
use Rattle.pb_typing_tree.specs.Expansion.{has_quantifier, have_quantifier}
use Rattle.pb_typing_tree.specs.Fits.{Fits}
use Rattle.pb_typing_tree.specs.View.{argument_view, term_view}
use Rattle.pb_typing_tree.proofs.Fits.{slotted-fits}
use Rattle.pb_typing_tree.proofs.Slotted.{slotted-value, neither-left}
use Rattle.pb_typing_values.specs.Slots.{slots_of}
use Rattle.pb_base.specs.declared.or_memory.OrMemory.{OrMemory}
use Rattle.pb_typing_declarations.specs.declared.fault.TypingFault.{TypingFault}
use Rattle.pb_base.specs.declared.or_memory.OrMemory.TheVariants.{Refused}
use Rattle.pb_typing_declarations.specs.View.{spec_of}
use Rattle.pb_typing_rules.specs.Scope.{outermost}
use Rattle.pb_typing.proofs.InitialValues.{value_fault, value_clear}
use Rattle.pb_typing.proofs.initial.+check_values.Goals.{After-value-value}
use Rattle.pb_typing.proofs.initial.+check_values.Goals as goal

-- ---- the first argument, over slots, where no variable is in scope

abbrev form : Argument → Term
form x = erased_term (term_form x.term)

abbrev forms : List Argument → Terms
forms xs = erased_arguments (argument_forms xs)

plain_first : {all : List Argument} {x : Argument} {xs : List Argument} → all ≡ x ∷ xs → have_quantifier (forms all) ≡ false → has_quantifier (form x) ≡ false
plain_first {all} {x} {xs} e plain = neither-left (has_quantifier (form x)) (have_quantifier (forms xs)) (ap (λ (ys : List Argument). have_quantifier (forms ys)) (sym e) ∙ plain)

abbrev first_term : List tree.Argument → tree.Term
first_term [] = tree.Number 0
first_term (e ∷ es) = e.term

first_over : (S : Spec) {all xs : List Argument} {x : Argument} {es ys : List declared.Argument} {y : declared.Argument} → all ≡ x ∷ xs → es ≡ y ∷ ys
    → map argument_view es ≡ arguments S unslotted outermost (forms all) → term_view y.term ≡ slotted S unslotted (form x)
first_over S here there same =
    ap first_term (sym (ap (λ (zs : List declared.Argument). map argument_view zs) there) ∙ (same ∙ ap (λ (zs : List Argument). arguments S unslotted outermost (forms zs)) here))

initial_value : (S : Spec) (x : Argument) {t : tree.Term} → has_quantifier (form x) ≡ false → t ≡ slotted S unslotted (form x) → typed.value (slots_of []) t ≡ value S [] (form x)
initial_value S x plain is = ap (typed.value (slots_of [])) is ∙ slotted-value S unslotted (slots_of []) [] (λ y. refl) (form x) plain

initial_fits : (S : Spec) (x : Argument) {t : tree.Term} → has_quantifier (form x) ≡ false → text.Fits S [] (form x) → t ≡ slotted S unslotted (form x) → Fits 0 (slots_of []) t
initial_fits S x plain fit is = subst (Fits 0 (slots_of [])) (sym is) (slotted-fits S unslotted 0 (slots_of []) [] (λ y s none. cc) (λ y. refl) (form x) plain fit)

-- the values of all arguments, where that of the first is added to others
values_then : (S : Spec) (r : Result (Unit {0}) (OrMemory TypingFault)) (old new : List ℤ) {mid : List ℤ} {v : ℤ} {all xs : List Argument} {x : Argument}
    → all ≡ x ∷ xs → mid ≡ old ++ v ∷ [] → v ≡ value S [] (form x)
    → OnOk r (new ≡ mid ++ values S [] (forms xs)) → OnOk r (new ≡ old ++ values S [] (forms all))
values_then S (Ok u) old new {mid} {v} {all} {xs} {x} here pushed is h =
    h
    ∙ (ap (λ (vs : List ℤ). vs ++ values S [] (forms xs)) pushed
    ∙ (append_assoc old (v ∷ []) (values S [] (forms xs))
    ∙ (ap (λ (w : ℤ). old ++ w ∷ values S [] (forms xs)) is ∙ ap (λ (zs : List Argument). old ++ values S [] (forms zs)) (sym here))))
values_then S (Err e) old new here pushed is h = tt

pub value-value-requires : goal.value-value-requires
value-value-requires t c =
    let S = spec_of c.args.declarations.now in
    initial_fits S c.in-Some.argument.now (plain_first c.in-Some.ensures.cases.0 c.requires.plain)
    (subst (λ (zs : List Argument). AllFit S [] (forms zs)) c.in-Some.ensures.cases.0 c.requires.fit).0
    (first_over S c.in-Some.ensures.cases.0 (c.in-Some-split_first-2).ensures.cases.0 c.requires.typed)

-- what is computed is the first argument's value
first_value : (t : ℕ) (c : After-value-value t) → to_z w64 (of_z w64 c.value-value.result) ≡ value (spec_of c.args.declarations.now) [] (form c.in-Some.argument.now)
first_value t c =
    let fits : SFits w64 c.value-value.result = record { sfits = c.value-value.type_inv } in
    let over = first_over (spec_of c.args.declarations.now) c.in-Some.ensures.cases.0 (c.in-Some-split_first-2).ensures.cases.0 c.requires.typed in
    to_z-of_z fits
    ∙ (c.value-value.ensures ∙ initial_value (spec_of c.args.declarations.now) c.in-Some.argument.now (plain_first c.in-Some.ensures.cases.0 c.requires.plain) over)

pub returns-in_err-require-clause-faults : goal.returns-in_err-require-clause-faults
returns-in_err-require-clause-faults t c = λ xs m.
    let same = first_value t (goal.at.returns-in_err-require-clause-faults t c).After-value-value in
    let h = value_fault (spec_of c.args.declarations.now) xs (Refused c.in_err-require.field-0.0) c.in-Some-split_first.ensures.cases.0 c.in-Some.ensures.cases.0 m same
    c.contains.ensures c.in_err-require.ensures in
    search rules

pub returns-clause-faults : goal.returns-clause-faults
returns-clause-faults t c = λ xs m.
    value_clear (spec_of c.args.declarations.now) xs c.check_values.result c.in-Some-split_first.ensures.cases.0 c.in-Some.ensures.cases.0 m
    (first_value t (goal.at.returns-clause-faults t c).After-value-value) c.contains.ensures c.in_ok-require.ensures c.check_values.ensures.faults

pub returns-clause-values : goal.returns-clause-values
returns-clause-values t c =
    values_then (spec_of c.args.declarations.now) c.check_values.result c.args.values.now.items c.check_values.new.values.items c.in-Some.ensures.cases.0 c.in_ok-push.ensures.items
    (first_value t (goal.at.returns-clause-values t c).After-value-value) c.check_values.ensures.values
