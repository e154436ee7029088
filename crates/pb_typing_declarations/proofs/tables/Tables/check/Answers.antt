use Rattle.std.proofs.Common.{◌≡◌, ◌∙◌, ℕ, List, [], Vec, Global, rules, sym, ap, subst, map, Result, Ok, Err}
use Rattle.std.specs.Prelude.{flat_map, MatchResult}
use Rattle.pb_sorts.specs.declared.carrier.Carrier.{Carrier}
use Rattle.pb_sorts.specs.Counting.{instance_limit}
use Rattle.pb_sorts.specs.Layout.{lists_of}
use Rattle.pb_base.specs.declared.limits.TheConstants.{MAX_EQUATIONS}
use Rattle.pb_text_tree.specs.declared.sort.SortDeclaration.{SortDeclaration}
use Rattle.pb_text_tree.specs.declared.sort.Range.{Range}
use Rattle.pb_text_tree.specs.declared.spec.Equation.{Equation}
use Rattle.pb_text_tree.specs.Form.{SpecForm, EquationForm, spec_form, sort_declaration_form, range_form, equation_form}
use Rattle.pb_text_meaning.specs.Erase.{erase}
use Rattle.pb_base.specs.declared.or_memory.OrMemory.{OrMemory}
use Rattle.pb_base.specs.declared.or_memory.OrMemory.TheVariants.{Refused}
use Rattle.pb_typing_declarations.specs.declared.fault.TypingFault.{TypingFault}
use Rattle.pb_typing_declarations.specs.Faults.{IsAmong}
use Rattle.pb_typing_declarations.specs.Reading.{HasCarriers}
use Rattle.pb_typing_declarations.specs.Declarations.{sort_faults, range_faults, limit_faults, equation_names, equations_faults_behind, checks_faults}
use Rattle.pb_typing_declarations.proofs.DeclaredEnds.{sorts_have_ends}
use Rattle.pb_typing_declarations.proofs.ReadParts.{sorts, ranges, too_many, in_sorts, in_ranges, in_too_many, in_equations, checks_clear}
use Rattle.pb_typing_declarations.proofs.tables.Tables.check.Goals as goal
use Rattle.pb_typing_declarations.proofs.tables.Tables.check.Goals.{After-deref-2}

abbrev Found : ℕ → SpecForm → List EquationForm → Result (Vec (Vec Carrier Global) Global) (OrMemory TypingFault) → Type 0
Found limit text E r = MatchResult r (λ carriers. HasCarriers limit (erase text) 0 E (lists_of carriers.items)) (IsAmong (equations_faults_behind limit (erase text) 0 E))

-- where the rest has no fault, what is found of the equations is found of all
found_last : (limit : ℕ) (text : SpecForm) (r : Result (Vec (Vec Carrier Global) Global) (OrMemory TypingFault)) → sorts text ≡ [] → ranges text ≡ [] → too_many text ≡ [] → Found limit text text.equations r
    → MatchResult r (λ carriers. (checks_faults limit text ≡ []) × HasCarriers limit (erase text) 0 text.equations (lists_of carriers.items)) (IsAmong (checks_faults limit text))
found_last limit text (Ok carriers) a b c h = (checks_clear text limit a b c h.clear, h)
found_last limit text (Err e) a b c h = in_equations text limit e h

pub returns-in_err-check_sorts : goal.returns-in_err-check_sorts
returns-in_err-check_sorts c =
    let text = spec_form c.args.self.now.spec.now in
    let e = Refused c.in_err-check_sorts.field-0.0 in
    let h =
    in_sorts text (instance_limit c.args.counting) e (subst (λ (xs : List SortDeclaration). IsAmong (flat_map (sort_faults (erase text)) (map sort_declaration_form xs)) e) c.deref.ensures.value c.in_err-check_sorts.ensures) in
    search rules

pub returns-in_err-check_ranges : goal.returns-in_err-check_ranges
returns-in_err-check_ranges c =
    let text = spec_form c.args.self.now.spec.now in
    let e = Refused c.in_err-check_ranges.field-0.0 in
    let h = in_ranges text (instance_limit c.args.counting) e (subst (λ (xs : List Range). IsAmong (flat_map (range_faults (erase text)) (map range_form xs)) e) (c.deref-2).ensures.value c.in_err-check_ranges.ensures) in
    search rules

pub returns-in_err-check_equation_count : goal.returns-in_err-check_equation_count
returns-in_err-check_equation_count c =
    let e = Refused c.in_err-check_equation_count.field-0.0 in
    let h =
    in_too_many (spec_form c.args.self.now.spec.now) (instance_limit c.args.counting) e
    (subst (λ (xs : List Equation). IsAmong (limit_faults MAX_EQUATIONS (equation_names (map equation_form xs))) e)
    (c.deref-3).ensures.value c.in_err-check_equation_count.ensures) in
    search rules

sorts_clear : (c : After-deref-2) → sorts (spec_form c.args.self.now.spec.now) ≡ []
sorts_clear c =
    ap (λ (xs : List SortDeclaration). flat_map (sort_faults (erase (spec_form c.args.self.now.spec.now))) (map sort_declaration_form xs)) (sym c.deref.ensures.value)
    ∙ c.in_ok-check_sorts.ensures

pub returns : goal.returns
returns c =
    let text = spec_form c.args.self.now.spec.now in
    found_last (instance_limit c.args.counting) text c.carriers.result (sorts_clear (goal.at.returns c).After-deref-2)
    (ap (λ (xs : List Range). flat_map (range_faults (erase text)) (map range_form xs)) (sym (c.deref-2).ensures.value) ∙ c.in_ok-check_ranges.ensures)
    (ap (λ (xs : List Equation). limit_faults MAX_EQUATIONS (equation_names (map equation_form xs))) (sym (c.deref-3).ensures.value) ∙ c.in_ok-check_equation_count.ensures)
    (subst (λ (xs : List Equation). Found (instance_limit c.args.counting) text (map equation_form xs) c.carriers.result) (c.deref-4).ensures.value (subst (λ (n : ℕ). Found n text (map equation_form (c.deref-4).result.now) c.carriers.result) c.limit.ensures.limit c.carriers.ensures))

pub check_ranges-requires : goal.check_ranges-requires
check_ranges-requires c = sorts_have_ends (spec_form c.args.self.now.spec.now) (sorts_clear (goal.at.check_ranges-requires c).After-deref-2)

pub carriers-requires-clause-ends : goal.carriers-requires-clause-ends
carriers-requires-clause-ends c = sorts_have_ends (spec_form c.args.self.now.spec.now) (sorts_clear (goal.at.carriers-requires-clause-ends c).After-deref-2)
