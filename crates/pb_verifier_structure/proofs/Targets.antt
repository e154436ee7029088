-- Targets by the table of innermost LOOPs.
use Rattle.std.proofs.Common.{◌≡◌, ℕ, ◌<◌, ◌≤◌, Bool, true, false, not, List, length, Option, Some, None, refl, sym, ap, ◌∙◌, arith, get_or, true≢false}
use Rattle.std.specs.Option.{option_eq}
use Rattle.std.specs.Prelude.{◌==◌}
use Rattle.std.proofs.lemmas.Bool.{eqb-true, eq-eqb}
use Rattle.pb_bytecode_program.specs.Accepted.{IsTarget}
use Rattle.pb_bytecode_program.specs.declared.instruction.Op.{Op}
use Rattle.pb_verifier_structure.specs.Nesting.{innermost_of, IsInnermost}
use Rattle.pb_verifier_structure.proofs.Around.{same_around}
use Rattle.pb_verifier_structure.proofs.Walk.{table_at}

options_same : (a b : Option ℕ) → false ≡ not (option_eq (λ x y. x == y) a b) → a ≡ b
options_same None None e = refl
options_same None (Some y) e = cc
options_same (Some x) None e = cc
options_same (Some x) (Some y) e = ap Some (eqb-true x y (not_not (x == y) e))
  where
    not_not : (b : Bool) → false ≡ not b → b ≡ true
    not_not true e = refl
    not_not false e = cc

options_differ : (a b : Option ℕ) → true ≡ not (option_eq (λ x y. x == y) a b) → a ≡ b → ⊥
options_differ None None e f = cc
options_differ None (Some y) e f = cc
options_differ (Some x) None e f = cc
options_differ (Some x) (Some y) e f = let same : x ≡ y = cc in let g = eq-eqb x y same in true≢false (e ∙ ap not g)

module _ (code : List Op) (table : List (Option ℕ)) (q to : ℕ) (r s : Option ℕ) (t : IsInnermost code table) where
  pub target_found : q < length code → to < length table → q < to → r ≡ get_or table to r → s ≡ get_or table q s → false ≡ not (option_eq (λ x y. x == y) r s) → IsTarget code q to
  target_found w v l a b e =
      let long = t.long in
      let within : to < length code = omega arith in
      record {
        later = l;
        inside = within;
        one_body = same_around code to q (omega arith) (omega arith) (sym (table_at code table to r t within a) ∙ options_same r s e ∙ table_at code table q s t w b);
      }

  pub elsewhere_refused : r ≡ get_or table to r → s ≡ get_or table q s → true ≡ not (option_eq (λ x y. x == y) r s) → IsTarget code q to → ⊥
  elsewhere_refused a b e k =
      let inside = k.inside in
      let later = k.later in
      options_differ r s e (table_at code table to r t inside a ∙ ap innermost_of k.one_body ∙ sym (table_at code table q s t (omega arith) b))

pub outside_refused : (code : List Op) (table : List (Option ℕ)) (q to : ℕ) → IsInnermost code table → length table ≤ to → IsTarget code q to → ⊥
outside_refused code table q to t l k = let long = t.long in let inside = k.inside in omega arith
