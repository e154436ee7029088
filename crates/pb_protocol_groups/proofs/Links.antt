-- One sort of a chain of aliases.
use Rattle.std.proofs.Common.{◌≡◌, ℕ, Bool, suc, ◌-◌, ◌≤◌, List, length, map, sym, ap, ◌∙◌, arith}
use Rattle.std.proofs.lemmas.List.{length-map}
use Rattle.pb_text_tree.specs.Form.{sort_declaration_form}
use Rattle.pb_text_meaning.specs.Erase.{erased_declaration}
use Rattle.std.specs.Prelude.{Option, codes}
use Rattle.pb_base_values.specs.Carrier.{Carrier}
use Rattle.pb_text_meaning.specs.Syntax.{Name, Variable, same_name, Sort, SortDeclaration, Range}
use Rattle.pb_text_meaning.specs.Sorts.{range_of, declared, carrier_of}
use Rattle.pb_model_tree.specs.declared.model.Model as tree
use Rattle.pb_model_meaning.specs.Erase.{model_of}
use Rattle.pb_model_meaning.specs.Steps.{data_of}
use Rattle.pb_protocol_packing.specs.Numbers.{Kind}
use Rattle.pb_protocol_packing.specs.Groups.{kind_of, lowest, member_for}
use Rattle.pb_protocol_packing.specs.Packing.{Member}
use Rattle.pb_model_meaning.specs.Syntax.{Model}
use Rattle.pb_protocol_groups.specs.declared.end.End.{End}
use Rattle.pb_protocol_packer.specs.Declarations.{declarations_in, ranges_in}
use Rattle.pb_protocol_packer.proofs.DeclarationRows.{declaration-forms, range-forms}
use Rattle.pb_protocol_groups.specs.declared.end.Link.{Link}
use Rattle.pb_protocol_groups.specs.Ends.{kind_at, carrier_at, member_at}

abbrev pub sort_count : tree.Model → ℕ
sort_count model = length (model_of model).sorts

pub sorts-many : (model : tree.Model) → sort_count model ≡ length model.sorts.items
sorts-many model = length-map (map sort_declaration_form model.sorts.items) erased_declaration ∙ length-map model.sorts.items sort_declaration_form

abbrev member_with : Variable → Kind → Carrier → Member
member_with x k c = record { variable = x; kind = k; low = lowest c; size = length c }

-- a variable whose sort's chain has this end
pub member-at-end : (m : Model) (e : End) (x : Variable) → kind_at e ≡ kind_of m x.sort → carrier_at e ≡ carrier_of (data_of m) x.sort → member_at e x ≡ member_for m x
member-at-end m e x kind carrier =
    ap (λ (k : Kind). member_with x k (carrier_at e)) kind ∙ ap (λ (c : Carrier). member_with x (kind_of m x.sort) c) carrier

-- what is said of a sort of a chain, by its link and by what is said of the sorts behind it
module _ {V : Type 0} (model : tree.Model) (behind : Link → (Name → V) → V) (by : Option Range → Bool → Option Sort → (Name → V) → V) (within : ℕ → Name → V) where
  pub chain-link : ((j : ℕ) (s : Name) → within (suc j) s ≡ by (range_of (model_of model).ranges s) (same_name s (codes "Bool")) (declared (model_of model).sorts s) (within j))
      → (k : Link) (s : Name) (i : ℕ) → i ≤ sort_count model
      → ((target : Name → V) → behind k target ≡ by (range_of (ranges_in model.ranges.items) s) (same_name s (codes "Bool")) (declared (declarations_in model.sorts.items) s) target)
      → behind k (within (sort_count model - i)) ≡ within (suc (sort_count model) - i) s
  chain-link opens k s i few says =
      let j = sort_count model - i in
      let b = same_name s (codes "Bool") in
      let next : suc (sort_count model) - i ≡ suc j = omega (arith, few) in
      says (within j)
      ∙ sym (ap (λ (n : ℕ). within n s) next ∙ opens j s
      ∙ ap (λ (rs : List Range). by (range_of rs s) b (declared (model_of model).sorts s) (within j)) (range-forms model.ranges.items)
      ∙ ap (λ (ds : List SortDeclaration). by (range_of (ranges_in model.ranges.items) s) b (declared ds s) (within j)) (declaration-forms model.sorts.items))
