-- The larger of two sets is one of them.
use Rattle.std.proofs.Common.{◌≡◌, ◌∙◌, ◌⊎◌, inl, inr, Option, Some, sym, subst}
use Rattle.std.specs.Prelude.{IfSome}
use Rattle.pb_protocol_tree.specs.Form.{property_form, protocol_form}
use Rattle.pb_property_symmetry.specs.declared.permutable.Permutable.{Permutable}
use Rattle.pb_property_symmetry.specs.Permutable.{IsPermutable}
use Rattle.pb_property_symmetry.specs.Properties.{IsSameWhere}
use Rattle.pb_property_symmetry.proofs.permutable.permutable_elements.Goals as goal
use Rattle.pb_property_symmetry.proofs.permutable.permutable_elements.Goals.{in-Some, in_default}

one_of : (F : Permutable → Type 0) (r s : Permutable) (o : Option Permutable) → (r ≡ s) ⊎ (o ≡ Some r) → F s → IfSome o F → F r
one_of F r s o (inl p) second first = subst F (sym p) second
one_of F r s o (inr q) second first = subst (λ (x : Option Permutable). IfSome x F) q first

pub loop-declaration-preserved : goal.loop-declaration-preserved
loop-declaration-preserved c =
    let protocol = protocol_form c.args.protocol.now in
    let property = property_form c.args.property.now in
    let F : Permutable → Type 0 = λ x. IsPermutable protocol property x.sort.now x.elements.items in
    let G : Permutable → Type 0 = λ x. IsSameWhere protocol property x.sort.now x.elements.items in
    elim c.match-branch-2.branch [
      | in-Some w ↦ subst (λ (o : Option Permutable). IfSome o F) (sym w.most-is)
          (one_of F w.larger.result w.in-Some.found c.loop-declaration.most w.larger.ensures
          (record { unfolds = sym c.is_plain.ensures ∙ c.if-is_plain.false; same = subst (λ (o : Option Permutable). IfSome o G) w.in-Some.is c.in_ok-found.ensures })
          c.loop-declaration.invariant)
      | in_default w ↦ subst (λ (o : Option Permutable). IfSome o F) (sym w.most-is) c.loop-declaration.invariant
    ]
