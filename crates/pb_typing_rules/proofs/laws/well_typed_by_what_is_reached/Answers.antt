use Rattle.pb_typing_rules.proofs.laws.well_typed_by_what_is_reached.Goals as goal

pub returns : goal.returns
returns c = record {
  fewer = λ spec h. record { typed = h.typed; few = h.typed.declarations.few_instances };
  all = λ spec. (λ h. record { typed = h; few = h.declarations.few_instances }, λ h. h.typed);
}
