-- Static counts do not depend on what a program states.
use Rattle.std.proofs.Common.{◌≡◌, ℕ, ◌+◌, ◌*◌, List, [], ◌∷◌, length, Option, None, refl, ap, ◌∙◌}
use Rattle.std.specs.Prelude.{nat_lt, cond, ◌-◌, slice_get}
use Rattle.pb_sorts.specs.declared.carrier.Carrier.{Carrier}
use Rattle.pb_bytecode_program.specs.Machine.{Program, carrier_of}
use Rattle.pb_bytecode_program.specs.Counts.{LoopEffect, Enters, Leaves, Straight, loop_effect, carrier_size, multiplier, cost_by, cost_of}
use Rattle.pb_bytecode_program.specs.declared.instruction.Op.{Op}

module _ (p q : Program) (parameters : p.parameters ≡ q.parameters) (loops : p.loops ≡ q.loops) where
  carrier_same : (s : ℕ) → carrier_of p s ≡ carrier_of q s
  carrier_same s =
      ap (λ (cs : List Carrier). cond (nat_lt s (length cs)) None (slice_get p.loops (s - length cs))) parameters
      ∙ ap (λ (cs : List Carrier). cond (nat_lt s (length q.parameters)) None (slice_get cs (s - length q.parameters))) loops

  pub cost_same : (cost : Op → ℕ) (is : List Op) (ws : List ℕ) → cost_of p cost is ws ≡ cost_of q cost is ws
  cost_same cost [] ws = refl
  cost_same cost (i ∷ is) ws = by (loop_effect i) ws (cost_same cost is)
    where
      by : (e : LoopEffect) (vs : List ℕ) → ((us : List ℕ) → cost_of p cost is us ≡ cost_of q cost is us) → cost_by p e (cost i) vs (cost_of p cost is) ≡ cost_by q e (cost i) vs (cost_of q cost is)
      by (Enters s) vs h =
          ap (λ n. multiplier vs * cost i + n)
          (ap (λ (o : Option Carrier). cost_of p cost is (multiplier vs * carrier_size o ∷ vs)) (carrier_same s) ∙ h (multiplier vs * carrier_size (carrier_of q s) ∷ vs))
      by Leaves [] h = refl
      by Leaves (v ∷ vs) h = ap (λ n. v * cost i + n) (h vs)
      by Straight vs h = ap (λ n. multiplier vs * cost i + n) (h vs)
