-- Which loops stand around a place, and static counts: how many steps and tokens a run takes at
-- most, an instruction in loops counting as often as their bodies run.
use Rattle.std.specs.Prelude.{ℕ, zero, suc, ◌+◌, ◌*◌, List, [], ◌∷◌, length, Option, Some, None}
use Rattle.pb_bytecode_program.specs.Values.{tagged_values}
use Rattle.pb_bytecode_program.specs.Machine.{Program, carrier_of}
use Rattle.pb_sorts.specs.declared.carrier.Carrier.{Carrier}
use Rattle.pb_bytecode_program.specs.declared.instruction.Op.{Op}
use Rattle.pb_bytecode_program.specs.declared.instruction.Op.TheVariants as op

-- what an instruction does to the loops around a place
pub data LoopEffect : Type 0 where
  Enters : (slot : ℕ) → LoopEffect
  Leaves : LoopEffect
  Straight : LoopEffect

abbrev pub loop_effect : Op → LoopEffect
loop_effect (op.Loop i) = Enters i
loop_effect op.Next = Leaves
loop_effect _ = Straight

abbrev pub loops_after : LoopEffect → ℕ → List ℕ → List ℕ
loops_after (Enters i) q st = q ∷ st
loops_after Leaves q [] = []
loops_after Leaves q (x ∷ st) = st
loops_after Straight q st = st

-- LOOP and NEXT pair like brackets: what is open after n instructions, the first of them at place q
abbrev pub loops_open_after : List Op → ℕ → List ℕ → ℕ → List ℕ
loops_open_after [] q st n = st
loops_open_after (i ∷ is) q st zero = st
loops_open_after (i ∷ is) q st (suc n) =
    loops_open_after is (q + 1) (loops_after (loop_effect i) q st) n

-- the places of the LOOPs around a place, the innermost first
abbrev pub loops_around : List Op → ℕ → List ℕ
loops_around code q = loops_open_after code 0 [] q

-- how many values a loop slot's carrier has
abbrev pub carrier_size : Option Carrier → ℕ
carrier_size None = 0
carrier_size (Some c) = length (tagged_values c)

-- how often an instruction runs in the loops that were opened, given the product for each
abbrev pub multiplier : List ℕ → ℕ
multiplier [] = 1
multiplier (w ∷ ws) = w

-- an instruction's cost times the product of the loops around it, and the cost of what follows
abbrev pub cost_by : Program → LoopEffect → ℕ → List ℕ → (List ℕ → ℕ) → ℕ
cost_by p (Enters i) c ws rest =
    multiplier ws * c + rest (multiplier ws * carrier_size (carrier_of p i) ∷ ws)
cost_by p Leaves c [] rest = c
cost_by p Leaves c (w ∷ ws) rest = w * c + rest ws
cost_by p Straight c ws rest = multiplier ws * c + rest ws

-- the sum of these, up to the end of the body
abbrev pub cost_of : Program → (Op → ℕ) → List Op → List ℕ → ℕ
cost_of p cost [] ws = 0
cost_of p cost (i ∷ is) ws = cost_by p (loop_effect i) (cost i) ws (cost_of p cost is)

abbrev pub one_step : Op → ℕ
one_step i = 1

abbrev pub tokens_of : Op → ℕ
tokens_of (op.Open c) = 1
tokens_of op.Close = 1
tokens_of (op.Emit l) = 1
tokens_of (op.Call eq) = 1
tokens_of _ = 0

abbrev pub static_steps : Program → ℕ
static_steps p = cost_of p one_step p.code []

abbrev pub static_tokens : Program → ℕ
static_tokens p = cost_of p tokens_of p.code []
