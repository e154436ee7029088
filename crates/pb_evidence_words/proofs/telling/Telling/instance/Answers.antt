use Rattle.std.proofs.Common.{◌≡◌, true, List, subst}
use Rattle.pb_sorts.specs.declared.carrier.Carrier.{Carrier}
use Rattle.pb_sorts.specs.Instance.{instance_of, is_instance}
use Rattle.pb_sorts.specs.Layout.{carriers_of}
use Rattle.pb_sorts.proofs.Numbers.{is_instance-slice_get}
use Rattle.pb_evidence_words.proofs.telling.Telling.instance.Goals as goal

pub returns-clause-known : goal.returns-clause-known
returns-clause-known c =
    subst (λ (l : List (List Carrier)). is_instance (carriers_of l) (instance_of c.instance.result) ≡ true) c.layout.ensures
    (is_instance-slice_get (carriers_of c.layout.result.now) c.args.number (instance_of c.instance.result) c.instance.ensures)
