use Rattle.std.proofs.Common.{◌≡◌, drop}
use Rattle.pb_protocol_packer.specs.Beginnings.{begun_in}
use Rattle.pb_protocol_packer.specs.InitialPlaces.{begun_at}
use Rattle.pb_protocol_packer.proofs.beginning.beginning_of.Given as goal

abbrev pub invariant-loop-beginning : goal.invariant-loop-beginning
invariant-loop-beginning l = begun_at (begun_in (drop l.beginning-index l.beginnings)) l.name ≡ begun_at (begun_in l.beginnings) l.name
