use Rattle.pb_protocol_unfolder_terms.proofs.Spelled.{decimal-name_bytes}
use Rattle.pb_protocol_unfolder_terms.proofs.element.push_number.Goals as goal

pub returns-clause-bytes : goal.returns-clause-bytes
returns-clause-bytes c = decimal-name_bytes c.args.number c.ranges.number.fits
