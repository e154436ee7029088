use Rattle.pb_protocol_packer.proofs.Nodes.{application-says}
use Rattle.pb_protocol_packer.proofs.node.application.Goals as goal

pub returns : goal.returns
returns c = application-says c.args.function c.args.arguments
