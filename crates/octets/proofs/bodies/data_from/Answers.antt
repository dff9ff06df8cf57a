use Rattle.octets.proofs.Datas.{data_front}
use Rattle.octets.proofs.bodies.data_from.Goals as goal

pub returns : goal.returns
returns c = data_front c.args.bytes.now _ c.least_of_six.ensures c.six_of.ensures
