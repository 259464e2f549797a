use Rattle.server.proofs.StreamsTaken.{takes_the_stream}
use Rattle.server.proofs.laws.takes_the_stream.Goals as goal

pub returns : goal.returns
returns c = takes_the_stream
