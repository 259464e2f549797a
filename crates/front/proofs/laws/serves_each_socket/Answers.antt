use Rattle.front.proofs.RunningLemmas.{serves_each_socket}
use Rattle.front.proofs.laws.serves_each_socket.Goals as goal

pub returns : goal.returns
returns g c = λ n. serves_each_socket g.row.C.Denot g.D.Disk.history n
