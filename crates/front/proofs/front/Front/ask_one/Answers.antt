use Rattle.driver_sockets.proofs.AloneLemmas.{between_asked}
use Rattle.front.proofs.TurningLemmas.{others_set, serves_one}
use Rattle.driver_sockets.proofs.TyingLemmas.{tied_step}
use Rattle.front.proofs.front.Front.ask_one.Goals as goal

pub returns-then-asks_alone-clause-tied : goal.returns-then-asks_alone-clause-tied
returns-then-asks_alone-clause-tied g c =
    tied_step c.args.self.now.lending.loans c.serve_socket-served.new.lending.loans c.args.self.now.sockets.items c.args.number _
    c.index_mut-socket.result.now c.serve_socket-served.new.socket c.requires.tied c.requires.inside c.index_mut-socket.ensures.value
    c.serve_socket-served.ensures.asks

pub returns-clause-tied : goal.returns-clause-tied
returns-clause-tied g c =
    tied_step c.args.self.now.lending.loans c.serve_socket-served.new.lending.loans c.args.self.now.sockets.items c.args.number _
    c.index_mut-socket.result.now c.serve_socket-served.new.socket c.requires.tied c.requires.inside c.index_mut-socket.ensures.value
    c.serve_socket-served.ensures.asks

pub returns-then-asks_alone-clause-between : goal.returns-then-asks_alone-clause-between
returns-then-asks_alone-clause-between g c =
    between_asked c.args.self.now.lending.loans c.serve_socket-served.new.lending.loans c.args.self.now.sockets.items c.args.number _
    c.index_mut-socket.result.now c.serve_socket-served.new.socket c.requires.inside c.index_mut-socket.ensures.value c.requires.stands
    c.serve_socket-served.ensures.lends c.serve_socket-served.ensures.begins

pub returns-then-asks_alone-clause-serves : goal.returns-then-asks_alone-clause-serves
returns-then-asks_alone-clause-serves g c =
    serves_one c.serve_socket-served.result c.args.self.now.sockets.items c.args.time c.args.number _ _ _ c.index_mut-socket.result.now
    c.serve_socket-served.new.socket c.args.self.now.cursors.list.items _ _ _ _ c.requires.inside c.index_mut-socket.ensures.value
    c.next_info-info.ensures.info c.next_info-info.ensures.behind c.serve_socket-served.ensures.wanted c.serve_socket-served.ensures.serves
    c.serve_socket-served.ensures.runs_out

pub returns-clause-serves : goal.returns-clause-serves
returns-clause-serves g c =
    serves_one c.serve_socket-served.result c.args.self.now.sockets.items c.args.time c.args.number _ _ _ c.index_mut-socket.result.now
    c.serve_socket-served.new.socket c.args.self.now.cursors.list.items _ _ _ _ c.requires.inside c.index_mut-socket.ensures.value
    c.next_info-info.ensures.info c.next_info-info.ensures.behind c.serve_socket-served.ensures.wanted c.serve_socket-served.ensures.serves
    c.serve_socket-served.ensures.runs_out

pub returns-then-asks_alone-clause-others : goal.returns-then-asks_alone-clause-others
returns-then-asks_alone-clause-others g c = others_set c.args.self.now.sockets.items c.args.number c.serve_socket-served.new.socket

pub returns-clause-others : goal.returns-clause-others
returns-clause-others g c = others_set c.args.self.now.sockets.items c.args.number c.serve_socket-served.new.socket
