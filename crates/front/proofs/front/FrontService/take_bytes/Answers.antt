use Rattle.std.proofs.Common.{rules, ◌≡◌, ◌<◌, length, get_or, List, ℕ, sym, ap, ◌∙◌}
use Rattle.driver_sockets.specs.Alone.{has_begun}
use Rattle.driver_sockets.specs.Serving.{fed}
use Rattle.driver_sockets.specs.Tying.{is_asked}
use Rattle.driver_sockets.specs.declared.socket.Socket.{Socket}
use Rattle.driver_sockets.proofs.AloneLemmas.{stands_fed, stands_grown, stands_set}
use Rattle.driver_sockets.proofs.TyingLemmas.{tied_fed, tied_grown, tied_socket}
use Rattle.front.proofs.front.FrontService.take_bytes.Goals as goal

pub returns-in-Ok-clause-sound : goal.returns-in-Ok-clause-sound
returns-in-Ok-clause-sound g c =
    let loans = c.args.self.now.lending.loans in
    let alone = c.args.self.now.alone in
    let ss = c.args.self.now.sockets.items in
    let there = c.grow.new.sockets.items in
    let n = c.args.connection in
    let any = c.index_mut.result.now in
    let new = c.feed.new.self in
    let bytes : List ℕ = c.args.bytes.now in
    let inside : n < length there = search rules in
    let is : new ≡ fed (get_or there n any) bytes = c.in-Ok.ensures.ok ∙ ap (λ (s : Socket). fed s bytes) c.index_mut.ensures.value in (
      c.requires.sound.0,
      tied_fed loans ss there n any new bytes c.requires.sound.1 c.grow.ensures.grown inside is,
      stands_fed alone there n any new bytes inside is (stands_grown alone ss there c.requires.sound.2 c.grow.ensures.grown),
    )

pub returns-in-Err-clause-sound : goal.returns-in-Err-clause-sound
returns-in-Err-clause-sound g c =
    let loans = c.args.self.now.lending.loans in
    let alone = c.args.self.now.alone in
    let ss = c.args.self.now.sockets.items in
    let there = c.grow.new.sockets.items in
    let n = c.args.connection in
    let any = c.index_mut.result.now in
    let new = c.feed.new.self in
    let inside : n < length there = search rules in
    let is : new ≡ get_or there n any = c.in-Err.ensures.err ∙ c.index_mut.ensures.value in (
      c.requires.sound.0,
      tied_socket loans there n any new (tied_grown loans ss there c.requires.sound.1 c.grow.ensures.grown) inside
          (λ e. ap (λ (s : Socket). is_asked s.job) is ∙ e),
      stands_set alone there n any new inside (λ e. sym (ap has_begun is) ∙ e) (stands_grown alone ss there c.requires.sound.2 c.grow.ensures.grown),
    )
