-- Sockets of which nothing has come stand behind those that there were.
use Rattle.std.proofs.Common.{◌≡◌, ◌+◌, List, [], ◌∷◌, ◌++◌, append_assoc, append-nil, replicate, sym, ap, ◌∙◌}
use Rattle.std.proofs.lemmas.List.{replicate-append-replicate}
use Rattle.driver_sockets.specs.Serving.{HaveGrown, fresh}
use Rattle.driver_sockets.specs.declared.socket.Socket.{Socket}

pub grown_none : (ss : List Socket) → HaveGrown ss ss
grown_none ss = record { count = 0; grown = sym (append-nil ss) }

pub grown_one : (ss now : List Socket) (s : Socket) → s ≡ fresh → HaveGrown ss now → HaveGrown ss (now ++ s ∷ [])
grown_one ss now s is grows = record {
  count = grows.count + 1;
  grown = ap (λ (last : Socket). now ++ last ∷ []) is ∙ ap (λ (front : List Socket). front ++ fresh ∷ []) grows.grown
      ∙ append_assoc ss (replicate grows.count fresh) (fresh ∷ [])
      ∙ ap (λ (more : List Socket). ss ++ more) (replicate-append-replicate grows.count 1 fresh);
}
