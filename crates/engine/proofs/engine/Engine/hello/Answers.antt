use Rattle.std.proofs.Common.{sym, subst}
use Rattle.replies.specs.View.{IsSendable}
use Rattle.replies.proofs.SpelledSizes.{hello-sendable}
use Rattle.engine.proofs.engine.Engine.hello.Goals as goal

pub returns-clause-sendable : goal.returns-clause-sendable
returns-clause-sendable g c = subst IsSendable (sym c.in_ok-hello_reply.ensures) (hello-sendable c.args.connection)
