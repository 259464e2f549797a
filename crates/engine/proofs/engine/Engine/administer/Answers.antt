use Rattle.std.proofs.Common.{sym, subst}
use Rattle.std.specs.Prelude.{Ok}
use Rattle.commands.specs.View.{command_read}
use Rattle.commands.specs.declared.command.Command.{Command}
use Rattle.engine.specs.Laws.{NeedsNoDisk, OnlyReads}
use Rattle.replies.specs.View.{IsSendable}
use Rattle.replies.proofs.SpelledSizes.{ping-sendable}
use Rattle.engine.proofs.engine.Engine.administer.Goals as goal

pub returns-in_ok-ping_reply-in-Ping-clause-sendable : goal.returns-in_ok-ping_reply-in-Ping-clause-sendable
returns-in_ok-ping_reply-in-Ping-clause-sendable g c = subst IsSendable (sym c.in_ok-ping_reply-in-Ping.ensures) ping-sendable

pub returns-in-Create-clause-reads : goal.returns-in-Create-clause-reads
returns-in-Create-clause-reads g c only = absurd (subst (λ (x : Command). OnlyReads (Ok (command_read x))) c.in-Create.is only)

pub returns-in-Drop-clause-reads : goal.returns-in-Drop-clause-reads
returns-in-Drop-clause-reads g c only = absurd (subst (λ (x : Command). OnlyReads (Ok (command_read x))) c.in-Drop.is only)

pub returns-in-CreateIndexes-clause-reads : goal.returns-in-CreateIndexes-clause-reads
returns-in-CreateIndexes-clause-reads g c only = absurd (subst (λ (x : Command). OnlyReads (Ok (command_read x))) c.in-CreateIndexes.is only)

pub returns-in-DropIndexes-clause-reads : goal.returns-in-DropIndexes-clause-reads
returns-in-DropIndexes-clause-reads g c only = absurd (subst (λ (x : Command). OnlyReads (Ok (command_read x))) c.in-DropIndexes.is only)

pub returns-in-Create-clause-sure : goal.returns-in-Create-clause-sure
returns-in-Create-clause-sure g c none = absurd (subst (λ (x : Command). NeedsNoDisk (Ok (command_read x))) c.in-Create.is none)

pub returns-in-Drop-clause-sure : goal.returns-in-Drop-clause-sure
returns-in-Drop-clause-sure g c none = absurd (subst (λ (x : Command). NeedsNoDisk (Ok (command_read x))) c.in-Drop.is none)

pub returns-in-ListCollections-clause-sure : goal.returns-in-ListCollections-clause-sure
returns-in-ListCollections-clause-sure g c none = absurd (subst (λ (x : Command). NeedsNoDisk (Ok (command_read x))) c.in-ListCollections.is none)

pub returns-in-CreateIndexes-clause-sure : goal.returns-in-CreateIndexes-clause-sure
returns-in-CreateIndexes-clause-sure g c none = absurd (subst (λ (x : Command). NeedsNoDisk (Ok (command_read x))) c.in-CreateIndexes.is none)

pub returns-in-DropIndexes-clause-sure : goal.returns-in-DropIndexes-clause-sure
returns-in-DropIndexes-clause-sure g c none = absurd (subst (λ (x : Command). NeedsNoDisk (Ok (command_read x))) c.in-DropIndexes.is none)

pub returns-in-ListIndexes-clause-sure : goal.returns-in-ListIndexes-clause-sure
returns-in-ListIndexes-clause-sure g c none = absurd (subst (λ (x : Command). NeedsNoDisk (Ok (command_read x))) c.in-ListIndexes.is none)

pub returns-in-Explain-clause-sure : goal.returns-in-Explain-clause-sure
returns-in-Explain-clause-sure g c none = absurd (subst (λ (x : Command). NeedsNoDisk (Ok (command_read x))) c.in-Explain.is none)

pub returns-in-Create-clause-still : goal.returns-in-Create-clause-still
returns-in-Create-clause-still g c none = absurd (subst (λ (x : Command). NeedsNoDisk (Ok (command_read x))) c.in-Create.is none)

pub returns-in-Drop-clause-still : goal.returns-in-Drop-clause-still
returns-in-Drop-clause-still g c none = absurd (subst (λ (x : Command). NeedsNoDisk (Ok (command_read x))) c.in-Drop.is none)

pub returns-in-ListCollections-clause-still : goal.returns-in-ListCollections-clause-still
returns-in-ListCollections-clause-still g c none = absurd (subst (λ (x : Command). NeedsNoDisk (Ok (command_read x))) c.in-ListCollections.is none)

pub returns-in-CreateIndexes-clause-still : goal.returns-in-CreateIndexes-clause-still
returns-in-CreateIndexes-clause-still g c none = absurd (subst (λ (x : Command). NeedsNoDisk (Ok (command_read x))) c.in-CreateIndexes.is none)

pub returns-in-DropIndexes-clause-still : goal.returns-in-DropIndexes-clause-still
returns-in-DropIndexes-clause-still g c none = absurd (subst (λ (x : Command). NeedsNoDisk (Ok (command_read x))) c.in-DropIndexes.is none)

pub returns-in-ListIndexes-clause-still : goal.returns-in-ListIndexes-clause-still
returns-in-ListIndexes-clause-still g c none = absurd (subst (λ (x : Command). NeedsNoDisk (Ok (command_read x))) c.in-ListIndexes.is none)

pub returns-in-Explain-clause-still : goal.returns-in-Explain-clause-still
returns-in-Explain-clause-still g c none = absurd (subst (λ (x : Command). NeedsNoDisk (Ok (command_read x))) c.in-Explain.is none)
