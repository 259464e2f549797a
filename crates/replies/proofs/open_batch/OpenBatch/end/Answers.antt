use Rattle.std.proofs.Common.{[], sym, subst, ◌∙◌}
use Rattle.std.specs.Prelude.{if◌then◌else◌}
use Rattle.bson.specs.Spelling.{Spells}
use Rattle.replies.specs.View.{batch_name, IsSendable}
use Rattle.replies.proofs.BatchEnding.{array_short, cursor_fits, is_sendable, reply_fits, spells_reply}
use Rattle.replies.proofs.CursorSpelling.{below, int_short, reply}
use Rattle.replies.proofs.open_batch.OpenBatch.end.Goals as goal

pub end-requires-clause-short : goal.end-requires-clause-short
end-requires-clause-short c = array_short c.args.self c.requires.has_some.ds c.requires.has_some.given

pub end-requires-2-clause-short : goal.end-requires-2-clause-short
end-requires-2-clause-short c =
    let some = c.requires.has_some in
    cursor_fits c.args.self some.ds some.given
    (if c.args.is_done then 0 else c.args.number) c.args.namespace.now c.end.new.out.items c.put_number.new.out.items c.put_text.new.out.items
    c.in_ok-end.ensures c.in_ok-put_number.ensures c.in_ok-put_text.ensures c.requires.short

pub put-requires : goal.put-requires
put-requires c = int_short [] [] 0 []

pub end-requires-3-clause-short : goal.end-requires-3-clause-short
end-requires-3-clause-short c =
    let some = c.requires.has_some in
    reply_fits c.args.self some.ds some.given
    (if c.args.is_done then 0 else c.args.number) c.args.namespace.now c.end.new.out.items c.put_number.new.out.items c.put_text.new.out.items
    c.in_ok-end.ensures c.in_ok-put_number.ensures c.in_ok-put_text.ensures c.requires.short c.end-2.new.out.items c.put.new.out.items
    c.in_ok-end-2.ensures c.in_ok-put.ensures

pub new-requires : goal.new-requires
new-requires c =
    let some = c.requires.has_some in
    let number = if c.args.is_done then 0 else c.args.number in
    let spells =
    spells_reply c.args.self some.ds some.given number c.args.namespace.now c.end.new.out.items c.put_number.new.out.items c.put_text.new.out.items
    c.in_ok-end.ensures c.in_ok-put_number.ensures c.in_ok-put_text.ensures c.requires.short c.end-2.new.out.items c.put.new.out.items
    c.in_ok-end-2.ensures c.in_ok-put.ensures (below c.args.is_done c.args.number c.requires.number) c.utf8.namespace c.end-3.new.out.items
    c.in_ok-end-3.ensures in
    let same = c.spelled_once.ensures c.end-3.new.out.items (reply (batch_name c.args.self.kind) some.ds number c.args.namespace.now) spells in
    subst (Spells c.end-3.new.out.items) (sym same) spells

pub returns-clause-reply : goal.returns-clause-reply
returns-clause-reply c = λ ds given.
    let number = if c.args.is_done then 0 else c.args.number in
    let spells =
    spells_reply c.args.self ds given number c.args.namespace.now c.end.new.out.items c.put_number.new.out.items c.put_text.new.out.items
    c.in_ok-end.ensures c.in_ok-put_number.ensures c.in_ok-put_text.ensures c.requires.short c.end-2.new.out.items c.put.new.out.items
    c.in_ok-end-2.ensures c.in_ok-put.ensures (below c.args.is_done c.args.number c.requires.number) c.utf8.namespace c.end-3.new.out.items
    c.in_ok-end-3.ensures in
    c.new.ensures ∙ c.spelled_once.ensures c.end-3.new.out.items (reply (batch_name c.args.self.kind) ds number c.args.namespace.now) spells

pub returns-clause-sendable : goal.returns-clause-sendable
returns-clause-sendable c =
    let some = c.requires.has_some in
    let number = if c.args.is_done then 0 else c.args.number in
    let ns = c.args.namespace.now in
    let spells =
    spells_reply c.args.self some.ds some.given number ns c.end.new.out.items c.put_number.new.out.items c.put_text.new.out.items
    c.in_ok-end.ensures c.in_ok-put_number.ensures c.in_ok-put_text.ensures c.requires.short c.end-2.new.out.items c.put.new.out.items
    c.in_ok-end-2.ensures c.in_ok-put.ensures (below c.args.is_done c.args.number c.requires.number) c.utf8.namespace c.end-3.new.out.items
    c.in_ok-end-3.ensures in
    let same = c.new.ensures ∙ c.spelled_once.ensures c.end-3.new.out.items (reply (batch_name c.args.self.kind) some.ds number ns) spells in
    subst IsSendable (sym same)
    (is_sendable c.args.self some.ds some.given number ns c.end.new.out.items c.put_number.new.out.items c.put_text.new.out.items
    c.in_ok-end.ensures c.in_ok-put_number.ensures c.in_ok-put_text.ensures c.requires.short)
