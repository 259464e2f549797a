use Rattle.std.proofs.lemmas.Result.{err_from_is_err_and}
use Rattle.pinned_cursors.proofs.KeptLemmas.{kept_given, kept_lawful, kept_refused, no_walk}
use Rattle.pinned_cursors.proofs.giving.give_next.Goals as goal

pub returns-in_err-reply-clause-gives : goal.returns-in_err-reply-clause-gives
returns-in_err-reply-clause-gives g c =
    let e = err_from_is_err_and c.from_residual.result c.from_residual.ensures.1 in
    rw e.1 (kept_refused g.D.Disk.history c.args.file.now c.args.cursors.now c.args.at c.args.namespace.now c.args.most e.0 e.2)

pub returns-clause-gives : goal.returns-clause-gives
returns-clause-gives g c =
    let none = no_walk _ c.keeps_at.result c.keeps_at.ensures c.if-not-keeps_at.false in
    kept_given g.D.Disk.history c.args.file.now c.args.cursors.now c.args.at c.args.namespace.now c.args.most none c.requires.there c.in_ok-reply.count
    c.advance.new.self c.advance.ensures.walks c.in_ok-reply.reply c.in_ok-reply.ensures.count c.in_ok-reply.ensures.reply c.advance.ensures.table

pub returns-clause-lawful : goal.returns-clause-lawful
returns-clause-lawful g c =
    let none = no_walk _ c.keeps_at.result c.keeps_at.ensures c.if-not-keeps_at.false in
    kept_lawful g.D.Disk.history c.args.file.now c.args.cursors.now c.args.at c.args.namespace.now c.args.most none c.requires.there c.in_ok-reply.count
    c.advance.new.self c.advance.ensures.walks
