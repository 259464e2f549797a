use Rattle.std.proofs.Common.{◌<◌, ◌≤◌, length, arith}
use Rattle.std.proofs.lemmas.Result.{err_from_is_err_and}
use Rattle.collections.specs.Lookups.{IsNameOf, IsOfCollection, name_in, name_of}
use Rattle.collections.proofs.FoundLemmas.{AtPlace, each_mapped, item_at, made_all, made_more}
use Rattle.collections.proofs.lookups.names_at.Goals as goal

pub returns-in_err-name_at : goal.returns-in_err-name_at
returns-in_err-name_at c =
    let p = err_from_is_err_and c.from_residual.result c.from_residual.ensures.1 in
    let lt : c.loop-entry.entry-index < length c.args.entries.now = omega arith in
    λ cs each.
    let there : AtPlace IsOfCollection c.entry-item.result cs c.loop-entry.entry-index =
    item_at IsOfCollection c.args.entries.now cs c.loop-entry.entry-index c.entry-item.result c.entry-item.is each lt in
    rw (p.1, p.2) (c.in_err-name_at.ensures there.y there.so)

pub loop-entry-preserved : goal.loop-entry-preserved
loop-entry-preserved c =
    let lt : c.loop-entry.entry-index < length c.args.entries.now = omega arith in
    λ cs each.
    made_more IsOfCollection IsNameOf c.args.entries.now cs c.loop-entry.names.items c.push.new.self.items c.loop-entry.entry-index c.entry-item.result
    c.in_ok-name_at.field-0 c.entry-item.is each lt (c.loop-entry.invariant cs each)
    (λ of so. c.in_ok-name_at.ensures of so) c.in_ok-push.ensures.items

pub returns : goal.returns
returns c =
    let le : length c.args.entries.now ≤ c.loop-entry.entry-index = omega arith in
    λ cs each. each_mapped name_of name_in c.loop-entry.names.items cs
    (made_all IsOfCollection IsNameOf c.args.entries.now cs c.loop-entry.names.items c.loop-entry.entry-index each le (c.loop-entry.invariant cs each))
