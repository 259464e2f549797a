use Rattle.std.proofs.Common.{rules, ◌≡◌, ◌<◌, ◌∙◌, sym, ap, length, arith}
use Rattle.std.specs.Prelude.{get_or}
use Rattle.std.proofs.lemmas.List.{get_or_read}
use Rattle.freelist.specs.Book.{without}
use Rattle.freelist.proofs.Searching.{without_at, without_none}
use Rattle.freelist.proofs.turns.remove_pin.Goals as goal

pub returns-then-index-version : goal.returns-then-index-version
returns-then-index-version c =
    let within : c.pins.at < length c.pins.pins.items = search rules in
    let here : get_or c.pins.pins.items c.pins.at 0 ≡ c.args.version =
    sym (get_or_read c.pins.pins.items c.pins.at c.index.result.now within c.index.ensures 0) ∙ c.if-index-version.true in
    c.remove-pin.ensures.items
    ∙ sym (without_at c.args.version c.pins.pins.items c.pins.at within c.pins.invariant.before here)
    ∙ ap (without c.args.version) c.pins.invariant.same

pub returns : goal.returns
returns c =
    sym (without_none c.args.version c.pins.pins.items
    (λ k below. c.pins.invariant.before k (omega (arith, c.pins-test.false, c.len-at-end.ensures, c.args.pins.now.ok, ap length c.pins.invariant.same, below))))
    ∙ ap (without c.args.version) c.pins.invariant.same
