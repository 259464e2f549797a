use Rattle.std.proofs.Common.{◌∙◌, rules}
use Rattle.std.proofs.lemmas.Fn.{always_returns_same}
use Rattle.value_order.specs.Order.{bytes_cmp}
use Rattle.index.proofs.SearchLemmas.{search_told}
use Rattle.index.proofs.changes.is_among.Goals as goal

pub returns : goal.returns
returns c =
    c.is_ok.ensures.value ∙ search_told c.args.keys.now c.args.key.now c.binary_search_by.result c.requires c.binary_search_by.ensures.bound
    (c.binary_search_by.ensures.position (λ v. bytes_cmp v.items c.args.key.now) (always_returns_same _ _ _ (λ a r f k. search rules)))
