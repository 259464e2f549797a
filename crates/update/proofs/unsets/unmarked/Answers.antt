use Rattle.std.proofs.Common.{rules, sym, ap, subst, ◌∙◌}
use Rattle.std.specs.Option.{is_some}
use Rattle.std.specs.Prelude.{not}
use Rattle.std.proofs.lemmas.Fn.{filter_same}
use Rattle.bson.specs.EditsLaws.{IsDocument-filter}
use Rattle.bson.specs.Lawful.{IsDocument}
use Rattle.bson.specs.Lookup.{lookup}
use Rattle.bson.specs.View.{pairs_of}
use Rattle.update.specs.Unsets.{unmarked}
use Rattle.update.proofs.UnsetLemmas.{pairs_of-filter}
use Rattle.update.proofs.unsets.unmarked.Goals as goal

pub from_pairs-requires : goal.from_pairs-requires
from_pairs-requires c =
    let left = filter_same _ (λ p. not (is_some (lookup c.args.marks.now p.name))) _ (λ x b f' k. search rules) _ _ c.retain.ensures.filtered in
    subst (λ ps. IsDocument (pairs_of ps)) (sym left)
    (IsDocument-filter (λ p. not (is_some (lookup c.args.marks.now p.name))) c.into_pairs-pairs.result.items
    (subst IsDocument (sym c.into_pairs-pairs.ensures.pairs) c.into_pairs-pairs.ensures.lawful))

pub returns : goal.returns
returns c =
    let left = filter_same _ (λ p. not (is_some (lookup c.args.marks.now p.name))) _ (λ x b f' k. search rules) _ _ c.retain.ensures.filtered in
    c.from_pairs.ensures ∙ ap pairs_of left ∙ pairs_of-filter c.args.marks.now c.into_pairs-pairs.result.items
    ∙ ap (unmarked c.args.marks.now) c.into_pairs-pairs.ensures.pairs
