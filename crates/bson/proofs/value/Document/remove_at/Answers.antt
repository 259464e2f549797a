use Rattle.std.proofs.Common.{List, ap, subst, ◌∙◌, arith}
use Rattle.bson.specs.View.{pairs_of}
use Rattle.bson.specs.Lawful.{IsDocument, pairs_levels}
use Rattle.bson.specs.EditsLaws.{IsDocument-without_pair}
use Rattle.bson.specs.Edits.{without_pair}
use Rattle.bson.specs.declared.value.Pair.{Pair}
use Rattle.bson.proofs.BuildLaws.{pairs_removed_levels, pairs_within, pairs_removed, pair_there, HoldsDocument-edit}
use Rattle.bson.proofs.value.Document.remove_at.Goals as goal

pub remove-pair-requires : goal.remove-pair-requires
remove-pair-requires c = omega (arith, pairs_within c.self.inside.pairs.items c.args.self.now c.args.at c.self.view_is c.requires, c.self.inside.pairs.ok.0)

pub invariant_of-self : goal.invariant_of-self
invariant_of-self c =
    let flat = pairs_removed_levels c.self.inside.pairs.items c.remove-pair.new.self.items c.deref.result.now c.args.self.now c.args.at c.remove-pair.result
    c.levels.result c.levels-2.result c.self.view_is
    (pairs_within c.self.inside.pairs.items c.args.self.now c.args.at c.self.view_is c.requires) c.remove-pair.ensures.value c.remove-pair.ensures.items
    c.deref.ensures.value (c.levels.ensures ∙ c.self.invariant.0.counted) c.levels-2.ensures.levels in (
      HoldsDocument-edit (pairs_of c.remove-pair.new.self.items) (without_pair c.args.self.now c.args.at) c.deepest_after-levels.result
          (pairs_removed c.self.inside.pairs.items c.remove-pair.new.self.items c.args.self.now c.args.at c.self.view_is c.remove-pair.ensures.items)
          (IsDocument-without_pair c.args.self.now c.args.at (subst IsDocument c.self.view_is c.self.invariant.0.lawful))
          (c.deepest_after-levels.ensures flat ∙ ap (λ (xs : List Pair). pairs_levels (pairs_of xs)) c.deref.ensures.value),
      tt,
    )

pub returns-clause-pair : goal.returns-clause-pair
returns-clause-pair c =
    pair_there c.self.inside.pairs.items c.args.self.now c.args.at c.remove-pair.result c.self.view_is
    (pairs_within c.self.inside.pairs.items c.args.self.now c.args.at c.self.view_is c.requires) c.remove-pair.ensures.value

pub returns-clause-rest : goal.returns-clause-rest
returns-clause-rest c =
    pairs_removed c.self.inside.pairs.items c.remove-pair.new.self.items c.args.self.now c.args.at c.self.view_is c.remove-pair.ensures.items
