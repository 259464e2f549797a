use Rattle.std.proofs.Common.{Some, option_map, refl, ap, sym, ◌∙◌, arith}
use Rattle.bson.specs.View.{tree}
use Rattle.bson.specs.Lawful.{levels}
use Rattle.bson.specs.Overview.{levels_of}
use Rattle.bson.specs.declared.value.Pair.{Pair}
use Rattle.bson.specs.declared.value.Value.{Value}
use Rattle.bson.proofs.BuildLaws.{pairs_within, pairs_set, pair_there}
use Rattle.bson.proofs.OverviewLaws.{holds_replaced}
use Rattle.bson.proofs.value.Document.replace_at.Goals as goal

pub index_mut-requires : goal.index_mut-requires
index_mut-requires c = omega (arith, pairs_within c.self.inside.pairs.items c.args.self.now c.args.at c.self.view_is c.requires, c.self.inside.pairs.ok.0)

pub with_value-requires : goal.with_value-requires
with_value-requires c = (
  omega (arith, ap levels_of c.take-beside.ensures, c.self.invariant.0.counted, c.self.invariant.0.lawful.depth),
  c.levels.ensures.most,
  c.levels-new_levels.ensures.most,
)

pub invariant_of-self : goal.invariant_of-self
invariant_of-self c =
    let p : Pair = record { name = c.index_mut.result.now.name; value = c.replace-old.new.dest } in
    holds_replaced c.self.inside.beside c.take-beside.result c.with_value.result c.self.inside.pairs.items c.deref.result.now c.args.self.now c.args.at
    c.index_mut.result.now p c.args.value c.levels.result c.levels-new_levels.result c.self.invariant c.take-beside.ensures c.self.view_is
    (pairs_within c.self.inside.pairs.items c.args.self.now c.args.at c.self.view_is c.requires) c.index_mut.ensures.value refl c.replace-old.ensures.after
    c.deref.ensures.value c.levels-new_levels.ensures.lawful
    (omega (arith, c.levels-new_levels.ensures.levels, c.if-new_levels-ge-MOST_LEVELS.false))
    (c.levels.ensures.levels ∙ ap (λ (v : Value). levels (tree v)) c.replace-old.ensures.value) c.levels-new_levels.ensures.levels c.with_value.ensures.levels
    c.with_value.ensures.fits

pub returns-clause-ok : goal.returns-clause-ok
returns-clause-ok c =
    let p : Pair = record { name = c.index_mut.result.now.name; value = c.replace-old.new.dest } in
    c.count_edit.ensures
    ∙ pairs_set c.self.inside.pairs.items c.args.self.now c.args.at c.index_mut.result.now p c.args.value c.self.view_is c.index_mut.ensures.value refl
    c.replace-old.ensures.after

pub returns-clause-old : goal.returns-clause-old
returns-clause-old c =
    ap (option_map (λ p. p.1))
    (pair_there c.self.inside.pairs.items c.args.self.now c.args.at c.index_mut.result.now c.self.view_is
    (pairs_within c.self.inside.pairs.items c.args.self.now c.args.at c.self.view_is c.requires) c.index_mut.ensures.value)
    ∙ ap (λ (v : Value). Some (tree v)) (sym c.replace-old.ensures.value)
