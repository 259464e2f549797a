use Rattle.std.proofs.Common.{ap, ◌∙◌}
use Rattle.bson.specs.Edits.{put, cut}
use Rattle.bson.specs.View.{tree}
use Rattle.update.proofs.RenamingLemmas.{put_behind_all, put_gone_all}
use Rattle.update.proofs.renaming.Renaming.put_last.Goals as goal

pub invariant_of-result : goal.invariant_of-result
invariant_of-result c =
    put_gone_all c.self.inside.gone c.self.inside.kept c.self.inside.moved c.levels-levels.ensures.lawful.lawful c.self.invariant c.args.name.now
    (tree c.args.value) c.put-2.new.document c.put.new.document c.in_ok-put-2.ensures
    (c.in_ok-put.ensures
    ∙ ap (λ ps. put ps c.args.name.now (tree c.args.value)) (c.remove-replaced.ensures.rest ∙ ap (cut c.self.inside.moved) c.as_str.ensures.name))

pub returns : goal.returns
returns c =
    put_behind_all c.self.inside.gone c.self.inside.kept c.self.inside.moved c.levels-levels.ensures.lawful.lawful c.self.invariant c.args.name.now
    (tree c.args.value) c.put-2.new.document c.put.new.document c.in_ok-put-2.ensures
    (c.in_ok-put.ensures
    ∙ ap (λ ps. put ps c.args.name.now (tree c.args.value)) (c.remove-replaced.ensures.rest ∙ ap (cut c.self.inside.moved) c.as_str.ensures.name))
    ∙ ap (λ ps. put (cut ps c.args.name.now) c.args.name.now (tree c.args.value)) c.self.view_is
