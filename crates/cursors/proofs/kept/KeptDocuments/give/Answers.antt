use Rattle.std.proofs.Common.{drop, map, sym, ap, ◌∙◌}
use Rattle.std.proofs.lemmas.List.{drop-drop, drop-map}
use Rattle.projection.specs.Projection.{project}
use Rattle.cursors.proofs.kept.KeptDocuments.give.Goals as goal

pub returns : goal.returns
returns c =
    let f = project c.self.inside.projection in
    let ds = c.self.inside.documents.items in
    let given = c.self.inside.given in
    ap (map f) (sym (drop-drop c.args.count given ds)) ∙ sym (drop-map f c.args.count (drop given ds)) ∙ ap (drop c.args.count) c.self.view_is
