use Rattle.std.proofs.Common.{rules, ◌≡◌, refl, sym, ap, ◌∙◌}
use Rattle.std.specs.Prelude.{not}
use Rattle.std.specs.List.{filter}
use Rattle.std.proofs.lemmas.Fn.{filter_same}
use Rattle.filter.specs.Matches.{matches}
use Rattle.command_model.specs.Delete.{Deletion}
use Rattle.database_model.specs.Delete.{after_deletion}
use Rattle.statements.proofs.deletions.run_deletion.Goals as goal

pub returns-clause-left : goal.returns-clause-left
returns-clause-left c =
    let opened : Deletion = record { filter = c.deletion.inside.filter; only_first = c.deletion.inside.only_first } in
    let kept : c.retain.new.self.items ≡ filter (λ ps. not (matches opened.filter ps)) c.args.documents.now.items =
    filter_same _ (λ ps. not (matches opened.filter ps)) _ (λ x b f' k. search rules) _ _ c.retain.ensures.filtered in
    let by : after_deletion opened c.args.documents.now.items ≡ filter (λ ps. not (matches opened.filter ps)) c.args.documents.now.items =
    rw c.if-deletion.false refl in
    kept ∙ sym by ∙ ap (λ (d : Deletion). after_deletion d c.args.documents.now.items) c.deletion.view_is
