use Rattle.std.proofs.Common.{◌∙◌, Some, ap, sym, codes}
use Rattle.bson.specs.Edits.{put}
use Rattle.bson.specs.Tree.{Pairs, array}
use Rattle.bson.specs.View.{tree}
use Rattle.bson.specs.declared.value.Value.{Value}
use Rattle.driver_replies.specs.Indexes.{told_indexes}
use Rattle.driver_replies.proofs.IndexLemmas.{cursor_flat}
use Rattle.driver_replies.proofs.indexes.indexes_told.Goals as goal

pub set-requires-2-clause-flat : goal.set-requires-2-clause-flat
set-requires-2-clause-flat c =
    cursor_flat c.args.reply c.in-Some-Document.cursor c.set.new.document c.in-Some-Array.entries c.in_ok-told.told c.levels-levels.ensures.lawful
    (sym c.in-Some-Document.ensures ∙ ap (λ (v : Value). Some (tree v)) c.in-Some-Document.field-0-is)
    (sym c.in-Some-Array.ensures ∙ ap (λ (v : Value). Some (tree v)) c.in-Some-Array.field-0-is)
    (c.in_ok-told.ensures ∙ ap told_indexes c.items.ensures.items)
    (c.in_ok-set.ensures ∙ ap (λ (ps : Pairs). put ps (codes "firstBatch") (array c.in_ok-told.told)) c.in_ok-cursor.ensures)
