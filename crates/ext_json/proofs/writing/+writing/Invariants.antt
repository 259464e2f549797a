use Rattle.std.proofs.Common.{◌≡◌, ◌+◌, ◌*◌, ◌++◌, ◌∷◌, [], take}
use Rattle.json.specs.Token as json
use Rattle.bson.specs.View.{tree, pairs_of, items_of}
use Rattle.bson.specs.Tree.{count, count_pairs, count_items}
use Rattle.ext_json.specs.Written.{pairs_tokens, items_tokens}
use Rattle.ext_json.proofs.writing.+writing.Given as goal

abbrev pub decreases-put_array : goal.decreases-put_array
decreases-put_array l = 2 * count_items l.array.now + 1

abbrev pub decreases-put_document : goal.decreases-put_document
decreases-put_document l = 2 * count_pairs l.document.now + 1

abbrev pub decreases-put_value : goal.decreases-put_value
decreases-put_value l = 2 * count (tree l.value.now)

abbrev pub invariant-put_array-items : goal.invariant-put_array-items
invariant-put_array-items l =
    (l.out.tokens ≡ (l.fn.out.tokens ++ json.begin_array ∷ []) ++ items_tokens l.form (items_of (take l.item-index l.item-items)))
    × (l.out.before ≡ l.fn.out.before)

abbrev pub invariant-put_document-pairs : goal.invariant-put_document-pairs
invariant-put_document-pairs l =
    (l.out.tokens ≡ (l.fn.out.tokens ++ json.begin_object ∷ []) ++ pairs_tokens l.form (pairs_of (take l.pair-index l.pair-items)))
    × (l.out.before ≡ l.fn.out.before)
