use Rattle.std.proofs.Common.{◌<◌, length, sym, ap, subst, ◌∙◌, arith}
use Rattle.bson.specs.Edits.{pairs_len}
use Rattle.bson.specs.EditsLaws.{pairs_len-pairs_of}
use Rattle.bson.specs.Lawful.{IsDocument}
use Rattle.bson.specs.View.{pairs_of}
use Rattle.update_model.specs.Fronts.{to_front}
use Rattle.update_model.proofs.IdLemmas.{IsDocument-to_front}
use Rattle.update.proofs.CopyingLemmas.{moved}
use Rattle.update.proofs.stored.moved_first.Goals as goal

pub remove-pair-requires : goal.remove-pair-requires
remove-pair-requires c = omega (arith, ap pairs_len c.into_pairs-pairs.ensures.pairs, pairs_len-pairs_of c.into_pairs-pairs.result.items)

pub from_pairs-requires : goal.from_pairs-requires
from_pairs-requires c =
    let ps = c.into_pairs-pairs.result.items in
    let within : c.args.at < length ps = omega (arith, ap pairs_len c.into_pairs-pairs.ensures.pairs, pairs_len-pairs_of ps) in
    let made = ap pairs_of c.in_ok-insert.ensures.items
    ∙ moved ps c.remove-pair.new.self.items c.args.at c.remove-pair.result within c.remove-pair.ensures.value c.remove-pair.ensures.by_index.2
    ∙ ap (λ qs. to_front qs c.args.at) c.into_pairs-pairs.ensures.pairs in
    subst IsDocument (sym made) (IsDocument-to_front c.args.document c.args.at c.into_pairs-pairs.ensures.lawful)

pub returns : goal.returns
returns c =
    let ps = c.into_pairs-pairs.result.items in
    let within : c.args.at < length ps = omega (arith, ap pairs_len c.into_pairs-pairs.ensures.pairs, pairs_len-pairs_of ps) in
    c.from_pairs.ensures
    ∙ ap pairs_of c.in_ok-insert.ensures.items
    ∙ moved ps c.remove-pair.new.self.items c.args.at c.remove-pair.result within c.remove-pair.ensures.value c.remove-pair.ensures.by_index.2
    ∙ ap (λ qs. to_front qs c.args.at) c.into_pairs-pairs.ensures.pairs
