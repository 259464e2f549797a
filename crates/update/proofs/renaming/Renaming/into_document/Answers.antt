use Rattle.std.proofs.Common.{ap, sym, subst, ◌∙◌}
use Rattle.bson.specs.Lawful.{IsDocument}
use Rattle.bson.specs.Tree.{append}
use Rattle.bson.specs.View.{pairs_of}
use Rattle.update.proofs.RenamingLemmas.{IsDocument-whole, pairs_of-both}
use Rattle.update.proofs.renaming.Renaming.into_document.Goals as goal

pub from_pairs-requires : goal.from_pairs-requires
from_pairs-requires c =
    let ps = c.into_pairs-pairs.result.items in
    let qs = c.into_pairs-behind.result.items in
    subst IsDocument
    (sym (ap pairs_of c.in_ok-append.ensures.items ∙ pairs_of-both ps qs
    ∙ (λ i. append ((c.into_pairs-pairs.ensures.pairs ∙ c.unmarked.ensures) i) (c.into_pairs-behind.ensures.pairs i))))
    (IsDocument-whole c.self.inside.gone c.self.inside.kept c.self.inside.moved c.self.invariant
    c.levels-levels.ensures.lawful c.into_pairs-behind.ensures.lawful)

pub returns : goal.returns
returns c =
    let ps = c.into_pairs-pairs.result.items in
    let qs = c.into_pairs-behind.result.items in
    c.from_pairs.ensures ∙ ap pairs_of c.in_ok-append.ensures.items ∙ pairs_of-both ps qs
    ∙ (λ i. append ((c.into_pairs-pairs.ensures.pairs ∙ c.unmarked.ensures) i) (c.into_pairs-behind.ensures.pairs i)) ∙ c.self.view_is
