use Rattle.std.proofs.Common.{◌<◌, ◌++◌, [], ◌∷◌, Option, length, refl, sym, ap, ◌∙◌, append-nil, arith}
use Rattle.bson.specs.Tree.{Pairs}
use Rattle.planner.specs.IdLaws.{with_found}
use Rattle.walks.proofs.SelectLemmas.{done_selected, one_selected}
use Rattle.walks.proofs.scanning.SelectingDocumentFold.take.Goals as goal

pub returns-then-self-len-clause-takes : goal.returns-then-self-len-clause-takes
returns-then-self-len-clause-takes g c = λ start all h.
    let now = c.args.self.now in
    done_selected g.S.DocumentPredicate.selects start now all h (c.args.document.now ∷ []) (omega (arith, c.if-self-len.true, c.len.ensures, now.found.ok.0))

pub returns-in_default-clause-takes : goal.returns-in_default-clause-takes
returns-in_default-clause-takes g c = λ start all h.
    let now = c.args.self.now in
    let found : Option Pairs = c.in_ok-document.field-0 in
    let room : length now.found.items < now.most = omega (arith, c.if-self-len.false, c.len.ensures, now.found.ok.0) in
    one_selected g.S.DocumentPredicate.selects start now all h c.args.document.now found now c.in_ok-document.ensures.selects c.in_ok-document.ensures.within
    room refl refl
    (sym (ap (λ (o : Option Pairs). now.found.items ++ with_found o []) c.in_default.is ∙ append-nil now.found.items))

pub returns-clause-takes : goal.returns-clause-takes
returns-clause-takes g c = λ start all h.
    let now = c.args.self.now in
    let found : Option Pairs = c.in_ok-document.field-0 in
    let room : length now.found.items < now.most = omega (arith, c.if-self-len.false, c.len.ensures, now.found.ok.0) in
    one_selected g.S.DocumentPredicate.selects start now all h c.args.document.now found _ c.in_ok-document.ensures.selects c.in_ok-document.ensures.within
    room refl refl
    (c.in_ok-push.ensures.items ∙ sym (ap (λ (o : Option Pairs). now.found.items ++ with_found o []) c.in-Some.is))
