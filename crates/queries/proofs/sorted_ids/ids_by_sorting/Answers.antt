use Rattle.std.proofs.Common.{◌≡◌, ◌-◌, ◌^◌, ℕ, List, Option, Vec, Global, map, take, length, ap, subst, ◌∙◌, arith}
use Rattle.std.specs.Prelude.{IfSome}
use Rattle.std.proofs.lemmas.Result.{err_from_is_err_and}
use Rattle.bson.specs.Tree.{Pairs}
use Rattle.database_model.specs.Find.{matching}
use Rattle.index.specs.View.{texts_of}
use Rattle.sort.specs.Sort.{order}
use Rattle.asked_documents.specs.Asking.{IsAsked}
use Rattle.walks.specs.Listed.{id_text_of}
use Rattle.queries.proofs.OrderingLemmas.{take_whole}
use Rattle.asked_documents.proofs.ReadingLemmas.{reads_behind, reads_made, reads_refused}
use Rattle.queries.proofs.sorted_ids.ids_by_sorting.Goals as goal

pub returns-in_err-found : goal.returns-in_err-found
returns-in_err-found g c =
    let e = err_from_is_err_and c.from_residual.result c.from_residual.ensures.1 in
    rw (e.1, e.2)
    (reads_refused g.D.Disk.history (IsAsked c.args.home.now)
    (λ now of (found : Option (Vec Pairs Global)). IfSome found (λ v. v.items ≡ take (2 ^ 64 - 1) (matching c.args.filter.now of.documents)))
    (λ now of (ids : Vec (Vec ℕ Global) Global). texts_of ids.items
    ≡ map id_text_of (take c.args.most (order c.args.sort.now (matching c.args.filter.now of.documents)))) c.args.file.now c.looked_up_in.new.file
    c.in_err-found.field-0.0 c.in_err-found.ensures.reads)

pub returns-in_ok-first_ids_of-in-Some : goal.returns-in_ok-first_ids_of-in-Some
returns-in_ok-first_ids_of-in-Some g c =
    let found = c.in-Some.found in
    let ids = c.in_ok-first_ids_of-in-Some.field-0 in
    reads_made g.D.Disk.history (IsAsked c.args.home.now)
    (λ now of (found : Option (Vec Pairs Global)). IfSome found (λ v. v.items ≡ take (2 ^ 64 - 1) (matching c.args.filter.now of.documents)))
    (λ now of (ids : Vec (Vec ℕ Global) Global). texts_of ids.items
    ≡ map id_text_of (take c.args.most (order c.args.sort.now (matching c.args.filter.now of.documents)))) c.args.file.now c.looked_up_in.new.file
    c.in_ok-found.field-0 ids c.in_ok-found.ensures.reads
    (λ now of asked told.
    let all = matching c.args.filter.now of.documents in
    let is : found.items ≡ take (2 ^ 64 - 1) all =
    subst (λ (o : Option (Vec Pairs Global)). IfSome o (λ v. v.items ≡ take (2 ^ 64 - 1) all)) c.in-Some.is told in
    let whole : found.items ≡ all = is ∙ take_whole (2 ^ 64 - 1) all (omega (arith, ap length is, found.ok.0, found.ok.1, found.small)) in
    c.in_ok-first_ids_of-in-Some.ensures
    ∙ ap (λ (ds : List Pairs). map id_text_of (take c.args.most (order c.args.sort.now ds))) (c.deref.ensures.value ∙ whole))

pub returns-in-None : goal.returns-in-None
returns-in-None g c =
    reads_behind g.D.Disk.history (IsAsked c.args.home.now)
    (λ now of (found : Option (Vec Pairs Global)). IfSome found (λ v. v.items ≡ take (2 ^ 64 - 1) (matching c.args.filter.now of.documents)))
    (IsAsked c.args.home.now)
    (λ now of (ids : Vec (Vec ℕ Global) Global). texts_of ids.items
    ≡ map id_text_of (take c.args.most (order c.args.sort.now (matching c.args.filter.now of.documents))))
    (λ now of (ids : Vec (Vec ℕ Global) Global). texts_of ids.items
    ≡ map id_text_of (take c.args.most (order c.args.sort.now (matching c.args.filter.now of.documents))))
    c.args.file.now c.looked_up_in.new.file c.walked_ids.new.file c.in_ok-found.field-0 c.walked_ids.result c.in_ok-found.ensures.reads c.walked_ids.ensures
    (λ now of asked told. record { other = of; was = asked; right = λ found right. right })
