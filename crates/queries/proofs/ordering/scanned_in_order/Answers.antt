use Rattle.std.proofs.Common.{◌≡◌, Ok, Err, Vec, Global, take, sym, ap, subst, ◌∙◌}
use Rattle.std.specs.Prelude.{All}
use Rattle.std.proofs.lemmas.List.Elements.{All-nil}
use Rattle.std.specs.List.{filter}
use Rattle.std.proofs.lemmas.Result.{err_from_is_err_and}
use Rattle.bson.specs.Tree.{Pairs}
use Rattle.collections.proofs.ReadingLemmas.{asked_on, asked_refused}
use Rattle.database_model.specs.Find.{matching}
use Rattle.database_model.specs.Lawful.{IsWithin}
use Rattle.filter.specs.Matches.{matches}
use Rattle.sort.specs.Sort.{order}
use Rattle.asked_documents.specs.Asking.{IsAsked}
use Rattle.queries.specs.Folding.{Sorts}
use Rattle.walks.specs.IdRange.{IsWalked}
use Rattle.queries.specs.declared.ordering.Sorting.{Sorting}
use Rattle.queries.proofs.OrderingLemmas.{all_sorted, none_sorted}
use Rattle.queries.proofs.ordering.scanned_in_order.Goals as goal

pub fold_asked-requires : goal.fold_asked-requires
fold_asked-requires g c =
    none_sorted (record { alloc = c.args.alloc; filter = c.args.filter; sort = c.args.sort; most = c.args.most; found = c.new.result })

pub returns-in_err-sorted-clause-reads : goal.returns-in_err-sorted-clause-reads
returns-in_err-sorted-clause-reads g c =
    let start : Sorting = record { alloc = c.args.alloc; filter = c.args.filter; sort = c.args.sort; most = c.args.most; found = c.new.result } in
    let e = err_from_is_err_and c.from_residual.result c.from_residual.ensures.1 in
    rw (e.1, e.2)
    (asked_refused g.D.Disk.history (IsAsked c.args.home.now)
    (λ now of (found : Vec Pairs Global). found.items ≡ take c.args.most (order c.args.sort.now (matching c.args.filter.now of.documents))) c.args.file.now
    c.fold_asked.new.file (λ now of done. IsWalked (matches c.args.filter.now) Sorts start of.documents done) c.in_err-sorted.field-0.0
    c.in_err-sorted.ensures.reads)

pub returns-in_err-first_spelled-clause-reads : goal.returns-in_err-first_spelled-clause-reads
returns-in_err-first_spelled-clause-reads g c =
    let start : Sorting = record { alloc = c.args.alloc; filter = c.args.filter; sort = c.args.sort; most = c.args.most; found = c.new.result } in
    let done : Sorting = c.in_ok-sorted.sorted in
    let e = err_from_is_err_and c.from_residual-in_err-first_spelled.result c.from_residual-in_err-first_spelled.ensures.1 in
    rw e.1
    (asked_on g.D.Disk.history (IsAsked c.args.home.now)
    (λ now of (found : Vec Pairs Global). found.items ≡ take c.args.most (order c.args.sort.now (matching c.args.filter.now of.documents))) c.args.file.now
    c.fold_asked.new.file (λ now of done. IsWalked (matches c.args.filter.now) Sorts start of.documents done) done (Err e.0) c.in_ok-sorted.ensures.reads
    (λ now of asked walked. e.2))

pub returns-clause-reads : goal.returns-clause-reads
returns-clause-reads g c =
    let start : Sorting = record { alloc = c.args.alloc; filter = c.args.filter; sort = c.args.sort; most = c.args.most; found = c.new.result } in
    let done : Sorting = c.in_ok-sorted.sorted in
    let last = c.in_ok-first_spelled.field-0 in
    let first : last.items ≡ take c.args.most (order c.args.sort.now done.found.items) = c.in_ok-first_spelled.ensures.first in
    asked_on g.D.Disk.history (IsAsked c.args.home.now)
    (λ now of (found : Vec Pairs Global). found.items ≡ take c.args.most (order c.args.sort.now (matching c.args.filter.now of.documents))) c.args.file.now
    c.fold_asked.new.file (λ now of done. IsWalked (matches c.args.filter.now) Sorts start of.documents done) done (Ok last) c.in_ok-sorted.ensures.reads
    (λ now of asked walked.
    all_sorted start done (filter walked.chosen of.documents) last.items c.new.ensures.items first walked.folded.made
    ∙ ap (λ ds. take c.args.most (order c.args.sort.now ds)) walked.same)

pub first_spelled-requires : goal.first_spelled-requires
first_spelled-requires g c = c.in_ok-sorted.ensures.taken.made.within (subst (All IsWithin) (sym c.new.ensures.items) (All-nil IsWithin))
