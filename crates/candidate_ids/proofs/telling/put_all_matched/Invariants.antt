use Rattle.std.specs.Prelude.{◌++◌, Ok, drop, map}
use Rattle.collections.specs.Lookups.{ReadsOf}
use Rattle.index.specs.View.{texts_of}
use Rattle.asked_documents.specs.Asking.{IsAsked}
use Rattle.candidate_ids.proofs.TellingLemmas.{AreToldBut}
use Rattle.candidate_ids.proofs.telling.put_all_matched.Given as goal

-- what the filters so far match is told, but for those that are walked by
abbrev pub invariant-filters : goal.invariant-filters
invariant-filters g l =
    let filters = g.S.DocumentPredicate.filters l.which in
    ReadsOf g.D.Disk.history (IsAsked l.home)
    (λ now c (_ : Unit {0}). AreToldBut c filters (texts_of l.fn.ids.items) (drop l.at filters ++ map (λ f. f.now) l.walked.items) (texts_of l.ids.items))
    (Ok tt) l.fn.file l.file
