use Rattle.std.proofs.Common.{List, ℕ, Option, Result, Vec, Global, subst, sym}
use Rattle.std.specs.Prelude.{IfSome}
use Rattle.std.proofs.lemmas.Result.{err_from_is_err_and}
use Rattle.bson.specs.Tree.{Pairs}
use Rattle.aggregate_model.specs.Taking.{takes}
use Rattle.pipelines.specs.View.{pipeline_of}
use Rattle.index.specs.View.{texts_of}
use Rattle.path.specs.declared.refusal.Refusal.{Refusal}
use Rattle.asked_documents.specs.Asking.{IsAsked}
use Rattle.asked_documents.specs.ById.{AreIdsOf}
use Rattle.queries.specs.Piping.{Pipes}
use Rattle.asked_documents.proofs.ReadingLemmas.{reads_behind, reads_refused}
use Rattle.queries.proofs.piping.grouped_in.Goals as goal

pub returns-in_err-ids-clause-reads : goal.returns-in_err-ids-clause-reads
returns-in_err-ids-clause-reads g c =
    let home = c.args.home.now in
    let stages = pipeline_of c.args.pipeline.now in
    let e = err_from_is_err_and c.from_residual.result c.from_residual.ensures.1 in
    rw (e.1, e.2)
    (reads_refused g.D.Disk.history (IsAsked home)
    (λ now of (o : Option (Vec (Vec ℕ Global) Global)). IfSome o (λ ids. AreIdsOf home.number (takes stages) (texts_of ids.items) now of))
    (λ now of (given : Result (Vec Pairs Global) Refusal). Pipes stages given of.documents) c.args.file.now c.asked_ids.new.file c.in_err-ids.field-0.0
    c.in_err-ids.ensures)

pub returns-in-Some-clause-reads : goal.returns-in-Some-clause-reads
returns-in-Some-clause-reads g c =
    let home = c.args.home.now in
    let stages = pipeline_of c.args.pipeline.now in
    let ids : List (List ℕ) = texts_of c.deref.result.now in
    reads_behind g.D.Disk.history (IsAsked home)
    (λ now of (o : Option (Vec (Vec ℕ Global) Global)). IfSome o (λ ids. AreIdsOf home.number (takes stages) (texts_of ids.items) now of))
    (AreIdsOf home.number (takes stages) ids) (λ now of (given : Result (Vec Pairs Global) Refusal). Pipes stages given of.documents)
    (λ now of (given : Result (Vec Pairs Global) Refusal). Pipes stages given of.documents)
    c.args.file.now c.asked_ids.new.file c.piped_by_ids.new.file c.in_ok-ids.field-0 c.piped_by_ids.result c.in_ok-ids.ensures
    c.piped_by_ids.ensures.reads
    (λ now of asked told. record {
      other = of;
      was = subst (λ ts. AreIdsOf home.number (takes stages) (texts_of ts) now of) (sym c.deref.ensures.value)
          (subst (λ (o : Option (Vec (Vec ℕ Global) Global)). IfSome o (λ ids. AreIdsOf home.number (takes stages) (texts_of ids.items) now of)) c.in-Some.is
          told);
      right = λ given right. right;
    })

pub returns-in-None-clause-reads : goal.returns-in-None-clause-reads
returns-in-None-clause-reads g c =
    let home = c.args.home.now in
    let stages = pipeline_of c.args.pipeline.now in
    reads_behind g.D.Disk.history (IsAsked home)
    (λ now of (o : Option (Vec (Vec ℕ Global) Global)). IfSome o (λ ids. AreIdsOf home.number (takes stages) (texts_of ids.items) now of))
    (IsAsked home) (λ now of (given : Result (Vec Pairs Global) Refusal). Pipes stages given of.documents)
    (λ now of (given : Result (Vec Pairs Global) Refusal). Pipes stages given of.documents)
    c.args.file.now c.asked_ids.new.file c.grouped_scanned.new.file c.in_ok-ids.field-0 c.grouped_scanned.result c.in_ok-ids.ensures
    c.grouped_scanned.ensures.reads
    (λ now of asked told. record { other = of; was = asked; right = λ given right. right })
