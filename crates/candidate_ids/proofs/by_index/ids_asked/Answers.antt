use Rattle.std.proofs.Common.{◌≡◌, [], Option, None, Vec, Global, ℕ, sym, ap}
use Rattle.std.specs.Prelude.{IfSome}
use Rattle.filter.specs.Matches.{matches}
use Rattle.index.specs.Definition.{Definition}
use Rattle.index.specs.View.{texts_of}
use Rattle.collections.specs.IndexTexts.{IsNumberedIndex}
use Rattle.planner.specs.View.{index_of, range_of}
use Rattle.asked_documents.specs.Asking.{IsAsked}
use Rattle.asked_documents.specs.ById.{TellOf}
use Rattle.candidate_ids.specs.ByIndex.{AreIdsInRange}
use Rattle.candidate_ids.proofs.ByIndexLemmas.{asked_in_index}
use Rattle.asked_documents.proofs.ReadingLemmas.{reads_as, reads_none}
use Rattle.asked_documents.proofs.AskingLemmas.{asks_stopped}
use Rattle.candidate_ids.proofs.by_index.ids_asked.Goals as goal

pub returns-then-is_stopped : goal.returns-then-is_stopped
returns-then-is_stopped g c = λ rs is.
    let home = c.args.home.now in
    asks_stopped g.D.Disk.history (IsAsked home)
    (λ now of (found : Option (Vec (Vec ℕ Global) Global)). IfSome found (λ ids. TellOf of (matches rs) [] (texts_of ids.items)))
    c.args.file.now (sym c.if-is_stopped.ensures)

pub returns-in_default : goal.returns-in_default
returns-in_default g c = λ rs is.
    let home = c.args.home.now in
    reads_none g.D.Disk.history (IsAsked home)
    (λ now of (found : Option (Vec (Vec ℕ Global) Global)). IfSome found (λ ids. TellOf of (matches rs) [] (texts_of ids.items)))
    c.args.file.now None (sym c.if-is_stopped.ensures) (λ now state of asked. tt)

pub returns : goal.returns
returns g c = λ rs is.
    let home = c.args.home.now in
    let r = range_of c.args.range.now in
    let index : Definition = c.in-Some.index.now in
    reads_as g.D.Disk.history (IsAsked home) (IsNumberedIndex home.number index.number)
    (λ now at (found : Option (Vec (Vec ℕ Global) Global)). at.definition ≡ index → IfSome found (λ ids. AreIdsInRange r at (texts_of ids.items)))
    (λ now of (found : Option (Vec (Vec ℕ Global) Global)). IfSome found (λ ids. TellOf of (matches rs) [] (texts_of ids.items)))
    c.args.file.now c.ids_in_range.new.file c.ids_in_range.result (sym c.if-is_stopped.ensures) c.ids_in_range.ensures
    (λ now state of asked. asked_in_index rs home r is now state of asked index (ap index_of c.in-Some.is))
