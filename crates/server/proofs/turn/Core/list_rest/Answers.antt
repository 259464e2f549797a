use Rattle.std.proofs.Common.{◌≡◌, List, [], ◌++◌, length, map, Result, Err, Vec, ℕ, refl, sym, subst, ap, ◌∙◌, rules}
use Rattle.std.specs.Prelude.{String}
use Rattle.std.proofs.lemmas.List.{nil_from_length}
use Rattle.std.specs.Global.{Global}
use Rattle.bson.specs.Tree.{Pairs}
use Rattle.engine.specs.declared.check_fault.CheckFault.{CheckFault}
use Rattle.engine.specs.declared.check_fault.CheckFault.TheVariants as faults
use Rattle.engine.proofs.OnlyReading.{reads_on}
use Rattle.trusted_disk.specs.Trusting.{trusted_history}
use Rattle.server.specs.Dump.{ListsRest, dump_line, lines_in}
use Rattle.server.proofs.Dumping.{HasListed, listed_none, list_on, list_ends, list_fails, list_memory}
use Rattle.server.proofs.turn.Core.list_rest.Goals as goal

abbrev Listed : Type 0
Listed = Result (Vec (String Global) Global) CheckFault

pub batches-init : goal.batches-init
batches-init g c = record {
  sound = c.requires.sound;
  same = refl;
  come =
      let none : lines_in c.new-lines.result ≡ [] = search rules in
      subst (λ (lines : List (List ℕ)). HasListed (trusted_history g.D.Disk.history) c.args.walk c.args.self.now.engine lines c.args.walk
      c.args.self.now.engine) (sym none)
      (listed_none (trusted_history g.D.Disk.history) c.args.walk c.args.self.now.engine c.requires.sound.engine);
}

pub returns-in_err-documents-clause-lists : goal.returns-in_err-documents-clause-lists
returns-in_err-documents-clause-lists g c =
    let history = trusted_history g.D.Disk.history in
    let old = c.args.self.now.engine in
    let new = c.next_dumped.new.self.engine in
    let fault = c.in_err-documents.field-0.0 in
    let is : c.from_residual.result ≡ Err fault = search rules in
    subst (λ (r : Listed). ListsRest history c.args.walk r old new) (sym is)
    (list_fails history c.args.walk old
    (lines_in c.batches.lines) c.batches.walk c.batches.self.engine c.batches.invariant.come c.next_dumped.new.walk new fault
    c.in_err-documents.ensures.goes_on)

pub returns-then-is_empty-clause-lists : goal.returns-then-is_empty-clause-lists
returns-then-is_empty-clause-lists g c =
    let none : length c.in_ok-documents.documents.items ≡ 0 = search rules in
    list_ends (trusted_history g.D.Disk.history) c.args.walk c.args.self.now.engine
    (lines_in c.batches.lines) c.batches.walk c.batches.self.engine c.batches.invariant.come c.next_dumped.new.walk c.next_dumped.new.self.engine
    c.in_ok-documents.documents c.in_ok-documents.ensures.goes_on (nil_from_length c.in_ok-documents.documents.items none) c.batches.lines refl

pub returns-in_err-put_lines-clause-lists : goal.returns-in_err-put_lines-clause-lists
returns-in_err-put_lines-clause-lists g c =
    let history = trusted_history g.D.Disk.history in
    let old = c.args.self.now.engine in
    let new = c.next_dumped.new.self.engine in
    let is : c.from_residual-in_err-put_lines.result ≡ Err faults.Memory = search rules in
    subst (λ (r : Listed). ListsRest history c.args.walk r old new) (sym is)
    (list_memory history c.args.walk old new
    (reads_on history old c.batches.self.engine new c.batches.invariant.come.reads c.in_ok-documents.ensures.goes_on.reads))

pub batches-preserved : goal.batches-preserved
batches-preserved g c =
    let history = trusted_history g.D.Disk.history in
    let old = c.args.self.now.engine in
    let new = c.next_dumped.new.self.engine in
    let before = lines_in c.batches.lines in
    let put : lines_in c.put_lines.new.lines ≡ before ++ map dump_line c.in_ok-documents.documents.items =
    c.in_ok-put_lines.ensures ∙ ap (λ (ds : List Pairs). before ++ map dump_line ds) c.deref.ensures.value in
    record {
      sound = c.next_dumped.ensures.sound;
      same = c.next_dumped.ensures.same ∙ c.batches.invariant.same;
      come = subst (λ (lines : List (List ℕ)). HasListed history c.args.walk old lines c.next_dumped.new.walk new) (sym put)
          (list_on history c.args.walk old before c.batches.walk c.batches.self.engine c.batches.invariant.come c.next_dumped.new.walk new
          c.in_ok-documents.documents c.in_ok-documents.ensures.goes_on);
    }

pub returns-clause-lists : goal.returns-clause-lists
returns-clause-lists g c =
    list_memory (trusted_history g.D.Disk.history) c.args.walk c.args.self.now.engine c.batches.self.engine c.batches.invariant.come.reads
