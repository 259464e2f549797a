use Rattle.std.proofs.Common.{◌≡◌, ◌+◌, ◌++◌, [], ℕ, List, Option, Some, None, Ok, Err, Vec, Global, drop, sym, ap, subst, ◌∙◌, arith}
use Rattle.std.specs.Prelude.{IfSome, option_map}
use Rattle.std.proofs.lemmas.List.{drop_all}
use Rattle.std.proofs.lemmas.Result.{err_from_is_err_and}
use Rattle.filter.specs.declared.condition.Condition.{Condition}
use Rattle.index.specs.View.{texts_of}
use Rattle.path.proofs.NameLemmas.{drop_step}
use Rattle.asked_documents.specs.Asking.{IsAsked}
use Rattle.asked_documents.specs.ById.{TellOf}
use Rattle.candidate_ids.proofs.AlternativesLemmas.{more_read, one_left}
use Rattle.candidate_ids.proofs.TellingLemmas.{AreTold, begins_told, ends_told, texts_appended}
use Rattle.asked_documents.proofs.ReadingLemmas.{reads_made, reads_memory, reads_none, reads_refused}
use Rattle.candidate_ids.proofs.alternatives.ids_of_all.Goals as goal

pub conditions-init : goal.conditions-init
conditions-init g c =
    let path = option_map (λ p. p.now) c.args.alternatives.path in
    let all = one_left path c.args.alternatives.conditions.now in
    reads_none g.D.Disk.history (IsAsked c.args.home.now) (λ now of (_ : Unit {0}). AreTold of all all [] (texts_of c.new-ids.result.items)) c.args.file.now tt
    (sym c.if-is_stopped.ensures)
    (λ now state of asked. subst (λ (vs : List (Vec ℕ Global)). AreTold of all all [] (texts_of vs)) (sym c.new-ids.ensures.items) (begins_told of all []))

pub returns-in_err-found : goal.returns-in_err-found
returns-in_err-found g c =
    let home = c.args.home.now in
    let path = option_map (λ p. p.now) c.args.alternatives.path in
    let rs = c.args.alternatives.conditions.now in
    let i = c.conditions.condition-index in
    let all = one_left path rs in
    let mid = texts_of c.conditions.ids.items in
    let e = err_from_is_err_and c.from_residual.result c.from_residual.ensures.1 in
    rw (e.1, e.2)
    (reads_refused g.D.Disk.history (IsAsked home)
    (λ now of (found : Option (Vec (Vec ℕ Global) Global)). IfSome found
    (λ ids. AreTold of all (one_left path (drop (i + 1) rs)) [] (mid ++ texts_of ids.items)))
    (λ now of (found : Option (Vec (Vec ℕ Global) Global)). IfSome found (λ ids. TellOf of all [] (texts_of ids.items))) c.args.file.now
    c.ids_of_one.new.file c.in_err-found.field-0.0
    (more_read g.D.Disk.history home path rs (drop i rs) c.condition-item.result (drop (i + 1) rs) mid c.args.file.now c.conditions.file c.ids_of_one.new.file
    (Err c.in_err-found.field-0.0) (drop_step rs i c.condition-item.result c.conditions-test.true c.condition-item.is) c.conditions.invariant
    c.in_err-found.ensures))

pub returns-in_default : goal.returns-in_default
returns-in_default g c =
    let home = c.args.home.now in
    let path = option_map (λ p. p.now) c.args.alternatives.path in
    let rs = c.args.alternatives.conditions.now in
    let i = c.conditions.condition-index in
    let all = one_left path rs in
    let mid = texts_of c.conditions.ids.items in
    reads_made g.D.Disk.history (IsAsked home)
    (λ now of (found : Option (Vec (Vec ℕ Global) Global)). IfSome found
    (λ ids. AreTold of all (one_left path (drop (i + 1) rs)) [] (mid ++ texts_of ids.items)))
    (λ now of (found : Option (Vec (Vec ℕ Global) Global)). IfSome found (λ ids. TellOf of all [] (texts_of ids.items))) c.args.file.now
    c.ids_of_one.new.file c.in_ok-found.field-0 None
    (more_read g.D.Disk.history home path rs (drop i rs) c.condition-item.result (drop (i + 1) rs) mid c.args.file.now c.conditions.file c.ids_of_one.new.file
    (Ok c.in_ok-found.field-0) (drop_step rs i c.condition-item.result c.conditions-test.true c.condition-item.is) c.conditions.invariant
    c.in_ok-found.ensures)
    (λ now of asked so. tt)

pub returns-in_err-append : goal.returns-in_err-append
returns-in_err-append g c =
    let home = c.args.home.now in
    let path = option_map (λ p. p.now) c.args.alternatives.path in
    let rs = c.args.alternatives.conditions.now in
    let i = c.conditions.condition-index in
    let all = one_left path rs in
    let mid = texts_of c.conditions.ids.items in
    let e = err_from_is_err_and c.from_residual-in_err-append.result c.from_residual-in_err-append.ensures.1 in
    rw e.1
    (reads_memory g.D.Disk.history (IsAsked home)
    (λ now of (found : Option (Vec (Vec ℕ Global) Global)). IfSome found
    (λ ids. AreTold of all (one_left path (drop (i + 1) rs)) [] (mid ++ texts_of ids.items)))
    (λ now of (found : Option (Vec (Vec ℕ Global) Global)). IfSome found (λ ids. TellOf of all [] (texts_of ids.items))) (Ok c.in_ok-found.field-0)
    c.args.file.now c.ids_of_one.new.file e.0 e.2
    (more_read g.D.Disk.history home path rs (drop i rs) c.condition-item.result (drop (i + 1) rs) mid c.args.file.now c.conditions.file c.ids_of_one.new.file
    (Ok c.in_ok-found.field-0) (drop_step rs i c.condition-item.result c.conditions-test.true c.condition-item.is) c.conditions.invariant
    c.in_ok-found.ensures))

pub conditions-preserved : goal.conditions-preserved
conditions-preserved g c =
    let home = c.args.home.now in
    let path = option_map (λ p. p.now) c.args.alternatives.path in
    let rs = c.args.alternatives.conditions.now in
    let i = c.conditions.condition-index in
    let all = one_left path rs in
    let rest = one_left path (drop (i + 1) rs) in
    let mid = texts_of c.conditions.ids.items in
    let after = texts_of c.append.new.self.items in
    reads_made g.D.Disk.history (IsAsked home)
    (λ now of (found : Option (Vec (Vec ℕ Global) Global)). IfSome found (λ ids. AreTold of all rest [] (mid ++ texts_of ids.items)))
    (λ now of (_ : Unit {0}). AreTold of all rest [] after) c.args.file.now c.ids_of_one.new.file c.in_ok-found.field-0 tt
    (more_read g.D.Disk.history home path rs (drop i rs) c.condition-item.result (drop (i + 1) rs) mid c.args.file.now c.conditions.file c.ids_of_one.new.file
    (Ok c.in_ok-found.field-0) (drop_step rs i c.condition-item.result c.conditions-test.true c.condition-item.is) c.conditions.invariant
    c.in_ok-found.ensures)
    (λ now of asked so. subst (AreTold of all rest [])
    (sym (ap texts_of {y = c.conditions.ids.items ++ c.in-Some.found.items} c.in_ok-append.ensures.items
    ∙ texts_appended c.conditions.ids.items c.in-Some.found.items))
    (subst (λ (o : Option (Vec (Vec ℕ Global) Global)). IfSome o (λ ids. AreTold of all rest [] (mid ++ texts_of ids.items))) c.in-Some.is so))

pub returns : goal.returns
returns g c =
    let path = option_map (λ p. p.now) c.args.alternatives.path in
    let rs = c.args.alternatives.conditions.now in
    let i = c.conditions.condition-index in
    let all = one_left path rs in
    let after = texts_of c.conditions.ids.items in
    reads_made g.D.Disk.history (IsAsked c.args.home.now) (λ now of (_ : Unit {0}). AreTold of all (one_left path (drop i rs)) [] after)
    (λ now of (found : Option (Vec (Vec ℕ Global) Global)). IfSome found (λ ids. TellOf of all [] (texts_of ids.items))) c.args.file.now c.conditions.file tt
    (Some c.conditions.ids) c.conditions.invariant
    (λ now of asked so. ends_told of all [] after
    (subst (λ (qs : List Condition). AreTold of all (one_left path qs) [] after) (drop_all i rs (omega (arith, c.conditions-test.false))) so))
