use Rattle.std.proofs.Common.{ℕ, List, Ok, Err, ap, sym, subst, ◌∙◌}
use Rattle.std.proofs.lemmas.Result.{err_from_is_err_and}
use Rattle.collections.specs.Versions.{ReadsVersion}
use Rattle.index.specs.View.{texts_of}
use Rattle.walks.specs.InOrder.{AreLedIn, GivesLed}
use Rattle.walks.proofs.InOrderReadLemmas.{HasCome, come_on, come_over, come_to_end, lending_refused, next_refused, none_come}
use Rattle.walks.proofs.in_order.give_in_order.Goals as goal

pub loop-init : goal.loop-init
loop-init g c =
    none_come g.D.Disk.history c.args.version c.args.number c.args.walk.now c.args.giving.now c.args.file.now c.requires c.in_ok-from.from.items
    c.in_ok-from.ensures

pub returns-in_err-read-clause-reads : goal.returns-in_err-read-clause-reads
returns-in_err-read-clause-reads g c =
    let come = subst (λ (t : List ℕ). HasCome g.D.Disk.history c.args.version c.args.number c.args.walk.now c.args.giving.now c.args.file.now
    c.loop.file t c.loop.giving) (sym c.deref.ensures.value) c.loop.invariant in
    let e = err_from_is_err_and c.from_residual-in_err-read.result c.from_residual-in_err-read.ensures.1 in
    rw (e.1, e.2)
    (next_refused g.D.Disk.history c.args.version c.args.number c.args.walk.now c.args.giving.now c.args.file.now
    c.loop.file c.next_texts_in.new.self c.deref.result.now c.loop.giving come c.args.width c.number-index.result c.number-index.ensures.number
    c.in_err-read.field-0.0 c.loop.giving c.in_err-read.ensures)

pub returns-in_err-left-clause-reads : goal.returns-in_err-left-clause-reads
returns-in_err-left-clause-reads g c =
    let come = subst (λ (t : List ℕ). HasCome g.D.Disk.history c.args.version c.args.number c.args.walk.now c.args.giving.now c.args.file.now
    c.loop.file t c.loop.giving) (sym c.deref.ensures.value) c.loop.invariant in
    let e = err_from_is_err_and c.from_residual-in_err-left.result c.from_residual-in_err-left.ensures.1 in
    rw (e.1, e.2)
    (lending_refused g.D.Disk.history c.args.version c.args.number c.args.walk.now c.args.giving.now c.args.file.now
    c.loop.file c.next_texts_in.new.self c.deref.result.now c.loop.giving come c.args.width c.number-index.result c.number-index.ensures.number
    c.give_texts.new.file c.give_texts.new.giving c.in_ok-read.read c.in_ok-read.ensures c.in_err-left.field-0.0
    (subst (λ (ts : List (List ℕ)). ReadsVersion g.D.Disk.history c.args.version (AreLedIn c.args.number c.args.walk.now.index.now ts)
    (λ cs chosen left. GivesLed c.args.walk.now.index.now ts chosen.documents c.loop.giving c.give_texts.new.giving left) (Err c.in_err-left.field-0.0)
    c.next_texts_in.new.self c.give_texts.new.file) (ap texts_of c.deref-in-loop.ensures.value) c.in_err-left.ensures.reads))

pub returns-then-is_over-clause-reads : goal.returns-then-is_over-clause-reads
returns-then-is_over-clause-reads g c =
    let come = subst (λ (t : List ℕ). HasCome g.D.Disk.history c.args.version c.args.number c.args.walk.now c.args.giving.now c.args.file.now
    c.loop.file t c.loop.giving) (sym c.deref.ensures.value) c.loop.invariant in
    come_over g.D.Disk.history c.args.version c.args.number c.args.walk.now c.args.giving.now c.args.file.now
    c.loop.file c.next_texts_in.new.self c.deref.result.now c.loop.giving come c.args.width c.number-index.result c.number-index.ensures.number
    c.give_texts.new.file c.give_texts.new.giving c.in_ok-read.read c.in_ok-read.ensures c.in_ok-left.left
    (subst (λ (ts : List (List ℕ)). ReadsVersion g.D.Disk.history c.args.version (AreLedIn c.args.number c.args.walk.now.index.now ts)
    (λ cs chosen left. GivesLed c.args.walk.now.index.now ts chosen.documents c.loop.giving c.give_texts.new.giving left) (Ok c.in_ok-left.left)
    c.next_texts_in.new.self c.give_texts.new.file) (ap texts_of c.deref-in-loop.ensures.value) c.in_ok-left.ensures.reads)
    (sym c.is_over.ensures ∙ c.if-is_over.true)

pub returns-in_default-clause-reads : goal.returns-in_default-clause-reads
returns-in_default-clause-reads g c =
    let come = subst (λ (t : List ℕ). HasCome g.D.Disk.history c.args.version c.args.number c.args.walk.now c.args.giving.now c.args.file.now
    c.loop.file t c.loop.giving) (sym c.deref.ensures.value) c.loop.invariant in
    come_to_end g.D.Disk.history c.args.version c.args.number c.args.walk.now c.args.giving.now c.args.file.now
    c.loop.file c.next_texts_in.new.self c.deref.result.now c.loop.giving come c.args.width c.number-index.result c.number-index.ensures.number
    c.give_texts.new.file c.give_texts.new.giving c.in_ok-read.read c.in_ok-read.ensures c.in_ok-left.left
    (subst (λ (ts : List (List ℕ)). ReadsVersion g.D.Disk.history c.args.version (AreLedIn c.args.number c.args.walk.now.index.now ts)
    (λ cs chosen left. GivesLed c.args.walk.now.index.now ts chosen.documents c.loop.giving c.give_texts.new.giving left) (Ok c.in_ok-left.left)
    c.next_texts_in.new.self c.give_texts.new.file) (ap texts_of c.deref-in-loop.ensures.value) c.in_ok-left.ensures.reads)
    (sym c.is_over.ensures ∙ c.if-is_over.false) c.in_default.is

pub loop-preserved : goal.loop-preserved
loop-preserved g c =
    let come = subst (λ (t : List ℕ). HasCome g.D.Disk.history c.args.version c.args.number c.args.walk.now c.args.giving.now c.args.file.now
    c.loop.file t c.loop.giving) (sym c.deref.ensures.value) c.loop.invariant in
    come_on g.D.Disk.history c.args.version c.args.number c.args.walk.now c.args.giving.now c.args.file.now
    c.loop.file c.next_texts_in.new.self c.deref.result.now c.loop.giving come c.args.width c.number-index.result c.number-index.ensures.number
    c.give_texts.new.file c.give_texts.new.giving c.in_ok-read.read c.in_ok-read.ensures c.in_ok-left.left
    (subst (λ (ts : List (List ℕ)). ReadsVersion g.D.Disk.history c.args.version (AreLedIn c.args.number c.args.walk.now.index.now ts)
    (λ cs chosen left. GivesLed c.args.walk.now.index.now ts chosen.documents c.loop.giving c.give_texts.new.giving left) (Ok c.in_ok-left.left)
    c.next_texts_in.new.self c.give_texts.new.file) (ap texts_of c.deref-in-loop.ensures.value) c.in_ok-left.ensures.reads)
    (sym c.is_over.ensures ∙ c.if-is_over.false) c.in-Some.next c.in-Some.is c.in_ok-left.ensures.open
