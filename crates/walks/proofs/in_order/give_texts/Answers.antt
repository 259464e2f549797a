use Rattle.std.proofs.Common.{◌≡◌, ◌+◌, ◌∷◌, ℕ, List, Bool, Ok, drop, sym, subst, ◌∙◌, arith}
use Rattle.std.specs.Global.{Vec}
use Rattle.std.proofs.lemmas.List.{drop-map, length-map}
use Rattle.std.proofs.lemmas.Result.{err_from_is_err_and}
use Rattle.collections.specs.Versions.{ReadsVersion}
use Rattle.index.specs.View.{texts_of}
use Rattle.walks.specs.InOrder.{GivesOne, IsLedIn}
use Rattle.walks.proofs.InOrderLendLemmas.{lends_it, lends_memory, lends_no_more, lends_refused, lent_all, lent_over, none_lent}
use Rattle.walks.proofs.LookingUpLemmas.{next_text}
use Rattle.walks.proofs.in_order.give_texts.Goals as goal

pub texts-init : goal.texts-init
texts-init g c =
    none_lent g.D.Disk.history c.args.version c.args.number c.args.index.now (texts_of c.args.texts.now) c.args.giving.now c.args.file.now c.requires

pub returns-then-is_over-clause-reads : goal.returns-then-is_over-clause-reads
returns-then-is_over-clause-reads g c =
    lent_over g.D.Disk.history c.args.version c.args.number c.args.index.now (texts_of c.args.texts.now) c.args.giving.now c.args.file.now c.texts.file
    c.texts.text-index c.texts.giving c.texts.invariant (sym c.is_over.ensures ∙ c.if-is_over.true)

pub returns-in_err-give_one-clause-reads : goal.returns-in_err-give_one-clause-reads
returns-in_err-give_one-clause-reads g c =
    let texts = c.args.texts.now in
    let k = c.texts.text-index in
    let text : List ℕ = c.deref.result.now in
    let rest = texts_of (drop (k + 1) texts) in
    let is : drop k (texts_of texts) ≡ text ∷ rest =
    drop-map (λ (v : Vec ℕ). v.items) k texts ∙ next_text texts k c.text-item.result text c.texts-test.true c.text-item.is c.deref.ensures.value in
    let e = err_from_is_err_and c.from_residual.result c.from_residual.ensures.1 in
    rw (e.1, e.2)
    (lends_refused g.D.Disk.history c.args.version c.args.number c.args.index.now (texts_of texts) c.args.giving.now c.args.file.now
    c.texts.file c.give_one.new.file k c.texts.giving c.give_one.new.giving c.texts.invariant text rest is c.in_err-give_one.field-0.0
    c.in_err-give_one.ensures.reads)

pub returns-in_err-bytes_of-clause-reads : goal.returns-in_err-bytes_of-clause-reads
returns-in_err-bytes_of-clause-reads g c =
    let texts = c.args.texts.now in
    let k = c.texts.text-index in
    let text : List ℕ = c.deref.result.now in
    let rest = texts_of (drop (k + 1) texts) in
    let is : drop k (texts_of texts) ≡ text ∷ rest =
    drop-map (λ (v : Vec ℕ). v.items) k texts ∙ next_text texts k c.text-item.result text c.texts-test.true c.text-item.is c.deref.ensures.value in
    let e = err_from_is_err_and c.from_residual-in_err-bytes_of.result c.from_residual-in_err-bytes_of.ensures.1 in
    rw e.1
    (lends_memory g.D.Disk.history c.args.version c.args.number c.args.index.now (texts_of texts) c.args.giving.now c.args.file.now
    c.texts.file c.give_one.new.file k c.texts.giving c.give_one.new.giving c.texts.invariant text rest is c.in_ok-give_one.field-0 e.0 e.2
    c.in_ok-give_one.ensures.reads)

pub returns-then-branch-clause-reads : goal.returns-then-branch-clause-reads
returns-then-branch-clause-reads g c =
    let texts = c.args.texts.now in
    let k = c.texts.text-index in
    let text : List ℕ = c.deref.result.now in
    let rest = texts_of (drop (k + 1) texts) in
    let is : drop k (texts_of texts) ≡ text ∷ rest =
    drop-map (λ (v : Vec ℕ). v.items) k texts ∙ next_text texts k c.text-item.result text c.texts-test.true c.text-item.is c.deref.ensures.value in
    lends_no_more g.D.Disk.history c.args.version c.args.number c.args.index.now (texts_of texts) c.args.giving.now c.args.file.now
    c.texts.file c.give_one.new.file k c.texts.giving c.give_one.new.giving c.texts.invariant text rest is c.in_ok-bytes_of.field-0
    (c.in_ok-bytes_of.ensures ∙ c.deref-then-branch.ensures.value ∙ sym c.deref.ensures.value)
    (subst (λ (b : Bool). ReadsVersion g.D.Disk.history c.args.version (IsLedIn c.args.number c.args.index.now text)
    (λ now one is_left. GivesOne one.document c.texts.giving is_left c.give_one.new.giving) (Ok b) c.texts.file c.give_one.new.file)
    c.if-branch.true c.in_ok-give_one.ensures.reads)

pub texts-preserved : goal.texts-preserved
texts-preserved g c =
    let texts = c.args.texts.now in
    let k = c.texts.text-index in
    let text : List ℕ = c.deref.result.now in
    let rest = texts_of (drop (k + 1) texts) in
    let is : drop k (texts_of texts) ≡ text ∷ rest =
    drop-map (λ (v : Vec ℕ). v.items) k texts ∙ next_text texts k c.text-item.result text c.texts-test.true c.text-item.is c.deref.ensures.value in
    lends_it g.D.Disk.history c.args.version c.args.number c.args.index.now (texts_of texts) c.args.giving.now c.args.file.now
    c.texts.file c.give_one.new.file k c.texts.giving c.give_one.new.giving c.texts.invariant text rest is
    (subst (λ (b : Bool). ReadsVersion g.D.Disk.history c.args.version (IsLedIn c.args.number c.args.index.now text)
    (λ now one is_left. GivesOne one.document c.texts.giving is_left c.give_one.new.giving) (Ok b) c.texts.file c.give_one.new.file)
    c.if-branch.false c.in_ok-give_one.ensures.reads)
    (c.in_ok-give_one.ensures.next c.if-branch.false) c.in_ok-give_one.ensures.open

pub returns-clause-reads : goal.returns-clause-reads
returns-clause-reads g c =
    let texts = c.args.texts.now in
    lent_all g.D.Disk.history c.args.version c.args.number c.args.index.now (texts_of texts) c.args.giving.now c.args.file.now c.texts.file
    c.texts.text-index c.texts.giving c.texts.invariant (omega (arith, c.texts-test.false, length-map texts (λ (v : Vec ℕ). v.items)))
