use Rattle.std.proofs.Common.{◌≡◌, ◌+◌, ◌∷◌, ℕ, List, Bool, Ok, Err, Result, true, false, length, map, drop, sym, subst, ◌∙◌, arith}
use Rattle.std.specs.Global.{Vec}
use Rattle.std.proofs.lemmas.List.{drop-map, length-map}
use Rattle.std.proofs.lemmas.Result.{err_from_is_err_and}
use Rattle.collections.specs.Versions.{ReadsVersion}
use Rattle.index.specs.View.{texts_of}
use Rattle.path.specs.declared.refusal.Refusal.{Refusal}
use Rattle.projection.specs.Projection.{project}
use Rattle.replies.specs.OpenBatch.{IsOffered}
use Rattle.walks.specs.Listed.{IsStoredIn}
use Rattle.walks.proofs.ListedLemmas.{begins, fails, is_full, takes_it, took_all}
use Rattle.walks.proofs.LookingUpLemmas.{next_text}
use Rattle.walks.proofs.listed.offer_listed.Goals as goal

pub ids-init : goal.ids-init
ids-init g c =
    begins g.D.Disk.history c.args.version c.args.number (texts_of c.args.listed.now.ids.now) c.args.listed.now.projection.now c.args.batch.now
    c.args.file.now c.requires.empty

pub returns-in_err-offer_one-clause-reads : goal.returns-in_err-offer_one-clause-reads
returns-in_err-offer_one-clause-reads g c =
    let ids = c.args.listed.now.ids.now in
    let i = c.ids.id-index in
    let text : List ℕ = c.deref.result.now in
    let rest = texts_of (drop (i + 1) ids) in
    let is : drop i (texts_of ids) ≡ text ∷ rest =
    drop-map (λ (v : Vec ℕ). v.items) i ids ∙ next_text ids i c.id-item.result text c.ids-test.true c.id-item.is c.deref.ensures.value in
    let e = err_from_is_err_and c.from_residual.result c.from_residual.ensures.1 in
    rw (e.1, e.2)
    (fails g.D.Disk.history c.args.version c.args.number (texts_of ids) c.args.listed.now.projection.now c.args.batch.now c.args.file.now c.ids.file
    c.offer_one.new.file i c.ids.batch c.offer_one.new.batch c.ids.invariant text rest is c.in_err-offer_one.field-0.0 c.in_err-offer_one.ensures.reads)

pub returns-then-not-branch-clause-reads : goal.returns-then-not-branch-clause-reads
returns-then-not-branch-clause-reads g c =
    let ids = c.args.listed.now.ids.now in
    let p = c.args.listed.now.projection.now in
    let i = c.ids.id-index in
    let text : List ℕ = c.deref.result.now in
    let rest = texts_of (drop (i + 1) ids) in
    let is : drop i (texts_of ids) ≡ text ∷ rest =
    drop-map (λ (v : Vec ℕ). v.items) i ids ∙ next_text ids i c.id-item.result text c.ids-test.true c.id-item.is c.deref.ensures.value in
    is_full g.D.Disk.history c.args.version c.args.number (texts_of ids) p c.args.batch.now c.args.file.now c.ids.file
    c.offer_one.new.file i c.ids.batch c.offer_one.new.batch c.ids.invariant text rest is
    (subst (λ (b : Bool). ReadsVersion g.D.Disk.history c.args.version (IsStoredIn c.args.number text)
    (λ now one is_taken. IsOffered c.ids.batch (project p one.document) is_taken c.offer_one.new.batch) (Ok b) c.ids.file c.offer_one.new.file)
    c.if-not-branch.true c.in_ok-offer_one.ensures.reads)

pub ids-preserved : goal.ids-preserved
ids-preserved g c =
    let ids = c.args.listed.now.ids.now in
    let p = c.args.listed.now.projection.now in
    let i = c.ids.id-index in
    let text : List ℕ = c.deref.result.now in
    let rest = texts_of (drop (i + 1) ids) in
    let is : drop i (texts_of ids) ≡ text ∷ rest =
    drop-map (λ (v : Vec ℕ). v.items) i ids ∙ next_text ids i c.id-item.result text c.ids-test.true c.id-item.is c.deref.ensures.value in
    takes_it g.D.Disk.history c.args.version c.args.number (texts_of ids) p c.args.batch.now c.args.file.now c.ids.file
    c.offer_one.new.file i c.ids.batch c.offer_one.new.batch c.ids.invariant text rest is
    (subst (λ (b : Bool). ReadsVersion g.D.Disk.history c.args.version (IsStoredIn c.args.number text)
    (λ now one is_taken. IsOffered c.ids.batch (project p one.document) is_taken c.offer_one.new.batch) (Ok b) c.ids.file c.offer_one.new.file)
    c.if-not-branch.false c.in_ok-offer_one.ensures.reads)
    c.in_ok-offer_one.ensures.open

pub returns-clause-reads : goal.returns-clause-reads
returns-clause-reads g c =
    let ids = c.args.listed.now.ids.now in
    took_all g.D.Disk.history c.args.version c.args.number (texts_of ids) c.args.listed.now.projection.now c.args.batch.now c.args.file.now c.ids.file
    c.ids.id-index c.ids.batch c.ids.invariant (omega (arith, c.ids-test.false, length-map ids (λ (v : Vec ℕ). v.items)))
