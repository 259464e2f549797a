use Rattle.std.proofs.Common.{◌≡◌, ◌+◌, ◌++◌, [], ⊎_elim, ℕ, List, Option, None, Some, Vec, Global, length, drop, take, sym, ap, subst, arith}
use Rattle.std.specs.Prelude.{IfSome}
use Rattle.std.specs.List.{filter}
use Rattle.std.proofs.lemmas.List.{drop_all}
use Rattle.std.proofs.lemmas.Result.{err_from_is_err_and}
use Rattle.bson.specs.Tree.{Pairs}
use Rattle.collections.specs.Lookups.{stored_at}
use Rattle.database_model.specs.Find.{matching}
use Rattle.filter.specs.Matches.{matches}
use Rattle.sort.specs.Sort.{order}
use Rattle.index.specs.View.{texts_of}
use Rattle.planner.specs.IdLaws.{found_by, with_found}
use Rattle.queries.specs.ByOrder.{LeadInOrder}
use Rattle.queries.proofs.ByOrderLemmas.{AreInFront, full_front, none_in_front, one_in_front, told_in_order, whole_front}
use Rattle.walks.proofs.LookingUpLemmas.{answered, begins_so, ends, fails, looks_one, next_text}
use Rattle.asked_documents.proofs.ReadingLemmas.{reads_none}
use Rattle.asked_documents.proofs.AskingLemmas.{asks_stopped}
use Rattle.queries.proofs.by_order.looked_up_first.Goals as goal

pub returns-then-is_stopped-clause-reads : goal.returns-then-is_stopped-clause-reads
returns-then-is_stopped-clause-reads g c = λ sort.
    let rs = c.args.filter.now in
    let read = c.args.read.now in
    let texts = texts_of read.ids.items in
    asks_stopped g.D.Disk.history (LeadInOrder c.args.number rs sort read.are_all texts)
    (λ now of (found : Option (Vec Pairs Global)). IfSome found (λ v. v.items ≡ take c.args.most (order sort (matching rs of.documents)))) c.args.file.now
    (sym c.if-is_stopped.ensures)

pub returns-then-not-may_suffice-clause-reads : goal.returns-then-not-may_suffice-clause-reads
returns-then-not-may_suffice-clause-reads g c = λ sort.
    let rs = c.args.filter.now in
    let read = c.args.read.now in
    reads_none g.D.Disk.history (LeadInOrder c.args.number rs sort read.are_all (texts_of read.ids.items))
    (λ now of (found : Option (Vec Pairs Global)). IfSome found (λ v. v.items ≡ take c.args.most (order sort (matching rs of.documents)))) c.args.file.now None
    (sym c.if-is_stopped.ensures) (λ now state of asked. tt)

pub ids-init : goal.ids-init
ids-init g c =
    let rs = c.args.filter.now in
    let read = c.args.read.now in
    let texts = texts_of read.ids.items in
    record {
      come = λ sort. begins_so g.D.Disk.history c.args.number (LeadInOrder c.args.number rs sort read.are_all texts) texts
          (told_in_order c.args.number rs sort read.are_all texts) (AreInFront rs sort read.are_all c.args.most c.new-found.result.items) c.args.file.now
          (texts_of c.deref-id-items.result.now) (sym c.if-is_stopped.ensures) (ap texts_of c.deref-id-items.ensures.value)
          (λ now state of asked. subst
          (λ (found : List Pairs). AreInFront rs sort read.are_all c.args.most found of.documents (found_by of.documents asked.ids))
          (sym c.new-found.ensures.items) (none_in_front rs sort read.are_all c.args.most c.args.number texts now of asked));
      within = λ k d below. absurd (omega (arith, below, ap length c.new-found.ensures.items));
    }

pub returns-then-most-len-clause-reads : goal.returns-then-most-len-clause-reads
returns-then-most-len-clause-reads g c = λ sort.
    let rs = c.args.filter.now in
    let read = c.args.read.now in
    let texts = texts_of read.ids.items in
    let now = c.ids.found.items in
    answered g.D.Disk.history c.args.number (LeadInOrder c.args.number rs sort read.are_all texts) texts
    (told_in_order c.args.number rs sort read.are_all texts) (AreInFront rs sort read.are_all c.args.most now) c.args.file.now c.ids.file
    (texts_of (drop c.ids.id-index c.deref-id-items.result.now)) (c.ids.invariant.come sort)
    (λ all (found : Option (Vec Pairs Global)). IfSome found (λ v. v.items ≡ take c.args.most (order sort (matching rs all)))) (Some c.ids.found)
    (λ all left h. full_front rs sort read.are_all c.args.most now all left (omega (arith, c.if-most-len.true, c.len.ensures, c.ids.found.ok)) h)

pub returns-then-most-len-clause-within : goal.returns-then-most-len-clause-within
returns-then-most-len-clause-within g c = c.ids.invariant.within

pub returns-in_err-look_up-clause-reads : goal.returns-in_err-look_up-clause-reads
returns-in_err-look_up-clause-reads g c = λ sort.
    let rs = c.args.filter.now in
    let read = c.args.read.now in
    let texts = texts_of read.ids.items in
    let now = c.ids.found.items in
    let text : List ℕ = c.deref.result.now in
    let is = next_text c.deref-id-items.result.now c.ids.id-index c.id-item.result text c.ids-test.true c.id-item.is c.deref.ensures.value in
    let e = err_from_is_err_and c.from_residual.result c.from_residual.ensures.1 in
    rw (e.1, e.2)
    (fails g.D.Disk.history c.args.number (LeadInOrder c.args.number rs sort read.are_all texts) texts (told_in_order c.args.number rs sort read.are_all texts)
    (AreInFront rs sort read.are_all c.args.most now) c.args.file.now c.ids.file (texts_of (drop c.ids.id-index c.deref-id-items.result.now))
    (c.ids.invariant.come sort)
    (λ now place (_ : Unit {0}). c.look_up.new.found.items ≡ c.ids.found.items ++ filter (matches rs) (with_found (stored_at place) []))
    (λ now of (found : Option (Vec Pairs Global)). IfSome found (λ v. v.items ≡ take c.args.most (order sort (matching rs of.documents))))
    c.look_up.new.file c.in_err-look_up.field-0.0 text (texts_of (drop (c.ids.id-index + 1) c.deref-id-items.result.now)) is c.in_err-look_up.ensures.reads)

pub ids-preserved : goal.ids-preserved
ids-preserved g c =
    let rs = c.args.filter.now in
    let read = c.args.read.now in
    let texts = texts_of read.ids.items in
    let now = c.ids.found.items in
    let next = c.look_up.new.found.items in
    let text : List ℕ = c.deref.result.now in
    let is = next_text c.deref-id-items.result.now c.ids.id-index c.id-item.result text c.ids-test.true c.id-item.is c.deref.ensures.value in
    record {
      come = λ sort. looks_one g.D.Disk.history c.args.number (LeadInOrder c.args.number rs sort read.are_all texts) texts
          (told_in_order c.args.number rs sort read.are_all texts) (AreInFront rs sort read.are_all c.args.most now) c.args.file.now c.ids.file
          (texts_of (drop c.ids.id-index c.deref-id-items.result.now)) (c.ids.invariant.come sort)
          (λ o (_ : Unit {0}). next ≡ now ++ filter (matches rs) (with_found o [])) (AreInFront rs sort read.are_all c.args.most next)
          c.look_up.new.file text (texts_of (drop (c.ids.id-index + 1) c.deref-id-items.result.now)) tt is c.in_ok-look_up.ensures.reads
          (one_in_front rs sort read.are_all c.args.most now next (omega (arith, c.if-most-len.false, c.len.ensures, c.ids.found.ok)));
      within = c.in_ok-look_up.ensures.within c.ids.invariant.within;
    }

pub returns-then-not-are_front-clause-reads : goal.returns-then-not-are_front-clause-reads
returns-then-not-are_front-clause-reads g c = λ sort.
    let rs = c.args.filter.now in
    let read = c.args.read.now in
    let texts = texts_of read.ids.items in
    ends g.D.Disk.history c.args.number (LeadInOrder c.args.number rs sort read.are_all texts) texts (told_in_order c.args.number rs sort read.are_all texts)
    (AreInFront rs sort read.are_all c.args.most c.ids.found.items) c.args.file.now c.ids.file (texts_of (drop c.ids.id-index c.deref-id-items.result.now))
    (c.ids.invariant.come sort)
    (λ all (found : Option (Vec Pairs Global)). IfSome found (λ v. v.items ≡ take c.args.most (order sort (matching rs all)))) _
    (ap texts_of (drop_all c.ids.id-index c.deref-id-items.result.now (omega (arith, c.ids-test.false))))
    (λ all h. tt)

pub returns-clause-reads : goal.returns-clause-reads
returns-clause-reads g c = λ sort.
    let rs = c.args.filter.now in
    let read = c.args.read.now in
    let texts = texts_of read.ids.items in
    let now = c.ids.found.items in
    ends g.D.Disk.history c.args.number (LeadInOrder c.args.number rs sort read.are_all texts) texts (told_in_order c.args.number rs sort read.are_all texts)
    (AreInFront rs sort read.are_all c.args.most now) c.args.file.now c.ids.file (texts_of (drop c.ids.id-index c.deref-id-items.result.now))
    (c.ids.invariant.come sort)
    (λ all (found : Option (Vec Pairs Global)). IfSome found (λ v. v.items ≡ take c.args.most (order sort (matching rs all)))) (Some c.ids.found)
    (ap texts_of (drop_all c.ids.id-index c.deref-id-items.result.now (omega (arith, c.ids-test.false))))
    (λ all h.
    ⊎_elim (λ whole. whole_front rs sort read.are_all c.args.most now all whole h)
    (λ full. full_front rs sort read.are_all c.args.most now all [] (omega (arith, full, c.len-2.ensures, c.ids.found.ok)) h)
    (c.are_front.ensures c.if-not-are_front.false))

pub returns-clause-within : goal.returns-clause-within
returns-clause-within g c = c.ids.invariant.within
