use Rattle.std.proofs.Common.{◌≡◌, ℕ, Ok, Err, None, map, refl, ap, sym, subst}
use Rattle.std.specs.Global.{Vec}
use Rattle.std.proofs.lemmas.Result.{err_from_is_err_and}
use Rattle.btree.specs.Fold.{between}
use Rattle.entry_model.specs.StateEntries.{key_under}
use Rattle.index.specs.View.{texts_of}
use Rattle.pager.specs.Capacity.{TreesFit}
use Rattle.tree_model.proofs.ListLemmas.{map_map}
use Rattle.collections.specs.Below.{IsNothing}
use Rattle.collections.specs.Picking.{IsAskedFor, Picks, documents_among, wanted}
use Rattle.collections.specs.Lookups.{IsInTree}
use Rattle.collections.specs.State.{State}
use Rattle.collections.specs.declared.picking.Picking.{Picking}
use Rattle.collections.proofs.BelowLemmas.{below_refused}
use Rattle.collections.proofs.FoldingLemmas.{folds_turn}
use Rattle.collections.proofs.AmongLemmas.{among_shorter, picked_documents}
use Rattle.collections.proofs.collections.Collections.fold_documents_among.Goals as goal

pub returns-in_err-lend_from-clause-reads : goal.returns-in_err-lend_from-clause-reads
returns-in_err-lend_from-clause-reads g c =
    let history = g.D.Disk.history in
    let makes = g.F.DocumentFold.makes in
    let number = c.args.number in
    let texts = texts_of c.args.texts.now in
    let root = c.lend_from.inside.root in
    let old = c.args.self.now in
    let new = c.lend_from-2.new.self in
    let now = c.lend_from-2.new.fold in
    let start : Picking g.row.F.Denot = record {
      number = number;
      texts = c.args.texts;
      passed = 0;
      key = c.set_text.new.key;
      lending = record { fold = c.args.fold; refused = None };
    } in
    let is_root = ap (λ (s : State g.row.D.Denot). s.root) c.lend_from.view_is in
    let fits = subst (λ (s : State g.row.D.Denot). TreesFit history s.pager) c.self.view_is c.trees_fit.ensures in
    let e = err_from_is_err_and c.from_residual-in_err-lend_from.result c.from_residual-in_err-lend_from.ensures.1 in
    rw (e.1, e.2)
    (folds_turn history makes c.args.fold (IsAskedFor number texts) (λ of. documents_among texts of.documents) number (λ cs of so. so.numbered)
    (λ of. among_shorter texts of.documents) old new (Err c.in_err-lend_from.field-0.0) root
    (below_refused history root IsNothing (IsAskedFor number texts)
    (λ cs asked. IsInTree (λ entries (u : Unit {0}). Picks makes start (between c.all_keys.result entries) now) cs)
    (λ cs of done. makes c.args.fold (documents_among texts of.documents) done) old new c.in_err-lend_from.field-0.0 (λ cs of so. (tt, tt))
    c.in_err-lend_from.ensures.reads)
    is_root fits)

pub returns-in-None-clause-reads : goal.returns-in-None-clause-reads
returns-in-None-clause-reads g c =
    let history = g.D.Disk.history in
    let makes = g.F.DocumentFold.makes in
    let number = c.args.number in
    let texts = texts_of c.args.texts.now in
    let root = c.lend_from.inside.root in
    let old = c.args.self.now in
    let new = c.lend_from-2.new.self in
    let now = c.lend_from-2.new.fold in
    let start : Picking g.row.F.Denot = record {
      number = number;
      texts = c.args.texts;
      passed = 0;
      key = c.set_text.new.key;
      lending = record { fold = c.args.fold; refused = None };
    } in
    let is_root = ap (λ (s : State g.row.D.Denot). s.root) c.lend_from.view_is in
    let fits = subst (λ (s : State g.row.D.Denot). TreesFit history s.pager) c.self.view_is c.trees_fit.ensures in
    let keys : wanted start ≡ map (key_under number 0) texts = sym (map_map (λ (v : Vec ℕ). v.items) (key_under number 0) c.args.texts.now) in
    folds_turn history makes c.args.fold (IsAskedFor number texts) (λ of. documents_among texts of.documents) number (λ cs of so. so.numbered)
    (λ of. among_shorter texts of.documents) old new (Ok now.lending.fold) root
    (picked_documents history makes start now c.all_keys.result texts number root old new c.all_keys.ensures.from c.all_keys.ensures.to keys
    c.in_ok-lend_from.ensures.reads
    (Ok now.lending.fold) (c.in-None.is, refl))
    is_root fits

pub returns-in-Some-clause-reads : goal.returns-in-Some-clause-reads
returns-in-Some-clause-reads g c =
    let history = g.D.Disk.history in
    let makes = g.F.DocumentFold.makes in
    let number = c.args.number in
    let texts = texts_of c.args.texts.now in
    let root = c.lend_from.inside.root in
    let old = c.args.self.now in
    let new = c.lend_from-2.new.self in
    let now = c.lend_from-2.new.fold in
    let start : Picking g.row.F.Denot = record {
      number = number;
      texts = c.args.texts;
      passed = 0;
      key = c.set_text.new.key;
      lending = record { fold = c.args.fold; refused = None };
    } in
    let is_root = ap (λ (s : State g.row.D.Denot). s.root) c.lend_from.view_is in
    let fits = subst (λ (s : State g.row.D.Denot). TreesFit history s.pager) c.self.view_is c.trees_fit.ensures in
    let keys : wanted start ≡ map (key_under number 0) texts = sym (map_map (λ (v : Vec ℕ). v.items) (key_under number 0) c.args.texts.now) in
    folds_turn history makes c.args.fold (IsAskedFor number texts) (λ of. documents_among texts of.documents) number (λ cs of so. so.numbered)
    (λ of. among_shorter texts of.documents) old new (Err c.in-Some.refusal) root
    (picked_documents history makes start now c.all_keys.result texts number root old new c.all_keys.ensures.from c.all_keys.ensures.to keys
    c.in_ok-lend_from.ensures.reads
    (Err c.in-Some.refusal) c.in-Some.is)
    is_root fits
