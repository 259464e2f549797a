use Rattle.std.proofs.Common.{◌≡◌, Ok, Err, None, Some, refl, ap, ◌∙◌}
use Rattle.std.specs.Option.{option_map}
use Rattle.std.proofs.lemmas.Result.{err_from_is_err_and}
use Rattle.btree.specs.Fold.{between}
use Rattle.btree.specs.declared.folding.Bounds.{Bounds}
use Rattle.entry_model.specs.StateEntries.{key_under}
use Rattle.collections.specs.Below.{IsNothing}
use Rattle.collections.specs.Folding.{Lends, documents_within, end_under}
use Rattle.collections.specs.Lookups.{IsInTree, IsNumbered}
use Rattle.collections.specs.declared.folding.Lending.{Lending}
use Rattle.collections.proofs.BelowLemmas.{below_refused}
use Rattle.collections.proofs.FoldingLemmas.{folded}
use Rattle.collections.proofs.collections.Collections.fold_from.Goals as goal

pub returns-in_err-lend_from-clause-reads : goal.returns-in_err-lend_from-clause-reads
returns-in_err-lend_from-clause-reads g c =
    let makes = g.F.DocumentFold.makes in
    let start : Lending g.row.F.Denot = record { fold = c.args.fold; refused = None } in
    let bounds : Bounds = record { from = c.deref.result; to = Some c.deref-2.result } in
    let e = err_from_is_err_and c.from_residual-in_err-lend_from.result c.from_residual-in_err-lend_from.ensures.1 in
    rw (e.1, e.2)
    (below_refused g.D.Disk.history c.args.root IsNothing (λ now of. IsNumbered now of c.args.number)
    (λ now asked. IsInTree (λ entries (u : Unit {0}). Lends makes start (between bounds entries) c.lend_from.new.fold) now)
    (λ now of done. makes c.args.fold (documents_within c.args.texts of.documents) done)
    c.args.self.now c.lend_from.new.self c.in_err-lend_from.field-0.0 (λ now of numbered. (tt, tt)) c.in_err-lend_from.ensures.reads)

pub returns-in-None-clause-reads : goal.returns-in-None-clause-reads
returns-in-None-clause-reads g c =
    let start : Lending g.row.F.Denot = record { fold = c.args.fold; refused = None } in
    let bounds : Bounds = record { from = c.deref.result; to = Some c.deref-2.result } in
    let from : bounds.from.now ≡ key_under c.args.number 0 c.args.texts.from.now = c.deref.ensures.value ∙ c.in_ok-from.ensures in
    let to : option_map (λ b. b.now) bounds.to ≡ Some (end_under c.args.number (option_map (λ b. b.now) c.args.texts.to)) =
    ap Some (c.deref-2.ensures.value ∙ c.in_ok-to.ensures) in
    folded g.D.Disk.history g.F.DocumentFold.makes start c.lend_from.new.fold bounds c.args.texts c.args.number c.args.root c.args.self.now
    c.lend_from.new.self from to c.in_ok-lend_from.ensures.reads (Ok c.lend_from.new.fold.fold) (c.in-None.is, refl)

pub returns-clause-reads : goal.returns-clause-reads
returns-clause-reads g c =
    let start : Lending g.row.F.Denot = record { fold = c.args.fold; refused = None } in
    let bounds : Bounds = record { from = c.deref.result; to = Some c.deref-2.result } in
    let from : bounds.from.now ≡ key_under c.args.number 0 c.args.texts.from.now = c.deref.ensures.value ∙ c.in_ok-from.ensures in
    let to : option_map (λ b. b.now) bounds.to ≡ Some (end_under c.args.number (option_map (λ b. b.now) c.args.texts.to)) =
    ap Some (c.deref-2.ensures.value ∙ c.in_ok-to.ensures) in
    folded g.D.Disk.history g.F.DocumentFold.makes start c.lend_from.new.fold bounds c.args.texts c.args.number c.args.root c.args.self.now
    c.lend_from.new.self from to c.in_ok-lend_from.ensures.reads (Err c.in-Some.refusal) c.in-Some.is
