use Rattle.std.proofs.Common.{ap, sym, subst, ◌≡◌, Ok, Err, Some, None, ◌∙◌}
use Rattle.std.specs.Option.{option_map}
use Rattle.std.proofs.lemmas.Result.{err_from_is_err_and}
use Rattle.entry_model.specs.State.{find_collection}
use Rattle.collections.specs.Calls.{Reads}
use Rattle.collections.specs.State.{State}
use Rattle.collections.specs.Lookups.{IsInTree, IsValueAt, catalogued_in, catalogued_of}
use Rattle.collections.specs.Remembering.{IsRemembered}
use Rattle.collections.proofs.BelowLemmas.{reads_turn}
use Rattle.collections.proofs.FoundLemmas.{none_told, one_told}
use Rattle.collections.proofs.ReadingLemmas.{reads_on, reads_refused}
use Rattle.collections.proofs.RememberingLemmas.{remembered_now}
use Rattle.collections.proofs.collections.Collections.look_up.Goals as goal

pub returns-in_err-value-clause-reads : goal.returns-in_err-value-clause-reads
returns-in_err-value-clause-reads g c =
    let history = g.D.Disk.history in
    let name = c.args.namespace.now in
    let call = c.value_from in
    let at = IsInTree (IsValueAt c.deref.result.now) in
    let e = c.in_err-value.field-0.0 in
    let p = err_from_is_err_and c.from_residual-in_err-value.result c.from_residual-in_err-value.ensures.1 in
    rw (p.1, p.2)
    (reads_refused history at
    (λ now found. option_map catalogued_of found ≡ option_map catalogued_in (find_collection now name)) c.args.self.now call.new.self e
    (reads_turn history at c.args.self.now call.new.self (Err e) c.self.inside.root c.in_err-value.ensures.reads
    (ap (λ (s : State g.row.D.Denot). s.root) c.self.view_is)))

pub returns-in_default-clause-reads : goal.returns-in_default-clause-reads
returns-in_default-clause-reads g c =
    let history = g.D.Disk.history in
    let name = c.args.namespace.now in
    let key = c.deref.result.now in
    let call = c.value_from in
    let at = IsInTree (IsValueAt key) in
    let found = c.in_ok-value.field-0 in
    reads_on history at
    (λ now found. option_map catalogued_of found ≡ option_map catalogued_in (find_collection now name)) c.args.self.now call.new.self found (Ok None)
    (reads_turn history at c.args.self.now call.new.self (Ok found) c.self.inside.root c.in_ok-value.ensures.reads
    (ap (λ (s : State g.row.D.Denot). s.root) c.self.view_is))
    (λ now p. none_told now name key (c.deref.ensures.value ∙ c.in_ok-key.ensures) (subst (IsInTree (IsValueAt key) now) c.in_default.is p))

pub returns-in_err-told-clause-reads : goal.returns-in_err-told-clause-reads
returns-in_err-told-clause-reads g c =
    let history = g.D.Disk.history in
    let name = c.args.namespace.now in
    let key = c.deref.result.now in
    let call = c.value_from in
    let at = IsInTree (IsValueAt key) in
    let found = c.in_ok-value.field-0 in
    let e = c.in_err-told.field-0.0 in
    let p = err_from_is_err_and c.from_residual-in_err-told.result c.from_residual-in_err-told.ensures.1 in
    rw (p.1, p.2)
    (subst (λ (s : State g.row.D.Denot). Reads history
    (λ now found. option_map catalogued_of found ≡ option_map catalogued_in (find_collection now name)) (Err e) c.args.self.now s) (sym c.self-2.view_is)
    (reads_on history at
    (λ now found. option_map catalogued_of found ≡ option_map catalogued_in (find_collection now name)) c.args.self.now call.new.self found (Err e)
    (reads_turn history at c.args.self.now call.new.self (Ok found) c.self.inside.root c.in_ok-value.ensures.reads
    (ap (λ (s : State g.row.D.Denot). s.root) c.self.view_is))
    (λ now p. one_told now name key (c.deref.ensures.value ∙ c.in_ok-key.ensures) c.in-Some.value (Err e)
    (subst (IsInTree (IsValueAt key) now) c.in-Some.is p) (λ of kept same. c.in_err-told.ensures.told of kept same))))

pub invariant_of-self-2 : goal.invariant_of-self-2
invariant_of-self-2 g c =
    let history = g.D.Disk.history in
    let key = c.deref.result.now in
    let found = c.in_ok-value.field-0 in
    let root = c.self.inside.root in
    let now = c.value_from.new.self in (
      c.self-2.invariant.0,
      c.self-2.invariant.1,
      subst (λ (s : State g.row.D.Denot). IsRemembered history s c.remember.new.remembered) (sym c.self-2.view_is)
          (remembered_now history c.args.self.now now root c.args.namespace.now key c.in-Some.value found c.in-Some.is
          (c.deref.ensures.value ∙ c.in_ok-key.ensures) c.in_ok-value.ensures.same c.in_ok-value.ensures.reads
          c.remember.new.remembered c.in_ok-told.ensures.remembers),
    )

pub returns-clause-reads : goal.returns-clause-reads
returns-clause-reads g c =
    let history = g.D.Disk.history in
    let name = c.args.namespace.now in
    let key = c.deref.result.now in
    let call = c.value_from in
    let at = IsInTree (IsValueAt key) in
    let found = c.in_ok-value.field-0 in
    let told = c.in_ok-told.told in
    subst (λ (s : State g.row.D.Denot). Reads history
    (λ now found. option_map catalogued_of found ≡ option_map catalogued_in (find_collection now name)) (Ok (Some told)) c.args.self.now s)
    (sym c.self-2.view_is)
    (reads_on history at
    (λ now found. option_map catalogued_of found ≡ option_map catalogued_in (find_collection now name)) c.args.self.now call.new.self found (Ok (Some told))
    (reads_turn history at c.args.self.now call.new.self (Ok found) c.self.inside.root c.in_ok-value.ensures.reads
    (ap (λ (s : State g.row.D.Denot). s.root) c.self.view_is))
    (λ now p. one_told now name key (c.deref.ensures.value ∙ c.in_ok-key.ensures) c.in-Some.value (Ok told)
    (subst (IsInTree (IsValueAt key) now) c.in-Some.is p) (λ of kept same. c.in_ok-told.ensures.told of kept same)))
