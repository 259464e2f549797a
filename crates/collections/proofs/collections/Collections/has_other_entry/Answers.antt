use Rattle.std.proofs.Common.{◌≡◌, List, ℕ, sym, subst, ◌∙◌}
use Rattle.std.specs.List.{list_any}
use Rattle.std.specs.Option.{option_map}
use Rattle.std.proofs.lemmas.Result.{err_from_is_err_and}
use Rattle.btree.specs.Scan.{entry_in}
use Rattle.btree.specs.declared.scanning.Range.{Range}
use Rattle.entries.specs.OtherKeys.{IsEndOf, has_other_key, is_another}
use Rattle.collections.specs.Lookups.{IsBatchOf}
use Rattle.collections.proofs.TreeReadLemmas.{IsTest, others_told, tree_on, tree_refused}
use Rattle.collections.proofs.collections.Collections.has_other_entry.Goals as goal

pub returns-in_err-batch : goal.returns-in_err-batch
returns-in_err-batch g c =
    let range : Range = record { from = c.deref-2.result; to = c.as_deref.result; limit = 18446744073709551615 } in
    let p = err_from_is_err_and c.from_residual-in_err-batch.result c.from_residual-in_err-batch.ensures.1 in
    rw (p.1, p.2)
    (tree_refused g.D.Disk.history (IsBatchOf range)
    (IsTest (has_other_key c.args.number c.args.index c.args.key.now c.args.id.now)) c.args.self.now c.tree_entries.new.self c.in_err-batch.field-0.0
    c.in_err-batch.ensures)

pub returns : goal.returns
returns g c =
    let range : Range = record { from = c.deref-2.result; to = c.as_deref.result; limit = 18446744073709551615 } in
    let id = c.args.id.now in
    let front = c.in_ok-front.front.items in
    let batch = c.in_ok-batch.batch in
    let ends : IsEndOf front (option_map (λ b. b.now) range.to) =
    subst (IsEndOf front) (sym c.as_deref.ensures.value)
    (subst (λ (k : List ℕ). IsEndOf k (option_map (λ v. v.items) c.in_ok-end.end)) c.deref.ensures.value c.in_ok-end.ensures) in
    let told : c.any_other.result ≡ list_any (λ x. is_another front id (entry_in x).key) batch.entries.items =
    c.any_other.ensures ∙ (λ i. list_any (λ x. is_another (c.deref-4.ensures.value i) id (entry_in x).key) (c.deref-3.ensures.value i)) in
    tree_on g.D.Disk.history (IsBatchOf range)
    (IsTest (has_other_key c.args.number c.args.index c.args.key.now id)) c.args.self.now c.tree_entries.new.self batch
    c.any_other.result c.in_ok-batch.ensures
    (λ entries p. told
    ∙ others_told c.args.number c.args.index c.args.key.now id front range batch c.in_ok-front.ensures c.deref-2.ensures.value ends
    (sym c.if-is_some.ensures) entries p)
