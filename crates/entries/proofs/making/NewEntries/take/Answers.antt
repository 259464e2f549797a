use Rattle.std.proofs.Common.{◌&&◌, ℕ, Bool, List, refl, sym, ap, ◌∙◌}
use Rattle.std.specs.Global.{Vec}
use Rattle.std.proofs.lemmas.Result.{err_from_is_err_and}
use Rattle.entries.specs.OtherKeys.{puts_any}
use Rattle.index.specs.View.{texts_of}
use Rattle.entries.specs.declared.making.NewEntries.{NewEntries}
use Rattle.entries.proofs.IndexMakingLaws.{refuses_keys, refuses_taken, takes_next}
use Rattle.entries.proofs.making.NewEntries.take.Goals as goal

-- whether one of these keys is taken
abbrev is_taken : NewEntries → List ℕ → List (Vec ℕ) → Bool
is_taken n id keys = n.index.is_unique && puts_any n.number n.index.number id (texts_of keys) n.entries

pub returns-in_err-keys-clause-refuses : goal.returns-in_err-keys-clause-refuses
returns-in_err-keys-clause-refuses c =
    let p = err_from_is_err_and c.from_residual.result c.from_residual.ensures.1 in
    rw (p.1, p.2) (λ other. refuses_keys c.args.self.now c.args.document.now c.in_err-keys.field-0.0 (c.in_err-keys.ensures.gives other))

pub returns-then-branch-clause-refuses : goal.returns-then-branch-clause-refuses
returns-then-branch-clause-refuses c = λ other.
    let old = c.args.self.now in
    let taken = ap (is_taken old c.args.id.now) (sym c.deref.ensures.value) ∙ sym c.in_ok-is_taken.ensures ∙ c.if-branch.true in
    refuses_taken old c.args.document.now c.args.id.now
    (texts_of c.in_ok-keys.keys.items) c.allocator.ensures.rises c.requires.text c.in_ok-keys.ensures.gives taken

pub returns-clause-takes : goal.returns-clause-takes
returns-clause-takes c =
    let old = c.args.self.now in
    let clear = ap (is_taken old c.args.id.now) (sym c.deref.ensures.value) ∙ sym c.in_ok-is_taken.ensures ∙ c.if-branch.false in
    takes_next old (record { number = old.number; index = c.note_arrays.new.self; entries = c.put_entries.new.self }) c.args.document.now c.args.id.now
    (texts_of c.in_ok-keys.keys.items)
    c.allocator.ensures.rises c.requires.text c.in_ok-keys.ensures.gives clear refl c.note_arrays.ensures c.in_ok-put_entries.ensures.continues
