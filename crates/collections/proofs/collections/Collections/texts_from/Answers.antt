use Rattle.std.proofs.Common.{◌≡◌, [], List, ℕ, Ok, Err, ap, sym, subst, ◌∙◌}
use Rattle.std.specs.Option.{option_map}
use Rattle.std.proofs.lemmas.Result.{err_from_is_err_and}
use Rattle.btree.specs.Fold.{between}
use Rattle.btree.specs.declared.folding.Bounds.{Bounds}
use Rattle.entries.specs.OtherKeys.{IsEndOf}
use Rattle.entry_model.specs.StateEntries.{key_under}
use Rattle.index.specs.View.{texts_of}
use Rattle.collections.specs.Below.{IsNothing}
use Rattle.collections.specs.IndexTexts.{AreNextTexts, IsNumberedIndex, next_behind}
use Rattle.collections.specs.ReadTexts.{AreTextsRead}
use Rattle.collections.specs.Lookups.{IsInTree}
use Rattle.collections.specs.declared.index_texts.NextTexts.{NextTexts}
use Rattle.collections.specs.declared.index_texts.TextReading.{TextReading}
use Rattle.collections.proofs.BelowLemmas.{below_on, below_refused}
use Rattle.collections.proofs.IndexTextLemmas.{texts_asked}
use Rattle.collections.proofs.collections.Collections.texts_from.Goals as goal

pub returns-in_err-read_from : goal.returns-in_err-read_from
returns-in_err-read_from g c =
    let bounds : Bounds = record { from = c.deref.result; to = c.as_deref.result } in
    let start : TextReading = c.none_read-reading.result in
    let e = err_from_is_err_and c.from_residual-in_err-read_from.result c.from_residual-in_err-read_from.ensures.1 in
    rw (e.1, e.2)
    (below_refused g.D.Disk.history c.args.root IsNothing (IsNumberedIndex c.args.number c.args.index)
    (λ now asked. IsInTree (λ entries (u : Unit {0}). AreTextsRead start (between bounds entries) c.read_from.new.reading) now)
    (λ now at (found : NextTexts). AreNextTexts c.args.first.now c.args.last.now c.args.most at (option_map (λ v. v.items) found.next)
    (texts_of found.texts.items)) c.args.self.now c.read_from.new.self c.in_err-read_from.field-0.0 (λ now at place. (tt, tt)) c.in_err-read_from.ensures)

pub returns-in_err-next : goal.returns-in_err-next
returns-in_err-next g c =
    let bounds : Bounds = record { from = c.deref.result; to = c.as_deref.result } in
    let start : TextReading = c.none_read-reading.result in
    let e = err_from_is_err_and c.from_residual-in_err-next.result c.from_residual-in_err-next.ensures.1 in
    rw e.1
    (below_on g.D.Disk.history c.args.root IsNothing (IsNumberedIndex c.args.number c.args.index)
    (λ now asked. IsInTree (λ entries (u : Unit {0}). AreTextsRead start (between bounds entries) c.read_from.new.reading) now)
    (λ now at (found : NextTexts). AreNextTexts c.args.first.now c.args.last.now c.args.most at (option_map (λ v. v.items) found.next)
    (texts_of found.texts.items)) c.args.self.now c.read_from.new.self tt (Err e.0) c.in_ok-read_from.ensures (λ now at place. (tt, tt, λ p. e.2)))

pub returns : goal.returns
returns g c =
    let bounds : Bounds = record { from = c.deref.result; to = c.as_deref.result } in
    let start : TextReading = c.none_read-reading.result in
    let read : TextReading = c.read_from.new.reading in
    let first : List ℕ = c.args.first.now in
    let last : List ℕ = c.args.last.now in
    let front : start.front.now ≡ key_under c.args.number c.args.index [] =
    c.none_read-reading.ensures.front ∙ c.deref-2.ensures.value ∙ c.in_ok-front.ensures in
    let ends : IsEndOf (key_under c.args.number c.args.index last) (option_map (λ b. b.now) bounds.to) =
    subst (IsEndOf (key_under c.args.number c.args.index last)) (sym c.as_deref.ensures.value) c.in_ok-keys.ensures.to in
    below_on g.D.Disk.history c.args.root IsNothing (IsNumberedIndex c.args.number c.args.index)
    (λ now asked. IsInTree (λ entries (u : Unit {0}). AreTextsRead start (between bounds entries) read) now)
    (λ now at (found : NextTexts). AreNextTexts first last c.args.most at (option_map (λ v. v.items) found.next) (texts_of found.texts.items))
    c.args.self.now c.read_from.new.self tt (Ok (record { texts = read.texts; next = c.in_ok-next.next })) c.in_ok-read_from.ensures
    (λ now at place. (
      tt,
      tt,
      λ p.
          subst (λ (n : ℕ). AreNextTexts first last n at (option_map (λ v. v.items) c.in_ok-next.next) (texts_of read.texts.items))
          c.none_read-reading.ensures.most
          (texts_asked now at c.args.number c.args.index first last bounds start read (option_map (λ v. v.items) c.in_ok-next.next) p place
          (c.deref.ensures.value ∙ c.in_ok-keys.ensures.from) ends front
          (c.in_ok-next.ensures ∙ ap (λ (k : List ℕ). next_behind k (option_map (λ v. v.items) read.next)) (c.deref-3.ensures.value ∙ c.in_ok-front.ensures))),
    ))
