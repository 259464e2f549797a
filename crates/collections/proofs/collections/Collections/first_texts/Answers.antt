use Rattle.std.proofs.Common.{List, Ok, Err, ap}
use Rattle.std.specs.Option.{option_map}
use Rattle.std.proofs.lemmas.Result.{err_from_is_err_and}
use Rattle.index.specs.View.{texts_of}
use Rattle.entry_model.specs.State.{Collection}
use Rattle.collections.specs.IndexTexts.{AreFirstTexts, AreNextTexts, Indexed, IsNumberedIndex}
use Rattle.collections.specs.State.{State}
use Rattle.collections.specs.declared.index_texts.FirstTexts.{FirstTexts}
use Rattle.collections.specs.declared.index_texts.NextTexts.{NextTexts}
use Rattle.collections.proofs.BelowLemmas.{asks_turn}
use Rattle.collections.proofs.IndexTextLemmas.{first_of_next}
use Rattle.collections.proofs.ReadingLemmas.{asked_on, asked_refused}
use Rattle.collections.proofs.collections.Collections.first_texts.Goals as goal

pub returns-in_err-found : goal.returns-in_err-found
returns-in_err-found g c =
    let p = err_from_is_err_and c.from_residual.result c.from_residual.ensures.1 in
    let history = g.D.Disk.history in
    let call = c.texts_from-2 in
    let Is = IsNumberedIndex c.args.number c.args.index in
    let next : List Collection → Indexed → NextTexts → Type 0 =
    λ now at found. AreNextTexts c.args.first.now c.args.last.now c.args.most at (option_map (λ v. v.items) found.next) (texts_of found.texts.items) in
    rw (p.1, p.2)
    (asked_refused history Is
    (λ now at (found : FirstTexts). AreFirstTexts c.args.first.now c.args.last.now at found.are_all (texts_of found.texts.items)) c.args.self.now
    call.new.self next c.in_err-found.field-0.0
    (asks_turn history Is next c.args.self.now call.new.self (Err c.in_err-found.field-0.0) c.texts_from.inside.root c.in_err-found.ensures next
    (ap (λ (s : State g.row.D.Denot). s.root) c.texts_from.view_is) (λ running k start now has at place found right. right)))

pub returns : goal.returns
returns g c =
    let history = g.D.Disk.history in
    let call = c.texts_from-2 in
    let found = c.in_ok-found.found in
    let Is = IsNumberedIndex c.args.number c.args.index in
    let next : List Collection → Indexed → NextTexts → Type 0 =
    λ now at found. AreNextTexts c.args.first.now c.args.last.now c.args.most at (option_map (λ v. v.items) found.next) (texts_of found.texts.items) in
    asked_on history Is
    (λ now at (found : FirstTexts). AreFirstTexts c.args.first.now c.args.last.now at found.are_all (texts_of found.texts.items)) c.args.self.now
    call.new.self next found (Ok (record { texts = found.texts; are_all = c.is_none.result }))
    (asks_turn history Is next c.args.self.now call.new.self (Ok found) c.texts_from.inside.root c.in_ok-found.ensures next
    (ap (λ (s : State g.row.D.Denot). s.root) c.texts_from.view_is) (λ running k start now has at place found right. right))
    (λ now at place right.
    first_of_next c.args.first.now c.args.last.now c.args.most at (texts_of found.texts.items) found.next c.is_none.result c.is_none.ensures right)
