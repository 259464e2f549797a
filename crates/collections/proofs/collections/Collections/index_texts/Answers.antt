use Rattle.std.proofs.Common.{◌≡◌, refl, ℕ, Bool, true, false, not, Option, Some, Ok}
use Rattle.std.specs.Prelude.{IfSome}
use Rattle.std.specs.Global.{Vec}
use Rattle.std.proofs.lemmas.Result.{err_from_is_err_and}
use Rattle.index.specs.View.{texts_of}
use Rattle.collections.specs.IndexTexts.{AreFirstTexts, AreTextsBetween, IsNumberedIndex}
use Rattle.collections.specs.declared.index_texts.FirstTexts.{FirstTexts}
use Rattle.collections.proofs.IndexTextLemmas.{all_texts}
use Rattle.collections.proofs.ReadingLemmas.{asked_on, asked_refused}
use Rattle.collections.proofs.collections.Collections.index_texts.Goals as goal

not_false : (b : Bool) → not b ≡ false → b ≡ true
not_false true e = refl
not_false false e = absurd cc

pub returns-in_err-found : goal.returns-in_err-found
returns-in_err-found g c =
    let p = err_from_is_err_and c.from_residual.result c.from_residual.ensures.1 in
    rw (p.1, p.2)
    (asked_refused g.D.Disk.history (IsNumberedIndex c.args.number c.args.index)
    (λ now at (found : Option (Vec (Vec ℕ))). IfSome found (λ texts. AreTextsBetween c.args.first.now c.args.last.now at (texts_of texts.items)))
    c.args.self.now c.first_texts.new.self
    (λ now at (found : FirstTexts). AreFirstTexts c.args.first.now c.args.last.now at found.are_all (texts_of found.texts.items)) c.in_err-found.field-0.0
    c.in_err-found.ensures)

pub returns : goal.returns
returns g c =
    let found = c.in_ok-found.found in
    let whole : found.are_all ≡ true = not_false found.are_all c.if-not-found.false in
    asked_on g.D.Disk.history (IsNumberedIndex c.args.number c.args.index)
    (λ now at (found : Option (Vec (Vec ℕ))). IfSome found (λ texts. AreTextsBetween c.args.first.now c.args.last.now at (texts_of texts.items)))
    c.args.self.now c.first_texts.new.self
    (λ now at (found : FirstTexts). AreFirstTexts c.args.first.now c.args.last.now at found.are_all (texts_of found.texts.items)) found
    (Ok (Some found.texts)) c.in_ok-found.ensures
    (λ now at place right. all_texts c.args.first.now c.args.last.now at found.are_all (texts_of found.texts.items) whole right)
