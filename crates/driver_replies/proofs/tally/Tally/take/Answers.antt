use Rattle.std.proofs.Common.{rules, w32, to_z, of_z, ◌≡◌, ◌∙◌, ℕ, List, Option, OnOk, ap, subst}
use Rattle.std.specs.Prelude.{ℤ}
use Rattle.std.proofs.lemmas.Int.{to_z-of_z}
use Rattle.driver_replies.specs.Tallies.{with_error, with_code}
use Rattle.driver_replies.specs.Texts.{text_or_none}
use Rattle.driver_replies.specs.declared.tally.Tally.{Tally}
use Rattle.driver_replies.proofs.tally.Tally.take.Goals as goal

pub returns-in-Some : goal.returns-in-Some
returns-in-Some c =
    let text = c.text_or_none-text.ensures ∙ ap text_or_none c.get.ensures in
    let index = to_z-of_z w32 c.args.index c.ranges.index in
    let code : to_z w32 (of_z w32 c.in-Some.code) ≡ c.in-Some.code = search rules in
    let done = simp (index, code) at c.refuse.ensures in
    subst (λ (t : Tally). OnOk c.refuse.result (c.refuse.new.self ≡ t))
    (ap (λ (s : List ℕ). with_error c.args.index c.in-Some.code s c.args.self.now) text
    ∙ ap (λ (x : Option ℤ). with_code x c.args.index c.args.reply.now c.args.self.now) c.in-Some.ensures)
    done
