use Rattle.std.proofs.Common.{◌≡◌, Bool, true, false, ◌∙◌, refl}
use Rattle.std.specs.Prelude.{if◌then◌else◌}
use Rattle.bson.specs.Tree.{Pairs}
use Rattle.driver_replies.proofs.batch.Batch.asked_upsert.Goals as goal

new_by : (b : Bool) (new old ps qs : Pairs) → b ≡ true → new ≡ old → old ≡ ps → new ≡ (if b then ps else qs)
new_by true new old ps qs e f g = f ∙ g
new_by false new old ps qs e f g = absurd cc

pub returns : goal.returns
returns c =
    new_by c.args.self.now.is_new c.add_id.new.statement _ _ _ c.if-not-self.false c.in_ok-add_id.ensures (rw (c.in_ok-asked.ensures, c.first.ensures) refl)
