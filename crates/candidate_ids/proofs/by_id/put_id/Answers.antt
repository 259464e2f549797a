use Rattle.std.proofs.Common.{◌≡◌, ◌++◌, [], ◌∷◌, ℕ, List, Option, Vec, Global, ap, subst, ◌∙◌}
use Rattle.std.specs.Prelude.{IfSome}
use Rattle.bson.specs.View.{tree}
use Rattle.value_order.specs.KeyText.{tree_text}
use Rattle.value_order.specs.Laws.{IsKey}
use Rattle.value_order.specs.Order.{value}
use Rattle.index.specs.View.{texts_of}
use Rattle.candidate_ids.proofs.IdTextLemmas.{one_tells, put_one, texts_behind}
use Rattle.asked_documents.proofs.SelectsLemmas.{put_none}
use Rattle.candidate_ids.proofs.by_id.put_id.Goals as goal

pub returns-in_default-clause-put : goal.returns-in_default-clause-put
returns-in_default-clause-put c = put_none (texts_of c.args.ids.now.items)

pub returns-clause-put : goal.returns-clause-put
returns-clause-put c =
    let v = tree c.args.value.now in
    let text : List ℕ = c.in-Some.text.items in
    let short = subst (λ (o : Option (Vec ℕ Global)). IfSome o (λ t. (t.items ≡ tree_text v) × IsKey (value v))) c.in-Some.is c.in_ok-text.ensures in
    let made : texts_of c.push.new.self.items ≡ texts_of c.args.ids.now.items ++ text ∷ [] =
    ap texts_of c.in_ok-push.ensures.items ∙ texts_behind c.args.ids.now.items c.in-Some.text in
    put_one (texts_of c.args.ids.now.items) (texts_of c.push.new.self.items) v text short.1 short.0 made

pub returns-clause-tells : goal.returns-clause-tells
returns-clause-tells c = λ e.
    let v = tree c.args.value.now in
    let text : List ℕ = c.in-Some.text.items in
    let short = subst (λ (o : Option (Vec ℕ Global)). IfSome o (λ t. (t.items ≡ tree_text v) × IsKey (value v))) c.in-Some.is c.in_ok-text.ensures in
    let made : texts_of c.push.new.self.items ≡ texts_of c.args.ids.now.items ++ text ∷ [] =
    ap texts_of c.in_ok-push.ensures.items ∙ texts_behind c.args.ids.now.items c.in-Some.text in
    one_tells (texts_of c.args.ids.now.items) (texts_of c.push.new.self.items) v text short.1 short.0 made
