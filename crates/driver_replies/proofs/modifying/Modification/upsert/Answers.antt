use Rattle.std.proofs.Common.{rules, ◌≡◌, ◌≤◌, ◌∙◌, List, ℕ, true, ap, sym, subst}
use Rattle.bson.specs.Lawful.{pairs_levels}
use Rattle.bson.specs.Tree.{Pairs}
use Rattle.driver_replies.specs.Modifying.{asked_upsert, replacement, upsert_of}
use Rattle.driver_replies.specs.Writes.{fresh_id, is_upsert, with_id}
use Rattle.driver_replies.proofs.ModifyingLemmas.{upsert_is_flat}
use Rattle.driver_replies.proofs.modifying.Modification.upsert.Goals as goal

asked : (c : goal.In_ok-add_id) → c.add_id.new.statement ≡ asked_upsert c.args.self.now
asked c =
    let whole : c.put.new.document ≡ upsert_of c.args.self.now = search rules in
    let test : is_upsert (upsert_of c.args.self.now) ≡ true = ap is_upsert (sym whole) ∙ sym c.is_upsert.ensures ∙ c.if-not-is_upsert.false in
    rw test
    (c.in_ok-add_id.ensures
    ∙ ap (λ (id : List ℕ). with_id id c.put.new.document) c.first.ensures
    ∙ ap (with_id (fresh_id c.args.self.now.ids)) whole)

pub returns-clause-is : goal.returns-clause-is
returns-clause-is c = asked c

pub returns-clause-flat : goal.returns-clause-flat
returns-clause-flat c =
    let short : pairs_levels (replacement c.args.self.now.filter c.args.self.now.update) ≤ 97 =
    subst (λ (ps : Pairs). pairs_levels ps ≤ 97) c.in_ok-statement.ensures.is c.in_ok-statement.ensures.flat in
    upsert_is_flat c.args.self.now c.add_id.new.statement short (asked c)
