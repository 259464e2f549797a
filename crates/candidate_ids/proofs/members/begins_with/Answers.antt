use Rattle.std.proofs.Common.{◌≡◌, ◌-◌, Bool, true, false, sym, ap, ◌∙◌}
use Rattle.std.specs.Prelude.{◌&&◌, drop, length, take}
use Rattle.candidate_ids.specs.Alternatives.{has_other_next, has_path}
use Rattle.candidate_ids.proofs.MembersLemmas.{begins_by}
use Rattle.candidate_ids.proofs.members.begins_with.Goals as goal

pub returns-then-has_path : goal.returns-then-has_path
returns-then-has_path c =
    let path = c.args.path.now in
    let by = begins_by path c.args.fields.now c.first-item.result c.in-len1-up.len_at_least c.first-item.is in
    let there : has_path path c.first-item.result ≡ true = sym c.has_path.ensures ∙ c.if-has_path.true in
    c.has_other_next.ensures ∙ sym (by ∙ ap (λ (b : Bool). b && has_other_next path (take (length c.args.fields.now - 1) (drop 1 c.args.fields.now))) there)

pub returns-else-has_path : goal.returns-else-has_path
returns-else-has_path c =
    let path = c.args.path.now in
    let by = begins_by path c.args.fields.now c.first-item.result c.in-len1-up.len_at_least c.first-item.is in
    let not_there : has_path path c.first-item.result ≡ false = sym c.has_path.ensures ∙ c.if-has_path.false in
    c.if-has_path.false ∙ sym (by ∙ ap (λ (b : Bool). b && has_other_next path (take (length c.args.fields.now - 1) (drop 1 c.args.fields.now))) not_there)
