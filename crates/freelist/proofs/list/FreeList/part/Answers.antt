use Rattle.std.proofs.Common.{◌≡◌, ◌+◌, ◌*◌, ◌∙◌, List, ap, arith, drop, length, length-take, rules, sym, take, ℕ}
use Rattle.std.specs.Prelude.{get_or}
use Rattle.freelist.proofs.PartsOfLists.{content_written, same_part}
use Rattle.freelist.proofs.list.FreeList.part.Goals as goal

pub returns-clause-part : goal.returns-clause-part
returns-clause-part c =
    let next : c.unwrap_or.result ≡ get_or c.args.self.now.pages.items (c.args.at + 1) 0 = search rules in
    let named : c.extend_from_slice.new.self.items ≡ c.named_at.result.now = search rules in
    content_written c.args.self.now.pages.items c.args.self.now.named.items c.args.at c.requires
    ∙ same_part (sym next) (sym (named ∙ c.named_at.ensures
    ∙ ap (λ (ns : List ℕ). take 1019 (drop (1019 * c.args.at) ns)) c.deref.ensures.value))

pub returns-clause-few : goal.returns-clause-few
returns-clause-few c =
    let named : c.extend_from_slice.new.self.items ≡ c.named_at.result.now = search rules in
    omega (
      arith,
      ap length named,
      ap length c.named_at.ensures,
      length-take 1019 (drop (1019 * c.args.at) c.deref.result.now),
    )
