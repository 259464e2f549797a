use Rattle.std.proofs.Common.{[], ◌∷◌, ◌++◌, length, length-append, ap, subst, ◌∙◌, arith}
use Rattle.bson.specs.Tree.{Pairs}
use Rattle.collections.proofs.FoundLemmas.{AreMade, one_left}
use Rattle.collections.proofs.lookups.spelled_of.Goals as goal

pub entries-preserved : goal.entries-preserved
entries-preserved c =
    let documents = c.entries.documents.items in
    let entry = c.in-Some.entry in
    let left = c.next.new.self.rest.items in
    let document : Pairs = c.in_ok-spelled_in.field-0 in
    record {
      can = tt;
      finite = tt;
      made = λ ds each.
          let one = one_left ds documents entry left (subst (AreMade ds documents) c.in-Some.ensures.steps.0 (c.entries.invariant.made ds each)) in
          one.2 c.push.new.self.items (c.in_ok-push.ensures.items ∙ ap (λ (d : Pairs). documents ++ d ∷ []) (c.in_ok-spelled_in.ensures one.0 one.1.0 one.1.1));
      count = omega (
        arith,
        ap length c.in_ok-push.ensures.items,
        length-append documents (document ∷ []),
        ap length c.in-Some.ensures.steps.0,
        c.entries.invariant.count,
      );
    }
