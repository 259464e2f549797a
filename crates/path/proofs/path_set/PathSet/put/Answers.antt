use Rattle.std.proofs.Common.{List, ◌||◌, sym, ap, subst, ◌∙◌}
use Rattle.std.specs.List.{list_any}
use Rattle.path.specs.Parts.{meets}
use Rattle.path.specs.PathSets.{AreApart}
use Rattle.path.proofs.PathSetLemmas.{Path, one_more, still_apart}
use Rattle.path.proofs.path_set.PathSet.put.Goals as goal

pub invariant_of-self-2 : goal.invariant_of-self-2
invariant_of-self-2 c =
    let old = c.self.inside.paths.keys in
    subst AreApart (sym c.in_ok-_new.ensures.keys)
    (still_apart c.args.path old c.self.invariant (ap (list_any (meets c.args.path)) c.self.view_is ∙ c.requires))

pub returns : goal.returns
returns c = λ other.
    ap (list_any (meets other)) c.in_ok-_new.ensures.keys
    ∙ one_more other c.args.path c.self.inside.paths.keys
    ∙ ap (λ (ps : List Path). meets other c.args.path || list_any (meets other) ps) c.self.view_is
