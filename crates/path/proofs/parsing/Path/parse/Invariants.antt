use Rattle.std.proofs.Common.{◌≡◌, ◌++◌, drop, map}
use Rattle.path.proofs.NameLemmas.{AllPass}
use Rattle.path.proofs.parsing.Path.parse.Given as goal

abbrev pub invariant-names : goal.invariant-names
invariant-names l = record {
  all : l.parts.items ++ map (λ n. n.now) (drop l.name-index l.name-items) ≡ map (λ n. n.now) l.name-items;
  pass : AllPass (map (λ n. n.now) (drop l.name-index l.name-items));
}
