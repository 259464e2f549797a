use Rattle.std.proofs.Common.{◌≡◌, ◌++◌, drop, map}
use Rattle.entries.specs.Indexed.{without_all}
use Rattle.index.specs.View.{texts_of}
use Rattle.entries.proofs.replacing_edits.changes_in_all.Given as goal

abbrev pub invariant-new : goal.invariant-new
invariant-new l = record {
  removed : map (λ c. map (λ key. key.now) c.removed.items) l.all.items
      ++ without_all (map (λ ks. texts_of ks.items) (drop l.at l.old)) (map (λ ks. texts_of ks.items) (drop l.at l.new))
      ≡ without_all (map (λ ks. texts_of ks.items) l.old) (map (λ ks. texts_of ks.items) l.new);
  added : map (λ c. map (λ key. key.now) c.added.items) l.all.items
      ++ without_all (map (λ ks. texts_of ks.items) (drop l.at l.new)) (map (λ ks. texts_of ks.items) (drop l.at l.old))
      ≡ without_all (map (λ ks. texts_of ks.items) l.new) (map (λ ks. texts_of ks.items) l.old);
}
