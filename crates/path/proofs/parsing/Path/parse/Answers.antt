use Rattle.std.proofs.Common.{◌++◌, map, sym, ap, ◌∙◌, subst}
use Rattle.path.specs.Parts.{path_fault}
use Rattle.path.proofs.NameLemmas.{AllPass, faultless}
use Rattle.path.proofs.parsing.Path.parse.Goals as goal

pub names-init : goal.names-init
names-init c =
    let text = c.args.text.now in
    record {
      all = ap (λ ps. ps ++ map (λ n. n.now) c.deref-name-items.result.now) c.in_ok-parts.ensures.items;
      pass = subst (λ ns. AllPass (map (λ n. n.now) ns)) (sym c.deref-name-items.ensures.value)
          (faultless text (map (λ n. n.now) c.in_ok-names.names.items) (ap (path_fault text) c.in_ok-names.ensures ∙ sym c.fault_of.ensures ∙ c.in_default.is));
    }
