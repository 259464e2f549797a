use Rattle.std.proofs.Common.{rules, ◌≡◌, ◌<◌, ◌++◌, ◌∷◌, [], false, length, get_or, ◌∙◌}
use Rattle.std.proofs.lemmas.List.{length-set}
use Rattle.roots.proofs.MarkLemmas.{marks_more}
use Rattle.roots.proofs.reachable_pages.Reached.note.Goals as goal

pub returns-clause-marks : goal.returns-clause-marks
returns-clause-marks c limit marked =
    let s = c.args.self.now in
    let pushed : c.push.new.self.items ≡ s.pages.items ++ c.args.page ∷ [] = search rules in
    let within : c.args.page < length s.seen.items = search rules in
    let fresh : get_or s.seen.items c.args.page false ≡ false = search rules in
    record {
      count = length-set s.seen.items c.args.page _ ∙ marked.count;
      marks = marks_more s.pages.items c.push.new.self.items s.seen.items c.args.page pushed within fresh marked.marks;
    }
