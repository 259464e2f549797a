use Rattle.std.proofs.Common.{ap, subst, sym, ◌∙◌}
use Rattle.cursors.specs.EndingLaws.{others_to_table}
use Rattle.cursors.specs.Held.{Held, table_of}
use Rattle.cursors.specs.declared.ending.Ends.TheVariants as cases
use Rattle.pinned_cursors.proofs.TurnTied.{AreUntouched, others_untouched, tied_undone}
use Rattle.engine.specs.View.{world_of}
use Rattle.engine.proofs.Ending.{undone_of_pins}
use Rattle.engine.proofs.engine.Engine.roll_back.Goals as goal

pub returns-clause-file : goal.returns-clause-file
returns-clause-file g c =
    undone_of_pins g.D.Disk.history c.args.self.now.file c.end_all.new.file c.undo.new.self (c.end_all.ensures.releases c.args.self.now.is_changed).pins
    c.undo.ensures.undoes

pub returns-clause-tied : goal.returns-clause-tied
returns-clause-tied g c = λ changed tied.
    let rest = subst (λ (held : Held). AreUntouched held.list) (sym c.end_all.ensures.left) (others_untouched c.args.self.now.cursors) in
    tied_undone g.D.Disk.history c.end_all.new.file c.undo.new.self c.undo.ensures.versions changed c.end_all.new.cursors.list rest c.undo.ensures.undoes
    c.undo.ensures.pins ((c.end_all.ensures.releases changed).tied tied)

pub returns-clause-world : goal.returns-clause-world
returns-clause-world g c = λ i.
    let old = c.args.self.now in
    world_of (c.roll_back.ensures i) ((ap table_of c.end_all.ensures.left ∙ others_to_table cases.Touched old.cursors) i)
