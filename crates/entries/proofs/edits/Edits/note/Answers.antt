use Rattle.entries.specs.EditList.{edit_of}
use Rattle.entries.proofs.EditListLaws.{noted_lawful, noted_leads}
use Rattle.entries.proofs.edits.Edits.note.Goals as goal

pub invariant_of-self : goal.invariant_of-self
invariant_of-self c =
    noted_lawful c.put_among.result
    (edit_of c.args.key c.args.value) c.self.inside.noted.entries c.put_among.new.noted.entries c.requires c.self.invariant c.put_among.ensures.ok
    c.put_among.ensures.err

pub returns-clause-leads : goal.returns-clause-leads
returns-clause-leads c =
    noted_leads c.put_among.result
    (edit_of c.args.key c.args.value) c.self.inside.noted.entries c.put_among.new.noted.entries c.args.self.now c.self.invariant c.self.view_is
    c.put_among.ensures.ok
