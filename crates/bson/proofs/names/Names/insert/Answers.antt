use Rattle.std.proofs.Common.{not, map, take, sym, ap, refl, ◌∙◌}
use Rattle.std.proofs.lemmas.Result.{err_from_is_err_and}
use Rattle.bson.proofs.NameLaws.{names_insert, names_has, names_stay}
use Rattle.bson.proofs.names.Names.insert.Goals as goal

pub returns-in_err-insert-clause-absent : goal.returns-in_err-insert-clause-absent
returns-in_err-insert-clause-absent c =
    let p = err_from_is_err_and c.from_residual.result c.from_residual.ensures.1 in
    rw (p.1) (sym
    (names_has (map (λ n. n.now) (take c.self.inside.count c.self.inside.few)) c.self.inside.later.keys c.args.self.now c.args.name.now c.is_among.result _
    c.is_among.ensures c.if-is_among.false refl c.self.view_is) ∙ c.in_err-insert.ensures.absent)

pub returns-then-self-eq-FEW-clause-new : goal.returns-then-self-eq-FEW-clause-new
returns-then-self-eq-FEW-clause-new c =
    c.in_ok-insert.ensures.added
    ∙ ap not (names_has
    (map (λ n. n.now) (take c.self.inside.count c.self.inside.few)) c.self.inside.later.keys c.args.self.now c.args.name.now c.is_among.result _
    c.is_among.ensures c.if-is_among.false refl c.self.view_is)

pub returns-then-self-eq-FEW-clause-names : goal.returns-then-self-eq-FEW-clause-names
returns-then-self-eq-FEW-clause-names c = λ other.
    names_insert
    (map (λ n. n.now) (take c.self.inside.count c.self.inside.few)) c.self.inside.later.keys c.insert.new.self.keys c.args.name c.args.self.now other
    c.in_ok-insert.ensures.keys c.self.view_is

pub returns-then-is_among-clause-names : goal.returns-then-is_among-clause-names
returns-then-is_among-clause-names c = λ other.
    names_stay (map (λ n. n.now) (take c.self.inside.count c.self.inside.few)) c.self.inside.later.keys c.args.self.now c.args.name.now other
    (sym c.is_among.ensures ∙ c.if-is_among.true) c.self.view_is
