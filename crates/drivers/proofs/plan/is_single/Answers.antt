use Rattle.std.proofs.Common.{◌≡◌, ◌∙◌, true, false, Bool, List, ℕ, codes, sym, ap}
use Rattle.std.specs.Prelude.{if◌then◌else◌}
use Rattle.std.specs.Str.{bytes_eq}
use Rattle.bson.specs.Lookup.{lookup}
use Rattle.drivers.specs.Starting.{name_of}
use Rattle.driver_replies.specs.Writes.{is_true}
use Rattle.drivers.proofs.plan.is_single.Goals as goal

pub returns-then-eq : goal.returns-then-eq
returns-then-eq c =
    let find : bytes_eq (name_of c.args.body.now) (codes "find") ≡ true =
    ap (λ (s : List ℕ). bytes_eq s (codes "find")) (sym c.name_of.ensures) ∙ sym c.if-eq.ensures in
    c.is_true.ensures ∙ ap is_true c.get.ensures
    ∙ sym (ap (λ (b : Bool). if b then is_true (lookup c.args.body.now (codes "singleBatch")) else false) find)
