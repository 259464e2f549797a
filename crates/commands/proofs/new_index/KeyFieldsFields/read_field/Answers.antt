use Rattle.std.proofs.Common.{◌≡◌, false, List, length, sym, ap, subst, ◌∙◌, arith}
use Rattle.std.specs.Prelude.{◌≢◌}
use Rattle.bson.specs.View.{tree}
use Rattle.index.specs.Definition.{Field}
use Rattle.command_model.specs.NewIndex.{is_among, AreKeyFields}
use Rattle.commands.proofs.NewIndexLemmas.{field_path, one_path_more}
use Rattle.commands.proofs.new_index.KeyFieldsFields.read_field.Goals as goal

pub invariant_of-self-2 : goal.invariant_of-self-2
invariant_of-self-2 c =
    let fields = c.self.inside.fields.items in
    let field = c.in_ok-field_in.field-0 in
    let path = field_path c.args.name.now (tree c.args.value.now) field c.in_ok-field_in.ensures.gives in
    let few : length fields ≢ 4 = λ same. c.if-len-eq-MOST_PATHS.false (omega (arith, c.len.ensures, same)) in
    let new : is_among fields field.path ≡ false =
    ap (is_among fields) (sym path) ∙ ap (λ (fs : List Field). is_among fs c.args.name.now) (sym c.deref.ensures.value) ∙ sym c.is_among.ensures
    ∙ c.if-is_among.false in
    subst AreKeyFields (sym {A = List Field} c.in_ok-push.ensures.items)
    (one_path_more fields field c.self.invariant few new c.in_ok-field_in.ensures.lawful.0 c.in_ok-field_in.ensures.lawful.1)
