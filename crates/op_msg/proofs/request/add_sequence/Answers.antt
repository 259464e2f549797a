use Rattle.std.proofs.Common.{List, refl, sym, ap, subst, ◌∙◌, Ok}
use Rattle.bson.specs.Lawful.{NoZero}
use Rattle.bson.specs.declared.value.Pair.{Pair}
use Rattle.bson.specs.declared.value.Value.TheVariants as values
use Rattle.op_msg.specs.View.{sequence_of, joined, IsJoining}
use Rattle.op_msg.proofs.Joining.{array_joined, joining_more}
use Rattle.op_msg.proofs.request.add_sequence.Goals as goal

pub returns-clause-does : goal.returns-clause-does
returns-clause-does c = λ ps joining.
    let p : Pair = record { name = c.in-Ok-from_str.name; value = values.Array c.in-Ok-read_array.array } in
    array_joined ps c.args.names.now c.args.added.now.items
    (sequence_of c.args.sequence) c.in-Ok.is_new joining c.in-Ok.ensures.new c.if-not-is_new.false c.in-Ok-read_array.array p c.in-Ok-read_array.ensures
    c.in-Ok-from_str.ensures refl
    ∙ ap (λ (added : List Pair). Ok (joined ps added)) (sym c.in_ok-push.ensures.items)

pub returns-clause-joining : goal.returns-clause-joining
returns-clause-joining c = λ ps joining.
    let p : Pair = record { name = c.in-Ok-from_str.name; value = values.Array c.in-Ok-read_array.array } in
    subst (IsJoining ps c.insert.new.self) (sym c.in_ok-push.ensures.items)
    (joining_more ps c.args.names.now c.args.added.now.items
    (sequence_of c.args.sequence) c.in-Ok.is_new joining c.in-Ok.ensures.new c.if-not-is_new.false p c.in-Ok-read_array.array c.insert.new.self
    c.in-Ok-from_str.ensures refl
    (record { is_text = c.as_str-text.ensures.utf8; no_zero = subst NoZero (sym c.in-Ok-from_str.ensures) c.requires }) c.levels-levels.ensures.lawful
    c.in-Ok.ensures.names)
