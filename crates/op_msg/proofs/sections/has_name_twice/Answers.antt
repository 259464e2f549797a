use Rattle.std.proofs.Common.{sym, ap, ◌∙◌, length, arith}
use Rattle.std.proofs.lemmas.Bool.{ltb-true}
use Rattle.std.proofs.lemmas.List.{length-drop}
use Rattle.bson_bytes.proofs.TableLaws.{behind_next}
use Rattle.op_msg.specs.Frame.{sections_in, names_of}
use Rattle.op_msg.proofs.NamesTwice.{few_names, new_at, some_twice, one_new, none_twice}
use Rattle.op_msg.proofs.sections.has_name_twice.Goals as goal

pub returns-then-sequences-lt2 : goal.returns-then-sequences-lt2
returns-then-sequences-lt2 c = few_names (names_of (sections_in c.args.bytes.now).0) (omega (arith, c.requires, c.if-sequences-lt2.true))

pub is_repeated-requires : goal.is_repeated-requires
is_repeated-requires c = λ known.
    new_at (names_of (sections_in c.args.bytes.now).0)
    (names_of (sections_in c.in-Some.after.now).0) c.count_distinct-distinct.result c.names.count c.in-Some.name.now c.count_distinct-distinct.ensures
    (sym c.names.invariant.0 ∙ c.in-Some.ensures.0)
    (ltb-true c.names.count c.count_distinct-distinct.result known)

pub returns-then-is_repeated : goal.returns-then-is_repeated
returns-then-is_repeated c =
    sym (some_twice (names_of (sections_in c.args.bytes.now).0) (names_of (sections_in c.in-Some.after.now).0) c.names.count c.in-Some.name.now
    (sym c.names.invariant.0 ∙ c.in-Some.ensures.0) (sym c.is_repeated.ensures ∙ c.if-is_repeated.true))

pub names-preserved : goal.names-preserved
names-preserved c =
    let next = behind_next (names_of (sections_in c.args.bytes.now).0) (names_of (sections_in c.names.rest.now).0)
    (names_of (sections_in c.in-Some.after.now).0) c.in-Some.name.now c.names.count c.names.invariant.0 c.in-Some.ensures.0 in (
      next.1,
      one_new (names_of (sections_in c.args.bytes.now).0)
          (names_of (sections_in c.in-Some.after.now).0) c.names.count c.in-Some.name.now c.names.invariant.1 next.0
          (sym c.is_repeated.ensures ∙ c.if-is_repeated.false),
      omega (arith, c.names.invariant.2, c.in-Some.ensures.1),
    )

pub returns : goal.returns
returns c =
    let names = names_of (sections_in c.args.bytes.now).0 in
    sym (none_twice names c.names.count c.names.invariant.1
    (omega (arith, length-drop c.names.count names, ap length (sym c.names.invariant.0 ∙ c.in_default.ensures))))
