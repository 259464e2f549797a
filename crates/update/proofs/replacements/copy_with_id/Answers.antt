use Rattle.std.proofs.Common.{◌≡◌, ap, sym, subst, ◌∙◌}
use Rattle.std.specs.Prelude.{not, option_map}
use Rattle.std.specs.Str.{bytes_eq}
use Rattle.bson.specs.Lawful.{IsDocument}
use Rattle.bson.specs.View.{tree}
use Rattle.bson.specs.declared.value.Pair.{Pair}
use Rattle.update_model.specs.Stored.{id_name, first_pair, without}
use Rattle.update_model.proofs.IdLemmas.{IsDocument-first_pair}
use Rattle.update.proofs.CopyingLemmas.{tested, passed_over, copied, all_copied}
use Rattle.update.proofs.replacements.copy_with_id.Goals as goal
use Rattle.update.proofs.replacements.copy_with_id.Goals.{then-ne+in_ok-name-2+in_ok-value-2+in_ok-push-2, else-ne}

pub pairs-preserved : goal.pairs-preserved
pairs-preserved c =
    let all = first_pair id_name (option_map (λ v. tree v.now) c.args.id) (without c.args.new.now id_name) in
    let ps = c.pairs-pair-items.result.now in
    let same : bytes_eq id_name c.pair-item.result.name ≡ not c.ne.result = ap (bytes_eq id_name) (sym c.as_str.ensures.value) ∙ tested _ _ c.ne.ensures in
    elim c.if-ne.branch [
      | then-ne+in_ok-name-2+in_ok-value-2+in_ok-push-2 w ↦
          let copy : Pair = record { name = w.in_ok-name-2.name; value = w.in_ok-value-2.value } in
          rw w.pairs-is
          (copied all ps c.pairs.pair-index c.pair-item.result c.pairs.pairs.items c.pairs-test.true c.pair-item.is c.pairs.invariant copy
          w.push-then-ne.new.self.items (same ∙ ap not w.if-ne.true) w.in_ok-name-2.ensures w.in_ok-value-2.ensures w.in_ok-push-2.ensures.items)
      | else-ne w ↦
          rw w.pairs-is
          (passed_over all ps c.pairs.pair-index c.pair-item.result c.pairs.pairs.items c.pairs-test.true c.pair-item.is c.pairs.invariant
          (same ∙ ap not w.if-ne.false))
    ]

pub from_pairs-requires : goal.from_pairs-requires
from_pairs-requires c =
    let all = first_pair id_name (option_map (λ v. tree v.now) c.args.id) (without c.args.new.now id_name) in
    let same = all_copied all c.pairs-pair-items.result.now c.pairs.pair-index c.pairs.pairs.items c.pairs-test.false c.pairs.invariant in
    subst IsDocument (sym same) (IsDocument-first_pair (option_map (λ v. tree v.now) c.args.id) c.args.new.now c.pairs-pair-items.ensures.lawful c.requires)

pub returns : goal.returns
returns c =
    let all = first_pair id_name (option_map (λ v. tree v.now) c.args.id) (without c.args.new.now id_name) in
    c.from_pairs.ensures ∙ all_copied all c.pairs-pair-items.result.now c.pairs.pair-index c.pairs.pairs.items c.pairs-test.false c.pairs.invariant
