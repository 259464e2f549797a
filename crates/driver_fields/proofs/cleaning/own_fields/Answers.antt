use Rattle.std.proofs.Common.{rules, ◌≡◌, ap, subst, sym, ◌∙◌}
use Rattle.std.specs.List.{filter}
use Rattle.std.proofs.lemmas.Fn.{filter_same}
use Rattle.bson.specs.Lawful.{IsDocument}
use Rattle.bson.specs.View.{pairs_of}
use Rattle.bson.specs.EditsLaws.{IsDocument-filter}
use Rattle.bson.specs.declared.value.Pair.{Pair}
use Rattle.driver_fields.specs.Cleaning.{is_kept, own_fields}
use Rattle.driver_fields.proofs.CleaningLemmas.{kept_filter}
use Rattle.driver_fields.proofs.cleaning.own_fields.Goals as goal

pub from_pairs-requires : goal.from_pairs-requires
from_pairs-requires c =
    let left : c.retain.new.self.items ≡ filter (λ (p : Pair). is_kept c.args.whose p.name) c.into_pairs-pairs.result.items =
    filter_same _ (λ (p : Pair). is_kept c.args.whose p.name) _ (λ x b f' k. search rules) _ _ c.retain.ensures.filtered in
    let lawful : IsDocument (pairs_of c.into_pairs-pairs.result.items) =
    subst IsDocument (sym c.into_pairs-pairs.ensures.pairs) c.into_pairs-pairs.ensures.lawful in
    rw left (IsDocument-filter (λ (p : Pair). is_kept c.args.whose p.name) c.into_pairs-pairs.result.items lawful)

pub returns : goal.returns
returns c =
    let left : c.retain.new.self.items ≡ filter (λ (p : Pair). is_kept c.args.whose p.name) c.into_pairs-pairs.result.items =
    filter_same _ (λ (p : Pair). is_kept c.args.whose p.name) _ (λ x b f' k. search rules) _ _ c.retain.ensures.filtered in
    c.from_pairs.ensures
    ∙ ap pairs_of left
    ∙ kept_filter c.args.whose c.into_pairs-pairs.result.items
    ∙ ap (own_fields c.args.whose) c.into_pairs-pairs.ensures.pairs
