-- The documents of groups that grow one after the other are those of the list split by its keys.
use Rattle.std.proofs.Common.{◌≡◌, Bool, List, [], ◌∷◌, map, fold, Result, Ok, Err, refl, ap, subst, ◌∙◌}
use Rattle.std.specs.Cmp.{IsEquivalence}
use Rattle.std.proofs.lemmas.Cmp.{eq_by_cmp_equiv}
use Rattle.std.specs.Ordering.{is_eq}
use Rattle.std.specs.declared.cmp.Ordering.{Ordering}
use Rattle.std.specs.declared.cmp.Ordering.TheVariants.{Less, Equal, Greater}
use Rattle.bson.specs.Tree.{Tree, Pairs, no_pairs}
use Rattle.filter.specs.Matches.{is_equal}
use Rattle.value_order.specs.Order.{compare}
use Rattle.value_order.specs.TotalLaws.{compare_total}
use Rattle.outcome.specs.Outcome.{◌>>=◌}
use Rattle.path.specs.declared.refusal.Refusal.{Refusal}
use Rattle.aggregate_model.specs.Accumulators.{State, start, take}
use Rattle.aggregate_model.specs.Each.{just, behind, each}
use Rattle.aggregate_model.specs.Expression.{expression_value}
use Rattle.aggregate_model.specs.Fields.{set_field}
use Rattle.aggregate_model.specs.Group.{GroupField, Grouping, Identified, id_value, identify, same, first_of_each, members, groups, field_value, with_fields}
use Rattle.aggregate_model.specs.Group.{group_document, grouped}
use Rattle.aggregate.specs.Table.{taken, starts, Entry, put_document, with_outcomes, entry_document, entry_documents, grouped_from}
use Rattle.aggregate.proofs.SplitLemmas.{add_all, split}

is_equal-is_eq : (o : Ordering) → is_eq o ≡ is_equal o
is_equal-is_eq Less = refl
is_equal-is_eq Equal = refl
is_equal-is_eq Greater = refl

pub same_laws : IsEquivalence same
same_laws = subst (λ (E : Tree → Tree → Bool). IsEquivalence E) (λ i a b. is_equal-is_eq (compare a b) i) (eq_by_cmp_equiv compare_total)

-- ---- what the accumulators of a group have

abbrev states_of : List GroupField → List Pairs → List State
states_of fields documents = fold (λ states ps. taken fields ps states) (starts fields) documents

taken_each : (f : GroupField) (fs : List GroupField) (documents : List Pairs) (s : State) (ss : List State)
    → fold (λ states ps. taken (f ∷ fs) ps states) (s ∷ ss) documents
    ≡ fold take s (map (λ ps. expression_value f.expression ps) documents) ∷ fold (λ states ps. taken fs ps states) ss documents
taken_each f fs [] s ss = refl
taken_each f fs (ps ∷ documents) s ss = taken_each f fs documents (take s (expression_value f.expression ps)) (taken fs ps ss)

outcomes_are : (fields : List GroupField) (documents : List Pairs) (qs : Pairs)
    → with_outcomes fields (states_of fields documents) qs ≡ with_fields fields documents qs
outcomes_are [] documents qs = refl
outcomes_are (f ∷ fs) documents qs =
    ap (λ (ss : List State). with_outcomes (f ∷ fs) ss qs) (taken_each f fs documents (start f.accumulator) (starts fs))
    ∙ by (field_value f documents) (outcomes_are fs documents)
  where
    then : (r : Result Pairs Refusal) → ((rs : Pairs) → with_outcomes fs (states_of fs documents) rs ≡ with_fields fs documents rs)
        → (r >>= with_outcomes fs (states_of fs documents)) ≡ (r >>= with_fields fs documents)
    then (Ok rs) later = later rs
    then (Err e) later = refl

    by : (r : Result Tree Refusal) → ((rs : Pairs) → with_outcomes fs (states_of fs documents) rs ≡ with_fields fs documents rs)
        → (r >>= (λ t. set_field f.name t qs >>= with_outcomes fs (states_of fs documents))) ≡ (r >>= (λ t. set_field f.name t qs >>= with_fields fs documents))
    by (Ok t) later = then (set_field f.name t qs) later
    by (Err e) later = refl

document_is : (fields : List GroupField) (id : Tree) (documents : List Pairs)
    → entry_document fields (id, states_of fields documents) ≡ group_document fields (id, documents)
document_is fields id documents = by (set_field _ id no_pairs)
  where
    by : (r : Result Pairs Refusal) → (r >>= with_outcomes fields (states_of fields documents)) ≡ (r >>= with_fields fields documents)
    by (Ok qs) = outcomes_are fields documents qs
    by (Err e) = refl

documents_are : (fields : List GroupField) (of : Tree → List Pairs) (ids : List Tree)
    → entry_documents fields (map (λ id. (id, states_of fields (of id))) ids) ≡ each (λ group. just (group_document fields group)) (map (λ id. (id, of id)) ids)
documents_are fields of [] = refl
documents_are fields of (id ∷ ids) =
    (λ i. just (document_is fields id (of id) i) >>= (λ ys. behind ys (documents_are fields of ids i)))

-- ---- the whole

abbrev finished : List GroupField → List Entry → List Identified → Result (List Pairs) Refusal
finished fields entries identified = entry_documents fields (add_all same same_laws (λ states ps. taken fields ps states) (starts fields) identified entries)

from_identified : (g : Grouping) (documents : List Pairs) (entries : List Entry)
    → grouped_from g documents entries ≡ (each (λ ps. just (identify g.id ps)) documents >>= finished g.fields entries)
from_identified g [] entries = refl
from_identified g (ps ∷ documents) entries = by (id_value g.id ps) (λ id. from_identified g documents (put_document g.fields (id, ps) entries))
  where
    then : (id : Tree) (r : Result (List Identified) Refusal)
        → (r >>= finished g.fields (put_document g.fields (id, ps) entries)) ≡ (behind ((id, ps) ∷ []) r >>= finished g.fields entries)
    then id (Ok xs) = refl
    then id (Err e) = refl

    by : (r : Result Tree Refusal)
        → ((id : Tree)
        → grouped_from g documents (put_document g.fields (id, ps) entries)
        ≡ (each (λ qs. just (identify g.id qs)) documents >>= finished g.fields (put_document g.fields (id, ps) entries)))
        → (r >>= (λ id. grouped_from g documents (put_document g.fields (id, ps) entries)))
        ≡ ((just (r >>= (λ id. Ok (id, ps))) >>= (λ ys. behind ys (each (λ qs. just (identify g.id qs)) documents))) >>= finished g.fields entries)
    by (Ok id) later = later id ∙ then id (each (λ qs. just (identify g.id qs)) documents)
    by (Err e) later = refl

pub grouped_is : (g : Grouping) (documents : List Pairs) → grouped_from g documents [] ≡ grouped g documents
grouped_is g documents = from_identified g documents [] ∙ by (each (λ ps. just (identify g.id ps)) documents)
  where
    by : (r : Result (List Identified) Refusal)
        → (r >>= finished g.fields []) ≡ (r >>= (λ identified. each (λ group. just (group_document g.fields group)) (groups identified)))
    by (Err e) = refl
    by (Ok xs) =
        ap (entry_documents g.fields) (split same same_laws (λ states ps. taken g.fields ps states) (starts g.fields) xs)
        ∙ documents_are g.fields (members xs) (first_of_each (map (λ p. p.0) xs))
