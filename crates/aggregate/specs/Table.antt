-- How groups grow, one document after the other: an entry for each group, with its `_id` and what
-- its accumulators have.
use Rattle.std.specs.Prelude.{◌≡◌, ◌||◌, Bool, false, if◌then◌else◌, Result, Ok, List, [], ◌∷◌, map}
use Rattle.std.specs.Prelude.{codes}
use Rattle.bson.specs.Tree.{Tree, Pairs, no_pairs}
use Rattle.outcome.specs.Outcome.{◌>>=◌}
use Rattle.path.specs.declared.refusal.Refusal.{Refusal}
use Rattle.aggregate_model.specs.Accumulators.{State, start, take, outcome}
use Rattle.aggregate_model.specs.Each.{just, each}
use Rattle.aggregate_model.specs.Expression.{expression_value}
use Rattle.aggregate_model.specs.Fields.{set_field}
use Rattle.aggregate_model.specs.Group.{GroupField, Grouping, Identified, id_value, same}

module _ {K D S : Type 0} (alike : K → K → Bool) (step : S → D → S) (begin : S) where
  -- one more in the first entry of its key, or in a new one at the end
  abbrev pub put : K × D → List (K × S) → List (K × S)
  put x [] = (x.0, step begin x.1) ∷ []
  put x (e ∷ es) = if alike e.0 x.0 then (e.0, step e.1 x.1) ∷ es else e ∷ put x es

module _ {K S : Type 0} (alike : K → K → Bool) where
  -- an entry is of this key
  abbrev pub has : List (K × S) → K → Bool
  has [] k = false
  has (e ∷ es) k = alike e.0 k || has es k

  -- no two entries are of one key
  abbrev pub Apart : List (K × S) → Type 0
  Apart [] = Unit {0}
  Apart (e ∷ es) = (has es e.0 ≡ false) × Apart es

-- each accumulator with its field's value of one document more
abbrev pub taken : List GroupField → Pairs → List State → List State
taken [] ps states = states
taken (f ∷ fs) ps [] = []
taken (f ∷ fs) ps (s ∷ ss) = take s (expression_value f.expression ps) ∷ taken fs ps ss

abbrev pub starts : List GroupField → List State
starts fields = map (λ f. start f.accumulator) fields

abbrev pub Entry : Type 0
Entry = Tree × List State

abbrev pub put_document : List GroupField → Identified → List Entry → List Entry
put_document fields = put same (λ states ps. taken fields ps states) (starts fields)

-- ---- in the end

abbrev pub with_outcomes : List GroupField → List State → Pairs → Result Pairs Refusal
with_outcomes [] states ps = Ok ps
with_outcomes (f ∷ fs) [] ps = Ok ps
with_outcomes (f ∷ fs) (s ∷ ss) ps =
    outcome s >>= (λ t. set_field f.name t ps >>= with_outcomes fs ss)

abbrev pub entry_document : List GroupField → Entry → Result Pairs Refusal
entry_document fields e = set_field (codes "_id") e.0 no_pairs >>= with_outcomes fields e.1

abbrev pub entry_documents : List GroupField → List Entry → Result (List Pairs) Refusal
entry_documents fields entries = each (λ e. just (entry_document fields e)) entries

abbrev pub grouped_from : Grouping → List Pairs → List Entry → Result (List Pairs) Refusal
grouped_from g [] entries = entry_documents g.fields entries
grouped_from g (ps ∷ documents) entries = id_value g.id ps
    >>= (λ id. grouped_from g documents (put_document g.fields (id, ps) entries))
