-- Documents that ascend by `_id` stand in the order of a sort by `_id`, whatever else it sorts by.
use Rattle.std.proofs.Common.{◌≡◌, Bool, true, false, List, [], ◌∷◌, ◌++◌, Option, Some, None, refl, ap, subst, ◌∙◌}
use Rattle.std.specs.Prelude.{All, not, option_and_then}
use Rattle.std.specs.List.{flat_map}
use Rattle.std.specs.Ordering.{on, ordering_then}
use Rattle.std.specs.declared.cmp.Ordering.{Ordering}
use Rattle.std.specs.declared.cmp.Ordering.TheVariants.{Less}
use Rattle.std.proofs.lemmas.List.Elements.{All-filter, All-head, All-tail}
use Rattle.bson.specs.Tree.{Tree, scalar, document, array, Pairs}
use Rattle.bson.specs.Lookup.{lookup}
use Rattle.path.specs.Reach.{Reached}
use Rattle.update_model.specs.Stored.{id_name, no_array}
use Rattle.filter.specs.Condition.{Conditions}
use Rattle.filter.specs.IdPaths.{is_id}
use Rattle.filter.specs.Matches.{matches}
use Rattle.value_order.specs.Order.{compare, key_cmp, value}
use Rattle.sort.specs.Sort.{SortField, compare_by, in_direction, insert_in_order, key_among, keys_of, order, put_before, sort_key}
use Rattle.entry_model.specs.LawfulState.{IsLawfulState, IsRising}
use Rattle.entry_model.specs.State.{Collection, key_of}
use Rattle.entries.specs.declared.catalogue_reading.Catalogued.{Catalogued}
use Rattle.entry_model.proofs.FoundLawLemmas.{found_collection}
use Rattle.planner.proofs.RisingLemmas.{Below, Rises, rises_filter, rises_of}
use Rattle.database_model.specs.Find.{matching}
use Rattle.database_model.specs.Lawful.{IsStored}
use Rattle.asked_documents.specs.Asking.{IsAsked}
use Rattle.queries.specs.IdOrder.{keeps_id_order}
use Rattle.planner.proofs.UsableLemmas.{and_first, and_second}
use Rattle.candidate_ids.proofs.ByIdLemmas.{reached_id}

abbrev by_key : Pairs → Pairs → Ordering
by_key = on key_of compare

-- ---- the sort's key at `_id` is the `_id`

-- since that is no array
one_key : (o : Option Tree) (t : Tree) → option_and_then no_array o ≡ Some t → keys_of (Some t) ≡ value t ∷ []
one_key None t e = absurd cc
one_key (Some (array ts)) t e = absurd cc
one_key (Some (scalar s)) t e = let same : scalar s ≡ t = cc in subst (λ (x : Tree). keys_of (Some x) ≡ value x ∷ []) same refl
one_key (Some (document ps)) t e = let same : document ps ≡ t = cc in subst (λ (x : Tree). keys_of (Some x) ≡ value x ∷ []) same refl

id_key : (field : SortField) (d : Pairs) → is_id field.0 ≡ true → IsStored d → sort_key field d ≡ value (key_of d)
id_key field d named stored =
    ap (λ (rs : List Reached). key_among field.1 (flat_map keys_of rs)) (reached_id field.0 d named stored)
    ∙ (λ i. key_among field.1 (one_key (lookup d id_name) (key_of d) stored.key i ++ []))

ascending : (b : Bool) → not b ≡ true → b ≡ false
ascending true e = absurd cc
ascending false e = refl

-- ---- so what ascends by `_id` stays

in_front : (sort : List SortField) (d e : Pairs) (later es : List Pairs) → keeps_id_order sort ≡ true → IsStored d → IsStored e → by_key d e ≡ Less
    → put_before (compare_by sort d e) d e later es ≡ d ∷ e ∷ es
in_front [] d e later es keeps hd he less = refl
in_front (field ∷ fields) d e later es keeps hd he less =
    let named : is_id field.0 ≡ true = and_first (is_id field.0) (not field.1) keeps in
    let up : field.1 ≡ false = ascending field.1 (and_second (is_id field.0) (not field.1) keeps) in
    (λ i. put_before
    (ordering_then (in_direction (up i) (key_cmp (id_key field d named hd i) (id_key field e named he i))) (compare_by fields d e)) d e later es)
    ∙ ap (λ (o : Ordering). put_before (ordering_then o (compare_by fields d e)) d e later es) less

put_in_front : (sort : List SortField) (d : Pairs) (ds : List Pairs) → keeps_id_order sort ≡ true → IsStored d → All IsStored ds → Below by_key d ds
    → insert_in_order (compare_by sort) d ds ≡ d ∷ ds
put_in_front sort d [] keeps hd all below = refl
put_in_front sort d (e ∷ es) keeps hd all below =
    in_front sort d e (insert_in_order (compare_by sort) d es) es keeps hd (All-head IsStored e es all) below.0

stays : (sort : List SortField) (ds : List Pairs) → keeps_id_order sort ≡ true → All IsStored ds → Rises by_key ds → order sort ds ≡ ds
stays sort [] keeps all up = refl
stays sort (d ∷ ds) keeps all up =
    ap (insert_in_order (compare_by sort) d) (stays sort ds keeps (All-tail IsStored d ds all) up.1)
    ∙ put_in_front sort d ds keeps (All-head IsStored d ds all) (All-tail IsStored d ds all) up.0

-- of a collection's documents those that match stand in the order of such a sort
pub keeps_matching : (sort : List SortField) (rs : Conditions) (ds : List Pairs) → keeps_id_order sort ≡ true → IsRising ds → All IsStored ds
    → order sort (matching rs ds) ≡ matching rs ds
keeps_matching sort rs ds keeps up all =
    stays sort (matching rs ds) keeps (All-filter (matches rs) IsStored ds all) (rises_filter (matches rs) by_key ds (rises_of by_key ds up))

-- so do those of a collection that is asked
pub keeps_asked : (sort : List SortField) (rs : Conditions) (home : Catalogued) (now : List Collection) (c : Collection) → keeps_id_order sort ≡ true
    → IsLawfulState now → IsAsked home now c → order sort (matching rs c.documents) ≡ matching rs c.documents
keeps_asked sort rs home now c keeps state asked =
    keeps_matching sort rs c.documents keeps (found_collection now c.name c state asked.numbered.found).0.rising asked.stored
