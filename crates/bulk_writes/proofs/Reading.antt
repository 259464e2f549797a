-- A statement that a document spells makes documents of documents.
use Rattle.std.proofs.Common.{ℕ, Bool, true, false, List, [], ◌∷◌, ◌++◌, map, Result, Ok, Err, IsUtf8}
use Rattle.std.specs.Prelude.{codes, if◌then◌else◌}
use Rattle.std.specs.Str.{bytes_eq}
use Rattle.bson.specs.Kinds.{kind_byte}
use Rattle.bson.specs.Lawful.{IsItems, IsPairs, IsTree}
use Rattle.bson.specs.Tree.{Tree, scalar, text, boolean, min_key, max_key, null, document, array, Pairs, no_pairs, pair, Items, no_items, item}
use Rattle.filter.specs.Condition.{all, any, at, Condition, condition, Conditions, element, element_document, equal, equals, is, no_conditions}
use Rattle.filter.specs.Condition.{not_all, not_any, of_kinds, Predicate, size}
use Rattle.filter.specs.declared.condition.Comparison.{Comparison}
use Rattle.filter.specs.declared.condition.Comparison.TheVariants as comparisons
use Rattle.filter.specs.Elements.{read_element_condition}
use Rattle.filter.specs.IdPaths.{begins_with_id}
use Rattle.filter.specs.Parsing.{array_in, every, exists, has_operators, just, named_condition, operation, order_operand, path_in, read_element}
use Rattle.filter.specs.Parsing.{read_filter, read_known}
use Rattle.filter.specs.Parsing.{read_members, read_not, read_operand, read_operators}
use Rattle.filter.specs.Words.{all_kinds, operator_of, size_in}
use Rattle.path.specs.declared.refusal.Refusal.{Refusal}
use Rattle.path.specs.declared.refusal.Refusal.TheVariants as refusals
use Rattle.path.specs.Edits.{if_ok, set_at}
use Rattle.update_model.specs.Arrays.{each_items, items_to_push, no_more}
use Rattle.update_model.specs.Numbers.{number_in}
use Rattle.update_model.specs.Operators.{editable_path, new_path, no_id, operator_of as edit_operator_of, read_action}
use Rattle.update_model.specs.Parsing.{conflicts, known_operator, operands_in, read_edit, read_edits, read_operator, read_operators as read_edits_of}
use Rattle.update_model.specs.Parsing.{read_update, without_conflict}
use Rattle.update_model.specs.Update.{Edit, edits, Path, replacement}
use Rattle.update_model.specs.Upserts.{base_of, is_below_id, with_condition, with_conditions, with_equal, with_equalities, with_equality}
use Rattle.bulk_writes.proofs.Changing.{AreEdits, IsAction, IsChange, IsEdit, IsNumber, number_given}
use Rattle.bulk_writes.proofs.Parts.{path_given}
use Rattle.bulk_writes.proofs.Values.{AreNames, given, IfGiven, set_given}

-- ---- the equalities of a filter

abbrev Any : {X : Type 0} → X → Type 0
Any x = Unit {0}

any_given : {X : Type 0} (r : Result X Refusal) → IfGiven (λ (x : X). Any x) r
any_given (Ok x) = tt
any_given (Err e) = tt

-- what asks for no equality of its own
module _ {A : Type 0} (P : Condition → Type 0) (r : Result A Refusal) (make : A → Condition) (makes : (a : A) → P (make a)) where
  made_given : IfGiven P (if_ok r (λ a. Ok (make a)))
  made_given = given (λ (a : A). Any a) P r (λ a. Ok (make a)) (any_given r) (λ a k. makes a)

abbrev IsEquality : Condition → Type 0
IsEquality (is (equal t)) = IsTree t
IsEquality other = Unit {0}

abbrev AreEqualities : Conditions → Type 0
AreEqualities no_conditions = Unit {0}
AreEqualities (condition c cs) = IsEquality c × AreEqualities cs

abbrev IsTop : Condition → Type 0
IsTop (at path cs) = AreNames path × AreEqualities cs
IsTop other = Unit {0}

abbrev pub AreTop : Conditions → Type 0
AreTop no_conditions = Unit {0}
AreTop (condition c cs) = IsTop c × AreTop cs

-- ---- a base is lawful

equal_given : (path : Path) (p : Predicate) (ps : Pairs) → AreNames path → IsEquality (is p) → IsPairs ps → IfGiven IsPairs (with_equal path p ps)
equal_given path (equal t) ps names h k = by (is_below_id path)
  where
    by : (b : Bool) → IfGiven IsPairs (if b then Err refusals.ImmutableField else set_at path t ps)
    by true = tt
    by false = set_given path t ps names h k
equal_given path other ps names h k = k

equality_given : (path : Path) (c : Condition) (ps : Pairs) → AreNames path → IsEquality c → IsPairs ps → IfGiven IsPairs (with_equality path c ps)
equality_given path (is asked) ps names h k = equal_given path asked ps names h k
equality_given path other ps names h k = k

equalities_given : (path : Path) (cs : Conditions) (ps : Pairs) → AreNames path → AreEqualities cs → IsPairs ps → IfGiven IsPairs (with_equalities path cs ps)
equalities_given path no_conditions ps names h k = k
equalities_given path (condition c cs) ps names h k =
    given IsPairs IsPairs (with_equality path c ps) (with_equalities path cs) (equality_given path c ps names h.0 k)
    (λ qs l. equalities_given path cs qs names h.1 l)

condition_given : (c : Condition) (ps : Pairs) → IsTop c → IsPairs ps → IfGiven IsPairs (with_condition c ps)
condition_given (at path cs) ps h k = equalities_given path cs ps h.0 h.1 k
condition_given other ps h k = k

conditions_given : (cs : Conditions) (ps : Pairs) → AreTop cs → IsPairs ps → IfGiven IsPairs (with_conditions cs ps)
conditions_given no_conditions ps h k = k
conditions_given (condition c cs) ps h k =
    given IsPairs IsPairs (with_condition c ps) (with_conditions cs) (condition_given c ps h.0 k) (λ qs l. conditions_given cs qs h.1 l)

pub base_given : (cs : Conditions) → AreTop cs → IfGiven IsPairs (base_of cs)
base_given cs h = conditions_given cs no_pairs h tt

-- ---- a filter is read

order_given : (k : Comparison) (t : Tree) → IfGiven IsEquality (order_operand k t)
order_given k (scalar null) = tt
order_given k (scalar min_key) = tt
order_given k (scalar max_key) = tt
order_given k t = tt

exists_given : (t : Tree) → IfGiven IsEquality (exists t)
exists_given (scalar (boolean true)) = tt
exists_given (scalar (boolean false)) = tt
exists_given t = tt

every_asks : (cs : Conditions) → IsEquality (every cs)
every_asks no_conditions = tt
every_asks (condition c cs) = tt

element_given : (t : Tree) → IfGiven IsEquality (read_element t)
element_given (document ps) = by (has_operators ps)
  where
    by : (b : Bool)
        → IfGiven IsEquality (if b then if_ok (read_operators ps) (λ rs. Ok (element rs)) else if_ok (read_filter ps) (λ rs. Ok (element_document rs)))
    by true = made_given IsEquality (read_operators ps) element (λ rs. tt)
    by false = made_given IsEquality (read_filter ps) element_document (λ rs. tt)
element_given (array ts) = tt
element_given (scalar s) = tt

not_given : (t : Tree) → IfGiven IsEquality (read_not t)
not_given (document ps) = by (has_operators ps)
  where
    by : (b : Bool) → IfGiven IsEquality (if b then if_ok (read_operators ps) (λ rs. Ok (not_all rs)) else Err refusals.BadValue)
    by true = made_given IsEquality (read_operators ps) not_all (λ rs. tt)
    by false = tt
not_given (array ts) = tt
not_given (scalar s) = tt

known_given : (name : List ℕ) (t : Tree) → IsTree t → IfGiven IsEquality (read_known (operator_of name) t)
known_given name t h =
    one (bytes_eq name (codes "$eq")) _ _ h
    (one (bytes_eq name (codes "$gt")) _ _ (order_given comparisons.Above t)
    (one (bytes_eq name (codes "$gte")) _ _ (order_given comparisons.AtLeast t)
    (one (bytes_eq name (codes "$lt")) _ _ (order_given comparisons.Below t)
    (one (bytes_eq name (codes "$lte")) _ _ (order_given comparisons.AtMost t)
    (one (bytes_eq name (codes "$in")) _ _ (made_given IsEquality (array_in t) (λ (ts : Items). any (equals ts)) (λ ts. tt))
    (one (bytes_eq name (codes "$exists")) _ _ (exists_given t)
    (one (bytes_eq name (codes "$type")) _ _ (made_given IsEquality (all_kinds t) (λ ks. is (of_kinds (map kind_byte ks))) (λ ks. tt))
    (one (bytes_eq name (codes "$all")) _ _ (made_given IsEquality (array_in t) (λ (ts : Items). every (equals ts)) (λ ts. every_asks (equals ts)))
    (one (bytes_eq name (codes "$size")) _ _ (made_given IsEquality (size_in t) (λ n. is (size n)) (λ n. tt))
    (one (bytes_eq name (codes "$ne")) _ _ tt
    (one (bytes_eq name (codes "$nin")) _ _ (made_given IsEquality (array_in t) (λ (ts : Items). not_any (equals ts)) (λ ts. tt))
    tt)))))))))))
  where
    one : (b : Bool) (x y : _) → IfGiven IsEquality (read_known x t) → IfGiven IsEquality (read_known y t)
        → IfGiven IsEquality (read_known (if b then x else y) t)
    one true x y first later = first
    one false x y first later = later

operation_given : (name : List ℕ) (t : Tree) → IsTree t → IfGiven IsEquality (operation name (read_element t) (read_not t) t)
operation_given name t h = by (bytes_eq name (codes "$elemMatch")) (bytes_eq name (codes "$not"))
  where
    by : (a b : Bool) → IfGiven IsEquality (if a then read_element t else (if b then read_not t else read_known (operator_of name) t))
    by true b = element_given t
    by false true = not_given t
    by false false = known_given name t h

operators_given : (ps : Pairs) → IsPairs ps → IfGiven AreEqualities (read_operators ps)
operators_given no_pairs h = tt
operators_given (pair name t ps) h =
    given IsEquality AreEqualities (operation name (read_element t) (read_not t) t) _ (operation_given name t h.1)
    (λ r is_one. given AreEqualities AreEqualities (read_operators ps) _ (operators_given ps h.3) (λ rs are. (is_one, are)))

operand_given : (t : Tree) → IsTree t → IfGiven AreEqualities (read_operand t)
operand_given (document ps) h = by (has_operators ps)
  where
    by : (b : Bool) → IfGiven AreEqualities (if b then read_operators ps else Ok (just (is (equal (document ps)))))
    by true = operators_given ps h
    by false = (h, tt)
operand_given (array ts) h = (h, tt)
operand_given (scalar s) h = (h, tt)

named_given : (name : List ℕ) (t : Tree) → IsUtf8 name → IsTree t → IfGiven IsTop (named_condition name (read_members t) (read_operand t))
named_given name t n h = by (bytes_eq name (codes "$and")) (bytes_eq name (codes "$or")) (bytes_eq name (codes "$nor"))
  where
    by : (a b d : Bool)
        → IfGiven IsTop (if a then if_ok (read_members t) (λ rs. Ok (all rs)) else (if b then if_ok (read_members t) (λ rs. Ok (any rs))
        else (if d then if_ok (read_members t) (λ rs. Ok (not_any rs))
        else if_ok (path_in name) (λ path. if_ok (read_operand t) (λ rs. Ok (at path rs))))))
    by true b d = made_given IsTop (read_members t) all (λ rs. tt)
    by false true d = made_given IsTop (read_members t) any (λ rs. tt)
    by false false true = made_given IsTop (read_members t) not_any (λ rs. tt)
    by false false false =
        given AreNames IsTop (path_in name) _ (path_given name n)
        (λ path names. given AreEqualities IsTop (read_operand t) _ (operand_given t h) (λ rs are. (names, are)))

pub filter_given : (ps : Pairs) → IsPairs ps → IfGiven AreTop (read_filter ps)
filter_given no_pairs h = tt
filter_given (pair name t ps) h =
    given IsTop AreTop (named_condition name (read_members t) (read_operand t)) _ (named_given name t h.0.is_text h.1)
    (λ r is_one. given AreTop AreTop (read_filter ps) _ (filter_given ps h.3) (λ rs are. (is_one, are)))

-- ---- an update is read

array_given : (t : Tree) → IsTree t → IfGiven IsItems (array_in t)
array_given (array ts) h = h
array_given (document ps) h = tt
array_given (scalar s) h = tt

push_given : (t : Tree) → IsTree t → IfGiven IsItems (items_to_push t)
push_given (document ps) h = by (has_operators ps)
  where
    none_more : (ts : Items) (qs : Pairs) → IsItems ts → IfGiven IsItems (no_more ts qs)
    none_more ts no_pairs k = k
    none_more ts (pair name t qs) k = tt

    each : (qs : Pairs) → IsPairs qs → IfGiven IsItems (each_items qs)
    each no_pairs k = tt
    each (pair name t qs) k = one (bytes_eq name (codes "$each"))
      where
        one : (b : Bool) → IfGiven IsItems (if b then if_ok (array_in t) (λ ts. no_more ts qs) else Err refusals.BadValue)
        one true = given IsItems IsItems (array_in t) (λ ts. no_more ts qs) (array_given t k.1) (λ ts l. none_more ts qs l)
        one false = tt

    by : (b : Bool) → IfGiven IsItems (if b then each_items ps else Ok (item (document ps) no_items))
    by true = each ps h
    by false = (h, tt)
push_given (array ts) h = (h, tt)
push_given (scalar s) h = (h, tt)

editable_given : (name : List ℕ) → IsUtf8 name → IfGiven AreNames (editable_path name)
editable_given name n = given AreNames AreNames (path_in name) no_id (path_given name n) (λ path names. by path names (begins_with_id path))
  where
    by : (path : Path) → AreNames path → (b : Bool) → IfGiven AreNames (if b then Err refusals.ImmutableField else Ok path)
    by path names true = tt
    by path names false = names

new_given : (t : Tree) → IsTree t → IfGiven AreNames (new_path t)
new_given (scalar (text name)) h = editable_given name h
new_given other h = tt

edits_more : (es : List Edit) (e : Edit) → AreEdits es → IsEdit e → AreEdits (es ++ e ∷ [])
edits_more [] e h k = (k, tt)
edits_more (x ∷ es) e h k = (h.0, edits_more es e h.1 k)

conflict_given : (earlier : List Edit) (e : Edit) → AreEdits earlier → IsEdit e → IfGiven AreEdits (without_conflict earlier e)
conflict_given earlier e h k = by (conflicts earlier e)
  where
    by : (b : Bool) → IfGiven AreEdits (if b then Err refusals.ConflictingUpdateOperators else Ok (earlier ++ e ∷ []))
    by true = tt
    by false = edits_more earlier e h k

-- what the operator of a name does with a lawful operand
acts_given : (name : List ℕ) → IfGiven (λ o. (t : Tree) → IsTree t → IfGiven IsAction (read_action o t)) (known_operator (edit_operator_of name))
acts_given name =
    one (bytes_eq name (codes "$set")) _ _ (λ t h. h)
    (one (bytes_eq name (codes "$unset")) _ _ (λ t h. tt)
    (one (bytes_eq name (codes "$inc")) _ _ (λ t h. given IsNumber IsAction (number_in t) _ (number_given t h) (λ n k. k))
    (one (bytes_eq name (codes "$min")) _ _ (λ t h. h)
    (one (bytes_eq name (codes "$max")) _ _ (λ t h. h)
    (one (bytes_eq name (codes "$push")) _ _ (λ t h. given IsItems IsAction (items_to_push t) _ (push_given t h) (λ ts k. k))
    (one (bytes_eq name (codes "$pull")) _ _
    (λ t h. given (λ (c : Condition). Any c) IsAction (read_element_condition t) _ (any_given (read_element_condition t)) (λ c k. tt))
    (one (bytes_eq name (codes "$rename")) _ _ (λ t h. given AreNames IsAction (new_path t) _ (new_given t h) (λ path k. k))
    tt)))))))
  where
    one : (b : Bool) (x y : _) → IfGiven (λ o. (t : Tree) → IsTree t → IfGiven IsAction (read_action o t)) (known_operator x)
        → IfGiven (λ o. (t : Tree) → IsTree t → IfGiven IsAction (read_action o t)) (known_operator y)
        → IfGiven (λ o. (t : Tree) → IsTree t → IfGiven IsAction (read_action o t)) (known_operator (if b then x else y))
    one true x y first later = first
    one false x y first later = later

edit_given : (o : _) → ((t : Tree) → IsTree t → IfGiven IsAction (read_action o t)) → (name : List ℕ) (t : Tree) (earlier : List Edit) → IsUtf8 name → IsTree t
    → AreEdits earlier → IfGiven AreEdits (read_edit o name t earlier)
edit_given o acts name t earlier n h k =
    given AreNames AreEdits (editable_path name) _ (editable_given name n)
    (λ where_to names. given IsAction AreEdits (read_action o t) _ (acts t h)
    (λ does fits. conflict_given earlier (record { path = where_to; action = does }) k (record { path = names; action = fits })))

edits_given : (o : _) → ((t : Tree) → IsTree t → IfGiven IsAction (read_action o t)) → (ps : Pairs) (earlier : List Edit) → IsPairs ps → AreEdits earlier
    → IfGiven AreEdits (read_edits o ps earlier)
edits_given o acts no_pairs earlier h k = k
edits_given o acts (pair name t ps) earlier h k =
    given AreEdits AreEdits (read_edit o name t earlier) (read_edits o ps) (edit_given o acts name t earlier h.0.is_text h.1 k)
    (λ es l. edits_given o acts ps es h.3 l)

operands_given : (t : Tree) → IsTree t → IfGiven IsPairs (operands_in t)
operands_given (document ps) h = h
operands_given other h = tt

all_edits_given : (ps : Pairs) (earlier : List Edit) → IsPairs ps → AreEdits earlier → IfGiven AreEdits (read_edits_of ps earlier)
all_edits_given no_pairs earlier h k = k
all_edits_given (pair name t ps) earlier h k =
    given AreEdits AreEdits (read_operator name t earlier) (read_edits_of ps)
    (given (λ o. (u : Tree) → IsTree u → IfGiven IsAction (read_action o u)) AreEdits (known_operator (edit_operator_of name)) _ (acts_given name)
    (λ o acts. given IsPairs AreEdits (operands_in t) _ (operands_given t h.1) (λ qs l. edits_given o acts qs earlier l k)))
    (λ es l. all_edits_given ps es h.3 l)

pub update_given : (ps : Pairs) → IsPairs ps → IfGiven IsChange (read_update ps)
update_given ps h = by (has_operators ps)
  where
    by : (b : Bool) → IfGiven IsChange (if b then if_ok (read_edits_of ps []) (λ es. Ok (edits es)) else Ok (replacement ps))
    by true = given AreEdits IsChange (read_edits_of ps []) _ (all_edits_given ps [] h tt) (λ es k. k)
    by false = h
