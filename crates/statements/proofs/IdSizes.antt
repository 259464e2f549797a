-- How many bytes the `_id` of a document takes that an upsert makes: those of an equality of the filter, or of the replacement's `_id`.
use Rattle.std.proofs.Common.{◌≡◌, ℕ, ◌+◌, ◌≤◌, max, Bool, true, false, List, [], ◌∷◌, length, Option, Some, None, Result, Ok, Err, refl, sym, ap}
use Rattle.std.proofs.Common.{subst, ◌∙◌, arith}
use Rattle.std.specs.Prelude.{if◌then◌else◌, codes, map}
use Rattle.std.specs.List.{join_with_byte}
use Rattle.std.specs.Str.{bytes_eq}
use Rattle.std.proofs.lemmas.List.Splits.{join_with_byte-slice_split}
use Rattle.std.proofs.lemmas.Slice.Eq.{bytes_eq-Decides}
use Rattle.bson.specs.Kinds.{kind_byte}
use Rattle.bson.specs.Tree.{Tree, scalar, boolean, min_key, max_key, null, document, array, Pairs, no_pairs, pair, Items}
use Rattle.bson.specs.Edits.{put}
use Rattle.bson.specs.EditsLaws.{lookup-put}
use Rattle.bson.specs.Lookup.{lookup}
use Rattle.bson.specs.SizingLaws.{frame_of-length, pairs_size-pair}
use Rattle.bson.specs.Spelling.{tree_bytes, pairs_bytes}
use Rattle.outcome.specs.Outcome.{fault_or}
use Rattle.path.specs.EditLaws.{if_ok_value, within_ok}
use Rattle.path.specs.Edits.{if_ok, set_at, within}
use Rattle.path.specs.Parts.{parts_of, path_fault}
use Rattle.path.specs.declared.fault.PathFault.{PathFault}
use Rattle.path.specs.declared.refusal.Refusal.{Refusal}
use Rattle.path.specs.declared.refusal.Refusal.TheVariants as refusals
use Rattle.filter.specs.Condition.{Predicate, equal, of_kinds, size, Condition, all, any, not_all, not_any, at, is, element, element_document}
use Rattle.filter.specs.Condition.{Conditions, no_conditions, condition, equals}
use Rattle.filter.specs.IdPaths.{begins_with_id, is_id}
use Rattle.filter.specs.Parsing.{array_in, every, exists, has_operators, just, named_condition, operation, or_refusal, order_operand, path_in}
use Rattle.filter.specs.Parsing.{read_element, read_filter}
use Rattle.filter.specs.Parsing.{read_known, read_members, read_not, read_operand, read_operators}
use Rattle.filter.specs.Words.{all_kinds, operator_of, size_in}
use Rattle.filter.specs.declared.condition.Comparison.{Comparison}
use Rattle.filter.specs.declared.condition.Comparison.TheVariants as comparisons
use Rattle.update_model.specs.Update.{Path, set, Edit, Update as Change, replacement, edits}
use Rattle.update_model.specs.Applying.{apply, changed}
use Rattle.update_model.specs.IdEditLaws.{edits_keep_id, ok_same}
use Rattle.update_model.specs.Laws.{IsStored}
use Rattle.update_model.specs.Parsing.{read_update, read_operators as read_edits_of}
use Rattle.update_model.specs.Replacements.{in_place_of}
use Rattle.update_model.specs.Stored.{id_first, id_name, judged}
use Rattle.update_model.specs.UpdateLaws.{gives_stored, keeps_id, operators_avoid}
use Rattle.update_model.specs.Upserts.{base_of, with_condition, with_conditions, with_equalities, with_equality}
use Rattle.command_model.specs.Update.{IsRead}
use Rattle.database_model.specs.Documents.{key_of}
use Rattle.statements.proofs.Applied.{id_is_first}
use Rattle.statements.proofs.Checked.{lookup-id_first}

abbrev some : Tree → Option Tree
some t = Some t

-- the bytes of an `_id` with its name and its type
abbrev pub id_size : Option Tree → ℕ
id_size None = 0
id_size (Some t) = length (tree_bytes t) + 5

-- ---- the equalities of a filter

abbrev equal_size : Predicate → ℕ
equal_size (equal t) = length (tree_bytes t) + 5
equal_size other = 0

abbrev asked_size : Condition → ℕ
asked_size (is asked) = equal_size asked
asked_size other = 0

abbrev all_asked_size : Conditions → ℕ
all_asked_size no_conditions = 0
all_asked_size (condition c cs) = max (asked_size c) (all_asked_size cs)

abbrev condition_size : Condition → ℕ
condition_size (at path cs) = if is_id path then all_asked_size cs else 0
condition_size other = 0

-- what an equality at `_id` takes
abbrev pub filter_size : Conditions → ℕ
filter_size no_conditions = 0
filter_size (condition c cs) = max (condition_size c) (filter_size cs)

-- ---- a base has the `_id` of an equality

set_gives : (path : Path) (t : Tree) (ps qs : Pairs) → is_id path ≡ true → set_at path t ps ≡ Ok qs → lookup qs id_name ≡ Some t
set_gives [] t ps qs p e = absurd cc
set_gives (name ∷ next ∷ rest) t ps qs p e = absurd cc
set_gives (name ∷ []) t ps qs p e =
    let got = if_ok_value (within 99 (Ok t)) (λ (u : Tree). Ok (put ps name u)) qs e in
    let same : t ≡ got.0 = ok_same (within_ok 99 (Ok t) got.0 got.1) in
    let named : name ≡ id_name = (bytes_eq-Decides name id_name).0 p in
    ap (λ (x : Pairs). lookup x id_name) (sym (ok_same got.2))
    ∙ subst (λ (n : List ℕ). lookup (put ps name got.0) n ≡ Some got.0) named (lookup-put ps name got.0)
    ∙ ap some (sym same)

set_leaves : (path : Path) (t : Tree) (ps qs : Pairs) → begins_with_id path ≡ false → set_at path t ps ≡ Ok qs → lookup qs id_name ≡ lookup ps id_name
set_leaves path t ps qs other e =
    let one : Edit = record { path = path; action = set t } in
    edits_keep_id (one ∷ []) ps qs (record { path = other; action = tt }, tt) (ap (λ (r : Result Pairs Refusal). if_ok r (λ (x : Pairs). Ok x)) e)

equality_gives : (path : Path) (c : Condition) (ps qs : Pairs) → is_id path ≡ true → with_equality path c ps ≡ Ok qs
    → id_size (lookup qs id_name) ≤ max (id_size (lookup ps id_name)) (asked_size c)
equality_gives path (is (equal t)) ps qs p e = by (is_id path) p e
  where
    by : (b : Bool) → b ≡ true → (if (if b then false else begins_with_id path) then Err refusals.ImmutableField else set_at path t ps) ≡ Ok qs
        → id_size (lookup qs id_name) ≤ max (id_size (lookup ps id_name)) (length (tree_bytes t) + 5)
    by true q e = omega (arith, ap id_size (set_gives path t ps qs p e))
    by false q e = absurd cc
equality_gives path other ps qs p e = omega (arith, ap (λ (x : Pairs). id_size (lookup x id_name)) (ok_same e))

equalities_give : (path : Path) (cs : Conditions) (ps qs : Pairs) → is_id path ≡ true → with_equalities path cs ps ≡ Ok qs
    → id_size (lookup qs id_name) ≤ max (id_size (lookup ps id_name)) (all_asked_size cs)
equalities_give path no_conditions ps qs p e = omega (arith, ap (λ (x : Pairs). id_size (lookup x id_name)) (ok_same e))
equalities_give path (condition c cs) ps qs p e =
    let got = if_ok_value (with_equality path c ps) (with_equalities path cs) qs e in
    omega (arith, equality_gives path c ps got.0 p got.1, equalities_give path cs got.0 qs p got.2)

equality_leaves : (path : Path) (c : Condition) (ps qs : Pairs) → is_id path ≡ false → with_equality path c ps ≡ Ok qs → lookup qs id_name ≡ lookup ps id_name
equality_leaves path (is (equal t)) ps qs p e = by (is_id path) p (begins_with_id path) refl e
  where
    by : (a : Bool) → a ≡ false → (b : Bool) → begins_with_id path ≡ b
        → (if (if a then false else b) then Err refusals.ImmutableField else set_at path t ps) ≡ Ok qs
        → lookup qs id_name ≡ lookup ps id_name
    by true q b r e = absurd cc
    by false q true r e = absurd cc
    by false q false r e = set_leaves path t ps qs r e
equality_leaves path other ps qs p e = ap (λ (x : Pairs). lookup x id_name) (sym (ok_same e))

equalities_leave : (path : Path) (cs : Conditions) (ps qs : Pairs) → is_id path ≡ false → with_equalities path cs ps ≡ Ok qs
    → lookup qs id_name ≡ lookup ps id_name
equalities_leave path no_conditions ps qs p e = ap (λ (x : Pairs). lookup x id_name) (sym (ok_same e))
equalities_leave path (condition c cs) ps qs p e =
    let got = if_ok_value (with_equality path c ps) (with_equalities path cs) qs e in
    equalities_leave path cs got.0 qs p got.2 ∙ equality_leaves path c ps got.0 p got.1

condition_gives : (c : Condition) (ps qs : Pairs) → with_condition c ps ≡ Ok qs
    → id_size (lookup qs id_name) ≤ max (id_size (lookup ps id_name)) (condition_size c)
condition_gives (at path cs) ps qs e = by (is_id path) refl
  where
    by : (b : Bool) → is_id path ≡ b → id_size (lookup qs id_name) ≤ max (id_size (lookup ps id_name)) (if b then all_asked_size cs else 0)
    by true p = equalities_give path cs ps qs p e
    by false p = omega (arith, ap id_size (equalities_leave path cs ps qs p e))
condition_gives other ps qs e = omega (arith, ap (λ (x : Pairs). id_size (lookup x id_name)) (ok_same e))

conditions_give : (cs : Conditions) (ps qs : Pairs) → with_conditions cs ps ≡ Ok qs
    → id_size (lookup qs id_name) ≤ max (id_size (lookup ps id_name)) (filter_size cs)
conditions_give no_conditions ps qs e = omega (arith, ap (λ (x : Pairs). id_size (lookup x id_name)) (ok_same e))
conditions_give (condition c cs) ps qs e =
    let got = if_ok_value (with_condition c ps) (with_conditions cs) qs e in
    omega (arith, condition_gives c ps got.0 got.1, conditions_give cs got.0 qs got.2)

pub base_size : (cs : Conditions) (base : Pairs) → base_of cs ≡ Ok base → id_size (lookup base id_name) ≤ filter_size cs
base_size cs base e = omega (arith, conditions_give cs no_pairs base e)

-- ---- the equalities stand in the filter as it is spelled

length-document : (ps : Pairs) → length (tree_bytes (document ps)) ≡ length (pairs_bytes ps) + 5
unfolding tree_bytes
length-document ps = frame_of-length (pairs_bytes ps)

-- a path that is `_id` is spelled so
id_spelled : (name : List ℕ) (path : Path) → path_in name ≡ Ok path → is_id path ≡ true → length name ≡ 3
id_spelled name path e p = by (path_fault name (parts_of name)) e
  where
    parted : (parts : Path) → join_with_byte 46 parts ≡ name → is_id parts ≡ true → length name ≡ 3
    parted [] joined q = absurd cc
    parted (one ∷ next ∷ rest) joined q = absurd cc
    parted (one ∷ []) joined q = ap length (sym joined) ∙ ap length ((bytes_eq-Decides one id_name).0 q)

    by : (o : Option PathFault) → or_refusal (fault_or o (parts_of name)) ≡ Ok path → length name ≡ 3
    by (Some f) g = absurd cc
    by None g =
        parted path (subst (λ (parts : Path). join_with_byte 46 parts ≡ name) (ok_same g) (join_with_byte-slice_split 46 name)) p

-- no equality is asked
abbrev AsksNone : Result Condition Refusal → Type 0
AsksNone r = (c : Condition) → r ≡ Ok c → asked_size c ≡ 0

asks_none : (d : Condition) → asked_size d ≡ 0 → AsksNone (Ok d)
asks_none d none c e = ap asked_size (sym (ok_same e)) ∙ none

then_none : {X : Type 0} (r : Result X Refusal) (make : X → Condition) → ((x : X) → asked_size (make x) ≡ 0) → AsksNone (if_ok r (λ (x : X). Ok (make x)))
then_none r make none c e =
    let got = if_ok_value r (λ x. Ok (make x)) c e in
    asks_none (make got.0) (none got.0) c got.2

order_none : (k : Comparison) (t : Tree) → AsksNone (order_operand k t)
order_none k (scalar null) = λ c e. absurd cc
order_none k (scalar min_key) = λ c e. absurd cc
order_none k (scalar max_key) = λ c e. absurd cc
order_none k t = asks_none _ refl

exists_none : (t : Tree) → AsksNone (exists t)
exists_none (scalar (boolean true)) = asks_none _ refl
exists_none (scalar (boolean false)) = asks_none _ refl
exists_none t = λ c e. absurd cc

every_none : (cs : Conditions) → asked_size (every cs) ≡ 0
every_none no_conditions = refl
every_none (condition c cs) = refl

element_none : (t : Tree) → AsksNone (read_element t)
element_none (document ps) = by (has_operators ps)
  where
    by : (b : Bool) → AsksNone (if b then if_ok (read_operators ps) (λ rs. Ok (element rs)) else if_ok (read_filter ps) (λ rs. Ok (element_document rs)))
    by true = then_none (read_operators ps) element (λ rs. refl)
    by false = then_none (read_filter ps) element_document (λ rs. refl)
element_none (array ts) = λ c e. absurd cc
element_none (scalar s) = λ c e. absurd cc

not_none : (t : Tree) → AsksNone (read_not t)
not_none (document ps) = by (has_operators ps)
  where
    by : (b : Bool) → AsksNone (if b then if_ok (read_operators ps) (λ rs. Ok (not_all rs)) else Err refusals.BadValue)
    by true = then_none (read_operators ps) not_all (λ rs. refl)
    by false = λ c e. absurd cc
not_none (array ts) = λ c e. absurd cc
not_none (scalar s) = λ c e. absurd cc

-- what is asked to be equal is the operand
abbrev AsksOf : Tree → Result Condition Refusal → Type 0
AsksOf t r = (c : Condition) → r ≡ Ok c → asked_size c ≤ length (tree_bytes t) + 5

none_of : (t : Tree) (r : Result Condition Refusal) → AsksNone r → AsksOf t r
none_of t r none c e = omega (arith, none c e)

-- an operator is chosen by its name: whichever it is, no more is asked to be equal than its operand
known_asks : (name : List ℕ) (t : Tree) → AsksOf t (read_known (operator_of name) t)
known_asks name t =
    (asks (λ o. read_known o t) (bytes_eq name (codes "$eq")) _ _
    (λ c e. omega (arith, ap asked_size (ok_same e)))
    (asks (λ o. read_known o t) (bytes_eq name (codes "$gt")) _ _
    (none_of t _ (order_none comparisons.Above t))
    (asks (λ o. read_known o t) (bytes_eq name (codes "$gte")) _ _
    (none_of t _ (order_none comparisons.AtLeast t))
    (asks (λ o. read_known o t) (bytes_eq name (codes "$lt")) _ _
    (none_of t _ (order_none comparisons.Below t))
    (asks (λ o. read_known o t) (bytes_eq name (codes "$lte")) _ _
    (none_of t _ (order_none comparisons.AtMost t))
    (asks (λ o. read_known o t) (bytes_eq name (codes "$in")) _ _
    (none_of t _ (then_none (array_in t) (λ (ts : Items). any (equals ts)) (λ ts. refl)))
    (asks (λ o. read_known o t) (bytes_eq name (codes "$exists")) _ _
    (none_of t _ (exists_none t))
    (asks (λ o. read_known o t) (bytes_eq name (codes "$type")) _ _
    (none_of t _ (then_none (all_kinds t) (λ ks. is (of_kinds (map kind_byte ks))) (λ ks. refl)))
    (asks (λ o. read_known o t) (bytes_eq name (codes "$all")) _ _
    (none_of t _ (then_none (array_in t) (λ (ts : Items). every (equals ts)) (λ ts. every_none (equals ts))))
    (asks (λ o. read_known o t) (bytes_eq name (codes "$size")) _ _
    (none_of t _ (then_none (size_in t) (λ n. is (size n)) (λ n. refl)))
    (asks (λ o. read_known o t) (bytes_eq name (codes "$ne")) _ _
    (none_of t _ (asks_none _ refl))
    (asks (λ o. read_known o t) (bytes_eq name (codes "$nin")) _ _
    (none_of t _ (then_none (array_in t) (λ (ts : Items). not_any (equals ts)) (λ ts. refl)))
    (λ c e. absurd cc)))))))))))))
  where
    asks : {X : Type 0} (f : X → Result Condition Refusal) (b : Bool) (x y : X) → AsksOf t (f x) → AsksOf t (f y) → AsksOf t (f (if b then x else y))
    asks f true x y first later = first
    asks f false x y first later = later

named_asks : (name : List ℕ) (t : Tree) → AsksOf t (operation name (read_element t) (read_not t) t)
named_asks name t = by (bytes_eq name (codes "$elemMatch")) (bytes_eq name (codes "$not"))
  where
    by : (a b : Bool) → AsksOf t (if a then read_element t else (if b then read_not t else read_known (operator_of name) t))
    by true b = none_of t _ (element_none t)
    by false true = none_of t _ (not_none t)
    by false false = known_asks name t

operators_size : (ps : Pairs) (cs : Conditions) → read_operators ps ≡ Ok cs → all_asked_size cs ≤ length (pairs_bytes ps) + 3
operators_size no_pairs cs e = omega (arith, ap all_asked_size (ok_same e))
operators_size (pair name t ps) cs e =
    let first = if_ok_value (operation name (read_element t) (read_not t) t)
    (λ (c : Condition). if_ok (read_operators ps) (λ (ds : Conditions). Ok (condition c ds))) cs e in
    let later = if_ok_value (read_operators ps) (λ (ds : Conditions). Ok (condition first.0 ds)) cs first.2 in
    omega (
      arith,
      ap all_asked_size (ok_same later.2),
      named_asks name t first.0 first.1,
      operators_size ps later.0 later.1,
      pairs_size-pair name t ps,
    )

operand_size : (t : Tree) (cs : Conditions) → read_operand t ≡ Ok cs → all_asked_size cs ≤ length (tree_bytes t) + 5
operand_size (document ps) cs e = by (has_operators ps) e
  where
    by : (b : Bool) → (if b then read_operators ps else Ok (just (is (equal (document ps))))) ≡ Ok cs
        → all_asked_size cs ≤ length (tree_bytes (document ps)) + 5
    by true f = omega (arith, operators_size ps cs f, length-document ps)
    by false f = omega (arith, ap all_asked_size (ok_same f))
operand_size (array ts) cs e = omega (arith, ap all_asked_size (ok_same e))
operand_size (scalar s) cs e = omega (arith, ap all_asked_size (ok_same e))

named_size : (name : List ℕ) (t : Tree) (c : Condition) → named_condition name (read_members t) (read_operand t) ≡ Ok c
    → condition_size c ≤ length name + length (tree_bytes t) + 2
named_size name t c e = by (bytes_eq name (codes "$and")) (bytes_eq name (codes "$or")) (bytes_eq name (codes "$nor")) e
  where
    members : (make : Conditions → Condition) → ((cs : Conditions) → condition_size (make cs) ≡ 0)
        → if_ok (read_members t) (λ (cs : Conditions). Ok (make cs)) ≡ Ok c
        → condition_size c ≤ length name + length (tree_bytes t) + 2
    members make none f =
        let got = if_ok_value (read_members t) (λ (cs : Conditions). Ok (make cs)) c f in
        omega (arith, ap condition_size (ok_same got.2), none got.0)

    chosen : (path : Path) (cs : Conditions) (b : Bool) → is_id path ≡ b → path_in name ≡ Ok path → all_asked_size cs ≤ length (tree_bytes t) + 5
        → (if b then all_asked_size cs else 0) ≤ length name + length (tree_bytes t) + 2
    chosen path cs true same f asked = omega (arith, id_spelled name path f same, asked)
    chosen path cs false same f asked = omega arith

    by : (a b d : Bool)
        → (if a then if_ok (read_members t) (λ rs. Ok (all rs)) else (if b then if_ok (read_members t) (λ rs. Ok (any rs))
        else (if d then if_ok (read_members t) (λ rs. Ok (not_any rs))
        else if_ok (path_in name) (λ path. if_ok (read_operand t) (λ rs. Ok (at path rs)))))) ≡ Ok c
        → condition_size c ≤ length name + length (tree_bytes t) + 2
    by true b d f = members all (λ cs. refl) f
    by false true d f = members any (λ cs. refl) f
    by false false true f = members not_any (λ cs. refl) f
    by false false false f =
        let path = if_ok_value (path_in name) (λ (p : Path). if_ok (read_operand t) (λ (cs : Conditions). Ok (at p cs))) c f in
        let asked = if_ok_value (read_operand t) (λ (cs : Conditions). Ok (at path.0 cs)) c path.2 in
        omega (
          arith,
          ap condition_size (ok_same asked.2),
          chosen path.0 asked.0 (is_id path.0) refl path.1 (operand_size t asked.0 asked.1),
        )

pub filter_spelled : (ps : Pairs) (cs : Conditions) → read_filter ps ≡ Ok cs → filter_size cs ≤ length (pairs_bytes ps)
filter_spelled no_pairs cs e = omega (arith, ap filter_size (ok_same e))
filter_spelled (pair name t ps) cs e =
    let first = if_ok_value (named_condition name (read_members t) (read_operand t))
    (λ (c : Condition). if_ok (read_filter ps) (λ (ds : Conditions). Ok (condition c ds))) cs e in
    let later = if_ok_value (read_filter ps) (λ (ds : Conditions). Ok (condition first.0 ds)) cs first.2 in
    omega (
      arith,
      ap filter_size (ok_same later.2),
      named_size name t first.0 first.1,
      filter_spelled ps later.0 later.1,
      pairs_size-pair name t ps,
    )

-- ---- what an update gives

-- what the `_id` of a replacement takes
abbrev pub change_size : Change → ℕ
change_size (replacement new) = id_size (lookup new id_name)
change_size (edits es) = 0

lookup_spelled : (ps : Pairs) → id_size (lookup ps id_name) ≤ length (pairs_bytes ps)
lookup_spelled no_pairs = omega arith
lookup_spelled (pair name t ps) = by (bytes_eq id_name name) refl (lookup_spelled ps)
  where
    by : (b : Bool) → bytes_eq id_name name ≡ b → id_size (lookup ps id_name) ≤ length (pairs_bytes ps)
        → id_size (if b then Some t else lookup ps id_name) ≤ length (pairs_bytes (pair name t ps))
    by true same later = omega (arith, ap length ((bytes_eq-Decides id_name name).0 same), pairs_size-pair name t ps)
    by false same later = omega (arith, later, pairs_size-pair name t ps)

pub change_spelled : (ps : Pairs) (u : Change) → read_update ps ≡ Ok u → change_size u ≤ length (pairs_bytes ps)
change_spelled ps u e = by (has_operators ps) e
  where
    by : (b : Bool) → (if b then if_ok (read_edits_of ps []) (λ (es : List Edit). Ok (edits es)) else Ok (replacement ps)) ≡ Ok u
        → change_size u ≤ length (pairs_bytes ps)
    by true f =
        let got = if_ok_value (read_edits_of ps []) (λ (es : List Edit). Ok (edits es)) u f in
        omega (arith, ap change_size (ok_same got.2))
    by false f = omega (arith, ap change_size (ok_same f), lookup_spelled ps)

module _ (u : Change) (base new : Pairs) (read : IsRead u) (e : apply u 65535 base ≡ Ok new) where
  stored : IsStored 65535 new
  stored = gives_stored u 65535 base new e

  found : lookup new id_name ≡ Some stored.id
  found = ap (λ (x : Pairs). lookup x id_name) stored.id_stands_first

  keyed : key_of new ≡ stored.id
  keyed = ap key_of stored.id_stands_first

  -- where the base has no `_id`, only a replacement gives one
  fresh : (b : Bool) → (if b then if_ok (read_edits_of read.source []) (λ (es : List Edit). Ok (edits es)) else Ok (replacement read.source)) ≡ Ok u
      → lookup base id_name ≡ None → id_size (lookup new id_name) ≤ change_size u
  fresh true r none =
      let es = if_ok_value (read_edits_of read.source []) (λ (es : List Edit). Ok (edits es)) u r in
      let made = if_ok_value (changed u base) (judged 65535) new e in
      let kept = edits_keep_id es.0 base made.0 (operators_avoid read.source [] es.0 tt es.1)
      (ap (λ (v : Change). changed v base) (ok_same es.2) ∙ made.1) in
      let first = ap (λ (x : Pairs). lookup x id_name) (sym (id_is_first 65535 made.0 new made.2)) ∙ lookup-id_first made.0 in
      absurd (let no = sym found ∙ first ∙ kept ∙ none in cc)
  fresh false r none =
      let made = if_ok_value (changed u base) (judged 65535) new e in
      let replaced : in_place_of (lookup base id_name) read.source ≡ Ok made.0 = ap (λ (v : Change). changed v base) (ok_same r) ∙ made.1 in
      let whole : id_first read.source ≡ made.0 = ok_same (ap (λ (o : Option Tree). in_place_of o read.source) (sym none) ∙ replaced) in
      let first = ap (λ (x : Pairs). lookup x id_name) (sym (id_is_first 65535 made.0 new made.2)) ∙ lookup-id_first made.0 in
      let same = first ∙ ap (λ (x : Pairs). lookup x id_name) (sym whole) ∙ lookup-id_first read.source in
      omega (arith, ap id_size same, ap change_size (ok_same r))

  given : (o : Option Tree) → lookup base id_name ≡ o → id_size (lookup new id_name) ≤ max (id_size o) (change_size u)
  given None none = omega (arith, fresh (has_operators read.source) read.reads none)
  given (Some t) same = omega (arith, ap id_size (keeps_id read.source u 65535 base new t read.reads e same))

  pub made_size : length (tree_bytes (key_of new)) + 5 ≤ max (id_size (lookup base id_name)) (change_size u)
  made_size =
      omega (arith, given (lookup base id_name) refl, ap id_size found, ap (λ (t : Tree). length (tree_bytes t)) keyed)
