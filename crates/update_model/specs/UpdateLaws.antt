-- The laws of updates, proved.
use Rattle.std.proofs.Common.{◌≡◌, ℕ, suc, Bool, true, false, List, [], ◌∷◌, ◌++◌, length}
use Rattle.std.proofs.Common.{Option, Some, None, Result, Ok, Err, refl, sym, ap, subst, ◌∙◌, inl}
use Rattle.std.specs.Prelude.{if◌then◌else◌, ◌||◌, nat_lt}
use Rattle.std.specs.Option.{option_and_then}
use Rattle.std.specs.List.{Contains}
use Rattle.std.specs.Str.{bytes_eq}
use Rattle.std.proofs.lemmas.Slice.Eq.{bytes_eq-Decides}
use Rattle.std.proofs.lemmas.Bool.{ltb-false}
use Rattle.bson.specs.Tree.{Tree, scalar, text, document, array, Pairs, no_pairs, pair, Items}
use Rattle.bson.specs.Lawful.{pairs_levels}
use Rattle.bson.specs.Lookup.{lookup}
use Rattle.bson.specs.Spelling.{frame_of, pairs_bytes}
use Rattle.path.specs.declared.refusal.Refusal.{Refusal}
use Rattle.path.specs.declared.refusal.Refusal.TheVariants as refusals
use Rattle.path.specs.Edits.{if_ok, write_at, set_at}
use Rattle.path.specs.Edits.{cut_at}
use Rattle.path.specs.EditLaws.{if_ok_value}
use Rattle.path.specs.Parts.{is_front, meets}
use Rattle.path.specs.Place.{value_at, passes_array}
use Rattle.path.specs.PlaceLaws.{HasNames, Kept, write_stands, write_keeps_others, cut_keeps_others}
use Rattle.path.specs.PlaceLaws.{cut_absent}
use Rattle.path.specs.Reach.{reach}
use Rattle.value_order.specs.Order.{compare}
use Rattle.filter.specs.Condition.{Condition}
use Rattle.filter.specs.Elements.{read_element_condition}
use Rattle.filter.specs.Matches.{is_equal}
use Rattle.filter.specs.IdPaths.{begins_with_id}
use Rattle.filter.specs.Parsing.{path_in, has_operators}
use Rattle.update_model.specs.Update.{Path, Number, Action, set, unset, increment, at_most}
use Rattle.update_model.specs.Update.{at_least, push, pull, rename, Edit, Update, replacement}
use Rattle.update_model.specs.Update.{edits, paths_with}
use Rattle.update_model.specs.Update.{meets_any}
use Rattle.update_model.specs.Stored.{id_name, without, first_pair, id_first, id_of, id_fault}
use Rattle.update_model.specs.Stored.{no_array, or_else, fault_if, limits_fault, pairs_fault}
use Rattle.update_model.specs.Stored.{stored_fault, judged}
use Rattle.outcome.specs.Outcome.{fault_or}
use Rattle.update_model.specs.Numbers.{number_in}
use Rattle.update_model.specs.Arrays.{items_to_push, if_there, pulled}
use Rattle.update_model.specs.Renames.{moved}
use Rattle.update_model.specs.Replacements.{with_id, in_place_of, replace}
use Rattle.update_model.specs.Operators.{operator_of, no_id, editable_path, new_path, read_action}
use Rattle.update_model.specs.Operators.{apply_action}
use Rattle.update_model.specs.Parsing.{conflicts, without_conflict, read_edit, read_edits}
use Rattle.update_model.specs.Parsing.{known_operator, operands_in, read_operator, read_operators}
use Rattle.update_model.specs.Applying.{apply_edits, changed}
use Rattle.update_model.specs.Laws.{KeepsId, MeetsNothing, ChangesNothing, IsPath, ArePaths}
use Rattle.update_model.specs.Laws.{SetStands, KeepsOthers, IsStored, GivesStored}
use Rattle.update_model.specs.declared.operators.Operator.{Operator}
use Rattle.update_model.specs.declared.operators.Operator.TheVariants as operators
use Rattle.update_model.specs.IdEditLaws.{ok_same, or_none, ActionAvoids, EditAvoids, AllAvoid}
use Rattle.update_model.specs.IdEditLaws.{edits_keep_id}

-- ---- the edits that reading gives

editable : (name : List ℕ) (path : Path) → editable_path name ≡ Ok path
    → begins_with_id path ≡ false
editable name path e = by (begins_with_id got.0) refl got.2
  where
    got : (a : Path) × (path_in name ≡ Ok a) × (no_id a ≡ Ok path)
    got = if_ok_value (path_in name) no_id path e

    by : (b : Bool) → begins_with_id got.0 ≡ b
        → (if b then Err refusals.ImmutableField else Ok got.0) ≡ Ok path
        → begins_with_id path ≡ false
    by true p e = absurd cc
    by false p e = let same : got.0 ≡ path = ok_same e in ap begins_with_id (sym same) ∙ p

new_avoids : (t : Tree) (path : Path) → new_path t ≡ Ok path → begins_with_id path ≡ false
new_avoids (scalar (text name)) path e = editable name path e
new_avoids t path e = absurd cc

action_avoids : (operator : Operator) (t : Tree) (a : Action) → read_action operator t ≡ Ok a
    → ActionAvoids a
action_avoids operators.Set t a e = subst ActionAvoids (ok_same e) tt
action_avoids operators.Unset t a e = subst ActionAvoids (ok_same e) tt
action_avoids operators.Increment t a e = let got =
    if_ok_value (number_in t) (λ (n : Number). Ok (increment n)) a e in
    subst ActionAvoids (ok_same got.2) tt
action_avoids operators.Least t a e = subst ActionAvoids (ok_same e) tt
action_avoids operators.Greatest t a e = subst ActionAvoids (ok_same e) tt
action_avoids operators.Push t a e = let got =
    if_ok_value (items_to_push t) (λ (ts : Items). Ok (push ts)) a e in
    subst ActionAvoids (ok_same got.2) tt
action_avoids operators.Pull t a e = let got =
    if_ok_value (read_element_condition t) (λ (c : Condition). Ok (pull c)) a e in
    subst ActionAvoids (ok_same got.2) tt
action_avoids operators.Rename t a e =
    let got = if_ok_value (new_path t) (λ (p : Path). Ok (rename p)) a e in
    subst ActionAvoids (ok_same got.2) (new_avoids t got.0 got.1)

AllAvoid-push : (es : List Edit) (e : Edit) → AllAvoid es → EditAvoids e → AllAvoid (es ++ e ∷ [])
AllAvoid-push [] e h k = (k, tt)
AllAvoid-push (d ∷ es) e h k = (h.0, AllAvoid-push es e h.1 k)

edit_of : Path → Action → Edit
edit_of where_to does = record { path = where_to; action = does }

read_avoids : (operator : Operator) (name : List ℕ) (t : Tree) (earlier es : List Edit)
    → AllAvoid earlier → read_edit operator name t earlier ≡ Ok es → AllAvoid es
unfolding edit_of
read_avoids operator name t earlier es h e =
    let first = if_ok_value (editable_path name)
    (λ (p : Path). if_ok (read_action operator t)
    (λ (a : Action). without_conflict earlier (edit_of p a))) es e in
    let second =
    if_ok_value (read_action operator t)
    (λ (a : Action). without_conflict earlier (edit_of first.0 a)) es first.2 in
    by first.0 second.0 (editable name first.0 first.1)
    (action_avoids operator t second.0 second.1)
    (conflicts earlier (edit_of first.0 second.0)) second.2
  where
    by : (p : Path) (a : Action) → begins_with_id p ≡ false → ActionAvoids a → (c : Bool)
        → (if c then Err refusals.ConflictingUpdateOperators else Ok (earlier ++ edit_of p a ∷ []))
        ≡ Ok es → AllAvoid es
    by p a b k true e = absurd cc
    by p a b k false e =
        subst AllAvoid (ok_same e)
        (AllAvoid-push earlier (edit_of p a) h (record { path = b; action = k }))

edits_avoid : (operator : Operator) (ps : Pairs) (earlier es : List Edit) → AllAvoid earlier
    → read_edits operator ps earlier ≡ Ok es → AllAvoid es
edits_avoid operator no_pairs earlier es h e = subst AllAvoid (ok_same e) h
edits_avoid operator (pair name t ps) earlier es h e =
    let got = if_ok_value (read_edit operator name t earlier) (read_edits operator ps) es e in
    edits_avoid operator ps got.0 es (read_avoids operator name t earlier got.0 h got.1) got.2

pub operators_avoid : (ps : Pairs) (earlier es : List Edit) → AllAvoid earlier
    → read_operators ps earlier ≡ Ok es → AllAvoid es
operators_avoid no_pairs earlier es h e = subst AllAvoid (ok_same e) h
operators_avoid (pair name t ps) earlier es h e =
    let got = if_ok_value (read_operator name t earlier) (read_operators ps) es e in
    let known = if_ok_value (known_operator (operator_of name))
    (λ (o : Operator). if_ok (operands_in t) (λ (qs : Pairs). read_edits o qs earlier)) got.0 got.1
    in
    let operands =
    if_ok_value (operands_in t) (λ (qs : Pairs). read_edits known.0 qs earlier) got.0 known.2 in
    operators_avoid ps got.0 es (edits_avoid known.0 operands.0 earlier got.0 h operands.2) got.2

-- ---- the judgement

record Judged (limit : ℕ) (ps qs : Pairs) : Type 0 where
  fault : stored_fault limit (id_first ps) ≡ None
  same : id_first ps ≡ qs

judged_so : (limit : ℕ) (ps qs : Pairs) → judged limit ps ≡ Ok qs → Judged limit ps qs
judged_so limit ps qs e = by (stored_fault limit (id_first ps)) refl e
  where
    by : (o : Option Refusal) → stored_fault limit (id_first ps) ≡ o
        → fault_or o (id_first ps) ≡ Ok qs → Judged limit ps qs
    by None p e = record { fault = p; same = ok_same e }
    by (Some r) p e = absurd cc

lookup-first : (t : Tree) (ps : Pairs) → lookup (pair id_name t ps) id_name ≡ Some t
lookup-first t ps =
    ap (λ (b : Bool). if b then Some t else lookup ps id_name)
    ((bytes_eq-Decides id_name id_name).1 refl)

id_first-lookup : (ps : Pairs) (t : Tree) → lookup ps id_name ≡ Some t
    → lookup (id_first ps) id_name ≡ Some t
id_first-lookup ps t e =
    ap (λ (o : Option Tree). lookup (first_pair id_name o (without ps id_name)) id_name) e
    ∙ lookup-first t (without ps id_name)

replaced_keeps : (new old qs : Pairs) (t : Tree) → lookup old id_name ≡ Some t
    → replace new old ≡ Ok qs → lookup qs id_name ≡ Some t
replaced_keeps new old qs t at e =
    by (lookup new id_name) (sym (ap (λ (o : Option Tree). in_place_of o new) at) ∙ e)
  where
    kept : pair id_name t (without new id_name) ≡ qs → lookup qs id_name ≡ Some t
    kept same = ap (λ (x : Pairs). lookup x id_name) (sym same)
        ∙ lookup-first t (without new id_name)

    equal : (b : Bool)
        → (if b then Ok (pair id_name t (without new id_name)) else Err refusals.ImmutableField)
        ≡ Ok qs → lookup qs id_name ≡ Some t
    equal true e = kept (ok_same e)
    equal false e = absurd cc

    by : (o : Option Tree) → with_id t o new ≡ Ok qs → lookup qs id_name ≡ Some t
    by None e = kept (ok_same e)
    by (Some id) e = equal (is_equal (compare t id)) e

replacement_or_edits : (source : Pairs) (u : Update) (p : Bool)
    → (if p then if_ok (read_operators source []) (λ (es : List Edit). Ok (edits es))
    else Ok (replacement source)) ≡ Ok u
    → (ps qs : Pairs) (t : Tree) → lookup ps id_name ≡ Some t → changed u ps ≡ Ok qs
    → lookup qs id_name ≡ Some t
replacement_or_edits source u false r ps qs t at e =
    replaced_keeps source ps qs t at (ap (λ (v : Update). changed v ps) (ok_same r) ∙ e)
replacement_or_edits source u true r ps qs t at e =
    let got = if_ok_value (read_operators source []) (λ (es : List Edit). Ok (edits es)) u r in
    edits_keep_id got.0 ps qs (operators_avoid source [] got.0 tt got.1)
    (ap (λ (v : Update). changed v ps) (ok_same got.2) ∙ e) ∙ at

pub keeps_id : KeepsId
keeps_id source u limit ps qs t r e at =
    let got = if_ok_value (changed u ps) (judged limit) qs e in
    let j = judged_so limit got.0 qs got.2 in
    ap (λ (x : Pairs). lookup x id_name) (sym j.same)
    ∙ id_first-lookup got.0 t
    (replacement_or_edits source u (has_operators source) r ps got.0 t at got.1)

-- ---- edits that meet nothing

meets_nothing : (path : Path) (a : Action) (ps : Pairs) → MeetsNothing path a ps
    → apply_action path a ps ≡ Ok ps
meets_nothing path (set t) ps h = absurd h
meets_nothing path unset ps h = ap (λ (x : Pairs). okay x) (cut_absent path ps h)
  where
    okay : Pairs → Result Pairs Refusal
    okay x = Ok x
meets_nothing path (increment n) ps h = absurd h
meets_nothing path (at_most t) ps h = absurd h
meets_nothing path (at_least t) ps h = absurd h
meets_nothing path (push ts) ps h = absurd h
meets_nothing path (pull c) ps h =
    ap (λ (o : Option Tree). if_there o (write_at (pulled c) path ps) ps) h
meets_nothing path (rename new) ps h =
    (λ i. if h.1 i then Err refusals.BadValue else moved path new (h.0 i) ps)

pub changes_nothing : ChangesNothing
changes_nothing [] ps h = refl
changes_nothing (e ∷ es) ps h =
    ap (λ (r : Result Pairs Refusal). if_ok r (apply_edits es))
    (meets_nothing e.path e.action ps h.0) ∙ changes_nothing es ps h.1

-- ---- elsewhere

pub set_stands : SetStands
set_stands [] t ps qs h e = absurd h
set_stands (name ∷ rest) t ps qs h e =
    let s = write_stands (λ (old : Option Tree). Ok t) name rest ps qs e in
    let same : t ≡ s.value = ok_same s.was_made in (
      s.stands ∙ ap (λ (v : Tree). some v) (sym same),
      subst (λ (v : Tree). Contains (reach (name ∷ rest) (document qs)) (some v))
          (sym same) s.reached,
    )
  where
    some : Tree → Option Tree
    some v = Some v

meets-sym : (a b : Path) → meets a b ≡ false → meets b a ≡ false
meets-sym a b m = let p = or_none (is_front a b) (is_front b a) m in λ i. p.1 i || p.0 i

HasNames-path : (path : Path) → IsPath path → HasNames path
HasNames-path [] h = absurd h
HasNames-path (name ∷ rest) h = h

kept-same : (o : Option Tree) → Kept o o
kept-same None = inl refl
kept-same (Some t) = refl

write_leaves : (made : Option Tree → Result Tree Refusal) (path other : Path) (ps qs : Pairs)
    → IsPath path → IsPath other → meets other path ≡ false → write_at made path ps ≡ Ok qs
    → Kept (value_at other (document ps)) (value_at other (document qs))
write_leaves made [] other ps qs h k m e = absurd h
write_leaves made (name ∷ rest) other ps qs h k m e =
    write_keeps_others made name rest other ps qs h (HasNames-path other k)
    (meets-sym other (name ∷ rest) m) e

cut_leaves : (path other : Path) (ps : Pairs) → IsPath path → IsPath other
    → meets other path ≡ false
    → value_at other (document (cut_at path ps)) ≡ value_at other (document ps)
cut_leaves [] other ps h k m = absurd h
cut_leaves (name ∷ rest) other ps h k m =
    cut_keeps_others name rest other ps h (HasNames-path other k) (meets-sym other (name ∷ rest) m)

unchanged : (other : Path) (ps qs : Pairs)
    → value_at other (document qs) ≡ value_at other (document ps)
    → Kept (value_at other (document ps)) (value_at other (document qs))
unchanged other ps qs e =
    subst (Kept (value_at other (document ps))) (sym e) (kept-same (value_at other (document ps)))

pull_leaves : (c : Condition) (path other : Path) (ps qs : Pairs) (o : Option Tree) → IsPath path
    → IsPath other → meets other path ≡ false → if_there o (write_at (pulled c) path ps) ps ≡ Ok qs
    → Kept (value_at other (document ps)) (value_at other (document qs))
pull_leaves c path other ps qs None h k m e =
    unchanged other ps qs (ap (λ (x : Pairs). value_at other (document x)) (sym (ok_same e)))
pull_leaves c path other ps qs (Some t) h k m e = write_leaves (pulled c) path other ps qs h k m e

move_leaves : (old new other : Path) (ps qs : Pairs) (o : Option Tree) → IsPath old → IsPath new
    → IsPath other → meets other old ≡ false → meets other new ≡ false → moved old new o ps ≡ Ok qs
    → Kept (value_at other (document ps)) (value_at other (document qs))
move_leaves old new other ps qs None h j k m n e =
    unchanged other ps qs (ap (λ (x : Pairs). value_at other (document x)) (sym (ok_same e)))
move_leaves old new other ps qs (Some t) h j k m n e = by (passes_array new (document ps)) e
  where
    by : (p : Bool)
        → (if p then Err refusals.BadValue else set_at new t (cut_at new (cut_at old ps))) ≡ Ok qs
        → Kept (value_at other (document ps)) (value_at other (document qs))
    by true e = absurd cc
    by false e =
        subst (λ (o : Option Tree). Kept o (value_at other (document qs)))
        (cut_leaves new other (cut_at old ps) j k n ∙ cut_leaves old other ps h k m)
        (write_leaves (λ (old : Option Tree). Ok t) new other
        (cut_at new (cut_at old ps)) qs j k n e)

rename_leaves : (old new other : Path) (ps qs : Pairs) (p : Bool) → IsPath old → IsPath new
    → IsPath other → meets other old ≡ false → meets other new ≡ false
    → (if p then Err refusals.BadValue else moved old new (value_at old (document ps)) ps) ≡ Ok qs
    → Kept (value_at other (document ps)) (value_at other (document qs))
rename_leaves old new other ps qs true h j k m n e = absurd cc
rename_leaves old new other ps qs false h j k m n e =
    move_leaves old new other ps qs (value_at old (document ps)) h j k m n e

one_path : (other path : Path) → meets_any other (path ∷ []) ≡ false → meets other path ≡ false
one_path other path m = (or_none (meets other path) false m).0

action_leaves : (path : Path) (a : Action) (other : Path) (ps qs : Pairs)
    → ArePaths (paths_with path a) → IsPath other → meets_any other (paths_with path a) ≡ false
    → apply_action path a ps ≡ Ok qs
    → Kept (value_at other (document ps)) (value_at other (document qs))
action_leaves path (set t) other ps qs h k m e =
    write_leaves _ path other ps qs h.0 k (one_path other path m) e
action_leaves path unset other ps qs h k m e =
    unchanged other ps qs (ap (λ (x : Pairs). value_at other (document x)) (sym (ok_same e))
    ∙ cut_leaves path other ps h.0 k (one_path other path m))
action_leaves path (increment n) other ps qs h k m e =
    write_leaves _ path other ps qs h.0 k (one_path other path m) e
action_leaves path (at_most t) other ps qs h k m e =
    write_leaves _ path other ps qs h.0 k (one_path other path m) e
action_leaves path (at_least t) other ps qs h k m e =
    write_leaves _ path other ps qs h.0 k (one_path other path m) e
action_leaves path (push ts) other ps qs h k m e =
    write_leaves _ path other ps qs h.0 k (one_path other path m) e
action_leaves path (pull c) other ps qs h k m e =
    pull_leaves c path other ps qs (value_at path (document ps)) h.0 k (one_path other path m) e
action_leaves path (rename new) other ps qs h k m e =
    let both = or_none (meets other path) (meets_any other (new ∷ [])) m in
    rename_leaves path new other ps qs (passes_array path (document ps)) h.0 h.1.0 k both.0
    (one_path other new both.1) e

pub keeps_others : KeepsOthers
keeps_others e other ps qs h k m made = action_leaves e.path e.action other ps qs h k m made

-- ---- what comes out

or_else-none : (a b : Option Refusal) → or_else a b ≡ None → (a ≡ None) × (b ≡ None)
or_else-none None b e = (refl, e)
or_else-none (Some r) b e = absurd cc

fault_if-none : (b : Bool) (r : Refusal) → fault_if b r ≡ None → b ≡ false
fault_if-none true r e = absurd cc
fault_if-none false r e = refl

Lacks-lookup : (ps : Pairs) (name : List ℕ) → lookup (without ps name) name ≡ None
Lacks-lookup no_pairs name = refl
Lacks-lookup (pair other t ps) name = by (bytes_eq name other) refl (Lacks-lookup ps name)
  where
    by : (b : Bool) → bytes_eq name other ≡ b → lookup (without ps name) name ≡ None
        → lookup (if b then without ps name else pair other t (without ps name)) name ≡ None
    by true e later = later
    by false e later =
        ap (λ (b : Bool). if b then Some t else lookup (without ps name) name) e ∙ later

record IdFirst (ps : Pairs) : Type 0 where
  id : Tree
  no_list : no_array id ≡ Some id
  first : id_first ps ≡ pair id_name id (without ps id_name)

not_array : (t : Tree) → id_fault (no_array t) ≡ None → no_array t ≡ Some t
not_array (scalar s) e = refl
not_array (document ps) e = refl
not_array (array ts) e = absurd cc

first_of : (ps : Pairs) → id_fault (id_of (id_first ps)) ≡ None → IdFirst ps
first_of ps e = by (lookup ps id_name) refl
  where
    by : (o : Option Tree) → lookup ps id_name ≡ o → IdFirst ps
    by None p =
        let none : lookup (id_first ps) id_name ≡ None =
        ap (λ (o : Option Tree). lookup (first_pair id_name o (without ps id_name)) id_name) p
        ∙ Lacks-lookup ps id_name in
        absurd (let no =
        sym (ap (λ (o : Option Tree). id_fault (option_and_then no_array o)) none) ∙ e in cc)
    by (Some t) p =
        let there = id_first-lookup ps t p in
        record {
          id = t;
          no_list = not_array t
              (sym (ap (λ (o : Option Tree). id_fault (option_and_then no_array o)) there) ∙ e);
          first = ap (λ (o : Option Tree). first_pair id_name o (without ps id_name)) p;
        }

pub gives_stored : GivesStored
unfolding stored_fault
gives_stored u limit ps qs e =
    let got = if_ok_value (changed u ps) (judged limit) qs e in
    let j = judged_so limit got.0 qs got.2 in
    let all = or_else-none (limits_fault limit (id_first got.0))
    (or_else (pairs_fault (id_first got.0)) (id_fault (id_of (id_first got.0)))) j.fault in
    let limits =
    or_else-none
    (fault_if (nat_lt limit (length (frame_of (pairs_bytes (id_first got.0)))))
    refusals.BSONObjectTooLarge)
    (fault_if (nat_lt 90 (suc (pairs_levels (id_first got.0)))) refusals.BadValue) all.0 in
    let others =
    or_else-none (pairs_fault (id_first got.0)) (id_fault (id_of (id_first got.0))) all.1 in
    let first = first_of got.0 others.1 in
    subst (IsStored limit) j.same (record {
      size = ltb-false limit (length (frame_of (pairs_bytes (id_first got.0))))
          (fault_if-none _ refusals.BSONObjectTooLarge limits.0);
      levels = ltb-false 90 (suc (pairs_levels (id_first got.0)))
          (fault_if-none _ refusals.BadValue limits.1);
      names = others.0;
      id = first.id;
      no_list = first.no_list;
      rest = without got.0 id_name;
      id_stands_first = first.first;
    })
