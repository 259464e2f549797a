-- The refusals of an update that is applied, each of which is one of eight.
use Rattle.std.proofs.Common.{◌≡◌, ℕ, suc, ◌+◌, Bool, true, false, List, [], ◌∷◌, length, Option}
use Rattle.std.proofs.Common.{Some, None, Result, Ok, Err, refl, subst}
use Rattle.std.specs.Prelude.{if◌then◌else◌, ◌==◌, ◌+ℤ◌, ℤ, nat_lt, nat_le}
use Rattle.std.specs.List.{list_any}
use Rattle.bson.specs.Tree.{Tree, scalar, int32 as int32_scalar, int64 as int64_scalar, document}
use Rattle.bson.specs.Tree.{array, Pairs, no_pairs, pair, Items, no_items, item, append_items}
use Rattle.bson.specs.Lawful.{levels, pairs_levels}
use Rattle.bson.specs.Lookup.{lookup}
use Rattle.bson.specs.Edits.{put, items_len, item_at}
use Rattle.bson.specs.Spelling.{frame_of, pairs_bytes}
use Rattle.path.specs.declared.refusal.Refusal.{Refusal}
use Rattle.path.specs.declared.refusal.Refusal.TheVariants as refusals
use Rattle.path.specs.Edits.{if_ok, within, put_item, write_field, write_item, write, write_at}
use Rattle.path.specs.Edits.{set_at, cut_at}
use Rattle.path.specs.Parts.{index_of}
use Rattle.path.specs.Place.{value_at, passes_array}
use Rattle.value_order.specs.Order.{compare}
use Rattle.filter.specs.Condition.{Condition}
use Rattle.filter.specs.Matches.{is_equal}
use Rattle.update_model.specs.Update.{Path, Number, int32, int64, Action, set, unset, increment}
use Rattle.update_model.specs.Update.{at_most, at_least, push, pull, rename, Edit, Update}
use Rattle.update_model.specs.Update.{replacement, edits}
use Rattle.update_model.specs.Stored.{id_name, without, id_first, id_of, id_fault, or_else}
use Rattle.update_model.specs.Stored.{fault_if, limits_fault, name_fault, tree_fault, pairs_fault}
use Rattle.update_model.specs.Stored.{items_fault}
use Rattle.update_model.specs.Stored.{stored_fault, judged}
use Rattle.outcome.specs.Outcome.{fault_or}
use Rattle.update_model.specs.Numbers.{number_in, number_tree, fits_int32, fits_int64, as_int64}
use Rattle.update_model.specs.Numbers.{sum, incremented}
use Rattle.update_model.specs.Bounds.{lowered, raised}
use Rattle.update_model.specs.Arrays.{pushed, pulled, if_there}
use Rattle.update_model.specs.Renames.{moved}
use Rattle.update_model.specs.Replacements.{with_id, in_place_of}
use Rattle.update_model.specs.Operators.{apply_action}
use Rattle.update_model.specs.Applying.{apply_edit, apply_edits, changed}
use Rattle.update_model.specs.Laws.{IsOfApplying, RefusesByName}

err_same : {X : Type 0} {x y : Refusal} → ◌≡◌ {A = Result X Refusal} (Err x) (Err y) → x ≡ y
err_same e = cc

some_same : {x y : Refusal} → ◌≡◌ {A = Option Refusal} (Some x) (Some y) → x ≡ y
some_same e = cc

-- an answer whose refusals are such
record Named {X : Type 0} (r : Result X Refusal) : Type 0 where
  named : (e : Refusal) → r ≡ Err e → IsOfApplying e

is_ok : {X : Type 0} (x : X) → Named (Ok x)
is_ok x = record { named = λ e is. absurd cc }

is_err : {X : Type 0} (f : Refusal) → IsOfApplying f → Named {X = X} (Err f)
is_err {X} f h = record { named = λ e is. subst IsOfApplying (err_same {X = X} is) h }

on_ok : {A B : Type 0} (r : Result A Refusal) (f : A → Result B Refusal) → Named r
    → ((a : A) → Named (f a)) → Named (if_ok r f)
on_ok (Ok a) f h k = k a
on_ok {A} {B}
    (Err x) f h k = record
    { named = λ e is. subst IsOfApplying (err_same {X = B} is) (h.named x refl) }

either : {X : Type 0} (b : Bool) (r s : Result X Refusal) → Named r → Named s
    → Named (if b then r else s)
either true r s h k = h
either false r s h k = k

-- ---- a write

is_within : (most : ℕ) (r : Result Tree Refusal) → Named r → Named (within most r)
is_within most (Ok u) h =
    either (nat_le (levels u) most) (Ok u) (Err refusals.BadValue) (is_ok u)
    (is_err refusals.BadValue tt)
is_within most (Err e) h = h

module _ (made : Option Tree → Result Tree Refusal) (each : (o : Option Tree)
    → Named (made o)) where
  is_field : (goes : Option Tree → Result Tree Refusal) → ((o : Option Tree) → Named (goes o))
      → (name : List ℕ) (ps : Pairs) → Named (write_field goes name ps)
  is_field goes h name ps =
      on_ok (within 99 (goes (lookup ps name))) (λ (u : Tree). Ok (put ps name u))
      (is_within 99 (goes (lookup ps name)) (h (lookup ps name))) (λ u. is_ok (put ps name u))

  is_item : (goes : Option Tree → Result Tree Refusal) → ((o : Option Tree) → Named (goes o))
      → (o : Option ℕ) (ts : Items) → Named (write_item goes o ts)
  is_item goes h None ts = is_err refusals.PathNotViable tt
  is_item goes h (Some i) ts =
      either (nat_lt (items_len ts + 1000) i) (Err refusals.BadValue)
      (if_ok (within 98 (goes (item_at ts i))) (λ (u : Tree). Ok (put_item ts i u)))
      (is_err refusals.BadValue tt)
      (on_ok (within 98 (goes (item_at ts i))) (λ (u : Tree). Ok (put_item ts i u))
      (is_within 98 (goes (item_at ts i)) (h (item_at ts i))) (λ u. is_ok (put_item ts i u)))

  is_write : (parts : Path) (old : Option Tree) → Named (write made parts old)
  is_write [] old = each old
  is_write (name ∷ rest) None =
      on_ok (write_field (write made rest) name no_pairs) (λ (ps : Pairs). Ok (document ps))
      (is_field (write made rest) (is_write rest) name no_pairs) (λ ps. is_ok (document ps))
  is_write (name ∷ rest) (Some (scalar s)) = is_err refusals.PathNotViable tt
  is_write (name ∷ rest) (Some (document ps)) =
      on_ok (write_field (write made rest) name ps) (λ (qs : Pairs). Ok (document qs))
      (is_field (write made rest) (is_write rest) name ps) (λ qs. is_ok (document qs))
  is_write (name ∷ rest) (Some (array ts)) =
      on_ok (write_item (write made rest) (index_of name) ts) (λ (us : Items). Ok (array us))
      (is_item (write made rest) (is_write rest) (index_of name) ts) (λ us. is_ok (array us))

  is_write_at : (path : Path) (ps : Pairs) → Named (write_at made path ps)
  is_write_at [] ps = is_ok ps
  is_write_at (name ∷ rest) ps = is_field (write made rest) (is_write rest) name ps

-- ---- what is made

is_number : (t : Tree) → Named (number_in t)
is_number (scalar (int32_scalar z)) = is_ok (int32 z)
is_number (scalar (int64_scalar z)) = is_ok (int64 z)
is_number t = is_err refusals.TypeMismatch tt

is_int64 : (z : ℤ) → Named (as_int64 z)
is_int64 z =
    either (fits_int64 z) (Ok (int64 z)) (Err refusals.BadValue) (is_ok (int64 z))
    (is_err refusals.BadValue tt)

is_sum : (a b : Number) → Named (sum a b)
is_sum (int32 a) (int32 b) =
    either (fits_int32 (a +ℤ b)) (Ok (int32 (a +ℤ b))) (Ok (int64 (a +ℤ b)))
    (is_ok (int32 (a +ℤ b))) (is_ok (int64 (a +ℤ b)))
is_sum (int32 a) (int64 b) = is_int64 (a +ℤ b)
is_sum (int64 a) (int32 b) = is_int64 (a +ℤ b)
is_sum (int64 a) (int64 b) = is_int64 (a +ℤ b)

is_incremented : (by : Number) (o : Option Tree) → Named (incremented by o)
is_incremented by None = is_ok (number_tree by)
is_incremented by (Some t) =
    on_ok (number_in t) (λ (n : Number). if_ok (sum n by) (λ (m : Number). Ok (number_tree m)))
    (is_number t)
    (λ n. on_ok (sum n by) (λ (m : Number). Ok (number_tree m)) (is_sum n by)
    (λ m. is_ok (number_tree m)))

is_lowered : (t : Tree) (o : Option Tree) → Named (lowered t o)
is_lowered t None = is_ok t
is_lowered t (Some u) = is_ok _

is_raised : (t : Tree) (o : Option Tree) → Named (raised t o)
is_raised t None = is_ok t
is_raised t (Some u) = is_ok _

is_pushed : (new : Items) (o : Option Tree) → Named (pushed new o)
is_pushed new None = is_within 99 (Ok (array new)) (is_ok (array new))
is_pushed new (Some (array ts)) =
    is_within 99 (Ok (array (append_items ts new))) (is_ok (array (append_items ts new)))
is_pushed new (Some (document ps)) = is_err refusals.BadValue tt
is_pushed new (Some (scalar s)) = is_err refusals.BadValue tt

is_pulled : (c : Condition) (o : Option Tree) → Named (pulled c o)
is_pulled c (Some (array ts)) = is_ok _
is_pulled c (Some (document ps)) = is_err refusals.BadValue tt
is_pulled c (Some (scalar s)) = is_err refusals.BadValue tt
is_pulled c None = is_err refusals.BadValue tt

always : (t : Tree) (o : Option Tree) → Named (Ok t)
always t o = is_ok t

is_pull : (c : Condition) (path : Path) (ps : Pairs) (o : Option Tree)
    → Named (if_there o (write_at (pulled c) path ps) ps)
is_pull c path ps None = is_ok ps
is_pull c path ps (Some t) = is_write_at (pulled c) (is_pulled c) path ps

is_moved : (old new : Path) (ps : Pairs) (o : Option Tree) → Named (moved old new o ps)
is_moved old new ps None = is_ok ps
is_moved old new ps (Some t) =
    either (passes_array new (document ps)) (Err refusals.BadValue)
    (set_at new t (cut_at new (cut_at old ps))) (is_err refusals.BadValue tt)
    (is_write_at (λ (o : Option Tree). Ok t) (always t) new (cut_at new (cut_at old ps)))

is_action : (path : Path) (a : Action) (ps : Pairs) → Named (apply_action path a ps)
is_action path (set t) ps = is_write_at (λ (o : Option Tree). Ok t) (always t) path ps
is_action path unset ps = is_ok (cut_at path ps)
is_action path (increment n) ps = is_write_at (incremented n) (is_incremented n) path ps
is_action path (at_most t) ps = is_write_at (lowered t) (is_lowered t) path ps
is_action path (at_least t) ps = is_write_at (raised t) (is_raised t) path ps
is_action path (push ts) ps = is_write_at (pushed ts) (is_pushed ts) path ps
is_action path (pull c) ps = is_pull c path ps (value_at path (document ps))
is_action path (rename new) ps =
    either (passes_array path (document ps)) (Err refusals.BadValue)
    (moved path new (value_at path (document ps)) ps) (is_err refusals.BadValue tt)
    (is_moved path new ps (value_at path (document ps)))

is_edits : (es : List Edit) (ps : Pairs) → Named (apply_edits es ps)
is_edits [] ps = is_ok ps
is_edits (e ∷ es) ps =
    on_ok (apply_edit e ps) (apply_edits es) (is_action e.path e.action ps) (is_edits es)

is_with_id : (old : Tree) (o : Option Tree) (new : Pairs) → Named (with_id old o new)
is_with_id old None new = is_ok _
is_with_id old (Some id) new =
    either (is_equal (compare old id)) (Ok (pair id_name old (without new id_name)))
    (Err refusals.ImmutableField) (is_ok _) (is_err refusals.ImmutableField tt)

is_replaced : (o : Option Tree) (new : Pairs) → Named (in_place_of o new)
is_replaced None new = is_ok _
is_replaced (Some old) new = is_with_id old (lookup new id_name) new

is_changed : (u : Update) (ps : Pairs) → Named (changed u ps)
is_changed (edits es) ps = is_edits es ps
is_changed (replacement new) ps = is_replaced (lookup ps id_name) new

-- ---- the judgement

record Fault (o : Option Refusal) : Type 0 where
  named : (e : Refusal) → o ≡ Some e → IsOfApplying e

no_fault : Fault None
no_fault = record { named = λ e is. absurd cc }

a_fault : (f : Refusal) → IsOfApplying f → Fault (Some f)
a_fault f h = record { named = λ e is. subst IsOfApplying (some_same is) h }

first_fault : (a b : Option Refusal) → Fault a → Fault b → Fault (or_else a b)
first_fault None b h k = k
first_fault (Some f) b h k = h

fault_by : (b : Bool) (f : Refusal) → IsOfApplying f → Fault (fault_if b f)
fault_by true f h = a_fault f h
fault_by false f h = no_fault

of_name : (name : List ℕ) → Fault (name_fault name)
of_name [] = a_fault refusals.EmptyFieldName tt
of_name (b ∷ bs) = by (b == 36) (list_any (λ x. x == 46) (b ∷ bs))
  where
    by : (p q : Bool)
        → Fault (if p then Some refusals.DollarPrefixedFieldName else if q
        then Some refusals.DottedFieldName else None)
    by true q = a_fault refusals.DollarPrefixedFieldName tt
    by false true = a_fault refusals.DottedFieldName tt
    by false false = no_fault

mutual
  of_tree : (t : Tree) → Fault (tree_fault t)
  of_tree (scalar s) = no_fault
  of_tree (document ps) = of_pairs ps
  of_tree (array ts) = of_items ts

  of_pairs : (ps : Pairs) → Fault (pairs_fault ps)
  of_pairs no_pairs = no_fault
  of_pairs (pair name t ps) =
      first_fault (name_fault name) (or_else (tree_fault t) (pairs_fault ps)) (of_name name)
      (first_fault (tree_fault t) (pairs_fault ps) (of_tree t) (of_pairs ps))

  of_items : (ts : Items) → Fault (items_fault ts)
  of_items no_items = no_fault
  of_items (item t ts) = first_fault (tree_fault t) (items_fault ts) (of_tree t) (of_items ts)

of_id : (o : Option Tree) → Fault (id_fault o)
of_id None = a_fault refusals.BadValue tt
of_id (Some id) = no_fault

of_stored : (limit : ℕ) (ps : Pairs) → Fault (stored_fault limit ps)
unfolding stored_fault
of_stored limit ps =
    let large = fault_if
    (nat_lt limit (length (frame_of (pairs_bytes ps)))) refusals.BSONObjectTooLarge in
    let deep = fault_if (nat_lt 90 (suc (pairs_levels ps))) refusals.BadValue in
    first_fault (limits_fault limit ps) (or_else (pairs_fault ps) (id_fault (id_of ps)))
    (first_fault large deep (fault_by _ refusals.BSONObjectTooLarge tt)
    (fault_by _ refusals.BadValue tt))
    (first_fault (pairs_fault ps) (id_fault (id_of ps)) (of_pairs ps) (of_id (id_of ps)))

unless_named : (o : Option Refusal) (ps : Pairs) → Fault o → Named (fault_or o ps)
unless_named None ps h = is_ok ps
unless_named (Some f) ps h = is_err f (h.named f refl)

is_judged : (limit : ℕ) (ps : Pairs) → Named (judged limit ps)
is_judged limit ps =
    unless_named (stored_fault limit (id_first ps)) (id_first ps) (of_stored limit (id_first ps))

pub refuses_by_name : RefusesByName
refuses_by_name u limit ps e is =
    (on_ok (changed u ps) (judged limit) (is_changed u ps) (is_judged limit)).named e is
