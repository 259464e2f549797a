-- What an update makes of a document is one.
use Rattle.std.proofs.Common.{◌≡◌, ◌≢◌, ℕ, ℤ, pos, negsuc, ◌+ℤ◌, Bool, true, false, List, [], ◌∷◌, Option, Some, None, Ok, Err, refl, arith, FitsSigned}
use Rattle.std.specs.Prelude.{if◌then◌else◌}
use Rattle.std.specs.Int.{w32, w64}
use Rattle.std.specs.Str.{bytes_eq}
use Rattle.std.proofs.lemmas.Bool.Decides.{nat_tests}
use Rattle.std.proofs.lemmas.Slice.Eq.{bytes_eq-Decides}
use borrow.Author.Differences.{fits_in, fits_out, sum_is_lem}
use Rattle.bson.specs.Lawful.{IsItems, IsName, IsPairs, IsTree, Lacks}
use Rattle.bson.specs.Lookup.{lookup}
use Rattle.bson.specs.Tree.{Tree, scalar, int32 as int32_scalar, int64 as int64_scalar, document, array, Pairs, no_pairs, pair, Items, no_items, item}
use Rattle.bson.specs.Tree.{append_items}
use Rattle.filter.specs.Condition.{Condition}
use Rattle.filter.specs.Elements.{element_matches}
use Rattle.filter.specs.Matches.{is_equal}
use Rattle.path.specs.declared.refusal.Refusal.{Refusal}
use Rattle.path.specs.declared.refusal.Refusal.TheVariants as refusals
use Rattle.path.specs.Edits.{cut_at, set_at, write_at}
use Rattle.path.specs.Place.{passes_array, value_at}
use Rattle.outcome.specs.Outcome.{fault_or}
use Rattle.value_order.specs.Order.{compare}
use Rattle.update_model.specs.Applying.{apply, apply_edit, apply_edits, changed}
use Rattle.update_model.specs.Arrays.{if_there, items_without, pull_at, pulled, pushed}
use Rattle.update_model.specs.Bounds.{is_below, lowered, raised}
use Rattle.update_model.specs.Numbers.{as_int64, fits_int32, fits_int64, incremented, number_in, number_tree, sum}
use Rattle.update_model.specs.Operators.{apply_action}
use Rattle.update_model.specs.Renames.{moved, rename_at}
use Rattle.update_model.specs.Replacements.{in_place_of, replace, with_id}
use Rattle.update_model.specs.Stored.{first_pair, id_first, id_name, judged, stored_fault, without}
use Rattle.update_model.specs.Update.{Action, at_least, at_most, Edit, edits, increment, int32, int64, Number, Path, pull, push, rename, replacement, set}
use Rattle.update_model.specs.Update.{unset, Update as Change}
use Rattle.bulk_writes.proofs.Values.{AreNames, cut_lawful, field_there, given, IfGiven, IfThere, set_given, value_there, written_at}

-- ---- lists and numbers

items_joined : (ts us : Items) → IsItems ts → IsItems us → IsItems (append_items ts us)
items_joined no_items us h k = k
items_joined (item t ts) us h k = (h.0, items_joined ts us h.1 k)

items_left : (condition : Condition) (ts : Items) → IsItems ts → IsItems (items_without condition ts)
items_left condition no_items h = tt
items_left condition (item t ts) h = at (element_matches condition t) (items_left condition ts h.1)
  where
    at : (b : Bool) → IsItems (items_without condition ts) → IsItems (if b then items_without condition ts else item t (items_without condition ts))
    at true later = later
    at false later = (h.0, later)

abbrev pub IsNumber : Number → Type 0
IsNumber (int32 z) = FitsSigned w32 z
IsNumber (int64 z) = FitsSigned w64 z

number_lawful : (n : Number) → IsNumber n → IsTree (number_tree n)
number_lawful (int32 z) h = h
number_lawful (int64 z) h = h

pub number_given : (t : Tree) → IsTree t → IfGiven IsNumber (number_in t)
number_given (scalar (int32_scalar z)) h = h
number_given (scalar (int64_scalar z)) h = h
number_given (document ps) h = tt
number_given (array ts) h = tt
number_given (scalar other) h = tt

fits_narrow : (z : ℤ) → fits_int32 z ≡ true → FitsSigned w32 z
fits_narrow (pos n) e = fits_in w32 (pos n) (grind (arith, nat_tests, e))
fits_narrow (negsuc n) e = fits_in w32 (negsuc n) (grind (arith, nat_tests, e))

fits_wide : (z : ℤ) → fits_int64 z ≡ true → FitsSigned w64 z
fits_wide (pos n) e = fits_in w64 (pos n) (grind (arith, nat_tests, e))
fits_wide (negsuc n) e = fits_in w64 (negsuc n) (grind (arith, nat_tests, e))

wide_given : (z : ℤ) → IfGiven IsNumber (as_int64 z)
wide_given z = at (fits_int64 z) refl
  where
    at : (b : Bool) → fits_int64 z ≡ b → IfGiven IsNumber (if b then Ok (int64 z) else Err refusals.BadValue)
    at true e = fits_wide z e
    at false e = tt

sum_given : (n m : Number) → IsNumber n → IsNumber m → IfGiven IsNumber (sum n m)
sum_given (int32 a) (int32 b) h k = at (fits_int32 (a +ℤ b)) refl
  where
    at : (c : Bool) → fits_int32 (a +ℤ b) ≡ c → IfGiven IsNumber (if c then Ok (int32 (a +ℤ b)) else Ok (int64 (a +ℤ b)))
    at true e = fits_narrow (a +ℤ b) e
    at false e = fits_in w64 (a +ℤ b) (omega (arith, fits_out w32 a h, fits_out w32 b k, sum_is_lem a b))
sum_given (int32 a) (int64 b) h k = wide_given (a +ℤ b)
sum_given (int64 a) (int32 b) h k = wide_given (a +ℤ b)
sum_given (int64 a) (int64 b) h k = wide_given (a +ℤ b)

-- ---- an edit

abbrev pub IsAction : Action → Type 0
IsAction (set t) = IsTree t
IsAction unset = Unit {0}
IsAction (increment n) = IsNumber n
IsAction (at_most t) = IsTree t
IsAction (at_least t) = IsTree t
IsAction (push ts) = IsItems ts
IsAction (pull condition) = Unit {0}
IsAction (rename path) = AreNames path

pub record IsEdit (e : Edit) : Type 0 where
  pub path : AreNames e.path
  pub action : IsAction e.action

abbrev pub AreEdits : List Edit → Type 0
AreEdits [] = Unit {0}
AreEdits (e ∷ es) = IsEdit e × AreEdits es

abbrev pub IsChange : Change → Type 0
IsChange (edits es) = AreEdits es
IsChange (replacement ps) = IsPairs ps

incremented_given : (n : Number) → IsNumber n → (o : Option Tree) → IfThere o → IfGiven IsTree (incremented n o)
incremented_given n h None there = number_lawful n h
incremented_given n h (Some t) there =
    given IsNumber IsTree (number_in t) _ (number_given t there)
    (λ m is. given IsNumber IsTree (sum m n) _ (sum_given m n is h) (λ k fits. number_lawful k fits))

one_of : (b : Bool) (t u : Tree) → IsTree t → IsTree u → IsTree (if b then t else u)
one_of true t u h k = h
one_of false t u h k = k

lowered_given : (t : Tree) → IsTree t → (o : Option Tree) → IfThere o → IfGiven IsTree (lowered t o)
lowered_given t h None there = h
lowered_given t h (Some u) there = one_of (is_below (compare t u)) t u h there

raised_given : (t : Tree) → IsTree t → (o : Option Tree) → IfThere o → IfGiven IsTree (raised t o)
raised_given t h None there = h
raised_given t h (Some u) there = one_of (is_below (compare u t)) t u h there

within_array : (ts : Items) (b : Bool) → IsItems ts → IfGiven IsTree (if b then Ok (array ts) else Err refusals.BadValue)
within_array ts true h = h
within_array ts false h = tt

pushed_given : (new : Items) → IsItems new → (o : Option Tree) → IfThere o → IfGiven IsTree (pushed new o)
pushed_given new h None there = within_array new _ h
pushed_given new h (Some (array ts)) there = within_array (append_items ts new) _ (items_joined ts new there h)
pushed_given new h (Some (document ps)) there = tt
pushed_given new h (Some (scalar s)) there = tt

pulled_given : (condition : Condition) (o : Option Tree) → IfThere o → IfGiven IsTree (pulled condition o)
pulled_given condition None there = tt
pulled_given condition (Some (array ts)) there = items_left condition ts there
pulled_given condition (Some (document ps)) there = tt
pulled_given condition (Some (scalar s)) there = tt

pull_given : (path : Path) (condition : Condition) (ps : Pairs) → AreNames path → IsPairs ps → IfGiven IsPairs (pull_at path condition ps)
pull_given path condition ps names h = at (value_at path (document ps))
  where
    at : (o : Option Tree) → IfGiven IsPairs (if_there o (write_at (pulled condition) path ps) ps)
    at None = h
    at (Some t) = written_at (pulled condition) (pulled_given condition) path ps names h

rename_given : (old new : Path) (ps : Pairs) → AreNames old → AreNames new → IsPairs ps → IfGiven IsPairs (rename_at old new ps)
rename_given old new ps names others h = by (passes_array old (document ps))
  where
    moved_given : (o : Option Tree) → IfThere o → IfGiven IsPairs (moved old new o ps)
    moved_given None there = h
    moved_given (Some t) there = at (passes_array new (document ps))
      where
        at : (b : Bool) → IfGiven IsPairs (if b then Err refusals.BadValue else set_at new t (cut_at new (cut_at old ps)))
        at true = tt
        at false = set_given new t (cut_at new (cut_at old ps)) others there (cut_lawful new (cut_at old ps) others (cut_lawful old ps names h))

    by : (b : Bool) → IfGiven IsPairs (if b then Err refusals.BadValue else moved old new (value_at old (document ps)) ps)
    by true = tt
    by false = moved_given (value_at old (document ps)) (value_there old (document ps) h)

action_given : (path : Path) (a : Action) (ps : Pairs) → AreNames path → IsAction a → IsPairs ps → IfGiven IsPairs (apply_action path a ps)
action_given path (set t) ps names h is = set_given path t ps names h is
action_given path unset ps names h is = cut_lawful path ps names is
action_given path (increment n) ps names h is = written_at (incremented n) (incremented_given n h) path ps names is
action_given path (at_most t) ps names h is = written_at (lowered t) (lowered_given t h) path ps names is
action_given path (at_least t) ps names h is = written_at (raised t) (raised_given t h) path ps names is
action_given path (push ts) ps names h is = written_at (pushed ts) (pushed_given ts h) path ps names is
action_given path (pull condition) ps names h is = pull_given path condition ps names is
action_given path (rename new) ps names h is = rename_given path new ps names h is

edits_given : (es : List Edit) (ps : Pairs) → AreEdits es → IsPairs ps → IfGiven IsPairs (apply_edits es ps)
edits_given [] ps h is = is
edits_given (e ∷ es) ps h is =
    given IsPairs IsPairs (apply_edit e ps) (apply_edits es) (action_given e.path e.action ps h.0.path h.0.action is) (λ qs k. edits_given es qs h.1 k)

-- ---- `_id` first

differ : (xs ys : List ℕ) → bytes_eq xs ys ≡ false → xs ≢ ys
differ xs ys e same = let f = (bytes_eq-Decides xs ys).1 same in absurd cc

lacks_without : (ps : Pairs) (name other : List ℕ) → Lacks ps other → Lacks (without ps name) other
lacks_without no_pairs name other h = tt
lacks_without (pair n t ps) name other h = at (bytes_eq name n) (lacks_without ps name other h.1)
  where
    at : (b : Bool) → Lacks (without ps name) other → Lacks (if b then without ps name else pair n t (without ps name)) other
    at true later = later
    at false later = (h.0, later)

lacks_it : (ps : Pairs) (name : List ℕ) → Lacks (without ps name) name
lacks_it no_pairs name = tt
lacks_it (pair n t ps) name = at (bytes_eq name n) refl (lacks_it ps name)
  where
    at : (b : Bool) → bytes_eq name n ≡ b → Lacks (without ps name) name → Lacks (if b then without ps name else pair n t (without ps name)) name
    at true e later = later
    at false e later = (differ name n e, later)

without_lawful : (ps : Pairs) (name : List ℕ) → IsPairs ps → IsPairs (without ps name)
without_lawful no_pairs name h = tt
without_lawful (pair n t ps) name h = at (bytes_eq name n) (without_lawful ps name h.3)
  where
    at : (b : Bool) → IsPairs (without ps name) → IsPairs (if b then without ps name else pair n t (without ps name))
    at true later = later
    at false later = (h.0, h.1, lacks_without ps name n h.2, later)

id_is_name : IsName id_name
unfolding lib.Utf8.encode
id_is_name = record {
  is_text = (id_name, (refl, refl));
  no_zero = ((λ e. absurd (omega (arith, e))), ((λ e. absurd (omega (arith, e))), ((λ e. absurd (omega (arith, e))), tt)));
}

first_lawful : (o : Option Tree) (ps : Pairs) → IfThere o → IsPairs ps → IsPairs (first_pair id_name o (without ps id_name))
first_lawful None ps there h = without_lawful ps id_name h
first_lawful (Some t) ps there h = (id_is_name, there, lacks_it ps id_name, without_lawful ps id_name h)

replaced_given : (new old : Pairs) → IsPairs new → IsPairs old → IfGiven IsPairs (replace new old)
replaced_given new old h k = at (lookup old id_name) (field_there old id_name k)
  where
    by : (t : Tree) → IsTree t → (b : Bool) → IfGiven IsPairs (if b then Ok (pair id_name t (without new id_name)) else Err refusals.ImmutableField)
    by t is true = first_lawful (Some t) new is h
    by t is false = tt

    with_given : (t : Tree) → IsTree t → (o : Option Tree) → IfGiven IsPairs (with_id t o new)
    with_given t is None = first_lawful (Some t) new is h
    with_given t is (Some id) = by t is (is_equal (compare t id))

    at : (o : Option Tree) → IfThere o → IfGiven IsPairs (in_place_of o new)
    at None there = first_lawful (lookup new id_name) new (field_there new id_name h) h
    at (Some t) there = with_given t there (lookup new id_name)

-- ---- the whole

changed_given : (u : Change) (ps : Pairs) → IsChange u → IsPairs ps → IfGiven IsPairs (changed u ps)
changed_given (edits es) ps h is = edits_given es ps h is
changed_given (replacement new) ps h is = replaced_given new ps h is

judged_given : (limit : ℕ) (ps : Pairs) → IsPairs ps → IfGiven IsPairs (judged limit ps)
judged_given limit ps h = at (stored_fault limit (id_first ps))
  where
    at : (o : Option Refusal) → IfGiven IsPairs (fault_or o (id_first ps))
    at None = first_lawful (lookup ps id_name) ps (field_there ps id_name h) h
    at (Some e) = tt

pub applied_given : (u : Change) (limit : ℕ) (ps : Pairs) → IsChange u → IsPairs ps → IfGiven IsPairs (apply u limit ps)
applied_given u limit ps h is = given IsPairs IsPairs (changed u ps) (judged limit) (changed_given u ps h is) (λ qs k. judged_given limit qs k)
