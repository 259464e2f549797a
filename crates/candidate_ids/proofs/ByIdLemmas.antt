-- Documents that are looked up by `_id` where a filter asks for one: they are those that a walk finds.
use Rattle.std.proofs.Common.{◌≡◌, ℕ, zero, suc, ◌<◌, Bool, true, false, List, [], ◌∷◌, length, get_or, Option, Some, None, refl, sym, ap}
use Rattle.std.proofs.Common.{subst, ◌∙◌, arith}
use Rattle.std.specs.Prelude.{IfSome, ◌&&◌, ◌||◌, option_and_then}
use Rattle.std.specs.List.{list_any}
use Rattle.std.specs.Ordering.{is_eq}
use Rattle.std.specs.declared.cmp.Ordering.{Ordering}
use Rattle.std.specs.declared.cmp.Ordering.TheVariants as orders
use Rattle.std.proofs.lemmas.Slice.Eq.{bytes_eq-Decides}
use Rattle.bson.specs.Tree.{Tree, scalar, document, array, Pairs}
use Rattle.bson.specs.Lookup.{lookup}
use Rattle.path.specs.Reach.{reach, candidates}
use Rattle.update_model.specs.Stored.{id_name, no_array}
use Rattle.filter.specs.Condition.{equal}
use Rattle.filter.specs.Matches.{is_equal, is_null, candidate_passes, passes, holds, all_hold, Subject}
use Rattle.filter.specs.IdPaths.{is_id}
use Rattle.filter.specs.View.{condition_of, conditions_of}
use Rattle.filter.specs.declared.condition.Condition.{Condition as Made}
use Rattle.value_order.specs.Order.{compare}
use Rattle.planner.proofs.UsableLemmas.{and_first, and_second}
use Rattle.database_model.specs.Documents.{key_of}
use Rattle.database_model.specs.Lawful.{IsStored}

-- ---- what a condition on the `_id` says of a stored document

pub lookup_of : (o : Option Tree) (t : Tree) → option_and_then no_array o ≡ Some t → (o ≡ Some t) × (candidates (Some t) ≡ t ∷ [])
lookup_of None t e = absurd cc
lookup_of (Some (array ts)) t e = absurd cc
lookup_of (Some (scalar s)) t e =
    let same : scalar s ≡ t = cc in (ap (λ (x : Tree). Some x) same, subst (λ (x : Tree). candidates (Some x) ≡ x ∷ []) same refl)
lookup_of (Some (document ps)) t e =
    let same : document ps ≡ t = cc in (ap (λ (x : Tree). Some x) same, subst (λ (x : Tree). candidates (Some x) ≡ x ∷ []) same refl)

-- all that is reached there is the `_id`
pub reached_id : (path : List (List ℕ)) (d : Pairs) → is_id path ≡ true → IsStored d → reach path (document d) ≡ Some (key_of d) ∷ []
reached_id [] d named stored = absurd cc
reached_id (name ∷ next ∷ rest) d named stored = absurd cc
reached_id (name ∷ []) d named stored =
    let same : name ≡ id_name = (bytes_eq-Decides name id_name).0 named in
    let there : lookup d name ≡ Some (key_of d) = ap (lookup d) same ∙ (lookup_of (lookup d id_name) (key_of d) stored.key).0 in
    rw there refl

ordered_equal : (r : Ordering) → is_equal r ≡ true → r ≡ orders.Equal
ordered_equal orders.Less e = absurd cc
ordered_equal orders.Equal e = refl
ordered_equal orders.Greater e = absurd cc

pub or_none : (b : Bool) → (b || false) ≡ true → b ≡ true
or_none true e = refl
or_none false e = absurd cc

pub never_missing : (v : Tree) (t : Tree) → passes (equal v) false (Some t) ≡ true → candidates (Some t) ≡ t ∷ [] → is_equal (compare t v) ≡ true
never_missing v t e alone =
    let one : (list_any (candidate_passes (equal v)) (t ∷ []) || (is_null v && false)) ≡ true =
    ap (λ (ts : List Tree). list_any (candidate_passes (equal v)) ts || (is_null v && false)) (sym alone) ∙ e in
    either (is_equal (compare t v)) (is_null v) one
  where
    either : (b n : Bool) → ((b || false) || (n && false)) ≡ true → b ≡ true
    either true n e = refl
    either false true e = absurd cc
    either false false e = absurd cc

pub if_some_on : {X : Type 0} {P Q : X → Type 0} (o : Option X) → ((x : X) → P x → Q x) → IfSome o P → IfSome o Q
if_some_on None extends h = h
if_some_on (Some x) extends h = extends x h

-- ---- one condition among others

pub holds_at : (rs : List Made) (i : ℕ) (r : Made) (s : Subject) → i < length rs → all_hold (conditions_of rs) s ≡ true
    → holds (condition_of (get_or rs i r)) s ≡ true
holds_at [] i r s within all = absurd (omega (arith, within))
holds_at (x ∷ rs) zero r s within all = and_first (holds (condition_of x) s) (all_hold (conditions_of rs) s) all
holds_at (x ∷ rs) (suc i) r s within all =
    holds_at rs i r s (omega (arith, within)) (and_second (holds (condition_of x) s) (all_hold (conditions_of rs) s) all)

pub equal_eq : (r : Ordering) → is_eq r ≡ true → r ≡ orders.Equal
equal_eq orders.Less e = absurd cc
equal_eq orders.Equal e = refl
equal_eq orders.Greater e = absurd cc
