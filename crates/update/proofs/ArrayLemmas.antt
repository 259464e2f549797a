-- Values that are put at the end of an array, and elements that are taken out of one.
use Rattle.std.proofs.Common.{◌≡◌, ℕ, suc, ◌+◌, ◌<◌, ◌≤◌, Bool, true, false, List, [], ◌∷◌, ◌++◌, length, drop, get_or, Result, Ok, Err, refl, sym, ap, ◌∙◌}
use Rattle.std.proofs.Common.{arith}
use Rattle.std.specs.Prelude.{if◌then◌else◌, not, filter, nat_le}
use Rattle.std.proofs.lemmas.List.{drop_all}
use Rattle.std.proofs.lemmas.Bool.{lt-leb, le-leb}
use Rattle.bson.specs.Tree.{Tree, array, Items, no_items, item, append_items}
use Rattle.bson.specs.View.{tree, items_of}
use Rattle.bson.specs.Lawful.{levels, items_levels}
use Rattle.bson.specs.EditPlaces.{append_items-none, append_items-one, items_levels-append}
use Rattle.bson.specs.EditsLaws.{items_of-push}
use Rattle.bson.specs.declared.value.Value.{Value}
use Rattle.path.specs.declared.refusal.Refusal.{Refusal}
use Rattle.path.specs.declared.refusal.Refusal.TheVariants as refusals
use Rattle.path.specs.Edits.{within}
use Rattle.filter.specs.Condition.{Condition}
use Rattle.filter.specs.Elements.{element_matches}
use Rattle.update_model.specs.Arrays.{items_without}
use Rattle.update.proofs.StepLemmas.{drop_step}

pub items_step : (vs : List Value) (i : ℕ) (v : Value) (t : Tree) → i < length vs → v ≡ get_or vs i v → t ≡ tree v
    → items_of (drop i vs) ≡ item t (items_of (drop (i + 1) vs))
items_step vs i v t lt is made = ap items_of (drop_step vs i v lt is) ∙ ap (λ (u : Tree). item u (items_of (drop (i + 1) vs))) (sym made)

pub items_none : (ts : Items) (vs : List Value) (i : ℕ) (planned : Items) → length vs ≤ i → append_items ts (items_of (drop i vs)) ≡ planned → ts ≡ planned
items_none ts vs i planned le so_far =
    sym (append_items-none ts) ∙ sym (ap (λ (ws : List Value). append_items ts (items_of ws)) (drop_all i vs le)) ∙ so_far

-- one more value
pub item_more : (ts next : Items) (vs : List Value) (i : ℕ) (v : Value) (t : Tree) (planned : Items) → i < length vs → v ≡ get_or vs i v → t ≡ tree v
    → next ≡ append_items ts (item t no_items) → append_items ts (items_of (drop i vs)) ≡ planned → append_items next (items_of (drop (i + 1) vs)) ≡ planned
item_more ts next vs i v t planned lt is made grown so_far =
    ap (λ (us : Items). append_items us (items_of (drop (i + 1) vs))) grown
    ∙ append_items-one ts t (items_of (drop (i + 1) vs))
    ∙ sym (ap (append_items ts) (items_step vs i v t lt is made))
    ∙ so_far

pub copy_more : (out next vs : List Value) (i : ℕ) (v w : Value) (planned : Items) → i < length vs → v ≡ get_or vs i v → tree w ≡ tree v
    → next ≡ out ++ w ∷ [] → append_items (items_of out) (items_of (drop i vs)) ≡ planned → append_items (items_of next) (items_of (drop (i + 1) vs)) ≡ planned
copy_more out next vs i v w planned lt is made grown so_far =
    item_more (items_of out) (items_of next) vs i v (tree w) planned lt is made (ap items_of grown ∙ items_of-push out w) so_far

-- an element that nests too deep
pub too_deep : (ts : Items) (vs : List Value) (i : ℕ) (v : Value) (t : Tree) (planned : Items) → i < length vs → v ≡ get_or vs i v → t ≡ tree v → 98 < levels t
    → append_items ts (items_of (drop i vs)) ≡ planned → within 99 (Ok (array planned)) ≡ Err refusals.BadValue
too_deep ts vs i v t planned lt is made deep so_far =
    let rest : Items = items_of (drop (i + 1) vs) in
    let whole : append_items ts (item t rest) ≡ planned = sym (ap (append_items ts) (items_step vs i v t lt is made)) ∙ so_far in
    let high : 99 < suc (items_levels planned) = omega (arith, ap items_levels whole, items_levels-append ts (item t rest)) in
    let no : nat_le (suc (items_levels planned)) 99 ≡ false = lt-leb _ _ high in
    rw no refl

ok : Tree → Result Tree Refusal
ok t = Ok t

pub fits : (ts planned : Items) → ts ≡ planned → items_levels ts ≤ 98 → within 99 (Ok (array planned)) ≡ Ok (array ts)
unfolding ok
fits ts planned same le =
    let low : suc (items_levels planned) ≤ 99 = omega (arith, ap items_levels same) in
    let yes : nat_le (suc (items_levels planned)) 99 ≡ true = le-leb _ _ low in
    rw yes (ap (λ (us : Items). ok (array us)) (sym same))

-- ---- what is taken out

pub items_of-filter : (condition : Condition) (vs : List Value)
    → items_of (filter (λ v. not (element_matches condition (tree v))) vs) ≡ items_without condition (items_of vs)
items_of-filter condition [] = refl
items_of-filter condition (v ∷ vs) = by (element_matches condition (tree v)) (items_of-filter condition vs)
  where
    by : (b : Bool) → items_of (filter (λ w. not (element_matches condition (tree w))) vs) ≡ items_without condition (items_of vs)
        → items_of (if not b then v ∷ filter (λ w. not (element_matches condition (tree w))) vs else filter (λ w. not (element_matches condition (tree w))) vs)
        ≡ (if b then items_without condition (items_of vs) else item (tree v) (items_without condition (items_of vs)))
    by true later = later
    by false later = ap (item (tree v)) later
