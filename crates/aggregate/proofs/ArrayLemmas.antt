-- Values that are put into an array one after the other.
use Rattle.std.proofs.Common.{◌≡◌, suc, ◌<◌, ◌≤◌, true, false, List, [], ◌∷◌, ◌++◌, length, Option, Some, Result, Ok, Err, refl, sym, ap, ◌∙◌, arith}
use Rattle.std.specs.Prelude.{nat_le}
use Rattle.std.proofs.lemmas.Bool.{lt-leb, le-leb}
use Rattle.bson.specs.Tree.{Tree, array, Items, no_items, item, append_items}
use Rattle.bson.specs.View.{tree, items_of}
use Rattle.bson.specs.Lawful.{levels, items_levels}
use Rattle.bson.specs.EditPlaces.{append_items-none, append_items-one, items_levels-append}
use Rattle.bson.specs.EditsLaws.{items_of-push}
use Rattle.bson.specs.declared.value.Value.{Value}
use Rattle.path.specs.declared.refusal.Refusal.{Refusal}
use Rattle.path.specs.declared.refusal.Refusal.TheVariants as refusals
use Rattle.path.specs.Edits.{within}
use Rattle.aggregate_model.specs.Accumulators.{pushed_with}

pub item_more : (ts next : Items) (left rest : List Value) (v : Value) (planned : Items) → left ≡ v ∷ rest
    → next ≡ append_items ts (item (tree v) no_items) → append_items ts (items_of left) ≡ planned → append_items next (items_of rest) ≡ planned
item_more ts next left rest v planned is grown so_far =
    ap (λ (us : Items). append_items us (items_of rest)) grown
    ∙ append_items-one ts (tree v) (items_of rest)
    ∙ sym (ap (λ (vs : List Value). append_items ts (items_of vs)) is)
    ∙ so_far

pub items_done : (ts : Items) (left : List Value) (planned : Items) → left ≡ [] → append_items ts (items_of left) ≡ planned → ts ≡ planned
items_done ts left planned is so_far = sym (append_items-none ts) ∙ sym (ap (λ (vs : List Value). append_items ts (items_of vs)) is) ∙ so_far

-- an element that nests too deep
pub too_deep : (ts : Items) (left rest : List Value) (v : Value) (planned : Items) → left ≡ v ∷ rest → 98 < levels (tree v)
    → append_items ts (items_of left) ≡ planned → within 99 (Ok (array planned)) ≡ Err refusals.BadValue
too_deep ts left rest v planned is deep so_far =
    let whole : append_items ts (item (tree v) (items_of rest)) ≡ planned = sym (ap (λ (vs : List Value). append_items ts (items_of vs)) is) ∙ so_far in
    let high : 99 < suc (items_levels planned) = omega (arith, ap items_levels whole, items_levels-append ts (item (tree v) (items_of rest))) in
    let no : nat_le (suc (items_levels planned)) 99 ≡ false = lt-leb _ _ high in
    rw no refl

ok : Tree → Result Tree Refusal
ok t = Ok t

pub fits : (ts planned : Items) → ts ≡ planned → items_levels ts ≤ 98 → within 99 (Ok (array planned)) ≡ Ok (array ts)
unfolding ok
fits ts planned same le =
    let low : suc (items_levels planned) ≤ 99 = omega (arith, ap items_levels same) in
    let yes : nat_le (suc (items_levels planned)) 99 ≡ true = le-leb _ _ low in
    rw yes (ap (λ (us : Items). ok (array us)) (sym same))

pub pushed_one : (vs ws : List Value) (v : Value) (o : Option Tree) → ws ≡ vs ++ v ∷ [] → Some (tree v) ≡ o → items_of ws ≡ pushed_with (items_of vs) o
pushed_one vs ws v o grown is = ap items_of grown ∙ items_of-push vs v ∙ ap (pushed_with (items_of vs)) is

pub none_left : {X : Type 0} (xs : List X) → length xs ≤ 0 → xs ≡ []
none_left [] le = refl
none_left (x ∷ xs) le = absurd (omega (arith, le))
