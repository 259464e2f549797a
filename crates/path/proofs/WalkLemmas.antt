-- Going on in a document by a field and in an array by an index.
use Rattle.std.proofs.Common.{◌≡◌, ℕ, zero, suc, ◌-◌, ◌<◌, ◌≤◌, Bool, true, false, List, [], ◌∷◌, ◌++◌, length, take, drop, get_or, Option, Some, None, Result}
use Rattle.std.proofs.Common.{Ok, Err, refl, sym, ap, ◌∙◌, arith, append_assoc, append-nil}
use Rattle.std.specs.Prelude.{◌≢◌, if◌then◌else◌, option_map}
use Rattle.std.specs.Str.{bytes_eq}
use Rattle.std.proofs.lemmas.List.{take_all}
use Rattle.std.specs.Result.{IsErrAnd, OnOk}
use Rattle.std.specs.Option.{option_and_then}
use Rattle.bson.specs.Tree.{Tree, scalar, null, document, array, Pairs, no_pairs, pair, Items}
use Rattle.bson.specs.Lookup.{lookup}
use Rattle.bson.specs.Lawful.{levels, pairs_levels, items_levels}
use Rattle.bson.specs.Edits.{place, pair_at, pairs_len, put, with_value, without_pair, item_at}
use Rattle.bson.specs.EditPlaces.{items_levels-with_item}
use Rattle.bson.specs.EditsLaws.{place-there, place-absent, pairs_levels-put, pairs_levels-cut}
use Rattle.path.specs.declared.refusal.Refusal.{Refusal}
use Rattle.path.specs.declared.refusal.Refusal.TheVariants as refusals
use Rattle.outcome.specs.Outcome.{Gives}
use Rattle.path.specs.Reach.{Reached, onwards, in_elements, in_place}
use Rattle.path.specs.Edits.{within, if_ok, write, write_item, write_field, cut_found, put_or_cut, cut_field, with_found, cut_item, cut_off}
use Rattle.path.specs.Parts.{index_of}
use Rattle.path.proofs.IndexLemmas.{item_at-levels}

pub place_within : (ps : Pairs) (name : List ℕ) (i : ℕ) → place ps name ≡ Some i → i < pairs_len ps
place_within ps name i e = let found = place-there ps name i e in found.3

-- what stands at a name's place is its value
pub place_value : (ps : Pairs) (name : List ℕ) (i : ℕ) (t : Tree) → place ps name ≡ Some i → option_map (λ (p : List ℕ × Tree). p.1) (pair_at ps i) ≡ Some t
    → lookup ps name ≡ Some t
place_value ps name i t e h =
    let found = place-there ps name i e in
    let here : ◌≡◌ {A = Option Tree} (Some found.0) (Some t) = ap (option_map (λ (p : List ℕ × Tree). p.1)) (sym found.1) ∙ h in
    found.2 ∙ here

pub pair_at-levels : (ps : Pairs) (i : ℕ) (t : Tree) → option_map (λ (p : List ℕ × Tree). p.1) (pair_at ps i) ≡ Some t → levels t ≤ pairs_levels ps
pair_at-levels no_pairs i t e = absurd cc
pair_at-levels (pair name u ps) zero t e = let same : u ≡ t = cc in omega (arith, ap levels same)
pair_at-levels (pair name u ps) (suc i) t e = omega (arith, pair_at-levels ps i t e)

pub lookup-levels : (ps : Pairs) (name : List ℕ) (t : Tree) → lookup ps name ≡ Some t → levels t ≤ pairs_levels ps
lookup-levels no_pairs name t e = absurd cc
lookup-levels (pair other u ps) name t e = by (bytes_eq name other) e (lookup-levels ps name t)
  where
    by : (b : Bool) → (if b then Some u else lookup ps name) ≡ Some t → (lookup ps name ≡ Some t → levels t ≤ pairs_levels ps)
        → levels t ≤ pairs_levels (pair other u ps)
    by true e later = let same : u ≡ t = cc in omega (arith, ap levels same)
    by false e later = omega (arith, later e)

-- ---- an answer that passes a refusal on

pub refused : {A B : Type 0} (view : A → B) (planned : Result B Refusal) (r : Result A Refusal) (f : Refusal) → IsErrAnd r (λ e. e ≡ f)
    → (f ≢ refusals.OutOfMemory → planned ≡ Err f) → Gives refusals.OutOfMemory view r planned
refused view planned (Ok a) f is told = absurd is
refused view planned (Err e) f is told = λ known. told (λ same. known (is ∙ same)) ∙ ap Err (sym is)

-- a list and its first element
pub first_and_rest : {X : Type 0} (xs : List X) (x : X) → 1 ≤ length xs → x ≡ get_or xs 0 x → xs ≡ x ∷ take (length xs - 1) (drop 1 xs)
first_and_rest [] x le is = absurd (omega arith)
first_and_rest (y ∷ ys) x le is =
    let n : suc (length ys) - 1 ≡ length ys = omega arith in
    let all : take (length ys) ys ≡ ys = take_all (length ys) ys (omega arith) in
    λ i. sym is i ∷ sym (ap (λ (k : ℕ). take k ys) n ∙ all) i

pub write-refused : (made : Option Tree → Result Tree Refusal) (parts rest : List (List ℕ)) (name : List ℕ) (old : Option Tree) (ts : Items) (f : Refusal)
    → parts ≡ name ∷ rest → old ≡ Some (array ts)
    → write_item (write made rest) (index_of name) ts ≡ Err f → write made parts old ≡ Err f
write-refused made parts rest name old ts f p o e = rw (p, o, e) refl

-- ---- a field that is there, and one that isn't

module _ (made : Option Tree → Result Tree Refusal) (name : List ℕ) (ps : Pairs) where
  pub write_field-there : (i : ℕ) (old : Tree) (r : Result Tree Refusal) → place ps name ≡ Some i
      → option_map (λ (p : List ℕ × Tree). p.1) (pair_at ps i) ≡ Some old
      → within 99 (made (Some old)) ≡ r → write_field made name ps ≡ if_ok r (λ u. Ok (put ps name u))
  write_field-there i old r e h given = rw (place_value ps name i old e h, given) refl

  pub write_field-new : (r : Result Tree Refusal) → place ps name ≡ None → within 99 (made None) ≡ r
      → write_field made name ps ≡ if_ok r (λ u. Ok (put ps name u))
  write_field-new r e given = rw ((place-absent ps name e).1, given) refl

-- ---- what is left nests no deeper

module _ (left : Tree → Option Tree) (keeps : (t w : Tree) → left t ≡ Some w → levels w ≤ levels t) where
  cut_field-levels : (name : List ℕ) (ps : Pairs) → pairs_levels (cut_field left name ps) ≤ pairs_levels ps
  cut_field-levels name ps = found (lookup ps name) refl
    where
      kept : (u : Tree) → lookup ps name ≡ Some u → (w : Option Tree) → left u ≡ w → pairs_levels (put_or_cut name ps w) ≤ pairs_levels ps
      kept u e None given = pairs_levels-cut ps name
      kept u e (Some w) given = omega (arith, pairs_levels-put ps name w, keeps u w given, lookup-levels ps name u e)

      found : (o : Option Tree) → lookup ps name ≡ o → pairs_levels (cut_found left name ps o) ≤ pairs_levels ps
      found None e = omega arith
      found (Some u) e = kept u e (left u) refl

  cut_item-levels : (o : Option ℕ) (ts : Items) → items_levels (cut_item left o ts) ≤ items_levels ts
  cut_item-levels None ts = omega arith
  cut_item-levels (Some i) ts = found (item_at ts i) refl
    where
      kept : (u : Tree) → item_at ts i ≡ Some u → (w : Option Tree) → left u ≡ w → items_levels (with_found (λ (t : Tree). w) i ts (Some u)) ≤ items_levels ts
      kept u e None given = omega (arith, items_levels-with_item ts i (scalar null))
      kept u e (Some w) given = omega (arith, items_levels-with_item ts i w, keeps u w given, item_at-levels ts i u e)

      found : (o : Option Tree) → item_at ts i ≡ o → items_levels (with_found left i ts o) ≤ items_levels ts
      found None e = omega arith
      found (Some u) e = kept u e (left u) refl

pub cut_off-levels : (parts : List (List ℕ)) (t w : Tree) → cut_off parts t ≡ Some w → levels w ≤ levels t
cut_off-levels [] t w e = absurd cc
cut_off-levels (name ∷ rest) (scalar s) w e = let same : scalar s ≡ w = cc in omega (arith, ap levels same)
cut_off-levels (name ∷ rest) (document ps) w e =
    let same : document (cut_field (cut_off rest) name ps) ≡ w = cc in
    omega (arith, ap levels same, cut_field-levels (cut_off rest) (cut_off-levels rest) name ps)
cut_off-levels (name ∷ rest) (array ts) w e =
    let same : array (cut_item (cut_off rest) (index_of name) ts) ≡ w = cc in
    omega (arith, ap levels same, cut_item-levels (cut_off rest) (cut_off-levels rest) (index_of name) ts)

-- ---- removing a field

module _ (left : Tree → Option Tree) (name : List ℕ) (ps : Pairs) where
  pub cut_field-there : (i : ℕ) (old : Tree) (w : Option Tree) → place ps name ≡ Some i → option_map (λ (p : List ℕ × Tree). p.1) (pair_at ps i) ≡ Some old
      → left old ≡ w → cut_field left name ps ≡ put_or_cut name ps w
  cut_field-there i old w e h given = rw (place_value ps name i old e h, given) refl

  pub cut_field-absent : place ps name ≡ None → cut_field left name ps ≡ ps
  cut_field-absent e = rw (place-absent ps name e).1 refl

pub without_pair-with_value : (ps : Pairs) (i : ℕ) (t : Tree) → without_pair (with_value ps i t) i ≡ without_pair ps i
without_pair-with_value no_pairs i t = refl
without_pair-with_value (pair name u ps) zero t = refl
without_pair-with_value (pair name u ps) (suc i) t = ap (pair name u) (without_pair-with_value ps i t)

-- ---- what an array gives: its elements, and the one that the part numbers

pub gathered : (go : Tree → List Reached) (name : List ℕ) (ts us : Items) (found : Option Tree) (old mid new : List Reached) → ts ≡ us
    → found ≡ option_and_then (item_at ts) (index_of name)
    → mid ++ [] ≡ old ++ in_elements go name ts → new ≡ mid ++ onwards go found [] → new ≡ old ++ (in_elements go name us ++ in_place go name us)
gathered go name ts us found old mid new same numbered begun ended =
    ended
    ∙ ap (λ (l : List Reached). l ++ onwards go found []) (sym (append-nil mid) ∙ begun)
    ∙ ap (λ (o : Option Tree). (old ++ in_elements go name ts) ++ onwards go o []) numbered
    ∙ append_assoc old (in_elements go name ts) (in_place go name ts)
    ∙ ap (λ (is : Items). old ++ (in_elements go name is ++ in_place go name is)) same

pub on_ok : {A E P Q : Type 0} (r : Result A E) → (P → Q) → OnOk r P → OnOk r Q
on_ok (Ok a) f h = f h
on_ok (Err e) f h = h
