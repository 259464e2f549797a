-- Pairs and items that are read one after the other, as a loop does.
use Rattle.std.proofs.Common.{◌≡◌, ℕ, zero, suc, ◌+◌, ◌-◌, ◌<◌, ◌≤◌, Bool, true, false, cond, ◌||◌, List, [], ◌∷◌, ◌++◌, Option, Some, None, Result, Ok, Err}
use Rattle.std.proofs.Common.{refl, sym, ap, subst, ◌∙◌, arith}
use Rattle.std.specs.Prelude.{◌==◌}
use Rattle.std.specs.Str.{bytes_eq}
use Rattle.std.specs.List.{list_any}
use Rattle.std.proofs.lemmas.Bool.{eq-eqb}
use Rattle.std.proofs.lemmas.Slice.Eq.{bytes_eq-Decides}
use Rattle.json.specs.Token.{Token}
use Rattle.outcome.specs.Outcome.{Fails}
use Rattle.bson.specs.declared.value.Pair.{Pair}
use Rattle.bson.specs.declared.value.Value.{Value}
use Rattle.bson.specs.Tree.{Tree, document, array, Pairs, no_pairs, pair, append, Items, no_items, item, append_items}
use Rattle.bson.specs.View.{tree, pairs_of, items_of, names_of}
use Rattle.bson.specs.Lawful.{levels, pairs_levels, items_levels, NoZero, IsName, Lacks, IsTree, IsDocument, IsArray}
use Rattle.bson.specs.Lookup.{stands_in}
use Rattle.bson.specs.EditPlaces.{pairs_levels-append, items_levels-append}
use Rattle.bson.specs.EditsLaws.{pairs_of-push, items_of-push, IsDocument-append, IsArray-append}
use Rattle.ext_json.specs.Tokens.{first, rest, key_at}
use Rattle.ext_json.specs.Parsing.{has_name, new_name, pairs_by, is_end, items_by, most_turns, value_by, value_at, as_document, as_array, pairs_within}
use Rattle.ext_json.specs.Parsing.{items_within}
use Rattle.ext_json.specs.declared.fault.ExtJsonFault.{ExtJsonFault}
use Rattle.ext_json.specs.declared.fault.ExtJsonFault.TheVariants as faults

-- ---- names

pub NoZero-from_none : (name : List ℕ) → list_any (λ b. b == 0) name ≡ false → NoZero name
NoZero-from_none [] e = tt
NoZero-from_none (b ∷ bs) e = by (b == 0) refl e (NoZero-from_none bs)
  where
    by : (c : Bool) → (b == 0) ≡ c → (c || list_any (λ x. x == 0) bs) ≡ false → (list_any (λ x. x == 0) bs ≡ false → NoZero bs) → NoZero (b ∷ bs)
    by true is h more = absurd cc
    by false is h more = ((λ zero_is. let t = eq-eqb b 0 zero_is in cc), more h)

pub stands-has_name : (ps : List Pair) (name : List ℕ) → stands_in (names_of ps) name ≡ has_name (pairs_of ps) name
stands-has_name [] name = refl
stands-has_name (p ∷ ps) name = ap (λ (b : Bool). bytes_eq name p.name || b) (stands-has_name ps name)

pub Lacks-from_name : (ps : Pairs) (name : List ℕ) → has_name ps name ≡ false → Lacks ps name
Lacks-from_name no_pairs name e = tt
Lacks-from_name (pair other t ps) name e = by (bytes_eq name other) refl e (Lacks-from_name ps name)
  where
    by : (b : Bool) → bytes_eq name other ≡ b → (b || has_name ps name) ≡ false → (has_name ps name ≡ false → Lacks ps name) → Lacks (pair other t ps) name
    by true is h more = absurd cc
    by false is h more = ((λ same. let t = (bytes_eq-Decides name other).1 same in cc), more h)

pub name_from_Lacks : (ps : Pairs) (name : List ℕ) → Lacks ps name → has_name ps name ≡ false
name_from_Lacks no_pairs name h = refl
name_from_Lacks (pair other t ps) name h = by (bytes_eq name other) refl (name_from_Lacks ps name h.1)
  where
    by : (b : Bool) → bytes_eq name other ≡ b → has_name ps name ≡ false → (b || has_name ps name) ≡ false
    by true is more = absurd (h.0 ((bytes_eq-Decides name other).0 is))
    by false is more = more

or_swap : (a b c : Bool) → (a || (b || c)) ≡ (b || (a || c))
or_swap true true c = refl
or_swap true false c = refl
or_swap false true c = refl
or_swap false false c = refl

stands_push : (ps : List Pair) (p : Pair) (other : List ℕ)
    → stands_in (names_of (ps ++ p ∷ [])) other ≡ (bytes_eq other p.name || stands_in (names_of ps) other)
stands_push [] p other = refl
stands_push (q ∷ qs) p other =
    ap (λ (b : Bool). bytes_eq other q.name || b) (stands_push qs p other)
    ∙ or_swap (bytes_eq other q.name) (bytes_eq other p.name) (stands_in (names_of qs) other)

pub names_push : (names new : List (List ℕ)) (ps : List Pair) (p : Pair) (name : List ℕ) → p.name ≡ name
    → ((other : List ℕ) → stands_in names other ≡ stands_in (names_of ps) other)
    → ((other : List ℕ) → stands_in new other ≡ (bytes_eq other name || stands_in names other)) → (other : List ℕ)
    → stands_in new other ≡ stands_in (names_of (ps ++ p ∷ [])) other
names_push names new ps p name is same grown other =
    grown other ∙ ap (λ (b : Bool). bytes_eq other name || b) (same other) ∙ ap (λ (n : List ℕ). bytes_eq other n || stands_in (names_of ps) other) (sym is)
    ∙ sym (stands_push ps p other)

-- a name that may stand behind some is none of them
new_name-is_new : (stood : List ℕ → Bool) (name : List ℕ) → new_name stood name ≡ Ok tt → stood name ≡ false
new_name-is_new stood name = by (list_any (λ b. b == 0) name) (stood name)
  where
    by : (zero_in is_in : Bool) → ◌≡◌ {A = Result (Unit {0}) ExtJsonFault} (cond zero_in (Err faults.Name) (cond is_in (Err faults.Repeated) (Ok tt))) (Ok tt)
        → is_in ≡ false
    by true b e = absurd cc
    by false true e = absurd cc
    by false false e = refl

-- ---- levels

pub value_is : (more : ℕ) (t : Token) (ts : List Token) → value_by (pairs_within more) (items_within more) t ts ≡ value_at more t ts
unfolding value_at pairs_within items_within
value_is zero t ts = refl
value_is (suc more) t ts = refl

-- as a token was taken and the rest is left
pub value_as : (more : ℕ) (t u : Token) (ts us : List Token) → t ≡ u → ts ≡ us → value_by (pairs_within more) (items_within more) t ts ≡ value_at more u us
value_as more t u ts us e f = (λ i. value_by (pairs_within more) (items_within more) (e i) (f i)) ∙ value_is more u us

pub some_pairs_within : (more : ℕ) (name : Option (List ℕ)) (ts : List Token) → 0 < more
    → as_document (pairs_by (value_at (more - 1)) most_turns no_pairs name ts) ≡ pairs_within more name ts
unfolding pairs_within
some_pairs_within zero name ts some = absurd (omega arith)
some_pairs_within (suc more) name ts some =
    ap (λ (n : ℕ). as_document (pairs_by (value_at n) most_turns no_pairs name ts)) (let e : suc more - 1 ≡ more = omega arith in e)

pub some_items_within : (more : ℕ) (ts : List Token) → 0 < more → as_array (items_by (value_at (more - 1)) most_turns no_items ts) ≡ items_within more ts
unfolding items_within
some_items_within zero ts some = absurd (omega arith)
some_items_within (suc more) ts some =
    ap (λ (n : ℕ). as_array (items_by (value_at n) most_turns no_items ts)) (let e : suc more - 1 ≡ more = omega arith in e)

pub pairs_deep : (more : ℕ) (name : Option (List ℕ)) (ts : List Token) → more ≡ 0 → pairs_within more name ts ≡ Err faults.Deep
unfolding pairs_within
pairs_deep zero name ts e = refl
pairs_deep (suc more) name ts e = absurd (omega arith)

pub items_deep : (more : ℕ) (ts : List Token) → more ≡ 0 → items_within more ts ≡ Err faults.Deep
unfolding items_within
items_deep zero ts e = refl
items_deep (suc more) ts e = absurd (omega arith)

pub document_fails : (more : ℕ) (name : Option (List ℕ)) (ts : List Token) (e : ExtJsonFault) → 0 < more
    → Fails faults.Memory e (pairs_by (value_at (more - 1)) most_turns no_pairs name ts)
    → Fails faults.Memory e (pairs_within more name ts)
document_fails more name ts e some f = λ other. sym (some_pairs_within more name ts some) ∙ ap as_document (f other)

pub document_found : (more : ℕ) (name : Option (List ℕ)) (ts us : List Token) (ps : Pairs) → 0 < more
    → pairs_by (value_at (more - 1)) most_turns no_pairs name ts ≡ Ok (ps, us)
    → pairs_within more name ts ≡ Ok (document ps, us)
document_found more name ts us ps some e = sym (some_pairs_within more name ts some) ∙ ap as_document e

pub array_fails : (more : ℕ) (ts : List Token) (e : ExtJsonFault) → 0 < more → Fails faults.Memory e (items_by (value_at (more - 1)) most_turns no_items ts)
    → Fails faults.Memory e (items_within more ts)
array_fails more ts e some f = λ other. sym (some_items_within more ts some) ∙ ap as_array (f other)

pub array_found : (more : ℕ) (ts us : List Token) (vs : Items) → 0 < more → items_by (value_at (more - 1)) most_turns no_items ts ≡ Ok (vs, us)
    → items_within more ts ≡ Ok (array vs, us)
array_found more ts us vs some e = sym (some_items_within more ts some) ∙ ap as_array e

-- ---- turns

pub turn_before : (turn : ℕ) → turn < 18446744073709551615 → turn < most_turns
unfolding most_turns
turn_before turn lt = lt

pub turns_over : (turn : ℕ) → 18446744073709551615 ≤ turn → most_turns ≤ turn
unfolding most_turns
turns_over turn le = le

-- ---- pairs

-- from this name on the pairs go on as from the first
pub record PairsSoFar (more : ℕ) (start : Option (List ℕ)) (all : List Token) (turn : ℕ) (ps : List Pair) (name : Option (List ℕ))
    (ts : List Token) : Type 0 where
  pub planned : pairs_by (value_at more) most_turns no_pairs start all ≡ pairs_by (value_at more) (most_turns - turn) (pairs_of ps) name ts
  pub lawful : IsDocument (pairs_of ps)
  pub depth : pairs_levels (pairs_of ps) ≤ more

pub pairs_start : (more : ℕ) (start : Option (List ℕ)) (all : List Token) (ps : List Pair) → ps ≡ [] → PairsSoFar more start all 0 ps start all
pairs_start more start all ps none = subst (λ (qs : List Pair). PairsSoFar more start all 0 qs start all) (sym none) (record {
  planned = ap (λ (n : ℕ). pairs_by (value_at more) n no_pairs start all) (let e : most_turns ≡ most_turns - 0 = omega arith in e);
  lawful = record { lawful = tt; depth = omega arith };
  depth = omega arith;
})

turn_left : (turn : ℕ) → turn < most_turns → most_turns - turn ≡ suc (most_turns - (turn + 1))
turn_left turn lt = omega arith

pub pairs_over : (more : ℕ) (start : Option (List ℕ)) (all : List Token) (turn : ℕ) (ps : List Pair) (ts : List Token)
    → PairsSoFar more start all turn ps None ts → turn < most_turns
    → pairs_by (value_at more) most_turns no_pairs start all ≡ Ok (pairs_of ps, ts)
unfolding pairs_by
pairs_over more start all turn ps ts h lt = h.planned ∙ ap (λ (n : ℕ). pairs_by (value_at more) n (pairs_of ps) None ts) (turn_left turn lt)

pub pairs_ended : (more : ℕ) (start : Option (List ℕ)) (all : List Token) (turn : ℕ) (ps : List Pair) (name : Option (List ℕ)) (ts : List Token)
    → PairsSoFar more start all turn ps name ts → most_turns ≤ turn
    → pairs_by (value_at more) most_turns no_pairs start all ≡ Err faults.Syntax
unfolding pairs_by
pairs_ended more start all turn ps name ts h le =
    h.planned ∙ ap (λ (n : ℕ). pairs_by (value_at more) n (pairs_of ps) name ts) (let e : most_turns - turn ≡ 0 = omega arith in e)

-- what comes next, in one turn
pair_step : (more : ℕ) (start : Option (List ℕ)) (all : List Token) (turn : ℕ) (ps : List Pair) (name : List ℕ) (ts : List Token)
    → PairsSoFar more start all turn ps (Some name) ts → turn < most_turns
    → pairs_by (value_at more) most_turns no_pairs start all ≡ pairs_by (value_at more) (suc (most_turns - (turn + 1))) (pairs_of ps) (Some name) ts
pair_step more start all turn ps name ts h lt = h.planned ∙ ap (λ (n : ℕ). pairs_by (value_at more) n (pairs_of ps) (Some name) ts) (turn_left turn lt)

stood_as : (names : List (List ℕ)) (ps : List Pair) (name : List ℕ) → ((other : List ℕ) → stands_in names other ≡ stands_in (names_of ps) other)
    → new_name (stands_in names) name ≡ new_name (has_name (pairs_of ps)) name
stood_as names ps name same =
    ap (λ (b : Bool). cond (list_any (λ x. x == 0) name) (Err faults.Name) (cond b (Err faults.Repeated) (Ok tt))) (same name ∙ stands-has_name ps name)

fails_as : {X Y : Type 0} (e : ExtJsonFault) (p : Result X ExtJsonFault) (q : Result Y ExtJsonFault) → (p ≡ Err e → q ≡ Err e) → Fails faults.Memory e p
    → Fails faults.Memory e q
fails_as e p q f h = λ other. f (h other)

pub name_fails : (more : ℕ) (start : Option (List ℕ)) (all : List Token) (turn : ℕ) (ps : List Pair) (name : List ℕ) (ts : List Token) (names : List (List ℕ))
    (e : ExtJsonFault)
    → PairsSoFar more start all turn ps (Some name) ts → turn < most_turns → ((other : List ℕ) → stands_in names other ≡ stands_in (names_of ps) other)
    → Fails faults.Memory e (new_name (stands_in names) name) → Fails faults.Memory e (pairs_by (value_at more) most_turns no_pairs start all)
unfolding pairs_by
name_fails more start all turn ps name ts names e h lt same f =
    λ other. let g = sym (stood_as names ps name same) ∙ f other in pair_step more start all turn ps name ts h lt ∙ rw g refl

pub value_fails : (more : ℕ) (start : Option (List ℕ)) (all : List Token) (turn : ℕ) (ps : List Pair) (name : List ℕ) (ts : List Token) (names : List (List ℕ))
    (e : ExtJsonFault)
    → PairsSoFar more start all turn ps (Some name) ts → turn < most_turns → ((other : List ℕ) → stands_in names other ≡ stands_in (names_of ps) other)
    → new_name (stands_in names) name ≡ Ok tt → Fails faults.Memory e (value_at more (first ts) (rest ts))
    → Fails faults.Memory e (pairs_by (value_at more) most_turns no_pairs start all)
unfolding pairs_by
value_fails more start all turn ps name ts names e h lt same is f =
    λ other. let g = sym (stood_as names ps name same) ∙ is in let v = f other in pair_step more start all turn ps name ts h lt ∙ rw (g, v) refl

pub key_fails : (more : ℕ) (start : Option (List ℕ)) (all : List Token) (turn : ℕ) (ps : List Pair) (name : List ℕ) (ts us : List Token)
    (names : List (List ℕ)) (t : Tree) (e : ExtJsonFault)
    → PairsSoFar more start all turn ps (Some name) ts → turn < most_turns → ((other : List ℕ) → stands_in names other ≡ stands_in (names_of ps) other)
    → new_name (stands_in names) name ≡ Ok tt → value_at more (first ts) (rest ts) ≡ Ok (t, us) → key_at us ≡ Err e
    → pairs_by (value_at more) most_turns no_pairs start all ≡ Err e
unfolding pairs_by
key_fails more start all turn ps name ts us names t e h lt same is v k =
    let g = sym (stood_as names ps name same) ∙ is in pair_step more start all turn ps name ts h lt ∙ rw (g, v, k) refl

pair_read_as : (more : ℕ) (start : Option (List ℕ)) (all : List Token) (turn : ℕ) (ps : List Pair) (p : Pair) (ts us : List Token) (names : List (List ℕ))
    (next : Option (List ℕ)) (vs : List Token)
    → PairsSoFar more start all turn ps (Some p.name) ts → turn < most_turns → more ≤ 99
    → ((other : List ℕ) → stands_in names other ≡ stands_in (names_of ps) other)
    → new_name (stands_in names) p.name ≡ Ok tt → value_at more (first ts) (rest ts) ≡ Ok (tree p.value, us) → key_at us ≡ Ok (next, vs)
    → IsName p.name → IsTree (tree p.value) → levels (tree p.value) ≤ more
    → PairsSoFar more start all (turn + 1) (ps ++ p ∷ []) next vs
unfolding pairs_by
pair_read_as more start all turn ps p ts us names next vs h lt deep same is v k named lawful fits =
    let g = sym (stood_as names ps p.name same) ∙ is in
    let lacks : Lacks (pairs_of ps) p.name = Lacks-from_name (pairs_of ps) p.name (new_name-is_new (has_name (pairs_of ps)) p.name g) in
    let step : pairs_by (value_at more) most_turns no_pairs start all
    ≡ pairs_by (value_at more) (most_turns - (turn + 1)) (append (pairs_of ps) (pair p.name (tree p.value) no_pairs)) next vs
    = pair_step more start all turn ps p.name ts h lt ∙ rw (g, v, k) refl in
    let doc : IsDocument (append (pairs_of ps) (pair p.name (tree p.value) no_pairs)) =
    IsDocument-append (pairs_of ps) p.name (tree p.value) h.lawful named lawful (omega arith) lacks in
    let depth : pairs_levels (append (pairs_of ps) (pair p.name (tree p.value) no_pairs)) ≤ more =
    omega (arith, pairs_levels-append (pairs_of ps) (pair p.name (tree p.value) no_pairs), h.depth) in
    let pushed = pairs_of-push ps p in
    record {
      planned = step ∙ ap (λ (qs : Pairs). pairs_by (value_at more) (most_turns - (turn + 1)) qs next vs) (sym pushed);
      lawful = subst IsDocument (sym pushed) doc;
      depth = omega (arith, depth, ap pairs_levels pushed);
    }

pub pair_read : (more : ℕ) (start : Option (List ℕ)) (all : List Token) (turn : ℕ) (ps : List Pair) (p : Pair) (name : List ℕ) (ts us : List Token)
    (names : List (List ℕ)) (next : Option (List ℕ)) (vs : List Token)
    → p.name ≡ name → PairsSoFar more start all turn ps (Some name) ts → turn < most_turns → more ≤ 99
    → ((other : List ℕ) → stands_in names other ≡ stands_in (names_of ps) other)
    → new_name (stands_in names) name ≡ Ok tt → value_at more (first ts) (rest ts) ≡ Ok (tree p.value, us) → key_at us ≡ Ok (next, vs)
    → IsName name → IsTree (tree p.value) → levels (tree p.value) ≤ more
    → PairsSoFar more start all (turn + 1) (ps ++ p ∷ []) next vs
pair_read more start all turn ps p name ts us names next vs is h lt deep same new v k named lawful fits =
    pair_read_as more start all turn ps p ts us names next vs (subst (λ (n : List ℕ). PairsSoFar more start all turn ps (Some n) ts) (sym is) h) lt deep same
    (subst (λ (n : List ℕ). new_name (stands_in names) n ≡ Ok tt) (sym is) new) v k (subst IsName (sym is) named) lawful fits

-- ---- items

pub record ItemsSoFar (more : ℕ) (all : List Token) (turn : ℕ) (vs : List Value) (ts : List Token) : Type 0 where
  pub planned : items_by (value_at more) most_turns no_items all ≡ items_by (value_at more) (most_turns - turn) (items_of vs) ts
  pub lawful : IsArray (items_of vs)
  pub depth : items_levels (items_of vs) ≤ more

pub items_start : (more : ℕ) (all : List Token) (vs : List Value) → vs ≡ [] → ItemsSoFar more all 0 vs all
items_start more all vs none = subst (λ (ws : List Value). ItemsSoFar more all 0 ws all) (sym none) (record {
  planned = ap (λ (n : ℕ). items_by (value_at more) n no_items all) (let e : most_turns ≡ most_turns - 0 = omega arith in e);
  lawful = record { lawful = tt; depth = omega arith };
  depth = omega arith;
})

item_step : (more : ℕ) (all : List Token) (turn : ℕ) (vs : List Value) (ts : List Token) → ItemsSoFar more all turn vs ts → turn < most_turns
    → items_by (value_at more) most_turns no_items all ≡ items_by (value_at more) (suc (most_turns - (turn + 1))) (items_of vs) ts
item_step more all turn vs ts h lt = h.planned ∙ ap (λ (n : ℕ). items_by (value_at more) n (items_of vs) ts) (turn_left turn lt)

pub items_over : (more : ℕ) (all : List Token) (turn : ℕ) (vs : List Value) (ts : List Token) → ItemsSoFar more all turn vs ts → turn < most_turns
    → is_end (first ts) ≡ true
    → items_by (value_at more) most_turns no_items all ≡ Ok (items_of vs, rest ts)
unfolding items_by
items_over more all turn vs ts h lt is = item_step more all turn vs ts h lt ∙ rw is refl

pub items_ended : (more : ℕ) (all : List Token) (turn : ℕ) (vs : List Value) (ts : List Token) → ItemsSoFar more all turn vs ts → most_turns ≤ turn
    → items_by (value_at more) most_turns no_items all ≡ Err faults.Syntax
unfolding items_by
items_ended more all turn vs ts h le =
    h.planned ∙ ap (λ (n : ℕ). items_by (value_at more) n (items_of vs) ts) (let e : most_turns - turn ≡ 0 = omega arith in e)

pub item_fails : (more : ℕ) (all : List Token) (turn : ℕ) (vs : List Value) (ts : List Token) (e : ExtJsonFault) → ItemsSoFar more all turn vs ts
    → turn < most_turns → is_end (first ts) ≡ false
    → Fails faults.Memory e (value_at more (first ts) (rest ts)) → Fails faults.Memory e (items_by (value_at more) most_turns no_items all)
unfolding items_by
item_fails more all turn vs ts e h lt is f = λ other. let v = f other in item_step more all turn vs ts h lt ∙ rw (is, v) refl

pub item_read : (more : ℕ) (all : List Token) (turn : ℕ) (vs : List Value) (v : Value) (ts us : List Token) → ItemsSoFar more all turn vs ts
    → turn < most_turns → more ≤ 98 → is_end (first ts) ≡ false
    → value_at more (first ts) (rest ts) ≡ Ok (tree v, us) → IsTree (tree v) → levels (tree v) ≤ more → ItemsSoFar more all (turn + 1) (vs ++ v ∷ []) us
unfolding items_by
item_read more all turn vs v ts us h lt deep is e lawful fits =
    let step : items_by (value_at more) most_turns no_items all
    ≡ items_by (value_at more) (most_turns - (turn + 1)) (append_items (items_of vs) (item (tree v) no_items)) us
    = item_step more all turn vs ts h lt ∙ rw (is, e) refl in
    let arr : IsArray (append_items (items_of vs) (item (tree v) no_items)) = IsArray-append (items_of vs) (tree v) h.lawful lawful (omega arith) in
    let depth : items_levels (append_items (items_of vs) (item (tree v) no_items)) ≤ more =
    omega (arith, items_levels-append (items_of vs) (item (tree v) no_items), h.depth) in
    let pushed = items_of-push vs v in
    record {
      planned = step ∙ ap (λ (us' : Items). items_by (value_at more) (most_turns - (turn + 1)) us' us) (sym pushed);
      lawful = subst IsArray (sym pushed) arr;
      depth = omega (arith, depth, ap items_levels pushed);
    }
