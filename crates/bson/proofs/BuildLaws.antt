-- A pair at the end of a document keeps it one.
use Rattle.std.proofs.Common.{◌≡◌, ℕ, zero, suc, max, ◌+◌, ◌<◌, ◌≤◌, Bool, true, false, cond, List, [], ◌∷◌, ◌++◌, length, get_or, set, take, drop, Option}
use Rattle.std.proofs.Common.{Some, None, Result, Ok, Err, refl, sym, ap, subst, ◌∙◌, arith}
use Rattle.std.specs.Prelude.{IfErr, IsUtf8, is_some, position, ◌==◌}
use Rattle.std.specs.Str.{bytes_eq}
use Rattle.std.proofs.lemmas.Bool.{ltb-false}
use Rattle.std.proofs.lemmas.List.{take_all, take_more}
use Rattle.std.proofs.lemmas.List.Sums.{fails_before_first}
use Rattle.std.proofs.lemmas.List.Quantifiers.{position-Some}
use Rattle.bson.specs.Tree.{Tree, Pairs, no_pairs, pair, append, append_items, Items, item, no_items}
use Rattle.bson.specs.View.{tree, pairs_of, items_of, names_of}
use Rattle.bson.specs.Lawful.{levels, pairs_levels, items_levels, NoZero, IsName, Lacks, IsTree, IsDocument, IsArray, HoldsDocument, HoldsArray}
use Rattle.bson.specs.EditPlaces.{Lacks-append, IsPairs-append, IsItems-append}
use Rattle.bson.specs.EditsLaws.{pairs_len-pairs_of, items_len-items_of, place-absent, place-Lacks, pairs_of-push}
use Rattle.bson.specs.EditPlaces.{pairs_levels-with_deeper, items_levels-with_deeper, pairs_levels-without_flat, items_levels-without_flat}
use Rattle.bson.specs.EditsLaws.{items_of-push}
use Rattle.bson.specs.EditsLaws.{pairs_of-set, items_of-set, pairs_of-remove, items_of-remove, pair_at-pairs_of, item_at-items_of}
use Rattle.bson.specs.Edits.{pairs_len, items_len, place, PushFault, SetFault, ReplaceFault, Refused, pair_at, item_at, with_value, with_item, without_pair}
use Rattle.bson.specs.Edits.{without_item}
use Rattle.bson.specs.Lookup.{stands_in}
use Rattle.bson.specs.declared.value.Pair.{Pair}
use Rattle.bson.specs.declared.value.Value.{Value}
use Rattle.bson.specs.declared.fault.BuildFault.{BuildFault}
use Rattle.bson.specs.declared.fault.BuildFault.TheVariants as builds
use Rattle.bson.proofs.PushLaws.{or_false, NoZero-take}
use Rattle.bson.proofs.PushLaws.{bytes_eq-ne, ne-bytes_eq}
use Rattle.bson.proofs.PushLaws.{pairs_levels-push, items_levels-push}

-- ---- names

is_none : {A : Type 0} (b : Bool) (x : A) → ◌≡◌ {A = Option A} (cond b (Some x) None) None → b ≡ false
is_none true x e = absurd cc
is_none false x e = refl

none_of : {A : Type 0} (o : Option A) → is_some o ≡ false → o ≡ None
none_of (Some x) e = absurd cc
none_of None e = refl

pub NoZero-from_position : (name : List ℕ) → is_some (position (λ b. b == 0) name) ≡ false → NoZero name
NoZero-from_position name e =
    let far : length name ≤ _ = ltb-false _ _ (is_none _ _ (none_of (position (λ b. b == 0) name) e)) in
    subst NoZero (take_all (length name) name (omega arith))
    (NoZero-take (length name) name (λ k lt. fails_before_first (λ b. b == 0) name k 0 (omega (arith, far))))

NoZero-at : (name : List ℕ) (i : ℕ) → NoZero name → i < length name → get_or name i 0 ≡ 0 → ⊥
NoZero-at [] i h lt e = omega arith
NoZero-at (b ∷ bs) zero h lt e = h.0 e
NoZero-at (b ∷ bs) (suc i) h lt e = NoZero-at bs i h.1 (omega arith) e

pub has_zero : (name : List ℕ) (o : Option ℕ) → o ≡ position (λ b. b == 0) name → is_some o ≡ true → IsName name → ⊥
has_zero name None e s n = cc
has_zero name (Some i) e s n =
    let at = position-Some (λ b. b == 0) name i 0 (sym e) in
    NoZero-at name i n.no_zero at.0 (grind (arith, at.1))

pub Lacks-from_stands : (ps : List Pair) (name : List ℕ) → stands_in (names_of ps) name ≡ false → Lacks (pairs_of ps) name
Lacks-from_stands [] name e = tt
Lacks-from_stands (p ∷ ps) name e =
    let parts = or_false (bytes_eq name p.name) (stands_in (names_of ps) name) e in
    (ne-bytes_eq name p.name parts.0, Lacks-from_stands ps name parts.1)

pub stands-from_Lacks : (ps : List Pair) (name : List ℕ) → Lacks (pairs_of ps) name → stands_in (names_of ps) name ≡ false
stands-from_Lacks [] name h = refl
stands-from_Lacks (p ∷ ps) name h = rw (bytes_eq-ne name p.name h.0) (stands-from_Lacks ps name h.1)

pub is_repeated : (ps : List Pair) (qs : Pairs) (name : List ℕ) → pairs_of ps ≡ qs → stands_in (names_of ps) name ≡ true → Lacks qs name → ⊥
is_repeated ps qs name same e h =
    let f = stands-from_Lacks ps name (subst (λ (us : Pairs). Lacks us name) (sym same) h) in
    cc

-- a text in which no zero was found is a name
pub is_name : (name bytes : List ℕ) (o : Option ℕ) (found : Bool) → IsUtf8 name → bytes ≡ name → o ≡ position (λ b. b == 0) bytes → found ≡ is_some o
    → found ≡ false → IsName name
is_name name bytes o found utf8 same e f none =
    let at : is_some (position (λ b. b == 0) name) ≡ false =
    ap (λ (n : List ℕ). is_some (position (λ b. b == 0) n)) (sym same) ∙ ap is_some (sym e) ∙ sym f ∙ none in
    record { is_text = utf8; no_zero = NoZero-from_position name at }

-- a name that no pair was found to have is new
pub is_new : (ps seen : List Pair) (qs : Pairs) (name : List ℕ) (found : Bool) → seen ≡ ps → pairs_of ps ≡ qs → found ≡ stands_in (names_of seen) name
    → found ≡ false → Lacks qs name
is_new ps seen qs name found e same f none =
    subst (λ (us : Pairs). Lacks us name) same (Lacks-from_stands ps name (ap (λ (ws : List Pair). stands_in (names_of ws) name) (sym e) ∙ sym f ∙ none))

-- ---- one more pair

pub HoldsDocument-push : (ps : List Pair) (p : Pair) (so_far new : ℕ) → HoldsDocument so_far (pairs_of ps) → IsName p.name → IsTree (tree p.value)
    → levels (tree p.value) ≤ 99
    → stands_in (names_of ps) p.name ≡ false → new ≡ max so_far (levels (tree p.value)) → HoldsDocument new (pairs_of (ps ++ p ∷ []))
HoldsDocument-push ps p so_far new h n t deep e is = record {
  lawful = record {
    lawful = rw (pairs_of-push ps p) (IsPairs-append (pairs_of ps) p.name (tree p.value) h.lawful.lawful n t (Lacks-from_stands ps p.name e));
    depth = omega (arith, pairs_levels-push ps p, h.lawful.depth);
  };
  counted = omega (arith, pairs_levels-push ps p, h.counted, is);
}

-- ---- one more item

pub HoldsArray-push : (vs : List Value) (v : Value) (so_far new : ℕ) → HoldsArray so_far (items_of vs) → IsTree (tree v) → levels (tree v) ≤ 98
    → new ≡ max so_far (levels (tree v)) → HoldsArray new (items_of (vs ++ v ∷ []))
HoldsArray-push vs v so_far new h l deep is = record {
  lawful = record {
    lawful = rw (items_of-push vs v) (IsItems-append (items_of vs) (tree v) h.lawful.lawful l);
    depth = omega (arith, items_levels-push vs v, h.lawful.depth);
  };
  counted = omega (arith, items_levels-push vs v, h.counted, is);
}

-- ---- how many there are

pub pairs_len-is : (ps : List Pair) (qs : Pairs) (n len : ℕ) → pairs_of ps ≡ qs → len ≡ length ps → n ≡ len → n ≡ pairs_len qs
pairs_len-is ps qs n len same e f = f ∙ e ∙ sym (pairs_len-pairs_of ps) ∙ ap pairs_len same

pub items_len-is : (vs : List Value) (ts : Items) (n len : ℕ) → items_of vs ≡ ts → len ≡ length vs → n ≡ len → n ≡ items_len ts
items_len-is vs ts n len same e f = f ∙ e ∙ sym (items_len-items_of vs) ∙ ap items_len same

pub pairs_within : (ps : List Pair) (qs : Pairs) (at : ℕ) → pairs_of ps ≡ qs → at < pairs_len qs → at < length ps
pairs_within ps qs at same lt = omega (arith, ap pairs_len same, pairs_len-pairs_of ps)

pub items_within : (vs : List Value) (ts : Items) (at : ℕ) → items_of vs ≡ ts → at < items_len ts → at < length vs
items_within vs ts at same lt = omega (arith, ap items_len same, items_len-items_of vs)

-- ---- edits

pub HoldsDocument-edit : (ps qs : Pairs) (n : ℕ) → ps ≡ qs → IsDocument qs → n ≡ pairs_levels ps → HoldsDocument n ps
HoldsDocument-edit ps qs n same h counted = record { lawful = subst IsDocument (sym same) h; counted = counted }

pub HoldsArray-edit : (ts us : Items) (n : ℕ) → ts ≡ us → IsArray us → n ≡ items_levels ts → HoldsArray n ts
HoldsArray-edit ts us n same h counted = record { lawful = subst IsArray (sym same) h; counted = counted }

-- what a write of a value at a place does
pub pairs_set : (ps : List Pair) (qs : Pairs) (at : ℕ) (old p : Pair) (v : Value) → pairs_of ps ≡ qs → old ≡ get_or ps at old → p.name ≡ old.name → p.value ≡ v
    → pairs_of (set ps at p) ≡ with_value qs at (tree v)
pairs_set ps qs at old p v same is named valued =
    pairs_of-set ps at p old (named ∙ ap (λ (q : Pair). q.name) is) ∙ (λ i. with_value (same i) at (tree (valued i)))

pub items_set : (vs : List Value) (ts : Items) (at : ℕ) (w v : Value) → items_of vs ≡ ts → w ≡ v → items_of (set vs at w) ≡ with_item ts at (tree v)
items_set vs ts at w v same valued = items_of-set vs at w ∙ (λ i. with_item (same i) at (tree (valued i)))

pub pairs_removed : (ps new : List Pair) (qs : Pairs) (at : ℕ) → pairs_of ps ≡ qs → new ≡ take at ps ++ drop (suc at) ps → pairs_of new ≡ without_pair qs at
pairs_removed ps new qs at same e = ap pairs_of e ∙ pairs_of-remove ps at ∙ ap (λ (us : Pairs). without_pair us at) same

pub items_removed : (vs new : List Value) (ts : Items) (at : ℕ) → items_of vs ≡ ts → new ≡ take at vs ++ drop (suc at) vs → items_of new ≡ without_item ts at
items_removed vs new ts at same e = ap items_of e ∙ items_of-remove vs at ∙ ap (λ (us : Items). without_item us at) same

pub pair_there : (ps : List Pair) (qs : Pairs) (at : ℕ) (p : Pair) → pairs_of ps ≡ qs → at < length ps → p ≡ get_or ps at p
    → pair_at qs at ≡ Some (p.name, tree p.value)
pair_there ps qs at p same lt is =
    ap (λ (us : Pairs). pair_at us at) (sym same) ∙ pair_at-pairs_of ps at p lt ∙ ap (λ (q : Pair). Some (q.name, tree q.value)) (sym is)

pub item_there : (vs : List Value) (ts : Items) (at : ℕ) (v : Value) → items_of vs ≡ ts → at < length vs → v ≡ get_or vs at v → item_at ts at ≡ Some (tree v)
item_there vs ts at v same lt is =
    ap (λ (us : Items). item_at us at) (sym same) ∙ item_at-items_of vs at v lt ∙ ap (λ (w : Value). Some (tree w)) (sym is)

-- how deep these nest after a write that nests no less, and after one flat value went
pub pairs_set_levels : (ps seen : List Pair) (qs : Pairs) (at : ℕ) (old p : Pair) (v : Value) (n a b : ℕ) → pairs_of ps ≡ qs → at < length ps
    → old ≡ get_or ps at old → p.name ≡ old.name → p.value ≡ v → seen ≡ set ps at p
    → n ≡ pairs_levels (pairs_of ps) → a ≡ levels (tree old.value) → b ≡ levels (tree v) → a ≤ b → max n b ≡ pairs_levels (pairs_of seen)
pairs_set_levels ps seen qs at old p v n a b same lt is named valued e counted old_levels new_levels le =
    let changed = ap pairs_of e ∙ pairs_set ps qs at old p v same is named valued in
    let deeper =
    pairs_levels-with_deeper qs at old.name (tree old.value) (tree v) (pair_there ps qs at old same lt is) (omega (arith, old_levels, new_levels)) in
    omega (arith, ap pairs_levels changed, deeper, counted, ap pairs_levels same, new_levels)

pub items_set_levels : (vs seen : List Value) (ts : Items) (at : ℕ) (old w v : Value) (n a b : ℕ) → items_of vs ≡ ts → at < length vs → old ≡ get_or vs at old
    → w ≡ v → seen ≡ set vs at w
    → n ≡ items_levels (items_of vs) → a ≡ levels (tree old) → b ≡ levels (tree v) → a ≤ b → max n b ≡ items_levels (items_of seen)
items_set_levels vs seen ts at old w v n a b same lt is valued e counted old_levels new_levels le =
    let changed = ap items_of e ∙ items_set vs ts at w v same valued in
    let deeper = items_levels-with_deeper ts at (tree old) (tree v) (item_there vs ts at old same lt is) (omega (arith, old_levels, new_levels)) in
    omega (arith, ap items_levels changed, deeper, counted, ap items_levels same, new_levels)

pub pairs_removed_levels : (ps new seen : List Pair) (qs : Pairs) (at : ℕ) (p : Pair) (n a : ℕ) → pairs_of ps ≡ qs → at < length ps → p ≡ get_or ps at p
    → new ≡ take at ps ++ drop (suc at) ps → seen ≡ new
    → n ≡ pairs_levels (pairs_of ps) → a ≡ levels (tree p.value) → a ≤ 0 → max n 0 ≡ pairs_levels (pairs_of seen)
pairs_removed_levels ps new seen qs at p n a same lt is e seen_is counted old_levels flat =
    let changed = ap pairs_of seen_is ∙ pairs_removed ps new qs at same e in
    let kept = pairs_levels-without_flat qs at p.name (tree p.value) (pair_there ps qs at p same lt is) (omega (arith, old_levels)) in
    omega (arith, ap pairs_levels changed, kept, counted, ap pairs_levels same)

pub items_removed_levels : (vs new seen : List Value) (ts : Items) (at : ℕ) (v : Value) (n a : ℕ) → items_of vs ≡ ts → at < length vs → v ≡ get_or vs at v
    → new ≡ take at vs ++ drop (suc at) vs → seen ≡ new
    → n ≡ items_levels (items_of vs) → a ≡ levels (tree v) → a ≤ 0 → max n 0 ≡ items_levels (items_of seen)
items_removed_levels vs new seen ts at v n a same lt is e seen_is counted old_levels flat =
    let changed = ap items_of seen_is ∙ items_removed vs new ts at same e in
    let kept = items_levels-without_flat ts at (tree v) (item_there vs ts at v same lt is) (omega (arith, old_levels)) in
    omega (arith, ap items_levels changed, kept, counted, ap items_levels same)

-- ---- places

pub Lacks-more : (ps : List Pair) (i : ℕ) (p : Pair) (name : List ℕ) → i < length ps → p ≡ get_or ps i p → bytes_eq name p.name ≡ false
    → Lacks (pairs_of (take i ps)) name → Lacks (pairs_of (take (i + 1) ps)) name
Lacks-more ps i p name lt is differ lacks =
    let one : take (i + 1) ps ≡ take i ps ++ p ∷ [] = take_more ps i p lt ∙ ap (λ (r : Pair). take i ps ++ r ∷ []) (sym is) in
    subst (λ (us : Pairs). Lacks us name) (sym (ap pairs_of one ∙ pairs_of-push (take i ps) p))
    (Lacks-append (pairs_of (take i ps)) name p.name (tree p.value) lacks (ne-bytes_eq name p.name differ))

pub place_found : (ps : List Pair) (i : ℕ) (p : Pair) (name : List ℕ) → i < length ps → p ≡ get_or ps i p → bytes_eq name p.name ≡ true
    → Lacks (pairs_of (take i ps)) name → place (pairs_of ps) name ≡ Some i
place_found [] i p name lt is same lacks = absurd (omega arith)
place_found (q ∷ qs) zero p name lt is same lacks = let here : bytes_eq name q.name ≡ true = ap (λ (r : Pair). bytes_eq name r.name) (sym is) ∙ same in
    rw here refl
place_found (q ∷ qs) (suc i) p name lt is same lacks = rw (bytes_eq-ne name q.name lacks.0, place_found qs i p name (omega arith) is same lacks.1) refl

-- what keeps a new name from the end keeps it from being set
set_fault : (ps : Pairs) (name : List ℕ) (t : Tree) (e : BuildFault) → place ps name ≡ None → PushFault ps name t e → SetFault ps name t e
set_fault ps name t builds.Name absent f = ((place-absent ps name absent).0, f)
set_fault ps name t builds.Repeated absent f = f.1 (place-absent ps name absent).0
set_fault ps name t builds.Deep absent f = (λ _. f.0, f.2)
set_fault ps name t builds.Memory absent f = f

pub set_faults : (ps : Pairs) (name : List ℕ) (t : Tree) (r : Result (Unit {0}) BuildFault) → place ps name ≡ None → IfErr r (λ e. PushFault ps name t e)
    → IfErr r (λ e. SetFault ps name t e)
set_faults ps name t (Ok u) absent f = f
set_faults ps name t (Err e) absent f = set_fault ps name t e absent f

-- a name that has a place is a lawful one, so only a value that is too deep keeps it from being set
pub replace_fault : (ps : Pairs) (name : List ℕ) (t : Tree) (i : ℕ) (e : BuildFault) → place ps name ≡ Some i → ReplaceFault 99 t e → SetFault ps name t e
replace_fault ps name t i builds.Name there f = absurd f
replace_fault ps name t i builds.Repeated there f = f
replace_fault ps name t i builds.Deep there f = (λ lacks. let none = place-Lacks ps name lacks in absurd cc, f)
replace_fault ps name t i builds.Memory there f = absurd f

-- ---- pair after pair

pairs_split : (ps : List Pair) (i : ℕ) (p : Pair) → i < length ps → p ≡ get_or ps i p
    → pairs_of ps ≡ append (pairs_of (take i ps)) (pair p.name (tree p.value) (pairs_of (drop (suc i) ps)))
pairs_split [] i p lt is = absurd (omega arith)
pairs_split (q ∷ qs) zero p lt is = ap (λ (r : Pair). pair r.name (tree r.value) (pairs_of qs)) (sym is)
pairs_split (q ∷ qs) (suc i) p lt is = ap (pair q.name (tree q.value)) (pairs_split qs i p (omega arith) is)

pub refused : (ps : List Pair) (i : ℕ) (p : Pair) (levels : ℕ) (e : BuildFault) → i < length ps → p ≡ get_or ps i p
    → HoldsDocument levels (pairs_of (take i ps)) → PushFault (pairs_of (take i ps)) p.name (tree p.value) e
    → Refused (pairs_of ps) e
refused ps i p levels e lt is holds fault =
    record {
      before = pairs_of (take i ps);
      name = p.name;
      value = tree p.value;
      behind = pairs_of (drop (suc i) ps);
      parts = pairs_split ps i p lt is;
      lawful = holds.lawful;
      fault = fault;
    }

pub one_more : (ps : List Pair) (i : ℕ) (p : Pair) → i < length ps → p ≡ get_or ps i p → take (i + 1) ps ≡ take i ps ++ p ∷ []
one_more ps i p lt is = take_more ps i p lt ∙ ap (λ (r : Pair). take i ps ++ r ∷ []) (sym is)

-- ---- copies

pub copy_pair : (ps copies : List Pair) (i : ℕ) (p q : Pair) → i < length ps → q ≡ get_or ps i q → p.name ≡ q.name → tree p.value ≡ tree q.value
    → pairs_of copies ≡ pairs_of (take i ps)
    → pairs_of (copies ++ p ∷ []) ≡ pairs_of (take (i + 1) ps)
copy_pair ps copies i p q lt is en ev so_far =
    let one : take (i + 1) ps ≡ take i ps ++ q ∷ [] = take_more ps i q lt ∙ ap (λ (r : Pair). take i ps ++ r ∷ []) (sym is) in
    pairs_of-push copies p ∙ (λ j. append (so_far j) (pair (en j) (ev j) no_pairs)) ∙ sym (ap pairs_of one ∙ pairs_of-push (take i ps) q)

pub copy_item : (vs copies : List Value) (i : ℕ) (v w : Value) → i < length vs → w ≡ get_or vs i w → tree v ≡ tree w → items_of copies ≡ items_of (take i vs)
    → items_of (copies ++ v ∷ []) ≡ items_of (take (i + 1) vs)
copy_item vs copies i v w lt is ev so_far =
    let one : take (i + 1) vs ≡ take i vs ++ w ∷ [] = take_more vs i w lt ∙ ap (λ (r : Value). take i vs ++ r ∷ []) (sym is) in
    items_of-push copies v ∙ (λ j. append_items (so_far j) (item (ev j) no_items)) ∙ sym (ap items_of one ∙ items_of-push (take i vs) w)

pub pairs_levels-more : (ps : List Pair) (i : ℕ) (p : Pair) → i < length ps → p ≡ get_or ps i p
    → pairs_levels (pairs_of (take (i + 1) ps)) ≡ max (pairs_levels (pairs_of (take i ps))) (levels (tree p.value))
pairs_levels-more ps i p lt is =
    let one : take (i + 1) ps ≡ take i ps ++ p ∷ [] = take_more ps i p lt ∙ ap (λ (r : Pair). take i ps ++ r ∷ []) (sym is) in
    ap (λ (xs : List Pair). pairs_levels (pairs_of xs)) one ∙ pairs_levels-push (take i ps) p

pub items_levels-more : (vs : List Value) (i : ℕ) (v : Value) → i < length vs → v ≡ get_or vs i v
    → items_levels (items_of (take (i + 1) vs)) ≡ max (items_levels (items_of (take i vs))) (levels (tree v))
items_levels-more vs i v lt is =
    let one : take (i + 1) vs ≡ take i vs ++ v ∷ [] = take_more vs i v lt ∙ ap (λ (w : Value). take i vs ++ w ∷ []) (sym is) in
    ap (λ (xs : List Value). items_levels (items_of xs)) one ∙ items_levels-push (take i vs) v
