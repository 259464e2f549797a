-- Tokens that are put one behind the other, as a loop does.
use Rattle.std.proofs.Common.{◌≡◌, ℕ, zero, suc, ◌+◌, ◌<◌, ◌≤◌, List, [], ◌∷◌, ◌++◌, length, take, get_or, map, refl, sym, ap, ◌∙◌, append_assoc, arith}
use Rattle.std.proofs.lemmas.List.{take_more, take_all, append-nil}
use Rattle.json.specs.Token as json
use Rattle.json.specs.Token.{Token}
use Rattle.json.specs.Print.{IsPrintable}
use Rattle.bson.specs.declared.value.Value.{Value}
use Rattle.bson.specs.declared.value.Pair.{Pair}
use Rattle.std.specs.Prelude.{Result, Ok, Err, OnOk, nat_lt, IsAscii}
use Rattle.std.specs.List.{list_all}
use Rattle.std.proofs.Common.{true}
use Rattle.std.proofs.lemmas.Str.Ascii.{IsAscii-nil, IsAscii-cons}
use Rattle.hex.specs.Hex.{lower_digits, encode_lower}
use Rattle.hex.proofs.HexLemmas.{IsAscii-encode_with}
use Rattle.bson.specs.Tree.{count, count_pairs, count_items, Tree, document, array, Pairs, no_pairs, pair, append, Items, no_items, item, append_items}
use Rattle.bson.specs.View.{tree, pairs_of, items_of}
use Rattle.bson.specs.EditsLaws.{pairs_of-push, items_of-push}
use Rattle.ext_json.specs.declared.form.Form.{Form}
use Rattle.ext_json.specs.Written.{CanWrite, tree_tokens, pairs_tokens, items_tokens}

pub pairs_tokens-push : (form : Form) (ps : Pairs) (name : List ℕ) (t : Tree)
    → pairs_tokens form (append ps (pair name t no_pairs)) ≡ pairs_tokens form ps ++ json.key name ∷ tree_tokens form t
unfolding pairs_tokens
pairs_tokens-push form no_pairs name t = ap (λ (ts : List Token). json.key name ∷ ts) (append-nil (tree_tokens form t))
pairs_tokens-push form (pair other u ps) name t =
    ap (λ (ts : List Token). json.key other ∷ (tree_tokens form u ++ ts)) (pairs_tokens-push form ps name t)
    ∙ ap (λ (ts : List Token). json.key other ∷ ts) (sym (append_assoc (tree_tokens form u) (pairs_tokens form ps) (json.key name ∷ tree_tokens form t)))

pub items_tokens-push : (form : Form) (ts : Items) (t : Tree)
    → items_tokens form (append_items ts (item t no_items)) ≡ items_tokens form ts ++ tree_tokens form t
unfolding items_tokens
items_tokens-push form no_items t = append-nil (tree_tokens form t)
items_tokens-push form (item u ts) t =
    ap (λ (us : List Token). tree_tokens form u ++ us) (items_tokens-push form ts t)
    ∙ sym (append_assoc (tree_tokens form u) (items_tokens form ts) (tree_tokens form t))

-- one pair more
pub pair_put : (form : Form) (ps : List Pair) (i : ℕ) (p : Pair) (front old named new : List Token) → i < length ps → p ≡ get_or ps i p
    → old ≡ front ++ pairs_tokens form (pairs_of (take i ps)) → named ≡ old ++ json.key p.name ∷ [] → new ≡ named ++ tree_tokens form (tree p.value)
    → new ≡ front ++ pairs_tokens form (pairs_of (take (i + 1) ps))
pair_put form ps i p front old named new lt is e f g =
    let one : take (i + 1) ps ≡ take i ps ++ p ∷ [] = take_more ps i p lt ∙ ap (λ (q : Pair). take i ps ++ q ∷ []) (sym is) in
    let grown : pairs_tokens form (pairs_of (take (i + 1) ps)) ≡ pairs_tokens form (pairs_of (take i ps)) ++ json.key p.name ∷ tree_tokens form (tree p.value)
    = ap (λ (xs : List Pair). pairs_tokens form (pairs_of xs)) one ∙ ap (pairs_tokens form) (pairs_of-push (take i ps) p)
    ∙ pairs_tokens-push form (pairs_of (take i ps)) p.name (tree p.value) in
    g ∙ ap (λ (xs : List Token). xs ++ tree_tokens form (tree p.value)) f
    ∙ append_assoc old (json.key p.name ∷ []) (tree_tokens form (tree p.value))
    ∙ ap (λ (xs : List Token). xs ++ json.key p.name ∷ tree_tokens form (tree p.value)) e
    ∙ append_assoc front (pairs_tokens form (pairs_of (take i ps))) (json.key p.name ∷ tree_tokens form (tree p.value))
    ∙ ap (λ (xs : List Token). front ++ xs) (sym grown)

-- one item more
pub item_put : (form : Form) (vs : List Value) (i : ℕ) (v : Value) (front old new : List Token) → i < length vs → v ≡ get_or vs i v
    → old ≡ front ++ items_tokens form (items_of (take i vs)) → new ≡ old ++ tree_tokens form (tree v)
    → new ≡ front ++ items_tokens form (items_of (take (i + 1) vs))
item_put form vs i v front old new lt is e g =
    let one : take (i + 1) vs ≡ take i vs ++ v ∷ [] = take_more vs i v lt ∙ ap (λ (w : Value). take i vs ++ w ∷ []) (sym is) in
    let grown : items_tokens form (items_of (take (i + 1) vs)) ≡ items_tokens form (items_of (take i vs)) ++ tree_tokens form (tree v)
    = ap (λ (xs : List Value). items_tokens form (items_of xs)) one ∙ ap (items_tokens form) (items_of-push (take i vs) v)
    ∙ items_tokens-push form (items_of (take i vs)) (tree v) in
    g ∙ ap (λ (xs : List Token). xs ++ tree_tokens form (tree v)) e
    ∙ append_assoc front (items_tokens form (items_of (take i vs))) (tree_tokens form (tree v))
    ∙ ap (λ (xs : List Token). front ++ xs) (sym grown)

pub no_pair_put : (form : Form) (ps : List Pair) (front : List Token) → front ≡ front ++ pairs_tokens form (pairs_of (take 0 ps))
unfolding pairs_tokens
no_pair_put form [] front = sym (append-nil front)
no_pair_put form (p ∷ ps) front = sym (append-nil front)

pub no_item_put : (form : Form) (vs : List Value) (front : List Token) → front ≡ front ++ items_tokens form (items_of (take 0 vs))
unfolding items_tokens
no_item_put form [] front = sym (append-nil front)
no_item_put form (v ∷ vs) front = sym (append-nil front)

-- all of them, and the end
pub document_put : (form : Form) (ps : List Pair) (d : Pairs) (i : ℕ) (before old new : List Token) → length ps ≤ i → pairs_of ps ≡ d
    → old ≡ (before ++ json.begin_object ∷ []) ++ pairs_tokens form (pairs_of (take i ps)) → new ≡ old ++ json.end_object ∷ []
    → new ≡ before ++ tree_tokens form (document d)
unfolding tree_tokens
document_put form ps d i before old new le same e g =
    let all : pairs_of (take i ps) ≡ d = ap pairs_of (take_all i ps le) ∙ same in
    g ∙ ap (λ (xs : List Token). xs ++ json.end_object ∷ []) e
    ∙ ap (λ (qs : Pairs). ((before ++ json.begin_object ∷ []) ++ pairs_tokens form qs) ++ json.end_object ∷ []) all
    ∙ append_assoc (before ++ json.begin_object ∷ []) (pairs_tokens form d) (json.end_object ∷ [])
    ∙ append_assoc before (json.begin_object ∷ []) (pairs_tokens form d ++ json.end_object ∷ [])

pub array_put : (form : Form) (vs : List Value) (ts : Items) (i : ℕ) (before old new : List Token) → length vs ≤ i → items_of vs ≡ ts
    → old ≡ (before ++ json.begin_array ∷ []) ++ items_tokens form (items_of (take i vs)) → new ≡ old ++ json.end_array ∷ []
    → new ≡ before ++ tree_tokens form (array ts)
unfolding tree_tokens
array_put form vs ts i before old new le same e g =
    let all : items_of (take i vs) ≡ ts = ap items_of (take_all i vs le) ∙ same in
    g ∙ ap (λ (xs : List Token). xs ++ json.end_array ∷ []) e
    ∙ ap (λ (us : Items). ((before ++ json.begin_array ∷ []) ++ items_tokens form us) ++ json.end_array ∷ []) all
    ∙ append_assoc (before ++ json.begin_array ∷ []) (items_tokens form ts) (json.end_array ∷ [])
    ∙ append_assoc before (json.begin_array ∷ []) (items_tokens form ts ++ json.end_array ∷ [])

-- each of tokens that can be written can be
pub printable_at : {A : Type 0} (f : A → Token) (xs : List A) (i : ℕ) (d : A) → CanWrite (map f xs) → i < length xs → IsPrintable (f (get_or xs i d))
printable_at f [] i d h lt = absurd (omega arith)
printable_at f (x ∷ xs) zero d h lt = h.0
printable_at f (x ∷ xs) (suc i) d h lt = printable_at f xs i d h.1 (omega arith)

-- ---- measures

pub count_pair : (ps : List Pair) (i : ℕ) (p : Pair) → i < length ps → p ≡ get_or ps i p → count (tree p.value) ≤ count_pairs (pairs_of ps)
count_pair [] i p lt is = absurd (omega arith)
count_pair (q ∷ qs) zero p lt is = omega (arith, ap (λ (x : Pair). count (tree x.value)) is)
count_pair (q ∷ qs) (suc i) p lt is = omega (arith, count_pair qs i p (omega arith) is)

pub count_item : (vs : List Value) (i : ℕ) (v : Value) → i < length vs → v ≡ get_or vs i v → count (tree v) ≤ count_items (items_of vs)
count_item [] i v lt is = absurd (omega arith)
count_item (w ∷ ws) zero v lt is = omega (arith, ap (λ (x : Value). count (tree x)) is)
count_item (w ∷ ws) (suc i) v lt is = omega (arith, count_item ws i v (omega arith) is)

pub on_ok : {T E : Type 0} (r : Result T E) (P Q : Type 0) → (P → Q) → OnOk r P → OnOk r Q
on_ok (Ok x) P Q f h = f h
on_ok (Err e) P Q f h = tt

-- ---- hex digits

IsAscii-list : (bs : List ℕ) → list_all (λ b. nat_lt b 128) bs ≡ true → IsAscii bs
IsAscii-list [] h = IsAscii-nil
IsAscii-list (b ∷ bs) h = grind (arith, IsAscii-cons, IsAscii-list bs)

pub IsAscii-hex : (bytes : List ℕ) → IsAscii (encode_lower bytes)
IsAscii-hex bytes = IsAscii-encode_with lower_digits bytes (IsAscii-list lower_digits refl)
