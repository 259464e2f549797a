-- What canonical writing put for a document is read back.
use Rattle.std.proofs.Common.{◌≡◌, ◌≢◌, ℕ, zero, suc, ◌+◌, ◌-◌, ◌/◌, ◌%◌, ◌<◌, ◌≤◌, ◌^◌, Bool, true, false, List, [], ◌∷◌, ◌++◌, length, Some, None, Result, Ok}
use Rattle.std.proofs.Common.{refl, sym, ap, subst, ◌∙◌, append_assoc, arith, lit<}
use Rattle.std.specs.Prelude.{◌==◌, ◌||◌}
use Rattle.std.specs.List.{list_any}
use Rattle.std.proofs.lemmas.Bool.{eqb-true}
use Rattle.std.proofs.lemmas.List.{length-append}
use Rattle.std.proofs.lemmas.Fmt.{decimal_digit}
use Rattle.json.specs.Token as json
use Rattle.json.specs.Token.{Token}
use Rattle.json.specs.Print.{ArePrintable, IsNumber}
use Rattle.json.proofs.Printed.Tokens.{tokens-print}
use Rattle.json.proofs.Printed.Decimals.{IsNumber-decimal}
use Rattle.bson.specs.Lawful.{levels, pairs_levels, items_levels, NoZero, IsName, Lacks, IsScalar, IsTree, IsPairs, IsItems, IsDocument}
use Rattle.bson.specs.Tree.{Scalar, text, binary, object_id, boolean, date, null, int32, timestamp, int64, min_key, max_key, Tree, scalar, document, array}
use Rattle.bson.specs.Tree.{Pairs, no_pairs, pair, append, Items, no_items, item, append_items}
use Rattle.bson.specs.Edits.{pairs_len, items_len}
use Rattle.bson.specs.EditPlaces.{append-none, append-one, append_items-none, append_items-one}
use Rattle.ext_json.specs.Written.{scalar_tokens, tree_tokens, pairs_tokens, items_tokens, document_tokens, canonical_text}
use Rattle.ext_json.specs.Tokens.{first, rest, key_at}
use Rattle.ext_json.specs.Wrappers.{wrapper_in}
use Rattle.ext_json.specs.Parsing.{has_name, new_name, pairs_by, is_end, items_by, most_turns, value_at, document_in, document_at}
use Rattle.ext_json.specs.RoundTrip.{first_name, HasNoWrapper, PairsHaveNoWrapper, ItemsHaveNoWrapper}
use Rattle.ext_json.specs.declared.fault.ExtJsonFault.{ExtJsonFault}
use Rattle.ext_json.specs.declared.form.Form.TheVariants.{Canonical}
use Rattle.ext_json.proofs.ParsingLemmas.{name_from_Lacks, value_is, document_found, array_found}
use Rattle.ext_json.proofs.ScalarsBack.{scalar_back}

-- ---- names

zero_free : (name : List ℕ) → NoZero name → list_any (λ b. b == 0) name ≡ false
zero_free [] h = refl
zero_free (b ∷ bs) h = by (b == 0) refl (zero_free bs h.1)
  where
    by : (c : Bool) → (b == 0) ≡ c → list_any (λ x. x == 0) bs ≡ false → (c || list_any (λ x. x == 0) bs) ≡ false
    by true e m = absurd (h.0 (eqb-true b 0 e))
    by false e m = m

new_ok : (done : Pairs) (name : List ℕ) → IsName name → Lacks done name → new_name (has_name done) name ≡ Ok tt
new_ok done name h lacks = rw (zero_free name h.no_zero, name_from_Lacks done name lacks) refl

other_before : (ds : Pairs) (name other : List ℕ) (t : Tree) (qs : Pairs) → Lacks (append ds (pair name t qs)) other → other ≢ name
other_before no_pairs name other t qs h = h.0
other_before (pair p u ds) name other t qs h = other_before ds name other t qs h.1

lacks_before : (done : Pairs) (name : List ℕ) (t : Tree) (qs : Pairs) → IsPairs (append done (pair name t qs)) → Lacks done name
lacks_before no_pairs name t qs h = tt
lacks_before (pair other u ds) name t qs h = ((λ e. other_before ds name other t qs h.2 (sym e)), lacks_before ds name t qs h.3)

at_seam : (done : Pairs) (name : List ℕ) (t : Tree) (qs : Pairs) → IsPairs (append done (pair name t qs)) → IsName name × IsTree t
at_seam no_pairs name t qs h = (h.0, h.1)
at_seam (pair other u ds) name t qs h = at_seam ds name t qs h.3

-- ---- tokens

-- what stands behind the first name of some pairs, or behind their end
abbrev after_name : Pairs → List Token → List Token
after_name no_pairs us = us
after_name (pair name t qs) us = (tree_tokens Canonical t ++ pairs_tokens Canonical qs) ++ json.end_object ∷ us

key_of : (ps : Pairs) (us : List Token) → key_at (pairs_tokens Canonical ps ++ json.end_object ∷ us) ≡ Ok (first_name ps, after_name ps us)
unfolding pairs_tokens
key_of no_pairs us = refl
key_of (pair name t qs) us = refl

begins : (t : Tree) (us : List Token) → is_end (first (tree_tokens Canonical t ++ us)) ≡ false
unfolding tree_tokens
begins (scalar (text s)) us = refl
begins (scalar (binary subtype bytes)) us = refl
begins (scalar (object_id bytes)) us = refl
begins (scalar (boolean b)) us = refl
begins (scalar (date z)) us = refl
begins (scalar null) us = refl
begins (scalar (int32 z)) us = refl
begins (scalar (timestamp n)) us = refl
begins (scalar (int64 z)) us = refl
begins (scalar min_key) us = refl
begins (scalar max_key) us = refl
begins (document ps) us = refl
begins (array ts) us = refl

some_token : (t : Tree) → 0 < length (tree_tokens Canonical t)
unfolding tree_tokens
some_token (scalar (text s)) = omega arith
some_token (scalar (binary subtype bytes)) = omega arith
some_token (scalar (object_id bytes)) = omega arith
some_token (scalar (boolean b)) = omega arith
some_token (scalar (date z)) = omega arith
some_token (scalar null) = omega arith
some_token (scalar (int32 z)) = omega arith
some_token (scalar (timestamp n)) = omega arith
some_token (scalar (int64 z)) = omega arith
some_token (scalar min_key) = omega arith
some_token (scalar max_key) = omega arith
some_token (document ps) = omega arith
some_token (array ts) = omega arith

pair-length : (name : List ℕ) (t : Tree) (qs : Pairs)
    → length (pairs_tokens Canonical (pair name t qs)) ≡ 1 + length (tree_tokens Canonical t) + length (pairs_tokens Canonical qs)
unfolding pairs_tokens
pair-length name t qs = omega (arith, length-append (tree_tokens Canonical t) (pairs_tokens Canonical qs))

item-length : (t : Tree) (ts : Items) → length (items_tokens Canonical (item t ts)) ≡ length (tree_tokens Canonical t) + length (items_tokens Canonical ts)
unfolding items_tokens
item-length t ts = omega (arith, length-append (tree_tokens Canonical t) (items_tokens Canonical ts))

document-length : (ps : Pairs) → length (tree_tokens Canonical (document ps)) ≡ 2 + length (pairs_tokens Canonical ps)
unfolding tree_tokens
document-length ps = omega (arith, length-append (pairs_tokens Canonical ps) (json.end_object ∷ []))

array-length : (ts : Items) → length (tree_tokens Canonical (array ts)) ≡ 2 + length (items_tokens Canonical ts)
unfolding tree_tokens
array-length ts = omega (arith, length-append (items_tokens Canonical ts) (json.end_array ∷ []))

pairs_len-tokens : (ps : Pairs) → pairs_len ps ≤ length (pairs_tokens Canonical ps)
pairs_len-tokens no_pairs = omega arith
pairs_len-tokens (pair name t qs) = omega (arith, pair-length name t qs, pairs_len-tokens qs)

items_len-tokens : (ts : Items) → items_len ts ≤ length (items_tokens Canonical ts)
items_len-tokens no_items = omega arith
items_len-tokens (item t ts) = omega (arith, item-length t ts, some_token t, items_len-tokens ts)

-- ---- one turn

pairs_end : (value : Token → List Token → Result (Tree × List Token) ExtJsonFault) (turns : ℕ) (done : Pairs) (us : List Token) → 0 < turns
    → pairs_by value turns done None us ≡ Ok (append done no_pairs, us)
unfolding pairs_by
pairs_end value zero done us some = absurd (omega arith)
pairs_end value (suc turns) done us some = ap (λ (ps : Pairs). Ok (ps, us)) (sym (append-none done))

pair_turn : (value : Token → List Token → Result (Tree × List Token) ExtJsonFault) (turns : ℕ) (done : Pairs) (name : List ℕ) (t : Tree) (qs : Pairs)
    (us : List Token) (r : Result (Pairs × List Token) ExtJsonFault)
    → 0 < turns → new_name (has_name done) name ≡ Ok tt
    → value (first (tree_tokens Canonical t ++ (pairs_tokens Canonical qs ++ json.end_object ∷ us)))
    (rest (tree_tokens Canonical t ++ (pairs_tokens Canonical qs ++ json.end_object ∷ us))) ≡ Ok (t, pairs_tokens Canonical qs ++ json.end_object ∷ us)
    → pairs_by value (turns - 1) (append done (pair name t no_pairs)) (first_name qs) (after_name qs us) ≡ r
    → pairs_by value turns done (Some name) (after_name (pair name t qs) us) ≡ r
unfolding pairs_by
pair_turn value zero done name t qs us r some new v more = absurd (omega arith)
pair_turn value (suc turns) done name t qs us r some new v more =
    let left : suc turns - 1 ≡ turns = omega arith in
    let next = subst (λ (n : ℕ). pairs_by value n (append done (pair name t no_pairs)) (first_name qs) (after_name qs us) ≡ r) left more in
    ap (λ (ts : List Token). pairs_by value (suc turns) done (Some name) ts)
    (append_assoc (tree_tokens Canonical t) (pairs_tokens Canonical qs) (json.end_object ∷ us))
    ∙ rw (new, v, key_of qs us) next

items_end : (value : Token → List Token → Result (Tree × List Token) ExtJsonFault) (turns : ℕ) (done : Items) (us : List Token) → 0 < turns
    → items_by value turns done (items_tokens Canonical no_items ++ json.end_array ∷ us) ≡ Ok (append_items done no_items, us)
unfolding items_by items_tokens
items_end value zero done us some = absurd (omega arith)
items_end value (suc turns) done us some = ap (λ (ts : Items). Ok (ts, us)) (sym (append_items-none done))

item_turn : (value : Token → List Token → Result (Tree × List Token) ExtJsonFault) (turns : ℕ) (done : Items) (t : Tree) (vs : Items) (us : List Token)
    (r : Result (Items × List Token) ExtJsonFault)
    → 0 < turns
    → value (first (tree_tokens Canonical t ++ (items_tokens Canonical vs ++ json.end_array ∷ us)))
    (rest (tree_tokens Canonical t ++ (items_tokens Canonical vs ++ json.end_array ∷ us))) ≡ Ok (t, items_tokens Canonical vs ++ json.end_array ∷ us)
    → items_by value (turns - 1) (append_items done (item t no_items)) (items_tokens Canonical vs ++ json.end_array ∷ us) ≡ r
    → items_by value turns done (items_tokens Canonical (item t vs) ++ json.end_array ∷ us) ≡ r
unfolding items_by items_tokens
item_turn value zero done t vs us r some v more = absurd (omega arith)
item_turn value (suc turns) done t vs us r some v more =
    let left : suc turns - 1 ≡ turns = omega arith in
    let next = subst (λ (n : ℕ). items_by value n (append_items done (item t no_items)) (items_tokens Canonical vs ++ json.end_array ∷ us) ≡ r) left more in
    ap (λ (ts : List Token). items_by value (suc turns) done ts) (append_assoc (tree_tokens Canonical t) (items_tokens Canonical vs) (json.end_array ∷ us))
    ∙ rw (begins t (items_tokens Canonical vs ++ json.end_array ∷ us), v) next

-- ---- values

document_back : (more : ℕ) (ps : Pairs) (us : List Token) → 0 < more → wrapper_in (first_name ps) ≡ None
    → pairs_by (value_at (more - 1)) most_turns no_pairs (first_name ps) (after_name ps us) ≡ Ok (ps, us)
    → value_at more (first (tree_tokens Canonical (document ps) ++ us)) (rest (tree_tokens Canonical (document ps) ++ us)) ≡ Ok (document ps, us)
unfolding tree_tokens
document_back more ps us some plain read =
    sym (value_is more json.begin_object ((pairs_tokens Canonical ps ++ json.end_object ∷ []) ++ us))
    ∙ rw (append_assoc (pairs_tokens Canonical ps) (json.end_object ∷ []) us, key_of ps us, plain)
    (document_found more (first_name ps) (after_name ps us) us ps some read)

array_back : (more : ℕ) (ts : Items) (us : List Token) → 0 < more
    → items_by (value_at (more - 1)) most_turns no_items (items_tokens Canonical ts ++ json.end_array ∷ us) ≡ Ok (ts, us)
    → value_at more (first (tree_tokens Canonical (array ts) ++ us)) (rest (tree_tokens Canonical (array ts) ++ us)) ≡ Ok (array ts, us)
unfolding tree_tokens
array_back more ts us some read =
    sym (value_is more json.begin_array ((items_tokens Canonical ts ++ json.end_array ∷ []) ++ us))
    ∙ rw (append_assoc (items_tokens Canonical ts) (json.end_array ∷ []) us)
    (array_found more (items_tokens Canonical ts ++ json.end_array ∷ us) us ts some read)

leaf_back : (more : ℕ) (s : Scalar) (us : List Token) → IsScalar s
    → value_at more (first (tree_tokens Canonical (scalar s) ++ us)) (rest (tree_tokens Canonical (scalar s) ++ us)) ≡ Ok (scalar s, us)
unfolding tree_tokens
leaf_back more s us h = scalar_back more s us h

mutual
  value_back : (more : ℕ) (t : Tree) (us : List Token) → IsTree t → HasNoWrapper t → levels t ≤ more → length (tree_tokens Canonical t) ≤ most_turns
      → value_at more (first (tree_tokens Canonical t ++ us)) (rest (tree_tokens Canonical t ++ us)) ≡ Ok (t, us)
  value_back more (scalar s) us l w d n = leaf_back more s us l
  value_back more (document ps) us l w d n =
      document_back more ps us (omega arith) w.0
      (pairs_back (more - 1) most_turns no_pairs ps us l w.1 (omega arith) (omega (arith, pairs_len-tokens ps, document-length ps))
      (omega (arith, document-length ps)))
  value_back more (array ts) us l w d n =
      array_back more ts us (omega arith)
      (items_back (more - 1) most_turns no_items ts us l w (omega arith) (omega (arith, items_len-tokens ts, array-length ts)) (omega (arith, array-length ts)))

  pairs_back : (more turns : ℕ) (done ps : Pairs) (us : List Token) → IsPairs (append done ps) → PairsHaveNoWrapper ps → pairs_levels ps ≤ more
      → pairs_len ps < turns → length (pairs_tokens Canonical ps) ≤ most_turns
      → pairs_by (value_at more) turns done (first_name ps) (after_name ps us) ≡ Ok (append done ps, us)
  pairs_back more turns done no_pairs us l w d n s = pairs_end (value_at more) turns done us (omega arith)
  pairs_back more turns done (pair name t qs) us l w d n s =
      pair_turn (value_at more) turns done name t qs us (Ok (append done (pair name t qs), us)) (omega arith)
      (new_ok done name (at_seam done name t qs l).0 (lacks_before done name t qs l))
      (value_back more t (pairs_tokens Canonical qs ++ json.end_object ∷ us) (at_seam done name t qs l).1 w.0 (omega arith)
      (omega (arith, pair-length name t qs)))
      (pairs_back more (turns - 1) (append done (pair name t no_pairs)) qs us (subst IsPairs (sym (append-one done name t qs)) l) w.1 (omega arith)
      (omega arith) (omega (arith, pair-length name t qs))
      ∙ ap (λ (ps : Pairs). Ok (ps, us)) (append-one done name t qs))

  items_back : (more turns : ℕ) (done ts : Items) (us : List Token) → IsItems ts → ItemsHaveNoWrapper ts → items_levels ts ≤ more → items_len ts < turns
      → length (items_tokens Canonical ts) ≤ most_turns
      → items_by (value_at more) turns done (items_tokens Canonical ts ++ json.end_array ∷ us) ≡ Ok (append_items done ts, us)
  items_back more turns done no_items us l w d n s = items_end (value_at more) turns done us (omega arith)
  items_back more turns done (item t vs) us l w d n s =
      item_turn (value_at more) turns done t vs us (Ok (append_items done (item t vs), us)) (omega arith)
      (value_back more t (items_tokens Canonical vs ++ json.end_array ∷ us) l.0 w.0 (omega arith) (omega (arith, item-length t vs)))
      (items_back more (turns - 1) (append_items done (item t no_items)) vs us l.1 w.1 (omega arith) (omega arith) (omega (arith, item-length t vs))
      ∙ ap (λ (ts : Items). Ok (ts, us)) (append_items-one done t vs))

-- ---- texts

printed_both : (xs ys : List Token) → ArePrintable xs → ArePrintable ys → ArePrintable (xs ++ ys)
unfolding ArePrintable
printed_both [] ys h g = g
printed_both (x ∷ xs) ys h g = (h.0, printed_both xs ys h.1 g)

one_is_number : IsNumber (49 ∷ [])
one_is_number = subst IsNumber (decimal_digit 1 (lit< tt)) (IsNumber-decimal 1 (lit< tt))

scalar_printable : (s : Scalar) → IsScalar s → ArePrintable (scalar_tokens Canonical s)
unfolding ArePrintable
scalar_printable (text s) h = (tt, tt)
scalar_printable (binary subtype bytes) h = (tt, (tt, (tt, (tt, (tt, (tt, (tt, (tt, (tt, tt)))))))))
scalar_printable (object_id bytes) h = (tt, (tt, (tt, (tt, tt))))
scalar_printable (boolean b) h = (tt, tt)
scalar_printable (date z) h = (tt, (tt, (tt, (tt, (tt, (tt, (tt, tt)))))))
scalar_printable null h = (tt, tt)
scalar_printable (int32 z) h = (tt, (tt, (tt, (tt, tt))))
scalar_printable (timestamp n) h =
    (tt, (tt, (tt, (tt, (IsNumber-decimal (n / 2 ^ 32) (omega arith), (tt, (IsNumber-decimal (n % 2 ^ 32) (omega arith), (tt, (tt, tt)))))))))
scalar_printable (int64 z) h = (tt, (tt, (tt, (tt, tt))))
scalar_printable min_key h = (tt, (tt, (one_is_number, (tt, tt))))
scalar_printable max_key h = (tt, (tt, (one_is_number, (tt, tt))))

mutual
  unfolding tree_tokens ArePrintable

  tree_printable : (t : Tree) → IsTree t → ArePrintable (tree_tokens Canonical t)
  tree_printable (scalar s) h = scalar_printable s h
  tree_printable (document ps) h = (tt, printed_both (pairs_tokens Canonical ps) (json.end_object ∷ []) (pairs_printable ps h) (tt, tt))
  tree_printable (array ts) h = (tt, printed_both (items_tokens Canonical ts) (json.end_array ∷ []) (items_printable ts h) (tt, tt))

  pairs_printable : (ps : Pairs) → IsPairs ps → ArePrintable (pairs_tokens Canonical ps)
  pairs_printable no_pairs h = tt
  pairs_printable (pair name t ps) h = (tt, printed_both (tree_tokens Canonical t) (pairs_tokens Canonical ps) (tree_printable t h.1) (pairs_printable ps h.3))

  items_printable : (ts : Items) → IsItems ts → ArePrintable (items_tokens Canonical ts)
  items_printable no_items h = tt
  items_printable (item t ts) h = printed_both (tree_tokens Canonical t) (items_tokens Canonical ts) (tree_printable t h.0) (items_printable ts h.1)

tokens_back : (ps : Pairs) → pairs_by (value_at 99) most_turns no_pairs (first_name ps) (after_name ps []) ≡ Ok (ps, [])
    → document_in (tree_tokens Canonical (document ps)) ≡ Ok ps
unfolding tree_tokens
tokens_back ps read = rw (key_of ps [], read) refl

fewer : (n : ℕ) → n < 2 ^ 64 → n ≤ most_turns
unfolding most_turns
fewer n h = omega arith

pub canonical_back : (ps : Pairs) → IsDocument ps → PairsHaveNoWrapper ps → length (document_tokens Canonical ps) < 2 ^ 64
    → document_at (canonical_text ps) ≡ Ok ps
unfolding document_at
canonical_back ps h w n =
    let few : length (tree_tokens Canonical (document ps)) ≤ most_turns = fewer _ n in
    ap document_in (tokens-print (tree_tokens Canonical (document ps)) (tree_printable (document ps) h.lawful))
    ∙ tokens_back ps
    (pairs_back 99 most_turns no_pairs ps [] h.lawful w h.depth (omega (arith, pairs_len-tokens ps, document-length ps)) (omega (arith, document-length ps)))
