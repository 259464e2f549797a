-- Steps of reading and applying a sort.
use Rattle.std.proofs.Common.{◌≡◌, ℕ, zero, suc, ◌+◌, ◌-◌, ◌<◌, ◌≤◌, Bool, true, false, List, [], ◌∷◌, ◌++◌, length, drop, get_or, map, Option, Some, None}
use Rattle.std.proofs.Common.{Result, Ok, Err, refl, sym, ap, subst, ◌∙◌, arith}
use Rattle.std.specs.List.{flat_map}
use Rattle.std.specs.Option.{unwrap_or}
use Rattle.std.specs.Cmp.{IsTotalOrder, on_total, then_total, back_total}
use Rattle.std.specs.declared.cmp.Ordering.{Ordering}
use Rattle.std.specs.declared.cmp.Ordering.TheVariants.{Less, Equal, Greater}
use Rattle.std.specs.Ordering.{ordering_reverse, ordering_then, on, flip_args}
use Rattle.bson.specs.Tree.{scalar, null, document, Pairs}
use Rattle.bson.specs.View.{tree, pairs_of}
use Rattle.bson.specs.declared.value.Pair.{Pair}
use Rattle.path.specs.declared.refusal.Refusal.{Refusal}
use Rattle.path.specs.Edits.{if_ok}
use Rattle.path.specs.Reach.{Reached, reach}
use Rattle.path.specs.View.{reached}
use Rattle.path.specs.declared.reaching.Reached.{Reached as Held}
use Rattle.std.proofs.lemmas.List.{drop_all}
use Rattle.value_order.specs.Order.{Key, value, key_cmp}
use Rattle.value_order.specs.KeyOrderLaws.{key_cmp_total}
use Rattle.value_order.specs.View.{key_of}
use Rattle.value_order.specs.declared.texts.KeyPart.{KeyPart}
use Rattle.sort.specs.Sort.{SortField, keys_of, first_key, key_among, sort_key, in_direction, compare_by, sorted, order}
use Rattle.sort.specs.SortReading.{read_field, read_fields}
use Rattle.sort.specs.SortKeys.{field_of, earlier, first_of, document_keys, first_or_null, keys_cmp, keys_held, ranked_cmp, numbered, with_keys, ranked_of}
use Rattle.sort.specs.SortKeys.{arranged}
use Rattle.sort.specs.declared.sort.Field.{Field}
use Rattle.sort.specs.declared.sorting.Ranked.{Ranked}
use Rattle.filter.proofs.ParsingLemmas.{drop_step}
use Rattle.sort.specs.SortLaws.{OrdersStably, SortsInParts, sorted-permuted}
use Rattle.sort.proofs.FrontLemmas.{sorted-front}
use Rattle.sort.proofs.StableSortLemmas.{sorted_rising, sorted_stable, sorted-map}

-- ---- reading

abbrev joined : List SortField → Result (List SortField) Refusal → Result (List SortField) Refusal
joined out left = if_ok left (λ fs. Ok (out ++ fs))

abbrev then_fields : Result SortField Refusal → Result (List SortField) Refusal → Result (List SortField) Refusal
then_fields one others = if_ok one (λ field. if_ok others (λ fields. Ok (field ∷ fields)))

map-push : (out : List Field) (f : Field) (fs : List SortField) → map field_of (out ++ f ∷ []) ++ fs ≡ map field_of out ++ field_of f ∷ fs
map-push [] f fs = refl
map-push (g ∷ gs) f fs = ap (λ (hs : List SortField). field_of g ∷ hs) (map-push gs f fs)

joined-more : (one : Result SortField Refusal) (others : Result (List SortField) Refusal) (out next : List Field) (f : Field) → one ≡ Ok (field_of f)
    → next ≡ out ++ f ∷ []
    → joined (map field_of next) others ≡ joined (map field_of out) (then_fields one others)
joined-more one (Ok fs) out next f is grown =
    ap (λ (gs : List Field). Ok (map field_of gs ++ fs)) grown ∙ ap Ok (map-push out f fs)
    ∙ ap (λ (r : Result SortField Refusal). joined (map field_of out) (then_fields r (Ok fs))) (sym is)
joined-more one (Err e) out next f is grown = ap (λ (r : Result SortField Refusal). joined (map field_of out) (then_fields r (Err e))) (sym is)

taken : (more : ℕ) (ps : List Pair) (i : ℕ) (p : Pair) (name : List ℕ) → i < length ps → p ≡ get_or ps i p → name ≡ p.name
    → read_fields (suc more) (pairs_of (drop i ps)) ≡ then_fields (read_field name (tree p.value)) (read_fields more (pairs_of (drop (i + 1) ps)))
taken more ps i p name lt is named =
    ap (λ (qs : List Pair). read_fields (suc more) (pairs_of qs)) (drop_step ps i p lt is)
    ∙ ap (λ (n : List ℕ). then_fields (read_field n (tree p.value)) (read_fields more (pairs_of (drop (i + 1) ps)))) (sym named)

one_less : (n : ℕ) → n < 32 → 32 - n ≡ suc (32 - (n + 1))
one_less n h = omega arith

pub fields_more : (ps : List Pair) (i : ℕ) (p : Pair) (name : List ℕ) (out next : List Field) (f : Field) (n : ℕ) (planned : Result (List SortField) Refusal)
    → i < length ps → p ≡ get_or ps i p → name ≡ p.name
    → read_field name (tree p.value) ≡ Ok (field_of f) → next ≡ out ++ f ∷ [] → length out < 32 → n ≡ length out + 1
    → joined (map field_of out) (read_fields (32 - length out) (pairs_of (drop i ps))) ≡ planned
    → joined (map field_of next) (read_fields (32 - n) (pairs_of (drop (i + 1) ps))) ≡ planned
fields_more ps i p name out next f n planned lt is named made grown room counted so_far =
    ap (λ (k : ℕ). joined (map field_of next) (read_fields (32 - k) (pairs_of (drop (i + 1) ps)))) counted
    ∙ joined-more (read_field name (tree p.value)) (read_fields (32 - (length out + 1)) (pairs_of (drop (i + 1) ps))) out next f made grown
    ∙ sym (ap (joined (map field_of out))
    (ap (λ (k : ℕ). read_fields k (pairs_of (drop i ps))) (one_less (length out) room) ∙ taken (32 - (length out + 1)) ps i p name lt is named))
    ∙ so_far

pub fields_refused : (ps : List Pair) (i : ℕ) (p : Pair) (name : List ℕ) (out : List Field) (e : Refusal) (planned : Result (List SortField) Refusal)
    → i < length ps → p ≡ get_or ps i p → name ≡ p.name
    → read_field name (tree p.value) ≡ Err e → length out < 32 → joined (map field_of out) (read_fields (32 - length out) (pairs_of (drop i ps))) ≡ planned
    → planned ≡ Err e
fields_refused ps i p name out e planned lt is named made room so_far =
    sym so_far
    ∙ ap (joined (map field_of out))
    (ap (λ (k : ℕ). read_fields k (pairs_of (drop i ps))) (one_less (length out) room) ∙ taken (32 - (length out + 1)) ps i p name lt is named)
    ∙ ap (λ (r : Result SortField Refusal). joined (map field_of out) (then_fields r (read_fields (32 - (length out + 1)) (pairs_of (drop (i + 1) ps))))) made

-- ---- the order of keys

in_direction-turned : (a b : Key) → in_direction true (key_cmp a b) ≡ flip_args key_cmp a b
in_direction-turned a b = by (key_cmp a b) ∙ sym (key_cmp_total.antisymm b a)
  where
    by : (o : Ordering) → in_direction true o ≡ ordering_reverse o
    by Less = refl
    by Equal = refl
    by Greater = refl

pub directed_total : (descending : Bool) → IsTotalOrder (λ a b. in_direction descending (key_cmp a b))
directed_total false = key_cmp_total
directed_total true = subst (λ (R : Key → Key → Ordering). IsTotalOrder R) (λ i a b. sym (in_direction-turned a b) i) (back_total key_cmp_total)

keys_total : (fields : List SortField) → IsTotalOrder (keys_cmp fields)
keys_total [] = record { antisymm = λ a b. refl; trans = λ a b c p q. q; congr = λ a b c p. refl }
keys_total (field ∷ fields) = then_total (on_total first_or_null (directed_total field.1)) (on_total (drop 1) (keys_total fields))

pub ranked_total : (fields : List SortField) → IsTotalOrder (ranked_cmp fields)
ranked_total fields = on_total keys_held (keys_total fields)

keys_by : (fields : List SortField) (a b : Pairs) → keys_cmp fields (document_keys fields a) (document_keys fields b) ≡ compare_by fields a b
keys_by [] a b = refl
keys_by (field ∷ fields) a b = ap (ordering_then (in_direction field.1 (key_cmp (sort_key field a) (sort_key field b)))) (keys_by fields a b)

fields_total : (fields : List SortField) → IsTotalOrder (compare_by fields)
fields_total fields =
    subst (λ (R : Pairs → Pairs → Ordering). IsTotalOrder R) (λ i a b. keys_by fields a b i) (on_total (document_keys fields) (keys_total fields))

pub orders_stably : OrdersStably
orders_stably fields = (
  fields_total fields,
  λ documents. record {
    same = sorted-permuted (compare_by fields) documents;
    rising = sorted_rising (compare_by fields) (fields_total fields) documents;
    stable = sorted_stable (compare_by fields) (fields_total fields) documents;
  },
)

pub sorts_in_parts : SortsInParts
sorts_in_parts fields n some others = sorted-front (compare_by fields) (fields_total fields) n some others

keys_on : (keys : List KeyPart) (i : ℕ) → drop 1 (map key_of (drop i keys)) ≡ map key_of (drop (suc i) keys)
keys_on [] zero = refl
keys_on [] (suc i) = refl
keys_on (k ∷ ks) zero = refl
keys_on (k ∷ ks) (suc i) = keys_on ks i

keys_after : (keys : List KeyPart) (i : ℕ) → drop 1 (map key_of (drop i keys)) ≡ map key_of (drop (i + 1) keys)
keys_after keys i = let next : suc i ≡ i + 1 = omega arith in keys_on keys i ∙ ap (λ (k : ℕ). map key_of (drop k keys)) next

-- one field whose keys tie
pub field_ties : (fields : List Field) (a b : List KeyPart) (i : ℕ) (f : Field) (whole : Ordering) → i < length fields → f ≡ get_or fields i f
    → in_direction f.descending (key_cmp (first_or_null (map key_of (drop i a))) (first_or_null (map key_of (drop i b)))) ≡ Equal
    → keys_cmp (map field_of (drop i fields)) (map key_of (drop i a)) (map key_of (drop i b)) ≡ whole
    → keys_cmp (map field_of (drop (i + 1) fields)) (map key_of (drop (i + 1) a)) (map key_of (drop (i + 1) b)) ≡ whole
field_ties fields a b i f whole lt is tied so_far =
    (λ j. keys_cmp (map field_of (drop (i + 1) fields)) (sym (keys_after a i) j) (sym (keys_after b i) j))
    ∙ ap (λ (o : Ordering). ordering_then o (keys_cmp (map field_of (drop (i + 1) fields)) (drop 1 (map key_of (drop i a))) (drop 1 (map key_of (drop i b)))))
    (sym tied)
    ∙ sym (ap (λ (fs : List Field). keys_cmp (map field_of fs) (map key_of (drop i a)) (map key_of (drop i b))) (drop_step fields i f lt is))
    ∙ so_far

-- ---- one key

first_of-append : (descending : Bool) (found : Option Key) (ks ls : List Key)
    → first_of descending found (ks ++ ls) ≡ first_of descending (first_of descending found ks) ls
first_of-append descending found [] ls = refl
first_of-append descending found (k ∷ ks) ls = first_of-append descending (Some (earlier descending found k)) ks ls

first_of-some : (descending : Bool) (k : Key) (ks : List Key) → first_of descending (Some k) ks ≡ Some (first_key descending k ks)
first_of-some descending k [] = refl
first_of-some descending k (l ∷ ls) = first_of-some descending (earlier descending (Some k) l) ls

key_among-first : (descending : Bool) (ks : List Key) → key_among descending ks ≡ unwrap_or (first_of descending None ks) (value (scalar null))
key_among-first descending [] = refl
key_among-first descending (k ∷ ks) = sym (ap (λ (o : Option Key). unwrap_or o (value (scalar null))) (first_of-some descending k ks))

-- what was reached, one more
pub reached_more : (descending : Bool) (rs : List Held) (i : ℕ) (r : Held) (found next whole : Option Key) → i < length rs → r ≡ get_or rs i r
    → next ≡ first_of descending found (keys_of (reached r))
    → first_of descending found (flat_map keys_of (map reached (drop i rs))) ≡ whole
    → first_of descending next (flat_map keys_of (map reached (drop (i + 1) rs))) ≡ whole
reached_more descending rs i r found next whole lt is grown so_far =
    ap (λ (o : Option Key). first_of descending o (flat_map keys_of (map reached (drop (i + 1) rs)))) grown
    ∙ sym (first_of-append descending found (keys_of (reached r)) (flat_map keys_of (map reached (drop (i + 1) rs))))
    ∙ sym (ap (λ (qs : List Held). first_of descending found (flat_map keys_of (map reached qs))) (drop_step rs i r lt is))
    ∙ so_far

pub reached_all : (f : Field) (ps : Pairs) (rs : List Held) (i : ℕ) (found : Option Key) → length rs ≤ i → map reached rs ≡ reach f.path (document ps)
    → first_of f.descending found (flat_map keys_of (map reached (drop i rs))) ≡ first_of f.descending None (flat_map keys_of (map reached rs))
    → unwrap_or found (value (scalar null)) ≡ sort_key (field_of f) ps
reached_all f ps rs i found le is so_far =
    ap (λ (o : Option Key). unwrap_or o (value (scalar null)))
    (sym (ap (λ (qs : List Held). first_of f.descending found (flat_map keys_of (map reached qs))) (drop_all i rs le)) ∙ so_far)
    ∙ sym (key_among-first f.descending (flat_map keys_of (map reached rs)))
    ∙ ap (λ (all : List Reached). key_among f.descending (flat_map keys_of all)) is

-- ---- documents by their keys

map-second : (fields : List SortField) (ps : List (Pairs × ℕ)) → map (λ x. x.1) (map (with_keys fields) ps) ≡ ps
map-second fields [] = refl
map-second fields (p ∷ ps) = ap (λ (qs : List (Pairs × ℕ)). p ∷ qs) (map-second fields ps)

abbrev pub at_place : Ranked → Pairs × ℕ
at_place r = (r.document.now, r.place)

map-ranked : (rs : List Ranked) → map (λ x. x.1) (map ranked_of rs) ≡ map at_place rs
map-ranked [] = refl
map-ranked (r ∷ rs) = ap (λ (qs : List (Pairs × ℕ)). at_place r ∷ qs) (map-ranked rs)

ranked_in_order : (fields : List SortField) (rs sorts : List Ranked) (documents : List Pairs) → map ranked_of rs ≡ map (with_keys fields) (numbered 0 documents)
    → sorts ≡ sorted (ranked_cmp fields) rs → map at_place sorts ≡ arranged fields documents
ranked_in_order fields rs sorts documents made is =
    sym (map-ranked sorts)
    ∙ ap (map (λ x. x.1)) (
    ap (map ranked_of) is
    ∙ sorted-map ranked_of (on (λ x. x.0) (keys_cmp fields)) rs
    ∙ ap (sorted (on (λ x. x.0) (keys_cmp fields))) made
    ∙ sym (sorted-map (with_keys fields) (on (λ x. x.0) (keys_cmp fields)) (numbered 0 documents))
    ∙ (λ i. map (with_keys fields) (sorted (λ p q. keys_by fields p.0 q.0 i) (numbered 0 documents))))
    ∙ map-second fields (arranged fields documents)

numbered-documents : (n : ℕ) (documents : List Pairs) → map (λ p. p.0) (numbered n documents) ≡ documents
numbered-documents n [] = refl
numbered-documents n (ps ∷ documents) = ap (λ (qs : List Pairs). ps ∷ qs) (numbered-documents (n + 1) documents)

pub arranged-documents : (fields : List SortField) (documents : List Pairs) → map (λ p. p.0) (arranged fields documents) ≡ order fields documents
arranged-documents fields documents =
    sorted-map (λ p. p.0) (compare_by fields) (numbered 0 documents) ∙ ap (sorted (compare_by fields)) (numbered-documents 0 documents)

map-place : (rs : List Ranked) → map (λ p. p.1) (map at_place rs) ≡ map (λ r. r.place) rs
map-place [] = refl
map-place (r ∷ rs) = ap (λ (ns : List ℕ). r.place ∷ ns) (map-place rs)

pub places_in_order : (fields : List SortField) (rs sorts : List Ranked) (documents : List Pairs)
    → map ranked_of rs ≡ map (with_keys fields) (numbered 0 documents)
    → sorts ≡ sorted (ranked_cmp fields) rs → map (λ r. r.place) sorts ≡ map (λ p. p.1) (arranged fields documents)
places_in_order fields rs sorts documents made is = sym (map-place sorts) ∙ ap (map (λ p. p.1)) (ranked_in_order fields rs sorts documents made is)
