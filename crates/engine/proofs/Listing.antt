-- The names of a database's collections, and that they all go into one batch.
use Rattle.std.proofs.Common.{◌≡◌, ℕ, zero, suc, ◌+◌, ◌-◌, ◌*◌, ◌<◌, ◌≤◌, Bool, true, false, List, [], ◌∷◌, ◌++◌, length, drop, get_or, map, take, Option, Some}
use Rattle.std.proofs.Common.{None, Result, Ok, refl, sym, ap, subst, ◌∙◌, append_assoc, length-append, suc-mul, arith}
use Rattle.std.specs.Prelude.{◌||◌, ◌==◌, nat_eq, nat_le, if◌then◌else◌, codes, option_map, string_bytes, All, MatchOption}
use Rattle.std.specs.Borrow.{Bor}
use Rattle.std.specs.Fmt.{decimal}
use Rattle.std.specs.List.{starts_with, AllByRecursion}
use Rattle.std.specs.Str.{IsCharBoundary}
use Rattle.std.specs.Str.Pattern.{FindsTextPrefix, StripsPrefix}
use Rattle.std.proofs.lemmas.Bool.Decides.{nat_tests}
use Rattle.std.proofs.lemmas.Fmt.{length-decimal-le}
use Rattle.std.proofs.lemmas.List.Elements.{All-head, All-tail, All-cons}
use Rattle.std.proofs.lemmas.List.{length-map, take_all}
use Rattle.std.proofs.lemmas.Str.Pattern.{starts_text}
use Rattle.bson.specs.Tree.{Pairs, pair, no_pairs}
use Rattle.bson.specs.SizingLaws.{frame_of-length, pairs_bytes-none, pairs_size-pair}
use Rattle.bson.specs.Spelling.{frame_of, pairs_bytes}
use Rattle.path.specs.declared.refusal.Refusal.{Refusal}
use Rattle.database_model.specs.World.{World}
use Rattle.entry_model.specs.State.{Collection}
use Rattle.database_model.specs.Lawful.{IsWithin, IsKept, IsLawfulState}
use Rattle.replies.specs.View.{with_ok}
use Rattle.database_model.specs.Cursors.{item_size, batch_len, batch_of, cursor_reply, number_after, batch_reply}
use Rattle.collections.specs.Lookups.{name_of, name_in as name_of_collection}
use Rattle.collections.specs.declared.lookups.Name.{Name}
use Rattle.database_model.specs.ListCollections.{name_in, with_name, names_in, names_behind, listed, run_list_collections}
use Rattle.database_model.specs.Refusals.{words, ok_reply}
use Rattle.replies.proofs.SpelledSizes.{length-words}
use Rattle.replies.proofs.Steps.{drop_step}

-- ---- names

pub name-in : (front namespace : List ℕ) (r : Option (Bor (List ℕ)))
    → MatchOption r (FindsTextPrefix front namespace None) (λ x. StripsPrefix (FindsTextPrefix front) namespace x.now)
    → option_map (λ s. s.now) r ≡ name_in front namespace
name-in front namespace None h =
    let is : false ≡ starts_with nat_eq namespace front = starts_text false front namespace h in
    ap (λ (b : Bool). if b then Some (drop (length front) namespace) else None) is
name-in front namespace (Some x) h =
    let is : true ≡ starts_with nat_eq namespace front =
    starts_text true front namespace (h.0, h.1, subst (λ (k : ℕ). IsCharBoundary namespace k) (sym h.1.0) h.1.2) in
    ap (λ (s : List ℕ). let o : Option (List ℕ) = Some s in o) (h.2 ∙ ap (λ (k : ℕ). drop k namespace) h.1.0)
    ∙ ap (λ (b : Bool). if b then Some (drop (length front) namespace) else None) is

-- what was listed so far, and what is left of the names
abbrev pub Lists : List ℕ → List Name → ℕ → List Pairs → Type 0
Lists front ns i ds = map listed (names_behind front (map name_of ns)) ≡ ds ++ map listed (names_behind front (map name_of (drop i ns)))

pub lists-one : (front : List ℕ) (ns : List Name) (i : ℕ) (n : Name) (name : List ℕ) (ds next : List Pairs) → i < length ns → n ≡ get_or ns i n
    → name_in front (string_bytes n.namespace) ≡ Some name
    → next ≡ ds ++ listed name ∷ [] → Lists front ns i ds → Lists front ns (i + 1) next
lists-one front ns i n name ds next within is named grown so_far =
    so_far ∙ ap (λ (xs : List Name). ds ++ map listed (names_behind front (map name_of xs))) (drop_step ns i n within is)
    ∙ ap (λ (o : Option (List ℕ)). ds ++ map listed (with_name o (names_behind front (map name_of (drop (i + 1) ns))))) named
    ∙ sym (append_assoc ds (listed name ∷ []) (map listed (names_behind front (map name_of (drop (i + 1) ns)))))
    ∙ ap (λ (xs : List Pairs). xs ++ map listed (names_behind front (map name_of (drop (i + 1) ns)))) (sym grown)

pub lists-none : (front : List ℕ) (ns : List Name) (i : ℕ) (n : Name) (ds : List Pairs) → i < length ns → n ≡ get_or ns i n
    → name_in front (string_bytes n.namespace) ≡ None
    → Lists front ns i ds → Lists front ns (i + 1) ds
lists-none front ns i n ds within is none so_far =
    so_far ∙ ap (λ (xs : List Name). ds ++ map listed (names_behind front (map name_of xs))) (drop_step ns i n within is)
    ∙ ap (λ (o : Option (List ℕ)). ds ++ map listed (with_name o (names_behind front (map name_of (drop (i + 1) ns))))) none

-- the names that were read are those of the collections
names_same : (front : List ℕ) (cs : List Collection) → names_behind front (map name_of_collection cs) ≡ names_in front cs
names_same front [] = refl
names_same front (c ∷ cs) = ap (with_name (name_in front c.name)) (names_same front cs)

pub listed_same : (front : List ℕ) (ns : List Name) (cs : List Collection) (ds : List Pairs) → map name_of ns ≡ map name_of_collection cs
    → ds ≡ map listed (names_behind front (map name_of ns)) → ds ≡ map listed (names_in front cs)
listed_same front ns cs ds read made = made ∙ ap (λ (xs : List (List ℕ × ℕ)). map listed (names_behind front xs)) read ∙ ap (map listed) (names_same front cs)

-- ---- sizes

abbrev Short : List ℕ → Type 0
Short name = length name ≤ 255

drop_shorter : (n : ℕ) (xs : List ℕ) → length (drop n xs) ≤ length xs
drop_shorter zero xs = omega arith
drop_shorter (suc n) [] = omega arith
drop_shorter (suc n) (x ∷ xs) = omega (arith, drop_shorter n xs)

names_short : (front : List ℕ) (cs : List Collection) → All IsKept cs → AllByRecursion Short (names_in front cs) × (length (names_in front cs) ≤ length cs)
names_short front [] h = (tt, omega arith)
names_short front (c ∷ cs) h = at (starts_with nat_eq c.name front) (names_short front cs (All-tail IsKept c cs h))
  where
    name : List ℕ
    name = drop (length front) c.name

    at : (b : Bool) → AllByRecursion Short (names_in front cs) × (length (names_in front cs) ≤ length cs)
        → AllByRecursion Short (with_name (if b then Some name else None) (names_in front cs))
        × (length (with_name (if b then Some name else None) (names_in front cs)) ≤ suc (length cs))
    at true later = ((omega (arith, drop_shorter (length front) c.name, (All-head IsKept c cs h).short), later.0), omega (arith, later.1))
    at false later = (later.0, omega (arith, later.1))

listed_size : (name : List ℕ) → Short name → length (frame_of (pairs_bytes (listed name))) ≤ 400
listed_size name short =
    let type = pair (codes "type") (words (codes "collection")) no_pairs in
    omega (
      arith,
      short,
      frame_of-length (pairs_bytes (listed name)),
      pairs_size-pair (codes "name") (words name) type,
      length-words name,
      pairs_size-pair (codes "type") (words (codes "collection")) no_pairs,
      length-words (codes "collection"),
      ap length pairs_bytes-none,
    )

-- documents of at most so many bytes
abbrev pub Small : ℕ → List Pairs → Type 0
Small size ds = AllByRecursion (λ d. length (frame_of (pairs_bytes d)) ≤ size) ds

listed_small : (names : List (List ℕ)) → AllByRecursion Short names → Small 400 (map listed names)
listed_small [] h = tt
listed_small (n ∷ ns) h = (listed_size n h.0, listed_small ns h.1)

listed_within : (names : List (List ℕ)) → AllByRecursion Short names → All IsWithin (map listed names)
listed_within [] h = λ k d below. absurd (omega (arith, below))
listed_within (n ∷ ns) h =
    All-cons IsWithin (listed n) (map listed ns) (record { size = omega (arith, listed_size n h.0); depth = omega arith }) (listed_within ns h.1)

-- So many of them fit into a batch of this room, with ten bytes more for each.
pub all_fit : (size i most room : ℕ) (ds : List Pairs) → length ds ≤ most → i + length ds ≤ 1000 → Small size ds → length ds * (size + 10) ≤ room
    → batch_len i most room ds ≡ length ds
all_fit size i most room [] few within small fits = refl
all_fit size i zero room (d ∷ ds) few within small fits = absurd (omega (arith, few))
all_fit size i (suc most) room (d ∷ ds) few within small fits =
    step (length ds * (size + 10)) (omega (arith, suc-mul (length ds) (size + 10), fits))
    (all_fit size (i + 1) most (room - item_size i d) ds (omega (arith, few)) (omega (arith, within)) small.1)
  where
    digits : length (decimal i) ≤ 3
    digits = length-decimal-le 3 i (omega arith) (omega (arith, within)) (omega (arith, within))

    item : item_size i d ≤ size + 10
    item = omega (arith, small.0, digits, length-append (decimal i) (0 ∷ frame_of (pairs_bytes d)))

    at : (first one : Bool) → one ≡ true → batch_len (i + 1) most (room - item_size i d) ds ≡ length ds
        → (if first || one then suc (batch_len (i + 1) most (room - item_size i d) ds) else 0) ≡ suc (length ds)
    at true one e later = ap suc later
    at false true e later = ap suc later
    at false false e later = absurd cc

    step : (more : ℕ) → size + 10 + more ≤ room → (more ≤ room - item_size i d → batch_len (i + 1) most (room - item_size i d) ds ≡ length ds)
        → (if (i == 0) || nat_le (item_size i d) room then suc (batch_len (i + 1) most (room - item_size i d) ds) else 0) ≡ suc (length ds)
    step more fits later =
        let fit : nat_le (item_size i d) room ≡ true = grind (arith, nat_tests, item, fits) in
        at (i == 0) (nat_le (item_size i d) room) fit (later (omega (arith, item, fits)))

-- All that is said of at most 1,000 collections goes into one batch.
pub record GoIntoOne (ds : List Pairs) : Type 0 where
  pub within : All IsWithin ds
  pub whole : batch_of (length ds) ds ≡ length ds

pub go_into_one : (front : List ℕ) (cs : List Collection) → All IsKept cs → length cs ≤ 1000 → GoIntoOne (map listed (names_in front cs))
go_into_one front cs kept few =
    let names = names_in front cs in
    let short = names_short front cs kept in
    let many : length (map listed names) ≡ length names = length-map names listed in
    record {
      within = listed_within names short.0;
      whole = all_fit 400 0 (length (map listed names)) (900000 - 5) (map listed names) (omega arith) (omega (arith, many, few, short.1))
          (listed_small names short.0) (omega (arith, many, few, short.1));
    }

-- ---- the reply

abbrev zero_if : Bool → ℕ
zero_if b = if b then 0 else 0

zero_either : (b : Bool) → zero_if b ≡ 0
zero_either true = refl
zero_either false = refl

pub run_list-is : (w : World) (database front namespace : List ℕ) (ds : List Pairs) (n : ℕ) (reply : Pairs) → IsLawfulState w.collections
    → front ≡ database ++ codes "." → namespace ≡ database ++ codes ".$cmd.listCollections"
    → ds ≡ map listed (names_in front w.collections) → n ≡ batch_of (length ds) ds → reply ≡ ok_reply (batch_reply (codes "firstBatch") n ds 0 namespace)
    → with_ok (run_list_collections w (record { database = database })) ≡ Ok (w, reply)
unfolding run_list_collections
run_list-is w database front namespace ds n reply h fronted named made counted said =
    let go = go_into_one front w.collections h.kept h.few in
    let whole : n ≡ length ds = counted ∙ subst (λ (es : List Pairs). batch_of (length es) es ≡ length es) (sym made) go.whole in
    let all : take n ds ≡ ds = take_all n ds (omega (arith, whole)) in
    let none : number_after n ds 0 ≡ 0 = zero_either (nat_le (length ds) n) in
    let last : List ℕ → List Pairs → Pairs = λ ns es. ok_reply (cursor_reply (codes "firstBatch") es 0 ns) in
    let is : reply ≡ last namespace ds = said ∙ (λ i. ok_reply (cursor_reply (codes "firstBatch") (all i) (none i) namespace)) in
    let made_of : List ℕ → List Pairs = λ f. map listed (names_in f w.collections) in
    let answer : Pairs → Result (World × Pairs) Refusal = λ r. Ok (w, r) in
    sym (ap answer (is ∙ (λ i. last (named i) (made i)) ∙ ap (λ (f : List ℕ). last (database ++ codes ".$cmd.listCollections") (made_of f)) fronted))
