-- What is kept beside a document stays right as the document changes.
use Rattle.std.proofs.Common.{◌≡◌, ◌≢◌, ℕ, zero, suc, ◌+◌, ◌<◌, Bool, true, false, cond, List, [], ◌∷◌, ◌++◌, length, get_or, take, Option, Some, None}
use Rattle.std.proofs.Common.{refl, sym, ap, subst, ◌∙◌, arith}
use Rattle.std.specs.Prelude.{option_map, is_some, if◌then◌else◌, ◌^◌, ◌≤◌}
use Rattle.std.specs.BTreeMap.{get_by_text, IsEmpty}
use Rattle.std.specs.Map.{update}
use Rattle.std.specs.Str.{bytes_eq}
use Rattle.std.proofs.Common.{set}
use Rattle.std.proofs.lemmas.List.{length-take}
use Rattle.std.proofs.lemmas.Slice.Eq.{bytes_eq-Decides}
use Rattle.bson.specs.Tree.{Tree, Pairs, no_pairs, pair, append}
use Rattle.bson.specs.View.{tree, pairs_of}
use Rattle.bson.specs.Lawful.{levels, pairs_levels, IsName, Lacks, IsTree, IsPairs, IsDocument, HoldsDocument}
use Rattle.bson.specs.Edits.{pairs_len, place, pair_at, with_value}
use Rattle.bson.specs.EditPlaces.{pairs_len-append, pairs_len-with_value}
use Rattle.bson.specs.EditsLaws.{pairs_of-push, pairs_len-pairs_of, place-Lacks, IsDocument-with_value}
use Rattle.bson.specs.Depths.{one_at, pairs_at, Counts}
use Rattle.bson.specs.Overview.{levels_of, Tells, Fits}
use Rattle.bson.specs.declared.beside.Beside.{Beside}
use Rattle.bson.specs.declared.overview.Overview.{Overview}
use Rattle.bson.specs.declared.value.Pair.{Pair}
use Rattle.bson.specs.declared.value.Value.{Value}
use Rattle.bson.proofs.BuildLaws.{one_more, pairs_len-is, pairs_set, pair_there, HoldsDocument-edit}
use Rattle.bson.proofs.DepthLaws.{pairs_at-append, pairs_at-with_value, pairs_at-there, pairs_at-most}
use Rattle.bson.proofs.PushLaws.{bytes_eq-ne}

-- ---- places after an edit

bytes_eq-sym : (xs ys : List ℕ) → bytes_eq xs ys ≡ bytes_eq ys xs
bytes_eq-sym xs ys = by (bytes_eq xs ys) refl
  where
    by : (b : Bool) → bytes_eq xs ys ≡ b → b ≡ bytes_eq ys xs
    by true e = sym ((bytes_eq-Decides ys xs).1 (sym ((bytes_eq-Decides xs ys).0 e)))
    by false e = sym (bytes_eq-ne ys xs (λ same. let f = (bytes_eq-Decides xs ys).1 (sym same) in absurd cc))

-- a pair at the end under a new name: the name stands there, and each other where it stood
pub place-append : (ps : Pairs) (name : List ℕ) (t : Tree) (other : List ℕ) → Lacks ps name
    → place (append ps (pair name t no_pairs)) other ≡ cond (bytes_eq name other) (Some (pairs_len ps)) (place ps other)
place-append no_pairs name t other lacks = rw (bytes_eq-sym other name) (by (bytes_eq name other))
  where
    by : (b : Bool) → (if b then Some 0 else option_map suc None) ≡ cond b (Some 0) None
    by true = refl
    by false = refl
place-append (pair first u ps) name t other lacks =
    rw (place-append ps name t other lacks.1)
    (by (bytes_eq other first) (bytes_eq name other) refl (λ e. bytes_eq-ne name other (λ same. lacks.0 (same ∙ (bytes_eq-Decides other first).0 e))))
  where
    by : (a b : Bool) → bytes_eq name other ≡ b → (a ≡ true → b ≡ false)
        → (if a then Some 0 else option_map suc (cond b (Some (pairs_len ps)) (place ps other)))
        ≡ cond b (Some (suc (pairs_len ps))) (if a then Some 0 else option_map suc (place ps other))
    by true true e apart = let f = apart refl in absurd cc
    by true false e apart = refl
    by false true e apart = refl
    by false false e apart = refl

-- another value at a place moves no name
pub place-with_value : (ps : Pairs) (i : ℕ) (t : Tree) (name : List ℕ) → place (with_value ps i t) name ≡ place ps name
place-with_value no_pairs i t name = refl
place-with_value (pair other u ps) zero t name = refl
place-with_value (pair other u ps) (suc i) t name =
    ap (λ (o : Option ℕ). if bytes_eq name other then Some 0 else option_map suc o) (place-with_value ps i t name)

-- ---- what an overview tells of the pairs

pub tells-empty : (o : Overview) → IsEmpty o.places → Counts o.depths.counts (λ _. 0) → Tells o no_pairs
tells-empty o empty flat = record { placed = λ name. rw empty refl; counts = record { sized = flat.sized; counted = flat.counted }; few_enough = omega arith }

pub tells-append : (o new : Overview) (key name : List ℕ) (at depth : ℕ) → key ≡ name
    → ((other : List ℕ) → get_by_text new.places other ≡ update bytes_eq (get_by_text o.places) key (Some at) other)
    → ((f g : ℕ → ℕ) → Counts o.depths.counts f → ((l : ℕ) → g l ≡ f l + one_at depth l) → g depth < 2 ^ 64 → Counts new.depths.counts g)
    → (ps : Pairs) (t : Tree) → Tells o ps → Lacks ps name → at ≡ pairs_len ps → at + 1 < 2 ^ 64 → depth ≡ levels t
    → Tells new (append ps (pair name t no_pairs))
tells-append o new key name at depth same updates counts ps t tells lacks last fits depth_is =
    let grown = append ps (pair name t no_pairs) in
    let len = pairs_len-append ps (pair name t no_pairs) in
    record {
      placed = λ other.
          updates other ∙ (λ i. cond (bytes_eq (same i) other) (Some (last i)) (tells.placed other i)) ∙ sym (place-append ps name t other lacks);
      counts = counts (pairs_at ps) (pairs_at grown) tells.counts
          (λ l. pairs_at-append ps name t l ∙ ap (λ (d : ℕ). pairs_at ps l + one_at d l) (sym depth_is))
          (omega (arith, pairs_at-most grown depth, len, last, fits));
      few_enough = omega (arith, len, last, fits);
    }

pub tells-with_value : (o new : Overview) (a b : ℕ) → new.places ≡ o.places
    → ((f g : ℕ → ℕ) → Counts o.depths.counts f → ((l : ℕ) → g l + one_at a l ≡ f l + one_at b l) → 1 ≤ f a → g b < 2 ^ 64 → Counts new.depths.counts g)
    → (ps : Pairs) (i : ℕ) (name : List ℕ) (u t : Tree) → Tells o ps → pair_at ps i ≡ Some (name, u) → a ≡ levels u → b ≡ levels t
    → Tells new (with_value ps i t)
tells-with_value o new a b kept counts ps i name u t tells there a_is b_is =
    let len = pairs_len-with_value ps i t in
    record {
      placed = λ other. ap (λ places. get_by_text places other) kept ∙ tells.placed other ∙ sym (place-with_value ps i t other);
      counts = counts (pairs_at ps) (pairs_at (with_value ps i t)) tells.counts
          (λ l. (λ j. pairs_at (with_value ps i t) l + one_at (a_is j) l) ∙ pairs_at-with_value ps i name u t l there
          ∙ (λ j. pairs_at ps l + one_at (sym b_is j) l))
          (subst (λ (d : ℕ). 1 ≤ pairs_at ps d) (sym a_is) (pairs_at-there ps i name u there))
          (omega (arith, pairs_at-most (with_value ps i t) b, len, tells.few_enough));
      few_enough = omega (arith, len, tells.few_enough);
    }

-- ---- name after name

-- the names of lawful pairs are new, one after the other
pub next_is_new : (ps : List Pair) (i : ℕ) (p : Pair) → IsPairs (pairs_of ps) → i < length ps → p ≡ get_or ps i p → Lacks (pairs_of (take i ps)) p.name
next_is_new ps zero p lawful lt is = tt
next_is_new [] (suc i) p lawful lt is = tt
next_is_new (q ∷ qs) (suc i) p lawful lt is =
    ((λ same. lacks_at qs i p q.name lawful.2 (omega arith) is (sym same)), next_is_new qs i p lawful.3 (omega arith) is)
  where
    lacks_at : (ps : List Pair) (i : ℕ) (p : Pair) (name : List ℕ) → Lacks (pairs_of ps) name → i < length ps → p ≡ get_or ps i p → name ≢ p.name
    lacks_at [] i p name lacks lt is = absurd (omega arith)
    lacks_at (q ∷ qs) zero p name lacks lt is = λ same. lacks.0 (same ∙ ap (λ (r : Pair). r.name) is)
    lacks_at (q ∷ qs) (suc i) p name lacks lt is = lacks_at qs i p name lacks.1 (omega arith) is

-- what tells of the first pairs tells of one more, once its name was taken in
pub tells_one_more : (o new : Overview) (ps : List Pair) (i : ℕ) (p : Pair) (name : List ℕ) (depth : ℕ) → name ≡ p.name → IsPairs (pairs_of ps) → i < length ps
    → p ≡ get_or ps i p
    → ((qs : Pairs) (t : Tree) → Tells o qs → Lacks qs name → i ≡ pairs_len qs → i + 1 < 2 ^ 64 → depth ≡ levels t
    → Tells new (append qs (pair name t no_pairs)))
    → i + 1 < 2 ^ 64 → depth ≡ levels (tree p.value) → Tells o (pairs_of (take i ps)) → Tells new (pairs_of (take (i + 1) ps))
tells_one_more o new ps i p name depth named lawful lt is takes fits deep tells =
    let before = take i ps in
    let one : take (i + 1) ps ≡ before ++ p ∷ [] = one_more ps i p lt is in
    let lacks : Lacks (pairs_of before) name = subst (Lacks (pairs_of before)) (sym named) (next_is_new ps i p lawful lt is) in
    let len : i ≡ pairs_len (pairs_of before) = omega (arith, pairs_len-pairs_of before, length-take i ps) in
    let tells_new = takes (pairs_of before) (tree p.value) tells lacks len fits deep in
    subst (Tells new) (sym (ap pairs_of one ∙ pairs_of-push before p ∙ ap (λ (n : List ℕ). append (pairs_of before) (pair n (tree p.value) no_pairs))
    (sym named)))
    tells_new

-- a name that has a place is a lawful one
pub name_there : (ps : Pairs) (name : List ℕ) (i : ℕ) → IsPairs ps → place ps name ≡ Some i → IsName name
name_there no_pairs name i lawful e = absurd cc
name_there (pair other u ps) name i lawful e = by (bytes_eq name other) (place ps name) refl (λ j there. name_there ps name j lawful.3 there) refl e
  where
    by : (b : Bool) (o : Option ℕ) → bytes_eq name other ≡ b → ((j : ℕ) → place ps name ≡ Some j → IsName name) → place ps name ≡ o
        → (if b then Some 0 else option_map suc o) ≡ Some i → IsName name
    by true o same more there e = subst IsName (sym ((bytes_eq-Decides name other).0 same)) lawful.0
    by false (Some j) same more there e = more j there
    by false None same more there e = absurd cc

pub is_taken : (ps : Pairs) (name : List ℕ) (o : Option ℕ) (found : Bool) → o ≡ place ps name → found ≡ is_some o → found ≡ true → IsPairs ps
    → IsName name × (Lacks ps name → ⊥)
is_taken ps name None found e some is lawful = let f = sym is ∙ some in absurd cc
is_taken ps name (Some i) found e some is lawful =
    (name_there ps name i lawful (sym e), λ lacks. let none = e ∙ place-Lacks ps name lacks in absurd cc)

-- ---- one more pair

pub pairs_grown : (ps new : List Pair) (qs : Pairs) (p : Pair) (name : List ℕ) → pairs_of ps ≡ qs → new ≡ ps ++ p ∷ [] → p.name ≡ name
    → pairs_of new ≡ append qs (pair name (tree p.value) no_pairs)
pairs_grown ps new qs p name same e named = ap pairs_of e ∙ pairs_of-push ps p ∙ (λ i. append (same i) (pair (named i) (tree p.value) no_pairs))

-- what stands beside the pairs, once it took in a new name, stands beside them with that name behind the others
pub fits_grown : (o taken new : Beside) (ps : List Pair) (grown : List Pair) (qs : Pairs) (p : Pair) (name : List ℕ) (at len depth : ℕ)
    → Fits o (pairs_of ps) → taken ≡ o
    → pairs_of ps ≡ qs → grown ≡ ps ++ p ∷ [] → p.name ≡ name → Lacks qs name → len ≡ length ps → at ≡ len → at + 1 < 2 ^ 64 → depth ≡ levels (tree p.value)
    → ((us : Pairs) (t : Tree) → Fits taken us → Lacks us name → at ≡ pairs_len us → at + 1 < 2 ^ 64 → depth ≡ levels t
    → Fits new (append us (pair name t no_pairs)))
    → Fits new (pairs_of grown)
fits_grown o taken new ps grown qs p name at len depth fits took same e named lacks len_is at_is short deep takes =
    let fits_now = subst (Fits taken) same (subst (λ (b : Beside). Fits b (pairs_of ps)) (sym took) fits) in
    subst (Fits new) (sym (pairs_grown ps grown qs p name same e named))
    (takes qs (tree p.value) fits_now lacks (pairs_len-is ps qs at len same len_is at_is) short deep)

-- ---- another value at a place

pub holds_replaced : (b taken new : Beside) (ps seen : List Pair) (qs : Pairs) (at : ℕ) (old p : Pair) (v : Value) (old_levels new_levels : ℕ)
    → HoldsDocument (levels_of b) (pairs_of ps) × Fits b (pairs_of ps)
    → taken ≡ b → pairs_of ps ≡ qs → at < length ps → old ≡ get_or ps at old → p.name ≡ old.name → p.value ≡ v → seen ≡ set ps at p
    → IsTree (tree v) → levels (tree v) ≤ 99 → old_levels ≡ levels (tree old.value) → new_levels ≡ levels (tree v)
    → ((us : Pairs) (i : ℕ) (name : List ℕ) (u t : Tree) → levels_of taken ≡ pairs_levels us → Fits taken us → pair_at us i ≡ Some (name, u)
    → pairs_of seen ≡ with_value us i t → old_levels ≡ levels u → new_levels ≡ levels t → levels_of new ≡ pairs_levels (pairs_of seen))
    → ((us : Pairs) (i : ℕ) (name : List ℕ) (u t : Tree) → Fits taken us → pair_at us i ≡ Some (name, u)
    → pairs_of seen ≡ with_value us i t → old_levels ≡ levels u → new_levels ≡ levels t → Fits new (pairs_of seen))
    → HoldsDocument (levels_of new) (pairs_of (set ps at p)) × Fits new (pairs_of (set ps at p))
holds_replaced b taken new ps seen qs at old p v old_levels new_levels holds took same lt is named valued seen_is lawful deep old_is new_is counts fits =
    let changed = pairs_set ps qs at old p v same is named valued in
    let seen_changed = ap pairs_of seen_is ∙ changed in
    let there = pair_there ps qs at old same lt is in
    let fits_now = subst (Fits taken) same (subst (λ (w : Beside). Fits w (pairs_of ps)) (sym took) holds.1) in
    let counted = ap levels_of took ∙ holds.0.counted ∙ ap pairs_levels same in
    let kept = IsDocument-with_value qs at (tree v) (subst IsDocument same holds.0.lawful) lawful deep in
    let deepest = counts qs at old.name (tree old.value) (tree v) counted fits_now there seen_changed old_is new_is in (
      HoldsDocument-edit (pairs_of (set ps at p)) (with_value qs at (tree v)) (levels_of new) changed kept
          (deepest ∙ ap (λ (xs : List Pair). pairs_levels (pairs_of xs)) seen_is),
      subst (λ (xs : List Pair). Fits new (pairs_of xs)) seen_is
          (fits qs at old.name (tree old.value) (tree v) fits_now there seen_changed old_is new_is),
    )
