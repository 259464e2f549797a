-- Renames one after the other, where what moved is put at its new paths at the end, once nothing is left at the old and the new ones.
use Rattle.std.proofs.Common.{◌≡◌, ◌≤◌, ◌<◌, ◌+◌, ℕ, Bool, true, false, List, [], ◌∷◌, length, map, drop, get_or, Option, Some, None, Result, Ok, Err}
use Rattle.std.proofs.Common.{refl, sym, ap, subst, ◌∙◌, arith}
use Rattle.std.specs.List.{list_all, list_any}
use Rattle.std.specs.Prelude.{if◌then◌else◌, ◌++◌, ◌||◌, ◌&&◌}
use Rattle.bson.specs.Lawful.{pairs_levels}
use Rattle.bson.specs.Tree.{Tree, document, Pairs}
use Rattle.bson.specs.View.{tree}
use Rattle.path.specs.Edits.{if_ok, set_at, cut_at}
use Rattle.path.specs.Parts.{is_front, meets}
use Rattle.path.specs.Place.{value_at, passes_array}
use Rattle.path.specs.declared.refusal.Refusal.{Refusal}
use Rattle.path.specs.declared.refusal.Refusal.TheVariants as refusals
use Rattle.path.proofs.WalkLemmas.{cut_off-levels}
use Rattle.update_model.specs.Applying.{apply_edit, apply_edits}
use Rattle.update.specs.Moving.{unset_of, move_of, put_all, MeetsNone, AreApart, MayMove}
use Rattle.update_model.specs.Parsing.{edits_meet, conflicts}
use Rattle.update_model.specs.Renames.{moved, rename_at}
use Rattle.update.specs.Renaming.{rename_of}
use Rattle.update.specs.Unsets.{is_unset, cut_all}
use Rattle.update_model.specs.Update.{Path, Action, Edit, paths_with, paths_of, meets_any}
use Rattle.update_model.specs.IdEditLaws.{or_none}
use Rattle.update.specs.View.{edit_of}
use Rattle.update.specs.declared.edit.Edit.{Edit as Change}
use Rattle.update.specs.declared.moving.Moved.{Moved}
use Rattle.update.proofs.StepLemmas.{map_step, map_none}
use Rattle.update.proofs.UnsetLemmas.{and_true}
use Rattle.update.proofs.UnsetOrderLemmas.{only_unset}
use Rattle.update.proofs.ApartLemmas.{Stays, stays_same, stays, way_stays, off_is, set_commutes, set_stays, set_levels}

turned : (p q : Path) → meets p q ≡ false → meets q p ≡ false
turned p q apart = let both = or_none (is_front p q) (is_front q p) apart in λ i. both.1 i || both.0 i

-- ---- many paths at which something was taken away

Apart : Path → List Edit → Type 0
Apart p [] = Unit {0}
Apart p (e ∷ es) = (meets p e.path ≡ false) × Apart p es

all_stay : (p : Path) (es : List Edit) → Apart p es → (ps : Pairs) → Stays p (document ps) (document (cut_all es ps))
unfolding Apart
all_stay p [] apart ps = stays_same p (document ps) (document ps) refl
all_stay p (e ∷ es) apart ps =
    let one = stays p e.path apart.0 (document ps) (document (cut_at e.path ps)) (off_is p e.path apart.0 ps) in
    let rest = all_stay p es apart.1 (cut_at e.path ps) in
    record { passes = rest.passes ∙ one.passes; value = λ clear. rest.value (one.passes ∙ clear) ∙ one.value clear }

levels_left : (p : Path) (ps : Pairs) → pairs_levels (cut_at p ps) ≤ pairs_levels ps
levels_left [] ps = omega arith
levels_left (a ∷ p) ps = omega (arith, cut_off-levels (a ∷ p) (document ps) (document (cut_at (a ∷ p) ps)) refl)

all_levels : (es : List Edit) (ps : Pairs) → pairs_levels (cut_all es ps) ≤ pairs_levels ps
all_levels [] ps = omega arith
all_levels (e ∷ es) ps = omega (arith, levels_left e.path ps, all_levels es (cut_at e.path ps))

one_more_gone : (es : List Edit) (e : Edit) (ps : Pairs) → cut_all (es ++ e ∷ []) ps ≡ cut_at e.path (cut_all es ps)
one_more_gone [] e ps = refl
one_more_gone (d ∷ es) e ps = one_more_gone es e (cut_at d.path ps)

-- ---- what is put at paths of which none meets another

-- a path once something was put at another
apart_after : (m : Path × Tree) (ms : List (Path × Tree)) (ps qs : Pairs) → AreApart ps (m ∷ ms) → set_at m.0 m.1 ps ≡ Ok qs → AreApart qs ms
apart_after m ms ps qs apart is = rest ms apart.1.0 apart.1.1
  where
    rest : (ns : List (Path × Tree)) → MeetsNone m.0 ns → AreApart ps ns → AreApart qs ns
    rest [] none others = tt
    rest (n ∷ ns) none others =
        ((set_stays m.1 n.0 m.0 (turned m.0 n.0 none.0) ps qs apart.0 is).passes ∙ others.0, (others.1.0, rest ns none.1 others.1.1))

-- and once something was taken away there
apart_left : (g : Path) (ms : List (Path × Tree)) (ps : Pairs) → MeetsNone g ms → AreApart ps ms → AreApart (cut_at g ps) ms
apart_left g [] ps none apart = tt
apart_left g (m ∷ ms) ps none apart =
    let off = turned g m.0 none.0 in
    ((stays m.0 g off (document ps) (document (cut_at g ps)) (off_is m.0 g off ps)).passes ∙ apart.0, (apart.1.0, apart_left g ms ps none.1 apart.1.1))

put_stays : (p : Path) (ms : List (Path × Tree)) (ps qs : Pairs) → MeetsNone p ms → AreApart ps ms → put_all ms ps ≡ Ok qs
    → Stays p (document ps) (document qs)
put_stays p [] ps qs none apart is = let same : ps ≡ qs = cc in stays_same p (document ps) (document qs) (ap document same)
put_stays p (m ∷ ms) ps qs none apart is =
    by (set_at m.0 m.1 ps) refl is (λ xs others made. put_stays p ms xs qs none.1 others made)
  where
    by : (r : Result Pairs Refusal) → set_at m.0 m.1 ps ≡ r → if_ok r (put_all ms) ≡ Ok qs
        → ((xs : Pairs) → AreApart xs ms → put_all ms xs ≡ Ok qs → Stays p (document xs) (document qs)) → Stays p (document ps) (document qs)
    by (Err e) here made later = absurd cc
    by (Ok xs) here made later =
        let one = set_stays m.1 p m.0 none.0 ps xs apart.0 here in
        let rest = later xs (apart_after m ms ps xs apart here) made in
        record { passes = rest.passes ∙ one.passes; value = λ clear. rest.value (one.passes ∙ clear) ∙ one.value clear }

-- what is taken away before may be taken away behind them
put_cut : (g : Path) (ms : List (Path × Tree)) (ps : Pairs) → MeetsNone g ms → AreApart ps ms → pairs_levels ps ≤ 99
    → put_all ms (cut_at g ps) ≡ if_ok (put_all ms ps) (λ qs. Ok (cut_at g qs))
put_cut g [] ps none apart low = refl
put_cut g (m ∷ ms) ps none apart low =
    ap (λ (r : Result Pairs Refusal). if_ok r (put_all ms)) (set_commutes m.1 m.0 g (turned g m.0 none.0) ps apart.0 low)
    ∙ by (set_at m.0 m.1 ps) refl (λ xs others still. put_cut g ms xs none.1 others still)
  where
    by : (r : Result Pairs Refusal) → set_at m.0 m.1 ps ≡ r
        → ((xs : Pairs) → AreApart xs ms → pairs_levels xs ≤ 99 → put_all ms (cut_at g xs) ≡ if_ok (put_all ms xs) (λ qs. Ok (cut_at g qs)))
        → if_ok (if_ok r (λ qs. Ok (cut_at g qs))) (put_all ms) ≡ if_ok (if_ok r (put_all ms)) (λ qs. Ok (cut_at g qs))
    by (Err e) here later = refl
    by (Ok xs) here later = later xs (apart_after m ms ps xs apart here) (set_levels m.1 m.0 ps xs here low)

put_more : (ms : List (Path × Tree)) (m : Path × Tree) (ps : Pairs) → put_all (ms ++ m ∷ []) ps ≡ if_ok (put_all ms ps) (set_at m.0 m.1)
put_more [] m ps = by (set_at m.0 m.1 ps)
  where
    by : (r : Result Pairs Refusal) → if_ok r (put_all []) ≡ r
    by (Ok qs) = refl
    by (Err e) = refl
put_more (n ∷ ms) m ps = by (set_at n.0 n.1 ps) (put_more ms m)
  where
    by : (r : Result Pairs Refusal) → ((qs : Pairs) → put_all (ms ++ m ∷ []) qs ≡ if_ok (put_all ms qs) (set_at m.0 m.1))
        → if_ok r (put_all (ms ++ m ∷ [])) ≡ if_ok (if_ok r (put_all ms)) (set_at m.0 m.1)
    by (Ok qs) later = later qs
    by (Err e) later = refl

-- one path more
meets_more : (p : Path) (ms : List (Path × Tree)) (m : Path × Tree) → MeetsNone p ms → meets p m.0 ≡ false → MeetsNone p (ms ++ m ∷ [])
meets_more p [] m none last = (last, tt)
meets_more p (n ∷ ms) m none last = (none.0, meets_more p ms m none.1 last)

apart_more : (ms : List (Path × Tree)) (m : Path × Tree) (ps : Pairs) → AreApart ps ms → MeetsNone m.0 ms → passes_array m.0 (document ps) ≡ false
    → AreApart ps (ms ++ m ∷ [])
apart_more [] m ps apart none clear = (clear, (tt, tt))
apart_more (n ∷ ms) m ps apart none clear =
    (apart.0, (meets_more n.0 ms m apart.1.0 (turned m.0 n.0 none.0), apart_more ms m ps apart.1.1 none.1 clear))

-- ---- what the set of paths tells

Apart_so : (p : Path) (es : List Edit) → list_all is_unset es ≡ true → list_any (λ e. meets_any p (paths_of e)) es ≡ false → Apart p es
unfolding Apart
Apart_so p [] all none = tt
Apart_so p (e ∷ es) all none =
    let both = and_true (is_unset e) (list_all is_unset es) all in
    let split = or_none (meets_any p (paths_of e)) (list_any (λ d. meets_any p (paths_of d)) es) none in
    let one : meets_any p (e.path ∷ []) ≡ false = ap (λ (a : Action). meets_any p (paths_with e.path a)) (sym (only_unset e.action both.0)) ∙ split.0 in
    ((or_none (meets p e.path) false one).0, Apart_so p es both.1 split.1)

none_of_two : {X : Type 0} (f g : X → Bool) (xs : List X) → list_any (λ x. f x || (g x || false)) xs ≡ false
    → (list_any f xs ≡ false) × (list_any g xs ≡ false)
none_of_two f g [] e = (refl, refl)
none_of_two f g (x ∷ xs) e =
    let split = or_none (f x || (g x || false)) (list_any (λ y. f y || (g y || false)) xs) e in
    let here = or_none (f x) (g x || false) split.0 in
    let second = or_none (g x) false here.1 in
    let rest = none_of_two f g xs split.1 in
    ((λ i. here.0 i || rest.0 i), (λ i. second.0 i || rest.1 i))

any_more : {X : Type 0} (f : X → Bool) (xs : List X) (x : X) → list_any f (xs ++ x ∷ []) ≡ (list_any f xs || f x)
any_more f [] x = by (f x)
  where
    by : (b : Bool) → (b || false) ≡ b
    by true = refl
    by false = refl
any_more f (y ∷ xs) x = by (f y) (any_more f xs x)
  where
    by : (b : Bool) → list_any f (xs ++ x ∷ []) ≡ (list_any f xs || f x) → (b || list_any f (xs ++ x ∷ [])) ≡ ((b || list_any f xs) || f x)
    by true later = refl
    by false later = later

all_more : {X : Type 0} (f : X → Bool) (xs : List X) (x : X) → list_all f xs ≡ true → f x ≡ true → list_all f (xs ++ x ∷ []) ≡ true
all_more f [] x all last = λ i. last i && true
all_more f (y ∷ xs) x all last = let both = and_true (f y) (list_all f xs) all in λ i. both.0 i && all_more f xs x both.1 last i

-- what an edit's two paths meet
record AllApart (old new : Path) (es : List Edit) : Type 0 where
  pub of_old : list_any (λ e. meets_any old (paths_of e)) es ≡ false
  pub of_new : list_any (λ e. meets_any new (paths_of e)) es ≡ false
  pub of_both : meets new old ≡ false

all_apart : (old new : Path) (es : List Edit) → conflicts es (rename_of old new) ≡ false → AllApart old new es
all_apart old new es none =
    let split = or_none (list_any (edits_meet (rename_of old new)) es) (meets new old) none in
    let each = none_of_two (λ e. meets_any old (paths_of e)) (λ e. meets_any new (paths_of e)) es split.0 in
    record { of_old = each.0; of_new = each.1; of_both = split.1 }

-- one path alone
alone : (p : Path) (es : List Edit) → list_any (λ e. meets_any p (paths_of e)) es ≡ false → conflicts es (unset_of p) ≡ false
alone p es none = λ i. one es none i || false
  where
    one : (ds : List Edit) → list_any (λ e. meets_any p (paths_of e)) ds ≡ false → list_any (edits_meet (unset_of p)) ds ≡ false
    one [] e = refl
    one (d ∷ ds) e =
        let here = or_none (meets_any p (paths_of d)) (list_any (λ x. meets_any p (paths_of x)) ds) e in
        λ i. (here.0 i || false) || one ds here.1 i

one_unset : (p q : Path) → meets p q ≡ false → meets_any p (paths_of (unset_of q)) ≡ false
one_unset p q apart = λ i. apart i || false

pub old_alone : (old new : Path) (es : List Edit) → conflicts es (rename_of old new) ≡ false → conflicts es (unset_of old) ≡ false
old_alone old new es none = alone old es (all_apart old new es none).of_old

-- the new path, once the old one is among them
pub new_alone : (old new : Path) (es : List Edit) → conflicts es (rename_of old new) ≡ false → conflicts (es ++ unset_of old ∷ []) (unset_of new) ≡ false
new_alone old new es none =
    let apart = all_apart old new es none in
    alone new (es ++ unset_of old ∷ [])
    (any_more (λ e. meets_any new (paths_of e)) es (unset_of old) ∙ (λ i. apart.of_new i || one_unset new old apart.of_both i))

-- ---- one rename more

module _ (old new : Path) (es : List Edit) (ms : List (Path × Tree)) (ps : Pairs) (may : MayMove ps es ms) (none : conflicts es (rename_of old new) ≡ false)
    (low : pairs_levels ps ≤ 99) (old_clear : passes_array old (document ps) ≡ false) (new_clear : passes_array new (document ps) ≡ false) where
  abbrev left : Pairs
  left = cut_all es ps

  apart : AllApart old new es
  apart = all_apart old new es none

  old_stays : Stays old (document ps) (document left)
  old_stays = all_stay old es (Apart_so old es may.unsets apart.of_old) ps

  new_stays : Stays new (document ps) (document left)
  new_stays = all_stay new es (Apart_so new es may.unsets apart.of_new) ps

  old_none : MeetsNone old ms
  old_none = may.among old apart.of_old

  new_none : MeetsNone new ms
  new_none = may.among new apart.of_new

  after_old : AreApart (cut_at old left) ms
  after_old = apart_left old ms left old_none may.apart

  found : (qs : Pairs) → put_all ms left ≡ Ok qs → (o : Option Tree) → value_at old (document ps) ≡ o → rename_at old new qs ≡ moved old new o qs
  found qs is o e =
      let s = put_stays old ms left qs old_none may.apart is in
      ap (λ (b : Bool). if b then Err refusals.BadValue else moved old new (value_at old (document qs)) qs) (s.passes ∙ old_stays.passes ∙ old_clear)
      ∙ ap (λ (x : Option Tree). moved old new x qs) (s.value (old_stays.passes ∙ old_clear) ∙ old_stays.value old_clear ∙ e)

  pub moved_absent : value_at old (document ps) ≡ None → if_ok (put_all ms left) (rename_at old new) ≡ put_all ms left
  moved_absent e = by (put_all ms left) refl
    where
      by : (r : Result Pairs Refusal) → put_all ms left ≡ r → if_ok r (rename_at old new) ≡ r
      by (Err d) is = refl
      by (Ok qs) is = found qs is None e

  pub moved_there : (v : Tree) → value_at old (document ps) ≡ Some v
      → if_ok (put_all ms left) (rename_at old new) ≡ put_all (ms ++ (new, v) ∷ []) (cut_all ((es ++ unset_of old ∷ []) ++ unset_of new ∷ []) ps)
  moved_there v e =
      by (put_all ms left) refl
      ∙ sym (ap (put_all (ms ++ (new, v) ∷ []))
      (one_more_gone (es ++ unset_of old ∷ []) (unset_of new) ps ∙ ap (cut_at new) (one_more_gone es (unset_of old) ps))
      ∙ put_more ms (new, v) (cut_at new (cut_at old left))
      ∙ ap (λ (r : Result Pairs Refusal). if_ok r (set_at new v))
      (put_cut new ms (cut_at old left) new_none after_old (omega (arith, low, levels_left old left, all_levels es ps))
      ∙ ap (λ (r : Result Pairs Refusal). if_ok r (λ qs. Ok (cut_at new qs))) (put_cut old ms left old_none may.apart (omega (arith, low, all_levels es ps)))))
    where
      by : (r : Result Pairs Refusal) → put_all ms left ≡ r
          → if_ok r (rename_at old new) ≡ if_ok (if_ok (if_ok r (λ qs. Ok (cut_at old qs))) (λ qs. Ok (cut_at new qs))) (set_at new v)
      by (Err d) is = refl
      by (Ok qs) is =
          found qs is (Some v) e
          ∙ ap (λ (b : Bool). if b then Err refusals.BadValue else set_at new v (cut_at new (cut_at old qs)))
          ((put_stays new ms left qs new_none may.apart is).passes ∙ new_stays.passes ∙ new_clear)

  pub may_move_too : (v : Tree) → MayMove ps ((es ++ unset_of old ∷ []) ++ unset_of new ∷ []) (ms ++ (new, v) ∷ [])
  may_move_too v = record {
    unsets = all_more is_unset (es ++ unset_of old ∷ []) (unset_of new) (all_more is_unset es (unset_of old) may.unsets refl) refl;
    apart = subst (λ (qs : Pairs). AreApart qs (ms ++ (new, v) ∷ []))
        (sym (one_more_gone (es ++ unset_of old ∷ []) (unset_of new) ps ∙ ap (cut_at new) (one_more_gone es (unset_of old) ps)))
        (apart_more ms (new, v) (cut_at new (cut_at old left)) (apart_left new ms (cut_at old left) new_none after_old) new_none
        (way_of new (cut_at old left)
        ∙ (stays new old apart.of_both (document left) (document (cut_at old left)) (off_is new old apart.of_both left)).passes
        ∙ new_stays.passes ∙ new_clear));
    among = λ path clear.
        let all = or_none (list_any (λ e. meets_any path (paths_of e)) (es ++ unset_of old ∷ [])) (meets_any path (paths_of (unset_of new)))
        (sym (any_more (λ e. meets_any path (paths_of e)) (es ++ unset_of old ∷ []) (unset_of new)) ∙ clear) in
        let before = or_none (list_any (λ e. meets_any path (paths_of e)) es) (meets_any path (paths_of (unset_of old)))
        (sym (any_more (λ e. meets_any path (paths_of e)) es (unset_of old)) ∙ all.0) in
        meets_more path ms (new, v) (may.among path before.0) (or_none (meets path new) false all.1).0;
  }
    where
      way_of : (p : Path) (qs : Pairs) → passes_array p (document (cut_at p qs)) ≡ passes_array p (document qs)
      way_of [] qs = refl
      way_of (a ∷ p) qs = way_stays (a ∷ p) (document qs) (document (cut_at (a ∷ p) qs)) refl

pub none_move : (ps : Pairs) → MayMove ps [] []
none_move ps = record { unsets = refl; apart = tt; among = λ path clear. tt }

-- ---- what is done at the end

-- the next of what is put, a refusal, and the end
module _ (rest next : List Moved) (m : Moved) (ps : Pairs) (planned : Result Pairs Refusal) (split : rest ≡ m ∷ next)
    (so_far : put_all (map move_of rest) ps ≡ planned) where
  parts : if_ok (set_at m.path (tree m.value) ps) (put_all (map move_of next)) ≡ planned
  parts = sym (ap (λ (ms : List Moved). put_all (map move_of ms) ps) split) ∙ so_far

  pub put_on : (qs : Pairs) → set_at m.path (tree m.value) ps ≡ Ok qs → put_all (map move_of next) qs ≡ planned
  put_on qs made = sym (ap (λ (r : Result Pairs Refusal). if_ok r (put_all (map move_of next))) made) ∙ parts

  pub put_stops : (e : Refusal) → set_at m.path (tree m.value) ps ≡ Err e → planned ≡ Err e
  put_stops e made = sym parts ∙ ap (λ (r : Result Pairs Refusal). if_ok r (put_all (map move_of next))) made

pub put_done : (rest : List Moved) (ps : Pairs) (planned : Result Pairs Refusal) → length rest ≡ 0 → put_all (map move_of rest) ps ≡ planned → planned ≡ Ok ps
put_done [] ps planned none so_far = sym so_far
put_done (m ∷ rest) ps planned none so_far = absurd cc

-- ---- one edit after the other

edit_by : (r : Result Pairs Refusal) (e : Edit) (es : List Edit) → if_ok r (apply_edits (e ∷ es)) ≡ if_ok (if_ok r (apply_edit e)) (apply_edits es)
edit_by (Ok ps) e es = refl
edit_by (Err d) e es = refl

no_edit : (r : Result Pairs Refusal) → if_ok r (apply_edits []) ≡ r
no_edit (Ok ps) = refl
no_edit (Err d) = refl

module _ (r planned : Result Pairs Refusal) (cs : List Change) (i : ℕ) (so_far : if_ok r (apply_edits (map edit_of (drop i cs))) ≡ planned) where
  step : (c : Change) → i < length cs → c ≡ get_or cs i c
      → if_ok (if_ok r (apply_edit (edit_of c))) (apply_edits (map edit_of (drop (i + 1) cs))) ≡ planned
  step c lt is =
      sym (edit_by r (edit_of c) (map edit_of (drop (i + 1) cs))) ∙ sym (ap (λ (es : List Edit). if_ok r (apply_edits es)) (map_step edit_of cs i c lt is))
      ∙ so_far

  pub edit_on : (c : Change) (next : Result Pairs Refusal) → i < length cs → c ≡ get_or cs i c → if_ok r (apply_edit (edit_of c)) ≡ next
      → if_ok next (apply_edits (map edit_of (drop (i + 1) cs))) ≡ planned
  edit_on c next lt is made = sym (ap (λ (s : Result Pairs Refusal). if_ok s (apply_edits (map edit_of (drop (i + 1) cs)))) made) ∙ step c lt is

  pub edit_stops : (c : Change) (e : Refusal) → i < length cs → c ≡ get_or cs i c → if_ok r (apply_edit (edit_of c)) ≡ Err e → planned ≡ Err e
  edit_stops c e lt is made = sym (step c lt is) ∙ ap (λ (s : Result Pairs Refusal). if_ok s (apply_edits (map edit_of (drop (i + 1) cs)))) made

  pub edits_done : length cs ≤ i → r ≡ planned
  edits_done le = sym (no_edit r) ∙ sym (ap (λ (es : List Edit). if_ok r (apply_edits es)) (map_none edit_of cs i le)) ∙ so_far
