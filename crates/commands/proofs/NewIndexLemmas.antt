-- Keys of indexes: a path that is judged before its direction, and one path more.
use Rattle.std.proofs.Common.{◌≡◌, ℕ, Bool, true, false, cond, List, [], ◌∷◌, ◌++◌, length, Option, Some, None, Result, Ok, Err, refl, sym, ap, subst, ◌∙◌}
use Rattle.std.proofs.Common.{arith, eq-eqb}
use Rattle.std.specs.Prelude.{◌≢◌, ◌==◌, ◌||◌, nat_lt, if◌then◌else◌, IsUtf8}
use Rattle.std.specs.List.{AllByRecursion, list_any, slice_split, onto_first}
use Rattle.std.specs.Result.{IsErrAnd}
use Rattle.std.specs.Str.{bytes_eq}
use Rattle.std.proofs.lemmas.Bool.{false≢true}
use Rattle.std.proofs.lemmas.Int.{ints}
use Rattle.std.proofs.lemmas.List.{length_push}
use Rattle.std.proofs.lemmas.Slice.Eq.{bytes_eq-Decides}
use Rattle.bson.specs.Tree.{Tree, no_pairs, pair, append}
use Rattle.bson.specs.Lawful.{NoZero, IsName, Lacks, IsTree, IsPairs}
use Rattle.bson.specs.EditPlaces.{IsPairs-append}
use Rattle.outcome.specs.Outcome.{◌>>=◌, fault_or, Fails, Gives}
use Rattle.path.specs.Parts.{is_empty, begins_with_dollar, has_zero, path_fault, parts_of}
use Rattle.path.specs.declared.fault.PathFault.{PathFault}
use Rattle.path.specs.declared.fault.PathFault.TheVariants as faults
use Rattle.path.specs.declared.refusal.Refusal.{Refusal}
use Rattle.path.specs.declared.refusal.Refusal.TheVariants as refusals
use Rattle.filter.specs.Parsing.{path_in}
use Rattle.value_order.specs.declared.texts.Direction.{Direction}
use Rattle.value_order.specs.declared.texts.Direction.TheVariants as directions
use Rattle.index.specs.Definition.{Field, direction_value, key_document, IsPath}
use Rattle.command_model.specs.NewIndex.{direction_in, field_to, field_in, is_among, AreKeyFields}

-- ---- a path and its direction

-- a path with what its direction was read as
abbrev with_direction : List ℕ → Result Direction Refusal → Result Field Refusal
with_direction name way =
    path_in name >>= (λ parts. way >>= (λ direction. let f : Result Field Refusal = Ok (record { path = name; direction = direction }) in f))

pub directed : (name : List ℕ) (t : Tree) (way : Direction) → direction_in t ≡ Ok way → field_to name way ≡ field_in name t
directed name t way e = ap (with_direction name) (sym e)

path_first : (name : List ℕ) (t : Tree) (way : Direction) (f : Refusal) → field_to name way ≡ Err f → field_in name t ≡ Err f
path_first name t way f e = by (path_in name) e
  where
    by : (r : Result (List (List ℕ)) Refusal) → (r >>= (λ parts. let one : Result Field Refusal = Ok (record { path = name; direction = way }) in one)) ≡ Err f
        → (r >>= (λ parts. direction_in t >>= (λ direction. let one : Result Field Refusal = Ok (record { path = name; direction = direction }) in one)))
        ≡ Err f
    by (Ok parts) e = absurd cc
    by (Err g) e = let same : g ≡ f = cc in ap (λ (r : Refusal). let one : Result Field Refusal = Err r in one) same

-- a path that is refused is refused, whatever its direction
pub path_refused : {A : Type 0} (view : A → Field) (r : Result A Refusal) (name : List ℕ) (t : Tree) (way : Direction) (f : Refusal)
    → IsErrAnd r (λ e. e ≡ f) → Fails refusals.OutOfMemory f (field_to name way) → Gives refusals.OutOfMemory view r (field_in name t)
path_refused view (Ok a) name t way f is told = absurd is
path_refused view (Err e) name t way f is told = λ known. path_first name t way f (told (λ same. known (is ∙ same))) ∙ ap Err (sym is)

-- a field has the path that its name writes
pub field_path : (name : List ℕ) (t : Tree) (f : Field) → field_in name t ≡ Ok f → name ≡ f.path
field_path name t f e = by (path_in name) (direction_in t) e
  where
    by : (r : Result (List (List ℕ)) Refusal) (way : Result Direction Refusal)
        → (r >>= (λ parts. way >>= (λ direction. let one : Result Field Refusal = Ok (record { path = name; direction = direction }) in one))) ≡ Ok f
        → name ≡ f.path
    by (Err g) way e = absurd cc
    by (Ok parts) (Err g) e = absurd cc
    by (Ok parts) (Ok direction) e = let same : record { path = name; direction = direction } ≡ f = cc in ap (λ (g : Field). g.path) same

-- ---- names

either_false : (a b : Bool) → (a || b) ≡ false → (a ≡ false) × (b ≡ false)
either_false true b e = absurd cc
either_false false b e = (refl, e)

not_zero : (b : ℕ) → (b == 0) ≡ false → b ≢ 0
not_zero b e same = false≢true (sym e ∙ eq-eqb b 0 same)

-- what no part has before, between or behind the dots, the text doesn't have
no_zero : (bs : List ℕ) → list_any has_zero (slice_split (λ b. b == 46) bs) ≡ false → NoZero bs
no_zero [] e = tt
no_zero (b ∷ bs) e = by (b == 46) refl (slice_split (λ c. c == 46) bs) e (no_zero bs)
  where
    by : (dot : Bool) → (b == 46) ≡ dot → (parts : List (List ℕ)) → list_any has_zero (cond dot ([] ∷ parts) (onto_first b parts)) ≡ false
        → (list_any has_zero parts ≡ false → NoZero bs) → NoZero (b ∷ bs)
    by true is parts e rest = (λ zero. false≢true (ap (λ (n : ℕ). n == 46) (sym zero) ∙ is), rest e)
    by false is [] e rest = (not_zero b (either_false (b == 0) false (either_false ((b == 0) || false) false e).0).0, rest refl)
    by false is (part ∷ parts) e rest =
        let here = either_false ((b == 0) || has_zero part) (list_any has_zero parts) e in
        let first = either_false (b == 0) (has_zero part) here.0 in
        (not_zero b first.0, rest (ap (λ (x : Bool). x || list_any has_zero parts) first.1 ∙ here.1))

passed_on : (b : Bool) (f : PathFault) (o : Option PathFault) → (if b then Some f else o) ≡ None → o ≡ None
passed_on true f o e = absurd cc
passed_on false f o e = e

last_passed : (b : Bool) (f : PathFault) → (if b then Some f else None) ≡ None → b ≡ false
last_passed true f e = absurd cc
last_passed false f e = refl

pub path_no_zero : (text : List ℕ) → IsPath text → NoZero text
path_no_zero text h = by (path_fault text (parts_of text)) refl h
  where
    by : (o : Option PathFault) → path_fault text (parts_of text) ≡ o → fault_or o (parts_of text) ≡ Ok (parts_of text) → NoZero text
    by (Some f) is e = absurd cc
    by None is e =
        let a = passed_on (is_empty text) faults.Empty _ is in
        let b = passed_on (list_any is_empty (parts_of text)) faults.EmptyPart _ a in
        let c = passed_on (list_any begins_with_dollar (parts_of text)) faults.Dollar _ b in
        let d = passed_on (nat_lt 255 (length text)) faults.TooLong _ c in
        no_zero text (last_passed (list_any has_zero (parts_of text)) faults.Zero d)

-- ---- one path more

lacks_path : (fs : List Field) (name : List ℕ) → is_among fs name ≡ false → Lacks (key_document fs) name
lacks_path [] name e = tt
lacks_path (f ∷ fs) name e =
    let h = either_false (bytes_eq f.path name) (is_among fs name) e in
    (λ same. false≢true (sym h.0 ∙ (bytes_eq-Decides f.path name).1 (sym same)), lacks_path fs name h.1)

key_document-push : (fs : List Field) (f : Field) → key_document (fs ++ f ∷ []) ≡ append (key_document fs) (pair f.path (direction_value f.direction) no_pairs)
key_document-push [] f = refl
key_document-push (g ∷ gs) f = ap (pair g.path (direction_value g.direction)) (key_document-push gs f)

paths-push : (fs : List Field) (f : Field) → AllByRecursion (λ g. IsPath g.path) fs → IsPath f.path → AllByRecursion (λ g. IsPath g.path) (fs ++ f ∷ [])
paths-push [] f h p = (p, tt)
paths-push (g ∷ gs) f h p = (h.0, paths-push gs f h.1 p)

is_direction : (way : Direction) → IsTree (direction_value way)
is_direction directions.Ascending = omega (arith, ints)
is_direction directions.Descending = omega (arith, ints)

pub one_path_more : (fs : List Field) (f : Field) → AreKeyFields fs → length fs ≢ 4 → is_among fs f.path ≡ false → IsUtf8 f.path → IsPath f.path
    → AreKeyFields (fs ++ f ∷ [])
one_path_more fs f h few new is_text p =
    let named : IsName f.path = record { is_text = is_text; no_zero = path_no_zero f.path p } in
    record {
      most = omega (arith, h.most, few, length_push fs f);
      paths = paths-push fs f h.paths p;
      distinct = subst IsPairs (sym (key_document-push fs f))
          (IsPairs-append (key_document fs) f.path (direction_value f.direction) h.distinct named (is_direction f.direction) (lacks_path fs f.path new));
    }
