-- A loop that notes the edits of each element of a list.
use Rattle.std.proofs.Common.{◌≡◌, ℕ, zero, suc, ◌+◌, ◌<◌, ◌≤◌, List, [], ◌∷◌, ◌++◌, length, get_or, drop, Result, Ok, Err, refl, sym, ap, ◌∙◌, arith}
use Rattle.std.specs.Prelude.{OnErr}
use Rattle.std.proofs.lemmas.List.{at_drop_more, drop_all}
use Rattle.tree_model.specs.Keys.{Edit}
use Rattle.entries.specs.Indexed.{with_edits, NotesUpTo, NotesSome}
use Rattle.entries.proofs.ManyEditsLaws.{goes_further, stops, ends}

-- the edits of lists, those of an element, and that a list has those of its first element and then those of the others
pub record Adds {X : Type 0} (all : List X → List Edit) (one : X → List Edit) : Type 0 where
  pub first : (x : X) (xs : List X) → all (x ∷ xs) ≡ one x ++ all xs
  pub none : all [] ≡ []

cut : {X : Type 0} (F : List X → List Edit) (g : X → List Edit) (h : Adds F g) (xs : List X) (k : ℕ) (x : X) → k < length xs → x ≡ get_or xs k x
    → F (drop k xs) ≡ g x ++ F (drop (k + 1) xs)
cut F g h xs k x below is =
    at_drop_more F xs k x below ∙ h.first (get_or xs k x) (drop (k + 1) xs) ∙ ap (λ y. g y ++ F (drop (k + 1) xs)) (sym is)

pub step : {X : Type 0} (F : List X → List Edit) (g : X → List Edit) (h : Adds F g) (old all : List Edit) (xs : List X) (k : ℕ) (x : X) (mid new : List Edit)
    → k < length xs → x ≡ get_or xs k x → NotesUpTo old all (F (drop k xs)) mid → new ≡ with_edits (g x) mid → NotesUpTo old all (F (drop (k + 1) xs)) new
step F g h old all xs k x mid new below is so made =
    goes_further old all (F (drop k xs)) (g x) (F (drop (k + 1) xs)) mid new so (cut F g h xs k x below is) made

pub cut_off : {X : Type 0} (F : List X → List Edit) (g : X → List Edit) (h : Adds F g) (old all : List Edit) (xs : List X) (k : ℕ) (x : X) (mid new : List Edit)
    → k < length xs → x ≡ get_or xs k x → NotesUpTo old all (F (drop k xs)) mid → NotesSome mid (g x) new → NotesSome old all new
cut_off F g h old all xs k x mid new below is so some =
    stops old all (F (drop k xs)) (g x) (F (drop (k + 1) xs)) mid new so (cut F g h xs k x below is) some

pub last : {X : Type 0} (F : List X → List Edit) (g : X → List Edit) (h : Adds F g) (old all : List Edit) (xs : List X) (k : ℕ) (new : List Edit)
    → length xs ≤ k → NotesUpTo old all (F (drop k xs)) new → new ≡ with_edits all old
last F g h old all xs k new past so = ends old all (F (drop k xs)) new so (ap F (drop_all k xs past) ∙ h.none)

-- whatever holds does so on an error
pub on_err : {A E P : Type 0} (r : Result A E) → P → OnErr r P
on_err (Ok a) p = tt
on_err (Err e) p = p

pub if_err : {A E P Q : Type 0} (r : Result A E) → (P → Q) → OnErr r P → OnErr r Q
if_err (Ok a) f h = h
if_err (Err e) f h = f h

-- an element is the same whatever would stand for one that is missing
pub at_any : {X : Type 0} (xs : List X) (k : ℕ) (d e : X) → k < length xs → get_or xs k d ≡ get_or xs k e
at_any [] k d e below = absurd (omega (arith, below))
at_any (x ∷ xs) zero d e below = refl
at_any (x ∷ xs) (suc k) d e below = at_any xs k d e (omega (arith, below))
