-- Which numbers collections have, by their names.
use Rattle.std.proofs.Common.{◌≡◌, ◌≢◌, ℕ, zero, suc, ◌+◌, ◌<◌, ◌≤◌, Bool, true, false, List, [], ◌∷◌, length, map, drop, get_or, set, replicate, refl, sym, ap}
use Rattle.std.proofs.Common.{◌∙◌, arith, Result, Ok, Err, inl, inr}
use Rattle.std.specs.Prelude.{◌==◌, ◌||◌, if◌then◌else◌}
use Rattle.std.proofs.lemmas.Bool.Decides.{nat_tests}
use Rattle.std.proofs.lemmas.List.{get_or-replicate, get_or-set_same, get_or-set_other, length-set, length-replicate, drop_all, length-map}
use Rattle.std.specs.Global.{Vec}
use Rattle.page.specs.History.{History, KeepsWord}
use Rattle.path.specs.declared.refusal.Refusal.{Refusal}
use Rattle.path.specs.declared.refusal.Refusal.TheVariants as refusals
use Rattle.entry_model.specs.State.{Collection, empty_collection, uses}
use Rattle.collections.specs.Calls.{Reads}
use Rattle.collections.specs.Lookups.{name_in, name_of}
use Rattle.collections.specs.State.{State}
use Rattle.collections.specs.declared.lookups.Name.{Name}
use Rattle.engine.specs.Durable.{disk_history, IsSound}
use Rattle.engine.specs.Numbering.{AreMarked, IsNewNumber, IsTooMany, numbered}
use Rattle.engine.specs.Trying.{MayRefuse}
use Rattle.engine.specs.View.{world}
use Rattle.database_model.specs.World.{unused, unused_from}
use Rattle.engine.specs.declared.engine.Engine.{Engine}
use Rattle.engine.proofs.OnlyReading.{reads_file}
use Rattle.replies.proofs.Steps.{drop_step}

-- ---- marks

-- a number is marked, or one of the names that are left has it
pub record AreMarkedTo (names : List Name) (i : ℕ) (used : List Bool) : Type 0 where
  pub whole : length used ≡ 1001
  pub marked : (n : ℕ) → n < 1001 → (get_or used n false || uses (numbered (drop i names)) n) ≡ uses (numbered names) n

pub marks_none : (names : List Name) (used : List Bool) → used ≡ replicate 1001 false → AreMarkedTo names 0 used
marks_none names used is = record {
  whole = ap length is ∙ length-replicate 1001 false;
  marked = λ n below. ap (λ (b : Bool). b || uses (numbered names) n)
      (ap (λ (bs : List Bool). get_or bs n false) is ∙ get_or-replicate 1001 n false false below);
}

or_true : (b : Bool) → (b || true) ≡ true
or_true true = refl
or_true false = refl

or_false : (b : Bool) → (b || false) ≡ b
or_false true = refl
or_false false = refl

one_more : (used : List Bool) (k n : ℕ) (rest : Bool) → k < length used
    → (get_or (set used k true) n false || rest) ≡ (get_or used n false || ((k == n) || rest))
one_more used k n rest within = by (k == n) refl
  where
    by : (b : Bool) → (k == n) ≡ b → (get_or (set used k true) n false || rest) ≡ (get_or used n false || (b || rest))
    by true is =
        let same : k ≡ n = grind (arith, nat_tests) in
        let here : get_or (set used k true) n false ≡ true =
        ap (λ (j : ℕ). get_or (set used k true) j false) (sym same) ∙ get_or-set_same used k true false within in
        ap (λ (b : Bool). b || rest) here ∙ sym (or_true (get_or used n false))
    by false is =
        let other : n ≢ k = grind (arith, nat_tests) in
        ap (λ (b : Bool). b || rest) (get_or-set_other used k n true false other)

module _ (names : List Name) (i : ℕ) (name : Name) (used : List Bool) (within : i < length names) (is : name ≡ get_or names i name)
    (far : AreMarkedTo names i used) where
  abbrev rest : ℕ → Bool
  rest n = uses (numbered (drop (i + 1) names)) n

  so_far : (n : ℕ) → n < 1001 → (get_or used n false || ((name.number == n) || rest n)) ≡ uses (numbered names) n
  so_far n below = ap (λ (ns : List Name). get_or used n false || uses (numbered ns) n) (sym (drop_step names i name within is)) ∙ far.marked n below

  pub marks_one : name.number ≤ 1000 → AreMarkedTo names (i + 1) (set used name.number true)
  marks_one few = record {
    whole = length-set used name.number true ∙ far.whole;
    marked = λ n below. one_more used name.number n (rest n) (omega (arith, few, far.whole)) ∙ so_far n below;
  }

  pub marks_other : 1000 < name.number → AreMarkedTo names (i + 1) used
  marks_other many = record {
    whole = far.whole;
    marked = λ n below.
        let other : (name.number == n) ≡ false = grind (arith, nat_tests) in
        ap (λ (b : Bool). get_or used n false || (b || rest n)) (sym other) ∙ so_far n below;
  }

pub marks_all : (names : List Name) (i : ℕ) (used : List Bool) → length names ≤ i → AreMarkedTo names i used → AreMarked names used
marks_all names i used whole far = record {
  whole = far.whole;
  marked = λ n below.
      sym (or_false (get_or used n false)) ∙ ap (λ (ns : List Name). get_or used n false || uses (numbered ns) n) (sym (drop_all i names whole))
      ∙ far.marked n below;
}

-- ---- the names are those of the collections

uses_same : (names : List Name) (cs : List Collection) → map name_of names ≡ map name_in cs → (n : ℕ) → uses (numbered names) n ≡ uses cs n
uses_same [] [] e n = refl
uses_same [] (c ∷ cs) e n = absurd cc
uses_same (m ∷ ms) [] e n = absurd cc
uses_same (m ∷ ms) (c ∷ cs) e n =
    let first : name_of m ≡ name_in c = cc in
    let later : map name_of ms ≡ map name_in cs = cc in
    λ i. ((first i).1 == n) || uses_same ms cs later n i

from_same : (more n : ℕ) (cs ds : List Collection) → ((k : ℕ) → uses cs k ≡ uses ds k) → unused_from more n cs ≡ unused_from more n ds
from_same zero n cs ds same = refl
from_same (suc more) n cs ds same = λ i. if same n i then from_same more (suc n) cs ds same i else n

pub length_same : (names : List Name) (cs : List Collection) → map name_of names ≡ map name_in cs → length names ≡ length cs
length_same names cs e = sym (length-map names name_of) ∙ ap length e ∙ length-map cs name_in

pub unused_same : (names : List Name) (cs : List Collection) → map name_of names ≡ map name_in cs → unused (numbered names) ≡ unused cs
unused_same names cs e =
    let ds = numbered names in
    let long : length ds ≡ length cs = length-map names (λ (n : Name). empty_collection [] n.number) ∙ length_same names cs e in
    from_same (length ds) 1 ds cs (uses_same names cs e) ∙ ap (λ (k : ℕ). unused_from k 1 cs) long

-- ---- what looking for a number comes to

module _ {D : Type 0} (history : D → History) (old : Engine D) (file : State D) (h : IsSound history old) where
  abbrev now : List Collection
  now = (world old).collections

  abbrev new : Engine D
  new = record old { file = file }

  abbrev Finds : Result (Vec Name) Refusal → Type 0
  Finds r = Reads history (λ cs names. map name_of names.items ≡ map name_in cs) r old.file file

  abbrev TriesSo : Result ℕ Refusal → Type 0
  TriesSo r = MayRefuse history (IsNewNumber now) (IsTooMany now) r old new

  pub number_unread : (e : Refusal) → Finds (Err e) → TriesSo (Err e)
  number_unread e r = record {
    reads = reads_file history old file h r.extends r.unchanged r.same;
    answers = λ k. inr (r.answers k old.told.value.start now h.file);
  }

  module _ (names : Vec Name) (r : Finds (Ok names)) where
    are : KeepsWord (disk_history history new) → map name_of names.items ≡ map name_in now
    are k = r.answers k old.told.value.start now h.file

    pub number_many : 1000 ≤ length names.items → TriesSo (Err refusals.TooMany)
    number_many many = record {
      reads = reads_file history old file h r.extends r.unchanged r.same;
      answers = λ k. inl (refl, omega (arith, many, length_same names.items now (are k)));
    }

    pub number_without_memory : TriesSo (Err refusals.OutOfMemory)
    number_without_memory = record { reads = reads_file history old file h r.extends r.unchanged r.same; answers = λ k. inr (inl refl) }

    pub number_found : (n : ℕ) → length names.items < 1000 → n ≡ unused (numbered names.items) → TriesSo (Ok n)
    number_found n few is = record {
      reads = reads_file history old file h r.extends r.unchanged r.same;
      answers = λ k. (omega (arith, few, length_same names.items now (are k)), is ∙ unused_same names.items now (are k));
    }
