-- A definition is read back from its document, and from no other.
use Rattle.std.proofs.Common.{◌≡◌, ℕ, ◌≤◌, Bool, true, false, ◌||◌, ◌&&◌, nat_lt, List, [], ◌∷◌, length, Option, Some, None, Result, Ok, refl, ap, ◌∙◌, arith}
use Rattle.std.proofs.Common.{codes}
use Rattle.std.specs.Prelude.{if◌then◌else◌}
use Rattle.std.specs.List.{AllByRecursion}
use Rattle.std.specs.Option.{option_and_then, option_map}
use Rattle.std.specs.Str.{bytes_eq}
use Rattle.std.proofs.lemmas.Bool.Decides.{nat_tests}
use Rattle.std.proofs.lemmas.Slice.Eq.{bytes_eq-Decides}
use Rattle.outcome.specs.Outcome.{◌>>=◌}
use Rattle.bson.specs.Tree.{no_pairs, pair}
use Rattle.path.specs.declared.fault.PathFault.{PathFault}
use Rattle.value_order.specs.declared.texts.Direction.{Direction}
use Rattle.value_order.specs.declared.texts.Direction.TheVariants as directions
use Rattle.index.specs.Definition.{Field, Definition, direction_value, key_document, IsPath}
use Rattle.index.specs.Naming.{field_named}
use Rattle.index.specs.Catalogue.{index_number, number_in, name_in, truth_in, direction_in, if_named, field_in, fields_in, counted, key_in, all_of, are_names}
use Rattle.index.specs.Laws.{ReadsBack, OnlySpelled}
use Rattle.index.proofs.CatalogueLemmas.{number_found, name_found, truth_found, key_found, lawful_parts}

-- ---- what is spelled is read

-- a number between two others passes
within : {X : Type 0} (n low high : ℕ) (x : X) → low ≤ n → n ≤ high → (if nat_lt n low || nat_lt high n then None else Some x) ≡ Some x
within n low high x up down =
    let small : nat_lt n low ≡ false = grind (arith, nat_tests) in
    let large : nat_lt high n ≡ false = grind (arith, nat_tests) in
    λ i. if small i || large i then None else Some x

way_back : (way : Direction) → direction_in (direction_value way) ≡ Some way
way_back directions.Ascending = refl
way_back directions.Descending = refl

field_back : (f : Field) → IsPath f.path → field_in f.path (direction_value f.direction) ≡ Some f
field_back f is_path =
    ap (option_and_then (λ way. if_named (field_named f.path way))) (way_back f.direction)
    ∙ ap (λ (p : Result (List (List ℕ)) PathFault). if_named (p >>= λ _. Ok (record { path = f.path; direction = f.direction }))) is_path

fields_back : (fs : List Field) → AllByRecursion (λ f. IsPath f.path) fs → fields_in (key_document fs) ≡ Some fs
fields_back [] h = refl
fields_back (f ∷ fs) h = λ i. option_and_then (λ g. option_map (λ gs. g ∷ gs) (fields_back fs h.1 i)) (field_back f h.0 i)

pub reads_back : ReadsBack
reads_back d h =
    let number : index_number d.number ≡ Some d.number = within d.number 1 16 d.number h.numbered h.most in
    let name = within (length d.name) 1 127 d.name h.named h.short in
    let fields = fields_back d.fields h.fields.paths in
    let few : counted d.fields ≡ Some d.fields = within (length d.fields) 1 4 d.fields h.fields.some h.fields.most in
    (λ i. all_of (number i) (name i) (option_and_then counted (fields i)) (Some d.is_unique) (Some d.is_multi))
    ∙ (λ i. all_of (Some d.number) (Some d.name) (few i) (Some d.is_unique) (Some d.is_multi))

-- ---- what is read is spelled

record AreParts (a : Option ℕ) (b : Option (List ℕ)) (c : Option (List Field)) (p q : Option Bool) (d : Definition) : Type 0 where
  number : a ≡ Some d.number
  name : b ≡ Some d.name
  fields : c ≡ Some d.fields
  unique : p ≡ Some d.is_unique
  multi : q ≡ Some d.is_multi

all_found : (a : Option ℕ) (b : Option (List ℕ)) (c : Option (List Field)) (p q : Option Bool) (d : Definition) → all_of a b c p q ≡ Some d
    → AreParts a b c p q d
all_found (Some n) (Some s) (Some fs) (Some u) (Some m) d e =
    let same : record { number = n; name = s; fields = fs; is_unique = u; is_multi = m } ≡ d = cc in
    record {
      number = ap (λ (x : Definition). Some x.number) same;
      name = ap (λ (x : Definition). Some x.name) same;
      fields = ap (λ (x : Definition). Some x.fields) same;
      unique = ap (λ (x : Definition). Some x.is_unique) same;
      multi = ap (λ (x : Definition). Some x.is_multi) same;
    }
all_found None b c p q d e = absurd cc
all_found (Some n) None c p q d e = absurd cc
all_found (Some n) (Some s) None p q d e = absurd cc
all_found (Some n) (Some s) (Some fs) None q d e = absurd cc
all_found (Some n) (Some s) (Some fs) (Some u) None d e = absurd cc

both : (a b : Bool) → (a && b) ≡ true → (a ≡ true) × (b ≡ true)
both true b e = (refl, e)
both false b e = absurd cc

same_name : (name word : List ℕ) → bytes_eq name word ≡ true → name ≡ word
same_name name word e = (bytes_eq-Decides name word).0 e

if_so : {X : Type 0} (b : Bool) (x : Option X) (y : X) → (if b then x else None) ≡ Some y → (b ≡ true) × (x ≡ Some y)
if_so true x y e = (refl, e)
if_so false x y e = absurd cc

pub only_spelled : OnlySpelled
only_spelled no_pairs d h e = absurd cc
only_spelled (pair i t no_pairs) d h e = absurd cc
only_spelled (pair i t (pair n v no_pairs)) d h e = absurd cc
only_spelled (pair i t (pair n v (pair k w no_pairs))) d h e = absurd cc
only_spelled (pair i t (pair n v (pair k w (pair u x no_pairs)))) d h e = absurd cc
only_spelled (pair i t (pair n v (pair k w (pair u x (pair m y no_pairs))))) d h e =
    let told = if_so (are_names i n k u m) (all_of (number_in t) (name_in v) (key_in w) (truth_in x) (truth_in y)) d e in
    let parts = all_found (number_in t) (name_in v) (key_in w) (truth_in x) (truth_in y) d told.1 in
    let first = both (bytes_eq i (codes "i")) _ told.0 in
    let second = both (bytes_eq n (codes "name")) _ first.1 in
    let third = both (bytes_eq k (codes "key")) _ second.1 in
    let fourth = both (bytes_eq u (codes "unique")) (bytes_eq m (codes "multi")) third.1 in
    let key = key_found w d.fields parts.fields h.3.3.1 in (
      λ j. pair (same_name i (codes "i") first.0 j) ((number_found t d.number parts.number).0 j)
          (pair (same_name n (codes "name") second.0 j) ((name_found v d.name parts.name).0 j)
          (pair (same_name k (codes "key") third.0 j) (key.0 j)
          (pair (same_name u (codes "unique") fourth.0 j) (truth_found x d.is_unique parts.unique j)
          (pair (same_name m (codes "multi") fourth.1 j) (truth_found y d.is_multi parts.multi j) no_pairs)))),
      lawful_parts d.number d.name d.fields d.is_unique d.is_multi t v w parts.number parts.name parts.fields h.3.1 h.3.3.1,
    )
only_spelled (pair i t (pair n v (pair k w (pair u x (pair m y (pair o z ps)))))) d h e = absurd cc
