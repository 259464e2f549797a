-- Definitions as documents.
use Rattle.std.proofs.Common.{◌≡◌, ℕ, zero, suc, ◌+◌, ◌<◌, ◌≤◌, Bool, true, false, ◌||◌, nat_lt, List, [], ◌∷◌, ◌++◌, length, drop, get_or, Option, Some, None}
use Rattle.std.proofs.Common.{Result, Ok, Err, append_assoc, refl, sym, ap, subst, ◌∙◌, arith}
use Rattle.std.specs.Prelude.{◌≢◌, pos, negsuc, if◌then◌else◌}
use Rattle.std.specs.List.{AllByRecursion}
use Rattle.std.specs.Option.{option_and_then, option_map}
use Rattle.std.specs.Str.{bytes_eq}
use Rattle.std.proofs.lemmas.Bool.Decides.{nat_tests}
use Rattle.bson.specs.Tree.{text, boolean, int32, Tree, scalar, document, Pairs, no_pairs, pair, append}
use Rattle.bson.specs.Lawful.{pairs_levels, Lacks, IsPairs, IsDocument, IsTree}
use Rattle.bson.specs.Lookup.{lookup}
use Rattle.bson.specs.EditPlaces.{append-one}
use Rattle.bson.specs.EditsLaws.{pairs_of-push}
use Rattle.bson.specs.View.{tree, pairs_of}
use Rattle.bson.specs.declared.value.Pair.{Pair}
use Rattle.std.proofs.lemmas.Slice.Eq.{bytes_eq-Decides}
use Rattle.path.specs.Parts.{parts_of, path_fault}
use Rattle.path.specs.declared.fault.PathFault.{PathFault}
use Rattle.value_order.specs.declared.texts.Direction.{Direction}
use Rattle.value_order.specs.declared.texts.Direction.TheVariants as directions
use Rattle.index.specs.Definition.{Field, direction_value, key_document, IsPath, AreFields, IsDefinition}
use Rattle.outcome.specs.Outcome.{fault_or, ◌>>=◌}
use Rattle.index.specs.Naming.{field_named, definition_of}
use Rattle.index.specs.Catalogue.{index_number, number_in, name_in, truth_in, direction_in, if_named, field_in, fields_in, counted, key_in, definition_in}
use Rattle.index.proofs.TextLemmas.{drop_step}

pub differ : (xs ys : List ℕ) → bytes_eq xs ys ≡ false → xs ≢ ys
differ xs ys e same = let f = (bytes_eq-Decides xs ys).1 same in absurd cc

pub lacks : (ps : Pairs) (name : List ℕ) → lookup ps name ≡ None → Lacks ps name
lacks no_pairs name e = tt
lacks (pair other t ps) name e = at (bytes_eq name other) refl e (λ f. lacks ps name f)
  where
    at : (b : Bool) → bytes_eq name other ≡ b → (if b then Some t else lookup ps name) ≡ None → (lookup ps name ≡ None → Lacks ps name)
        → Lacks (pair other t ps) name
    at true is e rest = absurd cc
    at false is e rest = (differ name other is, rest e)

-- ---- spelling

pub pair_more : (fs : List Field) (i : ℕ) (f : Field) (ps new : List Pair) (p : Pair) (whole : Pairs) → i < length fs → f ≡ get_or fs i f → new ≡ ps ++ p ∷ []
    → p.name ≡ f.path → tree p.value ≡ direction_value f.direction
    → append (pairs_of ps) (key_document (drop i fs)) ≡ whole → append (pairs_of new) (key_document (drop (i + 1) fs)) ≡ whole
pair_more fs i f ps new p whole lt is grown named way so_far =
    let rest = key_document (drop (i + 1) fs) in
    ap (λ (qs : List Pair). append (pairs_of qs) rest) grown ∙ ap (λ (qs : Pairs). append qs rest) (pairs_of-push ps p)
    ∙ append-one (pairs_of ps) p.name (tree p.value) rest
    ∙ (λ j. append (pairs_of ps) (pair (named j) (way j) rest))
    ∙ sym (ap (λ (gs : List Field). append (pairs_of ps) (key_document gs)) (drop_step fs i f lt is))
    ∙ so_far

pub key_levels : (fs : List Field) → pairs_levels (key_document fs) ≡ 0
key_levels [] = refl
key_levels (f ∷ fs) = by f.direction (key_levels fs)
  where
    by : (way : Direction) → pairs_levels (key_document fs) ≡ 0 → pairs_levels (pair f.path (direction_value way) (key_document fs)) ≡ 0
    by directions.Ascending e = omega (arith, e)
    by directions.Descending e = omega (arith, e)

pub key_is_document : (fs : List Field) → AreFields fs → IsDocument (key_document fs)
key_is_document fs h = record { lawful = h.distinct; depth = omega (arith, key_levels fs) }

-- ---- reading

number_lawful : (n m : ℕ) → index_number n ≡ Some m → (n ≡ m) × (1 ≤ m) × (m ≤ 16)
number_lawful n m e = by (nat_lt n 1) refl (nat_lt 16 n) refl e
  where
    by : (a : Bool) → nat_lt n 1 ≡ a → (b : Bool) → nat_lt 16 n ≡ b → (if a || b then None else Some n) ≡ Some m → (n ≡ m) × (1 ≤ m) × (m ≤ 16)
    by true small b large e = absurd cc
    by false small true large e = absurd cc
    by false small false large e =
        let same : n ≡ m = cc in
        (same, grind (arith, nat_tests), grind (arith, nat_tests))

pub number_found : (t : Tree) (m : ℕ) → number_in t ≡ Some m → (t ≡ scalar (int32 (pos m))) × (1 ≤ m) × (m ≤ 16)
number_found (scalar (int32 (pos n))) m e = let h = number_lawful n m e in (ap (λ (k : ℕ). scalar (int32 (pos k))) h.0, h.1, h.2)
number_found other m e = absurd cc

name_lawful : (s found : List ℕ) → (if nat_lt (length s) 1 || nat_lt 127 (length s) then None else Some s) ≡ Some found
    → (s ≡ found) × (1 ≤ length found) × (length found ≤ 127)
name_lawful s found e = by (nat_lt (length s) 1) refl (nat_lt 127 (length s)) refl e
  where
    by : (a : Bool) → nat_lt (length s) 1 ≡ a → (b : Bool) → nat_lt 127 (length s) ≡ b → (if a || b then None else Some s) ≡ Some found
        → (s ≡ found) × (1 ≤ length found) × (length found ≤ 127)
    by true small b large e = absurd cc
    by false small true large e = absurd cc
    by false small false large e =
        let same : s ≡ found = cc in
        let long : length s ≡ length found = ap length same in
        (same, grind (arith, nat_tests), grind (arith, nat_tests))

pub name_found : (t : Tree) (s : List ℕ) → name_in t ≡ Some s → (t ≡ scalar (text s)) × (1 ≤ length s) × (length s ≤ 127)
name_found (scalar (text r)) s e = let h = name_lawful r s e in (ap (λ (k : List ℕ). scalar (text k)) h.0, h.1, h.2)
name_found other s e = absurd cc

pub truth_found : (t : Tree) (b : Bool) → truth_in t ≡ Some b → t ≡ scalar (boolean b)
truth_found (scalar (boolean c)) b e = let same : c ≡ b = cc in ap (λ (x : Bool). scalar (boolean x)) same
truth_found other b e = absurd cc

direction_found : (t : Tree) (way : Direction) → direction_in t ≡ Some way → t ≡ direction_value way
direction_found (scalar (int32 (pos (suc zero)))) way e = let same : directions.Ascending ≡ way = cc in ap direction_value same
direction_found (scalar (int32 (negsuc zero))) way e = let same : directions.Descending ≡ way = cc in ap direction_value same
direction_found other way e = absurd cc

unnamed : (t : Result Field PathFault) (f : Field) → if_named t ≡ Some f → t ≡ Ok f
unnamed (Ok g) f e = let same : g ≡ f = cc in ap Ok same
unnamed (Err fault) f e = absurd cc

path_named : (name : List ℕ) (way : Direction) (f : Field) → field_named name way ≡ Ok f → (name ≡ f.path) × (way ≡ f.direction) × IsPath name
path_named name way f e = by (path_fault name (parts_of name)) refl e
  where
    by : (o : Option PathFault) → path_fault name (parts_of name) ≡ o
        → (fault_or o (parts_of name) >>= λ _. Ok (record { path = name; direction = way })) ≡ Ok f → (name ≡ f.path) × (way ≡ f.direction) × IsPath name
    by None none e =
        let same : record { path = name; direction = way } ≡ f = cc in
        (ap (λ (g : Field). g.path) same, ap (λ (g : Field). g.direction) same, ap (λ (o : Option PathFault). fault_or o (parts_of name)) none)
    by (Some fault) some e = absurd cc

-- what one pair of a key says
record IsField (name : List ℕ) (t : Tree) (f : Field) : Type 0 where
  path : name ≡ f.path
  way : t ≡ direction_value f.direction
  lawful : IsPath f.path

field_found : (name : List ℕ) (t : Tree) (f : Field) → field_in name t ≡ Some f → IsField name t f
field_found name t f e = by (direction_in t) refl e
  where
    by : (o : Option Direction) → direction_in t ≡ o → option_and_then (λ way. if_named (field_named name way)) o ≡ Some f → IsField name t f
    by None none e = absurd cc
    by (Some way) some e =
        let named = path_named name way f (unnamed (field_named name way) f e) in
        record {
          path = named.0;
          way = direction_found t way some ∙ ap direction_value named.1;
          lawful = subst IsPath named.0 named.2;
        }

fields_found : (ps : Pairs) (fs : List Field) → fields_in ps ≡ Some fs → (ps ≡ key_document fs) × AllByRecursion (λ f. IsPath f.path) fs
fields_found no_pairs [] e = (refl, tt)
fields_found no_pairs (f ∷ fs) e = absurd cc
fields_found (pair name t ps) fs e = by (field_in name t) refl (fields_in ps) refl e (λ gs. fields_found ps gs)
  where
    by : (one : Option Field) → field_in name t ≡ one → (more : Option (List Field)) → fields_in ps ≡ more
        → option_and_then (λ f. option_map (λ gs. f ∷ gs) more) one ≡ Some fs
        → ((gs : List Field) → fields_in ps ≡ Some gs → (ps ≡ key_document gs) × AllByRecursion (λ f. IsPath f.path) gs)
        → (pair name t ps ≡ key_document fs) × AllByRecursion (λ f. IsPath f.path) fs
    by None first more rest e later = absurd cc
    by (Some f) first None rest e later = absurd cc
    by (Some f) first (Some gs) rest e later =
        let same : f ∷ gs ≡ fs = cc in
        let one = field_found name t f first in
        let behind = later gs rest in
        subst (λ (hs : List Field). (pair name t ps ≡ key_document hs) × AllByRecursion (λ g. IsPath g.path) hs) same
        (λ i. pair (one.path i) (one.way i) (behind.0 i), (one.lawful, behind.1))

counted_found : (gs fs : List Field) → counted gs ≡ Some fs → (gs ≡ fs) × (1 ≤ length fs) × (length fs ≤ 4)
counted_found gs fs e = by (nat_lt (length gs) 1) refl (nat_lt 4 (length gs)) refl e
  where
    by : (a : Bool) → nat_lt (length gs) 1 ≡ a → (b : Bool) → nat_lt 4 (length gs) ≡ b → (if a || b then None else Some gs) ≡ Some fs
        → (gs ≡ fs) × (1 ≤ length fs) × (length fs ≤ 4)
    by true small b large e = absurd cc
    by false small true large e = absurd cc
    by false small false large e =
        let same : gs ≡ fs = cc in
        let long : length gs ≡ length fs = ap length same in
        (same, grind (arith, nat_tests), grind (arith, nat_tests))

pub key_found : (t : Tree) (fs : List Field) → key_in t ≡ Some fs → IsTree t → (t ≡ document (key_document fs)) × AreFields fs
key_found (document ps) fs e h = by (fields_in ps) refl e
  where
    by : (o : Option (List Field)) → fields_in ps ≡ o → option_and_then counted o ≡ Some fs → (document ps ≡ document (key_document fs)) × AreFields fs
    by None none e = absurd cc
    by (Some gs) some e =
        let many = counted_found gs fs e in
        let told = fields_found ps fs (some ∙ ap Some many.0) in
        (ap document told.0, record { some = many.1; most = many.2; paths = told.1; distinct = subst IsPairs told.0 h })
key_found other fs e h = absurd cc

pub lawful_parts : (n : ℕ) (s : List ℕ) (fs : List Field) (u m : Bool) (t v w : Tree) → number_in t ≡ Some n → name_in v ≡ Some s → key_in w ≡ Some fs
    → IsTree v → IsTree w → IsDefinition (definition_of n s fs u m)
lawful_parts n s fs u m t v w number name key g h =
    let numbered = number_found t n number in
    let named = name_found v s name in
    record { numbered = numbered.1; most = numbered.2; is_text = subst IsTree named.0 g; named = named.1; short = named.2; fields = (key_found w fs key h).1 }

-- ---- five pairs

pub other_length : (ps : List Pair) → (length ps ≡ 5 → ⊥) → definition_in (pairs_of ps) ≡ None
other_length [] h = refl
other_length (a ∷ []) h = refl
other_length (a ∷ b ∷ []) h = refl
other_length (a ∷ b ∷ c ∷ []) h = refl
other_length (a ∷ b ∷ c ∷ d ∷ []) h = refl
other_length (a ∷ b ∷ c ∷ d ∷ e ∷ []) h = absurd (h refl)
other_length (a ∷ b ∷ c ∷ d ∷ e ∷ f ∷ ps) h = refl

pub five_pairs : (ps : List Pair) (a b c d e : Pair) → 5 ≤ length ps → length ps < 6 → a ≡ get_or ps 0 a → b ≡ get_or ps 1 b → c ≡ get_or ps 2 c
    → d ≡ get_or ps 3 d → e ≡ get_or ps 4 e
    → pairs_of ps ≡ pairs_of (a ∷ b ∷ c ∷ d ∷ e ∷ [])
five_pairs [] a b c d e low high p q r s t = absurd (omega arith)
five_pairs (v ∷ []) a b c d e low high p q r s t = absurd (omega arith)
five_pairs (v ∷ w ∷ []) a b c d e low high p q r s t = absurd (omega arith)
five_pairs (v ∷ w ∷ x ∷ []) a b c d e low high p q r s t = absurd (omega arith)
five_pairs (v ∷ w ∷ x ∷ y ∷ []) a b c d e low high p q r s t = absurd (omega arith)
five_pairs (v ∷ w ∷ x ∷ y ∷ z ∷ []) a b c d e low high p q r s t = sym (λ i. pairs_of (p i ∷ q i ∷ r i ∷ s i ∷ t i ∷ []))
five_pairs (v ∷ w ∷ x ∷ y ∷ z ∷ u ∷ ps) a b c d e low high p q r s t = absurd (omega arith)

pub trees : (a b c d e : Pair) → IsPairs (pairs_of (a ∷ b ∷ c ∷ d ∷ e ∷ [])) → IsTree (tree b.value) × IsTree (tree c.value)
trees a b c d e h = (h.3.1, h.3.3.1)

-- ---- one more field that is read

behind_one : (done : List Field) (f : Field) (o : Option (List Field))
    → option_map (λ fs. (done ++ f ∷ []) ++ fs) o ≡ option_map (λ fs. done ++ fs) (option_map (λ fs. f ∷ fs) o)
behind_one done f None = refl
behind_one done f (Some fs) = ap Some (append_assoc done (f ∷ []) fs)

pub key_field_more : (ps : List Pair) (i : ℕ) (p : Pair) (done next : List Field) (f : Field) (whole : Option (List Field)) → i < length ps
    → p ≡ get_or ps i p → field_in p.name (tree p.value) ≡ Some f → next ≡ done ++ f ∷ []
    → option_map (λ fs. done ++ fs) (fields_in (pairs_of (drop i ps))) ≡ whole → option_map (λ fs. next ++ fs) (fields_in (pairs_of (drop (i + 1) ps))) ≡ whole
key_field_more ps i p done next f whole lt is reads grown so_far =
    let rest = fields_in (pairs_of (drop (i + 1) ps)) in
    ap (λ (gs : List Field). option_map (λ fs. gs ++ fs) rest) grown
    ∙ behind_one done f rest
    ∙ sym (ap (λ (o : Option Field). option_map (λ fs. done ++ fs) (option_and_then (λ g. option_map (λ fs. g ∷ fs) rest) o)) reads)
    ∙ sym (ap (λ (qs : List Pair). option_map (λ fs. done ++ fs) (fields_in (pairs_of qs))) (drop_step ps i p lt is))
    ∙ so_far
