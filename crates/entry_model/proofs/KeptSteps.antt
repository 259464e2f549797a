-- A collection within the limits, with a document or an index more, and with one less.
use Rattle.std.proofs.Common.{◌≡◌, ◌≢◌, suc, Bool, true, false, List, [], ◌∷◌, ◌++◌, length, map, Ok, inl, inr, refl, sym, ap, subst, ◌∙◌, arith, length-append}
use Rattle.std.proofs.Common.{◌+◌, ◌<◌, ℕ, get_or, take, drop}
use Rattle.std.specs.Prelude.{All, if◌then◌else◌}
use Rattle.std.specs.List.{AllPairs}
use Rattle.std.specs.declared.cmp.Ordering.TheVariants.{Less}
use Rattle.std.proofs.lemmas.List.{take-append-drop}
use Rattle.bson.specs.Tree.{Pairs}
use Rattle.value_order.specs.Order.{compare}
use Rattle.index.specs.Changes.{is_among}
use Rattle.index.specs.Definition.{Field, Definition}
use Rattle.index.specs.KeyTexts.{encoded_keys, keys_in}
use Rattle.entry_model.specs.State.{key_of}
use Rattle.entry_model.specs.LawfulState.{IsStorable, IsRising, IsIndexOf, ShareNoKey}
use Rattle.entry_model.specs.StateLaws.{AreAlike}
use Rattle.index.specs.IndexKeys.{is_multikey, noted}
use Rattle.index.proofs.TextLemmas.{drop_step}
use Rattle.entry_model.specs.KeptLaws.{MayEnter, IsNotedFor, KeptWithDocument, KeptWithoutDocument, KeptWithIndex, KeptWithoutIndex, KeptNoted}
use Rattle.entry_model.proofs.MemberLemmas.{Among, among_front, among_back, among_map, of_all, first_of}
use Rattle.entry_model.proofs.KeyOfDocument.{among_middle, among_around}
use Rattle.entry_model.proofs.LawfulLaws.{all_of, pairs_of}

-- ---- one more and one less, of any list

pub all_middle : {X : Type 0} (P : X → Type 0) (front back : List X) (y : X) → All P (front ++ back) → P y → All P (front ++ y ∷ back)
all_middle P front back y h here =
    all_of P (front ++ y ∷ back) (λ x g. elim (among_middle x y front back g) [ inl e ↦ subst P (sym e) here | inr k ↦ of_all P (front ++ back) x h k ])

pub all_around : {X : Type 0} (P : X → Type 0) (front back : List X) (y : X) → All P (front ++ y ∷ back) → All P (front ++ back)
all_around P front back y h = all_of P (front ++ back) (λ x g. of_all P (front ++ y ∷ back) x h (among_around x y front back g))

-- what stands around a place
pub cut_at : {X : Type 0} (xs : List X) (i : ℕ) (x : X) → i < length xs → x ≡ get_or xs i x → xs ≡ take i xs ++ x ∷ drop (suc i) xs
cut_at xs i x within is =
    let next : i + 1 ≡ suc i = omega arith in
    sym (take-append-drop i xs) ∙ ap (λ (ys : List _). take i xs ++ ys) (drop_step xs i x within is ∙ ap (λ (n : ℕ). x ∷ drop n xs) next)

rest_pairs : {X : Type 0} (R : X → X → Type 0) (x : X) (xs : List X) → AllPairs R (x ∷ xs) → AllPairs R xs
rest_pairs R x xs h = λ i j d lt below. h (suc i) (suc j) d (omega (arith, lt)) (omega (arith, below))

pub pairs_middle : {X : Type 0} (R : X → X → Type 0) (front back : List X) (y : X) → AllPairs R (front ++ back) → ((x : X) → Among x front → R x y)
    → ((x : X) → Among x back → R y x) → AllPairs R (front ++ y ∷ back)
pairs_middle R [] back y h before behind = pairs_of R y back behind h
pairs_middle R (z ∷ front) back y h before behind =
    pairs_of R z (front ++ y ∷ back) (λ x g. elim (among_middle x y front back g) [
      | inl e ↦ subst (R z) (sym e) (before z (inl refl))
      | inr k ↦ first_of R z (front ++ back) x h k
    ]) (pairs_middle R front back y (rest_pairs R z (front ++ back) h) (λ x g. before x (inr g)) behind)

pub pairs_around : {X : Type 0} (R : X → X → Type 0) (front back : List X) (y : X) → AllPairs R (front ++ y ∷ back) → AllPairs R (front ++ back)
pairs_around R [] back y h = rest_pairs R y back h
pairs_around R (z ∷ front) back y h =
    pairs_of R z (front ++ back) (λ x g. first_of R z (front ++ y ∷ back) x h (among_around x y front back g))
    (pairs_around R front back y (rest_pairs R z (front ++ y ∷ back) h))

-- ---- documents

share_back : (fs : List Field) (d e : Pairs) → ShareNoKey fs d e → ShareNoKey fs e d
share_back fs d e h key there = by (is_among (encoded_keys fs d) key) refl
  where
    by : (b : Bool) → is_among (encoded_keys fs d) key ≡ b → is_among (encoded_keys fs d) key ≡ false
    by true both = absurd (let f : true ≡ false = sym there ∙ h key both in cc)
    by false none = none

pub index_with : (i : Definition) (front back : List Pairs) (d : Pairs) → IsIndexOf (front ++ back) i → MayEnter (front ++ back) d i
    → IsIndexOf (front ++ d ∷ back) i
index_with i front back d h m = record {
  lawful = h.lawful;
  keys = all_middle (λ e. keys_in i.fields e ≡ Ok (encoded_keys i.fields e)) front back d h.keys m.keys;
  unique = λ u. pairs_middle (ShareNoKey i.fields) front back d (h.unique u)
      (λ e g. share_back i.fields d e (of_all (ShareNoKey i.fields d) (front ++ back) e (m.unique u) (among_front e front back g)))
      (λ e g. of_all (ShareNoKey i.fields d) (front ++ back) e (m.unique u) (among_back e front back g));
  multi = all_middle (λ e. is_multikey i.fields e ≡ true → i.is_multi ≡ true) front back d h.multi m.multi;
}

pub index_without : (i : Definition) (front back : List Pairs) (d : Pairs) → IsIndexOf (front ++ d ∷ back) i → IsIndexOf (front ++ back) i
index_without i front back d h = record {
  lawful = h.lawful;
  keys = all_around (λ e. keys_in i.fields e ≡ Ok (encoded_keys i.fields e)) front back d h.keys;
  unique = λ u. pairs_around (ShareNoKey i.fields) front back d (h.unique u);
  multi = all_around (λ e. is_multikey i.fields e ≡ true → i.is_multi ≡ true) front back d h.multi;
}

pub kept_with_document : KeptWithDocument
kept_with_document c front back d h split m =
    let rising : IsRising (front ++ back) = subst IsRising split h.rising in
    let storable : All IsStorable (front ++ back) = subst (All IsStorable) split h.storable in
    let indexes : All (IsIndexOf (front ++ back)) c.indexes = subst (λ (ds : List Pairs). All (IsIndexOf ds) c.indexes) split h.indexes in
    record {
      name = h.name;
      short = h.short;
      least = h.least;
      most = h.most;
      rising = pairs_middle (λ e f. compare (key_of e) (key_of f) ≡ Less) front back d rising
          (λ e g. of_all (λ f. compare (key_of f) (key_of d) ≡ Less) front e m.behind g)
          (λ e g. of_all (λ f. compare (key_of d) (key_of f) ≡ Less) back e m.before g);
      storable = all_middle IsStorable front back d storable m.storable;
      indexes = all_of (IsIndexOf (front ++ d ∷ back)) c.indexes
          (λ i g. index_with i front back d (of_all (IsIndexOf (front ++ back)) c.indexes i indexes g)
          (of_all (MayEnter (front ++ back) d) c.indexes i m.enters g));
      distinct = h.distinct;
      few = h.few;
    }

pub kept_without_document : KeptWithoutDocument
kept_without_document c front back d h split =
    let rising : IsRising (front ++ d ∷ back) = subst IsRising split h.rising in
    let storable : All IsStorable (front ++ d ∷ back) = subst (All IsStorable) split h.storable in
    let indexes : All (IsIndexOf (front ++ d ∷ back)) c.indexes = subst (λ (ds : List Pairs). All (IsIndexOf ds) c.indexes) split h.indexes in
    record {
      name = h.name;
      short = h.short;
      least = h.least;
      most = h.most;
      rising = pairs_around (λ e f. compare (key_of e) (key_of f) ≡ Less) front back d rising;
      storable = all_around IsStorable front back d storable;
      indexes = all_of (IsIndexOf (front ++ back)) c.indexes
          (λ i g. index_without i front back d (of_all (IsIndexOf (front ++ d ∷ back)) c.indexes i indexes g));
      distinct = h.distinct;
      few = h.few;
    }

-- ---- indexes

nil_back : {X : Type 0} (xs : List X) → xs ++ [] ≡ xs
nil_back [] = refl
nil_back (x ∷ xs) = ap (λ ys. x ∷ ys) (nil_back xs)

pub kept_with_index : KeptWithIndex
kept_with_index c i h index apart room =
    let all : All (IsIndexOf c.documents) (c.indexes ++ []) = subst (All (IsIndexOf c.documents)) (sym (nil_back c.indexes)) h.indexes in
    let distinct : AllPairs (λ j k. j.number ≢ k.number) (c.indexes ++ []) =
    subst (AllPairs (λ j k. j.number ≢ k.number)) (sym (nil_back c.indexes)) h.distinct in
    record {
      name = h.name;
      short = h.short;
      least = h.least;
      most = h.most;
      rising = h.rising;
      storable = h.storable;
      indexes = all_middle (IsIndexOf c.documents) c.indexes [] i all index;
      distinct = pairs_middle (λ j k. j.number ≢ k.number) c.indexes [] i distinct (λ j g. of_all (λ k. k.number ≢ i.number) c.indexes j apart g)
          (λ j g. absurd g);
      few = omega (arith, length-append c.indexes (i ∷ []), room);
    }

pub kept_without_index : KeptWithoutIndex
kept_without_index c front back i h split =
    let all : All (IsIndexOf c.documents) (front ++ i ∷ back) = subst (All (IsIndexOf c.documents)) split h.indexes in
    let distinct : AllPairs (λ j k. j.number ≢ k.number) (front ++ i ∷ back) = subst (AllPairs (λ j k. j.number ≢ k.number)) split h.distinct in
    record {
      name = h.name;
      short = h.short;
      least = h.least;
      most = h.most;
      rising = h.rising;
      storable = h.storable;
      indexes = all_around (IsIndexOf c.documents) front back i all;
      distinct = pairs_around (λ j k. j.number ≢ k.number) front back i distinct;
      few = omega (arith, ap length split, length-append front (i ∷ back), length-append front back, h.few);
    }

-- ---- noted

pub noted_number : (d : Pairs) (i : Definition) → (noted d i).number ≡ i.number
noted_number d i =
    elim (is_multikey i.fields d) as (λ (b : Bool). (if b then record i { is_multi = true } else i).number ≡ i.number) [ true ↦ refl | false ↦ refl ]

pub noted_fields : (d : Pairs) (i : Definition) → (noted d i).fields ≡ i.fields
noted_fields d i =
    elim (is_multikey i.fields d) as (λ (b : Bool). (if b then record i { is_multi = true } else i).fields ≡ i.fields) [ true ↦ refl | false ↦ refl ]

pub noted_alike : (d : Pairs) (is : List Definition) → AreAlike is (map (noted d) is)
noted_alike d [] = tt
noted_alike d (i ∷ is) = (sym (noted_number d i), sym (noted_fields d i), noted_alike d is)

pub noted_index : (d : Pairs) (ds : List Pairs) (i : Definition) → IsIndexOf ds i → IsIndexOf ds (noted d i)
noted_index d ds i h = by (is_multikey i.fields d)
  where
    by : (b : Bool) → IsIndexOf ds (if b then record i { is_multi = true } else i)
    by true = record {
      lawful = record {
        numbered = h.lawful.numbered;
        most = h.lawful.most;
        is_text = h.lawful.is_text;
        named = h.lawful.named;
        short = h.lawful.short;
        fields = h.lawful.fields;
      };
      keys = h.keys;
      unique = h.unique;
      multi = all_of (λ e. is_multikey i.fields e ≡ true → true ≡ true) ds (λ e g f. refl);
    }
    by false = h

pub noted_for : (d : Pairs) (i : Definition) → IsNotedFor d (noted d i)
noted_for d i = by (is_multikey i.fields d) refl
  where
    by : (b : Bool) → is_multikey i.fields d ≡ b → IsNotedFor d (if b then record i { is_multi = true } else i)
    by true e f = refl
    by false e f = absurd (let g : false ≡ true = sym e ∙ f in cc)

pub all_noted : (P Q : Definition → Type 0) (d : Pairs) → ((i : Definition) → P i → Q (noted d i)) → (is : List Definition) → All P is
    → All Q (map (noted d) is)
all_noted P Q d f is h =
    all_of Q (map (noted d) is) (λ j g. let i = among_map (noted d) j is g in subst Q (sym i.2) (f i.0 (of_all P is i.0 h i.1)))

pub long_map : {X Y : Type 0} (f : X → Y) (xs : List X) → length (map f xs) ≡ length xs
long_map f [] = refl
long_map f (x ∷ xs) = ap suc (long_map f xs)

pub noted_distinct : (d : Pairs) (is : List Definition) → AllPairs (λ j k. j.number ≢ k.number) is → AllPairs (λ j k. j.number ≢ k.number) (map (noted d) is)
noted_distinct d [] h = λ i j e lt below. absurd (omega (arith, below))
noted_distinct d (i ∷ is) h =
    pairs_of (λ j k. j.number ≢ k.number) (noted d i) (map (noted d) is)
    (λ j g e. let k = among_map (noted d) j is g in
    first_of (λ p q. p.number ≢ q.number) i is k.0 h k.1 (sym (noted_number d i) ∙ e ∙ ap (λ (x : Definition). x.number) k.2 ∙ noted_number d k.0))
    (noted_distinct d is (rest_pairs (λ j k. j.number ≢ k.number) i is h))

pub kept_noted : KeptNoted
kept_noted c d h = (
  record {
    name = h.name;
    short = h.short;
    least = h.least;
    most = h.most;
    rising = h.rising;
    storable = h.storable;
    indexes = all_noted (IsIndexOf c.documents) (IsIndexOf c.documents) d (noted_index d c.documents) c.indexes h.indexes;
    distinct = noted_distinct d c.indexes h.distinct;
    few = omega (arith, long_map (noted d) c.indexes, h.few);
  },
  noted_alike d c.indexes,
  all_noted (IsIndexOf c.documents) (IsNotedFor d) d (λ i g. noted_for d i) c.indexes h.indexes,
)
