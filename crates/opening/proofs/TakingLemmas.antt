-- What is kept of the collections while the entries of a file are taken.
use Rattle.std.proofs.Common.{◌≡◌, ℕ, ◌<◌, Bool, true, false, not, ◌&&◌, ◌||◌, List, [], ◌∷◌, ◌++◌, length, map, Some, None, inl, inr, refl, sym, ap, subst}
use Rattle.std.proofs.Common.{◌∙◌, arith, eqb-true, get_or}
use Rattle.std.specs.Prelude.{All, ◌==◌, if◌then◌else◌, Option, codes, unwrap_or}
use Rattle.std.specs.List.{list_all, list_any}
use Rattle.std.specs.Option.{option_and_then}
use Rattle.std.specs.Str.{bytes_eq}
use Rattle.std.specs.Ordering.{nat_cmp, is_lt, ordering_reverse}
use Rattle.std.specs.Cmp.Lexicographic.{slice_cmp, nat_list_cmp_total}
use Rattle.std.specs.declared.cmp.Ordering.{Ordering}
use Rattle.std.specs.declared.cmp.Ordering.TheVariants as orders
use Rattle.std.proofs.lemmas.List.{length-map}
use Rattle.std.proofs.lemmas.Slice.Eq.{bytes_eq-Decides}
use Rattle.bson.specs.Tree.{Tree, Pairs, scalar, null}
use Rattle.bson.specs.Lookup.{lookup}
use Rattle.bson.specs.Lawful.{IsDocument}
use Rattle.tree_model.specs.Keys.{Entry}
use Rattle.tree_model.proofs.ListLemmas.{map_append}
use Rattle.update_model.specs.Stored.{no_array}
use Rattle.entry_model.specs.Documents.{put_document, with_documents}
use Rattle.entry_model.specs.Entering.{AreIndexed, clashes}
use Rattle.index.specs.IndexKeys.{noted}
use Rattle.entry_model.specs.LawfulState.{AreNamedApart, IsKept as IsIndexKept, IsStorable}
use Rattle.entry_model.specs.State.{Collection, by_order, find_collection, put_collection, uses}
use Rattle.entry_model.proofs.DocumentPlaces.{placed, all_put}
use Rattle.entry_model.proofs.EnteringLemmas.{stay_with}
use Rattle.entries.proofs.EnteringSteps.{noted_so}
use Rattle.entry_model.proofs.LawfulParts.{kept_of}
use Rattle.entries.proofs.OneStateLaws.{lawful_indexes}
use Rattle.entry_model.proofs.LawfulLaws.{all_of, makes_lawful, put_in, stays_lawful}
use Rattle.entry_model.proofs.MemberLemmas.{Among, first_of, of_all}
use Rattle.entry_model.proofs.PlaceLemmas.{apart_rest, name_itself}
use Rattle.entries.proofs.StateEditLaws.{put_same}
use Rattle.database_model.specs.Documents.{key_of}
use Rattle.opening.specs.Judging.{AreLoaded, IsIndexable, IsLoadingAs, IsName, IsStoredAt, bare, keys_among, listed_of, numbered, stands_behind}
use Rattle.opening.specs.Judging.{with_document_at, with_document_in}
use Rattle.database_model.specs.Lawful.{IsLawfulState, IsStored}
use Rattle.database_model.proofs.ShortIndexes.{definitions_short}

-- ---- what is lawful

pub loaded_lawful : (now : List Collection) → AreLoaded now → IsLawfulState now
loaded_lawful now h = record {
  apart = h.lawful.apart;
  numbers = h.lawful.numbers;
  kept = λ k c below.
      let kept = h.lawful.kept k c below in
      let one = get_or now k c in
      record {
        lawful = record { rising = kept.rising; stored = h.stored k c below };
        short = kept.short;
        least = kept.least;
        most = kept.most;
        indexes = definitions_short one.indexes (lawful_indexes one.indexes one.documents kept.indexes) kept.few;
      };
  few = h.lawful.few;
}

pub none_loaded : AreLoaded []
none_loaded = record {
  lawful = record
      { apart = λ i j d lt below. absurd (omega (arith, below)); numbers = tt; kept = λ k d below. absurd (omega (arith, below)); few = omega arith };
  stored = λ k d below. absurd (omega (arith, below));
}

found_some : (o : Option Tree) (id : Tree) → option_and_then no_array o ≡ Some id → o ≡ Some (unwrap_or o (scalar null))
found_some None id is = absurd cc
found_some (Some t) id is = refl

pub is_storable : (d : Pairs) → IsStored d → IsDocument d → IsStorable d
is_storable d stored readable = record {
  lawful = readable;
  size = stored.size;
  depth = stored.depth;
  key = found_some (lookup d (codes "_id")) (key_of d) stored.key;
  short = stored.short;
}

-- ---- names

pub both_true : (a b : Bool) → (a && b) ≡ true → (a ≡ true) × (b ≡ true)
both_true true b is = (refl, is)
both_true false b is = absurd cc

is_less : (o : Ordering) → is_lt o ≡ true → o ≡ orders.Less
is_less orders.Less is = refl
is_less orders.Equal is = absurd cc
is_less orders.Greater is = absurd cc

-- a collection comes before another and has another number
record IsBehind (n : Collection) (x : Collection) : Type 0 where
  less : slice_cmp nat_cmp x.name n.name ≡ orders.Less
  other : (x.number == n.number) ≡ false

is_behind : (n x : Collection) → stands_behind n (bare x) ≡ true → IsBehind n x
is_behind n x is =
    let parts = both_true (is_lt (slice_cmp nat_cmp x.name n.name)) (not (x.number == n.number)) is in
    record { less = is_less (slice_cmp nat_cmp x.name n.name) parts.0; other = turned (x.number == n.number) parts.1 }
  where
    turned : (b : Bool) → not b ≡ true → b ≡ false
    turned true is = absurd cc
    turned false is = refl

named_apart : (n : List ℕ) (x : Collection) → slice_cmp nat_cmp x.name n ≡ orders.Less → bytes_eq n x.name ≡ false
named_apart n x less = by (bytes_eq n x.name) refl
  where
    by : (b : Bool) → bytes_eq n x.name ≡ b → b ≡ false
    by true same = absurd (name_itself x.name (subst (λ (m : List ℕ). slice_cmp nat_cmp x.name m ≡ orders.Less) ((bytes_eq-Decides n x.name).0 same) less))
    by false other = refl

none_named : (n : Collection) (xs : List Collection) → list_all (stands_behind n) (listed_of xs) ≡ true
    → (find_collection xs n.name ≡ None) × (uses xs n.number ≡ false)
none_named n [] h = (refl, refl)
none_named n (x ∷ xs) h =
    let parts = both_true (stands_behind n (bare x)) (list_all (stands_behind n) (listed_of xs)) h in
    let here = is_behind n x parts.0 in
    let later = none_named n xs parts.1 in (
      ap (λ (b : Bool). if b then Some x else find_collection xs n.name) (named_apart n.name x here.less) ∙ later.0,
      ap (λ (b : Bool). b || uses xs n.number) here.other ∙ later.1,
    )

pub put_last : (new : Collection) (xs : List Collection) → list_all (stands_behind new) (listed_of xs) ≡ true → put_collection new xs ≡ xs ++ new ∷ []
put_last new [] h = refl
put_last new (x ∷ xs) h =
    let parts = both_true (stands_behind new (bare x)) (list_all (stands_behind new) (listed_of xs)) h in
    let more : slice_cmp nat_cmp new.name x.name ≡ orders.Greater =
    nat_list_cmp_total.antisymm new.name x.name ∙ ap ordering_reverse (is_behind new x parts.0).less in
    ap (λ (o : Ordering). by_order o (new ∷ x ∷ xs) (new ∷ xs) (x ∷ put_collection new xs)) more
    ∙ ap (λ (cs : List Collection). x ∷ cs) (put_last new xs parts.1)

bare_same : (n : Collection) → n.documents ≡ [] → n ≡ bare n
bare_same n plain = λ i. record n { documents = plain i }

pub listed_more : (n : Collection) (now : List Collection) → n.documents ≡ [] → list_all (stands_behind n) (listed_of now) ≡ true
    → listed_of (put_collection n now) ≡ listed_of now ++ n ∷ []
listed_more n now plain h =
    ap listed_of (put_last n now h) ∙ map_append bare now (n ∷ []) ∙ ap (λ (x : Collection). listed_of now ++ x ∷ []) (sym (bare_same n plain))

bare_put : (new : Collection) (cs : List Collection) → map bare (put_collection new cs) ≡ put_collection (bare new) (map bare cs)
bare_put new [] = refl
bare_put new (d ∷ cs) = by (slice_cmp nat_cmp new.name d.name) (bare_put new cs)
  where
    by : (o : Ordering) → map bare (put_collection new cs) ≡ put_collection (bare new) (map bare cs)
        → map bare (by_order o (new ∷ d ∷ cs) (new ∷ cs) (d ∷ put_collection new cs))
        ≡ by_order o (bare new ∷ bare d ∷ map bare cs) (bare new ∷ map bare cs) (bare d ∷ put_collection (bare new) (map bare cs))
    by orders.Less later = refl
    by orders.Equal later = refl
    by orders.Greater later = ap (λ (xs : List Collection). bare d ∷ xs) later

-- other documents in a collection leave what the catalogue tells as it is
listed_same : (c : Collection) (ds : List Pairs) (cs : List Collection) → AreNamedApart cs → find_collection cs c.name ≡ Some c
    → listed_of (with_documents c ds cs) ≡ listed_of cs
listed_same c ds cs apart found = bare_put (record c { documents = ds }) cs ∙ sym (bare_put c cs) ∙ ap listed_of (put_same c cs apart found)

-- ---- the collection of a number

pub record IsFoundAt (n : ℕ) (cs : List Collection) (b : Collection) : Type 0 where
  pub collection : Collection
  pub found : numbered n cs ≡ Some collection
  pub told : bare collection ≡ b
  pub same : collection.number ≡ n
  pub there : Among collection cs

pub found_at : (n : ℕ) (cs : List Collection) (b : Collection) → numbered n (listed_of cs) ≡ Some b → IsFoundAt n cs b
found_at n [] b is = absurd cc
found_at n (c ∷ cs) b is = by (c.number == n) refl is (found_at n cs b)
  where
    some_same : {x y : Collection} → Some x ≡ Some y → x ≡ y
    some_same e = cc

    by : (t : Bool) → (c.number == n) ≡ t → (if t then Some (bare c) else numbered n (listed_of cs)) ≡ Some b
        → (numbered n (listed_of cs) ≡ Some b → IsFoundAt n cs b) → IsFoundAt n (c ∷ cs) b
    by true same is later = record {
      collection = c;
      found = ap (λ (t : Bool). if t then Some c else numbered n cs) same;
      told = some_same is;
      same = eqb-true c.number n same;
      there = inl refl;
    }
    by false other is later =
        let more = later is in record {
          collection = more.collection;
          found = ap (λ (t : Bool). if t then Some c else numbered n cs) other ∙ more.found;
          told = more.told;
          same = more.same;
          there = inr more.there;
        }

pub find_there : (cs : List Collection) (c : Collection) → AreNamedApart cs → Among c cs → find_collection cs c.name ≡ Some c
find_there [] c apart there = absurd there
find_there (d ∷ cs) c apart (inl e) =
    subst (λ (x : Collection). find_collection (d ∷ cs) x.name ≡ Some x) (sym e)
    (ap (λ (b : Bool). if b then Some d else find_collection cs d.name) ((bytes_eq-Decides d.name d.name).1 refl))
find_there (d ∷ cs) c apart (inr there) =
    let less = first_of (λ p q. slice_cmp nat_cmp p.name q.name ≡ orders.Less) d cs c apart there in
    ap (λ (b : Bool). if b then Some d else find_collection cs c.name) (named_apart c.name d less) ∙ find_there cs c (apart_rest d cs apart) there

-- ---- one collection more

pub name_loaded : (listed now : List Collection) (pair : Entry) (n : Collection) → IsLoadingAs listed now → IsName listed pair n
    → IsLoadingAs (listed ++ n ∷ []) (put_collection n now)
name_loaded listed now pair n h is =
    let behind : list_all (stands_behind n) (listed_of now) ≡ true = subst (λ (ls : List Collection). list_all (stands_behind n) ls ≡ true) h.named is.behind in
    let none = none_named n now behind in
    let room : length now < 1000 = omega (arith, is.room, ap length h.named, length-map now bare) in
    record {
      named = ap (λ (ls : List Collection). ls ++ n ∷ []) h.named ∙ sym (listed_more n now is.plain behind);
      loaded = record {
        lawful = makes_lawful now n h.loaded.lawful none.0 none.1 is.kept room;
        stored = all_of (λ (c : Collection). All IsStored c.documents) (put_collection n now) (λ x there. elim (put_in n now x h.loaded.lawful.apart there) [
          | inl e ↦ subst (λ (ds : List Pairs). All IsStored ds) (sym (ap (λ (c : Collection). c.documents) e ∙ is.plain))
              (λ k d below. absurd (omega (arith, below)))
          | inr g ↦ of_all (λ (c : Collection). All IsStored c.documents) now x h.loaded.stored g
        ]);
      };
    }

-- ---- one document more

-- a collection within the limits stays so with a document that shares no key of a unique index with another
pub kept_with : (c : Collection) (d : Pairs) → IsIndexKept c → IsStorable d → IsIndexable c.indexes d → list_any (clashes c.documents d) c.indexes ≡ false
    → IsIndexKept (record c { documents = put_document d c.documents })
kept_with c d h good may clear =
    let stay = stay_with c.indexes c.documents d (keys_among c.indexes d) may.keys clear
    (record { rising = h.rising; indexes = h.indexes; distinct = h.distinct; few = h.few }) in
    let as_noted : map (noted d) c.indexes ≡ c.indexes = noted_so d c.indexes may.noted in
    let stays : AreIndexed (put_document d c.documents) c.indexes = subst (AreIndexed (put_document d c.documents)) as_noted stay in
    record {
      name = h.name;
      short = h.short;
      least = h.least;
      most = h.most;
      rising = stays.rising;
      storable = all_put IsStorable d c.documents (placed d c.documents h.rising) h.storable good;
      indexes = stays.indexes;
      distinct = stays.distinct;
      few = stays.few;
    }

with_loaded : (now : List Collection) (c : Collection) (ds : List Pairs) → AreLoaded now → Among c now → IsIndexKept (record c { documents = ds })
    → All IsStored ds → AreLoaded (with_documents c ds now) × (listed_of (with_documents c ds now) ≡ listed_of now)
with_loaded now c ds h there kept stored =
    let found = find_there now c h.lawful.apart there in (
      record {
        lawful = stays_lawful now c (record c { documents = ds }) (record { lawful = h.lawful; found = found; named = refl; numbered = refl; kept = kept });
        stored = all_of (λ (x : Collection). All IsStored x.documents) (with_documents c ds now)
            (λ x g. elim (put_in (record c { documents = ds }) now x h.lawful.apart g) [
              | inl e ↦ subst (λ (y : Collection). All IsStored y.documents) (sym e) stored
              | inr k ↦ of_all (λ (x : Collection). All IsStored x.documents) now x h.stored k
            ]);
      },
      listed_same c ds now h.lawful.apart found,
    )

document_in : (now : List Collection) (c : Collection) (d : Pairs) → AreLoaded now → Among c now → IsStored d → IsDocument d → IsIndexable c.indexes d
    → AreLoaded (with_document_in (Some c) d now) × (listed_of (with_document_in (Some c) d now) ≡ listed_of now)
document_in now c d h there stored readable may = by (list_any (clashes c.documents d) c.indexes) refl
  where
    kept : IsIndexKept c
    kept = kept_of now c h.lawful there

    by : (b : Bool) → list_any (clashes c.documents d) c.indexes ≡ b
        → AreLoaded (if b then now else with_documents c (put_document d c.documents) now)
        × (listed_of (if b then now else with_documents c (put_document d c.documents) now) ≡ listed_of now)
    by true e = (h, refl)
    by false e =
        with_loaded now c (put_document d c.documents) h there (kept_with c d kept (is_storable d stored readable) may e)
        (all_put IsStored d c.documents (placed d c.documents kept.rising) (of_all (λ (x : Collection). All IsStored x.documents) now c h.stored there) stored)

pub document_loaded : (listed now : List Collection) (pair : Entry) (b : Collection) (d : Pairs) → IsLoadingAs listed now → numbered b.number listed ≡ Some b
    → IsStoredAt b pair d
    → IsLoadingAs listed (with_document_at b.number d now)
document_loaded listed now pair b d h told is =
    let at = found_at b.number now b (subst (λ (ls : List Collection). numbered b.number ls ≡ Some b) h.named told) in
    let may : IsIndexable at.collection.indexes d = subst (λ (x : Collection). IsIndexable x.indexes d) (sym at.told) is.indexable in
    let made = document_in now at.collection d h.loaded at.there is.stored is.readable may in
    subst (λ (o : Option Collection). IsLoadingAs listed (with_document_in o d now)) (sym at.found) (record { named = h.named ∙ sym made.1; loaded = made.0 })
