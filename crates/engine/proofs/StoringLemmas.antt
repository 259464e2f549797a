-- Documents that go to a collection are noted one after the other as edits of the file.
use Rattle.std.proofs.Common.{◌≡◌, ◌<◌, ◌≤◌, ℕ, Bool, true, false, List, [], ◌∷◌, length, Option, Some, None, Result, Ok, Err, refl, sym, ap, subst, ◌∙◌, arith}
use Rattle.std.specs.Prelude.{◌&&◌, not, nat_le, is_some}
use Rattle.std.proofs.lemmas.Bool.Decides.{nat_tests}
use Rattle.bson.specs.Lawful.{IsDocument}
use Rattle.bson.specs.Tree.{Tree, Pairs}
use Rattle.value_order.specs.KeyText.{tree_text}
use Rattle.outcome.specs.Outcome.{◌>>=◌, unless}
use Rattle.path.specs.declared.refusal.Refusal.{Refusal}
use Rattle.path.specs.declared.refusal.Refusal.TheVariants as refusals
use Rattle.tree_model.specs.Keys.{Edit}
use Rattle.collections.specs.Lookups.{catalogued_in, catalogued_of}
use Rattle.update_model.specs.Stored.{id_first}
use Rattle.index.specs.Definition.{Definition}
use Rattle.entry_model.specs.Documents.{AddsCollection}
use Rattle.entry_model.specs.LawfulState as states
use Rattle.entry_model.specs.LawfulState.{IsStorable}
use Rattle.entry_model.specs.State.{Collection, empty_collection, find_collection, put_collection, uses}
use Rattle.entry_model.specs.StateEntries.{Leads}
use Rattle.entries.specs.declared.catalogue_reading.Catalogued.{Catalogued}
use Rattle.entry_model.proofs.PlaceLemmas.{found_name}
use Rattle.entries.proofs.StateEditLaws.{put_same}
use Rattle.database_model.specs.Documents.{checked, insert_all, insert_one, key_of}
use Rattle.database_model.specs.Insert.{inserted, is_full}
use Rattle.database_model.specs.Lawful.{IsStored}
use Rattle.engine.specs.Storing.{AreNoted, HasNoted, entering}
use Rattle.statements.specs.Updating.{MayBePut}
use Rattle.database_model.specs.World.{collection_of, documents_or_none, indexes_or_none, number_or, unused}
use Rattle.statements.proofs.Checked.{keeps}
use Rattle.statements.proofs.EditPlaceLemmas.{storable}
use Rattle.database_model.proofs.Numbers.{unused_unused}

-- ---- a collection that documents go to

and_false : (b : Bool) → (b && false) ≡ false
and_false true = refl
and_false false = refl

and_true : (b : Bool) → (b && true) ≡ b
and_true true = refl
and_true false = refl

module _ (cs : List Collection) (name : List ℕ) where
  -- it is there
  module _ (c : Collection) (found : find_collection cs name ≡ Some c) where
    pub it_is : collection_of cs name ≡ c
    it_is i = record {
      name = found_name cs name c found i;
      number = number_or (unused cs) (found i);
      documents = documents_or_none (found i);
      indexes = indexes_or_none (found i);
    }

    as_it_was : states.IsLawfulState cs → put_collection (collection_of cs name) cs ≡ cs
    as_it_was h = ap (λ (x : Collection). put_collection x cs) it_is
        ∙ put_same c cs h.apart (subst (λ (n : List ℕ). find_collection cs n ≡ Some c) (found_name cs name c found) found)

    pub noted_there : (home : Catalogued) → catalogued_of home ≡ catalogued_in c → AreNoted cs name home [] (collection_of cs name)
    noted_there home told = record {
      named = refl;
      numbered = ap (number_or (unused cs)) found ∙ sym (ap (λ (p : ℕ × List Definition). p.0) told);
      indexed = ap indexes_or_none found ∙ sym (ap (λ (p : ℕ × List Definition). p.1) told);
      room = ap (λ (o : Option Collection). nat_le 1000 (length cs) && not (is_some o)) found ∙ and_false (nat_le 1000 (length cs));
      leads = λ lawful. subst (λ (s : List Collection). Leads [] cs s × states.IsLawfulState s) (sym (as_it_was lawful)) ((λ entries spells. spells), lawful);
    }

  -- it is to be made
  module _ (none : find_collection cs name ≡ None) (few : length cs < 1000) where
    not_full : is_full cs name ≡ false
    not_full =
        let room : nat_le 1000 (length cs) ≡ false = grind (arith, nat_tests) in
        ap (λ (o : Option Collection). nat_le 1000 (length cs) && not (is_some o)) none ∙ and_true (nat_le 1000 (length cs)) ∙ room

    module _ (home : Catalogued) (numbered : home.number ≡ unused cs) where
      made_so : empty_collection name home.number ≡ collection_of cs name
      made_so i = record {
        name = name;
        number = (numbered ∙ ap (number_or (unused cs)) (sym none)) i;
        documents = documents_or_none (sym none i);
        indexes = indexes_or_none (sym none i);
      }

      pub noted_new : (edits : List Edit) → home.indexes.items ≡ [] → AddsCollection [] edits name home.number
          → AreNoted cs name home edits (collection_of cs name)
      noted_new edits plain adds = record {
        named = refl;
        numbered = ap (number_or (unused cs)) none ∙ sym numbered;
        indexed = ap indexes_or_none none ∙ sym plain;
        room = not_full;
        leads = λ lawful.
            let fresh : uses cs home.number ≡ false = ap (uses cs) numbered ∙ unused_unused cs in
            subst (λ (c : Collection). Leads edits cs (put_collection c cs) × states.IsLawfulState (put_collection c cs)) made_so
            (adds cs cs (λ entries spells. spells) lawful none fresh few);
      }

-- ---- one document more

pub stored_storable : (ps d : Pairs) → checked ps ≡ Ok (key_of ps) → d ≡ id_first ps → IsDocument d → IsStorable d
stored_storable ps d passed is readable = storable d (subst IsStored (sym is) (keeps ps (key_of ps) passed).lawful) readable

-- one whose `_id` has a short text may be stored
pub storable_text : (d : Pairs) (text : List ℕ) → MayBePut d → text ≡ tree_text (key_of d) → length text ≤ 500 → IsStorable d
storable_text d text may is short = record
    { lawful = may.lawful; size = may.size; depth = may.depth; key = may.key; short = subst (λ (t : List ℕ). length t ≤ 500) is short }

-- so each may be put that may be stored
pub may_put : (d : Pairs) → IsStorable d → MayBePut d
may_put d good = record { lawful = good.lawful; size = good.size; depth = good.depth; key = good.key }

pub refused_unchecked : (c : Collection) (ps : Pairs) (e : Refusal) → checked ps ≡ Err e → insert_one c ps ≡ Err e
unfolding insert_one
refused_unchecked c ps e refused = ap (λ (r : Result Tree Refusal). r >>= (λ id. entering None (id_first ps) c)) refused

-- what is stored of a document enters
pub enters_checked : (c : Collection) (ps d : Pairs) → checked ps ≡ Ok (key_of ps) → d ≡ id_first ps → entering None d c ≡ insert_one c ps
unfolding insert_one
enters_checked c ps d passed is =
    ap (λ (x : Pairs). entering None x c) is ∙ sym (ap (λ (r : Result Tree Refusal). r >>= (λ id. entering None (id_first ps) c)) passed)

-- ---- document after document

-- what is noted, and which documents are left of all
pub record IsSoFar (cs : List Collection) (name : List ℕ) (home : Catalogued) (edits : List Edit) (all left : List Pairs) (first : Collection) : Type 0 where
  pub reached : Collection
  pub noted : AreNoted cs name home edits reached
  pub same : insert_all first all ≡ insert_all reached left

module _ (cs : List Collection) (name : List ℕ) (all : List Pairs) (first : Collection) where
  pub so_far_none : (home : Catalogued) (edits : List Edit) → AreNoted cs name home edits first → IsSoFar cs name home edits all all first
  so_far_none home edits noted = record { reached = first; noted = noted; same = refl }

  module _ (home : Catalogued) (edits : List Edit) (ps : Pairs) (left : List Pairs) (far : IsSoFar cs name home edits all (ps ∷ left) first) where
    pub so_far_one : (home_after : Catalogued) (next : List Edit) → HasNoted cs name home_after next (insert_one far.reached ps)
        → IsSoFar cs name home_after next all left first
    so_far_one home_after next has = record {
      reached = has.next;
      noted = has.noted;
      same = far.same ∙ ap (λ (r : Result Collection Refusal). r >>= (λ c. insert_all c left)) has.is;
    }

    pub so_far_refused : (e : Refusal) → insert_one far.reached ps ≡ Err e → insert_all first all ≡ Err e
    so_far_refused e refused = far.same ∙ ap (λ (r : Result Collection Refusal). r >>= (λ c. insert_all c left)) refused

  pub so_far_all : (home : Catalogued) (edits : List Edit) → IsSoFar cs name home edits all [] first → HasNoted cs name home edits (insert_all first all)
  so_far_all home edits far = record { next = far.reached; is = far.same; noted = far.noted }

-- ---- what an insert comes to

abbrev put_in : List Collection → Collection → Result (List Collection) Refusal
put_in cs c = Ok (put_collection c cs)

pub inserted_there : (cs : List Collection) (name : List ℕ) (all : List Pairs) (r : Result Collection Refusal) → is_full cs name ≡ false
    → insert_all (collection_of cs name) all ≡ r
    → inserted cs name all ≡ (r >>= put_in cs)
inserted_there cs name all r room is =
    ap (λ (b : Bool). unless b refusals.TooMany (insert_all (collection_of cs name) all >>= put_in cs)) room
    ∙ ap (λ (q : Result Collection Refusal). q >>= put_in cs) is

pub inserted_full : (cs : List Collection) (name : List ℕ) (all : List Pairs) (e : Refusal) → (e ≡ refusals.TooMany) × (is_full cs name ≡ true)
    → inserted cs name all ≡ Err e
inserted_full cs name all e (is, full) =
    ap (λ (b : Bool). unless b refusals.TooMany (insert_all (collection_of cs name) all >>= put_in cs)) full
    ∙ ap (λ (x : Refusal). let r : Result (List Collection) Refusal = Err x in r) (sym is)

pub full_of : (cs : List Collection) (name : List ℕ) → find_collection cs name ≡ None → 1000 ≤ length cs → is_full cs name ≡ true
full_of cs name none many =
    let room : nat_le 1000 (length cs) ≡ true = grind (arith, nat_tests) in
    ap (λ (o : Option Collection). nat_le 1000 (length cs) && not (is_some o)) none ∙ and_true (nat_le 1000 (length cs)) ∙ room
