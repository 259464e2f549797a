-- What is noted of a document in a collection with indexes, and where it leads.
use Rattle.std.proofs.Common.{◌≡◌, ℕ, ◌≤◌, Bool, true, false, List, [], ◌∷◌, ◌++◌, length, map, Ok, refl, sym, ap, subst, ◌∙◌}
use Rattle.std.specs.Prelude.{All}
use Rattle.std.proofs.lemmas.List.{length-map}
use Rattle.std.specs.Global.{Vec}
use Rattle.std.specs.List.{flat_map, list_any}
use Rattle.outcome.specs.Outcome.{unless}
use Rattle.bson.specs.Tree.{Pairs}
use Rattle.value_order.specs.KeyText.{tree_text}
use Rattle.tree_model.specs.Keys.{edit_keys, removal}
use Rattle.tree_model.specs.Keys.{Entry, Edit, Rises}
use Rattle.path.specs.declared.refusal.Refusal.{Refusal}
use Rattle.path.specs.declared.refusal.Refusal.TheVariants as refusals
use Rattle.index.specs.Definition.{Field, Definition}
use Rattle.entries.specs.EditList.{with_edit}
use Rattle.index.specs.IndexKeys.{has_parallel_arrays}
use Rattle.entries.specs.Indexed.{with_edits, NotesSome, entries_at, entries_in_all, InsertsInto, DeletesFrom}
use Rattle.index.specs.KeyTexts.{encoded_keys, is_too_long, keys_in, keys_in_all}
use Rattle.entry_model.specs.State.{Collection, key_of, put_collection}
use Rattle.entry_model.specs.StateEntries.{key_under, document_entry, document_entries, index_entries, puts, removal_of, removals, Leads}
use Rattle.index.specs.View.{texts_of}
use Rattle.entries.proofs.DocumentSteps.{inserts_document, deletes_document}
use Rattle.entries.proofs.FitLaws.{none_any, short_within}
use Rattle.entry_model.proofs.LawfulLaws.{all_of}
use Rattle.entries.proofs.ManyEditsLaws.{noted_leads}
use Rattle.entry_model.proofs.MemberLemmas.{Among, among_map, among_image}

-- ---- keys

let_through : {X : Type 0} (a b : Bool) (r s : Refusal) (x y : X) → unless a r (unless b s (Ok x)) ≡ Ok y → (a ≡ false) × (x ≡ y)
let_through true b r s x y e = absurd cc
let_through false true r s x y e = absurd cc
let_through false false r s x y e = (refl, cc)

abbrev pub key_lists : List (Vec (Vec ℕ)) → List (List (List ℕ))
key_lists all = map (λ ks. texts_of ks.items) all

pub known : (is : List Definition) (d : Pairs) (all : List (List (List ℕ))) → keys_in_all is d ≡ Ok all
    → (list_any (λ i. is_too_long i.fields d) is ≡ false) × (map (λ i. encoded_keys i.fields d) is ≡ all)
known is d all e =
    let_through (list_any (λ i. is_too_long i.fields d) is)
    (list_any (λ i. has_parallel_arrays i.fields d) is) refusals.KeyTooLong refusals.CannotIndexParallelArrays (map (λ i. encoded_keys i.fields d) is) all e

pub known_one : (fs : List Field) (d : Pairs) (keys : List (List ℕ)) → keys_in fs d ≡ Ok keys → (is_too_long fs d ≡ false) × (encoded_keys fs d ≡ keys)
known_one fs d keys e =
    let_through (is_too_long fs d) (has_parallel_arrays fs d) refusals.KeyTooLong refusals.CannotIndexParallelArrays (encoded_keys fs d) keys e

-- as many lists of keys as indexes
pub one_each : (is : List Definition) (d : Pairs) (all : List (Vec (Vec ℕ))) → keys_in_all is d ≡ Ok (key_lists all) → length all ≡ length is
one_each is d all e =
    let lists : List (List (List ℕ)) = key_lists all in
    let encoded : List (List (List ℕ)) = map (λ (i : Definition). encoded_keys i.fields d) is in
    let same : length encoded ≡ length lists = ap length (known is d lists e).1 in
    let few : length lists ≡ length all = length-map all (λ (ks : Vec (Vec ℕ)). texts_of ks.items) in
    let many : length encoded ≡ length is = length-map is (λ (i : Definition). encoded_keys i.fields d) in
    sym few ∙ sym same ∙ many

texts_short : (fs : List Field) (d : Pairs) (keys : List (Vec ℕ)) → is_too_long fs d ≡ false → texts_of keys ≡ encoded_keys fs d
    → All (λ key. length key.items ≤ 500) keys
texts_short fs d keys within same =
    all_of (λ (key : Vec ℕ). length key.items ≤ 500) keys
    (λ key there. short_within fs d key.items within
    (subst (λ (ts : List (List ℕ)). Among key.items ts) same (among_image (λ (v : Vec ℕ). v.items) key keys there)))

pub short_keys : (fs : List Field) (d : Pairs) (keys : List (Vec ℕ)) → keys_in fs d ≡ Ok (texts_of keys) → All (λ key. length key.items ≤ 500) keys
short_keys fs d keys e = let k = known_one fs d (texts_of keys) e in texts_short fs d keys k.0 (sym k.1)

pub all_short : (is : List Definition) (d : Pairs) (all : List (Vec (Vec ℕ))) → keys_in_all is d ≡ Ok (key_lists all)
    → All (λ ks. All (λ key. length key.items ≤ 500) ks.items) all
all_short is d all e =
    let k = known is d (key_lists all) e in
    all_of (λ (ks : Vec (Vec ℕ)). All (λ key. length key.items ≤ 500) ks.items) all (λ ks there.
    let one = among_map (λ (i : Definition). encoded_keys i.fields d) (texts_of ks.items) is
    (subst (λ (ts : List (List (List ℕ))). Among (texts_of ks.items) ts) (sym k.1) (among_image (λ (v : Vec (Vec ℕ)). texts_of v.items) ks all there)) in
    texts_short one.0.fields d ks.items (none_any (λ (i : Definition). is_too_long i.fields d) is one.0 k.0 one.1) one.2)

-- ---- entries

in_all : (n : ℕ) (is : List Definition) (d : Pairs)
    → entries_in_all n (tree_text (key_of d)) is (map (λ i. encoded_keys i.fields d) is) ≡ flat_map (index_entries n d) is
in_all n [] d = refl
in_all n (i ∷ is) d = ap (λ (xs : List Entry). index_entries n d i ++ xs) (in_all n is d)

pub entries_are : (n : ℕ) (id : List ℕ) (is : List Definition) (d : Pairs) (all : List (Vec (Vec ℕ))) → keys_in_all is d ≡ Ok (key_lists all)
    → id ≡ tree_text (key_of d)
    → entries_in_all n id is (key_lists all) ≡ flat_map (index_entries n d) is
entries_are n id is d all e text =
    let k = known is d (key_lists all) e in (λ t. entries_in_all n (text t) is (sym k.1 t)) ∙ in_all n is d

pub entries_of_one : (n : ℕ) (id : List ℕ) (i : Definition) (number : ℕ) (d : Pairs) (keys : List (List ℕ)) → number ≡ i.number → keys_in i.fields d ≡ Ok keys
    → id ≡ tree_text (key_of d)
    → entries_at n number id keys ≡ index_entries n d i
entries_of_one n id i number d keys same e text =
    let k = known_one i.fields d keys e in λ t. entries_at n (same t) (text t) (sym k.1 t)

-- ---- where they lead

pub nothing_noted : (old all new : List Edit) → new ≡ old → NotesSome old all new
nothing_noted old all new is = (all, record { noted = []; split = refl; same = is })

pub behind_first : (e : Edit) (old es mid new : List Edit) → mid ≡ with_edit e old → NotesSome mid es new → NotesSome old (e ∷ es) new
behind_first e old es mid new first some = (
  some.0,
  record {
    noted = e ∷ some.1.noted;
    split = ap (λ (fs : List Edit). e ∷ fs) some.1.split;
    same = some.1.same ∙ ap (with_edits some.1.noted) first;
  },
)

pub inserts_into : (old new : List Edit) (number : ℕ) (is : List Definition) (d : Pairs) → Rises (edit_keys old)
    → new ≡ with_edits (puts (document_entries number is d)) old → InsertsInto old new number is d
inserts_into old new number is d up made a b c front back lead num inds docs may =
    let now : Collection = record c { documents = front ++ d ∷ back } in
    noted_leads (puts (document_entries number is d)) old new a b (put_collection now b) up made lead
    (subst (λ (es : List Edit). Leads es b (put_collection now b)) (λ t. puts (document_entries (num t) (inds t) d))
    (inserts_document c front back d docs b may))

pub deletes_from : (old new : List Edit) (number : ℕ) (is : List Definition) (d : Pairs) → Rises (edit_keys old)
    → new ≡ with_edits (removals (document_entries number is d)) old → DeletesFrom old new number is d
deletes_from old new number is d up made a b c front back lead num inds docs may =
    let now : Collection = record c { documents = front ++ back } in
    noted_leads (removals (document_entries number is d)) old new a b (put_collection now b) up made lead
    (subst (λ (es : List Edit). Leads es b (put_collection now b)) (λ t. removals (document_entries (num t) (inds t) d))
    (deletes_document c front back d docs b may))

pub first_removed : (n : ℕ) (id : List ℕ) (d : Pairs) (old mid : List Edit) → id ≡ tree_text (key_of d) → mid ≡ with_edit (removal (key_under n 0 id)) old
    → mid ≡ with_edit (removal_of (document_entry n d)) old
first_removed n id d old mid text is = is ∙ ap (λ (xs : List ℕ). with_edit (removal (key_under n 0 xs)) old) text
