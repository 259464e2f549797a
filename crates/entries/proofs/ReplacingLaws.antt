-- What is noted of a document that replaces another in a collection with indexes, and where it leads.
use Rattle.std.proofs.Common.{◌≡◌, ℕ, ◌≤◌, Bool, true, false, not, List, [], ◌∷◌, ◌++◌, length, map, Bor, Ok, inl, inr, refl, sym, ap, subst, ◌∙◌}
use Rattle.std.specs.Prelude.{All, if◌then◌else◌}
use Rattle.std.specs.Global.{Vec}
use Rattle.std.specs.List.{filter, flat_map}
use Rattle.std.proofs.lemmas.List.{length-map}
use Rattle.bson.specs.Tree.{Pairs}
use Rattle.value_order.specs.KeyText.{tree_text}
use Rattle.tree_model.specs.Keys.{edit_keys}
use Rattle.tree_model.specs.Keys.{Entry, Edit, Rises}
use Rattle.index.specs.Changes.{IsAscending, is_among}
use Rattle.index.specs.Definition.{Definition}
use Rattle.index.specs.IndexKeys.{index_keys}
use Rattle.entries.specs.Indexed.{with_edits, NotesSome, entries_in_all, without_all, replacing_in, ReplacesIn}
use Rattle.index.specs.KeyTexts.{key_bytes, encoded_keys, is_too_long, keys_in_all}
use Rattle.entry_model.specs.State.{Collection, key_of, put_collection}
use Rattle.entry_model.specs.StateEntries.{Leads}
use Rattle.entry_model.specs.StateLaws.{own_entries}
use Rattle.index.specs.View.{texts_of}
use Rattle.entry_model.proofs.LawfulParts.{same_text, storable_of}
use Rattle.entries.proofs.FitLaws.{none_any, short_within}
use Rattle.entries.proofs.IndexedLaws.{key_lists, known}
use Rattle.entry_model.proofs.KeyOfDocument.{among_there}
use Rattle.entry_model.proofs.LawfulLaws.{all_of}
use Rattle.entries.proofs.ManyEditsLaws.{with_edits-append, noted_leads}
use Rattle.entry_model.proofs.MemberLemmas.{Among, among_map, among_image}
use Rattle.entries.proofs.ReplacingSteps.{replaces_document}
use Rattle.index.proofs.SetLemmas.{set_sorted}
use Rattle.entries.proofs.StepLemmas.{old_kept}

-- the keys of a document in an index
abbrev pub keys_of : Pairs → Definition → List (List ℕ)
keys_of d i = encoded_keys i.fields d

pub keys_ascend : (is : List Definition) (d : Pairs) (all : List (Vec (Vec ℕ))) → keys_in_all is d ≡ Ok (key_lists all)
    → All (λ ks. IsAscending (texts_of ks.items)) all
keys_ascend is d all e =
    let k = known is d (key_lists all) e in
    all_of (λ (ks : Vec (Vec ℕ)). IsAscending (texts_of ks.items)) all (λ ks there.
    let one = among_map (keys_of d) (texts_of ks.items) is
    (subst (λ (ts : List (List (List ℕ))). Among (texts_of ks.items) ts) (sym k.1) (among_image (λ (v : Vec (Vec ℕ)). texts_of v.items) ks all there)) in
    subst (λ (keys : List (List ℕ)). IsAscending keys) (sym one.2) (set_sorted (map (key_bytes one.0.fields) (index_keys one.0.fields d))))

-- ---- what is lost or gained

pub as_many : (a b : List (List (List ℕ))) → length a ≡ length b → length (without_all a b) ≡ length a
as_many [] b e = refl
as_many (x ∷ a) [] e = absurd cc
as_many (x ∷ a) (y ∷ b) e = let shorter : length a ≡ length b = cc in cc (as_many a b shorter)

among_filter : (p : List ℕ → Bool) (k : List ℕ) (xs : List (List ℕ)) → Among k (filter p xs) → Among k xs
among_filter p k [] h = h
among_filter p k (x ∷ xs) h = by (p x) (among_filter p k xs) h
  where
    by : (b : Bool) → (Among k (filter p xs) → Among k xs) → Among k (if b then x ∷ filter p xs else filter p xs) → Among k (x ∷ xs)
    by true later (inl e) = inl e
    by true later (inr g) = inr (later g)
    by false later g = inr (later g)

within_all : (a b : List (List (List ℕ))) (x : List (List ℕ)) → Among x (without_all a b)
    → (y : List (List ℕ)) × Among y a × ((k : List ℕ) → Among k x → Among k y)
within_all [] b x h = absurd h
within_all (y ∷ a) [] x h = absurd h
within_all (y ∷ a) (z ∷ b) x (inl e) =
    (y, inl refl, λ k g. among_filter (λ key. not (is_among z key)) k y (subst (λ (w : List (List ℕ)). Among k w) e g))
within_all (y ∷ a) (z ∷ b) x (inr h) = let later = within_all a b x h in (later.0, inr later.1, later.2)

pub changes_short : {X : Type 0} (V : X → List (Bor (List ℕ))) (is : List Definition) (d : Pairs) (keys : List (Vec (Vec ℕ))) (others : List (List (List ℕ)))
    (changes : List X) → keys_in_all is d ≡ Ok (key_lists keys)
    → map (λ c. map (λ key. key.now) (V c)) changes ≡ without_all (key_lists keys) others → All (λ c. All (λ key. length key.now ≤ 500) (V c)) changes
changes_short {X} V is d keys others changes e told =
    let k = known is d (key_lists keys) e in
    all_of (λ (c : X). All (λ key. length key.now ≤ 500) (V c)) changes (λ c there. all_of (λ (key : Bor (List ℕ)). length key.now ≤ 500) (V c) (λ key here.
    let one = within_all (key_lists keys) others (map (λ key. key.now) (V c))
    (subst (λ (ts : List (List (List ℕ))). Among (map (λ key. key.now) (V c)) ts) told (among_image (λ (z : X). map (λ key. key.now) (V z)) c changes there)) in
    let i = among_map (keys_of d) one.0 is (subst (λ (ts : List (List (List ℕ))). Among one.0 ts) (sym k.1) one.1) in
    short_within i.0.fields d key.now (none_any (λ (j : Definition). is_too_long j.fields d) is i.0 k.0 i.1)
    (subst (λ (ts : List (List ℕ)). Among key.now ts) i.2 (one.2 key.now (among_image (λ (z : Bor (List ℕ)). z.now) key (V c) here)))))

pub changes_each : {X : Type 0} (L : X → List (List ℕ)) (is : List Definition) (d o : Pairs) (keys others : List (Vec (Vec ℕ))) (changes : List X)
    → keys_in_all is d ≡ Ok (key_lists keys) → keys_in_all is o ≡ Ok (key_lists others)
    → map L changes ≡ without_all (key_lists keys) (key_lists others) → length changes ≡ length is
changes_each {X} L is d o keys others changes e f told =
    let many : length (map (keys_of d) is) ≡ length (key_lists keys) = ap length (known is d (key_lists keys) e).1 in
    let many_others : length (map (keys_of o) is) ≡ length (key_lists others) = ap length (known is o (key_lists others) f).1 in
    let one : length (map (keys_of d) is) ≡ length is = length-map is (keys_of d) in
    let other : length (map (keys_of o) is) ≡ length is = length-map is (keys_of o) in
    sym (length-map changes L) ∙ ap length told ∙ as_many (key_lists keys) (key_lists others) (sym many ∙ one ∙ sym other ∙ many_others) ∙ sym many ∙ one

own_all : (n : ℕ) (is : List Definition) (d o : Pairs)
    → entries_in_all n (tree_text (key_of d)) is (without_all (map (keys_of d) is) (map (keys_of o) is)) ≡ flat_map (own_entries n d o) is
own_all n [] d o = refl
own_all n (i ∷ is) d o = ap (λ (xs : List Entry). own_entries n d o i ++ xs) (own_all n is d o)

pub own_are : (n : ℕ) (id : List ℕ) (is : List Definition) (d o : Pairs) (keys others : List (Vec (Vec ℕ))) (all : List (List (List ℕ)))
    → keys_in_all is d ≡ Ok (key_lists keys) → keys_in_all is o ≡ Ok (key_lists others)
    → id ≡ tree_text (key_of d) → all ≡ without_all (key_lists keys) (key_lists others) → entries_in_all n id is all ≡ flat_map (own_entries n d o) is
own_are n id is d o keys others all e f text told =
    let k = known is d (key_lists keys) e in
    let j = known is o (key_lists others) f in
    (λ t. entries_in_all n (text t) is (told t)) ∙ (λ t. entries_in_all n (tree_text (key_of d)) is (without_all (sym k.1 t) (sym j.1 t))) ∙ own_all n is d o

-- ---- where it leads

pub some_of_first : (old first rest new : List Edit) → NotesSome old first new → NotesSome old (first ++ rest) new
some_of_first old first rest new some = (
  some.0 ++ rest,
  record { noted = some.1.noted; split = ap (λ (es : List Edit). es ++ rest) some.1.split ∙ appended some.1.noted some.0 rest; same = some.1.same },
)
  where
    appended : (xs ys zs : List Edit) → (xs ++ ys) ++ zs ≡ xs ++ (ys ++ zs)
    appended [] ys zs = refl
    appended (x ∷ xs) ys zs = ap (λ (es : List Edit). x ∷ es) (appended xs ys zs)

pub some_behind : (old first rest mid new : List Edit) → mid ≡ with_edits first old → NotesSome mid rest new → NotesSome old (first ++ rest) new
some_behind old first rest mid new made some = (
  some.0,
  record {
    noted = first ++ some.1.noted;
    split = ap (λ (es : List Edit). first ++ es) some.1.split ∙ sym (appended first some.1.noted some.0);
    same = some.1.same ∙ ap (with_edits some.1.noted) made ∙ sym (with_edits-append first some.1.noted old);
  },
)
  where
    appended : (xs ys zs : List Edit) → (xs ++ ys) ++ zs ≡ xs ++ (ys ++ zs)
    appended [] ys zs = refl
    appended (x ∷ xs) ys zs = ap (λ (es : List Edit). x ∷ es) (appended xs ys zs)

pub all_behind : (old first rest mid new : List Edit) → mid ≡ with_edits first old → new ≡ with_edits rest mid → new ≡ with_edits (first ++ rest) old
all_behind old first rest mid new made is = is ∙ ap (with_edits rest) made ∙ sym (with_edits-append first rest old)

pub replaces_in : (old new : List Edit) (number : ℕ) (is : List Definition) (was d : Pairs) → Rises (edit_keys old)
    → (tree_text (key_of was) ≡ tree_text (key_of d) → new ≡ with_edits (replacing_in number is was d) old) → ReplacesIn old new number is was d
replaces_in old new number is was d up made a b c front back lead num inds docs equal may =
    let now : Collection = record c { documents = front ++ d ∷ back } in
    let there = subst (λ (ds : List Pairs). Among was ds) (sym docs) (among_there was front back) in
    let same = same_text was d (storable_of c was (old_kept b c now may) there) (storable_of now d may.kept (among_there d front back)) equal in
    noted_leads (replacing_in number is was d) old new a b (put_collection now b) up (made same) lead
    (subst (λ (es : List Edit). Leads es b (put_collection now b)) (λ t. replacing_in (num t) (inds t) was d)
    (replaces_document c front back was d docs equal b may))
