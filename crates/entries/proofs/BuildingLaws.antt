-- Indexes made and dropped document by document.
use Rattle.std.proofs.Common.{◌≡◌, ℕ, List, [], ◌∷◌, ◌++◌, map, ◌⊎◌, inl, inr, refl, sym, ap, subst, ◌∙◌, append-nil}
use Rattle.std.specs.List.{flat_map}
use Rattle.std.proofs.lemmas.List.{map-append}
use Rattle.std.proofs.lemmas.List.Concat.{flat_map-append}
use Rattle.bson.specs.Tree.{Pairs}
use Rattle.tree_model.specs.Keys.{Entry, Edit}
use Rattle.index.specs.Definition.{Definition}
use Rattle.entries.specs.Indexed.{GoesOnBy}
use Rattle.entries.specs.IndexBuilding.{GoOnFurther, GoWhereTheyLead, PutsOneMore, RemovesOneMore, MakesIndexOfAll, DropsIndexOfAll}
use Rattle.entry_model.specs.State.{Collection, put_collection}
use Rattle.entry_model.specs.StateEntries.{catalogue_entry, collection_entries, index_entries, put_of, removal_of, puts, removals, Leads}
use Rattle.entry_model.specs.StateLaws.{entries_in}
use Rattle.entries.proofs.ExchangeLaws.{HasKey}
use Rattle.entries.proofs.IndexSteps.{made, drops_index}
use Rattle.entries.proofs.ManyEditsLaws.{goes_on, goes_there}
use Rattle.entry_model.proofs.MemberLemmas.{Among, among_append, among_front, among_back}
use Rattle.entries.proofs.StepLemmas.{Exchanged, exchanged_leads}

pub go_on_further : GoOnFurther
go_on_further = goes_on

pub go_where_they_lead : GoWhereTheyLead
go_where_they_lead = goes_there

-- W makes an edit of an entry
one_more : (W : Entry → Edit) (old mid new : List Edit) (number : ℕ) (i : Definition) (ds : List Pairs) (d : Pairs)
    → GoesOnBy old (map W (flat_map (λ e. index_entries number e i) ds)) mid
    → GoesOnBy mid (map W (index_entries number d i)) new → GoesOnBy old (map W (flat_map (λ e. index_entries number e i) (ds ++ d ∷ []))) new
one_more W old mid new number i ds d first second =
    let all = flat_map (λ (e : Pairs). index_entries number e i) ds in
    let one = index_entries number d i in
    let split : flat_map (λ (e : Pairs). index_entries number e i) (ds ++ d ∷ []) ≡ all ++ one =
    flat_map-append (λ (e : Pairs). index_entries number e i) ds (d ∷ []) ∙ ap (λ (xs : List Entry). all ++ xs) (append-nil one) in
    subst (λ (es : List Edit). GoesOnBy old es new) (sym (ap (map W) split ∙ map-append W all one)) (goes_on old (map W all) mid (map W one) new first second)

pub puts_one_more : PutsOneMore
puts_one_more old number i = (λ xs h. refl, λ mid new ds d. one_more put_of old mid new number i ds d)

pub removes_one_more : RemovesOneMore
removes_one_more old number i = (λ xs h. refl, λ mid new ds d. one_more removal_of old mid new number i ds d)

-- ---- an exchange with its first entry put last

to_front : (x y : Entry) (xs : List Entry) → Among y (xs ++ x ∷ []) → Among y (x ∷ xs)
to_front x y xs h = by (among_append y xs (x ∷ []) h)
  where
    by : Among y xs ⊎ Among y (x ∷ []) → Among y (x ∷ xs)
    by (inl g) = inr g
    by (inr (inl e)) = inl e
    by (inr (inr g)) = absurd g

to_back : (x y : Entry) (xs : List Entry) → Among y (x ∷ xs) → Among y (xs ++ x ∷ [])
to_back x y xs (inl e) = among_back y xs (x ∷ []) (inl e)
to_back x y xs (inr g) = among_front y xs (x ∷ []) g

put_last : (x : Entry) (xs old now : List Entry) → Exchanged [] (x ∷ xs) old now → Exchanged [] (xs ++ x ∷ []) old now
put_last x xs old now t = record {
  put = λ y p. t.put y (to_front x y xs p);
  left = λ y p. left y (t.left y p);
  from = λ y p. from y (t.from y p);
  away = λ y p k. absurd k.1;
  own = λ y p. absurd p;
}
  where
    left : (y : Entry) → HasKey y.key [] ⊎ (HasKey y.key (x ∷ xs) ⊎ Among y now) → HasKey y.key [] ⊎ (HasKey y.key (xs ++ x ∷ []) ⊎ Among y now)
    left y (inl k) = inl k
    left y (inr (inl k)) = inr (inl (k.0, to_back x k.0 xs k.1, k.2))
    left y (inr (inr g)) = inr (inr g)

    from : (y : Entry) → Among y (x ∷ xs) ⊎ Among y old → Among y (xs ++ x ∷ []) ⊎ Among y old
    from y (inl k) = inl (to_back x y xs k)
    from y (inr g) = inr g

pub makes_index_of_all : MakesIndexOfAll
makes_index_of_all old mid new a b c i lead entries catalogue may =
    let now : Collection = record c { indexes = c.indexes ++ i ∷ [] } in
    let all = entries_in c i in
    let step : Leads (puts (all ++ catalogue_entry now ∷ [])) b (put_collection now b) =
    exchanged_leads [] (all ++ catalogue_entry now ∷ []) b c now may
    (put_last (catalogue_entry now) all (collection_entries c) (collection_entries now) (made c i)) in
    goes_there old (puts all ++ put_of (catalogue_entry now) ∷ []) new a b (put_collection now b)
    (goes_on old (puts all) mid (put_of (catalogue_entry now) ∷ []) new entries catalogue) lead
    (subst (λ (es : List Edit). Leads es b (put_collection now b)) (map-append put_of all (catalogue_entry now ∷ [])) step)

pub drops_index_of_all : DropsIndexOfAll
drops_index_of_all old mid new a b c front back i lead split entries catalogue may =
    let now : Collection = record c { indexes = front ++ back } in
    goes_there old (removals (entries_in c i) ++ put_of (catalogue_entry now) ∷ []) new a b (put_collection now b)
    (goes_on old (removals (entries_in c i)) mid (put_of (catalogue_entry now) ∷ []) new entries catalogue) lead (drops_index c front back i split b may)
