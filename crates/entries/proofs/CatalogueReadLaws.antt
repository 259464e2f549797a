-- What the catalogue says of a collection with indexes is read back.
use Rattle.std.proofs.Common.{◌≡◌, ℕ, Bool, true, false, not, ◌+◌, ◌<◌, ◌≤◌, List, [], ◌∷◌, ◌++◌, length, get_or, drop, Option, Some, None, Result, Ok, Err}
use Rattle.std.proofs.Common.{codes, refl, sym, ap, subst, unwrap_or, ◌∙◌, append_assoc, append-nil}
use Rattle.std.specs.Prelude.{IfOk}
use Rattle.std.proofs.lemmas.Slice.Eq.{bytes_eq-Decides}
use Rattle.std.specs.Str.{bytes_eq}
use Rattle.std.specs.Global.{Vec}
use Rattle.std.specs.List.{AllByRecursion}
use Rattle.std.specs.Option.{option_and_then, option_map}
use Rattle.std.proofs.lemmas.List.{drop_all}
use Rattle.bson.specs.Lookup.{lookup}
use Rattle.bson.specs.Tree.{Tree, array, Pairs, Items, no_items}
use Rattle.bson.specs.Spelling.{Spells as SpellsDocument}
use Rattle.bson.specs.View.{tree, items_of}
use Rattle.bson.specs.declared.value.Value.{Value}
use Rattle.index.specs.Definition.{Definition, IsDefinition}
use Rattle.entries.specs.CatalogueReading.{item_in, definitions_in}
use Rattle.entry_model.specs.LawfulState.{IsKept}
use Rattle.entry_model.specs.State.{Collection}
use Rattle.entry_model.specs.StateReads.{catalogue_bytes}
use Rattle.entry_model.specs.StateEntries.{catalogue_value, definition_items}
use Rattle.index.proofs.CatalogueLaws.{reads_back}
use Rattle.entries.proofs.CatalogueEntries.{value_spells}
use Rattle.entries.proofs.CatalogueValues.{from_there}
use Rattle.entries.proofs.OneStateLaws.{lawful_indexes}

pub all_back : (ds : List Definition) → AllByRecursion IsDefinition ds → definitions_in (definition_items ds) ≡ Some ds
all_back [] h = refl
all_back (d ∷ ds) h =
    ap (option_and_then (λ (e : Definition). option_map (λ es. e ∷ es) (definitions_in (definition_items ds)))) (reads_back d h.0)
    ∙ ap (option_map (λ es. d ∷ es)) (all_back ds h.1)

-- ---- a loop over values

longer : (got : List Definition) (d : Definition) (rest : Option (List Definition))
    → option_map (λ ds. (got ++ d ∷ []) ++ ds) rest ≡ option_map (λ ds. got ++ ds) (option_map (λ ds. d ∷ ds) rest)
longer got d None = refl
longer got d (Some ds) = ap (λ (es : List Definition). Some es) (append_assoc got (d ∷ []) ds)

first_read : (vs : List Value) (i : ℕ) (v : Value) (found : Option Definition) → i < length vs → v ≡ get_or vs i v → found ≡ item_in (tree v)
    → definitions_in (items_of (drop i vs)) ≡ option_and_then (λ d. option_map (λ ds. d ∷ ds) (definitions_in (items_of (drop (i + 1) vs)))) found
first_read vs i v found below is told =
    ap (λ (ws : List Value). definitions_in (items_of ws)) (from_there vs i v below is)
    ∙ ap (option_and_then (λ (d : Definition). option_map (λ ds. d ∷ ds) (definitions_in (items_of (drop (i + 1) vs))))) (sym told)

pub read_more : (vs : List Value) (i : ℕ) (v : Value) (got new : List Definition) (d : Definition) (whole : Option (List Definition)) → i < length vs
    → v ≡ get_or vs i v → Some d ≡ item_in (tree v) → new ≡ got ++ d ∷ []
    → option_map (λ ds. got ++ ds) (definitions_in (items_of (drop i vs))) ≡ whole
    → option_map (λ ds. new ++ ds) (definitions_in (items_of (drop (i + 1) vs))) ≡ whole
read_more vs i v got new d whole below is told grown so_far =
    let rest = definitions_in (items_of (drop (i + 1) vs)) in
    ap (λ (xs : List Definition). option_map (λ ds. xs ++ ds) rest) grown ∙ longer got d rest
    ∙ sym (ap (option_map (λ (ds : List Definition). got ++ ds)) (first_read vs i v (Some d) below is told)) ∙ so_far

pub read_none : (vs : List Value) (i : ℕ) (v : Value) (got : List Definition) (whole : Option (List Definition)) → i < length vs → v ≡ get_or vs i v
    → None ≡ item_in (tree v)
    → option_map (λ ds. got ++ ds) (definitions_in (items_of (drop i vs))) ≡ whole → None ≡ whole
read_none vs i v got whole below is told so_far =
    sym (ap (option_map (λ (ds : List Definition). got ++ ds)) (first_read vs i v None below is told)) ∙ so_far

pub read_all : (vs : List Value) (i : ℕ) (got : List Definition) (whole : Option (List Definition)) → length vs ≤ i
    → option_map (λ ds. got ++ ds) (definitions_in (items_of (drop i vs))) ≡ whole → Some got ≡ whole
read_all vs i got whole past so_far =
    ap (λ (xs : List Definition). Some xs) (sym (append-nil got))
    ∙ sym (ap (λ (ws : List Value). option_map (λ (ds : List Definition). got ++ ds) (definitions_in (items_of ws))) (drop_all i vs past)) ∙ so_far

-- ---- the indexes in a document of the catalogue

items_of_array : Option Tree → Items
items_of_array (Some (array ts)) = ts
items_of_array other = no_items

same_items : (ts us : Items) → Some (array ts) ≡ Some (array us) → ts ≡ us
unfolding items_of_array
same_items ts us e = ap items_of_array e

pub indexes_back : {E : Type 0} (r : Result (Option (Vec Definition)) E) (ps : Pairs) (ts : Items) (ws : Items)
    → IfOk r (λ found. option_map (λ v. v.items) found ≡ definitions_in ws) → ws ≡ ts → lookup ps (codes "x") ≡ Some (array ts)
    → IfOk r (λ found. (number : ℕ) (is : List Definition) → AllByRecursion IsDefinition is → ps ≡ catalogue_value number is
    → option_map (λ v. v.items) found ≡ Some is)
indexes_back (Ok found) ps ts ws h same there = λ number is lawful e.
    let back : ts ≡ definition_items is = same_items ts (definition_items is) (sym there ∙ ap (λ (qs : Pairs). lookup qs (codes "x")) e) in
    h ∙ ap definitions_in (same ∙ back) ∙ all_back is lawful
indexes_back (Err e) ps ts ws h same there = h

pub same_list : {is js : List Definition} → Some is ≡ Some js → is ≡ js
same_list {is} e = ap (λ (o : Option (List Definition)). unwrap_or o is) e

-- ---- a collection's

pub kept_spells : (c : Collection) (bytes : List ℕ) → IsKept c → bytes ≡ catalogue_bytes c → SpellsDocument bytes (catalogue_value c.number c.indexes)
kept_spells c bytes h e =
    subst (λ (bs : List ℕ). SpellsDocument bs (catalogue_value c.number c.indexes)) (sym e)
    (value_spells c.number c.indexes h.most h.few (lawful_indexes c.indexes c.documents h.indexes))

pub kept_lawful : (c : Collection) → IsKept c → AllByRecursion IsDefinition c.indexes
kept_lawful c h = lawful_indexes c.indexes c.documents h.indexes

pub told_pair : {p q : ℕ × List Definition} → Some p ≡ Some q → p ≡ q
told_pair {p} e = ap (λ (o : Option (ℕ × List Definition)). unwrap_or o p) e

-- bytes that don't differ are equal
pub same_bytes : (a b : List ℕ) (r : Bool) → r ≡ not (bytes_eq a b) → r ≡ false → a ≡ b
same_bytes a b r is alike = by (bytes_eq a b) refl
  where
    by : (t : Bool) → bytes_eq a b ≡ t → a ≡ b
    by true e = (bytes_eq-Decides a b).0 e
    by false e = absurd (let g : true ≡ false = sym (ap not e) ∙ sym is ∙ alike in cc)
