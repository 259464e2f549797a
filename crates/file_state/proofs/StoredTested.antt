-- A document passes the test just where commands store such, and what is told of an image has no others.
use Rattle.std.proofs.Common.{◌≡◌, ℕ, Bool, true, false, List, [], Option, Some, None, All, Decides, refl, sym, ◌∙◌, ap, subst, arith}
use Rattle.std.specs.Prelude.{if◌then◌else◌, is_some, is_none, unwrap_or}
use Rattle.std.specs.List.{list_all}
use Rattle.std.specs.Option.{option_and_then}
use Rattle.std.proofs.lemmas.Bool.Decides.{Decides-like}
use Rattle.std.proofs.lemmas.Slice.Eq.{bytes_eq-Decides}
use Rattle.bson.specs.Lawful.{IsPairs, Lacks}
use Rattle.bson.specs.Lookup.{lookup}
use Rattle.bson.specs.Tree.{Tree, scalar, null, document, array, Pairs, no_pairs, pair}
use Rattle.update_model.specs.Stored.{first_pair, id_first, id_name, no_array, pairs_fault, without}
use Rattle.update_model.proofs.IdLemmas.{without-absent}
use Rattle.entry_model.specs.LawfulState.{IsLawfulState}
use Rattle.entry_model.specs.State.{Collection}
use Rattle.entry_model.proofs.LawfulParts.{kept_of, storable_of}
use Rattle.database_model.specs.Documents.{key_of}
use Rattle.database_model.specs.Lawful.{IsStored}
use Rattle.file_state.specs.Collections.{held_in}
use Rattle.file_state.specs.Laws.{AreStored, GivesStored, StoredIsLawful, TestsStored}
use Rattle.file_state.specs.StoredTests.{are_stored, begins_with, is_stored, stored_in}
use Rattle.file_state.proofs.DocumentsTested.{lacks_tested}
use Rattle.file_state.proofs.HeldRead.{gives_held, held_is_lawful, none_lawful}
use Rattle.file_state.proofs.TestLemmas.{◌also◌, among_tested, true_tested}

-- ---- one document

none_tested : {X : Type 0} (o : Option X) → Decides (is_none o) (o ≡ None)
none_tested None = (λ e. refl, λ e. refl)
none_tested (Some x) = (λ e. absurd cc, λ e. absurd cc)

id_tested : (o : Option Tree) → Decides (is_some (option_and_then no_array o)) (option_and_then no_array o ≡ Some (unwrap_or o (scalar null)))
id_tested None = (λ e. absurd cc, λ e. absurd cc)
id_tested (Some (scalar s)) = (λ e. refl, λ e. refl)
id_tested (Some (document ps)) = (λ e. refl, λ e. refl)
id_tested (Some (array ts)) = (λ e. absurd cc, λ e. absurd cc)

-- the name of the first pair
abbrev first_name : Pairs → List ℕ
first_name no_pairs = []
first_name (pair name t ps) = name

first_so : (ps : Pairs) → IsPairs ps → begins_with id_name ps ≡ true → id_first ps ≡ ps
first_so no_pairs h e = absurd cc
first_so (pair name t ps) h e =
    let same : id_name ≡ name = (bytes_eq-Decides id_name name).0 e in
    let none : lookup ps id_name ≡ None = (none_tested (lookup ps id_name)).0 ((lacks_tested ps id_name).1 (subst (λ n. Lacks ps n) (sym same) h.2)) in
    let left = without ps id_name in
    ap (λ (b : Bool). first_pair id_name (if b then Some t else lookup ps id_name) (if b then left else pair name t left)) e
    ∙ (λ i. pair (same i) t (without-absent ps id_name none i))

begins_so : (ps : Pairs) (id : Tree) → lookup ps id_name ≡ Some id → id_first ps ≡ ps → begins_with id_name ps ≡ true
begins_so no_pairs id there e = absurd cc
begins_so (pair name t ps) id there e =
    let whole = pair name t ps in
    (bytes_eq-Decides id_name name).1 (ap first_name (sym (ap (λ (o : Option Tree). first_pair id_name o (without whole id_name)) there) ∙ e))

pub tests_stored : TestsStored
tests_stored ps h =
    Decides-like (is_stored ps)
    (λ told. record { size = h.size; depth = h.depth; names = told.0.0; key = told.0.1; short = h.short; first = first_so ps h.lawful.lawful told.1 })
    (λ g. ((g.names, g.key), begins_so ps (key_of ps) h.key g.first))
    (none_tested (pairs_fault ps) also id_tested (lookup ps id_name) also true_tested (begins_with id_name ps))

-- ---- collections

pub collections_tested : (cs : List Collection) → IsLawfulState cs → Decides (are_stored cs) (AreStored cs)
collections_tested cs lawful =
    among_tested (λ c. list_all is_stored c.documents) (λ c. All IsStored c.documents) cs (λ c there.
    among_tested is_stored IsStored c.documents (λ d in_c. tests_stored d (storable_of c d (kept_of cs c lawful there) in_c)))

pub stored_is_lawful : StoredIsLawful
unfolding stored_in
stored_is_lawful image = by (held_in image) (held_is_lawful image) (are_stored (held_in image)) refl
  where
    by : (cs : List Collection) → IsLawfulState cs → (b : Bool) → are_stored cs ≡ b → IsLawfulState (if b then cs else []) × AreStored (if b then cs else [])
    by cs lawful true pass = (lawful, (collections_tested cs lawful).0 pass)
    by cs lawful false fails = (none_lawful, λ k d below. absurd (omega (arith, below)))

pub gives_stored : GivesStored
unfolding stored_in
gives_stored image cs h stored =
    let held = gives_held image cs h in
    let pass : are_stored (held_in image) ≡ true = ap are_stored held ∙ (collections_tested cs h.state).1 stored in
    ap (λ (b : Bool). if b then held_in image else []) pass ∙ held
