-- Which documents may be stored as they are.
use Rattle.std.proofs.Common.{◌≡◌, suc, ◌≤◌, Bool, true, false, length, Option, Some, None, refl, sym, ap, subst, ◌∙◌, arith}
use Rattle.std.specs.Prelude.{nat_lt, unwrap_or}
use Rattle.std.specs.Option.{option_and_then}
use Rattle.std.proofs.lemmas.Bool.{ltb-false}
use Rattle.std.proofs.lemmas.Bool.Decides.{nat_tests}
use Rattle.bson.specs.Tree.{Tree, scalar, null, array, Pairs}
use Rattle.bson.specs.Edits.{place}
use Rattle.bson.specs.Lookup.{lookup}
use Rattle.bson.specs.Lawful.{IsDocument, pairs_levels}
use Rattle.bson.specs.Spelling.{frame_of, pairs_bytes}
use Rattle.value_order.specs.KeyText.{tree_text}
use Rattle.path.specs.declared.refusal.Refusal.TheVariants as refusals
use Rattle.update_model.specs.Stored.{fault_if, first_pair, id_name, id_of, limits_fault, no_array, or_else, pairs_fault, without}
use Rattle.update_model.proofs.IdLemmas.{id_first-at, to_front-first}
use Rattle.database_model.specs.Documents.{key_of}
use Rattle.database_model.specs.Lawful.{IsStored}

pub not_limited : (d : Pairs) → IsStored d → limits_fault 65535 d ≡ None
not_limited d h =
    let small : nat_lt 65535 (length (frame_of (pairs_bytes d))) ≡ false = let size = h.size in grind (arith, nat_tests, size) in
    let flat : nat_lt 90 (suc (pairs_levels d)) ≡ false = let depth = h.depth in grind (arith, nat_tests, depth) in
    rw (small, flat) refl

parted : (a b : Bool) → or_else (fault_if a refusals.BSONObjectTooLarge) (fault_if b refusals.BadValue) ≡ None → (a ≡ false) × (b ≡ false)
parted true b e = absurd cc
parted false true e = absurd cc
parted false false e = (refl, refl)

found_some : (o : Option Tree) (id : Tree) → option_and_then no_array o ≡ Some id → (o ≡ Some (unwrap_or o (scalar null))) × (unwrap_or o (scalar null) ≡ id)
found_some None id is = absurd cc
found_some (Some (array ts)) id is = absurd cc
found_some (Some t) id is = (refl, cc)

pub first_place : (d : Pairs) → IsStored d → place d id_name ≡ Some 0
first_place d h =
    let found = (found_some (lookup d id_name) (key_of d) h.key).0 in
    subst (λ (ps : Pairs). place ps id_name ≡ Some 0) (ap (λ (o : Option Tree). first_pair id_name o (without d id_name)) (sym found) ∙ h.first) refl

pub is_stored : (d : Pairs) (t : Tree) → limits_fault 65535 d ≡ None → pairs_fault d ≡ None → IsDocument d → place d id_name ≡ Some 0 → id_of d ≡ Some t
    → length (tree_text t) ≤ 500 → IsStored d × (tree_text t ≡ tree_text (key_of d))
is_stored d t limits names lawful placed id short =
    let within = parted (nat_lt 65535 (length (frame_of (pairs_bytes d)))) (nat_lt 90 (suc (pairs_levels d))) limits in
    let key : key_of d ≡ t = (found_some (lookup d id_name) t id).1 in (
      record {
        size = ltb-false 65535 (length (frame_of (pairs_bytes d))) within.0;
        depth = ltb-false 90 (suc (pairs_levels d)) within.1;
        names = names;
        key = id ∙ ap (λ (u : Tree). Some u) (sym key);
        short = subst (λ (u : Tree). length (tree_text u) ≤ 500) (sym key) short;
        first = id_first-at d 0 lawful.lawful placed ∙ to_front-first d 0 refl;
      },
      ap tree_text (sym key),
    )
