-- A document passes the test just where it may be stored.
use Rattle.std.proofs.Common.{◌≡◌, ◌≢◌, ℕ, ℤ, zero, suc, pos, negsuc, ◌<◌, ◌^◌, Bool, true, false, not, List, [], ◌∷◌, length, codes, refl, arith}
use Rattle.std.proofs.Common.{Option, Some, None, unwrap_or, Decides, FitsSigned}
use Rattle.std.specs.Prelude.{◌==◌, is_some, is_none, if◌then◌else◌}
use Rattle.std.specs.Int.{w32, w64}
use Rattle.std.specs.Str.{bytes_eq}
use Rattle.std.proofs.lemmas.Bool.{lt-ltb, ltb-true, false_from_ne_true}
use Rattle.std.proofs.lemmas.Bool.Decides.{Decides-eqb, Decides-like, Decides-ltb}
use Rattle.std.proofs.lemmas.Slice.Eq.{bytes_eq-Decides}
use Rattle.bson.specs.Lawful.{NoZero, IsName, Lacks, IsBytes, IsScalar, IsTree, IsPairs, IsItems, IsDocument, pairs_levels}
use Rattle.bson.specs.Lookup.{lookup}
use Rattle.bson.specs.Spelling.{frame_of, pairs_bytes}
use Rattle.bson.specs.Tree.{Scalar, text, binary, object_id, boolean, date, null, int32, timestamp, int64, min_key, max_key}
use Rattle.bson.specs.Tree.{Tree, scalar, document, array, Pairs, no_pairs, pair, Items, no_items, item}
use Rattle.path.specs.Parts.{has_zero}
use Rattle.path.proofs.NameLemmas.{no_zero}
use Rattle.value_order.specs.KeyText.{tree_text}
use Rattle.entry_model.specs.LawfulState.{IsStorable}
use Rattle.entry_model.specs.State.{key_of}
use Rattle.file_state.specs.DocumentTests.{are_bytes, fits_signed, is_document, is_items, is_name, is_pairs, is_scalar, is_storable, is_tree}
use Rattle.file_state.proofs.TestLemmas.{◌also◌, false_tested, le_tested, unequal_tested, utf8_tested}

-- ---- values

fits_32 : (z : ℤ) → Decides (fits_signed 31 z) (FitsSigned w32 z)
fits_32 (pos n) = (λ e. record { sfits = ltb-true n (2 ^ 31) e }, λ h. lt-ltb n (2 ^ 31) h.sfits)
fits_32 (negsuc n) = (λ e. record { sfits = ltb-true n (2 ^ 31) e }, λ h. lt-ltb n (2 ^ 31) h.sfits)

fits_64 : (z : ℤ) → Decides (fits_signed 63 z) (FitsSigned w64 z)
fits_64 (pos n) = (λ e. record { sfits = ltb-true n (2 ^ 63) e }, λ h. lt-ltb n (2 ^ 63) h.sfits)
fits_64 (negsuc n) = (λ e. record { sfits = ltb-true n (2 ^ 63) e }, λ h. lt-ltb n (2 ^ 63) h.sfits)

more_bytes : (b : ℕ) (bytes : List ℕ) → (b < 256) × IsBytes bytes → IsBytes (b ∷ bytes)
more_bytes b bytes h zero = h.0
more_bytes b bytes h (suc i) = h.1 i

bytes_tested : (bytes : List ℕ) → Decides (are_bytes bytes) (IsBytes bytes)
bytes_tested [] = (λ e i. omega arith, λ h. refl)
bytes_tested (b ∷ bytes) = Decides-like _ (more_bytes b bytes) (λ h. (h 0, λ i. h (suc i))) (Decides-ltb b 256 also bytes_tested bytes)

scalar_tested : (s : Scalar) → Decides (is_scalar s) (IsScalar s)
scalar_tested (text s) = utf8_tested s
scalar_tested (binary subtype bytes) =
    Decides-like (is_scalar (binary subtype bytes)) (λ h. (h.0.0, h.0.1, h.1)) (λ h. ((h.0, h.1), h.2))
    (unequal_tested subtype 2 also Decides-ltb subtype 256 also bytes_tested bytes)
scalar_tested (object_id bytes) = Decides-eqb (length bytes) 12 also bytes_tested bytes
scalar_tested (boolean b) = (λ e. tt, λ h. refl)
scalar_tested (date z) = fits_64 z
scalar_tested null = (λ e. tt, λ h. refl)
scalar_tested (int32 z) = fits_32 z
scalar_tested (timestamp n) = Decides-ltb n (2 ^ 64)
scalar_tested (int64 z) = fits_64 z
scalar_tested min_key = (λ e. tt, λ h. refl)
scalar_tested max_key = (λ e. tt, λ h. refl)

-- ---- names

has_none : (name : List ℕ) → NoZero name → has_zero name ≡ false
has_none [] h = refl
has_none (b ∷ bs) h = rw (false_from_ne_true (b == 0) (λ e. h.0 ((Decides-eqb b 0).0 e))) (has_none bs h.1)

zero_tested : (name : List ℕ) → Decides (not (has_zero name)) (NoZero name)
zero_tested name = Decides-like (not (has_zero name)) (no_zero name) (has_none name) (false_tested (has_zero name))

name_tested : (name : List ℕ) → Decides (is_name name) (IsName name)
name_tested name =
    Decides-like (is_name name) (λ h. record { is_text = h.0; no_zero = h.1 }) (λ h. (h.is_text, h.no_zero)) (utf8_tested name also zero_tested name)

pub lacks_tested : (ps : Pairs) (name : List ℕ) → Decides (is_none (lookup ps name)) (Lacks ps name)
lacks_tested no_pairs name = (λ e. tt, λ h. refl)
lacks_tested (pair other t ps) name = by (bytes_eq name other) (bytes_eq-Decides name other) (lacks_tested ps name)
  where
    by : (b : Bool) → Decides b (name ≡ other) → Decides (is_none (lookup ps name)) (Lacks ps name)
        → Decides (is_none (if b then Some t else lookup ps name)) ((name ≢ other) × Lacks ps name)
    by true d rest = (λ e. absurd cc, λ h. absurd (h.0 (d.0 refl)))
    by false d rest = (λ e. (λ same. let f = d.1 same in absurd cc, rest.0 e), λ h. rest.1 h.1)

-- ---- documents

mutual
  tree_tested : (t : Tree) → Decides (is_tree t) (IsTree t)
  tree_tested (scalar s) = scalar_tested s
  tree_tested (document ps) = pairs_tested ps
  tree_tested (array ts) = items_tested ts

  pub pairs_tested : (ps : Pairs) → Decides (is_pairs ps) (IsPairs ps)
  pairs_tested no_pairs = (λ e. tt, λ h. refl)
  pairs_tested (pair name t ps) =
      Decides-like (is_pairs (pair name t ps)) (λ h. (h.0.0.0, h.0.0.1, h.0.1, h.1)) (λ h. (((h.0, h.1), h.2), h.3))
      (name_tested name also tree_tested t also lacks_tested ps name also pairs_tested ps)

  items_tested : (ts : Items) → Decides (is_items ts) (IsItems ts)
  items_tested no_items = (λ e. tt, λ h. refl)
  items_tested (item t ts) = tree_tested t also items_tested ts

document_tested : (ps : Pairs) → Decides (is_document ps) (IsDocument ps)
document_tested ps =
    Decides-like (is_document ps) (λ h. record { lawful = h.0; depth = h.1 }) (λ h. (h.lawful, h.depth)) (pairs_tested ps also le_tested (pairs_levels ps) 99)

found_tested : (o : Option Tree) → Decides (is_some o) (o ≡ Some (unwrap_or o (scalar null)))
found_tested None = (λ e. absurd cc, λ e. absurd cc)
found_tested (Some t) = (λ e. refl, λ e. refl)

pub storable_tested : (ps : Pairs) → Decides (is_storable ps) (IsStorable ps)
storable_tested ps =
    Decides-like (is_storable ps) (λ h. record { lawful = h.0.0.0.0; size = h.0.0.0.1; depth = h.0.0.1; key = h.0.1; short = h.1 })
    (λ h. ((((h.lawful, h.size), h.depth), h.key), h.short))
    (document_tested ps also le_tested (length (frame_of (pairs_bytes ps))) 65535 also le_tested (suc (pairs_levels ps)) 90
    also found_tested (lookup ps (codes "_id")) also le_tested (length (tree_text (key_of ps))) 500)
