-- What is read of an entry's key and value.
use Rattle.std.proofs.Common.{◌≡◌, ℕ, zero, suc, List, [], ◌∷◌, drop, length, Option, Some, Result, Ok, Err, Bool, true, false, not, refl, ap, sym, ◌∙◌}
use Rattle.std.proofs.Common.{arith}
use Rattle.std.specs.Prelude.{◌==◌, unwrap_or}
use Rattle.std.specs.Str.{bytes_eq}
use Rattle.std.proofs.lemmas.Bool.Decides.{nat_tests}
use Rattle.std.proofs.lemmas.Slice.Eq.{bytes_eq-Decides}
use Rattle.bson.specs.Tree.{Pairs}
use Rattle.bson.specs.Spelling.{frame_of, pairs_bytes, Spells as SpellsDocument}
use Rattle.bson_bytes.specs.declared.fault.BsonFault.{BsonFault}
use Rattle.value_order.specs.KeyText.{escaped_text, tree_text}
use Rattle.entries.specs.Escaping.{unescaped}
use Rattle.entry_model.specs.LawfulState.{IsStorable}
use Rattle.entry_model.specs.State.{words}
use Rattle.entry_model.specs.StateEntries.{key_under}

-- ---- names

unescaped-escaped : (name : List ℕ) → unescaped false (escaped_text name) ≡ name
unescaped-escaped [] = refl
unescaped-escaped (zero ∷ bs) = ap (λ (xs : List ℕ). 0 ∷ xs) (unescaped-escaped bs)
unescaped-escaped (suc b ∷ bs) =
    let other : (suc b == 0) ≡ false = grind (arith, nat_tests) in
    rw other (ap (λ (xs : List ℕ). suc b ∷ xs) (unescaped-escaped bs))

-- the name behind the numbers of a key and the class of its text
pub name_behind : (key name : List ℕ) → key ≡ key_under 0 0 (tree_text (words name)) → unescaped false (drop 9 key) ≡ name
name_behind key name e = ap (λ (bs : List ℕ). unescaped false (drop 9 bs)) e ∙ unescaped-escaped name

-- ---- documents

pub storable_spells : (d : Pairs) (bytes : List ℕ) → IsStorable d → bytes ≡ frame_of (pairs_bytes d) → SpellsDocument bytes d
storable_spells d bytes h e =
    let long : length bytes ≡ length (frame_of (pairs_bytes d)) = ap length e in
    record { lawful = h.lawful; spelled = e; size = omega (arith, h.size, long) }

pub same_document : {ps qs : Pairs} {m n : ℕ} → (let r : Result (Pairs × ℕ) BsonFault = Ok (ps, m) in r) ≡ Ok (qs, n) → qs ≡ ps
same_document {ps} {qs} {m} {n} e = sym (ap first e)
  where
    first : Result (Pairs × ℕ) BsonFault → Pairs
    first (Ok x) = x.0
    first (Err f) = ps

pub same_some : {p q : Pairs} → Some p ≡ Some q → p ≡ q
same_some {p} e = ap (λ (o : Option Pairs). unwrap_or o p) e

pub same_number : {m n : ℕ} → Some m ≡ Some n → m ≡ n
same_number {m} e = ap (λ (o : Option ℕ). unwrap_or o m) e

-- equal bytes don't differ
pub not_differing : (a b : List ℕ) (r : Bool) → r ≡ not (bytes_eq a b) → r ≡ true → a ≡ b → ⊥
not_differing a b r is differ e =
    let same : bytes_eq a b ≡ true = (bytes_eq-Decides a b).1 e in
    let f : true ≡ false = sym differ ∙ is ∙ ap not same in cc
