-- The rules by which two sectors give a root.
use Rattle.std.proofs.Common.{◌≡◌, inl, inr, ℕ, ◌+◌, ◌-◌, ◌%◌, Bool, true, false, List, length, length-drop, take, refl, sym, ◌∙◌, ap, subst, arith}
use Rattle.std.specs.Prelude.{◌⊎◌, if◌then◌else◌, ◌==◌, not, ◌&&◌, nat_lt, drop, Result, Ok, Err, IfOk}
use Rattle.std.proofs.lemmas.Bool.Decides.{nat_tests}
use Rattle.std.proofs.lemmas.List.{take_all}
use Rattle.byteorder.specs.Endian.{little_number}
use Rattle.byteorder.specs.Numbers.{little_number-reads_back}
use Rattle.page.specs.Format.{are_zeros}
use Rattle.roots.specs.Root.{begins_right, fields_in, is_possible, is_sound, root_in, no_root, newer_root, both, root_of, IsKnown, IsPossible, root_bytes}
use Rattle.roots.specs.declared.root.Root.{Root}
use Rattle.roots.specs.declared.opening.OpenFault.{OpenFault}
use Rattle.roots.specs.declared.opening.OpenFault.TheVariants as faults

Found : Type 0
Found = Result Root OpenFault

-- the first of four tests that holds decides
pick : Bool → Bool → Bool → Bool → Root → Root → Result Root OpenFault
pick wrong next none before even odd =
    if wrong then Err faults.Damaged else if next then Ok odd else if none then Ok even else if before then Ok even else Err faults.Damaged

pick_gives : (wrong next none before : Bool) (even odd root : Root) → pick wrong next none before even odd ≡ Ok root
    → (wrong ≡ false) × (((next ≡ true) × (root ≡ odd)) ⊎ (root ≡ even))
unfolding pick
pick_gives true next none before even odd root is = absurd (grind (arith, is))
pick_gives false true none before even odd root is = (refl, inl (refl, grind (arith, is)))
pick_gives false false true before even odd root is = (refl, inr (grind (arith, is)))
pick_gives false false false true even odd root is = (refl, inr (grind (arith, is)))
pick_gives false false false false even odd root is = absurd (grind (arith, is))

-- the root that counts comes from the sector of its generation
abbrev IsFrom : Result Root OpenFault → Result Root OpenFault → Root → Type 0
IsFrom even odd root = ((even ≡ Ok root) × (root.generation % 2 ≡ 0)) ⊎ ((odd ≡ Ok root) × (root.generation % 2 ≡ 1))

newer_gives : (even odd root : Root) → newer_root even odd ≡ Ok root → ((root ≡ even) × (root.generation % 2 ≡ 0)) ⊎ ((root ≡ odd) × (root.generation % 2 ≡ 1))
unfolding pick
newer_gives even odd root is =
    let gives = pick_gives (not (even.generation % 2 == 0)) (odd.generation == even.generation + 1) ((odd.generation == 0) && (even.generation == 0))
    (not (odd.generation == 0) && (not (even.generation == 0) && (odd.generation == even.generation - 1))) even odd root is in
    let parity : even.generation % 2 ≡ 0 = grind (arith, nat_tests, gives.0) in
    elim gives.1 [
      | inl (next, at) ↦
          let up : odd.generation ≡ even.generation + 1 = grind (arith, nat_tests, next) in
          let parity_odd : odd.generation % 2 ≡ 1 = omega (arith, up, parity) in
          inr (at, subst (λ (r : Root). r.generation % 2 ≡ 1) (sym at) parity_odd)
      | inr at ↦ inl (at, subst (λ (r : Root). r.generation % 2 ≡ 0) (sym at) parity)
    ]

pub both_gives : (even odd : Result Root OpenFault) (root : Root) → both even odd ≡ Ok root → IsFrom even odd root
both_gives (Ok even) (Ok odd) root is = elim (newer_gives even odd root is) [
  | inl (at, parity) ↦ inl (ap (λ (r : Root). Ok r) (sym at), parity)
  | inr (at, parity) ↦ inr (ap (λ (r : Root). Ok r) (sym at), parity)
]
both_gives (Ok even) (Err f) root is = absurd (grind (arith, is))
both_gives (Err e) (Ok odd) root is = absurd (grind (arith, is))
both_gives (Err e) (Err f) root is = absurd (grind (arith, is))

-- a root that is read is known
known_by : (blank right late sound : Bool) (bytes : List ℕ) (root : Root)
    → (if blank then Ok no_root else if not right then Err faults.NotADatabase else if late then Err faults.NewerFormat else if sound then Ok (fields_in bytes)
    else Err faults.Damaged) ≡ Ok root
    → (root ≡ no_root) ⊎ ((sound ≡ true) × (root ≡ fields_in bytes))
known_by true right late sound bytes root is = inl (grind (arith, is))
known_by false false late sound bytes root is = absurd (grind (arith, is))
known_by false true true sound bytes root is = absurd (grind (arith, is))
known_by false true false true bytes root is = inr (refl, grind (arith, is))
known_by false true false false bytes root is = absurd (grind (arith, is))

sound_by : (first second possible rest : Bool) → (if not first then false else if not second then false else if not possible then false else rest) ≡ true
    → possible ≡ true
sound_by true true true rest is = refl
sound_by true true false rest is = is
sound_by true false possible rest is = absurd (grind (arith, is))
sound_by false second possible rest is = absurd (grind (arith, is))

sound_possible : (bytes : List ℕ) → is_sound bytes ≡ true → is_possible (fields_in bytes) ≡ true
unfolding is_sound
sound_possible bytes is =
    sound_by (little_number 4 (drop 8 bytes) == 1) (little_number 4 (drop 12 bytes) == 4096) (is_possible (fields_in bytes)) (are_zeros (drop 40 bytes)) is

possible_known : (root : Root) → is_possible root ≡ true → IsKnown root
possible_known root is = record {
  tree = grind (arith, nat_tests, is);
  pages = grind (arith, nat_tests, is);
  free_list = grind (arith, nat_tests, is);
  free_count = grind (arith, nat_tests, is);
}

read_known : (bytes : List ℕ) (root : Root) → root_in bytes ≡ Ok root → IsKnown root
read_known bytes root is = elim (known_by (are_zeros bytes) (begins_right bytes) (nat_lt 1 (little_number 4 (drop 8 bytes))) (is_sound bytes) bytes root is) [
  | inl none ↦ subst IsKnown (sym none)
      (record { tree = omega arith; pages = omega arith; free_list = omega arith; free_count = omega arith })
  | inr (sound, at) ↦ subst IsKnown (sym at) (possible_known (fields_in bytes) (sound_possible bytes sound))
]

pub known : (even odd : List ℕ) (root : Root) → root_of even odd ≡ Ok root → IsKnown root
known even odd root is = elim (both_gives (root_in even) (root_in odd) root is) [ inl (at, _) ↦ read_known even root at | inr (at, _) ↦ read_known odd root at ]

-- ---- a root that was written

fields_back : (root : Root) → IsPossible root → fields_in (root_bytes root) ≡ root
unfolding fields_in
fields_back root possible =
    let bs = root_bytes root in
    let g : little_number 8 (drop 16 bs) ≡ root.generation = little_number-reads_back 8 root.generation (drop 24 bs) (omega (arith, possible.generation)) in
    let t : little_number 4 (drop 24 bs) ≡ root.tree = little_number-reads_back 4 root.tree (drop 28 bs) (omega (arith, possible.tree, possible.pages)) in
    let p : little_number 4 (drop 28 bs) ≡ root.pages = little_number-reads_back 4 root.pages (drop 32 bs) (omega (arith, possible.pages)) in
    let list : little_number 4 (drop 32 bs) ≡ root.free_list =
    little_number-reads_back 4 root.free_list (drop 36 bs) (omega (arith, possible.free_list, possible.pages)) in
    let count : little_number 4 (drop 36 bs) ≡ root.free_count =
    little_number-reads_back 4 root.free_count (drop 40 bs) (omega (arith, possible.free_count, possible.pages)) in
    (λ i. record { generation = g i; tree = t i; pages = p i; free_list = list i; free_count = count i })

right_back : (root : Root) → begins_right (root_bytes root) ≡ true
unfolding begins_right
right_back root = refl

possible_back : (root : Root) → IsPossible root → is_possible root ≡ true
possible_back root possible =
    let some : nat_lt 0 root.generation ≡ true = grind (arith, nat_tests, possible.committed) in
    let inside : nat_lt root.tree root.pages ≡ true = grind (arith, nat_tests, possible.tree) in
    let few : nat_lt 1048576 root.pages ≡ false = grind (arith, nat_tests, possible.pages) in
    let list : nat_lt root.free_list root.pages ≡ true = grind (arith, nat_tests, possible.free_list) in
    let count : nat_lt root.free_count root.pages ≡ true = grind (arith, nat_tests, possible.free_count) in
    rw (some, inside, few, list, count) refl

sound_back : (root : Root) → IsPossible root → is_sound (root_bytes root) ≡ true
unfolding is_sound
sound_back root possible =
    let fields : is_possible (fields_in (root_bytes root)) ≡ true = ap is_possible (fields_back root possible) ∙ possible_back root possible in
    ap (λ (b : Bool). if not b then false else are_zeros (drop 40 (root_bytes root))) fields

-- What a commit writes is read as its root.
pub read_back : (root : Root) → IsPossible root → root_in (root_bytes root) ≡ Ok root
read_back root possible =
    ap (λ (b : Bool). if not b then Err faults.NotADatabase else if is_sound (root_bytes root) then Ok (fields_in (root_bytes root)) else Err faults.Damaged)
    (right_back root)
    ∙ ap (λ (b : Bool). if b then Ok (fields_in (root_bytes root)) else Err faults.Damaged) (sound_back root possible)
    ∙ ap (λ (r : Root). Ok r) (fields_back root possible)

pub known_both : (even odd : List ℕ) (found : Result Root OpenFault) → found ≡ root_of even odd → IfOk found IsKnown
known_both even odd (Ok root) is = known even odd root (sym is)
known_both even odd (Err e) is = tt

pub known_newer : (even odd : List ℕ) (first second : Root) (found : Result Root OpenFault) → Ok first ≡ root_in even → Ok second ≡ root_in odd
    → found ≡ newer_root first second → IfOk found IsKnown
known_newer even odd first second found one two is = known_both even odd found (is ∙ (λ i. both (one i) (two i)))

-- ---- what the code reads

pub fields_is : (bytes : List ℕ) (root : Root) → root.generation ≡ little_number 8 (drop 16 bytes) → root.tree ≡ little_number 4 (drop 24 bytes)
    → root.pages ≡ little_number 4 (drop 28 bytes) → root.free_list ≡ little_number 4 (drop 32 bytes)
    → root.free_count ≡ little_number 4 (drop 36 bytes) → root ≡ fields_in bytes
unfolding fields_in
fields_is bytes root g t p list count = (λ i. record { generation = g i; tree = t i; pages = p i; free_list = list i; free_count = count i })

pub sound_is : (bytes : List ℕ) (rest : Bool) → little_number 4 (drop 8 bytes) ≡ 1 → little_number 4 (drop 12 bytes) ≡ 4096
    → is_possible (fields_in bytes) ≡ true → rest ≡ are_zeros (drop 40 bytes) → rest ≡ is_sound bytes
unfolding is_sound
sound_is bytes rest format size possible is =
    let pass : (first second third : Bool) → first ≡ true → second ≡ true → third ≡ true
    → (if not first then false else if not second then false else if not third then false else are_zeros (drop 40 bytes)) ≡ are_zeros (drop 40 bytes) =
    λ first second third a b c. rw (a, b, c) refl in
    is ∙ sym (pass (little_number 4 (drop 8 bytes) == 1) (little_number 4 (drop 12 bytes) == 4096) (is_possible (fields_in bytes))
    (grind (arith, nat_tests, format)) (grind (arith, nat_tests, size)) possible)

-- what lies behind a place
pub behind : (n : ℕ) (bytes : List ℕ) → take (length bytes - n) (drop n bytes) ≡ drop n bytes
behind n bytes = take_all (length bytes - n) (drop n bytes) (omega (arith, length-drop n bytes))
