-- Numbers of collections.
use Rattle.std.proofs.Common.{◌≡◌, ℕ, zero, suc, ◌+◌, ◌-◌, ◌<◌, ◌≤◌, Bool, true, false, List, [], ◌∷◌, length, set, insert, Option, Some, None, refl, sym, ap}
use Rattle.std.proofs.Common.{subst, ◌∙◌, arith}
use Rattle.std.specs.Prelude.{◌==◌, ◌||◌, ◌&&◌, nat_le, if◌then◌else◌, All}
use Rattle.std.specs.Str.{bytes_eq}
use Rattle.std.proofs.lemmas.Bool.Decides.{nat_tests}
use Rattle.database_model.specs.World.{unused_from, unused, number_or}
use Rattle.entry_model.specs.State.{Collection, find_collection, uses}
use Rattle.database_model.specs.Lawful.{IsKept}
use Rattle.entry_model.specs.LawfulState.{AreNumberedApart}
use Rattle.database_model.specs.Places.{collection_at}

-- ---- among one number more than there are collections one is not in use

abbrev one_if : Bool → ℕ
one_if true = 1
one_if false = 0

-- how many collections have a number from 1 to k
abbrev numbered_to : ℕ → List Collection → ℕ
numbered_to k [] = 0
numbered_to k (c ∷ cs) = one_if (nat_le 1 c.number && nat_le c.number k) + numbered_to k cs

numbered_few : (k : ℕ) (cs : List Collection) → numbered_to k cs ≤ length cs
numbered_few k [] = omega arith
numbered_few k (c ∷ cs) = at (nat_le 1 c.number && nat_le c.number k) (numbered_few k cs)
  where
    at : (b : Bool) → numbered_to k cs ≤ length cs → one_if b + numbered_to k cs ≤ suc (length cs)
    at true h = omega (arith, h)
    at false h = omega (arith, h)

-- one more number counts no fewer
grows_one : (n k : ℕ) → one_if (nat_le 1 n && nat_le n k) ≤ one_if (nat_le 1 n && nat_le n (suc k))
grows_one n k = at (nat_le 1 n) (nat_le n k) refl
  where
    at : (least within : Bool) → nat_le n k ≡ within → one_if (least && within) ≤ one_if (least && nat_le n (suc k))
    at false within e = omega arith
    at true false e = omega arith
    at true true e = let further : nat_le n (suc k) ≡ true = grind (arith, nat_tests) in rw further (omega arith)

grows : (k : ℕ) (cs : List Collection) → numbered_to k cs ≤ numbered_to (suc k) cs
grows k [] = omega arith
grows k (c ∷ cs) = omega (arith, grows_one c.number k, grows k cs)

used_grows : (k : ℕ) (cs : List Collection) → uses cs (suc k) ≡ true → numbered_to k cs + 1 ≤ numbered_to (suc k) cs
used_grows k [] e = absurd cc
used_grows k (c ∷ cs) e = at (c.number == suc k) refl e (used_grows k cs)
  where
    at : (b : Bool) → (c.number == suc k) ≡ b → (b || uses cs (suc k)) ≡ true → (uses cs (suc k) ≡ true → numbered_to k cs + 1 ≤ numbered_to (suc k) cs)
        → numbered_to k (c ∷ cs) + 1 ≤ numbered_to (suc k) (c ∷ cs)
    at true is e later =
        let same : c.number ≡ suc k = grind (arith, nat_tests) in
        let before : nat_le c.number k ≡ false = grind (arith, nat_tests) in
        let after : nat_le c.number (suc k) ≡ true = grind (arith, nat_tests) in
        let least : nat_le 1 c.number ≡ true = grind (arith, nat_tests) in
        rw (before, after, least) (omega (arith, grows k cs))
    at false is e later = omega (arith, grows_one c.number k, later e)

unused_is : (more k : ℕ) (cs : List Collection) → more + k ≡ length cs → k ≤ numbered_to k cs → uses cs (unused_from more (suc k) cs) ≡ false
unused_is zero k cs e h = at (uses cs (suc k)) refl
  where
    at : (b : Bool) → uses cs (suc k) ≡ b → uses cs (suc k) ≡ false
    at false is = is
    at true is = absurd (omega (arith, e, h, used_grows k cs is, numbered_few (suc k) cs))
unused_is (suc more) k cs e h = at (uses cs (suc k)) refl (unused_is more (suc k) cs (omega (arith, e)))
  where
    at : (b : Bool) → uses cs (suc k) ≡ b → (suc k ≤ numbered_to (suc k) cs → uses cs (unused_from more (suc (suc k)) cs) ≡ false)
        → uses cs (if b then unused_from more (suc (suc k)) cs else suc k) ≡ false
    at false is later = is
    at true is later = later (omega (arith, h, used_grows k cs is))

pub unused_unused : (cs : List Collection) → uses cs (unused cs) ≡ false
unused_unused cs = unused_is (length cs) 0 cs (omega arith) (omega arith)

pub record Between (low n high : ℕ) : Type 0 where
  pub least : low ≤ n
  pub most : n ≤ high

unused_between : (more n : ℕ) (cs : List Collection) → Between n (unused_from more n cs) (n + more)
unused_between zero n cs = record { least = omega arith; most = omega arith }
unused_between (suc more) n cs = at (uses cs n) (unused_between more (suc n) cs)
  where
    at : (b : Bool) → Between (suc n) (unused_from more (suc n) cs) (suc n + more) → Between n (if b then unused_from more (suc n) cs else n) (n + suc more)
    at true h = record { least = omega (arith, h.least); most = omega (arith, h.most) }
    at false h = record { least = omega arith; most = omega arith }

pub unused_bounds : (cs : List Collection) → Between 1 (unused cs) (1 + length cs)
unused_bounds cs = unused_between (length cs) 1 cs

-- ---- one step of the search

pub unused_found : (more n : ℕ) (cs : List Collection) → uses cs n ≡ false → unused_from more n cs ≡ n
unused_found zero n cs e = refl
unused_found (suc more) n cs e = rw e refl

pub unused_further : (more n : ℕ) (cs : List Collection) → uses cs n ≡ true → unused_from (suc more) n cs ≡ unused_from more (suc n) cs
unused_further more n cs e = rw e refl

-- ---- a collection in place of another of its number, or among others

uses_set : (cs : List Collection) (i : ℕ) (c : Collection) (n : ℕ) → i < length cs → c.number ≡ (collection_at cs i).number → uses (set cs i c) n ≡ uses cs n
uses_set [] i c n h e = absurd (omega arith)
uses_set (d ∷ ds) zero c n h e = ap (λ (k : ℕ). (k == n) || uses ds n) e
uses_set (d ∷ ds) (suc i) c n h e = ap (λ b. (d.number == n) || b) (uses_set ds i c n (omega arith) e)

pub numbers_set : (cs : List Collection) (i : ℕ) (c : Collection) → i < length cs → c.number ≡ (collection_at cs i).number → AreNumberedApart cs
    → AreNumberedApart (set cs i c)
numbers_set [] i c h e apart = absurd (omega arith)
numbers_set (d ∷ ds) zero c h e apart = (ap (uses ds) e ∙ apart.0, apart.1)
numbers_set (d ∷ ds) (suc i) c h e apart = (uses_set ds i c d.number (omega arith) e ∙ apart.0, numbers_set ds i c (omega arith) e apart.1)

pub neither : (a b : Bool) → (a || b) ≡ false → (a ≡ false) × (b ≡ false)
neither true b e = absurd cc
neither false b e = (refl, e)

pub turned : (a b : ℕ) → (a == b) ≡ false → (b == a) ≡ false
turned a b e = grind (arith, nat_tests)

uses_insert : (cs : List Collection) (i : ℕ) (c : Collection) (n : ℕ) → i ≤ length cs → (c.number == n) ≡ false → uses cs n ≡ false
    → uses (insert cs i c) n ≡ false
uses_insert [] zero c n h e u = rw e refl
uses_insert [] (suc i) c n h e u = absurd (omega arith)
uses_insert (d ∷ ds) zero c n h e u = rw (e, u) refl
uses_insert (d ∷ ds) (suc i) c n h e u =
    let parts = neither (d.number == n) (uses ds n) u in
    rw (parts.0, uses_insert ds i c n (omega arith) e parts.1) refl

pub numbers_insert : (cs : List Collection) (i : ℕ) (c : Collection) → i ≤ length cs → uses cs c.number ≡ false → AreNumberedApart cs
    → AreNumberedApart (insert cs i c)
numbers_insert [] zero c h u apart = (refl, tt)
numbers_insert [] (suc i) c h u apart = absurd (omega arith)
numbers_insert (d ∷ ds) zero c h u apart = (u, apart)
numbers_insert (d ∷ ds) (suc i) c h u apart =
    let parts = neither (d.number == c.number) (uses ds c.number) u in
    (uses_insert ds i c d.number (omega arith) (turned d.number c.number parts.0) apart.0, numbers_insert ds i c (omega arith) parts.1 apart.1)

-- ---- the number of a collection with new documents

pub found_kept : (cs : List Collection) (name : List ℕ) (c : Collection) → All IsKept cs → find_collection cs name ≡ Some c → IsKept c
found_kept [] name c h e = absurd cc
found_kept (d ∷ ds) name c h e = at (bytes_eq name d.name) e (found_kept ds name c (λ k x below. h (suc k) x (omega arith)))
  where
    at : (b : Bool) → (if b then Some d else find_collection ds name) ≡ Some c → (find_collection ds name ≡ Some c → IsKept c) → IsKept c
    at true is later = let same : d ≡ c = cc in subst IsKept same (h 0 d (omega arith))
    at false is later = later is

pub number_bounds : (cs : List Collection) (name : List ℕ) → All IsKept cs → (find_collection cs name ≡ None → length cs < 1000)
    → Between 1 (number_or (unused cs) (find_collection cs name)) 1000
number_bounds cs name h room = at (find_collection cs name) refl
  where
    at : (o : Option Collection) → find_collection cs name ≡ o → Between 1 (number_or (unused cs) o) 1000
    at None e = let b = unused_bounds cs in record { least = b.least; most = omega (arith, b.most, room e) }
    at (Some c) e = let k = found_kept cs name c h e in record { least = k.least; most = k.most }

-- ---- the search from number 1 on

pub record Searched (cs : List Collection) (end counter number : ℕ) : Type 0 where
  pub whole : end ≡ length cs
  pub number_is : number ≡ counter + 1
  pub left : unused_from (end - counter) number cs ≡ unused cs

pub searched_none : (cs : List Collection) (end : ℕ) → end ≡ length cs → Searched cs end 0 1
searched_none cs end e = let all : end - 0 ≡ length cs = omega (arith, e) in
    record { whole = e; number_is = refl; left = ap (λ (n : ℕ). unused_from n 1 cs) all }

pub searched_one : (cs : List Collection) (end counter number : ℕ) → Searched cs end counter number → counter < end → uses cs number ≡ true
    → Searched cs end (counter + 1) (number + 1)
searched_one cs end counter number h within used =
    let more : end - counter ≡ suc (end - (counter + 1)) = omega (arith, within) in
    let next : number + 1 ≡ suc number = omega arith in
    record {
      whole = h.whole;
      number_is = ap (λ (n : ℕ). n + 1) h.number_is;
      left = ap (λ (n : ℕ). unused_from (end - (counter + 1)) n cs) next
          ∙ sym (unused_further (end - (counter + 1)) number cs used) ∙ ap (λ (n : ℕ). unused_from n number cs) (sym more) ∙ h.left;
    }

pub searched_found : (cs : List Collection) (end counter number : ℕ) → Searched cs end counter number → uses cs number ≡ false → number ≡ unused cs
searched_found cs end counter number h free = sym (unused_found (end - counter) number cs free) ∙ h.left

pub searched_all : (cs : List Collection) (end counter number : ℕ) → Searched cs end counter number → end ≤ counter → number ≡ unused cs
searched_all cs end counter number h all = let none : end - counter ≡ 0 = omega (arith, all) in ap (λ (n : ℕ). unused_from n number cs) (sym none) ∙ h.left
