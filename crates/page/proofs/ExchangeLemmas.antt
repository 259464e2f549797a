-- A branch with other children in place of some: what stays is the same runs of bytes and places.
use Rattle.std.proofs.Common.{◌≡◌, ℕ, zero, suc, ◌+◌, ◌-◌, ◌<◌, ◌≤◌, List, [], ◌∷◌, ◌++◌, length, map, take, drop, replicate, get_or, sym, ap, ◌∙◌, subst}
use Rattle.std.proofs.Common.{arith, append_assoc, length-append, refl}
use Rattle.std.specs.List.{AllByRecursion, flat_map}
use Rattle.std.proofs.lemmas.List.{length-take-le, take-append-drop}
use Rattle.std.proofs.lemmas.Grind.{flat_map-append}
use Rattle.std.proofs.Math.Seq.{drop-append_seam, take-append_seam}
use Rattle.byteorder.specs.Endian.{little_bytes}
use Rattle.page.specs.ChildPage.{exchanged}
use Rattle.page.specs.Content.{Pivot, IsPivot, IsBranch, pivot_size, pivots_size, total}
use Rattle.page.specs.Format.{pivot_bytes, pivots_at, pivots_bytes, body_and_zeros, branch_cell_size}
use Rattle.page.specs.Kept.{IsWhole, KeepsBranch, starts}
use Rattle.page.proofs.PlaceLemmas.{drop_starts, get_starts, length-joined, length-starts, starts_append, starts_earlier, starts_later, take_starts}
use Rattle.page.proofs.PlaceLemmas.{total-append, total_take}
use Rattle.page.proofs.CellLemmas.{length-pivot}
use Rattle.page.proofs.KeptLemmas.{branch_again, branch_made, few_pivots}
use Rattle.page.proofs.MakingLemmas.{filled}

-- ---- where children begin

start_there : (i at : ℕ) (first : Pivot) (pivots : List Pivot) (places : List ℕ) → 0 < i → i ≤ length places → places ≡ starts pivot_size 4 pivots
    → at ≡ get_or places (i - 1) at → at ≡ pivots_size (take i (first ∷ pivots))
start_there zero at first pivots places some le placed is = absurd (omega arith)
start_there (suc i) at first pivots places some le placed is =
    let less : suc i - 1 ≡ i = omega arith in
    let within : i < length pivots = omega (arith, ap (λ (l : List ℕ). length l) placed, length-starts pivot_size 4 pivots) in
    is ∙ (λ j. get_or (placed j) (less j) at) ∙ get_starts pivot_size 4 i at pivots within

pub pivots_take : (i : ℕ) (pivots : List Pivot) → pivots_size (take i pivots) ≤ pivots_size pivots
pivots_take zero pivots = omega arith
pivots_take (suc i) [] = omega arith
pivots_take (suc i) (first ∷ pivots) = omega (arith, total_take pivot_size i pivots)

take_less : (n m : ℕ) (xs : List Pivot) → n ≤ m → total pivot_size (take n xs) ≤ total pivot_size (take m xs)
take_less zero m xs le = omega arith
take_less (suc n) zero xs le = absurd (omega arith)
take_less (suc n) (suc m) [] le = omega arith
take_less (suc n) (suc m) (x ∷ xs) le = omega (arith, take_less n m xs (omega arith))

-- ---- the branch that was made

map_both : (less more : ℕ) (xs : List ℕ) → map (λ p. p - less + more) xs ≡ map (λ p. p + more) (map (λ p. p - less) xs)
map_both less more [] = refl
map_both less more (x ∷ xs) = ap (λ (l : List ℕ). (x - less + more) ∷ l) (map_both less more xs)

module _ (first : Pivot) (pivots new : List Pivot) (f t : ℕ) where
  abbrev start : ℕ
  start = 4 + total pivot_size (take f pivots)

  abbrev stop : ℕ
  stop = 4 + total pivot_size (take t pivots)

  abbrev size : ℕ
  size = 4 + total pivot_size pivots

  abbrev every : List Pivot
  every = take f pivots ++ (new ++ drop t pivots)

  module _ (bytes : List ℕ) (spelled : bytes ≡ body_and_zeros (pivots_bytes (first ∷ pivots))) where
    abbrev zeros : List ℕ
    zeros = replicate (4080 - length (pivots_bytes (first ∷ pivots))) 0

    apart : (n : ℕ) → bytes ≡ (little_bytes 4 first.child ++ flat_map pivot_bytes (take n pivots)) ++ (flat_map pivot_bytes (drop n pivots) ++ zeros)
    apart n =
        let four = little_bytes 4 first.child in
        let front = flat_map pivot_bytes (take n pivots) in
        let back = flat_map pivot_bytes (drop n pivots) in
        spelled
        ∙ ap (λ (l : List ℕ). (four ++ l) ++ zeros)
        (ap (flat_map pivot_bytes) (sym (take-append-drop n pivots)) ∙ flat_map-append pivot_bytes (take n pivots) (drop n pivots))
        ∙ ap (λ (l : List ℕ). l ++ zeros) (sym (append_assoc four front back))
        ∙ append_assoc (four ++ front) back zeros

    front_long : (n : ℕ) → length (little_bytes 4 first.child ++ flat_map pivot_bytes (take n pivots)) ≡ 4 + total pivot_size (take n pivots)
    front_long n = omega (arith, length-joined pivot_bytes pivot_size length-pivot (take n pivots))

    front_is : take start bytes ≡ little_bytes 4 first.child ++ flat_map pivot_bytes (take f pivots)
    front_is =
        (λ i. take (sym (front_long f) i) (apart f i))
        ∙ take-append_seam (little_bytes 4 first.child ++ flat_map pivot_bytes (take f pivots)) (flat_map pivot_bytes (drop f pivots) ++ zeros)

    back_is : take (size - stop) (drop stop bytes) ≡ flat_map pivot_bytes (drop t pivots)
    back_is =
        let back = flat_map pivot_bytes (drop t pivots) in
        let behind : drop stop bytes ≡ back ++ zeros =
        (λ i. drop (sym (front_long t) i) (apart t i)) ∙ drop-append_seam (little_bytes 4 first.child ++ flat_map pivot_bytes (take t pivots)) (back ++ zeros)
        in
        let parts : total pivot_size (take t pivots) + total pivot_size (drop t pivots) ≡ total pivot_size pivots =
        sym (total-append pivot_size (take t pivots) (drop t pivots)) ∙ ap (total pivot_size) (take-append-drop t pivots) in
        let long : size - stop ≡ length back = omega (arith, parts, length-joined pivot_bytes pivot_size length-pivot (drop t pivots)) in
        (λ i. take (long i) (behind i)) ∙ take-append_seam back zeros

    body_is : (made : List ℕ) → made ≡ (take start bytes ++ flat_map pivot_bytes new) ++ take (size - stop) (drop stop bytes)
        → made ≡ pivots_bytes (first ∷ every)
    body_is made is =
        let four = little_bytes 4 first.child in
        let front = flat_map pivot_bytes (take f pivots) in
        let mid = flat_map pivot_bytes new in
        let back = flat_map pivot_bytes (drop t pivots) in
        let joined : flat_map pivot_bytes every ≡ front ++ (mid ++ back) =
        flat_map-append pivot_bytes (take f pivots) (new ++ drop t pivots) ∙ ap (λ (l : List ℕ). front ++ l) (flat_map-append pivot_bytes new (drop t pivots))
        in
        is ∙ (λ i. (front_is i ++ mid) ++ back_is i)
        ∙ append_assoc (four ++ front) mid back ∙ append_assoc four front (mid ++ back)
        ∙ ap (λ (l : List ℕ). four ++ l) (sym joined)

  places_are : (places made : List ℕ) (next : ℕ) → places ≡ starts pivot_size 4 pivots → next ≡ start + total pivot_size new
      → made ≡ (take f places ++ starts pivot_size start new) ++ map (λ p. p - stop + next) (drop t places) → made ≡ starts pivot_size 4 every
  places_are places made next placed next_is is =
      let zero_stop : stop ≡ 0 + stop = omega arith in
      let zero_next : 0 + next ≡ start + total pivot_size new = omega (arith, next_is) in
      let front : take f places ≡ starts pivot_size 4 (take f pivots) = ap (λ (l : List ℕ). take f l) placed ∙ take_starts pivot_size 4 f pivots in
      let back : map (λ p. p - stop + next) (drop t places) ≡ starts pivot_size (start + total pivot_size new) (drop t pivots) =
      ap (λ (l : List ℕ). map (λ p. p - stop + next) l)
      (ap (λ (l : List ℕ). drop t l) placed ∙ drop_starts pivot_size 4 t pivots ∙ ap (λ (n : ℕ). starts pivot_size n (drop t pivots)) zero_stop)
      ∙ map_both stop next (starts pivot_size (0 + stop) (drop t pivots))
      ∙ ap (map (λ p. p + next)) (starts_earlier pivot_size 0 stop (drop t pivots))
      ∙ starts_later pivot_size 0 next (drop t pivots)
      ∙ ap (λ (n : ℕ). starts pivot_size n (drop t pivots)) zero_next in
      is ∙ (λ i. (front i ++ starts pivot_size start new) ++ back i)
      ∙ append_assoc (starts pivot_size 4 (take f pivots)) (starts pivot_size start new) (starts pivot_size (start + total pivot_size new) (drop t pivots))
      ∙ ap (λ (l : List ℕ). starts pivot_size 4 (take f pivots) ++ l) (sym (starts_append pivot_size start new (drop t pivots)))
      ∙ sym (starts_append pivot_size 4 (take f pivots) (new ++ drop t pivots))

-- ---- the same of the children as they are seen

abbrev pub IsMadeOf : List Pivot → List ℕ → List ℕ → Type 0
IsMadeOf pivots made places = KeepsBranch made places × (pivots_at made places ≡ pivots)

-- what the program makes of the bytes and places
pub record AreExchanged (from to : ℕ) (now new : List Pivot) (bytes places filled_up made : List ℕ) : Type 0 where
  pub start : ℕ
  pub stop : ℕ
  pub size : ℕ
  pub next : ℕ
  pub count : ℕ
  pub body : List ℕ
  pub start_is : start ≡ pivots_size (take from now)
  pub stop_is : stop ≡ pivots_size (take to now)
  pub size_is : size ≡ pivots_size now
  pub next_is : next ≡ start + total pivot_size new
  pub count_is : count ≡ length body
  pub body_is : body ≡ (take start bytes ++ flat_map pivot_bytes new) ++ take (size - stop) (drop stop bytes)
  pub filled_is : filled_up ≡ take 4080 body ++ replicate (4080 - count) 0
  pub made_is : made ≡ (take (from - 1) places ++ starts pivot_size start new) ++ map (λ p. p - stop + next) (drop (to - 1) places)

exchange : (from to : ℕ) (first : Pivot) (pivots new : List Pivot) (bytes places filled_up made : List ℕ) → 0 < from → from ≤ to
    → bytes ≡ body_and_zeros (pivots_bytes (first ∷ pivots)) → places ≡ starts pivot_size 4 pivots → IsBranch (exchanged from to new (first ∷ pivots))
    → AreExchanged from to (first ∷ pivots) new bytes places filled_up made → IsMadeOf (exchanged from to new (first ∷ pivots)) filled_up made
exchange zero to first pivots new bytes places filled_up made some order spelled placed sound e = absurd (omega arith)
exchange (suc f) zero first pivots new bytes places filled_up made some order spelled placed sound e = absurd (omega arith)
exchange (suc f) (suc t) first pivots new bytes places filled_up made some order spelled placed sound e =
    let less_f : suc f - 1 ≡ f = omega arith in
    let less_t : suc t - 1 ≡ t = omega arith in
    let body : e.body ≡ pivots_bytes (first ∷ every first pivots new f t) =
    body_is first pivots new f t bytes spelled e.body (e.body_is
    ∙ (λ i. (take (e.start_is i) bytes ++ flat_map pivot_bytes new) ++ take (e.size_is i - e.stop_is i) (drop (e.stop_is i) bytes))) in
    let room : length (pivots_bytes (first ∷ every first pivots new f t)) ≤ 4080 =
    omega (arith, sound.room, length-joined pivot_bytes pivot_size length-pivot (every first pivots new f t)) in
    let whole : filled_up ≡ body_and_zeros (pivots_bytes (first ∷ every first pivots new f t)) =
    filled e.body (pivots_bytes (first ∷ every first pivots new f t)) filled_up e.count body e.count_is room e.filled_is in
    let at : made ≡ starts pivot_size 4 (every first pivots new f t) =
    places_are first pivots new f t places made e.next placed (omega (arith, e.next_is, e.start_is))
    (e.made_is ∙ (λ i. (take (less_f i) places ++ starts pivot_size (e.start_is i) new) ++ map (λ p. p - e.stop_is i + e.next) (drop (less_t i) places))) in (
      subst (KeepsBranch filled_up) (sym at) (branch_made first (every first pivots new f t) sound filled_up whole),
      ap (pivots_at filled_up) at
          ∙ branch_again first (every first pivots new f t) sound filled_up whole,
    )

module _ (bytes places : List ℕ) (now : List Pivot) (kept : KeepsBranch bytes places) (seen : pivots_at bytes places ≡ now) where
  pub start_seen : (i at : ℕ) → 0 < i → i ≤ length places → at ≡ get_or places (i - 1) at → at ≡ pivots_size (take i now)
  start_seen i at some le is = start_there i at _ _ places some le kept.placed is ∙ ap (λ (l : List Pivot). pivots_size (take i l)) seen

  pub exchange_seen : (from to : ℕ) (new : List Pivot) (filled_up made : List ℕ) → 0 < from → from ≤ to → IsBranch (exchanged from to new now)
      → AreExchanged from to now new bytes places filled_up made → IsMadeOf (exchanged from to new now) filled_up made
  exchange_seen from to new filled_up made some order sound e =
      subst (λ (l : List Pivot). IsMadeOf (exchanged from to new l) filled_up made) seen
      (exchange from to _ _ new bytes places filled_up made some order kept.spelled kept.placed
      (subst (λ (l : List Pivot). IsBranch (exchanged from to new l)) (sym seen) sound)
      (subst (λ (l : List Pivot). AreExchanged from to l new bytes places filled_up made) (sym seen) e))

-- ---- what the new children need

each_mid : (front mid back : List Pivot) → AllByRecursion IsPivot (front ++ (mid ++ back)) → AllByRecursion IsPivot mid
each_mid [] [] back each = tt
each_mid [] (x ∷ xs) back each = (each.0, each_mid [] xs back each.1)
each_mid (y ∷ ys) mid back each = each_mid ys mid back each.1

pub new_sound : (from to : ℕ) (new now : List Pivot) → IsBranch (exchanged from to new now) → AllByRecursion IsPivot new
new_sound from to new now sound = each_mid (take from now) new (drop to now) sound.each

new_size : (from : ℕ) (new now back : List Pivot) → 0 < from → 2 ≤ length now
    → pivots_size (take from now) + total pivot_size new ≤ pivots_size (take from now ++ (new ++ back))
new_size zero new now back some two = absurd (omega arith)
new_size (suc f) new [] back some two = absurd (omega arith)
new_size (suc f) new (first ∷ pivots) back some two = omega (arith, total-append pivot_size (take f pivots) (new ++ back), total-append pivot_size new back)

pub new_room : (from to : ℕ) (new now : List Pivot) → 0 < from → 2 ≤ length now → IsBranch (exchanged from to new now)
    → pivots_size (take from now) + total pivot_size new ≤ 4080
new_room from to new now some two sound = omega (arith, new_size from new now (drop to now) some two, sound.room)

pub few_new : (from to : ℕ) (new now : List Pivot) → IsBranch (exchanged from to new now) → length new ≤ 681
few_new from to new now sound =
    omega (
      arith,
      few_pivots (exchanged from to new now),
      sound.room,
      length-append (take from now) (new ++ drop to now),
      length-append new (drop to now),
    )

pub each_place : (bytes places : List ℕ) → AllByRecursion (IsWhole branch_cell_size bytes) places → AllByRecursion (λ (p : ℕ). p ≤ 4080) places
each_place bytes [] each = tt
each_place bytes (p ∷ ps) each = (omega (arith, each.0), each_place bytes ps each.1)

pub drop_places : (n : ℕ) (places : List ℕ) → AllByRecursion (λ (p : ℕ). p ≤ 4080) places → AllByRecursion (λ (p : ℕ). p ≤ 4080) (drop n places)
drop_places zero places each = each
drop_places (suc n) [] each = tt
drop_places (suc n) (p ∷ ps) each = drop_places n ps each.1

module _ (bytes places : List ℕ) (now : List Pivot) (kept : KeepsBranch bytes places) (seen : pivots_at bytes places ≡ now) where
  pub now_sound : IsBranch now
  now_sound = subst IsBranch seen kept.sound

  pub start_small : (i at : ℕ) → at ≡ pivots_size (take i now) → at ≤ length bytes
  start_small i at is = omega (arith, is, pivots_take i now, now_sound.room, kept.len)

-- ---- step by step

module _ (bytes places : List ℕ) (now new : List Pivot) (from to : ℕ) (kept : KeepsBranch bytes places) (seen : pivots_at bytes places ≡ now)
    (some : 0 < from) (order : from ≤ to) (sound : IsBranch (exchanged from to new now)) (start stop size next count : ℕ)
    (none no_place front front_places more more_places body made filled_up : List ℕ) (start_is : start ≡ pivots_size (take from now))
    (stop_is : stop ≡ pivots_size (take to now)) (size_is : size ≡ pivots_size now) (none_is : none ≡ []) (no_place_is : no_place ≡ [])
    (front_is : front ≡ none ++ take start bytes) (front_places_are : front_places ≡ no_place ++ take (from - 1) places)
    (more_is : more ≡ front ++ flat_map pivot_bytes new) (more_places_are : more_places ≡ front_places ++ starts pivot_size (length front) new)
    (made_is : made ≡ more_places ++ map (λ p. p - stop + next) (drop (to - 1) places))
    (body_is : body ≡ more ++ take (size - stop) (drop stop bytes)) (filled_is : filled_up ≡ take 4080 body ++ replicate (4080 - count) 0)
    (next_is : next ≡ length more) (count_is : count ≡ length body) where
  front_there : front ≡ take start bytes
  front_there = front_is ∙ ap (λ (l : List ℕ). l ++ take start bytes) none_is

  begin_long : length front ≡ start
  begin_long = ap (λ (l : List ℕ). length l) front_there ∙ length-take-le start bytes (start_small bytes places now kept seen from start start_is)

  next_there : next ≡ start + total pivot_size new
  next_there =
      omega (
        arith,
        next_is,
        ap (λ (l : List ℕ). length l) more_is,
        length-append front (flat_map pivot_bytes new),
        length-joined pivot_bytes pivot_size length-pivot new,
        begin_long,
      )

  pub made_there : IsMadeOf (exchanged from to new now) filled_up made
  made_there = exchange_seen bytes places now kept seen from to new filled_up made some order sound (record {
    start = start;
    stop = stop;
    size = size;
    next = next;
    count = count;
    body = body;
    start_is = start_is;
    stop_is = stop_is;
    size_is = size_is;
    next_is = next_there;
    count_is = count_is;
    body_is = body_is ∙ ap (λ (l : List ℕ). l ++ take (size - stop) (drop stop bytes)) (more_is
        ∙ ap (λ (l : List ℕ). l ++ flat_map pivot_bytes new) front_there);
    filled_is = filled_is;
    made_is = made_is ∙ ap (λ (l : List ℕ). l ++ map (λ p. p - stop + next) (drop (to - 1) places)) (more_places_are
        ∙ (λ i. (front_places_are ∙ ap (λ (l : List ℕ). l ++ take (from - 1) places) no_place_is) i ++ starts pivot_size (begin_long i) new));
  })
