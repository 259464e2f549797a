-- Where a connection's link stands among the links, and what that makes of each call.
use Rattle.std.proofs.Common.{◌≡◌, ℕ, suc, ◌+◌, ◌≤◌, ◌<◌, List, [], ◌∷◌, length, drop, get_or, set, insert, remove, refl, sym, ◌∙◌, ap, subst, arith, drop-cons}
use Rattle.std.proofs.Common.{append_assoc}
use Rattle.std.specs.Prelude.{Option, Some, None, Result, Ok, Err, ◌++◌}
use Rattle.std.proofs.Math.Seq.{drop-length}
use Rattle.std.specs.Ordering.{nat_cmp}
use Rattle.std.specs.declared.cmp.Ordering.{Ordering}
use Rattle.std.specs.declared.cmp.Ordering.TheVariants as orders
use Rattle.entry_model.specs.State.{by_order}
use Rattle.server.specs.ServerState.{new_connection, add_bytes, feed_connections, drop_connection, find_connection, shifted, place_in}
use Rattle.op_msg.specs.declared.fault.FrameFault.{FrameFault}
use Rattle.server.specs.declared.connection.Connection.{Connection}

abbrev pub added : List Connection → ℕ → Connection → List ℕ → List Connection
added ls i d bytes = set ls i (add_bytes (get_or ls i d) (get_or ls i d).fault bytes)

abbrev pub IsAt : List Connection → ℕ → Connection → Result ℕ ℕ → Type 0
IsAt ls c d (Ok i) =
    (i < length ls) × ((bytes : List ℕ) → feed_connections ls c bytes ≡ added ls i d bytes) × (drop_connection ls c ≡ remove ls i)
    × (find_connection ls c ≡ Some (get_or ls i d))
IsAt ls c d (Err i) =
    (i ≤ length ls) × ((bytes : List ℕ) → feed_connections ls c bytes ≡ insert ls i (new_connection c bytes)) × (drop_connection ls c ≡ ls)
    × (find_connection ls c ≡ None)

module _ (l : Connection) (ls : List Connection) (c : ℕ) (d : Connection) where
  abbrev IsAtBy : Ordering → Result ℕ ℕ → Type 0
  IsAtBy o (Ok i) = (i < length (l ∷ ls))
      × ((bytes : List ℕ)
      → by_order o (new_connection c bytes ∷ l ∷ ls) (add_bytes l l.fault bytes ∷ ls) (l ∷ feed_connections ls c bytes) ≡ added (l ∷ ls) i d bytes)
      × (by_order o (l ∷ ls) ls (l ∷ drop_connection ls c) ≡ remove (l ∷ ls) i)
      × (by_order o None (Some l) (find_connection ls c) ≡ Some (get_or (l ∷ ls) i d))
  IsAtBy o (Err i) = (i ≤ length (l ∷ ls))
      × ((bytes : List ℕ)
      → by_order o (new_connection c bytes ∷ l ∷ ls) (add_bytes l l.fault bytes ∷ ls) (l ∷ feed_connections ls c bytes)
      ≡ insert (l ∷ ls) i (new_connection c bytes))
      × (by_order o (l ∷ ls) ls (l ∷ drop_connection ls c) ≡ l ∷ ls)
      × (by_order o None (Some l) (find_connection ls c) ≡ None)

  at_first : (o : Ordering) (r : Result ℕ ℕ) → IsAt ls c d r → IsAtBy o (by_order o (Err 0) (Ok 0) (shifted r))
  at_first orders.Less r h = (omega arith, λ bytes. refl, refl, refl)
  at_first orders.Equal r h = (omega arith, λ bytes. refl, refl, refl)
  at_first orders.Greater (Ok i) h =
      (omega (arith, h.0), λ bytes. ap (λ (ks : List Connection). l ∷ ks) (h.1 bytes), ap (λ (ks : List Connection). l ∷ ks) h.2, h.3)
  at_first orders.Greater (Err i) h =
      (omega (arith, h.0), λ bytes. ap (λ (ks : List Connection). l ∷ ks) (h.1 bytes), ap (λ (ks : List Connection). l ∷ ks) h.2, h.3)

pub places : (ls : List Connection) (c : ℕ) (d : Connection) → IsAt ls c d (place_in ls c)
places [] c d = (omega arith, λ bytes. refl, refl, refl)
places (l ∷ ls) c d = at_first l ls c d (nat_cmp c l.id) (place_in ls c) (places ls c d)

pub placed : (ls : List Connection) (c : ℕ) (d : Connection) (r : Result ℕ ℕ) → r ≡ place_in ls c → IsAt ls c d r
placed ls c d r e = subst (IsAt ls c d) (sym e) (places ls c d)

-- ---- the loop that looks for the place

abbrev pub plus : ℕ → Result ℕ ℕ → Result ℕ ℕ
plus n (Ok k) = Ok (n + k)
plus n (Err k) = Err (n + k)

abbrev pub ok : ℕ → Result ℕ ℕ
ok n = Ok n

abbrev pub err : ℕ → Result ℕ ℕ
err n = Err n

pub plus_zero : (r : Result ℕ ℕ) → r ≡ plus 0 r
plus_zero (Ok k) = let e : k ≡ 0 + k = omega arith in ap (λ (n : ℕ). ok n) e
plus_zero (Err k) = let e : k ≡ 0 + k = omega arith in ap (λ (n : ℕ). err n) e

plus_one : (n : ℕ) (r : Result ℕ ℕ) → plus n (shifted r) ≡ plus (n + 1) r
plus_one n (Ok k) = let e : n + suc k ≡ (n + 1) + k = omega arith in ap (λ (m : ℕ). ok m) e
plus_one n (Err k) = let e : n + suc k ≡ (n + 1) + k = omega arith in ap (λ (m : ℕ). err m) e

module _ (ls : List Connection) (c : ℕ) (i : ℕ) (d : Connection) (within : i < length ls) (so_far : place_in ls c ≡ plus i (place_in (drop i ls) c)) where
  at_link : (o : Ordering) → nat_cmp c (get_or ls i d).id ≡ o → place_in ls c ≡ plus i (by_order o (Err 0) (Ok 0) (shifted (place_in (drop (i + 1) ls) c)))
  at_link o is =
      let next : i + 1 ≡ suc i = omega arith in
      so_far ∙ ap (λ (xs : List Connection). plus i (place_in xs c)) (drop-cons ls i d within)
      ∙ ap (λ (p : Ordering). plus i (by_order p (Err 0) (Ok 0) (shifted (place_in (drop (suc i) ls) c)))) is
      ∙ ap (λ (m : ℕ). plus i (by_order o (Err 0) (Ok 0) (shifted (place_in (drop m ls) c)))) (sym next)

  pub stops_before : orders.Less ≡ nat_cmp c (get_or ls i d).id → err i ≡ place_in ls c
  stops_before is = let e : i + 0 ≡ i = omega arith in sym (at_link orders.Less (sym is) ∙ ap (λ (m : ℕ). err m) e)

  pub stops_at : orders.Equal ≡ nat_cmp c (get_or ls i d).id → ok i ≡ place_in ls c
  stops_at is = let e : i + 0 ≡ i = omega arith in sym (at_link orders.Equal (sym is) ∙ ap (λ (m : ℕ). ok m) e)

  pub goes_past : orders.Greater ≡ nat_cmp c (get_or ls i d).id → place_in ls c ≡ plus (i + 1) (place_in (drop (i + 1) ls) c)
  goes_past is = at_link orders.Greater (sym is) ∙ plus_one i (place_in (drop (i + 1) ls) c)

pub over : (ls : List Connection) (c i : ℕ) → i ≡ length ls → place_in ls c ≡ plus i (place_in (drop i ls) c) → err i ≡ place_in ls c
over ls c i whole so_far =
    let e : i + 0 ≡ i = omega arith in
    let none : drop i ls ≡ [] = ap (λ (m : ℕ). drop m ls) whole ∙ drop-length ls in
    sym (so_far ∙ ap (λ (xs : List Connection). plus i (place_in xs c)) none ∙ ap (λ (m : ℕ). err m) e)

-- ---- two chunks for one connection

nat_cmp_same : (c : ℕ) → nat_cmp c c ≡ orders.Equal
nat_cmp_same c = grind arith

kept_connection : (l : Connection) (fault : Option FrameFault) (x : List ℕ) → (add_bytes l fault x).id ≡ l.id
kept_connection l None x = refl
kept_connection l (Some fault) x = refl

added_twice : (l : Connection) (fault : Option FrameFault) (x y : List ℕ) → l.fault ≡ fault
    → add_bytes (add_bytes l fault x) (add_bytes l fault x).fault y ≡ add_bytes l fault (x ++ y)
added_twice l None x y e =
    ap (λ (f : Option FrameFault). add_bytes (record l { frames = l.frames ++ x }) f y) e
    ∙ ap (λ (bytes : List ℕ). record l { frames = bytes }) (append_assoc l.frames x y)
added_twice l (Some fault) x y e = ap (λ (f : Option FrameFault). add_bytes l f y) e

module _ (l : Connection) (ls : List Connection) (c : ℕ) (x y : List ℕ) where
  abbrev once : Ordering → List Connection → List ℕ → List Connection
  once o later bytes = by_order o (new_connection c bytes ∷ l ∷ ls) (add_bytes l l.fault bytes ∷ ls) (l ∷ later)

  fed_by : (o : Ordering) → nat_cmp c l.id ≡ o → feed_connections (feed_connections ls c x) c y ≡ feed_connections ls c (x ++ y)
      → feed_connections (once o (feed_connections ls c x) x) c y ≡ once o (feed_connections ls c (x ++ y)) (x ++ y)
  fed_by orders.Less is later = rw (nat_cmp_same c) refl
  fed_by orders.Equal is later = rw (kept_connection l l.fault x, is) (ap (λ (k : Connection). k ∷ ls) (added_twice l l.fault x y refl))
  fed_by orders.Greater is later = rw is (ap (λ (ks : List Connection). l ∷ ks) later)

pub fed_twice : (ls : List Connection) (c : ℕ) (x y : List ℕ) → feed_connections (feed_connections ls c x) c y ≡ feed_connections ls c (x ++ y)
fed_twice [] c x y = rw (nat_cmp_same c) refl
fed_twice (l ∷ ls) c x y = fed_by l ls c x y (nat_cmp c l.id) refl (fed_twice ls c x y)
