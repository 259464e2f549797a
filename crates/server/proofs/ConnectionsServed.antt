-- How the links are served, one after the other.
use Rattle.std.proofs.Common.{◌≡◌, ℕ, zero, suc, ◌+◌, ◌<◌, List, [], ◌∷◌, ◌++◌, length, take, drop, get_or, set, refl, sym, ◌∙◌, ap, subst, arith, append_assoc}
use Rattle.std.proofs.Common.{append-nil}
use Rattle.std.proofs.Math.Path.{path_j, subst_refl}
use Rattle.std.proofs.lemmas.List.{length-append, take_more, take-append-drop}
use Rattle.std.specs.Prelude.{Bool, true, false, ◌&&◌, Option, Result, Ok, Err}
use Rattle.bson.specs.Tree.{Pairs}
use Rattle.database_model.specs.World.{World, forget}
use Rattle.database_model.specs.Refusals.{refusal_reply}
use Rattle.path.specs.declared.refusal.Refusal.{Refusal}
use Rattle.op_msg.specs.Frame.{Frame}
use Rattle.op_msg.specs.declared.fault.FrameFault.{FrameFault}
use Rattle.server.specs.Turn.{LeftAll, LeftCollections, WroteNoneOnAnyDisk}
use Rattle.server.specs.Turn.{Call, Runs, RunsOnAnyDisk, WroteNone, AllRead, frames_of, frame_for, calls, call_at, front_of, connection_at}
use Rattle.server.specs.Turn.{connections_after, taken_at}
use Rattle.server.specs.Turn.{connections_taken, forget_all, refused_calls, refused_frames, faults, fault_at}
use Rattle.server.specs.Taking.{Serves, refused_at, fault_in, faults_in, closed_by, closed_connections, fault_beside}
use Rattle.server.specs.declared.connection.Connection.{Connection}

runs_on : (beside : World → Refusal → Type 0) (cs ds : List Call) (a b c : World) (rs ss : List Pairs) → Runs beside a cs rs b → Runs beside b ds ss c
    → Runs beside a (cs ++ ds) (rs ++ ss) c
runs_on beside [] ds a b c [] ss h k = subst (λ (w : World). Runs beside w ds ss c) h k
runs_on beside [] ds a b c (r ∷ rs) ss h k = absurd h
runs_on beside (x ∷ cs) ds a b c [] ss h k = absurd h
runs_on beside (x ∷ cs) ds a b c (r ∷ rs) ss h k = (h.0, h.1, runs_on beside cs ds h.0 b c rs ss h.2 k)

runs_anyhow : (cs ds : List Call) (a b c : World) (rs ss : List Pairs) → RunsOnAnyDisk a cs rs b → RunsOnAnyDisk b ds ss c
    → RunsOnAnyDisk a (cs ++ ds) (rs ++ ss) c
runs_anyhow [] ds a b c [] ss h k = subst (λ (w : World). RunsOnAnyDisk w ds ss c) h k
runs_anyhow [] ds a b c (r ∷ rs) ss h k = absurd h
runs_anyhow (x ∷ cs) ds a b c [] ss h k = absurd h
runs_anyhow (x ∷ cs) ds a b c (r ∷ rs) ss h k = (h.0, h.1, runs_anyhow cs ds h.0 b c rs ss h.2 k)

frames_on : (cs ds : List Call) (rs ss : List Pairs) → length rs ≡ length cs → frames_of (cs ++ ds) (rs ++ ss) ≡ frames_of cs rs ++ frames_of ds ss
frames_on [] ds [] ss e = refl
frames_on [] ds (r ∷ rs) ss e = absurd cc
frames_on (x ∷ cs) ds [] ss e = absurd cc
frames_on (x ∷ cs) ds (r ∷ rs) ss e =
    ap (λ (fs : List (ℕ × List ℕ)). frame_for x r ++ fs) (frames_on cs ds rs ss (omega (arith, e)))
    ∙ sym (append_assoc (frame_for x r) (frames_of cs rs) (frames_of ds ss))

-- ---- calls of which none wrote anything

module _ (beside : World → Refusal → Type 0) where
  wrote_moved : (ds : List Call) (a b c : World) (ss : List Pairs) (is : b ≡ a) (k : Runs beside b ds ss c)
      → WroteNone beside a ds ss c (subst (λ (w : World). Runs beside w ds ss c) is k) → WroteNone beside b ds ss c k
  wrote_moved ds a b c ss is =
      path_j
      (λ (y : World) (p : b ≡ y). (k : Runs beside b ds ss c) → WroteNone beside y ds ss c (subst (λ (w : World). Runs beside w ds ss c) p k)
      → WroteNone beside b ds ss c k)
      (λ k. subst (WroteNone beside b ds ss c) (subst_refl (λ (w : World). Runs beside w ds ss c) k)) is

  wrote_on : (cs ds : List Call) (a b c : World) (rs ss : List Pairs) (h : Runs beside a cs rs b) (k : Runs beside b ds ss c)
      → WroteNone beside a (cs ++ ds) (rs ++ ss) c (runs_on beside cs ds a b c rs ss h k) → WroteNone beside a cs rs b h × WroteNone beside b ds ss c k
  unfolding runs_on
  wrote_on [] ds a b c [] ss h k none = (tt, wrote_moved ds a b c ss h k none)
  wrote_on [] ds a b c (r ∷ rs) ss h k none = absurd h
  wrote_on (x ∷ cs) ds a b c [] ss h k none = absurd h
  wrote_on (x ∷ cs) ds a b c (r ∷ rs) ss h k none =
      let later = wrote_on cs ds h.0 b c rs ss h.2 k none.1 in
      ((none.0, later.0), later.1)

  left_moved : (ds : List Call) (a b c : World) (ss : List Pairs) (is : b ≡ a) (k : Runs beside b ds ss c) → LeftAll beside b ds ss c k
      → LeftAll beside a ds ss c (subst (λ (w : World). Runs beside w ds ss c) is k)
  left_moved ds a b c ss is =
      path_j
      (λ (y : World) (p : b ≡ y). (k : Runs beside b ds ss c) → LeftAll beside b ds ss c k
      → LeftAll beside y ds ss c (subst (λ (w : World). Runs beside w ds ss c) p k))
      (λ k. subst (LeftAll beside b ds ss c) (sym (subst_refl (λ (w : World). Runs beside w ds ss c) k))) is

  left_all_on : (cs ds : List Call) (a b c : World) (rs ss : List Pairs) (h : Runs beside a cs rs b) (k : Runs beside b ds ss c)
      → LeftAll beside a cs rs b h → LeftAll beside b ds ss c k → LeftAll beside a (cs ++ ds) (rs ++ ss) c (runs_on beside cs ds a b c rs ss h k)
  unfolding runs_on
  left_all_on [] ds a b c [] ss h k first later = left_moved ds a b c ss h k later
  left_all_on [] ds a b c (r ∷ rs) ss h k first later = absurd h
  left_all_on (x ∷ cs) ds a b c [] ss h k first later = absurd h
  left_all_on (x ∷ cs) ds a b c (r ∷ rs) ss h k first later = (first.0, left_all_on cs ds h.0 b c rs ss h.2 k first.1 later)

-- ---- the same, on any disk

module _ (ds : List Call) (c : World) (ss : List Pairs) (P : (w : World) → RunsOnAnyDisk w ds ss c → Type 0) where
  abbrev At : World → Type 0
  At w = RunsOnAnyDisk w ds ss c

  to_moved : (a b : World) (is : b ≡ a) (k : At b) → P b k → P a (subst At is k)
  to_moved a b is = path_j (λ (y : World) (p : b ≡ y). (k : At b) → P b k → P y (subst At p k)) (λ k. subst (P b) (sym (subst_refl At k))) is

  from_moved : (a b : World) (is : b ≡ a) (k : At b) → P a (subst At is k) → P b k
  from_moved a b is = path_j (λ (y : World) (p : b ≡ y). (k : At b) → P y (subst At p k) → P b k) (λ k. subst (P b) (subst_refl At k)) is

left_on : (cs ds : List Call) (a b c : World) (rs ss : List Pairs) (h : RunsOnAnyDisk a cs rs b) (k : RunsOnAnyDisk b ds ss c)
    → LeftCollections a cs rs b h → LeftCollections b ds ss c k → LeftCollections a (cs ++ ds) (rs ++ ss) c (runs_anyhow cs ds a b c rs ss h k)
unfolding runs_anyhow
left_on [] ds a b c [] ss h k first later = to_moved ds c ss (λ w. LeftCollections w ds ss c) a b h k later
left_on [] ds a b c (r ∷ rs) ss h k first later = absurd h
left_on (x ∷ cs) ds a b c [] ss h k first later = absurd h
left_on (x ∷ cs) ds a b c (r ∷ rs) ss h k first later = (first.0, left_on cs ds h.0 b c rs ss h.2 k first.1 later)

none_on : (cs ds : List Call) (a b c : World) (rs ss : List Pairs) (h : RunsOnAnyDisk a cs rs b) (k : RunsOnAnyDisk b ds ss c)
    → WroteNoneOnAnyDisk a (cs ++ ds) (rs ++ ss) c (runs_anyhow cs ds a b c rs ss h k) → WroteNoneOnAnyDisk a cs rs b h × WroteNoneOnAnyDisk b ds ss c k
unfolding runs_anyhow
none_on [] ds a b c [] ss h k none = (tt, from_moved ds c ss (λ w. WroteNoneOnAnyDisk w ds ss c) a b h k none)
none_on [] ds a b c (r ∷ rs) ss h k none = absurd h
none_on (x ∷ cs) ds a b c [] ss h k none = absurd h
none_on (x ∷ cs) ds a b c (r ∷ rs) ss h k none =
    let later = none_on cs ds h.0 b c rs ss h.2 k none.1 in
    ((none.0, later.0), later.1)

-- of calls that only read, those of one connection
read_both : (cs ds : List Call) → AllRead (cs ++ ds) → AllRead cs × AllRead ds
read_both [] ds only = (tt, only)
read_both (x ∷ cs) ds only = let later = read_both cs ds only.1 in ((only.0, later.0), later.1)

pub read_at : (ls : List Connection) (i : ℕ) (d : Connection) → i < length ls → AllRead (calls ls)
    → AllRead (call_at (get_or ls i d) (front_of (get_or ls i d)))
read_at [] i d within only = absurd (omega (arith, within))
read_at (l ∷ ls) zero d within only = (read_both (call_at l (front_of l)) (calls ls) only).0
read_at (l ∷ ls) (suc i) d within only = read_at ls i d (omega (arith, within)) (read_both (call_at l (front_of l)) (calls ls) only).1

both : (p q : Bool) → (p && q) ≡ true → (p ≡ true) × (q ≡ true)
both true q e = (refl, e)
both false q e = absurd cc

pub serves_on : (word : Type 0) (beside : World → Refusal → Type 0) (first second same : Type 0) → (first → second → same)
    → (earlier clean : Type 0) → (clean → earlier)
    → (cs ds : List Call) (a b c : World) (p q : Bool) (f g h : List (ℕ × List ℕ)) → Serves word beside first earlier cs a b p f g
    → Serves word beside second clean ds b c q g h → Serves word beside same clean (cs ++ ds) a c (p && q) f h
serves_on word beside first second same join earlier clean before cs ds a b c p q f g h s t = record {
  replies = s.replies ++ t.replies;
  one_each = omega (arith, length-append s.replies t.replies, length-append cs ds, s.one_each, t.one_each);
  runs = λ k. runs_on beside cs ds a b c s.replies t.replies (s.runs k) (t.runs k);
  wrote = λ k none.
      let each = wrote_on beside cs ds a b c s.replies t.replies (s.runs k) (t.runs k) none in
      join (s.wrote k each.0) (t.wrote k each.1);
  frames = λ e.
      let e2 = both p q e in
      t.frames e2.1 ∙ ap (λ (fs : List (ℕ × List ℕ)). fs ++ frames_of ds t.replies) (s.frames e2.0)
      ∙ append_assoc f (frames_of cs s.replies) (frames_of ds t.replies)
      ∙ ap (λ (fs : List (ℕ × List ℕ)). f ++ fs) (sym (frames_on cs ds s.replies t.replies s.one_each));
  anyhow = runs_anyhow cs ds a b c s.replies t.replies s.anyhow t.anyhow;
  wrote_none = λ k none.
      let each = none_on cs ds a b c s.replies t.replies s.anyhow t.anyhow none in
      join (s.wrote_none k each.0) (t.wrote_none k each.1);
  left = λ r. left_on cs ds a b c s.replies t.replies s.anyhow t.anyhow (s.left (before r)) (t.left r);
  left_all = λ k r. left_all_on beside cs ds a b c s.replies t.replies (s.runs k) (t.runs k) (s.left_all k (before r)) (t.left_all k r);
}

-- the refusals of calls, one each
pub refused_each : (r : Refusal) (cs : List Call) → length (refused_calls r cs) ≡ length cs
refused_each r [] = refl
refused_each r (c ∷ cs) = ap suc (refused_each r cs)

calls_append : (ks ls : List Connection) → calls (ks ++ ls) ≡ calls ks ++ calls ls
calls_append [] ls = refl
calls_append (k ∷ ks) ls =
    ap (λ (cs : List Call). call_at k (front_of k) ++ cs) (calls_append ks ls) ∙ sym (append_assoc (call_at k (front_of k)) (calls ks) (calls ls))

pub calls_more : (ls : List Connection) (i : ℕ) (d : Connection) → i < length ls
    → calls (take (i + 1) ls) ≡ calls (take i ls) ++ call_at (get_or ls i d) (front_of (get_or ls i d))
calls_more ls i d within =
    ap calls (take_more ls i d within) ∙ calls_append (take i ls) (get_or ls i d ∷ [])
    ∙ ap (λ (cs : List Call). calls (take i ls) ++ cs) (append-nil (call_at (get_or ls i d) (front_of (get_or ls i d))))

-- ---- where there are no calls

none_before : (cs ds : List Call) → cs ++ ds ≡ [] → cs ≡ []
none_before [] ds e = refl
none_before (c ∷ cs) ds e = absurd cc

pub none_next : (cs ds : List Call) → cs ++ ds ≡ [] → ds ≡ []
none_next [] ds e = e
none_next (c ∷ cs) ds e = absurd cc

-- the first connections have none
none_taken : (ls : List Connection) (i : ℕ) → calls ls ≡ [] → calls (take i ls) ≡ []
none_taken ls i none =
    none_before (calls (take i ls)) (calls (drop i ls)) (sym (calls_append (take i ls) (drop i ls)) ∙ ap calls (take-append-drop i ls) ∙ none)

pub none_more : (ls : List Connection) (i : ℕ) {cs : List Call} → calls ls ≡ [] → cs ≡ calls (take i ls) → cs ≡ []
none_more ls i none is = is ∙ none_taken ls i none

abbrev taken : Connection → Connection
taken l = taken_at l (front_of l)

-- one link more
pub record Stepped (now first : List Connection) (i : ℕ) (x : Connection) : Type 0 where
  pub done : take (suc i) now ≡ connections_taken (take (suc i) first)
  pub left : drop (suc i) now ≡ drop (suc i) first
  pub same : x ≡ get_or first i x
  pub within : i < length first

head_is : (x y : Connection) (xs ys : List Connection) → x ∷ xs ≡ y ∷ ys → x ≡ y
head_is x y xs ys e = cc

tail_is : (x y : Connection) (xs ys : List Connection) → x ∷ xs ≡ y ∷ ys → xs ≡ ys
tail_is x y xs ys e = cc

pub links_step : (now first : List Connection) (i : ℕ) (x new : Connection) → i < length now → take i now ≡ connections_taken (take i first)
    → drop i now ≡ drop i first → x ≡ get_or now i x → new ≡ taken_at x (front_of x) → Stepped (set now i new) first i x
links_step [] first i x new within t d e n = absurd (omega arith)
links_step (m ∷ ms) [] zero x new within t d e n = absurd cc
links_step (m ∷ ms) [] (suc i) x new within t d e n = absurd cc
links_step (m ∷ ms) (f ∷ fs) zero x new within t d e n = record {
  done = λ k. (n ∙ ap taken (e ∙ head_is m f ms fs d)) k ∷ [];
  left = tail_is m f ms fs d;
  same = e ∙ head_is m f ms fs d;
  within = omega arith;
}
links_step (m ∷ ms) (f ∷ fs) (suc i) x new within t d e n =
    let s = links_step ms fs i x new (omega arith) (tail_is m (taken f) (take i ms) (connections_taken (take i fs)) t) d e n in
    record {
      done = λ k. head_is m (taken f) (take i ms) (connections_taken (take i fs)) t k ∷ s.done k;
      left = s.left;
      same = s.same;
      within = omega (arith, s.within);
    }

-- ---- connections that a fault closed

forget_all_append : (w : World) (fs gs : List (ℕ × FrameFault)) → forget_all w (fs ++ gs) ≡ forget_all (forget_all w fs) gs
forget_all_append w [] gs = refl
forget_all_append w (f ∷ fs) gs = forget_all_append (forget w f.0) fs gs

pub forget_all_more : (w : World) (fs : List (ℕ × FrameFault)) (i : ℕ) (d : ℕ × FrameFault) → i < length fs
    → forget_all w (take (i + 1) fs) ≡ forget (forget_all w (take i fs)) (get_or fs i d).0
forget_all_more w fs i d within = ap (forget_all w) (take_more fs i d within) ∙ forget_all_append w (take i fs) (get_or fs i d ∷ [])

-- ---- what a turn makes ready

refused_append : (r : Refusal) (cs ds : List Call)
    → frames_of (cs ++ ds) (refused_calls r (cs ++ ds)) ≡ frames_of cs (refused_calls r cs) ++ frames_of ds (refused_calls r ds)
refused_append r [] ds = refl
refused_append r (c ∷ cs) ds =
    ap (λ (fs : List (ℕ × List ℕ)). frame_for c (refusal_reply r) ++ fs) (refused_append r cs ds)
    ∙ sym (append_assoc (frame_for c (refusal_reply r)) (frames_of cs (refused_calls r cs)) (frames_of ds (refused_calls r ds)))

pub refused_more : (r : Refusal) (ls : List Connection) (i : ℕ) (d : Connection) → i < length ls
    → refused_frames r (take (i + 1) ls) ≡ refused_frames r (take i ls) ++ refused_at r (get_or ls i d) (front_of (get_or ls i d))
refused_more r ls i d within =
    ap (λ (cs : List Call). frames_of cs (refused_calls r cs)) (calls_more ls i d within)
    ∙ refused_append r (calls (take i ls)) (call_at (get_or ls i d) (front_of (get_or ls i d)))

faults_append : (ks ls : List Connection) → faults (ks ++ ls) ≡ faults ks ++ faults ls
faults_append [] ls = refl
faults_append (k ∷ ks) ls =
    ap (λ (fs : List (ℕ × FrameFault)). fault_at k (front_of k) ++ fs) (faults_append ks ls)
    ∙ sym (append_assoc (fault_at k (front_of k)) (faults ks) (faults ls))

pub faults_more : (ls : List Connection) (i : ℕ) (d : Connection) → i < length ls
    → faults (take (i + 1) ls) ≡ faults (take i ls) ++ fault_at (get_or ls i d) (front_of (get_or ls i d))
faults_more ls i d within =
    ap faults (take_more ls i d within) ∙ faults_append (take i ls) (get_or ls i d ∷ [])
    ∙ ap (λ (fs : List (ℕ × FrameFault)). faults (take i ls) ++ fs) (append-nil (fault_at (get_or ls i d) (front_of (get_or ls i d))))

faults_in-append : (ks ls : List Connection) → faults_in (ks ++ ls) ≡ faults_in ks ++ faults_in ls
faults_in-append [] ls = refl
faults_in-append (k ∷ ks) ls = ap (λ (fs : List (Option FrameFault)). fault_in (front_of k) ∷ fs) (faults_in-append ks ls)

pub faults_in-more : (ls : List Connection) (i : ℕ) (d : Connection) → i < length ls
    → faults_in (take (i + 1) ls) ≡ faults_in (take i ls) ++ fault_in (front_of (get_or ls i d)) ∷ []
faults_in-more ls i d within = ap faults_in (take_more ls i d within) ∙ faults_in-append (take i ls) (get_or ls i d ∷ [])

-- ---- links that a fault closes

-- one link more
pub record Closed (now first : List Connection) (fs : List (Option FrameFault)) (i : ℕ) : Type 0 where
  pub done : take (suc i) now ≡ closed_connections (take (suc i) first) fs
  pub left : drop (suc i) now ≡ drop (suc i) first

pub close_step : (now first : List Connection) (fs : List (Option FrameFault)) (i : ℕ) (x new : Connection) → i < length now
    → take i now ≡ closed_connections (take i first) fs → drop i now ≡ drop i first → x ≡ get_or now i x
    → new ≡ closed_by x (fault_beside fs i) → Closed (set now i new) first fs i
close_step [] first fs i x new within t d e n = absurd (omega arith)
close_step (m ∷ ms) [] fs zero x new within t d e n = absurd cc
close_step (m ∷ ms) [] fs (suc i) x new within t d e n = absurd cc
close_step (m ∷ ms) (f ∷ ls) [] zero x new within t d e n = record {
  done = λ k. (n ∙ e ∙ head_is m f ms ls d) k ∷ [];
  left = tail_is m f ms ls d;
}
close_step (m ∷ ms) (f ∷ ls) (g ∷ gs) zero x new within t d e n = record {
  done = λ k. (n ∙ ap (λ (l : Connection). closed_by l g) (e ∙ head_is m f ms ls d)) k ∷ [];
  left = tail_is m f ms ls d;
}
close_step (m ∷ ms) (f ∷ ls) [] (suc i) x new within t d e n =
    let s = close_step ms ls [] i x new (omega arith) (tail_is m f (take i ms) (closed_connections (take i ls) []) t) d e n in
    record { done = λ k. head_is m f (take i ms) (closed_connections (take i ls) []) t k ∷ s.done k; left = s.left }
close_step (m ∷ ms) (f ∷ ls) (g ∷ gs) (suc i) x new within t d e n =
    let s = close_step ms ls gs i x new (omega arith) (tail_is m (closed_by f g) (take i ms) (closed_connections (take i ls) gs) t) d e n in
    record { done = λ k. head_is m (closed_by f g) (take i ms) (closed_connections (take i ls) gs) t k ∷ s.done k; left = s.left }

-- what a fault closes after the messages were taken
closed_after : (l : Connection) (front : Result (Option (Frame × List ℕ)) FrameFault) → closed_by (taken_at l front) (fault_in front) ≡ connection_at l front
closed_after l (Ok x) = refl
closed_after l (Err fault) = refl

pub all_closed : (ls : List Connection) → closed_connections (connections_taken ls) (faults_in ls) ≡ connections_after ls
all_closed [] = refl
all_closed (l ∷ ls) = λ k. closed_after l (front_of l) k ∷ all_closed ls k
