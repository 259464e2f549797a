-- How the refusals for want of memory become those for want of room.
use Rattle.std.proofs.Common.{◌≡◌, ℕ, zero, suc, ◌+◌, ◌<◌, ◌≤◌, List, [], ◌∷◌, ◌++◌, length, take, drop, get_or, set, refl, sym, ◌∙◌, ap, subst, arith}
use Rattle.std.proofs.lemmas.List.{take-append-le, take_all}
use Rattle.std.proofs.lemmas.List.Elements.{All-append, All-nil}
use Rattle.std.specs.Prelude.{Bool, true, false, All, Vec}
use Rattle.std.specs.Str.{is_utf8, chars}
use Rattle.std.specs.Fmt.{digits}
use lib.Utf8.{encode}
use Rattle.bson.specs.Spelling.{tree_bytes, pairs_bytes, items_bytes, frame_of}
use Rattle.op_msg.specs.Request.{reply_bytes, respelled}
use Rattle.op_msg.proofs.Respelling.{respelled_frame}
use Rattle.database_model.specs.Refusals.{refusal_reply}
use Rattle.path.specs.declared.refusal.Refusal.TheVariants.{OutOfMemory, Full}
use Rattle.server.specs.Turn.{Call, calls, frame_unless, frame_for, frames_of, refused_calls, refused_frames}
use Rattle.op_msg.specs.ReplyNumbers.{next_number}
use Rattle.server.specs.Taking.{full_body, respelled_frames, HaveRoom}
use Rattle.server.specs.View.{frames_in}
use Rattle.server.specs.declared.connection.Connection.{Connection}

-- ---- one refusal

abbrev HasRoom : ℕ × List ℕ → Type 0
HasRoom f = length full_body + 21 ≤ length f.1

fits : length full_body + 21 ≤ length (frame_of (pairs_bytes (refusal_reply OutOfMemory))) + 21
unfolding is_utf8 chars digits encode tree_bytes pairs_bytes items_bytes
fits = omega arith

one_room : (more : Bool) (id number request : ℕ) → All HasRoom (frame_unless more id number request (refusal_reply OutOfMemory))
unfolding reply_bytes
one_room true id number request = All-nil HasRoom
one_room false id number request = λ k d within. elim_one k d within
  where
    elim_one : (k : ℕ) (d : ℕ × List ℕ) → k < 1 → HasRoom (get_or (frame_unless false id number request (refusal_reply OutOfMemory)) k d)
    elim_one zero d within = omega (arith, fits)
    elim_one (suc k) d within = absurd (omega arith)

rooms : (cs : List Call) → All HasRoom (frames_of cs (refused_calls OutOfMemory cs))
rooms [] = All-nil HasRoom
rooms (c ∷ cs) =
    All-append HasRoom (frame_for c (refusal_reply OutOfMemory)) (frames_of cs (refused_calls OutOfMemory cs))
    (one_room c.frame.more_to_come c.connection.id (next_number c.connection.last_reply) c.frame.number) (rooms cs)

pub refused_room : (connections : List Connection) → HaveRoom (refused_frames OutOfMemory connections)
refused_room connections = rooms (calls connections)

respelled-append : (fs gs : List (ℕ × List ℕ)) → respelled_frames (fs ++ gs) ≡ respelled_frames fs ++ respelled_frames gs
respelled-append [] gs = refl
respelled-append (f ∷ fs) gs = ap (λ (hs : List (ℕ × List ℕ)). (f.0, respelled f.1 full_body) ∷ hs) (respelled-append fs gs)

one_respelled : (more : Bool) (id number request : ℕ)
    → respelled_frames (frame_unless more id number request (refusal_reply OutOfMemory)) ≡ frame_unless more id number request (refusal_reply Full)
unfolding reply_bytes
one_respelled true id number request = refl
one_respelled false id number request =
    ap (λ (bytes : List ℕ). (id, bytes) ∷ []) (respelled_frame number request (frame_of (pairs_bytes (refusal_reply OutOfMemory))) full_body)

all_respelled : (cs : List Call) → respelled_frames (frames_of cs (refused_calls OutOfMemory cs)) ≡ frames_of cs (refused_calls Full cs)
all_respelled [] = refl
all_respelled (c ∷ cs) =
    respelled-append (frame_for c (refusal_reply OutOfMemory)) (frames_of cs (refused_calls OutOfMemory cs))
    ∙ (λ i. one_respelled c.frame.more_to_come c.connection.id (next_number c.connection.last_reply) c.frame.number i ++ all_respelled cs i)

pub refused_respelled : (connections : List Connection) → respelled_frames (refused_frames OutOfMemory connections) ≡ refused_frames Full connections
refused_respelled connections = all_respelled (calls connections)

-- ---- the loop over the frames

head_of_frames : (x y : ℕ × List ℕ) (xs ys : List (ℕ × List ℕ)) → x ∷ xs ≡ y ∷ ys → x ≡ y
head_of_frames x y xs ys e = cc

tail_of_frames : (x y : ℕ × List ℕ) (xs ys : List (ℕ × List ℕ)) → x ∷ xs ≡ y ∷ ys → xs ≡ ys
tail_of_frames x y xs ys e = cc

module _ {Z : Type 0} where
  head_is : (x y : ℕ × Vec ℕ Z) (xs ys : List (ℕ × Vec ℕ Z)) → x ∷ xs ≡ y ∷ ys → x ≡ y
  head_is x y xs ys e = cc

  tail_is : (x y : ℕ × Vec ℕ Z) (xs ys : List (ℕ × Vec ℕ Z)) → x ∷ xs ≡ y ∷ ys → xs ≡ ys
  tail_is x y xs ys e = cc

  -- the element stands where it stood, and has room
  pub room_at : (now first : List (ℕ × Vec ℕ Z)) (i : ℕ) (x : ℕ × Vec ℕ Z) → i < length now → i < length first → drop i now ≡ drop i first
      → HaveRoom (frames_in first) → length full_body + 21 ≤ length (get_or now i x).1.items
  room_at [] first i x within also d room = absurd (omega arith)
  room_at (m ∷ ms) [] i x within also d room = absurd (omega arith)
  room_at (m ∷ ms) (f ∷ fs) zero x within also d room =
      subst (λ (y : ℕ × Vec ℕ Z). length full_body + 21 ≤ length y.1.items) (sym (head_is m f ms fs d)) (room 0 (0, []) (omega arith))
  room_at (m ∷ ms) (f ∷ fs) (suc i) x within also d room = room_at ms fs i x (omega arith) (omega arith) d (λ k y inside. room (suc k) y (omega arith))

  -- one frame more
  pub record Respelled (now first : List (ℕ × Vec ℕ Z)) (i : ℕ) : Type 0 where
    pub done : frames_in (take (suc i) now) ≡ respelled_frames (frames_in (take (suc i) first))
    pub left : drop (suc i) now ≡ drop (suc i) first

  pub respell_step : (now first : List (ℕ × Vec ℕ Z)) (i : ℕ) (x new : ℕ × Vec ℕ Z) → i < length now → i < length first
      → frames_in (take i now) ≡ respelled_frames (frames_in (take i first)) → drop i now ≡ drop i first
      → new.0 ≡ (get_or now i x).0 → new.1.items ≡ respelled (get_or now i x).1.items full_body → Respelled (set now i new) first i
  respell_step [] first i x new within also t d c e = absurd (omega arith)
  respell_step (m ∷ ms) [] i x new within also t d c e = absurd (omega arith)
  respell_step (m ∷ ms) (f ∷ fs) zero x new within also t d c e = record {
    done =
        let same = head_is m f ms fs d in
        λ k. (((c ∙ ap (λ (y : ℕ × Vec ℕ Z). y.0) same) k), ((e ∙ ap (λ (y : ℕ × Vec ℕ Z). respelled y.1.items full_body) same) k)) ∷ [];
    left = tail_is m f ms fs d;
  }
  respell_step (m ∷ ms) (f ∷ fs) (suc i) x new within also t d c e =
      let a : ℕ × List ℕ = (m.0, m.1.items) in
      let b : ℕ × List ℕ = (f.0, respelled f.1.items full_body) in
      let s = respell_step ms fs i x new (omega arith) (omega arith)
      (tail_of_frames a b (frames_in (take i ms)) (respelled_frames (frames_in (take i fs))) t) d c e in
      record {
        done = λ k. head_of_frames a b (frames_in (take i ms)) (respelled_frames (frames_in (take i fs))) t k ∷ s.done k;
        left = s.left;
      }

-- what a slice of a whole vector leaves
pub whole : {X : Type 0} (xs rest : List X) (n : ℕ) → length xs ≡ n → take n (xs ++ rest) ≡ xs
whole xs rest n is = take-append-le n xs rest (omega arith) ∙ take_all n xs (omega arith)
