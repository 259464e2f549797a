-- Why a stream has one reading, wherever it was cut.
use Rattle.std.proofs.Common.{◌≡◌, ℕ, ◌≤◌, List, [], ◌∷◌, ◌++◌, length, take, drop, refl, sym, ◌∙◌, ap, subst, arith, length-append}
use Rattle.std.specs.Prelude.{Bool, true, false, nat_lt, Result, Ok, Err, Option, Some, None, if◌then◌else◌}
use Rattle.std.proofs.lemmas.List.{take-append-le, drop-append-le}
use Rattle.op_msg.specs.Frame.{Frame, front, frame_of, number_at, is_no_length}
use Rattle.outcome.specs.Outcome.{◌>>=◌, unless}
use Rattle.std.specs.Int.{w32, from_le_bytes}
use Rattle.op_msg.specs.Stream.{Begins, Splits, ending}
use Rattle.op_msg.specs.declared.fault.FrameFault.{FrameFault}
use Rattle.op_msg.specs.declared.fault.FrameFault.TheVariants as faults

abbrev pub Front : Type 0
Front = Result (Option (Frame × List ℕ)) FrameFault

abbrev nothing : Front
nothing = Ok None

abbrev pub found : Frame → List ℕ → Front
found frame rest = Ok (Some (frame, rest))

-- what is at the front, by the tests
abbrev pub front_by : Bool → Bool → Bool → Result Frame FrameFault → List ℕ → Front
front_by short wrong part frame rest =
    if short then nothing else unless wrong faults.Length (if part then nothing else (frame >>= λ f. found f rest))

abbrev pub with_more : Front → List ℕ → Front
with_more (Ok None) more = Ok None
with_more (Ok (Some x)) more = Ok (Some (x.0, x.1 ++ more))
with_more (Err e) more = Err e

-- not nothing
abbrev pub IsThere : Front → Type 0
IsThere (Ok None) = ⊥
IsThere (Ok (Some x)) = Unit {0}
IsThere (Err e) = Unit {0}

there_by : (more : List ℕ) (s w p s' w' p' : Bool) (f f' : Result Frame FrameFault) (r r' : List ℕ) → IsThere (front_by s w p f r)
    → (s ≡ false → s' ≡ false) → (s ≡ false → w' ≡ w) → (s ≡ false → p ≡ false → (p' ≡ false) × (f' ≡ f) × (r' ≡ r ++ more))
    → front_by s' w' p' f' r' ≡ with_more (front_by s w p f r) more
there_by more true w p s' w' p' f f' r r' is a b c = absurd is
there_by more false true p s' w' p' f f' r r' is a b c = rw (a refl, b refl) refl
there_by more false false true s' w' p' f f' r r' is a b c = absurd is
there_by more false false false s' w' p' (Ok x) f' r r' is a b c = let e = c refl refl in rw (a refl, b refl, e.0, e.1, e.2) refl
there_by more false false false s' w' p' (Err x) f' r r' is a b c = let e = c refl refl in rw (a refl, b refl, e.0, e.1) refl

not_below : (k n : ℕ) → nat_lt k n ≡ false → n ≤ k
not_below k n e = grind arith

still_not_below : (k n : ℕ) → n ≤ k → nat_lt k n ≡ false
still_not_below k n e = grind arith

same_number : (bytes more : List ℕ) → 4 ≤ length bytes → number_at 0 (bytes ++ more) ≡ number_at 0 bytes
same_number bytes more long = ap (λ (xs : List ℕ). from_le_bytes w32 xs) (take-append-le 4 bytes more long)

pub there : (bytes more : List ℕ) → IsThere (front bytes) → front (bytes ++ more) ≡ with_more (front bytes) more
unfolding front
there bytes more is =
    let n = number_at 0 bytes in
    let all = length-append bytes more in
    let same = λ (e : nat_lt (length bytes) 4 ≡ false). same_number bytes more (not_below (length bytes) 4 e) in
    there_by more (nat_lt (length bytes) 4) (is_no_length n) (nat_lt (length bytes) n) (nat_lt (length (bytes ++ more)) 4)
    (is_no_length (number_at 0 (bytes ++ more))) (nat_lt (length (bytes ++ more)) (number_at 0 (bytes ++ more)))
    (frame_of (take n bytes)) (frame_of (take (number_at 0 (bytes ++ more)) (bytes ++ more))) (drop n bytes)
    (drop (number_at 0 (bytes ++ more)) (bytes ++ more)) is
    (λ e. still_not_below (length (bytes ++ more)) 4 (omega (arith, not_below (length bytes) 4 e, all)))
    (λ e. ap is_no_length (same e))
    (λ e p.
    let long = not_below (length bytes) n p in (
      ap (λ (m : ℕ). nat_lt (length (bytes ++ more)) m) (same e) ∙ still_not_below (length (bytes ++ more)) n (omega (arith, long, all)),
      ap (λ (m : ℕ). frame_of (take m (bytes ++ more))) (same e) ∙ ap frame_of (take-append-le n bytes more long),
      ap (λ (m : ℕ). drop m (bytes ++ more)) (same e) ∙ drop-append-le n bytes more long,
    ))

pub stays : (bytes more : List ℕ)
    → ((frame : Frame) (rest : List ℕ) → front bytes ≡ Ok (Some (frame, rest)) → front (bytes ++ more) ≡ Ok (Some (frame, rest ++ more)))
    × ((fault : FrameFault) → front bytes ≡ Err fault → front (bytes ++ more) ≡ Err fault)
stays bytes more = (
  λ frame rest e. there bytes more (subst IsThere (sym e) tt) ∙ ap (λ (f : Front). with_more f more) e,
  λ fault e. there bytes more (subst IsThere (sym e) tt) ∙ ap (λ (f : Front). with_more f more) e,
)

pub not_found : (frame : Frame) (rest : List ℕ) (fault : Option FrameFault) → ending fault ≡ found frame rest → ⊥
not_found frame rest None e = absurd cc
not_found frame rest (Some fault) e = absurd cc

one_ending : (fault other : Option FrameFault) → ending fault ≡ ending other → fault ≡ other
one_ending None None e = refl
one_ending None (Some other) e = absurd cc
one_ending (Some fault) None e = absurd cc
one_ending (Some fault) (Some other) e = cc

abbrev both : Frame → List ℕ → Frame × List ℕ
both f r = (f, r)

pub one_found : (f g : Frame) (r s : List ℕ) → found f r ≡ found g s → (f ≡ g) × (r ≡ s)
one_found f g r s e =
    let p : both f r ≡ both g s = cc in
    (ap (λ (x : Frame × List ℕ). x.0) p, ap (λ (x : Frame × List ℕ). x.1) p)

pub one_reading : (bytes : List ℕ) (frames others : List Frame) (fault other : Option FrameFault) (rest left : List ℕ) → Splits bytes frames fault rest
    → Splits bytes others other left → (frames ≡ others) × (fault ≡ other) × (rest ≡ left)
one_reading bytes [] [] fault other rest left s t =
    (refl, one_ending fault other (sym s.ends ∙ ap front (s.begins ∙ sym t.begins) ∙ t.ends), s.begins ∙ sym t.begins)
one_reading bytes [] (g ∷ gs) fault other rest left s t = absurd (not_found g t.begins.0 fault (sym s.ends ∙ ap front s.begins ∙ t.begins.1))
one_reading bytes (f ∷ fs) [] fault other rest left s t = absurd (not_found f s.begins.0 other (sym t.ends ∙ ap front t.begins ∙ s.begins.1))
one_reading bytes (f ∷ fs) (g ∷ gs) fault other rest left s t =
    let same = one_found f g s.begins.0 t.begins.0 (sym s.begins.1 ∙ t.begins.1) in
    let later = one_reading s.begins.0 fs gs fault other rest left (record { begins = s.begins.2; ends = s.ends })
    (record { begins = subst (λ (xs : List ℕ). Begins xs gs left) (sym same.1) t.begins.2; ends = t.ends }) in
    ((λ i. same.0 i ∷ later.0 i), later.1, later.2)

pub begins_on : (a b : List ℕ) (frames later : List Frame) (rest left : List ℕ) → Begins a frames rest → Begins (rest ++ b) later left
    → Begins (a ++ b) (frames ++ later) left
begins_on a b [] later rest left h k = subst (λ (xs : List ℕ). Begins (xs ++ b) later left) h k
begins_on a b (f ∷ fs) later rest left h k = (h.0 ++ b, (stays a b).0 f h.0 h.1, begins_on h.0 b fs later rest left h.2 k)

pub cut_anywhere : (a b : List ℕ) (frames later : List Frame) (fault : Option FrameFault) (rest left : List ℕ) → Begins a frames rest
    → Splits (rest ++ b) later fault left → Splits (a ++ b) (frames ++ later) fault left
cut_anywhere a b frames later fault rest left h s = record { begins = begins_on a b frames later rest left h s.begins; ends = s.ends }
