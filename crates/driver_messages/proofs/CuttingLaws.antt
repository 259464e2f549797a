-- Why it makes no difference where a socket's bytes are cut.
use Rattle.std.proofs.Common.{◌≡◌, ℕ, ◌+◌, ◌≤◌, List, [], ◌∷◌, ◌++◌, length, take, drop, refl, sym, ◌∙◌, ap, subst, arith, append-nil, append_assoc}
use Rattle.std.specs.Prelude.{Bool, true, false, nat_lt, Result, Ok, Err, Option, Some, None, if◌then◌else◌}
use Rattle.std.specs.Int.{w32, from_le_bytes}
use Rattle.std.proofs.lemmas.List.{length-append, length-drop, take-append-le, drop-append-le}
use Rattle.outcome.specs.Outcome.{◌>>=◌, unless}
use Rattle.op_msg.specs.Frame.{number_at, is_no_length}
use Rattle.driver_messages.specs.Cutting.{Begins, ending, Arrival, AreTaken, bytes_of, messages_of, AreTakenInOrder, CutsMakeNoDifference}
use Rattle.driver_messages.specs.Incoming.{is_no_opcode, whole_at, read_whole, cut, next_message}
use Rattle.driver_messages.specs.declared.message.Message.{Message}
use Rattle.driver_messages.specs.declared.stream_fault.StreamFault.{StreamFault}
use Rattle.driver_messages.specs.declared.stream_fault.StreamFault.TheVariants as faults

-- ---- how many bytes the message at the front has

abbrev Whole : Type 0
Whole = Result (Option ℕ) StreamFault

abbrev none_yet : Whole
none_yet = Ok None

-- what is there, by the tests
abbrev whole_by : Bool → Bool → Bool → Bool → ℕ → Whole
whole_by short wrong other part len =
    if short then none_yet else unless wrong faults.Length (unless other faults.Opcode (if part then none_yet else Ok (Some len)))

-- not nothing
abbrev IsWhole : Whole → Type 0
IsWhole (Ok None) = ⊥
IsWhole (Ok (Some len)) = Unit {0}
IsWhole (Err fault) = Unit {0}

whole_again : (s w o p s' w' o' p' : Bool) (n n' : ℕ) → IsWhole (whole_by s w o p n) → (s ≡ false → s' ≡ false) → (s ≡ false → w' ≡ w)
    → (s ≡ false → o' ≡ o) → (s ≡ false → p ≡ false → (p' ≡ false) × (n' ≡ n)) → whole_by s' w' o' p' n' ≡ whole_by s w o p n
whole_again true w o p s' w' o' p' n n' is a b c d = absurd is
whole_again false true o p s' w' o' p' n n' is a b c d = rw (a refl, b refl) refl
whole_again false false true p s' w' o' p' n n' is a b c d = rw (a refl, b refl, c refl) refl
whole_again false false false true s' w' o' p' n n' is a b c d = absurd is
whole_again false false false false s' w' o' p' n n' is a b c d = let e = d refl refl in rw (a refl, b refl, c refl, e.0, e.1) refl

whole_fits : (s w o p : Bool) (n len : ℕ) → whole_by s w o p n ≡ Ok (Some len) → (p ≡ false) × (n ≡ len)
whole_fits true w o p n len e = absurd cc
whole_fits false true o p n len e = absurd cc
whole_fits false false true p n len e = absurd cc
whole_fits false false false true n len e = absurd cc
whole_fits false false false false n len e = (refl, cc)

not_below : (k n : ℕ) → nat_lt k n ≡ false → n ≤ k
not_below k n e = grind arith

still_not_below : (k n : ℕ) → n ≤ k → nat_lt k n ≡ false
still_not_below k n e = grind arith

same_number : (bytes more : List ℕ) (place : ℕ) → place + 4 ≤ length bytes → number_at place (bytes ++ more) ≡ number_at place bytes
same_number bytes more place long =
    let behind : drop place (bytes ++ more) ≡ drop place bytes ++ more = drop-append-le place bytes more (omega (arith, long)) in
    ap (λ (xs : List ℕ). from_le_bytes w32 (take 4 xs)) behind
    ∙ ap (λ (xs : List ℕ). from_le_bytes w32 xs) (take-append-le 4 (drop place bytes) more (omega (arith, long, length-drop place bytes)))

stays_whole : (bytes more : List ℕ) → IsWhole (whole_at bytes) → whole_at (bytes ++ more) ≡ whole_at bytes
unfolding whole_at
stays_whole bytes more is =
    let n = number_at 0 bytes in
    let m = number_at 0 (bytes ++ more) in
    let all = length-append bytes more in
    let same = λ (place : ℕ) (room : place ≤ 12) (e : nat_lt (length bytes) 16 ≡ false).
    same_number bytes more place (omega (arith, room, not_below (length bytes) 16 e)) in
    whole_again (nat_lt (length bytes) 16) (is_no_length n) (is_no_opcode (number_at 12 bytes)) (nat_lt (length bytes) n)
    (nat_lt (length (bytes ++ more)) 16) (is_no_length m) (is_no_opcode (number_at 12 (bytes ++ more))) (nat_lt (length (bytes ++ more)) m) n m is
    (λ e. still_not_below (length (bytes ++ more)) 16 (omega (arith, not_below (length bytes) 16 e, all)))
    (λ e. ap is_no_length (same 0 (omega arith) e))
    (λ e. ap is_no_opcode (same 12 (omega arith) e))
    (λ e p. (
      ap (λ (k : ℕ). nat_lt (length (bytes ++ more)) k) (same 0 (omega arith) e)
          ∙ still_not_below (length (bytes ++ more)) n (omega (arith, not_below (length bytes) n p, all)),
      same 0 (omega arith) e,
    ))

all_there : (bytes : List ℕ) (len : ℕ) → whole_at bytes ≡ Ok (Some len) → len ≤ length bytes
unfolding whole_at
all_there bytes len e =
    let n = number_at 0 bytes in
    let fits = whole_fits (nat_lt (length bytes) 16) (is_no_length n) (is_no_opcode (number_at 12 bytes)) (nat_lt (length bytes) n) n len e in
    omega (arith, not_below (length bytes) n fits.0, fits.1)

-- ---- what stands at the front stays there, whatever comes

abbrev Next : Type 0
Next = Result (Option (Message × List ℕ)) StreamFault

abbrev taken : Message → List ℕ → Next
taken message rest = Ok (Some (message, rest))

abbrev with_more : Next → List ℕ → Next
with_more (Ok None) more = Ok None
with_more (Ok (Some x)) more = taken x.0 (x.1 ++ more)
with_more (Err fault) more = Err fault

-- not nothing
abbrev IsThere : Next → Type 0
IsThere (Ok None) = ⊥
IsThere (Ok (Some x)) = Unit {0}
IsThere (Err fault) = Unit {0}

abbrev cut_to : List ℕ → List ℕ → Next
cut_to whole rest = read_whole whole >>= λ message. taken message rest

read_on : (read : Result Message StreamFault) (rest more : List ℕ)
    → (read >>= λ message. taken message (rest ++ more)) ≡ with_more (read >>= λ message. taken message rest) more
read_on (Ok message) rest more = refl
read_on (Err fault) rest more = refl

there : (bytes more : List ℕ) → IsThere (next_message bytes) → next_message (bytes ++ more) ≡ with_more (next_message bytes) more
there bytes more is = at (whole_at bytes) refl is
  where
    at : (w : Whole) → whole_at bytes ≡ w → IsThere (w >>= cut bytes) → next_message (bytes ++ more) ≡ with_more (w >>= cut bytes) more
    at (Ok None) e is = absurd is
    at (Err fault) e is = ap (λ (w : Whole). w >>= cut (bytes ++ more)) (stays_whole bytes more (subst IsWhole (sym e) tt) ∙ e)
    at (Ok (Some len)) e is =
        let fits : len ≤ length bytes = all_there bytes len e in
        let front : take len (bytes ++ more) ≡ take len bytes = take-append-le len bytes more fits in
        let behind : drop len (bytes ++ more) ≡ drop len bytes ++ more = drop-append-le len bytes more fits in
        ap (λ (w : Whole). w >>= cut (bytes ++ more)) (stays_whole bytes more (subst IsWhole (sym e) tt) ∙ e)
        ∙ (λ i. cut_to (front i) (behind i))
        ∙ read_on (read_whole (take len bytes)) (drop len bytes) more

stays : (bytes more : List ℕ) (message : Message) (rest : List ℕ) → next_message bytes ≡ taken message rest
    → next_message (bytes ++ more) ≡ taken message (rest ++ more)
stays bytes more message rest e = there bytes more (subst IsThere (sym e) tt) ∙ ap (λ (f : Next). with_more f more) e

-- ---- what is taken stands at the front of all that came

begins_on : (a b : List ℕ) (messages later : List Message) (rest left : List ℕ) → Begins a messages rest → Begins (rest ++ b) later left
    → Begins (a ++ b) (messages ++ later) left
begins_on a b [] later rest left h k = subst (λ (xs : List ℕ). Begins (xs ++ b) later left) h k
begins_on a b (m ∷ ms) later rest left h k = (h.0 ++ b, stays a b m h.0 h.1, begins_on h.0 b ms later rest left h.2 k)

in_front : (waiting : List ℕ) (arrivals : List Arrival) (left : List ℕ) → AreTaken waiting arrivals left
    → Begins (waiting ++ bytes_of arrivals) (messages_of arrivals) left
in_front waiting [] left h = h ∙ sym (append-nil waiting)
in_front waiting (a ∷ later) left h =
    subst (λ (xs : List ℕ). Begins xs (a.messages ++ messages_of later) left) (append_assoc waiting a.chunk (bytes_of later))
    (begins_on (waiting ++ a.chunk) (bytes_of later) a.messages (messages_of later) h.0 left h.1 (in_front h.0 later left h.2))

pub taken_in_order : AreTakenInOrder
taken_in_order arrivals left h = in_front [] arrivals left h

-- ---- and that is one reading

not_taken : (message : Message) (rest : List ℕ) (fault : Option StreamFault) → ending fault ≡ taken message rest → ⊥
not_taken message rest None e = absurd cc
not_taken message rest (Some fault) e = absurd cc

one_ending : (fault other : Option StreamFault) → ending fault ≡ ending other → fault ≡ other
one_ending None None e = refl
one_ending None (Some other) e = absurd cc
one_ending (Some fault) None e = absurd cc
one_ending (Some fault) (Some other) e = cc

abbrev both : Message → List ℕ → Message × List ℕ
both message rest = (message, rest)

one_taken : (m n : Message) (r s : List ℕ) → taken m r ≡ taken n s → (m ≡ n) × (r ≡ s)
one_taken m n r s e =
    let p : both m r ≡ both n s = cc in
    (ap (λ (x : Message × List ℕ). x.0) p, ap (λ (x : Message × List ℕ). x.1) p)

one_reading : (bytes : List ℕ) (messages others : List Message) (fault other : Option StreamFault) (rest left : List ℕ) → Begins bytes messages rest
    → next_message rest ≡ ending fault → Begins bytes others left → next_message left ≡ ending other
    → (messages ≡ others) × (fault ≡ other) × (rest ≡ left)
one_reading bytes [] [] fault other rest left b e c f =
    (refl, one_ending fault other (sym e ∙ ap next_message (b ∙ sym c) ∙ f), b ∙ sym c)
one_reading bytes [] (n ∷ ns) fault other rest left b e c f = absurd (not_taken n c.0 fault (sym e ∙ ap next_message b ∙ c.1))
one_reading bytes (m ∷ ms) [] fault other rest left b e c f = absurd (not_taken m b.0 other (sym f ∙ ap next_message c ∙ b.1))
one_reading bytes (m ∷ ms) (n ∷ ns) fault other rest left b e c f =
    let same = one_taken m n b.0 c.0 (sym b.1 ∙ c.1) in
    let later = one_reading b.0 ms ns fault other rest left b.2 e (subst (λ (xs : List ℕ). Begins xs ns left) (sym same.1) c.2) f in
    ((λ i. same.0 i ∷ later.0 i), later.1, later.2)

pub cuts_make_no_difference : CutsMakeNoDifference
cuts_make_no_difference arrivals others left rest fault other same t e u f =
    one_reading (bytes_of arrivals) (messages_of arrivals) (messages_of others) fault other left rest (taken_in_order arrivals left t) e
    (subst (λ (xs : List ℕ). Begins xs (messages_of others) rest) (sym same) (taken_in_order others rest u)) f
