-- What a function that may fail returns, for any type of faults: how planned results go on, and how
-- what was returned fits what was planned. The order of arguments is the same everywhere: the fault
-- that says that memory ran out, the view, what was returned, what was planned.
use Rattle.std.specs.Prelude.{◌≡◌, ◌≢◌, Bool, if◌then◌else◌, Option, Some, None, Result, Ok, Err}

-- goes on with what was planned so far, or stays with its fault
infixl 10 ◌>>=◌
abbrev pub ◌>>=◌ : {A B E : Type 0} → Result A E → (A → Result B E) → Result B E
(Ok x) >>= f = f x
(Err e) >>= f = Err e

-- goes on with what a test lets pass
abbrev pub unless : {X E : Type 0} → Bool → E → Result X E → Result X E
unless test fault planned = if test then Err fault else planned

-- the fault, if there is one, or else this value
abbrev pub fault_or : {X E : Type 0} → Option E → X → Result X E
fault_or None x = Ok x
fault_or (Some fault) x = Err fault

-- the value, if there is one, or else this refusal
abbrev pub or_refused : {X E : Type 0} → Option X → E → Result X E
or_refused (Some x) refusal = Ok x
or_refused None refusal = Err refusal

-- a fault other than the one for want of memory is the planned one
abbrev pub Fails : {Y E : Type 0} → E → E → Result Y E → Type 0
Fails memory e planned = e ≢ memory → planned ≡ Err e

-- What a function returned, seen by view, is what is planned, unless memory ran out, which this
-- fault says.
abbrev pub Gives : {X Y E : Type 0} → E → (X → Y) → Result X E → Result Y E → Type 0
Gives memory view (Ok x) planned = planned ≡ Ok (view x)
Gives memory view (Err e) planned = Fails memory e planned

-- What a function that takes no memory returned, seen by view, is what is planned.
abbrev pub GivesExactly : {X Y E : Type 0} → (X → Y) → Result X E → Result Y E → Type 0
GivesExactly view (Ok x) planned = planned ≡ Ok (view x)
GivesExactly view (Err e) planned = planned ≡ Err e

-- A function that changes a value returned: what is there now is what is planned, unless memory ran
-- out.
abbrev pub Does : {X E : Type 0} → E → Result (Unit {0}) E → X → Result X E → Type 0
Does memory (Ok _) new planned = planned ≡ Ok new
Does memory (Err e) new planned = Fails memory e planned
