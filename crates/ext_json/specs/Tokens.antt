-- What stands at the front of tokens.
use Rattle.std.specs.Prelude.{ℕ, Option, Some, None, List, [], ◌∷◌, Result, Ok, Err}
use Rattle.json.specs.Token.{Token, begin_object, end_object, begin_array, end_array, key, string}
use Rattle.json.specs.Token.{number, boolean, null, bad}
use Rattle.outcome.specs.Outcome.{◌>>=◌}
use Rattle.ext_json.specs.declared.fault.ExtJsonFault.{ExtJsonFault}
use Rattle.ext_json.specs.declared.fault.ExtJsonFault.TheVariants as faults

-- what is read from tokens, and the tokens behind it; or the first fault
abbrev pub Parse : Type 0 → Type 0
Parse A = List Token → Result (A × List Token) ExtJsonFault

-- the first token; `bad` where there is none
abbrev pub first : List Token → Token
first [] = bad
first (t ∷ ts) = t

abbrev pub rest : List Token → List Token
rest [] = []
rest (t ∷ ts) = ts

-- why a token can't stand where a wrapper has a value of another form: it begins no value, or one
-- of another form
abbrev pub unfit : Token → ExtJsonFault
unfit begin_object = faults.Wrapper
unfit end_object = faults.Syntax
unfit begin_array = faults.Wrapper
unfit end_array = faults.Syntax
unfit (key s) = faults.Syntax
unfit (string s) = faults.Wrapper
unfit (number s) = faults.Wrapper
unfit (boolean b) = faults.Wrapper
unfit null = faults.Wrapper
unfit bad = faults.Syntax

abbrev pub text_in : Token → Result (List ℕ) ExtJsonFault
text_in (string s) = Ok s
text_in t = Err (unfit t)

abbrev pub number_in : Token → Result (List ℕ) ExtJsonFault
number_in (number s) = Ok s
number_in t = Err (unfit t)

-- a name, or the end of an object
abbrev pub key_in : Token → Result (Option (List ℕ)) ExtJsonFault
key_in (key s) = Ok (Some s)
key_in end_object = Ok None
key_in t = Err faults.Syntax

-- a name in a wrapper that has one more member
abbrev pub name_in : Token → Result (List ℕ) ExtJsonFault
name_in (key s) = Ok s
name_in end_object = Err faults.Wrapper
name_in t = Err faults.Syntax

abbrev pub open_in : Token → Result (Unit {0}) ExtJsonFault
open_in begin_object = Ok tt
open_in t = Err (unfit t)

-- the end of a wrapper, which has no other member
abbrev pub end_in : Token → Result (Unit {0}) ExtJsonFault
end_in end_object = Ok tt
end_in (key s) = Err faults.Wrapper
end_in t = Err faults.Syntax

abbrev pub key_at : Parse (Option (List ℕ))
key_at ts = key_in (first ts) >>= λ k. Ok (k, rest ts)

abbrev pub name_at : Parse (List ℕ)
name_at ts = name_in (first ts) >>= λ s. Ok (s, rest ts)

abbrev pub text_at : Parse (List ℕ)
text_at ts = text_in (first ts) >>= λ s. Ok (s, rest ts)

abbrev pub open_at : List Token → Result (List Token) ExtJsonFault
open_at ts = open_in (first ts) >>= λ _. Ok (rest ts)

abbrev pub end_at : List Token → Result (List Token) ExtJsonFault
end_at ts = end_in (first ts) >>= λ _. Ok (rest ts)
