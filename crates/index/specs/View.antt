-- What the types of the crate stand for. An `IndexField` is a `Field`, an `IndexSpec` a
-- `Definition`.
use Rattle.std.specs.Prelude.{ℕ, List, map}
use Rattle.std.specs.Global.{Vec}

-- the bytes that vectors hold
abbrev pub texts_of : List (Vec ℕ) → List (List ℕ)
texts_of vs = map (λ v. v.items) vs
