-- Documents of a few fields whose values hold no others, as replies are.
use Rattle.std.specs.Prelude.{ℕ, ℤ, pos, Bool, true, ◌&&◌, ◌==◌, not, is_none, List, [], ◌∷◌, codes}
use Rattle.std.specs.List.{list_any}
use Rattle.bson.specs.Tree.{Tree, scalar, text, boolean, date, int32, int64, Pairs, no_pairs, pair}
use Rattle.bson.specs.Tree.{append}
use Rattle.bson.specs.Lookup.{lookup}
use Rattle.driver_replies.specs.declared.fields.Fact.{Fact}
use Rattle.driver_replies.specs.declared.fields.Fact.TheVariants as facts
use Rattle.std.specs.Borrow.{Bor}

abbrev pub truth : Bool → Tree
truth b = scalar (boolean b)

abbrev pub int : ℤ → Tree
int z = scalar (int32 z)

abbrev pub long : ℤ → Tree
long z = scalar (int64 z)

abbrev pub words : List ℕ → Tree
words bytes = scalar (text bytes)

-- What ends a reply of a command that was done.
abbrev pub ok : Pairs
ok = pair (codes "ok") (long (pos 1)) no_pairs

abbrev pub fact_tree : Fact → Tree
fact_tree (facts.Bool b) = scalar (boolean b)
fact_tree (facts.Int32 z) = scalar (int32 z)
fact_tree (facts.Int64 z) = scalar (int64 z)
fact_tree (facts.Date z) = scalar (date z)
fact_tree (facts.Text s) = scalar (text s.now)

abbrev pub fields_of : List (Bor (List ℕ) × Fact) → Pairs
fields_of [] = no_pairs
fields_of (x ∷ xs) = pair x.0.now (fact_tree x.1) (fields_of xs)

-- no name has a zero, or is one of those before it
abbrev pub are_new : Pairs → List (Bor (List ℕ) × Fact) → Bool
are_new ps [] = true
are_new ps (x ∷ xs) =
    not (list_any (λ b. b == 0) x.0.now) && is_none (lookup ps x.0.now)
    && are_new (append ps (pair x.0.now (fact_tree x.1) no_pairs)) xs
