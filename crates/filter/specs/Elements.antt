-- What is asked of one element of an array apart from the others, as `$pull` does.
use Rattle.std.specs.Prelude.{Bool, false, Result, Ok}
use Rattle.bson.specs.Tree.{Tree, scalar, document, array}
use Rattle.path.specs.declared.refusal.Refusal.{Refusal}
use Rattle.filter.specs.Condition.{Condition, is, equal, element, element_document}
use Rattle.filter.specs.Matches.{alone, all_hold, of_document}
use Rattle.filter.specs.Parsing.{just, read_element}

-- an operator document, which looks at the element as it stands; another document, a filter that
-- looks at elements that are documents; or a value to be equal to
abbrev pub read_element_condition : Tree → Result Condition Refusal
read_element_condition (document ps) = read_element (document ps)
read_element_condition (array ts) = Ok (element (just (is (equal (array ts)))))
read_element_condition (scalar s) = Ok (element (just (is (equal (scalar s)))))

-- the element is one of those that the condition looks for in an array
abbrev pub element_matches : Condition → Tree → Bool
element_matches (element rs) t = all_hold rs (alone t)
element_matches (element_document rs) t = of_document (all_hold rs) t
element_matches other t = false
