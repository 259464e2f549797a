-- What documents that are lent make of a walk that keeps those that are looked for.
use Rattle.std.specs.Prelude.{◌≡◌, Bool, List, ◌++◌, All, take}
use Rattle.std.specs.List.{filter}
use Rattle.bson.specs.Tree.{Pairs}
use Rattle.database_model.specs.Lawful.{IsWithin}
use Rattle.walks.specs.declared.scanning.Selecting.{Selecting}

-- Those that are looked for were found, up to so many, and all are within the limits.
pub record Selected {S : Type 0} (selects : S → Pairs → Bool) (start : Selecting S)
    (documents : List Pairs) (now : Selecting S) : Type 0 where
  pub which : now.which.now ≡ start.which.now
  pub most : now.most ≡ start.most
  pub found : now.found.items
      ≡ take start.most (start.found.items ++ filter (selects start.which.now) documents)
  pub within : All IsWithin start.found.items → All IsWithin now.found.items
