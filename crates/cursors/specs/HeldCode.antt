-- A code for open cursors, by which a proof tells two of them apart.
use Rattle.std.specs.Prelude.{◌≡◌, ◌⊎◌, ℕ, List, Option, refl}
use Rattle.std.proofs.Common.{inl, inr}
use Rattle.std.specs.Coded.{Coded, code_by, coded×, coded⊎, coded_ℕ, coded_bool, coded_list}
use Rattle.std.specs.Coded.{coded_option}
use Rattle.filter.specs.Condition.{Conditions}
use Rattle.filter.specs.ConditionCode.{coded_conditions}
use Rattle.projection.specs.Projection.{Projection}
use Rattle.index.specs.Definition.{Definition}
use Rattle.index.specs.DefinitionCode.{definition_code}
use Rattle.pager.specs.declared.version.Version.{Version}
use Rattle.database_model.specs.World.{Cursor}
use Rattle.database_model.specs.Lawful.{cursor_code}
use Rattle.cursors.specs.Held.{Way, through, listed, ordered, HeldWalk, HeldCursor, Held}

abbrev version_code : Coded Version
version_code =
    code_by (ℕ × ℕ) (coded× coded_ℕ coded_ℕ) (λ v. (v.generation, v.root))
    (λ p. record { generation = p.0; root = p.1 }) (λ _. refl)

abbrev projection_code : Coded Projection
projection_code = coded× coded_bool (coded_list (coded_list (coded_list coded_ℕ)))

abbrev Texts : Type 0
Texts = List (List ℕ)

abbrev Ordered : Type 0
Ordered = (Conditions × Definition) × ((ℕ × ℕ) × (List ℕ × List ℕ))

abbrev WaySum : Type 0
WaySum = (Conditions × (ℕ × List ℕ)) ⊎ (Texts ⊎ Ordered)

abbrev way_sum : Way → WaySum
way_sum (through rules limit from) = inl (rules, (limit, from))
way_sum (listed texts) = inr (inl texts)
way_sum (ordered rules i skip limit from last) =
    inr (inr ((rules, i), ((skip, limit), (from, last))))

abbrev sum_way : WaySum → Way
sum_way (inl w) = through w.0 w.1.0 w.1.1
sum_way (inr (inl texts)) = listed texts
sum_way (inr (inr o)) = ordered o.0.0 o.0.1 o.1.0.0 o.1.0.1 o.1.1.0 o.1.1.1

pub sum_way-way_sum : (way : Way) → sum_way (way_sum way) ≡ way
sum_way-way_sum (through rules limit from) = refl
sum_way-way_sum (listed texts) = refl
sum_way-way_sum (ordered rules i skip limit from last) = refl

abbrev ordered_code : Coded Ordered
ordered_code =
    coded× (coded× coded_conditions definition_code)
    (coded× (coded× coded_ℕ coded_ℕ) (coded× (coded_list coded_ℕ) (coded_list coded_ℕ)))

abbrev way_code : Coded Way
way_code =
    code_by WaySum
    (coded⊎ (coded× coded_conditions (coded× coded_ℕ (coded_list coded_ℕ)))
    (coded⊎ (coded_list (coded_list coded_ℕ)) ordered_code))
    way_sum sum_way sum_way-way_sum

-- a walk by its version, its collection, its projection and its way
abbrev walk_code : Coded HeldWalk
walk_code =
    code_by ((Version × ℕ) × (Projection × Way))
    (coded× (coded× version_code coded_ℕ) (coded× projection_code way_code))
    (λ w. ((w.version, w.number), (w.projection, w.way)))
    (λ p. record { version = p.0.0; number = p.0.1; projection = p.1.0; way = p.1.1 })
    (λ _. refl)

abbrev pub held_cursor_code : Coded HeldCursor
held_cursor_code =
    code_by (Cursor × Option HeldWalk) (coded× cursor_code (coded_option walk_code))
    (λ h. (h.cursor, h.walk)) (λ p. record { cursor = p.0; walk = p.1 }) (λ _. refl)

abbrev pub held_code : Coded Held
held_code =
    code_by (List HeldCursor × ℕ) (coded× (coded_list held_cursor_code) coded_ℕ)
    (λ h. (h.list, h.next)) (λ p. record { list = p.0; next = p.1 }) (λ _. refl)
