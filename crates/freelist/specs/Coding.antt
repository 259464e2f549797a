-- A book is told apart by lists of numbers.
use Rattle.std.specs.Prelude.{◌≡◌, ◌⊎◌, ℕ, zero, suc, List, refl}
use Rattle.std.proofs.Common.{inl, inr}
use Rattle.std.specs.Coded.{Coded, code_by, coded×, coded⊎, coded_ℕ, coded_list}
use Rattle.freelist.specs.Book.{Book}
use Rattle.freelist.specs.declared.states.PageState.{PageState}
use Rattle.freelist.specs.declared.states.PageState.TheVariants as states
use Rattle.freelist.specs.declared.turns.Retirement.{Retirement}
use Rattle.freelist.specs.declared.turns.Change.{Change}
use Rattle.freelist.specs.declared.turns.Change.TheVariants as changes

abbrev pub state_number : PageState → ℕ
state_number states.Free = 0
state_number states.InUse = 1
state_number states.Retired = 2

abbrev pub number_state : ℕ → PageState
number_state zero = states.Free
number_state (suc zero) = states.InUse
number_state (suc (suc n)) = states.Retired

pub number_state-state_number : (state : PageState) → number_state (state_number state) ≡ state
number_state-state_number states.Free = refl
number_state-state_number states.InUse = refl
number_state-state_number states.Retired = refl

abbrev pub state_code : Coded PageState
state_code = code_by ℕ coded_ℕ state_number number_state number_state-state_number

abbrev pub retirement_code : Coded Retirement
retirement_code = code_by (ℕ × ℕ) (coded× coded_ℕ coded_ℕ) (λ r. (r.page, r.version))
    (λ x. record { page = x.0; version = x.1 }) (λ _. refl)

abbrev pub change_sum : Change → ℕ ⊎ (ℕ × ℕ)
change_sum (changes.Taken page) = inl page
change_sum (changes.Retired page version) = inr (page, version)

abbrev pub sum_change : ℕ ⊎ (ℕ × ℕ) → Change
sum_change (inl page) = changes.Taken page
sum_change (inr x) = changes.Retired x.0 x.1

pub sum_change-change_sum : (change : Change) → sum_change (change_sum change) ≡ change
sum_change-change_sum (changes.Taken page) = refl
sum_change-change_sum (changes.Retired page version) = refl

abbrev pub change_code : Coded Change
change_code = code_by (ℕ ⊎ (ℕ × ℕ)) (coded⊎ coded_ℕ (coded× coded_ℕ coded_ℕ))
    change_sum sum_change sum_change-change_sum

abbrev pub Parts : Type 0
Parts = (List PageState × List Retirement) × ((List Change × List ℕ) × (ℕ × ℕ))

abbrev pub book_code : Coded Book
book_code = code_by Parts
    (coded× (coded× (coded_list state_code) (coded_list retirement_code))
    (coded× (coded× (coded_list change_code) (coded_list coded_ℕ)) (coded× coded_ℕ coded_ℕ)))
    (λ b. ((b.states, b.waiting), ((b.turn, b.pins), (b.version, b.failed_allocations))))
    (λ x. record {
      states = x.0.0;
      waiting = x.0.1;
      turn = x.1.0.0;
      pins = x.1.0.1;
      version = x.1.1.0;
      failed_allocations = x.1.1.1;
    }) (λ _. refl)
