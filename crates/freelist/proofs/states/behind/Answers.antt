use Rattle.std.proofs.Common.{◌≡◌, ◌+◌, ◌*◌, ◌/◌, ◌≤◌, ◌-◌, arith, sym, subst, List, Bool}
use Rattle.std.proofs.Math.Nat.{mod-add-div'}
use Rattle.freelist.specs.Search.{MarksHold}
use Rattle.freelist.proofs.Searching.{marks_block, none_in_part, place_within}
use Rattle.freelist.proofs.states.behind.Goals as goal

pub returns-clause-passed : goal.returns-clause-passed
returns-clause-passed c =
    none_in_part c.args.sought c.args.pages.now c.args.page (c.args.page + c.min.result) c.place_of-passed.result
    (omega (arith, c.min.ensures, c.requires.inside)) c.place_of-passed.ensures

pub returns-clause-marked : goal.returns-clause-marked
returns-clause-marked c =
    let within : c.place_of-passed.result ≤ c.args.page + c.min.result - c.args.page =
    place_within c.args.sought c.args.pages.now c.args.page (c.args.page + c.min.result) c.place_of-passed.result
    (omega (arith, c.min.ensures, c.requires.inside)) c.place_of-passed.ensures in
    let begins : c.place_of-passed.result ≡ 256 → c.args.page ≡ c.args.page / 256 * 256 =
    λ all. omega (arith, all, mod-add-div' c.args.page 256, within, c.min.ensures) in
    subst (λ (ms : List Bool). MarksHold c.args.sought ms c.args.pages.now) (sym c.mark_block.ensures)
    (marks_block c.args.sought c.args.pages.now c.args.marks.now (c.args.page / 256) c.args.page c.place_of-passed.result c.requires.marked
    (returns-clause-passed c) begins)
