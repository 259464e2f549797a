use Rattle.std.proofs.Common.{sym, ◌∙◌, subst}
use Rattle.memchr.specs.Find.{is_byte, IsFirstByte}
use Rattle.planner.proofs.ZeroLemmas.{string_broken, string_ends, string_onwards, string_open, string_stays}
use Rattle.planner.proofs.key_scan.behind_ascending_string.Goals as goal

pub returns : goal.returns
returns c = sym (string_open c.zeros.rest.now (subst (λ r. IsFirstByte (is_byte 0) c.zeros.rest.now r) c.in_default.is c.memchr.ensures)) ∙ c.zeros.invariant

pub returns-in_default-split_first-2 : goal.returns-in_default-split_first-2
returns-in_default-split_first-2 c =
    let rest = c.zeros.rest.now in
    let first = subst (λ r. IsFirstByte (is_byte 0) rest r) c.in-Some.is c.memchr.ensures in
    let front = c.in-Some-split_first in
    sym (string_broken front.behind.now c.in_default-split_first-2.ensures.cases)
    ∙ sym (string_onwards c.in-Some.at rest front.field-0-0.now front.behind.now first front.ensures.cases.0) ∙ c.zeros.invariant

pub returns-then-byte-eq0 : goal.returns-then-byte-eq0
returns-then-byte-eq0 c =
    let rest = c.zeros.rest.now in
    let first = subst (λ r. IsFirstByte (is_byte 0) rest r) c.in-Some.is c.memchr.ensures in
    let front = c.in-Some-split_first in
    let next = c.in-Some-split_first-2 in
    sym (string_ends front.behind.now next.byte.now next.after.now next.ensures.cases.0 c.if-byte-eq0.true)
    ∙ sym (string_onwards c.in-Some.at rest front.field-0-0.now front.behind.now first front.ensures.cases.0) ∙ c.zeros.invariant

pub zeros-preserved : goal.zeros-preserved
zeros-preserved c =
    let rest = c.zeros.rest.now in
    let first = subst (λ r. IsFirstByte (is_byte 0) rest r) c.in-Some.is c.memchr.ensures in
    let front = c.in-Some-split_first in
    let next = c.in-Some-split_first-2 in
    sym (string_stays front.behind.now next.byte.now next.after.now next.ensures.cases.0 c.if-byte-eq0.false)
    ∙ sym (string_onwards c.in-Some.at rest front.field-0-0.now front.behind.now first front.ensures.cases.0) ∙ c.zeros.invariant
