use Rattle.std.proofs.Common.{◌≡◌, Result, Ok, Err, sym, ap, ◌∙◌, arith}
use Rattle.roots.specs.declared.opening.OpenFault.{OpenFault}
use Rattle.roots.specs.declared.opening.OpenFault.TheVariants as faults
use Rattle.pager.proofs.OpenLemmas.{kept_opened, limit_opened, opened_so}
use Rattle.pager.proofs.RefusalLemmas.{refused_cache, refused_walking}
use Rattle.pager.proofs.pager.Pager.open.Goals as goal

err_same : {X : Type 0} {one other : OpenFault} → (let r : Result X OpenFault = Err one in r) ≡ Err other → one ≡ other
err_same same = cc

pub invariant_of-result : goal.invariant_of-result
invariant_of-result g c =
    kept_opened g.D.Disk.history c.args.disk c.in-Ok.store c.free_pages.new.self c.in-Ok-free_pages.found c.min.result
    (omega arith) c.in-Ok.ensures.opened c.free_pages.ensures.looks.reads c.in-Ok-free_pages.ensures.finds
    c.in-Ok-new.cache c.new-2.result.items c.new-4.result.items c.new-2.ensures.items c.new-4.ensures.items c.in-Ok-new.ensures

pub returns-clause-opened : goal.returns-clause-opened
returns-clause-opened g c =
    opened_so g.D.Disk.history c.args.disk c.in-Ok.store c.free_pages.new.self c.in-Ok-free_pages.found c.min.result
    (omega arith) c.in-Ok.ensures.opened c.free_pages.ensures.looks.reads c.in-Ok-free_pages.ensures.finds
    c.new-2.result.items c.new-3.result.items c.new-2.ensures.items c.new-3.ensures.items
    (c.in-Ok-free_pages.ensures.looks.clear (λ is. absurd cc))

pub returns-clause-limit : goal.returns-clause-limit
returns-clause-limit g c =
    limit_opened g.D.Disk.history c.args.disk c.in-Ok.store c.free_pages.new.self c.in-Ok-free_pages.found c.min.result
    (omega arith) c.in-Ok.ensures.opened c.free_pages.ensures.looks.reads c.in-Ok-free_pages.ensures.finds
    c.args.limit c.min.ensures

pub returns-in-Err-free_pages-clause-refused : goal.returns-in-Err-free_pages-clause-refused
returns-in-Err-free_pages-clause-refused g c =
    refused_walking g.D.Disk.history c.args.disk c.in-Ok.store c.in-Ok.ensures.opened c.min.result c.free_pages.new.self c.into_disk-in-Err-free_pages.result
    c.in-Err-free_pages.fault (ap g.D.Disk.history c.into_disk-in-Err-free_pages.ensures)
    c.in-Err-free_pages.ensures.looks.reads c.in-Err-free_pages.ensures.looks.cause
    (λ is. c.in-Err-free_pages.ensures.looks.clear (λ same. let never : faults.Memory ≡ faults.Device = sym is ∙ err_same same in absurd cc))
    c.in-Err-free_pages.ensures.finds

pub returns-in_default-clause-refused : goal.returns-in_default-clause-refused
returns-in_default-clause-refused g c =
    refused_cache g.D.Disk.history c.args.disk c.in-Ok.store c.in-Ok.ensures.opened c.into_disk.result (ap g.D.Disk.history c.into_disk.ensures)
