use Rattle.std.proofs.Common.{length, map, refl, sym, ap, ◌∙◌}
use Rattle.std.proofs.lemmas.Result.{err_from_is_err_and}
use Rattle.opening.specs.Totals.{total_indexes}
use Rattle.opening.specs.Loading.{named_as}
use Rattle.engine.proofs.FileCounts.{check_done, check_stopped, check_uncounted, check_unread, check_without_memory}
use Rattle.engine.proofs.engine.Engine.look_through.Goals as goal

pub returns-then-is_stopped : goal.returns-then-is_stopped
returns-then-is_stopped g c = check_stopped g.D.Disk.history c.args.self.now c.requires.sound (sym c.if-is_stopped.ensures)

pub returns-in_err-pages : goal.returns-in_err-pages
returns-in_err-pages g c =
    let p = err_from_is_err_and c.from_residual.result c.from_residual.ensures.1 in
    rw (p.1, p.2)
    (check_uncounted g.D.Disk.history c.args.self.now c.requires.sound
    (sym c.if-is_stopped.ensures) c.count_pages.new.self c.in_err-pages.field-0.0 c.in_err-pages.ensures)

pub returns-in_err-loading : goal.returns-in_err-loading
returns-in_err-loading g c =
    let p = err_from_is_err_and c.from_residual-in_err-loading.result c.from_residual-in_err-loading.ensures.1 in
    rw (p.1, p.2)
    (check_unread g.D.Disk.history c.args.self.now c.requires.sound
    (sym c.if-is_stopped.ensures) c.count_pages.new.self c.in_ok-pages.pages c.in_ok-pages.ensures c.load_file.new.file
    c.in_err-loading.field-0.0 c.load_file.new.told.value.now c.in_err-loading.ensures)

pub returns-in_default : goal.returns-in_default
returns-in_default g c =
    check_without_memory g.D.Disk.history c.args.self.now c.requires.sound
    (sym c.if-is_stopped.ensures) c.count_pages.new.self c.in_ok-pages.pages c.in_ok-pages.ensures c.load_file.new.file
    c.in_ok-loading.loading c.load_file.new.told.value.now c.in_ok-loading.ensures

pub returns : goal.returns
returns g c =
    check_done g.D.Disk.history c.args.self.now c.requires.sound
    (sym c.if-is_stopped.ensures) c.count_pages.new.self c.in_ok-pages.pages c.in_ok-pages.ensures c.load_file.new.file
    c.in_ok-loading.loading c.load_file.new.told.value.now c.in_ok-loading.ensures _ c.generation-generation.ensures
    (c.len.ensures ∙ sym c.deref.ensures.len ∙ ap (λ ns. length ns) c.deref.ensures.value) refl
    (c.in-Some.ensures ∙ ap (λ ns. total_indexes (map named_as ns)) c.deref.ensures.value) refl
