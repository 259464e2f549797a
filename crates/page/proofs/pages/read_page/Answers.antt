use Rattle.std.proofs.Common.{◌≡◌, ℕ, suc, ◌*◌, ◌+◌, ◌-◌, ◌≤◌, ◌<◌, List, ◌++◌, length, take, drop, sym, ◌∙◌, ap, subst, arith}
use Rattle.std.proofs.lemmas.List.{take_all}
use Rattle.std.proofs.lemmas.Slice.{take-put_mid}
use Rattle.std.proofs.lemmas.List.{length-append, length-take, length-drop}
use borrow.Rule.Slice.PartMut.{put_mid, post_of}
use Rattle.page.specs.History.{Sector, now, reads}
use Rattle.page.specs.Page.{bytes_from}
use Rattle.page.proofs.Moments.{reads_further, reads_one}
use Rattle.page.proofs.pages.read_page.Goals as goal

put_long : (i : ℕ) (bytes sector : List ℕ) → i < 8 → length sector ≡ 512 → length bytes ≡ 4096
    → length (put_mid (512 * i) (512 * i + 512 - 512 * i) bytes sector) ≡ 4096
put_long i bytes sector within full long =
    let rest : length (post_of (512 * i) (512 * i + 512 - 512 * i) bytes) ≡ 4096 - (512 * i + 512) =
    omega (arith, length-drop (512 * i + 512 - 512 * i) (drop (512 * i) bytes), length-drop (512 * i) bytes, long) in
    omega (
      arith,
      length-append (take (512 * i) bytes) (sector ++ post_of (512 * i) (512 * i + 512 - 512 * i) bytes),
      length-append sector (post_of (512 * i) (512 * i + 512 - 512 * i) bytes),
      length-take (512 * i) bytes,
      rest,
    )

pub returns-in_err-read-clause-reads : goal.returns-in_err-read-clause-reads
returns-in_err-read-clause-reads g c =
    let h0 = g.D.Disk.history c.args.disk.now in
    let h1 = g.D.Disk.history c.loop-i.disk in
    let h2 = g.D.Disk.history c.read.new.self in
    reads_further h0 h1 h2 c.loop-i.invariant.only (reads_one h1 h2 _ c.read.ensures.time (λ keeps. c.read.ensures.same keeps))

pub loop-i-preserved : goal.loop-i-preserved
loop-i-preserved g c =
    let h0 = g.D.Disk.history c.args.disk.now in
    let h1 = g.D.Disk.history c.loop-i.disk in
    let h2 = g.D.Disk.history c.read.new.self in
    let page = 8 * c.args.page in
    let i = c.loop-i.i in
    let bytes = c.loop-i.bytes in
    let sector = c.read.new.bytes in
    record {
      only = reads_further h0 h1 h2 c.loop-i.invariant.only (reads_one h1 h2 _ c.read.ensures.time (λ keeps. c.read.ensures.same keeps));
      clear = λ keeps. c.in_ok-read.ensures.time.failures keeps ∙ c.loop-i.invariant.clear (c.read.ensures.time.kept keeps);
      long = (let same : length c.copy_from_slice.new.self ≡ 512 = omega (arith, c.copy_from_slice.ensures.len) in
          put_long i bytes c.copy_from_slice.new.self (omega arith) same c.loop-i.invariant.long);
      so_far = λ keeps.
          let before = c.read.ensures.time.kept keeps in
          let room : 512 * i ≤ length bytes = omega arith in
          let long : length c.copy_from_slice.new.self ≡ 512 = omega (arith, c.copy_from_slice.ensures.len) in
          let is : c.copy_from_slice.new.self ≡ reads (now h0) (page + i) =
          c.copy_from_slice.ensures.after ∙ c.in_ok-read.ensures.value keeps
          ∙ ap (λ (s : ℕ → Sector). reads s (page + i)) (c.loop-i.invariant.only.same before) in
          let front : take (512 * i) bytes ≡ bytes_from (reads (now h0)) page i = c.loop-i.invariant.so_far before in
          let next : suc i ≡ i + 1 = omega arith in
          take-put_mid (512 * i) (512 * i + 512 - 512 * i) bytes c.copy_from_slice.new.self (512 * (i + 1)) (omega (arith, long)) room
          ∙ (λ j. front j ++ is j) ∙ ap (λ (n : ℕ). bytes_from (reads (now h0)) page n) next;
    }

pub returns-clause-value : goal.returns-clause-value
returns-clause-value g c keeps =
    let h0 = g.D.Disk.history c.args.disk.now in
    let eight : c.loop-i.i ≡ 8 = omega arith in
    let all : take (512 * 8) c.loop-i.bytes ≡ bytes_from (reads (now h0)) (8 * c.args.page) 8 =
    subst (λ (n : ℕ). take (512 * n) c.loop-i.bytes ≡ bytes_from (reads (now h0)) (8 * c.args.page) n) eight (c.loop-i.invariant.so_far keeps) in
    sym (take_all 4096 c.loop-i.bytes (omega (arith, c.loop-i.invariant.long))) ∙ all
