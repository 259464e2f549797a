-- How a run of device calls goes on.
use Rattle.std.proofs.Common.{◌≡◌, inl, inr, ℕ, ◌+◌, ◌≤◌, Bool, true, false, List, refl, ap, ◌∙◌, subst, arith}
use Rattle.std.specs.Prelude.{if◌then◌else◌, ◌&&◌, not}
use Rattle.std.proofs.lemmas.Bool.{cases_lt}
use Rattle.page.specs.History.{History, Sector, KeepsWord, now, IsImage, LeftSince, Ticks, Syncs}
use Rattle.page.specs.Crash.{ExtendsHistory, LeavesOnly, CrashLeaves, ReadsOnly, HasRead, OnlySyncs}

-- before the first call
pub goes_nowhere : (h : History) → ExtendsHistory h h
goes_nowhere h = record {
  kept = λ k. k;
  keeps = λ k time. k;
  clock = omega arith;
  past = λ k t le. refl;
  failures = λ k. omega arith;
  failed_writes = λ k. omega arith;
}

-- the sectors as they are now, where no time went by
only_now : (h : History) (image : ℕ → List ℕ) → LeftSince h h.clock image → IsImage (now h) image
only_now h image left =
    let same : left.at ≡ h.clock = omega (arith, left.after, left.before) in
    subst (λ (t : ℕ). IsImage (h.moment t) image) same left.left

pub started : (h : History) (P : (ℕ → List ℕ) → Type 0) → CrashLeaves h P → LeavesOnly h h P
started h P here k image left = here k image (only_now h image left)

-- one call
pub goes_one : {writes : Bool} (old new : History) (ok : Bool) → Ticks writes old new ok → ExtendsHistory old new
goes_one {writes = writes} old new ok tick = record {
  kept = tick.kept;
  keeps = λ k time. tick.keeps k (omega (arith, tick.later, time));
  clock = tick.later;
  past = tick.past;
  failures = λ k. le_if ok old.failures new.failures (tick.failures k);
  failed_writes = λ k. le_more (writes && not ok) old.failed_writes new.failed_writes (tick.failed_writes k);
}
  where
    le_if : (ok : Bool) (m n : ℕ) → n ≡ (if ok then m else m + 1) → m ≤ n
    le_if true m n is = omega arith
    le_if false m n is = omega arith

    le_more : (more : Bool) (m n : ℕ) → n ≡ (if more then m + 1 else m) → m ≤ n
    le_more true m n is = omega arith
    le_more false m n is = omega arith

-- two runs, one after the other
pub goes_further : (a b c : History) → ExtendsHistory a b → ExtendsHistory b c → ExtendsHistory a c
goes_further a b c first second = record {
  kept = λ k. first.kept (second.kept k);
  keeps = λ k time. second.keeps (first.keeps k (omega (arith, second.clock, time))) time;
  clock = omega (arith, first.clock, second.clock);
  past = λ k t le. second.past k t (omega (arith, le, first.clock)) ∙ first.past (second.kept k) t le;
  failures = λ k. omega (arith, first.failures (second.kept k), second.failures k);
  failed_writes = λ k. omega (arith, first.failed_writes (second.kept k), second.failed_writes k);
}

-- what held up to b and from b on holds of the whole
pub leaves_further : (a b c : History) (P : (ℕ → List ℕ) → Type 0) → ExtendsHistory b c → LeavesOnly a b P → LeavesOnly b c P → LeavesOnly a c P
leaves_further a b c P continues first second k image left =
    elim (cases_lt b.clock left.at) [
      | inl late ↦ second k image (record { at = left.at; after = omega arith; before = left.before; left = left.left })
      | inr early ↦
          let then_left : LeftSince b a.clock image = record {
            at = left.at;
            after = left.after;
            before = early;
            left = subst (λ (s : ℕ → Sector). IsImage s image) (continues.past k left.at early) left.left;
          } in first (continues.kept k) image then_left
    ]

-- one call more, after which a crash leaves what has P
pub leaves_call : {writes : Bool} (a b c : History) (ok : Bool) (P : (ℕ → List ℕ) → Type 0) → Ticks writes b c ok → LeavesOnly a b P → CrashLeaves c P
    → LeavesOnly a c P
leaves_call a b c ok P tick so_far here k image left =
    elim (cases_lt b.clock left.at) [
      | inl late ↦
          let last : left.at ≡ c.clock = omega (arith, tick.clock k, late, left.before) in
          here k image (subst (λ (t : ℕ). IsImage (c.moment t) image) last left.left)
      | inr early ↦
          let then_left : LeftSince b a.clock image = record {
            at = left.at;
            after = left.after;
            before = early;
            left = subst (λ (s : ℕ → Sector). IsImage s image) (tick.past k left.at early) left.left;
          } in so_far (tick.kept k) image then_left
    ]

-- what holds since an earlier moment holds now
pub leaves_now : (a b : History) (P : (ℕ → List ℕ) → Type 0) → ExtendsHistory a b → LeavesOnly a b P → CrashLeaves b P
leaves_now a b P continues since k image is = since k image (record { at = b.clock; after = continues.clock; before = omega arith; left = is })

pub leaves_weaker : (a b : History) (P Q : (ℕ → List ℕ) → Type 0) → ((image : ℕ → List ℕ) → P image → Q image) → LeavesOnly a b P → LeavesOnly a b Q
leaves_weaker a b P Q to since k image left = to image (since k image left)

-- ---- calls that only read

pub reads_moments : (old new : History) → ReadsOnly old new → LeavesOnly old new (IsImage (now old))
reads_moments old new only keeps image left = subst (λ (s : ℕ → Sector). IsImage s image) (only.still keeps left.at left.after left.before) left.left

pub reads_nothing : (h : History) → ReadsOnly h h
reads_nothing h = record {
  extends = goes_nowhere h;
  same = λ keeps. refl;
  still = λ keeps t low high. let now_is : t ≡ h.clock = omega arith in ap h.moment now_is;
}

-- a moment up to b, or one behind it
still_further : (a b c : History) → ReadsOnly a b → ExtendsHistory b c → KeepsWord c → (t : ℕ) → a.clock ≤ t → t ≤ b.clock → c.moment t ≡ now a
still_further a b c first extends keeps t low high = extends.past keeps t high ∙ first.still (extends.kept keeps) t low high

pub reads_further : (a b c : History) → ReadsOnly a b → ReadsOnly b c → ReadsOnly a c
reads_further a b c first second = record {
  extends = goes_further a b c first.extends second.extends;
  same = λ keeps. second.same keeps ∙ first.same (second.extends.kept keeps);
  still = λ keeps t low high.
      elim (cases_lt b.clock t) [
        | inl late ↦ second.still keeps t (omega arith) high ∙ first.same (second.extends.kept keeps)
        | inr early ↦ still_further a b c first second.extends keeps t low early
      ];
}

-- one call that left the sectors as they are
pub reads_one : {writes : Bool} (old new : History) (ok : Bool) → Ticks writes old new ok → (KeepsWord new → now new ≡ now old) → ReadsOnly old new
reads_one old new ok tick same = record {
  extends = goes_one old new ok tick;
  same = same;
  still = λ keeps t low high.
      elim (cases_lt old.clock t) [
        | inl late ↦ let last : t ≡ new.clock = omega (arith, tick.clock keeps) in ap new.moment last ∙ same keeps
        | inr early ↦ let first : t ≡ old.clock = omega arith in tick.past keeps t early ∙ ap old.moment first
      ];
}

-- calls that read, none of which failed
pub read_nothing : (h : History) → HasRead h h
read_nothing h = record { reads = reads_nothing h; clear = λ keeps. refl }

pub read_further : (a b c : History) → HasRead a b → HasRead b c → HasRead a c
read_further a b c first second = record {
  reads = reads_further a b c first.reads second.reads;
  clear = λ keeps. second.clear keeps ∙ first.clear (second.reads.extends.kept keeps);
}

-- a sync after them
pub then_syncs : {writes : Bool} (a b c : History) (ok : Bool) → ReadsOnly a b → Ticks writes b c ok → (KeepsWord c → (k : ℕ) → Syncs (now b k) (now c k))
    → OnlySyncs a c
then_syncs a b c ok first tick syncs = record {
  still = λ keeps t low high. still_further a b c first (goes_one b c ok tick) keeps t low (omega (arith, tick.clock keeps));
  syncs = λ keeps k. subst (λ (s : ℕ → Sector). Syncs (s k) (now c k)) (first.same (tick.kept keeps)) (syncs keeps k);
}
