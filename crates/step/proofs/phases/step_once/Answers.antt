-- Each way out is one of Completing's, at the values that the phases gave.
use mathlib.Core.Path.{◌≡◌, refl, sym, ap, subst, ◌∙◌}
use mathlib.Core.Bool.{false}
use mathlib.Core.List.{List}
use Prim.Native.Nat.{ℕ, ◌+◌, ◌-◌, ◌^◌, ◌<◌}
use native.Mathlib.Omega.{arith}
use native.Mathlib.Nat.{mod-eq_of_lt}
use lib.ListN.{length, get_or, set, length-set}
use lib.Seq.{get_or-set_same}
use Rattle.report.specs.Parts.{InRange}
use Rattle.machine.specs.Held.{ram, state}
use Rattle.machine.specs.declared.Machine.{Machine}
use Rattle.step.specs.Phases.{held, next_p, Decodes}
use Rattle.step.specs.Finishing.{Kept, End, once}
use Rattle.step.specs.declared.finish.Next.{Next}
use Rattle.step.specs.declared.finish.Undone.{Undone}
use Rattle.step.specs.declared.finish.Undone.TheVariants as undone
use Rattle.std.specs.Prelude.{Option, Some, Result, Err}
use Rattle.step.specs.Lawful.{Lawful}
use Rattle.step.proofs.Planning.{was_fetched}
use Rattle.step.proofs.Completing.{told_bad, told_unfitted, kept_same, kept_before, fourth, fetch_lacking, top_once, compares_held, compares_bad, compares_lacking, always_once, write_bad, writes_once, writes_lacking}
use Rattle.instruction.specs.Fields.{Fielded}
use Rattle.instruction.specs.declared.Fields.{Fields}
use Rattle.step.specs.Phases.{word_in}
use mathlib.Core.Bool.{Bool}
use Rattle.instruction.specs.Classes.{class_of_word}
use Rattle.instruction.specs.Sources.{register_of}
use Rattle.step.proofs.phases.step_once.Goals as goal

-- What holds of the sources with N fourth holds of those before.
before : (g : List ℕ) (n p : ℕ) (b : Bool) (main ports trail : List ℕ) (used : ℕ) (a : Result Next Undone) (g' : List ℕ) {x : End} → Kept a (set g 3 n) g'
    → x ≡ once (held (set g 3 n) p b false) (ram main ports) trail used → Kept a g g' × (x ≡ once (held g p b false) (ram main ports) trail used)
before g n p b main ports trail used a g' k e =
    (kept_before a g g' n k, e ∙ ap (λ (m : Machine). once m (ram main ports) trail used) (fourth g n p b false))

-- Once R is taken: the sources with N fourth, with the words still in range, and the word decoded.
decoded : (g : List ℕ) {p : ℕ} {b : Bool} {main ports : List ℕ} {t used w : ℕ} {f : Fields} {class r : ℕ} {o : Option ℕ} → Lawful p (length main) (length ports) t used × (length g ≡ 4)
    → InRange (state (held g p b false) (ram main ports)) → (p ≡ 2 ^ 20 - 1 → ⊥) → o ≡ word_in main p → o ≡ Some w → Fielded w f → class ≡ class_of_word w
    → r ≡ register_of f.rsf (set g 3 (p + 1))
    → InRange (state (held (set g 3 (p + 1)) p b false) (ram main ports)) × Decodes (held (set g 3 (p + 1)) p b false) main f class r
decoded g {p} {b} {main} {ports} {w = w} lawful range not_top fetches word fields classed source =
    let found = was_fetched main p w (sym fetches ∙ word) in
    let low : p + 1 < 2 ^ 20 = omega (arith, lawful.0.p_lt) in
    let n : get_or (set g 3 (p + 1)) 3 0 ≡ next_p (held (set g 3 (p + 1)) p b false) = get_or-set_same g 3 (p + 1) 0 (omega (arith, lawful.1)) ∙ sym (mod-eq_of_lt low) in (
      subst (λ (m : Machine). InRange (state m (ram main ports))) (sym (fourth g (p + 1) p b false)) range,
      record {
        fetches = found.0;
        low = low;
        fields = rw found.1 at fields;
        classed = rw found.1 at classed;
        source = rw (← n) source;
      },
    )

pub returns-in_default : goal.returns-in_default
returns-in_default c =
    (refl, fetch_lacking (held c.args.sources.now c.args.p c.args.b false) c.args.main.now c.args.ports.now c.args.trail.now c.args.used (sym c.word_in.ensures ∙ c.in_default.is))

pub returns-then-p-eq1048575 : goal.returns-then-p-eq1048575
returns-then-p-eq1048575 c = (
  kept_same c.finish_flags.result c.args.sources.now,
  top_once c.args.sources.now _ _ c.args.main.now c.args.ports.now c.requires.in_range (was_fetched c.args.main.now c.args.p _ (sym c.word_in.ensures ∙ c.in-Some.is)).0 c.args.trail.now c.args.used c.if-p-eq1048575.true (c.finish_flags.ensures _ c.args.sources.now),
)

pub returns-in-Ok : goal.returns-in-Ok
returns-in-Ok c =
    let g = set c.args.sources.now 3 (c.args.p + 1) in
    let d = decoded c.args.sources.now c.requires.lawful c.requires.in_range c.if-p-eq1048575.false c.word_in.ensures c.in-Some.is c.of_word-f.ensures c.class_of-class.ensures c.register-r.ensures in
    before c.args.sources.now (c.args.p + 1) _ _ _ _ c.args.trail.now c.args.used c.finish_flags-in-Ok.result g (kept_same c.finish_flags-in-Ok.result g)
    (compares_held g _ _ _ _ _ _ _ d.0 d.1 c.args.trail.now c.args.used c.if-class-eq0.true c.constant_or_read-o.ensures c.in-Ok.is c.compare-test.ensures (c.finish_flags-in-Ok.ensures _ g))

pub returns-in-Err-Bad : goal.returns-in-Err-Bad
returns-in-Err-Bad c =
    let g = set c.args.sources.now 3 (c.args.p + 1) in
    let d = decoded c.args.sources.now c.requires.lawful c.requires.in_range c.if-p-eq1048575.false c.word_in.ensures c.in-Some.is c.of_word-f.ensures c.class_of-class.ensures c.register-r.ensures in
    before c.args.sources.now (c.args.p + 1) _ _ _ _ c.args.trail.now c.args.used c.finish_flags-in-Err-Bad.result g (kept_same c.finish_flags-in-Err-Bad.result g)
    (compares_bad g _ _ _ _ _ _ _ d.0 d.1 c.args.trail.now c.args.used c.if-class-eq0.true c.constant_or_read-o.ensures (told_bad c.in-Err-Bad.is (rw c.in-Err-Bad.is at c.in-Err-Bad.field-0-is)) (c.finish_flags-in-Err-Bad.ensures _ g))

pub returns-in-Err-Unfitted : goal.returns-in-Err-Unfitted
returns-in-Err-Unfitted c =
    let g = set c.args.sources.now 3 (c.args.p + 1) in
    let d = decoded c.args.sources.now c.requires.lawful c.requires.in_range c.if-p-eq1048575.false c.word_in.ensures c.in-Some.is c.of_word-f.ensures c.class_of-class.ensures c.register-r.ensures in
    before c.args.sources.now (c.args.p + 1) _ _ _ _ c.args.trail.now c.args.used (Err undone.Unfitted) g refl
    (compares_lacking g _ _ _ _ _ _ _ d.0 d.1 c.args.trail.now c.args.used c.if-class-eq0.true c.constant_or_read-o.ensures (told_unfitted c.in-Err-Unfitted.is (rw c.in-Err-Unfitted.is at c.in-Err-Unfitted.field-0-is)))

pub returns-then-class-eq1 : goal.returns-then-class-eq1
returns-then-class-eq1 c =
    let g = set c.args.sources.now 3 (c.args.p + 1) in
    let d = decoded c.args.sources.now c.requires.lawful c.requires.in_range c.if-p-eq1048575.false c.word_in.ensures c.in-Some.is c.of_word-f.ensures c.class_of-class.ensures c.register-r.ensures in
    before c.args.sources.now (c.args.p + 1) _ _ _ _ c.args.trail.now c.args.used c.finish_flags-then-class-eq1.result g (kept_same c.finish_flags-then-class-eq1.result g)
    (always_once g _ _ _ _ _ _ _ d.0 d.1 c.args.trail.now c.args.used c.if-class-eq1.true (c.finish_flags-then-class-eq1.ensures _ g))

pub returns-then-at-ge1048576 : goal.returns-then-at-ge1048576
returns-then-at-ge1048576 c =
    let g = set c.args.sources.now 3 (c.args.p + 1) in
    let d = decoded c.args.sources.now c.requires.lawful c.requires.in_range c.if-p-eq1048575.false c.word_in.ensures c.in-Some.is c.of_word-f.ensures c.class_of-class.ensures c.register-r.ensures in
    before c.args.sources.now (c.args.p + 1) _ _ _ _ c.args.trail.now c.args.used c.finish_flags-then-at-ge1048576.result g (kept_same c.finish_flags-then-at-ge1048576.result g)
    (write_bad g _ _ _ _ _ _ _ d.0 d.1 c.args.trail.now c.args.used c.if-class-lt4.true c.if-class-eq0.false c.if-class-eq1.false (omega (arith, c.address-at.ensures, c.if-at-ge1048576.true)) (c.finish_flags-then-at-ge1048576.ensures _ g))

pub returns-then-not-is_fitted : goal.returns-then-not-is_fitted
returns-then-not-is_fitted c =
    let g = set c.args.sources.now 3 (c.args.p + 1) in
    let d = decoded c.args.sources.now c.requires.lawful c.requires.in_range c.if-p-eq1048575.false c.word_in.ensures c.in-Some.is c.of_word-f.ensures c.class_of-class.ensures c.register-r.ensures in
    before c.args.sources.now (c.args.p + 1) _ _ _ _ c.args.trail.now c.args.used (Err undone.Unfitted) g refl
    (writes_lacking g _ _ _ _ _ _ _ d.0 d.1 c.args.trail.now c.args.used c.if-class-lt4.true c.if-class-eq0.false c.if-class-eq1.false (omega (arith, c.address-at.ensures, c.if-at-ge1048576.false)) (rw c.address-at.ensures at c.place_of-place.ensures) c.is_fitted.ensures c.if-not-is_fitted.true)

pub returns-then-class-lt4 : goal.returns-then-class-lt4
returns-then-class-lt4 c =
    let g = set c.args.sources.now 3 (c.args.p + 1) in
    let d = decoded c.args.sources.now c.requires.lawful c.requires.in_range c.if-p-eq1048575.false c.word_in.ensures c.in-Some.is c.of_word-f.ensures c.class_of-class.ensures c.register-r.ensures in
    before c.args.sources.now (c.args.p + 1) _ _ _ _ c.args.trail.now c.args.used c.finish_word.result g (kept_same c.finish_word.result g)
    (writes_once g _ _ _ _ _ _ _ d.0 d.1 c.args.trail.now c.args.used c.if-class-lt4.true c.if-class-eq0.false c.if-class-eq1.false (omega (arith, c.address-at.ensures, c.if-at-ge1048576.false)) (rw c.address-at.ensures at c.place_of-place.ensures) c.is_fitted.ensures c.if-not-is_fitted.false (c.finish_word.ensures g))

pub deliver-requires : goal.deliver-requires
deliver-requires c =
    let sized : length (set c.args.sources.now 3 (c.args.p + 1)) ≡ 4 = length-set c.args.sources.now 3 (c.args.p + 1) ∙ c.requires.lawful.1 in
    let d = decoded c.args.sources.now c.requires.lawful c.requires.in_range c.if-p-eq1048575.false c.word_in.ensures c.in-Some.is c.of_word-f.ensures c.class_of-class.ensures c.register-r.ensures in
    record { lawful = (c.requires.lawful.0, sized); in_range = d.0; decodes = (d.1, c.if-class-lt4.false) }

pub returns : goal.returns
returns c = before c.args.sources.now (c.args.p + 1) _ _ _ _ c.args.trail.now c.args.used c.deliver.result c.deliver.new.sources c.deliver.ensures.0 c.deliver.ensures.1
