use Rattle.std.proofs.Common.{rules, sym, ap, subst, ◌∙◌, ◌≡◌, ◌≤◌, ◌+◌, ◌-◌, ◌++◌, ℕ, List, length, take, drop, le_refl, drop_at, length-take-le}
use Rattle.std.specs.Io.KnownBytes.{Consumes}
use Rattle.std.proofs.KnownBytes.{Consumes-trans}
use Rattle.std.proofs.lemmas.Slice.{take-put_mid_below}
use borrow.Rule.Slice.PartMut.{put_mid, post_of}
use lib.Seq.{take-add, take-append-le}
use Rattle.std.proofs.Common.{arith}
use Rattle.console.proofs.read_full.Goals as goal

-- After a read of n bytes into the part behind the first `done`, the front is what it was, and then those n.
more_read : (done k n : ℕ) (bytes part : List ℕ) → done ≤ length bytes → n ≤ length part → take done bytes ++ take n part ≡ take (done + n) (put_mid done k bytes part)
more_read done k n bytes part within fits =
    let rest = post_of done k bytes in
    let front = take-put_mid_below done k bytes part done (le_refl done) within in
    let behind = ap (take n) (drop_at (take done bytes) (part ++ rest) done (length-take-le done bytes within)) ∙ take-append-le n part rest fits in
    sym (take-add done n (put_mid done k bytes part) ∙ ap (λ l. l ++ take n (drop done (put_mid done k bytes part))) front ∙ ap (λ l. take done bytes ++ l) behind)

pub loop-done-preserved : goal.loop-done-preserved
loop-done-preserved g c =
    let read = c.in_ok-n.ensures in
    let joined = more_read c.loop-done.done (length c.loop-done.bytes - c.loop-done.done) c.in_ok-n.n c.loop-done.bytes c.read.new.buf c.loop-done.invariant.0 read.bound.0 in
    (search rules, subst (Consumes _ _) joined (Consumes-trans _ _ _ _ _ c.loop-done.invariant.1 read.bytes.0))

pub returns-after-loop-done-clause-end : goal.returns-after-loop-done-clause-end
returns-after-loop-done-clause-end g c = λ more. absurd (omega arith)
