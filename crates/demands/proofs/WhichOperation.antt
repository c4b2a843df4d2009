-- Document 02, W7: on a sound trail the answer is that of decoding all records and picking the newest that holds the place; so in a session it is the newest
-- operation still listed that changed the word, and as many take-backs as it answers bring the word back that it answers.
-- Assumes nothing.
use Prim.Native.Nat.{ℕ, zero, suc, ◌+◌, ◌-◌, ◌≤◌}
use mathlib.Core.Path.{◌≡◌, refl, ap, sym, ◌∙◌, subst}
use mathlib.Core.Bool.{Bool, true, false, cond}
use mathlib.Core.Option.{Option, some}
use mathlib.Core.List.{List, [], ◌∷◌, ◌++◌, append-nil, append_assoc}
use Rattle.std.specs.Prelude.{Ok, Err, Some, None}
use native.Mathlib.Omega.{arith}
use lib.ListN.{length, take, replicate, length-append}
use borrow.Author.Tests.{le-ltb, eqb-true, not-false}
use Rattle.report.specs.Section3.{State}
use Rattle.report.specs.Parts.{word_at}
use Rattle.machine.specs.Held.{where_of}
use Rattle.machine.specs.declared.Place.{Place}
use Rattle.trail.specs.declared.OldValues.{OldValues}
use Rattle.trail.specs.Newest.{read_back}
use Rattle.moving.specs.Rows.{row, GoodRow, records_of}
use Rattle.moving.proofs.Division as division
use Rattle.seeking.specs.Seeking.{holds, Sought, found, never, by_newest, from_end, sought, pick}
use Rattle.seeking.proofs.Walking as walking
use Rattle.seeking.proofs.Changing.{holds_changed, value_before}
use Rattle.viper.specs.Operations.{Bench, Operation, back, next, kind_of, writes_at}
use Rattle.viper.specs.TakingBack.{back_outcome}
use Rattle.viper.specs.Refusals.{Answer}
use Rattle.demands.specs.Histories.{Valid, Session, through, struck, after}
use Rattle.demands.specs.Hits.{made_by, changes, NoneChanges, Hit}
use Rattle.demands.proofs.Undoing.{touched}
use Rattle.demands.proofs.WhoMadeThem.{made, FitRow, made_good, made_fit, trace_row}
use Rattle.demands.proofs.ThirdDemand.{Fair, through_valid, Kept, kept_session, kept_back, back_answer}

-- ---- a sound trail: its bytes in use are records in a row, and the places of all of them are fitted

module _ (main ports : ℕ) (trail : List ℕ) (q : Place) where
  decoded : (es : List OldValues) (deep used : ℕ) → records_of true trail used ≡ some es → FitRow main ports es → from_end main ports trail q deep used ≡ pick q deep es
  decoded [] deep used p f = go used p
    where
      go : (u : ℕ) → records_of true trail u ≡ some [] → from_end main ports trail q deep u ≡ never
      go zero r = walking.none_of main ports trail q deep
      go (suc n) r =
          let w = (division.parted true trail (suc n) [] (omega arith) r).whole in
          cc
  decoded (e ∷ es) deep used p f = go used p (decoded es (deep + 1))
    where
      go : (u : ℕ) → records_of true trail u ≡ some (e ∷ es) → ((n : ℕ) → records_of true trail n ≡ some es → FitRow main ports es → from_end main ports trail q (deep + 1) n ≡ pick q (deep + 1) es)
          → from_end main ports trail q deep u ≡ pick q deep (e ∷ es)
      go zero r ih =
          let w : ◌≡◌ {A = Option (List OldValues)} (some []) (some (e ∷ es)) = sym (division.none_of true trail) ∙ r in
          cc
      go (suc n) r ih =
          let w = division.parted true trail (suc n) (e ∷ es) (omega arith) r in
          let whole = w.whole in
          let same : w.entry ≡ e = cc in
          let others : w.older ≡ es = cc in
          let last = w.last ∙ ap (λ (x : OldValues). read_back x w.left) same in
          let at = walking.fitted_newest main ports trail (suc n) e w.left f.0 last in
          walking.one_more main ports trail q deep (suc n) (omega arith)
          ∙ ap (λ (x : _). by_newest q deep x (λ m. from_end main ports trail q (deep + 1) m)) at
          ∙ ap (cond (holds q e) (found deep e)) (ih w.left (w.before ∙ ap some others) f.1)

  -- All records decoded, the newest first, and the newest match picked.
  pub sound_decoded : (used : ℕ) (es : List OldValues) → used ≤ length trail → records_of true trail used ≡ some es → FitRow main ports es → sought main ports trail used q ≡ pick q 1 es
  unfolding sought
  sound_decoded used es h p f = rw (le-ltb (length trail) used h) (decoded es 1 used p f)

  -- The same of records in a row.
  pub sound_row : (used : ℕ) (es : List OldValues) → used ≤ length trail → take used trail ≡ row true es → GoodRow true es → FitRow main ports es → sought main ports trail used q ≡ pick q 1 es
  sound_row used es h p g f = sound_decoded used es h (division.row_reads true trail es used h p g) f

-- ---- what was found can be read off

back_in : Sought → ℕ
back_in (Ok (Some h)) = h.back
back_in (Ok None) = 0
back_in (Err r) = 0

values_in : OldValues → Sought → OldValues
values_in o (Ok (Some h)) = h.values
values_in o (Ok None) = o
values_in o (Err r) = o

found_same : {m n : ℕ} {o e : OldValues} → found m o ≡ found n e → (m ≡ n) × (o ≡ e)
unfolding back_in values_in
found_same {m} {n} {o} {e} p = (ap back_in p, ap (values_in o) p)

-- ---- a record holds the place exactly if its operation changed the word

held_changed : (q : Place) (e : Operation) (l : List Operation) (s : State) → Valid s → Fair (e ∷ l) s → holds q (made_by e l s) ≡ changes q e l s
held_changed q e l s ok f =
    holds_changed q (kind_of e) (through l s) (next e (through l s)) (writes_at e (through l s)) (touched e (through l s) (through_valid l s ok f.2) f.0)

-- The same as a hit, where the newest of the list is `deep` operations back.
record HitFrom (q : Place) (deep : ℕ) (l : List Operation) (s : State) (n : ℕ) (o : OldValues) : Type 0 where
  newer : List Operation
  operation : Operation
  older : List Operation
  whole : l ≡ newer ++ (operation ∷ older)
  count : n ≡ length newer + deep
  values : o ≡ made_by operation older s
  changed : changes q operation older s ≡ true
  not_since : NoneChanges q newer (operation ∷ older) s

hit_from : (q : Place) (deep : ℕ) (l : List Operation) (s : State) → Valid s → Fair l s → (n : ℕ) (o : OldValues) → pick q deep (made l s) ≡ found n o → HitFrom q deep l s n o
hit_from q deep [] s ok f n o p = let z : ◌≡◌ {A = ℕ} 0 1 = cc in absurd (omega arith)
hit_from q deep (e ∷ l) s ok f n o p = go (holds q (made_by e l s)) refl p (hit_from q (deep + 1) l s ok f.2 n o)
  where
    go : (t : Bool) → holds q (made_by e l s) ≡ t → cond t (found deep (made_by e l s)) (pick q (deep + 1) (made l s)) ≡ found n o
        → (pick q (deep + 1) (made l s) ≡ found n o → HitFrom q (deep + 1) l s n o)
        → HitFrom q deep (e ∷ l) s n o
    go true h r ih =
        let same = found_same r in
        let m = same.0 in
        let v = same.1 in
        record { newer = []; operation = e; older = l; whole = refl; count = omega (arith, m); values = sym v; changed = sym (held_changed q e l s ok f) ∙ h; not_since = tt }
    go false h r ih =
        let g = ih r in
        record {
          newer = e ∷ g.newer;
          operation = g.operation;
          older = g.older;
          whole = ap (λ (x : List Operation). e ∷ x) g.whole;
          count = omega (arith, g.count);
          values = g.values;
          changed = g.changed;
          not_since = (ap (λ (x : List Operation). changes q e x s) (sym g.whole) ∙ sym (held_changed q e l s ok f) ∙ h, g.not_since);
        }

picks_hit : (q : Place) (deep : ℕ) (newer : List Operation) (e : Operation) (older : List Operation) (s : State) → Valid s → Fair (newer ++ (e ∷ older)) s
    → changes q e older s ≡ true
    → NoneChanges q newer (e ∷ older) s
    → pick q deep (made (newer ++ (e ∷ older)) s) ≡ found (length newer + deep) (made_by e older s)
picks_hit q deep [] e older s ok f c g =
    let m : deep ≡ 0 + deep = omega arith in
    ap (λ (t : Bool). cond t (found deep (made_by e older s)) (pick q (deep + 1) (made older s))) (held_changed q e older s ok f ∙ c)
    ∙ ap (λ (k : ℕ). found k (made_by e older s)) m
picks_hit q deep (x ∷ newer) e older s ok f c g =
    let l = newer ++ (e ∷ older) in
    let m : length newer + (deep + 1) ≡ length (x ∷ newer) + deep = omega arith in
    ap (λ (t : Bool). cond t (found deep (made_by x l s)) (pick q (deep + 1) (made l s))) (held_changed q x l s ok f ∙ g.0)
    ∙ picks_hit q (deep + 1) newer e older s ok f.2 c g.1
    ∙ ap (λ (k : ℕ). found k (made_by e older s)) m

never_from : (q : Place) (deep : ℕ) (l : List Operation) (s : State) → Valid s → Fair l s → pick q deep (made l s) ≡ never → NoneChanges q l [] s
never_from q deep [] s ok f p = tt
never_from q deep (e ∷ l) s ok f p = go (holds q (made_by e l s)) refl p (never_from q (deep + 1) l s ok f.2)
  where
    go : (t : Bool) → holds q (made_by e l s) ≡ t → cond t (found deep (made_by e l s)) (pick q (deep + 1) (made l s)) ≡ never
        → (pick q (deep + 1) (made l s) ≡ never → NoneChanges q l [] s)
        → NoneChanges q (e ∷ l) [] s
    go true h r ih = let z : ◌≡◌ {A = ℕ} 0 1 = cc in absurd (omega arith)
    go false h r ih = (ap (λ (x : List Operation). changes q e x s) (append-nil l) ∙ sym (held_changed q e l s ok f) ∙ h, ih r)

none_from : (q : Place) (deep : ℕ) (l : List Operation) (s : State) → Valid s → Fair l s → NoneChanges q l [] s → pick q deep (made l s) ≡ never
none_from q deep [] s ok f g = refl
none_from q deep (e ∷ l) s ok f g =
    let h : holds q (made_by e l s) ≡ false = held_changed q e l s ok f ∙ ap (λ (x : List Operation). changes q e x s) (sym (append-nil l)) ∙ g.0 in
    ap (λ (t : Bool). cond t (found deep (made_by e l s)) (pick q (deep + 1) (made l s))) h ∙ none_from q (deep + 1) l s ok f.2 g.1

-- The word is the same before and after operations of which none changed it.
not_changed : (q : Place) (newer older : List Operation) (s : State) → NoneChanges q newer older s → word_at (through (newer ++ older) s).0 (where_of q) ≡ word_at (through older s).0 (where_of q)
not_changed q [] older s g = refl
not_changed q (e ∷ newer) older s g =
    let l = newer ++ older in
    sym (eqb-true (word_at (through l s).0 (where_of q)) (word_at (through (e ∷ l) s).0 (where_of q)) (not-false _ g.0))
    ∙ not_changed q newer older s g.1

-- ---- in a session

-- What `find` answers on a bench.
abbrev pub sought_on : Bench → Place → Sought
sought_on b q = sought (length b.state.0.main) (length b.state.0.ports) b.trail b.used q

module _ (b₀ : Bench) (ok : Valid b₀.state) where
  found_kept : (q : Place) (b : Bench) (l : List Operation) → Kept b₀ b l → sought_on b q ≡ pick q 1 (made l b₀.state)
  found_kept q b l k =
      let h = k.history in
      let s = b₀.state in
      ap (λ (n : ℕ). sought n (length b.state.0.ports) b.trail b.used q) h.sizes.main
      ∙ ap (λ (n : ℕ). sought (length s.0.main) n b.trail b.used q) h.sizes.ports
      ∙ sound_row (length s.0.main) (length s.0.ports) b.trail q b.used (made l s) h.within (h.in_use ∙ trace_row l s) (made_good l s ok k.fair) (made_fit l s ok k.fair)

  -- Some operations taken back, the newest first.
  kept_some_back : (newer : List Operation) (b : Bench) (l : List Operation) → Kept b₀ b (newer ++ l) → Kept b₀ (after (replicate (length newer) back) b) l
  unfolding after
  kept_some_back [] b l k = k
  kept_some_back (e ∷ newer) b l k =
      kept_some_back newer (back_outcome b).bench l
      (subst (λ (a : Answer). Kept b₀ (back_outcome b).bench (struck a (e ∷ (newer ++ l)))) (back_answer b₀ ok b (e ∷ (newer ++ l)) k) (kept_back b₀ ok b (e ∷ (newer ++ l)) k))

  module _ (z : b₀.used ≡ 0) {b : Bench} {l : List Operation} (t : Session b₀ b l) (q : Place) where
    -- The answer is that of picking from the records of the operations still listed; so it is never a refusal.
    pub session_find : sought_on b q ≡ pick q 1 (made l b₀.state)
    session_find = found_kept q b l (kept_session b₀ ok z t)

    -- The count back n names the n-th newest operation still listed, and that is the newest listed that changed the word;
    pub session_hit : (n : ℕ) (o : OldValues) → sought_on b q ≡ found n o → Hit q l b₀.state n o
    session_hit n o p =
        let g = hit_from q 1 l b₀.state ok (kept_session b₀ ok z t).fair n o (sym session_find ∙ p) in
        record { newer = g.newer; operation = g.operation; older = g.older; whole = g.whole; count = g.count; values = g.values; changed = g.changed; not_since = g.not_since }

    -- if one did, it is found;
    pub hit_found : (n : ℕ) (o : OldValues) → Hit q l b₀.state n o → sought_on b q ≡ found n o
    hit_found n o h =
        let s = b₀.state in
        let f : Fair (h.newer ++ (h.operation ∷ h.older)) s = subst (λ (x : List Operation). Fair x s) h.whole (kept_session b₀ ok z t).fair in
        session_find
        ∙ ap (λ (x : List Operation). pick q 1 (made x s)) h.whole
        ∙ picks_hit q 1 h.newer h.operation h.older s ok f h.changed h.not_since
        ∙ ap (λ (k : ℕ). found k (made_by h.operation h.older s)) (sym h.count)
        ∙ ap (found n) (sym h.values)

    -- and never means that none did.
    pub session_never : sought_on b q ≡ never → NoneChanges q l [] b₀.state
    session_never p = never_from q 1 l b₀.state ok (kept_session b₀ ok z t).fair (sym session_find ∙ p)

    pub none_found : NoneChanges q l [] b₀.state → sought_on b q ≡ never
    none_found g = session_find ∙ none_from q 1 l b₀.state ok (kept_session b₀ ok z t).fair g

    -- There is one.
    pub hit_once : (n m : ℕ) (o e : OldValues) → Hit q l b₀.state n o → Hit q l b₀.state m e → (n ≡ m) × (o ≡ e)
    hit_once n m o e f g =
        found_same (sym (hit_found n o f) ∙ hit_found m e g)

    module _ (n : ℕ) (o : OldValues) (h : Hit q l b₀.state n o) where
      listed_here : Kept b₀ b (h.newer ++ (h.operation ∷ h.older))
      listed_here = subst (λ (x : List Operation). Kept b₀ b x) h.whole (kept_session b₀ ok z t)

      -- n - 1 take-backs bring the bench to the state right after it,
      pub right_after : (after (replicate (n - 1) back) b).state ≡ through (h.operation ∷ h.older) b₀.state
      right_after =
          let m : n - 1 ≡ length h.newer = omega (arith, h.count) in
          ap (λ (k : ℕ). (after (replicate k back) b).state) m
          ∙ (kept_some_back h.newer b (h.operation ∷ h.older) listed_here).history.state

      -- n to the state right before it,
      pub right_before : (after (replicate n back) b).state ≡ through h.older b₀.state
      right_before =
          let newer = h.newer ++ (h.operation ∷ []) in
          let m : n ≡ length newer = h.count ∙ sym (length-append h.newer (h.operation ∷ [])) in
          let k : Kept b₀ b (newer ++ h.older) = subst (λ (x : List Operation). Kept b₀ b x) (sym (append_assoc h.newer (h.operation ∷ []) h.older)) listed_here in
          ap (λ (j : ℕ). (after (replicate j back) b).state) m
          ∙ (kept_some_back newer b h.older k).history.state

      -- and there the word has the value answered.
      pub word_before : word_at (after (replicate n back) b).state.0 (where_of q) ≡ o.value
      word_before =
          let s = b₀.state in
          let e = h.operation in
          let was = through h.older s in
          let f = (kept_some_back h.newer b (e ∷ h.older) listed_here).fair in
          let held : holds q (made_by e h.older s) ≡ true = held_changed q e h.older s ok f ∙ h.changed in
          ap (λ (x : State). word_at x.0 (where_of q)) right_before
          ∙ sym (value_before q (kind_of e) was (next e was) (writes_at e was) (touched e was (through_valid h.older s ok f.2) f.0) held)
          ∙ ap (λ (x : OldValues). x.value) (sym h.values)

      -- What stands there now is what it left.
      pub word_now : word_at b.state.0 (where_of q) ≡ word_at (through (h.operation ∷ h.older) b₀.state).0 (where_of q)
      word_now =
          ap (λ (x : State). word_at x.0 (where_of q)) listed_here.history.state
          ∙ not_changed q h.newer (h.operation ∷ h.older) b₀.state h.not_since
