-- Numbers that are a word's fields make its fields: what is known of their width has one proof.
-- Assumes nothing.
use Rattle.std.proofs.Common.{◌≡◌, ℕ, ◌^◌, ◌<◌, ap, ◌∙◌, subst}
use Rattle.std.specs.Coded.{le_prop}
use Rattle.instruction.specs.declared.Fields.{Fields}
use Rattle.instruction.specs.Fields.{Fielded, fields_of}

abbrev made : (r m d s a : ℕ) → r < 4 → m < 4 → a < 2 ^ 20 → Fields
made r m d s a p q l = record { rsf = r; msf = m; dsf = d; fsf = s; addr = a; rsf_lt = p; msf_lt = q; addr_lt = l }

same_widths : (r m d s a : ℕ) (p p' : r < 4) (q q' : m < 4) (l l' : a < 2 ^ 20) → made r m d s a p q l ≡ made r m d s a p' q' l'
same_widths r m d s a p p' q q' l l' =
    ap (λ (p : r < 4). made r m d s a p q l) (le_prop p p')
    ∙ (ap (λ (q : m < 4). made r m d s a p' q l) (le_prop q q')
    ∙ ap (λ (l : a < 2 ^ 20). made r m d s a p' q' l) (le_prop l l'))

pub fields_are : {w : ℕ} {f : Fields} → Fielded w f → f ≡ fields_of w
fields_are {w} {f} e =
    subst (λ (r : ℕ). (p : r < 4) → f ≡ made r (fields_of w).msf (fields_of w).dsf (fields_of w).fsf (fields_of w).addr p (fields_of w).msf_lt (fields_of w).addr_lt) e.of_rsf
    (λ p. subst (λ (m : ℕ). (q : m < 4) → f ≡ made f.rsf m (fields_of w).dsf (fields_of w).fsf (fields_of w).addr p q (fields_of w).addr_lt) e.of_msf
    (λ q. subst (λ (a : ℕ). (l : a < 2 ^ 20) → f ≡ made f.rsf f.msf (fields_of w).dsf (fields_of w).fsf a p q l) e.of_addr
    (λ l. rw (← e.of_dsf, ← e.of_fsf) (same_widths f.rsf f.msf f.dsf f.fsf f.addr f.rsf_lt p f.msf_lt q f.addr_lt l))
    (fields_of w).addr_lt)
    (fields_of w).msf_lt)
    (fields_of w).rsf_lt
