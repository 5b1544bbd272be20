-- The text of domains, and of what stands below them.
use Rattle.std.proofs.Common.{◌≡◌, ◌∙◌, sym, ap, subst, ℕ, zero, suc, ◌+◌, ◌<◌, List, [], ◌∷◌, ◌++◌, length, take, slice_get, Some, append_assoc, append-nil, Result, Ok, Err, OnOk, arith}
use Rattle.ft_common.proofs.Options.{none_some}
use Rattle.ft_theory.specs.Expressions.{Expression}
use Rattle.ft_theory.specs.Statements.{Claim, plain}
use Rattle.ft_items.specs.Store.{Declarations}
use Rattle.ft_syntax.specs.Table.{tree, AllBelow}
use Rattle.ft_judge.specs.Meaning.{under}
use Rattle.ft_meaning.specs.Texts.{Text, claim_text, statement_text}
use Rattle.ft_print.specs.Domains.{domain_text, domains_text}
use Rattle.ft_print.proofs.Joining.{written_next}

-- one of the expressions is in the table
pub below_at : (n : ℕ) (es : List ℕ) (i e : ℕ) → AllBelow n es → slice_get es i ≡ Some e → e < n
below_at n [] i e h g = none_some g
below_at n (d ∷ ds) zero e h g = let same : d ≡ e = cc in subst (λ d. d < n) same h.0
below_at n (d ∷ ds) (suc i) e h g = below_at n ds i e h.1 g

none_more : (n : ℕ) → n + 0 ≡ n
none_more n = omega arith

one_more : (n k : ℕ) → suc n + k ≡ n + suc k
one_more n k = omega arith

-- one more domain
pub domains_next : (W : Declarations) (vs : List ℕ) (ts : List Expression) (n : ℕ) (ds : List ℕ) (i d : ℕ) → slice_get ds i ≡ Some d
    → domains_text W vs ts n (take (suc i) ds) ≡ domains_text W vs ts n (take i ds) ++ domain_text W vs (n + i) (tree ts d)
domains_next W vs ts n [] i d g = none_some g
domains_next W vs ts n (c ∷ ds) zero d g =
    let same : c ≡ d = cc in
    append-nil (domain_text W vs n (tree ts c)) ∙ ap (λ c. domain_text W vs n (tree ts c)) same ∙ ap (λ n. domain_text W vs n (tree ts d)) (sym (none_more n))
domains_next W vs ts n (c ∷ ds) (suc i) d g =
    let x = domain_text W vs n (tree ts c) in
    ap (λ z. x ++ z) (domains_next W vs ts (suc n) ds i d g) ∙ sym (append_assoc x (domains_text W vs ts (suc n) (take i ds)) (domain_text W vs (suc n + i) (tree ts d)))
    ∙ ap (λ m. (x ++ domains_text W vs ts (suc n) (take i ds)) ++ domain_text W vs m (tree ts d)) (one_more n i)

-- the domains, and then what stands below them
under_text : (W : Declarations) (vs : List ℕ) (ts : List Expression) (n : ℕ) (ds : List ℕ) (c : Claim) → statement_text W vs n (under ts ds (plain c)) ≡ domains_text W vs ts n ds ++ claim_text W vs (n + length ds) c
under_text W vs ts n [] c = ap (λ n. claim_text W vs n c) (sym (none_more n))
under_text W vs ts n (d ∷ ds) c =
    let x = domain_text W vs n (tree ts d) in
    ap (λ z. x ++ z) (under_text W vs ts (suc n) ds c) ∙ sym (append_assoc x (domains_text W vs ts (suc n) ds) (claim_text W vs (suc n + length ds) c))
    ∙ ap (λ m. (x ++ domains_text W vs ts (suc n) ds) ++ claim_text W vs m c) (one_more n (length ds))

none_before : (n : ℕ) → 0 + n ≡ n
none_before n = omega arith

pub statement_written : {A E : Type 0} (r : Result A E) (W : Declarations) (vs : List ℕ) (ts : List Expression) (ds es : List ℕ) (c : Claim) (old mid new : Text) → ds ≡ es → mid ≡ old ++ domains_text W vs ts 0 ds
    → OnOk r (new ≡ mid ++ claim_text W vs (length ds) c) → OnOk r (new ≡ old ++ statement_text W vs 0 (under ts es (plain c)))
statement_written (Ok a) W vs ts ds es c old mid new same m e =
    e ∙ ap (λ z. z ++ claim_text W vs (length ds) c) m ∙ append_assoc old (domains_text W vs ts 0 ds) (claim_text W vs (length ds) c)
    ∙ ap (λ z. old ++ z) (ap (λ n. domains_text W vs ts 0 ds ++ claim_text W vs n c) (sym (none_before (length ds))) ∙ sym (under_text W vs ts 0 ds c))
    ∙ ap (λ ds. old ++ statement_text W vs 0 (under ts ds (plain c))) same
statement_written (Err f) W vs ts ds es c old mid new same m e = tt

-- one more domain, as it is written
pub domain_written : (W : Declarations) (vs : List ℕ) (ts : List Expression) (ds : List ℕ) (i d : ℕ) (old out new : Text) → slice_get ds i ≡ Some d → out ≡ old ++ domains_text W vs ts 0 (take i ds) → new ≡ out ++ domain_text W vs i (tree ts d)
    → new ≡ old ++ domains_text W vs ts 0 (take (suc i) ds)
domain_written W vs ts ds i d old out new g o e =
    written_next old (domains_text W vs ts 0 (take i ds)) (domain_text W vs i (tree ts d)) out new (domains_text W vs ts 0 (take (suc i) ds))
    (domains_next W vs ts 0 ds i d g ∙ ap (λ n. domains_text W vs ts 0 (take i ds) ++ domain_text W vs n (tree ts d)) (none_before i)) o e
