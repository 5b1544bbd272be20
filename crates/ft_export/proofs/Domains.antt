-- The text of domains, and of what stands below them.
use Rattle.std.proofs.Common.{◌≡◌, ◌∙◌, sym, ap, refl, subst, ℕ, zero, suc, ◌<◌, List, [], ◌∷◌, ◌++◌, map, take, slice_get, Some, codes, append_assoc}
use Rattle.ft_theory.specs.Expressions.{Expression}
use Rattle.ft_theory.specs.Small.{IsSmall}
use Rattle.ft_theory.specs.Statements.{Claim, plain, AllOfClaim, AllOfStatement}
use Rattle.ft_items.specs.Texts.{expression_text, claim_text, statement_text, ItsNumbersFit, StatementFits}
use Rattle.ft_syntax.specs.Table.{tree, AllBelow}
use Rattle.ft_judge.specs.Meaning.{under}
use Rattle.ft_export.specs.Statements.{domain_text, domains_text, lettered_text, EachFits}
use Rattle.ft_export.proofs.Joining.{flat_next, further, further_next, glue}

-- one of the expressions is in the table
pub below_at : (n : ℕ) (es : List ℕ) (i e : ℕ) → AllBelow n es → slice_get es i ≡ Some e → e < n
below_at n [] i e h g = cc
below_at n (d ∷ ds) zero e h g = let same : d ≡ e = cc in subst (λ d. d < n) same h.0
below_at n (d ∷ ds) (suc i) e h g = below_at n ds i e h.1 g

-- one more expression
pub each_next : (ts : List Expression) (es : List ℕ) (i e : ℕ) → EachFits ts (take i es) → slice_get es i ≡ Some e → IsSmall (tree ts e) → ItsNumbersFit (tree ts e) → EachFits ts (take (suc i) es)
each_next ts [] i e h g s n = cc
each_next ts (d ∷ ds) zero e h g s n = let same : e ≡ d = cc in subst (λ d. EachFits ts (d ∷ [])) same ((s, n), tt)
each_next ts (d ∷ ds) (suc i) e h g s n = (h.0, each_next ts ds i e h.1 g s n)

-- one more domain
pub domain_next : (ts : List Expression) (es : List ℕ) (i e : ℕ) (old out a b new : List ℕ) → slice_get es i ≡ Some e → out ≡ old ++ domains_text ts (take i es)
    → a ≡ out ++ codes "{" → b ≡ a ++ expression_text (tree ts e) → new ≡ b ++ codes "}" → new ≡ old ++ domains_text ts (take (suc i) es)
domain_next ts es i e old out a b new g o p q n =
    let x = expression_text (tree ts e) in
    let d = domains_text ts (take i es) in
    n ∙ ap (λ z. z ++ codes "}") (q ∙ ap (λ z. z ++ x) p) ∙ sym (glue out (codes "{") x (codes "}")) ∙ ap (λ z. z ++ domain_text ts e) o
    ∙ append_assoc old d (domain_text ts e) ∙ ap (λ z. old ++ z) (sym (flat_next (domain_text ts) es i e g))

-- one more expression after a letter
pub lettered_next : (ts : List Expression) (letter : List ℕ) (es : List ℕ) (i e : ℕ) (old out a new : List ℕ) → slice_get es i ≡ Some e → out ≡ old ++ lettered_text ts letter (take i es)
    → a ≡ out ++ codes " " → new ≡ a ++ expression_text (tree ts e) → new ≡ old ++ lettered_text ts letter (take (suc i) es)
lettered_next ts letter es i e old out a new g o p n =
    let x = expression_text (tree ts e) in
    let f : ℕ → List ℕ = λ e. expression_text (tree ts e) in
    n ∙ ap (λ z. z ++ x) (p ∙ ap (λ z. z ++ codes " ") o) ∙ sym (glue old (lettered_text ts letter (take i es)) (codes " ") x)
    ∙ ap (λ z. old ++ z) (sym (ap (λ z. letter ++ z) (further_next f (codes " ") es i e g) ∙ glue letter (further_of (map f (take i es))) (codes " ") x))
  where
    further_of : List (List ℕ) → List ℕ
    further_of xs = further (codes " ") xs

-- the domains, and then what stands below them
under_text : (ts : List Expression) (ds : List ℕ) (c : Claim) → statement_text (under ts ds (plain c)) ≡ domains_text ts ds ++ claim_text c
under_text ts [] c = refl
under_text ts (d ∷ ds) c =
    ap (λ z. domain_text ts d ++ z) (under_text ts ds c) ∙ sym (append_assoc (domain_text ts d) (domains_text ts ds) (claim_text c))

pub under_written : (ts : List Expression) (ds : List ℕ) (c : Claim) (old mid new : List ℕ) → mid ≡ old ++ domains_text ts ds → new ≡ mid ++ claim_text c → new ≡ old ++ statement_text (under ts ds (plain c))
under_written ts ds c old mid new m n =
    n ∙ ap (λ z. z ++ claim_text c) m ∙ append_assoc old (domains_text ts ds) (claim_text c) ∙ ap (λ z. old ++ z) (sym (under_text ts ds c))

pub under_fits : (ts : List Expression) (ds : List ℕ) (c : Claim) → EachFits ts ds → AllOfClaim (λ e. IsSmall e × ItsNumbersFit e) c → StatementFits (under ts ds (plain c))
under_fits ts ds c h k = go ds 0 h
  where
    go : (ds : List ℕ) (n : ℕ) → EachFits ts ds → AllOfStatement (λ k e. IsSmall e × ItsNumbersFit e) n (under ts ds (plain c))
    go [] n h = k
    go (d ∷ ds) n h = (h.0, go ds (suc n) h.1)
