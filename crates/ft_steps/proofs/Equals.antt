-- Whether two statements are the same, part by part.
use Rattle.std.proofs.Common.{◌≡◌, ◌≢◌, ℕ, suc, ◌+◌, ◌<◌, ◌≤◌, Bool, true, false, ◌&&◌, List, [], ◌∷◌, refl, sym, ap, ap₂, ◌∙◌, subst, length, drop, get_or}
use Rattle.std.proofs.lemmas.List.{drop_more, get_or_default}
use Rattle.std.proofs.Math.ListN.{drop_of_length-le}
use Rattle.std.proofs.Math.Bool.{and_assoc, and-false}
use Rattle.ft_theory.specs.Expressions.{Expression}
use Rattle.ft_theory.specs.Statements.{Claim, plain}
use Rattle.ft_items.specs.Equal.{equal_claims, equal_expressions, equal_statements}
use Rattle.ft_syntax.specs.Table.{tree}
use Rattle.ft_judge.specs.Meaning.{under}
use Rattle.ft_steps.specs.Parts.{equal_domains, statement_in, claim_in}
use Rattle.ft_steps.specs.declared.parts.Parts.{Parts}

domains_at : (ts : List Expression) (As Bs : List ℕ) (k A B : ℕ) → k < length As → length As ≡ length Bs → A ≡ get_or As k A → B ≡ get_or Bs k B
    → equal_domains ts (drop k As) (drop k Bs) ≡ (equal_expressions (tree ts A) (tree ts B) && equal_domains ts (drop (k + 1) As) (drop (k + 1) Bs))
domains_at ts As Bs k A B l same e f =
    let m : k < length Bs = subst (λ n. k < n) same l in
    ap₂ (equal_domains ts) (drop_more As k 0 l) (drop_more Bs k 0 m)
    ∙ ap₂ (λ A B. equal_expressions (tree ts A) (tree ts B) && equal_domains ts (drop (k + 1) As) (drop (k + 1) Bs)) (get_or_default As k 0 A l ∙ sym e) (get_or_default Bs k 0 B m ∙ sym f)

pub domains_next : (ts : List Expression) (As Bs : List ℕ) (k A B : ℕ) (a b : Bool) → a ≡ equal_domains ts (drop k As) (drop k Bs) → k < length As → length As ≡ length Bs → A ≡ get_or As k A → B ≡ get_or Bs k B
    → b ≡ equal_expressions (tree ts A) (tree ts B) → b ≡ true → a ≡ equal_domains ts (drop (k + 1) As) (drop (k + 1) Bs)
domains_next ts As Bs k A B a b h l s e f g t = h ∙ domains_at ts As Bs k A B l s e f ∙ ap (λ c. c && equal_domains ts (drop (k + 1) As) (drop (k + 1) Bs)) (sym g ∙ t)

pub domains_not : (ts : List Expression) (As Bs : List ℕ) (k A B : ℕ) (a b : Bool) → a ≡ equal_domains ts (drop k As) (drop k Bs) → k < length As → length As ≡ length Bs → A ≡ get_or As k A → B ≡ get_or Bs k B
    → b ≡ equal_expressions (tree ts A) (tree ts B) → b ≡ false → false ≡ a
domains_not ts As Bs k A B a b h l s e f g t = sym (h ∙ domains_at ts As Bs k A B l s e f ∙ ap (λ c. c && equal_domains ts (drop (k + 1) As) (drop (k + 1) Bs)) (sym g ∙ t))

pub domains_end : (ts : List Expression) (As Bs : List ℕ) (k : ℕ) (a : Bool) → a ≡ equal_domains ts (drop k As) (drop k Bs) → length As ≡ length Bs → length As ≤ k → true ≡ a
domains_end ts As Bs k a h s l = sym (h ∙ ap₂ (equal_domains ts) (drop_of_length-le As l) (drop_of_length-le Bs (subst (λ n. n ≤ k) s l)))

under_same : (ts : List Expression) (As Bs : List ℕ) (c d : Claim) → (equal_domains ts As Bs && equal_claims c d) ≡ equal_statements (under ts As (plain c)) (under ts Bs (plain d))
under_same ts [] [] c d = refl
under_same ts [] (B ∷ Bs) c d = refl
under_same ts (A ∷ As) [] c d = refl
under_same ts (A ∷ As) (B ∷ Bs) c d =
    and_assoc (equal_expressions (tree ts A) (tree ts B)) (equal_domains ts As Bs) (equal_claims c d)
    ∙ ap (λ b. equal_expressions (tree ts A) (tree ts B) && b) (under_same ts As Bs c d)

lengths_differ : (ts : List Expression) (As Bs : List ℕ) → length As ≢ length Bs → equal_domains ts As Bs ≡ false
lengths_differ ts [] [] n = absurd (n refl)
lengths_differ ts [] (B ∷ Bs) n = refl
lengths_differ ts (A ∷ As) [] n = refl
lengths_differ ts (A ∷ As) (B ∷ Bs) n = ap (λ b. equal_expressions (tree ts A) (tree ts B) && b) (lengths_differ ts As Bs (λ e. n (ap suc e))) ∙ and-false (equal_expressions (tree ts A) (tree ts B))

pub other_statements : (ts : List Expression) (x y : Parts) → length x.domains.now ≢ length y.domains.now → false ≡ equal_statements (statement_in ts x) (statement_in ts y)
other_statements ts x y n = ap (λ b. b && equal_claims (claim_in ts x.claim) (claim_in ts y.claim)) (sym (lengths_differ ts x.domains.now y.domains.now n)) ∙ under_same ts x.domains.now y.domains.now (claim_in ts x.claim) (claim_in ts y.claim)

pub other_domains : (ts : List Expression) (x y : Parts) (b : Bool) → b ≡ equal_domains ts x.domains.now y.domains.now → b ≡ false → false ≡ equal_statements (statement_in ts x) (statement_in ts y)
other_domains ts x y b e f = ap (λ b. b && equal_claims (claim_in ts x.claim) (claim_in ts y.claim)) (sym f ∙ e) ∙ under_same ts x.domains.now y.domains.now (claim_in ts x.claim) (claim_in ts y.claim)

pub same_under : (ts : List Expression) (x y : Parts) (b c : Bool) → b ≡ equal_domains ts x.domains.now y.domains.now → b ≡ true → c ≡ equal_claims (claim_in ts x.claim) (claim_in ts y.claim)
    → c ≡ equal_statements (statement_in ts x) (statement_in ts y)
same_under ts x y b c e f g = g ∙ ap (λ b. b && equal_claims (claim_in ts x.claim) (claim_in ts y.claim)) (sym f ∙ e) ∙ under_same ts x.domains.now y.domains.now (claim_in ts x.claim) (claim_in ts y.claim)
