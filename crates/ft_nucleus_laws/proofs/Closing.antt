-- Closing over a variable keeps an expression small, so abstraction does.
use Rattle.std.proofs.Common.{◌≡◌, ℕ, zero, suc, ◌+◌, ◌*◌, ◌^◌, ◌<◌, ◌≤◌, max, nat_eq, refl, sym, ap, ap₂, subst, arith, Some}
use Rattle.ft_common.proofs.Choices.{if_both}
use Rattle.ft_theory.specs.Expressions.{Expression, bound, free, symbol, meta, Arguments, no_arguments, with_body, dummy, Terms, no_terms, also, close_at, close_arguments, close_terms}
use Rattle.ft_theory.specs.Statements.{Claim, is_type, has_type, equal_types, equal_terms, type_goal, term_goal, type_equation_goal, term_equation_goal, Statement, plain, abstracted, map_claim, map_statement, close_statement, domain_count}
use Rattle.ft_theory.specs.Small.{depth, depth_of_arguments, depth_of_terms, size, size_of_arguments, size_of_terms, NumbersFit, NumbersFitInArguments, NumbersFitInTerms}
use Rattle.ft_items.specs.Item.{by_abs}
use Rattle.ft_items.specs.Good.{given}
use Rattle.ft_reference.specs.Refusals.{AllSmall, claim_expressions, expressions, formed}
use Rattle.ft_reference.specs.Checks.{checks}
use Rattle.ft_nucleus_laws.specs.SmallAnswers.{ClosingKeepsSize, ClosingKeepsSmall, AbstractionsSmall}
use Rattle.ft_nucleus_laws.proofs.Calls.{answers_its_row}
use Rattle.ft_nucleus_laws.proofs.SmallAnswers.{given_conclusion, at_when}

-- depth and size
mutual
  unfolding close_at

  close_depth : (e : Expression) (k v : ℕ) → depth (close_at k v e) ≡ depth e
  close_depth (bound i) k v = refl
  close_depth (free u) k v = if_both (λ e. depth e ≡ 1) (nat_eq u v) (bound k) (free u) (λ t. refl) (λ t. refl)
  close_depth (symbol f a) k v = ap suc (close_depth_of_arguments a k v)
  close_depth (meta m a) k v = ap suc (close_depth_of_terms a k v)

  close_depth_of_arguments : (a : Arguments) (k v : ℕ) → depth_of_arguments (close_arguments k v a) ≡ depth_of_arguments a
  close_depth_of_arguments no_arguments k v = refl
  close_depth_of_arguments (with_body n e a) k v = ap₂ max (close_depth e (n + k) v) (close_depth_of_arguments a k v)
  close_depth_of_arguments (dummy n a) k v = close_depth_of_arguments a k v

  close_depth_of_terms : (a : Terms) (k v : ℕ) → depth_of_terms (close_terms k v a) ≡ depth_of_terms a
  close_depth_of_terms no_terms k v = refl
  close_depth_of_terms (also e a) k v = ap₂ max (close_depth e k v) (close_depth_of_terms a k v)

mutual
  unfolding close_at

  close_size : (e : Expression) (k v : ℕ) → size (close_at k v e) ≡ size e
  close_size (bound i) k v = refl
  close_size (free u) k v = if_both (λ e. size e ≡ 1) (nat_eq u v) (bound k) (free u) (λ t. refl) (λ t. refl)
  close_size (symbol f a) k v = ap suc (close_size_of_arguments a k v)
  close_size (meta m a) k v = ap suc (close_size_of_terms a k v)

  close_size_of_arguments : (a : Arguments) (k v : ℕ) → size_of_arguments (close_arguments k v a) ≡ size_of_arguments a
  close_size_of_arguments no_arguments k v = refl
  close_size_of_arguments (with_body n e a) k v = ap₂ ◌+◌ (close_size e (n + k) v) (close_size_of_arguments a k v)
  close_size_of_arguments (dummy n a) k v = close_size_of_arguments a k v

  close_size_of_terms : (a : Terms) (k v : ℕ) → size_of_terms (close_terms k v a) ≡ size_of_terms a
  close_size_of_terms no_terms k v = refl
  close_size_of_terms (also e a) k v = ap₂ ◌+◌ (close_size e k v) (close_size_of_terms a k v)

pub closing_keeps_size : ClosingKeepsSize
closing_keeps_size e k v = (close_depth e k v, close_size e k v)

-- the numbers, where d is at least the depth: each level of it has fewer than 2 ^ 32 binders
mutual
  unfolding close_at

  close_fits : (e : Expression) (k v d : ℕ) → depth e ≤ d → k + d * 2 ^ 32 < 2 ^ 64 → NumbersFit e → NumbersFit (close_at k v e)
  close_fits (bound i) k v d low room h = h
  close_fits (free u) k v d low room h = if_both NumbersFit (nat_eq u v) (bound k) (free u) (λ t. omega (arith, low, room)) (λ t. tt)
  close_fits (symbol f a) k v zero low room h = absurd (omega (arith, low))
  close_fits (symbol f a) k v (suc d) low room h = close_fits_arguments a k v d (omega (arith, low)) room h
  close_fits (meta m a) k v d low room h = close_fits_terms a k v d (omega (arith, low)) room h

  close_fits_arguments : (a : Arguments) (k v d : ℕ) → depth_of_arguments a ≤ d → k + suc d * 2 ^ 32 < 2 ^ 64 → NumbersFitInArguments a → NumbersFitInArguments (close_arguments k v a)
  close_fits_arguments no_arguments k v d low room h = tt
  close_fits_arguments (with_body n e a) k v d low room h = (
    h.0,
    close_fits e (n + k) v d (omega (arith, low)) (omega (arith, room, h.0)) h.1,
    close_fits_arguments a k v d (omega (arith, low)) room h.2,
  )
  close_fits_arguments (dummy n a) k v d low room h = (h.0, close_fits_arguments a k v d low room h.1)

  close_fits_terms : (a : Terms) (k v d : ℕ) → depth_of_terms a ≤ d → k + d * 2 ^ 32 < 2 ^ 64 → NumbersFitInTerms a → NumbersFitInTerms (close_terms k v a)
  close_fits_terms no_terms k v d low room h = tt
  close_fits_terms (also e a) k v d low room h = (close_fits e k v d (omega (arith, low)) room h.0, close_fits_terms a k v d (omega (arith, low)) room h.1)

pub closing_keeps_small : ClosingKeepsSmall
closing_keeps_small e k v room h = record {
  kept = (
    subst (λ n. n ≤ 1000) (sym (close_depth e k v)) h.kept.0,
    subst (λ n. n ≤ 65536) (sym (close_size e k v)) h.kept.1,
    close_fits e k v 1000 h.kept.0 room h.kept.2,
  );
}

-- statements
close_small_claim : (c : Claim) (k v : ℕ) → k + 1000 * 2 ^ 32 < 2 ^ 64 → AllSmall (claim_expressions c) → AllSmall (claim_expressions (map_claim (close_at k v) c))
close_small_claim (is_type A) k v room h = (closing_keeps_small A k v room h.0, tt)
close_small_claim (has_type t A) k v room h = (closing_keeps_small t k v room h.0, (closing_keeps_small A k v room h.1.0, tt))
close_small_claim (equal_types A B) k v room h = (closing_keeps_small A k v room h.0, (closing_keeps_small B k v room h.1.0, tt))
close_small_claim (equal_terms s t A) k v room h = (closing_keeps_small s k v room h.0, (closing_keeps_small t k v room h.1.0, (closing_keeps_small A k v room h.1.1.0, tt)))
close_small_claim type_goal k v room h = tt
close_small_claim (term_goal A) k v room h = (closing_keeps_small A k v room h.0, tt)
close_small_claim (type_equation_goal A B) k v room h = (closing_keeps_small A k v room h.0, (closing_keeps_small B k v room h.1.0, tt))
close_small_claim (term_equation_goal s t A) k v room h = (closing_keeps_small s k v room h.0, (closing_keeps_small t k v room h.1.0, (closing_keeps_small A k v room h.1.1.0, tt)))

close_small : (x : Statement) (k v : ℕ) → k + domain_count x + 1000 * 2 ^ 32 < 2 ^ 64 → AllSmall (expressions x) → AllSmall (expressions (map_statement (λ l. close_at l v) k x))
close_small (plain c) k v room h = close_small_claim c k v (omega (arith, room)) h
close_small (abstracted A x) k v room h = (closing_keeps_small A k v (omega (arith, room)) h.0, close_small x (suc k) v (omega (arith, room)) h.1)

pub abstractions_small : AbstractionsSmall
abstractions_small W v p a room g h =
    let k : (given W (by_abs v p) ≡ Some a) × AllSmall (formed (checks W (by_abs v p))) = (answers_its_row W (by_abs v p) a).0 h in
    at_when _ (abstracted v.1.annotation (close_statement v.0 p.statement)) a.statement (g.0, close_small p.statement zero v.0 (omega (arith, room)) g.1) (given_conclusion W (by_abs v p) a k.0)
