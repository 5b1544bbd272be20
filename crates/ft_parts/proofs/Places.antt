-- Arguments of applications by their place.
use Rattle.std.proofs.Common.{◌≡◌, ◌∙◌, ℕ, zero, suc, ◌+◌, ◌<◌, min, false, Option, Some, None, List, [], ◌∷◌, length, refl, ap, ap₂, arith}
use Rattle.std.specs.Prelude.{slice_get, unwrap_or, option_map}
use Rattle.std.proofs.lemmas.Option.{same_Some}
use Rattle.ft_common.proofs.Options.{none_some}
use Rattle.ft_common.proofs.Booleans.{true_false}
use Rattle.ft_theory.specs.Expressions.{Expression, bound, free, Arguments, no_arguments, with_body, dummy, Terms, no_terms, also, open_at}
use Rattle.ft_theory.specs.Small.{IsSmall}
use Rattle.ft_theory.specs.Statements.{Claim, is_type, has_type, equal_types, equal_terms, type_goal, term_goal, type_equation_goal, term_equation_goal, Statement, plain, abstracted, open_statement, opened, act_statement, domain, fill}
use Rattle.ft_theory.specs.Rules.{filled_premises, term_typings}
use Rattle.ft_items.specs.Store.{nth, Declarations}
use Rattle.ft_reference.specs.Refusals as reference
use Rattle.ft_reference.specs.Refusals.{first_refusal, AllSmall, claim_expressions, expressions}
use Rattle.ft_reference.specs.Checks.{application_checks}
use Rattle.ft_syntax.specs.Arguments.{Argument, list_of_arguments, list_of_terms}
use Rattle.ft_syntax.specs.declared.syntax.SynFault.{SynFault}
use Rattle.ft_syntax.specs.declared.syntax.SynFault.TheVariants as syntax
use Rattle.ft_kernel.specs.State.{State}
use Rattle.ft_calls.specs.Answers.{Stays}
use Rattle.ft_calls.proofs.Declared.{stays_same}
use Rattle.ft_parts.specs.Places.{is_plain_object, nth_domain, placed}

-- the innermost bound variable is small, so that only memory can lack for it
innermost_small : IsSmall (bound 0)
innermost_small = record { kept = (omega arith, omega arith, omega arith) }

pub only_memory : (f : SynFault) → (f ≡ syntax.TooBig → IsSmall (bound 0) → ⊥) → f ≡ syntax.Memory
only_memory syntax.TooBig h = absurd (h refl innermost_small)
only_memory syntax.Memory h = refl

pub stays_here : (s : State) → Stays s s
stays_here s = stays_same s s refl

-- The arguments of a symbol, at their premises.

-- the body of an argument, or what stands for a dummy
abbrev pub body_of : Argument → Expression
body_of x = unwrap_or x.1 (bound 0)

pub premise_filled : (i : ℕ → ℕ → Option Expression) (ps : List (ℕ × Statement)) (a : Arguments) (n : ℕ) (p : ℕ × Statement) (x : Argument) → nth ps n ≡ Some p → slice_get (list_of_arguments a) n ≡ Some x
    → nth (filled_premises i ps a) n ≡ Some (fill (act_statement free i p.1) (body_of x))
premise_filled i [] a n p x h k = none_some h
premise_filled i (q ∷ ps) no_arguments n p x h k = none_some k
premise_filled i (q ∷ ps) (with_body m e a) zero p x h k =
    ap₂ (λ (q : ℕ × Statement) (y : Argument). Some (fill (act_statement free i q.1) (body_of y))) (same_Some q p h) (same_Some (m, Some e) x k)
premise_filled i (q ∷ ps) (with_body m e a) (suc n) p x h k = premise_filled i ps a n p x h k
premise_filled i (q ∷ ps) (dummy m a) zero p x h k =
    ap₂ (λ (q : ℕ × Statement) (y : Argument). Some (fill (act_statement free i q.1) (body_of y))) (same_Some q p h) (same_Some (m, None) x k)
premise_filled i (q ∷ ps) (dummy m a) (suc n) p x h k = premise_filled i ps a n p x h k

pub filled_count : (i : ℕ → ℕ → Option Expression) (ps : List (ℕ × Statement)) (a : Arguments) → length (filled_premises i ps a) ≡ min (length (list_of_arguments a)) (length ps)
filled_count i [] a = omega arith
filled_count i (p ∷ ps) no_arguments = omega arith
filled_count i (p ∷ ps) (with_body n e a) = omega (arith, filled_count i ps a)
filled_count i (p ∷ ps) (dummy n a) = omega (arith, filled_count i ps a)

-- The terms of a metavariable, at their domains.

-- the boundary with the first n terms for the variables of its first domains
abbrev pub opened_boundary : ℕ → Statement → Terms → Statement
opened_boundary zero x a = x
opened_boundary (suc n) x no_terms = x
opened_boundary (suc n) x (also t a) = opened_boundary n (opened t x) a

pub term_typed : (x : Statement) (a : Terms) (n : ℕ) (t : Expression) → slice_get (list_of_terms a) n ≡ Some (0, Some t) → nth (term_typings x a) n ≡ Some (plain (has_type t (domain (opened_boundary n x a))))
term_typed x no_terms n t h = none_some h
term_typed x (also u a) zero t h = ap (λ (p : Argument). Some (plain (has_type (body_of p) (domain x)))) (same_Some (0, Some u) (0, Some t) h)
term_typed x (also u a) (suc n) t h = term_typed (opened u x) a n t h

pub typed_count : (x : Statement) (a : Terms) → length (term_typings x a) ≡ length (list_of_terms a)
typed_count x no_terms = refl
typed_count x (also t a) = ap suc (typed_count (opened t x) a)

-- A thesis that is neither a plain type nor a plain term.

pub other_application : (W : Declarations) (i : ℕ) (x : Statement) → is_plain_object x ≡ false → first_refusal (application_checks W i x) ≡ Some reference.WrongForm
other_application W i (plain (is_type A)) h = true_false h
other_application W i (plain (has_type t A)) h = true_false h
other_application W i (plain (equal_types A B)) h = refl
other_application W i (plain (equal_terms s t A)) h = refl
other_application W i (plain type_goal) h = refl
other_application W i (plain (term_goal A)) h = refl
other_application W i (plain (type_equation_goal A B)) h = refl
other_application W i (plain (term_equation_goal s t A)) h = refl
other_application W i (abstracted A x) h = refl

-- a filled boundary is small where the boundary and the head are
filled_claim_small : (c : Claim) (h : Expression) → IsSmall h → AllSmall (claim_expressions c) → AllSmall (claim_expressions (Rattle.ft_theory.specs.Statements.fill_goal c h))
filled_claim_small (is_type A) h k s = s
filled_claim_small (has_type t A) h k s = s
filled_claim_small (equal_types A B) h k s = s
filled_claim_small (equal_terms u v A) h k s = s
filled_claim_small type_goal h k s = (k, tt)
filled_claim_small (term_goal A) h k s = (k, s)
filled_claim_small (type_equation_goal A B) h k s = s
filled_claim_small (term_equation_goal u v A) h k s = s

pub filled_small : (b : Statement) (h : Expression) → IsSmall h → AllSmall (expressions b) → AllSmall (expressions (fill b h))
filled_small (plain c) h k s = filled_claim_small c h k s
filled_small (abstracted A b) h k s = (s.0, filled_small b h k s.1)

-- and the boundary is small where it is filled
small_filled_claim : (c : Claim) (h : Expression) → AllSmall (claim_expressions (Rattle.ft_theory.specs.Statements.fill_goal c h)) → AllSmall (claim_expressions c)
small_filled_claim (is_type A) h s = s
small_filled_claim (has_type t A) h s = s
small_filled_claim (equal_types A B) h s = s
small_filled_claim (equal_terms u v A) h s = s
small_filled_claim type_goal h s = tt
small_filled_claim (term_goal A) h s = s.1
small_filled_claim (type_equation_goal A B) h s = s
small_filled_claim (term_equation_goal u v A) h s = s

pub small_filled : (b : Statement) (h : Expression) → AllSmall (expressions (fill b h)) → AllSmall (expressions b)
small_filled (plain c) h s = small_filled_claim c h s
small_filled (abstracted A b) h s = (s.0, small_filled b h s.1)

-- The domain at a place, opened.

domain_opened : (x : Statement) (k n : ℕ) (t : Expression) → nth_domain n (open_statement k t x) ≡ option_map (open_at (k + n) t) (nth_domain n x)
domain_opened (plain c) k n t = refl
domain_opened (abstracted A x) k zero t = let same : k ≡ k + 0 = omega arith in ap (λ l. Some (open_at l t A)) same
domain_opened (abstracted A x) k (suc n) t =
    let same : suc k + n ≡ k + suc n = omega arith in
    domain_opened x (suc k) n t ∙ ap (λ l. option_map (open_at l t) (nth_domain n x)) same

placed_more : (n : ℕ) (o : Option Expression) (t : Expression) (ps : List Argument) → placed n (option_map (open_at n t) o) ps ≡ placed (suc n) o ((0, Some t) ∷ ps)
placed_more n None t ps = refl
placed_more n (Some A) t ps = refl

pub domain_placed : (x : Statement) (a : Terms) (n : ℕ) → n < length (list_of_terms a) → domain (opened_boundary n x a) ≡ placed n (nth_domain n x) (list_of_terms a)
domain_placed (plain c) a zero l = refl
domain_placed (abstracted A x) a zero l = refl
domain_placed x no_terms (suc n) l = absurd (omega (arith, l))
domain_placed (plain c) (also t a) (suc n) l = domain_placed (plain c) a n (omega (arith, l))
domain_placed (abstracted A x) (also t a) (suc n) l =
    let here : zero + n ≡ n = omega arith in
    domain_placed (open_statement zero t x) a n (omega (arith, l))
    ∙ ap (λ o. placed n o (list_of_terms a)) (domain_opened x zero n t ∙ ap (λ k. option_map (open_at k t) (nth_domain n x)) here)
    ∙ placed_more n (nth_domain n x) t (list_of_terms a)
