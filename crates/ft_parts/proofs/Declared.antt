-- Types by declaration: what is read of variables, rules and metavariables.
use Rattle.std.proofs.Common.{Bool, nat_lt, if◌then◌else◌, ◌≡◌, ◌∙◌, ◌⊎◌, inl, inr, ℕ, zero, suc, ◌+◌, ◌<◌, ◌≤◌, true, false, Option, Some, None, List, [], ◌∷◌, length, refl, sym, ap, ap₂, subst, arith}
use Rattle.std.specs.Prelude.{option_map}
use Rattle.std.proofs.lemmas.Bool.{cases_lt, ltb-false, ltb-true}
use Rattle.std.proofs.lemmas.Option.{same_Some}
use Rattle.ft_common.proofs.Options.{none_some}
use Rattle.ft_common.proofs.Booleans.{true_false}
use Rattle.ft_theory.specs.Expressions.{Expression, bound, free, symbol, meta, Terms, no_terms, also, open_at, instantiate}
use Rattle.ft_theory.specs.Statements.{Claim, is_type, has_type, equal_types, equal_terms, type_goal, term_goal, type_equation_goal, term_equation_goal, Statement, plain, abstracted, map_claim, open_statement, domain_count, at}
use Rattle.ft_theory.specs.Rules.{Rule, rule_at, instance_of}
use Rattle.ft_items.specs.Equal.{is_plain}
use Rattle.ft_items.specs.Item.{Name}
use Rattle.ft_items.specs.Good.{Good}
use Rattle.ft_items.specs.Store.{variables_in, metavariables_in, rules_in, Declared, Declarations, nth, type_in, claim_in as claim_of, declared_by}
use Rattle.ft_items.specs.Rows.{type_of_boundary, natural_of_rule, natural_of_meta, natural_type}
use Rattle.ft_syntax.specs.Arguments.{Argument, arguments_of, list_of_terms, node_of, AreTerms}
use Rattle.ft_syntax.specs.Table.{tree}
use Rattle.ft_syntax.specs.declared.syntax.Node.TheVariants.{Bound, Free, Sym, Meta}
use Rattle.ft_judge.specs.Meaning.{goal_in, under, boundary_in}
use Rattle.ft_judge.specs.declared.judgement.Boundary.{Boundary}
use Rattle.ft_judge.specs.declared.judgement.Goal.{Goal}
use Rattle.ft_judge.specs.declared.judgement.Goal.TheVariants.{Ty, Tm, EqTy, EqTm}
use Rattle.ft_kernel.specs.State.{State, statement_at, variable_numbered, IsVariableOf, if_below}
use Rattle.ft_calls.specs.Named.{IsVariableAt}
use Rattle.ft_calls.proofs.Entries.{stated_is}
use Rattle.ft_calls.proofs.Variables.{no_variable}
use Rattle.ft_parts.specs.Types.{concluded_type, instance_at, type_below, type_of_metavariable, opened_by}
use Rattle.ft_parts.proofs.Lines.{IsRule, IsMet, no_rule, no_met}
use Rattle.ft_parts.proofs.Opened.{all_terms}

-- Variables.

pub annotated_type : (s : State) (v p a : ℕ) → IsVariableAt s v p → statement_at s p ≡ Some (plain (is_type (tree s.trees a))) → Some (tree s.trees a) ≡ natural_type (declared_by s.items) (free v)
annotated_type s v p a d h =
    ap Some (sym (ap type_in (stated_is s p d.1 (plain (is_type (tree s.trees a))) d.2 h)))
    ∙ sym (ap (option_map (λ d. d.annotation)) d.4)

pub bound_type : (W : Declarations) (x : Expression) (i : ℕ) → node_of x ≡ Bound i → natural_type W x ≡ None
bound_type W (bound j) i n = refl
bound_type W (free v) i n = let no : ⊥ = cc in absurd no
bound_type W (symbol f a) i n = let no : ⊥ = cc in absurd no
bound_type W (meta m a) i n = let no : ⊥ = cc in absurd no

pub free_type : (W : Declarations) (x : Expression) (v : ℕ) → node_of x ≡ Free v → natural_type W x ≡ natural_type W (free v)
free_type W (free w) v n = let same : w ≡ v = cc in ap (λ u. natural_type W (free u)) same
free_type W (bound j) v n = let no : ⊥ = cc in absurd no
free_type W (symbol f a) v n = let no : ⊥ = cc in absurd no
free_type W (meta m a) v n = let no : ⊥ = cc in absurd no

-- Rules.

-- the goal of a plain boundary
under_claim : (ts : List Expression) (ds : List ℕ) (c : Claim) → is_plain (under ts ds (plain c)) ≡ true → claim_of (under ts ds (plain c)) ≡ c
under_claim ts [] c h = refl
under_claim ts (d ∷ ds) c h = true_false (sym h)

pub concluded_is : (s : State) (r : ℕ) (ms : List ℕ) (p : ℕ) (b : Boundary) → IsRule s r ms p → statement_at s p ≡ Some (boundary_in s.trees b)
    → type_of_boundary (plain (goal_in s.trees b.goal)) ≡ concluded_type (rule_at (declared_by s.items).rules r)
concluded_is s r ms p b R h =
    let e : R.conclusion.statement ≡ boundary_in s.trees b = stated_is s p R.conclusion (boundary_in s.trees b) R.is h in
    let c : claim_of R.conclusion.statement ≡ goal_in s.trees b.goal = ap claim_of e ∙ under_claim s.trees b.domains (goal_in s.trees b.goal) (sym (ap is_plain e) ∙ R.plain) in
    ap (λ c. type_of_boundary (plain c)) (sym c) ∙ ap concluded_type (sym R.at)

-- the type at arguments
none_claim : (f : Expression → Expression) (c : Claim) → type_of_boundary (plain c) ≡ None → type_of_boundary (plain (map_claim f c)) ≡ None
none_claim f (is_type A) h = refl
none_claim f (has_type t A) h = refl
none_claim f (equal_types A B) h = refl
none_claim f (equal_terms s t A) h = refl
none_claim f type_goal h = refl
none_claim f (term_goal A) h = none_some (sym h)
none_claim f (type_equation_goal A B) h = refl
none_claim f (term_equation_goal s t A) h = refl

some_claim : (f : Expression → Expression) (c : Claim) (A : Expression) → type_of_boundary (plain c) ≡ Some A → type_of_boundary (plain (map_claim f c)) ≡ Some (f A)
some_claim f (is_type B) A h = none_some h
some_claim f (has_type t B) A h = none_some h
some_claim f (equal_types B C) A h = none_some h
some_claim f (equal_terms s t B) A h = none_some h
some_claim f type_goal A h = none_some h
some_claim f (term_goal B) A h = ap (λ B. Some (f B)) (same_Some B A h)
some_claim f (type_equation_goal B C) A h = none_some h
some_claim f (term_equation_goal s t B) A h = none_some h

pub symbol_none : (W : Declarations) (x : Expression) (r : ℕ) → node_of x ≡ Sym r → concluded_type (rule_at W.rules r) ≡ None → natural_type W x ≡ None
symbol_none W (symbol f a) r n h = let same : f ≡ r = cc in ap (λ r. natural_of_rule (rule_at W.rules r) a) same ∙ go (rule_at W.rules r) h
  where
    go : (o : Option Rule) → concluded_type o ≡ None → natural_of_rule o a ≡ None
    go None h = refl
    go (Some R) h = none_claim (instantiate (instance_of R.premises a)) R.conclusion h
symbol_none W (bound j) r n h = let no : ⊥ = cc in absurd no
symbol_none W (free v) r n h = let no : ⊥ = cc in absurd no
symbol_none W (meta m a) r n h = let no : ⊥ = cc in absurd no

pub symbol_some : (W : Declarations) (x : Expression) (r : ℕ) (A : Expression) → node_of x ≡ Sym r → concluded_type (rule_at W.rules r) ≡ Some A → natural_type W x ≡ Some (instantiate (instance_at (rule_at W.rules r) x) A)
symbol_some W (symbol f a) r A n h = let same : f ≡ r = cc in ap (λ r. natural_of_rule (rule_at W.rules r) a) same ∙ go (rule_at W.rules r) h
  where
    go : (o : Option Rule) → concluded_type o ≡ Some A → natural_of_rule o a ≡ Some (instantiate (instance_at o (symbol f a)) A)
    go None h = none_some h
    go (Some R) h = some_claim (instantiate (instance_of R.premises a)) R.conclusion A h
symbol_some W (bound j) r A n h = let no : ⊥ = cc in absurd no
symbol_some W (free v) r A n h = let no : ⊥ = cc in absurd no
symbol_some W (meta m a) r A n h = let no : ⊥ = cc in absurd no

-- Metavariables.

below_under : (ts : List Expression) (ds : List ℕ) (c : Claim) → type_below (under ts ds (plain c)) ≡ type_of_boundary (plain c)
below_under ts [] c = refl
below_under ts (d ∷ ds) c = below_under ts ds c

count_under : (ts : List Expression) (ds : List ℕ) (c : Claim) → domain_count (under ts ds (plain c)) ≡ length ds
count_under ts [] c = refl
count_under ts (d ∷ ds) c = ap suc (count_under ts ds c)

pub bounded_is : (s : State) (m p : ℕ) (b : Boundary) → IsMet s m p → statement_at s p ≡ Some (boundary_in s.trees b)
    → option_map (λ A. (A, length b.domains)) (type_of_boundary (plain (goal_in s.trees b.goal))) ≡ type_of_metavariable (nth (declared_by s.items).metavariables m)
bounded_is s m p b M h =
    let e : M.conclusion.statement ≡ boundary_in s.trees b = stated_is s p M.conclusion (boundary_in s.trees b) M.is h in
    ap₂ (λ n o. option_map (λ A. (A, n)) o) (sym (ap domain_count e ∙ count_under s.trees b.domains (goal_in s.trees b.goal))) (sym (ap type_below e ∙ below_under s.trees b.domains (goal_in s.trees b.goal)))
    ∙ ap type_of_metavariable (sym M.at)

-- the type at terms
count_open : (x : Statement) (k : ℕ) (t : Expression) → domain_count (open_statement k t x) ≡ domain_count x
count_open (plain c) k t = refl
count_open (abstracted A x) k t = ap suc (count_open x (suc k) t)

open_below : (x : Statement) (k : ℕ) (t : Expression) → type_below (open_statement k t x) ≡ option_map (open_at (domain_count x + k) t) (type_below x)
open_below (plain (is_type A)) k t = refl
open_below (plain (has_type u A)) k t = refl
open_below (plain (equal_types A B)) k t = refl
open_below (plain (equal_terms u v A)) k t = refl
open_below (plain type_goal) k t = refl
open_below (plain (term_goal A)) k t = let same : k ≡ 0 + k = omega arith in ap (λ n. Some (open_at n t A)) same
open_below (plain (type_equation_goal A B)) k t = refl
open_below (plain (term_equation_goal u v A)) k t = refl
open_below (abstracted A x) k t =
    let same : domain_count x + suc k ≡ suc (domain_count x) + k = omega arith in
    open_below x (suc k) t ∙ ap (λ n. option_map (open_at n t) (type_below x)) same

mapped_twice : {A : Type 0} (f g : A → A) (o : Option A) → option_map f (option_map g o) ≡ option_map (λ x. f (g x)) o
mapped_twice f g None = refl
mapped_twice f g (Some a) = refl

at_plain : (c : Claim) (a : Terms) → at (plain c) a ≡ plain c
at_plain c no_terms = refl
at_plain c (also t a) = at_plain c a

opened_none : (ps : List Argument) (o : Option Expression) → o ≡ option_map (opened_by zero ps) o
opened_none ps None = refl
opened_none ps (Some A) = refl

at_enough : (n : ℕ) (x : Statement) (a : Terms) → domain_count x ≡ n → n ≤ length (list_of_terms a) → type_of_boundary (at x a) ≡ option_map (opened_by n (list_of_terms a)) (type_below x)
at_enough zero (plain c) a e l = ap type_of_boundary (at_plain c a) ∙ opened_none (list_of_terms a) (type_of_boundary (plain c))
at_enough zero (abstracted A x) a e l = absurd (omega (arith, e))
at_enough (suc n) (plain c) a e l = absurd (omega (arith, e))
at_enough (suc n) (abstracted A x) no_terms e l = absurd (omega (arith, l))
at_enough (suc n) (abstracted A x) (also t a) e l =
    let count : domain_count x ≡ n = omega (arith, e) in
    let less : n ≤ length (list_of_terms a) = omega (arith, l) in
    let here : domain_count x + zero ≡ n = omega (arith, count) in
    at_enough n (open_statement zero t x) a (count_open x zero t ∙ count) less
    ∙ ap (option_map (opened_by n (list_of_terms a))) (open_below x zero t ∙ ap (λ k. option_map (open_at k t) (type_below x)) here)
    ∙ mapped_twice (opened_by n (list_of_terms a)) (open_at n t) (type_below x)

at_short : (n : ℕ) (x : Statement) (a : Terms) → domain_count x ≡ n → length (list_of_terms a) < n → type_of_boundary (at x a) ≡ None
at_short zero x a e l = absurd (omega (arith, l))
at_short (suc n) (plain c) a e l = absurd (omega (arith, e))
at_short (suc n) (abstracted A x) no_terms e l = refl
at_short (suc n) (abstracted A x) (also t a) e l =
    let count : domain_count x ≡ n = omega (arith, e) in
    at_short n (open_statement zero t x) a (count_open x zero t ∙ count) (omega (arith, l))

pub meta_terms : (x : Expression) (m : ℕ) → node_of x ≡ Meta m → AreTerms (arguments_of x)
meta_terms (meta n a) m e = all_terms a
meta_terms (bound j) m e = let no : ⊥ = cc in absurd no
meta_terms (free v) m e = let no : ⊥ = cc in absurd no
meta_terms (symbol f a) m e = let no : ⊥ = cc in absurd no

-- what is looked for, of a metavariable
-- a type with the number of a boundary's domains
abbrev counted : Statement → Option Expression → Option (Expression × ℕ)
counted b o = option_map (λ A. (A, domain_count b)) o

type_found : (b : Statement) (A : Expression) (n : ℕ) → counted b (type_below b) ≡ Some (A, n) → (type_below b ≡ Some A) × (domain_count b ≡ n)
type_found b A n h = go (type_below b) refl h
  where
    go : (o : Option Expression) → type_below b ≡ o → counted b o ≡ Some (A, n) → (type_below b ≡ Some A) × (domain_count b ≡ n)
    go None e k = none_some k
    go (Some B) e k = let same : (B, domain_count b) ≡ (A, n) = same_Some (B, domain_count b) (A, n) k in (e ∙ ap (λ (p : Expression × ℕ). Some p.0) same, ap (λ (p : Expression × ℕ). p.1) same)

type_lacking : (b : Statement) → counted b (type_below b) ≡ None → type_below b ≡ None
type_lacking b h = go (type_below b) h
  where
    go : (o : Option Expression) → counted b o ≡ None → o ≡ None
    go None k = refl
    go (Some B) k = none_some (sym k)

meta_type_none : (o : Option Declared) (a : Terms) → type_of_metavariable o ≡ None → natural_of_meta o a ≡ None
meta_type_none None a h = refl
meta_type_none (Some d) a h = go (cases_lt (length (list_of_terms a)) (domain_count d.boundary))
  where
    go : (length (list_of_terms a) < domain_count d.boundary) ⊎ (domain_count d.boundary ≤ length (list_of_terms a)) → type_of_boundary (at d.boundary a) ≡ None
    go (inl l) = at_short (domain_count d.boundary) d.boundary a refl l
    go (inr l) = at_enough (domain_count d.boundary) d.boundary a refl l ∙ ap (option_map (opened_by (domain_count d.boundary) (list_of_terms a))) (type_lacking d.boundary h)

meta_type_some : (o : Option Declared) (a : Terms) (A : Expression) (n : ℕ) → type_of_metavariable o ≡ Some (A, n) → n ≤ length (list_of_terms a) → natural_of_meta o a ≡ Some (opened_by n (list_of_terms a) A)
meta_type_some None a A n h l = none_some h
meta_type_some (Some d) a A n h l =
    let f : (type_below d.boundary ≡ Some A) × (domain_count d.boundary ≡ n) = type_found d.boundary A n h in
    at_enough n d.boundary a f.1 l ∙ ap (option_map (opened_by n (list_of_terms a))) f.0

meta_type_short : (o : Option Declared) (a : Terms) (A : Expression) (n : ℕ) → type_of_metavariable o ≡ Some (A, n) → length (list_of_terms a) < n → natural_of_meta o a ≡ None
meta_type_short None a A n h l = none_some h
meta_type_short (Some d) a A n h l = at_short n d.boundary a (type_found d.boundary A n h).1 l

pub meta_none : (W : Declarations) (x : Expression) (m : ℕ) → node_of x ≡ Meta m → type_of_metavariable (nth W.metavariables m) ≡ None → natural_type W x ≡ None
meta_none W (meta n a) m e h = let same : n ≡ m = cc in ap (λ m. natural_of_meta (nth W.metavariables m) a) same ∙ meta_type_none (nth W.metavariables m) a h
meta_none W (bound j) m e h = let no : ⊥ = cc in absurd no
meta_none W (free v) m e h = let no : ⊥ = cc in absurd no
meta_none W (symbol f a) m e h = let no : ⊥ = cc in absurd no

pub meta_some : (W : Declarations) (x : Expression) (m : ℕ) (A : Expression) (d : ℕ) → node_of x ≡ Meta m → type_of_metavariable (nth W.metavariables m) ≡ Some (A, d) → d ≤ length (arguments_of x)
    → natural_type W x ≡ Some (opened_by d (arguments_of x) A)
meta_some W (meta n a) m A d e h l = let same : n ≡ m = cc in ap (λ m. natural_of_meta (nth W.metavariables m) a) same ∙ meta_type_some (nth W.metavariables m) a A d h l
meta_some W (bound j) m A d e h l = let no : ⊥ = cc in absurd no
meta_some W (free v) m A d e h l = let no : ⊥ = cc in absurd no
meta_some W (symbol f a) m A d e h l = let no : ⊥ = cc in absurd no

pub meta_short : (W : Declarations) (x : Expression) (m : ℕ) (A : Expression) (d : ℕ) → node_of x ≡ Meta m → type_of_metavariable (nth W.metavariables m) ≡ Some (A, d) → length (arguments_of x) < d → natural_type W x ≡ None
meta_short W (meta n a) m A d e h l = let same : n ≡ m = cc in ap (λ m. natural_of_meta (nth W.metavariables m) a) same ∙ meta_type_short (nth W.metavariables m) a A d h l
meta_short W (bound j) m A d e h l = let no : ⊥ = cc in absurd no
meta_short W (free v) m A d e h l = let no : ⊥ = cc in absurd no
meta_short W (symbol f a) m A d e h l = let no : ⊥ = cc in absurd no

-- What is found by number.

pub below_none : (n b : ℕ) → if_below n b ≡ None → b ≤ n
below_none n b h = go (nat_lt n b) refl h
  where
    go : (t : Bool) → nat_lt n b ≡ t → (if t then Some n else None) ≡ None → b ≤ n
    go true e k = none_some (sym k)
    go false e k = ltb-false n b e

pub below_some : (n b k : ℕ) → if_below n b ≡ Some k → k ≡ n
below_some n b k h = go (nat_lt n b) h
  where
    go : (t : Bool) → (if t then Some n else None) ≡ Some k → k ≡ n
    go true e = sym (same_Some n k e)
    go false e = none_some e

pub below_less : (n b k : ℕ) → if_below n b ≡ Some k → n < b
below_less n b k h = go (nat_lt n b) refl h
  where
    go : (t : Bool) → nat_lt n b ≡ t → (if t then Some n else None) ≡ Some k → n < b
    go true e q = ltb-true n b e
    go false e q = none_some q

pub variable_found : (s : State) (v w : ℕ) (o : Option ℕ) → o ≡ option_map (λ x. v) (variable_numbered (variables_in s.items) v) → o ≡ Some w → IsVariableOf s w
variable_found s v w o h e = go (variable_numbered (variables_in s.items) v) refl (sym h ∙ e)
  where
    go : (r : Option (Name × ℕ)) → variable_numbered (variables_in s.items) v ≡ r → option_map (λ x. v) r ≡ Some w → IsVariableOf s w
    go None q k = none_some k
    go (Some x) q k = subst (IsVariableOf s) (same_Some v w k) (x, q)

pub variable_same : (s : State) (v w : ℕ) (o : Option ℕ) → o ≡ option_map (λ x. v) (variable_numbered (variables_in s.items) v) → o ≡ Some w → w ≡ v
variable_same s v w o h e = go (variable_numbered (variables_in s.items) v) (sym h ∙ e)
  where
    go : (r : Option (Name × ℕ)) → option_map (λ x. v) r ≡ Some w → w ≡ v
    go None k = none_some k
    go (Some x) k = sym (same_Some v w k)

pub variable_missing : (s : State) (v : ℕ) (o : Option ℕ) → Good s.items → o ≡ option_map (λ x. v) (variable_numbered (variables_in s.items) v) → o ≡ None → None ≡ natural_type (declared_by s.items) (free v)
variable_missing s v o g h e = go (variable_numbered (variables_in s.items) v) refl (sym h ∙ e)
  where
    go : (r : Option (Name × ℕ)) → variable_numbered (variables_in s.items) v ≡ r → option_map (λ x. v) r ≡ None → None ≡ natural_type (declared_by s.items) (free v)
    go None q k = sym (ap (option_map (λ d. d.annotation)) (no_variable s v g q))
    go (Some x) q k = none_some (sym k)

-- a goal that is none of terms
pub no_type : (ts : List Expression) (g : Goal) → ((A : ℕ) → g ≡ Tm A → ⊥) → None ≡ type_of_boundary (plain (goal_in ts g))
no_type ts Ty n = refl
no_type ts (Tm A) n = absurd (n A refl)
no_type ts (EqTy A B) n = refl
no_type ts (EqTm l r A) n = refl

-- the type by declaration of a symbol whose rule is not there
pub no_symbol : (s : State) (x : Expression) (r : ℕ) (o : Option ℕ) → Good s.items → node_of x ≡ Sym r → o ≡ if_below r (length (rules_in s.items)) → o ≡ None → natural_type (declared_by s.items) x ≡ None
no_symbol s x r o g n h e = symbol_none (declared_by s.items) x r n (ap concluded_type (no_rule s r g (below_none r (length (rules_in s.items)) (sym h ∙ e))))

-- the type of a symbol, at the instance that was read
pub symbol_type : (s : State) (x : Expression) (r q a : ℕ) (i : ℕ → ℕ → Option Expression) (o : Option ℕ) → node_of x ≡ Sym r → q ≡ r → option_map (tree s.trees) o ≡ concluded_type (rule_at (declared_by s.items).rules q) → o ≡ Some a
    → i ≡ instance_at (rule_at (declared_by s.items).rules q) x → natural_type (declared_by s.items) x ≡ Some (instantiate i (tree s.trees a))
symbol_type s x r q a i o n e h k j =
    symbol_some (declared_by s.items) x r (tree s.trees a) n (ap (λ r. concluded_type (rule_at (declared_by s.items).rules r)) (sym e) ∙ sym h ∙ ap (option_map (tree s.trees)) k)
    ∙ ap (λ r. Some (instantiate (instance_at (rule_at (declared_by s.items).rules r) x) (tree s.trees a))) (sym e)
    ∙ ap (λ i. Some (instantiate i (tree s.trees a))) (sym j)

-- the same of metavariables
abbrev read : State → ℕ × ℕ → Expression × ℕ
read s p = (tree s.trees p.0, p.1)

pub no_metavariable : (s : State) (x : Expression) (m : ℕ) (o : Option ℕ) → Good s.items → node_of x ≡ Meta m → o ≡ if_below m (length (metavariables_in s.items)) → o ≡ None → natural_type (declared_by s.items) x ≡ None
no_metavariable s x m o g n h e = meta_none (declared_by s.items) x m n (ap type_of_metavariable (no_met s m g (below_none m (length (metavariables_in s.items)) (sym h ∙ e))))

pub metavariable_lacks : (s : State) (x : Expression) (m q : ℕ) (o : Option (ℕ × ℕ)) → node_of x ≡ Meta m → q ≡ m → option_map (read s) o ≡ type_of_metavariable (nth (declared_by s.items).metavariables q) → o ≡ None → natural_type (declared_by s.items) x ≡ None
metavariable_lacks s x m q o n e h k =
    meta_none (declared_by s.items) x m n (ap (λ m. type_of_metavariable (nth (declared_by s.items).metavariables m)) (sym e) ∙ sym h ∙ ap (option_map (read s)) k)

has_type_of : (s : State) (m q a d : ℕ) (o : Option (ℕ × ℕ)) → q ≡ m → option_map (read s) o ≡ type_of_metavariable (nth (declared_by s.items).metavariables q) → o ≡ Some (a, d)
    → type_of_metavariable (nth (declared_by s.items).metavariables m) ≡ Some (tree s.trees a, d)
has_type_of s m q a d o e h k = ap (λ m. type_of_metavariable (nth (declared_by s.items).metavariables m)) (sym e) ∙ sym h ∙ ap (option_map (read s)) k

pub metavariable_short : (s : State) (x : Expression) (m q a d : ℕ) (o : Option (ℕ × ℕ)) → node_of x ≡ Meta m → q ≡ m → option_map (read s) o ≡ type_of_metavariable (nth (declared_by s.items).metavariables q) → o ≡ Some (a, d)
    → length (arguments_of x) < d → natural_type (declared_by s.items) x ≡ None
metavariable_short s x m q a d o n e h k l = meta_short (declared_by s.items) x m (tree s.trees a) d n (has_type_of s m q a d o e h k) l

pub metavariable_type : (s : State) (x : Expression) (m q a d : ℕ) (o : Option (ℕ × ℕ)) → node_of x ≡ Meta m → q ≡ m → option_map (read s) o ≡ type_of_metavariable (nth (declared_by s.items).metavariables q) → o ≡ Some (a, d)
    → d ≤ length (arguments_of x) → natural_type (declared_by s.items) x ≡ Some (opened_by d (arguments_of x) (tree s.trees a))
metavariable_type s x m q a d o n e h k l = meta_some (declared_by s.items) x m (tree s.trees a) d n (has_type_of s m q a d o e h k) l
