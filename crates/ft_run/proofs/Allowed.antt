-- A rule of this language at claims that fit its premises is a step that is allowed.
use Rattle.std.proofs.Common.{◌≡◌, ◌∙◌, ap, ap₂, refl, ℕ, cond, true, ◌&&◌, List, [], ◌∷◌, Option, Some, None, option_map, option_and_then}
use Rattle.ft_theory.specs.Expressions.{Expression, bound, free, symbol, meta, Arguments, no_arguments, with_body, dummy, act, act_arguments}
use Rattle.ft_theory.specs.Statements.{Claim, is_type, has_type, equal_types, equal_terms, type_goal, term_goal, type_equation_goal, term_equation_goal, Statement, plain, abstracted, map_claim, act_statement, fill_goal}
use Rattle.ft_theory.specs.Rules.{Rule, rule_at, instance_of}
use Rattle.ft_items.specs.Sets.{unions}
use Rattle.ft_items.specs.Equal.{fits, fit_all, heads}
use Rattle.ft_items.specs.Item.{Item, entry, by_rule}
use Rattle.ft_items.specs.Store.{Store, each, entry_named, resolve, with_two, store_of, declared_by}
use Rattle.ft_items.specs.Rows.{when, statements, sets, rule_instance}
use Rattle.ft_items.specs.Good.{all_theses, given, Allowed}
use Rattle.ft_applications_meaning.specs.Building.{plains}
use Rattle.ft_run.specs.Session.{IsSimple, AreSimple, IsSimpleGoal}
use Rattle.ft_run.proofs.Simple.{IsSimpleBoundary, AreSimplePremises, IsSimpleRule, AreSimpleClaims, assertions}

mutual
  unfolding act

  -- nothing is put in a simple expression
  act_simple : (i : ℕ → ℕ → Option Expression) (e : Expression) → IsSimple e → act free i e ≡ e
  act_simple i (bound j) h = absurd h
  act_simple i (free v) h = absurd h
  act_simple i (symbol s a) h = ap (symbol s) (act_simple_arguments i a h)
  act_simple i (meta m a) h = absurd h

  act_simple_arguments : (i : ℕ → ℕ → Option Expression) (a : Arguments) → AreSimple a → act_arguments free i a ≡ a
  act_simple_arguments i no_arguments h = refl
  act_simple_arguments i (with_body n e a) h = ap₂ (with_body n) (act_simple i e h.1) (act_simple_arguments i a h.2)
  act_simple_arguments i (dummy n a) h = absurd h

goal_simple : (i : ℕ → ℕ → Option Expression) (g : Claim) → IsSimpleGoal g → map_claim (act free i) g ≡ g
goal_simple i (is_type A) h = absurd h
goal_simple i (has_type t A) h = absurd h
goal_simple i (equal_types A B) h = absurd h
goal_simple i (equal_terms s t A) h = absurd h
goal_simple i type_goal h = refl
goal_simple i (term_goal A) h = ap term_goal (act_simple i A h)
goal_simple i (type_equation_goal A B) h = absurd h
goal_simple i (term_equation_goal s t A) h = absurd h

boundary_simple : (i : ℕ → ℕ → Option Expression) (b : Statement) → IsSimpleBoundary b → act_statement free i b ≡ b
boundary_simple i (plain c) h = ap plain (goal_simple i c h)
boundary_simple i (abstracted A x) h = absurd h

fit_simple : (i : ℕ → ℕ → Option Expression) (ps : List (ℕ × Statement)) (xs : List Statement) → AreSimplePremises ps
    → fit_all (λ b. act_statement free i b) ps xs ≡ fit_all (λ b. b) ps xs
fit_simple i [] [] h = refl
fit_simple i [] (x ∷ xs) h = refl
fit_simple i (p ∷ ps) [] h = refl
fit_simple i (p ∷ ps) (x ∷ xs) h = ap₂ (λ b c. fits x b && c) (boundary_simple i p.1 h.0) (fit_simple i ps xs h.1)

theses_simple : (cs : List Claim) → AreSimpleClaims cs → all_theses (assertions cs) ≡ true
theses_simple [] h = refl
theses_simple (is_type A ∷ cs) h = theses_simple cs h.1
theses_simple (has_type t A ∷ cs) h = theses_simple cs h.1
theses_simple (equal_types A B ∷ cs) h = absurd h.0
theses_simple (equal_terms s t A ∷ cs) h = absurd h.0
theses_simple (type_goal ∷ cs) h = absurd h.0
theses_simple (term_goal A ∷ cs) h = absurd h.0
theses_simple (type_equation_goal A B ∷ cs) h = absurd h.0
theses_simple (term_equation_goal s t A ∷ cs) h = absurd h.0

statements_plain : (cs : List Claim) → statements (assertions cs) ≡ plains cs
statements_plain [] = refl
statements_plain (c ∷ cs) = ap (λ xs. plain c ∷ xs) (statements_plain cs)

sets_empty : (cs : List Claim) → unions (sets (assertions cs)) ≡ []
sets_empty [] = refl
sets_empty (c ∷ cs) = sets_empty cs

instance_simple : (k : ℕ) (R : Rule) (cs : List Claim) → IsSimpleRule R → fit_all (λ b. b) R.premises (plains cs) ≡ true
    → rule_instance k R (statements (assertions cs)) ≡ Some (plain (fill_goal R.conclusion (symbol k (heads (plains cs)))))
instance_simple k R cs h f =
    let i = instance_of R.premises (heads (plains cs)) in
    ap (rule_instance k R) (statements_plain cs)
    ∙ ap₂ (λ b c. when b (plain (fill_goal c (symbol k (heads (plains cs)))))) (fit_simple i R.premises (plains cs) h.0 ∙ f) (goal_simple i R.conclusion h.1)

pub rule_allowed : (items : List Item) (k : ℕ) (R : Rule) (js : List ℕ) (cs : List Claim) → rule_at (declared_by items).rules k ≡ Some R → IsSimpleRule R → AreSimpleClaims cs
    → each (entry_named (store_of items)) js ≡ Some (assertions cs) → fit_all (λ b. b) R.premises (plains cs) ≡ true
    → Allowed items (entry (record { statement = plain (fill_goal R.conclusion (symbol k (heads (plains cs)))); set = []; step = by_rule k js }))
rule_allowed items k R js cs r h s e f =
    let W : Store = store_of items in
    let x : Statement = plain (fill_goal R.conclusion (symbol k (heads (plains cs)))) in
    let resolved : resolve W (by_rule k js) ≡ Some (by_rule (k, R) (assertions cs)) =
    ap₂ (λ o p. with_two by_rule (option_map (λ R. (k, R)) o) p) r e in
    ap (option_and_then (given W.declarations)) resolved
    ∙ ap₂ (λ b o. cond (b && true) (option_map (λ x. record { statement = x; set = unions (sets (assertions cs)) }) o) None) (theses_simple cs s) (instance_simple k R cs h f)
    ∙ ap (λ S. Some (record { statement = x; set = S })) (sets_empty cs)
