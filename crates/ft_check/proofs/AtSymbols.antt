-- What a symbol at arguments tells, by its rule.
use Rattle.std.proofs.Common.{◌≡◌, ℕ, zero, suc, ◌<◌, ◌≤◌, Bool, true, false, ◌&&◌, Option, Some, None, List, [], ◌∷◌, refl, sym, ap, ap₂, ◌∙◌, subst, length, drop, get_or, map, slice_get, arith}
use Rattle.std.specs.Prelude.{option_map, unwrap_or}
use Rattle.std.proofs.Math.Bool.{and_assoc}
use Rattle.std.proofs.lemmas.Option.{same_Some}
use Rattle.ft_common.proofs.Booleans.{false_true}
use Rattle.ft_common.proofs.Options.{none_some}
use Rattle.ft_theory.specs.Expressions.{Expression, bound, free, symbol, Arguments, no_arguments, with_body, dummy, act, instantiate}
use Rattle.ft_theory.specs.Rules.{Rule, instance_of, filled_premises}
use Rattle.ft_theory.specs.Statements.{Claim, is_type, has_type, equal_types, equal_terms, type_goal, term_goal, type_equation_goal, term_equation_goal, Statement, plain, abstracted, act_statement, fill, map_claim, map_statement}
use Rattle.ft_items.specs.Equal.{equal_expressions, equal_statements, fits, is_thesis}
use Rattle.ft_items.specs.Rows.{natural_of_rule, rule_arguments, type_of_boundary}
use Rattle.ft_items.specs.Store.{Declared, Declarations, metavariable_named, nth, premises_of}
use Rattle.ft_sound.proofs.EqualLemmas.{equal_back}
use Rattle.ft_syntax.specs.Arguments.{Argument, arguments_of, as_arguments, list_of_arguments}
use Rattle.ft_syntax.specs.Instances.{instance_in}
use Rattle.ft_syntax.specs.Laws.{arguments_listed}
use Rattle.ft_syntax.specs.Table.{tree, argument_in}
use Rattle.ft_syntax.specs.declared.syntax.Arg.{Arg}
use Rattle.ft_judge.specs.Meaning.{goal_in, head_in, head_of_statement}
use Rattle.ft_judge.specs.declared.judgement.Goal.{Goal}
use Rattle.ft_judge.specs.declared.judgement.Goal.TheVariants as goal
use Rattle.ft_placing.specs.Applied.{is_left}
use Rattle.ft_check.specs.Applying.{IsRule}
use Rattle.ft_check.specs.Arguing.{IsPut}
use Rattle.ft_check.specs.Equations.{same_head}
use Rattle.ft_check.specs.declared.applied.RuleAt.{RuleAt}
use Rattle.ft_check.specs.declared.instances.Put.{Put}
use Rattle.ft_check.proofs.Applies.{numbers_are}
use Rattle.ft_check.proofs.Basics.{named}
use Rattle.ft_check.proofs.Fits.{each_at, each_length}
use Rattle.ft_check.proofs.Moved.{type_same, term_same, types_same, terms_same}

-- The arguments are those of the symbol, and are put for the premises.
pub symbol_put : (x : Put) (qs : List (ℕ × Statement)) (b a : Arguments) (e : Expression) (s : ℕ) → b ≡ as_arguments (arguments_of e) → e ≡ symbol s a → IsPut x qs b → IsPut x qs a
symbol_put x qs b a e s f h k = subst (IsPut x qs) (f ∙ ap (λ e. as_arguments (arguments_of e)) h ∙ arguments_listed a) k

pub rule_numbers : (ts : List Expression) (W : Declarations) (x : RuleAt) (R : ℕ × Rule) → IsRule ts W x R → map (λ (q : ℕ × Statement). q.0) R.1.premises ≡ x.metavariables.now
rule_numbers ts W x R k = ap (map (λ (q : ℕ × Statement). q.0)) k.premises ∙ numbers_are W x.metavariables.now k.declared k.are

-- The type in the conclusion at the arguments.
pub type_concluded : (ts : List Expression) (W : Declarations) (x : RuleAt) (R : ℕ × Rule) (ty : ℕ) (a : Arguments) (left : Option ℕ) (p : Put) (b : Bool) → IsRule ts W x R → x.goal ≡ goal.Tm ty → IsPut p R.1.premises a
    → b ≡ is_left ts (instantiate (instance_in p.terms p.instance.pairs) (tree ts ty)) left → Some b ≡ option_map (λ N. is_left ts N left) (natural_of_rule (Some R.1) a)
type_concluded ts W x R ty a left p b k g q e =
    ap Some (e ∙ ap (λ i. is_left ts (instantiate i (tree ts ty)) left) q.instance)
    ∙ ap (λ c. option_map (λ N. is_left ts N left) (type_of_boundary (plain (map_claim (act free (instance_of R.1.premises a)) c)))) (sym (ap (goal_in ts) g) ∙ k.conclusion)

no_term : (ts : List Expression) (f : Expression → Expression) (g : Goal) → ((ty : ℕ) → g ≡ goal.Tm ty → ⊥) → type_of_boundary (plain (map_claim f (goal_in ts g))) ≡ None
no_term ts f goal.Ty n = refl
no_term ts f (goal.Tm A) n = absurd (n A refl)
no_term ts f (goal.EqTy A B) n = refl
no_term ts f (goal.EqTm s t A) n = refl

pub no_type_concluded : (ts : List Expression) (W : Declarations) (x : RuleAt) (R : ℕ × Rule) (a : Arguments) (left : Option ℕ) → IsRule ts W x R → ((ty : ℕ) → x.goal ≡ goal.Tm ty → ⊥)
    → None ≡ option_map (λ N. is_left ts N left) (natural_of_rule (Some R.1) a)
no_type_concluded ts W x R a left k n =
    ap (option_map (λ N. is_left ts N left)) (sym (no_term ts (act free (instance_of R.1.premises a)) x.goal n))
    ∙ ap (λ c. option_map (λ N. is_left ts N left) (type_of_boundary (plain (map_claim (act free (instance_of R.1.premises a)) c)))) k.conclusion

-- A thesis is a boundary filled with a head where it fits the boundary and has this head, if it has one.
pub filled_same : (b x : Statement) (h : Expression) → is_thesis b ≡ false → (fits x b && same_head (head_of_statement x) (Some h)) ≡ equal_statements (fill b h) x
filled_same (plain type_goal) (plain e) h n = type_same e h
filled_same (plain (term_goal C)) (plain e) h n = term_same e h (bound zero) C
filled_same (plain (type_equation_goal C D)) (plain e) h n = types_same e (is_type h) C D
filled_same (plain (term_equation_goal u v C)) (plain e) h n = terms_same e (is_type h) u v C
filled_same (plain (is_type A)) (plain e) h n = false_true (sym n)
filled_same (plain (has_type t A)) (plain e) h n = false_true (sym n)
filled_same (plain (equal_types A B)) (plain e) h n = false_true (sym n)
filled_same (plain (equal_terms s t A)) (plain e) h n = false_true (sym n)
filled_same (plain c) (abstracted A x) h n = refl
filled_same (abstracted B b) (plain e) h n = refl
filled_same (abstracted B b) (abstracted A x) h n =
    and_assoc (equal_expressions A B) (fits x b) (same_head (head_of_statement x) (Some h)) ∙ ap₂ ◌&&◌ (equal_back A B) (filled_same b x h n)

-- a boundary stays one
claim_stays : (f : Expression → Expression) (c : Claim) → is_thesis (plain (map_claim f c)) ≡ is_thesis (plain c)
claim_stays f (is_type A) = refl
claim_stays f (has_type t A) = refl
claim_stays f (equal_types A B) = refl
claim_stays f (equal_terms s t A) = refl
claim_stays f type_goal = refl
claim_stays f (term_goal A) = refl
claim_stays f (type_equation_goal A B) = refl
claim_stays f (term_equation_goal s t A) = refl

kind_stays : (f : ℕ → Expression → Expression) (k : ℕ) (x : Statement) → is_thesis (map_statement f k x) ≡ is_thesis x
kind_stays f k (plain c) = claim_stays (f k) c
kind_stays f k (abstracted A x) = kind_stays f (suc k) x

pub argument_filled : (p : Put) (qs : List (ℕ × Statement)) (a : Arguments) (b w x : Statement) (h : Expression) (m n : Bool) → IsPut p qs a → w ≡ b → is_thesis w ≡ false
    → m ≡ fits x (map_statement (λ k. instantiate (instance_in p.terms p.instance.pairs)) zero w) → m ≡ true → n ≡ same_head (head_of_statement x) (Some h)
    → n ≡ equal_statements (fill (act_statement free (instance_of qs a) b) h) x
argument_filled p qs a b w x h m n q f k e t s =
    s ∙ ap (λ c. c && same_head (head_of_statement x) (Some h)) (sym t ∙ e)
    ∙ filled_same (map_statement (λ k. instantiate (instance_in p.terms p.instance.pairs)) zero w) x h (kind_stays (λ k. instantiate (instance_in p.terms p.instance.pairs)) zero w ∙ k)
    ∙ ap₂ (λ i w. equal_statements (fill (map_statement (λ k. instantiate i) zero w) h) x) q.instance f

pub argument_unfit : (p : Put) (qs : List (ℕ × Statement)) (a : Arguments) (b w x : Statement) (h : Expression) (m : Bool) → IsPut p qs a → w ≡ b → is_thesis w ≡ false
    → m ≡ fits x (map_statement (λ k. instantiate (instance_in p.terms p.instance.pairs)) zero w) → m ≡ false
    → false ≡ equal_statements (fill (act_statement free (instance_of qs a) b) h) x
argument_unfit p qs a b w x h m q f k e t =
    ap (λ c. c && same_head (head_of_statement x) (Some h)) (sym t ∙ e)
    ∙ filled_same (map_statement (λ k. instantiate (instance_in p.terms p.instance.pairs)) zero w) x h (kind_stays (λ k. instantiate (instance_in p.terms p.instance.pairs)) zero w ∙ k)
    ∙ ap₂ (λ i w. equal_statements (fill (map_statement (λ k. instantiate i) zero w) h) x) q.instance f

-- the head of a thesis, and a body
pub no_head_same : (o h : Option Expression) (x : Option Expression) → x ≡ o → x ≡ None → true ≡ same_head o h
no_head_same o h x e f = ap (λ o. same_head o h) (sym f ∙ e)

pub body_same : (ts : List Expression) (o : Option Expression) (e t : ℕ) (b : Option ℕ) (n : Bool) → Some (tree ts e) ≡ o → b ≡ Some t → n ≡ equal_expressions (tree ts e) (tree ts t) → n ≡ same_head o (Some (head_in ts b))
body_same ts o e t b n h f k = k ∙ ap₂ (λ o b. same_head o (Some (head_in ts b))) h (sym f)

pub no_body_same : (ts : List Expression) (o : Option Expression) (e : ℕ) (b : Option ℕ) (n : Bool) → Some (tree ts e) ≡ o → b ≡ None → n ≡ equal_expressions (bound 0) (tree ts e) → n ≡ same_head o (Some (head_in ts b))
no_body_same ts o e b n h f k = k ∙ equal_back (bound 0) (tree ts e) ∙ ap₂ (λ o b. same_head o (Some (head_in ts b))) h (sym f)

-- The argument at a place.
past_premises : (i : ℕ → ℕ → Option Expression) (ps : List (ℕ × Statement)) (a : Arguments) (k : ℕ) → length ps ≤ k → nth (filled_premises i ps a) k ≡ None
past_premises i [] a k l = refl
past_premises i (p ∷ ps) no_arguments k l = refl
past_premises i (p ∷ ps) (with_body n e a) zero l = absurd (omega (arith, l))
past_premises i (p ∷ ps) (dummy n a) zero l = absurd (omega (arith, l))
past_premises i (p ∷ ps) (with_body n e a) (suc k) l = past_premises i ps a k (omega (arith, l))
past_premises i (p ∷ ps) (dummy n a) (suc k) l = past_premises i ps a k (omega (arith, l))

past_arguments : (i : ℕ → ℕ → Option Expression) (ps : List (ℕ × Statement)) (a : Arguments) (k : ℕ) → length (list_of_arguments a) ≤ k → nth (filled_premises i ps a) k ≡ None
past_arguments i [] a k l = refl
past_arguments i (p ∷ ps) no_arguments k l = refl
past_arguments i (p ∷ ps) (with_body n e a) zero l = absurd (omega (arith, l))
past_arguments i (p ∷ ps) (dummy n a) zero l = absurd (omega (arith, l))
past_arguments i (p ∷ ps) (with_body n e a) (suc k) l = past_arguments i ps a k (omega (arith, l))
past_arguments i (p ∷ ps) (dummy n a) (suc k) l = past_arguments i ps a k (omega (arith, l))

filled_at : (i : ℕ → ℕ → Option Expression) (ps : List (ℕ × Statement)) (a : Arguments) (k : ℕ) (q : ℕ × Statement) (p : Argument) → nth ps k ≡ Some q → slice_get (list_of_arguments a) k ≡ Some p
    → nth (filled_premises i ps a) k ≡ Some (fill (act_statement free i q.1) (unwrap_or p.1 (bound 0)))
filled_at i [] a k q p h f = none_some h
filled_at i (r ∷ ps) no_arguments k q p h f = none_some f
filled_at i (r ∷ ps) (with_body n e a) zero q p h f =
    ap₂ (λ (r : ℕ × Statement) (p : Argument). Some (fill (act_statement free i r.1) (unwrap_or p.1 (bound 0)))) (same_Some r q h) (same_Some (n, Some e) p f)
filled_at i (r ∷ ps) (dummy n a) zero q p h f =
    ap₂ (λ (r : ℕ × Statement) (p : Argument). Some (fill (act_statement free i r.1) (unwrap_or p.1 (bound 0)))) (same_Some r q h) (same_Some (n, None) p f)
filled_at i (r ∷ ps) (with_body n e a) (suc k) q p h f = filled_at i ps a k q p h f
filled_at i (r ∷ ps) (dummy n a) (suc k) q p h f = filled_at i ps a k q p h f

premise_at : (ds : List (ℕ × Declared)) (k : ℕ) (d : ℕ × Declared) (r : List (ℕ × Declared)) → drop k ds ≡ d ∷ r → nth (premises_of ds) k ≡ Some (d.0, d.1.boundary)
premise_at [] zero d r h = let clash : [] ≡ d ∷ r = h in cc
premise_at [] (suc k) d r h = let clash : [] ≡ d ∷ r = h in cc
premise_at (x ∷ ds) zero d r h = let same : x ≡ d = cc in ap (λ (x : ℕ × Declared). Some (x.0, x.1.boundary)) same
premise_at (x ∷ ds) (suc k) d r h = premise_at ds k d r h

premises_length : (ds : List (ℕ × Declared)) → length (premises_of ds) ≡ length ds
premises_length [] = refl
premises_length (d ∷ ds) = ap suc (premises_length ds)

pub few_premises : (ts : List Expression) (W : Declarations) (x : RuleAt) (R : ℕ × Rule) (a : Arguments) (k : ℕ) (f : Statement → Bool) → IsRule ts W x R → length x.metavariables.now ≤ k → None ≡ option_map f (nth (rule_arguments (Some R.1) a) k)
few_premises ts W x R a k f h l =
    let same : length R.1.premises ≡ length x.metavariables.now = ap length h.premises ∙ premises_length h.declared ∙ each_length (metavariable_named W) x.metavariables.now h.declared h.are in
    ap (option_map f) (sym (past_premises (instance_of R.1.premises a) R.1.premises a k (subst (λ n. n ≤ k) (sym same) l)))

pub few_arguments : (R : ℕ × Rule) (e : Expression) (s : ℕ) (a : Arguments) (k : ℕ) (f : Statement → Bool) → e ≡ symbol s a → length (arguments_of e) ≤ k → None ≡ option_map f (nth (rule_arguments (Some R.1) a) k)
few_arguments R e s a k f h l =
    ap (option_map f) (sym (past_arguments (instance_of R.1.premises a) R.1.premises a k (subst (λ e. length (arguments_of e) ≤ k) h l)))

-- what is declared of the metavariable of the premise
pub premise_declared : (ts : List Expression) (W : Declarations) (x : RuleAt) (R : ℕ × Rule) (k m : ℕ) → IsRule ts W x R → k < length x.metavariables.now → m ≡ get_or x.metavariables.now k 0
    → (d : Declared) × (n : ℕ) × (nth W.metavariables m ≡ Some d) × (nth R.1.premises k ≡ Some (n, d.boundary))
premise_declared ts W x R k m h l e =
    let y = each_at (metavariable_named W) x.metavariables.now h.declared k m h.are l e in
    (y.0.1, y.0.0, (named W m y.0 y.1).1, ap (λ ps. nth ps k) h.premises ∙ premise_at h.declared k y.0 _ y.2)

pub argument_told : (ts : List Expression) (R : ℕ × Rule) (e : Expression) (s : ℕ) (a : Arguments) (k j n : ℕ) (b : Statement) (x : Arg) (y : Statement) (t : Bool) → nth R.1.premises k ≡ Some (n, b) → e ≡ symbol s a → j ≡ k → slice_get (arguments_of e) j ≡ Some (argument_in ts x)
    → t ≡ equal_statements (fill (act_statement free (instance_of R.1.premises a) b) (head_in ts x.body)) y
    → Some t ≡ option_map (λ z. equal_statements z y) (nth (rule_arguments (Some R.1) a) k)
argument_told ts R e s a k j n b x y t h q i g f =
    ap Some f
    ∙ ap (option_map (λ z. equal_statements z y))
    (sym (filled_at (instance_of R.1.premises a) R.1.premises a k (n, b) (argument_in ts x) h (subst (λ e. slice_get (arguments_of e) k ≡ Some (argument_in ts x)) q (subst (λ j. slice_get (arguments_of e) j ≡ Some (argument_in ts x)) i g))))
