-- Applications by their declarations, and what they tell.
use Rattle.std.proofs.Common.{◌≡◌, ◌≢◌, ℕ, zero, suc, ◌-◌, Bool, true, false, Option, Some, None, List, refl, sym, ap, ◌∙◌, subst, arith}
use Rattle.std.specs.Prelude.{option_map, IfOk, Result}
use Rattle.ft_common.proofs.Options.{none_some}
use Rattle.ft_theory.specs.Expressions.{Expression, bound, free, symbol, meta, Arguments, Terms}
use Rattle.ft_theory.specs.Rules.{look_up, rule_at, term_typings}
use Rattle.ft_theory.specs.Statements.{is_type, has_type, equal_types, equal_terms, type_goal, term_goal, type_equation_goal, term_equation_goal, Statement, plain, abstracted, at}
use Rattle.ft_items.specs.Equal.{equal_statements}
use Rattle.ft_items.specs.Rows.{argument, arguments_of, from_one, meta_arguments, natural, natural_of_meta, natural_of_rule, natural_type, rule_arguments, type_of_boundary}
use Rattle.ft_items.specs.Store.{Declarations, Declared, nth}
use Rattle.ft_syntax.specs.Arguments.{node_of}
use Rattle.ft_syntax.specs.declared.syntax.Node.TheVariants as node
use Rattle.ft_judge.specs.Meaning.{boundary_in}
use Rattle.ft_placing.specs.Applied.{is_left}
use Rattle.ft_placing.specs.Sides.{has_sides}
use Rattle.ft_placing.specs.Telling.{head_told}
use Rattle.ft_placing.specs.declared.sides.At.TheVariants as at_these
use Rattle.ft_check.specs.AtHand.{IsMetavariable}
use Rattle.ft_check.specs.declared.metavariable_at.MetavariableAt.{MetavariableAt}

-- What has a number is found only where it is declared.
pub found_there : {A X : Type 0} (n : ℕ) (o : Option A) (y : X) (Q : ℕ × A → X → Type 0) → ((R : ℕ × A) → option_map {U = ℕ × A} (λ R. (n, R)) o ≡ Some R → Q R y) → (option_map {U = ℕ × A} (λ R. (n, R)) o ≡ None → Some y ≡ None)
    → (R : A) × (o ≡ Some R) × Q (n, R) y
found_there n None y Q f g = none_some (sym (g refl))
found_there n (Some R) y Q f g = (R, refl, f (n, R) refl)

-- What a metavariable tells, by what is read of it.
pub meta_natural : {B E : Type 0} (ts : List Expression) (m : ℕ) (x : MetavariableAt) (d : Declared) (a : Terms) (f : Expression → B) (r : Result (Option B) E) (n : Option Declared) → n ≡ Some d → IsMetavariable ts m x (m, d)
    → IfOk r (λ o. o ≡ option_map f (type_of_boundary (at (boundary_in ts x.boundary.now) a))) → IfOk r (λ o. o ≡ option_map f (natural_of_meta n a))
meta_natural ts m x d a f r n h k e =
    subst (λ n. IfOk r (λ o. o ≡ option_map f (natural_of_meta n a))) (sym h) (subst (λ b. IfOk r (λ o. o ≡ option_map f (type_of_boundary (at b a)))) k.boundary e)

pub meta_argument : {B E : Type 0} (ts : List Expression) (m k : ℕ) (x : MetavariableAt) (d : Declared) (a : Terms) (f : Statement → B) (r : Result (Option B) E) (n : Option Declared) → n ≡ Some d → IsMetavariable ts m x (m, d)
    → IfOk r (λ o. o ≡ option_map f (nth (term_typings (boundary_in ts x.boundary.now) a) k)) → IfOk r (λ o. o ≡ option_map f (nth (meta_arguments n a) k))
meta_argument ts m k x d a f r n h q e =
    subst (λ n. IfOk r (λ o. o ≡ option_map f (nth (meta_arguments n a) k))) (sym h) (subst (λ b. IfOk r (λ o. o ≡ option_map f (nth (term_typings b a) k))) q.boundary e)

-- The type of an expression by its node.
pub natural_bound : {B : Type 0} (W : Declarations) (e : Expression) (j : ℕ) (f : Expression → B) → node.Bound j ≡ node_of e → None ≡ option_map f (natural_type W e)
natural_bound W (bound i) j f h = refl
natural_bound W (free v) j f h = cc
natural_bound W (symbol s a) j f h = cc
natural_bound W (meta m a) j f h = cc

pub natural_variable : {B : Type 0} (W : Declarations) (e : Expression) (v : ℕ) (f : Expression → B) (o : Option B) → node.Free v ≡ node_of e → o ≡ option_map f (option_map (λ d. d.annotation) (look_up W.variables v)) → o ≡ option_map f (natural_type W e)
natural_variable W (bound i) v f o h k = cc
natural_variable W (free w) v f o h k = let same : v ≡ w = cc in k ∙ ap (λ v. option_map f (option_map (λ d. d.annotation) (look_up W.variables v))) same
natural_variable W (symbol s a) v f o h k = cc
natural_variable W (meta m a) v f o h k = cc

pub natural_symbol : {B E : Type 0} (W : Declarations) (e : Expression) (r : ℕ) (f : Expression → B) (x : Result (Option B) E) → node.Sym r ≡ node_of e
    → ((a : Arguments) → e ≡ symbol r a → IfOk x (λ o. o ≡ option_map f (natural_of_rule (rule_at W.rules r) a))) → IfOk x (λ o. o ≡ option_map f (natural_type W e))
natural_symbol W (bound i) r f x h k = cc
natural_symbol W (free v) r f x h k = cc
natural_symbol W (symbol s a) r f x h k =
    let same : r ≡ s = cc in
    subst (λ r. IfOk x (λ o. o ≡ option_map f (natural_of_rule (rule_at W.rules r) a))) same (k a (ap (λ r. symbol r a) (sym same)))
natural_symbol W (meta m a) r f x h k = cc

pub natural_meta : {B E : Type 0} (W : Declarations) (e : Expression) (m : ℕ) (f : Expression → B) (x : Result (Option B) E) → node.Meta m ≡ node_of e
    → ((a : Terms) → e ≡ meta m a → IfOk x (λ o. o ≡ option_map f (natural_of_meta (nth W.metavariables m) a))) → IfOk x (λ o. o ≡ option_map f (natural_type W e))
natural_meta W (bound i) m f x h k = cc
natural_meta W (free v) m f x h k = cc
natural_meta W (symbol s a) m f x h k = cc
natural_meta W (meta n a) m f x h k =
    let same : m ≡ n = cc in
    subst (λ m. IfOk x (λ o. o ≡ option_map f (natural_of_meta (nth W.metavariables m) a))) same (k a (ap (λ m. meta m a) (sym same)))

-- The arguments of an expression by its node.
pub argument_bound : {B : Type 0} (W : Declarations) (e : Expression) (j k : ℕ) (f : Statement → B) → node.Bound j ≡ node_of e → None ≡ option_map f (nth (arguments_of W e) k)
argument_bound W (bound i) j k f h = refl
argument_bound W (free v) j k f h = cc
argument_bound W (symbol s a) j k f h = cc
argument_bound W (meta m a) j k f h = cc

pub argument_variable : {B : Type 0} (W : Declarations) (e : Expression) (v k : ℕ) (f : Statement → B) → node.Free v ≡ node_of e → None ≡ option_map f (nth (arguments_of W e) k)
argument_variable W (bound i) v k f h = cc
argument_variable W (free w) v k f h = refl
argument_variable W (symbol s a) v k f h = cc
argument_variable W (meta m a) v k f h = cc

pub argument_symbol : {B E : Type 0} (W : Declarations) (e : Expression) (r k : ℕ) (f : Statement → B) (x : Result (Option B) E) → node.Sym r ≡ node_of e
    → ((a : Arguments) → e ≡ symbol r a → IfOk x (λ o. o ≡ option_map f (nth (rule_arguments (rule_at W.rules r) a) k))) → IfOk x (λ o. o ≡ option_map f (nth (arguments_of W e) k))
argument_symbol W (bound i) r k f x h g = cc
argument_symbol W (free v) r k f x h g = cc
argument_symbol W (symbol s a) r k f x h g =
    let same : r ≡ s = cc in
    subst (λ r. IfOk x (λ o. o ≡ option_map f (nth (rule_arguments (rule_at W.rules r) a) k))) same (g a (ap (λ r. symbol r a) (sym same)))
argument_symbol W (meta m a) r k f x h g = cc

pub argument_meta : {B E : Type 0} (W : Declarations) (e : Expression) (m k : ℕ) (f : Statement → B) (x : Result (Option B) E) → node.Meta m ≡ node_of e
    → ((a : Terms) → e ≡ meta m a → IfOk x (λ o. o ≡ option_map f (nth (meta_arguments (nth W.metavariables m) a) k))) → IfOk x (λ o. o ≡ option_map f (nth (arguments_of W e) k))
argument_meta W (bound i) m k f x h g = cc
argument_meta W (free v) m k f x h g = cc
argument_meta W (symbol s a) m k f x h g = cc
argument_meta W (meta n a) m k f x h g =
    let same : m ≡ n = cc in
    subst (λ m. IfOk x (λ o. o ≡ option_map f (nth (meta_arguments (nth W.metavariables m) a) k))) same (g a (ap (λ m. meta m a) (sym same)))

-- What the rows conclude, by the parts of the statement.
pub no_natural : (W : Declarations) (x : Statement) → has_sides at_these.Terms x ≡ false → natural W x ≡ None
no_natural W (abstracted A x) h = refl
no_natural W (plain (is_type A)) h = refl
no_natural W (plain (has_type t A)) h = let clash : true ≡ false = h in cc
no_natural W (plain (equal_types A B)) h = refl
no_natural W (plain (equal_terms s t A)) h = refl
no_natural W (plain type_goal) h = refl
no_natural W (plain (term_goal A)) h = refl
no_natural W (plain (type_equation_goal A B)) h = refl
no_natural W (plain (term_equation_goal s t A)) h = refl

pub natural_tested : (ts : List Expression) (W : Declarations) (e A : Expression) (x y : Statement) (left : Option ℕ) (o : Option Bool) → plain (has_type e A) ≡ x → ((N : Expression) → is_left ts N left ≡ equal_statements (plain (equal_types N A)) y)
    → o ≡ option_map (λ N. is_left ts N left) (natural_type W e) → o ≡ option_map (λ z. equal_statements z y) (natural W x)
natural_tested ts W e A x y left o h f k = k ∙ go (natural_type W e) ∙ ap (λ x. option_map (λ z. equal_statements z y) (natural W x)) h
  where
    go : (n : Option Expression) → option_map (λ N. is_left ts N left) n ≡ option_map (λ z. equal_statements z y) (option_map (λ N. plain (equal_types N A)) n)
    go None = refl
    go (Some N) = ap Some (f N)

pub no_argument : (W : Declarations) (i : ℕ) (x : Statement) → None ≡ head_told x → argument W i x ≡ None
no_argument W i (abstracted A x) h = refl
no_argument W i (plain (is_type A)) h = none_some h
no_argument W i (plain (has_type t A)) h = none_some h
no_argument W i (plain (equal_types A B)) h = refl
no_argument W i (plain (equal_terms s t A)) h = refl
no_argument W i (plain type_goal) h = refl
no_argument W i (plain (term_goal A)) h = refl
no_argument W i (plain (type_equation_goal A B)) h = refl
no_argument W i (plain (term_equation_goal s t A)) h = refl

pub argument_of_head : (W : Declarations) (i : ℕ) (e : Expression) (x : Statement) → Some e ≡ head_told x → argument W i x ≡ from_one (arguments_of W e) i
argument_of_head W i e (abstracted A x) h = none_some (sym h)
argument_of_head W i e (plain (is_type A)) h = let same : A ≡ e = cc in ap (λ e. from_one (arguments_of W e) i) same
argument_of_head W i e (plain (has_type t A)) h = let same : t ≡ e = cc in ap (λ e. from_one (arguments_of W e) i) same
argument_of_head W i e (plain (equal_types A B)) h = none_some (sym h)
argument_of_head W i e (plain (equal_terms s t A)) h = none_some (sym h)
argument_of_head W i e (plain type_goal) h = none_some (sym h)
argument_of_head W i e (plain (term_goal A)) h = none_some (sym h)
argument_of_head W i e (plain (type_equation_goal A B)) h = none_some (sym h)
argument_of_head W i e (plain (term_equation_goal s t A)) h = none_some (sym h)

pub first_place : (W : Declarations) (e : Expression) (x : Statement) (i : ℕ) → Some e ≡ head_told x → i ≡ 0 → argument W i x ≡ None
first_place W e x i h n = argument_of_head W i e x h ∙ ap (from_one (arguments_of W e)) n

pub argument_tested : (W : Declarations) (i k : ℕ) (e : Expression) (x y : Statement) (o : Option Bool) → Some e ≡ head_told x → i ≡ suc k
    → o ≡ option_map (λ z. equal_statements z y) (nth (arguments_of W e) k) → o ≡ option_map (λ z. equal_statements z y) (argument W i x)
argument_tested W i k e x y o h n f =
    f ∙ ap (option_map (λ z. equal_statements z y)) (sym (argument_of_head W i e x h ∙ ap (from_one (arguments_of W e)) n))

-- a place that is not the first
pub later_place : (n : ℕ) → n ≢ 0 → n ≡ suc (n - 1)
later_place zero h = absurd (h refl)
later_place (suc n) h = omega arith
