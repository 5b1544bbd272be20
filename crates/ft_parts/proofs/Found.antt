-- What the call for an argument finds at a place, and what it answers.
use Rattle.std.proofs.Common.{◌≡◌, ◌∙◌, ◌⊎◌, inl, inr, ℕ, zero, suc, ◌-◌, ◌<◌, ◌≤◌, min, true, false, Option, Some, None, List, [], ◌∷◌, length, refl, sym, ap, ap₂, subst, arith}
use Rattle.std.specs.Prelude.{Ok, Err, is_some, slice_get}
use Rattle.std.proofs.lemmas.Option.{slice_get_within}
use Rattle.ft_common.proofs.Choices.{if_true, if_false}
use Rattle.ft_theory.specs.Expressions.{Expression, bound, free, symbol, meta}
use Rattle.ft_theory.specs.Small.{IsSmall}
use Rattle.ft_theory.specs.Statements.{is_type, has_type, equal_types, equal_terms, type_goal, term_goal, type_equation_goal, term_equation_goal, Statement, plain, abstracted, act_statement, fill}
use Rattle.ft_theory.specs.Rules.{rule_at, instance_of}
use Rattle.ft_items.specs.Sets.{Atom}
use Rattle.ft_items.specs.Item.{by_arg}
use Rattle.ft_items.specs.Good.{Good, of_kind}
use Rattle.ft_items.specs.Store.{Assertion, Declared, Declarations, premises_of, nth, metavariables_in, rules_in, declared_by}
use Rattle.ft_items.specs.Rows.{rule_arguments, meta_arguments, arguments_of as arguments_by, from_one, argument}
use Rattle.ft_reference.specs.Refusals as reference
use Rattle.ft_reference.specs.Refusals.{Check, asks, first_refusal, forms_result, AllSmall, expressions}
use Rattle.ft_reference.specs.Checks.{is_application, application_checks}
use Rattle.ft_syntax.specs.Arguments.{Argument, arguments_of, list_of_arguments, list_of_terms, node_of}
use Rattle.ft_syntax.specs.declared.syntax.Node.TheVariants.{Sym, Meta}
use Rattle.ft_syntax.specs.declared.syntax.SynFault.{SynFault}
use Rattle.ft_syntax.specs.declared.syntax.SynFault.TheVariants as syntax
use Rattle.ft_judge.specs.Faults as faults
use Rattle.ft_judge.specs.declared.fault.Refusal.{Refusal}
use Rattle.ft_judge.specs.declared.fault.Refusal.TheVariants.{WrongForm, ArgumentCount}
use Rattle.ft_judge.specs.declared.fault.Fault.{Fault}
use Rattle.ft_judge.specs.declared.fault.Fault.TheVariants.{Refused, Memory}
use Rattle.ft_kernel.specs.State.{State, entry_at, set_at, if_below}
use Rattle.ft_calls.specs.Answers.{IsAnswer, Answers, Stays}
use Rattle.ft_calls.specs.Forming.{Refuses}
use Rattle.ft_calls.proofs.Entries.{entry_is}
use Rattle.ft_calls.proofs.Answering.{declarations, rests, resolves_one, answered_ok, refused, refused_here, with_statement}
use Rattle.ft_calls.proofs.Later.{answer_before, forms_pass, forms_fail}
use Rattle.ft_parts.specs.Types.{instance_at}
use Rattle.ft_parts.specs.Instances.{BigOr}
use Rattle.ft_parts.specs.Places.{IsNoPlainObjectAt, place_checked, FindsPlace, HasHead, StatesHead, boundary_of_met, type_at_place}
use Rattle.ft_parts.proofs.Pairing.{numbers_of}
use Rattle.ft_parts.proofs.Lines.{IsRule, no_rule, no_met, nth_past}
use Rattle.ft_parts.proofs.Declared.{below_none}
use Rattle.ft_parts.proofs.Places.{body_of, premise_filled, filled_count, term_typed, typed_count, domain_placed, small_filled, other_application}
use Rattle.ft_parts.proofs.AtInstances.{big_weaker}
use Rattle.ft_parts.proofs.Premises.{premise_named}

-- Applications.

pub symbol_applies : (x : Expression) (r : ℕ) → node_of x ≡ Sym r → is_application x ≡ true
symbol_applies (symbol f a) r e = refl
symbol_applies (bound j) r e = let no : ⊥ = cc in absurd no
symbol_applies (free v) r e = let no : ⊥ = cc in absurd no
symbol_applies (meta m a) r e = let no : ⊥ = cc in absurd no

pub meta_applies : (x : Expression) (m : ℕ) → node_of x ≡ Meta m → is_application x ≡ true
meta_applies (meta n a) m e = refl
meta_applies (bound j) m e = let no : ⊥ = cc in absurd no
meta_applies (free v) m e = let no : ⊥ = cc in absurd no
meta_applies (symbol f a) m e = let no : ⊥ = cc in absurd no

-- No argument at the place.

none_at : (i : ℕ) → is_some (from_one [] i) ≡ false
none_at zero = refl
none_at (suc i) = refl

past_none : (xs : List Statement) (i n : ℕ) → length xs ≡ n → (i < 1) ⊎ ((1 ≤ i) × (n < i)) → is_some (from_one xs i) ≡ false
past_none xs zero n e h = refl
past_none xs (suc i) n e (inl l) = absurd (omega (arith, l))
past_none xs (suc i) n e (inr l) = ap is_some (nth_past xs i (omega (arith, e, l.1)))

finds_none_at : (ts : List Expression) (x : Expression) (i n : ℕ) (xs : List Statement) (f : Fault) → is_application x ≡ true → length xs ≡ n → is_some (from_one xs i) ≡ false → f ≡ Refused (ArgumentCount i n) → FindsPlace ts (is_application x) i xs (Err f)
finds_none_at ts x i n xs f a l h e =
    subst (λ f. FindsPlace ts (is_application x) i xs (Err f)) (sym e) (
      if_true (first_refusal (place_checked i xs)) (Some reference.NotApplication) (is_application x) a
          ∙ if_false (first_refusal (forms_result (from_one xs i))) (Some (reference.ArgumentCount i (length xs))) (is_some (from_one xs i)) h
          ∙ ap (λ n. Some (reference.ArgumentCount i n)) l,
      tt,
    )

pub finds_past : (ts : List Expression) (x : Expression) (i n : ℕ) (xs : List Statement) (f : Fault) → is_application x ≡ true → length xs ≡ n → (i < 1) ⊎ ((1 ≤ i) × (n < i)) → f ≡ Refused (ArgumentCount i n)
    → FindsPlace ts (is_application x) i xs (Err f)
finds_past ts x i n xs f a l h e = finds_none_at ts x i n xs f a l (past_none xs i n l h) e

pub finds_empty : (ts : List Expression) (x : Expression) (i : ℕ) (xs : List Statement) (f : Fault) → is_application x ≡ true → xs ≡ [] → f ≡ Refused (ArgumentCount i 0) → FindsPlace ts (is_application x) i xs (Err f)
finds_empty ts x i xs f a h e = finds_none_at ts x i 0 xs f a (ap length h) (ap (λ xs. is_some (from_one xs i)) h ∙ none_at i) e

-- An argument that is there.

from_one_is : (xs : List Statement) (i : ℕ) (x : Statement) → 1 ≤ i → nth xs (i - 1) ≡ Some x → from_one xs i ≡ Some x
from_one_is xs zero x l h = absurd (omega (arith, l))
from_one_is xs (suc i) x l h = let same : i ≡ suc i - 1 = omega arith in ap (nth xs) same ∙ h

-- what is formed of it, after the tests
formed_at : (e : Expression) (i : ℕ) (xs : List Statement) (y : Statement) → is_application e ≡ true → from_one xs i ≡ Some y
    → first_refusal (asks (is_application e) reference.NotApplication ∷ place_checked i xs) ≡ first_refusal (forms_result (Some y))
formed_at e i xs y a h =
    if_true (first_refusal (place_checked i xs)) (Some reference.NotApplication) (is_application e) a
    ∙ ap (λ o. first_refusal (asks (is_some o) (reference.ArgumentCount i (length xs)) ∷ forms_result o)) h

-- it is too big
finds_big_at : (ts : List Expression) (x : Expression) (i : ℕ) (xs : List Statement) (y : Statement) (f : SynFault) → is_application x ≡ true → from_one xs i ≡ Some y → BigOr (AllSmall (expressions y)) f
    → FindsPlace ts (is_application x) i xs (Err (faults.refused f))
finds_big_at ts x i xs y syntax.TooBig a h big = (formed_at x i xs y a h ∙ forms_fail (expressions y) big, tt)
finds_big_at ts x i xs y syntax.Memory a h big = tt

-- The arguments of a symbol.

pub no_symbol_arguments : (s : State) (x : Expression) (r : ℕ) (o : Option ℕ) → Good s.items → node_of x ≡ Sym r → o ≡ if_below r (length (rules_in s.items)) → o ≡ None → arguments_by (declared_by s.items) x ≡ []
no_symbol_arguments s (symbol f a) r o g n h e =
    let same : f ≡ r = cc in
    ap (λ r. rule_arguments (rule_at (declared_by s.items).rules r) a) same
    ∙ ap (λ o. rule_arguments o a) (no_rule s r g (below_none r (length (rules_in s.items)) (sym h ∙ e)))
no_symbol_arguments s (bound j) r o g n h e = let no : ⊥ = cc in absurd no
no_symbol_arguments s (free v) r o g n h e = let no : ⊥ = cc in absurd no
no_symbol_arguments s (meta m a) r o g n h e = let no : ⊥ = cc in absurd no

numbers_count : (ps : List (ℕ × Statement)) → length ps ≡ length (numbers_of ps)
numbers_count [] = refl
numbers_count (p ∷ ps) = ap suc (numbers_count ps)

pub symbol_count : (s : State) (x : Expression) (r p : ℕ) (ms : List ℕ) → IsRule s r ms p → node_of x ≡ Sym r → length (arguments_by (declared_by s.items) x) ≡ min (length (arguments_of x)) (length ms)
symbol_count s (symbol f a) r p ms R e =
    let same : f ≡ r = cc in
    ap (λ r. length (rule_arguments (rule_at (declared_by s.items).rules r) a)) same
    ∙ ap (λ o. length (rule_arguments o a)) R.at
    ∙ filled_count (instance_of (premises_of R.premises) a) (premises_of R.premises) a
    ∙ ap (min (length (list_of_arguments a))) (numbers_count (premises_of R.premises) ∙ ap length R.numbers)
symbol_count s (bound j) r p ms R e = let no : ⊥ = cc in absurd no
symbol_count s (free v) r p ms R e = let no : ⊥ = cc in absurd no
symbol_count s (meta m a) r p ms R e = let no : ⊥ = cc in absurd no

-- the boundary of a premise at the instance that the symbol's arguments are
abbrev pub premise_at : State → Expression → ℕ → ℕ → Statement
premise_at s x r m = act_statement free (instance_at (rule_at (declared_by s.items).rules r) x) (boundary_of_met (nth (declared_by s.items).metavariables m))

symbol_argument : (s : State) (x : Expression) (r p n m : ℕ) (ms : List ℕ) (y : Argument) → IsRule s r ms p → node_of x ≡ Sym r → slice_get ms n ≡ Some m → slice_get (arguments_of x) n ≡ Some y
    → nth (arguments_by (declared_by s.items) x) n ≡ Some (fill (premise_at s x r m) (body_of y))
symbol_argument s (symbol f a) r p n m ms y R e h k =
    let W : Declarations = declared_by s.items in
    let same : f ≡ r = cc in
    let d : (d : Declared) × (nth W.metavariables m ≡ Some d) × (nth (premises_of R.premises) n ≡ Some (m, d.boundary)) = premise_named W ms R.premises n m R.are h in
    ap (λ r. nth (rule_arguments (rule_at W.rules r) a) n) same
    ∙ ap (λ o. nth (rule_arguments o a) n) R.at
    ∙ premise_filled (instance_of (premises_of R.premises) a) (premises_of R.premises) a n (m, d.0.boundary) y d.2 k
    ∙ ap₂ (λ o b. Some (fill (act_statement free (instance_at o (symbol f a)) (boundary_of_met b)) (body_of y))) (sym R.at) (sym d.1)
symbol_argument s (bound j) r p n m ms y R e h k = let no : ⊥ = cc in absurd no
symbol_argument s (free v) r p n m ms y R e h k = let no : ⊥ = cc in absurd no
symbol_argument s (meta l a) r p n m ms y R e h k = let no : ⊥ = cc in absurd no

pub symbol_place : (s : State) (x : Expression) (r p i m : ℕ) (ms : List ℕ) (y : Argument) → IsRule s r ms p → node_of x ≡ Sym r → 1 ≤ i → slice_get ms (i - 1) ≡ Some m → slice_get (arguments_of x) (i - 1) ≡ Some y
    → from_one (arguments_by (declared_by s.items) x) i ≡ Some (fill (premise_at s x r m) (body_of y))
symbol_place s x r p i m ms y R e l h k = from_one_is (arguments_by (declared_by s.items) x) i (fill (premise_at s x r m) (body_of y)) l (symbol_argument s x r p (i - 1) m ms y R e h k)

pub symbol_big : (ts : List Expression) (s : State) (x : Expression) (r i m : ℕ) (y : Argument) (f : SynFault) → node_of x ≡ Sym r → from_one (arguments_by (declared_by s.items) x) i ≡ Some (fill (premise_at s x r m) (body_of y))
    → BigOr (AllSmall (expressions (premise_at s x r m))) f → FindsPlace ts (is_application x) i (arguments_by (declared_by s.items) x) (Err (faults.refused f))
symbol_big ts s x r i m y f e h big =
    finds_big_at ts x i (arguments_by (declared_by s.items) x) (fill (premise_at s x r m) (body_of y)) f (symbol_applies x r e) h
    (big_weaker (AllSmall (expressions (premise_at s x r m))) (AllSmall (expressions (fill (premise_at s x r m) (body_of y)))) f big (small_filled (premise_at s x r m) (body_of y)))

-- The terms of a metavariable.

pub no_meta_arguments : (s : State) (x : Expression) (m : ℕ) (o : Option ℕ) → Good s.items → node_of x ≡ Meta m → o ≡ if_below m (length (metavariables_in s.items)) → o ≡ None → arguments_by (declared_by s.items) x ≡ []
no_meta_arguments s (meta n a) m o g e h k =
    let same : n ≡ m = cc in
    ap (λ m. meta_arguments (nth (declared_by s.items).metavariables m) a) same
    ∙ ap (λ o. meta_arguments o a) (no_met s m g (below_none m (length (metavariables_in s.items)) (sym h ∙ k)))
no_meta_arguments s (bound j) m o g e h k = let no : ⊥ = cc in absurd no
no_meta_arguments s (free v) m o g e h k = let no : ⊥ = cc in absurd no
no_meta_arguments s (symbol f a) m o g e h k = let no : ⊥ = cc in absurd no

pub meta_count : (W : Declarations) (x : Expression) (m : ℕ) (d : Declared) → node_of x ≡ Meta m → nth W.metavariables m ≡ Some d → length (arguments_by W x) ≡ length (arguments_of x)
meta_count W (meta n a) m d e h =
    let same : n ≡ m = cc in
    ap (λ m. length (meta_arguments (nth W.metavariables m) a)) same ∙ ap (λ o. length (meta_arguments o a)) h ∙ typed_count d.boundary a
meta_count W (bound j) m d e h = let no : ⊥ = cc in absurd no
meta_count W (free v) m d e h = let no : ⊥ = cc in absurd no
meta_count W (symbol f a) m d e h = let no : ⊥ = cc in absurd no

-- a term, of the type of its place
abbrev pub term_at_place : Declarations → Expression → ℕ → ℕ → Expression → Statement
term_at_place W x m n t = plain (has_type t (type_at_place n (nth W.metavariables m) (arguments_of x)))

meta_argument : (W : Declarations) (x : Expression) (m n : ℕ) (d : Declared) (t : Expression) → node_of x ≡ Meta m → nth W.metavariables m ≡ Some d → slice_get (arguments_of x) n ≡ Some (0, Some t) → nth (arguments_by W x) n ≡ Some (term_at_place W x m n t)
meta_argument W (meta l a) m n d t e h k =
    let same : l ≡ m = cc in
    ap (λ m. nth (meta_arguments (nth W.metavariables m) a) n) same
    ∙ ap (λ o. nth (meta_arguments o a) n) h
    ∙ term_typed d.boundary a n t k
    ∙ ap (λ A. Some (plain (has_type t A))) (domain_placed d.boundary a n (slice_get_within (list_of_terms a) n (0, Some t) k))
    ∙ ap (λ o. Some (plain (has_type t (type_at_place n o (list_of_terms a))))) (sym h)
meta_argument W (bound j) m n d t e h k = let no : ⊥ = cc in absurd no
meta_argument W (free v) m n d t e h k = let no : ⊥ = cc in absurd no
meta_argument W (symbol f a) m n d t e h k = let no : ⊥ = cc in absurd no

pub meta_place : (W : Declarations) (x : Expression) (m i : ℕ) (d : Declared) (t : Expression) → node_of x ≡ Meta m → nth W.metavariables m ≡ Some d → 1 ≤ i → slice_get (arguments_of x) (i - 1) ≡ Some (0, Some t)
    → from_one (arguments_by W x) i ≡ Some (term_at_place W x m (i - 1) t)
meta_place W x m i d t e h l k = from_one_is (arguments_by W x) i (term_at_place W x m (i - 1) t) l (meta_argument W x m (i - 1) d t e h k)

big_type : (f : SynFault) (t A : Expression) → (f ≡ syntax.TooBig → IsSmall A → ⊥) → BigOr (AllSmall (expressions (plain (has_type t A)))) f
big_type syntax.TooBig t A h = λ k. h refl k.1.0
big_type syntax.Memory t A h = tt

pub meta_big : (ts : List Expression) (x : Expression) (m i : ℕ) (xs : List Statement) (t A : Expression) (f : SynFault) → node_of x ≡ Meta m → from_one xs i ≡ Some (plain (has_type t A)) → (f ≡ syntax.TooBig → IsSmall A → ⊥)
    → FindsPlace ts (is_application x) i xs (Err (faults.refused f))
meta_big ts x m i xs t A f e h big = finds_big_at ts x i xs (plain (has_type t A)) f (meta_applies x m e) h (big_type f t A big)

-- What the call answers.

pub argument_refused : (s : State) (i j : ℕ) (q : Refusal) → IsNoPlainObjectAt s j → q ≡ WrongForm → Answers s (by_arg i j) (Err (Refused q)) s
argument_refused s i j q h e =
    subst (λ q. Answers s (by_arg i j) (Err (Refused q)) s) (sym e)
    (refused_here s (by_arg i j) (by_arg i h.0) WrongForm (resolves_one s (by_arg i j) (by_arg i) j h.0 refl h.1) (other_application (declarations s) i h.0.statement h.2, tt))

-- the checks and the row of a statement about an expression
abbrev checks_at : Declarations → ℕ → Expression → List Check
checks_at W i e = asks (is_application e) reference.NotApplication ∷ place_checked i (arguments_by W e)

checks_of_head : (W : Declarations) (i : ℕ) (x : Statement) (e : Expression) → HasHead x e → application_checks W i x ≡ checks_at W i e
checks_of_head W i (plain (is_type A)) e h = ap (checks_at W i) h
checks_of_head W i (plain (has_type t A)) e h = ap (checks_at W i) h
checks_of_head W i (plain (equal_types A B)) e h = absurd h
checks_of_head W i (plain (equal_terms s t A)) e h = absurd h
checks_of_head W i (plain type_goal) e h = absurd h
checks_of_head W i (plain (term_goal A)) e h = absurd h
checks_of_head W i (plain (type_equation_goal A B)) e h = absurd h
checks_of_head W i (plain (term_equation_goal s t A)) e h = absurd h
checks_of_head W i (abstracted A x) e h = absurd h

row_of_head : (W : Declarations) (i : ℕ) (x : Statement) (e : Expression) → HasHead x e → argument W i x ≡ from_one (arguments_by W e) i
row_of_head W i (plain (is_type A)) e h = ap (λ e. from_one (arguments_by W e) i) h
row_of_head W i (plain (has_type t A)) e h = ap (λ e. from_one (arguments_by W e) i) h
row_of_head W i (plain (equal_types A B)) e h = absurd h
row_of_head W i (plain (equal_terms s t A)) e h = absurd h
row_of_head W i (plain type_goal) e h = absurd h
row_of_head W i (plain (term_goal A)) e h = absurd h
row_of_head W i (plain (type_equation_goal A B)) e h = absurd h
row_of_head W i (plain (term_equation_goal s t A)) e h = absurd h
row_of_head W i (abstracted A x) e h = absurd h

kind_of_head : (i : ℕ) (x : Statement) (S : List Atom) (e : Expression) → HasHead x e → of_kind (by_arg i (rests x S)) ≡ true
kind_of_head i (plain (is_type A)) S e h = refl
kind_of_head i (plain (has_type t A)) S e h = refl
kind_of_head i (plain (equal_types A B)) S e h = absurd h
kind_of_head i (plain (equal_terms s t A)) S e h = absurd h
kind_of_head i (plain type_goal) S e h = absurd h
kind_of_head i (plain (term_goal A)) S e h = absurd h
kind_of_head i (plain (type_equation_goal A B)) S e h = absurd h
kind_of_head i (plain (term_equation_goal s t A)) S e h = absurd h
kind_of_head i (abstracted A x) S e h = absurd h

pub argument_fault : (s t : State) (i j : ℕ) (e : Expression) (f : Fault) → StatesHead s j e → FindsPlace t.trees (is_application e) i (arguments_by (declarations s) e) (Err f) → Stays s t → Answers s (by_arg i j) (Err f) t
argument_fault s t i j e (Refused q) h k x =
    let P : (S : List Atom) × (entry_at s j ≡ Some (rests h.0 S)) = with_statement s j h.0 h.1 in
    refused s t (by_arg i j) (by_arg i (rests h.0 P.0)) q (resolves_one s (by_arg i j) (by_arg i) j (rests h.0 P.0) refl P.1)
    (subst (λ cs. Refuses t.trees cs q) (sym (checks_of_head (declarations s) i h.0 e h.2)) k) x
argument_fault s t i j e Memory h k x = x

pub argument_given : (s t : State) (i j : ℕ) (e : Expression) (y : Statement) (S : List Atom) → StatesHead s j e → set_at s j ≡ Some S → (is_application e ≡ true) × (from_one (arguments_by (declarations s) e) i ≡ Some y) → AllSmall (expressions y)
    → Stays s t → IsAnswer t (by_arg i j) (Ok (rests y S))
argument_given s t i j e y S h k found small x =
    let P : Assertion = rests h.0 S in
    answer_before s t (by_arg i j) (Ok (rests y S)) x.0
    (answered_ok s (by_arg i j) (by_arg i P) y (resolves_one s (by_arg i j) (by_arg i) j P refl (entry_is s j h.0 S h.1 k)) (kind_of_head i h.0 S e h.2) (
      ap first_refusal (checks_of_head (declarations s) i h.0 e h.2) ∙ formed_at e i (arguments_by (declarations s) e) y found.0 found.1 ∙ forms_pass (expressions y) small,
      row_of_head (declarations s) i h.0 e h.2 ∙ found.1,
    ))
