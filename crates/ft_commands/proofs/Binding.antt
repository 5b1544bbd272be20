-- Binders in turn.
use Rattle.std.proofs.Common.{◌≡◌, ◌∙◌, ◌+◌, ◌<◌, ◌++◌, ℕ, List, [], ◌∷◌, length, get_or, drop, map, ap, ap₂, refl, sym, subst}
use Rattle.std.specs.Prelude.{Ok, Err}
use Rattle.std.proofs.lemmas.List.{drop_more, reverse-append}
use Rattle.ft_items.specs.Store.{Assertion, Annotation}
use Rattle.ft_reference.specs.Nucleus as reference
use Rattle.ft_grammar.specs.declared.syntax.Binder.{Binder as AnyBinder}
use Rattle.ft_meaning.specs.Trees.{Binder, binder}
use Rattle.ft_meaning.specs.Values as meaning
use Rattle.ft_meaning.specs.Values.{Environment, Outcome, Run, after, pure, nucleus, as_judgement, State as Running}
use Rattle.ft_meaning.specs.Forms.{meaning as meaning_of, make_variable}
use Rattle.ft_meaning.specs.Commands.{bind_all}
use Rattle.ft_meaning.specs.Commands as command
use Rattle.ft_values.specs.declared.scopes.Scope.{Scope}
use Rattle.ft_values.specs.declared.values.Value.{Value}
use Rattle.ft_running.specs.declared.ending.End.{End}
use Rattle.ft_running.specs.Evaluation.{Evaluation, IsEvaluation, GoesFurther, run_of, environment_of, value_over, IsScopeIn}
use Rattle.ft_running.specs.Asked.{new_term, TellsTerm, IsVariableIn}
use Rattle.ft_running.specs.Telling.{TellsEnd, TellsValue}
use Rattle.ft_running.specs.Ends.{IsMemory}
use Rattle.ft_running.proofs.Ended.{memory_told}
use Rattle.ft_running.proofs.Further.{further_both, environment_further}
use Rattle.ft_running.proofs.Declared.{variable_further, variable_means_further}
use Rattle.ft_eval.specs.CommandsAsking.{BindersAskNothing}
use Rattle.ft_drafting.specs.Drafting.{bound_over, bounds_over, AreBoundIn}
use Rattle.ft_drafting.specs.declared.binding.Bound.{Bound}
use Rattle.ft_drafting.proofs.Staying.{bound_further, bounds_same_further}
use Rattle.ft_commands.specs.Runs.{bind_one}
use Rattle.ft_commands.specs.Telling.{TellsBound, TellsBindings}
use Rattle.ft_commands.specs.declared.binders.Bindings.{Bindings}
use Rattle.ft_commands.proofs.Claimed.{ends_after}

-- ---- runs in a row

-- what is done in two parts is done in a row
pub two_parts : {A B C : Type 0} (o : Outcome A) (L : A → Run B) (Q : B → Run C) (K : A → Run C)
    → ((a : A) (s : Running) → K a s ≡ after (L a s) Q) → after o K ≡ after (after o L) Q
two_parts (Ok a, s) L Q K h = h a s
two_parts (Err e, s) L Q K h = refl

pub three_parts : {A B C D : Type 0} (o : Outcome A) (L : A → Run B) (P : B → Run C) (Q : C → Run D) (K : A → Run D)
    → ((a : A) (s : Running) → K a s ≡ after (after (L a s) P) Q) → after o K ≡ after (after (after o L) P) Q
three_parts (Ok a, s) L P Q K h = h a s
three_parts (Err e, s) L P Q K h = refl

-- ---- the first binder

-- its judgement once its variable is there
judged_one : ℕ → ℕ × Annotation → Run ((ℕ × Annotation) × meaning.Value)
judged_one at x = λ s. after (nucleus at (λ W. reference.variable W x) s) (λ j. pure (x, meaning.judgement j))

-- the binders after it
rest_bound : Binder → List Binder → Environment → List command.Bound → ℕ × Annotation → Assertion → Run (Environment × List command.Bound)
rest_bound b bs G xs x j = bind_all bs ((b.name.name, meaning.judgement j) ∷ G) (record { at = b.name.at; variable = x } ∷ xs)

pub first_bound : (b : Binder) (bs : List Binder) (G : Environment) (xs : List command.Bound) (s : Running)
    → bind_all (b ∷ bs) G xs s ≡ after (bind_one b G s) (λ p. bind_all bs p.1 (p.0 ∷ xs))
unfolding judged_one rest_bound
first_bound b bs G xs s = go (meaning_of b.domain G s)
  where
    last : (ℕ × Annotation) × meaning.Value → Run (command.Bound × Environment)
    last p = pure (record { at = b.name.at; variable = p.0 }, (b.name.name, p.1) ∷ G)

    all : command.Bound × Environment → Run (Environment × List command.Bound)
    all p = bind_all bs p.1 (p.0 ∷ xs)

    variable : (x : ℕ × Annotation) (s : Running)
        → after (nucleus b.name.at (λ W. reference.variable W x) s) (rest_bound b bs G xs x)
        ≡ after (after (judged_one b.name.at x s) last) all
    variable x s =
        three_parts (nucleus b.name.at (λ W. reference.variable W x) s) (λ j. pure (x, meaning.judgement j)) last all (rest_bound b bs G xs x) (λ j s. refl)

    made : (A : Assertion) (s : Running)
        → after (make_variable b.name.at b.name.name A s) (λ x. λ s. after (nucleus b.name.at (λ W. reference.variable W x) s) (rest_bound b bs G xs x))
        ≡ after (after (after (make_variable b.name.at b.name.name A s) (judged_one b.name.at)) last) all
    made A s =
        three_parts (make_variable b.name.at b.name.name A s) (judged_one b.name.at) last all
        (λ x. λ s. after (nucleus b.name.at (λ W. reference.variable W x) s) (rest_bound b bs G xs x)) variable

    go : (o : Outcome meaning.Value)
        → after (after o as_judgement) (λ A. λ s. after (make_variable b.name.at b.name.name A s) (λ x. λ s. after (nucleus b.name.at (λ W. reference.variable W x) s) (rest_bound b bs G xs x)))
        ≡ after (after (after o (new_term b.name.at b.name.name)) last) all
    go (Ok v, s) =
        three_parts (as_judgement v s) (λ A. λ s. after (make_variable b.name.at b.name.name A s) (judged_one b.name.at)) last all
        (λ A. λ s. after (make_variable b.name.at b.name.name A s) (λ x. λ s. after (nucleus b.name.at (λ W. reference.variable W x) s) (rest_bound b bs G xs x))) made
    go (Err e, s) = refl

-- ---- one binder, as it is told

pub one_bound : (e f g h : Evaluation) (b : AnyBinder) (s : Scope) (v : Value) (y : ℕ) (t : Value) (x : Bound) (inner : Scope)
    → IsEvaluation e → GoesFurther e f → GoesFurther f g → GoesFurther g h → IsScopeIn e s → IsEvaluation g
    → TellsValue (meaning_of (binder b).domain (environment_of e s) (run_of e)) (Ok v) f
    → TellsTerm (new_term b.name.at b.name.name (value_over f v) (run_of f)) (Ok (y, t)) g
    → IsScopeIn h inner → environment_of h inner ≡ (b.name.name, value_over g t) ∷ environment_of g s
    → run_of h ≡ run_of g → x ≡ record { at = b.name.at; variable = y }
    → TellsBound (bind_one (binder b) (environment_of e s) (run_of e)) (Ok (x, inner)) h
one_bound e f g h b s v y t x inner is on over last scope now told term within binds run same = (
  ap (λ o. after (after o (new_term b.name.at b.name.name)) (λ p. pure (record { at = b.name.at; variable = p.0 }, (b.name.name, p.1) ∷ environment_of e s))) told.0
      ∙ ap (λ o. after o (λ p. pure (record { at = b.name.at; variable = p.0 }, (b.name.name, p.1) ∷ environment_of e s))) term.0
      ∙ ap₂ (λ (c : ℕ × Annotation) G. (Ok (record { at = b.name.at; variable = c }, G), run_of g)) (sym (variable_means_further g h y last term.1))
      (ap (λ G. (b.name.name, value_over g t) ∷ G) (sym (environment_further e g s is (further_both e f g on over) scope)) ∙ sym binds)
      ∙ ap₂ (λ c S. (Ok (c, environment_of h inner), S)) (ap (bound_over h) (sym same)) (sym run),
  subst (λ (x : Bound). IsVariableIn h x.variable) (sym same) (variable_further g h y last term.1),
  within,
)

pub domain_ends : (e f : Evaluation) (b : AnyBinder) (G : Environment) (end : End)
    → TellsValue (meaning_of (binder b).domain G (run_of e)) (Err end) f
    → TellsBound (bind_one (binder b) G (run_of e)) (Err end) f
domain_ends e f b G end told =
    ends_after (after (meaning_of (binder b).domain G (run_of e)) (new_term b.name.at b.name.name))
    (λ p. pure (record { at = b.name.at; variable = p.0 }, (b.name.name, p.1) ∷ G)) end f
    (ends_after (meaning_of (binder b).domain G (run_of e)) (new_term b.name.at b.name.name) end f told)

pub term_ends : (e f g : Evaluation) (b : AnyBinder) (G : Environment) (v : Value) (end : End)
    → TellsValue (meaning_of (binder b).domain G (run_of e)) (Ok v) f
    → TellsTerm (new_term b.name.at b.name.name (value_over f v) (run_of f)) (Err end) g
    → TellsBound (bind_one (binder b) G (run_of e)) (Err end) g
term_ends e f g b G v end told term =
    ends_after (after (meaning_of (binder b).domain G (run_of e)) (new_term b.name.at b.name.name))
    (λ p. pure (record { at = b.name.at; variable = p.0 }, (b.name.name, p.1) ∷ G)) end g
    (subst (λ o. TellsEnd (after o (new_term b.name.at b.name.name)) end g) (sym told.0) term)

pub memory_ends : (o : Outcome (command.Bound × Environment)) (end : End) (e : Evaluation) → IsMemory end → TellsBound o (Err end) e
memory_ends o end e is = memory_told o end e is

pub memory_binds : (o : Outcome (Environment × List command.Bound)) (end : End) (e : Evaluation) → IsMemory end → TellsBindings o (Err end) e
memory_binds o end e is = memory_told o end e is

-- ---- binders in turn

-- what binders give in a state
abbrev pub given_by : Evaluation → List AnyBinder → Scope → List Bound → Outcome (Environment × List command.Bound)
given_by S bs s xs = bind_all (map binder bs) (environment_of S s) (bounds_over S xs) (run_of S)

-- From the state S on, all binders before the rest are bound; the state is T.
pub record Binds (S T : Evaluation) (all rest : List AnyBinder) (outer s : Scope) (xs : List Bound) : Type 0 where
  pub further : GoesFurther S T
  pub scope : IsScopeIn T s
  pub bound : AreBoundIn T xs
  pub same : given_by T rest s xs ≡ given_by S all outer []
  pub asks : BindersAskNothing (map binder rest)

-- the rest from a place on
pub rest_is : (bs : List AnyBinder) (i : ℕ) (b : AnyBinder) → b ≡ get_or bs i b → i < length bs → drop i bs ≡ b ∷ drop (i + 1) bs
rest_is bs i b is l = drop_more bs i b l ∙ ap (λ x. x ∷ drop (i + 1) bs) (sym is)

last_first : (f : Evaluation) (xs : List Bound) (x : Bound) → bounds_over f (xs ++ x ∷ []) ≡ bound_over f x ∷ bounds_over f xs
last_first f xs x = ap (map (bound_over f)) (reverse-append xs (x ∷ []))

more_bound : (f : Evaluation) (xs : List Bound) (x : Bound) → AreBoundIn f xs → IsVariableIn f x.variable → AreBoundIn f (xs ++ x ∷ [])
more_bound f [] x h w = (w, tt)
more_bound f (y ∷ xs) x h w = (h.0, more_bound f xs x h.1 w)

pub binds_on : (S T U : Evaluation) (all : List AnyBinder) (b : AnyBinder) (rest : List AnyBinder) (outer s inner : Scope) (xs ys : List Bound) (x : Bound)
    → Binds S T all (b ∷ rest) outer s xs → GoesFurther T U
    → TellsBound (bind_one (binder b) (environment_of T s) (run_of T)) (Ok (x, inner)) U → ys ≡ xs ++ x ∷ []
    → Binds S U all rest outer inner ys
binds_on S T U all b rest outer s inner xs ys x h on told is = record {
  further = further_both S T U h.further on;
  scope = told.2;
  bound = subst (λ ys. AreBoundIn U ys) (sym is) (more_bound U xs x (bound_further T U xs on h.bound) told.1);
  same =
      ap (λ zs. bind_all (map binder rest) (environment_of U inner) zs (run_of U))
      (ap (bounds_over U) is ∙ last_first U xs x ∙ ap (λ zs. bound_over U x ∷ zs) (bounds_same_further T U xs on h.bound))
      ∙ ap (λ o. after o (λ p. bind_all (map binder rest) p.1 (p.0 ∷ bounds_over T xs))) (sym told.0)
      ∙ sym (first_bound (binder b) (map binder rest) (environment_of T s) (bounds_over T xs) (run_of T))
      ∙ h.same;
  asks = h.asks.1;
}

pub binds_end : (S T U : Evaluation) (all : List AnyBinder) (b : AnyBinder) (rest : List AnyBinder) (outer s : Scope) (xs : List Bound) (end : End)
    → Binds S T all (b ∷ rest) outer s xs
    → TellsBound (bind_one (binder b) (environment_of T s) (run_of T)) (Err end) U
    → TellsBindings (given_by S all outer []) (Err end) U
binds_end S T U all b rest outer s xs end h told =
    subst (λ o. TellsEnd o end U)
    (sym (first_bound (binder b) (map binder rest) (environment_of T s) (bounds_over T xs) (run_of T)) ∙ h.same)
    (ends_after (bind_one (binder b) (environment_of T s) (run_of T)) (λ p. bind_all (map binder rest) p.1 (p.0 ∷ bounds_over T xs)) end U told)

pub binds_done : (S T : Evaluation) (all rest : List AnyBinder) (outer s : Scope) (xs : List Bound) (b : Bindings)
    → Binds S T all rest outer s xs → rest ≡ [] → b.scope ≡ s → b.bounds.items ≡ xs
    → TellsBindings (given_by S all outer []) (Ok b) T
binds_done S T all rest outer s xs b h none scope bounds =
    subst (λ rest. given_by T rest s xs ≡ given_by S all outer [] → TellsBindings (given_by S all outer []) (Ok b) T) (sym none)
    (λ same. (
      sym same ∙ ap₂ (λ r ys. (Ok (environment_of T r, bounds_over T ys), run_of T)) (sym scope) (sym bounds),
      subst (λ s. IsScopeIn T s) (sym scope) h.scope,
      subst (λ xs. AreBoundIn T xs) (sym bounds) h.bound,
    )) h.same
