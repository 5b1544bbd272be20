-- Patterns as they are written, against values.
use Rattle.std.proofs.Common.{◌≡◌, ◌∙◌, sym, ap, subst, refl, ℕ, List, map, Some, None, true, false, Option}
use Rattle.std.specs.Prelude.{Result, Ok, Err}
use Rattle.ft_items.specs.Item.{Name}
use Rattle.ft_grammar.specs.declared.syntax.Named.{Named}
use Rattle.ft_grammar.specs.declared.syntax.Pattern.{Pattern as AnyPattern}
use Rattle.ft_grammar.specs.declared.syntax.Pattern.TheVariants as any
use Rattle.ft_meaning.specs.Matching.{matches, match_arguments, ◌and_also◌}
use Rattle.ft_meaning.specs.Trees.{Pattern, pattern, patterns, name_pattern, truth_pattern, unit_pattern, none_pattern, nil_pattern, pair_pattern}
use Rattle.ft_meaning.specs.Values.{Value, Environment, State as Running, Outcome}
use Rattle.ft_meaning.proofs.Written.{pattern_Cons, pattern_SomeWord, pattern_Symbol, pattern_Name, pattern_Wildcard, pattern_TrueWord, pattern_FalseWord, pattern_Unit, pattern_NoneWord, pattern_Nil, pattern_Pair}
use Rattle.ft_telling.specs.declared.halt.Halt.{Halt}
use Rattle.ft_telling.specs.declared.halt.Why.TheVariants as why
use Rattle.ft_values.specs.Kept.{stated_at}
use Rattle.ft_values.specs.declared.scopes.Scope.{Scope}
use Rattle.ft_running.specs.Evaluation.{Evaluation, run_of, environment_of, IsScopeIn}
use Rattle.ft_running.specs.Matching.{no_member, nothing_held, symbol_applied}
use Rattle.ft_running.specs.Readers.{pair_in, list_in, option_in}
use Rattle.ft_running.specs.Telling.{TellsMatch, TellsApplied}
use Rattle.ft_running.proofs.Matched.{cons_is, no_cons_is, some_is, no_some_is, pair_is, no_pair_is}
use Rattle.ft_running.proofs.Applied.{symbol_some, symbol_none, symbol_halts}

-- what is told of an outcome is told of one that is the same
same_told : (o u : Outcome (Option Environment)) (r : Result (Option Scope) Halt) (f : Evaluation) → o ≡ u → TellsMatch u r f → TellsMatch o r f
same_told o u r f h told = subst (λ o. TellsMatch o r f) (sym h) told

-- a pattern as it is written
pattern_told : (at : ℕ) (P : AnyPattern) (Q : Pattern) (w : Value) (G : Environment) (x : Running) (r : Result (Option Scope) Halt) (f : Evaluation)
    → pattern P ≡ Q → TellsMatch (matches at Q w G x) r f → TellsMatch (matches at (pattern P) w G x) r f
pattern_told at P Q w G x r f h told = same_told (matches at (pattern P) w G x) (matches at Q w G x) r f (ap (λ Q. matches at Q w G x) h) told

pub cons_told : (at a : ℕ) (P p q : AnyPattern) (u t w : Value) (G : Environment) (x : Running) (r : Result (Option Scope) Halt) (f : Evaluation) → P ≡ any.Cons a p q
    → Some (u, t) ≡ list_in w → TellsMatch ((matches at (pattern p) u G and_also matches at (pattern q) t) x) r f → TellsMatch (matches at (pattern P) w G x) r f
cons_told at a P p q u t w G x r f is h told =
    pattern_told at P _ w G x r f (ap pattern is ∙ pattern_Cons a p q)
    (same_told _ _ r f (cons_is at a (pattern p) (pattern q) u w t G x h) told)

pub no_cons_told : (at a : ℕ) (P p q : AnyPattern) (w : Value) (G : Environment) (x : Running) (r : Result (Option Scope) Halt) (f : Evaluation) → P ≡ any.Cons a p q
    → None ≡ list_in w → TellsMatch (no_member w x) r f → TellsMatch (matches at (pattern P) w G x) r f
no_cons_told at a P p q w G x r f is h told =
    pattern_told at P _ w G x r f (ap pattern is ∙ pattern_Cons a p q)
    (same_told _ _ r f (no_cons_is at a (pattern p) (pattern q) w G x h) told)

pub some_told : (at a : ℕ) (P p : AnyPattern) (u w : Value) (G : Environment) (x : Running) (r : Result (Option Scope) Halt) (f : Evaluation) → P ≡ any.SomeWord a p
    → Some u ≡ option_in w → TellsMatch (matches at (pattern p) u G x) r f → TellsMatch (matches at (pattern P) w G x) r f
some_told at a P p u w G x r f is h told =
    pattern_told at P _ w G x r f (ap pattern is ∙ pattern_SomeWord a p)
    (same_told _ _ r f (some_is at a (pattern p) u w G x h) told)

pub no_some_told : (at a : ℕ) (P p : AnyPattern) (w : Value) (G : Environment) (x : Running) (r : Result (Option Scope) Halt) (f : Evaluation) → P ≡ any.SomeWord a p
    → None ≡ option_in w → TellsMatch (nothing_held w x) r f → TellsMatch (matches at (pattern P) w G x) r f
no_some_told at a P p w G x r f is h told =
    pattern_told at P _ w G x r f (ap pattern is ∙ pattern_SomeWord a p)
    (same_told _ _ r f (no_some_is at a (pattern p) w G x h) told)

pub pair_told : (at a : ℕ) (P p q : AnyPattern) (u t w : Value) (G : Environment) (x : Running) (r : Result (Option Scope) Halt) (f : Evaluation) → P ≡ any.Pair a p q
    → Some (u, t) ≡ pair_in w → TellsMatch ((matches at (pattern p) u G and_also matches at (pattern q) t) x) r f → TellsMatch (matches at (pattern P) w G x) r f
pair_told at a P p q u t w G x r f is h told =
    pattern_told at P _ w G x r f (ap pattern is ∙ pattern_Pair a p q)
    (same_told _ _ r f (pair_is at a (pattern p) (pattern q) u w t G x h) told)

pub no_pair_told : (e : Evaluation) (at a : ℕ) (P p q : AnyPattern) (w : Value) (G : Environment) (h : Halt) → P ≡ any.Pair a p q
    → None ≡ pair_in w → h ≡ record { at = at; why = why.Stuck } → TellsMatch (matches at (pattern P) w G (run_of e)) (Err h) e
no_pair_told e at a P p q w G h is none same =
    pattern_told at P _ w G (run_of e) (Err h) e (ap pattern is ∙ pattern_Pair a p q)
    (subst (λ h. TellsMatch (matches at (pair_pattern a (pattern p) (pattern q)) w G (run_of e)) (Err h) e) (sym same) (λ _. (tt, no_pair_is at a (pattern p) (pattern q) w G (run_of e) none)))

pub symbol_told : (e f : Evaluation) (at a : ℕ) (P : AnyPattern) (n : Named) (ps : List AnyPattern) (j : ℕ) (w : Value) (G : Environment) (r : Result (Option Scope) Halt) → P ≡ any.Symbol a n ps
    → TellsApplied (symbol_applied n w (run_of e)) (Ok (Some j)) e → TellsMatch (match_arguments at (patterns (map pattern ps)) (stated_at e.list j) 1 G (run_of e)) r f
    → TellsMatch (matches at (pattern P) w G (run_of e)) r f
symbol_told e f at a P n ps j w G r is applied told =
    pattern_told at P _ w G (run_of e) r f (ap pattern is ∙ pattern_Symbol a n ps)
    (same_told _ _ r f (symbol_some at a n (patterns (map pattern ps)) w (stated_at e.list j) G (run_of e) applied) told)

pub no_symbol_told : (e : Evaluation) (at a : ℕ) (P : AnyPattern) (n : Named) (ps : List AnyPattern) (w : Value) (G : Environment) → P ≡ any.Symbol a n ps
    → TellsApplied (symbol_applied n w (run_of e)) (Ok None) e → TellsMatch (matches at (pattern P) w G (run_of e)) (Ok None) e
no_symbol_told e at a P n ps w G is applied =
    pattern_told at P _ w G (run_of e) (Ok None) e (ap pattern is ∙ pattern_Symbol a n ps)
    (symbol_none at a n (patterns (map pattern ps)) w G (run_of e) applied, tt)

pub halting_symbol_told : (e : Evaluation) (at a : ℕ) (P : AnyPattern) (n : Named) (ps : List AnyPattern) (w : Value) (G : Environment) (h : Halt) → P ≡ any.Symbol a n ps
    → TellsApplied (symbol_applied n w (run_of e)) (Err h) e → TellsMatch (matches at (pattern P) w G (run_of e)) (Err h) e
halting_symbol_told e at a P n ps w G h is applied =
    pattern_told at P _ w G (run_of e) (Err h) e (ap pattern is ∙ pattern_Symbol a n ps)
    (λ other. ((applied other).0, symbol_halts at a n (patterns (map pattern ps)) w G (run_of e) _ (applied other).1))

pub named_told : (at a : ℕ) (P : AnyPattern) (n : Name) (w : Value) (G : Environment) (x : Running) (r : Result (Option Scope) Halt) (f : Evaluation) → P ≡ any.Name a n
    → ((at a : ℕ) → TellsMatch (matches at (name_pattern a n) w G x) r f) → TellsMatch (matches at (pattern P) w G x) r f
named_told at a P n w G x r f is told = pattern_told at P _ w G x r f (ap pattern is ∙ pattern_Name a n) (told at a)

pub wildcard_told : (e : Evaluation) (s : Scope) (at a : ℕ) (P : AnyPattern) (w : Value) → P ≡ any.Wildcard a → IsScopeIn e s
    → TellsMatch (matches at (pattern P) w (environment_of e s) (run_of e)) (Ok (Some s)) e
wildcard_told e s at a P w is within = pattern_told at P _ w (environment_of e s) (run_of e) (Ok (Some s)) e (ap pattern is ∙ pattern_Wildcard a) (refl, within)

pub true_told : (at a : ℕ) (P : AnyPattern) (w : Value) (G : Environment) (x : Running) (r : Result (Option Scope) Halt) (f : Evaluation) → P ≡ any.TrueWord a
    → ((a : ℕ) → TellsMatch (matches at (truth_pattern a true) w G x) r f) → TellsMatch (matches at (pattern P) w G x) r f
true_told at a P w G x r f is told = pattern_told at P _ w G x r f (ap pattern is ∙ pattern_TrueWord a) (told a)

pub false_told : (at a : ℕ) (P : AnyPattern) (w : Value) (G : Environment) (x : Running) (r : Result (Option Scope) Halt) (f : Evaluation) → P ≡ any.FalseWord a
    → ((a : ℕ) → TellsMatch (matches at (truth_pattern a false) w G x) r f) → TellsMatch (matches at (pattern P) w G x) r f
false_told at a P w G x r f is told = pattern_told at P _ w G x r f (ap pattern is ∙ pattern_FalseWord a) (told a)

pub unit_word_told : (at a : ℕ) (P : AnyPattern) (w : Value) (G : Environment) (x : Running) (r : Result (Option Scope) Halt) (f : Evaluation) → P ≡ any.Unit a
    → ((a : ℕ) → TellsMatch (matches at (unit_pattern a) w G x) r f) → TellsMatch (matches at (pattern P) w G x) r f
unit_word_told at a P w G x r f is told = pattern_told at P _ w G x r f (ap pattern is ∙ pattern_Unit a) (told a)

pub none_word_told : (at a : ℕ) (P : AnyPattern) (w : Value) (G : Environment) (x : Running) (r : Result (Option Scope) Halt) (f : Evaluation) → P ≡ any.NoneWord a
    → ((a : ℕ) → TellsMatch (matches at (none_pattern a) w G x) r f) → TellsMatch (matches at (pattern P) w G x) r f
none_word_told at a P w G x r f is told = pattern_told at P _ w G x r f (ap pattern is ∙ pattern_NoneWord a) (told a)

pub nil_word_told : (at a : ℕ) (P : AnyPattern) (w : Value) (G : Environment) (x : Running) (r : Result (Option Scope) Halt) (f : Evaluation) → P ≡ any.Nil a
    → ((a : ℕ) → TellsMatch (matches at (nil_pattern a) w G x) r f) → TellsMatch (matches at (pattern P) w G x) r f
nil_word_told at a P w G x r f is told = pattern_told at P _ w G x r f (ap pattern is ∙ pattern_Nil a) (told a)
