-- The search for a case that matches.
use Rattle.std.proofs.Common.{◌≡◌, ◌∙◌, ◌<◌, ◌≤◌, ◌+◌, ℕ, List, [], ◌∷◌, length, get_or, drop, ap, ap₂, sym, subst, Some, None, Ok, Err, map, zero, suc, arith}
use Rattle.std.proofs.lemmas.List.{drop_more}
use Rattle.std.proofs.Math.Seq.{drop-nil}
use Rattle.ft_grammar.specs.declared.syntax.Case.{Case}
use Rattle.ft_meaning.specs.Trees.{form, pattern, cases}
use Rattle.ft_meaning.specs.Matching.{matches, if_found}
use Rattle.ft_meaning.specs.Values.{Environment, Outcome, after, halts, fails, NoMatch, State as Running}
use Rattle.ft_meaning.specs.Values as meaning
use Rattle.ft_meaning.specs.Forms.{meaning as meaning_of, first_match}
use Rattle.ft_meaning.proofs.Written.{case, case_parts}
use Rattle.ft_telling.specs.declared.halt.Halt.{Halt}
use Rattle.ft_values.specs.declared.scopes.Scope.{Scope}
use Rattle.ft_values.specs.declared.values.Value.{Value}
use Rattle.ft_running.specs.Evaluation.{Evaluation, IsEvaluation, GoesFurther, run_of, environment_of, value_over, IsValueOf, IsScopeIn}
use Rattle.ft_running.specs.Telling.{TellsMatch, Halts}
use Rattle.ft_running.proofs.Further.{further_both, means_further, environment_further, scope_further, below_further}
use Rattle.ft_eval.specs.Asking.{AsksNothing, CasesAskNothing}

-- what the cases give in a state
abbrev pub given_by : Evaluation → ℕ → Value → Scope → List Case → Outcome meaning.Value
given_by S at v G cs = first_match at (cases (map case cs)) (value_over S v) (environment_of S G) (run_of S)

-- From the state S on, all cases before the rest were tried, and none matched; the state is T.
pub record Searches (S T : Evaluation) (at : ℕ) (v : Value) (G : Scope) (all rest : List Case) : Type 0 where
  pub is : IsEvaluation S
  pub further : GoesFurther S T
  pub value : IsValueOf S v
  pub scope : IsScopeIn S G
  pub same : given_by T at v G rest ≡ given_by S at v G all
  pub asks : CasesAskNothing (cases (map case rest))

-- by the first case
first_is : (at : ℕ) (c : Case) (cs : List Case) (v : meaning.Value) (G : Environment) (s : Running)
    → first_match at (cases (map case (c ∷ cs))) v G s
    ≡ after (matches at (pattern c.pattern) v G s) (λ found. if_found found (meaning_of (form c.body)) (first_match at (cases (map case cs)) v G))
first_is at c cs v G s = ap (λ x. first_match at (cases (x ∷ map case cs)) v G s) (case_parts c)

-- the rest from a place on
pub rest_is : (cs : List Case) (i : ℕ) (c : Case) → c ≡ get_or cs i c → i < length cs → drop i cs ≡ c ∷ drop (i + 1) cs
rest_is cs i c is l = drop_more cs i c l ∙ ap (λ x. x ∷ drop (i + 1) cs) (sym is)

pub asks_first : (S T : Evaluation) (at : ℕ) (v : Value) (G : Scope) (all : List Case) (c : Case) (rest : List Case)
    → Searches S T at v G all (c ∷ rest) → AsksNothing (form c.body) × CasesAskNothing (cases (map case rest))
asks_first S T at v G all c rest h = subst (λ x. CasesAskNothing (cases (x ∷ map case rest))) (case_parts c) h.asks

-- the case matches
pub search_found : (S T U : Evaluation) (at : ℕ) (v : Value) (G H : Scope) (all : List Case) (c : Case) (rest : List Case)
    → Searches S T at v G all (c ∷ rest)
    → TellsMatch (matches at (pattern c.pattern) (value_over T v) (environment_of T G) (run_of T)) (Ok (Some H)) U
    → given_by S at v G all ≡ meaning_of (form c.body) (environment_of U H) (run_of U)
search_found S T U at v G H all c rest h told =
    sym h.same
    ∙ first_is at c rest (value_over T v) (environment_of T G) (run_of T)
    ∙ ap (λ o. after o (λ found. if_found found (meaning_of (form c.body)) (first_match at (cases (map case rest)) (value_over T v) (environment_of T G)))) told.0

-- it does not match
pub search_on : (S T U : Evaluation) (at : ℕ) (v : Value) (G : Scope) (all : List Case) (c : Case) (rest : List Case)
    → Searches S T at v G all (c ∷ rest) → GoesFurther T U
    → TellsMatch (matches at (pattern c.pattern) (value_over T v) (environment_of T G) (run_of T)) (Ok None) U
    → Searches S U at v G all rest
search_on S T U at v G all c rest h g told =
    let on : GoesFurther S U = further_both S T U h.further g in
    record {
      is = h.is;
      further = on;
      value = h.value;
      scope = h.scope;
      same =
          ap₂ (λ x K. first_match at (cases (map case rest)) x K (run_of U))
          (means_further S U v h.is on h.value ∙ sym (means_further S T v h.is h.further h.value))
          (environment_further S U G h.is on h.scope ∙ sym (environment_further S T G h.is h.further h.scope))
          ∙ sym (first_is at c rest (value_over T v) (environment_of T G) (run_of T)
          ∙ ap (λ o. after o (λ found. if_found found (meaning_of (form c.body)) (first_match at (cases (map case rest)) (value_over T v) (environment_of T G)))) told.0)
          ∙ h.same;
      asks = (asks_first S T at v G all c rest h).1;
    }

-- the match halts
pub search_halts : (S T U : Evaluation) (at : ℕ) (v : Value) (G : Scope) (all : List Case) (c : Case) (rest : List Case) (q : Halt)
    → Searches S T at v G all (c ∷ rest)
    → Halts (matches at (pattern c.pattern) (value_over T v) (environment_of T G) (run_of T)) q U
    → Halts (given_by S at v G all) q U
search_halts S T U at v G all c rest q h told = λ no. (
  (told no).0,
  sym h.same
      ∙ first_is at c rest (value_over T v) (environment_of T G) (run_of T)
      ∙ ap (λ o. after o (λ found. if_found found (meaning_of (form c.body)) (first_match at (cases (map case rest)) (value_over T v) (environment_of T G)))) (told no).1,
)

-- the value and the scope in the state at hand
pub search_value : (S T : Evaluation) (at : ℕ) (v : Value) (G : Scope) (all rest : List Case) → Searches S T at v G all rest → IsValueOf T v
search_value S T at v G all rest h = below_further S T v h.further h.value

pub search_scope : (S T : Evaluation) (at : ℕ) (v : Value) (G : Scope) (all rest : List Case) → Searches S T at v G all rest → IsScopeIn T G
search_scope S T at v G all rest h = scope_further S T G h.further h.scope

-- no case is left
nothing_left : (cs : List Case) (i : ℕ) → length cs ≤ i → drop i cs ≡ []
nothing_left [] i past = drop-nil i
nothing_left (c ∷ cs) zero past = absurd (omega (arith, past))
nothing_left (c ∷ cs) (suc i) past = nothing_left cs i (omega (arith, past))

pub none_left : (S T : Evaluation) (at : ℕ) (v : Value) (G : Scope) (all : List Case) (i : ℕ) → length all ≤ i
    → Searches S T at v G all (drop i all)
    → given_by S at v G all ≡ (Err (halts (fails NoMatch at)), run_of T)
none_left S T at v G all i past h =
    sym h.same ∙ ap (given_by T at v G) (nothing_left all i past)
