-- Applications, their symbols and their arguments.
use Rattle.std.proofs.Common.{◌≡◌, ◌∙◌, ◌+◌, ◌<◌, sym, ap, ap₂, refl, subst, ℕ, zero, suc, List, [], ◌∷◌, length, map, get_or, drop, drop-cons, add-one, Some, None, Bool, true, false, cond, nat_eq, Option, if◌then◌else◌, arith}
use Rattle.std.specs.Prelude.{Result, Ok, Err, option_map, option_and_then, IfSome}
use Rattle.std.specs.Bool.{then_some}
use Rattle.std.proofs.lemmas.Option.{same_Some, none-some}
use Rattle.std.proofs.lemmas.List.{length-map}
use Rattle.ft_common.proofs.Results.{ok_ok, err_ok}
use Rattle.ft_theory.specs.Expressions.{Expression, bound, free, symbol, meta}
use Rattle.ft_theory.specs.Rules.{Rule}
use Rattle.ft_theory.specs.Statements.{is_type, has_type, Statement, plain, abstracted}
use Rattle.ft_base.specs.Budget.{Budget}
use Rattle.ft_items.specs.Item.{Name, Item, by_arg}
use Rattle.ft_items.specs.Equal.{is_plain}
use Rattle.ft_items.specs.Good.{Good, equal_names}
use Rattle.ft_items.specs.Rows.{when}
use Rattle.ft_items.specs.Store.{Assertion, declared_by, rule_named, rules_in, with_one}
use Rattle.ft_items.proofs.Lists.{store_is}
use Rattle.ft_grammar.specs.declared.syntax.Named.{Named}
use Rattle.ft_grammar.specs.declared.syntax.Pattern.{Pattern as AnyPattern}
use Rattle.ft_judge.specs.declared.fault.Fault.{Fault}
use Rattle.ft_judge.specs.Meaning.{FormBelow}
use Rattle.ft_judge.specs.declared.judgement.Form.{Form}
use Rattle.ft_judge.specs.declared.judgement.Form.TheVariants as form
use Rattle.ft_syntax.specs.Table.{tree}
use Rattle.ft_syntax.specs.Arguments.{node_of}
use Rattle.ft_syntax.specs.declared.syntax.Node.TheVariants as node
use Rattle.ft_kernel.specs.State.{State, statement_at, IsThesisOf, place_of_name, rule_names}
use Rattle.ft_apply.specs.Named.{rule_of}
use Rattle.ft_apply.proofs.RuleLines.{rule_resolved}
use Rattle.ft_calls.specs.Answers.{Answers}
use Rattle.ft_calls.specs.Forming.{plain_in, HasDomains}
use Rattle.ft_calls.proofs.Answering.{entry_in}
use Rattle.ft_meaning.specs.Matching.{matches, match_arguments, ◌and_also◌, if_found, is_applied}
use Rattle.ft_meaning.specs.Names.{rule_of_name, number_of}
use Rattle.ft_meaning.specs.Trees.{Pattern, pattern, Patterns, patterns, symbol_pattern, and_pattern}
use Rattle.ft_meaning.specs.Values.{Value, judgement, boundary, unit, truth, pair, nil, cons, none, some, Environment, State as Running, Outcome, Run, End, halts, stuck, after, pure, the}
use Rattle.ft_telling.specs.Telling.{halted_at, TellsStatement, state_of}
use Rattle.ft_telling.proofs.Calls.{tells_statement}
use Rattle.ft_telling.specs.declared.halt.Halt.{Halt}
use Rattle.ft_telling.specs.declared.halt.Why.TheVariants as why
use Rattle.ft_values.specs.Kept.{stated, stated_at}
use Rattle.ft_values.specs.declared.scopes.Scope.{Scope}
use Rattle.ft_values.specs.declared.values.Value.{Value as AnyValue}
use Rattle.ft_running.specs.Evaluation.{Evaluation, run_of, value_over, environment_of, IsScopeIn, IsEvaluation, GoesFurther}
use Rattle.ft_running.specs.Matching.{symbol_applied, argument_of, matches_argument, is_symbol, head_in}
use Rattle.ft_running.specs.Readers.{judgement_in, stated_in}
use Rattle.ft_running.specs.Telling.{TellsMatch, TellsApplied, TellsArgument}
use Rattle.ft_running.proofs.Further.{environment_further}

-- ---- what a thesis says below its domains

-- the statement that is stated
states : (s : State) (j : ℕ) (x : Statement) → IsThesisOf s j → statement_at s j ≡ Some x → (stated_at s j).statement ≡ x
states s j x t h =
    ap (λ o. (stated o).statement) t.1
    ∙ same_Some t.0.statement x (ap (option_map (λ (a : Assertion). a.statement)) (sym t.1) ∙ h)

-- a form about a type or a term that is the symbol
abbrev pub applied_form : ℕ → List Expression → Form → Type 0
applied_form r ts f = is_applied r (plain_in ts f) ≡ is_symbol r (option_map (tree ts) (head_in f))

form_applied : (r : ℕ) (ts : List Expression) (f : Form) → applied_form r ts f
form_applied r ts (form.Ty A) = go (tree ts A)
  where
    go : (e : Expression) → is_applied r (plain (is_type e)) ≡ is_symbol r (Some e)
    go (bound i) = refl
    go (free v) = refl
    go (symbol k a) = refl
    go (meta m a) = refl
form_applied r ts (form.Tm t A) = go (tree ts t)
  where
    go : (e : Expression) → is_applied r (plain (has_type e (tree ts A))) ≡ is_symbol r (Some e)
    go (bound i) = refl
    go (free v) = refl
    go (symbol k a) = refl
    go (meta m a) = refl
form_applied r ts (form.EqTy A B) = refl
form_applied r ts (form.EqTm t u A) = refl

pub head_applied : (s : State) (j : ℕ) (f : Form) (o : Option ℕ) (r : ℕ) → IsThesisOf s j → statement_at s j ≡ Some (plain_in s.trees f) → o ≡ head_in f
    → is_applied r (stated_at s j).statement ≡ is_symbol r (option_map (tree s.trees) o)
head_applied s j f o r t h is =
    ap (is_applied r) (states s j (plain_in s.trees f) t h) ∙ form_applied r s.trees f ∙ ap (λ o. is_symbol r (option_map (tree s.trees) o)) (sym is)

pub head_below : (n : ℕ) (f : Form) (o : Option ℕ) → FormBelow n f → o ≡ head_in f → IfSome o (λ e. e < n)
head_below n (form.Ty A) o h is = subst (λ o. IfSome o (λ e. e < n)) (sym is) h
head_below n (form.Tm t A) o h is = subst (λ o. IfSome o (λ e. e < n)) (sym is) h.0
head_below n (form.EqTy A B) o h is = subst (λ o. IfSome o (λ e. e < n)) (sym is) tt
head_below n (form.EqTm t u A) o h is = subst (λ o. IfSome o (λ e. e < n)) (sym is) tt

abstracted_is_none : (r : ℕ) (x : Statement) → is_plain x ≡ false → is_applied r x ≡ false
abstracted_is_none r (plain x) h = cc
abstracted_is_none r (abstracted A x) h = refl

pub no_head : (s : State) (j : ℕ) (r : ℕ) → HasDomains s j → is_applied r (stated_at s j).statement ≡ false
no_head s j r h = ap (λ o. is_applied r (stated o).statement) h.1 ∙ abstracted_is_none r h.0.statement h.2

-- ---- the test for a symbol

pub is_node : (r k : ℕ) (e : Expression) → node.Sym k ≡ node_of e → is_symbol r (Some e) ≡ nat_eq r k
is_node r k (bound i) h = cc
is_node r k (free v) h = cc
is_node r k (symbol m a) h = let same : k ≡ m = cc in ap (nat_eq r) (sym same)
is_node r k (meta m a) h = cc

pub bound_node : (r k : ℕ) (e : Expression) → node.Bound k ≡ node_of e → is_symbol r (Some e) ≡ false
bound_node r k (bound i) h = refl
bound_node r k (free v) h = refl
bound_node r k (symbol m a) h = cc
bound_node r k (meta m a) h = refl

pub free_node : (r k : ℕ) (e : Expression) → node.Free k ≡ node_of e → is_symbol r (Some e) ≡ false
free_node r k (bound i) h = refl
free_node r k (free v) h = refl
free_node r k (symbol m a) h = cc
free_node r k (meta m a) h = refl

pub meta_node : (r k : ℕ) (e : Expression) → node.Meta k ≡ node_of e → is_symbol r (Some e) ≡ false
meta_node r k (bound i) h = refl
meta_node r k (free v) h = refl
meta_node r k (symbol m a) h = cc
meta_node r k (meta m a) h = refl

-- ---- the rule of a name

place_is_number : (ns : List Name) (n : Name) → place_of_name ns n ≡ number_of ns n
place_is_number [] n = refl
place_is_number (m ∷ ns) n = go (equal_names m n) (place_is_number ns n)
  where
    go : (b : Bool) → place_of_name ns n ≡ number_of ns n → (if b then Some 0 else option_map suc (place_of_name ns n)) ≡ cond b (Some zero) (option_map suc (number_of ns n))
    go true h = refl
    go false h = ap (option_map suc) h

number_less : (ns : List Name) (n : Name) (k : ℕ) → number_of ns n ≡ Some k → k < length ns
number_less [] n k e = absurd (none-some k e)
number_less (m ∷ ns) n k e = go (equal_names m n) (number_of ns n) (number_less ns n) e
  where
    go : (b : Bool) (o : Option ℕ) → ((j : ℕ) → o ≡ Some j → j < length ns) → cond b (Some zero) (option_map suc o) ≡ Some k → k < length (m ∷ ns)
    go true o h e = let z = same_Some 0 k e in omega arith
    go false None h e = absurd (none-some k e)
    go false (Some j) h e = let z = same_Some (suc j) k e in let l = h j refl in omega arith

names_length : (items : List Item) → length (rule_names items) ≡ length (rules_in items)
names_length items = length-map (rules_in items) _

pub rule_found : (items : List Item) (n : Name) (r : ℕ) → Good items → Some r ≡ place_of_name (rule_names items) n → rule_of_name (declared_by items) n ≡ Some (r, rule_of items r)
rule_found items n r g h =
    let number : number_of (rule_names items) n ≡ Some r = sym (place_is_number (rule_names items) n) ∙ sym h in
    let less : r < length (rules_in items) = omega (arith, names_length items, number_less (rule_names items) n r number) in
    ap (λ ns. option_and_then (rule_named (declared_by items)) (number_of ns n)) (store_is items g).names
    ∙ ap (option_and_then (rule_named (declared_by items))) number ∙ rule_resolved items r g less

pub rule_missing : (items : List Item) (n : Name) → Good items → None ≡ place_of_name (rule_names items) n → rule_of_name (declared_by items) n ≡ None
rule_missing items n g h =
    ap (λ ns. option_and_then (rule_named (declared_by items)) (number_of ns n)) (store_is items g).names
    ∙ ap (option_and_then (rule_named (declared_by items))) (sym (place_is_number (rule_names items) n) ∙ sym h)

-- ---- the symbol of a judgement

judgement_is : (w : Value) (a : Assertion) → Some a ≡ judgement_in w → w ≡ judgement a
judgement_is (judgement j) a h = ap judgement (same_Some j a (sym h))
judgement_is (boundary b) a h = cc
judgement_is unit a h = cc
judgement_is (truth b) a h = cc
judgement_is (pair v w) a h = cc
judgement_is nil a h = cc
judgement_is (cons v w) a h = cc
judgement_is none a h = cc
judgement_is (some v) a h = cc

-- what follows the rule
abbrev by_rule_found : Option (ℕ × Rule) → Assertion → Running → Outcome (Option Assertion)
by_rule_found o a x = after (the o x) (λ r. pure (when (is_applied r.0 a.statement) a))

pub applied_told : (e : Evaluation) (n : Named) (w : Value) (j r : ℕ) (b : Bool) (o : Option ℕ) → Good e.list.items → Some r ≡ place_of_name (rule_names e.list.items) n.name
    → stated_in e (Some j) ≡ judgement_in w → b ≡ is_applied r (stated_at e.list j).statement → o ≡ then_some b j
    → TellsApplied (symbol_applied n w (run_of e)) (Ok o) e
applied_told e n w j r b o g place is applied found =
    let a = stated_at e.list j in
    let x = run_of e in
    subst (λ w. TellsApplied (symbol_applied n w x) (Ok o) e) (sym (judgement_is w a is))
    (ap (λ o. by_rule_found o a x) (rule_found e.list.items n.name r g place)
    ∙ ap (λ t. (Ok (when t a), x)) (sym applied) ∙ ap (λ o. (Ok o, x)) (go b ∙ ap (option_map (stated_at e.list)) (sym found)))
  where
    go : (b : Bool) → when b (stated_at e.list j) ≡ option_map (stated_at e.list) (then_some b j)
    go true = refl
    go false = refl

stuck_without : (n : Named) (w : Value) (x : Running) → rule_of_name x.declarations n.name ≡ None → symbol_applied n w x ≡ (Err (halts stuck), x)
stuck_without n (judgement j) x h = ap (λ o. by_rule_found o j x) h
stuck_without n (boundary b) x h = refl
stuck_without n unit x h = refl
stuck_without n (truth b) x h = refl
stuck_without n (pair v w) x h = refl
stuck_without n nil x h = refl
stuck_without n (cons v w) x h = refl
stuck_without n none x h = refl
stuck_without n (some v) x h = refl

pub unnamed_told : (e : Evaluation) (n : Named) (w : Value) (at : ℕ) (h : Halt) → Good e.list.items → None ≡ place_of_name (rule_names e.list.items) n.name
    → h ≡ record { at = at; why = why.Stuck } → TellsApplied (symbol_applied n w (run_of e)) (Err h) e
unnamed_told e n w at h g place is =
    subst (λ h. TellsApplied (symbol_applied n w (run_of e)) (Err h) e) (sym is) (λ _. (tt, stuck_without n w (run_of e) (rule_missing e.list.items n.name g place)))

stuck_at_other : (n : Named) (w : Value) (x : Running) → None ≡ judgement_in w → symbol_applied n w x ≡ (Err (halts stuck), x)
stuck_at_other n (judgement j) x h = cc
stuck_at_other n (boundary b) x h = refl
stuck_at_other n unit x h = refl
stuck_at_other n (truth b) x h = refl
stuck_at_other n (pair v w) x h = refl
stuck_at_other n nil x h = refl
stuck_at_other n (cons v w) x h = refl
stuck_at_other n none x h = refl
stuck_at_other n (some v) x h = refl

pub other_told : (e : Evaluation) (n : Named) (w : Value) (at : ℕ) (h : Halt) → None ≡ judgement_in w → h ≡ record { at = at; why = why.Stuck }
    → TellsApplied (symbol_applied n w (run_of e)) (Err h) e
other_told e n w at h other is = subst (λ h. TellsApplied (symbol_applied n w (run_of e)) (Err h) e) (sym is) (λ _. (tt, stuck_at_other n w (run_of e) other))

-- ---- a pattern of a symbol

-- what follows, by the rule
abbrev by_rule : ℕ → Patterns → Assertion → Environment → Option (ℕ × Rule) → Running → Outcome (Option Environment)
by_rule at ps j G o x = after (the o x) (λ r. cond (is_applied r.0 j.statement) (match_arguments at ps j 1 G) (pure None))

-- a run that is stuck
abbrev stuck_at : {A : Type 0} → Running → Outcome A
stuck_at x = (Err (halts stuck), x)

-- no outcome both is stuck and has a value
stuck_is_no_value : {A B : Type 0} (a : A) (x : Running) → stuck_at x ≡ (Ok a, x) → B
stuck_is_no_value {A = A} a x h = absurd (err_ok (halts stuck) a (ap (λ (o : Outcome A). o.0) h))

err_err : {A E : Type 0} (d e : E) → ◌≡◌ {A = Result A E} (Err d) (Err e) → d ≡ e
err_err d e h = cc

-- the end of a run that is stuck
stuck_is : {A B : Type 0} (E : End) (x : Running) → stuck_at {A = A} x ≡ (Err E, x) → stuck_at {A = B} x ≡ (Err E, x)
stuck_is {A = A} E x h = ap (λ E. (Err E, x)) (err_err (halts stuck) E (ap (λ (o : Outcome A). o.0) h))

applied_by : (at : ℕ) (ps : Patterns) (j a : Assertion) (G : Environment) (x : Running) (o : Option (ℕ × Rule)) → by_rule_found o j x ≡ (Ok (Some a), x)
    → by_rule at ps j G o x ≡ match_arguments at ps a 1 G x
applied_by at ps j a G x None h = stuck_is_no_value (Some a) x h
applied_by at ps j a G x (Some r) h = go (is_applied r.0 j.statement) h
  where
    go : (b : Bool) → pure (when b j) x ≡ (Ok (Some a), x) → cond b (match_arguments at ps j 1 G) (pure None) x ≡ match_arguments at ps a 1 G x
    go true h = ap (λ j. match_arguments at ps j 1 G x) (same_Some j a (ok_ok (Some j) (Some a) (ap (λ (o : Outcome (Option Assertion)). o.0) h)))
    go false h = absurd (none-some a (ok_ok None (Some a) (ap (λ (o : Outcome (Option Assertion)). o.0) h)))

pub symbol_some : (at a : ℕ) (n : Named) (ps : Patterns) (w : Value) (j : Assertion) (G : Environment) (x : Running) → symbol_applied n w x ≡ (Ok (Some j), x)
    → matches at (symbol_pattern a n ps) w G x ≡ match_arguments at ps j 1 G x
symbol_some at a n ps (judgement i) j G x h = applied_by at ps i j G x (rule_of_name x.declarations n.name) h
symbol_some at a n ps (boundary b) j G x h = stuck_is_no_value (Some j) x h
symbol_some at a n ps unit j G x h = stuck_is_no_value (Some j) x h
symbol_some at a n ps (truth b) j G x h = stuck_is_no_value (Some j) x h
symbol_some at a n ps (pair v w) j G x h = stuck_is_no_value (Some j) x h
symbol_some at a n ps nil j G x h = stuck_is_no_value (Some j) x h
symbol_some at a n ps (cons v w) j G x h = stuck_is_no_value (Some j) x h
symbol_some at a n ps none j G x h = stuck_is_no_value (Some j) x h
symbol_some at a n ps (some v) j G x h = stuck_is_no_value (Some j) x h

other_by : (at : ℕ) (ps : Patterns) (j : Assertion) (G : Environment) (x : Running) (o : Option (ℕ × Rule)) → by_rule_found o j x ≡ (Ok None, x)
    → by_rule at ps j G o x ≡ (Ok None, x)
other_by at ps j G x None h = stuck_is_no_value None x h
other_by at ps j G x (Some r) h = go (is_applied r.0 j.statement) h
  where
    go : (b : Bool) → pure (when b j) x ≡ (Ok None, x) → cond b (match_arguments at ps j 1 G) (pure None) x ≡ (Ok None, x)
    go true h = absurd (none-some j (sym (ok_ok (Some j) None (ap (λ (o : Outcome (Option Assertion)). o.0) h))))
    go false h = refl

pub symbol_none : (at a : ℕ) (n : Named) (ps : Patterns) (w : Value) (G : Environment) (x : Running) → symbol_applied n w x ≡ (Ok None, x)
    → matches at (symbol_pattern a n ps) w G x ≡ (Ok None, x)
symbol_none at a n ps (judgement i) G x h = other_by at ps i G x (rule_of_name x.declarations n.name) h
symbol_none at a n ps (boundary b) G x h = stuck_is_no_value None x h
symbol_none at a n ps unit G x h = stuck_is_no_value None x h
symbol_none at a n ps (truth b) G x h = stuck_is_no_value None x h
symbol_none at a n ps (pair v w) G x h = stuck_is_no_value None x h
symbol_none at a n ps nil G x h = stuck_is_no_value None x h
symbol_none at a n ps (cons v w) G x h = stuck_is_no_value None x h
symbol_none at a n ps none G x h = stuck_is_no_value None x h
symbol_none at a n ps (some v) G x h = stuck_is_no_value None x h

halts_by : (at : ℕ) (ps : Patterns) (j : Assertion) (G : Environment) (x : Running) (o : Option (ℕ × Rule)) (E : End) → by_rule_found o j x ≡ (Err E, x)
    → by_rule at ps j G o x ≡ (Err E, x)
halts_by at ps j G x None E h = stuck_is E x h
halts_by at ps j G x (Some r) E h = absurd (err_ok E (when (is_applied r.0 j.statement) j) (sym (ap (λ (o : Outcome (Option Assertion)). o.0) h)))

pub symbol_halts : (at a : ℕ) (n : Named) (ps : Patterns) (w : Value) (G : Environment) (x : Running) (E : End) → symbol_applied n w x ≡ (Err E, x)
    → matches at (symbol_pattern a n ps) w G x ≡ (Err E, x)
symbol_halts at a n ps (judgement i) G x E h = halts_by at ps i G x (rule_of_name x.declarations n.name) E h
symbol_halts at a n ps (boundary b) G x E h = stuck_is E x h
symbol_halts at a n ps unit G x E h = stuck_is E x h
symbol_halts at a n ps (truth b) G x E h = stuck_is E x h
symbol_halts at a n ps (pair v w) G x E h = stuck_is E x h
symbol_halts at a n ps nil G x E h = stuck_is E x h
symbol_halts at a n ps (cons v w) G x E h = stuck_is E x h
symbol_halts at a n ps none G x E h = stuck_is E x h
symbol_halts at a n ps (some v) G x E h = stuck_is E x h

-- ---- arguments

-- the argument that the nucleus answers
pub argument_answered : (s t : State) (u : Budget) (at i j : ℕ) (r : Result ℕ Fault) → IsThesisOf s j → Answers s (by_arg i j) r t
    → TellsStatement (argument_of at i (stated_at s j) (state_of s u)) (halted_at at r) t u
argument_answered s t u at i j r is h =
    subst (λ a. TellsStatement (argument_of at i a (state_of s u)) (halted_at at r) t u) (sym (ap stated is.1))
    (tells_statement s t u at (by_arg i j) (by_arg i is.0) r (ap (with_one (by_arg i)) (entry_in s j is.0 is.1)) h)

pub argument_found : (e f g : Evaluation) (at i : ℕ) (p : Pattern) (J : Assertion) (s : Scope) (v : AnyValue) (r : Result (Option Scope) Halt)
    → IsEvaluation e → GoesFurther e f → IsScopeIn e s → TellsArgument (argument_of at i J (run_of e)) (Ok v) f
    → TellsMatch (matches at p (value_over f v) (environment_of f s) (run_of f)) r g
    → TellsMatch (matches_argument at p J i (environment_of e s) (run_of e)) r g
argument_found e f g at i p J s v r is further within first second =
    subst (λ o. TellsMatch o r g)
    (sym (ap (λ o. after o (λ a. matches at p (judgement a) (environment_of e s))) first.1
    ∙ ap₂ (λ w G. matches at p w G (run_of f)) (sym first.2) (sym (environment_further e f s is further within))))
    second

pub argument_halts : (e f : Evaluation) (at i : ℕ) (p : Pattern) (J : Assertion) (G : Environment) (h : Halt) → TellsArgument (argument_of at i J (run_of e)) (Err h) f
    → TellsMatch (matches_argument at p J i G (run_of e)) (Err h) f
argument_halts e f at i p J G h told = λ other. ((told other).0, ap (λ o. after o (λ a. matches at p (judgement a) G)) (told other).1)

-- one argument, and the further ones
one_argument : (at i : ℕ) (p : Pattern) (ps : Patterns) (J : Assertion) (G : Environment) (x : Running)
    → match_arguments at (and_pattern p ps) J i G x ≡ (matches_argument at p J i G and_also match_arguments at ps J (suc i)) x
one_argument at i p ps J G x = go (argument_of at i J x)
  where
    go : (o : Outcome Assertion)
        → after o (λ a. matches at p (judgement a) G and_also match_arguments at ps J (suc i))
        ≡ after (after o (λ a. matches at p (judgement a) G)) (λ found. if_found found (match_arguments at ps J (suc i)) (pure None))
    go (Ok a, y) = refl
    go (Err E, y) = refl

item_at : {A : Type 0} (xs : List A) (i : ℕ) (x : A) → x ≡ get_or xs i x → i < length xs → drop i xs ≡ x ∷ drop (i + 1) xs
item_at xs i x is l = drop-cons xs i x l ∙ ap (λ y. y ∷ drop (suc i) xs) (sym is) ∙ ap (λ k. x ∷ drop k xs) (sym (add-one i))

-- the patterns from a place on against the arguments from it on
abbrev pub arguments_from : ℕ → List AnyPattern → Assertion → ℕ → Environment → Run (Option Environment)
arguments_from at ps J i G = match_arguments at (patterns (map pattern (drop i ps))) J (i + 1) G

pub next_argument : (at : ℕ) (ps : List AnyPattern) (J : Assertion) (i : ℕ) (p : AnyPattern) (G : Environment) (x : Running) → p ≡ get_or ps i p → i < length ps
    → arguments_from at ps J i G x ≡ (matches_argument at (pattern p) J (i + 1) G and_also arguments_from at ps J (i + 1)) x
next_argument at ps J i p G x is l =
    ap (λ xs. match_arguments at (patterns (map pattern xs)) J (i + 1) G x) (item_at ps i p is l)
    ∙ one_argument at (i + 1) (pattern p) (patterns (map pattern (drop (i + 1) ps))) J G x
    ∙ ap (λ k. (matches_argument at (pattern p) J (i + 1) G and_also match_arguments at (patterns (map pattern (drop (i + 1) ps))) J k) x) (sym (add-one (i + 1)))
