-- What a form gives over named values: a value, or how it ends. Each form spends a unit first, and its parts are evaluated in
-- the order of the text.
use Rattle.std.specs.Prelude.{ℕ, Bool, true, false, cond, Option, Some, None, List, [], ◌∷◌, ◌++◌, Result, Ok, Err, codes}
use Rattle.ft_theory.specs.Rules.{Rule}
use Rattle.ft_theory.specs.Statements.{is_type, has_type, equal_types, equal_terms, Statement, plain}
use Rattle.ft_items.specs.Sets.{union}
use Rattle.ft_items.specs.Item.{Name}
use Rattle.ft_items.specs.Store.{Assertion, Annotation, Declarations}
use Rattle.ft_items.specs.Good.{equal_names}
use Rattle.ft_reference.specs.Refusals.{Refusal, WrongForm}
use Rattle.ft_reference.specs.Declare.{new_variable}
use Rattle.ft_reference.specs.Nucleus.{fits_boundary}
use Rattle.ft_reference.specs.Nucleus as reference
use Rattle.ft_equality.specs.Equality.{types_are_equal, terms_are_equal, normal_form}
use Rattle.ft_grammar.specs.declared.form.OneForm.{OneForm}
use Rattle.ft_grammar.specs.declared.form.OneForm.TheVariants.{Refl, Sym, Left, Right, Typeof, Domain, Natural, Normal, Boundaryof, SomeWord}
use Rattle.ft_grammar.specs.declared.form.TwoForm.{TwoForm}
use Rattle.ft_grammar.specs.declared.form.TwoForm.TheVariants.{Trans, Convert, Equal, Widen, Rewrite, Fill}
use Rattle.ft_meaning.specs.Names.{named}
use Rattle.ft_meaning.specs.Trees.{Form, let_in, if_then, match_with, handle_with, abstraction, cons_of, one, two, argument, congruence, perform, call, substitution, truth_of, unit_of, pair_of, none_of, nil_of, Forms, no_forms, and_form, Cases, no_cases, and_case, ValueCase, no_value_case, value_case, Handlers, no_handlers, and_handler, place}
use Rattle.ft_meaning.specs.Values.{Value, judgement, boundary, unit, truth, pair, nil, cons, none, some, Environment, Refused, NoMatch, fails, stuck, performs, halts, Outcome, Run, ◌>>=◌, ◌>>◌, pure, end, halt, spend, checker, nucleus, declare, the_rule, as_judgement, as_statement, as_judgements}
use Rattle.ft_meaning.specs.Matching.{if_found, matches}

-- Calls of the nucleus as values.

-- a call that gives a judgement
abbrev pub judged : ℕ → (Declarations → Result Assertion Refusal) → Run Value
judged at ask = nucleus at ask >>= λ j. pure (judgement j)

-- a call that gives a boundary
abbrev pub bounded : ℕ → (Declarations → Result Assertion Refusal) → Run Value
bounded at ask = nucleus at ask >>= λ b. pure (boundary b)

-- the operation that is performed where a judgement does not fit the boundary that is wanted
abbrev pub coerce : {A : Type 0} → ℕ → Assertion → Assertion → Run A
coerce at j b = end (performs (codes "coerce") (pair (judgement j) (boundary b)) at)

-- the judgement, where it fits the boundary; else `coerce` is performed with both
abbrev pub fitting : ℕ → Assertion → Assertion → Run Assertion
fitting at j b = cond (fits_boundary j b) (pure j) (coerce at j b)

-- A new variable of a type, for one unit, which is spent also where the type is refused. Its number is that of the units used before.
abbrev pub make_variable : ℕ → Name → Assertion → Run (ℕ × Annotation)
make_variable at n A = λ s. (spend at >> declare Refused at (λ W. new_variable W s.units.used n A)) s

-- a judgement or a boundary with the variable bound, as its first domain
abbrev pub abstract_value : ℕ → ℕ × Annotation → Value → Run Value
abstract_value at x (judgement j) = judged at (λ W. reference.abstract_variable W x j)
abstract_value at x (boundary b) = bounded at (λ W. reference.abstract_variable W x b)
abstract_value at x v = halt stuck

-- a term for the first variable of a judgement or a boundary
abbrev pub substitute_value : ℕ → Value → Assertion → Run Value
substitute_value at (judgement j) t = judged at (λ W. reference.substitute W j t)
substitute_value at (boundary b) t = bounded at (λ W. reference.substitute W b t)
substitute_value at v t = halt stuck

-- Equality.

-- the equation, where the answer is yes
abbrev pub equation_if : Bool → Statement → Assertion → Assertion → Value
equation_if true x j k = some (judgement (record { statement = x; set = union j.set k.set }))
equation_if false x j k = none

-- The equation of two plain types or two plain terms, where they are equal by the declared rules, of terms at the first type; none
-- where they are not. What has another form is refused.
abbrev pub compare : ℕ → Assertion → Assertion → Statement → Statement → Run Value
compare at j k (plain (is_type A)) (plain (is_type B)) =
    checker at (λ W E. types_are_equal W E A B) >>= λ b. pure (equation_if b (plain (equal_types A B)) j k)
compare at j k (plain (has_type t A)) (plain (has_type u B)) =
    checker at (λ W E. terms_are_equal W E t A u B) >>= λ b. pure (equation_if b (plain (equal_terms t u A)) j k)
compare at j k x y = halt (fails (Refused WrongForm) at)

-- the equation of a plain type or term with its normal form; what has another form is refused
abbrev pub normalise : ℕ → Assertion → Statement → Run Value
normalise at j (plain (is_type A)) =
    checker at (λ W E. normal_form W E A) >>= λ N. pure (judgement (record { statement = plain (equal_types A N); set = j.set }))
normalise at j (plain (has_type t A)) =
    checker at (λ W E. normal_form W E t) >>= λ u. pure (judgement (record { statement = plain (equal_terms t u A); set = j.set }))
normalise at j x = halt (fails (Refused WrongForm) at)

-- Words.

-- conversion of a term, or of a term equation
abbrev pub conversion : Statement → Declarations → Assertion → Assertion → Result Assertion Refusal
conversion (plain (equal_terms s t A)) W d e = reference.convert_equation W d e
conversion x W d e = reference.convert W d e

-- a word at a value
abbrev pub word_at : ℕ → OneForm → Value → Run Value
word_at at Refl (judgement j) = judged at (λ W. reference.refl W j)
word_at at Sym (judgement j) = judged at (λ W. reference.sym W j)
word_at at Left v = as_statement v >>= λ p. judged at (λ W. reference.left_side W p)
word_at at Right v = as_statement v >>= λ p. judged at (λ W. reference.right_side W p)
word_at at Typeof v = as_statement v >>= λ p. judged at (λ W. reference.type_part W p)
word_at at Domain v = as_statement v >>= λ p. judged at (λ W. reference.first_domain W p)
word_at at Natural (judgement j) = judged at (λ W. reference.natural W j)
word_at at Normal (judgement j) = normalise at j j.statement
word_at at Boundaryof (judgement j) = bounded at (λ W. reference.boundary W j)
word_at at SomeWord v = pure (some v)
word_at at w v = halt stuck

-- a word at two values; what `fill` performs or is refused stands at the second one's place
abbrev pub word_at_two : ℕ → ℕ → TwoForm → Value → Value → Run Value
word_at_two at second Trans (judgement j) (judgement k) = judged at (λ W. reference.trans W j k)
word_at_two at second Convert (judgement j) (judgement k) = judged at (λ W. conversion j.statement W j k)
word_at_two at second Equal (judgement j) (judgement k) = compare at j k j.statement k.statement
word_at_two at second Widen (judgement j) (judgement k) = judged at (λ W. reference.widen W j k)
word_at_two at second Rewrite (judgement j) (judgement k) = judged at (λ W. reference.substitute_equal W j k)
word_at_two at second Fill (boundary b) (judgement k) = fitting second k b >>= λ j. pure (judgement j)
word_at_two at second w v u = halt stuck

-- Handling: the value of a body goes through the case for values, and an operation that it performs through its case. The cases
-- are run outside.
abbrev pub handled : (Value → Run Value) → (Name → Value → ℕ → Run Value) → Outcome Value → Outcome Value
handled value operation (Ok v, s) = value v s
handled value operation (Err (performs op v at), s) = operation op v at s
handled value operation (Err (halts h), s) = (Err (halts h), s)

-- Forms.

-- what a condition chooses
abbrev pub branch : Value → Run Value → Run Value → Run Value
branch (truth true) m n = m
branch (truth false) m n = n
branch v m n = halt stuck

-- the value of a name, which takes no arguments; where the name has none, what its rule gives
abbrev pub value_or_rule : Option Value → Forms → Run Value → Run Value
value_or_rule (Some v) no_forms rule = pure v
value_or_rule (Some v) (and_form e es) rule = halt stuck
value_or_rule None es rule = rule

abbrev mutual
  -- what a form gives
  pub meaning : Form → Environment → Run Value
  meaning (let_in at x e f) G = do
    spend at
    v ← meaning e G
    meaning f ((x.name, v) ∷ G)
  meaning (if_then at e f g) G = do
    spend at
    v ← meaning e G
    branch v (meaning f G) (meaning g G)
  meaning (match_with at e cs) G = do
    spend at
    v ← meaning e G
    first_match at cs v G
  meaning (handle_with at e c hs) G = spend at >> (λ s. handled (λ v. of_value c v G) (λ op v p. of_operation hs op v p G) (meaning e G s))
  meaning (abstraction at x e f) G = do
    spend at
    v ← meaning e G
    A ← as_judgement v
    y ← make_variable at x.name A
    j ← nucleus at (λ W. reference.variable W y)
    w ← meaning f ((x.name, judgement j) ∷ G)
    abstract_value at y w
  meaning (cons_of at e f) G = do
    spend at
    v ← meaning e G
    w ← meaning f G
    pure (cons v w)
  meaning (one at word e) G = do
    spend at
    v ← meaning e G
    word_at at word v
  meaning (two at word e f) G = do
    spend at
    v ← meaning e G
    w ← meaning f G
    word_at_two at (place f) word v w
  meaning (argument at e i) G = do
    spend at
    v ← meaning e G
    j ← as_judgement v
    judged at (λ W. reference.argument W i j)
  meaning (congruence at R e f) G = do
    spend at
    v ← meaning e G
    w ← meaning f G
    js ← as_judgements v
    es ← as_judgements w
    r ← the_rule R.name
    judged at (λ W. reference.congruence W r js es)
  meaning (perform at op e) G = do
    spend at
    v ← meaning e G
    end (performs op.name v at)
  meaning (call at x es) G = do
    spend at
    value_or_rule (named G x.name) es (the_rule x.name >>= λ r. applied at r es G [])
  meaning (substitution at e es) G = do
    spend at
    v ← meaning e G
    substituted at es v G
  meaning (truth_of at b) G = spend at >> pure (truth b)
  meaning (unit_of at) G = spend at >> pure unit
  meaning (pair_of at e f) G = do
    spend at
    v ← meaning e G
    w ← meaning f G
    pure (pair v w)
  meaning (none_of at A) G = spend at >> pure none
  meaning (nil_of at A) G = spend at >> pure nil

  -- a rule at the arguments so far and at further ones, each of which is to fit the next boundary
  pub applied : ℕ → ℕ × Rule → Forms → Environment → List Assertion → Run Value
  applied at r no_forms G js = judged at (λ W. reference.apply W r js)
  applied at r (and_form e es) G js = do
    v ← meaning e G
    j ← as_judgement v
    b ← nucleus (place e) (λ W. reference.next_boundary W r js)
    k ← fitting (place e) j b
    applied at r es G (js ++ k ∷ [])

  -- terms for the first variables, in turn
  pub substituted : ℕ → Forms → Value → Environment → Run Value
  substituted at no_forms v G = pure v
  substituted at (and_form e es) v G = do
    u ← meaning e G
    t ← as_judgement u
    w ← substitute_value at v t
    substituted at es w G

  -- the first case whose pattern matches
  pub first_match : ℕ → Cases → Value → Environment → Run Value
  first_match at no_cases v G = halt (fails NoMatch at)
  first_match at (and_case p e cs) v G = do
    found ← matches at p v G
    if_found found (meaning e) (first_match at cs v G)

  -- the case for a value; without one the value stays
  pub of_value : ValueCase → Value → Environment → Run Value
  of_value no_value_case v G = pure v
  of_value (value_case x e) v G = meaning e ((x.name, v) ∷ G)

  -- the case for an operation; without one it goes on outwards
  pub of_operation : Handlers → Name → Value → ℕ → Environment → Run Value
  of_operation no_handlers op v at G = end (performs op v at)
  of_operation (and_handler o x e hs) op v at G = cond (equal_names o.name op) (meaning e ((x.name, v) ∷ G)) (of_operation hs op v at G)

-- the judgement that a form gives
abbrev pub judgement_of : Form → Environment → Run Assertion
judgement_of e G = meaning e G >>= as_judgement
